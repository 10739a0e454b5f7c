-- the goals of lower::row_lists.
use Rattle.std.proofs.Common.{arith, map, length, sym, subst, ap, ◌∙◌}
use Rattle.std.specs.Vec.{vec_capacity}
use Rattle.amd_words.specs.Words.{num}
use Rattle.amd_workspace.specs.Lower.{HoldsLists}
use Rattle.amd_workspace.proofs.lower.row_lists.Goals.{then-is_scattered, else-is_scattered}
use Rattle.amd_workspace.proofs.lower.row_lists.Goals as goal

pub is_scattered-requires : goal.is_scattered-requires
is_scattered-requires g c = record { form = c.requires.ready.input.form }

pub lay_bands-requires-clause-input : goal.lay_bands-requires-clause-input
lay_bands-requires-clause-input g c = c.requires.ready.input

pub lay_bands-requires-clause-some : goal.lay_bands-requires-clause-some
lay_bands-requires-clause-some g c = c.requires.ready.some

pub lay_bands-requires-clause-degrees : goal.lay_bands-requires-clause-degrees
lay_bands-requires-clause-degrees g c = c.requires.degrees

pub lay_bands-requires-clause-room : goal.lay_bands-requires-clause-room
lay_bands-requires-clause-room g c = let r = c.requires.ready in let a = r.enough in let b = r.fits in
    let is = ap vec_capacity c.replace-iw.ensures.value in omega (arith, a, b, is)

pub lay_bands-requires-clause-wide : goal.lay_bands-requires-clause-wide
lay_bands-requires-clause-wide g c = c.requires.heads.1

pub lay_bands-requires-clause-empty : goal.lay_bands-requires-clause-empty
lay_bands-requires-clause-empty g c =
    (ap (λ v. length v.items) c.replace-iw.ensures.value ∙ c.requires.ready.empty, c.requires.heads.0)

pub lay_bands-requires-clause-fits : goal.lay_bands-requires-clause-fits
lay_bands-requires-clause-fits g c = let r = c.requires.ready in let a = r.enough in let b = r.places in (r.rows, omega (arith, a, b))

pub lay_bands-requires-clause-next : goal.lay_bands-requires-clause-next
lay_bands-requires-clause-next g c = ap length c.deref_mut.ensures.value ∙ c.requires.ready.long

pub lay_bands-requires-clause-starts : goal.lay_bands-requires-clause-starts
lay_bands-requires-clause-starts g c =
    λ i l. ap (λ xs. num xs i) c.deref_mut.ensures.value ∙ c.requires.ready.starts i l

pub lay_rows-requires-clause-input : goal.lay_rows-requires-clause-input
lay_rows-requires-clause-input g c = c.requires.ready.input

pub lay_rows-requires-clause-some : goal.lay_rows-requires-clause-some
lay_rows-requires-clause-some g c = c.requires.ready.some

pub lay_rows-requires-clause-degrees : goal.lay_rows-requires-clause-degrees
lay_rows-requires-clause-degrees g c = c.requires.degrees

pub lay_rows-requires-clause-room : goal.lay_rows-requires-clause-room
lay_rows-requires-clause-room g c = let r = c.requires.ready in let a = r.enough in let b = r.fits in
    let is = ap vec_capacity c.replace-iw.ensures.value in omega (arith, a, b, is)

pub lay_rows-requires-clause-empty : goal.lay_rows-requires-clause-empty
lay_rows-requires-clause-empty g c = ap (λ v. length v.items) c.replace-iw.ensures.value ∙ c.requires.ready.empty

pub lay_rows-requires-clause-fits : goal.lay_rows-requires-clause-fits
lay_rows-requires-clause-fits g c = let r = c.requires.ready in let a = r.enough in let b = r.places in (r.rows, omega (arith, a, b))

pub lay_rows-requires-clause-next : goal.lay_rows-requires-clause-next
lay_rows-requires-clause-next g c = ap length c.deref_mut-else-is_scattered.ensures.value ∙ c.requires.ready.long

pub lay_rows-requires-clause-starts : goal.lay_rows-requires-clause-starts
lay_rows-requires-clause-starts g c =
    λ i l. ap (λ xs. num xs i) c.deref_mut-else-is_scattered.ensures.value ∙ c.requires.ready.starts i l

pub returns-clause-long : goal.returns-clause-long
returns-clause-long g c = elim c.if-is_scattered.branch [
  | then-is_scattered w ↦ ap (λ v. length v.items) w.iw-is ∙ w.lay_bands.ensures.long
  | else-is_scattered w ↦ ap (λ v. length v.items) w.iw-is ∙ w.lay_rows.ensures.long
]

pub returns-clause-capacity : goal.returns-clause-capacity
returns-clause-capacity g c = let is = ap vec_capacity c.replace-iw.ensures.value in elim c.if-is_scattered.branch [
  | then-is_scattered w ↦ record {
    next = (let e = ap (λ v. vec_capacity v.next) w.words-is in omega (arith, e));
    iw = (let e = ap vec_capacity w.iw-is in let kept = w.lay_bands.ensures.capacity in omega (arith, is, e, kept));
  }
  | else-is_scattered w ↦ record {
    next = (let e = ap (λ v. vec_capacity v.next) w.words-is in omega (arith, e));
    iw = (let e = ap vec_capacity w.iw-is in let kept = w.lay_rows.ensures.capacity in omega (arith, is, e, kept));
  }
]

pub returns-clause-heads : goal.returns-clause-heads
returns-clause-heads g c = elim c.if-is_scattered.branch [
  | then-is_scattered w ↦ (let e = ap vec_capacity w.heads-is in let kept = w.lay_bands.ensures.heads in omega (arith, e, kept))
  | else-is_scattered w ↦ (let e = ap vec_capacity w.heads-is in omega (arith, e))
]

pub returns-clause-lists : goal.returns-clause-lists
returns-clause-lists g c =
    let ap' = map g.I.Index.value c.args.a_p.now in let ai = map g.I.Index.value c.args.a_i.now in
    elim c.if-is_scattered.branch [
      | then-is_scattered w ↦ subst (HoldsLists c.args.size ap' ai c.args.degrees.now) (sym (ap (λ v. v.items) w.iw-is))
          w.lay_bands.ensures.lists
      | else-is_scattered w ↦ subst (HoldsLists c.args.size ap' ai c.args.degrees.now) (sym (ap (λ v. v.items) w.iw-is))
          w.lay_rows.ensures.lists
    ]
