-- the goals of mirrors::mirrored_degrees.
use Rattle.std.proofs.Common.{◌≡◌, ◌+◌, ◌≤◌, inl, inr, suc, length, map, get_or, arith, ap, sym, refl, ◌∙◌, subst, add-one, le_antisymm}
use Rattle.amd_model.specs.Below.{sum_below, count_below}
use Rattle.amd_types.specs.Naturals.{naturals, is_entry}
use Rattle.amd_edges.specs.Visits.{AreCounts}
use Rattle.amd_edges.proofs.Forms.{sorted_form, same_graph, same_diagonals}
use Rattle.amd_input.specs.Mirrors.{HaveMirrors, CountOthers}
use Rattle.amd_input.proofs.Symmetry.{one_if}
use Rattle.amd_input.proofs.MirroredRows.{mirrors_none, others_none, mirrors_all, others_are, unread_lacks}
use Rattle.amd_input.proofs.mirrors.mirrored_degrees.Goals as goal
use Rattle.amd_input.proofs.mirrors.mirrored_degrees.Goals.{then-diagonal, else-diagonal}

pub columns-init : goal.columns-init
unfolding count_below sum_below
columns-init g c =
    let ap' = naturals (map g.I.Index.value c.args.a_p.now) in let ai = naturals (map g.I.Index.value c.args.a_i.now) in record {
      count = refl;
      small = omega arith;
      next = refl;
      degrees = refl;
      read = mirrors_none c.args.size ap' ai c.args.next.now.items c.requires.next.empty;
      others = others_none c.args.size ap' ai c.args.degrees.now.items c.requires.degrees.empty;
    }

pub returns-then-not-ends_upper-clause-lacks : goal.returns-then-not-ends_upper-clause-lacks
returns-then-not-ends_upper-clause-lacks g c = inr (c.if-not-ends_upper.ensures.low refl)

pub column-requires-clause-input : goal.column-requires-clause-input
column-requires-clause-input g c = c.requires.input

pub column-requires-clause-fits : goal.column-requires-clause-fits
column-requires-clause-fits g c = c.requires.fits

pub column-requires-clause-k_in : goal.column-requires-clause-k_in
column-requires-clause-k_in g c = c.columns-test.true

pub column-requires-clause-room : goal.column-requires-clause-room
column-requires-clause-room g c =
    let i = c.columns.invariant in
    (subst (λ z. c.args.size ≤ z) (sym i.next) c.requires.next.room, subst (λ z. c.args.size ≤ z) (sym i.degrees) c.requires.degrees.room)

pub column-requires-clause-read : goal.column-requires-clause-read
column-requires-clause-read g c = c.columns.invariant.read

pub column-requires-clause-others : goal.column-requires-clause-others
column-requires-clause-others g c = c.columns.invariant.others

pub returns-in_default-clause-lacks : goal.returns-in_default-clause-lacks
returns-in_default-clause-lacks g c = inl c.in_default.ensures.lacks

pub returns-in_default-clause-room : goal.returns-in_default-clause-room
returns-in_default-clause-room g c =
    let i = c.columns.invariant in let room = c.in_default.ensures.room in (room.0 ∙ i.next, room.1 ∙ i.degrees)

pub columns-preserved : goal.columns-preserved
unfolding count_below sum_below
columns-preserved g c =
    let i = c.columns.invariant in let e = c.in-Some.ensures in let n = c.args.size in let k = c.columns.k in
    let ap' = naturals (map g.I.Index.value c.args.a_p.now) in let ai = naturals (map g.I.Index.value c.args.a_i.now) in
    let last : count_below (suc k) (λ j. is_entry n ap' ai j j) ≡ one_if (is_entry n ap' ai k k) + count_below k
    (λ j. is_entry n ap' ai j j)
    = refl in
    let here : one_if c.in-Some.diagonal ≡ one_if (is_entry n ap' ai k k) = ap one_if e.diagonal in
    let plus : c.if-diagonal.diagonals ≡ c.columns.diagonals + one_if c.in-Some.diagonal = elim c.if-diagonal.branch [
      | then-diagonal w ↦ (let d = w.diagonals-is in let b = ap one_if w.if-diagonal.true in omega (arith, d, b))
      | else-diagonal w ↦ (let d = w.diagonals-is in let b = ap one_if w.if-diagonal.false in omega (arith, d, b))
    ] in
    record {
      count = (let x = i.count in rw add-one (omega (arith, last, here, plus, x)));
      small = elim c.if-diagonal.branch [
        | then-diagonal w ↦ (let y = w.diagonals-is in let x = i.small in omega (arith, x, y))
        | else-diagonal w ↦ (let y = w.diagonals-is in let x = i.small in omega (arith, x, y))
      ];
      next = e.room.0 ∙ i.next;
      degrees = e.room.1 ∙ i.degrees;
      read = e.read;
      others = e.others;
    }

pub all_read-requires-clause-form : goal.all_read-requires-clause-form
all_read-requires-clause-form g c = c.requires.input.form

pub all_read-requires-clause-long : goal.all_read-requires-clause-long
all_read-requires-clause-long g c =
    ap length c.deref.ensures.value ∙ c.columns.invariant.read.size ∙ le_antisymm c.columns.auto.k-end c.columns-test.false

pub returns-then-all_read-clause-room : goal.returns-then-all_read-clause-room
returns-then-all_read-clause-room g c = let i = c.columns.invariant in (i.next, i.degrees)

pub returns-clause-room : goal.returns-clause-room
returns-clause-room g c = let i = c.columns.invariant in (i.next, i.degrees)

pub returns-then-all_read-clause-counted : goal.returns-then-all_read-clause-counted
returns-then-all_read-clause-counted g c =
    let n = c.args.size in let i = c.columns.invariant in let input = c.requires.input in
    let az = map g.I.Index.value c.args.a_p.now in let bz = map g.I.Index.value c.args.a_i.now in
    let ap' = naturals az in let ai = naturals bz in let form = sorted_form n az bz input.form input.sorted in
    let end : c.columns.k ≡ n = (let x = c.columns-test.false in let y = c.columns.auto.k-end in omega (arith, x, y)) in
    let t = c.columns.next.items in let numbers = c.columns.degrees.items in
    let mirror = mirrors_all n ap' ai form t (subst (λ z. HaveMirrors n ap' ai t z 0) end i.read)
    (λ j l. ap (λ xs. get_or xs j 0) (sym c.deref.ensures.value) ∙ c.all_read.ensures.all c.if-all_read.true j l) in
    record {
      degrees = subst (λ h. AreCounts h h.edge numbers) (sym (same_graph n az bz input.form))
          (others_are n ap' ai mirror numbers (subst (λ z. CountOthers n ap' ai z numbers) end i.others));
      diagonals = subst (λ z. c.columns.diagonals ≡ count_below z (λ j. is_entry n ap' ai j j)) end i.count
          ∙ sym (same_diagonals n az bz input.form);
    }

pub returns-then-all_read-clause-mirrored : goal.returns-then-all_read-clause-mirrored
returns-then-all_read-clause-mirrored g c =
    let n = c.args.size in let i = c.columns.invariant in let input = c.requires.input in
    let az = map g.I.Index.value c.args.a_p.now in let bz = map g.I.Index.value c.args.a_i.now in
    let ap' = naturals az in let ai = naturals bz in let form = sorted_form n az bz input.form input.sorted in
    let end : c.columns.k ≡ n = (let x = c.columns-test.false in let y = c.columns.auto.k-end in omega (arith, x, y)) in
    let t = c.columns.next.items in (
      mirrors_all n ap' ai form t (subst (λ z. HaveMirrors n ap' ai t z 0) end i.read)
          (λ j l. ap (λ xs. get_or xs j 0) (sym c.deref.ensures.value) ∙ c.all_read.ensures.all c.if-all_read.true j l),
      c.ends_upper.ensures.high c.if-not-ends_upper.false,
    )

pub returns-clause-lacks : goal.returns-clause-lacks
returns-clause-lacks g c =
    let n = c.args.size in let i = c.columns.invariant in let input = c.requires.input in
    let az = map g.I.Index.value c.args.a_p.now in let bz = map g.I.Index.value c.args.a_i.now in
    let ap' = naturals az in let ai = naturals bz in let form = sorted_form n az bz input.form input.sorted in
    let end : c.columns.k ≡ n = (let x = c.columns-test.false in let y = c.columns.auto.k-end in omega (arith, x, y)) in
    let t = c.columns.next.items in let unread = c.all_read.ensures.some c.if-all_read.false in let j = unread.0 in
    inl (unread_lacks n ap' ai form t (subst (λ z. HaveMirrors n ap' ai t z 0) end i.read) j unread.1
    (λ same. unread.2 (ap (λ xs. get_or xs j 0) c.deref.ensures.value ∙ same)))
