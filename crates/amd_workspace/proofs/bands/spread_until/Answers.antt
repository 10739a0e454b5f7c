-- the goals of bands::spread_until.
use Rattle.std.proofs.Common.{◌≡◌, ◌+◌, ◌<◌, ◌≤◌, ℕ, ℤ, List, false, arith, refl, sym, subst, ap, ◌∙◌, length, pos, set}
use Rattle.std.proofs.lemmas.List.{length-set}
use Rattle.amd_model.specs.Below.{list_below}
use Rattle.amd_words.specs.Words.{num, word}
use Rattle.amd_workspace.specs.Copying.{is_other}
use Rattle.amd_workspace.specs.Lower.{Matrix, SpreadsColumns, earlier_of, own_of, own_start}
use Rattle.amd_workspace.specs.Bands.{IsReadyForPart, band_part, banded, own_from}
use Rattle.amd_workspace.proofs.BandWords.{Part, next_row, none_before, none_left, part_all, part_count, part_end}
use Rattle.amd_workspace.proofs.BandWords.{part_inside, part_step, row_after}
use Rattle.amd_workspace.proofs.LowerLists.{IsNth}
use Rattle.amd_workspace.proofs.LowerWords.{later_list, next_list, plain_word}
use Rattle.amd_workspace.proofs.bands.spread_until.Goals as goal

pub words-init : goal.words-init
words-init g c = record {
  long = refl;
  part = λ m lo r. record { bound = lo; low = omega arith; high = r.band; at = r.from; spreads = r.before };
}

-- a place in the part of a column
module _ (m : Matrix) (lo hi j start end a b : ℕ) (next : List ℕ) (iw : List ℤ)
    (r : IsReadyForPart m (band_part lo hi j start end) a b next iw) (place : ℕ) (next' : List ℕ) (iw' : List ℤ)
    (long : length iw' ≡ length iw) (v : Part m lo hi j place next' iw') where
  abbrev k : ℕ
  k = length (list_below v.bound (is_other m.n m.ap m.ai j))

  j_in : j < m.n
  j_in = let x = r.row in let y = r.rows_in in omega (arith, x, y)

  to : end ≡ own_start m.n m.ap m.ai j + length (earlier_of m.n m.ap m.ai j) + length (own_of m.n m.ap m.ai j)
  to = r.end ∙ next_list m.n m.ap m.ai r.lower j j_in

  room : own_start m.n m.ap m.ai m.n ≤ length iw'
  room = let x = r.room in omega (arith, x, long)

  inside : place < end → place < length iw'
  inside l = let x = to in let y = later_list m.n m.ap m.ai r.lower j m.n j_in (let z = j_in in omega (arith, z)) in let w = room in
      omega (arith, l, x, y, w)

  module _ (l : place < end) where
    k_in : k < length (own_of m.n m.ap m.ai j)
    k_in = let x = to in let y = v.at in omega (arith, x, y, l)

    module _ (i : ℕ) (is : word iw' place ≡ pos i) where
      nth : IsNth m.n (is_other m.n m.ap m.ai j) k i
      nth = next_row m.n m.ap m.ai r.lower lo hi j r.band r.rows_in r.row k i (banded m.n m.ap m.ai lo hi j v.bound) next' iw' v.spreads
          k_in (ap (word iw') (sym v.at) ∙ is)

      module _ (i_in : i < hi) where
        fits : num next' i < length iw'
        fits = part_inside m.n m.ap m.ai r.lower lo hi j r.band r.rows_in r.row v.bound i k next' iw' room v.low v.high v.spreads refl
            i_in nth

        more : Part m lo hi j (place + 1) (set next' i (num next' i + 1)) (set iw' (num next' i) (pos j))
        more = record {
          bound = i + 1;
          low = (let x = row_after m.n m.ap m.ai r.lower lo hi j r.band r.rows_in r.row v.bound i k next' iw' room v.low v.high v.spreads
              refl
              i_in nth in let y = v.low in omega (arith, x, y));
          high = omega (arith, i_in);
          at = (let x = v.at in let y = part_count m.n m.ap m.ai r.lower lo hi j r.band r.rows_in r.row v.bound i k next' iw' room v.low
              v.high v.spreads refl i_in nth in omega (arith, x, y));
          spreads = part_step m.n m.ap m.ai r.lower lo hi j r.band r.rows_in r.row v.bound i k next' iw' room v.low v.high v.spreads refl
              i_in nth;
        }

    -- nothing of the band is left
    module _ (i : ℕ) (is : word iw' place ≡ pos i) (far : hi ≤ i) where
      left : (a : ℕ) → v.bound ≤ a → a < hi → is_other m.n m.ap m.ai j a ≡ false
      left = none_before m.n m.ap m.ai r.lower lo hi j r.band r.rows_in r.row v.bound k i refl (nth i is) far

  at_end : end ≤ place → (a : ℕ) → v.bound ≤ a → a < hi → is_other m.n m.ap m.ai j a ≡ false
  at_end l = none_left m.n m.ap m.ai r.lower lo hi j r.band r.rows_in r.row v.bound k refl
      (let x = to in let y = v.at in omega (arith, x, y, l))

  ended : ((a : ℕ) → v.bound ≤ a → a < hi → is_other m.n m.ap m.ai j a ≡ false) →
      SpreadsColumns m.n m.ap m.ai (banded m.n m.ap m.ai lo hi j hi) next' iw' × (place ≡ own_from m.n m.ap m.ai j hi)
  ended none = (
    part_end m.n m.ap m.ai r.lower lo hi j r.band r.rows_in r.row v.bound k v.low v.high refl none next' iw' v.spreads,
    v.at ∙ ap (λ x. own_start m.n m.ap m.ai j + length (earlier_of m.n m.ap m.ai j) + x)
        (sym (part_all m.n m.ap m.ai r.lower lo hi j r.band r.rows_in r.row v.bound k v.low v.high refl none)),
  )

pub row_at-i-requires-clause-inside : goal.row_at-i-requires-clause-inside
row_at-i-requires-clause-inside g c =
    let m = c.requires.ready.0 in let lo = c.requires.ready.1 in let r = c.requires.ready.2 in let v = c.words.invariant in
    inside m lo c.args.hi c.args.j c.args.place c.args.end _ _ c.args.next.now c.args.iw.now r c.words.place c.words.next c.words.iw v.long
    (v.part m lo r) c.words-test.true

pub row_at-i-requires-clause-plain : goal.row_at-i-requires-clause-plain
row_at-i-requires-clause-plain g c = plain_word (word c.words.iw c.words.place)
    ((c.words.invariant.part c.requires.ready.0 c.requires.ready.1 c.requires.ready.2).spreads.held.words c.words.place).0

-- the next row, and the part after it
pub append-requires-clause-inside : goal.append-requires-clause-inside
append-requires-clause-inside g c =
    let m = c.requires.ready.0 in let lo = c.requires.ready.1 in let r = c.requires.ready.2 in let w = c.words.invariant in
    let v = w.part m lo r in let hi = c.args.hi in let j = c.args.j in
    let i_in : c.row_at-i.result < hi = (let f = c.if-hi-i.false in omega (arith, f)) in
    let n = nth m lo hi j c.args.place c.args.end _ _ c.args.next.now c.args.iw.now r c.words.place c.words.next c.words.iw w.long v
    c.words-test.true c.row_at-i.result c.row_at-i.ensures in
    let size = v.spreads.long in let below = r.rows_in in (
      omega (arith, i_in, below, size),
      fits m lo hi j c.args.place c.args.end _ _ c.args.next.now c.args.iw.now r c.words.place c.words.next c.words.iw w.long v
          c.words-test.true c.row_at-i.result c.row_at-i.ensures i_in,
    )

pub words-preserved : goal.words-preserved
words-preserved g c =
    let w = c.words.invariant in let i = c.row_at-i.result in let place = num c.words.next i in record {
      long = ap length c.append.ensures.words ∙ length-set c.words.iw place (pos c.args.j) ∙ w.long;
      part = λ m lo r.
          let P : List ℕ → List ℤ → Type 0 = λ next iw. Part m lo c.args.hi c.args.j (c.words.place + 1) next iw in
          let i_in : c.row_at-i.result < c.args.hi = (let f = c.if-hi-i.false in omega (arith, f)) in
          subst (λ xs. P xs c.append.new.iw) (sym c.append.ensures.ends)
          (subst (λ ys. P (set c.words.next i (place + 1)) ys) (sym c.append.ensures.words)
          (more m lo c.args.hi c.args.j c.args.place c.args.end _ _ c.args.next.now c.args.iw.now r c.words.place c.words.next c.words.iw
          w.long (w.part m lo r) c.words-test.true i c.row_at-i.ensures i_in));
    }

pub returns-then-hi-i-clause-after : goal.returns-then-hi-i-clause-after
returns-then-hi-i-clause-after g c = λ m lo r. let w = c.words.invariant in let v = w.part m lo r in
    ended m lo c.args.hi c.args.j c.args.place c.args.end _ _ c.args.next.now c.args.iw.now r c.words.place c.words.next c.words.iw w.long v
    (left m lo c.args.hi c.args.j c.args.place c.args.end _ _ c.args.next.now c.args.iw.now r c.words.place c.words.next c.words.iw w.long v
    c.words-test.true c.row_at-i.result c.row_at-i.ensures c.if-hi-i.true)

pub returns-clause-after : goal.returns-clause-after
returns-clause-after g c = λ m lo r. let w = c.words.invariant in let v = w.part m lo r in
    ended m lo c.args.hi c.args.j c.args.place c.args.end _ _ c.args.next.now c.args.iw.now r c.words.place c.words.next c.words.iw w.long v
    (at_end m lo c.args.hi c.args.j c.args.place c.args.end _ _ c.args.next.now c.args.iw.now r c.words.place c.words.next c.words.iw
    w.long v
    (let t = c.words-test.false in omega (arith, t)))
