-- the goals of lower::spread.
use Rattle.std.proofs.Common.{◌≡◌, ◌+◌, ◌-◌, ◌<◌, ◌≤◌, ℕ, ℤ, List, arith, refl, sym, subst, ap, ◌∙◌, length, pos, set}
use Rattle.std.proofs.lemmas.List.{length-set}
use Rattle.amd_words.specs.Words.{num, word}
use Rattle.amd_workspace.specs.Lower.{Matrix, IsReadyForColumn, SpreadsFirst, own_start, earlier_of, own_of, earlier_below}
use Rattle.amd_workspace.proofs.LowerWords.{partly, partly_start, partly_end, early_all, next_list, later_list, spreads_same}
use Rattle.amd_workspace.proofs.LowerWords.{spread_row, spread_inside, spread_step, plain_word}
use Rattle.amd_workspace.proofs.lower.spread.Goals as goal

-- where the own column of the row starts and ends
module _ (x : Matrix) (m j end a b : ℕ) (next : List ℕ) (iw : List ℤ) (r : IsReadyForColumn x m j end a b next iw) (from : ℕ)
    (from_is : from ≡ num next j) where
  j_in : j < x.n
  j_in = let l = r.row in let few = r.few in omega (arith, l, few)

  own_at : from ≡ own_start x.n x.ap x.ai j + length (earlier_of x.n x.ap x.ai j)
  own_at = let e = r.before.ends j j_in in let s = ap length (early_all x.n x.ap x.ai r.lower j j_in) in omega (arith, e, s, from_is)

  own_to : end ≡ from + length (own_of x.n x.ap x.ai j)
  own_to = let a = own_at in let b = next_list x.n x.ap x.ai r.lower j j_in in let e = r.end in omega (arith, a, b, e)

  own_in : end ≤ own_start x.n x.ap x.ai m
  own_in = let a = own_at in let b = own_to in let c = later_list x.n x.ap x.ai r.lower j m r.row r.few in omega (arith, a, b, c)

  begins : {none : ℕ} → none ≡ 0 → SpreadsFirst x.n x.ap x.ai m (partly x.n x.ap x.ai j none) next iw
  begins {none} e = spreads_same x.n x.ap x.ai r.lower (earlier_below x.n x.ap x.ai j) (partly x.n x.ap x.ai j none) next iw
      (λ a l. ap (λ k. partly x.n x.ap x.ai j k a) e ∙ partly_start x.n x.ap x.ai r.lower j j_in a) r.before

  -- at a word of it
  module _ (place i : ℕ) (next' : List ℕ) (iw' : List ℤ) (long : length iw' ≡ length iw) (low : from ≤ place) (t : place < end)
      (h : SpreadsFirst x.n x.ap x.ai m (partly x.n x.ap x.ai j (place - from)) next' iw') (is : word iw' place ≡ pos i) where
    read_at : word iw' (from + (place - from)) ≡ pos i
    read_at = let e : from + (place - from) ≡ place = omega (arith, low) in ap (word iw') e ∙ is

    k_in : place - from < length (own_of x.n x.ap x.ai j)
    k_in = let to = own_to in omega (arith, t, to, low)

    fits : own_start x.n x.ap x.ai m ≤ length iw'
    fits = let room = r.room in omega (arith, room, long)

    row_inside : (i < length next') × (num next' i < length iw')
    row_inside = let row = spread_row x.n x.ap x.ai r.lower j j_in m (place - from) i from next' iw' r.few r.row r.within fits h k_in own_at
        read_at in
        let size = h.long in (
          omega (arith, row, size),
          spread_inside x.n x.ap x.ai r.lower j j_in m (place - from) i from next' iw' r.few
              r.row r.within fits h k_in own_at read_at,
        )

    one_more : (next'' : List ℕ) (iw'' : List ℤ) → next'' ≡ set next' i (num next' i + 1) → iw'' ≡ set iw' (num next' i) (pos j) →
        SpreadsFirst x.n x.ap x.ai m (partly x.n x.ap x.ai j (place + 1 - from)) next'' iw''
    one_more next'' iw'' ends words =
        let P : ℕ → List ℕ → List ℤ → Type 0 = λ k ns ws. SpreadsFirst x.n x.ap x.ai m (partly x.n x.ap x.ai j k) ns ws in
        let more : (place - from) + 1 ≡ place + 1 - from = omega (arith, low) in
        subst (λ k. P k next'' iw'') more
        (subst (λ ns. P ((place - from) + 1) ns iw'') (sym ends)
        (subst (λ ws. P ((place - from) + 1) (set next' i (num next' i + 1)) ws) (sym words)
        (spread_step x.n x.ap x.ai r.lower j j_in m (place - from) i from next' iw' r.few r.row r.within fits h k_in own_at read_at)))

  -- behind the last one
  ends_all : (place : ℕ) (next' : List ℕ) (iw' : List ℤ) → from ≤ place → end ≤ place →
      SpreadsFirst x.n x.ap x.ai m (partly x.n x.ap x.ai j (place - from)) next' iw' →
      SpreadsFirst x.n x.ap x.ai m (earlier_below x.n x.ap x.ai (j + 1)) next' iw'
  ends_all place next' iw' low past h = let to = own_to in spreads_same x.n x.ap x.ai r.lower (partly x.n x.ap x.ai j (place - from))
      (earlier_below x.n x.ap x.ai (j + 1)) next' iw'
      (partly_end x.n x.ap x.ai r.lower j j_in (place - from) (omega (arith, past, to, low))) h

pub words-init : goal.words-init
words-init g c =
    let x = c.requires.ready.0 in let m = c.requires.ready.1 in let r = c.requires.ready.2 in let from = c.cell_at-from.result in
    record {
      from = omega arith;
      to = (let e = own_to x m c.args.j c.args.end _ _ c.args.next.now c.args.iw.now r from c.cell_at-from.ensures.is in omega (arith, e));
      long = refl;
      spreads = λ x m r. begins x m c.args.j c.args.end _ _ c.args.next.now c.args.iw.now r from c.cell_at-from.ensures.is (omega arith);
    }

pub row_at-i-requires-clause-inside : goal.row_at-i-requires-clause-inside
row_at-i-requires-clause-inside g c =
    let x = c.requires.ready.0 in let m = c.requires.ready.1 in let r = c.requires.ready.2 in let long = c.words.invariant.long in
    let t = c.words-test.true in let room = r.room in
    let e = own_in x m c.args.j c.args.end _ _ c.args.next.now c.args.iw.now r c.cell_at-from.result c.cell_at-from.ensures.is in
    omega (arith, e, long, t, room)

pub row_at-i-requires-clause-plain : goal.row_at-i-requires-clause-plain
row_at-i-requires-clause-plain g c = plain_word (word c.words.iw c.words.place)
    ((c.words.invariant.spreads c.requires.ready.0 c.requires.ready.1 c.requires.ready.2).held.words c.words.place).0

pub append-requires-clause-inside : goal.append-requires-clause-inside
append-requires-clause-inside g c =
    let x = c.requires.ready.0 in let m = c.requires.ready.1 in let r = c.requires.ready.2 in let v = c.words.invariant in
    row_inside x m c.args.j c.args.end _ _ c.args.next.now c.args.iw.now r c.cell_at-from.result c.cell_at-from.ensures.is c.words.place
    c.row_at-i.result c.words.next c.words.iw v.long v.from c.words-test.true (v.spreads x m r) c.row_at-i.ensures

pub words-preserved : goal.words-preserved
words-preserved g c =
    let v = c.words.invariant in let t = c.words-test.true in let low = v.from in
    let place = num c.words.next c.row_at-i.result in record {
      from = omega (arith, low);
      to = omega (arith, t);
      long = ap length c.append.ensures.words ∙ length-set c.words.iw place (pos c.args.j) ∙ v.long;
      spreads = λ x m r. one_more x m c.args.j c.args.end _ _ c.args.next.now c.args.iw.now r c.cell_at-from.result
          c.cell_at-from.ensures.is c.words.place c.row_at-i.result c.words.next c.words.iw v.long v.from c.words-test.true
          (v.spreads x m r) c.row_at-i.ensures c.append.new.next c.append.new.iw c.append.ensures.ends c.append.ensures.words;
    }

pub returns-clause-after : goal.returns-clause-after
returns-clause-after g c = λ x m r. let v = c.words.invariant in let t = c.words-test.false in
    ends_all x m c.args.j c.args.end _ _ c.args.next.now c.args.iw.now r c.cell_at-from.result c.cell_at-from.ensures.is c.words.place
    c.words.next c.words.iw v.from (omega (arith, t)) (v.spreads x m r)
