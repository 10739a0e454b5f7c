-- the goals of lower::own_degrees.
use Rattle.std.proofs.Common.{◌≡◌, ◌+◌, ◌<◌, ◌≤◌, ◌++◌, ◌∷◌, [], ℕ, List, suc, length, map}
use Rattle.std.proofs.Common.{arith, ap, sym, refl, ◌∙◌, subst, add-one, le_antisymm}
use Rattle.amd_model.specs.Below.{sum_below, count_below}
use Rattle.amd_model.proofs.Counting.Below.{count_most}
use Rattle.amd_types.specs.Naturals.{naturals, is_entry}
use Rattle.amd_edges.proofs.Forms.{same_diagonals}
use Rattle.amd_input.specs.LowerRows.{AreLow}
use Rattle.amd_input.specs.Mirrors.{CountOthers, is_beside}
use Rattle.amd_input.proofs.Symmetry.{one_if}
use Rattle.amd_input.proofs.LowerRows.{low_more}
use Rattle.amd_input.proofs.MirroredRows.{others_none, others_push}
use Rattle.amd_input.proofs.lower.own_degrees.Goals as goal
use Rattle.amd_input.proofs.lower.own_degrees.Goals.{then-own, else-own}

pub columns-init : goal.columns-init
unfolding count_below sum_below
columns-init g c =
    let ap' = naturals (map g.I.Index.value c.args.a_p.now) in let ai = naturals (map g.I.Index.value c.args.a_i.now) in record {
      others = others_none c.args.size ap' ai c.args.degrees.now.items c.requires.ready.list.empty;
      low = λ i j l e. absurd (omega (arith, l));
      count = refl;
      small = omega arith;
      room = refl;
    }

pub own_rows-requires-clause-input : goal.own_rows-requires-clause-input
own_rows-requires-clause-input g c = c.requires.ready.input

pub own_rows-requires-clause-k_in : goal.own_rows-requires-clause-k_in
own_rows-requires-clause-k_in g c = c.columns-test.true

pub returns-in_err-own-clause-room : goal.returns-in_err-own-clause-room
returns-in_err-own-clause-room g c = c.columns.invariant.room

-- a list of k numbers that may grow up to n has room for one more
room_left : {k n len now full : ℕ} (numbers : List ℕ) → length numbers ≡ k → len ≡ length numbers → k < n → n ≤ full →
    now ≡ full → len < now
room_left numbers size long inside room kept = omega (arith, size, long, inside, room, kept)

pub push_reserved-requires : goal.push_reserved-requires
push_reserved-requires g c =
    let i = c.columns.invariant in
    room_left c.columns.degrees.items i.others.size c.columns.degrees.ok.0 c.columns-test.true c.requires.ready.list.room i.room

pub cell_of-requires : goal.cell_of-requires
cell_of-requires g c =
    let n = c.args.size in let ap' = naturals (map g.I.Index.value c.args.a_p.now) in
    let ai = naturals (map g.I.Index.value c.args.a_i.now) in let others = c.in_ok-own.ensures.own.others in
    let most = count_most n (is_beside n ap' ai c.columns.k) in let fits = c.requires.ready.fits in omega (arith, others, most, fits)

pub columns-preserved : goal.columns-preserved
unfolding count_below sum_below
columns-preserved g c =
    let i = c.columns.invariant in let own = c.in_ok-own.ensures.own in let n = c.args.size in let k = c.columns.k in
    let ap' = naturals (map g.I.Index.value c.args.a_p.now) in let ai = naturals (map g.I.Index.value c.args.a_i.now) in
    let last : count_below (suc k) (λ j. is_entry n ap' ai j j) ≡ one_if (is_entry n ap' ai k k) + count_below k
    (λ j. is_entry n ap' ai j j)
    = refl in
    let here : one_if c.in_ok-own.own.diagonal ≡ one_if (is_entry n ap' ai k k) = ap one_if own.diagonal in
    let plus : c.if-own.diagonals ≡ c.columns.diagonals + one_if c.in_ok-own.own.diagonal = elim c.if-own.branch [
      | then-own w ↦ (let d = w.diagonals-is in let b = ap one_if w.if-own.true in omega (arith, d, b))
      | else-own w ↦ (let d = w.diagonals-is in let b = ap one_if w.if-own.false in omega (arith, d, b))
    ] in
    record {
      others = subst (λ l. CountOthers n ap' ai (k + 1) l)
          (ap (λ x. c.columns.degrees.items ++ x ∷ []) (sym c.cell_of.ensures) ∙ sym c.push_reserved.ensures.items)
          (others_push n ap' ai c.columns.degrees.items k c.in_ok-own.own.others i.others own.others);
      low = low_more n ap' ai k i.low own.low;
      count = (let x = i.count in rw add-one (omega (arith, last, here, plus, x)));
      small = elim c.if-own.branch [
        | then-own w ↦ (let y = w.diagonals-is in let x = i.small in omega (arith, x, y))
        | else-own w ↦ (let y = w.diagonals-is in let x = i.small in omega (arith, x, y))
      ];
      room = c.push_reserved.ensures.capacity ∙ i.room;
    }

pub returns-clause-others : goal.returns-clause-others
returns-clause-others g c =
    let ap' = naturals (map g.I.Index.value c.args.a_p.now) in let ai = naturals (map g.I.Index.value c.args.a_i.now) in
    subst (λ z. CountOthers c.args.size ap' ai z c.columns.degrees.items) (le_antisymm c.columns.auto.k-end c.columns-test.false)
    c.columns.invariant.others

pub returns-clause-low : goal.returns-clause-low
returns-clause-low g c =
    let ap' = naturals (map g.I.Index.value c.args.a_p.now) in let ai = naturals (map g.I.Index.value c.args.a_i.now) in
    subst (λ z. AreLow c.args.size ap' ai z) (le_antisymm c.columns.auto.k-end c.columns-test.false) c.columns.invariant.low

pub returns-clause-room : goal.returns-clause-room
returns-clause-room g c = c.columns.invariant.room

pub returns-clause-diagonals : goal.returns-clause-diagonals
returns-clause-diagonals g c =
    let n = c.args.size in let az = map g.I.Index.value c.args.a_p.now in let bz = map g.I.Index.value c.args.a_i.now in
    let end : c.columns.k ≡ n = le_antisymm c.columns.auto.k-end c.columns-test.false in
    subst (λ z. c.columns.diagonals ≡ count_below z (λ j. is_entry n (naturals az) (naturals bz) j j)) end c.columns.invariant.count
    ∙ sym (same_diagonals n az bz c.requires.ready.input.form)
