-- the goals of bands::push_heads.
use Rattle.std.proofs.Common.{◌++◌, ◌≡◌, ◌+◌, ◌-◌, ◌∷◌, [], inl, inr, ℕ, ℤ, List, arith, refl, map, ap, ◌∙◌, length}
use Rattle.std.proofs.lemmas.Bool.{cases_lt}
use Rattle.std.proofs.lemmas.List.{get_or_append_left, get_or_push, length-append}
use Rattle.amd_model.specs.Below.{list_below, sum_below}
use Rattle.amd_model.specs.Input.Pattern.{graph_of}
use Rattle.amd_edges.specs.Visits.{start_of}
use Rattle.amd_edges.proofs.Forms.{pointer_read}
use Rattle.amd_words.specs.Words.{num}
use Rattle.amd_workspace.specs.Lower.{earlier_of, own_of, own_start}
use Rattle.amd_workspace.specs.Bands.{own_from}
use Rattle.amd_workspace.proofs.LowerColumns.{slice_long}
use Rattle.amd_workspace.proofs.LowerWords.{degree_is, list_room, next_end}
use Rattle.amd_workspace.proofs.bands.push_heads.Goals as goal

pub columns-init : goal.columns-init
unfolding start_of sum_below
columns-init g c = record {
  end = refl;
  long = c.requires.empty;
  capacity = refl;
  each = λ i l. absurd (omega (arith, l));
}

pub cell_at-end-requires : goal.cell_at-end-requires
unfolding graph_of
cell_at-end-requires g c = let a = c.requires.degrees.size in let b = c.columns-test.true in omega (arith, a, b)

pub overflow_add-end : goal.overflow_add-end
overflow_add-end g c =
    let total = c.requires.total in
    let d = list_room c.args.size (map g.I.Index.value c.args.a_p.now) (map g.I.Index.value c.args.a_i.now) c.requires.input.lower
    c.args.degrees.now c.requires.degrees c.columns.j c.columns.end c.columns-test.true c.columns.invariant.end in
    let is = c.cell_at-end.ensures.is in let most = g.met.U.Unsigned.narrow in omega (arith, d, total, is, most)

pub count_at-requires : goal.count_at-requires
count_at-requires g c = let p = pointer_read g.I.Index.value c.args.a_p.now c.args.a_i.now c.args.size c.requires.input.form
    (c.columns.j + 1)
    (let l = c.columns-test.true in omega (arith, l)) (omega (arith, c.well_formed)) in record { within = p.0; fits = p.1 }

-- where the own rows of column j stand
module _ (n : ℕ) (ap' ai : List ℤ) (j end degree own : ℕ) (is : end ≡ own_start n ap' ai j)
    (parts : degree ≡ length (earlier_of n ap' ai j) + length (own_of n ap' ai j)) (count : length (own_of n ap' ai j) ≡ own) where
  head_is : end + degree - own ≡ own_from n ap' ai j 0
  unfolding list_below
  head_is = omega (arith, is, parts, count)

pub overflow_sub-end : goal.overflow_sub-end
overflow_sub-end g c =
    let ap' = map g.I.Index.value c.args.a_p.now in let ai = map g.I.Index.value c.args.a_i.now in
    let long = slice_long c.args.size ap' ai c.requires.input.form c.columns.j c.columns-test.true c.requires.input.sorted
    c.requires.input.lower
    c.own_first.result c.own_first.ensures.rows in
    let is = c.count_at.ensures.count in
    let d = degree_is c.args.size ap' ai c.requires.input.lower c.args.degrees.now c.requires.degrees c.columns.j c.columns-test.true in
    let value = c.cell_at-end.ensures.is in omega (arith, long, is, d, value)

pub columns-preserved : goal.columns-preserved
columns-preserved g c =
    let ap' = map g.I.Index.value c.args.a_p.now in let ai = map g.I.Index.value c.args.a_i.now in let n = c.args.size in
    let i = c.columns.invariant in let j = c.columns.j in
    let v = c.columns.end + num c.args.degrees.now j - (c.count_at.result - c.own_first.result) in
    let long = slice_long n ap' ai c.requires.input.form j c.columns-test.true c.requires.input.sorted c.requires.input.lower
    c.own_first.result c.own_first.ensures.rows in
    let count = c.count_at.ensures.count in
    let head = head_is n ap' ai j c.columns.end (num c.args.degrees.now j) (c.count_at.result - c.own_first.result) i.end
    (degree_is n ap' ai c.requires.input.lower c.args.degrees.now c.requires.degrees j c.columns-test.true) (omega (arith, long, count)) in
    let items =
    c.push_reserved.ensures.items ∙ ap (λ x. c.columns.heads.items ++ x ∷ []) (c.cell_of.ensures ∙ ap (λ x. c.columns.end + x -
    (c.count_at.result - c.own_first.result)) c.cell_at-end.ensures.is) in record {
      end = rw c.cell_at-end.ensures.is (next_end n ap' ai c.requires.input.lower c.args.degrees.now c.requires.degrees j c.columns.end
          c.columns-test.true i.end);
      long = ap length items ∙ length-append c.columns.heads.items (v ∷ []) ∙ (let l = i.long in omega (arith, l));
      capacity = c.push_reserved.ensures.capacity ∙ i.capacity;
      each = λ k l. ap (λ xs. num xs k) items ∙ elim (cases_lt k j) [
        | inl x ↦ get_or_append_left c.columns.heads.items (v ∷ []) 0 k (let s = i.long in omega (arith, s, x)) ∙ i.each k x
        | inr x ↦ (let e : j ≡ k = omega (arith, l, x) in get_or_push c.columns.heads.items v 0 k (i.long ∙ e) ∙ head
            ∙ ap (λ y. own_from n ap' ai y 0) e)
      ];
    }

pub cell_of-requires : goal.cell_of-requires
cell_of-requires g c =
    let total = c.requires.total in let is = c.cell_at-end.ensures.is in
    let d = list_room c.args.size (map g.I.Index.value c.args.a_p.now) (map g.I.Index.value c.args.a_i.now) c.requires.input.lower
    c.args.degrees.now c.requires.degrees c.columns.j c.columns.end c.columns-test.true c.columns.invariant.end in
    omega (arith, d, total, is)
