-- The counts of the arcs of each row, one arc more.
use Rattle.std.proofs.Common.{◌≡◌, ◌+◌, inl, inr, ℕ, Bool, false, List, length, get_or, set, get_or-set_same, get_or-set_other, arith, ap}
use Rattle.std.proofs.Common.{sym, ◌∙◌, ◌<◌, ◌≤◌, subst}
use Rattle.std.proofs.Common.{replicate}
use Rattle.std.proofs.lemmas.Bool.{cases_eq, cases_lt}
use Rattle.std.proofs.lemmas.List.{length-set, length-replicate, get_or-replicate, get_or_past}
use Rattle.std.proofs.lemmas.Grind.{get_or_default_zero}
use Rattle.amd_model.specs.Below.{count_below}
use Rattle.amd_model.specs.Graph.{Graph}
use Rattle.amd_model.proofs.Counting.Below.{count_none, count_most}
use Rattle.amd_edges.specs.Visits.{IsNew, IsNewEdge, with_arc, with_edge, AreCounts}
use Rattle.amd_edges.proofs.Arcs.{arc_same, arc_counts, count_room, ends_apart, written_again}

-- a list of n zeros
pub zeros_of : (n : ℕ) (xs : List ℕ) → xs ≡ replicate n 0 → (length xs ≡ n) × ((a : ℕ) → get_or xs a 0 ≡ 0)
zeros_of n xs h = (
  ap length h ∙ length-replicate {A = ℕ} n 0,
  λ a. ap (λ l. get_or l a 0) h ∙ elim (cases_lt a n) [
    | inl l ↦ get_or-replicate n a 0 0 l
    | inr l ↦ get_or_past (replicate n 0) a 0 (let e = length-replicate {A = ℕ} n 0 in omega (arith, e, l))
  ],
)

pub counts_more : (g : Graph) (seen : ℕ → ℕ → Bool) (i j : ℕ) → IsNew g seen i j → (numbers : List ℕ) (v : ℕ) → v ≡ get_or numbers i v →
    AreCounts g seen numbers →
    AreCounts g (with_arc seen i j) (set numbers i (v + 1))
counts_more g seen i j new numbers v is h = record {
  size = length-set numbers i _ ∙ h.size;
  each = λ a x. elim (cases_eq a i) [
    | inl e ↦ rw e (get_or-set_same numbers i _ 0 (let s = h.size in let r = new.i_row in omega arith) ∙
        (let c = h.each i new.i_row in let d = arc_counts g seen i j new in let r = new.i_row in let s = h.size in
        let x = get_or_default_zero numbers i v (omega arith) in omega (arith, c, d, x, is)))
    | inr e ↦ get_or-set_other numbers i a _ 0 e ∙ h.each a x ∙ ap (count_below g.size) (sym (arc_same seen i j a e))
  ];
}

pub counts_none : (g : Graph) (numbers : List ℕ) → length numbers ≡ g.size → ((a : ℕ) → get_or numbers a 0 ≡ 0) →
    AreCounts g (λ a b. false) numbers
counts_none g numbers size zeros = record { size = size; each = λ i h. zeros i ∙ sym (count_none g.size) }

-- a row that has a new arc has fewer arcs than there are rows
pub arc_room : (g : Graph) (seen : ℕ → ℕ → Bool) (i j : ℕ) → IsNew g seen i j → (numbers : List ℕ) (v : ℕ) → v ≡ get_or numbers i v →
    AreCounts g seen numbers → v < g.size
arc_room g seen i j new numbers v is h =
    let room = count_room g seen i j new in let count = h.each i new.i_row in
    let size = h.size in let row = new.i_row in
    let here = get_or_default_zero numbers i v (omega (arith, size, row)) in
    omega (arith, room, count, here, is)

-- the count of a row in its run
pub mark_most : (g : Graph) (seen : ℕ → ℕ → Bool) (j mark : ℕ) (numbers : List ℕ) → AreCounts g seen (set numbers j mark) → j < g.size →
    mark ≤ g.size
mark_most g seen j mark numbers h row =
    let size = h.size in let long = length-set numbers j mark in
    let here = get_or-set_same numbers j mark 0 (omega (arith, size, long, row)) in
    let count = h.each j row in let most = count_most g.size (seen j) in
    omega (arith, here, count, most)

-- what a cell of a list says
pub read_again : {x y : ℕ} (i : ℕ) (xs : List ℕ) → y ≡ x → x ≡ get_or xs i x → y ≡ get_or xs i y
read_again i xs e h = subst (λ z. z ≡ get_or xs i z) (sym e) h

-- the counts in a run of row j, whose own count is the mark: both arcs of one edge more
module _ (g : Graph) (seen : ℕ → ℕ → Bool) (i j mark : ℕ) (new : IsNewEdge g seen i j) (numbers : List ℕ)
    (h : AreCounts g seen (set numbers j mark)) where
  pub long : length numbers ≡ g.size
  long = sym (length-set numbers j mark) ∙ h.size

  pub other_count : get_or (set numbers j mark) i 0 ≡ get_or numbers i 0
  other_count = get_or-set_other numbers j i mark 0 (ends_apart g seen i j new)

  module _ (v : ℕ) (is : v ≡ get_or numbers i v) where
    there : AreCounts g (with_arc seen i j) (set (set numbers j mark) i (v + 1))
    there = counts_more g seen i j new.there (set numbers j mark) v
        (is ∙ sym (get_or-set_other numbers j i mark v (ends_apart g seen i j new))) h

    pub other_room : v < g.size
    other_room = arc_room g seen i j new.there (set numbers j mark) v
        (is ∙ sym (get_or-set_other numbers j i mark v (ends_apart g seen i j new))) h

    own_count : mark ≡ get_or (set (set numbers j mark) i (v + 1)) j mark
    own_count = sym (get_or-set_other (set numbers j mark) i j (v + 1) mark (λ e. ends_apart g seen i j new (sym e))
        ∙ get_or-set_same numbers j mark mark (let a = long in let b = new.there.j_row in omega (arith, a, b)))

    pub run_more : AreCounts g (with_edge seen i j) (set (set numbers i (v + 1)) j (mark + 1))
    run_more = subst (AreCounts g (with_edge seen i j)) (written_again numbers i j mark (v + 1) (mark + 1) (ends_apart g seen i j new))
        (counts_more g (with_arc seen i j) j i new.back (set (set numbers j mark) i (v + 1)) mark own_count there)

    pub mark_room : mark < g.size
    mark_room = let a = there.each j new.there.j_row in let b = count_room g (with_arc seen i j) j i new.back in
        let c : get_or (set (set numbers j mark) i (v + 1)) j 0 ≡ mark = get_or-set_other (set numbers j mark) i j (v + 1) 0
        (λ e. ends_apart g seen i j new (sym e))
        ∙ get_or-set_same numbers j mark 0 (let l = long in let m = new.there.j_row in omega (arith, l, m)) in
        omega (arith, a, b, c)
