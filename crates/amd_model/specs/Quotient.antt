-- An elimination kept in lists, with each choice made: the pivot, the representatives, and the order of each list. The
-- rules are those by which the Rust crate `amd` 0.2.2 breaks ties, as tests show; the relation of Step permits each of
-- them. Lists of Amestoy, Davis and Duff 1996: a class has a variable list (its direct neighbours) and an element list
-- (the elements that hold it), an element its members.
use Rattle.std.specs.Prelude.{ℕ, zero, suc, Bool, true, false, Option, None, Some, ◌≡◌, ◌==◌, ◌&&◌, ◌||◌, not, ◌+◌, ◌-◌}
use Rattle.std.specs.Prelude.{min, cond, nat_le}
use Rattle.std.specs.Prelude.{nat_lt, List, [], ◌∷◌, ◌++◌, filter, fold, flat_map, map, sum_by}
use Rattle.amd_model.specs.Below.{any_below, count_below, list_below}
use Rattle.amd_model.specs.Graph.{Graph, degree}
use Rattle.amd_model.specs.State.{State, Home, Last, Live, Gone, in_class, is_class, holds, neighbours}

-- ---- lists of numbers

-- the list names a number
unfoldable pub has : List ℕ → ℕ → Bool
has [] x = false
has (y ∷ ys) x = y == x || has ys x

-- each number of the list passes
unfoldable pub each : (ℕ → Bool) → List ℕ → Bool
each p [] = true
each p (x ∷ xs) = p x && each p xs

-- the list names nothing
unfoldable pub is_empty : List ℕ → Bool
is_empty [] = true
is_empty (x ∷ xs) = false

-- the first one moved behind the others
unfoldable pub turned : List ℕ → List ℕ
turned [] = []
turned (x ∷ xs) = xs ++ x ∷ []

-- the last number of the list that passes, or the given one
unfoldable pub last_that : (ℕ → Bool) → ℕ → List ℕ → ℕ
last_that p d xs = fold (λ r x. cond (p x) x r) d xs

-- the list, and x behind it if x is new and not skipped: folded over a list, this keeps first occurrences
unfoldable pub add_new : (ℕ → Bool) → List ℕ → ℕ → List ℕ
add_new skip out x = cond (skip x || has out x) out (out ++ x ∷ [])

-- the list names no number twice
abbrev pub Once : List ℕ → Type 0
Once [] = Unit {0}
Once (x ∷ xs) = (has xs x ≡ false) × Once xs

-- ---- the starting lists of a pattern: pair i j says that row i stands in column j

-- an entry i of column j is first read before column k: some column c from i on, before k, holds j
unfoldable pub was_read : (ℕ → ℕ → Bool) → ℕ → ℕ → ℕ → Bool
was_read pair k j i = any_below k (λ c. nat_le i c && pair j c)

-- the edges of the lower entries (i, j), i below k, of column j that no column before k has read, rising
unfoldable pub met_below : (ℕ → ℕ → Bool) → ℕ → ℕ → List (ℕ × ℕ)
met_below pair k j = map (λ i. (i, j)) (list_below k (λ i. nat_lt j i && pair i j && not (was_read pair k j i)))

-- column k is gone through down to its diagonal, rising: its entry (j, k) is an edge, and after it the lower entries of
-- column j are read as far as row k; the entry (k, j), which is the same edge, is passed over
unfoldable pub met_at : (ℕ → ℕ → Bool) → ℕ → List (ℕ × ℕ)
met_at pair k = flat_map (λ j. (j, k) ∷ met_below pair k j) (list_below k (λ j. pair j k))

-- the edges in the order in which the columns are read, and then those of the lower entries that were never read,
-- columns rising
unfoldable pub met_edges : ℕ → (ℕ → ℕ → Bool) → List (ℕ × ℕ)
met_edges n pair = flat_map (met_at pair) (list_below n (λ k. true)) ++ flat_map (met_below pair n)
    (list_below n (λ j. true))

-- the other end of an edge of the row i, if it is one
unfoldable pub other_end : ℕ → ℕ × ℕ → List ℕ
other_end i e = cond (e.0 == i) (e.1 ∷ []) (cond (e.1 == i) (e.0 ∷ []) [])

-- the starting list of a row: the other ends of its edges, in the order in which they are met
unfoldable pub starting_list : ℕ → (ℕ → ℕ → Bool) → ℕ → List ℕ
starting_list n pair i = flat_map (other_end i) (met_edges n pair)

-- ---- the machine

-- the lists of each class and of each standing element, empty for what is none, and where each row is
pub record QuotientGraph : Type 0 where
  -- the classes in the order of placing: a class is placed again, behind the others, when it gets a new bound
  pub placed : List ℕ
  -- the direct neighbours of a class
  pub variables : ℕ → List ℕ
  -- the standing elements that hold a class
  pub elements : ℕ → List ℕ
  -- the classes that a standing element holds
  pub members : ℕ → List ℕ
  -- the number of rows of a class, and its bound
  pub size : ℕ → ℕ
  pub bound : ℕ → ℕ
  -- where each row is, and the parent of each element
  pub home : ℕ → Home
  pub parent : ℕ → Option ℕ

-- the start: the rows that are live are placed rising, each with the lists given, without the dense rows, and its
-- degree as bound
unfoldable pub start_quotient : Graph → (ℕ → Bool) → (ℕ → List ℕ) → QuotientGraph
start_quotient g dense lists = record {
  placed = list_below g.size (λ v. not (dense v || degree g v == 0));
  variables = λ i. filter (λ j. not (dense j)) (lists i);
  elements = λ i. [];
  members = λ e. [];
  size = λ i. 1;
  bound = degree g;
  home = λ v. cond (dense v || not (nat_lt v g.size)) Last (cond (degree g v == 0) (Gone v) (Live v));
  parent = λ e. None;
}

-- the pivot: among the classes of least bound, the one that was placed last
unfoldable pub pivot : (ℕ → ℕ) → List ℕ → ℕ
pivot bound [] = 0
pivot bound (x ∷ xs) = fold (λ r y. cond (nat_le (bound y) (bound r)) y r) x xs

-- the list of the new element before the round: the members of the pivot's elements, element after element in the order
-- of its element list, and then its variables, each class at its first occurrence and the pivot left out
unfoldable pub gathered : QuotientGraph → ℕ → List ℕ
gathered t c = fold (add_new (λ x. x == c)) [] (flat_map t.members (t.elements c) ++ t.variables c)

-- a round with the pivot c, where the list front names the classes of L
module _ (aggressive : Bool) (t : QuotientGraph) (c : ℕ) (front : List ℕ) where
  -- the new element absorbs e: an element of the pivot or, aggressively, one whose members are all in L
  unfoldable pub absorbed : ℕ → Bool
  absorbed e = has (t.elements c) e || (aggressive && not (is_empty (t.members e)) && each (has front) (t.members e))

  -- what a class of L keeps of its element list: the elements that are not absorbed
  unfoldable pub kept_elements : ℕ → List ℕ
  kept_elements i = filter (λ e. not (absorbed e)) (t.elements i)

  -- what it keeps of its variable list: the classes that are neither the pivot nor in L
  unfoldable pub kept_variables : ℕ → List ℕ
  kept_variables i = filter (λ j. not (j == c || has front j)) (t.variables i)

  -- mass elimination: the class keeps nothing
  unfoldable pub mass : ℕ → Bool
  mass i = is_empty (kept_elements i) && is_empty (kept_variables i)

  -- the other classes of L, in its order
  unfoldable pub border_of : List ℕ
  border_of = filter (λ i. not (mass i)) front

  -- two classes that keep the same elements and the same variables
  unfoldable pub alike : ℕ → ℕ → Bool
  alike i j = each (has (kept_elements i)) (kept_elements j) && each (has (kept_elements j)) (kept_elements i)
      && each (has (kept_variables i)) (kept_variables j) && each (has (kept_variables j)) (kept_variables i)

  -- merged classes are represented by the one that stands last in the list of the new element
  unfoldable pub represents : ℕ → ℕ
  represents i = last_that (alike i) i border_of

  -- the list of the new element after the round: the representatives, in the order that they had
  unfoldable pub made : List ℕ
  made = filter (λ i. represents i == i) border_of

  -- the class i is one no longer: the pivot, what was mass-eliminated, and what was merged into another
  unfoldable pub ends : ℕ → Bool
  ends i = i == c || (has front i && not (has made i))

  -- the number of rows of a merged class
  unfoldable pub new_size : ℕ → ℕ
  new_size i = sum_by t.size (filter (λ j. represents j == i) border_of)

  -- the number of rows outside L of the elements that a class keeps, each taken by itself, plus that of its variables
  unfoldable pub outside : ℕ → ℕ
  outside i = sum_by (λ e. sum_by t.size (filter (λ j. not (has front j)) (t.members e))) (kept_elements i)
      + sum_by t.size (kept_variables i)

  -- the number of rows that are live after the round
  unfoldable pub left : ℕ
  left = sum_by t.size (filter (λ i. not (i == c || has front i)) t.placed) + sum_by t.size border_of

  -- the new bound of a representative: of the old bounds of merged classes its own counts, and of what they keep its
  -- own lists
  unfoldable pub new_bound : ℕ → ℕ
  new_bound i = min (min (t.bound i) (outside i) + (sum_by t.size border_of - new_size i)) (left - new_size i)

  -- where a row goes with its class
  unfoldable pub new_home : Home → Home
  new_home Last = Last
  new_home (Gone e) = Gone e
  new_home (Live d) = cond (d == c || (has front d && mass d)) (Gone c)
      (cond (has border_of d) (Live (represents d)) (Live d))

  -- the round: L and the pivot are taken out of the order of placing, and the representatives are placed in the order
  -- of the new element's list; a representative lists the new element and then what it keeps, the first kept element
  -- and the first kept variable each moved behind the others; what has ended is taken out of the other lists
  unfoldable pub round : QuotientGraph
  round = record {
    placed = filter (λ i. not (i == c || has front i)) t.placed ++ made;
    variables = λ i. cond (has made i) (turned (kept_variables i)) (filter (λ j. not (ends j)) (t.variables i));
    elements = λ i. cond (has made i) (c ∷ turned (kept_elements i)) (t.elements i);
    members = λ e. cond (e == c) made (cond (absorbed e) [] (filter (λ j. not (ends j)) (t.members e)));
    size = λ i. cond (has made i) (new_size i) (t.size i);
    bound = λ i. cond (has made i) (new_bound i) (t.bound i);
    home = λ v. new_home (t.home v);
    parent = λ e. cond (e == c) None (cond (absorbed e) (Some c) (t.parent e));
  }

-- the round with the pivot that the rules choose
unfoldable pub next : Bool → QuotientGraph → QuotientGraph
next aggressive t = let c = pivot t.bound t.placed in round aggressive t c (gathered t c)

-- rounds until no class is left, n at most
unfoldable pub after_rounds : ℕ → Bool → QuotientGraph → QuotientGraph
after_rounds zero aggressive t = t
after_rounds (suc n) aggressive t = cond (is_empty t.placed) t (after_rounds n aggressive (next aggressive t))

-- the machine stands for the state s of the elimination
pub record Fits (g : Graph) (t : QuotientGraph) (s : State) : Type 0 where
  -- what is placed are the classes
  pub placed : (i : ℕ) → has t.placed i ≡ is_class s i
  -- the variables of a class are its direct neighbours, and its elements those that hold it
  pub variables : (i j : ℕ) → s.home i ≡ Live i → has (t.variables i) j ≡ neighbours g s i j
  pub elements : (i e : ℕ) → s.home i ≡ Live i → has (t.elements i) e ≡ holds g s e i
  -- the members of an element are the classes that it holds
  pub members : (e i : ℕ) → has (t.members e) i ≡ holds g s e i
  -- no list names a number twice
  pub placed_once : Once t.placed
  pub variables_once : (i : ℕ) → s.home i ≡ Live i → Once (t.variables i)
  pub elements_once : (i : ℕ) → s.home i ≡ Live i → Once (t.elements i)
  pub members_once : (e : ℕ) → Once (t.members e)
  -- the size of a class is the number of its rows, and its bound the same
  pub size : (i : ℕ) → s.home i ≡ Live i → t.size i ≡ count_below g.size (in_class s i)
  pub bound : (i : ℕ) → s.home i ≡ Live i → t.bound i ≡ s.bound i
  -- each row is where it is in the state, and each element has the same parent
  pub home : (v : ℕ) → t.home v ≡ s.home v
  pub parent : (e : ℕ) → t.parent e ≡ s.parent e
