-- What the calls of a merge ask of the classes of a front that keep something, and what their answers say together.
use Rattle.std.proofs.Common.{ℕ, Bool, true, false, Option, ◌≡◌, ◌<◌, ◌≤◌, ◌+◌, ◌%◌, ◌^◌, ◌&&◌, not, cond, sym, ◌∙◌, ap, subst, arith, List}
use Rattle.std.proofs.Common.{Some, Vec, length}
use Rattle.std.specs.Prelude.{◌==◌, filter, sum_by}
use Rattle.std.proofs.lemmas.List.Elements.{All-filter}
use Rattle.std.proofs.lemmas.List.Sums.{sum_by-le-sum_by}
use Rattle.amd_model.specs.Quotient.{has, Once, last_that}
use Rattle.amd_model.proofs.Quotient.Lists.{once_filter}
use Rattle.amd_model.proofs.Listings.Words.{has_filter as filter_gives}
use Rattle.amd_plain.specs.Views.{num, list_at, Below}
use Rattle.amd_plain.specs.Rounds.{plain_alike}
use Rattle.amd_plain.specs.Groups.{wrapped_sum, group_in}
use Rattle.amd_round_laws.proofs.Lists.Named.{sum_part}
use Rattle.amd_round_laws.proofs.Lists.Same.{same_sum}
use Rattle.amd_round_laws.proofs.Merging.Representatives.{rep, alike_gives, rep_in, rep_rep, alike_self, alike_flip, alike_through}

-- a part of a front names rows, each once, and what the front names
module _ (p : ℕ → Bool) (front rest : List ℕ) (is : rest ≡ filter p front) where
  pub part_below : (n : ℕ) → Below n front → Below n rest
  part_below n b = subst (Below n) (sym is) (All-filter p (λ j. j < n) front b)

  pub part_once : Once front → Once rest
  part_once o = subst Once (sym is) (once_filter p front o)

  pub part_named : (x : ℕ) → has rest x ≡ true → has front x ≡ true
  part_named x h = (filter_gives p front x (ap (λ l. has l x) (sym is) ∙ h)).0

  -- its classes have no more rows, also after some have lost theirs
  pub part_rows : (size : ℕ → ℕ) → sum_by size rest ≤ sum_by size front
  part_rows size = let a = ap (sum_by size) is in let b = sum_part size p front in omega (arith, a, b)

  pub part_left : (size left : ℕ → ℕ) (gone : ℕ → Bool) → ((x : ℕ) → left x ≡ cond (gone x) 0 (size x)) →
      sum_by left rest ≤ sum_by size front
  part_left size left gone f =
      let a = sum_by-le-sum_by left size rest (λ x. let e = f x in let m = at_most (gone x) (size x) in omega (arith, e, m)) in
      let b = part_rows size in omega (arith, a, b)
    where
      at_most : (b : Bool) (m : ℕ) → cond b 0 m ≤ m
      at_most true m = omega arith
      at_most false m = omega arith

-- the rows of a list, counted over lists that read the same
pub rows_same : (names rest to size : List ℕ) → names ≡ rest → to ≡ size → sum_by (num to) names ≡ sum_by (num size) rest
rows_same names rest to size e f = ap (λ l. sum_by (num l) names) f ∙ ap (sum_by (num size)) e

-- classes alike are in one group
pub alike_grouped : {A : Type 0} (elements variables : List (Vec ℕ A)) (i j : ℕ) → Once (list_at elements i) × Once (list_at variables i) →
    Once (list_at elements j) × Once (list_at variables j) → plain_alike elements variables i j ≡ true →
    group_in elements variables i ≡ group_in elements variables j
alike_grouped elements variables i j o p h = let k = alike_gives (list_at elements) (list_at variables) i j h in
    let e = same_sum (λ x. x) (list_at elements i) (list_at elements j) o.0 p.0 k.0 k.1 in
    let v = same_sum (λ x. x) (list_at variables i) (list_at variables j) o.1 p.1 k.2 k.3 in
    ap (λ m. ((m % 2 ^ 64 + wrapped_sum (list_at variables i)) % 2 ^ 64) % length elements) e ∙
    ap (λ m. ((wrapped_sum (list_at elements j) + m % 2 ^ 64) % 2 ^ 64) % length elements) v

-- the representative of a class of a list is in the list, and represents itself
pub into_settled : {A : Type 0} (elements variables : List (Vec ℕ A)) (rest : List ℕ) (into : ℕ → ℕ) →
    ((i : ℕ) → has rest i ≡ true → into i ≡ last_that (plain_alike elements variables i) i rest) →
    (i : ℕ) → has rest i ≡ true → (has rest (into i) ≡ true) × (into (into i) ≡ into i)
into_settled elements variables rest into f i h =
    let r : ℕ → ℕ = rep (plain_alike elements variables) (alike_self (list_at elements) (list_at variables))
    (alike_flip (list_at elements) (list_at variables)) (alike_through (list_at elements) (list_at variables)) rest in
    let e : into i ≡ r i = f i h in
    let here : has rest (into i) ≡ true = ap (has rest) e ∙ rep_in (plain_alike elements variables)
    (alike_self (list_at elements) (list_at variables)) (alike_flip (list_at elements) (list_at variables))
    (alike_through (list_at elements) (list_at variables)) rest i h in (
      here,
      f (into i) here ∙ ap r e ∙ rep_rep (plain_alike elements variables) (alike_self (list_at elements) (list_at variables))
          (alike_flip (list_at elements) (list_at variables)) (alike_through (list_at elements) (list_at variables)) rest i h ∙ sym e,
    )

-- the rows of each class of a list, and the links, after each went into its representative
abbrev pub RowsJoined : List ℕ → List ℕ → (ℕ → ℕ) → (ℕ → ℕ) → Type 0
RowsJoined rest into before after = (x : ℕ) → after x ≡ cond (has rest x)
    (cond (num into x == x) (sum_by before (filter (λ j. num into j == x) rest)) 0) (before x)

abbrev pub LinksJoined : List ℕ → List ℕ → (ℕ → Option ℕ) → (ℕ → Option ℕ) → Type 0
LinksJoined rest into before after = (x : ℕ) → after x ≡ cond (has rest x && not (num into x == x)) (Some (num into x)) (before x)

-- the same of lists that read the same
module _ (rest into names to : List ℕ) (rest_is : names ≡ rest) (into_is : to ≡ into) where
  pub rows_joined : (before after : ℕ → ℕ) → RowsJoined names to before after → RowsJoined rest into before after
  rows_joined before after f = subst (λ l. RowsJoined l into before after) rest_is (subst (λ l. RowsJoined names l before after) into_is f)

  pub links_joined : (before after : ℕ → Option ℕ) → LinksJoined names to before after → LinksJoined rest into before after
  links_joined before after f = subst (λ l. LinksJoined l into before after) rest_is
      (subst (λ l. LinksJoined names l before after) into_is f)
