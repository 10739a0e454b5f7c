use Rattle.std.proofs.Common.{◌≡◌, ◌++◌, List, [], ◌∷◌, ℕ, length, take, drop, sym, ◌∙◌, refl, arith}
use Rattle.std.proofs.lemmas.Bool.{eqb-true}
use Rattle.amd_model.specs.Quotient.{turned}
use Rattle.amd_plain.proofs.bounds.turn.Goals as goal

turned_is : (xs : List ℕ) → drop 1 xs ++ take 1 xs ≡ turned xs
unfolding turned
turned_is [] = refl
turned_is (x ∷ xs) = refl

none_turned : (xs : List ℕ) → length xs ≡ 0 → xs ≡ turned xs
unfolding turned
none_turned [] e = refl
none_turned (x ∷ xs) e = absurd (omega (arith, e))

pub returns-then-not-is_empty : goal.returns-then-not-is_empty
returns-then-not-is_empty g c = c.rotate_left.ensures.items ∙ turned_is c.args.list.now.items

pub returns-else-not-is_empty : goal.returns-else-not-is_empty
returns-else-not-is_empty g c =
    let none = eqb-true c.args.list.now.len 0 (sym c.is_empty.ensures ∙ c.if-not-is_empty.false) in
    none_turned c.args.list.now.items (omega (arith, none, c.args.list.now.ok.0))
