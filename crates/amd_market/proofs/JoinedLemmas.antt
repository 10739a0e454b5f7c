-- A line without the spaces in parentheses, one byte more.
use Rattle.std.proofs.Common.{◌≡◌, ◌+◌, ◌-◌, ◌<◌, ◌≤◌, ◌++◌, ◌∙◌, ℕ, Bool, true, false, List}
use Rattle.std.proofs.Common.{append_assoc, ap, arith, cond, drop, get_or, length, sym}
use Rattle.std.specs.Prelude.{◌==◌}
use Rattle.std.proofs.lemmas.List.{at_drop_more}
use Rattle.amd_market.specs.Boeing.{depth_behind, joined, kept_byte}

-- what is kept of a byte stands behind what was kept before it
pub joined-more : (line text kept : List ℕ) (depth i : ℕ) → i < length line → text ++ joined depth (drop i line) ≡ joined 0 line →
    kept_byte depth (get_or line i 0) ≡ kept →
    (text ++ kept) ++ joined (depth_behind depth (get_or line i 0)) (drop (i + 1) line) ≡ joined 0 line
joined-more line text kept depth i l before is =
    let rest = joined (depth_behind depth (get_or line i 0)) (drop (i + 1) line) in
    append_assoc text kept rest ∙ ap (λ z. text ++ (z ++ rest)) (sym is)
    ∙ ap (λ z. text ++ z) (sym (at_drop_more (joined depth) line i 0 l)) ∙ before

-- a byte opens no more than one parenthesis
pub depth-least : (depth b : ℕ) → depth_behind depth b ≤ depth + 1
depth-least depth b = at (b == 40) (b == 41)
  where
    at : (x y : Bool) → cond x (depth + 1) (cond y (depth - 1) depth) ≤ depth + 1
    at true y = omega arith
    at false true = omega arith
    at false false = omega arith
