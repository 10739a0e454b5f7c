-- A list that a call wrote through a slice of a vector is what the call left.
use Rattle.std.proofs.Common.{◌≡◌, ◌++◌, ℕ, List, length, take, drop, ap, sym, ◌∙◌}
use Rattle.std.proofs.lemmas.List.{take_at}

pub written : (items given new : List ℕ) (len n : ℕ) → given ≡ items → length items ≡ n → len ≡ length items → length new ≡ length given →
    (take len (new ++ drop (length new) items) ≡ new) × (length new ≡ n)
written items given new len n e long room same =
    (take_at new (drop (length new) items) len (same ∙ ap length e ∙ sym room), same ∙ ap length e ∙ long)
