-- What a read and a write of the sides of a row say of the two lists.
use Rattle.std.proofs.Common.{ℕ, List, ◌≡◌, ◌<◌, ◌*◌, ◌^◌, ◌∙◌, Fits, ap, length, subst, sym, w64}
use Rattle.std.proofs.Common.{slice_index_or, slice_set}
use Rattle.std.proofs.lemmas.List.{map-set, length-map}
use Rattle.std.proofs.Math.ListN.{get_or-map}
use Rattle.std.proofs.Math.Seq.{map-set_same}
use borrow.Author.Rules.{scaled_Fits}
use Rattle.amd_words.specs.Sides.{nexts, lasts}

-- both lists have a number for each row
pub nexts_long : (s : List (ℕ × ℕ)) → length (nexts s) ≡ length s
unfolding nexts
nexts_long s = length-map s _

pub lasts_long : (s : List (ℕ × ℕ)) → length (lasts s) ≡ length s
unfolding lasts
lasts_long s = length-map s _

-- so a row of a list is a place of the slice
pub inside : (s : List (ℕ × ℕ)) (i : ℕ) → i < length (nexts s) → i < length s
inside s i l = subst (λ n. i < n) (nexts_long s) l

-- and its offset fits
pub offset_fits : (s : List (ℕ × ℕ)) (i size : ℕ) → i < length (nexts s) → length s * size < 2 ^ 63 → Fits w64 (i * size)
offset_fits s i size l small = scaled_Fits i (length s) size (inside s i l) small

pub both_long : (s : List (ℕ × ℕ)) → length (lasts s) ≡ length (nexts s)
both_long s = lasts_long s ∙ sym (nexts_long s)

-- and so they stay as long as the slice does
pub nexts_same : (s t : List (ℕ × ℕ)) → length s ≡ length t → length (nexts s) ≡ length (nexts t)
nexts_same s t e = nexts_long s ∙ e ∙ sym (nexts_long t)

pub lasts_same : (s t : List (ℕ × ℕ)) → length s ≡ length t → length (lasts s) ≡ length (lasts t)
lasts_same s t e = lasts_long s ∙ e ∙ sym (lasts_long t)

-- one side of a row is new
pub next_put : (s : List (ℕ × ℕ)) (i : ℕ) (a : ℕ × ℕ) (n : ℕ) → a.0 ≡ n → nexts (slice_set s i a) ≡ slice_set (nexts s) i n
unfolding nexts
next_put s i a n e = map-set _ s i a ∙ ap (λ m. slice_set (nexts s) i m) e

pub last_put : (s : List (ℕ × ℕ)) (i : ℕ) (a : ℕ × ℕ) (n : ℕ) → a.1 ≡ n → lasts (slice_set s i a) ≡ slice_set (lasts s) i n
unfolding lasts
last_put s i a n e = map-set _ s i a ∙ ap (λ m. slice_set (lasts s) i m) e

-- the other side is as it was
pub next_kept : (s : List (ℕ × ℕ)) (i : ℕ) (a : ℕ × ℕ) → a.0 ≡ (slice_index_or s i (0, 0)).0 → nexts (slice_set s i a) ≡ nexts s
unfolding nexts
next_kept s i a e = map-set_same _ s i a (0, 0) e

pub last_kept : (s : List (ℕ × ℕ)) (i : ℕ) (a : ℕ × ℕ) → a.1 ≡ (slice_index_or s i (0, 0)).1 → lasts (slice_set s i a) ≡ lasts s
unfolding lasts
last_kept s i a e = map-set_same _ s i a (0, 0) e

-- a read of either side
pub next_of : (s : List (ℕ × ℕ)) (i : ℕ) (a : ℕ × ℕ) (n : ℕ) → a ≡ slice_index_or s i (0, 0) → n ≡ a.0 →
    n ≡ slice_index_or (nexts s) i 0
unfolding nexts
next_of s i a n e f = f ∙ ap (λ q. q.0) e ∙ sym (get_or-map (λ q. q.0) s i (0, 0))

pub last_of : (s : List (ℕ × ℕ)) (i : ℕ) (a : ℕ × ℕ) (n : ℕ) → a ≡ slice_index_or s i (0, 0) → n ≡ a.1 →
    n ≡ slice_index_or (lasts s) i 0
unfolding lasts
last_of s i a n e f = f ∙ ap (λ q. q.1) e ∙ sym (get_or-map (λ q. q.1) s i (0, 0))
