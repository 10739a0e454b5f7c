-- The columns of a factor under a postordered listing, by places.
use Rattle.std.proofs.Common.{ℕ, suc, Bool, false, ◌≡◌, inl, inr, arith, List}
use Rattle.std.specs.Prelude.{slice_index, take, drop}
use Rattle.std.proofs.lemmas.Bool.{cases_Bool}
use Rattle.amd_model.specs.Graph.{Graph}
use Rattle.amd_model.specs.State.{State}
use Rattle.amd_model.specs.Run.{last_state}
use Rattle.amd_model.specs.Reach.{Reach, direct, by}
use Rattle.amd_model.specs.Factor.{before}
use Rattle.amd_model.specs.Listing.{IsPostorder}
use Rattle.amd_model.specs.Laws.{OfEachListing, ColumnsInside, EmptyColumns}
use Rattle.amd_model.proofs.States.SoundStart.{no_edge}
use Rattle.amd_model.proofs.States.Words.{reach_more}
use Rattle.amd_model.proofs.Listings.Columns.{column_inside}
use Rattle.amd_model.proofs.Counting.Places.{part_at, before_has, later_not_before}
use Rattle.amd_model.proofs.States.EndState.{IsEnd, at_the_end}
use Rattle.amd_model.proofs.Listings.ListedOnce.{listing_distinct}
use Rattle.amd_model.specs.Quotient.{has}

-- the column of a place lies in the later rows of its block, on the border of its element, and in the dense rows
pub end_columns : (g : Graph) (dense : ℕ → Bool) (s : State) → IsEnd g dense s → (p : List ℕ) → IsPostorder g dense s p →
    ColumnsInside g s p
end_columns g dense s end p post k j e l m hv r =
    let not_yet : has (take k p) (slice_index p j) ≡ false = elim (cases_Bool (has (take k p) (slice_index p j))) [
      | inl h ↦ absurd (later_not_before p (listing_distinct g dense s end p post) k j (omega arith) m h)
      | inr h ↦ h
    ] in
    elim (column_inside g s end.made.tree end.over end.made.sound.rows end.small dense end.made.dense_last p (take k p) (drop (suc k) p)
    (slice_index p k) (slice_index p j) e post
    (part_at p k (omega arith)) hv not_yet
    (reach_more g (before p k) (λ u. has (take k p) u) (λ u h. before_has p k u (omega arith) h) r)) [
      | inl h ↦ inr (inr h)
      | inr h ↦ elim h [ inl q ↦ inl q | inr q ↦ inr (inl q) ]
    ]

pub columns_inside : OfEachListing (λ g dense s p. ColumnsInside g s p)
columns_inside g dense aggressive first states laws run p post =
    end_columns g dense (last_state first states) (at_the_end g dense aggressive first states laws run) p post

pub empty_columns : OfEachListing (λ g dense s p. EmptyColumns g p)
empty_columns g dense aggressive first states laws run p post k w z r = go r
  where
    go : Reach g (before p k) (slice_index p k) w → ⊥
    go (direct e) = no_edge g laws dense first run.start (slice_index p k) w z e
    go (by {u = u} e t q) = no_edge g laws dense first run.start (slice_index p k) u z e
