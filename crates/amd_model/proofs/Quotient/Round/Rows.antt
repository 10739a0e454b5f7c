-- The rows of a round: of the front, the block, the border, and those that are left.
use Rattle.std.proofs.Common.{ℕ, Bool, ◌≡◌, ◌≢◌, ◌<◌, ◌≤◌, ◌+◌, ◌-◌, ◌&&◌, not, inl, inr}
use Rattle.std.proofs.Common.{sym, ◌∙◌, arith}
use Rattle.std.specs.Prelude.{sum_by}
use Rattle.std.specs.Cmp.{both_ways}
use Rattle.std.proofs.lemmas.Bool.{cases_Bool, and_parts, and_from, not_from_false}
use Rattle.amd_model.specs.Below.{count_below}
use Rattle.amd_model.specs.Graph.{Graph}
use Rattle.amd_model.specs.State.{State, Gone, live, in_class, in_block, front}
use Rattle.amd_model.specs.Step.{block, border_of}
use Rattle.amd_model.specs.Sound.{IsSound}
use Rattle.amd_model.specs.Quotient.{QuotientGraph, Fits, left}
use Rattle.amd_model.proofs.Counting.Below.{clash, count_same, count_split, count_mono, count_most, count_pos}
use Rattle.amd_model.proofs.States.Words.{class_gives, class_from, live_gives, live_from, front_gives}
use Rattle.amd_model.proofs.States.Sound.{live_small, front_live}
use Rattle.amd_model.proofs.States.Steps.{block_pivot}
use Rattle.amd_model.proofs.States.SoundStep.{step_sound}
use Rattle.amd_model.proofs.States.StepFronts.{block_new, border_new, block_parts, live_parts}
use Rattle.amd_model.proofs.Quotient.Sums.{named, named_gives, named_from, class_sum}
use Rattle.amd_model.proofs.Quotient.Round.RoundAt.{RoundAt, border_list, pivot_live}
use Rattle.amd_model.proofs.Quotient.Round.Front.{front_class, row_front, front_once}
use Rattle.amd_model.proofs.Quotient.Round.After.{parts}
use Rattle.amd_model.proofs.Quotient.Round.Sizes.{border_sum}
use Rattle.amd_model.proofs.Quotient.Round.Bounds.{live_is}
use Rattle.amd_model.proofs.Quotient.Round.IsStep.{fits_after}

-- the sizes of the classes placed add up to the live rows
module _ {g : Graph} {t : QuotientGraph} {s : State} (sound : IsSound g s) (fits : Fits g t s) where
  pub placed_rows : sum_by t.size t.placed ≡ count_below g.size (live s)
  placed_rows =
      class_sum g s t.size t.placed fits.placed_once (λ x k. fits.size x (class_gives x (s.home x) (sym (fits.placed x) ∙ k)))
      ∙ count_same g.size (λ v. named t.placed (s.home v)) (live s) (λ v l. both_ways (named t.placed (s.home v)) (live s v)
      (λ k. let d = named_gives t.placed (s.home v) k in live_from d.0 (s.home v) d.1)
      (λ k. let d = live_gives (s.home v) k in named_from t.placed (s.home v) d.0 d.1
      (fits.placed d.0 ∙ class_from d.0 (s.home d.0) (sound.named v d.0 d.1))))

  pub placed_small : sum_by t.size t.placed ≤ g.size
  placed_small = let m = count_most g.size (live s) in omega (arith, placed_rows, m)

module _ {g : Graph} {aggressive : Bool} {t : QuotientGraph} {s : State} {c : ℕ} (this : RoundAt g aggressive t s c) where
  open this use {laws, sound, fits}
  open parts this use {L, new, step, now}

  pub size_rows : t.size c ≡ count_below g.size (in_class s c)
  size_rows = fits.size c (pivot_live this)

  pub front_rows : sum_by t.size L ≡ count_below g.size (front g s c)
  front_rows = class_sum g s t.size L (front_once this) (λ x k. fits.size x (front_class this x k).0)
      ∙ count_same g.size (λ v. named L (s.home v)) (front g s c)
      (λ v l. both_ways (named L (s.home v)) (front g s c v)
      (λ k. let d = named_gives L (s.home v) k in sym (row_front this v d.0 d.1) ∙ d.2)
      (λ k. let d = live_gives (s.home v) (front_live g laws s sound c v k) in
      named_from L (s.home v) d.0 d.1 (row_front this v d.0 d.1 ∙ k)))

  -- L and the class of the pivot are some of the live rows
  pub front_small : sum_by t.size L + t.size c ≤ sum_by t.size t.placed
  front_small = let a = front_rows in let b = size_rows in let p = placed_rows sound fits in
      let q = count_split g.size (live s) (front g s c) in
      let x = count_same g.size (λ v. live s v && front g s c v) (front g s c) (λ v l. both_ways (live s v && front g s c v) (front g s c v)
      (λ h. (and_parts (live s v) (front g s c v) h).1) (λ h. and_from (live s v) (front g s c v) (front_live g laws s sound c v h) h)) in
      let y = count_mono g.size (in_class s c) (λ v. live s v && not (front g s c v))
      (λ v l h. and_from (live s v) (not (front g s c v)) (live_from c (s.home v) (class_gives c (s.home v) h))
      (not_from_false (front g s c v) (elim (cases_Bool (front g s c v)) [ inr n ↦ n | inl f ↦ clash h (front_gives g s c v f).0 ]))) in
      omega (arith, a, b, p, q, x, y)

  block_size : count_below g.size (block g aggressive s c) ≡ t.size c + (sum_by t.size L - sum_by t.size (border_list this))
  block_size = let a = front_rows in let b = border_sum this in let d = size_rows in
      let p = block_parts g laws aggressive c s new sound step in
      omega (arith, a, b, d, p)

  -- the rows of the new element
  pub block_rows : ((v : ℕ) → s.home v ≢ Gone c) →
      count_below g.size (in_block new c) ≡ t.size c + (sum_by t.size L - sum_by t.size (border_list this))
  block_rows none = count_same g.size (in_block new c) (block g aggressive s c)
      (λ v l. block_new g laws aggressive c s new sound step none v) ∙ block_size

  pub border_rows : count_below g.size (new.border c) ≡ sum_by t.size (border_list this)
  border_rows = count_same g.size (new.border c) (border_of g aggressive s c) (λ v l. border_new g laws aggressive c s new sound step v) ∙
      sym (border_sum this)

  -- the rows that are left
  pub left_rows : left aggressive t c L ≡
      sum_by t.size t.placed - (t.size c + (sum_by t.size L - sum_by t.size (border_list this)))
  left_rows = let a = live_is this in let b = block_size in let p = placed_rows sound fits in
      let q = live_parts g laws aggressive c s new sound step in omega (arith, a, b, p, q)

  pub left_sum : sum_by now.size now.placed ≡ left aggressive t c L
  left_sum = placed_rows (step_sound g laws aggressive c s new sound step) (fits_after this) ∙ sym (live_is this)

  pub left_less : left aggressive t c L < sum_by t.size t.placed
  left_less = let a = live_is this in let p = placed_rows sound fits in let q = live_parts g laws aggressive c s new sound step in
      let h = pivot_live this in
      let m = count_pos g.size (block g aggressive s c) c (live_small g laws s sound c c h)
      (block_pivot g aggressive s c c h) in omega (arith, a, p, q, m)
