use Rattle.std.proofs.Common.{ℕ, ◌≡◌, ◌-◌, ◌/◌, ◌^◌, sym, ap, ◌∙◌}
use Rattle.std.specs.Prelude.{bit_and, nat_lt}
use Rattle.std.proofs.lemmas.Bool.{cond-true, cond-false, lt-ltb, le-ltb}
use Rattle.amd_words.specs.Sides.{lasts}
use Rattle.amd_words.specs.Words.{num}
use Rattle.amd_merging.specs.Merging.{bucket_of, mask_of}
use Rattle.amd_merging.proofs.buckets.bucket_at.Goals.{then-count-lt256, else-count-lt256}
use Rattle.amd_merging.proofs.buckets.bucket_at.Goals as goal

pub returns : goal.returns
unfolding bucket_of
returns g c =
    let part : ℕ = num (lasts c.args.sides.now) c.args.i / 16 in
    let mask : c.if-count-lt256.mask ≡ mask_of c.args.count = elim c.if-count-lt256.branch [
      | then-count-lt256 w ↦ w.mask-is
          ∙ sym (cond-true (nat_lt c.args.count 256) 1023 (2 ^ 64 - 1) (lt-ltb c.args.count 256 w.if-count-lt256.true))
      | else-count-lt256 w ↦ w.mask-is
          ∙ sym (cond-false (nat_lt c.args.count 256) 1023 (2 ^ 64 - 1) (le-ltb c.args.count 256 w.if-count-lt256.false))
    ] in
    ap (λ k. bit_and (k / 16) c.if-count-lt256.mask) c.last_at.ensures.is ∙ ap (bit_and part) mask
