-- Each row is the first one of itself at first.
use Rattle.std.proofs.Common.{◌≡◌, ◌<◌, ◌-◌, ◌∙◌, ℕ, List, length, ap, subst, sym}
use Rattle.std.specs.Prelude.{slice_index}
use Rattle.amd_model.specs.Below.{sum_below}
use Rattle.amd_lines.proofs.WrittenLists.{written}
use Rattle.amd_report.proofs.Firsts.{firsts-none, profile-is}
use Rattle.amd_report.proofs.Passing.{form-counts}
use Rattle.amd_report.proofs.profile.profile.Goals as goal

pub meet_entries-requires : goal.meet_entries-requires
meet_entries-requires g c =
    let own : (i : ℕ) → i < c.args.n → slice_index c.in_ok-firsts.firsts.items i ≡ i = c.in_ok-firsts.ensures.own in
    let size : length c.in_ok-firsts.firsts.items ≡ c.args.n = c.in_ok-firsts.ensures.size in
    let same : c.in_ok-firsts.firsts.items ≡ c.deref_mut.result.now = sym c.deref_mut.ensures.value in
    let named : (i : ℕ) → i < length c.in_ok-firsts.firsts.items → slice_index c.in_ok-firsts.firsts.items i ≡ i =
    λ i l. own i (subst (λ z. i < z) size l) in
    record {
      size = ap length c.deref_mut.ensures.value ∙ size;
      form = form-counts c.args.n c.args.a_p.now c.args.a_i.now c.requires;
      firsts = firsts-none _ _ _ (subst (λ (z : List ℕ). (i : ℕ) → i < length z → slice_index z i ≡ i) same named);
    }

pub returns : goal.returns
returns g c =
    let n : ℕ = c.args.n in
    let new : List ℕ = c.meet_entries.new.firsts in
    let left = written c.in_ok-firsts.firsts.items c.deref_mut.result.now new c.in_ok-firsts.firsts.len n c.deref_mut.ensures.value
    c.in_ok-firsts.ensures.size c.in_ok-firsts.firsts.ok.0 c.meet_entries.auto.firsts in
    let read : c.deref.result.now ≡ new = c.deref.ensures.value ∙ left.0 in
    let summed = subst (λ (z : List ℕ). c.sum_of.result ≡ sum_below (length z) (λ i. i - slice_index z i)) read c.sum_of.ensures in
    profile-is n c.args.a_p.now c.args.a_i.now c.requires new left.1 c.meet_entries.ensures.firsts c.sum_of.result summed
