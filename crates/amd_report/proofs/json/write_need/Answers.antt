-- The parts are written one after another.
use Rattle.std.proofs.Common.{◌≡◌, ℕ, List, subst}
use Rattle.std.specs.Prelude.{Option, codes, decimal}
use Rattle.std.specs.Io.KnownBytes.{Appends}
use Rattle.amd_report.specs.Json.{member}
use Rattle.amd_texts.proofs.Written.{Appends-then}
use Rattle.amd_report.proofs.json.write_need.Goals as goal

-- a member with a number that is another one
member-of : (a b : Option (List ℕ)) (name : List ℕ) (x y : ℕ) → x ≡ y → Appends a b (member (codes ",") name (decimal x)) →
    Appends a b (member (codes ",") name (decimal y))
member-of a b name x y e h = subst (λ z. Appends a b (member (codes ",") name (decimal z))) e h

pub returns : goal.returns
returns g c =
    let fill = member-of _ _ (codes "fill") _ _ c.figure_of-fill.ensures c.in_ok-write_member-2.ensures in
    let flops = member-of _ _ (codes "flops_ldl") _ _ c.figure_of-flops.ensures c.in_ok-write_member-6.ensures in
    let bytes = member-of _ _ (codes "bytes_of_l") _ _ c.figure_of-bytes.ensures c.in_ok-write_member-8.ensures in
    let up_to_2 = Appends-then _ _ _ _ _ c.in_ok-write.ensures.bytes c.in_ok-write_member.ensures in
    let up_to_3 = Appends-then _ _ _ _ _ up_to_2 fill in
    let up_to_4 = Appends-then _ _ _ _ _ up_to_3 c.in_ok-write_member-3.ensures in
    let up_to_5 = Appends-then _ _ _ _ _ up_to_4 c.in_ok-write_member-4.ensures in
    let up_to_6 = Appends-then _ _ _ _ _ up_to_5 c.in_ok-write_member-5.ensures in
    let up_to_7 = Appends-then _ _ _ _ _ up_to_6 flops in
    let up_to_8 = Appends-then _ _ _ _ _ up_to_7 c.in_ok-write_member-7.ensures in
    let up_to_9 = Appends-then _ _ _ _ _ up_to_8 bytes in
    Appends-then _ _ _ _ _ up_to_9 c.in_ok-write_all.ensures.bytes
