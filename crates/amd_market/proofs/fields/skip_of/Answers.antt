-- The last letter is read first, and then the number before it.
use Rattle.std.proofs.Common.{◌≡◌, ◌++◌, ◌∷◌, [], rules}
use Rattle.std.specs.Char.{to_ascii_lowercase}
use Rattle.amd_market.proofs.CardLemmas.{skip-option}
use Rattle.amd_market.proofs.fields.skip_of.Goals as goal

pub returns-then-to_ascii_lowercase-eq120 : goal.returns-then-to_ascii_lowercase-eq120
returns-then-to_ascii_lowercase-eq120 c =
    let last = c.in_ok-last.last.now in
    let parts : c.args.text.now ≡ c.in_ok-last.front.now ++ last ∷ [] = search rules in
    let low : to_ascii_lowercase last ≡ 120 = search rules in
    skip-option c.args.text.now c.in_ok-last.front.now last c.count_of.result parts low c.count_of.ensures
