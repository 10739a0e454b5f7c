-- The line that was passed is the one that was looked at.
use Rattle.std.proofs.Common.{◌≡◌, ◌+◌, ℕ, ap, sym, ◌∙◌, subst, take}
use Rattle.amd_lines.specs.Words.{EndsAt}
use Rattle.amd_lines.specs.Lines.{line_of}
use Rattle.amd_lines.proofs.LineLemmas.{line-telling, ends-ahead}
use Rattle.amd_market.specs.Entries.{SpellsEntry}
use Rattle.amd_market.proofs.EntryLemmas.{entry_says}
use Rattle.amd_market.proofs.reader.take_plain.Goals as goal

pub pass_next-requires : goal.pass_next-requires
pass_next-requires g c =
    let place = c.in_ok-row.place in
    (ends-ahead g.R.Read.remaining c.args.lines.now c.args.lines.now.longest place
    (subst (λ z. EndsAt z place) c.ahead.ensures c.in_ok-row.ensures.ends)).0

pub returns : goal.returns
returns g c =
    let place = c.in_ok-row.place in
    let e : ℕ × ℕ = (c.in_ok-row.row, c.in_ok-row.column) in
    let ends = ends-ahead g.R.Read.remaining c.args.lines.now c.args.lines.now.longest place
    (subst (λ z. EndsAt z place) c.ahead.ensures c.in_ok-row.ensures.ends) in
    let same : take (place + 1) c.ahead.result.now ≡ line_of c.pass_next.new.self
    = ap (take (place + 1)) c.ahead.ensures ∙ sym ends.1 ∙ sym c.pass_next.ensures.line in
    let entry = subst (λ z. SpellsEntry c.args.field c.args.n z e) same c.in_ok-row.ensures.entry in (
      line-telling g.R.Read.remaining c.args.lines.now c.pass_next.new.self c.pass_next.ensures.takes (entry_says _ _ _ _ entry),
      entry,
    )
