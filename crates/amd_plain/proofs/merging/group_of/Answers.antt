use Rattle.std.proofs.Common.{ℕ, ◌≡◌, ◌+◌, ◌%◌, ◌^◌, ◌∙◌, ap, length}
use Rattle.amd_plain.specs.Views.{list_at}
use Rattle.amd_plain.specs.Groups.{wrapped_sum}
use Rattle.amd_plain.proofs.ListPlaces.{list_deref}
use Rattle.amd_plain.proofs.merging.group_of.Goals as goal

pub returns-clause-group : goal.returns-clause-group
returns-clause-group g c =
    let es = c.args.lists.now.elements.items in let vs = c.args.lists.now.variables.items in let i : ℕ = c.args.i in
    let a : ℕ = wrapped_sum (list_at es i) in let b : ℕ = wrapped_sum (list_at vs i) in
    let e : c.sum_of.result ≡ a = c.sum_of.ensures ∙
    ap wrapped_sum (list_deref es i c.index.result.now c.deref.result.now c.requires.row.0 c.index.ensures c.deref.ensures.value) in
    let v : c.sum_of-2.result ≡ b = c.sum_of-2.ensures ∙
    ap wrapped_sum (list_deref vs i c.index-2.result.now c.deref-2.result.now c.requires.row.1 c.index-2.ensures c.deref-2.ensures.value) in
    let size : c.len.result ≡ length es = c.len.ensures ∙ c.args.lists.now.elements.ok.0 in
    ap (λ m. ((m + c.sum_of-2.result) % 2 ^ 64) % c.len.result) e ∙
    ap (λ m. ((a + m) % 2 ^ 64) % c.len.result) v ∙ ap (λ m. ((a + b) % 2 ^ 64) % m) size
