-- Each row is a class by itself at first, and the classes are components in the end.
use Rattle.std.proofs.Common.{◌≡◌, ◌<◌, ◌∙◌, ℕ, List, map, pos, length, ap, subst, sym}
use Rattle.std.specs.Prelude.{slice_index, ◌==◌}
use Rattle.amd_model.specs.Below.{count_below}
use Rattle.amd_model.specs.Graph.{Graph}
use Rattle.amd_model.specs.Input.Pattern.{graph_of}
use Rattle.amd_lines.proofs.WrittenLists.{written}
use Rattle.amd_report.specs.Passes.{AreClasses}
use Rattle.amd_report.proofs.Connecting.{classes-none, components-are, entries-connect}
use Rattle.amd_report.proofs.Passing.{form-counts}
use Rattle.amd_report.proofs.components.components.Given.{Over}
use Rattle.amd_report.proofs.components.components.Goals.{After-deref_mut}
use Rattle.amd_report.proofs.components.components.Goals as goal

-- the classes before the first entry
first : (g : Over) (c : After-deref_mut g) → AreClasses (graph_of c.args.n (map pos c.args.a_p.now) (map pos c.args.a_i.now))
    c.args.a_p.now c.args.a_i.now 0 0 c.deref_mut.result.now
first g c =
    let own : (i : ℕ) → i < c.args.n → slice_index c.in_ok-links.links.items i ≡ i = c.in_ok-links.ensures.own in
    let size : length c.in_ok-links.links.items ≡ c.args.n = c.in_ok-links.ensures.size in
    let same : c.in_ok-links.links.items ≡ c.deref_mut.result.now = sym c.deref_mut.ensures.value in
    let named : (i : ℕ) → i < length c.in_ok-links.links.items → slice_index c.in_ok-links.links.items i ≡ i =
    λ i l. own i (subst (λ z. i < z) size l) in
    classes-none _ _ _ _ (subst (λ (z : List ℕ). (i : ℕ) → i < length z → slice_index z i ≡ i) same named)

pub join_all-requires : goal.join_all-requires
join_all-requires g c = record {
  size = ap length c.deref_mut.ensures.value ∙ c.in_ok-links.ensures.size;
  form = form-counts c.args.n c.args.a_p.now c.args.a_i.now c.requires;
  classes = (
    graph_of c.args.n (map pos c.args.a_p.now) (map pos c.args.a_i.now),
    entries-connect c.args.n c.args.a_p.now c.args.a_i.now c.requires,
    first g (goal.at.join_all-requires g c).After-deref_mut,
  );
}

pub returns : goal.returns
returns g c =
    let n : ℕ = c.args.n in
    let new : List ℕ = c.join_all.new.links in
    let graph : Graph = graph_of n (map pos c.args.a_p.now) (map pos c.args.a_i.now) in
    let left = written c.in_ok-links.links.items c.deref_mut.result.now new c.in_ok-links.links.len n c.deref_mut.ensures.value
    c.in_ok-links.ensures.size c.in_ok-links.links.ok.0 c.join_all.auto.links in
    let read : c.deref.result.now ≡ new = c.deref.ensures.value ∙ left.0 in
    let counted = subst (λ (z : List ℕ). c.count_first.result ≡ count_below (length z) (λ v. slice_index z v == v)) read
    c.count_first.ensures in
    components-are n c.args.a_p.now c.args.a_i.now c.requires new (c.in_ok-join_all.ensures.classes graph
    (entries-connect n c.args.a_p.now c.args.a_i.now c.requires) (first g (goal.at.returns g c).After-deref_mut)) left.1
    c.count_first.result counted
