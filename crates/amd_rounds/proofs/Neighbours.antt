-- Direct neighbours are so both ways.
use Rattle.std.proofs.Common.{ℕ, true, ◌≡◌, sym, ◌∙◌}
use Rattle.amd_model.specs.Graph.{Graph, IsGraph}
use Rattle.amd_model.specs.State.{State, neighbours}
use Rattle.amd_model.proofs.States.Words.{neighbours_gives, neighbours_from}

pub neighbours_back : (g : Graph) → IsGraph g → (s : State) (c d : ℕ) → neighbours g s c d ≡ true → neighbours g s d c ≡ true
neighbours_back g laws s c d h = let k = neighbours_gives g s c d h in let v : ℕ = k.edge.0 in let w : ℕ = k.edge.1 in
    neighbours_from g s d c (record {
      first = k.second;
      second = k.first;
      differ = λ e. k.differ (sym e);
      edge = (w, v, k.edge.3, k.edge.2, k.edge.5, k.edge.4, laws.symmetric w v ∙ k.edge.6);
      apart = λ e l hd hc. k.apart e l hc hd;
    })
