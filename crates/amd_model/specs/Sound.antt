-- What holds of each state of a run. Source: the invariants behind Amestoy, Davis and Duff 1996.
use Rattle.std.specs.Prelude.{ℕ, true, ◌≡◌, ◌≢◌, ◌≤◌, ◌⊎◌}
use Rattle.amd_model.specs.Graph.{Graph}
use Rattle.amd_model.specs.State.{State, Last, Live, live, eliminated, stands}
use Rattle.amd_model.specs.Reach.{Reach}

-- a standing element has both rows on its border
pub record Together (g : Graph) (s : State) (v w : ℕ) : Type 0 where
  pub element : ℕ
  pub standing : stands g s element ≡ true
  pub first : s.border element v ≡ true
  pub second : s.border element w ≡ true

-- what the classes, the borders and the edges say of each other, and of paths through eliminated rows
pub record IsSound (g : Graph) (s : State) : Type 0 where
  -- numbers that name no row count as held last
  pub rows : (v : ℕ) → g.size ≤ v → s.home v ≡ Last
  -- the representative of a class is a row of the class
  pub named : (v c : ℕ) → s.home v ≡ Live c → s.home c ≡ Live c
  -- the rows on the border of a standing element are live
  pub borders_live : (e v : ℕ) → stands g s e ≡ true → s.border e v ≡ true → live s v ≡ true
  -- a border has whole classes
  pub whole : (e c v w : ℕ) → stands g s e ≡ true → s.home v ≡ Live c → s.home w ≡ Live c → s.border e v ≡ true →
      s.border e w ≡ true
  -- rows of one class have the same edges, where no element explains them
  pub uniform : (c d v x w : ℕ) → s.home v ≡ Live c → s.home x ≡ Live c → s.home w ≡ Live d → c ≢ d →
      (Together g s v w → ⊥) →
      g.edge v w ≡ true → g.edge x w ≡ true
  -- rows on one border are joined by a path, and a path comes from a border or is an edge
  pub met : (e v w : ℕ) → stands g s e ≡ true → s.border e v ≡ true → s.border e w ≡ true → v ≢ w →
      Reach g (eliminated s) v w
  pub only : (v w : ℕ) → live s v ≡ true → live s w ≡ true → v ≢ w → Reach g (eliminated s) v w → Together g s v w ⊎
      (g.edge v w ≡ true)
