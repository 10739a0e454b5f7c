-- What a visitor of lists keeps while it takes one list after another.
use Rattle.std.specs.Prelude.{ℕ, ℤ, List, ◌++◌, ◌≡◌}

-- a visitor of lists, with the words and the sizes that stand before it
pub record Visited (V : Type 0) : Type 0 where
  pub words : List ℤ
  pub sizes : List ℤ
  pub visitor : V

abbrev pub visited : {V : Type 0} → List ℤ → List ℤ → V → Visited V
visited iw nv visitor = record { words = iw; sizes = nv; visitor = visitor }

-- what holds before each list and after the last: it speaks of a place, of the rows that all lists name and those that
-- were taken, and of the visitor at first and now
abbrev pub Visit : Type 0 → Type 1
Visit V = ℕ → List ℕ → List ℕ → Visited V → Visited V → Type 0

-- it holds, and of the rows that all lists name `next` are the next ones
pub record CanTake {V : Type 0} (holds : Visit V) (end : ℕ) (next : List ℕ) (now : Visited V) : Type 0 where
  pub all : List ℕ
  pub taken : List ℕ
  pub rest : List ℕ
  pub first : Visited V
  pub split : all ≡ (taken ++ next) ++ rest
  pub held : holds end all taken first now

-- wherever it held, it holds now that the next rows were taken
abbrev pub Takes : {V : Type 0} → Visit V → ℕ → List ℕ → Visited V → Visited V → Type 0
Takes holds end next before after = (at : CanTake holds end next before) → holds end at.all (at.taken ++ next) at.first after
