-- What lists of links and numbers say at the end of an elimination, and what it means to list it.
use Rattle.std.specs.Prelude.{ℕ, ℤ, pos, negsuc, Bool, true, false, Option, None, List, ◌≡◌, ◌<◌, cond, nat_lt, length}
use Rattle.std.specs.Prelude.{slice_index_or}
use Rattle.amd_model.specs.Below.{count_below}
use Rattle.amd_model.specs.Graph.{Graph, IsGraph}
use Rattle.amd_model.specs.State.{State, Home, Last, Gone, in_block, is_element}
use Rattle.amd_model.specs.Run.{Run, last_state}
use Rattle.amd_model.specs.Listing.{IsPostorder, weight}
use Rattle.amd_types.specs.Links.{named}
use Rattle.amd_words.specs.Words.{word, size_of}
use Rattle.amd_round_laws.specs.Keeps.{LinksLead}

-- the link of a row to the row with which it went; an element has its parent there, and is linked to no row
abbrev pub row_link : List ℤ → List ℤ → ℕ → Option ℕ
row_link link nv v = cond (nat_lt 0 (size_of nv v)) None (named (slice_index_or link v (negsuc 0)))

-- of n rows each that is linked is where its target is, what has a number of rows is an element, and what has neither
-- is held last
pub record LinksAre (n : ℕ) (link nv : List ℤ) (home : ℕ → Home) : Type 0 where
  pub link_long : length link ≡ n
  pub nv_long : length nv ≡ n
  pub counts : (v : ℕ) → word nv v ≡ pos (size_of nv v)
  pub elements : (v : ℕ) → 0 < size_of nv v → home v ≡ Gone v
  pub others : (v : ℕ) → size_of nv v ≡ 0 → row_link link nv v ≡ None → home v ≡ Last
  pub leads : LinksLead n (row_link link nv) home

-- links were shortened: they lead each row where they led it, and an element has the parent that it had
pub record Shortens (nv link link' : List ℤ) : Type 0 where
  pub led : (home : ℕ → Home) → LinksAre (length nv) link nv home → LinksAre (length nv) link' nv home
  pub parents : (e : ℕ) → 0 < size_of nv e → word link' e ≡ word link e

-- the lists tell the state at the end of a run: where each row went, and of each element its parent and the numbers of
-- rows of its block and of its front
pub record IsEnded (g : Graph) (s : State) (link nv f_size : List ℤ) : Type 0 where
  pub links : LinksAre g.size link nv s.home
  pub fronts_long : length f_size ≡ g.size
  pub blocks : (e : ℕ) → is_element s e ≡ true → word nv e ≡ pos (count_below g.size (in_block s e))
  pub no_element : (e : ℕ) → is_element s e ≡ false → word nv e ≡ pos 0
  pub fronts : (e : ℕ) → is_element s e ≡ true → word f_size e ≡ pos (weight g s e)
  pub no_front : (e : ℕ) → e < g.size → is_element s e ≡ false → word f_size e ≡ negsuc 0
  pub parents : (e : ℕ) → is_element s e ≡ true → named (word link e) ≡ s.parent e
  pub tops : (e : ℕ) → is_element s e ≡ true → s.parent e ≡ None → word link e ≡ negsuc 0

-- a run that ended so: its graph, the rows held last, its states, and what it obeys
pub record HasEnded (link nv f_size : List ℤ) : Type 0 where
  pub graph : Graph
  pub dense : ℕ → Bool
  pub aggressive : Bool
  pub first : State
  pub states : List State
  pub laws : IsGraph graph
  pub run : Run graph dense aggressive first states
  pub ended : IsEnded graph (last_state first states) link nv f_size

-- of whatever run ended so, rows lists the assembly tree in postorder, and then the rows held last
abbrev pub ListsEnded : List ℤ → List ℤ → List ℤ → List ℕ → Type 0
ListsEnded link nv f_size rows = (r : HasEnded link nv f_size) →
    IsPostorder r.graph r.dense (last_state r.first r.states) rows
