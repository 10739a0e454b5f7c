-- The run of the engine in place: the workspace before its first round, and what its rounds promise.
use Rattle.std.specs.Prelude.{ℕ, ℤ, Bool, true, Option, List, ◌≡◌, ◌<◌, ◌≤◌, ◌+◌, length, max, pos}
use Rattle.std.specs.Prelude.{map, replicate}
use Rattle.std.specs.Borrow.{MutBor}
use Rattle.std.specs.Option.{option_copied}
use Rattle.amd_model.specs.Graph.{Graph}
use Rattle.amd_model.specs.State.{State, IsStart, is_element}
use Rattle.amd_model.specs.Run.{last_state}
use Rattle.amd_model.specs.Quotient.{start_quotient}
use Rattle.amd_model.specs.Figures.{front_sum, entries, ldl_steps, lu_steps, cut}
use Rattle.amd_model.specs.Input.Held.{is_held_last}
use Rattle.amd_types.specs.Permutations.{AreInverse}
use Rattle.amd_types.specs.declared.amd.Control.{Control}
use Rattle.amd_types.specs.declared.amd.Info.{Info}
use Rattle.amd_types.specs.declared.figures.Figures.{Figures}
use Rattle.amd_words.specs.Sides.{nexts, lasts}
use Rattle.amd_words.specs.Words.{num, word}
use Rattle.amd_lists.specs.Layout.{list_in}
use Rattle.amd_lists.specs.Lengths.{HasLinks}
use Rattle.amd_lists.specs.Sizes.{bucket_count}
use Rattle.amd_lists.specs.Workspaces.{Workspace}
use Rattle.amd_postorder.specs.Trees.{link_of}
use Rattle.amd_rounds.specs.Keeps.{Stands}
use Rattle.amd_listing.specs.Ended.{HasEnded, LinksAre, ListsEnded, Shortens}
use Rattle.amd_workspace.specs.Ending.{EndsRows}
use Rattle.amd_workspace.specs.Laying.{IsLaidOut}
use Rattle.amd_workspace.specs.declared.lists.Lists.{Lists}
use Rattle.amd_engine.specs.declared.rows.Laid.{Laid}
use Rattle.amd_workspace.specs.declared.rows.RowLists.{RowLists}
use Rattle.amd_engine.specs.declared.running.Numbers.{Numbers}
use Rattle.amd_engine.specs.declared.running.Told.{Told}
use Rattle.amd_engine_law.specs.Engine.{AreNeighbours, IsAnswerOf, Reaches, TellsElements}

-- the figures before the first round: the rows held last are a front
abbrev pub first_sums : ℕ → Figures
first_sums n_dense = record {
  lnz = cut (0 + front_sum entries n_dense 0);
  n_mult_subs_ldl = cut (0 + front_sum ldl_steps n_dense 0);
  n_mult_subs_lu = cut (0 + front_sum lu_steps n_dense 0);
  d_max = max 1 (n_dense + 0);
}

-- the workspace of these words, lists and numbers
abbrev pub workspace_in : {S P U : Type 0} → List ℤ → RowLists S P U → Numbers → Workspace
workspace_in iw rows numbers = record {
  iw = iw;
  pe = rows.pe.now;
  e_len = rows.e_len.now;
  nv = rows.nv.now;
  len = rows.len.now;
  degree = rows.degree.now;
  w = rows.w.now;
  head = rows.head.now;
  next = nexts rows.sides.now;
  last = lasts rows.sides.now;
  hash = rows.hash.now;
  free = numbers.free;
  live = numbers.live;
  least = numbers.least;
  flag = numbers.flag;
  most = numbers.most;
  n_cmp_a = numbers.told.n_cmp_a;
  n_dense = numbers.told.n_dense;
  figures = numbers.told.figures;
}

-- lists that are laid, and the others that are lent for their rows
abbrev pub rows_in : {S P U : Type 0} → Laid P U → MutBor (List ℤ) → MutBor (List ℤ) → MutBor (List ℕ) → MutBor (List ℕ) →
    MutBor (List (ℕ × ℕ)) → MutBor (List ℕ) → RowLists S P U
rows_in laid e_len nv w head sides hash = record {
  pe = laid.pe;
  len = laid.len;
  e_len = e_len;
  nv = nv;
  degree = laid.degree;
  w = w;
  head = head;
  sides = sides;
  hash = hash;
}

-- all lists are those that were lent
abbrev pub KeepsLaid : {P U : Type 0} → Laid P U → Laid P U → Type 0
KeepsLaid old new = (new.pe.ghost_name ≡ old.pe.ghost_name) × (new.len.ghost_name ≡ old.len.ghost_name)
    × (new.degree.ghost_name ≡ old.degree.ghost_name)

-- the neighbours of each row of a graph are laid in a workspace
pub record LaysGraph (g : Graph) (lists : ℕ → List ℕ) (iw pe : List ℤ) (len : List ℕ) : Type 0 where
  pub neighbours : AreNeighbours g lists len
  pub laid : (i : ℕ) → i < g.size → list_in iw pe len i ≡ lists i

-- whatever graph is laid in the words, starts and lengths, the workspace stands for the start of its elimination, the
-- marked and the dense rows held last
abbrev pub StandsAtStart : Option (List Bool) → ℕ → List ℤ → List ℤ → List ℕ → Workspace → Type 0
StandsAtStart hold threshold iw pe len p = (g : Graph) (lists : ℕ → List ℕ) → LaysGraph g lists iw pe len →
    (first : State) × (nzaat : ℕ) × IsStart g (is_held_last hold g threshold) first ×
    Stands g (is_held_last hold g threshold) nzaat p (start_quotient g (is_held_last hold g threshold) lists) first

-- a run from these lists of a graph came to an end, which it tells, and the lists of the rows stand for it
pub record EndsRounds {S P U : Type 0} (g : Graph) (dense : ℕ → Bool) (aggressive : Bool) (lists : ℕ → List ℕ) (told : Told)
    (rows : RowLists S P U) : Type 0 where
  pub first : State
  pub reaches : Reaches g dense aggressive lists first told.n_dense told.figures
  pub words : ℕ
  pub after : Workspace
  pub stands : Stands g dense words after reaches.end (last_state first reaches.states)
  pub pe_is : after.pe ≡ rows.pe.now
  pub e_len_is : after.e_len ≡ rows.e_len.now
  pub nv_is : after.nv ≡ rows.nv.now
  pub degree_is : after.degree ≡ rows.degree.now

-- so of whatever graph is laid, the marked and the dense rows held last
abbrev pub RunsInPlace : {S P U : Type 0} → Option (List Bool) → ℕ → Bool → List ℤ → List ℤ → List ℕ → Told → RowLists S P U → Type 0
RunsInPlace hold threshold aggressive iw pe len told rows = (g : Graph) (lists : ℕ → List ℕ) → LaysGraph g lists iw pe len →
    EndsRounds g (is_held_last hold g threshold) aggressive lists told rows

-- lists in which an elimination of n rows can start: of the lists by bound and the buckets no entry names a row
pub record AreEmpty {S P U : Type 0} (n : ℕ) (rows : RowLists S P U) : Type 0 where
  pub words : (length rows.e_len.now ≡ n) × (length rows.nv.now ≡ n)
  pub figures : (length rows.degree.now ≡ n) × (length rows.w.now ≡ n)
  pub links : HasLinks n rows.head.now (nexts rows.sides.now) (lasts rows.sides.now)
  pub heads : (b : ℕ) → b < n → n ≤ num rows.head.now b
  pub buckets : length rows.hash.now ≡ bucket_count n
  pub empty : (b : ℕ) → b < bucket_count n → n ≤ num rows.hash.now b

-- the lists of the neighbours of a graph are laid in the first words, as many words as rows are free behind them, and an
-- elimination can start
pub record CanRun {S P U : Type 0} (iw : List ℤ) (free : ℕ) (rows : RowLists S P U) : Type 0 where
  pub empty : AreEmpty (length rows.len.now) rows
  pub laid : IsLaidOut (length rows.len.now) iw rows.pe.now rows.len.now free
  pub room : free + length rows.len.now ≤ length iw
  pub graph : (g : Graph) × (lists : ℕ → List ℕ) × LaysGraph g lists iw rows.pe.now rows.len.now

-- lists for an elimination of n rows as they are when they are made, but for the numbers of rows and of elements
pub record AreFresh {U A : Type 0} (n : ℕ) (degree : List ℕ) (l : Lists U A) : Type 0 where
  pub figures : (length degree ≡ n) × (length l.w.items ≡ n)
  pub heads : (l.head.items ≡ replicate n n) × (l.hash.items ≡ replicate (bucket_count n) n)
  pub links : (length (nexts l.sides.items) ≡ n) × (length (lasts l.sides.items) ≡ n)

-- what rounds left of n rows can be listed: made into links and numbers of rows, it tells the end of a run
pub record AreOver {S P U : Type 0} (n : ℕ) (rows : RowLists S P U) : Type 0 where
  pub words : (length rows.pe.now ≡ n) × (length rows.e_len.now ≡ n) × (length rows.nv.now ≡ n) × (length rows.degree.now ≡ n)
  pub counters : length rows.w.now ≡ n
  pub links : (length rows.head.now ≡ n) × (length rows.len.now ≡ n)
  pub ends : (link f_size blocks : List ℤ) → EndsRows n rows.pe.now rows.e_len.now rows.degree.now link f_size blocks →
      length link ≡ n → length f_size ≡ n → length blocks ≡ n → HasEnded link blocks f_size

-- rows that were so made into links and numbers of rows were listed: the heads are the rows in their order, and the
-- counters their inverse; the links were shortened
pub record AreListed {S P U : Type 0} (n : ℕ) (old new : RowLists S P U) : Type 0 where
  pub link : List ℤ
  pub ends : EndsRows n old.pe.now old.e_len.now old.degree.now link new.e_len.now new.nv.now
  pub long : (length link ≡ n) × (length new.e_len.now ≡ n) × (length new.nv.now ≡ n)
  pub rows : List ℕ
  pub listed : map pos new.head.now ≡ map pos rows
  pub lists : ListsEnded link new.nv.now new.e_len.now rows
  pub inverse : AreInverse n (map pos new.head.now) (map pos new.w.now)
  pub shortens : Shortens new.nv.now link new.pe.now

-- the assembly tree: of each element its parent, and links that lead each other eliminated row to its element
pub record TellsTree (g : Graph) (s : State) (nv pe : List ℤ) : Type 0 where
  pub parents : (e : ℕ) → e < g.size → is_element s e ≡ true → word pe e ≡ link_of (s.parent e)
  pub leads : LinksAre g.size pe nv s.home

-- what is told of the rows of a graph: the permutation and its inverse, of each row the number of rows of its block and of
-- its front, and its parent or the row to which it is linked
pub record Listing : Type 0 where
  pub p : List ℤ
  pub q : List ℤ
  pub nv : List ℤ
  pub e_len : List ℤ
  pub pe : List ℤ

-- what these lists tell, once the rows are listed
abbrev pub listing_in : {S P U : Type 0} → RowLists S P U → Listing
listing_in rows = record {
  p = map pos rows.head.now;
  q = map pos rows.w.now;
  nv = rows.nv.now;
  e_len = rows.e_len.now;
  pe = rows.pe.now;
}

-- of whatever graph is laid the engine answers an ordering, and tells its elements
pub record AnswersInPlace (g : Graph) (lists : ℕ → List ℕ) (hold : Option (List Bool)) (n : ℕ) (control : Control) (rows : Listing)
    (old new : Info) : Type 0 where
  pub answer : IsAnswerOf g lists hold n control rows.p rows.q old new
  pub elements : TellsElements g (last_state answer.first answer.states) rows.nv rows.e_len
  pub tree : TellsTree g (last_state answer.first answer.states) rows.nv rows.pe

-- an info in which a run is told
abbrev pub told_info : Told → Info → Info
told_info told info = record info {
  n_dense = told.n_dense;
  n_cmp_a = told.n_cmp_a;
  lnz = told.figures.lnz;
  n_div = told.figures.lnz;
  n_mult_subs_ldl = told.figures.n_mult_subs_ldl;
  n_mult_subs_lu = told.figures.n_mult_subs_lu;
  d_max = told.figures.d_max;
}

-- so of whatever graph is laid, as it is chosen, and with what a run told
abbrev pub AnswersLaid : {P U : Type 0} → List ℤ → Laid P U → Listing → Told → Type 0
AnswersLaid iw laid rows told = (g : Graph) (lists : ℕ → List ℕ) (info : Info) → LaysGraph g lists iw laid.pe.now laid.len.now →
    AnswersInPlace g lists (option_copied laid.choice.now.hold) (length laid.len.now) laid.choice.now.control.now rows info
    (told_info told info)

-- numbers of 32 bits as what they stand for
abbrev pub values : List ℤ → List ℤ
values = map (λ x. x)
