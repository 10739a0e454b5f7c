-- The engine in place runs the rules: it starts where an elimination starts, and its rounds come to an end.
use Rattle.std.proofs.Common.{◌∙◌, ℕ, ℤ, pos, Bool, List, Option, ◌≡◌, ◌≤◌, ◌<◌, ◌+◌, ◌||◌, ap, sym, subst, refl, arith, length, reverse}
use Rattle.std.specs.Prelude.{nat_lt, replicate}
use Rattle.amd_model.specs.Below.{count_below}
use Rattle.amd_model.specs.Graph.{Graph}
use Rattle.amd_model.specs.State.{State, IsStart}
use Rattle.amd_model.specs.Quotient.{QuotientGraph, start_quotient}
use Rattle.amd_model.specs.Run.{last_state}
use Rattle.amd_model.specs.Input.Dense.{is_dense}
use Rattle.amd_model.specs.Input.Held.{is_marked, is_held_last}
use Rattle.amd_model.specs.Ordering.{Follows}
use Rattle.amd_model.proofs.States.RunsExist.{first_state, starts}
use Rattle.amd_types.specs.declared.figures.Figures.{Figures}
use Rattle.amd_words.specs.Words.{num}
use Rattle.amd_lists.specs.Chains.{DegreeLists}
use Rattle.amd_lists.specs.Sizes.{bucket_count}
use Rattle.amd_lists.specs.Workspaces.{Workspace}
use Rattle.amd_lists.specs.Sizes.{IsSized}
use Rattle.amd_rounds.specs.Laid.{IsLaid}
use Rattle.amd_rounds.proofs.Rounds.{StandsForSome}
use Rattle.amd_rounds.specs.Keeps.{Stands, AreRounds, NoRowIsLive}
use Rattle.amd_workspace.specs.Laying.{IsLaidOut}
use Rattle.amd_workspace.specs.Starting.{KeepsRows, Rows, BeginsRows, held_in, begins_class, classes_of}
use Rattle.amd_workspace.proofs.Begun.{rows_of, begun_view, begun_laid, listed_row}
use Rattle.amd_workspace.proofs.AtStart.{stands_at_start}
use Rattle.amd_workspace.specs.declared.rows.RowLists.{RowLists}
use Rattle.amd_engine.specs.declared.running.Numbers.{Numbers}
use Rattle.amd_engine.specs.InPlace.{AreOver, LaysGraph, RunsInPlace, StandsAtStart, first_sums, workspace_in}
use Rattle.amd_engine.proofs.EndingLaw.{is_over}
use Rattle.amd_engine_law.proofs.EngineLaw.{degree_small}

-- lists that are lent on are those that were lent
pub keeps_rows : {S P U : Type 0} (a b c : RowLists S P U) → KeepsRows a b → KeepsRows b c → KeepsRows a c
keeps_rows a b c l m = (
  m.0 ∙ l.0,
  m.1 ∙ l.1,
  m.2 ∙ l.2,
  m.3 ∙ l.3,
  m.4 ∙ l.4,
  m.5 ∙ l.5,
  m.6 ∙ l.6,
  m.7 ∙ l.7,
  m.8 ∙ l.8,
)

-- what the lists of a workspace say before its first round, beside its rows
pub record IsFresh (n : ℕ) (held : ℕ → Bool) (degrees : List ℕ) (v : Workspace) : Type 0 where
  pub sized : (length v.head ≡ n) × (length v.next ≡ n) × (length v.last ≡ n) × (length v.hash ≡ bucket_count n)
  pub linked : DegreeLists n v.head v.next v.last v.degree (λ b. reverse (classes_of held degrees n b))
  pub empty : (b : ℕ) → b < bucket_count n → n ≤ num v.hash b
  pub live : v.live ≡ count_below n (begins_class held degrees)
  pub dense : v.n_dense ≡ count_below n held
  pub sums : v.figures ≡ first_sums v.n_dense
  pub least : v.least ≡ 0
  pub most : v.most ≡ 0
  pub packs : v.n_cmp_a ≡ 0
  pub two : 2 ≤ v.flag
  pub room : v.free + n ≤ length v.iw

-- no row has as many neighbours as there are rows
pub degrees_small : (g : Graph) (lists : ℕ → List ℕ) (iw pe : List ℤ) (len : List ℕ) → LaysGraph g lists iw pe len →
    (i : ℕ) → i < length len → num len i < length len
degrees_small g lists iw pe len lays i l =
    let s = lays.neighbours.size in
    let within : i < g.size = omega (arith, l, s) in
    let c = lays.neighbours.counts i within in
    let d = degree_small g lays.neighbours.graph i within in
    omega (arith, s, c, d)

module _ (hold : Option (List Bool)) (threshold : ℕ) (p : Rows) (v : Workspace)
    (begins : BeginsRows (length p.len) (length p.len) (held_in hold threshold p.len) p (rows_of v))
    (fresh : IsFresh (length p.len) (held_in hold threshold p.len) p.len v) (laid : IsLaidOut (length p.len) v.iw p.pe p.len v.free)
    (g : Graph) (lists : ℕ → List ℕ) (lays : LaysGraph g lists v.iw p.pe p.len) where
  abbrev n : ℕ
  n = length p.len

  abbrev held : ℕ → Bool
  held = held_in hold threshold p.len

  abbrev dense : ℕ → Bool
  dense = is_held_last hold g threshold

  size_is : g.size ≡ length p.len
  size_is = sym lays.neighbours.size

  held_is : (i : ℕ) → i < g.size → held_in hold threshold p.len i ≡ is_held_last hold g threshold i
  unfolding is_dense
  held_is i l = ap (λ d. is_marked hold i || nat_lt threshold d) (lays.neighbours.counts i l)

  sized : IsSized (length p.len) v
  sized = let a = begins.long in record {
    pe = a.pe;
    e_len = a.e_len;
    nv = a.nv;
    len = a.len;
    degree = a.degree;
    w = a.w;
    head = fresh.sized.0;
    next = fresh.sized.1;
    last = fresh.sized.2;
    hash = fresh.sized.3;
  }

  is_laid : IsLaid (length p.len) v.free v
  is_laid = begun_laid (length p.len) held p v begins (replicate (length p.len) (pos 0)) laid.layout v.free sized fresh.room laid.room
      (let w = laid.words in omega (arith, w)) laid.starts (degrees_small g lists v.iw p.pe p.len lays) fresh.most fresh.two fresh.empty
      fresh.packs fresh.live

  -- the workspace stands for the start of an elimination
  pub stands_first : Stands g dense v.free v (start_quotient g dense lists) (first_state g dense)
  stands_first =
      let view = begun_view (length p.len) held p v begins fresh.least fresh.live fresh.dense (ap (λ (f : Figures). f.lnz) fresh.sums)
      (ap (λ (f : Figures). f.n_mult_subs_ldl) fresh.sums) (ap (λ (f : Figures). f.n_mult_subs_lu) fresh.sums)
      (ap (λ (f : Figures). f.d_max) fresh.sums) in
      stands_at_start (length p.len) v.free held p v view is_laid fresh.linked
      (λ i h. let k = listed_row (length p.len) held p v begins i h in (k.0.class, k.1))
      (degrees_small g lists v.iw p.pe p.len lays) g dense lists
      (first_state g dense)
      lays.neighbours.graph size_is lays.neighbours.counts held_is lays.laid lays.neighbours.names (starts g dense)

  -- so it does whatever graph is laid
  pub stands_start : (first : State) × (nzaat : ℕ) × IsStart g (is_held_last hold g threshold) first
      × Stands g (is_held_last hold g threshold) nzaat v (start_quotient g (is_held_last hold g threshold) lists) first
  stands_start = (first_state g dense, v.free, starts g dense, stands_first)

-- rounds from the start of an elimination came to an end, with these words, lists and numbers
module _ {S P U : Type 0} (hold : Option (List Bool)) (threshold : ℕ) (aggressive : Bool) (iw pe : List ℤ) (len : List ℕ)
    (before : Workspace) (words : List ℤ) (rows : RowLists S P U) (numbers : Numbers)
    (start : StandsAtStart hold threshold iw pe len before) (rounds : AreRounds aggressive before (workspace_in words rows numbers)) where
  abbrev after : Workspace
  after = workspace_in words rows numbers

  -- what they lead to, of a graph that is laid
  abbrev pub reached : (g : Graph) (lists : ℕ → List ℕ) (lays : LaysGraph g lists iw pe len) → (u : QuotientGraph)
      × ((states : List State)
      × Follows g aggressive (start_quotient g (is_held_last hold g threshold) lists) (start g lists lays).0 states u
      × Stands g (is_held_last hold g threshold) (start g lists lays).1 (workspace_in words rows numbers) u
      (last_state (start g lists lays).0 states))
  reached g lists lays = let from = start g lists lays in let dense : ℕ → Bool = is_held_last hold g threshold in
      rounds g dense from.1 (start_quotient g dense lists) from.0 from.3

  pub is_sized : (g : Graph) (lists : ℕ → List ℕ) → LaysGraph g lists iw pe len → IsSized (length len) (workspace_in words rows numbers)
  is_sized g lists lays = subst (λ n. IsSized n after) (sym lays.neighbours.size) (reached g lists lays).1.2.laid.sized

  pub packs_few : (g : Graph) (lists : ℕ → List ℕ) → LaysGraph g lists iw pe len → numbers.told.n_cmp_a ≤ length len
  packs_few g lists lays = let p = (reached g lists lays).1.2.laid.packs in let s = lays.neighbours.size in omega (arith, p, s)

  module _ (over : NoRowIsLive (workspace_in words rows numbers)) where
    pub runs_in_place : RunsInPlace hold threshold aggressive iw pe len numbers.told rows
    runs_in_place g lists lays =
        let dense : ℕ → Bool = is_held_last hold g threshold in
        let from = start g lists lays in let to = reached g lists lays in let stands = to.1.2 in let k = stands.view.fronts in record {
          first = from.0;
          reaches = record {
            graph = lays.neighbours.graph;
            start = from.2;
            fits = from.3.view.fits;
            end = to.0;
            states = to.1.0;
            follows = to.1.1;
            over = over g dense from.1 to.0 (last_state from.0 to.1.0) stands;
            tells = record {
              dense_rows = k.dense_rows;
              lnz = k.lnz;
              ldl = k.ldl;
              lu = k.lu;
              greatest = k.greatest;
            };
          };
          words = from.1;
          after = after;
          stands = stands;
          pe_is = refl;
          e_len_is = refl;
          nv_is = refl;
          degree_is = refl;
        }

    -- what they left can be listed
    pub are_over : (g : Graph) (lists : ℕ → List ℕ) → LaysGraph g lists iw pe len → AreOver (length len) rows
    are_over g lists lays = let z = is_sized g lists lays in record {
      words = (z.pe, z.e_len, z.nv, z.degree);
      counters = z.w;
      links = (z.head, z.len);
      ends = λ link f_size blocks ends link_long f_size_long blocks_long. is_over hold threshold aggressive iw pe len numbers.told
          rows runs_in_place link f_size blocks ends link_long f_size_long blocks_long g lists lays;
    }

-- a workspace that stands for the start of an elimination of a graph that is laid stands for something
pub start_some : (hold : Option (List Bool)) (threshold : ℕ) (iw pe : List ℤ) (len : List ℕ) (p : Workspace) →
    StandsAtStart hold threshold iw pe len p → (g : Graph) (lists : ℕ → List ℕ) → LaysGraph g lists iw pe len → StandsForSome p
start_some hold threshold iw pe len p start g lists lays =
    let from = start g lists lays in let dense : ℕ → Bool = is_held_last hold g threshold in
    (g, dense, from.1, start_quotient g dense lists, from.0, from.3)
