-- The end of the engine in place: the lists that are left tell the last state of a run, and their listing is an answer.
use Rattle.std.proofs.Common.{ℕ, ℤ, pos, negsuc, Bool, List, Option, ◌≡◌, ◌<◌, ◌∙◌, ap, sym, subst, inl, inr, arith, length, map}
use Rattle.std.proofs.lemmas.Bool.{cases_Bool, cond-true, cond-false}
use Rattle.std.proofs.lemmas.List.{get_or-map, length-map}
use Rattle.amd_model.specs.Below.{count_below}
use Rattle.amd_model.specs.Graph.{Graph, degree}
use Rattle.amd_model.specs.State.{State, is_element, in_block, block_at}
use Rattle.amd_model.specs.Run.{Run, last_state}
use Rattle.amd_model.specs.Listing.{IsPostorder, weight}
use Rattle.amd_model.specs.Quotient.{starting_list}
use Rattle.amd_model.specs.Input.Dense.{IsThreshold}
use Rattle.amd_model.specs.Input.Held.{is_held_last}
use Rattle.amd_model.specs.Input.Pattern.{graph_of, is_pair}
use Rattle.amd_model.proofs.Patterns.DegreeSums.{pattern_graph}
use Rattle.amd_model.proofs.Patterns.StartingLists.{starting_lists}
use Rattle.amd_model.proofs.States.EndState.{IsEnd, at_the_end}
use Rattle.amd_types.specs.Permutations.{AreInverse}
use Rattle.amd_types.specs.declared.amd.Info.{Info}
use Rattle.amd_edges.specs.Visits.{AreCounts}
use Rattle.amd_lists.specs.Layout.{list_in}
use Rattle.amd_words.specs.Words.{num, word, size_of, rows_in}
use Rattle.amd_listing.specs.Ended.{IsEnded, HasEnded, LinksAre, ListsEnded, Shortens}
use Rattle.amd_listing.proofs.LinkSteps.{cases_link}
use Rattle.amd_postorder.specs.Trees.{link_of}
use Rattle.amd_postorder.proofs.Links.{names_some}
use Rattle.amd_model.proofs.Counting.Below.{count_pos}
use Rattle.amd_workspace.specs.Ending.{EndsRows}
use Rattle.amd_workspace.specs.Laying.{IsLaidOut}
use Rattle.amd_engine_law.specs.Engine.{TellsElements}
use Rattle.amd_workspace.specs.declared.rows.RowLists.{RowLists}
use Rattle.amd_engine.specs.declared.running.Told.{Told}
use Rattle.amd_engine.specs.InPlace.{AnswersInPlace, EndsRounds, LaysGraph, RunsInPlace, TellsTree}
use Rattle.amd_engine_law.proofs.EngineLaw.{told_by, run, answer_of}
use Rattle.amd_workspace.proofs.Ended.{ended}

-- ---- one graph

-- the lists that the rounds left, once its rows are ended
module _ {S P U : Type 0} (g : Graph) (dense : ℕ → Bool) (aggressive : Bool) (lists : ℕ → List ℕ) (told : Told) (left : RowLists S P U)
    (e : EndsRounds g dense aggressive lists told left) (pe' e_len' nv' : List ℤ)
    (ends : EndsRows g.size left.pe.now left.e_len.now left.degree.now pe' e_len' nv')
    (pe_long : length pe' ≡ g.size) (e_len_long : length e_len' ≡ g.size) (nv_long : length nv' ≡ g.size) where
  abbrev last : State
  last = last_state e.first e.reaches.states

  the_run : Run g dense aggressive e.first e.reaches.states
  the_run = run g dense aggressive lists e.first told.n_dense told.figures e.reaches

  is_end : IsEnd g dense last
  is_end = at_the_end g dense aggressive e.first e.reaches.states e.reaches.graph the_run

  ends_after : EndsRows g.size e.after.pe e.after.e_len e.after.degree pe' e_len' nv'
  ends_after = subst (λ xs. EndsRows g.size xs e.after.e_len e.after.degree pe' e_len' nv') (sym e.pe_is)
      (subst (λ xs. EndsRows g.size left.pe.now xs e.after.degree pe' e_len' nv') (sym e.e_len_is)
      (subst (λ xs. EndsRows g.size left.pe.now left.e_len.now xs pe' e_len' nv') (sym e.degree_is) ends))

  is_ended : IsEnded g last pe' nv' e_len'
  is_ended = ended g dense e.words e.after e.reaches.end last e.stands is_end pe' e_len' nv' ends_after pe_long e_len_long nv_long

  has_ended : HasEnded pe' nv' e_len'
  has_ended = record {
    graph = g;
    dense = dense;
    aggressive = aggressive;
    first = e.first;
    states = e.reaches.states;
    laws = e.reaches.graph;
    run = the_run;
    ended = is_ended;
  }

  listed : (rows : List ℕ) → ListsEnded pe' nv' e_len' rows → IsPostorder g dense last rows
  unfolding has_ended
  listed rows all = all has_ended

  tells : TellsElements g last nv' e_len'
  tells = record {
    long = (nv_long, e_len_long);
    blocks = λ x l. elim (cases_Bool (is_element last x)) [
      | inl y ↦ is_ended.blocks x y ∙ ap pos (sym (cond-true (is_element last x) (count_below g.size (in_block last x)) 0 y))
      | inr f ↦ is_ended.no_element x f ∙ ap pos (sym (cond-false (is_element last x) (count_below g.size (in_block last x)) 0 f))
    ];
    fronts = λ x l. elim (cases_Bool (is_element last x)) [
      | inl y ↦ is_ended.fronts x y ∙ sym (cond-true (is_element last x) (pos (weight g last x)) (negsuc 0) y)
      | inr f ↦ is_ended.no_front x l f ∙ sym (cond-false (is_element last x) (pos (weight g last x)) (negsuc 0) f)
    ];
  }

  -- links that were shortened tell the tree still
  tree : (pe'' : List ℤ) → Shortens nv' pe' pe'' → TellsTree g last nv' pe''
  unfolding block_at rows_in
  tree pe'' sh = record {
    leads = subst (λ k. LinksAre k pe'' nv' last.home) nv_long
        (sh.led last.home (subst (λ k. LinksAre k pe' nv' last.home) (sym nv_long) is_ended.links));
    parents = λ e l y.
        let some : 0 < size_of nv' e = subst (λ z. 0 < rows_in z) (sym (is_ended.blocks e y))
        (count_pos g.size (in_block last e) e l y) in
        sh.parents e some ∙ elim (cases_link (last.parent e)) [
          | inl q ↦ is_ended.tops e y q ∙ sym (ap link_of q)
          | inr w ↦ names_some (word pe' e) w.0 (sym (is_ended.parents e y ∙ w.1)) ∙ sym (ap link_of w.1)
        ];
  }

-- ---- whatever graph is laid

module _ {S P U : Type 0} (hold : Option (List Bool)) (threshold : ℕ) (aggressive : Bool) (iw pe : List ℤ) (len : List ℕ) (told : Told)
    (left : RowLists S P U) (runs : RunsInPlace hold threshold aggressive iw pe len told left) (pe2 e_len2 nv2 : List ℤ)
    (ends : EndsRows (length len) left.pe.now left.e_len.now left.degree.now pe2 e_len2 nv2)
    (pe_long : length pe2 ≡ length len) (e_len_long : length e_len2 ≡ length len) (nv_long : length nv2 ≡ length len) where
  module _ (g : Graph) (lists : ℕ → List ℕ) (lays : LaysGraph g lists iw pe len) where
    abbrev dense : ℕ → Bool
    dense = is_held_last hold g threshold

    size_is : length len ≡ g.size
    size_is = lays.neighbours.size

    ends_here : EndsRows g.size left.pe.now left.e_len.now left.degree.now pe2 e_len2 nv2
    ends_here = subst (λ k. EndsRows k left.pe.now left.e_len.now left.degree.now pe2 e_len2 nv2) size_is ends

    -- the lists tell the end of some run
    pub is_over : HasEnded pe2 nv2 e_len2
    is_over = has_ended g dense aggressive lists told left (runs g lists lays) pe2 e_len2 nv2 ends_here
        (pe_long ∙ size_is) (e_len_long ∙ size_is) (nv_long ∙ size_is)

    -- the listing is an answer
    pub answers : (rows : List ℕ) → ListsEnded pe2 nv2 e_len2 rows → (t : ℤ) → 0 < length len → IsThreshold (length len) t threshold →
        (p q : List ℤ) → p ≡ map pos rows → AreInverse (length len) p q → (before after : Info) →
        after ≡ told_by told.n_dense told.figures told.n_cmp_a before → (links : List ℤ) → Shortens nv2 pe2 links →
        AnswersInPlace g lists hold (length len) (record { dense = t; aggressive = aggressive })
        (record { p = p; q = q; nv = nv2; e_len = e_len2; pe = links }) before after
    unfolding answer_of
    answers rows all t some is_threshold p q is inverse before after tells' links shortened =
        let e = runs g lists lays in
        let order : IsPostorder g dense (last_state e.first e.reaches.states) rows =
        listed g dense aggressive lists told left e pe2 e_len2 nv2 ends_here
        (pe_long ∙ size_is) (e_len_long ∙ size_is) (nv_long ∙ size_is) rows all in
        record {
          answer = answer_of g aggressive lists hold threshold e.first told.n_dense told.figures e.reaches rows order (length len) t
              (sym size_is) some is_threshold p q is inverse told.n_cmp_a before after tells';
          elements = tells g dense aggressive lists told left e pe2 e_len2 nv2 ends_here
              (pe_long ∙ size_is) (e_len_long ∙ size_is) (nv_long ∙ size_is);
          tree = tree g dense aggressive lists told left e pe2 e_len2 nv2 ends_here
              (pe_long ∙ size_is) (e_len_long ∙ size_is) (nv_long ∙ size_is) links shortened;
        }

-- ---- the same lists under other names

pub laid_same : (n m : ℕ) (iw iw1 pe pe1 : List ℤ) (len len1 : List ℕ) (free : ℕ) → IsLaidOut n iw pe len free → n ≡ m → iw ≡ iw1 →
    pe ≡ pe1 → len ≡ len1 → IsLaidOut m iw1 pe1 len1 free
laid_same n m iw iw1 pe pe1 len len1 free laid a b d e =
    subst (λ k. IsLaidOut k iw1 pe1 len1 free) a (subst (λ xs. IsLaidOut n xs pe1 len1 free) b
    (subst (λ xs. IsLaidOut n iw xs len1 free) d (subst (λ xs. IsLaidOut n iw pe xs free) e laid)))

pub lays_same : (g : Graph) (lists : ℕ → List ℕ) (iw iw1 pe pe1 : List ℤ) (len len1 : List ℕ) → LaysGraph g lists iw pe len → iw ≡ iw1 →
    pe ≡ pe1 → len ≡ len1 → LaysGraph g lists iw1 pe1 len1
lays_same g lists iw iw1 pe pe1 len len1 lays b d e = subst (λ xs. LaysGraph g lists xs pe1 len1) b
    (subst (λ xs. LaysGraph g lists iw xs len1) d (subst (λ xs. LaysGraph g lists iw pe xs) e lays))

-- ---- the two answers

-- of figures that list a permutation each names a row
pub names_row : (n : ℕ) (figures : List ℕ) (q : List ℤ) → AreInverse n (map pos figures) q → (k : ℕ) → k < length figures →
    num figures k < n
names_row n figures q inverse k l =
    let long : length (map pos figures) ≡ length figures = simp length-map in let all = inverse.p_length in
    let there = inverse.there k (omega (arith, l, long, all)) in let small = there.1 in
    let is : pos (num figures k) ≡ pos there.0 = sym (get_or-map pos figures k 0 (pos 0) l) ∙ there.2 in
    let same = ap lib.IntN.nat_abs is in omega (arith, small, same)

-- each of the two is the inverse of the other
pub turned : (n : ℕ) (p q : List ℤ) → AreInverse n p q → AreInverse n q p
turned n p q inverse = record {
  p_length = inverse.q_length;
  q_length = inverse.p_length;
  there = inverse.back;
  back = inverse.there;
}

-- ---- the start

-- the lists of a matrix are laid
pub lays_pattern : (n : ℕ) (ap' ai : List ℤ) (degrees len : List ℕ) (iw pe : List ℤ) →
    AreCounts (graph_of n ap' ai) ((graph_of n ap' ai).edge) degrees → len ≡ degrees →
    ((i : ℕ) → i < n → list_in iw pe len i ≡ starting_list n (is_pair n ap' ai) i) →
    LaysGraph (graph_of n ap' ai) (starting_list n (is_pair n ap' ai)) iw pe len
unfolding graph_of degree
lays_pattern n ap' ai degrees len iw pe counts same lists = record {
  neighbours = record {
    graph = pattern_graph n ap' ai;
    size = ap length same ∙ counts.size;
    counts = λ i l. ap (λ xs. num xs i) same ∙ counts.each i l;
    names = λ i l. starting_lists n ap' ai i;
  };
  laid = lists;
}
