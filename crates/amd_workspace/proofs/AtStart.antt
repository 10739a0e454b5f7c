-- A workspace in which each row has begun stands for the start of an elimination.
use Rattle.std.proofs.Common.{ℕ, Bool, true, inl, arith, List, ◌≡◌, ◌<◌, ◌&&◌, ◌||◌, ◌∙◌, not, ap, sym, subst, reverse}
use Rattle.std.specs.Prelude.{◌==◌, nat_lt}
use Rattle.std.proofs.lemmas.Bool.{and_parts, ltb-true, not-true}
use Rattle.amd_model.specs.Below.{list_below}
use Rattle.amd_model.specs.Graph.{Graph, IsGraph, degree}
use Rattle.amd_model.specs.State.{State, IsStart, is_class as is_class_of}
use Rattle.amd_model.specs.Quotient.{start_quotient}
use Rattle.amd_model.specs.QuotientLaws.{NamesNeighbours}
use Rattle.amd_model.proofs.States.Words.{class_from}
use Rattle.amd_round_laws.specs.Starts.{IsBegun}
use Rattle.amd_round_laws.proofs.Lists.Rising.{list_same, filter_below}
use Rattle.amd_round_laws.proofs.Starting.{class_test, view_at_start}
use Rattle.amd_words.specs.Words.{num}
use Rattle.amd_lists.specs.Layout.{has_list, list_in}
use Rattle.amd_lists.specs.Chains.{DegreeLists}
use Rattle.amd_lists.proofs.ChainLists.{lists_same}
use Rattle.amd_lists.specs.Workspaces.{Workspace}
use Rattle.amd_rounds.specs.Views.{view_of}
use Rattle.amd_rounds.specs.Laid.{IsLaid}
use Rattle.amd_rounds.specs.Keeps.{Stands, by_bound}
use Rattle.amd_workspace.specs.Starting.{Rows, begins_class, classes_of}

module _ (n nzaat : ℕ) (held : ℕ → Bool) (p : Rows) (v : Workspace)
    (begun : IsBegun n (list_in v.iw p.pe p.len) (num p.len) held (view_of v)) (laid : IsLaid n nzaat v)
    (linked : DegreeLists n v.head v.next v.last v.degree (λ b. reverse (classes_of held p.len n b)))
    (listed : (i : ℕ) → has_list v.pe v.len i ≡ true → (begins_class held p.len i ≡ true) × (i < n))
    (small : (i : ℕ) → i < n → num p.len i < n)
    (g : Graph) (dense : ℕ → Bool) (lists : ℕ → List ℕ) (s : State) (laws : IsGraph g) (size_is : g.size ≡ n)
    (degree_is : (i : ℕ) → i < g.size → num p.len i ≡ degree g i) (held_is : (i : ℕ) → i < g.size → held i ≡ dense i)
    (list_is : (i : ℕ) → i < g.size → list_in v.iw p.pe p.len i ≡ lists i)
    (names : (i : ℕ) → i < g.size → NamesNeighbours g i (lists i)) (start : IsStart g dense s) where
  abbrev is_row : ℕ → Bool
  is_row i = not (dense i || degree g i == 0)

  row : (b i : ℕ) → i < g.size → (begins_class held p.len i && num p.len i == b) ≡ (is_row i && degree g i == b)
  row b i l = ap (λ c. c && num p.len i == b) (class_test (held i) (num p.len i))
      ∙ ap (λ h. not (h || num p.len i == 0) && num p.len i == b) (held_is i l)
      ∙ ap (λ d. not (dense i || d == 0) && d == b) (degree_is i l)

  bound_list : (b : ℕ) → reverse (classes_of held p.len n b) ≡ by_bound (start_quotient g dense lists) b
  unfolding start_quotient
  bound_list b = ap reverse (ap (λ m. list_below m (λ i. begins_class held p.len i && num p.len i == b)) (sym size_is)
      ∙ list_same g.size (λ i. begins_class held p.len i && num p.len i == b) (λ i. is_row i && degree g i == b) (row b)
      ∙ sym (filter_below g.size is_row (λ i. degree g i == b)))

  -- what has a list is a class of the start
  class_at_start : (j : ℕ) → has_list v.pe v.len j ≡ true → is_class_of s j ≡ true
  class_at_start j h =
      let q = listed j h in let within = q.1 in let l : j < g.size = omega (arith, within, size_is) in
      let parts = and_parts (nat_lt 0 (num p.len j)) (not (held j)) q.0 in
      let degree_some = ltb-true 0 (num p.len j) parts.0 in let d = degree_is j l in
      class_from j (s.home j) (start.alone j l (sym (held_is j l) ∙ not-true (held j) parts.1) (omega (arith, degree_some, d)))

  pub stands_at_start : Stands g dense nzaat v (start_quotient g dense lists) s
  stands_at_start = record {
    view = view_at_start n (list_in v.iw p.pe p.len) (num p.len) held (view_of v) begun small g dense lists s laws size_is degree_is
        held_is list_is names start;
    laid = subst (λ m. IsLaid m nzaat v) (sym size_is) laid;
    linked = subst (λ m. DegreeLists m v.head v.next v.last v.degree (by_bound (start_quotient g dense lists))) (sym size_is)
        (lists_same n v.head v.next v.last v.degree (λ b. reverse (classes_of held p.len n b)) (by_bound (start_quotient g dense lists))
        (λ b l. bound_list b) linked);
    held = λ j h. inl (class_at_start j h);
  }
