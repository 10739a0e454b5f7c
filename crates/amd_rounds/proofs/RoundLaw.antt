-- A round in one workspace is a round of the laws: what was found and written, field by field.
use Rattle.std.proofs.Common.{ℕ, negsuc, Bool, true, false, ◌∷◌, ◌≡◌, ◌<◌, ◌≤◌, ◌+◌, ◌-◌, inl, inr, refl, sym, ap, ◌∙◌, arith}
use Rattle.std.proofs.Common.{cond, not, length, filter, sum_by}
use Rattle.std.specs.Prelude.{◌==◌, ◌^◌, min, max, nat_lt}
use Rattle.std.proofs.lemmas.Bool.{cases_Bool, cases_eq, cond-true, cond-false, eq-eqb, ne_eqb, and_parts, and_right, or_parts}
use Rattle.std.proofs.lemmas.Bool.{not-true, not_from_true, false_from_ne_true}
use Rattle.std.proofs.lemmas.List.{get_or-set_same, get_or-set_other, length-set}
use Rattle.amd_model.specs.Figures.{cut, front_sum, entries, ldl_steps, lu_steps}
use Rattle.amd_model.specs.Graph.{Graph}
use Rattle.amd_model.specs.State.{State}
use Rattle.amd_model.specs.Step.{StepAt}
use Rattle.amd_model.specs.Quotient.{QuotientGraph, has, is_empty, turned, pivot, next}
use Rattle.amd_model.proofs.Counting.Below.{clash}
use Rattle.amd_model.proofs.Listings.Words.{has_filter as filter_gives}
use Rattle.amd_types.specs.declared.figures.Figures.{Figures}
use Rattle.amd_round_laws.specs.Keeps as views
use Rattle.amd_round_laws.specs.Views.{counts_of}
use Rattle.amd_round_laws.specs.Rounds.{Absorbed, bound_by_lists}
use Rattle.amd_round_laws.proofs.Lists.Named.{sum_named}
use Rattle.amd_round_laws.proofs.Rounding.{Rounding}
use Rattle.amd_words.specs.Words.{num, word, place, start, size_of, in_front, flip_of, rows}
use Rattle.amd_lists.specs.Layout.{has_list, elements_in, variables_in, list_in}
use Rattle.amd_lists.specs.Renewal.{is_kept, is_outside}
use Rattle.amd_lists.specs.Chains.{DegreeLists}
use Rattle.amd_merging.specs.Restoring.{marked_in, bound_in}
use Rattle.amd_lists.proofs.Frames.{has_same, reads_elements, reads_variables, reads_list}
use Rattle.amd_lists.specs.Workspaces.{Workspace}
use Rattle.amd_rounds.specs.Views.{view_of, is_flip, flipped}
use Rattle.amd_rounds.specs.Keeps.{by_bound}
use Rattle.amd_fronts.specs.Tallies.{front_at}
use Rattle.amd_rounds.specs.Parts.{MergesFront, EndsFront}
use Rattle.amd_rounds.proofs.Standing as standing
use Rattle.amd_rounds.proofs.Halves.{HalfRound, front, kept_lists, ends_by, begins_here, front_here, front_placed, degree_stays}
use Rattle.amd_rounds.proofs.Turned.{done_is, rest_is, rest_parts, elements_left, variables_left, class_front, class_start, class_listed}
use Rattle.amd_rounds.proofs.Turned.{class_order, class_elements, class_variables}
use Rattle.amd_rounds.proofs.Absorbed.{absorbed, taken_ends}
use Rattle.amd_rounds.proofs.RoundLists.{through}
use Rattle.amd_rounds.proofs.Relaid.{open_elements, open_variables, size_open, bound_open}
use Rattle.amd_rounds.proofs.Merged as merging
use Rattle.amd_rounds.proofs.Merged.{rest, into, made, into_is, marked_made, fold_least}
use Rattle.amd_rounds.proofs.RoundSizes.{retired, joined, joined_is, border_is, block_is, live_is}
use Rattle.amd_rounds.proofs.RoundNumbers.{live_stays}
use Rattle.amd_rounds.proofs.RoundFields.{class_word, was_class, front_word, out_count, pivot_word, other, parent_after, front_now}
use Rattle.amd_rounds.proofs.RoundFields.{link_after}
use Rattle.amd_rounds.proofs.NextView as next_view
use Rattle.amd_rounds.proofs.Relinked as relinked

module _ {g : Graph} {dense : ℕ → Bool} {nzaat : ℕ} {aggressive : Bool} {p : Workspace} {t : QuotientGraph} {s : State}
    (r : HalfRound g dense nzaat aggressive p t s) (p4 : Workspace)
    (merges : MergesFront g.size r.c (r.block + r.gone) (r.total - r.gone) r.p3 p4) (v : Workspace)
    (ended : EndsFront g.size r.c (r.block + r.gone) (r.total - r.gone) r.is_built p4 v) where
  abbrev merged : ℕ → Bool
  merged = merging.merged r p4 merges

  abbrev beyond : ℕ → ℕ
  beyond e = num r.p3.w e - r.p3.flag

  -- ---- the absorption, with the parents after the round

  pub absorbed_after : Absorbed aggressive r.c (front r) (counts_of (view_of p)) (view_of p).lists (kept_lists r)
      (view_of p).parent (view_of v).parent beyond
  absorbed_after = record {
    touched = (absorbed r).touched;
    touched_is = (absorbed r).touched_is;
    counted = (absorbed r).counted;
    taken = (absorbed r).taken;
    taken_is = (absorbed r).taken_is;
    parents = λ e. parent_after r p4 merges v ended e ∙ (absorbed r).parents e;
    elements = (absorbed r).elements;
    variables = (absorbed r).variables;
  }

  -- ---- blocks

  pub pivot_border : num v.degree r.c ≡ r.total - r.gone
  pivot_border = ap (λ l. num l r.c) ended.degrees ∙ get_or-set_same ended.bounds r.c (r.total - r.gone) 0
      (let a = ended.sized.degree in let b = ap length ended.degrees in let e = length-set ended.bounds r.c (r.total - r.gone) in
      let f = r.picks.row in omega (arith, a, b, e, f))

  block_now : (e : ℕ) → (view_of v).block e ≡ cond (e == r.c) (r.block + r.gone) ((view_of p).block e)
  block_now e = elim (cases_eq e r.c) [
    | inl q ↦ ap (view_of v).block q ∙ pivot_block ∙ sym (cond-true (e == r.c) (r.block + r.gone) ((view_of p).block e) (eq-eqb e r.c q))
    | inr ne ↦ elim (cases_Bool (has (front r) e)) [
      | inl h ↦ (front_word r p4 merges v ended e h).1
          ∙ sym (class_word p e (was_class r p4 merges v ended e (front_placed r e h))).2
      | inr out ↦ ap (λ z. cond (is_flip z) (flipped z - num v.degree e) 0) (out_count r p4 merges v ended e ne out)
          ∙ ap (λ m. cond (is_flip (word p.e_len e)) (flipped (word p.e_len e) - m) 0) (bound_open r p4 merges v ended e ne out)
    ] ∙ sym (cond-false (e == r.c) (r.block + r.gone) ((view_of p).block e) (ne_eqb e r.c ne))
  ]
    where
      pivot_block : (view_of v).block r.c ≡ r.block + r.gone
      pivot_block = let flip = standing.flip_is ((r.block + r.gone) + (r.total - r.gone)) in
          let word_is = pivot_word r p4 merges v ended in
          let a = cond-true (is_flip (word v.e_len r.c)) (flipped (word v.e_len r.c) - num v.degree r.c) 0 (ap is_flip word_is ∙ flip.0) in
          let b = ap flipped word_is ∙ flip.2 in let e = pivot_border in omega (arith, a, b, e)

  -- ---- the lists of the classes that are placed again

  made_rest : (i : ℕ) → has (made r p4 merges) i ≡ true → has (rest r p4 merges) i ≡ true
  made_rest i h = (filter_gives (λ i. into r p4 merges i == i) (rest r p4 merges) i h).0

  made_front : (i : ℕ) → has (made r p4 merges) i ≡ true → has (front r) i ≡ true
  made_front i h = (rest_parts r i (made_rest i h)).0

  module _ (i : ℕ) (h : has (made r p4 merges) i ≡ true) where
    alone : merged i ≡ false
    alone = and_right (has (rest r p4 merges) i) (not (into r p4 merges i == i)) (not_from_true (into r p4 merges i == i)
        (filter_gives (λ i. into r p4 merges i == i) (rest r p4 merges) i h).1)

    start4 : word p4.pe i ≡ word r.p3.pe i
    start4 = merges.list.merged.links i ∙ cond-false (merged i) (flip_of (into r p4 merges i)) (word r.p3.pe i) alone

    count4 : word p4.e_len i ≡ word r.p3.e_len i
    count4 = merges.list.merged.lists i ∙ cond-false (merged i) (negsuc 0) (word r.p3.e_len i) alone

    length4 : num p4.len i ≡ num r.p3.len i
    length4 = ap (λ (w : Workspace). num w.len i) merges.same

    words4 : p4.iw ≡ r.p3.iw
    words4 = ap (λ (w : Workspace). w.iw) merges.same

    listed4 : has_list p4.pe p4.len i ≡ true
    listed4 = has_same r.p3.pe p4.pe r.p3.len p4.len i start4 length4
        ∙ has_same r.turns.turns.left r.p3.pe r.p3.len r.p3.len i (class_start r i (made_rest i h)) refl ∙ class_listed r i (made_rest i h)

    parts4 : place (word p4.e_len i) ≤ num p4.len i
    parts4 = let a = ap place count4 in let b = class_order r i (made_rest i h) in let e = length4 in omega (arith, a, b, e)

    start5 : word v.pe i ≡ word p4.pe i
    start5 = ap (λ (w : Workspace). word w.pe i) ended.same

    pub elements_now : elements_in v.iw v.pe v.e_len i ≡ r.c ∷ turned ((kept_lists r).elements i)
    elements_now = ap (λ z. rows v.iw (place z) (place (word v.e_len i))) start5
        ∙ reads_elements p4.iw p4.pe p4.e_len p4.len v.iw p4.pe v.e_len v.len i
        (ended.closes.same i (other r p4 merges v ended i (made_front i h)) listed4) parts4
        ∙ ap (λ q. rows q (start p4.pe i) (place (word p4.e_len i))) words4
        ∙ ap (λ z. rows r.p3.iw (place z) (place (word p4.e_len i))) start4
        ∙ ap (λ z. rows r.p3.iw (start r.p3.pe i) (place z)) count4 ∙ class_elements r i (made_rest i h)

    pub variables_now : variables_in v.iw v.pe v.e_len v.len i ≡ turned ((kept_lists r).variables i)
    variables_now =
        ap (λ z. rows v.iw (place z + place (word v.e_len i)) (num v.len i - place (word v.e_len i))) start5
        ∙ reads_variables p4.iw p4.pe p4.e_len p4.len v.iw p4.pe v.e_len v.len i
        (ended.closes.same i (other r p4 merges v ended i (made_front i h)) listed4) parts4
        ∙ ap (λ q. rows q (start p4.pe i + place (word p4.e_len i)) (num p4.len i - place (word p4.e_len i))) words4
        ∙ ap (λ z. rows r.p3.iw (place z + place (word p4.e_len i)) (num p4.len i - place (word p4.e_len i))) start4
        ∙ ap (λ z. rows r.p3.iw (start r.p3.pe i + place z) (num p4.len i - place z)) count4
        ∙ ap (λ m. rows r.p3.iw (start r.p3.pe i + place (word r.p3.e_len i)) (m - place (word r.p3.e_len i))) length4
        ∙ class_variables r i (made_rest i h)

    -- ---- and their bounds

    abbrev bounds : ℕ → ℕ
    bounds j = bound_in (r.total - r.gone) p4.live p4.nv p4.degree j

    degree_made : num v.degree i ≡ bound_in (r.total - r.gone) p4.live p4.nv p4.degree i
    degree_made =
        let q = filter_gives (in_front p4.nv) (front_at p4 r.c) i (ap (λ l. has l i) (marked_made r p4 merges) ∙ h) in
        ap (λ l. num l i) ended.degrees
        ∙ get_or-set_other ended.bounds r.c i (r.total - r.gone) 0 (other r p4 merges v ended i (made_front i h))
        ∙ ended.restores.bounds i
        ∙ cond-true (has (front_at p4 r.c) i) (cond (in_front p4.nv i) (bounds i) (num p4.degree i)) (num p4.degree i) q.0
        ∙ cond-true (in_front p4.nv i) (bounds i) (num p4.degree i) q.1

    share_stays : (j : ℕ) → has ((kept_lists r).variables i) j ≡ true → size_of r.p2.nv j ≡ size_of v.nv j
    share_stays j k =
        let o = (filter_gives (is_outside r.p2.nv) (variables_in p.iw p.pe p.e_len p.len i) j k).1 in
        let q = not-true (in_front r.p2.nv j) (and_parts (nat_lt 0 (size_of r.p2.nv j)) (not (in_front r.p2.nv j)) o).1 in
        (begins_here r).sizes j ∙ sym (size_open r p4 merges v ended j (sym ((begins_here r).marks j) ∙ q))

    lower : num r.p3.degree i ≡ min (num r.p2.degree i)
        (cut (sum_by beyond (filter (is_kept r.p3.w) (elements_in r.p2.iw r.turns.turns.left r.p2.e_len i))
        + sum_by (size_of r.p2.nv) (filter (is_outside r.p2.nv) (variables_in r.p2.iw r.turns.turns.left r.p2.e_len r.p2.len i))))
    lower = r.turns.turns.renewed.bounds i ∙ cond-true (has (front_at r.p2 r.c) i) _ (num r.p2.degree i) (class_front r i (made_rest i h))
        ∙ cond-false _ (num r.p2.degree i) _ (done_is r i (made_front i h) ∙ (rest_parts r i (made_rest i h)).1)

    low_bound : num p4.degree i ≡ min (num p.degree i)
        (cut (sum_by beyond ((kept_lists r).elements i) + sum_by (size_of v.nv) ((kept_lists r).variables i)))
    low_bound = ap (λ (w : Workspace). num w.degree i) merges.same ∙ lower
        ∙ ap (λ l. min (num l i) (cut (sum_by beyond (filter (is_kept r.p3.w) (elements_in r.p2.iw r.turns.turns.left r.p2.e_len i))
        + sum_by (size_of r.p2.nv) (filter (is_outside r.p2.nv) (variables_in r.p2.iw r.turns.turns.left r.p2.e_len r.p2.len i)))))
        (degree_stays r)
        ∙ ap (λ l. min (num p.degree i) (cut (sum_by beyond (filter (is_kept r.p3.w) l)
        + sum_by (size_of r.p2.nv) (filter (is_outside r.p2.nv) (variables_in r.p2.iw r.turns.turns.left r.p2.e_len r.p2.len i)))))
        (elements_left r i (made_front i h))
        ∙ ap (λ l. min (num p.degree i) (cut (sum_by beyond ((kept_lists r).elements i)
        + sum_by (size_of r.p2.nv) (filter (is_outside r.p2.nv) l)))) (variables_left r i (made_front i h))
        ∙ ap (λ m. min (num p.degree i) (cut (sum_by beyond ((kept_lists r).elements i) + m)))
        (sum_named (size_of r.p2.nv) (size_of v.nv) ((kept_lists r).variables i) share_stays)

    bound_now : num v.degree i ≡ bound_by_lists (r.total - r.gone) v.live (kept_lists r) beyond (size_of v.nv) (num p.degree) i
    bound_now = degree_made
        ∙ ap (λ m. min (num p4.degree i + ((r.total - r.gone) - m)) (p4.live - m)) (sym (ended.restores.sizes i))
        ∙ ap (λ m. min (num p4.degree i + ((r.total - r.gone) - size_of v.nv i)) (m - size_of v.nv i))
        (sym (live_stays r p4 merges v ended))
        ∙ ap (λ m. min (m + ((r.total - r.gone) - size_of v.nv i)) (v.live - size_of v.nv i)) low_bound

  -- ---- what is open

  apart : (i : ℕ) → (i == r.c) ≡ false → i ≡ r.c → ⊥
  apart i n e = clash {P = ⊥} (eq-eqb i r.c e) n

  class_of : (i : ℕ) → 0 < size_of p.nv i → has t.placed i ≡ true
  class_of i l = standing.class_placed g dense nzaat p t s r.st i l

  pub members_now : list_in v.iw v.pe v.len r.c ≡ made r p4 merges
  members_now = ap (λ l. list_in v.iw l v.len r.c) (ap (λ (w : Workspace). w.pe) ended.same) ∙ ended.closes.list ∙ marked_made r p4 merges

  members_open : (e i : ℕ) → 0 < size_of p.nv i → has (elements_in p.iw p.pe p.e_len i) e ≡ true → (e == r.c) ≡ false →
      (absorbed r).taken e ≡ false → list_in v.iw v.pe v.len e ≡ list_in p.iw p.pe p.len e
  members_open e i l h n stays =
      let q = or_parts (has (elements_in p.iw p.pe p.e_len r.c) e) (ends_by r e) (sym (taken_ends r e) ∙ stays) in
      let out = false_from_ne_true (has (front r) e) (λ k. clash {P = ⊥} h
      (standing.element_apart g dense nzaat p t s r.st i e (class_of i l) (front_placed r e k))) in
      reads_list p.iw p.pe p.e_len p.len v.iw v.pe v.e_len v.len e
      (through r p4 merges v ended e (r.st.laid.elements i e l h) (apart e n) out q.0 q.1).1

  least_same : p4.least ≡ r.p1.least
  least_same = ap (λ (w : Workspace). w.least) merges.same ∙ ap (λ (w : Workspace). w.least) r.turns.same
      ∙ ap (λ (w : Workspace). w.least) r.begins.same

  least_now : (v.least ≤ r.p1.least) × ((i : ℕ) → has (made r p4 merges) i ≡ true → v.least ≤ num v.degree i)
  least_now =
      let low = fold_least (bound_in (r.total - r.gone) p4.live p4.nv p4.degree) p4.least (marked_in p4.nv (front_at p4 r.c)) in
      let e = ended.restores.least_is in (
        (let a = low.0 in let b = least_same in omega (arith, a, b, e)),
        λ i h. (let a = low.1 i (ap (λ l. has l i) (marked_made r p4 merges) ∙ h) in let b = degree_made i h in omega (arith, a, b, e)),
      )

  -- ---- figures

  figures_stay : p4.figures ≡ p.figures
  figures_stay = ap (λ (w : Workspace). w.figures) merges.same ∙ ap (λ (w : Workspace). w.figures) r.turns.same
      ∙ ap (λ (w : Workspace). w.figures) r.begins.same ∙ ap (λ (w : Workspace). w.figures) r.picks.same

  dense_stays : p4.n_dense ≡ p.n_dense
  dense_stays = ap (λ (w : Workspace). w.n_dense) merges.same ∙ ap (λ (w : Workspace). w.n_dense) r.turns.same
      ∙ ap (λ (w : Workspace). w.n_dense) r.begins.same ∙ ap (λ (w : Workspace). w.n_dense) r.picks.same

  abbrev block : ℕ
  block = r.block + r.gone

  abbrev border : ℕ
  border = r.total - r.gone

  pub rounding : Rounding aggressive (view_of p) (view_of v)
  unfolding absorbed_after
  rounding = record {
    c = r.c;
    front = front r;
    rest = rest r p4 merges;
    made = made r p4 merges;
    into = into r p4 merges;
    kept = kept_lists r;
    beyond = beyond;
    border = r.total - r.gone;
    block = r.block + r.gone;
    least = r.p1.least;
    front_is = front_here r;
    absorbed = absorbed_after;
    rest_is = rest_is r;
    border_is = border_is r p4 merges;
    block_is = block_is r p4 merges;
    into_is = into_is r p4 merges;
    made_is = refl;
    retired = retired r;
    retired_is = λ x. refl;
    joined = joined r p4 merges;
    joined_is = λ x. refl;
    size_is = λ x. ended.restores.sizes x ∙ joined_is r p4 merges x;
    link_is = link_after r p4 merges v ended;
    live_is = live_stays r p4 merges v ended ∙ live_is r p4 merges;
    bound_is = bound_now;
    bound_stays = λ i a. bound_open r p4 merges v ended i (apart i a.other) a.outside;
    elements_are = elements_now;
    elements_stay = λ i a. open_elements r p4 merges v ended i (class_of i a.class) (apart i a.other) a.outside;
    variables_are = variables_now;
    variables_stay = λ i a. open_variables r p4 merges v ended i (class_of i a.class) (apart i a.other) a.outside;
    members_are = members_now;
    members_stay = members_open;
    least_is = least_now;
    blocks = block_now;
    fronts = front_now r p4 merges v ended;
    dense_rows = ap (λ (w : Workspace). w.n_dense) ended.same ∙ dense_stays;
    lnz = ended.lnz ∙ ap (λ (f : Figures). cut (f.lnz + front_sum entries block (border + p4.n_dense))) figures_stay
        ∙ ap (λ m. cut (p.figures.lnz + front_sum entries block (border + m))) dense_stays;
    ldl = ended.ldl ∙ ap (λ (f : Figures). cut (f.n_mult_subs_ldl + front_sum ldl_steps block (border + p4.n_dense))) figures_stay
        ∙ ap (λ m. cut (p.figures.n_mult_subs_ldl + front_sum ldl_steps block (border + m))) dense_stays;
    lu = ended.lu ∙ ap (λ (f : Figures). cut (f.n_mult_subs_lu + front_sum lu_steps block (border + p4.n_dense))) figures_stay
        ∙ ap (λ m. cut (p.figures.n_mult_subs_lu + front_sum lu_steps block (border + m))) dense_stays;
    greatest = ended.greatest ∙ ap (λ (f : Figures). max f.d_max (block + (border + p4.n_dense))) figures_stay
        ∙ ap (λ m. max p.figures.d_max (block + (border + m))) dense_stays;
    rows = ended.sized.nv ∙ sym r.st.laid.sized.nv;
  }

  pivot_is : rounding.c ≡ r.c
  unfolding rounding
  pivot_is = refl

  least_is : rounding.least ≡ r.p1.least
  unfolding rounding
  least_is = refl

  pub view_next : g.size < 2 ^ 63 → (is_empty t.placed ≡ false) × ((u : State) × StepAt g aggressive (pivot t.bound t.placed) s u
      × views.ViewStands g dense (view_of v) (next aggressive t) u)
  view_next = next_view.view_after r p4 merges v rounding pivot_is least_is

  pub linked_next : g.size < 2 ^ 63 → DegreeLists g.size v.head v.next v.last v.degree (by_bound (next aggressive t))
  linked_next small = relinked.linked_after r p4 merges v ended (view_next small).1.2.keeps
