-- After the classes of a front are merged: those that are left can be placed, and the element can be closed.
use Rattle.std.proofs.Common.{ℕ, negsuc, Bool, true, false, List, ◌≡◌, ◌<◌, ◌≤◌, ◌+◌, ◌-◌, ◌⊎◌, inl, inr, sym, subst, ap, ◌∙◌}
use Rattle.std.proofs.Common.{arith, cond, not, filter, length}
use Rattle.std.specs.Prelude.{◌^◌, ◌==◌, min}
use Rattle.std.proofs.Math.Nat.{min-le_left}
use Rattle.amd_lists.proofs.Keys.{key_small}
use Rattle.std.proofs.lemmas.Bool.{cases_Bool, cond-true, cond-false, ne_eqb, not-true, not_from_false}
use Rattle.amd_model.specs.Graph.{Graph}
use Rattle.amd_model.specs.State.{State}
use Rattle.amd_model.specs.Quotient.{QuotientGraph, has, Once}
use Rattle.amd_model.proofs.Counting.Below.{clash}
use Rattle.amd_model.proofs.Listings.Words.{filter_has, has_filter as filter_gives}
use Rattle.amd_words.specs.Words.{num, word, place, is_place, start, in_front, flip_of}
use Rattle.amd_lists.specs.Layout.{has_list, end_of, Layout}
use Rattle.amd_lists.specs.Chains.{DegreeLists, without}
use Rattle.amd_lists.specs.Sizes.{bucket_count}
use Rattle.amd_merging.specs.Merging.{words_of, bucket_of}
use Rattle.amd_merging.specs.Restoring.{marked_in, IsPlaceable}
use Rattle.amd_lists.proofs.Frames.{has_parts, has_from, dropped}
use Rattle.amd_lists.specs.Workspaces.{Workspace}
use Rattle.amd_rounds.specs.Keeps.{by_bound}
use Rattle.amd_fronts.specs.Tallies.{front_at}
use Rattle.amd_rounds.specs.Parts.{LinksByBound, MergesFront}
use Rattle.amd_rounds.specs.Premises.{HasFront, CanEnd}
use Rattle.amd_rounds.proofs.ByBound.{bound_names}
use Rattle.amd_rounds.proofs.Renewed.{recounted}
use Rattle.amd_rounds.proofs.Halves.{HalfRound, front, can_turn, front_begun, front_other, front_placed, degree_stays, left_pivot}
use Rattle.amd_rounds.proofs.RoundLists.{half_place, no_mark}
use Rattle.amd_rounds.proofs.Turned.{pivot_start as pivot_turned}
use Rattle.amd_rounds.proofs.Mergeable.{can_merge}
use Rattle.amd_rounds.proofs.Merged as merging
use Rattle.amd_rounds.proofs.Merged.{rest, into, made, marked_made, front_stays, front_merged, not_rest, pivot_start}
use Rattle.amd_rounds.proofs.RoundSizes.{live_parts, live_few, made_sizes, all_rows}

module _ {g : Graph} {dense : ℕ → Bool} {nzaat : ℕ} {aggressive : Bool} {p : Workspace} {t : QuotientGraph} {s : State}
    (r : HalfRound g dense nzaat aggressive p t s) (p4 : Workspace)
    (merges : MergesFront g.size r.c (r.block + r.gone) (r.total - r.gone) r.p3 p4) where
  abbrev merged : ℕ → Bool
  merged = merging.merged r p4 merges

  -- ---- the front

  drops : (j : ℕ) → (word p4.pe j ≡ word r.p3.pe j) ⊎ (is_place (word p4.pe j) ≡ false)
  unfolding is_place
  drops j = elim (cases_Bool (merged j)) [
    | inl y ↦ inr (ap is_place (merges.list.merged.links j ∙ cond-true (merged j) (flip_of (into r p4 merges j)) (word r.p3.pe j) y))
    | inr n ↦ inl (merges.list.merged.links j ∙ cond-false (merged j) (flip_of (into r p4 merges j)) (word r.p3.pe j) n)
  ]

  still_laid : Layout g.size r.p3.iw p4.pe p4.e_len r.p3.len r.p3.free
  unfolding place
  still_laid = let y = dropped (can_merge r).front.laid p4.pe drops in
      recounted p4.e_len y (λ j h. elim (cases_Bool (merged j)) [
        | inl m ↦ (let e = ap place (merges.list.merged.lists j ∙ cond-true (merged j) (negsuc 0) (word r.p3.e_len j) m) in
            omega (arith, e))
        | inr n ↦ (let e = ap place (merges.list.merged.lists j ∙ cond-false (merged j) (negsuc 0) (word r.p3.e_len j) n) in
            let a = y.parts j h in omega (arith, e, a))
      ])

  pub has_front : HasFront g.size r.c p4
  has_front = record {
    row = (can_merge r).front.row;
    laid = subst (λ (w : Workspace). Layout g.size w.iw p4.pe p4.e_len w.len w.free) (sym merges.same) still_laid;
    end = subst (λ (w : Workspace). w.free ≤ length w.iw) (sym merges.same) (can_merge r).front.end;
    list = record {
      starts = ap is_place (pivot_start r p4 merges) ∙ (can_merge r).front.list.starts;
      within = subst (λ (w : Workspace). place (word p4.pe r.c) + num w.len r.c ≤ w.free) (sym merges.same)
          (let a = ap place (pivot_start r p4 merges) in let b = (can_merge r).front.list.within in omega (arith, a, b));
      once = subst Once (sym (front_stays r p4 merges)) (can_merge r).front.list.once;
      apart = ap (λ l. has l r.c) (front_stays r p4 merges) ∙ (can_merge r).front.list.apart;
    };
  }

  -- ---- its classes

  lower : (a b : Bool) (d m : ℕ) → cond a (cond b d (min d m)) d ≤ d
  lower true true d m = omega arith
  lower true false d m = min-le_left d m
  lower false b d m = omega arith

  lowered : (a b : Bool) (d m x : ℕ) → x ≡ cond a (cond b d (min d m)) d → x ≤ d
  lowered a b d m x e = let l = lower a b d m in omega (arith, e, l)

  pub bound_low : (i : ℕ) → has (front_at p4 r.c) i ≡ true → num p4.degree i < g.size
  bound_low i h =
      let here : has (front_at r.p2 r.c) i ≡ true = ap (λ l. has l i) (front_begun r ∙ sym (front_merged r p4 merges)) ∙ h in
      let a = lowered _ _ (num r.p2.degree i) _ (num r.p3.degree i) (r.turns.turns.renewed.bounds i) in
      let e = ((can_turn r).classes i here).bound in
      let f = ap (λ (w : Workspace). num w.degree i) merges.same in omega (arith, a, e, f)

  is_made : (i : ℕ) → has (front_at p4 r.c) i ≡ true → in_front p4.nv i ≡ true → has (made r p4 merges) i ≡ true
  is_made i h k = ap (λ l. has l i) (sym (marked_made r p4 merges)) ∙ filter_has (in_front p4.nv) (front_at p4 r.c) i h k

  made_rest : (i : ℕ) → has (made r p4 merges) i ≡ true → has (rest r p4 merges) i ≡ true
  made_rest i h = (filter_gives (λ i. into r p4 merges i == i) (rest r p4 merges) i h).0

  placeable : (i : ℕ) → has (front_at p4 r.c) i ≡ true → in_front p4.nv i ≡ true →
      IsPlaceable g.size (r.total - r.gone) p4.nv p4.degree p4.last i
  placeable i h k = let m = is_made i h k in let sizes = made_sizes r p4 merges i m in record {
    class = sizes.2;
    part = sizes.0;
    bound = bound_low i h;
    key = (let row = (can_merge r).front.row in let e = (can_merge r).renewed.keys i (made_rest i m) in
        let a = key_small g.size (words_of r.p3.iw r.p3.pe r.p3.len i) (omega (arith, row)) in
        let f = ap (λ (w : Workspace). num w.last i) merges.same in omega (arith, a, e, f));
  }

  heads_marked : (b : ℕ) → b < bucket_count g.size → num p4.hash b < g.size →
      (1 < num p4.len r.c) × (has (marked_in p4.nv (front_at p4 r.c)) (num p4.hash b) ≡ true) ×
      (bucket_of (num p4.len r.c) p4.last (num p4.hash b) ≡ b)
  heads_marked b l h = let q = merges.list.heads b l h in (
    (let a = q.0 in let f = ap (λ (w : Workspace). num w.len r.c) merges.same in omega (arith, a, f)),
    ap (λ xs. has xs (num p4.hash b)) (marked_made r p4 merges) ∙ sym (ap (λ xs. has xs (num p4.hash b)) merges.list.made) ∙ q.1,
    ap (λ (w : Workspace). bucket_of (num w.len r.c) w.last (num p4.hash b)) merges.same ∙ q.2,
  )

  -- ---- lists by bound

  abbrev pub lists : ℕ → List ℕ
  lists d = filter (λ j. not (has (front_at r.p2 r.c) j)) (without r.c (by_bound t d))

  named : (i : ℕ) → has (front_at r.p2 r.c) i ≡ true → has (without r.c (by_bound t (num r.p2.degree i))) i ≡ true
  named i h =
      let f : has (front r) i ≡ true = ap (λ l. has l i) (sym (front_begun r)) ∙ h in
      let placed = front_placed r i f in
      let bound : num r.p2.degree i ≡ t.bound i = ap (λ l. num l i) (degree_stays r) ∙ r.st.view.keeps.bound i placed in
      filter_has (λ j. not (j == r.c)) (by_bound t (num r.p2.degree i)) i
      (ap (λ d. has (by_bound t d) i) bound ∙ bound_names t i placed)
      (not_from_false (i == r.c) (ne_eqb i r.c (λ e. clash {P = ⊥} f (ap (has (front r)) e ∙ front_other r))))

  linked_begun : LinksByBound g.size r.p2 (λ d. without r.c (by_bound t d))
  linked_begun = subst (λ (w : Workspace). LinksByBound g.size w (λ d. without r.c (by_bound t d))) (sym r.begins.same)
      (r.picks.linked (by_bound t) r.st.linked)

  outside : (d x : ℕ) → has (lists d) x ≡ true → has (front r) x ≡ false
  outside d x h = ap (λ l. has l x) (sym (front_begun r)) ∙ not-true (has (front_at r.p2 r.c) x)
      (filter_gives (λ j. not (has (front_at r.p2 r.c) j)) (without r.c (by_bound t d)) x h).1

  pub still_linked : LinksByBound g.size p4 lists
  still_linked = subst (λ (w : Workspace). DegreeLists g.size w.head p4.next w.last w.degree lists) (sym merges.same)
      (merges.list.linked r.p3.head r.p3.degree lists (λ d x l h. not_rest r p4 merges x (outside d x h))
      (r.turns.linked (λ d. without r.c (by_bound t d)) named linked_begun))

  -- ---- an element behind all lists

  stays_before : r.is_built ≡ true → (j : ℕ) → (j ≡ r.c → ⊥) → has_list p4.pe p4.len j ≡ true → end_of p4.pe p4.len j ≤ start p4.pe r.c
  stays_before built j ne h =
      let parts = has_parts p4.pe p4.len j h in let some = parts.1 in
      let alone = no_mark (merged j) (into r p4 merges j) (word r.p3.pe j) (ap is_place (sym (merges.list.merged.links j)) ∙ parts.0) in
      let at : word p4.pe j ≡ word r.p3.pe j = merges.list.merged.links j
      ∙ cond-false (merged j) (flip_of (into r p4 merges j)) (word r.p3.pe j) alone in
      let half = half_place r j (ap is_place (sym at) ∙ parts.0) in
      let count = ap (λ (w : Workspace). num w.len j) merges.same in
      let short = r.turns.turns.renewed.renewed.shorter j in
      let old = has_from r.p2.pe r.p2.len j (ap is_place (sym half.0 ∙ sym at) ∙ parts.0) (omega (arith, some, count, short)) in
      let a = r.begins.before built j ne old in
      let b = ap place (at ∙ half.0) in let e = ap place (pivot_start r p4 merges ∙ pivot_turned r ∙ left_pivot r) in
      omega (arith, a, b, e, count, short)

  pub can_end : g.size < 2 ^ 63 → CanEnd g.size r.c (r.block + r.gone) (r.total - r.gone) r.is_built p4
  can_end small = record {
    front = has_front;
    classes = placeable;
    order = (
      (live_parts r p4 merges).0,
      (let a = (live_parts r p4 merges).1 in let b = live_few r p4 merges in omega (arith, a, b)),
    );
    heads = heads_marked;
    linked = (lists, still_linked, λ d x l h. ap (λ l. has l x) (front_merged r p4 merges) ∙ outside d x h);
    dense = (let a = all_rows r p4 merges in
        let e = ap (λ (w : Workspace). w.n_dense) merges.same in
        let f = ap (λ (w : Workspace). w.n_dense) r.turns.same in let h = ap (λ (w : Workspace). w.n_dense) r.begins.same in
        let k = ap (λ (w : Workspace). w.n_dense) r.picks.same in omega (arith, a, e, f, h, k, small));
    before = stays_before;
  }
