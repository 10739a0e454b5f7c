-- In a listing the blocks below an element stand before its block, and those above it after it.
use Rattle.std.proofs.Common.{ℕ, Bool, true, false, ◌≡◌, ◌<◌, ◌≤◌, ◌&&◌, not, ◌⊎◌, inl, inr, refl, sym, ◌∙◌, ap, subst, arith, List, []}
use Rattle.std.proofs.Common.{◌∷◌, ◌++◌, Option, None, Some, cond, is_none}
use Rattle.std.specs.Prelude.{filter, nat_le, nat_lt, ◌==◌}
use Rattle.std.proofs.lemmas.Bool.{false_from_ne_true, lt-ltb, ltb-true, cases_lt, true≢false, false≢true, cases_eq, and_parts, and_from}
use Rattle.std.proofs.lemmas.Bool.{or_cases, or_left, or_right, eqb-true, eq-eqb, ne_eqb, not-true, not_from_false}
use Rattle.amd_model.specs.Below.{list_below}
use Rattle.amd_model.specs.Graph.{Graph}
use Rattle.amd_model.specs.State.{State, Last, Gone, in_block, is_element}
use Rattle.amd_model.specs.Listing.{assembly_tree, block_list, weight, is_some_of, is_child, heaviest, heaviest_last, children, roots}
use Rattle.amd_model.specs.Listing.{ListsTrees, none, more}
use Rattle.amd_model.proofs.States.Words.{block_gives, block_from}
use Rattle.amd_model.proofs.Listings.Tree.{IsTree, Descends, self, via, Proper, descends_join}
use Rattle.amd_model.specs.Quotient.{has, Once}
use Rattle.amd_model.proofs.Quotient.Start.{has_below as below_names, once_below}
use Rattle.amd_model.proofs.Quotient.Lists.{has_append as append_names, has_filter as filter_names, once_push, once_filter}

pub has_head : (u x : ℕ) (xs : List ℕ) → u ≡ x → has (x ∷ xs) u ≡ true
unfolding has
has_head u x xs q = or_left (x == u) (has xs u) (eq-eqb x u (sym q))

pub has_tail : (u x : ℕ) (xs : List ℕ) → has xs u ≡ true → has (x ∷ xs) u ≡ true
unfolding has
has_tail u x xs q = or_right (x == u) (has xs u) q

pub has_cases : (u x : ℕ) (xs : List ℕ) → has (x ∷ xs) u ≡ true → (u ≡ x) ⊎ (has xs u ≡ true)
unfolding has
has_cases u x xs h = elim (or_cases (x == u) (has xs u) h) [ inl a ↦ inl (sym (eqb-true x u a)) | inr a ↦ inr a ]

pub has_none : (u : ℕ) → has [] u ≡ true → ⊥
unfolding has
has_none u h = false≢true h

pub has_append : (u : ℕ) (xs ys : List ℕ) → has (xs ++ ys) u ≡ true → (has xs u ≡ true) ⊎ (has ys u ≡ true)
has_append u xs ys h = or_cases (has xs u) (has ys u) (sym (append_names xs ys u) ∙ h)

pub has_left : (u : ℕ) (xs ys : List ℕ) → has xs u ≡ true → has (xs ++ ys) u ≡ true
has_left u xs ys h = append_names xs ys u ∙ or_left (has xs u) (has ys u) h

pub has_right : (u : ℕ) (xs ys : List ℕ) → has ys u ≡ true → has (xs ++ ys) u ≡ true
has_right u xs ys h = append_names xs ys u ∙ or_right (has xs u) (has ys u) h

pub has_mid : (v : ℕ) (xs ps bs : List ℕ) → xs ≡ ps ++ v ∷ bs → has xs v ≡ true
has_mid v xs ps bs q = subst (λ k. has k v ≡ true) (sym q) (has_right v ps (v ∷ bs) (has_head v v bs refl))

pub split_append : (xs ys ps bs : List ℕ) (v : ℕ) → xs ++ ys ≡ ps ++ v ∷ bs →
    ((cs : List ℕ) × (xs ≡ ps ++ v ∷ cs)) ⊎ ((cs : List ℕ) × (ps ≡ xs ++ cs) × (ys ≡ cs ++ v ∷ bs))
split_append [] ys ps bs v q = inr (ps, refl, q)
split_append (x ∷ xs) ys [] bs v q = inl (xs, (let k : x ≡ v = cc in ap (λ m. m ∷ xs) k))
split_append (x ∷ xs) ys (a ∷ ps) bs v q =
    let k : x ≡ a = cc in let t : xs ++ ys ≡ ps ++ v ∷ bs = cc in
    elim (split_append xs ys ps bs v t) [
      | inl r ↦ inl (r.0, (let p = r.1 in cc))
      | inr r ↦ inr (r.0, (let p = r.1 in cc), r.2)
    ]

pub has_below : (n : ℕ) (p : ℕ → Bool) (u : ℕ) → has (list_below n p) u ≡ true → (u < n) × (p u ≡ true)
has_below n p u h = let q = and_parts (nat_lt u n) (p u) (sym (below_names n p u) ∙ h) in (ltb-true u n q.0, q.1)

pub below_has : (n : ℕ) (p : ℕ → Bool) (u : ℕ) → u < n → p u ≡ true → has (list_below n p) u ≡ true
below_has n p u l h = below_names n p u ∙ and_from (nat_lt u n) (p u) (lt-ltb u n l) h

pub has_filter : (p : ℕ → Bool) (xs : List ℕ) (u : ℕ) → has (filter p xs) u ≡ true → (has xs u ≡ true) × (p u ≡ true)
has_filter p xs u h = and_parts (has xs u) (p u) (sym (filter_names p xs u) ∙ h)

pub filter_has : (p : ℕ → Bool) (xs : List ℕ) (u : ℕ) → has xs u ≡ true → p u ≡ true → has (filter p xs) u ≡ true
filter_has p xs u h k = filter_names p xs u ∙ and_from (has xs u) (p u) h k

pub heaviest_in : (w : ℕ → ℕ) (e : ℕ) (xs : List ℕ) → has (e ∷ xs) (heaviest w e xs) ≡ true
unfolding heaviest
heaviest_in w e [] = has_head e e [] refl
heaviest_in w e (k ∷ rest) = go (nat_le (w e) (w k)) (λ b. heaviest_in w (cond b k e) rest)
  where
    go : (b : Bool) → ((b : Bool) → has (cond b k e ∷ rest) (heaviest w (cond b k e) rest) ≡ true) →
        has (e ∷ (k ∷ rest)) (heaviest w (cond b k e) rest) ≡ true
    go true on = has_tail (heaviest w k rest) e (k ∷ rest) (on true)
    go false on = elim (has_cases (heaviest w e rest) e rest (on false)) [
      | inl q ↦ has_head (heaviest w e rest) e (k ∷ rest) q
      | inr q ↦ has_tail (heaviest w e rest) e (k ∷ rest) (has_tail (heaviest w e rest) k rest q)
    ]

-- moving the heaviest keeps the members
pub moved_has : (w : ℕ → ℕ) (xs : List ℕ) (u : ℕ) → has xs u ≡ true → has (heaviest_last w xs) u ≡ true
unfolding heaviest_last
moved_has w [] u h = h
moved_has w (k ∷ rest) u h = let m : ℕ = heaviest w k rest in elim (cases_eq u m) [
  | inl q ↦ has_right u (filter (λ x. not (x == m)) (k ∷ rest)) (m ∷ []) (has_head u m [] q)
  | inr ne ↦ has_left u (filter (λ x. not (x == m)) (k ∷ rest)) (m ∷ [])
      (filter_has (λ x. not (x == m)) (k ∷ rest) u h (not_from_false (u == m) (ne_eqb u m ne)))
]

pub has_moved : (w : ℕ → ℕ) (xs : List ℕ) (u : ℕ) → has (heaviest_last w xs) u ≡ true → has xs u ≡ true
unfolding heaviest_last
has_moved w [] u h = h
has_moved w (k ∷ rest) u h = let m : ℕ = heaviest w k rest in elim (has_append u (filter (λ x. not (x == m)) (k ∷ rest)) (m ∷ []) h) [
  | inl a ↦ (has_filter (λ x. not (x == m)) (k ∷ rest) u a).0
  | inr a ↦ elim (has_cases u m [] a) [
    | inl q ↦ subst (λ z. has (k ∷ rest) z ≡ true) (sym q) (heaviest_in w k rest)
    | inr q ↦ absurd (has_none u q)
  ]
]

pub distinct_moved : (w : ℕ → ℕ) (xs : List ℕ) → Once xs → Once (heaviest_last w xs)
unfolding heaviest_last
distinct_moved w [] d = d
distinct_moved w (k ∷ rest) d = let m : ℕ = heaviest w k rest in
    once_push (filter (λ x. not (x == m)) (k ∷ rest)) m (once_filter (λ x. not (x == m)) (k ∷ rest) d)
    (false_from_ne_true (has (filter (λ x. not (x == m)) (k ∷ rest)) m) (λ h. let r = (has_filter (λ x. not (x == m)) (k ∷ rest) m h).1 in
    true≢false (sym (eq-eqb m m refl) ∙ not-true (m == m) r)))

-- trees that stand side by side: no root twice, and none below another
pub record IsLevel (s : State) (es : List ℕ) : Type 0 where
  pub distinct : Once es
  pub elements : (k : ℕ) → has es k ≡ true → s.home k ≡ Gone k
  pub apart : (a b : ℕ) → has es a ≡ true → has es b ≡ true → Proper s a b → ⊥

module _ (g : Graph) (s : State) (tree : IsTree g s) (rows : (v : ℕ) → g.size ≤ v → s.home v ≡ Last) where
  gone_in : (v e : ℕ) → s.home v ≡ Gone e → v < g.size
  gone_in v e h = elim (cases_lt v g.size) [ inl l ↦ l | inr l ↦ absurd (let q = rows v l in cc) ]

  pub rank_up : {a b : ℕ} → Descends s a b → tree.rank a ≤ tree.rank b
  rank_up self = omega arith
  rank_up (via {e = a} {m = m} p d) = let k = tree.later a m p in let r = rank_up d in omega (arith, k, r)

  proper_up : (a b : ℕ) → Proper s a b → tree.rank a < tree.rank b
  proper_up a b p = let k = tree.later a p.next p.parent in let r = rank_up p.rest in omega (arith, k, r)

  proper_descends : {a b : ℕ} → Proper s a b → Descends s a b
  proper_descends p = via p.parent p.rest

  from_last : {f e : ℕ} → Descends s f e → (f ≡ e) ⊎ ((k : ℕ) × (s.parent k ≡ Some e) × Descends s f k)
  from_last self = inl refl
  from_last (via {e = f} {m = m} {f = e} p d) = elim (from_last d) [
    | inl q ↦ inr (f, subst (λ x. s.parent f ≡ Some x) q p, self)
    | inr r ↦ inr (r.0, r.1, via p r.2)
  ]

  pub two_up : {f a b : ℕ} → Descends s f a → Descends s f b → (a ≡ b) ⊎ Proper s a b ⊎ Proper s b a
  two_up {f = f} {b = b} self d = elim' d
    where
      elim' : {f b : ℕ} → Descends s f b → (f ≡ b) ⊎ Proper s f b ⊎ Proper s b f
      elim' self = inl refl
      elim' (via {m = m} p d) = inr (inl (record { next = m; parent = p; rest = d }))
  two_up (via {m = m} p d) self = inr (inr (record { next = m; parent = p; rest = d }))
  two_up {b = b} (via {m = m} p d) (via {m = m'} p' d') = two_up d (subst (λ k. Descends s k b) (let q : m' ≡ m = cc in q) d')

  pub child_parent : (e k : ℕ) → has (children (assembly_tree g s) e) k ≡ true → (s.home k ≡ Gone k) × (s.parent k ≡ Some e)
  unfolding children is_child is_some_of
  child_parent e k h =
      let b = has_below g.size (is_child (assembly_tree g s) e) k
      (has_moved (weight g s) (list_below g.size (is_child (assembly_tree g s) e)) k h) in
      let p = and_parts (is_element s k) (is_some_of e (s.parent k)) b.1 in
      (block_gives k (s.home k) p.0, some (s.parent k) p.1)
    where
      some : (o : Option ℕ) → is_some_of e o ≡ true → o ≡ Some e
      some None q = absurd (false≢true q)
      some (Some m) q = ap Some (eqb-true m e q)

  parent_child : (e k : ℕ) → s.parent k ≡ Some e → has (children (assembly_tree g s) e) k ≡ true
  unfolding children is_child is_some_of
  parent_child e k h = let hk = tree.under k e h in moved_has (weight g s) (list_below g.size (is_child (assembly_tree g s) e)) k
      (below_has g.size (is_child (assembly_tree g s) e) k (gone_in k k hk)
      (and_from (is_element s k) (is_some_of e (s.parent k)) (block_from k (s.home k) hk)
      (subst (λ o. is_some_of e o ≡ true) (sym h) (eq-eqb e e refl))))

  pub children_level : (e : ℕ) → IsLevel s (children (assembly_tree g s) e)
  unfolding children
  children_level e = record {
    distinct = distinct_moved (weight g s) (list_below g.size (is_child (assembly_tree g s) e))
        (once_below g.size (is_child (assembly_tree g s) e));
    elements = λ k h. (child_parent e k h).0;
    apart = λ a b ha hb p. let pa = (child_parent e a ha).1 in let pb = (child_parent e b hb).1 in
        let q : p.next ≡ e = (let x = p.parent in cc) in let d : Descends s e b = subst (λ m. Descends s m b) q p.rest in
        let r = rank_up d in let k = tree.later b e pb in absurd (omega (arith, r, k));
  }

  pub block_rows : (e u : ℕ) → s.home e ≡ Gone e → has (block_list g s e) u ≡ true → s.home u ≡ Gone e
  unfolding block_list
  block_rows e u he h = elim (has_append u (list_below g.size (λ v. in_block s e v && not (v == e))) (e ∷ []) h) [
    | inl a ↦ block_gives e (s.home u)
        (and_parts (in_block s e u) (not (u == e)) (has_below g.size (λ v. in_block s e v && not (v == e)) u a).1).0
    | inr a ↦ elim (has_cases u e [] a) [ inl q ↦ ap s.home q ∙ he | inr q ↦ absurd (has_none u q) ]
  ]

  rows_block : (e u : ℕ) → s.home u ≡ Gone e → has (block_list g s e) u ≡ true
  unfolding block_list
  rows_block e u h = elim (cases_eq u e) [
    | inl q ↦ has_right u (list_below g.size (λ v. in_block s e v && not (v == e))) (e ∷ []) (has_head u e [] q)
    | inr ne ↦ has_left u (list_below g.size (λ v. in_block s e v && not (v == e))) (e ∷ [])
        (below_has g.size (λ v. in_block s e v && not (v == e)) u (gone_in u e h)
        (and_from (in_block s e u) (not (u == e)) (block_from e (s.home u) h) (not_from_false (u == e) (ne_eqb u e ne))))
  ]

  pub head_level : {e : ℕ} {rest : List ℕ} → IsLevel s (e ∷ rest) → s.home e ≡ Gone e
  head_level {e} {rest} l = l.elements e (has_head e e rest refl)

  pub tail_level : {e : ℕ} {rest : List ℕ} → IsLevel s (e ∷ rest) → IsLevel s rest
  tail_level {e} {rest} l = record {
    distinct = l.distinct.1;
    elements = λ k h. l.elements k (has_tail k e rest h);
    apart =
        λ a b ha hb. l.apart a b (has_tail a e rest ha) (has_tail b e rest hb);
  }

  -- what is listed descends from a root
  pub listed_from : {es xs : List ℕ} → IsLevel s es → ListsTrees (assembly_tree g s) es xs → (u : ℕ) → has xs u ≡ true →
      (k : ℕ) × (f : ℕ) × (has es k ≡ true) × (s.home u ≡ Gone f) × Descends s f k
  listed_from l none u h = absurd (has_none u h)
  listed_from l (more {e} {rest} {below} {after} t r) u h = elim (has_append u below (block_list g s e ++ after) h) [
    | inl a ↦ (let k = listed_from (children_level e) t u a in
        (e, k.1, has_head e e rest refl, k.3, descends_join k.4 (via (child_parent e k.0 k.2).1 self)))
    | inr a ↦ elim (has_append u (block_list g s e) after a) [
      | inl b ↦ (e, e, has_head e e rest refl, block_rows e u (head_level l) b, self)
      | inr b ↦ (let k = listed_from (tail_level l) r u b in (k.0, k.1, has_tail k.0 e rest k.2, k.3, k.4))
    ]
  ]

  -- what descends from a root is listed
  pub listed : {es xs : List ℕ} → ListsTrees (assembly_tree g s) es xs → (u f k : ℕ) → has es k ≡ true → s.home u ≡ Gone f →
      Descends s f k → has xs u ≡ true
  listed none u f k h hu d = absurd (has_none k h)
  listed (more {e} {rest} {below} {after} t r) u f k h hu d = elim (has_cases k e rest h) [
    | inl q ↦ elim (from_last d) [
      | inl z ↦ has_right u below (block_list g s e ++ after) (has_left u (block_list g s e) after (rows_block e u (hu ∙ ap Gone (z ∙ q))))
      | inr z ↦ has_left u below (block_list g s e ++ after) (listed t u f z.0 (parent_child e z.0 (z.1 ∙ ap Some q)) hu z.2)
    ]
    | inr q ↦ has_right u below (block_list g s e ++ after) (has_right u (block_list g s e) after (listed r u f k q hu d))
  ]

  pub lower_first : {es xs : List ℕ} → IsLevel s es → ListsTrees (assembly_tree g s) es xs → (ps bs : List ℕ) (v e' u f : ℕ) →
      xs ≡ ps ++ v ∷ bs → s.home v ≡ Gone e' → s.home u ≡ Gone f → Proper s f e' → has ps u ≡ true
  lower_first l none [] bs v e' u f q hv hu p = absurd (cc)
  lower_first l none (x ∷ ps) bs v e' u f q hv hu p = absurd (cc)
  lower_first l (more {e} {rest} {below} {after} t r) ps bs v e' u f q hv hu p =
      elim (split_append below (block_list g s e ++ after) ps bs v q) [
        | inl a ↦ lower_first (children_level e) t ps a.0 v e' u f a.1 hv hu p
        | inr a ↦ elim (split_append (block_list g s e) after a.0 bs v a.2) [
          | inl b ↦ (let w = block_rows e v (head_level l) (has_mid v (block_list g s e) a.0 b.0 b.1) in
              let z : e' ≡ e = (let y : Gone e' ≡ Gone e = sym hv ∙ w in cc) in
              let d : Descends s f e = subst (Descends s f) z (proper_descends p) in
              subst (λ m. has m u ≡ true) (sym a.1) (has_left u below a.0 (elim (from_last d) [
                | inl y ↦ absurd (let i = proper_up f e' p in let j : tree.rank f ≡ tree.rank e' = ap tree.rank (y ∙ sym z) in
                    omega (arith, i, j))
                | inr y ↦ listed t u f y.0 (parent_child e y.0 y.1) hu y.2
              ])))
          | inr b ↦ subst (λ m. has m u ≡ true) (sym (a.1 ∙ ap (λ m. below ++ m) b.1))
              (has_right u below (block_list g s e ++ b.0)
              (has_right u (block_list g s e) b.0 (lower_first (tail_level l) r b.0 bs v e' u f b.2 hv hu p)))
        ]
      ]

  pub upper_later : {es xs : List ℕ} → IsLevel s es → ListsTrees (assembly_tree g s) es xs → (ps bs : List ℕ) (v e' u f : ℕ) →
      xs ≡ ps ++ v ∷ bs → s.home v ≡ Gone e' → s.home u ≡ Gone f → Proper s e' f → has ps u ≡ true → ⊥
  upper_later l none [] bs v e' u f q hv hu p h = absurd (cc)
  upper_later l none (x ∷ ps) bs v e' u f q hv hu p h = absurd (cc)
  upper_later l (more {e} {rest} {below} {after} t r) ps bs v e' u f q hv hu p h =
      elim (split_append below (block_list g s e ++ after) ps bs v q) [
        | inl a ↦ upper_later (children_level e) t ps a.0 v e' u f a.1 hv hu p h
        | inr a ↦ elim (split_append (block_list g s e) after a.0 bs v a.2) [
          | inl b ↦ (let w = block_rows e v (head_level l) (has_mid v (block_list g s e) a.0 b.0 b.1) in
              let z : e' ≡ e = (let y : Gone e' ≡ Gone e = sym hv ∙ w in cc) in
              let i = proper_up e' f p in let j : tree.rank e' ≡ tree.rank e = ap tree.rank z in
              let d : Descends s f e = elim (has_append u below a.0 (subst (λ m. has m u ≡ true) a.1 h)) [
                | inl y ↦ under_here e below u f (listed_from (children_level e) t u y) hu
                | inr y ↦ (let o = block_rows e u (head_level l) (subst (λ m. has m u ≡ true) (sym b.1) (has_left u a.0 (v ∷ b.0) y)) in
                    subst (λ m. Descends s m e) (let y' : Gone e ≡ Gone f = sym o ∙ hu in let y'' : e ≡ f = cc in y'') self)
              ] in
              let k = rank_up d in omega (arith, i, j, k))
          | inr b ↦ (
              let root = listed_from (tail_level l) r v (has_mid v after b.0 bs b.2) in
              let up : Descends s e' root.0 = subst (λ m. Descends s m root.0) (let y : Gone root.1 ≡ Gone e' = sym root.3 ∙ hv in
              let y' : root.1 ≡ e' = cc in y') root.4 in
              let clash : Descends s f e → ⊥ = λ d. elim (two_up (descends_join (proper_descends p) d) up) [
                | inl z ↦ true≢false (sym (subst (λ m. has rest m ≡ true) (sym z) root.2) ∙ l.distinct.0)
                | inr z ↦ elim z [
                  | inl y ↦ l.apart e root.0 (has_head e e rest refl) (has_tail root.0 e rest root.2) y
                  | inr y ↦ l.apart root.0 e (has_tail root.0 e rest root.2) (has_head e e rest refl) y
                ]
              ] in
              elim (has_append u below (block_list g s e ++ b.0) (subst (λ m. has m u ≡ true) (a.1 ∙ ap (λ m. below ++ m) b.1) h)) [
                | inl y ↦ clash (under_here e below u f (listed_from (children_level e) t u y) hu)
                | inr y ↦ elim (has_append u (block_list g s e) b.0 y) [
                  | inl x ↦ clash (let o = block_rows e u (head_level l) x in
                      subst (λ m. Descends s m e) (let y' : Gone e ≡ Gone f = sym o ∙ hu in let y'' : e ≡ f = cc in y'') self)
                  | inr x ↦ upper_later (tail_level l) r b.0 bs v e' u f b.2 hv hu p x
                ]
              ])
        ]
      ]
    where
      under_here : (e : ℕ) (below : List ℕ) (u f : ℕ) → ((k : ℕ) × (j : ℕ) × (has (children (assembly_tree g s) e) k ≡ true)
          × (s.home u ≡ Gone j) × Descends s j k) → s.home u ≡ Gone f → Descends s f e
      under_here e below u f k hu = subst (λ m. Descends s m e) (let y : Gone k.1 ≡ Gone f = sym k.3 ∙ hu in let y' : k.1 ≡ f = cc in y')
          (descends_join k.4 (via (child_parent e k.0 k.2).1 self))

  pub roots_level : IsLevel s (roots (assembly_tree g s))
  unfolding roots
  roots_level = record {
    distinct = once_below g.size (λ e. is_element s e && is_none (s.parent e));
    elements = λ k h. block_gives k (s.home k) (and_parts (is_element s k) (is_none (s.parent k))
        (has_below g.size (λ e. is_element s e && is_none (s.parent e)) k h).1).0;
    apart = λ a b ha hb p.
        (let r = (and_parts (is_element s a) (is_none (s.parent a))
        (has_below g.size (λ e. is_element s e && is_none (s.parent e)) a ha).1).1
        in
        false≢true (ap is_none (sym p.parent) ∙ r));
  }
