-- Climbs by links to ancestors.
use Rattle.std.proofs.Common.{ℕ, zero, suc, true, ◌≡◌, ◌≢◌, ◌<◌, ◌≤◌, ◌+◌, ◌-◌, ◌⊎◌, inl, inr, refl, sym, ◌∙◌, ap, subst}
use Rattle.std.proofs.Common.{arith, List, length, set}
use Rattle.std.specs.Prelude.{slice_index, slice_index_or, Option, None, Some, slice_set, replicate}
use Rattle.std.proofs.lemmas.Bool.{cases_eq, cases_lt}
use Rattle.std.proofs.lemmas.List.{length-set, get_or-set_same, get_or-set_other}
use Rattle.std.proofs.lemmas.List.Elements.{Contains-get_or}
use Rattle.amd_model.specs.Graph.{Graph, IsGraph}
use Rattle.amd_model.proofs.Counting.Places.{contains_has, place_of}
use Rattle.amd_factor.specs.Neighbours.{AreEarlier}
use Rattle.amd_factor.specs.Orders.{Order}
use Rattle.amd_factor.specs.Trees.{Entry, IsParent, Over, itself, up}
use Rattle.amd_factor.specs.Walks.{TellParents, TellsParentSoFar}
use Rattle.amd_factor.proofs.Trees.TreePaths.{entry_in_subtree, over_most, parent_of, subtree_entry}
use Rattle.amd_factor.specs.Ancestors.{Climbing, IsDone, Ready}

some-none : (q : ℕ) → Some q ≡ None → ⊥
some-none q e = cc

pub over-trans : (g : Graph) (p : List ℕ) {x y z : ℕ} → Over g p x y → Over g p y z → Over g p x z
over-trans g p itself b = b
over-trans g p (up h a) b = up h (over-trans g p a b)

pub parents-same : (g : Graph) (p : List ℕ) (k q r : ℕ) → IsParent g p k q → IsParent g p k r → q ≡ r
parents-same g p k q r a b = let x = a.first r b.entry in let y = b.first q a.entry in omega (arith, x, y)

module _ (g : Graph) (p : List ℕ) (laws : IsGraph g) where
  -- two that stand over one stand over each other
  pub over-linear : {x y z : ℕ} → Over g p x y → Over g p x z → y ≤ z → Over g p y z
  over-linear itself b l = b
  over-linear (up h a) itself l = absurd (let r = over_most g p laws a in let e = h.entry.0 in omega (arith, r, e, l))
  over-linear {x} {y} {z} (up {parent = q} h a) (up {parent = r} h' b) l =
      over-linear a (subst (λ v. Over g p v z) (parents-same g p x r q h' h) b) l

  -- the columns that have an entry lie under it
  entry-over-by : (fuel k i : ℕ) → i - k ≤ fuel → Entry g p k i → Over g p k i
  entry-over-by zero k i f e = absurd (let a = e.0 in omega (arith, a, f))
  entry-over-by (suc fuel) k i f e =
      let q = parent_of g p laws k i e in
      elim (cases_eq q.0 i) [
        | inl same ↦ subst (λ v. Over g p k v) same (up q.2 itself)
        | inr ne ↦ (let s = entry_in_subtree g p laws k i e in
            let low = q.2.entry.0 in let most = q.1 in
            let next : Entry g p q.0 i = subtree_entry g p laws q.0 i (omega (arith, most, ne)) e.1
            (s.0, s.1, s.2, over-trans g p s.3 (up q.2 itself)) in
            up q.2 (entry-over-by fuel q.0 i (omega (arith, f, low)) next))
      ]

  pub entry-over : (k i : ℕ) → Entry g p k i → Over g p k i
  entry-over k i e = entry-over-by (i - k) k i (omega arith) e

module _ (o : Order) (laws : IsGraph o.graph) (i : ℕ) (n : i < length o.rows) where
  -- a place whose parent is before i has one
  told : (parent : List (Option ℕ)) → TellParents o i parent → {r y : ℕ} → r < y → y < i → Over o.graph o.rows r y →
      slice_index_or parent r None ≢ None
  told parent t l m itself e = absurd (omega (arith, l))
  told parent t {r} {y} l m (up {parent = q} h b) e =
      let c = over_most o.graph o.rows laws b in
      subst (TellsParentSoFar o i r) e (t.each r (omega (arith, l, m, n))) q (omega (arith, c, m)) h.entry

  module _ (k : ℕ) (parent : List (Option ℕ)) (ancestor : List ℕ) (c : Climbing o i k parent ancestor) (ne : k ≢ i) where
    pub low : k < i
    low = let w = c.within in omega (arith, w, ne)

    abbrev a : ℕ
    a = slice_index ancestor k

    pub entry : Entry o.graph o.rows k i
    entry = subtree_entry o.graph o.rows laws k i low n (c.pending ne)

    over-i : Over o.graph o.rows k i
    over-i = entry-over o.graph o.rows laws k i entry

    -- the link of k leads to row i now, and the others are as they were
    at-k : slice_index (set ancestor k i) k ≡ i
    at-k = get_or-set_same ancestor k i 0 (let r = c.room in let l = low in omega (arith, r, l, n))

    else-where : (m : ℕ) → m ≢ k → slice_index (set ancestor k i) m ≡ slice_index ancestor m
    else-where m other = get_or-set_other ancestor k m i 0 other

    -- each of them leads to a place over its own
    linked : (m : ℕ) → m < i → (slice_index (set ancestor k i) m ≡ m) ⊎ ((m < slice_index (set ancestor k i) m) ×
        (slice_index (set ancestor k i) m ≤ i) × Over o.graph o.rows m (slice_index (set ancestor k i) m))
    linked m l = elim (cases_eq m k) [
      | inl e ↦ inr (subst (λ v. (v < slice_index (set ancestor k i) v) × (slice_index (set ancestor k i) v ≤ i) ×
          Over o.graph o.rows v (slice_index (set ancestor k i) v)) (sym e)
          (subst (λ v. (k < v) × (v ≤ i) × Over o.graph o.rows k v) (sym at-k) (low, omega arith, over-i)))
      | inr other ↦ subst (λ v. (v ≡ m) ⊎ ((m < v) × (v ≤ i) × Over o.graph o.rows m v)) (sym (else-where m other)) (c.links m l)
    ]

    -- one that leads to its own place is not that of k
    not-linked : (m : ℕ) → slice_index (set ancestor k i) m ≡ m → m ≢ k
    not-linked m e = λ same. (let f = at-k in let g = subst (λ v. slice_index (set ancestor k i) v ≡ v) same e in let h = low in
        omega (arith, f, g, h))

    -- the link leads on
    module _ (on : a ≢ k) where
      pub link : (k < a) × (a ≤ i) × Over o.graph o.rows k a
      link = elim (c.links k low) [ inl e ↦ absurd (on e) | inr h ↦ h ]

      step : (r : ℕ) → r < i → Over o.graph o.rows k r → (slice_index_or parent r None ≢ None) ⊎ ((k < a) × Over o.graph o.rows a r)
      step r l h =
          let x = link in let up-a = x.0 in let most = x.1 in
          elim (cases_lt r a) [
            | inr high ↦ inr (up-a, over-linear o.graph o.rows laws x.2 h high)
            | inl less ↦ elim (cases_eq a i) [
              | inl e ↦ elim (c.marked k low e r l h) [ inl t ↦ inl t | inr w ↦ absurd (let f = w.0 in omega (arith, f)) ]
              | inr other ↦ inl (told parent c.tells less (omega (arith, most, other))
                  (over-linear o.graph o.rows laws h x.2 (omega (arith, less))))
            ]
          ]

      pub onward : Climbing o i a parent (set ancestor k i)
      onward = record {
        tells = c.tells;
        room = length-set ancestor k i ∙ c.room;
        own = else-where i (λ e. ne (sym e)) ∙ c.own;
        fresh = c.fresh;
        within = link.1;
        pending = λ no-end. (let s = c.pending ne in (s.0, s.1, s.2, over-trans o.graph o.rows s.3 link.2));
        links = linked;
        roots = λ m l e. c.roots m l (sym (else-where m (not-linked m e)) ∙ e);
        marked = λ m l e r lr h. elim (cases_eq m k) [
          | inl same ↦ elim (step r lr (subst (λ v. Over o.graph o.rows v r) same h)) [
            | inl t ↦ inl t
            | inr w ↦ inr (subst (λ v. v < a) (sym same) w.0, w.1)
          ]
          | inr other ↦ elim (c.marked m l (sym (else-where m other) ∙ e) r lr h) [
            | inl t ↦ inl t
            | inr w ↦ elim (step r lr w.1) [ inl t ↦ inl t | inr v ↦ inr ((let x = w.0 in let y = v.0 in omega (arith, x, y)), v.1) ]
          ]
        ];
      }

      -- what waits for the climb waits on
      pub still : (r : ℕ) → r < i → (slice_index_or parent r None ≢ None) ⊎ Over o.graph o.rows k r →
          (slice_index_or parent r None ≢ None) ⊎ Over o.graph o.rows a r
      still r l h = elim h [ inl t ↦ inl t | inr w ↦ elim (step r l w) [ inl t ↦ inl t | inr v ↦ inr v.1 ] ]

    -- the root of a tree, of which row i becomes the parent
    module _ (end : a ≡ k) where
      abbrev parent' : List (Option ℕ)
      parent' = slice_set parent k (Some i)

      none : slice_index_or parent k None ≡ None
      none = c.roots k low end

      is-parent : IsParent o.graph o.rows k i
      is-parent = record {
        entry = entry;
        first = λ m x. elim (cases_lt m i) [
          | inl l ↦ absurd (subst (TellsParentSoFar o i k) none (c.tells.each k (let h = low in omega (arith, h, n))) m l x)
          | inr l ↦ l
        ];
      }

      parent-k : slice_index_or parent' k None ≡ Some i
      parent-k = get_or-set_same parent k (Some i) None (let r = c.tells.room in let h = low in omega (arith, r, h, n))

      parent-other : (m : ℕ) → m ≢ k → slice_index_or parent' m None ≡ slice_index_or parent m None
      parent-other m other = get_or-set_other parent k m (Some i) None other

      -- a parent that was told is told still
      more : (r : ℕ) → slice_index_or parent r None ≢ None → slice_index_or parent' r None ≢ None
      more r t e = elim (cases_eq r k) [
        | inl same ↦ some-none i (sym parent-k ∙ subst (λ v. slice_index_or parent' v None ≡ None) same e)
        | inr other ↦ t (sym (parent-other r other) ∙ e)
      ]

      pub done-more : (m : ℕ) → IsDone o i parent m → IsDone o i parent' m
      done-more m d r l h = more r (d r l h)

      done-at : (r : ℕ) → r < i → Over o.graph o.rows k r → slice_index_or parent' r None ≢ None
      done-at r l h = elim (cases_eq r k) [
        | inl same ↦ λ e. some-none i (sym parent-k ∙ subst (λ v. slice_index_or parent' v None ≡ None) same e)
        | inr other ↦ absurd (told parent c.tells (let m = over_most o.graph o.rows laws h in omega (arith, m, other)) l h none)
      ]

      pub ends : (r : ℕ) → r < i → (slice_index_or parent r None ≢ None) ⊎ Over o.graph o.rows k r →
          (slice_index_or parent' r None ≢ None) ⊎ Over o.graph o.rows i r
      ends r l h = inl (elim h [ inl t ↦ more r t | inr w ↦ done-at r l w ])

      pub ended : Climbing o i i (slice_set parent k (Some i)) (set ancestor k i)
      ended = record {
        tells = record {
          room = length-set parent k (Some i) ∙ c.tells.room;
          each = λ m l. elim (cases_eq m k) [
            | inl same ↦ subst (λ v. TellsParentSoFar o i v (slice_index_or parent' v None)) (sym same) (subst (TellsParentSoFar o i k)
                (sym parent-k) is-parent)
            | inr other ↦ subst (TellsParentSoFar o i m) (sym (parent-other m other)) (c.tells.each m l)
          ];
        };
        room = length-set ancestor k i ∙ c.room;
        own = else-where i (λ e. ne (sym e)) ∙ c.own;
        fresh = λ m l. parent-other m (λ e. let h = low in omega (arith, h, e, l)) ∙ c.fresh m l;
        within = omega arith;
        pending = λ no-end. absurd (no-end refl);
        links = linked;
        roots = λ m l e. parent-other m (not-linked m e) ∙ c.roots m l (sym (else-where m (not-linked m e)) ∙ e);
        marked = λ m l e r lr h. inl (elim (cases_eq m k) [
          | inl same ↦ done-at r lr (subst (λ v. Over o.graph o.rows v r) same h)
          | inr other ↦ elim (c.marked m l (sym (else-where m other) ∙ e) r lr h) [ inl t ↦ more r t | inr w ↦ done-at r lr w.1 ]
        ]);
      }

  -- a climb begins at an earlier neighbour
  pub begin : (j : ℕ) → j < i → o.graph.edge (slice_index o.rows j) (slice_index o.rows i) ≡ true → (parent : List (Option ℕ))
      (ancestor : List ℕ) → Climbing o i i parent ancestor → Climbing o i j parent ancestor
  begin j l e parent ancestor c = record {
    tells = c.tells;
    room = c.room;
    own = c.own;
    fresh = c.fresh;
    within = omega (arith, l);
    pending = λ ne. (j, l, e, itself);
    links = c.links;
    roots = c.roots;
    marked = λ m lm is r lr h. elim (c.marked m lm is r lr h) [
      | inl t ↦ inl t
      | inr w ↦ absurd (let x = over_most o.graph o.rows laws w.1 in omega (arith, x, lr))
    ];
  }

  -- no place before row i stands over it
  pub done-end : (k : ℕ) (parent : List (Option ℕ)) → k ≡ i → (r : ℕ) → r < i →
      (slice_index_or parent r None ≢ None) ⊎ Over o.graph o.rows k r → slice_index_or parent r None ≢ None
  done-end k parent e r l h = elim h [
    | inl t ↦ t
    | inr w ↦ absurd (let x = over_most o.graph o.rows laws w in omega (arith, x, l, e))
  ]

  -- after the climbs of row i its entries have parents
  pub parents-told : (parent : List (Option ℕ)) (ancestor : List ℕ) (earlier : List ℕ) → AreEarlier o i earlier →
      Climbing o i i parent ancestor →
      ((s : ℕ) → s < length earlier → IsDone o i parent (slice_index earlier s)) → TellParents o (i + 1) parent
  parents-told parent ancestor earlier are c done =
      record { room = c.tells.room; each = λ m l. tell m (slice_index_or parent m None) refl (c.tells.each m l) }
    where
      tell : (m : ℕ) (v : Option ℕ) → slice_index_or parent m None ≡ v → TellsParentSoFar o i m v → TellsParentSoFar o (i + 1) m v
      tell m None e t = λ x l h. elim (cases_lt x i) [
        | inl low ↦ t x low h
        | inr high ↦ (
            let h' = subst (λ v. Entry o.graph o.rows m v) (let q : x ≡ i = omega (arith, l, high) in q) h in
            let s = entry_in_subtree o.graph o.rows laws m i h' in
            let at = place_of earlier s.0 (contains_has earlier s.0 ((are s.0).1 (s.1, s.2))) in
            done at.0 at.1 m h'.0 (subst (λ v. Over o.graph o.rows v m) (sym (at.2 0)) s.3) e)
      ]
      tell m (Some q) e t = t

  pub begin-row : (parent : List (Option ℕ)) (ancestor : List ℕ) → Ready o i parent ancestor → Climbing o i i parent (set ancestor i i)
  begin-row parent ancestor r = record {
    tells = r.tells;
    room = length-set ancestor i i ∙ r.room;
    own = get_or-set_same ancestor i i 0 (let x = r.room in omega (arith, x, n));
    fresh = r.fresh;
    within = omega arith;
    pending = λ ne. absurd (ne refl);
    links = λ m l. subst (λ v. (v ≡ m) ⊎ ((m < v) × (v ≤ i) × Over o.graph o.rows m v)) (sym (other m l))
        (elim (r.links m l) [ inl e ↦ inl e | inr h ↦ inr (h.0, (let x = h.1 in omega (arith, x)), h.2) ]);
    roots = λ m l e. r.roots m l (sym (other m l) ∙ e);
    marked = λ m l e x lx h. absurd (elim (r.links m l) [
      | inl q ↦ (let w = other m l in omega (arith, w, q, e, l))
      | inr h' ↦ (let w = other m l in let y = h'.1 in omega (arith, w, y, e))
    ]);
  }
    where
      other : (m : ℕ) → m < i → slice_index (set ancestor i i) m ≡ slice_index ancestor m
      other m l = get_or-set_other ancestor i m i 0 (λ e. omega (arith, e, l))

  pub end-row : (parent : List (Option ℕ)) (ancestor : List ℕ) → TellParents o (i + 1) parent → Climbing o i i parent ancestor →
      Ready o (i + 1) parent ancestor
  end-row parent ancestor t c = record {
    tells = t;
    room = c.room;
    fresh = λ m l. c.fresh m (omega (arith, l));
    links = λ m l. elim (cases_eq m i) [
      | inl e ↦ inl (ap (slice_index ancestor) e ∙ c.own ∙ sym e)
      | inr ne ↦ elim (c.links m (omega (arith, l, ne))) [ inl e ↦ inl e | inr h ↦ inr (h.0, (let x = h.1 in omega (arith, x)), h.2) ]
    ];
    roots = λ m l e. elim (cases_eq m i) [
      | inl same ↦ c.fresh m (omega (arith, same))
      | inr ne ↦ c.roots m (omega (arith, l, ne)) e
    ];
  }

-- a neighbour in the list
pub neighbour : (o : Order) (j : ℕ) (earlier : List ℕ) (s : ℕ) → AreEarlier o j earlier → s < length earlier →
    (slice_index earlier s < j) × (o.graph.edge (slice_index o.rows (slice_index earlier s)) (slice_index o.rows j) ≡ true)
neighbour o j earlier s are l = (are (slice_index earlier s)).0 (Contains-get_or earlier s 0 l)

-- before the first row
pub ready-none : (o : Order) (parent : List (Option ℕ)) (ancestor : List ℕ) → TellParents o 0 parent → length ancestor ≡ length o.rows →
    ((m : ℕ) → slice_index_or parent m None ≡ None) → Ready o 0 parent ancestor
ready-none o parent ancestor t room none = record {
  tells = t;
  room = room;
  fresh = λ m l. none m;
  links = λ m l. absurd (omega (arith, l));
  roots = λ m l e. absurd (omega (arith, l));
}

-- a place without a parent
abbrev no-parent : List (Option ℕ) → ℕ → Type 0
no-parent parent m = slice_index_or parent m None ≡ None

none-repeated : (k x : ℕ) → no-parent (replicate k None) x
none-repeated zero x = refl
none-repeated (suc k) zero = refl
none-repeated (suc k) (suc x) = none-repeated k x

-- a list of places without parents
pub none-at : (parent : List (Option ℕ)) (n : ℕ) → parent ≡ replicate n None → (m : ℕ) → slice_index_or parent m None ≡ None
none-at parent n e m = subst (λ xs. no-parent xs m) (sym e) (none-repeated n m)
