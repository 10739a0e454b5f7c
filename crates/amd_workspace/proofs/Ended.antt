-- At the end of an elimination in one workspace the links and the numbers of rows tell its last state.
use Rattle.std.proofs.Common.{ℕ, ℤ, zero, suc, pos, negsuc, Bool, true, false, Option, None, Some, List, ◌≡◌, ◌<◌, ◌≤◌, ◌-◌, ◌⊎◌}
use Rattle.std.proofs.Common.{◌∙◌, cond, inl, inr, refl, sym, ap, arith, length, get_or}
use Rattle.std.specs.Prelude.{nat_lt}
use Rattle.std.proofs.lemmas.Bool.{cases_Bool, cases_lt, cond-true, cond-false, lt-ltb, le-ltb, ne_eqb, true≢false}
use Rattle.std.proofs.lemmas.List.{get_or_past, get_or_default}
use Rattle.amd_model.specs.Graph.{Graph}
use Rattle.amd_model.specs.State.{State, Last, Gone, is_element, in_block}
use Rattle.amd_model.specs.Quotient.{QuotientGraph}
use Rattle.amd_model.proofs.Counting.Below.{count_pos}
use Rattle.amd_model.proofs.States.EndState.{IsEnd}
use Rattle.amd_model.proofs.States.Words.{live_from, block_gives, block_from}
use Rattle.amd_types.specs.Links.{named}
use Rattle.amd_round_laws.specs.Keeps.{LinksLead}
use Rattle.amd_words.specs.Words.{num, word, is_place, rows_in, size_of}
use Rattle.amd_words.proofs.Signs.{rows_of, is_place_of}
use Rattle.amd_lists.specs.Workspaces.{Workspace}
use Rattle.amd_rounds.specs.Views.{view_of, owner_of, is_flip, is_over, flipped}
use Rattle.amd_rounds.specs.Keeps.{Stands}
use Rattle.amd_rounds.proofs.Standing.{over_is, flip_no_place, some_cond}
use Rattle.amd_rounds.proofs.RoundFields.{class_word}
use Rattle.amd_listing.specs.Ended.{row_link, LinksAre, IsEnded}
use Rattle.amd_workspace.specs.Ending.{named_word, EndsRows}

-- ---- words

named_owner : (z : ℤ) → named (named_word z) ≡ owner_of z
unfolding named_word owner_of
named_owner (pos k) = refl
named_owner (negsuc zero) = refl
named_owner (negsuc (suc k)) = refl

no_owner : (z : ℤ) → owner_of z ≡ None → named_word z ≡ negsuc 0
unfolding named_word owner_of
no_owner (pos k) h = refl
no_owner (negsuc zero) h = refl
no_owner (negsuc (suc k)) h = absurd (cc)

-- a word is a place, the mark that names nothing, or one that names a number
kinds : (z : ℤ) → (is_place z ≡ true) ⊎ (z ≡ negsuc 0) ⊎ (is_flip z ≡ true)
unfolding is_place is_flip
kinds (pos k) = inl refl
kinds (negsuc zero) = inr (inl refl)
kinds (negsuc (suc k)) = inr (inr refl)

flip_not_over : (z : ℤ) → is_flip z ≡ true → is_over z ≡ false
unfolding is_flip is_over
flip_not_over (pos k) h = refl
flip_not_over (negsuc zero) h = absurd (true≢false (sym h))
flip_not_over (negsuc (suc k)) h = ne_eqb (suc k) 0 (λ e. omega (arith, e))

-- a front is told exactly where there is a block
block_test : (d : ℕ) (z : ℤ) → nat_lt d (flipped z) ≡ nat_lt 0 (cond (is_flip z) (flipped z - d) 0)
unfolding is_flip flipped
block_test d (pos k) = le-ltb d 0 (omega arith) ∙ sym (le-ltb 0 0 (omega arith))
block_test d (negsuc zero) = le-ltb d 0 (omega arith) ∙ sym (le-ltb 0 0 (omega arith))
block_test d (negsuc (suc k)) = elim (cases_lt d k) [
  | inl l ↦ lt-ltb d k l ∙ sym (lt-ltb 0 (k - d) (omega (arith, l)))
  | inr l ↦ le-ltb d k l ∙ sym (le-ltb 0 (k - d) (omega (arith, l)))
]

module _ (g : Graph) (dense : ℕ → Bool) (nzaat : ℕ) (v : Workspace) (t : QuotientGraph) (s : State)
    (st : Stands g dense nzaat v t s) (end : IsEnd g dense s) (pe e_len nv : List ℤ)
    (ends : EndsRows g.size v.pe v.e_len v.degree pe e_len nv)
    (pe_long : length pe ≡ g.size) (e_len_long : length e_len ≡ g.size) (nv_long : length nv ≡ g.size) where
  -- ---- elements

  element_home : (e : ℕ) → is_element s e ≡ true → s.home e ≡ Gone e
  element_home e h = block_gives e (s.home e) h

  element_small : (e : ℕ) → is_element s e ≡ true → e < g.size
  element_small e h = end.small e e (element_home e h)

  some_block : (e : ℕ) → is_element s e ≡ true → 0 < (view_of v).block e
  some_block e h = let some = count_pos g.size (in_block s e) e (element_small e h) h in let is = st.view.fronts.blocks e h in
      omega (arith, some, is)

  element_mark : (e : ℕ) → is_element s e ≡ true → is_flip (word v.e_len e) ≡ true
  element_mark e h = some_cond (is_flip (word v.e_len e)) (flipped (word v.e_len e) - num v.degree e) (some_block e h)

  no_parent : (e : ℕ) → is_element s e ≡ false → s.parent e ≡ None
  no_parent e f = none (s.parent e) refl
    where
      none : (o : Option ℕ) → s.parent e ≡ o → s.parent e ≡ None
      none None q = q
      none (Some p) q = absurd (true≢false (sym (block_from e (s.home e) (end.made.tree.under e p q)) ∙ f))

  parent_is : (e : ℕ) → (view_of v).parent e ≡ s.parent e
  parent_is e = st.view.keeps.parents e ∙ st.view.fits.parent e

  marked_owner : (e : ℕ) → is_flip (word v.e_len e) ≡ true → owner_of (word v.pe e) ≡ s.parent e
  marked_owner e h = sym (cond-true (is_flip (word v.e_len e)) (owner_of (word v.pe e)) None h) ∙ parent_is e

  -- ---- numbers of rows

  past_place : (x : ℕ) → g.size ≤ x → is_place (word v.e_len x) ≡ true
  past_place x l = ap is_place (get_or_past v.e_len x (pos 0) (let e = st.laid.sized.e_len in omega (arith, e, l))) ∙ is_place_of 0

  size_word : (x : ℕ) → word nv x ≡ pos ((view_of v).block x)
  size_word x = elim (cases_lt x g.size) [
    | inl l ↦ (ends x l).blocks
    | inr l ↦ get_or_past nv x (pos 0) (omega (arith, nv_long, l)) ∙ sym (ap pos (class_word v x (past_place x l)).2)
  ]

  size_is : (x : ℕ) → size_of nv x ≡ (view_of v).block x
  size_is x = ap rows_in (size_word x) ∙ rows_of ((view_of v).block x)

  none_size : (x : ℕ) → is_element s x ≡ false → size_of nv x ≡ 0
  none_size x f = size_is x ∙ st.view.fronts.no_element x f

  some_size : (x : ℕ) → is_element s x ≡ true → 0 < size_of nv x
  some_size x h = let a = size_is x in let b = some_block x h in omega (arith, a, b)

  front_word : (e : ℕ) → e < g.size → word e_len e ≡ cond (nat_lt 0 ((view_of v).block e)) (pos ((view_of v).front e)) (negsuc 0)
  front_word e l = (ends e l).fronts ∙ ap (λ b. cond b (pos (flipped (word v.e_len e))) (negsuc 0))
      (block_test (num v.degree e) (word v.e_len e))

  -- ---- links

  mark_link : (x : ℕ) → x < g.size → is_place (word v.e_len x) ≡ false → word pe x ≡ named_word (word v.pe x)
  mark_link x l h = (ends x l).links ∙ cond-false (is_place (word v.e_len x)) (negsuc 0) (named_word (word v.pe x)) h

  element_link : (e : ℕ) → is_element s e ≡ true → word pe e ≡ named_word (word v.pe e)
  element_link e h = mark_link e (element_small e h) (flip_no_place (word v.e_len e) (element_mark e h))

  other_named : (x : ℕ) → x < g.size → is_element s x ≡ false → named (word pe x) ≡ (view_of v).link x
  other_named x l f = elim (kinds (word v.e_len x)) [
    | inl p ↦ ap named ((ends x l).links ∙ cond-true (is_place (word v.e_len x)) (negsuc 0) (named_word (word v.pe x)) p)
        ∙ sym (class_word v x p).1
    | inr (inl o) ↦ ap named (mark_link x l (over_is (word v.e_len x) o).3) ∙ named_owner (word v.pe x)
        ∙ sym (cond-true (is_over (word v.e_len x)) (owner_of (word v.pe x)) None (over_is (word v.e_len x) o).1)
    | inr (inr m) ↦ ap named (mark_link x l (flip_no_place (word v.e_len x) m)) ∙ named_owner (word v.pe x) ∙ marked_owner x m
        ∙ no_parent x f ∙ sym (cond-false (is_over (word v.e_len x)) (owner_of (word v.pe x)) None (flip_not_over (word v.e_len x) m))
  ]

  other_link : (x : ℕ) → is_element s x ≡ false → named (get_or pe x (negsuc 0)) ≡ (view_of v).link x
  other_link x f = elim (cases_lt x g.size) [
    | inl l ↦ ap named (get_or_default pe x (negsuc 0) (pos 0) (omega (arith, pe_long, l))) ∙ other_named x l f
    | inr l ↦ ap named (get_or_past pe x (negsuc 0) (omega (arith, pe_long, l))) ∙ sym (class_word v x (past_place x l)).1
  ]

  -- each row is linked as in the record
  row_linked : (x : ℕ) → row_link pe nv x ≡ (view_of v).link x
  row_linked x = elim (cases_Bool (is_element s x)) [
    | inl y ↦ cond-true (nat_lt 0 (size_of nv x)) None (named (get_or pe x (negsuc 0))) (lt-ltb 0 (size_of nv x) (some_size x y))
        ∙ sym (st.view.keeps.links.free x (inr (st.view.fits.home x ∙ element_home x y)))
    | inr f ↦ cond-false (nat_lt 0 (size_of nv x)) None (named (get_or pe x (negsuc 0)))
        (le-ltb 0 (size_of nv x) (let z = none_size x f in omega (arith, z))) ∙ other_link x f
  ]

  leads : LinksLead g.size (row_link pe nv) s.home
  leads =
      let was = st.view.keeps.links in let home = st.view.fits.home in let rows = st.view.rows in record {
        linked = λ x u h. sym (home x) ∙ was.linked x u (sym (row_linked x) ∙ h) ∙ home u;
        alone = λ x h. elim (was.alone x (sym (row_linked x) ∙ h)) [
          | inl a ↦ inl (sym (home x) ∙ a)
          | inr (inl a) ↦ inr (inl (sym (home x) ∙ a))
          | inr (inr a) ↦ inr (inr (sym (home x) ∙ a))
        ];
        free = λ x h. row_linked x ∙ was.free x (elim h [ inl a ↦ inl (home x ∙ a) | inr a ↦ inr (home x ∙ a) ]);
        last = λ x h. row_linked x ∙ was.last x (home x ∙ h);
        rank = was.rank;
        top = was.top;
        end = record {
          rise = λ x u h. let r = was.end.rise x u (sym (row_linked x) ∙ h) in (r.0, (let l = r.1 in omega (arith, l, rows)));
          ends = λ x h. was.end.ends x (sym (row_linked x) ∙ h);
          below = λ x u h. was.end.below x u (sym (row_linked x) ∙ h);
        };
      }

  -- what is linked to nothing and has no block is held last
  held_last : (x : ℕ) → size_of nv x ≡ 0 → row_link pe nv x ≡ None → s.home x ≡ Last
  held_last x z h = elim (leads.alone x h) [
    | inl a ↦ absurd (true≢false (sym (live_from x (s.home x) a) ∙ end.over x))
    | inr (inl a) ↦ absurd (let some = some_size x (block_from x (s.home x) a) in omega (arith, some, z))
    | inr (inr a) ↦ a
  ]

  links_are : LinksAre g.size pe nv s.home
  links_are = record {
    link_long = pe_long;
    nv_long = nv_long;
    counts = λ x. size_word x ∙ ap pos (sym (size_is x));
    elements = λ x l. elim (cases_Bool (is_element s x)) [
      | inl y ↦ element_home x y
      | inr f ↦ absurd (let z = none_size x f in omega (arith, l, z))
    ];
    others = held_last;
    leads = leads;
  }

  -- the lists that are left tell the state at the end
  pub ended : IsEnded g s pe nv e_len
  ended = record {
    links = links_are;
    fronts_long = e_len_long;
    blocks = λ e h. size_word e ∙ ap pos (st.view.fronts.blocks e h);
    no_element = λ e f. size_word e ∙ ap pos (st.view.fronts.no_element e f);
    fronts = λ e h. front_word e (element_small e h)
        ∙ cond-true (nat_lt 0 ((view_of v).block e)) (pos ((view_of v).front e)) (negsuc 0)
        (lt-ltb 0 ((view_of v).block e) (some_block e h))
        ∙ ap pos (st.view.fronts.fronts e h);
    no_front = λ e l f. front_word e l
        ∙ cond-false (nat_lt 0 ((view_of v).block e)) (pos ((view_of v).front e)) (negsuc 0)
        (le-ltb 0 ((view_of v).block e) (let z = st.view.fronts.no_element e f in omega (arith, z)));
    parents = λ e h. ap named (element_link e h) ∙ named_owner (word v.pe e) ∙ marked_owner e (element_mark e h);
    tops = λ e h none. element_link e h ∙ no_owner (word v.pe e) (marked_owner e (element_mark e h) ∙ none);
  }
