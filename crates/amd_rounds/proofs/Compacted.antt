-- A workspace whose lists were packed stands for what it stood for, and holds its live lists alone.
use Rattle.std.proofs.Common.{ℕ, ℤ, pos, negsuc, Bool, true, false, None, List, ◌≡◌, ◌<◌, ◌≤◌, ◌+◌, unsigned_abs, inl, inr, sym}
use Rattle.std.proofs.Common.{ap, ◌∙◌, subst, arith, cond, length, le_refl}
use Rattle.std.proofs.lemmas.Bool.{cases_Bool, or_cases, or_left, or_right, true≢false, false_from_ne_true}
use Rattle.amd_model.specs.Below.{sum_below}
use Rattle.amd_model.specs.Graph.{Graph}
use Rattle.amd_model.specs.State.{State, is_class, stands}
use Rattle.amd_model.specs.Quotient.{QuotientGraph, has}
use Rattle.amd_model.proofs.Counting.Below.{any_gives}
use Rattle.amd_model.proofs.States.Words.{class_from, live_gives, stands_gives, holds_gives, holds_from}
use Rattle.amd_round_laws.specs.Keeps as views
use Rattle.amd_round_laws.specs.Views.{live_of}
use Rattle.amd_words.specs.Words.{num, word, is_place, place, size_of}
use Rattle.amd_lists.specs.Layout.{has_list, elements_in, variables_in, Layout, ReadsSame}
use Rattle.amd_lists.proofs.Frames.{has_parts, reads_list, reads_elements, reads_variables, live_part}
use Rattle.amd_elements.specs.Compaction.{Compacts}
use Rattle.amd_elements.proofs.Moves.{Packs}
use Rattle.amd_elements.proofs.Moves.{packs}
use Rattle.amd_model.proofs.Quotient.Lists.{some_of}
use Rattle.amd_lists.specs.Workspaces.{Workspace}
use Rattle.amd_rounds.specs.Views.{owner_of, is_flip, is_over, view_of}
use Rattle.amd_rounds.specs.Laid.{IsLaid}
use Rattle.amd_rounds.specs.Keeps.{Stands}
use Rattle.amd_rounds.specs.Compacting.{is_live_list, Compacted}
use Rattle.amd_rounds.proofs.Standing as standing

-- a word that is wide enough for marks of n rows holds each of them
pub row_fits : (z : ℤ) {n most : ℕ} → is_place z ≡ true → place z < n → n + 2 ≤ most → unsigned_abs z ≤ most
unfolding is_place place
row_fits (pos k) row small wide = omega (arith, small, wide)
row_fits (negsuc k) row small wide = absurd (true≢false (sym row))

-- each list reads as before where it now stands, in as many words or more
pub record StillReads (n : ℕ) (p : Workspace) (iw pe : List ℤ) (free : ℕ) : Type 0 where
  pub long : length p.iw ≤ length iw
  pub p_long : length pe ≡ length p.pe
  pub listed : (j : ℕ) → has_list pe p.len j ≡ has_list p.pe p.len j
  pub reads : (j : ℕ) → has_list p.pe p.len j ≡ true → ReadsSame p.iw p.pe p.e_len p.len iw pe p.e_len p.len j
  pub others : (j : ℕ) → has_list p.pe p.len j ≡ false → word pe j ≡ word p.pe j
  pub laid : Layout n iw pe p.e_len p.len free
  pub lower : free ≤ p.free

module _ {g : Graph} {dense : ℕ → Bool} {nzaat : ℕ} {p : Workspace} {t : QuotientGraph} {s : State}
    (st : Stands g dense nzaat p t s) where
  -- a standing element is listed by a class
  holder : (e : ℕ) → stands g s e ≡ true → (i : ℕ) × (has t.placed i ≡ true) × (has (elements_in p.iw p.pe p.e_len i) e ≡ true)
  holder e k =
      let m = any_gives g.size (s.border e) (stands_gives g s e k).some in
      let live = live_gives (s.home m.0) (st.view.sound.borders_live e m.0 k m.2) in let c : ℕ = live.0 in
      let home = st.view.sound.named m.0 c live.1 in
      let placed = st.view.fits.placed c ∙ class_from c (s.home c) home in
      let held = holds_from g s e c (record {
        standing = k;
        class = home;
        rows = λ x l is. st.view.sound.whole e c m.0 x k live.1 is m.2;
      }) in (c, placed, ap (λ l. has l e) (st.view.keeps.elements c placed) ∙ st.view.fits.elements c e home ∙ held)

  class_list : (i : ℕ) → has t.placed i ≡ true → has_list p.pe p.len i ≡ true
  class_list i h = (st.laid.classes i (standing.placed_class g dense nzaat p t s st i h).0).0

  standing_list : (e : ℕ) → stands g s e ≡ true → has_list p.pe p.len e ≡ true
  standing_list e k = let m = holder e k in
      st.laid.elements m.0 e (standing.placed_class g dense nzaat p t s st m.0 m.1).0 m.2

  -- what has a list is live
  pub list_is : (j : ℕ) → has_list p.pe p.len j ≡ is_live_list g s j
  list_is j = elim (cases_Bool (has_list p.pe p.len j)) [
    | inl y ↦ y ∙ sym (elim (st.held j y) [
      | inl c ↦ or_left (is_class s j) (stands g s j) c
      | inr k ↦ or_right (is_class s j) (stands g s j) k
    ])
    | inr n ↦ n ∙ sym (false_from_ne_true (is_live_list g s j) (λ y. true≢false (sym (elim (or_cases (is_class s j) (stands g s j) y) [
      | inl c ↦ class_list j (st.view.fits.placed j ∙ c)
      | inr k ↦ standing_list j k
    ]) ∙ n)))
  ]

  module _ (iw pe : List ℤ) (free : ℕ) (still : StillReads g.size p iw pe free) where
    abbrev after : Workspace
    after = record p { iw = iw; pe = pe; free = free }

    elements_same : (j : ℕ) → has_list p.pe p.len j ≡ true → elements_in iw pe p.e_len j ≡ elements_in p.iw p.pe p.e_len j
    elements_same j h = reads_elements p.iw p.pe p.e_len p.len iw pe p.e_len p.len j (still.reads j h) (st.laid.laid.parts j h)

    variables_same : (j : ℕ) → has_list p.pe p.len j ≡ true →
        variables_in iw pe p.e_len p.len j ≡ variables_in p.iw p.pe p.e_len p.len j
    variables_same j h = reads_variables p.iw p.pe p.e_len p.len iw pe p.e_len p.len j (still.reads j h) (st.laid.laid.parts j h)

    -- what is linked stays so
    owner_same : (x : ℕ) → owner_of (word pe x) ≡ owner_of (word p.pe x)
    owner_same x = elim (cases_Bool (has_list p.pe p.len x)) [
      | inr n ↦ ap owner_of (still.others x n)
      | inl y ↦ (standing.place_is (word pe x) (has_parts pe p.len x (still.listed x ∙ y)).0).0
          ∙ sym (standing.place_is (word p.pe x) (has_parts p.pe p.len x y).0).0
    ]

    link_at : (x : ℕ) → (view_of after).link x ≡ (view_of p).link x
    link_at x = ap (λ o. cond (is_over (word p.e_len x)) o None) (owner_same x)

    link_same : (view_of after).link ≡ (view_of p).link
    link_same = λ i. λ x. link_at x i

    keeps : views.Keeps (view_of after) t
    keeps = let k = st.view.keeps in record {
      size = k.size;
      no_class = k.no_class;
      bound = k.bound;
      small = k.small;
      variables = λ i h. ap (live_of (size_of p.nv)) (variables_same i (class_list i h)) ∙ k.variables i h;
      elements = λ i h. elements_same i (class_list i h) ∙ k.elements i h;
      members = λ e n. let m = some_of (t.members e) n in
          let stood = (holds_gives g s e m.0 (sym (st.view.fits.members e m.0) ∙ m.1)).standing in
          ap (live_of (size_of p.nv)) (reads_list p.iw p.pe p.e_len p.len iw pe p.e_len p.len e (still.reads e (standing_list e stood)))
          ∙ k.members e n;
      least = k.least;
      live = k.live;
      parents = λ e. ap (λ o. cond (is_flip (word p.e_len e)) o None) (owner_same e) ∙ k.parents e;
      links = subst (λ l. views.LinksLead (length p.nv) l t.home) (sym link_same) k.links;
    }

    pub laid_same : IsLaid g.size nzaat after
    laid_same = let l = st.laid in let z = l.sized in record {
      sized = record {
        pe = still.p_long ∙ z.pe;
        e_len = z.e_len;
        nv = z.nv;
        len = z.len;
        degree = z.degree;
        w = z.w;
        head = z.head;
        next = z.next;
        last = z.last;
        hash = z.hash;
      };
      room = (let a = l.room in let b = still.long in omega (arith, a, b));
      end = (let a = l.end in let b = still.long in let c = still.lower in omega (arith, a, b, c));
      laid = still.laid;
      words = (let a = live_part g.size p.pe pe p.len p.len (λ j h. (sym (still.listed j) ∙ h, le_refl (num p.len j))) in
          let b = l.words in omega (arith, a, b));
      clear = l.clear;
      classes = λ i h. (still.listed i ∙ (l.classes i h).0, (l.classes i h).1);
      elements = λ i e h k. still.listed e ∙ l.elements i e h
          (ap (λ xs. has xs e) (sym (elements_same i (l.classes i h).0)) ∙ k);
      degrees = l.degrees;
      borders = λ e m h. l.borders e m (sym (still.listed e) ∙ h);
      most = l.most;
      two = l.two;
      under = l.under;
      standing = λ j h. l.standing j (sym (still.listed j) ∙ h);
      empty = l.empty;
      packs = l.packs;
    }

    -- it stands for what it stood for
    pub stands_same : Stands g dense nzaat after t s
    stands_same = let y = st.view in let f = y.fronts in record {
      view = record {
        graph = y.graph;
        sound = y.sound;
        fits = y.fits;
        rows = y.rows;
        keeps = keeps;
        joined = y.joined;
        no_parent = y.no_parent;
        fronts = record {
          blocks = f.blocks;
          no_element = f.no_element;
          fronts = f.fronts;
          dense_rows = f.dense_rows;
          lnz = f.lnz;
          ldl = f.ldl;
          lu = f.lu;
          greatest = f.greatest;
        };
      };
      laid = laid_same;
      linked = st.linked;
      held = λ j h. st.held j (sym (still.listed j) ∙ h);
    }

  module _ (iw pe : List ℤ) (free : ℕ) (moved : Compacts p.iw p.pe p.len p.free iw pe free) where
    packed : Packs g.size p (record p { iw = iw; pe = pe; free = free })
    packed = subst (λ n. Packs n p (record p { iw = iw; pe = pe; free = free })) st.laid.sized.len
        (packs (subst (λ n. Layout n p.iw p.pe p.e_len p.len p.free) (sym st.laid.sized.len) st.laid.laid) moved)

    still_reads : StillReads g.size p iw pe free
    still_reads = record {
      long = (let l = packed.long in omega (arith, l));
      p_long = packed.p_long;
      listed = packed.listed;
      reads = packed.reads;
      others = packed.others;
      laid = packed.laid;
      lower = packed.lower;
    }

    pub compacted : Compacted g dense nzaat (record p { iw = iw; pe = pe; free = free }) t s
    compacted = let few : free ≤ nzaat = (let a = packed.count in let b = st.laid.words in omega (arith, a, b)) in record {
      stands = stands_same iw pe free still_reads;
      full = λ k l. let q = moved.full k l in (q.0, sym (list_is q.0) ∙ q.1, q.2, q.3);
      listed = λ j h. let there = packed.listed j ∙ list_is j ∙ h in ((has_parts pe p.len j there).0, packed.laid.within j there);
      count = packed.count ∙ ap (sum_below g.size) (λ i. λ j. ap (λ b. cond b (num p.len j) 0) (list_is j) i);
      few = few;
      room = (let a = (laid_same iw pe free still_reads).room in omega (arith, a, few));
    }
