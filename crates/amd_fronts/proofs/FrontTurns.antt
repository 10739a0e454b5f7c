-- A front turned over to its new element: what stands between the count of the rows outside it and the renewal of its lists.
use Rattle.amd_model.proofs.Counting.Below.{clash}
use Rattle.std.proofs.Common.{ℕ, ℤ, Bool, true, false, List, [], ◌∷◌, ◌≡◌, ◌<◌, ◌≤◌, ◌+◌, ◌-◌, not, inl, inr, refl, sym, ap}
use Rattle.std.proofs.Common.{◌∙◌, arith, cond, length, filter, subst, sum_by, lt_of_lt_of_le, le_of_eq, le_trans}
use Rattle.std.proofs.lemmas.Bool.{cases_Bool, cases_eq, cond-true, cond-false, ltb-true, lt-ltb, not_from_true, false_from_ne_true}
use Rattle.amd_model.specs.Quotient.{has, Once}
use Rattle.amd_model.proofs.Quotient.Lists.{filter_yes, filter_no}
use Rattle.amd_model.proofs.Listings.Words.{has_filter as filter_gives}
use Rattle.amd_round_laws.proofs.Lists.Named.{named_sum}
use Rattle.amd_words.specs.Words.{num, word, place, is_place, start, size_of, flip_of, rows}
use Rattle.amd_lists.specs.Chains.{DegreeLists}
use Rattle.amd_lists.specs.Renewal.{is_kept, is_outside, AreMet}
use Rattle.amd_lists.specs.Layout.{elements_in, rows_met, list_in, Layout, IsRenewable}
use Rattle.amd_lists.specs.Workspaces.{Workspace}
use Rattle.amd_fronts.specs.Counts.{counter, ends, settled, IsListed}
use Rattle.amd_fronts.specs.Effects.{CountsOutside, RenewsAllClasses, Turns}
use Rattle.amd_fronts.specs.Fronts.{RenewsFront, renewed_in}
use Rattle.amd_fronts.specs.Premises.{CanTurnFront, CanRenewAll}
use Rattle.amd_fronts.specs.Tallies.{front_at, counted_in, IsPart, CountsFront, EndsCounted}
use Rattle.amd_fronts.specs.Turning.{IsTurning, once_counted}
use Rattle.amd_fronts.specs.TurningLists.{AreTurning}
use Rattle.amd_lists.proofs.Frames.{has_parts, has_from, dropped}
use Rattle.amd_fronts.proofs.Counting.{start_stays, met_stands}
use Rattle.amd_lists.proofs.ChainLists.{back_same}

-- a class of the front as the count reads it
pub turn_listed : {me i : ℕ} {p : Workspace} → Layout (length p.w) p.iw p.pe p.e_len p.len p.free → p.free ≤ length p.iw →
    IsTurning (length p.w) me p i → IsListed p i
turn_listed {me} {i} {p} y fit t =
    let a = y.within i t.listed in let b = y.parts i t.listed in record {
      starts = (has_parts p.pe p.len i t.listed).0;
      counts = t.counts;
      within = omega (arith, a, b, fit);
      names = λ k l. y.words (start p.pe i + k) (omega (arith, a, b, l));
      once = t.once;
      class = t.class;
      inside = t.marked;
    }

-- what passes one test of two is no more than what passes the other
filter_fewer : (p q : ℕ → Bool) (xs : List ℕ) → ((x : ℕ) → p x ≡ true → q x ≡ true) → length (filter p xs) ≤ length (filter q xs)
filter_fewer p q [] less = omega arith
filter_fewer p q (x ∷ xs) less = let h = filter_fewer p q xs less in elim (cases_Bool (p x)) [
  | inl t ↦ (let a = ap length (filter_yes p x xs t) in
      let b = ap length (filter_yes q x xs (less x t)) in omega (arith, a, b, h))
  | inr f ↦ (let a = ap length (filter_no p x xs f) in elim (cases_Bool (q x)) [
    | inl t ↦ (let b = ap length (filter_yes q x xs t) in omega (arith, a, b, h))
    | inr g ↦ (let b = ap length (filter_no q x xs g) in omega (arith, a, b, h))
  ])
]

-- what stands after the count stood before it
stood : (aggressive : Bool) (flag x all seen : ℕ) → 0 < settled aggressive flag (counter flag x all seen) → 0 < x
stood aggressive flag x all seen h = elim (cases_eq x 0) [
  | inr ne ↦ omega (arith, ne)
  | inl e ↦ (let z : settled aggressive flag (counter flag x all seen) ≡ 0 = ap (λ m. settled aggressive flag (counter flag m all seen)) e
      ∙ none (ends aggressive flag (counter flag 0 all seen)) in absurd (omega (arith, h, z)))
]
  where
    none : (b : Bool) → (let zero : ℕ = 0 in cond b zero zero ≡ zero)
    none true = refl
    none false = refl

module _ {n me : ℕ} {p : Workspace} (aggressive : Bool) (y : Layout n p.iw p.pe p.e_len p.len p.free) (two : 2 ≤ p.flag)
    (under : (e : ℕ) → num p.w e < p.flag) (can : AreTurning n me p) (left : List ℤ)
    (ended : EndsCounted aggressive me (front_at p me) p left) where
  -- how many rows of the element e are in the front
  abbrev met : ℕ → ℕ
  met e = rows_met p.iw p.pe p.e_len p.nv (front_at p me) e

  -- a row that no class of the front lists as an element starts where it did
  stays : (i : ℕ) → ((j : ℕ) → has (front_at p me) j ≡ true → has (elements_in p.iw p.pe p.e_len j) i ≡ false) →
      word left i ≡ word p.pe i
  stays i none = start_stays p.iw p.pe p.e_len p.nv aggressive p.flag me p.degree p.w left (start p.pe me) (num p.len me)
      (num p.len me) (omega arith) two under ended i none

  pub left_me : word left me ≡ word p.pe me
  left_me = stays me (λ i h. (can i h).other)

  pub left_front : (i : ℕ) → has (front_at p me) i ≡ true → word left i ≡ word p.pe i
  left_front i m = stays i (λ j h. (can j h).apart i m)

  pub left_list : list_in p.iw left p.len me ≡ front_at p me
  left_list = ap (λ z. rows p.iw (place z) (num p.len me)) left_me

  pub left_laid : Layout n p.iw left p.e_len p.len p.free
  unfolding is_place
  left_laid = dropped y left (λ j. elim (cases_Bool (ends aggressive p.flag (counted_in (front_at p me) p j))) [
    | inl t ↦ inr (ap is_place (ended j ∙ cond-true _ (flip_of me) (word p.pe j) t))
    | inr f ↦ inl (ended j ∙ cond-false _ (flip_of me) (word p.pe j) f)
  ])

  module _ (w : List ℕ) (counted : CountsFront aggressive (front_at p me) p w) (i : ℕ)
      (h : has (list_in p.iw left p.len me) i ≡ true) where
    known : has (front_at p me) i ≡ true
    known = sym (ap (λ xs. has xs i) left_list) ∙ h

    pub left_renewable : IsRenewable (is_kept w) (is_outside p.nv) p.iw left p.e_len p.len i
    left_renewable =
        let t = can i known in let s = left_front i known in let q = has_parts p.pe p.len i t.listed in
        let less = filter_fewer (is_kept w) (is_kept p.w) (elements_in p.iw p.pe p.e_len i) (λ e k. lt-ltb 0 (num p.w e)
        (stood aggressive p.flag (num p.w e) (num p.degree e) (met e)
        (let a = ltb-true 0 (num w e) k in let b = counted e in omega (arith, a, b)))) in
        let es = ap (λ z. length (filter (is_kept w) (rows p.iw (place z) (place (word p.e_len i))))) s in
        let vs = ap (λ z. length (filter (is_outside p.nv) (rows p.iw (place z + place (word p.e_len i))
        (num p.len i - place (word p.e_len i))))) s in
        let r = t.loses in
        (has_from left p.len i (ap is_place s ∙ q.0) q.1, t.counts, omega (arith, less, es, vs, r))

    pub left_met : IsPart (front_at p me) p → AreMet p.flag w (elements_in p.iw left p.e_len i)
    left_met part e named kept =
        let t = can i known in let s = left_front i known in
        let lists : has (elements_in p.iw p.pe p.e_len i) e ≡ true =
        sym (ap (λ z. has (rows p.iw (place z) (place (word p.e_len i))) e) s) ∙ named in
        let share : ℕ → ℕ = λ j. cond (has (elements_in p.iw p.pe p.e_len j) e) (size_of p.nv j) 0 in
        let all = named_sum share (front_at p me) i known in
        let own = cond-true (has (elements_in p.iw p.pe p.e_len i) e) (size_of p.nv i) 0 lists in
        let class = t.class in let count = counted e in let stands = ltb-true 0 (num w e) kept in
        let flagged = met_stands p.flag (num p.w e) (num p.degree e) (met e)
        (omega (arith, all, own, class)) (part e) aggressive (omega (arith, count, stands)) in
        omega (arith, flagged, count)

-- ---- lists by bound that name no class of the front stay

pub others_linked : {n me : ℕ} {front : List ℕ} {p v : Workspace} {gone : ℕ} (head next : List ℕ) (lists : ℕ → List ℕ) →
    RenewsFront n me front p v gone →
    DegreeLists n head next p.last p.degree (λ d. filter (λ j. not (has front j)) (lists d)) →
    DegreeLists n head next v.last v.degree (λ d. filter (λ j. not (has front j)) (lists d))
others_linked {n} {me} {front} {p} {v} {gone} head next lists r h =
    let out : (d x : ℕ) → has (filter (λ j. not (has front j)) (lists d)) x ≡ true → has front x ≡ false = λ d x k.
    false_from_ne_true (has front x) (λ q. clash {P = ⊥} (filter_gives (λ j. not (has front j)) (lists d) x k).1 (not_from_true
    (has front x) q)) in record {
      chains = h.chains;
      backs = λ d l. back_same p.last v.last n (filter (λ j. not (has front j)) (lists d)) (λ x k. r.keys x
          ∙ cond-false (has front x) _ (num p.last x) (out d x k)) (h.backs d l);
      bounds = λ d x l k. r.bounds x ∙ cond-false (has front x) _ (num p.degree x) (out d x k) ∙ h.bounds d x l k;
      once = h.once;
    }

-- ---- a front that is turned over: first its classes are counted, and then their lists are renewed

module _ {most_word most_place most_cell me : ℕ} {p : Workspace} (aggressive : Bool)
    (r : CanTurnFront most_word most_place most_cell me p) (m : Workspace) (out : CountsOutside aggressive me (front_at p me) p m) where
  -- the workspace once its classes are counted
  abbrev counted : Workspace
  counted = once_counted p m m.pe m.last

  same_list : list_in p.iw m.pe p.len me ≡ front_at p me
  same_list = left_list aggressive r.laid r.two.0 r.two.1 r.front m.pe out.starts

  renewable_counted : CanRenewAll most_word most_place most_cell me counted
  renewable_counted = let l = r.lengths in let long = out.long.0 in let w = sym long in record {
    lengths = (out.long.1 ∙ l.0.0 ∙ w, l.0.1 ∙ w, l.1 ∙ w, l.0.2 ∙ w);
    more_lengths = (l.0.3 ∙ w, out.lengths.2 ∙ r.more_lengths.2 ∙ w);
    narrow = (r.narrow.0, le_trans (le_of_eq long) r.narrow.1);
    end = r.end;
    laid = subst (λ n. Layout n p.iw m.pe p.e_len p.len p.free) w
        (left_laid aggressive r.laid r.two.0 r.two.1 r.front m.pe out.starts);
    row = (lt_of_lt_of_le r.row.0 (le_of_eq w), r.row.1, r.row.2);
    list = ap is_place (left_me aggressive r.laid r.two.0 r.two.1 r.front m.pe out.starts) ∙ r.list.starts;
    apart = ap (λ xs. has xs me) same_list ∙ r.list.apart;
    once = subst Once (sym same_list) r.list.once;
    front = left_renewable aggressive r.laid r.two.0 r.two.1 r.front m.pe out.starts m.w out.counted;
    marked = λ i h. (r.front i (sym (ap (λ xs. has xs i) same_list) ∙ h)).marked;
    met = λ i h. left_met aggressive r.laid r.two.0 r.two.1 r.front m.pe out.starts m.w out.counted i h r.part;
    few = let a = ap (sum_by (size_of p.nv)) same_list in let b = r.few in omega (arith, a, b);
  }

  pub renewable_left : CanRenewAll most_word most_place most_cell me m
  renewable_left = subst (CanRenewAll most_word most_place most_cell me) (sym out.same) renewable_counted

  module _ (v : Workspace) (gone : ℕ) where
    turns_counted : RenewsFront (length p.w) me (front_at p me) counted (renewed_in counted v) gone →
        Turns aggressive me p (renewed_in counted v) gone
    turns_counted h = record {
      turns = record { left = m.pe; links = m.last; counted = out.counted; ended = out.starts; renewed = h };
      linked = λ lists member l. others_linked m.head m.next lists h
          (subst (λ d. DegreeLists (length p.w) m.head m.next m.last d (λ b. filter (λ j. not (has (front_at p me) j)) (lists b)))
          (ap (λ x. x.degree) out.same) (out.linked lists member l));
      lengths = (out.long.0, out.lengths.0, out.lengths.1);
      more_lengths = (h.lengths.0 ∙ out.long.1 ∙ r.lengths.0.0, h.lengths.4 ∙ out.lengths.2 ∙ r.more_lengths.2);
      same = refl;
    }

    pub turns_front : RenewsAllClasses me m v gone → Turns aggressive me p v gone
    turns_front h =
        let same : v ≡ renewed_in counted v = h.same ∙ ap (λ x. renewed_in x v) out.same in
        subst (λ x. Turns aggressive me p x gone) (sym same) (turns_counted
        (subst (λ x. RenewsFront (length p.w) me (front_at p me) counted x gone) same
        (subst (λ xs. RenewsFront (length p.w) me xs counted v gone) same_list
        (subst (λ n. RenewsFront n me (front_at counted me) counted v gone) out.long.0
        (subst (λ x. RenewsFront (length x.w) me (front_at x me) x v gone) out.same h.renews)))))
