-- The classes of a front, one after another: each is renewed, or ends if it keeps nothing but the new element.
use Rattle.amd_model.proofs.Counting.Below.{clash}
use Rattle.std.proofs.Common.{ℕ, ℤ, pos, negsuc, Bool, true, false, List, [], ◌∷◌, ◌++◌, ◌≡◌, ◌<◌, ◌≤◌, ◌+◌, ◌-◌}
use Rattle.std.proofs.Common.{◌%◌, ◌^◌, ◌&&◌, ◌||◌, ◌⊎◌, not, inl, inr, refl}
use Rattle.std.proofs.Common.{sym, ap, subst, ◌∙◌, arith, cond, length, filter, sum_by, set, length-set, get_or-set_same, get_or-set_other}
use Rattle.std.specs.Prelude.{bit_and, min, nat_lt}
use Rattle.std.proofs.lemmas.Bool.{cases_Bool, cases_eq, ne_eqb, cond-true, cond-false, and_right}
use Rattle.std.proofs.Math.Bool.{or-false}
use Rattle.std.proofs.lemmas.List.{length-append}
use Rattle.std.proofs.lemmas.List.Sums.{sum_by-append, sum_by-cons}
use Rattle.std.proofs.lemmas.List.Elements.{filter-append}
use Rattle.amd_model.specs.Figures.{cut}
use Rattle.amd_model.specs.Quotient.{has, turned, is_empty, Once}
use Rattle.amd_model.proofs.Listings.Words.{has_filter as filter_gives}
use Rattle.amd_round_laws.proofs.Lists.Named.{filter_named, sum_named, sum_part}
use Rattle.amd_words.specs.Words.{num, word, place, is_place, start, size_of, in_front, rows_in, is_negative, flip_of, rows, Names}
use Rattle.amd_lists.specs.Renewal.{is_kept, is_outside, hashed, AreMet, Renews}
use Rattle.amd_lists.specs.Spans.{RowList, row_list, variables_at}
use Rattle.amd_lists.specs.Workspaces.{Workspace}
use Rattle.amd_lists.specs.Layout.{elements_in, variables_in, list_in, Layout, IsPlaced, LosesOne, reached, IsRenewable, RenewsOne}
use Rattle.amd_lists.specs.Renewal.{key_mask, key_of}
use Rattle.amd_fronts.specs.Fronts.{kept_in, near_in, is_done, bucket_at, is_over, reach_of, key_in, renewed_in, RenewsOrEnds, RenewsFront}
use Rattle.amd_words.proofs.RowLists.{rows_more, rows_both, rows_has, rows_length, rows_part}
use Rattle.amd_words.proofs.WordMarks.{rows_next}
use Rattle.amd_words.proofs.EachRow.{each_next}
use Rattle.amd_fronts.specs.Effects.{RenewsOrRetires}
use Rattle.amd_fronts.specs.Premises.{CanRenewAll, CanRenewOrRetire}
use Rattle.amd_fronts.proofs.RenewedFronts.{all_none, front_word, front_inside, front_row, turn_placed, turn_more, turn_fresh, turn_known}
use Rattle.amd_fronts.proofs.RenewedFronts.{turn_row, turn_elements, turn_variables, turn_length}

turned_length : (xs : List ℕ) → length (turned xs) ≡ length xs
unfolding turned
turned_length [] = refl
turned_length (x ∷ xs) = let a = length-append xs (x ∷ []) in omega (arith, a)

done_yes : (xs ys : List ℕ) → length xs + length ys ≡ 0 → (is_empty xs && is_empty ys) ≡ true
unfolding is_empty
done_yes [] [] e = refl
done_yes [] (y ∷ ys) e = absurd (omega (arith, e))
done_yes (x ∷ xs) ys e = absurd (omega (arith, e))

done_no : (xs ys : List ℕ) → (length xs + length ys ≡ 0 → ⊥) → (is_empty xs && is_empty ys) ≡ false
unfolding is_empty
done_no [] [] ne = absurd (ne refl)
done_no [] (y ∷ ys) ne = refl
done_no (x ∷ xs) ys ne = refl

-- the bucket of what is kept, from its sum
pub bucket_is : (n : ℕ) (xs : List ℕ) (hash : ℕ) → hash ≡ hashed 0 xs → bit_and hash (key_mask n) ≡ key_of n xs
bucket_is n xs hash e = ap (λ h. bit_and h (key_mask n))
    (e ∙ ap (λ m. m % 2 ^ 64) (let a : 0 + sum_by (λ j. j) xs ≡ sum_by (λ j. j) xs = omega arith in a))

-- ---- one class

-- what is said of the list of one class rests on three lists alone
same_lists : {n me i : ℕ} {kept is_apart : ℕ → Bool} {p v : Workspace} (v' : Workspace) → RenewsOne n me kept is_apart i p v →
    RenewsOne n me kept is_apart i p (record v' { iw = v.iw; e_len = v.e_len; len = v.len })
same_lists v' r = record { list = r.list; count = r.count; e_long = r.e_long; l_long = r.l_long; counts = r.counts; lengths = r.lengths }

module _ {n me i : ℕ} {p v : Workspace} (r : RenewsOne n me (is_kept p.w) (is_outside p.nv) i p v) where
  abbrev ks : List ℕ
  ks = kept_in (is_kept p.w) p.iw p.pe p.e_len i

  abbrev vs : List ℕ
  vs = near_in (is_outside p.nv) p.iw p.pe p.e_len p.len i

  abbrev done : Bool
  done = is_over p i

  one_count : num v.len i ≡ 1 + (length ks + length vs)
  one_count = let few = r.list.few_is in let short = r.list.shorter.0 in let near = ap length r.list.variables in
      let a = rows_length v.iw (start p.pe i + place (word v.e_len i)) (num v.len i - place (word v.e_len i)) in let t = turned_length vs in
      omega (arith, few, short, near, a, t)

  pub one_done : num v.len i ≡ 1 → done ≡ true
  one_done e = let c = one_count in done_yes ks vs (omega (arith, c, e))

  pub one_left : (num v.len i ≡ 1 → ⊥) → done ≡ false
  one_left ne = done_no ks vs (λ e. let c = one_count in ne (omega (arith, c, e)))

  pub one_ends : (gone : ℕ) → num v.len i ≡ 1 → i < length p.pe → i < length v.e_len → i < length p.nv → gone ≡ size_of p.nv i →
      RenewsOrEnds n me i p (record p {
        iw = v.iw;
        pe = set p.pe i (flip_of me);
        e_len = set v.e_len i (negsuc 0);
        nv = set p.nv i (pos 0);
        len = v.len;
      }) gone
  one_ends gone few a e m is = let d : done ≡ true = one_done few in record {
    counts = v.e_len;
    renewed = same_lists (record p { pe = set p.pe i (flip_of me); nv = set p.nv i (pos 0) }) r;
    starts = λ x ne. get_or-set_other p.pe i x (flip_of me) (pos 0) ne;
    lists = λ x ne. get_or-set_other v.e_len i x (negsuc 0) (pos 0) ne ∙ r.counts x ne;
    rows = λ x ne. get_or-set_other p.nv i x (pos 0) (pos 0) ne;
    bounds = λ x ne. refl;
    keys = λ x ne. refl;
    start_is = get_or-set_same p.pe i (flip_of me) (pos 0) a ∙ sym (cond-true done (flip_of me) (word p.pe i) d);
    list_is = get_or-set_same v.e_len i (negsuc 0) (pos 0) e ∙ sym (cond-true done (negsuc 0) (word v.e_len i) d);
    row_is = get_or-set_same p.nv i (pos 0) (pos 0) m ∙ sym (cond-true done (pos 0) (word p.nv i) d);
    bound_is = sym (cond-true done (num p.degree i) (min (num p.degree i) (reach_of p i)) d);
    key_is = sym (cond-true done (num p.last i) (key_in n p i) d);
    gone_is = is ∙ sym (cond-true done (size_of p.nv i) 0 d);
  }

  pub one_stays : (degree : List ℕ) (reach hash : ℕ) → (num v.len i ≡ 1 → ⊥) → i < length p.last → reach ≡ reach_of p i →
      num degree i ≡ min (num p.degree i) reach → ((x : ℕ) → (x ≡ i → ⊥) → num degree x ≡ num p.degree x) → hash ≡ hashed 0 (ks ++ vs) →
      RenewsOrEnds n me i p
      (record p { iw = v.iw; e_len = v.e_len; len = v.len; degree = degree; last = set p.last i (bit_and hash (key_mask n)) }) 0
  one_stays degree reach hash many l reach_is bound others hash_is = let d : done ≡ false = one_left many in record {
    counts = v.e_len;
    renewed = same_lists (record p { degree = degree; last = set p.last i (bit_and hash (key_mask n)) }) r;
    starts = λ x ne. refl;
    lists = λ x ne. r.counts x ne;
    rows = λ x ne. refl;
    bounds = others;
    keys = λ x ne. get_or-set_other p.last i x (bit_and hash (key_mask n)) 0 ne;
    start_is = sym (cond-false done (flip_of me) (word p.pe i) d);
    list_is = sym (cond-false done (negsuc 0) (word v.e_len i) d);
    row_is = sym (cond-false done (pos 0) (word p.nv i) d);
    bound_is = bound ∙ ap (min (num p.degree i)) reach_is ∙ sym (cond-false done (num p.degree i) (min (num p.degree i) (reach_of p i)) d);
    key_is = get_or-set_same p.last i (bit_and hash (key_mask n)) 0 l ∙ bucket_is n (ks ++ vs) hash hash_is
        ∙ sym (cond-false done (num p.last i) (key_in n p i) d);
    gone_is = sym (cond-false done (size_of p.nv i) 0 d);
  }

-- what a renewed class leaves is p but for what a renewal may change
pub class_in : (p m : Workspace) → m ≡ record p { iw = m.iw; e_len = m.e_len; len = m.len } → m ≡ renewed_in p m
class_in p m same = subst (λ x. x ≡ renewed_in p x) (sym same) refl

-- and so it is if some of this changes once more
pub changed_in : (p m : Workspace) → m ≡ renewed_in p m → (pe e_len nv : List ℤ) (degree last : List ℕ) →
    record m { pe = pe; e_len = e_len; nv = nv; degree = degree; last = last }
    ≡ renewed_in p (record m { pe = pe; e_len = e_len; nv = nv; degree = degree; last = last })
changed_in p m same pe e_len nv degree last = subst (λ x.
    record x { pe = pe; e_len = e_len; nv = nv; degree = degree; last = last }
    ≡ renewed_in p (record x { pe = pe; e_len = e_len; nv = nv; degree = degree; last = last })) (sym same) refl

-- ---- one class after another

-- none was gone through
pub front_none : (n me : ℕ) (p : Workspace) → Layout n p.iw p.pe p.e_len p.len p.free → RenewsFront n me [] p p 0
unfolding has
front_none n me p y = record {
  counts = p.e_len;
  renewed = all_none n me (is_kept p.w) (is_outside p.nv) p y;
  lengths = (refl, refl, refl, refl, refl);
  starts = λ x. refl;
  lists = λ x. refl;
  rows = λ x. refl;
  bounds = λ x. refl;
  keys = λ x. refl;
  gone_is = refl;
}

module _ {n me : ℕ} {p : Workspace} (y : Layout n p.iw p.pe p.e_len p.len p.free)
    (starts : is_place (word p.pe me) ≡ true)
    (apart : has (list_in p.iw p.pe p.len me) me ≡ false) (once : Once (list_in p.iw p.pe p.len me))
    (can : (i : ℕ) → has (list_in p.iw p.pe p.len me) i ≡ true → IsRenewable (is_kept p.w) (is_outside p.nv) p.iw p.pe p.e_len p.len i)
    (marked : (i : ℕ) → has (list_in p.iw p.pe p.len me) i ≡ true → in_front p.nv i ≡ true)
    {v1 : Workspace} {gone : ℕ} (k : ℕ) (l : k < num p.len me)
    (h : RenewsFront n me (rows p.iw (start p.pe me) k) p v1 gone)
    (i : ℕ) (is : i ≡ place (word v1.iw (start p.pe me + k))) where
  abbrev front : List ℕ
  front = rows p.iw (start p.pe me) k

  abbrev kept : ℕ → Bool
  kept = is_kept p.w

  abbrev beyond : ℕ → ℕ
  beyond e = num p.w e - p.flag

  abbrev over : ℕ → Bool
  over = is_over p

  fresh : has front i ≡ false
  fresh = turn_fresh y starts apart once k l h.renewed can i is

  known : has (list_in p.iw p.pe p.len me) i ≡ true
  known = turn_known y starts apart once k l h.renewed can i is

  row : i ≡ place (word p.iw (start p.pe me + k))
  row = turn_row y starts apart once k l h.renewed can i is

  -- the words of the class are as they were
  start_same : word v1.pe i ≡ word p.pe i
  start_same = h.starts i ∙ cond-false (has front i) (cond (over i) (flip_of me) (word p.pe i)) (word p.pe i) fresh

  list_same : word v1.e_len i ≡ word h.counts i
  list_same = h.lists i ∙ cond-false (has front i && over i) (negsuc 0) (word h.counts i) (ap (λ b. b && over i) fresh)

  row_same : word v1.nv i ≡ word p.nv i
  row_same = h.rows i ∙ cond-false (has front i) (cond (over i) (pos 0) (word p.nv i)) (word p.nv i) fresh

  own_elements : elements_in v1.iw v1.pe v1.e_len i ≡ elements_in p.iw p.pe p.e_len i
  own_elements = ap (λ z. rows v1.iw (place z) (place (word v1.e_len i))) start_same
      ∙ ap (λ z. rows v1.iw (start p.pe i) (place z)) list_same ∙ turn_elements y starts apart once k l h.renewed can i is

  own_variables : variables_in v1.iw v1.pe v1.e_len v1.len i ≡ variables_in p.iw p.pe p.e_len p.len i
  own_variables = ap (λ z. rows v1.iw (place z + place (word v1.e_len i)) (num v1.len i - place (word v1.e_len i))) start_same
      ∙ ap (λ z. rows v1.iw (start p.pe i + place z) (num v1.len i - place z)) list_same
      ∙ turn_variables y starts apart once k l h.renewed can i is

  -- a class that ended was in the front, and is in none now
  row_cases : (j : ℕ) → (word v1.nv j ≡ word p.nv j) ⊎ ((word v1.nv j ≡ pos 0) × (in_front p.nv j ≡ true))
  row_cases j = elim (cases_Bool (has front j)) [
    | inr f ↦ inl (h.rows j ∙ cond-false (has front j) (cond (over j) (pos 0) (word p.nv j)) (word p.nv j) f)
    | inl t ↦ elim (cases_Bool (over j)) [
      | inr f ↦ inl (h.rows j ∙ cond-true (has front j) (cond (over j) (pos 0) (word p.nv j)) (word p.nv j) t
          ∙ cond-false (over j) (pos 0) (word p.nv j) f)
      | inl d ↦ inr (
        h.rows j ∙ cond-true (has front j) (cond (over j) (pos 0) (word p.nv j)) (word p.nv j) t
            ∙ cond-true (over j) (pos 0) (word p.nv j) d,
        marked j (rows_part p.iw (start p.pe me) k (num p.len me) j (omega (arith, l)) t),
      )
    ]
  ]

  outside_same : (j : ℕ) → is_outside v1.nv j ≡ is_outside p.nv j
  unfolding rows_in is_negative
  outside_same j = elim (row_cases j) [
    | inl e ↦ ap (λ z. nat_lt 0 (rows_in z) && not (is_negative z)) e
    | inr q ↦ ap (λ z. nat_lt 0 (rows_in z) && not (is_negative z)) q.0
        ∙ sym (and_right (nat_lt 0 (size_of p.nv j)) (not (in_front p.nv j)) (ap not q.1))
  ]

  size_same : (j : ℕ) → is_outside p.nv j ≡ true → size_of v1.nv j ≡ size_of p.nv j
  size_same j o = elim (row_cases j) [
    | inl e ↦ ap rows_in e
    | inr q ↦ clash o (and_right (nat_lt 0 (size_of p.nv j)) (not (in_front p.nv j)) (ap not q.1))
  ]

  kept_same : kept_in kept v1.iw v1.pe v1.e_len i ≡ kept_in kept p.iw p.pe p.e_len i
  kept_same = ap (filter kept) own_elements

  near_same : near_in (is_outside v1.nv) v1.iw v1.pe v1.e_len v1.len i ≡ near_in (is_outside p.nv) p.iw p.pe p.e_len p.len i
  near_same = filter_named (is_outside v1.nv) (is_outside p.nv) (variables_in v1.iw v1.pe v1.e_len v1.len i) (λ x m. outside_same x)
      ∙ ap (filter (is_outside p.nv)) own_variables

  over_same : is_done kept (is_outside v1.nv) v1.iw v1.pe v1.e_len v1.len i ≡ over i
  over_same = ap (λ xs. is_empty xs && is_empty (near_in (is_outside v1.nv) v1.iw v1.pe v1.e_len v1.len i)) kept_same
      ∙ ap (λ xs. is_empty (kept_in kept p.iw p.pe p.e_len i) && is_empty xs) near_same

  reached_same : reached beyond (size_of v1.nv) kept (is_outside v1.nv) v1.iw v1.pe v1.e_len v1.len i ≡ reach_of p i
  reached_same = ap (λ xs. cut (sum_by beyond xs + sum_by (size_of v1.nv) (near_in (is_outside v1.nv) v1.iw v1.pe v1.e_len v1.len i)))
      kept_same
      ∙ ap (λ xs. cut (sum_by beyond (kept_in kept p.iw p.pe p.e_len i) + sum_by (size_of v1.nv) xs)) near_same
      ∙ ap (λ m. cut (sum_by beyond (kept_in kept p.iw p.pe p.e_len i) + m)) (sum_named (size_of v1.nv) (size_of p.nv)
      (near_in (is_outside p.nv) p.iw p.pe p.e_len p.len i) (λ x m. size_same x (filter_gives (is_outside p.nv)
      (variables_in p.iw p.pe p.e_len p.len i) x m).1))

  bucket_same : bucket_at n kept (is_outside v1.nv) v1.iw v1.pe v1.e_len v1.len i ≡ key_in n p i
  bucket_same = ap (λ xs. key_of n (xs ++ near_in (is_outside v1.nv) v1.iw v1.pe v1.e_len v1.len i)) kept_same
      ∙ ap (λ xs. key_of n (kept_in kept p.iw p.pe p.e_len i ++ xs)) near_same

  -- ---- what the next step asks for

  pub front_placed : p.free ≤ length p.iw → IsPlaced n v1.iw v1.pe v1.e_len v1.len i
  front_placed fit = let t = turn_placed y starts apart once k l h.renewed can i is fit in record {
    row = t.row;
    starts = ap is_place start_same ∙ t.starts;
    counts = ap is_place list_same ∙ t.counts;
    parts = subst (λ z. place z ≤ num v1.len i) (sym list_same) t.parts;
    within = subst (λ z. place z + num v1.len i ≤ length v1.iw) (sym start_same) t.within;
    names = subst (λ z. Names n v1.iw (place z) (num v1.len i)) (sym start_same) t.names;
  }

  pub front_loses : LosesOne kept (is_outside v1.nv) v1.iw v1.pe v1.e_len v1.len i
  front_loses = let a = ap length kept_same in let b = ap length near_same in
      let d = turn_length y starts apart once k l h.renewed can i is in
      let r = (can i known).2 in omega (arith, a, b, d, r)

  pub front_met : (flag : ℕ) (w : List ℕ) →
      ((j : ℕ) → has (list_in p.iw p.pe p.len me) j ≡ true → AreMet flag w (elements_in p.iw p.pe p.e_len j)) →
      AreMet flag w (elements_in v1.iw v1.pe v1.e_len i)
  front_met flag w met = subst (λ xs. AreMet flag w xs) (sym own_elements) (met i known)

  pub front_marked : in_front v1.nv i ≡ true
  front_marked = ap is_negative row_same ∙ marked i known

  gone_next : sum_by (size_of p.nv) (filter over (rows p.iw (start p.pe me) (k + 1)))
      ≡ sum_by (size_of p.nv) (filter over front) + cond (over i) (size_of p.nv i) 0
  gone_next = let grown : filter over (rows p.iw (start p.pe me) (k + 1)) ≡ filter over front ++ cond (over i) (i ∷ []) [] =
      ap (filter over) (rows_more p.iw (start p.pe me) k ∙ ap (λ z. front ++ z ∷ []) (sym row)) ∙ filter-append over front (i ∷ []) in
      elim (cases_Bool (over i)) [
        | inl d ↦ (let a = ap (sum_by (size_of p.nv)) (grown ∙ ap (λ b. filter over front ++ cond b (i ∷ []) []) d) in
            let b = sum_by-append (size_of p.nv) (filter over front) (i ∷ []) in let c = sum_by-cons (size_of p.nv) i [] in
            let none : sum_by (size_of p.nv) [] ≡ 0 = refl in let e = cond-true (over i) (size_of p.nv i) 0 d in
            omega (arith, a, b, c, none, e))
        | inr d ↦ (let a = ap (sum_by (size_of p.nv)) (grown ∙ ap (λ b. filter over front ++ cond b (i ∷ []) []) d) in
            let b = sum_by-append (size_of p.nv) (filter over front) [] in let none : sum_by (size_of p.nv) [] ≡ 0 = refl in
            let e = cond-false (over i) (size_of p.nv i) 0 d in omega (arith, a, b, none, e))
      ]

  next_part : sum_by (size_of p.nv) (filter over (rows p.iw (start p.pe me) (k + 1))) ≤ sum_by (size_of p.nv) (list_in p.iw p.pe p.len me)
  next_part = let e : num p.len me ≡ (k + 1) + (num p.len me - (k + 1)) = omega (arith, l) in
      let a = ap (λ m. sum_by (size_of p.nv) (rows p.iw (start p.pe me) m)) e in
      let b = ap (sum_by (size_of p.nv)) (rows_both p.iw (start p.pe me) (k + 1) (num p.len me - (k + 1))) in
      let c = sum_by-append (size_of p.nv) (rows p.iw (start p.pe me) (k + 1))
      (rows p.iw (start p.pe me + (k + 1)) (num p.len me - (k + 1))) in
      let d = sum_part (size_of p.nv) over (rows p.iw (start p.pe me) (k + 1)) in omega (arith, a, b, c, d)

  -- ---- and the state behind it

  module _ {v2 : Workspace} {more : ℕ} (g : RenewsOrEnds n me i (renewed_in p v1) v2 more)
      (e_wide : length p.e_len ≡ n)
      (long : (length v2.pe ≡ length v1.pe) × (length v2.e_len ≡ length v1.e_len) × (length v2.nv ≡ length v1.nv)
      × (length v2.degree ≡ length v1.degree) × (length v2.last ≡ length v1.last)) where
    more_is : more ≡ cond (over i) (size_of p.nv i) 0
    more_is = g.gone_is ∙ ap (λ b. cond b (size_of v1.nv i) 0) over_same ∙ ap (λ z. cond (over i) (rows_in z) 0) row_same

    pub front_room : gone + more ≤ sum_by (size_of p.nv) (list_in p.iw p.pe p.len me)
    front_room = let a = h.gone_is in let b = gone_next in let c = next_part in let d = more_is in omega (arith, a, b, c, d)

    -- the words for elements, as if none had ended
    abbrev counts2 : List ℤ
    counts2 = set h.counts i (word g.counts i)

    wide : i < length h.counts
    wide = let a = (front_row y starts apart once k l h.renewed).1 in let b = h.renewed.e_long in omega (arith, a, b, row, e_wide)

    counts_here : word counts2 i ≡ word g.counts i
    counts_here = get_or-set_same h.counts i (word g.counts i) (pos 0) wide

    renewed_one : RenewsOne n me kept (is_outside p.nv) i (record v1 { pe = p.pe; e_len = h.counts }) (record v2 { e_len = counts2 })
    renewed_one = let r = g.renewed in record {
      list = subst (λ z. Renews n me kept (is_outside p.nv) (row_list v1.iw (start p.pe i) (place (word h.counts i)) (num v1.len i))
          (row_list v2.iw (start p.pe i) (place z) (num v2.len i))) (sym counts_here)
          (subst (λ z. Renews n me kept (is_outside p.nv) (row_list v1.iw (start p.pe i) (place z) (num v1.len i))
          (row_list v2.iw (start p.pe i) (place (word g.counts i)) (num v2.len i))) list_same
          (subst (λ z. Renews n me kept (is_outside p.nv) (row_list v1.iw (place z) (place (word v1.e_len i)) (num v1.len i))
          (row_list v2.iw (place z) (place (word g.counts i)) (num v2.len i))) start_same (outside_renews r.list)));
      count = ap is_place counts_here ∙ r.count;
      e_long = length-set h.counts i (word g.counts i);
      l_long = r.l_long;
      counts = λ x ne. get_or-set_other h.counts i x (word g.counts i) (pos 0) ne;
      lengths = r.lengths;
    }
      where
        outside_renews : {a b : RowList} → Renews n me kept (is_outside v1.nv) a b → Renews n me kept (is_outside p.nv) a b
        outside_renews {a} {b} r = record {
          stays = r.stays;
          long = r.long;
          few_is = r.few_is;
          shorter = r.shorter;
          elements = r.elements;
          variables = r.variables ∙ ap turned (filter_named (is_outside v1.nv) (is_outside p.nv) (variables_at a) (λ x m. outside_same x));
          names = r.names;
          others = r.others;
        }

    pub front_more : RenewsFront n me (rows p.iw (start p.pe me) (k + 1)) p v2 (gone + more)
    front_more = let f = h.lengths in record {
      counts = counts2;
      renewed = turn_more y starts apart once k l h.renewed can i is renewed_one;
      lengths = (long.0 ∙ f.0, long.1 ∙ f.1, long.2 ∙ f.2, long.3 ∙ f.3, long.4 ∙ f.4);
      starts = each_next p.iw (start p.pe me) k (word p.pe) (word v1.pe) (λ x. cond (over x) (flip_of me) (word p.pe x))
          h.starts i row fresh
          (word v2.pe)
          (λ e. g.start_is ∙ ap (λ b. cond b (flip_of me) (word v1.pe i)) over_same ∙ ap (cond (over i) (flip_of me)) e) g.starts;
      lists = λ x. elim (cases_eq x i) [
        | inl q ↦ rw q (g.list_is ∙ ap (λ b. cond b (negsuc 0) (word g.counts i)) over_same
            ∙ ap (cond (over i) (negsuc 0)) (sym counts_here)
            ∙ sym (ap (λ b. cond (b && over i) (negsuc 0) (word counts2 i)) (ap (has (rows p.iw (start p.pe me) (k + 1))) row
            ∙ rows_has p.iw (start p.pe me) (k + 1) k (omega arith))))
        | inr ne ↦ g.lists x ne ∙ h.lists x ∙ ap (λ b. cond (b && over x) (negsuc 0) (word h.counts x)) (sym (next_other x ne))
            ∙ ap (cond (has (rows p.iw (start p.pe me) (k + 1)) x && over x) (negsuc 0))
            (sym (get_or-set_other h.counts i x (word g.counts i) (pos 0) ne))
      ];
      rows = each_next p.iw (start p.pe me) k (word p.nv) (word v1.nv) (λ x. cond (over x) (pos 0) (word p.nv x))
          h.rows i row fresh (word v2.nv)
          (λ e. g.row_is ∙ ap (λ b. cond b (pos 0) (word v1.nv i)) over_same ∙ ap (cond (over i) (pos 0)) e) g.rows;
      bounds = each_next p.iw (start p.pe me) k (num p.degree) (num v1.degree) (λ x. cond (over x) (num p.degree x)
          (min (num p.degree x) (reach_of p x))) h.bounds i row fresh (num v2.degree)
          (λ e. g.bound_is ∙ ap (λ b. cond b (num v1.degree i) (min (num v1.degree i) (reached beyond (size_of v1.nv) kept
          (is_outside v1.nv) v1.iw v1.pe v1.e_len v1.len i))) over_same
          ∙ ap (λ m. cond (over i) (num v1.degree i) (min (num v1.degree i) m)) reached_same
          ∙ ap (λ m. cond (over i) m (min m (reach_of p i))) e) g.bounds;
      keys = each_next p.iw (start p.pe me) k (num p.last) (num v1.last) (λ x. cond (over x) (num p.last x) (key_in n p x))
          h.keys i row fresh (num v2.last)
          (λ e. g.key_is ∙ ap (λ b. cond b (num v1.last i) (bucket_at n kept (is_outside v1.nv) v1.iw v1.pe v1.e_len v1.len i)) over_same
          ∙ ap (cond (over i) (num v1.last i)) bucket_same ∙ ap (λ m. cond (over i) m (key_in n p i)) e) g.keys;
      gone_is = let a = h.gone_is in let b = gone_next in let d = more_is in omega (arith, a, b, d);
    }
      where
        next_other : (x : ℕ) → (x ≡ i → ⊥) → has (rows p.iw (start p.pe me) (k + 1)) x ≡ has front x
        next_other x ne = rows_next p.iw (start p.pe me) k x
            ∙ ap (λ b. has front x || b) (ne_eqb (place (word p.iw (start p.pe me + k))) x (λ e. ne (sym e ∙ sym row)))
            ∙ or-false (has front x)

-- ---- the loop over the words of the new element

module _ {most_word most_place most_cell me : ℕ} {p v : Workspace} {gone : ℕ} (r : CanRenewAll most_word most_place most_cell me p) (k : ℕ)
    (l : k < num p.len me) (h : RenewsFront (length p.w) me (rows p.iw (start p.pe me) k) p v gone) where
  -- the next word stands in the workspace, and names a row
  pub word_inside : start p.pe me + k < length v.iw
  word_inside = let a = front_inside r.laid r.list r.apart r.once k l h.renewed in let b = r.end in let d = h.renewed.long in
      omega (arith, a, b, d)

  pub word_one : is_place (word v.iw (start p.pe me + k)) ≡ true
  word_one = ap is_place (front_word r.laid r.list r.apart r.once k l h.renewed) ∙ (front_row r.laid r.list r.apart r.once k l h.renewed).0

  module _ (i : ℕ) (is : i ≡ place (word v.iw (start p.pe me + k))) where
    -- and this class can be renewed
    pub class_ready : CanRenewOrRetire most_word most_place most_cell me i (renewed_in p v)
    class_ready = let f = h.lengths in let n = r.lengths in let long = h.renewed.long in let wide = r.narrow.0 in record {
      list = record {
        lengths = (f.0 ∙ n.0, f.1 ∙ n.1, h.renewed.l_long ∙ n.2, f.2 ∙ n.3);
        narrow = omega (arith, long, wide);
        row = (r.row.0, r.row.2);
        placed = front_placed r.laid r.list r.apart r.once r.front r.marked k l h i is r.end;
        loses = front_loses r.laid r.list r.apart r.once r.front r.marked k l h i is;
        met = front_met r.laid r.list r.apart r.once r.front r.marked k l h i is p.flag p.w r.met;
      };
      more_lengths = (f.3 ∙ r.more_lengths.0, f.4 ∙ r.more_lengths.1);
      small = (r.row.1, r.narrow.1);
      marked = front_marked r.laid r.list r.apart r.once r.front r.marked k l h i is;
    }

    module _ {v' : Workspace} {more : ℕ} (g : RenewsOrRetires me i (renewed_in p v) v' more) where
      pub class_renewed : RenewsFront (length p.w) me (rows p.iw (start p.pe me) (k + 1)) p v' (gone + more)
      class_renewed = front_more r.laid r.list r.apart r.once r.front r.marked k l h i is g.renews r.lengths.1 g.lengths

      pub class_room : gone + more ≤ most_word
      class_room = let a = front_room r.laid r.list r.apart r.once r.front r.marked k l h i is g.renews r.lengths.1 g.lengths in
          let b = r.few in omega (arith, a, b)
