-- The goals of restoring::restore.
use Rattle.amd_model.proofs.Counting.Below.{clash}
use Rattle.std.proofs.Common.{ℕ, ℤ, Bool, List, [], ◌∷◌, true, false, ◌≡◌, ◌<◌, ◌≤◌, ◌+◌, ◌-◌, ◌&&◌, le-add_right}
use Rattle.std.proofs.Common.{not, inl, inr, refl, sym, ap, subst, ◌∙◌}
use Rattle.std.proofs.Common.{arith, cond, length, fold, set, get_or-set_same, get_or-set_other}
use Rattle.std.specs.Prelude.{min, nat_lt, ◌==◌}
use Rattle.std.proofs.Math.Bool.{and-true}
use Rattle.std.proofs.lemmas.Bool.{cases_eq, cond-true, cond-false, false_from_ne_true}
use Rattle.std.proofs.lemmas.List.Sums.{fold-append}
use Rattle.amd_model.specs.Quotient.{has}
use Rattle.amd_model.proofs.Listings.Words.{has_filter as filter_gives}
use Rattle.amd_round_laws.proofs.Lists.Cuts.{cut_small}
use Rattle.amd_words.specs.Words.{num, word, place, is_place, size_of, in_front, rows, Names}
use Rattle.amd_lists.specs.Chains.{DegreeLists}
use Rattle.amd_lists.specs.Renewal.{Filters}
use Rattle.amd_lists.specs.Spans.{span, sifted}
use Rattle.amd_lists.specs.Sizes.{bucket_count}
use Rattle.amd_merging.specs.Merging.{bucket_of}
use Rattle.amd_merging.specs.Restoring.{marked_in, bound_in, put_all, Restores}
use Rattle.amd_merging.proofs.BucketKeys.{bucket_small, bucket_same}
use Rattle.amd_words.proofs.RowLists.{rows_has}
use Rattle.amd_words.proofs.WordMarks.{rows_start, rows_next}
use Rattle.amd_words.proofs.EachRow.{each_none, each_next}
use Rattle.amd_words.proofs.RowLists.{fresh_word}
use Rattle.amd_lists.proofs.Filtering.{filters_none, filters_no, filters_yes}
use Rattle.amd_lists.proofs.ChainLists.{lists_same}
use Rattle.amd_words.proofs.WordMarks.{both_not}
use Rattle.amd_merging.proofs.FrontBack.{Emptying, emptying_none, emptying_skips, emptying_clears, emptying_all}
use Rattle.amd_merging.proofs.FrontBack.{marked_none, marked_next, marked_skip}
use Rattle.amd_merging.proofs.FrontBack.{rows_other, rows_fresh, rows_small, put_none, put_more, put_gives, no_head}
use Rattle.std.proofs.Common.{lt_of_le_of_lt, lt_of_lt_of_le, le_trans, le_of_eq, falls, add-sub_of_le}
use Rattle.amd_words.specs.Sides.{nexts, lasts}
use Rattle.amd_words.proofs.WordCounts.{all_passed, next_place, none_passed, within_count}
use Rattle.amd_merging.proofs.restoring.restore.Goals as goal
use Rattle.amd_merging.proofs.restoring.restore.Goals.{then-is_marked, else-is_marked}

-- the word that the loop is at stands as it was
module _ {n m : ℕ} {pass : ℕ → Bool} {share : ℕ → ℕ} {iw iw' : List ℤ} {from count p end : ℕ} (names : Names n iw from count)
    (after : from ≤ p) (l : p - from < count) (h : Filters m pass share 0 (span iw from (p - from)) from (sifted iw' end 0)) where
  word_same : word iw' p ≡ word iw (from + (p - from))
  word_same = let at : p ≡ from + (p - from) = sym (add-sub_of_le after) in let high = h.high in
      h.above p (omega (arith, high, at)) ∙ ap (word iw) at

  word_row : place (word iw' p) ≡ place (word iw (from + (p - from)))
  word_row = ap place word_same

  word_one : is_place (word iw' p) ≡ true
  word_one = ap is_place word_same ∙ (names (p - from) l).0

-- the parts of the invariant, of values that are equal to others
filters_as : {n : ℕ} {pass : ℕ → Bool} {share : ℕ → ℕ} {iw : List ℤ} {from k k' : ℕ} {iw1 iw2 : List ℤ} {end1 end2 : ℕ} →
    k' ≡ k → iw2 ≡ iw1 → end2 ≡ end1 → Filters n pass share 0 (span iw from k) from (sifted iw1 end1 0) →
    Filters n pass share 0 (span iw from k') from (sifted iw2 end2 0)
filters_as {n} {pass} {share} {iw} {from} {k} {k'} {iw1} {iw2} {end1} {end2} a b d h =
    subst (λ q. Filters n pass share 0 (span iw from q) from (sifted iw2 end2 0)) (sym a)
    (subst (λ q. Filters n pass share 0 (span iw from k) from (sifted q end2 0)) (sym b)
    (subst (λ q. Filters n pass share 0 (span iw from k) from (sifted iw1 q 0)) (sym d) h))

restores_as : (iw : List ℤ) (from : ℕ) {border left least : ℕ} {nv : List ℤ} {degree : List ℕ} {k k' : ℕ} {nv1 nv2 : List ℤ}
    {degree1 degree2 : List ℕ} {low1 low2 : ℕ} → k' ≡ k → nv2 ≡ nv1 → degree2 ≡ degree1 → low2 ≡ low1 →
    Restores (rows iw from k) border left least nv degree nv1 degree1 low1 →
    Restores (rows iw from k') border left least nv degree nv2 degree2 low2
restores_as iw from {border} {left} {least} {nv} {degree} {k} {k'} {nv1} {nv2} {degree1} {degree2} {low1} {low2} a b d e h =
    subst (λ q. Restores (rows iw from q) border left least nv degree nv2 degree2 low2) (sym a)
    (subst (λ q. Restores (rows iw from k) border left least nv degree q degree2 low2) (sym b)
    (subst (λ q. Restores (rows iw from k) border left least nv degree nv1 q low2) (sym d)
    (subst (λ q. Restores (rows iw from k) border left least nv degree nv1 degree1 q) (sym e) h)))

emptying_as : {n : ℕ} {iw : List ℤ} {from : ℕ} {hash0 : List ℕ} {k k' : ℕ} {hash1 hash2 : List ℕ} → k' ≡ k → hash2 ≡ hash1 →
    Emptying n iw from hash0 k hash1 → Emptying n iw from hash0 k' hash2
emptying_as {n} {iw} {from} {hash0} {k} {k'} {hash1} {hash2} a b h = subst (λ q. Emptying n iw from hash0 q hash2) (sym a)
    (subst (λ q. Emptying n iw from hash0 k q) (sym b) h)

linked_as : {n : ℕ} {head1 head2 next1 next2 last1 last2 degree1 degree2 : List ℕ} {k k' : ℕ} (lists : ℕ → ℕ → List ℕ) → k' ≡ k →
    head2 ≡ head1 → next2 ≡ next1 → last2 ≡ last1 → degree2 ≡ degree1 → DegreeLists n head1 next1 last1 degree1 (lists k) →
    DegreeLists n head2 next2 last2 degree2 (lists k')
linked_as {n} {head1} {head2} {next1} {next2} {last1} {last2} {degree1} {degree2} {k} {k'} lists a b d e f h =
    subst (λ q. DegreeLists n head2 next2 last2 degree2 (lists q)) (sym a)
    (subst (λ q. DegreeLists n q next2 last2 degree2 (lists k)) (sym b)
    (subst (λ q. DegreeLists n head1 q last2 degree2 (lists k)) (sym d)
    (subst (λ q. DegreeLists n head1 next1 q degree2 (lists k)) (sym e)
    (subst (λ q. DegreeLists n head1 next1 last1 q (lists k)) (sym f) h))))

pub loop-p-init : goal.loop-p-init
unfolding has
loop-p-init g c =
    let iw : List ℤ = c.args.iw.now in let nv : List ℤ = c.args.nv.now in let from : ℕ = c.args.front.now.from in
    let n : ℕ = length (nexts c.args.sides.now) in
    let e : from - from ≡ 0 = none_passed from in let none = marked_none nv iw from in record {
      lengths = c.requires.lengths;
      filters = subst (λ m. Filters n (in_front nv) (λ j. 0) 0 (span iw from m) from (sifted iw from 0)) (sym e)
          (filters_none n (in_front nv) (λ j. 0) 0 iw from from (omega arith));
      restores = record {
        sizes = λ j. refl;
        marks = λ j. sym (ap (λ xs. in_front nv j && not (has xs j)) (rows_start iw from) ∙ and-true (in_front nv j));
        bounds = each_none iw from (num c.args.degree.now) _;
        least_is = sym (ap (fold (λ m i. min m (bound_in c.args.front.now.border c.args.front.now.left nv c.args.degree.now i))
            c.args.least) none);
      };
      lasts_kept = λ x m f. refl;
      empties = emptying_none n iw nv from c.args.front.now.count c.args.hash.now (lasts c.args.sides.now);
      linked = λ lists out h. lists_same n _ _ _ _ lists _ (λ d l. put_none _ _ lists none d) h;
    }

pub named-i-requires-clause-is_one : goal.named-i-requires-clause-is_one
named-i-requires-clause-is_one g c =
    let after : c.args.front.now.from ≤ c.loop-p.p = c.loop-p.auto.p in let t = c.loop-p-test.true in
    word_one c.requires.front_is.1 after (omega (arith, after, t)) c.loop-p.invariant.filters

pub is_marked-requires : goal.is_marked-requires
is_marked-requires g c =
    let after = c.loop-p.auto.p in let l = within_count after c.loop-p-test.true in
    lt_of_le_of_lt (le_of_eq (c.named-i.ensures ∙ word_row c.requires.front_is.1 after l c.loop-p.invariant.filters))
    (lt_of_lt_of_le (c.requires.front_is.1 (c.loop-p.p - c.args.front.now.from) l).1 (le_of_eq (sym c.loop-p.invariant.lengths.0)))

pub place_class-bound-requires : goal.place_class-bound-requires
place_class-bound-requires g c =
    let iw : List ℤ = c.args.iw.now in let nv : List ℤ = c.args.nv.now in let degree : List ℕ = c.args.degree.now in
    let from : ℕ = c.args.front.now.from in let k : ℕ = c.loop-p.p - from in
    let after : from ≤ c.loop-p.p = c.loop-p.auto.p in let t = c.loop-p-test.true in
    let l : k < c.args.front.now.count = within_count after t in
    let was = c.loop-p.invariant in let i : ℕ = c.named-i.result in
    let is : i ≡ place (word iw (from + k)) = c.named-i.ensures ∙ word_row c.requires.front_is.1 after l was.filters in
    let small = (c.requires.front_is.1 k l).1 in
    let named : has (rows iw from c.args.front.now.count) i ≡ true = ap (has (rows iw from c.args.front.now.count)) is
    ∙ rows_has iw from c.args.front.now.count k l in
    let fresh : has (rows iw from k) i ≡ false = ap (has (rows iw from k)) is
    ∙ fresh_word iw from c.args.front.now.count k l c.requires.front_is.2 in
    let mark_same : in_front c.loop-p.nv i ≡ in_front nv i = was.restores.marks i
    ∙ ap (λ b. in_front nv i && not b) fresh ∙ and-true (in_front nv i) in
    let bound_same : num c.loop-p.degree i ≡ num degree i = was.restores.bounds i
    ∙ cond-false (has (rows iw from k) i) (cond (in_front nv i) (bound_in c.args.front.now.border c.args.front.now.left nv degree i) (num
    degree i))
    (num degree i) fresh in
    let last_same : num (lasts c.loop-p.sides) i ≡ num (lasts c.args.sides.now) i = was.lasts_kept i named fresh in
    let long = was.lengths in let next = long.3 in
    let here : in_front c.loop-p.nv i ≡ true = sym c.is_marked.ensures ∙ c.if-is_marked.true in
    let old = c.requires.classes_are i named (sym mark_same ∙ here) in let s = was.restores.sizes i in let order = c.requires.order in
    let short = c.requires.short in let n = sym next in record {
      lengths = (long.0 ∙ n, long.1 ∙ n, long.2 ∙ n, long.5 ∙ ap bucket_count n);
      short = (let low = subst (λ q. q + 2 ≤ g.S.Signed.MOST) n short.0 in (low, low, le_trans (le_of_eq next) short.2));
      row = lt_of_le_of_lt (le_of_eq is) (lt_of_lt_of_le small (le_of_eq n));
      marked = here;
      class = record {
        class = lt_of_lt_of_le old.class (le_of_eq (sym s));
        part = le_trans (le_of_eq s) old.part;
        bound = lt_of_le_of_lt (le_of_eq bound_same) (lt_of_lt_of_le old.bound (le_of_eq n));
        key = lt_of_le_of_lt (le_of_eq last_same) (lt_of_lt_of_le old.key (le_of_eq n));
      };
      order = (order.0, le_trans order.1 (le_of_eq n));
    }

pub loop-p-preserved : goal.loop-p-preserved
loop-p-preserved g c =
    let iw : List ℤ = c.args.iw.now in let nv : List ℤ = c.args.nv.now in let degree : List ℕ = c.args.degree.now in
    let n : ℕ = length (nexts c.args.sides.now) in let from : ℕ = c.args.front.now.from in let p : ℕ = c.loop-p.p in let k : ℕ = p - from in
    let after : from ≤ p = c.loop-p.auto.p in let t = c.loop-p-test.true in let at : p ≡ from + k = sym (add-sub_of_le after) in
    let l : k < c.args.front.now.count = within_count after t in let next : p + 1 - from ≡ k + 1 = next_place after in
    let was = c.loop-p.invariant in let h = was.filters in let word_k = c.requires.front_is.1 k l in
    let is_one : is_place (word iw p) ≡ true = ap (λ m. is_place (word iw m)) at ∙ word_k.0 in
    let small : place (word iw p) < n = lt_of_le_of_lt (le_of_eq (ap (λ m. place (word iw m)) at)) word_k.1 in
    let i : ℕ = c.named-i.result in
    let is : i ≡ place (word iw (from + k)) = c.named-i.ensures ∙ word_row c.requires.front_is.1 after l h in
    let tiny : i < n = lt_of_le_of_lt (le_of_eq is) word_k.1 in
    let rows_next_is : rows iw from (p + 1 - from) ≡ rows iw from (k + 1) = ap (rows iw from) next in
    let named : has (rows iw from c.args.front.now.count) i ≡ true = ap (has (rows iw from c.args.front.now.count)) is
    ∙ rows_has iw from c.args.front.now.count k l in
    let fresh : has (rows iw from k) i ≡ false = ap (has (rows iw from k)) is
    ∙ fresh_word iw from c.args.front.now.count k l c.requires.front_is.2 in
    let bound : ℕ → ℕ = bound_in c.args.front.now.border c.args.front.now.left nv degree in
    let mark_same : in_front c.loop-p.nv i ≡ in_front nv i = was.restores.marks i
    ∙ ap (λ b. in_front nv i && not b) fresh ∙ and-true (in_front nv i) in
    let bound_same : num c.loop-p.degree i ≡ num degree i = was.restores.bounds i
    ∙ cond-false (has (rows iw from k) i) (cond (in_front nv i) (bound i) (num degree i)) (num degree i) fresh in
    let last_same : num (lasts c.loop-p.sides) i ≡ num (lasts c.args.sides.now) i = was.lasts_kept i named fresh in
    let size_same = was.restores.sizes in let long = was.lengths in
    let border : ℕ = c.args.front.now.border in let left : ℕ = c.args.front.now.left in let met : List ℕ = marked_in nv (rows iw from k) in
    let f : ℕ → ℕ → ℕ = λ m j. min m (bound j) in let order = c.requires.order in
    elim c.if-is_marked.branch [
      | then-is_marked w ↦ (
          let here : in_front nv i ≡ true = sym mark_same ∙ sym c.is_marked.ensures ∙ w.if-is_marked.true in
          let e = w.place_class-bound.ensures in let b : ℕ = w.place_class-bound.result in let old = c.requires.classes_are i named here in
          let bound_is : b ≡ bound i = e.bound_is
          ∙ ap (λ m. min (num c.loop-p.degree i + (border - m)) (left - m)) (size_same i)
          ∙ ap (λ m. min (m + (border - size_of nv i)) (left - size_of nv i)) bound_same in
          let tight : b < n = (let a = old.class in omega (arith, bound_is, a, order)) in
          let grown = marked_next nv iw from k i is here in
          let out_met : (lists : ℕ → List ℕ) → ((d x : ℕ) → d < n → has (lists d) x ≡ true →
          has (rows iw from c.args.front.now.count) x ≡ false) →
          (d x : ℕ) → d < n → has (rows iw from c.args.front.now.count) x ≡ true → has (rows iw from k) x ≡ false →
          has (put_all bound met lists d) x ≡ false
          = λ lists out d x s m g. false_from_ne_true (has (put_all bound met lists d) x) (λ q. elim (put_gives bound met lists d x q) [
            | inl u ↦ clash {P = ⊥} (filter_gives (in_front nv) (rows iw from k) x u).0 g
            | inr u ↦ clash {P = ⊥} m (out d x s u)
          ]) in
          let hash_is : w.place_class-bound.new.hash
          ≡ cond (nat_lt 1 c.args.front.now.count) (set c.loop-p.hash (bucket_of c.args.front.now.count (lasts c.args.sides.now) i) n)
          c.loop-p.hash = e.emptied
          ∙ ap (λ m. cond (nat_lt 1 c.args.front.now.count) (set c.loop-p.hash m (length (nexts c.loop-p.sides))) c.loop-p.hash)
          (bucket_same c.args.front.now.count (lasts c.loop-p.sides) (lasts c.args.sides.now) i i last_same)
          ∙ ap (λ m. cond (nat_lt 1 c.args.front.now.count) (set c.loop-p.hash (bucket_of c.args.front.now.count (lasts c.args.sides.now) i)
          m) c.loop-p.hash)
          long.3 in
          let v = e.lengths in
          record {
            lengths = (
              ap length w.nv-is ∙ v.0 ∙ long.3,
              ap length w.degree-is ∙ v.1 ∙ long.3,
              ap length w.head-is ∙ v.2 ∙ long.3,
              ap length (ap nexts w.sides-is) ∙ v.3 ∙ long.3,
              ap length (ap lasts w.sides-is) ∙ v.4 ∙ long.3,
              ap length w.hash-is ∙ v.5 ∙ ap bucket_count long.3,
            );
            filters = filters_as next (w.iw-is ∙ w.copy_word.ensures) w.end-is
                (filters_yes n (in_front nv) (λ j. 0) 0 iw from from h p 0 at (omega arith) (lt_of_lt_of_le t c.requires.front_is.0)
                is_one small (ap (in_front nv) (sym is) ∙ here) (let z = cut_small 0 (omega arith) in omega (arith, z)));
            restores = restores_as iw from next w.nv-is w.degree-is w.low-is record {
              sizes = λ j. e.sizes j ∙ was.restores.sizes j;
              marks = λ j. e.marks j ∙ ap (λ z. z && not (i == j)) (was.restores.marks j)
                  ∙ ap (λ z. (in_front nv j && not (has (rows iw from k) j)) && not (z == j)) is
                  ∙ both_not (in_front nv j) (has (rows iw from k) j) (place (word iw (from + k)) == j)
                  ∙ ap (λ z. in_front nv j && not z) (sym (rows_next iw from k j));
              bounds = each_next iw from k (num degree) (num c.loop-p.degree) (λ x. cond (in_front nv x) (bound x) (num degree x))
                  was.restores.bounds i is fresh (num w.place_class-bound.new.degree)
                  (λ q. ap (λ ds. num ds i) e.degrees
                  ∙ get_or-set_same c.loop-p.degree i b 0 (lt_of_lt_of_le tiny (le_of_eq (sym long.1))) ∙ bound_is
                  ∙ sym (cond-true (in_front nv i) (bound i) (num degree i) here))
                  (λ x ne. ap (λ ds. num ds x) e.degrees ∙ get_or-set_other c.loop-p.degree i x b 0 ne);
              least_is = w.min-low.ensures ∙ ap (λ m. min m b) was.restores.least_is ∙ ap (min (fold f c.args.least met)) bound_is
                  ∙ sym (ap (fold f c.args.least) grown ∙ fold-append f c.args.least met (i ∷ []));
            };
            lasts_kept = λ x m g. let q = rows_fresh nv iw from k i is x (sym (ap (λ xs. has xs x) rows_next_is) ∙ g) in
                let given = c.requires.linked in
                ap (λ l. num l x) (ap lasts w.sides-is) ∙ e.others x q.0
                (no_head n c.loop-p.head (nexts c.loop-p.sides) (lasts c.loop-p.sides) c.loop-p.degree
                (put_all bound met given.0) b x
                (was.linked given.0 given.2 given.1) tight (rows_small n iw from c.args.front.now.count c.requires.front_is.1 x m)
                (out_met given.0 given.2 b x tight m q.1)) ∙ was.lasts_kept x m q.1;
            empties = emptying_as next (w.hash-is ∙ hash_is)
                (emptying_clears n iw nv from c.args.front.now.count c.args.hash.now (lasts c.args.sides.now) c.requires.heads k i is
                c.loop-p.hash was.empties (bucket_small n c.args.front.now.count (lasts c.args.sides.now) i old.key) long.5);
            linked = λ lists out g.
                let before = subst (λ m. DegreeLists m c.loop-p.head (nexts c.loop-p.sides) (lasts c.loop-p.sides) c.loop-p.degree
                (put_all bound met lists))
                (sym long.3) (was.linked lists out g) in
                let put = e.linked (put_all bound met lists)
                (λ d s. out_met lists out d i (lt_of_lt_of_le s (le_of_eq long.3)) named fresh) before in
                linked_as (λ m. put_all bound (marked_in nv (rows iw from m)) lists) next w.head-is (ap nexts w.sides-is)
                (ap lasts w.sides-is) w.degree-is
                (lists_same n _ _ _ _ (λ d. cond (d == b) (i ∷ put_all bound met lists d) (put_all bound met lists d)) _
                (λ d s. ap (λ m. cond (d == m) (i ∷ put_all bound met lists d) (put_all bound met lists d)) bound_is
                ∙ put_more bound met i lists d
                ∙ ap (λ xs. put_all bound xs lists d) (sym grown))
                (subst (λ m. DegreeLists m w.place_class-bound.new.head (nexts w.place_class-bound.new.sides)
                (lasts w.place_class-bound.new.sides)
                w.place_class-bound.new.degree (λ d. cond (d == b) (i ∷ put_all bound met lists d)
                (put_all bound met lists d))) long.3 put));
          }
          )
      | else-is_marked w ↦ (
          let none : in_front nv i ≡ false = sym mark_same ∙ sym c.is_marked.ensures ∙ w.if-is_marked.false in
          let same_met = marked_skip nv iw from k i is none in
          record {
            lengths = (
              ap length w.nv-is ∙ long.0,
              ap length w.degree-is ∙ long.1,
              ap length w.head-is ∙ long.2,
              ap length (ap nexts w.sides-is) ∙ long.3,
              ap length (ap lasts w.sides-is) ∙ long.4,
              ap length w.hash-is ∙ long.5,
            );
            filters = filters_as next w.iw-is w.end-is (filters_no n (in_front nv) (λ j. 0) 0 iw from from h (ap (in_front nv) (sym is)
                ∙ none));
            restores = restores_as iw from next w.nv-is w.degree-is w.low-is record {
              sizes = was.restores.sizes;
              marks = λ j. elim (cases_eq j i) [
                | inl q ↦ was.restores.marks j ∙ ap (λ z. z && not (has (rows iw from k) j)) (ap (in_front nv) q ∙ none)
                    ∙ sym (ap (λ z. z && not (has (rows iw from (k + 1)) j)) (ap (in_front nv) q ∙ none))
                | inr ne ↦ was.restores.marks j ∙ ap (λ z. in_front nv j && not z) (sym (rows_other nv iw from k i is j ne))
              ];
              bounds = each_next iw from k (num degree) (num c.loop-p.degree) (λ x. cond (in_front nv x) (bound x) (num degree x))
                  was.restores.bounds i is fresh (num c.loop-p.degree)
                  (λ q. q ∙ sym (cond-false (in_front nv i) (bound i) (num degree i) none)) (λ x ne. refl);
              least_is = was.restores.least_is ∙ sym (ap (fold f c.args.least) same_met);
            };
            lasts_kept = λ x m g. ap (λ l. num l x) (ap lasts w.sides-is)
                ∙ was.lasts_kept x m (rows_fresh nv iw from k i is x (sym (ap (λ xs. has xs x) rows_next_is) ∙ g)).1;
            empties = emptying_as next w.hash-is (emptying_skips n iw nv from c.args.front.now.count c.args.hash.now (lasts
                c.args.sides.now)
                c.requires.heads k i is
                c.loop-p.hash was.empties none);
            linked = λ lists out g. linked_as (λ m. put_all bound (marked_in nv (rows iw from m)) lists) next w.head-is
                (ap nexts w.sides-is)
                (ap lasts w.sides-is) w.degree-is (subst (λ xs. DegreeLists n c.loop-p.head (nexts c.loop-p.sides) (lasts c.loop-p.sides)
                c.loop-p.degree
                (put_all bound xs lists))
                (sym same_met) (was.linked lists out g));
          }
          )
    ]

pub named-i-requires-clause-inside : goal.named-i-requires-clause-inside
named-i-requires-clause-inside g c = lt_of_lt_of_le c.loop-p-test.true
    (le_trans c.requires.front_is.0 (le_of_eq (sym c.loop-p.invariant.filters.long)))

pub copy_word-requires-clause-from : goal.copy_word-requires-clause-from
copy_word-requires-clause-from g c = lt_of_lt_of_le c.loop-p-test.true
    (le_trans c.requires.front_is.0 (le_of_eq (sym c.loop-p.invariant.filters.long)))

pub copy_word-requires-clause-to : goal.copy_word-requires-clause-to
copy_word-requires-clause-to g c =
    lt_of_le_of_lt (le_trans c.loop-p.invariant.filters.high (le_of_eq (add-sub_of_le c.loop-p.auto.p)))
    (lt_of_lt_of_le c.loop-p-test.true (le_trans c.requires.front_is.0 (le_of_eq (sym c.loop-p.invariant.filters.long))))

pub loop-p-smaller : goal.loop-p-smaller
loop-p-smaller g c = falls (c.args.front.now.from + c.args.front.now.count) c.loop-p.p c.loop-p-test.true

pub returns : goal.returns
returns g c = record {
  filters = (let t = c.loop-p-test.false in let after : c.args.front.now.from ≤ c.loop-p.p = c.loop-p.auto.p in
      let past : c.loop-p.p ≤ c.args.front.now.from + c.args.front.now.count = c.loop-p.auto.p-end (le-add_right _ _) in
      let all : c.loop-p.p - c.args.front.now.from ≡ c.args.front.now.count = all_passed _ _ _ after past t in
      subst (λ m. Filters (length (nexts c.args.sides.now)) (in_front c.args.nv.now) (λ j. 0) 0 (span c.args.iw.now c.args.front.now.from m)
      c.args.front.now.from (sifted c.loop-p.iw c.loop-p.end 0)) all c.loop-p.invariant.filters);
  placed = (let t = c.loop-p-test.false in let after : c.args.front.now.from ≤ c.loop-p.p = c.loop-p.auto.p in
      let past : c.loop-p.p ≤ c.args.front.now.from + c.args.front.now.count = c.loop-p.auto.p-end (le-add_right _ _) in
      let all : c.loop-p.p - c.args.front.now.from ≡ c.args.front.now.count = all_passed _ _ _ after past t in
      subst (λ m. Restores (rows c.args.iw.now c.args.front.now.from m) c.args.front.now.border c.args.front.now.left c.args.least
      c.args.nv.now c.args.degree.now
      c.loop-p.nv c.loop-p.degree c.loop-p.low) all c.loop-p.invariant.restores);
  empty = (let t = c.loop-p-test.false in let after : c.args.front.now.from ≤ c.loop-p.p = c.loop-p.auto.p in
      let past : c.loop-p.p ≤ c.args.front.now.from + c.args.front.now.count = c.loop-p.auto.p-end (le-add_right _ _) in
      let all : c.loop-p.p - c.args.front.now.from ≡ c.args.front.now.count = all_passed _ _ _ after past t in
      emptying_all (length (nexts c.args.sides.now)) c.args.iw.now c.args.nv.now c.args.front.now.from c.args.front.now.count
      c.args.hash.now
      (lasts c.args.sides.now)
      c.requires.heads c.loop-p.hash (subst (λ m. Emptying (length (nexts c.args.sides.now)) c.args.iw.now c.args.front.now.from
      c.args.hash.now m
      c.loop-p.hash)
      all c.loop-p.invariant.empties));
  linked = (λ lists out h. let t = c.loop-p-test.false in let after : c.args.front.now.from ≤ c.loop-p.p = c.loop-p.auto.p in
      let past : c.loop-p.p ≤ c.args.front.now.from + c.args.front.now.count = c.loop-p.auto.p-end (le-add_right _ _) in
      let all : c.loop-p.p - c.args.front.now.from ≡ c.args.front.now.count = all_passed _ _ _ after past t in
      subst (λ m. DegreeLists (length (nexts c.args.sides.now)) c.loop-p.head (nexts c.loop-p.sides) (lasts c.loop-p.sides) c.loop-p.degree
      (put_all (bound_in c.args.front.now.border c.args.front.now.left c.args.nv.now c.args.degree.now) (marked_in c.args.nv.now
      (rows c.args.iw.now c.args.front.now.from m)) lists))
      all (c.loop-p.invariant.linked lists out h));
  lengths = (c.loop-p.invariant.lengths);
}
