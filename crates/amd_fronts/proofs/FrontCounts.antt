-- The classes of a front are counted one after another: what stands once some of them were.
use Rattle.std.proofs.Common.{ℕ, Bool, true, List, ◌≡◌, ◌<◌, ◌≤◌, ◌+◌, ◌-◌, ◌&&◌, not, arith, refl, sym, ap, subst, ◌∙◌, cond, length}
use Rattle.std.proofs.Common.{filter, add-sub_of_le, lt_of_le_of_lt, lt_of_lt_of_le, le_of_eq}
use Rattle.std.proofs.lemmas.Bool.{not_from_false}
use Rattle.amd_model.specs.Quotient.{has, Once}
use Rattle.amd_model.proofs.Listings.Words.{filter_has}
use Rattle.amd_words.specs.Words.{num, word, place, is_place, start, flip_of, size_of, rows, Names}
use Rattle.amd_words.proofs.WordMarks.{rows_start}
use Rattle.amd_words.proofs.RowLists.{rows_has, rows_part}
use Rattle.amd_words.proofs.WordCounts.{within_count}
use Rattle.amd_lists.specs.Chains.{DegreeLists, without}
use Rattle.amd_lists.specs.Layout.{elements_in, rows_met}
use Rattle.amd_lists.specs.Workspaces.{Workspace}
use Rattle.amd_lists.proofs.ChainLists.{lists_same}
use Rattle.amd_fronts.specs.Counts.{touched, ends, settled, IsListed}
use Rattle.amd_fronts.specs.Effects.{CountsClass, CountsOutside}
use Rattle.amd_fronts.specs.Premises.{CanCountClass, CanCountFront}
use Rattle.amd_fronts.specs.Tallies.{front_at, tally_of, IsCounted, CountsFront, EndsCounted, LeavesLists}
use Rattle.amd_fronts.proofs.Counting.{counted_none, starts_none, count_again, count_first, count_next, start_next}
use Rattle.amd_fronts.proofs.Leaving.{all_left, one_leaves}
use Rattle.amd_fronts.proofs.WordReads.{IsWordRead, class_kept}

module _ {most_place most_cell me : ℕ} {p : Workspace} (aggressive : Bool) (can : CanCountFront most_place most_cell me p) where
  abbrev from : ℕ
  from = start p.pe me

  -- the first k classes of the front
  abbrev some : ℕ → List ℕ
  some k = rows p.iw from k

  -- nothing is counted at first
  pub none_counted : CountsOutside aggressive me (some (from - from)) p p
  none_counted =
      let met : ℕ → ℕ = λ e. rows_met p.iw p.pe p.e_len p.nv (some (from - from)) e in
      let none : (e : ℕ) → met e ≡ 0 = λ e. ap (λ xs. rows_met p.iw p.pe p.e_len p.nv xs e) (rows_start p.iw from) in record {
        long = (refl, refl);
        counted = λ e. counted_none aggressive p.flag (num p.w e) (num p.degree e) (met e) can.two (can.under e) (none e);
        starts = λ e. starts_none aggressive p.flag (num p.w e) (num p.degree e) (met e) can.two (can.under e) (none e) (flip_of me)
            (word p.pe e);
        lengths = (refl, refl, refl);
        linked = λ lists member h. lists_same _ _ _ _ _ lists _ (λ d l. all_left p.iw from (lists d)) h;
        same = refl;
      }

  -- the next word of the list is a place
  pub place_next : {q : ℕ} → from ≤ q → q < from + num p.len me → is_place (word p.iw q) ≡ true
  place_next {q} after before = ap (λ m. is_place (word p.iw m)) (sym (add-sub_of_le after))
      ∙ (can.front.0 (q - from) (within_count after before)).0

  -- i is the next class, and v what the ones before it left behind
  module _ {v : Workspace} {q i : ℕ} (read : IsWordRead p.iw from (num p.len me) q i)
      (was : CountsOutside aggressive me (some (q - from)) p v) where
    abbrev here : Workspace
    here = record p { pe = v.pe; w = v.w; head = v.head; next = v.next; last = v.last }

    class : IsCounted (front_at p me) p i
    class = can.classes i read.named

    -- its start and its elements are as before
    kept : (word v.pe i ≡ word p.pe i) × (elements_in p.iw v.pe p.e_len i ≡ elements_in p.iw p.pe p.e_len i)
    kept = class_kept p.iw p.pe p.e_len p.nv aggressive me p.degree p.w v.pe read can.two can.under was.starts
        (λ j h. (can.classes j h).apart i read.named)

    listed_here : IsListed here i
    listed_here = let h = class.listed in record {
      starts = ap is_place kept.0 ∙ h.starts;
      counts = h.counts;
      within = subst (λ z. place z + place (word p.e_len i) ≤ length p.iw) (sym kept.0) h.within;
      names = subst (λ n. Names n p.iw (start v.pe i) (place (word p.e_len i))) (sym was.long.0)
          (subst (λ z. Names (length p.w) p.iw (place z) (place (word p.e_len i))) (sym kept.0) h.names);
      once = subst (λ z. Once (rows p.iw (place z) (place (word p.e_len i)))) (sym kept.0) h.once;
      class = h.class;
      inside = h.inside;
    }

    can_here : CanCountClass most_place most_cell me i here
    can_here =
        let l = read.inside in let is = read.is in let long = was.long in let w = sym long.0 in let a = can.lengths.0 in
        let b = can.more_lengths in let d = was.lengths in
        let row : i < length p.w = lt_of_le_of_lt (le_of_eq is) (can.front.0 (q - from) l).1 in record {
          lengths = (long.1 ∙ a.0 ∙ w, a.1 ∙ w, a.2 ∙ w, a.3 ∙ w);
          more_lengths = (d.0 ∙ b.0 ∙ w, d.1 ∙ b.1 ∙ w, d.2 ∙ b.2 ∙ w);
          row = (lt_of_lt_of_le row (le_of_eq w), lt_of_lt_of_le class.bound (le_of_eq w));
          small = can.small;
          listed = listed_here;
          again = λ e h b. count_again p.iw p.pe p.e_len p.nv aggressive p.degree p.w v.w v.w from (num p.len me) (q - from) p.flag l
              can.two can.under can.part was.counted i is class.listed.class e (ap (λ xs. has xs e) (sym kept.1) ∙ h) b;
          first = λ e h b. count_first p.iw p.pe p.e_len p.nv aggressive p.degree p.w v.w v.w from (num p.len me) (q - from) p.flag l
              can.two can.under can.part was.counted i is class.listed.class e (ap (λ xs. has xs e) (sym kept.1) ∙ h) b;
          fits = λ e m. can.fits e (lt_of_lt_of_le m (le_of_eq long.0));
        }

    pub can_class : CanCountClass most_place most_cell me i v
    can_class = subst (CanCountClass most_place most_cell me i) (sym was.same) can_here

    module _ {v' : Workspace} (now : CountsClass (tally_of aggressive me i here) i here v') where
      abbrev top : ℕ → ℕ
      top e = touched p.flag (num p.degree e) (size_of p.nv i) (num v.w e)

      counted_here : CountsFront aggressive (some (q + 1 - from)) p v'.w
      counted_here = subst (λ m. CountsFront aggressive (some m) p v'.w) (sym read.next)
          (count_next p.iw p.pe p.e_len p.nv aggressive p.degree p.w v.w v'.w from (num p.len me) (q - from) p.flag read.inside
          can.two can.under can.part was.counted i read.is class.listed.class
          (λ e. now.touches.counted e ∙ ap (λ xs. cond (has xs e) (settled aggressive p.flag (top e)) (num v.w e)) kept.1))

      starts_here : EndsCounted aggressive me (some (q + 1 - from)) p v'.pe
      starts_here = subst (λ m. EndsCounted aggressive me (some m) p v'.pe) (sym read.next)
          (start_next p.iw p.pe p.e_len p.nv aggressive p.degree p.w v.w v'.w from (num p.len me) (q - from) p.flag read.inside
          can.two can.under can.part was.counted i read.is class.listed.class me v.pe v'.pe was.starts
          (λ e. now.touches.starts e ∙ ap (λ xs. cond (has xs e && ends aggressive p.flag (top e)) (flip_of me) (word v.pe e)) kept.1))

      linked_here : LeavesLists (length p.w) (some (q + 1 - from)) p v'
      linked_here lists member h =
          let k : ℕ = q - from in let left : ℕ → List ℕ = λ d. filter (λ j. not (has (some k) j)) (lists d) in
          let before : DegreeLists (length p.w) v.head v.next v.last p.degree left =
          subst (λ d. DegreeLists (length p.w) v.head v.next v.last d left) (ap (λ x. x.degree) was.same)
          (was.linked lists (λ j m. member j (earlier j m)) h) in
          let gone = now.linked left (filter_has (λ j. not (has (some k) j)) (lists (num p.degree i)) i
          (member i own) (not_from_false (has (some k) i) read.fresh))
          (subst (λ n. DegreeLists n v.head v.next v.last p.degree left) (sym was.long.0) before) in
          subst (λ m. DegreeLists (length p.w) v'.head v'.next v'.last v'.degree (λ d. filter (λ j. not (has (some m) j)) (lists d)))
          (sym read.next)
          (subst (λ d. DegreeLists (length p.w) v'.head v'.next v'.last d (λ b. filter (λ j. not (has (some (q - from + 1)) j)) (lists b)))
          (sym (ap (λ x. x.degree) now.same))
          (lists_same (length p.w) _ _ _ _ (λ d. without i (left d)) _ (λ d m. one_leaves p.iw from k i read.is (lists d))
          (subst (λ n. DegreeLists n v'.head v'.next v'.last p.degree (λ d. without i (left d))) was.long.0 gone)))
        where
          earlier : (j : ℕ) → has (some (q - from)) j ≡ true → has (some (q + 1 - from)) j ≡ true
          earlier j m = subst (λ n. has (some n) j ≡ true) (sym read.next) (rows_part p.iw from (q - from) (q - from + 1) j (omega arith) m)

          own : has (some (q + 1 - from)) i ≡ true
          own = subst (λ n. has (some n) i ≡ true) (sym read.next)
              (ap (has (some (q - from + 1))) read.is ∙ rows_has p.iw from (q - from + 1) (q - from) (omega arith))

      counts_here : CountsOutside aggressive me (some (q + 1 - from)) p v'
      counts_here = let f = now.lengths in let d = was.lengths in record {
        long = (now.touches.long.0 ∙ was.long.0, now.touches.long.1 ∙ was.long.1);
        counted = counted_here;
        starts = starts_here;
        lengths = (f.0 ∙ d.0, f.1 ∙ d.1, f.2 ∙ d.2);
        linked = linked_here;
        same = now.same;
      }

    -- one more is counted
    pub one_counted : {v' : Workspace} → CountsClass (tally_of aggressive me i v) i v v' →
        CountsOutside aggressive me (some (q + 1 - from)) p v'
    one_counted {v'} now = counts_here (subst (λ x. CountsClass (tally_of aggressive me i x) i x v') was.same now)
