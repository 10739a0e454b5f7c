-- The lists of a workspace through a round: which of them are left, and which read as before.
use Rattle.std.proofs.Common.{ℕ, ℤ, pos, negsuc, Bool, true, false, List, ◌≡◌, ◌<◌, ◌≤◌, ◌+◌, ◌-◌, ◌&&◌, ◌⊎◌, not, inl, inr, refl, sym}
use Rattle.std.proofs.Common.{ap, ◌∙◌}
use Rattle.std.proofs.Common.{cond, arith, sum_by, filter}
use Rattle.std.specs.Prelude.{nat_lt, ◌==◌}
use Rattle.std.proofs.lemmas.Bool.{false≢true, cases_Bool, cases_eq, cond-true, cond-false, lt-ltb}
use Rattle.std.proofs.lemmas.Bool.{false_from_ne_true}
use Rattle.amd_model.specs.Graph.{Graph}
use Rattle.amd_model.specs.State.{State}
use Rattle.amd_model.specs.Quotient.{QuotientGraph, has}
use Rattle.amd_model.proofs.Counting.Below.{clash}
use Rattle.amd_model.proofs.Listings.Words.{filter_has}
use Rattle.amd_round_laws.proofs.Lists.Named.{named_sum}
use Rattle.amd_words.specs.Words.{num, word, place, is_place, start, size_of, flip_of, rows_in}
use Rattle.amd_lists.specs.Layout.{has_list, elements_in, ReadsSame, live_words}
use Rattle.amd_lists.specs.Renewal.{is_kept, is_outside}
use Rattle.amd_fronts.specs.Fronts.{is_done}
use Rattle.amd_lists.proofs.Frames.{has_parts, has_from, has_same, live_part}
use Rattle.amd_lists.specs.Workspaces.{Workspace}
use Rattle.amd_fronts.specs.Tallies.{front_at}
use Rattle.amd_rounds.specs.Parts.{MergesFront, EndsFront}
use Rattle.amd_rounds.proofs.Begun as begun
use Rattle.amd_rounds.proofs.Halves.{HalfRound, ends_by, begins_here, left_is, can_turn}
use Rattle.amd_rounds.proofs.Turned.{in_front, front_after}
use Rattle.amd_rounds.proofs.Merged as merging

-- ---- words

-- a list that stands where it did, with as many words, reads the same, in the same words
pub reads_by : (iw pe e_len : List ℤ) (len : List ℕ) (iw' pe' e_len' : List ℤ) (len' : List ℕ) (j : ℕ) → iw' ≡ iw →
    word pe' j ≡ word pe j → word e_len' j ≡ word e_len j → num len' j ≡ num len j → ReadsSame iw pe e_len len iw' pe' e_len' len' j
reads_by iw pe e_len len iw' pe' e_len' len' j w p e l = (
  e,
  l,
  λ k m. ap (λ z. word z (start pe' j + k)) w ∙ ap (λ z. word iw (place z + k)) p,
)

-- a place is no mark
pub no_mark : (b : Bool) (m : ℕ) (z : ℤ) → is_place (cond b (flip_of m) z) ≡ true → b ≡ false
unfolding is_place
no_mark true m z h = absurd (false≢true h)
no_mark false m z h = refl

module _ {g : Graph} {dense : ℕ → Bool} {nzaat : ℕ} {aggressive : Bool} {p : Workspace} {t : QuotientGraph} {s : State}
    (r : HalfRound g dense nzaat aggressive p t s) where
  abbrev pub absorbed : List ℕ
  absorbed = elements_in p.iw p.pe p.e_len r.c

  abbrev pub left : List ℤ
  left = r.turns.turns.left

  abbrev pub done : ℕ → Bool
  done x = is_done (is_kept r.p3.w) (is_outside r.p2.nv) r.p2.iw r.turns.turns.left r.p2.e_len r.p2.len x

  -- ---- the first half of the round

  pub starts_is : (x : ℕ) → word r.p3.pe x ≡ cond (has r.begins.front x && done x) (flip_of r.c) (word left x)
  starts_is x = r.turns.turns.renewed.starts x ∙ ap (λ b. cond b (cond (done x) (flip_of r.c) (word left x)) (word left x)) (in_front r x)
      ∙ joined (has r.begins.front x) (done x)
    where
      joined : (a b : Bool) → cond a (cond b (flip_of r.c) (word left x)) (word left x) ≡ cond (a && b) (flip_of r.c) (word left x)
      joined true b = refl
      joined false b = refl

  -- a list that is left stands where it did, and no more than it was
  pub half_place : (j : ℕ) → is_place (word r.p3.pe j) ≡ true → (word r.p3.pe j ≡ word r.p2.pe j) × (ends_by r j ≡ false)
      × ((has r.begins.front j && done j) ≡ false)
  half_place j h =
      let over = no_mark (has r.begins.front j && done j) r.c (word left j) (ap is_place (sym (starts_is j)) ∙ h) in
      let stay : word r.p3.pe j ≡ word left j = starts_is j ∙ cond-false _ (flip_of r.c) (word left j) over in
      let out = no_mark (ends_by r j) r.c (word r.p2.pe j) (ap is_place (sym (left_is r j) ∙ sym stay) ∙ h) in
      (stay ∙ left_is r j ∙ cond-false _ (flip_of r.c) (word r.p2.pe j) out, out, over)

  -- ---- the whole round

  module _ (p4 : Workspace) (merges : MergesFront g.size r.c (r.block + r.gone) (r.total - r.gone) r.p3 p4) (v : Workspace)
      (ended : EndsFront g.size r.c (r.block + r.gone) (r.total - r.gone) r.is_built p4 v) where
    abbrev rest : List ℕ
    rest = merging.rest r p4 merges

    abbrev into : ℕ → ℕ
    into = merging.into r p4 merges

    abbrev merged : ℕ → Bool
    merged = merging.merged r p4 merges

    pub starts_stay : v.pe ≡ p4.pe
    starts_stay = ap (λ q. q.pe) ended.same

    words_stay : p4.iw ≡ r.p3.iw
    words_stay = ap (λ q. q.iw) merges.same

    lengths_stay : p4.len ≡ r.p3.len
    lengths_stay = ap (λ q. q.len) merges.same

    -- a list that is left stands where it stood after the beginning
    pub place_after : (j : ℕ) → is_place (word v.pe j) ≡ true → (word v.pe j ≡ word r.p2.pe j) × (merged j ≡ false)
        × (ends_by r j ≡ false) × ((has r.begins.front j && done j) ≡ false)
    place_after j h =
        let at : word v.pe j ≡ word p4.pe j = ap (λ l. word l j) starts_stay in
        let alone = no_mark (merged j) (into j) (word r.p3.pe j) (ap is_place (sym (merges.list.merged.links j) ∙ sym at) ∙ h) in
        let stay : word v.pe j ≡ word r.p3.pe j = at ∙ merges.list.merged.links j
        ∙ cond-false _ (flip_of (into j)) (word r.p3.pe j) alone in
        let half = half_place j (ap is_place (sym stay) ∙ h) in
        (stay ∙ half.0, alone, half.1, half.2)

    -- and has no more words
    pub length_after : (j : ℕ) → num v.len j ≤ num r.p2.len j
    length_after j =
        let a = ap (λ l. num l j) lengths_stay in let b = r.turns.turns.renewed.renewed.shorter j in elim (cases_eq j r.c) [
          | inl q ↦ (let d = ended.closes.shorter in let e = ap (num v.len) q in let f = ap (num p4.len) q in omega (arith, a, b, d, e, f))
          | inr ne ↦ (let d = ended.closes.lengths j ne in omega (arith, a, b, d))
        ]

    pub list_after : (j : ℕ) → has_list v.pe v.len j ≡ true → has_list r.p2.pe r.p2.len j ≡ true
    list_after j h = let a = has_parts v.pe v.len j h in let l = a.1 in let m = length_after j in
        has_from r.p2.pe r.p2.len j (ap is_place (sym (place_after j a.0).0) ∙ a.0) (omega (arith, l, m))

    pub words_after : live_words g.size v.pe v.len ≤ live_words g.size p.pe p.len
    words_after = let a = live_part g.size r.p2.pe v.pe r.p2.len v.len (λ j h. (list_after j h, length_after j)) in
        let b = (begins_here r).fewer in omega (arith, a, b)

    -- the list of a row that is neither the pivot nor in the front, and that was not absorbed
    pub through : (j : ℕ) → has_list p.pe p.len j ≡ true → (j ≡ r.c → ⊥) → has r.begins.front j ≡ false →
        has absorbed j ≡ false → ends_by r j ≡ false →
        (has_list v.pe v.len j ≡ true) × ReadsSame p.iw p.pe p.e_len p.len v.iw v.pe v.e_len v.len j
    through j h ne out own stays =
        let all = r.turns.turns.renewed in
        let off : has (front_at r.p2 r.c) j ≡ false = in_front r j ∙ out in
        let listed2 : has_list r.p2.pe r.p2.len j ≡ true = (begins_here r).listed j own ne ∙ h in
        let start2 : word left j ≡ word r.p2.pe j = left_is r j ∙ cond-false _ (flip_of r.c) (word r.p2.pe j) stays in
        let listed : has_list left r.p2.len j ≡ true = has_same r.p2.pe left r.p2.len r.p2.len j start2 refl ∙ listed2 in
        let start3 : word r.p3.pe j ≡ word left j = starts_is j
        ∙ ap (λ b. cond (b && done j) (flip_of r.c) (word left j)) out in
        let count3 : word r.p3.e_len j ≡ word all.counts j = all.lists j
        ∙ ap (λ b. cond (b && done j) (negsuc 0) (word all.counts j)) off in
        let listed3 : has_list r.p3.pe r.p3.len j ≡ true = has_same left r.p3.pe r.p3.len r.p3.len j start3 refl
        ∙ all.renewed.listed j ∙ listed in
        let alone : merged j ≡ false = ap (λ b. b && not (into j == j)) (merging.not_rest r p4 merges j out) in
        let start4 : word p4.pe j ≡ word r.p3.pe j = merges.list.merged.links j ∙ cond-false _ (flip_of (into j)) (word r.p3.pe j) alone in
        let count4 : word p4.e_len j ≡ word r.p3.e_len j = merges.list.merged.lists j
        ∙ cond-false _ (negsuc 0) (word r.p3.e_len j) alone in
        let length4 : num p4.len j ≡ num r.p3.len j = ap (λ l. num l j) lengths_stay in
        let listed4 : has_list p4.pe p4.len j ≡ true = has_same r.p3.pe p4.pe r.p3.len p4.len j start4 length4 ∙ listed3 in
        let start5 : word v.pe j ≡ word p4.pe j = ap (λ l. word l j) starts_stay in
        let closed = ended.closes.same j ne listed4 in
        let read2 = (begins_here r).same j own ne h in
        let read_left = reads_by r.p2.iw r.p2.pe r.p2.e_len r.p2.len r.p2.iw left r.p2.e_len r.p2.len j refl start2 refl refl in
        let renewed = all.renewed.same j off listed in
        let read3 = reads_by r.p3.iw left all.counts r.p3.len r.p3.iw r.p3.pe r.p3.e_len r.p3.len j refl start3 count3 refl in
        let read4 = reads_by r.p3.iw r.p3.pe r.p3.e_len r.p3.len p4.iw p4.pe p4.e_len p4.len j words_stay start4 count4 length4 in
        let read5 = reads_by v.iw p4.pe v.e_len v.len v.iw v.pe v.e_len v.len j refl start5 refl refl in
        let a = begun.reads_then p.iw p.pe p.e_len r.p2.iw r.p2.pe r.p2.e_len r.p2.iw left r.p2.e_len p.len r.p2.len r.p2.len j read2
        read_left in
        let b = begun.reads_then p.iw p.pe p.e_len r.p2.iw left r.p2.e_len r.p3.iw left all.counts p.len r.p2.len r.p3.len j a renewed in
        let d = begun.reads_then p.iw p.pe p.e_len r.p3.iw left all.counts r.p3.iw r.p3.pe r.p3.e_len p.len r.p3.len r.p3.len j b read3 in
        let e = begun.reads_then p.iw p.pe p.e_len r.p3.iw r.p3.pe r.p3.e_len p4.iw p4.pe p4.e_len p.len r.p3.len p4.len j d read4 in
        let f = begun.reads_then p.iw p.pe p.e_len p4.iw p4.pe p4.e_len v.iw p4.pe v.e_len p.len p4.len v.len j e closed in (
          has_same p4.pe v.pe p4.len v.len j start5 (ended.closes.lengths j ne) ∙ listed4,
          begun.reads_then p.iw p.pe p.e_len v.iw p4.pe v.e_len v.iw v.pe v.e_len p.len v.len v.len j f read5,
        )

    -- a class of the front that still has a list has rows
    rows_left : (j : ℕ) → has r.begins.front j ≡ true → is_place (word v.pe j) ≡ true → 0 < size_of v.nv j
    rows_left j h at =
        let after = place_after j at in
        let goes : done j ≡ false = sym (ap (λ b. b && done j) h) ∙ after.3 in
        let of_front : has (front_at r.p2 r.c) j ≡ true = in_front r j ∙ h in
        let turning = (can_turn r).classes j of_front in
        let kept : word r.p3.nv j ≡ word r.p2.nv j = r.turns.turns.renewed.rows j
        ∙ cond-true (has (front_at r.p2 r.c) j) _ (word r.p2.nv j) of_front
        ∙ cond-false (done j) (pos 0) (word r.p2.nv j) goes in
        let rows2 = turning.class in let same = ap rows_in kept in
        let rows3 : 0 < size_of r.p3.nv j = omega (arith, rows2, same) in
        let named : has rest j ≡ true = filter_has (λ x. nat_lt 0 (size_of r.p3.nv x)) (front_at r.p3 r.c) j
        (ap (λ l. has l j) (front_after r) ∙ h) (lt-ltb 0 (size_of r.p3.nv j) rows3) in
        let own : (into j == j) ≡ true = own_is (into j == j) (sym (ap (λ b. b && not (into j == j)) named) ∙ after.1) in
        let all : ℕ = sum_by (size_of r.p3.nv) (filter (λ x. into x == j) rest) in
        let size : size_of v.nv j ≡ all = ended.restores.sizes j ∙ merges.list.merged.sizes j
        ∙ cond-true (has rest j) (cond (into j == j) all 0) (size_of r.p3.nv j) named ∙ cond-true (into j == j) all 0 own in
        let part = named_sum (size_of r.p3.nv) (filter (λ x. into x == j) rest) j (filter_has (λ x. into x == j) rest j named own) in
        omega (arith, rows3, size, part)
      where
        own_is : (b : Bool) → not b ≡ false → b ≡ true
        own_is true h = refl
        own_is false h = sym h

    pub lists_after : (j : ℕ) → has_list v.pe v.len j ≡ true → (j ≡ r.c) ⊎ ((has r.begins.front j ≡ true) × (0 < size_of v.nv j))
        ⊎ ((has_list p.pe p.len j ≡ true) × (has r.begins.front j ≡ false) × (has absorbed j ≡ false) × (ends_by r j ≡ false))
    lists_after j h = let at = (has_parts v.pe v.len j h).0 in elim (cases_eq j r.c) [
      | inl q ↦ inl q
      | inr ne ↦ inr (elim (cases_Bool (has r.begins.front j)) [
        | inl k ↦ inl (k, rows_left j k at)
        | inr out ↦ inr (
            let own : has absorbed j ≡ false = false_from_ne_true (has absorbed j) (λ k. clash {P = ⊥} (list_after j h)
            ((begins_here r).ended j k)) in
            (sym ((begins_here r).listed j own ne) ∙ list_after j h, out, own, (place_after j at).2))
      ])
    ]
