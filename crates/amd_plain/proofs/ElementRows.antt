-- The rows of each block at the end, gathered row by row.
use Rattle.std.proofs.Common.{ℕ, Bool, true, false, ◌≡◌, ◌≢◌, ◌<◌, ◌+◌, ◌&&◌, ◌++◌, ◌∷◌, [], not, inl, inr, refl, sym, ◌∙◌, ap, subst}
use Rattle.std.proofs.Common.{add-one, List, length, map, get_or, Option, None, Some, is_none}
use Rattle.std.specs.Prelude.{Vec, ◌==◌}
use Rattle.std.specs.Option.{is_some}
use Rattle.std.proofs.Math.ListN.{set}
use Rattle.std.proofs.lemmas.List.{length-map, map-set, get_or-set_same, get_or-set_other, append_assoc, append-nil}
use Rattle.std.proofs.lemmas.Bool.{cases_eq, true≢false, ne_eqb, eq-eqb, and_from, not_from_false}
use Rattle.amd_model.specs.Below.{list_below}
use Rattle.amd_model.specs.State.{Home, Gone, block_at, live_at}
use Rattle.amd_model.proofs.Counting.Places.{below_skip, below_take, below_none}
use Rattle.amd_plain.specs.Views.{some_at, list_at}
use Rattle.amd_plain.specs.Keeps.{PlainLinksLead}

module _ (links : List (Option ℕ)) (home : ℕ → Home) (led : PlainLinksLead links home) (over : (v : ℕ) → live_at (home v) ≡ false) where
  -- the root of a linked row is its pivot row
  pub root_gone : (v e u : ℕ) → some_at links v ≡ Some u → some_at links e ≡ None → home v ≡ home e → home v ≡ Gone e
  unfolding live_at
  root_gone v e u on end q = elim (led.alone e end) [
    | inl l ↦ absurd (true≢false (sym (ap live_at l) ∙ over e))
    | inr (inl h) ↦ q ∙ h
    | inr (inr l) ↦ absurd (let x : Some u ≡ None = sym on ∙ led.last v (q ∙ l) in cc)
  ]

  pub others_skip : (v e f : ℕ) → home v ≡ Gone e → f ≢ e → (block_at f (home v) && not (v == f)) ≡ false
  unfolding block_at
  others_skip v e f h ne = ap (λ b. block_at f b && not (v == f)) h ∙ ap (λ b. b && not (v == f)) (ne_eqb e f (λ q. ne (sym q)))

  pub its_take : (v e : ℕ) → home v ≡ Gone e → v ≢ e → (block_at e (home v) && not (v == e)) ≡ true
  unfolding block_at
  its_take v e h ne = and_from (block_at e (home v)) (not (v == e)) (ap (block_at e) h ∙ eq-eqb e e refl)
      (not_from_false (v == e) (ne_eqb v e ne))

  -- a row without a link is in no list
  pub alone_skip : (v e : ℕ) → some_at links v ≡ None → (block_at e (home v) && not (v == e)) ≡ false
  unfolding live_at block_at
  alone_skip v e end = elim (led.alone v end) [
    | inl l ↦ absurd (true≢false (sym (ap live_at l) ∙ over v))
    | inr (inl h) ↦ ap (λ b. block_at e b && not (v == e)) h ∙ itself (v == e)
    | inr (inr l) ↦ ap (λ b. block_at e b && not (v == e)) l
  ]
    where
      itself : (b : Bool) → (b && not b) ≡ false
      itself true = refl
      itself false = refl

-- the list of one place, after a row was put behind it
pub put_same : {A : Type 0} (rows : List (Vec ℕ A)) (e v : ℕ) (new : Vec ℕ A) (ys : List ℕ) → e < length rows → list_at rows e ≡ ys →
    new.items ≡ list_at rows e ++ v ∷ [] → list_at (set rows e new) e ≡ ys ++ v ∷ []
put_same rows e v new ys small before is =
    ap (λ xs. get_or xs e []) (map-set (λ w. w.items) rows e new) ∙
    get_or-set_same (map (λ w. w.items) rows) e new.items [] (simp length-map small) ∙ is ∙ ap (λ xs. xs ++ v ∷ []) before

pub put_other : {A : Type 0} (rows : List (Vec ℕ A)) (e f : ℕ) (new : Vec ℕ A) → f ≢ e → list_at (set rows e new) f ≡ list_at rows f
put_other rows e f new ne = ap (λ xs. get_or xs f []) (map-set (λ w. w.items) rows e new) ∙
    get_or-set_other (map (λ w. w.items) rows) e f new.items [] ne

-- one row more: a linked one is put into the list of its pivot row, and the others are passed over
module _ (links : List (Option ℕ)) (home : ℕ → Home) (led : PlainLinksLead links home) (over : (v : ℕ) →
    live_at (home v) ≡ false) (v : ℕ) where
  pub rows_skip : some_at links v ≡ None → (e : ℕ) → list_below (v + 1) (λ w. block_at e (home w) && not (w == e)) ≡ list_below v
      (λ w. block_at e (home w) && not (w == e))
  rows_skip end e = rw add-one (below_skip v (λ w. block_at e (home w) && not (w == e)) (alone_skip links home led over v e end))

  pub rows_take : {A : Type 0} (rows : List (Vec ℕ A)) (e u : ℕ) (new : Vec ℕ A) → e < length rows → some_at links v ≡ Some u →
      some_at links e ≡ None → home v ≡ home e → new.items ≡ list_at rows e ++ v ∷ [] →
      (f : ℕ) → list_at rows f ≡ list_below v (λ w. block_at f (home w) && not (w == f)) →
      list_at (set rows e new) f ≡ list_below (v + 1) (λ w. block_at f (home w) && not (w == f))
  rows_take rows e u new small on end q is f before =
      let gone = root_gone links home led over v e u on end q in
      let apart : v ≢ e = λ s. (let x : Some u ≡ None = sym on ∙ ap (some_at links) s ∙ end in cc) in
      elim (cases_eq f e) [
        | inl same ↦ subst (λ k. list_at (set rows e new) k ≡ list_below (v + 1) (λ w. block_at k (home w) && not (w == k))) (sym same)
            (rw add-one (put_same rows e v new (list_below v (λ w. block_at e (home w) && not (w == e))) small
            (subst (λ k. list_at rows k ≡ list_below v (λ w. block_at k (home w) && not (w == k))) same before) is ∙
            sym (below_take v (λ w. block_at e (home w) && not (w == e)) (its_take links home led over v e gone apart))))
        | inr ne ↦ rw add-one (put_other rows e f new ne ∙ before ∙
            sym (below_skip v (λ w. block_at f (home w) && not (w == f)) (others_skip links home led over v e f gone ne)))
      ]

-- what a test of a link says
pub linked_to : (o : Option ℕ) → is_some o ≡ true → (u : ℕ) × (o ≡ Some u)
linked_to None h = absurd (true≢false (sym h))
linked_to (Some u) h = (u, refl)

pub unlinked : (o : Option ℕ) → is_some o ≡ false → o ≡ None
unlinked None h = refl
unlinked (Some u) h = absurd (true≢false h)

-- behind a list, the numbers below a bound that pass: none, one passed over, and one more
pub last_none : (xs : List ℕ) (p : ℕ → Bool) → xs ≡ xs ++ list_below 0 p
last_none xs p = sym (ap (λ ys. xs ++ ys) (below_none p) ∙ append-nil xs)

pub last_skip : (xs ys : List ℕ) (n : ℕ) (p : ℕ → Bool) → ys ≡ xs ++ list_below n p → p n ≡ false → ys ≡ xs ++ list_below (n + 1) p
last_skip xs ys n p h off = rw add-one (h ∙ ap (λ zs. xs ++ zs) (sym (below_skip n p off)))

pub last_take : (xs ys : List ℕ) (n : ℕ) (p : ℕ → Bool) → ys ≡ xs ++ list_below n p → p n ≡ true → ys ++ n ∷ [] ≡ xs ++ list_below (n + 1) p
last_take xs ys n p h on = rw add-one (ap (λ zs. zs ++ n ∷ []) h ∙ append_assoc xs (list_below n p) (n ∷ []) ∙
    ap (λ zs. xs ++ zs) (sym (below_take n p on)))

pub and_false : (a b : Bool) → b ≡ false → (a && b) ≡ false
and_false true b q = q
and_false false b q = refl

pub none_reads : (o : Option ℕ) (b : Bool) → is_some o ≡ not b → is_none o ≡ b
none_reads None true h = refl
none_reads None false h = absurd (true≢false (sym h))
none_reads (Some u) true h = absurd (true≢false h)
none_reads (Some u) false h = refl
