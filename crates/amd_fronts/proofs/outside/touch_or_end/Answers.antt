use Rattle.std.proofs.Common.{ℕ, ℤ, Bool, List, true, false, pos, ◌≡◌, ◌≢◌, ◌<◌, ◌⊎◌, ◌&&◌, cond, inl, inr, refl, sym, ap, ◌∙◌, arith}
use Rattle.std.proofs.Common.{length}
use Rattle.std.proofs.Common.{get_or-set_same, get_or-set_other}
use Rattle.std.specs.Prelude.{◌==◌}
use Rattle.std.proofs.lemmas.Bool.{cases_eq, eq-eqb, ne_eqb, cond-true, cond-false}
use Rattle.amd_words.specs.Words.{num, word, flip_of}
use Rattle.amd_fronts.specs.Counts.{ends, settled, touched}
use Rattle.amd_words.proofs.EachRow.{cond_both, cond_same}
use Rattle.std.proofs.Common.{lt_of_lt_of_le, le_of_eq, zero-le}
use Rattle.amd_fronts.proofs.outside.touch_or_end.Goals as goal

-- the element itself has its top
has_top : (e old top : ℕ) {result new : ℕ} → result ≡ new → new ≡ cond (e == e) top old → result ≡ top
has_top e old top is counted = is ∙ counted ∙ cond-true (e == e) top old (eq-eqb e e refl)

-- whether an element ends, by whether its top is the flag
ends_there : {aggressive : Bool} {flag top : ℕ} → aggressive ≡ true → top ≡ flag → ends aggressive flag top ≡ true
ends_there {aggressive} {flag} {top} on is = ap (λ b. b && top == flag) on ∙ eq-eqb top flag is

ends_not : {aggressive : Bool} {flag top left : ℕ} → ((aggressive ≡ true) × (left ≢ flag)) ⊎ (aggressive ≡ false) → left ≡ top →
    ends aggressive flag top ≡ false
ends_not {aggressive} {flag} {top} either is = elim either [
  | inl h ↦ ap (λ b. b && top == flag) h.0 ∙ ne_eqb top flag (λ q. h.1 (is ∙ q))
  | inr h ↦ ap (λ b. b && top == flag) h
]

pub returns-then-left-tally : goal.returns-then-left-tally
returns-then-left-tally g c = record {
  long = ((c.put_cell.auto.cells ∙ c.touch.ensures.long, c.put_flip.auto.words));
  counted = (λ x. let e : ℕ = c.args.e in let flag : ℕ = c.args.tally.flag in
      let w1 : List ℕ = c.touch.new.w in let w : List ℕ = c.args.w.now in
      let top : ℕ = touched flag (num c.args.degree.now e) c.args.tally.more (num w e) in
      let here : (e == e) ≡ true = eq-eqb e e refl in
      let left_is = has_top e (num w e) top c.cell_at-left.ensures.is (c.touch.ensures.counted e) in
      let over = ends_there c.if-tally.true (sym left_is ∙ c.if-left-tally.true) in
      let small : e < length w1 = (let i = c.requires.touch.inside.0 in let l = c.touch.ensures.long in omega (arith, i, l)) in
      elim (cases_eq x e) [
        | inl q ↦ rw q (ap (λ ws. num ws e) c.put_cell.ensures ∙ get_or-set_same w1 e 0 0 small
            ∙ sym (cond-true (e == e) (settled c.args.tally.aggressive flag top) (num w e) here
            ∙ cond-true (ends c.args.tally.aggressive flag top) 0 top over))
        | inr ne ↦ ap (λ ws. num ws x) c.put_cell.ensures ∙ get_or-set_other w1 e x 0 0 ne ∙ c.touch.ensures.counted x
            ∙ cond-false (x == e) top (num w x) (ne_eqb x e ne)
            ∙ sym (cond-false (x == e) (settled c.args.tally.aggressive flag top) (num w x) (ne_eqb x e ne))
      ]);
  starts = (λ x. let e : ℕ = c.args.e in let flag : ℕ = c.args.tally.flag in let w : List ℕ = c.args.w.now in
      let pe : List ℤ = c.args.pe.now in
      let top : ℕ = touched flag (num c.args.degree.now e) c.args.tally.more (num w e) in
      let here : (e == e) ≡ true = eq-eqb e e refl in
      let left_is = has_top e (num w e) top c.cell_at-left.ensures.is (c.touch.ensures.counted e) in
      let over = ends_there c.if-tally.true (sym left_is ∙ c.if-left-tally.true) in
      let flipped : ℤ = flip_of c.args.tally.me in
      elim (cases_eq x e) [
        | inl q ↦ rw q (ap (λ ws. word ws e) c.put_flip.ensures ∙ get_or-set_same pe e flipped (pos 0) c.requires.end.0
            ∙ sym (cond_both (e == e) (ends c.args.tally.aggressive flag top) flipped (word pe e)
            ∙ cond-true (e == e) (cond (ends c.args.tally.aggressive flag top) flipped (word pe e)) (word pe e) here
            ∙ cond-true (ends c.args.tally.aggressive flag top) flipped (word pe e) over))
        | inr ne ↦ ap (λ ws. word ws x) c.put_flip.ensures ∙ get_or-set_other pe e x flipped (pos 0) ne
            ∙ sym (cond_both (x == e) (ends c.args.tally.aggressive flag top) flipped (word pe x)
            ∙ cond-false (x == e) (cond (ends c.args.tally.aggressive flag top) flipped (word pe x)) (word pe x) (ne_eqb x e ne))
      ]);
}

pub returns-else-tally : goal.returns-else-tally
returns-else-tally g c = record {
  long = ((c.touch.ensures.long, refl));
  counted = (λ x. let e : ℕ = c.args.e in let flag : ℕ = c.args.tally.flag in let w : List ℕ = c.args.w.now in
      let top : ℕ = touched flag (num c.args.degree.now e) c.args.tally.more (num w e) in
      let stays = ends_not c.else-tally.either (has_top e (num w e) top c.cell_at-left.ensures.is (c.touch.ensures.counted e)) in
      c.touch.ensures.counted x
      ∙ ap (λ v. cond (x == e) v (num w x)) (sym (cond-false (ends c.args.tally.aggressive flag top) 0 top stays)));
  starts = (λ x. let e : ℕ = c.args.e in let flag : ℕ = c.args.tally.flag in let w : List ℕ = c.args.w.now in
      let pe : List ℤ = c.args.pe.now in
      let top : ℕ = touched flag (num c.args.degree.now e) c.args.tally.more (num w e) in
      let stays = ends_not c.else-tally.either (has_top e (num w e) top c.cell_at-left.ensures.is (c.touch.ensures.counted e)) in
      sym (cond_both (x == e) (ends c.args.tally.aggressive flag top) (flip_of c.args.tally.me) (word pe x)
      ∙ ap (λ b. cond (x == e) (cond b (flip_of c.args.tally.me) (word pe x)) (word pe x)) stays ∙ cond_same (x == e) (word pe x)));
}

pub touch-requires : goal.touch-requires
touch-requires g c = record {
  inside = ((c.requires.touch.inside.0, c.requires.touch.inside.1));
  again = (c.requires.touch.again);
  first = (c.requires.touch.first);
  fits = (c.requires.touch.fits);
}

pub cell_at-left-requires : goal.cell_at-left-requires
cell_at-left-requires g c = lt_of_lt_of_le c.requires.touch.inside.0 (le_of_eq (sym c.touch.ensures.long))

pub put_flip-requires-clause-inside : goal.put_flip-requires-clause-inside
put_flip-requires-clause-inside g c = c.requires.end.0

pub put_flip-requires-clause-small : goal.put_flip-requires-clause-small
put_flip-requires-clause-small g c = c.requires.end.1

pub put_cell-requires-clause-inside : goal.put_cell-requires-clause-inside
put_cell-requires-clause-inside g c = lt_of_lt_of_le c.requires.touch.inside.0 (le_of_eq (sym c.touch.ensures.long))

pub put_cell-requires-clause-fits : goal.put_cell-requires-clause-fits
put_cell-requires-clause-fits g c = zero-le
