use Rattle.std.proofs.Common.{ℕ, ℤ, List, pos, ◌≡◌, ◌<◌, ◌+◌, inl, inr, sym, ap, ◌∙◌, arith, length, length-set, get_or-set_same}
use Rattle.std.proofs.Common.{get_or-set_other}
use Rattle.std.proofs.lemmas.Bool.{cases_eq}
use Rattle.amd_words.specs.Words.{word}
use Rattle.amd_elements.proofs.compaction.move_words.Goals as goal

pub loop-k-preserved : goal.loop-k-preserved
loop-k-preserved g c =
    let iw : List ℤ = c.loop-k.iw in let k : ℕ = c.loop-k.k in let from : ℕ = c.args.from in let to : ℕ = c.args.to in let was =
    c.loop-k.invariant in let t = c.loop-k-test.true in
    let v : ℤ = word iw (from + k) in let inside : to + k < length iw =
    (let a = was.long in let b = c.requires.inside in let d = c.requires.down in omega (arith, a, b, d, t)) in
    let v_is : v ≡ word c.args.iw.now (from + k) = was.above (from + k) (let d = c.requires.down in omega (arith, d)) in
    let other : (m : ℕ) → (m ≡ to + k → ⊥) → word c.copy_word.new.words m ≡ word iw m = λ m ne. ap (λ xs. word xs m) c.copy_word.ensures
    ∙ get_or-set_other iw (to + k) m v (pos 0) ne in
    record {
      long = ap length c.copy_word.ensures ∙ length-set iw (to + k) v ∙ was.long;
      copied = λ m l. elim (cases_eq m k) [
        | inl e ↦ ap (λ q. word c.copy_word.new.words (to + q)) e ∙ ap (λ xs. word xs (to + k)) c.copy_word.ensures
            ∙ get_or-set_same iw (to + k) v (pos 0) inside ∙ v_is ∙ ap (λ q. word c.args.iw.now (from + q)) (sym e)
        | inr ne ↦ other (to + m) (λ q. ne (omega (arith, q))) ∙ was.copied m (omega (arith, l, ne))
      ];
      below = λ m l. other m (λ q. omega (arith, q, l)) ∙ was.below m l;
      above = λ m l. other m (λ q. omega (arith, q, l)) ∙ was.above m (omega (arith, l));
    }

pub returns : goal.returns
returns g c = let was = c.loop-k.invariant in let e : c.loop-k.k ≡ c.args.count =
    (let a = c.loop-k.auto.k-end in let b = c.loop-k-test.false in omega (arith, a, b)) in record {
      long = was.long;
      copied = λ m l. was.copied m (omega (arith, l, e));
      below = was.below;
      above = λ m l. was.above m (omega (arith, l, e));
    }
