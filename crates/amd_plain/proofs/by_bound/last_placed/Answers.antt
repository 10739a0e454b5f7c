-- the goals of by_bound::last_placed.
use Rattle.std.proofs.Common.{ℕ, List, Bool, false, [], ◌∷◌, ◌++◌, ◌≡◌, ◌<◌, ◌&&◌, ap, sym, ◌∙◌, length, Some}
use Rattle.std.proofs.Common.{append_assoc, lt_of_lt_of_le, le_of_eq}
use Rattle.std.specs.Prelude.{nat_lt, ◌==◌}
use Rattle.std.proofs.lemmas.Bool.{lt-ltb, le-ltb, eq-eqb, ne_eqb, and_from}
use Rattle.std.proofs.Math.Bool.{and-false}
use Rattle.std.proofs.lemmas.List.Elements.{All-pop}
use Rattle.amd_model.proofs.Quotient.Lists.{filter_yes, filter_no}
use Rattle.amd_plain.specs.Views.{num}
use Rattle.amd_plain.proofs.by_bound.last_placed.Goals.{else-size-i-gt0-via-then-size-i-gt0+else-bound-i}
use Rattle.amd_plain.proofs.by_bound.last_placed.Goals.{else-size-i-gt0-via-else-size-i-gt0}
use Rattle.std.proofs.Common.{append-nil, refl}
use Rattle.amd_plain.proofs.by_bound.last_placed.Goals as goal

pub loop-i-preserved : goal.loop-i-preserved
loop-i-preserved g c =
    let size : List ℕ = c.args.size.now in let bound : List ℕ = c.args.bound.now in let i : ℕ = c.in-Some.i in
    let test : ℕ → Bool = λ x. nat_lt 0 (num size x) && num bound x == c.args.least in
    let was = c.loop-i.invariant in let tail : List ℕ = was.tail.0 in
    let fails : test i ≡ false = elim c.else-size-i-gt0.branch [
      | else-size-i-gt0-via-then-size-i-gt0+else-bound-i w ↦ ap (λ b. nat_lt 0 (num size i) && b)
          (ne_eqb (num bound i) c.args.least w.if-bound-i.false) ∙ and-false (nat_lt 0 (num size i))
      | else-size-i-gt0-via-else-size-i-gt0 w ↦ ap (λ b. b && num bound i == c.args.least)
          (le-ltb 0 (num size i) w.if-size-i-gt0.false)
    ] in
    record {
      range = (All-pop (λ x. x < length size) c.loop-i.list.items c.pop.new.self.items (Some i) c.in-Some.ensures.items was.range).0;
      tail = (
        i ∷ tail,
        was.tail.1 ∙ ap (λ xs. xs ++ tail) c.in-Some.ensures.items ∙ append_assoc c.pop.new.self.items (i ∷ []) tail,
        filter_no test i tail fails ∙ was.tail.2,
      );
    }

pub returns-then-bound-i : goal.returns-then-bound-i
returns-then-bound-i g c =
    let size : List ℕ = c.args.size.now in let bound : List ℕ = c.args.bound.now in let i : ℕ = c.in-Some.i in
    let test : ℕ → Bool = λ x. nat_lt 0 (num size x) && num bound x == c.args.least in
    let was = c.loop-i.invariant in let tail : List ℕ = was.tail.0 in
    record {
      popped = (
        tail,
        was.tail.1 ∙ ap (λ xs. xs ++ tail) c.in-Some.ensures.items ∙ append_assoc c.pop.new.self.items (i ∷ []) tail,
        filter_yes test i [] (and_from (nat_lt 0 (num size i)) (num bound i == c.args.least) (lt-ltb 0 (num size i) c.if-size-i-gt0.true)
            (eq-eqb (num bound i) c.args.least c.if-bound-i.true)),
        was.tail.2,
      );
    }

pub bounds-size-i : goal.bounds-size-i
bounds-size-i g c = (All-pop (λ x. x < length c.args.size.now) c.loop-i.list.items c.pop.new.self.items (Some c.in-Some.i)
    c.in-Some.ensures.items c.loop-i.invariant.range).1

pub bounds-bound-i : goal.bounds-bound-i
bounds-bound-i g c = lt_of_lt_of_le (All-pop (λ x. x < length c.args.size.now) c.loop-i.list.items c.pop.new.self.items
    (Some c.in-Some.i) c.in-Some.ensures.items c.loop-i.invariant.range).1 (le_of_eq (sym c.requires.lengths))

pub loop-i-init : goal.loop-i-init
loop-i-init g c = record { range = c.requires.range; tail = ([], sym (append-nil c.args.list.now.items), refl) }
