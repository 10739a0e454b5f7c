use Rattle.std.proofs.Common.{ℕ, List, ◌≡◌, ◌<◌, ◌+◌, ◌∙◌, arith, ap, sym, subst, length}
use Rattle.std.specs.Prelude.{cond, not, nat_lt, ◌&&◌}
use Rattle.std.proofs.lemmas.List.{length_push}
use Rattle.amd_plain.specs.Views.{mark_at, num}
use Rattle.amd_plain.proofs.StartLists.{numbers_push}
use Rattle.amd_plain.proofs.start.first_sizes.Goals as goal

pub rows-preserved : goal.rows-preserved
rows-preserved g c =
    let was = c.rows.invariant in
    let e = c.push_reserved.ensures in
    let xs : List ℕ = c.rows.sizes.items in let x : ℕ = c.class_size.result in
    let number : ℕ → ℕ = λ a. cond (nat_lt 0 (num c.args.degrees.now a) && not (mark_at c.args.last.now a)) 1 0 in
    record {
      room = (let a = was.room in let b = e.capacity in omega (arith, a, b));
      size = ap length e.items ∙ length_push xs x ∙ ap (λ m. m + 1) was.size;
      each = λ a h. ap (λ l. num l a) e.items ∙ numbers_push xs x c.rows.i number was.size was.each c.class_size.ensures a h;
    }

pub returns : goal.returns
returns g c =
    let was = c.rows.invariant in
    let end : c.rows.i ≡ length c.args.degrees.now = omega arith in
    record { size = was.size ∙ end; numbers = λ a h. was.each a (subst (λ m. a < m) (sym end) h) }
