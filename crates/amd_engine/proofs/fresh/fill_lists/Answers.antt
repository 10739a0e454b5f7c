use Rattle.std.proofs.Common.{ℕ, ◌≡◌, ◌∙◌, arith, ap, le_of_eq, le_trans, length}
use Rattle.std.specs.Prelude.{replicate}
use Rattle.std.proofs.lemmas.List.{length-replicate}
use Rattle.amd_words.proofs.SideLists.{nexts_long, lasts_long}
use Rattle.amd_engine.proofs.fresh.fill_lists.Goals as goal

pub fill_cells-requires-4-clause-room : goal.fill_cells-requires-4-clause-room
fill_cells-requires-4-clause-room g c = le_trans (le_of_eq c.bucket_count.ensures) c.requires.room.1.hash

pub returns-clause-fresh : goal.returns-clause-fresh
returns-clause-fresh g c =
    let n : ℕ = c.args.n in
    let none : length (replicate n n) ≡ n = length-replicate n n in
    let two : length (replicate {A = ℕ × ℕ} n (n, n)) ≡ n = length-replicate {A = ℕ × ℕ} n (n, n) in
    let sides = c.fill_sides.ensures.items in record {
      figures = (ap length c.fill_cells.ensures.items ∙ none, ap length c.fill_cells-2.ensures.items ∙ none);
      heads = (c.fill_cells-3.ensures.items, c.fill_cells-4.ensures.items ∙ ap (λ m. replicate m n) c.bucket_count.ensures);
      links = (nexts_long _ ∙ ap length sides ∙ two, lasts_long _ ∙ ap length sides ∙ two);
    }

pub returns-clause-room : goal.returns-clause-room
returns-clause-room g c = λ k h.
    let counters = c.fill_cells-2.ensures.capacity in let heads = c.fill_cells-3.ensures.capacity in
    let sides = c.fill_sides.ensures.capacity in let buckets = c.fill_cells-4.ensures.capacity in record {
      w = (let x = h.w in omega (arith, x, counters));
      head = (let x = h.head in omega (arith, x, heads));
      sides = (let x = h.sides in omega (arith, x, sides));
      hash = (let x = h.hash in omega (arith, x, buckets));
    }
