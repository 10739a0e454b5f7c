use Rattle.std.proofs.Common.{◌≡◌, ◌<◌, ◌+◌, ◌++◌, ◌∷◌, [], ℕ, ℤ, List, arith, ap, length, map, pos, refl, set, sym, take, ◌∙◌}
use Rattle.std.proofs.lemmas.List.{length-set, map-append, take_all, take_more, take_more_set}
use Rattle.amd_words.specs.Words.{word}
use Rattle.amd_words.proofs.Signs.{place_is, abs_is}
use Rattle.amd_engine.proofs.amd_2.write_counts.Goals as goal

pub row_at-requires-clause-plain : goal.row_at-requires-clause-plain
row_at-requires-clause-plain g c =
    let z = word c.args.words.now c.words.k in let placed = c.requires.counts c.words.k c.words-test.true in
    place_is z placed ∙ sym (ap pos (abs_is z placed))

pub words-init : goal.words-init
words-init g c = record { size = c.requires.room; items = refl }

-- one more word, as a number of the caller's type
write_count : {X : Type 0} (value : X → ℤ) (numbers : List X) (words : List ℤ) (k : ℕ) (x : X) → k < length numbers →
    k < length words → map value (take k numbers) ≡ take k words → value x ≡ word words k →
    map value (take (k + 1) (set numbers k x)) ≡ take (k + 1) words
write_count value numbers words k x room within so number =
    ap (map value) (take_more_set numbers k x room)
    ∙ map-append value (take k numbers) (x ∷ [])
    ∙ ap (λ zs. zs ++ value x ∷ []) so
    ∙ ap (λ z. take k words ++ z ∷ []) number
    ∙ sym (take_more words k (pos 0) within)

pub words-preserved : goal.words-preserved
words-preserved g c =
    let i = c.words.invariant in let t = c.words-test.true in let size = i.size in record {
      size = length-set c.words.numbers c.words.k c.in-Some.number ∙ size;
      items = write_count g.I.Index.value c.words.numbers c.args.words.now c.words.k c.in-Some.number (omega (arith, size, t)) t i.items
          (c.in-Some.ensures.1 ∙ sym c.row_at.ensures);
    }

pub returns : goal.returns
returns g c =
    let i = c.words.invariant in let t = c.words-test.false in let size = i.size in
    ap (map g.I.Index.value) (sym (take_all c.words.k c.words.numbers (omega (arith, size, t)))) ∙ i.items
    ∙ take_all c.words.k c.args.words.now t
