-- Lists that are laid, and copies of them: a copy has the same words before their free end.
use Rattle.std.proofs.Common.{ℕ, ℤ, pos, List, ◌≡◌, ◌<◌, ◌+◌, ◌∙◌, ap, refl, sym, take, arith}
use Rattle.std.proofs.lemmas.List.{get_or-take}
use Rattle.amd_model.specs.Graph.{Graph}
use Rattle.amd_words.specs.Words.{num, word, start}
use Rattle.amd_words.proofs.RowLists.{rows_same}
use Rattle.amd_lists.specs.Layout.{list_in}
use Rattle.amd_lists.proofs.Frames.{has_from}
use Rattle.amd_workspace.specs.Laying.{IsLaidOut}
use Rattle.amd_engine.specs.InPlace.{LaysGraph}
use Rattle.amd_engine.proofs.EndingLaw.{lays_same}

module _ (n : ℕ) (iw iw' pe pe' : List ℤ) (len len' : List ℕ) (free : ℕ) (laid : IsLaidOut n iw pe len free)
    (words : take free iw' ≡ take free iw) (starts : pe' ≡ pe) (counts : len' ≡ len) where
  same : (k : ℕ) → k < free → word iw' k ≡ word iw k
  same k l = sym (get_or-take free iw' k (pos 0) l) ∙ ap (λ xs. word xs k) words ∙ get_or-take free iw k (pos 0) l

  -- the list of a row reads the same
  reads : (i : ℕ) → i < n → list_in iw' pe len i ≡ list_in iw pe len i
  reads i small = rows_same iw iw' (start pe i) (start pe i) (num len i) (λ k l. same (start pe i + k)
      (let ends = laid.layout.within i (has_from pe len i (laid.starts i small) (omega (arith, l))) in omega (arith, ends, l)))

  pub lays_copied : (g : Graph) (lists : ℕ → List ℕ) → LaysGraph g lists iw pe len → LaysGraph g lists iw' pe' len'
  lays_copied g lists lays = lays_same g lists iw' iw' pe pe' len len' (record {
    neighbours = lays.neighbours;
    laid = λ i l. reads i (let size = lays.neighbours.size in let all = laid.lengths_long in omega (arith, size, all, l)) ∙ lays.laid i l;
  }) refl (sym starts) (sym counts)
