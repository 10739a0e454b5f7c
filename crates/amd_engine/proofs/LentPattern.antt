-- A workspace in which the lists of a pattern were laid, under the names by which it is lent.
use Rattle.std.proofs.Common.{ℕ, ℤ, List, ◌≡◌, ◌<◌, ◌≤◌, ◌∙◌, ap, arith, sym, length}
use Rattle.amd_model.specs.Quotient.{starting_list}
use Rattle.amd_model.specs.Input.Pattern.{graph_of, is_pair}
use Rattle.amd_model.proofs.Counting.Below.{count_most}
use Rattle.amd_edges.specs.Visits.{AreCounts}
use Rattle.amd_words.specs.Words.{num}
use Rattle.amd_lists.specs.Layout.{list_in}
use Rattle.amd_workspace.specs.Laying.{IsLaidOut}
use Rattle.amd_engine.specs.InPlace.{LaysGraph}
use Rattle.amd_engine.proofs.EndingLaw.{laid_same, lays_same, lays_pattern}

-- the lists of a pattern of n rows are laid in a workspace
pub record LaysPattern (n : ℕ) (a_p a_i : List ℤ) (iw pe : List ℤ) (len : List ℕ) (free : ℕ) : Type 0 where
  pub size : length len ≡ n
  pub laid : IsLaidOut (length len) iw pe len free
  pub lays : LaysGraph (graph_of n a_p a_i) (starting_list n (is_pair n a_p a_i)) iw pe len

-- and so they are in the lent one
pub lent_pattern : (n : ℕ) (a_p a_i : List ℤ) (degrees : List ℕ) (free : ℕ) {iw pe iw1 pe1 : List ℤ} {len len1 : List ℕ} →
    AreCounts (graph_of n a_p a_i) ((graph_of n a_p a_i).edge) degrees → len ≡ degrees → IsLaidOut n iw pe len free →
    ((i : ℕ) → i < n → list_in iw pe len i ≡ starting_list n (is_pair n a_p a_i) i) → iw1 ≡ iw → pe1 ≡ pe → len1 ≡ len →
    LaysPattern n a_p a_i iw1 pe1 len1 free
unfolding graph_of
lent_pattern n a_p a_i degrees free {iw} {pe} {iw1} {pe1} {len} {len1} counts same laid lists b d e =
    let size : length len1 ≡ n = ap length e ∙ ap length same ∙ counts.size in
    record {
      size = size;
      laid = laid_same n (length len1) iw iw1 pe pe1 len len1 free laid (sym size) (sym b) (sym d) (sym e);
      lays = lays_same (graph_of n a_p a_i) (starting_list n (is_pair n a_p a_i)) iw iw1 pe pe1 len len1
          (lays_pattern n a_p a_i degrees len iw pe counts same lists) (sym b) (sym d) (sym e);
    }

-- the degrees are within a width that holds the number of rows
pub degrees_fit : (n : ℕ) (a_p a_i : List ℤ) (degrees : List ℕ) (most : ℕ) →
    AreCounts (graph_of n a_p a_i) ((graph_of n a_p a_i).edge) degrees → n ≤ most → (k : ℕ) → k < length degrees → num degrees k ≤ most
unfolding graph_of
degrees_fit n a_p a_i degrees most counts fits k l =
    let size = counts.size in let few = count_most n ((graph_of n a_p a_i).edge k) in
    let is = counts.each k (omega (arith, l, size)) in omega (arith, few, is, fits)
