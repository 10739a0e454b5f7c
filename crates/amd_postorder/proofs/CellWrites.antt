-- Links that are figures: what is read of them, and what they say when one of them is written.
use Rattle.std.proofs.Common.{◌≡◌, ◌<◌, ◌≤◌, ◌∙◌, ℕ, ℤ, pos, negsuc, cond, List, length, ap, sym, arith}
use Rattle.std.specs.Prelude.{slice_index_or, slice_set}
use Rattle.std.proofs.lemmas.Bool.{lt-ltb, le-ltb}
use Rattle.std.proofs.lemmas.List.{map-set, get_or-map}
use Rattle.amd_model.specs.Input.Columns.{at}
use Rattle.amd_postorder.specs.CellLinks.{figure_link, figure_links}

-- a figure below the greatest one is a link to the place of its number
pub link_to : (most k : ℕ) → k < most → figure_link most k ≡ pos k
link_to most k l = ap (λ b. cond b (pos k) (negsuc 0)) (lt-ltb k most l)

-- the greatest one is none
pub link_none : (most : ℕ) → figure_link most most ≡ negsuc 0
link_none most = ap (λ b. cond b (pos most) (negsuc 0)) (le-ltb most most (omega arith))

-- what the list says where a figure is written
pub written : (most : ℕ) (figures new : List ℕ) (place k : ℕ) (says : ℤ) → new ≡ slice_set figures place k → figure_link most k ≡ says →
    figure_links most new ≡ slice_set (figure_links most figures) place says
written most figures new place k says q r = ap (figure_links most) q ∙ map-set (figure_link most) figures place k ∙
    ap (slice_set (figure_links most figures) place) r

-- what the list says at a place
pub says_at : (most : ℕ) (figures : List ℕ) (place : ℕ) → place < length figures →
    figure_link most (slice_index_or figures place 0) ≡ at (figure_links most figures) place
says_at most figures place l = sym (get_or-map (figure_link most) figures place 0 (pos 0) l)

-- a figure below the greatest one is read as a link to the place of its number
pub names_place : (most : ℕ) (figures : List ℕ) (place k : ℕ) → place < length figures → k ≡ slice_index_or figures place 0 → k < most →
    at (figure_links most figures) place ≡ pos k
names_place most figures place k l is small = sym (says_at most figures place l) ∙ ap (figure_link most) (sym is) ∙ link_to most k small

-- the greatest one is read as none
pub names_none : (most : ℕ) (figures : List ℕ) (place k : ℕ) → place < length figures → k ≡ slice_index_or figures place 0 → most ≤ k →
    at (figure_links most figures) place ≡ negsuc 0
names_none most figures place k l is high = sym (says_at most figures place l) ∙ ap (figure_link most) (sym is)
    ∙ ap (λ b. cond b (pos k) (negsuc 0)) (le-ltb k most high)
