-- The lists of an elimination under the names by which a run is lent them, and what it left, listed.
use Rattle.std.proofs.Common.{ℕ, ℤ, Bool, List, Option, ◌≡◌, ◌<◌, ap, arith, length, map, pos, refl, subst, ◌∙◌}
use Rattle.std.proofs.lemmas.List.{length-replicate, get_or-replicate}
use Rattle.amd_model.specs.Graph.{Graph}
use Rattle.amd_model.specs.Input.Dense.{IsThreshold}
use Rattle.amd_types.specs.Permutations.{AreInverse}
use Rattle.amd_types.specs.declared.amd.Control.{Control}
use Rattle.amd_types.specs.declared.amd.Info.{Info}
use Rattle.amd_words.specs.Sides.{nexts, lasts}
use Rattle.amd_lists.specs.Sizes.{bucket_count}
use Rattle.amd_workspace.specs.Ending.{EndsRows}
use Rattle.amd_workspace.specs.declared.lists.Lists.{Lists}
use Rattle.amd_workspace.specs.declared.rows.RowLists.{RowLists}
use Rattle.amd_engine.specs.declared.running.Told.{Told}
use Rattle.amd_engine.specs.InPlace.{AnswersInPlace, AreEmpty, AreFresh, AreListed, LaysGraph, RunsInPlace, listing_in, told_info}
use Rattle.amd_engine.proofs.EndingLaw.{answers}

-- lists as they are when they are made name no row, also lent
pub lent_empty : {S P U A : Type 0} {n m : ℕ} {degree : List ℕ} {l : Lists U A} (rows : RowLists S P U) → AreFresh n degree l → m ≡ n →
    length rows.e_len.now ≡ n → length rows.nv.now ≡ n → rows.degree.now ≡ degree → rows.w.now ≡ l.w.items →
    rows.head.now ≡ l.head.items → rows.sides.now ≡ l.sides.items → rows.hash.now ≡ l.hash.items → AreEmpty m rows
lent_empty {n = n} rows fresh size a b d f h i j = rw size (record {
  words = (a, b);
  figures = (ap length d ∙ fresh.figures.0, ap length f ∙ fresh.figures.1);
  links = (
    ap length h ∙ ap length fresh.heads.0 ∙ length-replicate n n,
    ap (λ xs. length (nexts xs)) i ∙ fresh.links.0,
    ap (λ xs. length (lasts xs)) i ∙ fresh.links.1,
  );
  heads = λ b small. let is = get_or-replicate n b n 0 small in rw (h, fresh.heads.0) (omega (arith, is));
  buckets = ap length j ∙ ap length fresh.heads.1 ∙ length-replicate (bucket_count n) n;
  empty = λ b small. let is = get_or-replicate (bucket_count n) b n 0 small in rw (j, fresh.heads.1) (omega (arith, is));
})

-- what a run left of a graph that is laid, listed, is an answer
pub answers_listed : {S P U : Type 0} (hold : Option (List Bool)) (threshold : ℕ) (control : Control) (iw pe : List ℤ) (len : List ℕ)
    (told : Told) (left new : RowLists S P U) → RunsInPlace hold threshold control.aggressive iw pe len told left →
    length left.pe.now ≡ length len → AreListed (length left.pe.now) left new → 0 < length len →
    IsThreshold (length len) control.dense threshold → (g : Graph) (lists : ℕ → List ℕ) (info : Info) → LaysGraph g lists iw pe len →
    AnswersInPlace g lists hold (length len) control (listing_in new) info (told_info told info)
answers_listed hold threshold control iw pe len told left new runs rows listed some is_threshold g lists info lays =
    let p : List ℤ = map pos new.head.now in let q : List ℤ = map pos new.w.now in
    let ends = subst (λ k. EndsRows k left.pe.now left.e_len.now left.degree.now listed.link new.e_len.now new.nv.now) rows listed.ends in
    let inverse = subst (λ k. AreInverse k p q) rows listed.inverse in
    answers hold threshold control.aggressive iw pe len told left runs listed.link new.e_len.now new.nv.now ends
    (listed.long.0 ∙ rows) (listed.long.1 ∙ rows) (listed.long.2 ∙ rows) g lists lays listed.rows listed.lists control.dense some
    is_threshold p q listed.listed inverse info (told_info told info) refl new.pe.now listed.shortens
