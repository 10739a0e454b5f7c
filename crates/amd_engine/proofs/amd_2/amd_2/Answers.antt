use Rattle.std.proofs.Common.{ℕ, ℤ, List, None, pos, map, length, take, drop, ap, refl, sym, subst, arith, ◌≡◌, ◌++◌, ◌∙◌}
use Rattle.std.proofs.lemmas.Int.{ints}
use Rattle.std.proofs.lemmas.List.{take_at, length-map, length-replicate}
use Rattle.amd_model.specs.Graph.{Graph}
use Rattle.amd_lending.specs.Views.{raised}
use Rattle.amd_words.specs.Words.{word, is_place}
use Rattle.amd_engine.specs.InPlace.{LaysGraph}
use Rattle.amd_engine.proofs.EndingLaw.{laid_same}
use Rattle.amd_engine.proofs.RaisedLists.{laid_raised, lays_over, count_told, count_placed, answers_same}
use Rattle.amd_engine.proofs.amd_2.amd_2.Given.{Over}
use Rattle.amd_engine.proofs.amd_2.amd_2.Goals.{After-lend_cells, After-deref-3}
use Rattle.amd_engine.proofs.amd_2.amd_2.Goals as goal

-- the starts are, in words, the numbers raised
starts_raised : (g : Over) (c : After-lend_cells g) → c.deref_mut-2.result.now ≡ map raised c.args.pe.now
starts_raised g c =
    let l = c.in_ok-links.links in let copied : List ℤ = c.copy_raised.new.words in
    c.deref_mut-2.ensures.value ∙ take_at copied (drop (length copied) l.items) l.len
    (c.copy_raised.auto.words ∙ ap length c.deref_mut.ensures.value ∙ sym l.ok.0) ∙ c.copy_raised.ensures

-- a graph that the numbers lay is laid in the words
laid_words : (g : Over) (c : After-lend_cells g) (graph : Graph) (lists : ℕ → List ℕ) →
    LaysGraph graph lists c.args.iw.now c.args.pe.now c.args.len.now →
    LaysGraph graph lists c.lend_words.result.now c.deref_mut-2.result.now c.lend_cells.result.now
laid_words g c graph lists lays =
    lays_over graph lists c.args.iw.now c.args.pe.now c.lend_words.result.now c.deref_mut-2.result.now c.args.len.now
    c.lend_cells.result.now lays (c.lend_words.ensures.value ∙ c.raise.ensures.raised) (starts_raised g c) c.lend_cells.ensures.value

pub copy_raised-requires : goal.copy_raised-requires
copy_raised-requires g c = record {
  room = ap length c.deref_mut.ensures.value ∙ ap length c.in_ok-links.ensures ∙ length-replicate {A = ℤ} (length c.args.len.now) (pos 0)
      ∙ sym c.requires.laid.starts_long;
}

pub amd_2_from-requires-clause-narrow : goal.amd_2_from-requires-clause-narrow
amd_2_from-requires-clause-narrow g c =
    let iw = c.lend_words.type_inv in let len = c.lend_cells.type_inv in
    (omega (arith, iw), omega (arith, iw), omega (arith, len), omega (arith, len), omega arith)

pub lend_words-requires : goal.lend_words-requires
lend_words-requires g c = record { fits = c.raise.ensures.fits }

pub amd_2_from-requires-clause-fits : goal.amd_2_from-requires-clause-fits
amd_2_from-requires-clause-fits g c = c.requires.fits

pub amd_2_from-requires-clause-size : goal.amd_2_from-requires-clause-size
amd_2_from-requires-clause-size g c = c.requires.size ∙ ap pos (sym (ap length c.lend_cells.ensures.value))

pub amd_2_from-requires-clause-some : goal.amd_2_from-requires-clause-some
amd_2_from-requires-clause-some g c =
    let size = ap length c.lend_cells.ensures.value in let some = c.requires.some in omega (arith, size, some)

pub amd_2_from-requires-clause-room : goal.amd_2_from-requires-clause-room
amd_2_from-requires-clause-room g c =
    let size = ap length c.lend_cells.ensures.value in let room = c.requires.room in
    let words = ap length (c.lend_words.ensures.value ∙ c.raise.ensures.raised) ∙ length-map c.args.iw.now raised in
    let all = c.requires.words in
    omega (arith, size, room, words, all)

pub amd_2_from-requires-clause-laid : goal.amd_2_from-requires-clause-laid
amd_2_from-requires-clause-laid g c =
    let iw : List ℤ = c.args.iw.now in let pe : List ℤ = c.args.pe.now in let len : List ℕ = c.args.len.now in
    laid_same (length len) (length c.lend_cells.result.now) (map raised iw) c.lend_words.result.now (map raised pe)
    c.deref_mut-2.result.now len c.lend_cells.result.now c.args.pfree (laid_raised (length len) iw pe len c.args.pfree c.requires.laid)
    (sym (ap length c.lend_cells.ensures.value)) (sym (c.lend_words.ensures.value ∙ c.raise.ensures.raised))
    (sym (starts_raised g (goal.at.amd_2_from-requires-clause-laid g c).After-lend_cells)) (sym c.lend_cells.ensures.value)

pub amd_2_from-requires-clause-graph : goal.amd_2_from-requires-clause-graph
amd_2_from-requires-clause-graph g c =
    let w = c.requires.graph in (w.0, w.1, laid_words g (goal.at.amd_2_from-requires-clause-graph g c).After-lend_cells w.0 w.1 w.2)

pub write_counts-requires-clause-room : goal.write_counts-requires-clause-room
write_counts-requires-clause-room g c =
    let w = c.requires.graph in
    let lays = laid_words g (goal.at.write_counts-requires-clause-room g c).After-lend_cells w.0 w.1 w.2 in
    let told = (c.in_ok-blocks.ensures.orders w.0 w.1 lays).elements in
    ap length c.deref_mut-3.ensures.value ∙ c.in_ok-nv.ensures ∙ w.2.neighbours.size ∙ sym told.long.0
    ∙ sym (ap length c.deref.ensures.value)

pub write_counts-requires-clause-counts : goal.write_counts-requires-clause-counts
write_counts-requires-clause-counts g c = λ k small.
    let w = c.requires.graph in
    let lays = laid_words g (goal.at.write_counts-requires-clause-counts g c).After-lend_cells w.0 w.1 w.2 in
    let told = (c.in_ok-blocks.ensures.orders w.0 w.1 lays).elements in
    let is = c.deref.ensures.value in let all = told.long.0 in let here = ap length is in
    ap (λ xs. is_place (word xs k)) is ∙ count_placed w.0 _ _ _ told k (omega (arith, small, here, all))

pub write_counts-requires-clause-fits : goal.write_counts-requires-clause-fits
write_counts-requires-clause-fits g c = λ k small.
    let w = c.requires.graph in
    let lays = laid_words g (goal.at.write_counts-requires-clause-fits g c).After-lend_cells w.0 w.1 w.2 in
    let told = (c.in_ok-blocks.ensures.orders w.0 w.1 lays).elements in
    let is = c.deref.ensures.value in let all = told.long.0 in let here = ap length is in
    let m = count_told w.0 _ _ _ told k (omega (arith, small, here, all)) in
    let size = c.requires.size in let rows = w.2.neighbours.size in let few = m.2 in
    subst g.I.Index.fits (sym (ap (λ xs. word xs k) is ∙ m.1))
    (g.met.I.Index.between (pos 0) (pos m.0) (g.I.Index.value c.args.n) g.met.I.Index.zero_fits c.requires.fits
    (omega (arith, ints)) (omega (arith, ints, few, size, rows)))

pub write_words-requires : goal.write_words-requires
write_words-requires g c =
    let w = c.requires.graph in
    let lays = laid_words g (goal.at.write_words-requires g c).After-lend_cells w.0 w.1 w.2 in
    let told = (c.in_ok-blocks.ensures.orders w.0 w.1 lays).elements in
    record {
      room = ap length c.deref_mut-4.ensures.value ∙ c.in_ok-e_len.ensures ∙ w.2.neighbours.size ∙ sym told.long.1
          ∙ sym (ap length c.deref-2.ensures.value);
    }

-- the links are those of the words
links_left : (g : Over) (c : After-deref-3 g) → c.deref_mut-2.result.now ≡ map raised c.args.pe.now →
    c.deref-3.result.now ≡ c.amd_2_from.new.pe
links_left g c starts =
    let l = c.in_ok-links.links in let copied : List ℤ = c.copy_raised.new.words in let new_pe : List ℤ = c.amd_2_from.new.pe in
    let were : List ℤ = take l.len (copied ++ drop (length copied) l.items) in
    let long : length new_pe ≡ l.len = (
    let a = c.amd_2_from.auto.pe in let b = ap length starts in let d = length-map c.args.pe.now raised in
    let e = c.requires.laid.starts_long in let f = l.ok.0 in let h = ap length c.in_ok-links.ensures in
    let k = length-replicate {A = ℤ} (length c.args.len.now) (pos 0) in omega (arith, a, b, d, e, f, h, k)) in
    c.deref-3.ensures.value ∙ take_at new_pe (drop (length new_pe) were) l.len long

pub write_words-requires-2 : goal.write_words-requires-2
write_words-requires-2 g c =
    let at = goal.at.write_words-requires-2 g c in
    let starts = starts_raised g at.After-lend_cells in
    record {
      room = (let a = ap length (links_left g at.After-deref-3 starts) in let b = c.amd_2_from.auto.pe in let d = ap length starts in
          let e = length-map c.args.pe.now raised in omega (arith, a, b, d, e));
    }

pub returns-clause-orders : goal.returns-clause-orders
returns-clause-orders g c = λ graph lists lays.
    let at = goal.at.returns-clause-orders g c in
    let value = g.I.Index.value in
    let counts = c.write_counts.new.numbers in let words = c.write_words.new.numbers in
    let nv = c.in_ok-nv.nv in let e_len = c.in_ok-e_len.e_len in
    let answer = c.in_ok-blocks.ensures.orders graph lists (laid_words g at.After-lend_cells graph lists lays) in
    let nv_is = take_at counts (drop (length counts) nv.items) nv.len
    (c.write_counts.auto.numbers ∙ ap length c.deref_mut-3.ensures.value ∙ sym nv.ok.0) in
    let e_len_is = take_at words (drop (length words) e_len.items) e_len.len
    (c.write_words.auto.numbers ∙ ap length c.deref_mut-4.ensures.value ∙ sym e_len.ok.0) in
    answers_same graph lists None _ _ _ _ _ _ _ answer (ap length c.lend_cells.ensures.value) refl refl
    (ap (map value) nv_is ∙ c.write_counts.ensures ∙ c.deref.ensures.value)
    (e_len_is ∙ c.write_words.ensures ∙ c.deref-2.ensures.value)
    (c.write_words-2.ensures ∙ links_left g at.After-deref-3 (starts_raised g at.After-lend_cells))

pub returns-clause-compactions : goal.returns-clause-compactions
returns-clause-compactions g c =
    let size = ap length c.lend_cells.ensures.value in let few = c.in_ok-blocks.ensures.compactions in omega (arith, size, few)
