use Rattle.std.proofs.Common.{ℕ, map, pos, length, subst, sym, arith, ◌≡◌, ◌∙◌}
use Rattle.amd_types.specs.Permutations.{AreInverse}
use Rattle.amd_workspace.specs.Ending.{EndsRows}
use Rattle.amd_engine.proofs.Blocks.{block_few}
use Rattle.amd_engine.proofs.ended.list_rows.Goals as goal

pub end_rows-requires-clause-lengths : goal.end_rows-requires-clause-lengths
end_rows-requires-clause-lengths g c =
    let words = c.requires.over.words in (sym words.3, words.1 ∙ sym words.3, words.2 ∙ sym words.3)

pub end_rows-requires-clause-narrow : goal.end_rows-requires-clause-narrow
end_rows-requires-clause-narrow g c = let most = c.requires.narrow in omega (arith, most)

pub end_rows-requires-clause-blocks : goal.end_rows-requires-clause-blocks
end_rows-requires-clause-blocks g c = λ i l. let over = c.requires.over in let rows = over.words.3 in let most = c.requires.narrow.2 in
    let few = block_few over i (omega (arith, l, rows)) in omega (arith, few, most)

pub listing-requires : goal.listing-requires
listing-requires g c =
    let over = c.requires.over in let old = c.args.rows.now in let d : length old.degree.now ≡ length old.pe.now = over.words.3 in
    let new = c.end_rows.new in let ended = c.end_rows.ensures.lengths in
    let rows : length new.nv ≡ length c.args.rows.now.pe.now = ended.2 ∙ d in
    record {
      ended = over.ends new.pe new.e_len new.nv
          (subst (λ k. EndsRows k old.pe.now old.e_len.now old.degree.now new.pe new.e_len new.nv) d c.end_rows.ensures.ends)
          (ended.0 ∙ d) (ended.1 ∙ d) rows;
      lengths = (d ∙ sym rows, over.links.1 ∙ sym rows, over.links.0 ∙ sym rows, over.counters ∙ sym rows);
      narrow = (let most = c.requires.narrow in (omega (arith, most, rows), omega (arith, most, rows)));
    }

pub returns-clause-listed : goal.returns-clause-listed
returns-clause-listed g c =
    let old = c.args.rows.now in let new = c.end_rows.new in let n : ℕ = length old.pe.now in
    let d : length old.degree.now ≡ n = c.requires.over.words.3 in
    let ended = c.end_rows.ensures.lengths in
    let rows : length c.end_rows.new.nv ≡ n = ended.2 ∙ d in
    let listed = c.listing.ensures.lists in
    record {
      link = c.end_rows.new.pe;
      ends = subst (λ k. EndsRows k old.pe.now old.e_len.now old.degree.now new.pe new.e_len new.nv) d c.end_rows.ensures.ends;
      long = (ended.0 ∙ d, ended.1 ∙ d, rows);
      rows = listed.0;
      listed = listed.1;
      lists = listed.2;
      inverse = subst (λ m. AreInverse m (map pos c.listing.new.p) (map pos c.listing.new.p_inv)) rows c.listing.ensures.inverse;
      shortens = c.listing.ensures.shortens;
    }
