use Rattle.std.proofs.Common.{ℕ, ℤ, List, ◌≡◌, ◌≤◌, ◌+◌, ◌-◌, sym, ap, subst, ◌∙◌, arith, refl, length, cond, set}
use Rattle.amd_model.specs.Quotient.{has}
use Rattle.amd_words.specs.Words.{num, word, place, start, rows, flip_of}
use Rattle.amd_elements.specs.Element.{front_of, ListsLaid, Builds}
use Rattle.amd_lists.specs.Layout.{elements_in}
use Rattle.amd_lists.specs.Workspaces.{Workspace, workspace_of}
use Rattle.amd_words.proofs.RowLists.{rows_length, names_at}
use Rattle.amd_lists.proofs.Frames.{has_parts}
use Rattle.amd_elements.proofs.Settling.{lists_laid, own_names, own_read, start_set, makes}
use Rattle.std.proofs.Common.{lt_of_le_of_lt, le-add_right, lt_of_lt_of_le, le_of_eq, le_trans, le_of_lt}
use Rattle.amd_words.specs.Words.{size_of}
use Rattle.std.specs.Prelude.{sum_by}
use Rattle.amd_elements.proofs.Made.{Makes}
use Rattle.amd_elements.specs.Pivots.{built_front}
use Rattle.amd_elements.proofs.Touching.{front_apart}
use Rattle.amd_elements.proofs.Beginnings.{begins, built_inside}
use Rattle.std.proofs.Common.{add-le-add, le_refl, ◌==◌}
use Rattle.std.proofs.lemmas.Bool.{or_left, eq-eqb}
use Rattle.amd_elements.proofs.beginning.begin_built.Goals as goal

pub named_lent-from-requires : goal.named_lent-from-requires
named_lent-from-requires g c = let q = c.requires.pivot in record {
  inside = lt_of_lt_of_le q.row.0 (le_of_eq (sym q.lengths.0));
  place = (has_parts c.args.work.now.pe.now c.args.work.now.len.now c.args.me q.listed).0;
}

pub named_lent-n_elements-requires : goal.named_lent-n_elements-requires
named_lent-n_elements-requires g c = let q = c.requires.pivot in record {
  inside = lt_of_lt_of_le q.row.0 (le_of_eq (sym q.lengths.1));
  place = c.requires.count;
}

pub build-end-requires : goal.build-end-requires
build-end-requires g c = let p = c.args.work.now in let q = c.requires.pivot in let me : ℕ = c.args.me in
    let n_is = c.named_lent-n_elements.ensures.is in rw c.named_lent-from.ensures.same (record {
      around = record {
        lists = record {
          lengths = ((q.lengths.0, q.lengths.2));
          elements = (let m = n_is in let l = q.laid.parts me q.listed in omega (arith, m, l));
          laid = (subst (λ m. ListsLaid p.iw.now p.pe.now p.len.now (length p.nv.now) p.free me m) (sym n_is)
              (lists_laid q.laid me q.listed c.requires.elements.listed));
        };
        pivot = q.row;
        clear = q.clear;
      };
      end = q.end;
      fits = (subst (λ m. p.free + length (front_of p.iw.now p.nv.now p.pe.now p.len.now me m) ≤ length p.iw.now) (sym n_is)
          c.requires.fits);
      few = (let front : ℕ → List ℕ = front_of p.iw.now p.nv.now p.pe.now p.len.now me in
          let few : sum_by (size_of p.nv.now) (front c.named_lent-n_elements.result) + 2 ≤ g.P.Signed.MOST =
          subst (λ m. sum_by (size_of p.nv.now) (front m) + 2 ≤ g.P.Signed.MOST) (sym n_is) c.requires.few in
          lt_of_le_of_lt (le_trans (le-add_right (sum_by (size_of p.nv.now) (front c.named_lent-n_elements.result)) 2) few)
          g.met.P.Signed.narrow);
    })

-- ---- what was built, and the elements that end

pub absorb_own-requires : goal.absorb_own-requires
absorb_own-requires g c =
    let q = c.requires.pivot in let me : ℕ = c.args.me in let at = c.named_lent-from.ensures in
    let many = c.named_lent-n_elements.ensures in let b = c.build-end.ensures.builds in
    let size : length c.build-end.new.pe ≡ length c.args.work.now.nv.now =
    ap length (c.build-end.ensures.same.0 ∙ at.same) ∙ q.lengths.0 in record {
      span = record {
        inside = (let f = at.is in let m = many.is in let w = q.laid.within me q.listed in let l = q.laid.parts me q.listed in
            let e = q.end in let i = b.long in omega (arith, f, m, w, l, e, i));
        names = names_at c.build-end.new.iw (sym size) (sym at.is) (sym many.is)
            (own_names q.laid me q.listed c.requires.elements.listed b);
      };
      lengths = c.requires.counters ∙ sym size;
      small = le_trans (add-le-add (le_of_lt q.row.0) (le_refl 2)) c.requires.wide.0;
    }

-- ---- the list that is written down

pub settle-requires : goal.settle-requires
settle-requires g c = let p = c.args.work.now in let q = c.requires.pivot in let me : ℕ = c.args.me in
    let many = c.named_lent-n_elements.ensures in let lent = c.build-end.ensures.same in
    let front : List ℤ → ℕ → List ℕ = λ pe m. front_of p.iw.now p.nv.now pe p.len.now me m in
    let b : Builds me (front p.pe.now c.named_lent-n_elements.result) p.iw.now p.nv.now p.free
    c.build-end.new.iw c.build-end.new.nv c.build-end.result.0 c.build-end.result.1
    = subst (λ pe. Builds me (front pe c.named_lent-n_elements.result) p.iw.now p.nv.now p.free
    c.build-end.new.iw c.build-end.new.nv c.build-end.result.0 c.build-end.result.1) c.named_lent-from.ensures.same
    c.build-end.ensures.builds in
    record {
      row = (
        lt_of_lt_of_le q.row.0 (le_of_eq (sym (c.absorb_own.ensures.absorbs.lengths.0 ∙ ap length lent.0
            ∙ ap length c.named_lent-from.ensures.same ∙ q.lengths.0))),
        lt_of_lt_of_le q.row.0 (le_of_eq (sym (ap length many.same ∙ q.lengths.1))),
        lt_of_lt_of_le q.row.0 (le_of_eq (sym (ap length lent.1 ∙ q.lengths.2))),
      );
      order = (b.grows, le_trans q.end c.requires.wide.1);
      few = subst (λ t. t + 2 ≤ g.P.Signed.MOST) (sym b.total_is) (subst (λ m. sum_by (size_of p.nv.now) (front p.pe.now m) + 2
          ≤ g.P.Signed.MOST) (sym many.is) c.requires.few);
      fits = (let l = ap length b.list in let k = rows_length c.build-end.new.iw p.free (c.build-end.result.0 - p.free) in
          let f = subst (λ m. p.free + length (front p.pe.now m) ≤ length p.iw.now) (sym many.is) c.requires.fits in
          let w = c.requires.cells in omega (arith, l, k, f, w));
    }

pub returns-clause-begins : goal.returns-clause-begins
returns-clause-begins g c =
    let w = c.args.work.now in let p : Workspace = workspace_of w in let q = c.requires.pivot in let me : ℕ = c.args.me in
    let from_is = c.named_lent-from.ensures in let many = c.named_lent-n_elements.ensures in
    let lent = c.build-end.ensures.same in let end : ℕ = c.build-end.result.0 in let total : ℕ = c.build-end.result.1 in
    let iw : List ℤ = c.build-end.new.iw in let nv : List ℤ = c.build-end.new.nv in
    let v : Workspace = record p {
      iw = c.absorb_own.new.iw;
      nv = nv;
      pe = c.settle.new.pe;
      e_len = c.settle.new.e_len;
      len = c.settle.new.len;
      w = c.absorb_own.new.w;
      free = end;
    } in
    let built : Builds me (built_front p me) p.iw p.nv p.free iw nv end total = subst (λ k. Builds me
    (front_of p.iw p.nv p.pe p.len me k) p.iw p.nv p.free iw nv end total) many.is (subst (λ pe. Builds me
    (front_of p.iw p.nv pe p.len me c.named_lent-n_elements.result) p.iw p.nv p.free iw nv end total) from_is.same
    c.build-end.ensures.builds) in
    let same : rows iw c.named_lent-from.result c.named_lent-n_elements.result ≡ elements_in p.iw p.pe p.e_len me
    = own_read q.laid me q.listed c.requires.elements.listed built from_is.is many.is in
    let b : Builds me (built_front p me) p.iw p.nv p.free v.iw nv end total
    = subst (λ i. Builds me (built_front p me) p.iw p.nv p.free i nv end total) (sym c.absorb_own.ensures.same) built in
    let absorbs = c.absorb_own.ensures.absorbs in let pe_same : c.build-end.new.pe ≡ p.pe = lent.0 ∙ from_is.same in
    let grown : length c.absorb_own.new.pe ≡ length p.pe = absorbs.lengths.0 ∙ ap length pe_same in
    let made : Makes (length p.nv) me (elements_in p.iw p.pe p.e_len me) (built_front p me) total p v
    = makes p v c.absorb_own.new.pe q c.requires.elements b grown
    (λ x. absorbs.starts x ∙ ap (λ xs. cond (has xs x) (flip_of me) (word c.build-end.new.pe x)) same
    ∙ ap (λ pe. cond (has (elements_in p.iw p.pe p.e_len me) x) (flip_of me) (word pe x)) pe_same) c.settle.ensures.starts
    (c.settle.ensures.counts ∙ ap (λ xs. set xs me (flip_of total)) many.same)
    (c.settle.ensures.lengths ∙ ap (λ xs. set xs me (end - p.free)) lent.1) in
    let small = q.row.0 in let l = q.lengths.0 in
    let at : start v.pe me ≡ p.free = ap (λ pe. start pe me) c.settle.ensures.starts
    ∙ start_set c.absorb_own.new.pe me p.free (omega (arith, small, l, grown)) in
    record {
      begins = begins refl b made at (front_apart p.iw p.nv p.pe p.len me (place (word p.e_len me)))
          c.take_pivot-block.ensures.takes (built_inside v.iw v.pe v.len me made.list b.list at b.grows);
      counters = λ x. absorbs.counters x ∙ ap (λ xs. cond (has xs x) 0 (num p.w x)) same;
      long = absorbs.lengths.1;
      before = λ j ne h. let a = made.before j ne h in omega (arith, a, at);
      end = (let a = ap length b.list in let k = rows_length v.iw p.free (end - p.free) in let f = c.requires.fits in
          let o = b.long in let w = b.grows in omega (arith, a, k, f, o, w));
      total = b.total_is;
      block = c.take_pivot-block.ensures.rows ∙ b.sizes me;
      same = refl;
    }

pub take_pivot-block-requires-clause-inside : goal.take_pivot-block-requires-clause-inside
take_pivot-block-requires-clause-inside g c = lt_of_lt_of_le c.requires.pivot.row.0 (le_of_eq (sym c.build-end.ensures.builds.wide))

pub take_pivot-block-requires-clause-marked : goal.take_pivot-block-requires-clause-marked
take_pivot-block-requires-clause-marked g c =
    c.build-end.ensures.builds.front_is c.args.me ∙ or_left (c.args.me == c.args.me) _ (eq-eqb c.args.me c.args.me refl)

pub returns-clause-loans : goal.returns-clause-loans
returns-clause-loans g c = (refl, refl, refl, refl, refl, refl, refl, refl, refl, refl)
