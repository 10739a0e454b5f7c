use Rattle.std.proofs.Common.{[], ◌≡◌, ap, refl, sym, subst, ◌∙◌, arith, length}
use Rattle.std.specs.Prelude.{◌==◌}
use Rattle.std.proofs.lemmas.Bool.{eq-eqb, or_left}
use Rattle.amd_words.specs.Words.{start}
use Rattle.amd_lists.specs.Workspaces.{Workspace, workspace_of}
use Rattle.amd_elements.specs.Pivots.{own_front}
use Rattle.amd_elements.proofs.Made.{Makes}
use Rattle.amd_elements.proofs.OwnPlace.{own_makes}
use Rattle.amd_elements.proofs.Touching.{front_apart}
use Rattle.amd_elements.proofs.Beginnings.{begins, own_inside}
use Rattle.amd_elements.proofs.beginning.begin_own.Goals as goal

pub make_own-total-requires : goal.make_own-total-requires
make_own-total-requires g c = c.requires

pub take_pivot-block-requires-clause-inside : goal.take_pivot-block-requires-clause-inside
take_pivot-block-requires-clause-inside g c =
    let a = c.requires.pivot.row.0 in let b = c.make_own-total.ensures.builds.wide in omega (arith, a, b)

pub take_pivot-block-requires-clause-marked : goal.take_pivot-block-requires-clause-marked
take_pivot-block-requires-clause-marked g c =
    c.make_own-total.ensures.builds.front_is c.args.me ∙ or_left (c.args.me == c.args.me) _ (eq-eqb c.args.me c.args.me refl)

pub returns : goal.returns
returns g c = let p = c.args.work.now in let v = c.make_own-total.new.work in let made = c.make_own-total.ensures in
    let same : workspace_of v ≡ record (workspace_of p) { iw = v.iw.now; nv = v.nv.now; e_len = v.e_len.now; len = v.len.now }
    = made.same in
    let makes : Makes (length p.nv.now) c.args.me [] (own_front (workspace_of p) c.args.me) c.make_own-total.result.1 (workspace_of p)
    (workspace_of v) = subst (Makes (length p.nv.now) c.args.me [] (own_front (workspace_of p) c.args.me) c.make_own-total.result.1
    (workspace_of p)) (sym same) (own_makes c.requires.pivot made.builds made.inside made.counts made.lengths) in record {
      begins = record {
        begins = begins refl made.builds makes (ap (λ (q : Workspace). start q.pe c.args.me) same)
            (front_apart p.iw.now p.nv.now p.pe.now p.len.now c.args.me 0) c.take_pivot-block.ensures.takes
            (own_inside (workspace_of p) (workspace_of v) c.args.me c.requires.pivot.laid makes.laid
            (ap (λ (q : Workspace). q.pe) same) (ap (λ (q : Workspace). q.free) same) c.requires.pivot.listed);
        total = made.builds.total_is;
        block = c.take_pivot-block.ensures.rows ∙ made.builds.sizes c.args.me;
        same = ap (λ (q : Workspace). record q { nv = c.take_pivot-block.new.nv }) same;
      };
      loans = made.loans;
    }
