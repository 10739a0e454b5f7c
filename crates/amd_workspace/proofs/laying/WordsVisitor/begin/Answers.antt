use Rattle.std.proofs.Common.{arith, ap, ◌∙◌, sym, set, get_or, subst}
use Rattle.std.proofs.lemmas.List.{set-get_or}
use Rattle.amd_workspace.specs.Laying.{Lays}
use Rattle.amd_workspace.proofs.laying.WordsVisitor.begin.Goals as goal

pub cell_at-requires : goal.cell_at-requires
cell_at-requires g c =
    let r = c.requires in let s = r.3.lists.size in let j = r.4 in rw c.deref.ensures.value (omega (arith, s, j))

pub returns : goal.returns
returns g c = λ gr seen arcs h.
    let l = c.args.self.now in
    let is = c.cell_at.ensures.is ∙ ap (λ xs. get_or xs c.args.j 0) c.deref.ensures.value in (
      subst (λ ends. Lays gr seen arcs g.S.Signed.MOST g.U.Unsigned.MOST ends l.iw.items)
          (sym (ap (set l.next.items c.args.j) is ∙ set-get_or l.next.items c.args.j 0)) h,
      c.cell_at.ensures.small,
    )
