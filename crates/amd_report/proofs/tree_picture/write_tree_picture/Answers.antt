-- The shades stand between what is before and behind them.
use Rattle.std.proofs.Common.{◌≡◌, ◌-◌, length, arith, subst}
use Rattle.std.specs.Prelude.{codes}
use Rattle.amd_report.specs.Canvases.{ShowsFronts}
use Rattle.amd_report.specs.Pictures.{TellsShades}
use Rattle.amd_report.specs.Trees.{AreShades}
use Rattle.amd_report.proofs.Told.{told-among}
use Rattle.amd_report.proofs.tree_picture.write_tree_picture.Goals as goal

pub returns : goal.returns
returns g c =
    let shapes = c.in_ok-write_shades.ensures in
    let layout = c.in_ok-layout.layout in
    let is = c.in_ok-layout.ensures in
    let count : length layout.width.items - 1 ≡ length c.args.parents.now =
    (let a = is.widths.room in let b = is.room in omega (arith, a, b)) in
    let shades = c.in_ok-shades.shades.items in
    let most = c.largest_front-most.result in record {
      left = layout.left.items;
      width = layout.width.items;
      level = layout.level.items;
      layout = is;
      canvas = c.in_ok-canvas.canvas;
      shows = subst (ShowsFronts c.in_ok-canvas.canvas c.args.first.now c.args.ptr.now layout.left.items layout.width.items
          layout.level.items) count c.in_ok-canvas.ensures;
      most = most;
      shades = shades;
      shaded = subst (λ z. AreShades z most shades) c.deref.ensures.value c.in_ok-shades.ensures;
      shapes = shapes.0;
      tells = subst (λ z. TellsShades c.in_ok-canvas.canvas.side z (codes "#1f4e79") 17 shapes.0) c.deref-2.ensures.value shapes.1;
      told = told-among _ _ _ _ shapes.0 c.in_ok-write_before.ensures shapes.2 c.in_ok-write_behind.ensures;
    }
