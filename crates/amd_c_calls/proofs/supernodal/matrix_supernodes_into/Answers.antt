-- What was written to the front of each array are the numbers of the supernodes; where there was no place, they are more.
use Rattle.std.proofs.Common.{◌≡◌, ◌<◌, ◌⊎◌, ◌++◌, drop, take, inl, inr, map, pos, length, refl, sym, ◌∙◌, ap, subst, arith, rules}
use Rattle.std.specs.Prelude.{slice_index}
use Rattle.std.proofs.lemmas.List.{length-map}
use Rattle.amd_types.specs.Naturals.{naturals}
use Rattle.amd_factor.proofs.Partitions.PartitionEnds.{partition_of, rows_end}
use Rattle.amd_factor.proofs.Partitions.TypedRows.{count-length}
use Rattle.amd_calls.specs.Columns.{parent_number}
use Rattle.amd_c_calls.specs.Supernodal.{HasBlockPlaces}
use Rattle.amd_calls.proofs.ColumnsLeft.{front_values}
use Rattle.amd_c_calls.proofs.Parted.{passes, sizes}
use Rattle.amd_c_calls.proofs.supernodal.matrix_supernodes_into.Goals as goal
use mathlib.Core.List.{not-mem-nil}
use Rattle.amd_c_calls.proofs.supernodal.matrix_supernodes_into.Goals.{then-len-parent-via-then-len-parent}
use Rattle.amd_c_calls.proofs.supernodal.matrix_supernodes_into.Goals.{then-len-parent-via-else-len-parent+then-below-rows}

pub write_rows-cut-requires : goal.write_rows-cut-requires
write_rows-cut-requires g c κs within =
    let p = partition_of c.requires.1.matrix c.in_ok-found.ensures.partition in
    let ends = rows_end p c.len.result c.index-below.result.now (omega arith) c.index-below.ensures in
    let fits : g.I.Index.fits g.m.size = subst (λ x. g.I.Index.fits x.size) (sym c.requires.1.matrix) c.requires.1.fit in
    let long : length (take c.index-below.result.now c.args.rows.now) ≡ c.index-below.result.now = search rules in (
      within,
      (
        (λ a h. absurd (not-mem-nil h)),
        record {
          parts = p;
          nexts = c.in_ok-found.ensures.next;
          marks = c.in_ok-found.ensures.mark;
          all = long ∙ ends.0;
          most = fits;
        },
      ),
    )

pub returns-then-len-parent-clause-left : goal.returns-then-len-parent-clause-left
returns-then-len-parent-clause-left g c =
    let value = g.I.Index.value in
    let cut = c.in_ok-found.found.cut in
    let p = partition_of c.requires.1.matrix c.in_ok-found.ensures.partition in
    let ends = rows_end p c.len.result c.index-below.result.now (omega arith) c.index-below.ensures in
    let places : HasBlockPlaces (map value c.args.first.now) (map value c.args.ptr.now) (map value c.args.parent.now) = search rules in
    let wide = length-map c.args.parent.now value in let long = length-map c.args.rows.now value in
    let more : (length (map value c.args.parent.now) < length cut.parent.items) ⊎ (length (map value c.args.rows.now) < slice_index
    cut.ptr.items (length cut.parent.items)) = elim c.then-len-parent.branch [
      | then-len-parent-via-then-len-parent w ↦ inl (let t = w.if-len-parent.true in omega (arith, t, wide))
      | then-len-parent-via-else-len-parent+then-below-rows w ↦ inr (let t = w.if-below-rows.true in let end = ends.1 in
          omega (arith, t, long, end))
    ] in (
      (
        (λ has. passes g.m cut.first.items cut.owner.items cut.ptr.items cut.parent.items c.in_ok-found.found.lists.starts.items
            c.in_ok-found.found.lists.neighbours.items p _ more),
        (λ ne. places),
      ),
      refl,
    )

pub returns-then-len-parent-clause-told : goal.returns-then-len-parent-clause-told
returns-then-len-parent-clause-told g c =
    let cut = c.in_ok-found.found.cut in let lists = c.in_ok-found.found.lists in
    let p = partition_of c.requires.1.matrix c.in_ok-found.ensures.partition in
    let ends = rows_end p c.len.result c.index-below.result.now (omega arith) c.index-below.ensures in
    let told = c.sizes_of.ensures in
    let all : c.len-then-len-parent.result ≡ length cut.parent.items = omega arith in
    sizes g.m cut.first.items cut.owner.items cut.ptr.items cut.parent.items lists.starts.items lists.neighbours.items p _ _
    (told.0 ∙ all) (told.1 ∙ ends.1)

pub returns-clause-told : goal.returns-clause-told
returns-clause-told g c =
    let cut = c.in_ok-found.found.cut in let lists = c.in_ok-found.found.lists in
    let p = partition_of c.requires.1.matrix c.in_ok-found.ensures.partition in
    let ends = rows_end p c.len.result c.index-below.result.now (omega arith) c.index-below.ensures in
    let told = c.sizes_of-2.ensures in
    let all : c.len-3.result ≡ length c.write_rows-cut.result.parent.items = omega arith in
    sizes g.m cut.first.items cut.owner.items cut.ptr.items cut.parent.items lists.starts.items lists.neighbours.items p _ _
    (told.0 ∙ all ∙ ap (λ x. length x.parent.items) c.write_rows-cut.ensures.same) (told.1 ∙ ends.1)

pub returns-clause-left : goal.returns-clause-left
returns-clause-left g c =
    let value = g.I.Index.value in
    let e = c.write_rows-cut.ensures in
    let cut = c.write_rows-cut.result in
    let rows = c.write_rows-cut.new.rows in
    let long : length rows ≡ c.index-below.result.now = search rules in
    let places : HasBlockPlaces (map value c.args.first.now) (map value c.args.ptr.now) (map value c.args.parent.now) = search rules in
    record {
      places = places;
      first = cut.first.items;
      ptr = cut.ptr.items;
      rows = naturals (map value rows);
      parent = cut.parent.items;
      supernodes = rw e.same e.supernodes;
      begin = c.write_first_numbers.ensures ∙ ap (λ xs. map pos xs ++ drop (length xs) (map value c.args.first.now))
          c.deref-2.ensures.value;
      pointers = c.write_first_numbers-2.ensures ∙ ap (λ xs. map pos xs ++ drop (length xs) (map value c.args.ptr.now))
          c.deref-3.ensures.value;
      entries = front_values value pos rows c.args.rows.now (naturals (map value rows)) c.index-below.result.now (sym e.told)
          (sym (count-length value rows ∙ long));
      parents = c.write_first_parents.ensures
          ∙ ap (λ xs. map parent_number xs ++ drop (length xs) (map value c.args.parent.now)) c.deref-4.ensures.value;
    }
