use Rattle.std.proofs.Common.{ℕ, List, ◌≡◌, ◌<◌, ◌≤◌, ◌+◌, ◌∙◌, ap, arith, length, map, subst, sym, take}
use Rattle.std.specs.Prelude.{◌^◌}
use Rattle.std.proofs.lemmas.Grind.{common_steps}
use Rattle.std.proofs.lemmas.List.{length-take-le, take-take}
use Rattle.amd_types.specs.Naturals.{naturals}
use Rattle.amd_factor.specs.Gathering.{MarksTell}
use Rattle.amd_factor.specs.Numbers.{Plans}
use Rattle.amd_factor.specs.Sharing.{IsPlanned, Share, StandsFrom, TellFirsts}
use Rattle.amd_factor.proofs.Factors.Sharing.{firsts_longer, places_kept, share_kept, share_longer}
use Rattle.amd_factor.proofs.sharing.share_columns.Goals as goal

-- the numbers of the columns so far are the first of those that were written
still_first : {N : Type 0} (used more : ℕ) (rows written : List N) → used ≤ length rows → used ≤ more →
    take used written ≡ take used rows → take (length (take used rows)) (take more written) ≡ take used rows
still_first used more rows written low rises kept =
    ap (λ n. take n (take more written)) (length-take-le used rows low) ∙ take-take used more written rises ∙ kept

pub plan_shared-plan-requires : goal.plan_shared-plan-requires
plan_shared-plan-requires g c κs inside =
    let q = c.requires.1.1 in let i = c.columns.invariant in
    let low : c.columns.k < length g.o.rows = (let t = c.columns-test.true in let p = q.places.starts in omega (arith, t, p)) in (
      inside.0,
      (
        inside.1,
        (
          record {
            laws = q.laws;
            place = low;
            later = rw (i.left c.columns.k (omega arith), i.left (c.columns.k + 1) (omega arith)) (q.neighbours.each c.columns.k low);
            marks = i.marks;
            long = i.places.fresh;
          },
          subst (λ xs. Share g.N.Index.value g.o c.columns.k c.columns.lists (take c.columns.used xs)) (sym c.deref.ensures.value)
              i.columns,
        ),
      ),
    )

pub stand_column-requires : goal.stand_column-requires
stand_column-requires g c κs inside =
    let q = c.requires.1.1 in let i = c.columns.invariant in let value = g.N.Index.value in
    let low : c.columns.k < length g.o.rows = (let t = c.columns-test.true in let p = q.places.starts in omega (arith, t, p)) in
    let small : length g.o.rows < 2 ^ 64 = grind (arith, common_steps) in
    let plan = c.plan_shared-plan.result in let lists = c.plan_shared-plan.new.lists in let used = c.columns.used in
    let rows = take used c.columns.rows.items in let placed = c.in-Some.placed in
    let told = c.in_ok-placed.ensures.placed in let is = (rw c.in-Some.is at told) in
    let fresh = take plan.count c.deref-in-columns.result.now in
    let planned : IsPlanned value g.o c.columns.k plan fresh rows = record {
      plans = subst (λ ys. Plans g.o c.columns.k (naturals (map value rows)) plan.from plan.to (take plan.count ys))
          (sym c.deref-in-columns.ensures.value)
          (subst (λ xs. Plans g.o c.columns.k (naturals (map value (take used xs))) plan.from plan.to (take plan.count lists.fresh.items))
          c.deref.ensures.value c.plan_shared-plan.ensures.plans);
      numbers = i.columns.numbers;
      small = small;
    } in
    let kept = c.plan_shared-plan.ensures.kept in let written = c.place_column.new.rows.items in
    let after : c.deref-in-columns-2.result.now ≡ written = c.deref-in-columns-2.ensures.value in (
      inside.0,
      (
        inside.1,
        record {
          laws = q.laws;
          place = low;
          small = small;
          places = places_kept g.o c.columns.lists lists kept i.places c.plan_shared-plan.ensures.marks.room
              (c.plan_shared-plan.ensures.room ∙ i.places.fresh);
          columns = subst (λ xs. Share value g.o c.columns.k lists (take placed.used xs)) (sym after)
              (share_longer value g.o c.columns.k lists rows (take placed.used written)
              (share_kept value g.o c.columns.k c.columns.lists lists rows kept i.columns)
              (still_first used placed.used c.columns.rows.items written i.used is.more c.place_column.ensures.kept) is.numbers);
          told = subst (λ xs. TellFirsts g.o c.columns.k lists.starts.items lists.ends.items (naturals (map value (take placed.used xs)))
              c.columns.starts) (sym after)
              (firsts_longer value g.o c.columns.k lists rows (take placed.used written)
              (share_kept value g.o c.columns.k c.columns.lists lists rows kept i.columns)
              (still_first used placed.used c.columns.rows.items written i.used is.more c.place_column.ensures.kept) c.columns.starts
              (rw (kept.0, kept.1) i.firsts));
          stands = subst (λ xs. StandsFrom value g.o c.columns.k placed.begin placed.end (take placed.used xs)) (sym after)
              (is.stands g.o c.columns.k planned);
        },
      ),
    )

pub place_column-requires : goal.place_column-requires
place_column-requires g c =
    let q = c.requires.1.1 in let i = c.columns.invariant in let value = g.N.Index.value in let used = c.columns.used in
    let plan = c.plan_shared-plan.result in let lists = c.plan_shared-plan.new.lists in
    let rows = take used c.columns.rows.items in let start = q.neighbours.room in record {
      place = record {
        order = g.o;
        column = c.columns.k;
        planned = record {
          plans = subst (λ ys. Plans g.o c.columns.k (naturals (map value rows)) plan.from plan.to (take plan.count ys))
              (sym c.deref-in-columns.ensures.value)
              (subst (λ xs. Plans g.o c.columns.k (naturals (map value (take used xs))) plan.from plan.to
              (take plan.count lists.fresh.items)) c.deref.ensures.value c.plan_shared-plan.ensures.plans);
          numbers = i.columns.numbers;
          small = omega (arith, start);
        };
        fit = q.fit;
        within = i.used;
        bound = i.room;
      };
    }

pub columns-preserved : goal.columns-preserved
columns-preserved g c =
    let i = c.columns.invariant in let value = g.N.Index.value in let k = c.columns.k in let placed = c.in-Some.placed in
    let told = c.in_ok-placed.ensures.placed in let is = (rw c.in-Some.is at told) in
    let stand = c.stand_column.ensures in let lists = c.stand_column.new.lists in
    let after = c.deref-in-columns-2.ensures.value in record {
      columns = subst (λ xs. Share value g.o (k + 1) lists (take placed.used xs)) after stand.columns;
      used = is.within;
      room = c.place_column.ensures.room;
      places = stand.places;
      firsts = subst (λ xs. TellFirsts g.o (k + 1) lists.starts.items lists.ends.items (naturals (map value (take placed.used xs)))
          c.stand_column.new.firsts) after stand.firsts;
      long = stand.left.0 ∙ i.long;
      left = λ m l. stand.left.1 m (omega (arith, l)) ∙ i.left m (omega (arith, l));
      marks = subst (MarksTell g.o (k + 1) _ _) (sym stand.marks) c.plan_shared-plan.ensures.marks;
    }
