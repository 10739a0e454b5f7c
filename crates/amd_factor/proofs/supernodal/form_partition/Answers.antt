use Rattle.std.proofs.Common.{ℕ, ℤ, pos, ◌≡◌, ◌∙◌, List, Option, length, map, ap, sym, rules, subst}
use Rattle.std.proofs.lemmas.List.{take_at}
use Rattle.amd_model.specs.Input.Columns.{IsColumnForm}
use Rattle.amd_model.specs.Input.Pattern.{graph_of}
use Rattle.amd_types.specs.Naturals.{naturals}
use Rattle.amd_factor.specs.Orders.{Order, Permutes}
use Rattle.amd_factor.specs.Partitions.{IsCut, IsPartitionOf, ordered_matrix}
use Rattle.amd_factor.specs.Thinning.{HasThinned}
use Rattle.amd_factor.proofs.Calls.ColumnParts.{laws, earlier_of}
use Rattle.amd_factor.proofs.Partitions.SupernodeTree.{places}
use Rattle.amd_factor.proofs.supernodal.form_partition.Goals as goal

-- a cut of an order, said of the matrix that the order is of
partition_of : (n : ℕ) (ap' ai p : List ℤ) (o : Order) → o.graph ≡ graph_of n ap' ai → o.rows ≡ naturals p →
    (first owner ptr : List ℕ) (parent : List (Option ℕ)) (starts earlier : List ℕ) → IsColumnForm (pos n) n ap' ai →
    Permutes n p (naturals p) → HasThinned o starts earlier →
    IsCut (record { order = o; first = first; owner = owner; ptr = ptr; parent = parent }) →
    IsPartitionOf (ordered_matrix (pos n) ap' ai p) first owner ptr parent starts earlier
partition_of n ap' ai p o graph rows first owner ptr parent starts earlier form permutes near cut =
    let all = subst (λ g. IsCut (record {
      order = record { graph = g; rows = naturals p };
      first = first;
      owner = owner;
      ptr = ptr;
      parent = parent;
    })) graph (subst (λ r. IsCut (record {
      order = record { graph = o.graph; rows = r };
      first = first;
      owner = owner;
      ptr = ptr;
      parent = parent;
    })) rows cut) in record {
      form = λ _. form;
      size = ap pos (sym (places _ all.columns all.partition ∙ permutes.each.places));
      permutes = permutes;
      near = subst (λ g. HasThinned (record { graph = g; rows = naturals p }) starts earlier) graph
          (subst (λ r. HasThinned (record { graph = o.graph; rows = r }) starts earlier) rows near);
      cut = all;
    }

pub ordered_lists-requires : goal.ordered_lists-requires
ordered_lists-requires g c = record { form = c.requires.1.1.form }

pub thinned_sizes-requires : goal.thinned_sizes-requires
thinned_sizes-requires g c κs within =
    let posed = c.requires.1.1 in
    let a_p : List ℤ = map g.I.Index.value c.args.a_p.now in
    let a_i : List ℤ = map g.I.Index.value c.args.a_i.now in
    let p : List ℤ = map g.I.Index.value c.args.p.now in (
      within,
      (
        laws c.args.size a_p a_i p g.o posed.graph posed.rows,
        earlier_of c.args.size a_p a_i p g.o posed.graph posed.rows c.deref_mut.result.now c.deref_mut-2.result.now
            (rw (c.deref_mut.ensures.value, c.deref_mut-2.ensures.value) c.in_ok-lists.ensures.lists),
      ),
    )

pub cut_places-requires : goal.cut_places-requires
cut_places-requires g c κs within = (within, rw (c.deref.ensures.value, c.deref-2.ensures.value) c.in_ok-sized.ensures.sizes)

pub returns-clause-partition : goal.returns-clause-partition
returns-clause-partition g c =
    let posed = c.requires.1.1 in
    partition_of c.args.size (map g.I.Index.value c.args.a_p.now) (map g.I.Index.value c.args.a_i.now)
    (map g.I.Index.value c.args.p.now) g.o posed.graph posed.rows _ _ _ _ _ _ posed.form
    c.in_ok-lists.ensures.permutes (
    let starts : length c.thinned_sizes.new.starts ≡ c.in_ok-lists.lists.starts.len = search rules in
    let earlier : length c.thinned_sizes.new.earlier ≡ c.in_ok-lists.lists.neighbours.len = search rules in
    rw (take_at c.thinned_sizes.new.starts _ _ starts, take_at c.thinned_sizes.new.earlier _ _ earlier) c.in_ok-sized.ensures.lists
    ) c.in_ok-cut.ensures
