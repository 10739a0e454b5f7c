use Rattle.std.proofs.Common.{ℕ, ℤ, List}
use Rattle.amd_factor.specs.Columns.{HoldColumns}
use Rattle.amd_factor.specs.Factors.{IsFactorOf}
use Rattle.amd_factor.specs.SupernodeLaws.{AreBlocksOf}
use Rattle.amd_factor.specs.Supernodes.{IsSupernodesOf}
use Rattle.amd_factor.proofs.Partitions.Appending.{factor-back, ok-of}
use Rattle.amd_factor.proofs.expanding.expand.Goals as goal

pub expanded-requires : goal.expanded-requires
expanded-requires g c =
    let s = c.requires.4 in record {
      blocks = (
        s.holds.columns,
        rw (c.deref.ensures.value, c.deref-2.ensures.value, c.deref-3.ensures.value, c.deref-4.ensures.value)
            (record { runs = s.holds.runs; holds = s.holds.holds }),
      );
    }

pub returns : goal.returns
returns g c =
    let v = c.args.supernodes.now in
    ok-of c.expanded.result
    (λ f. (columns : List (List ℕ)) → AreBlocksOf columns c.deref.result.now c.deref-2.result.now c.deref-3.result.now
    c.deref-4.result.now → HoldColumns columns f.ptr.items f.rows.items f.parent.items)
    (λ f. (n : ℤ) (a_p a_i p : List ℤ) → IsSupernodesOf n a_p a_i p v.first.items v.ptr.items v.rows.items v.parent.items →
    IsFactorOf n a_p a_i p f.ptr.items f.rows.items f.parent.items)
    c.expanded.ensures
    (λ f h n a_p a_i p s. factor-back n a_p a_i p _ _ _ _ s f.ptr.items f.rows.items f.parent.items
    (h s.holds.columns
    (rw (c.deref.ensures.value, c.deref-2.ensures.value, c.deref-3.ensures.value, c.deref-4.ensures.value)
    (record { runs = s.holds.runs; holds = s.holds.holds }))))
