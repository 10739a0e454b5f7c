-- the goals of lower::own_first.
use Rattle.std.proofs.Common.{◌≡◌, ◌+◌, ◌∙◌, ℕ, arith, inl, inr, map, refl, sym, subst}
use Rattle.std.proofs.lemmas.Bool.{cases_lt}
use Rattle.std.specs.Prelude.{slice_index, slice_range}
use Rattle.amd_types.specs.Naturals.{naturals}
use Rattle.amd_edges.specs.Walk.{lower_start}
use Rattle.amd_edges.proofs.Forms.{sorted_form}
use Rattle.amd_edges.proofs.LowerWalks.{start_kind}
use Rattle.amd_workspace.specs.Lower.{own_of}
use Rattle.amd_workspace.proofs.LowerColumns.{slice_none, slice_on, slice_below}
use Rattle.amd_workspace.proofs.lower.own_first.Goals as goal

pub returns-clause-from : goal.returns-clause-from
returns-clause-from g c =
    let az = map g.I.Index.value c.args.a_p.now in let bz = map g.I.Index.value c.args.a_i.now in let is = c.lower_first.ensures in
    elim (start_kind (naturals az) (naturals bz) c.args.j) [
      | inl k ↦ (let at = k.0 in omega (arith, is, at))
      | inr k ↦ (let at = k.0 in omega (arith, is, at))
    ]

pub returns-clause-to : goal.returns-clause-to
returns-clause-to g c =
    let az = map g.I.Index.value c.args.a_p.now in let bz = map g.I.Index.value c.args.a_i.now in let is = c.lower_first.ensures in
    elim (start_kind (naturals az) (naturals bz) c.args.j) [
      | inl k ↦ (let at = k.0 in let some = k.1 in omega (arith, is, at, some))
      | inr k ↦ (let at = k.0 in let up = (sorted_form c.args.size az bz c.requires.input.form c.requires.input.sorted).rising c.args.j
          c.requires.row in omega (arith, is, at, up))
    ]

pub returns-clause-rows : goal.returns-clause-rows
returns-clause-rows g c =
    let n = c.args.size in let j = c.args.j in let r = c.requires in
    let az = map g.I.Index.value c.args.a_p.now in let bz = map g.I.Index.value c.args.a_i.now in
    let first = slice_index (naturals az) j in let stop = slice_index (naturals az) (j + 1) in
    let up = (sorted_form n az bz r.input.form r.input.sorted).rising j r.row in
    let from : (place : ℕ) → lower_start (naturals az) (naturals bz) j ≡ place →
    own_of n az bz j ≡ slice_range (naturals bz) place stop →
    own_of n az bz j ≡ slice_range (naturals bz) c.lower_first.result stop =
    λ place at rows. subst (λ x. own_of n az bz j ≡ slice_range (naturals bz) x stop) (sym (c.lower_first.ensures ∙ at)) rows in
    elim (start_kind (naturals az) (naturals bz) j) [
      | inl k ↦ (let some = k.1 in from (first + 1) k.0
          (slice_on n az bz r.input.form j r.row r.input.sorted r.input.lower first stop refl refl (λ e. omega (arith, some, e)) k.2))
      | inr k ↦ from first k.0 (elim (cases_lt first stop) [
        | inl some ↦ slice_below n az bz r.input.form j r.row r.input.sorted r.input.lower first stop refl refl
            (λ e. omega (arith, some, e)) (k.1 some)
        | inr none ↦ slice_none n az bz r.input.form j r.row r.input.sorted r.input.lower first stop refl refl
            (omega (arith, up, none))
      ])
    ]
