-- Calls of `grants` and `takes_back`: what each is handed, the same for both, and what its caller has of it. Assumes `Logic`.
use Rattle.std.proofs.Common.{◌≡◌, ℕ, ◌^◌, ◌<◌, List, [], ◌∷◌, Bool, refl, ap, w64}
use seplogic.Ra.Ura.{Ura}
use mir.Val.{Val, vunit, vptr, vint, vbool}
use base.Logic.{SProp, ent, sep, ex, guard, id⊢}
use base.Fml.{Lft, Share, ftrue, fsep, flft}
use prog.Memory.{Memory}
use prog.Routine.{Routine}
use types.Logic.{Logic, sem}
use contract.Monad.{Fun}
use types.Kit.{‵, raw, ◌⊛◌, some, later, ◌$◌, ◌∵◌, !, qed, move, keep, use1, split, join, pick, fjoin, feq_i, feq_l, check, await, updating}
use types.Kit.{flt_i, show, now as at_once, done}
use denote.RattleType.{RattleType}
use denote.Memory.{hidden_shr}
use denote.Builtin.{bool, unit}
use denote.Steps.{nothing, only}
use denote.Triple.Statement.{Contract}
use denote.Triple.Spec.{triple_of}
use Rattle.amd_testing.specs.contracts.refusing.Tally as tally
use Rattle.amd_testing.specs.contracts.refusing.grants as grants
use Rattle.amd_testing.specs.contracts.refusing.takes_back as takes_back

-- the row of the counters
abbrev pub Counters : RattleType
Counters = tally.the_row

module _ {M : Type 1} {𝓤 : Ura M} (𝓛 : Logic 𝓤) (at_mem : Memory → SProp 𝓤) (run : Routine → Fun 𝓤) where
  -- the contract of `grants`
  abbrev pub Grants : Contract 𝓤
  Grants = triple_of 𝓛 grants.signature (grants.spec 𝓛 at_mem run)

  -- the contract of `takes_back`
  abbrev pub TakesBack : Contract 𝓤
  TakesBack = triple_of 𝓛 takes_back.signature (takes_back.spec 𝓛 at_mem run)

  -- the ghost values of both at the counters t, which lie at c and are lent for κ, and a block of n bytes
  abbrev pub at_counters : Lft → Share → ℕ × ℕ → Counters.Denot → ℕ → Grants.Ghost
  at_counters κ q c t n = (
    ((κ, tt), (q, tt), tt, (record { ref_ptr = c; now = t }, (n, tt)), (vptr c.0 c.1 ∷ [], (vint w64 n ∷ [], tt))),
    tt,
  )

module _ {M : Type 1} {𝓤 : Ura M} (𝓛 : Logic 𝓤) (at_mem : Memory → SProp 𝓤) (run : Routine → Fun 𝓤) (κ : Lft) (q : Share) (c : ℕ × ℕ)
    (t : Counters.Denot) (n : ℕ) where
  open 𝓛 use {H, A}

  -- what both need: the counters, lent, the lifetime, and a size that a machine word holds
  pub counters_go : n < 2 ^ 64 → ent 𝓤 (sep 𝓤 (sem 𝓛 (hidden_shr Counters κ t c.0 c.1)) (A.lft κ q))
      ((Grants 𝓛 at_mem run).pre (at_counters 𝓛 at_mem run κ q c t n))
  counters_go fits =
      qed 𝓛 (‵ (hidden_shr Counters κ t c.0 c.1) ∷ ‵ (flft κ q) ∷ []) ∵ nothing ! $ flt_i ! n (2 ^ 64) fits $
      feq_i ! (List Val) (vint w64 n ∷ []) (vint w64 n ∷ []) refl $ fjoin ! $ fjoin ! $ move ! (1 ∷ []) $
      feq_i ! (List Val) (vptr c.0 c.1 ∷ []) (vptr c.0 c.1 ∷ []) refl $ fjoin ! $ fjoin ! $
      nothing ! $ move ! (2 ∷ []) $ join ! $ join ! $ nothing ! $ move ! (1 ∷ []) $ done !

  -- what `grants` gives: a truth value, and the lifetime back
  pub grants_gives : (v : Val) → ent 𝓤 ((Grants 𝓛 at_mem run).post (at_counters 𝓛 at_mem run κ q c t n) v)
      (H.⇛ (ex 𝓤 (λ (r : Bool). guard 𝓤 (v ≡ vbool r) (A.lft κ q))))
  grants_gives v =
      qed 𝓛 (raw ((Grants 𝓛 at_mem run).post (at_counters 𝓛 at_mem run κ q c t n) v) ∷ []) ∵ updating ! $
      use1 𝓛 (later (some (λ (r : Bool). ((‵ (flft κ q) ⊛ ‵ ftrue) ⊛ ‵ (bool.own_val r (v ∷ []))) ⊛ some
      (λ (ws : Unit {0} × (Unit {0} × Unit {0})). ‵ (fsep ftrue (fsep ftrue ftrue)) ⊛ ‵ ftrue)))) (id⊢ 𝓤 _) $ await ! tt $
      pick ! (λ r. split ! $ split ! $ move ! (1 ∷ []) $ feq_l ! (λ e. split ! $ at_once ! $
      show ! (λ (r : Bool). guard 𝓤 (v ≡ vbool r) (A.lft κ q)) r $ check ! (ap only e) $ keep ! (0 ∷ []) $ done !))

  -- what `takes_back` gives: the lifetime back
  pub takes_back_gives : (v : Val) → ent 𝓤 ((TakesBack 𝓛 at_mem run).post (at_counters 𝓛 at_mem run κ q c t n) v)
      (H.⇛ (guard 𝓤 (v ≡ vunit) (A.lft κ q)))
  takes_back_gives v =
      qed 𝓛 (raw ((TakesBack 𝓛 at_mem run).post (at_counters 𝓛 at_mem run κ q c t n) v) ∷ []) ∵ updating ! $
      use1 𝓛 (later (some (λ (r : Unit {0}). ((‵ (flft κ q) ⊛ ‵ ftrue) ⊛ ‵ (unit.own_val r (v ∷ []))) ⊛ some
      (λ (ws : Unit {0} × (Unit {0} × Unit {0})). ‵ (fsep ftrue (fsep ftrue ftrue)) ⊛ ‵ ftrue)))) (id⊢ 𝓤 _) $
      await ! tt $ pick ! (λ r. split ! $ split ! $ move ! (1 ∷ []) $ feq_l ! (λ e. split ! $ at_once ! $ check ! (ap only e) $
      keep ! (0 ∷ []) $ done !))
