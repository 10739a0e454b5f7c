-- A function with the code of `Lending` meets its contract: the numbers follow the structs, whose values are the numbers'.
use Rattle.std.proofs.Common.{◌≡◌, refl, ℕ, List, [], ◌∷◌, length}
use seplogic.Ra.Ura.{Ura}
use base.Logic.{SProp, ent, sep}
use base.Fml.{Lft, GName, Share, flft}
use mir.Syntax.{Sym, Width, named}
use mir.Val.{Val}
use prog.Wp.{WpFn, Tables}
use types.Logic.{Logic, sem}
use contract.Monad.{Fun, fact}
use sound.WpLaws.{WpFn-mono}
use types.Kit.{‵, ◌⊛◌, ◌$◌, ◌∵◌, !, qed, move, split3, join, fjoin, suffices, frame, done}
use denote.RattleType.{RattleType}
use denote.Exit.{no}
use denote.Follow.{follows}
use denote.Array.{Array}
use denote.Ref.{MutBor}
use denote.Signature.{Slot, plain, mut_slice_of}
use denote.Slice.{MutSlice, Room, slice_val, mut_slice_vals, mut_slice_Tells}
use denote.Steps.{nothing}
use denote.Triple.Clauses.{Clauses, Ended, closing}
use denote.Triple.Entry.{on_entry}
use denote.Triple.Spec.{Meets}
use denote.Triple.Walked.{says, Stays, stay_dropped, walk_of, ends_at, walked, Goes-spent_slice, walk_Meets}
use Rattle.amd_lending.specs.Views.{Each}
use Rattle.amd_lending.proofs.Rows.{Row, number, struct}
use Rattle.amd_lending.proofs.Lending.{Turns, lends, walk}

-- ---- the contract
abbrev slices : RattleType → Slot 1
slices R = mut_slice_of (0 ∷ []) tt (plain (λ _. R))

module _ (N S : RattleType) where
  abbrev pub ended : Ended
  ended = record {
    signature = record { lifetimes = 1; outlives = []; params = slices N ∷ []; result = slices S };
    kept = (no, tt);
  }

  abbrev stayed : Stays ended.signature.params ended.kept
  stayed = (stay_dropped (slices N) no, tt)

module _ {M : Type 1} {𝓤 : Ura M} (𝓛 : Logic 𝓤) {X : Type 0} (w : Width) (ν : Sym) (I W : Row X) (bits : X → ℕ) (ok : X → Type 0) where
  open 𝓛 use {H}

  abbrev N : RattleType
  N = number w I

  abbrev S : RattleType
  S = struct w ν W

  -- what is asked of the numbers, from which each turns into a struct
  module _ (asked : List X → SProp 𝓤) where
    abbrev pub clauses : Clauses 𝓤 (ended N S)
    clauses κs a = record {
      ghost = Unit {0};
      requires = λ _. asked a.0.now;
      ensures = λ _ r e. sep 𝓤 (sem 𝓛 (follows (Array N 0) (Array S 0) a.0.ghost_name r.ghost_name (λ ws. ws)))
          (fact 𝓤 (r.now ≡ a.0.now));
    }

    module _ (asks : (xs : List X) (P Q : SProp 𝓤) → (Each ok xs → ent 𝓤 P Q) → ent 𝓤 (sep 𝓤 P (asked xs)) Q)
        (turns : Turns 𝓛 w ν I W bits ok) (𝓣 : Tables 𝓤 𝓛.H) where
      module _ (κ : Lft) (q : Share) (b o : ℕ) (γ : GName) (xs : List X) where
        abbrev self : MutBor (List X)
        self = record { ref_ptr = (b, o); ghost_name = γ; now = xs }

        abbrev bound : (walk_of 𝓛 (ended N S) (stayed N S) clauses).Ghost
        bound = (((κ, tt), (q, tt), tt, (self, tt), (mut_slice_vals self, tt)), tt)

        abbrev Post : Val → SProp 𝓤
        Post = (walk_of 𝓛 (ended N S) (stayed N S) clauses).post bound

        walks : Room N (length xs) → Each ok xs →
            ent 𝓤 (on_entry 𝓛 (ended N S).signature (κ, tt) (q, tt) (self, tt) (mut_slice_vals self, tt))
            (WpFn 𝓤 H 𝓣.C 𝓣.Λ (lends w ν) (slice_val (b, o) (length xs) ∷ []) Post)
        walks rm fit = walk 𝓛 w ν I W bits ok turns 𝓣 κ q b o γ xs Post rm (λ δ.
            let given : MutBor (List X) = record { ref_ptr = (b, o); ghost_name = δ; now = xs } in
            qed 𝓛 ((‵ ((MutSlice (named 0) κ S).own_val given (slice_val (b, o) (length xs) ∷ [])) ⊛ ‵ (flft κ q)
            ⊛ ‵ (follows (Array N 0) (Array S 0) γ δ (λ ws. ws))) ∷ []) ∵ split3 ! $
            suffices ! _ (ends_at 𝓛 (ended N S) (stayed N S) clauses bound (slice_val (b, o) (length xs)) given (tt, tt) (tt, tt)) $
            nothing ! $ nothing ! $ fjoin ! $ join ! $ nothing ! $ move ! (2 ∷ 0 ∷ []) $ join ! $ join ! $ frame ! $ says ! refl $ done !)
            fit

      abbrev runs : Fun 𝓤
      runs = WpFn 𝓤 H 𝓣.C 𝓣.Λ (lends w ν)

      pub meets : Meets 𝓛 (ended N S).signature runs (closing 𝓛 (ended N S) clauses)
      meets = walk_Meets 𝓛 (ended N S) (stayed N S) (Goes-spent_slice 𝓛 1 (0 ∷ []) tt (plain (λ _. N)), tt) clauses runs
          (WpFn-mono 𝓤 H 𝓛.laws 𝓣 (lends w ν))
          (walked 𝓛 (ended N S) (stayed N S) clauses runs (λ κs. (mut_slice_vals, tt)) (λ κs. (mut_slice_Tells (named 0) κs.0 N, tt))
          (λ κs qs bounds a g are. asks a.0.now _ _ (walks κs.0 qs.0 a.0.ref_ptr.0 a.0.ref_ptr.1 a.0.ghost_name a.0.now are.0.0.1)))
