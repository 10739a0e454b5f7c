-- What an elimination of lists that are laid leaves in a caller's arrays: the lists that the engine answered, copied there. The engine may
-- have eliminated a copy of the caller's lists.
use Rattle.std.proofs.Common.{ℕ, ℤ, List, None, ◌≡◌, ◌≤◌, ◌∙◌, ap, length, refl, sym, subst, take}
use Rattle.amd_model.specs.Graph.{Graph}
use Rattle.amd_types.specs.Records.{fresh_info}
use Rattle.amd_types.specs.declared.amd.Control.{Control}
use Rattle.amd_types.specs.declared.amd.Info.{Info}
use Rattle.amd_workspace.specs.Laying.{IsLaidOut}
use Rattle.amd_engine.specs.InPlace.{AnswersInPlace, LaysGraph, Listing}
use Rattle.amd_engine.proofs.RaisedLists.{answers_same}
use Rattle.amd_calls.specs.declared.records.Parameters.{Parameters}
use Rattle.amd_c_calls.specs.Laid.{Eliminated, HoldsElimination}
use Rattle.amd_calls.specs.Numbers.{statistics_of}
use Rattle.amd_c_calls.proofs.SameLists.{lays_copied}

-- an answer to a copy is one to the caller's lists
pub answers_copied : (n : ℕ) (iw iw' pe pe' : List ℤ) (len len' : List ℕ) (free : ℕ) → IsLaidOut n iw pe len free →
    take free iw' ≡ take free iw → pe' ≡ pe → len' ≡ len → (control : Control) (rows : Listing) (old info : Info) →
    ((g : Graph) (lists : ℕ → List ℕ) → LaysGraph g lists iw' pe' len' →
    AnswersInPlace g lists None (length len') control rows old info) →
    (g : Graph) (lists : ℕ → List ℕ) → LaysGraph g lists iw pe len → AnswersInPlace g lists None (length len) control rows old info
answers_copied n iw iw' pe pe' len len' free laid words starts counts control rows old info orders g lists lays =
    subst (λ k. AnswersInPlace g lists None k control rows old info) (ap length counts)
    (orders g lists (lays_copied n iw iw' pe pe' len len' free laid words starts counts g lists lays))

module _ (choice : Parameters) (iw pe : List ℤ) (len : List ℕ) (control : Control) (rows : Listing) (old info : Info)
    (orders : (g : Graph) (lists : ℕ → List ℕ) → LaysGraph g lists iw pe len →
    AnswersInPlace g lists None (length len) control rows old info) where
  -- each list has a number for each row
  pub answers_long : (g : Graph) (lists : ℕ → List ℕ) → LaysGraph g lists iw pe len →
      (length rows.nv ≡ length len) × (length rows.p ≡ length len) × (length rows.q ≡ length len) × (length rows.e_len ≡ length len)
  answers_long g lists lays =
      let told = orders g lists lays in let size = sym lays.neighbours.size in
      (told.elements.long.0 ∙ size, told.answer.inverse.p_length, told.answer.inverse.q_length, told.elements.long.1 ∙ size)

  pub holds_copies : info.n_cmp_a ≤ length len → control.dense ≡ choice.dense → control.aggressive ≡ choice.aggressive →
      old ≡ fresh_info (length len) → (links : List ℤ) (m : Eliminated) → m.nv ≡ rows.nv → m.p ≡ rows.p → m.q ≡ rows.q →
      m.e_len ≡ rows.e_len → links ≡ rows.pe → m.statistics ≡ statistics_of info → HoldsElimination choice iw pe len links m
  holds_copies few dense aggressive fresh links m nv_is p_is q_is e_len_is links_are told = record {
    info = info;
    answers = λ g lists lays. rw (sym dense, sym aggressive, sym fresh)
        (answers_same g lists None _ _ control rows _ old info (orders g lists lays) refl p_is q_is nv_is e_len_is links_are);
    compactions = few;
    told = told;
  }
