-- Room for a new element: the lists stay, or they are packed.
use Rattle.std.proofs.Common.{ℕ, ℤ, Bool, true, List, [], ◌∷◌, ◌++◌, ◌≡◌, ◌<◌, ◌≤◌, ◌+◌, ◌-◌, inl, inr, refl, sym, ap}
use Rattle.std.proofs.Common.{◌∙◌, arith, length, flat_map, sum_by}
use Rattle.std.specs.Prelude.{◌==◌}
use Rattle.std.proofs.lemmas.Bool.{or_cases}
use Rattle.std.proofs.lemmas.List.Sums.{sum_by-cons}
use Rattle.amd_model.specs.Below.{count_below}
use Rattle.amd_model.specs.Quotient.{Once, has}
use Rattle.amd_model.proofs.Counting.Below.{count_most}
use Rattle.amd_model.proofs.Quotient.Sums.{sum_over}
use Rattle.amd_model.proofs.Quotient.Lists.{has_append, flat_gives}
use Rattle.amd_round_laws.specs.Rounds.{firsts}
use Rattle.amd_round_laws.proofs.Lists.Named.{flat_same}
use Rattle.amd_words.specs.Words.{num, place, word, start, classes}
use Rattle.amd_elements.specs.Element.{front_of, elements_at, variables_at, ListsLaid}
use Rattle.amd_lists.specs.Layout.{has_list, elements_in, Layout, list_in}
use Rattle.amd_elements.proofs.Moves.{Packs}
use Rattle.amd_elements.specs.Pivots.{built_front}
use Rattle.amd_elements.specs.Room.{Rooms, named_around}
use Rattle.amd_lists.specs.Workspaces.{Workspace}
use Rattle.amd_lists.proofs.Frames.{reads_list, reads_elements, reads_variables}
use Rattle.amd_elements.proofs.Settling.{names_below}
use Rattle.amd_elements.proofs.Touching.{front_once}
use Rattle.amd_elements.proofs.ListsAround.{own_variables}
use Rattle.amd_elements.proofs.Meeting.{front_named}

-- the lists stay where others are linked
pub rooms_stay : {n : ℕ} {p : Workspace} {head next last : List ℕ} {least : ℕ} → Layout n p.iw p.pe p.e_len p.len p.free →
    Rooms n p (record p { head = head; next = next; last = last; least = least })
rooms_stay y = record {
  long = refl;
  p_long = refl;
  listed = λ j. refl;
  reads = λ j h. (refl, refl, λ k l. refl);
  others = λ j h. refl;
  laid = y;
  lower = omega arith;
}

pub rooms_packed : {n : ℕ} {p v : Workspace} → Packs n p v → Rooms n p v
rooms_packed h = record {
  long = h.long;
  p_long = h.p_long;
  listed = h.listed;
  reads = h.reads;
  others = h.others;
  laid = h.laid;
  lower = h.lower;
}

ones : (xs : List ℕ) → sum_by (λ j. 1) xs ≡ length xs
ones [] = refl
ones (x ∷ xs) = let a = sum_by-cons (λ j. 1) x xs in let b = ones xs in omega (arith, a, b)

-- rows below n that are listed once each are at most n
pub once_few : (n : ℕ) (xs : List ℕ) → Once xs → ((j : ℕ) → has xs j ≡ true → j < n) → length xs ≤ n
unfolding count_below
once_few n xs once small = let a = sum_over n (λ j. 1) xs once small in let b = ones xs in let c = count_most n (has xs) in
    omega (arith, a, b, c)

-- the list of a new element names no more than all rows
pub front_few : (n : ℕ) (iw nv pe : List ℤ) (len : List ℕ) (free me m : ℕ) → m ≤ num len me → ListsLaid iw pe len n free me m →
    length (front_of iw nv pe len me m) ≤ n
front_few n iw nv pe len free me m within laid = once_few n (front_of iw nv pe len me m) (front_once iw nv pe len me m)
    (λ j h. small j (front_named iw nv pe len me m j h))
  where
    small : (j : ℕ) → has (named_around iw pe len me m) j ≡ true → j < n
    small j h = elim (or_cases (has (flat_map (list_in iw pe len) (elements_at iw pe me m)) j) (has (variables_at iw pe len me m) j)
        (sym (has_append (flat_map (list_in iw pe len) (elements_at iw pe me m)) (variables_at iw pe len me m) j) ∙ h)) [
          | inl a ↦ (let e = flat_gives (list_in iw pe len) (elements_at iw pe me m) j a in
              names_below n iw (start pe e.0) (num len e.0) j (laid.1 e.0 e.1).2 e.2)
          | inr b ↦ names_below n iw (start pe me + m) (num len me - m) j (own_variables iw pe len n free me m within laid).1 b
        ]

-- the list of the new element is the same after a move
module _ {n : ℕ} {p v : Workspace} (y : Layout n p.iw p.pe p.e_len p.len p.free) (h : Rooms n p v) (me : ℕ)
    (listed : has_list p.pe p.len me ≡ true)
    (elements : (e : ℕ) → has (elements_in p.iw p.pe p.e_len me) e ≡ true → has_list p.pe p.len e ≡ true) where
  pub rooms_elements : elements_in v.iw v.pe p.e_len me ≡ elements_in p.iw p.pe p.e_len me
  rooms_elements = reads_elements p.iw p.pe p.e_len p.len v.iw v.pe p.e_len p.len me (h.reads me listed) (y.parts me listed)

  pub rooms_known : (e : ℕ) → has (elements_in v.iw v.pe p.e_len me) e ≡ true → has_list v.pe p.len e ≡ true
  rooms_known e k = h.listed e ∙ elements e (sym (ap (λ xs. has xs e) rooms_elements) ∙ k)

  pub rooms_front : front_of v.iw p.nv v.pe p.len me (place (word p.e_len me)) ≡ built_front p me
  rooms_front = let m : ℕ = place (word p.e_len me) in let skip : (ℕ → Bool) = λ x. x == me in
      ap (λ es. firsts skip (flat_map (λ e. classes p.nv (list_in v.iw v.pe p.len e)) es
      ++ classes p.nv (variables_at v.iw v.pe p.len me m)))
      rooms_elements
      ∙ ap (λ xs. firsts skip (xs ++ classes p.nv (variables_at v.iw v.pe p.len me m)))
      (flat_same (λ e. classes p.nv (list_in v.iw v.pe p.len e)) (λ e. classes p.nv (list_in p.iw p.pe p.len e))
      (elements_in p.iw p.pe p.e_len me)
      (λ e k. ap (classes p.nv) (reads_list p.iw p.pe p.e_len p.len v.iw v.pe p.e_len p.len e (h.reads e (elements e k)))))
      ∙ ap (λ xs. firsts skip (flat_map (λ e. classes p.nv (list_in p.iw p.pe p.len e)) (elements_in p.iw p.pe p.e_len me)
      ++ classes p.nv xs))
      (reads_variables p.iw p.pe p.e_len p.len v.iw v.pe p.e_len p.len me (h.reads me listed) (y.parts me listed))
