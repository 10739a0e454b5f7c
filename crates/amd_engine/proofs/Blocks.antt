-- What rounds left can be listed, so the block of no element has more rows than there are.
use Rattle.std.proofs.Common.{ℕ, ℤ, pos, negsuc, zero, suc, List, [], ◌∷◌, ◌++◌, ◌≡◌, ◌<◌, ◌≤◌, ◌∙◌, inl, inr, ap, sym, cond, arith}
use Rattle.std.proofs.Common.{length, get_or, unsigned_abs}
use Rattle.std.specs.Prelude.{nat_lt}
use Rattle.std.proofs.lemmas.Bool.{cases_Bool, cases_lt}
use Rattle.std.proofs.lemmas.List.{get_or_append_left, get_or_push, length-append}
use Rattle.amd_model.proofs.Counting.Below.{count_most}
use Rattle.amd_model.specs.Run.{last_state}
use Rattle.amd_model.specs.State.{is_element, in_block}
use Rattle.amd_words.specs.Words.{num, word, is_place}
use Rattle.amd_rounds.specs.Views.{flipped}
use Rattle.amd_workspace.specs.Ending.{block_in, named_word}
use Rattle.amd_workspace.specs.declared.rows.RowLists.{RowLists}
use Rattle.amd_engine.specs.InPlace.{AreOver}

-- a list of the numbers of so many rows
numbers_of : (ℕ → ℤ) → ℕ → List ℤ
numbers_of f zero = []
numbers_of f (suc k) = numbers_of f k ++ f k ∷ []

numbers_long : (f : ℕ → ℤ) (n : ℕ) → length (numbers_of f n) ≡ n
unfolding numbers_of
numbers_long f zero = omega arith
numbers_long f (suc k) = let rest = numbers_long f k in let more = length-append (numbers_of f k) (f k ∷ []) in omega (arith, rest, more)

numbers_at : (f : ℕ → ℤ) (n i : ℕ) → i < n → get_or (numbers_of f n) i (pos 0) ≡ f i
unfolding numbers_of
numbers_at f zero i l = absurd (omega (arith, l))
numbers_at f (suc k) i l = let long = numbers_long f k in elim (cases_lt i k) [
  | inl a ↦ get_or_append_left (numbers_of f k) (f k ∷ []) (pos 0) i (omega (arith, a, long)) ∙ numbers_at f k i a
  | inr a ↦ (let e : k ≡ i = omega (arith, a, l) in get_or_push (numbers_of f k) (f k) (pos 0) i (long ∙ e) ∙ ap f e)
]

module _ {S P U : Type 0} {n : ℕ} {rows : RowLists S P U} (over : AreOver n rows) where
  abbrev pe : List ℤ
  pe = rows.pe.now

  abbrev e_len : List ℤ
  e_len = rows.e_len.now

  abbrev degree : List ℕ
  degree = rows.degree.now

  link_at : ℕ → ℤ
  link_at i = cond (is_place (word e_len i)) (negsuc 0) (named_word (word pe i))

  front_at : ℕ → ℤ
  front_at i = cond (nat_lt (num degree i) (flipped (word e_len i))) (pos (flipped (word e_len i))) (negsuc 0)

  block_at : ℕ → ℤ
  block_at i = pos (block_in e_len degree i)

  pub block_few : (i : ℕ) → i < n → block_in rows.e_len.now rows.degree.now i ≤ n
  unfolding link_at front_at block_at
  block_few i l =
      let ended = over.ends (numbers_of link_at n) (numbers_of front_at n) (numbers_of block_at n) (λ k m. record {
        links = numbers_at link_at n k m;
        fronts = numbers_at front_at n k m;
        blocks = numbers_at block_at n k m;
      }) (numbers_long link_at n) (numbers_long front_at n) (numbers_long block_at n) in
      let size = sym ended.ended.fronts_long ∙ numbers_long front_at n in let here = sym (numbers_at block_at n i l) in
      let last = last_state ended.first ended.states in
      elim (cases_Bool (is_element last i)) [
        | inl y ↦ (let is = ap unsigned_abs (here ∙ ended.ended.blocks i y) in
            let most = count_most ended.graph.size (in_block last i) in omega (arith, is, most, size))
        | inr out ↦ (let none = ap unsigned_abs (here ∙ ended.ended.no_element i out) in omega (arith, none))
      ]
