-- Counts of sets that share no number: the count of their union is the sum.
use Rattle.std.proofs.Common.{ℕ, zero, suc, Bool, true, false, ◌≡◌, ◌≢◌, ◌<◌, ◌≤◌, ◌+◌, ◌&&◌, ◌||◌, ◌==◌, not, cond, refl, ap, arith}
use Rattle.std.proofs.lemmas.Bool.{and_parts, and_from, ne_eqb, not_from_false}
use Rattle.amd_model.specs.Below.{any_below, sum_below, count_below}
use Rattle.amd_model.proofs.Counting.Below.{any_gives, sum_plus, sum_mono, count_pos}
use Rattle.amd_model.proofs.Counting.Points.{count_drop}

le_or : (a b : Bool) → (a ≡ true → b ≡ true → ⊥) → cond a 1 0 + cond b 1 0 ≤ cond (a || b) 1 0
le_or true true apart = absurd (apart refl refl)
le_or true false apart = omega arith
le_or false true apart = omega arith
le_or false false apart = omega arith

-- the union of two sets
pub count_apart : (n : ℕ) (p q : ℕ → Bool) → ((k : ℕ) → k < n → p k ≡ true → q k ≡ true → ⊥) →
    count_below n p + count_below n q ≤ count_below n (λ k. p k || q k)
unfolding count_below
count_apart n p q apart = rw (← sum_plus n (λ k. cond (p k) 1 0) (λ k. cond (q k) 1 0))
    (sum_mono n (λ k. cond (p k) 1 0 + cond (q k) 1 0) (λ k. cond (p k || q k) 1 0) (λ k l. le_or (p k) (q k) (apart k l)))

when : (n : ℕ) (b : Bool) (q : ℕ → Bool) → cond b (count_below n q) 0 ≤ count_below n (λ v. b && q v)
when n true q = omega arith
when n false q = omega arith

-- the union of the sets of the numbers that pass
pub count_all_apart : (m n : ℕ) (h : ℕ → Bool) (q : ℕ → ℕ → Bool) →
    ((e f v : ℕ) → e < f → h e ≡ true → h f ≡ true → q e v ≡ true → q f v ≡ true → ⊥) →
    sum_below m (λ e. cond (h e) (count_below n (q e)) 0) ≤ count_below n (λ v. any_below m (λ e. h e && q e v))
unfolding sum_below any_below
count_all_apart zero n h q apart = omega arith
count_all_apart (suc m) n h q apart =
    let here : cond (h m) (count_below n (q m)) 0 ≤ count_below n (λ v. h m && q m v) = when n (h m) (q m) in
    let there : sum_below m (λ e. cond (h e) (count_below n (q e)) 0) ≤ count_below n (λ v. any_below m (λ e. h e && q e v)) =
    count_all_apart m n h q apart in
    let both : count_below n (λ v. h m && q m v) + count_below n (λ v. any_below m (λ e. h e && q e v)) ≤ count_below n
    (λ v. (h m && q m v) || any_below m (λ e. h e && q e v))
    = count_apart n (λ v. h m && q m v) (λ v. any_below m (λ e. h e && q e v)) (λ v l a b.
    let a' = and_parts (h m) (q m v) a in
    let r = any_gives m (λ e. h e && q e v) b in
    let b' = and_parts (h r.0) (q r.0 v) r.2 in
    apart r.0 m v r.1 b'.0 a'.0 b'.1 a'.1) in
    omega arith

-- a set without one of its members
pub count_without : (n : ℕ) (p : ℕ → Bool) (a : ℕ) → a < n → p a ≡ true → count_below n (λ k. p k && not (k == a)) + 1 ≤ count_below n p
count_without n p a l e = let drop = count_drop n p a l in let one : cond {A = ℕ} (p a) 1 0 ≡ 1 = ap (λ b. cond b 1 0) e in
    omega (arith, drop, one)

-- a set with three different members
pub count_three : (n : ℕ) (p : ℕ → Bool) (a b c : ℕ) → a < n → b < n → c < n → p a ≡ true → p b ≡ true → p c ≡ true → b ≢ a → c ≢ a →
    c ≢ b → 3 ≤ count_below n p
count_three n p a b c la lb lc pa pb pc ba ca cb =
    let p' : ℕ → Bool = λ k. p k && not (k == a) in
    let first : count_below n p' + 1 ≤ count_below n p = count_without n p a la pa in
    let pb' : p' b ≡ true = and_from (p b) (not (b == a)) pb (not_from_false (b == a) (ne_eqb b a ba)) in
    let pc' : p' c ≡ true = and_from (p c) (not (c == a)) pc (not_from_false (c == a) (ne_eqb c a ca)) in
    let second : count_below n (λ k. p' k && not (k == b)) + 1 ≤ count_below n p' = count_without n p' b lb pb' in
    let third : 0 < count_below n (λ k. p' k && not (k == b)) = count_pos n (λ k. p' k && not (k == b)) c lc
    (and_from (p' c) (not (c == b)) pc' (not_from_false (c == b) (ne_eqb c b cb))) in
    omega (arith, first, second, third)
