use Rattle.std.proofs.Common.{ℕ, List, ◌≡◌, ◌+◌, [], ◌∷◌, ◌++◌, ◌∙◌, ap, append_assoc, arith, length, refl, replicate, sym, length-append}
use Rattle.std.proofs.lemmas.List.{append-nil, length-replicate, replicate_more}
use Rattle.amd_factor.proofs.fill.with_zeros.Goals as goal

-- one more zero stands behind those there are
one_more : {A : Type 0} (new now first : List A) (n : ℕ) (zero : A) → now ≡ first ++ replicate n zero → new ≡ now ++ zero ∷ [] →
    new ≡ first ++ replicate (n + 1) zero
one_more new now first n zero here more = more ∙ ap (λ xs. xs ++ zero ∷ []) here ∙ append_assoc first (replicate n zero) (zero ∷ [])
    ∙ ap (λ xs. first ++ xs) (replicate_more n zero)

-- as many zeros are there as were asked for
as_many : {A : Type 0} (now first : List A) (n m : ℕ) (zero : A) → n ≡ m → now ≡ first ++ replicate n zero → now ≡ first ++ replicate m zero
as_many now first n m zero e here = here ∙ ap (λ k. first ++ replicate k zero) e

pub zeros-init : goal.zeros-init
zeros-init g c = record { zeros = sym (append-nil c.args.rows.items); capacity = refl }

pub push_reserved-requires : goal.push_reserved-requires
push_reserved-requires g c =
    let i = c.zeros.invariant in let long = length-replicate c.zeros.counter c.zero-zero.result in
    let sum = length-append c.args.rows.items (replicate c.zeros.counter c.zero-zero.result) in let all = ap length i.zeros in
    let same = i.capacity in let wide = c.requires.room in let len = c.zeros.rows.ok.0 in let low = c.zeros-test.true in
    omega (arith, long, sum, all, same, wide, len, low)

pub zeros-smaller : goal.zeros-smaller
zeros-smaller g c = let low = c.zeros-test.true in omega (arith, low)

pub zeros-preserved : goal.zeros-preserved
zeros-preserved g c =
    let i = c.zeros.invariant in let e = c.push_reserved.ensures in record {
      zeros = one_more c.push_reserved.new.self.items c.zeros.rows.items c.args.rows.items c.zeros.counter c.zero-zero.result
          i.zeros e.items;
      capacity = e.capacity ∙ i.capacity;
    }

pub returns-clause-zeros : goal.returns-clause-zeros
returns-clause-zeros g c =
    let zero = c.zero-zero.result in
    let end : c.zeros.counter ≡ c.args.size = (let a = c.zeros-test.false in let b = c.zeros.auto.counter-end in omega (arith, a, b)) in
    (zero, c.zero-zero.ensures, as_many c.zeros.rows.items c.args.rows.items _ _ zero end c.zeros.invariant.zeros)

pub returns-clause-capacity : goal.returns-clause-capacity
returns-clause-capacity g c = c.zeros.invariant.capacity
