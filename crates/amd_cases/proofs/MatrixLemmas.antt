-- Bytes that were read one part after another hold the numbers of all parts.
use Rattle.std.proofs.Common.{◌≡◌, ◌≤◌, ℕ, ℤ, pos, Option, Some, None, List, [], ◌∷◌, ◌++◌, length, map, drop, sym, ap, ◌∙◌, subst}
use Rattle.std.proofs.Common.{append_assoc, append-nil, length-append, arith, ◌<◌, ◌^◌, negsuc, nat_abs, int_lt, FitsSigned, w64, false}
use Rattle.std.specs.Prelude.{IfSome}
use Rattle.std.specs.Io.KnownBytes.{Consumes, IsAtEnd}
use Rattle.std.proofs.lemmas.List.{map-append, length-map, take_all, drop_all, take-append-le, drop-append-le}
use Rattle.amd_cases.specs.Matrices.{HoldsNumbers, ReadsNumbers, EndsWith, HoldsMatrix, wide_of, narrow_of}

pub consumes-append : (a b c : Option (List ℕ)) (xs ys : List ℕ) → Consumes a b xs → Consumes b c ys → Consumes a c (xs ++ ys)
consumes-append None b c xs ys h k = tt
consumes-append (Some us) None c xs ys h k = elim h [ ]
consumes-append (Some us) (Some vs) None xs ys h k = elim k [ ]
consumes-append (Some us) (Some vs) (Some ws) xs ys h k = h ∙ ap (λ t. xs ++ t) k ∙ sym (append_assoc xs ys ws)

holds-append : (size : ℕ) (number : List ℕ → ℤ) (ys zs : List ℤ) (bs cs : List ℕ) → HoldsNumbers size number ys bs →
    HoldsNumbers size number zs cs → HoldsNumbers size number (ys ++ zs) (bs ++ cs)
holds-append size number [] zs bs cs h k = rw h k
holds-append size number (y ∷ ys) zs bs cs h k =
    let fits : size ≤ length bs = h.0 in (
      rw length-append (omega (arith, fits)),
      h.1 ∙ ap number (sym (take-append-le size bs cs fits)),
      subst (HoldsNumbers size number (ys ++ zs)) (sym (drop-append-le size bs cs fits))
          (holds-append size number ys zs (drop size bs) cs h.2 k),
    )

-- the bytes of one number
pub reads-one : (size : ℕ) (number : List ℕ → ℤ) (a b : Option (List ℕ)) (bytes : List ℕ) (z : ℤ) → length bytes ≡ size → z ≡ number bytes →
    Consumes a b bytes → ReadsNumbers size number a b (z ∷ [])
reads-one size number a b bytes z len is consumed = record {
  bytes = bytes;
  consumed = consumed;
  held = (omega (arith, len), is ∙ ap number (sym (take_all size bytes (omega (arith, len)))), drop_all size bytes (omega (arith, len)));
}

-- two readings in turn are one
pub reads-append : (size : ℕ) (number : List ℕ → ℤ) (a b c : Option (List ℕ)) (ys zs : List ℤ) → ReadsNumbers size number a b ys →
    ReadsNumbers size number b c zs → ReadsNumbers size number a c (ys ++ zs)
reads-append size number a b c ys zs h k = record {
  bytes = h.bytes ++ k.bytes;
  consumed = consumes-append a b c h.bytes k.bytes h.consumed k.consumed;
  held = holds-append size number ys zs h.bytes k.bytes h.held k.held;
}

-- one number more in a list of a caller's numbers
pub reads-more : {I : Type 0} (value : I → ℤ) (size : ℕ) (number : List ℕ → ℤ) (a b c : Option (List ℕ)) (xs ys : List I) (x : I) (z : ℤ) →
    ReadsNumbers size number a b (map value xs)
    → ReadsNumbers size number b c (z ∷ []) → value x ≡ z → ys ≡ xs ++ x ∷ [] → ReadsNumbers size number a c (map value ys)
reads-more value size number a b c xs ys x z h k is more =
    subst (ReadsNumbers size number a c) (ap (λ t. map value xs ++ t ∷ []) (sym is) ∙ sym (map-append value xs (x ∷ [])) ∙
    ap (map value) (sym more)) (reads-append size number a b c (map value xs) (z ∷ []) h k)

-- a number that is no less than 0 is its absolute value, and that fits too
pub not-negative : (y z : ℤ) → int_lt y (pos 0) ≡ false → y ≡ z → FitsSigned w64 z → (z ≡ pos (nat_abs y)) × (nat_abs y < 2 ^ 63)
not-negative (pos k) z h e f = (sym e, (subst (FitsSigned w64) (sym e) f).sfits)
not-negative (negsuc k) z h e f = cc

-- two numbers that are no less than 0
pub reads-two : (size : ℕ) (number : List ℕ → ℤ) (a b c : Option (List ℕ)) (y z : ℤ) (m n : ℕ) → ReadsNumbers size number a b (y ∷ []) →
    ReadsNumbers size number b c (z ∷ []) → y ≡ pos m → z ≡ pos n → ReadsNumbers size number a c (pos m ∷ pos n ∷ [])
reads-two size number a b c y z m n first second is_m is_n =
    subst (λ t. ReadsNumbers size number a c (t ∷ pos n ∷ [])) is_m
    (subst (λ t. ReadsNumbers size number a c (y ∷ t ∷ [])) is_n (reads-append size number a b c (y ∷ []) (z ∷ []) first second))

-- all bytes of a file hold a matrix
pub holds-all : (o b c d : Option (List ℕ)) (n z : ℤ) (columns entries : ℕ) (ap' ai : List ℤ) → n ≡ pos columns → z ≡ pos entries →
    length ai ≡ entries → ReadsNumbers 8 wide_of o b (pos columns ∷ pos entries ∷ [])
    → ReadsNumbers 8 wide_of b c ap' → EndsWith ap' columns z → ReadsNumbers 4 narrow_of c d ai → IsAtEnd d → IfSome o (HoldsMatrix n
    ap' ai)
holds-all o b c d n z columns entries ap' ai is_n is_z len first second ends third end =
    let wide = reads-append 8 wide_of o b c (pos columns ∷ pos entries ∷ []) ap' first second in
    known o d (wide.bytes ++ third.bytes) (consumes-append o c d wide.bytes third.bytes wide.consumed third.consumed) end
    (λ bytes is. record {
      wide = wide.bytes;
      narrow = third.bytes;
      parts = is;
      columns = columns;
      counted = is_n;
      pointers = subst (EndsWith ap' columns) (is_z ∙ ap pos (sym len)) ends;
      wide_numbers = subst (λ x. HoldsNumbers 8 wide_of (x ∷ (pos (length ai) ∷ ap')) wide.bytes) (sym is_n)
          (subst (λ k. HoldsNumbers 8 wide_of (pos columns ∷ (pos k ∷ ap')) wide.bytes) (sym len) wide.held);
      narrow_numbers = third.held;
    })
  where
    known : (o d : Option (List ℕ)) (bytes : List ℕ) → Consumes o d bytes → IsAtEnd d →
        ((all : List ℕ) → all ≡ bytes → HoldsMatrix n ap' ai all) → IfSome o (HoldsMatrix n ap' ai)
    known None d bytes h e f = tt
    known (Some all) None bytes h e f = elim h [ ]
    known (Some all) (Some left) bytes h e f = f all (h ∙ ap (λ t. bytes ++ t) e ∙ append-nil bytes)

-- the last of a list of a caller's numbers
pub ends-more : {I : Type 0} (value : I → ℤ) (xs ys : List I) (x : I) (n : ℕ) (z e : ℤ) → length xs ≡ n → value x ≡ z → z ≡ e →
    ys ≡ xs ++ x ∷ [] → EndsWith (map value ys) n e
ends-more value xs ys x n z e len is same more = (
  map value xs,
  ap (map value) more ∙ map-append value xs (x ∷ []) ∙ ap (λ t. map value xs ++ t ∷ []) (is ∙ same),
  length-map xs value ∙
      len,
)
