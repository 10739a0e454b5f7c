-- The supernodes that the counts and the parents of a factor tell are those of its columns.
use Rattle.std.proofs.Common.{ℕ, zero, suc, ◌≡◌, ◌<◌, ◌≤◌, ◌+◌, ◌-◌, inl, inr, refl, sym, ◌∙◌, ap, subst, arith}
use Rattle.std.proofs.Common.{List, [], ◌∷◌, length, map}
use Rattle.std.specs.Prelude.{slice_index, slice_index_or, Option, None, Some, Contains}
use Rattle.std.proofs.lemmas.Bool.{cases_lt}
use Rattle.std.proofs.lemmas.List.{length-map}
use Rattle.amd_model.specs.Factor.{IsFactor}
use Rattle.amd_model.proofs.Counting.Places.{has_contains}
use Rattle.amd_model.proofs.Listings.Words.{has_head}
use Rattle.amd_factor.specs.Columns.{first_of}
use Rattle.amd_factor.specs.Orders.{Order}
use Rattle.amd_factor.specs.Partitions.{AreNumbered, GoOver, HaveParents, HaveRoom, IsCut, IsJoined, Own}
use Rattle.amd_factor.specs.Partitions.{AreSame, last_of, owner_at}
use Rattle.amd_factor.specs.Supernodes.{AreRuns, Joined, TellsOver}
use Rattle.amd_factor.proofs.Partitions.Runs.{first-up, runs-are}

-- a list mapped, at any place
pub at-map : {X Y : Type 0} (f : X → Y) (xs : List X) (k : ℕ) (d : X) (e : Y) → f d ≡ e →
    slice_index_or (map f xs) k e ≡ f (slice_index_or xs k d)
at-map f [] k d e q = sym q
at-map f (x ∷ xs) zero d e q = refl
at-map f (x ∷ xs) (suc k) d e q = at-map f xs k d e q

-- the first entry of a column
pub some-first : (column : List ℕ) (q : ℕ) → first_of column ≡ Some q → (rest : List ℕ) × (column ≡ q ∷ rest)
some-first [] q e = absurd (cc)
some-first (x ∷ xs) q e = (xs, ap (λ v. v ∷ xs) (ap value e))
  where
    value : Option ℕ → ℕ
    value None = x
    value (Some v) = v

module _ (o : Order) (columns : List (List ℕ)) (factor : IsFactor o.graph o.rows columns) where
  -- the first entry of a column lies behind it
  pub first-entry : (k q : ℕ) → first_of (slice_index_or columns k []) ≡ Some q →
      (k < length columns) × (k < q) × (q < length columns) × (0 < length (slice_index_or columns k []))
  first-entry k q e = elim (cases_lt k (length columns)) [
    | inr high ↦ absurd (let none : slice_index_or columns k [] ≡ [] = past columns k high in
        let no : first_of [] ≡ Some q = subst (λ c. first_of c ≡ Some q) none e in cc)
    | inl low ↦ (
        let r = some-first (slice_index_or columns k []) q e in let places = factor.places in
        let column = factor.each k [] (omega (arith, low, places)) in
        let x = (column.members q).0 (subst (λ c. Contains c q) (sym r.1) (has_contains (q ∷ r.0) q (has_head q q r.0 refl))) in
        let a = x.0 in let b = x.1 in let long = ap length r.1 in
        (low, a, omega (arith, b, places), omega (arith, long)))
  ]
    where
      past : (cs : List (List ℕ)) (m : ℕ) → length cs ≤ m → slice_index_or cs m [] ≡ []
      past [] m l = refl
      past (c ∷ cs) zero l = absurd (omega (arith, l))
      past (c ∷ cs) (suc m) l = past cs m (omega (arith, l))

  module _ (sizes : List ℕ) (parent : List (Option ℕ)) (sizes-are : sizes ≡ map length columns)
      (parents : parent ≡ map first_of columns) where
    pub size-at : (k : ℕ) → slice_index sizes k ≡ length (slice_index_or columns k [])
    size-at k = ap (λ xs. slice_index xs k) sizes-are ∙ at-map length columns k [] 0 refl

    pub parent-at : (k : ℕ) → slice_index_or parent k None ≡ first_of (slice_index_or columns k [])
    parent-at k = ap (λ xs. slice_index_or xs k None) parents ∙ at-map first_of columns k [] None refl

    pub sizes-long : length sizes ≡ length columns
    sizes-long = ap length sizes-are ∙ length-map columns length

    pub parents-long : length parent ≡ length columns
    parents-long = ap length parents ∙ length-map columns first_of

    pub have-parents : HaveParents sizes parent
    have-parents = let a = sizes-long in let b = parents-long in record {
      room = omega (arith, a, b);
      each = λ k q l e. (
          let f = first-entry k q (sym (parent-at k) ∙ e) in let s = size-at k in
          let x = f.1 in let y = f.2 in let z = f.3 in (x, omega (arith, y, a), omega (arith, z, s)));
    }

    pub joined-is : (k : ℕ) → IsJoined sizes parent k → Joined columns k
    joined-is k j = (let a = size-at k in let b = size-at (k + 1) in let e = j.count in record {
      parent = sym (parent-at k) ∙ j.over;
      count = omega (arith, a, b, e);
    })

    pub is-joined : (k : ℕ) → Joined columns k → IsJoined sizes parent k
    is-joined k j = (let a = size-at k in let b = size-at (k + 1) in let e = j.count in record {
      over = parent-at k ∙ j.parent;
      count = omega (arith, a, b, e);
    })

    joined-most : (k : ℕ) → IsJoined sizes parent k → k + 1 < length sizes
    joined-most k j = let f = (first-entry k (k + 1) (sym (parent-at k) ∙ j.over)).2 in let a = sizes-long in omega (arith, f, a)

    module _ (owner first : List ℕ) (count : ℕ) (h : AreNumbered (IsJoined sizes parent) (length sizes) owner count)
        (same : AreRuns (AreSame owner) (length owner) first) (own : Own first owner) where
      pub first-at : (s : ℕ) → s + 1 < length first → (0 < slice_index first (s + 1)) × (slice_index first (s + 1) ≤ length sizes)
      first-at s l =
          let r = same.rises s l in
          let u = first-up first same.rises (s + 1) (length first - 1) (omega (arith, l)) (omega (arith, l)) in
          let e = same.end in let n = h.room in (omega (arith, r), omega (arith, u, e, n))

      runs-columns : AreRuns (Joined columns) (length columns) first
      runs-columns =
          let r = runs-are (IsJoined sizes parent) (length sizes) owner count h joined-most first own same.some same.begin
          (same.end ∙ h.room) same.rises in record {
            some = r.some;
            begin = r.begin;
            end = r.end ∙ sizes-long;
            rises = r.rises;
            runs = λ s k l lo hi. joined-is k (r.runs s k l lo hi);
            longest = λ s k l e j. r.longest s k l e (is-joined k j);
          }

      tells : (column : List ℕ) → ((q : ℕ) → first_of column ≡ Some q → q < length owner) →
          TellsOver first column (owner_at owner (first_of column))
      tells [] low = refl
      tells (q ∷ rest) low = let l = low q refl in (omega arith, own.inside q l, own.low q l, own.high q l)

      pub is-cut : (ptr : List ℕ) (over : List (Option ℕ)) → HaveRoom sizes first ptr → GoOver parent first owner over →
          IsCut (record { order = o; first = first; owner = owner; ptr = ptr; parent = over })
      is-cut ptr over room goes = record {
        columns = columns;
        partition = record {
          factor = factor;
          runs = runs-columns;
          places = h.room ∙ sizes-long;
          own = own;
          pointers = room.pointers;
          start = room.start;
          ends = λ s l. room.ends s l ∙ ap (λ m. slice_index ptr s + m) (size-at (last_of first s));
          parents = goes.room;
          over = λ s l. subst (TellsOver first (slice_index_or columns (last_of first s) []))
              (sym (goes.each s l ∙ ap (owner_at owner) (parent-at (last_of first s))))
              (tells (slice_index_or columns (last_of first s) []) (λ q e. let f = (first-entry (last_of first s) q e).2 in
              let n = h.room in let m = sizes-long in omega (arith, f, n, m)));
        };
      }
