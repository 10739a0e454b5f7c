-- An element begins: what was made of it, and what its pivot leaves.
use Rattle.std.proofs.Common.{ℕ, ℤ, true, false, List, ◌≡◌, ◌<◌, ◌≤◌, ◌-◌, ◌&&◌, ◌||◌, not, cond, inl, inr, refl, sym, ap}
use Rattle.std.proofs.Common.{subst, ◌∙◌, arith, length, pos, set, get_or-set_same, get_or-set_other}
use Rattle.std.specs.Prelude.{◌==◌}
use Rattle.std.proofs.lemmas.Bool.{cases_eq, eq-eqb, cond-true, cond-false, ne_eqb}
use Rattle.std.proofs.Math.Bool.{and-true, and-false}
use Rattle.amd_model.specs.Quotient.{has}
use Rattle.amd_words.specs.Words.{num, is_place, word, start, rows, rows_in, is_negative, size_of, in_front, Names}
use Rattle.amd_elements.specs.Element.{Builds}
use Rattle.amd_lists.specs.Layout.{has_list, end_of, Layout}
use Rattle.amd_elements.proofs.Made.{Makes}
use Rattle.amd_elements.specs.Room.{Rooms}
use Rattle.amd_elements.specs.Beginning.{Begins}
use Rattle.amd_elements.specs.Effects.{TakesPivot}
use Rattle.amd_lists.specs.Workspaces.{Workspace}
use Rattle.amd_words.proofs.RowLists.{rows_length}
use Rattle.amd_lists.proofs.Frames.{has_parts, has_from, live_part}

-- the word of a row that has no rows any more
module _ (nv : List ℤ) (me : ℕ) (small : me < length nv) where
  pub emptied_size : (j : ℕ) → size_of (set nv me (pos 0)) j ≡ cond (j == me) 0 (size_of nv j)
  unfolding rows_in
  emptied_size j = elim (cases_eq j me) [
    | inl q ↦ rw q (ap rows_in (get_or-set_same nv me (pos 0) (pos 0) small)
        ∙ sym (cond-true (me == me) 0 (size_of nv me) (eq-eqb me me refl)))
    | inr ne ↦ ap rows_in (get_or-set_other nv me j (pos 0) (pos 0) ne) ∙ sym (cond-false (j == me) 0 (size_of nv j) (ne_eqb j me ne))
  ]

  pub emptied_front : (j : ℕ) → in_front (set nv me (pos 0)) j ≡ (in_front nv j && not (j == me))
  unfolding is_negative
  emptied_front j = elim (cases_eq j me) [
    | inl q ↦ rw q (ap is_negative (get_or-set_same nv me (pos 0) (pos 0) small)
        ∙ sym (ap (λ b. in_front nv me && not b) (eq-eqb me me refl) ∙ and-false (in_front nv me)))
    | inr ne ↦ ap is_negative (get_or-set_other nv me j (pos 0) (pos 0) ne)
        ∙ sym (ap (λ b. in_front nv j && not b) (ne_eqb j me ne) ∙ and-true (in_front nv j))
  ]

-- the pivot leaves the front
pub left_front : (j me : ℕ) (front : List ℕ) → has front me ≡ false → ((j == me || has front j) && not (j == me)) ≡ has front j
left_front j me front apart = elim (cases_eq j me) [
  | inl q ↦ ap (λ b. (j == me || has front j) && not b) (eq-eqb j me q) ∙ and-false (j == me || has front j)
      ∙ sym (ap (has front) q ∙ apart)
  | inr ne ↦ ap (λ b. (b || has front j) && not b) (ne_eqb j me ne) ∙ and-true (has front j)
]

-- so it begins an element
module _ {n me : ℕ} {absorbed front : List ℕ} {total from end : ℕ} {p v : Workspace} (wide : length p.nv ≡ n)
    (b : Builds me front p.iw p.nv from v.iw v.nv end total) (m : Makes n me absorbed front total p v) (at : start v.pe me ≡ from) where
  -- how many words the new list has
  count_is : num v.len me ≡ end - from
  count_is = let a = rows_length v.iw (start v.pe me) (num v.len me) in let c = ap length m.list in
      let d = rows_length v.iw from (end - from) in let e = ap length b.list in omega (arith, a, c, d, e)

  pub begins : {nv' : List ℤ} → has front me ≡ false → TakesPivot me v.nv nv' → end_of v.pe v.len me ≤ v.free →
      Begins n me absorbed front total p (record v { nv = nv' })
  begins apart takes inside = record {
    long = b.long;
    wide = takes.long ∙ b.wide;
    p_long = m.p_long;
    e_long = m.e_long;
    l_long = m.l_long;
    starts = m.starts;
    list = m.list;
    names = subst (λ s. Names n v.iw s (num v.len me)) (sym at) (subst (Names n v.iw from) (sym count_is)
        (subst (λ k. Names k v.iw from (end - from)) wide b.names));
    inside = inside;
    rows_is = m.rows_is;
    sizes = λ j. takes.sizes j ∙ ap (cond (j == me) 0) (b.sizes j);
    marks = λ j. takes.front j ∙ ap (λ x. x && not (j == me)) (b.front_is j) ∙ left_front j me front apart;
    parents = m.parents;
    ended = m.ended;
    counts = m.counts;
    lengths = m.lengths;
    listed = m.listed;
    others = λ j no ne h. m.places j no ne;
    same = m.same;
    fewer = m.fewer;
    laid = m.laid;
  }

-- what begins once the lists have moved, and others were linked, begins over the lists as they were
pub begins_moved : {n me : ℕ} {absorbed front : List ℕ} {total : ℕ} {p v : Workspace} {iw pe : List ℤ}
    {head next last : List ℕ} {free least n_cmp_a : ℕ} →
    Rooms n p (record p {
      iw = iw;
      pe = pe;
      head = head;
      next = next;
      last = last;
      free = free;
      least = least;
      n_cmp_a = n_cmp_a;
    }) →
    Begins n me absorbed front total (record p {
      iw = iw;
      pe = pe;
      head = head;
      next = next;
      last = last;
      free = free;
      least = least;
      n_cmp_a = n_cmp_a;
    }) v → Begins n me absorbed front total p v
begins_moved {n} {p = p} {pe = pe} r m = record {
  long = m.long ∙ r.long;
  wide = m.wide;
  p_long = m.p_long ∙ r.p_long;
  e_long = m.e_long;
  l_long = m.l_long;
  starts = m.starts;
  list = m.list;
  names = m.names;
  inside = m.inside;
  rows_is = m.rows_is;
  sizes = m.sizes;
  marks = m.marks;
  parents = m.parents;
  ended = m.ended;
  counts = m.counts;
  lengths = m.lengths;
  listed = λ j no ne. m.listed j no ne ∙ r.listed j;
  others = λ j no ne h. m.others j no ne (r.listed j ∙ h) ∙ r.others j h;
  same = λ j no ne h. let a = r.reads j h in let d = m.same j no ne (r.listed j ∙ h) in
      (d.0, d.1, λ k l. d.2 k l ∙ a.2 k l);
  fewer = let a = m.fewer in let d = live_part n p.pe pe p.len p.len (λ j h. (sym (r.listed j) ∙ h, (omega arith))) in
      omega (arith, a, d);
  laid = m.laid;
}

-- a list in its old place ends where it ended, or before
pub own_inside : {n : ℕ} (p v : Workspace) (me : ℕ) → Layout n p.iw p.pe p.e_len p.len p.free →
    Layout n v.iw v.pe v.e_len v.len v.free → v.pe ≡ p.pe → v.free ≡ p.free → has_list p.pe p.len me ≡ true →
    end_of v.pe v.len me ≤ v.free
own_inside p v me y z starts ends h = elim (cases_eq (num v.len me) 0) [
  | inl q ↦ (let a = y.within me h in let s = ap (λ pe. start pe me) starts in omega (arith, a, q, s, ends))
  | inr ne ↦ z.within me (has_from v.pe v.len me (ap (λ pe. is_place (word pe me)) starts ∙ (has_parts p.pe p.len me h).0)
      (omega (arith, ne)))
]

-- and a list behind all others before the free end, if that is where it ends
pub built_inside : (iw pe : List ℤ) (len : List ℕ) {front : List ℕ} {from end : ℕ} (me : ℕ) → rows iw (start pe me) (num len me) ≡ front →
    rows iw from (end - from) ≡ front → start pe me ≡ from → from ≤ end → end_of pe len me ≤ end
built_inside iw pe len {front} {from} {end} me list made at order = let a = rows_length iw (start pe me) (num len me) in
    let b = ap length list in let c = rows_length iw from (end - from) in let d = ap length made in omega (arith, a, b, c, d, at, order)
