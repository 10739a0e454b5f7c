-- Trees that links hold, and the walk that numbers them: what its stack has left.
use Rattle.std.proofs.Common.{None, Some, ◌≡◌, ◌≢◌, ◌⊎◌, ◌+◌, ◌-◌, ◌<◌, ◌≤◌, ℕ, ℤ, zero, suc, pos, negsuc, true, false, List, [], ◌∷◌, ◌++◌}
use Rattle.std.proofs.Common.{length, refl, sym, ◌∙◌, ap, subst, arith, inl, inr, add-zero}
use Rattle.std.specs.Prelude.{slice_index}
use Rattle.std.proofs.Math.ListN.{set}
use Rattle.std.proofs.Math.Seq.{get_or-append_seam}
use Rattle.std.proofs.lemmas.Bool.{cases_lt, false_from_ne_true}
use Rattle.std.proofs.lemmas.List.{append_assoc, append-nil, length-append, get_or-set_same, get_or-set_other, get_or_append_left}
use Rattle.amd_model.specs.Input.Columns.{at}
use Rattle.amd_model.specs.Quotient.{has, Once}
use Rattle.amd_model.proofs.Counting.Below.{clash}
use Rattle.amd_model.proofs.Listings.Words.{has_head, has_tail, has_none, has_cases, has_left, has_right}
use Rattle.amd_model.proofs.Counting.Places.{has_place, place_of}
use Rattle.amd_types.specs.Links.{named}
use Rattle.amd_postorder.specs.Trees.{ListsLinks, none, more, ListsTree, FitsTree, NumbersFrom, StaysOutside}

-- what the front of a list names, the back does not, where no number stands twice
pub once_parts : (xs ys : List ℕ) → Once (xs ++ ys) → (u : ℕ) → has xs u ≡ true → has ys u ≡ false
once_parts [] ys o u h = absurd (has_none u h)
once_parts (x ∷ xs) ys o u h = elim (has_cases u x xs h) [
  | inl q ↦ false_from_ne_true (has ys u) (λ b. clash (has_right x xs ys (subst (λ v. has ys v ≡ true) q b)) o.0)
  | inr t ↦ once_parts xs ys o.1 u t
]

-- the back of a list names no number twice, where the list does not
pub once_back : (xs ys : List ℕ) → Once (xs ++ ys) → Once ys
once_back [] ys o = o
once_back (x ∷ xs) ys o = once_back xs ys o.1

-- no tree stands behind the end of a list
pub links_none : {child sibling : List ℤ} {z : ℤ} {xs : List ℕ} → ListsLinks child sibling z xs → z ≡ negsuc 0 → xs ≡ []
links_none none q = refl
links_none (more a b) q = absurd (cc)

-- the trees of a link to c: those below c, then c, then those of its siblings
pub links_some : {child sibling : List ℤ} {z : ℤ} {xs : List ℕ} (c : ℕ) → ListsLinks child sibling z xs → z ≡ pos c →
    (below : List ℕ) × (after : List ℕ) × (xs ≡ below ++ c ∷ after) × ListsLinks child sibling (at child c) below
    × ListsLinks child sibling (at sibling c) after
links_some c none q = absurd (cc)
links_some {child} {sibling} c (more {e} {below} {after} a b) q =
    let s : e ≡ c = cc in (
      below,
      after,
      ap (λ m. below ++ m ∷ after) s,
      subst (λ m. ListsLinks child sibling (at child m) below) s a,
      subst (λ m. ListsLinks child sibling (at sibling m) after) s b,
    )

-- the listing depends on the first children of its nodes alone
pub links_kept : {child child' sibling : List ℤ} {z : ℤ} {xs : List ℕ} → ListsLinks child sibling z xs →
    ((e : ℕ) → has xs e ≡ true → at child' e ≡ at child e) → ListsLinks child' sibling z xs
links_kept none f = none
links_kept {child' = child'} {sibling = sibling} (more {e} {below} {after} a b) f = more
    (subst (λ z. ListsLinks child' sibling z below) (sym (f e (has_right e below (e ∷ after) (has_head e e after refl))))
    (links_kept a (λ v h. f v (has_left v below (e ∷ after) h))))
    (links_kept b (λ v h. f v (has_right v below (e ∷ after) (has_tail v e after h))))

-- what stands before a place of a list stands before its last
before_last : (xs : List ℕ) (e : ℕ) (after ys : List ℕ) (last : ℕ) → xs ++ e ∷ after ≡ ys ++ last ∷ [] → (u : ℕ) → has xs u ≡ true →
    has ys u ≡ true
before_last [] e after ys last q u h = absurd (has_none u h)
before_last (x ∷ xs) e after [] last q u h =
    let size = ap length q in let joined = length-append xs (e ∷ after) in
    absurd (omega (arith, size, joined))
before_last (x ∷ xs) e after (y ∷ ys) last q u h = elim (has_cases u x xs h) [
  | inl s ↦ has_head u y ys (s ∙ cc)
  | inr t ↦ has_tail u y ys (before_last xs e after ys last (cc) u t)
]

-- what is left: the node on top of the stack after the trees that its link still leads to, and then what the rest of the stack has left
abbrev pub IsLeft : List ℤ → List ℤ → List ℤ → ℕ → List ℕ → Type 0
IsLeft child sibling stack zero left = left ≡ []
IsLeft child sibling stack (suc h) left = (e : ℕ) × (below : List ℕ) × (after : List ℕ) × (at stack h ≡ pos e) × (left ≡ below ++ e ∷ after)
    × ListsLinks child sibling (at child e) below × IsLeft child sibling stack h after

-- each node on the stack is left
left_most : (child sibling stack : List ℤ) (h : ℕ) (left : List ℕ) → IsLeft child sibling stack h left → h ≤ length left
left_most child sibling stack zero left l = omega arith
left_most child sibling stack (suc h) left l =
    let rest : h ≤ length l.2 = left_most child sibling stack h l.2 l.6 in
    let joined = ap length l.4 ∙ length-append l.1 (l.0 ∷ l.2) in
    omega (arith, rest, joined)

-- what is left depends on the stack and on the first children of its nodes
left_kept : (child child' sibling stack stack' : List ℤ) (h : ℕ) (left : List ℕ) → IsLeft child sibling stack h left →
    ((i : ℕ) → i < h → at stack' i ≡ at stack i) → ((e : ℕ) → has left e ≡ true → at child' e ≡ at child e) →
    IsLeft child' sibling stack' h left
left_kept child child' sibling stack stack' zero left l s f = l
left_kept child child' sibling stack stack' (suc h) left l s f =
    let e = l.0 in let below = l.1 in let after = l.2 in
    let on : (v : ℕ) → has (below ++ e ∷ after) v ≡ true → at child' v ≡ at child v = λ v k.
    f v (subst (λ xs. has xs v ≡ true) (sym l.4) k) in (
      e,
      below,
      after,
      s h (omega arith) ∙ l.3,
      l.4,
      subst (λ z. ListsLinks child' sibling z below) (sym (on e (has_right e below (e ∷ after) (has_head e e after refl))))
          (links_kept l.5 (λ v k. on v (has_left v below (e ∷ after) k))),
      left_kept child child' sibling stack stack' h after l.6 (λ i m. s i (omega arith))
          (λ v k. on v (has_right v below (e ∷ after) (has_tail v e after k))),
    )

-- what a walk writes: the lists of children, of numbers and of nodes on the way, how many of these there are, and the next number
pub record Walking : Type 0 where
  pub child : List ℤ
  pub order : List ℤ
  pub stack : List ℤ
  pub height : ℕ
  pub next : ℕ

abbrev pub walking : List ℤ → List ℤ → List ℤ → ℕ → ℕ → Walking
walking child order stack height next = record { child = child; order = order; stack = stack; height = height; next = next }

-- how far the walk has come: the first part of the listing is numbered, and the second left
pub record IsWalk (k : ℕ) (listing : List ℕ) (child_before sibling order_before : List ℤ) (now : Walking) : Type 0 where
  pub done : List ℕ
  pub left : List ℕ
  pub parts : listing ≡ done ++ left
  pub count : now.next ≡ k + length done
  pub path : IsLeft now.child sibling now.stack now.height left
  pub numbered : NumbersFrom k done now.order
  pub order_stays : StaysOutside listing order_before now.order
  pub child_stays : StaysOutside listing child_before now.child

-- a link of a listing ends a list or names a node
links_cases : {child sibling : List ℤ} {z : ℤ} {xs : List ℕ} → ListsLinks child sibling z xs →
    (z ≡ negsuc 0) ⊎ ((c : ℕ) × (z ≡ pos c) × (has xs c ≡ true))
links_cases none = inl refl
links_cases (more {e} {below} {after} a b) = inr (e, refl, has_right e below (e ∷ after) (has_head e e after refl))

-- a link that names a place
pub names_some : (z : ℤ) (p : ℕ) → Some p ≡ named z → z ≡ pos p
names_some (pos q) p e = let s : p ≡ q = cc in ap pos (sym s)
names_some (negsuc q) p e = absurd (cc)

-- a link that names none, where it can only be an end
pub names_none : (z : ℤ) → None ≡ named z → (p : ℕ) → z ≡ pos p → ⊥
names_none (pos q) e p s = absurd (cc)
names_none (negsuc q) e p s = absurd (cc)

pub tree_size : {child sibling : List ℤ} {root : ℕ} {listing : List ℕ} → ListsTree child sibling root listing → 0 < length listing
tree_size {root = root} t = let e = ap length t.is ∙ length-append t.below (root ∷ []) in omega (arith, e)

-- the walk at its beginning
pub walk_starts : (k root : ℕ) (listing : List ℕ) (child sibling order stack : List ℤ) → ListsTree child sibling root listing →
    0 < length stack →
    IsWalk k listing child sibling order (walking child order (set stack 0 (pos root)) 1 k)
walk_starts k root listing child sibling order stack tree room = record {
  done = [];
  left = listing;
  parts = refl;
  count = sym (add-zero k);
  path = (root, tree.below, [], get_or-set_same stack 0 (pos root) (pos 0) room, tree.is, tree.lists, refl);
  numbered = λ i l. absurd (omega arith);
  order_stays = λ e h. refl;
  child_stays = λ e h. refl;
}

-- the walk at its end
pub walk_ends : {k : ℕ} {listing : List ℕ} {child_before sibling order_before child order stack : List ℤ} {height next : ℕ} →
    IsWalk k listing child_before sibling order_before (walking child order stack height next) → height ≡ 0 →
    (next ≡ k + length listing) × NumbersFrom k listing order
walk_ends {k} {listing} {sibling = sibling} {child = child} {order = order} {stack = stack} w q =
    let empty : w.left ≡ [] = subst (λ h. IsLeft child sibling stack h w.left) q w.path in
    let all : w.done ≡ listing = sym (w.parts ∙ ap (λ m. w.done ++ m) empty ∙ append-nil w.done) in
    (w.count ∙ ap (λ m. k + length m) all, subst (λ m. NumbersFrom k m order) all w.numbered)

module _ (k : ℕ) (listing : List ℕ) (child_before sibling order_before child order stack : List ℤ) (height next : ℕ)
    (w : IsWalk k listing child_before sibling order_before (walking child order stack height next)) (i : ℕ) (above : height ≡ suc i) where
  path : IsLeft child sibling stack (suc i) w.left
  path = subst (λ h. IsLeft child sibling stack h w.left) above w.path

  listed : (e : ℕ) → has w.left e ≡ true → has listing e ≡ true
  listed e h = subst (λ m. has m e ≡ true) (sym w.parts) (has_right e w.done w.left h)

  -- the node on top of the stack: it is a node of the tree, and there is a number for it; the child that its link leads to is not the last
  -- node
  pub walk_top : (e : ℕ) × (at stack i ≡ pos e) × (has listing e ≡ true) × (k ≤ next) × (height + next ≤ k + length listing) ×
      ((at child e ≡ negsuc 0)
      ⊎ ((c : ℕ) × (at child e ≡ pos c) × ((below : List ℕ) (last : ℕ) → listing ≡ below ++ last ∷ [] → has below c ≡ true)
      × (height + next < k + length listing)))
  walk_top =
      let e = path.0 in let below = path.1 in let after = path.2 in
      let size = ap length w.parts ∙ length-append w.done w.left in
      let joined = ap length path.4 ∙ length-append below (e ∷ after) in
      let count = w.count in
      let rest : i ≤ length after = left_most child sibling stack i after path.6 in (
        e,
        path.3,
        listed e (subst (λ m. has m e ≡ true) (sym path.4) (has_right e below (e ∷ after) (has_head e e after refl))),
        omega (arith, count),
        omega (arith, size, joined, rest, count),
        elim (links_cases path.5) [
          | inl q ↦ inl q
          | inr r ↦ inr (
            r.0,
            r.1,
            λ front last q. before_last (w.done ++ below) e after front last
                (append_assoc w.done below (e ∷ after) ∙ ap (λ m. w.done ++ m) (sym path.4) ∙ sym w.parts ∙ q) r.0
                (has_right r.0 w.done below r.2),
            (let p = place_of below r.0 r.2 in let l = p.1 in omega (arith, size, joined, rest, l, count)),
          )
        ],
      )

  module _ (once : Once listing) (e : ℕ) (top : at stack i ≡ pos e) where
    unique : Once (w.done ++ w.left)
    unique = subst Once w.parts once

    is_top : e ≡ path.0
    is_top = (let q : pos e ≡ pos path.0 = sym top ∙ path.3 in cc)

    -- the node on top is numbered, where its link leads no further
    pub walk_up : at child e ≡ negsuc 0 → e < length order →
        IsWalk k listing child_before sibling order_before (walking child (set order e (pos next)) stack i (next + 1))
    walk_up q room =
        let after = path.2 in
        let none_below : path.1 ≡ [] = links_none path.5 (ap (at child) (sym is_top) ∙ q) in
        let left : w.left ≡ e ∷ after = path.4 ∙ ap (λ m. m ++ path.0 ∷ after) none_below ∙ ap (λ m. m ∷ after) (sym is_top) in
        let parts : listing ≡ (w.done ++ e ∷ []) ++ after = w.parts ∙ ap (λ m. w.done ++ m) left ∙
        sym (append_assoc w.done (e ∷ []) after) in
        let here : has listing e ≡ true = listed e (subst (λ m. has m e ≡ true) (sym left) (has_head e e after refl)) in
        let more_done = length-append w.done (e ∷ []) in
        record {
          done = w.done ++ e ∷ [];
          left = after;
          parts = parts;
          count = (let c = w.count in omega (arith, c, more_done));
          path = path.6;
          numbered = λ j l. (elim (cases_lt j (length w.done)) [
            | inl m ↦ (
                let at_j : slice_index (w.done ++ e ∷ []) j ≡ slice_index w.done j = get_or_append_left w.done (e ∷ []) 0 j m in
                let named : has w.done (slice_index w.done j) ≡ true = has_place w.done j m in
                let apart : slice_index w.done j ≢ e = λ s. clash (subst (λ v. has (e ∷ after) v ≡ true) (sym s) (has_head e e after refl))
                (once_parts w.done (e ∷ after) (subst (λ m. Once (w.done ++ m)) left unique) (slice_index w.done j) named) in
                ap (at (set order e (pos next))) at_j ∙ get_or-set_other order e (slice_index w.done j) (pos next) (pos 0) apart ∙
                w.numbered j m)
            | inr m ↦ (
                let is : j ≡ length w.done = omega (arith, l, more_done) in
                let at_j : slice_index (w.done ++ e ∷ []) j ≡ e = ap (slice_index (w.done ++ e ∷ [])) is ∙
                get_or-append_seam w.done e [] 0 in
                ap (at (set order e (pos next))) at_j ∙ get_or-set_same order e (pos next) (pos 0) room ∙
                ap (λ m. pos m) (w.count ∙ ap (λ m. k + m) (sym is)))
          ]);
          order_stays = λ v h. get_or-set_other order e v (pos next) (pos 0) (λ s. clash here (subst (λ x. has listing x ≡ false) s h)) ∙
              w.order_stays v h;
          child_stays = w.child_stays;
        }

    -- the first child that is left is put on top, and the next one is then the first
    pub walk_down : (c : ℕ) → at child e ≡ pos c → e < length child → height < length stack →
        IsWalk k listing child_before sibling order_before
        (walking (set child e (at sibling c)) order (set stack height (pos c)) (height + 1) next)
    walk_down c q room high =
        let below = path.1 in let after = path.2 in
        let child' = set child e (at sibling c) in let stack' = set stack height (pos c) in
        let first = links_some c path.5 (ap (at child) (sym is_top) ∙ q) in
        let left : w.left ≡ below ++ e ∷ after = path.4 ∙ ap (λ m. below ++ m ∷ after) (sym is_top) in
        let here : has listing e ≡ true =
        listed e (subst (λ m. has m e ≡ true) (sym left) (has_right e below (e ∷ after) (has_head e e after refl))) in
        let once_left : Once (below ++ e ∷ after) = subst Once left (once_back w.done w.left unique) in
        let not_below : (v : ℕ) → has below v ≡ true → v ≢ e =
        λ v h s. clash (has_head v e after s) (once_parts below (e ∷ after) once_left v h) in
        let not_after : (v : ℕ) → has after v ≡ true → v ≢ e =
        λ v h s. clash (subst (λ x. has after x ≡ true) s h) ((once_back below (e ∷ after) once_left).0) in
        let same_below : (v : ℕ) → has below v ≡ true → at child' v ≡ at child v =
        λ v h. get_or-set_other child e v (at sibling c) (pos 0) (not_below v h) in
        let in_below : (v : ℕ) → has (first.0 ++ c ∷ first.1) v ≡ true → has below v ≡ true =
        λ v h. subst (λ m. has m v ≡ true) (sym first.2) h in
        let c_same : at child' c ≡ at child c = same_below c (in_below c (has_right c first.0 (c ∷ first.1) (has_head c c first.1 refl))) in
        let first_lists : ListsLinks child' sibling (at child' c) first.0 =
        subst (λ z. ListsLinks child' sibling z first.0) (sym c_same)
        (links_kept first.3 (λ v h. same_below v (in_below v (has_left v first.0 (c ∷ first.1) h)))) in
        let e_next : at child' e ≡ at sibling c = get_or-set_same child e (at sibling c) (pos 0) room in
        let next_lists : ListsLinks child' sibling (at child' e) first.1 =
        subst (λ z. ListsLinks child' sibling z first.1) (sym e_next)
        (links_kept first.4 (λ v h. same_below v (in_below v (has_right v first.0 (c ∷ first.1) (has_tail v c first.1 h))))) in
        let stack_same : (j : ℕ) → j < height → at stack' j ≡ at stack j =
        λ j l. get_or-set_other stack height j (pos c) (pos 0) (λ s. omega arith) in
        let rest : IsLeft child' sibling stack' i after = left_kept child child' sibling stack stack' i after path.6
        (λ j l. stack_same j (omega arith)) (λ v h. get_or-set_other child e v (at sibling c) (pos 0) (not_after v h)) in
        let level : IsLeft child' sibling stack' (suc i) (first.1 ++ e ∷ after) =
        (e, first.1, after, stack_same i (omega arith) ∙ top, refl, next_lists, rest) in
        let top_now : at stack' (suc i) ≡ pos c = ap (at stack') (sym above) ∙ get_or-set_same stack height (pos c) (pos 0) high in
        let same_left : w.left ≡ first.0 ++ c ∷ (first.1 ++ e ∷ after) = left ∙ ap (λ m. m ++ e ∷ after) first.2 ∙
        append_assoc first.0 (c ∷ first.1) (e ∷ after) in
        let path_now : IsLeft child' sibling stack' (suc (suc i)) w.left =
        (c, first.0, first.1 ++ e ∷ after, top_now, same_left, first_lists, level) in
        let higher : suc (suc i) ≡ height + 1 = omega arith in
        record {
          done = w.done;
          left = w.left;
          parts = w.parts;
          count = w.count;
          path = subst (λ h. IsLeft child' sibling stack' h w.left) higher path_now;
          numbered = w.numbered;
          order_stays = w.order_stays;
          child_stays = λ v h. get_or-set_other child e v (at sibling c) (pos 0)
              (λ s. clash here (subst (λ x. has listing x ≡ false) s h)) ∙ w.child_stays v h;
        }

-- the lists of the walk are as long as at its beginning, and how far it has come, whatever the listing
pub record IsGoing (k root : ℕ) (child_before sibling order_before stack_before : List ℤ) (now : Walking) : Type 0 where
  pub child_room : length now.child ≡ length child_before
  pub order_room : length now.order ≡ length order_before
  pub stack_room : length now.stack ≡ length stack_before
  pub walk : (listing : List ℕ) → ListsTree child_before sibling root listing →
      IsWalk k listing child_before sibling order_before now

-- a turn of the walk at the node on top of the stack: what it reads and writes is in the lists
pub record IsTurn (sibling child order stack : List ℤ) (height next nn i e : ℕ) : Type 0 where
  pub above : height ≡ suc i
  pub top : at stack i ≡ pos e
  pub in_child : e < length child
  pub in_order : e < length order
  pub in_stack : height ≤ length stack
  pub number : next < nn
  pub enough : height + next ≤ nn
  pub down : (c : ℕ) → at child e ≡ pos c → (c < length child) × (c < length sibling) × (height < length stack) × (height + next < nn)
  pub up : ((c : ℕ) → at child e ≡ pos c → ⊥) → at child e ≡ negsuc 0

pub turn : {k root nn : ℕ} {child_before sibling order_before stack_before child order stack : List ℤ} {height next : ℕ} →
    FitsTree child_before sibling order_before stack_before root k nn →
    IsGoing k root child_before sibling order_before stack_before (walking child order stack height next) →
    0 < height → (e : ℕ) × (at stack (height - 1) ≡ pos e) × IsTurn sibling child order stack height next nn (height - 1) e
turn {k} {root} {nn} {child_before} {sibling} {order_before} {stack_before} {child} {order} {stack} {height} {next} f g some =
    let above : height ≡ suc (height - 1) = omega arith in
    let top = walk_top k f.listing child_before sibling order_before child order stack height next (g.walk f.listing f.tree) (height - 1)
    above in
    let child_room = g.child_room in let order_room = g.order_room in let stack_room = g.stack_room in
    let in_stack = f.in_stack in let numbers = f.numbers in
    let in_child = f.in_child top.0 top.2 in let in_order = f.in_order top.0 top.2 in
    let left = top.3 in let low = top.4 in (
      top.0,
      top.1,
      record {
        above = above;
        top = top.1;
        in_child = omega (arith, in_child, child_room);
        in_order = omega (arith, in_order, order_room);
        in_stack = omega (arith, left, low, in_stack, stack_room);
        number = omega (arith, low, numbers);
        enough = omega (arith, low, numbers);
        down = λ c q. elim top.5 [
          | inl z ↦ absurd (let b : negsuc 0 ≡ pos c = sym z ∙ q in cc)
          | inr r ↦ (
              let s : r.0 ≡ c = (let b : pos r.0 ≡ pos c = sym r.1 ∙ q in cc) in
              let in_below = r.2 f.tree.below root f.tree.is in
              let in_tree = subst (λ m. has m r.0 ≡ true) (sym f.tree.is) (has_left r.0 f.tree.below (root ∷ []) in_below) in
              let l = subst (λ v. v < length child_before) s (f.in_child r.0 in_tree) in
              let m = subst (λ v. v < length sibling) s (f.in_sibling r.0 in_below) in
              let h = r.3 in
              (omega (arith, l, child_room), m, omega (arith, h, left, in_stack, stack_room), omega (arith, h, numbers)))
        ];
        up = λ n. elim top.5 [ inl z ↦ z | inr r ↦ absurd (n r.0 r.1) ];
      },
    )

-- the same, where the stack's link was read
pub turn_at : {k root nn : ℕ} {child_before sibling order_before stack_before child order stack : List ℤ} {height next : ℕ} →
    FitsTree child_before sibling order_before stack_before root k nn →
    IsGoing k root child_before sibling order_before stack_before (walking child order stack height next) →
    0 < height → (e : ℕ) → Some e ≡ named (at stack (height - 1)) → IsTurn sibling child order stack height next nn (height - 1) e
turn_at {nn = nn} {sibling = sibling} {child = child} {order = order} {stack = stack} {height = height} {next = next} f g some e q =
    let t = turn f g some in
    let s : t.0 ≡ e = (let b : pos t.0 ≡ pos e = sym t.1 ∙ names_some (at stack (height - 1)) e q in cc) in
    subst (IsTurn sibling child order stack height next nn (height - 1)) s t.2
