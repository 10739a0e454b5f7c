-- the goals of laying::lay.
use Rattle.std.proofs.Common.{ℕ, ℤ, List, ◌≡◌, ◌≤◌, ◌<◌, map, length, arith, refl, sym, ap, subst, ◌∙◌}
use Rattle.amd_model.specs.Below.{sum_below}
use Rattle.amd_model.specs.Input.Pattern.{graph_of, is_pair}
use Rattle.amd_model.specs.Quotient.{starting_list}
use Rattle.amd_lists.specs.Layout.{list_in}
use Rattle.amd_words.specs.Words.{num}
use Rattle.amd_workspace.specs.Laying.{IsLaidOut, Starts}
use Rattle.amd_workspace.specs.Lower.{AreNeighbourCounts, HoldsLists, own_start}
use Rattle.amd_workspace.proofs.Layings.{total_is, laid_out, list_at, first_at}
use Rattle.amd_workspace.proofs.laying.lay.Given.{Over}
use Rattle.amd_workspace.proofs.laying.lay.Goals.{After-starts-free}
use Rattle.amd_workspace.proofs.laying.lay.Goals as goal

-- the starts of the lists of a matrix
module _ (n : ℕ) (ap' ai : List ℤ) (degrees : List ℕ) (counts : AreNeighbourCounts n ap' ai degrees) (pe : List ℤ) (next : List ℕ)
    (s : Starts degrees pe next) where
  next_long : length next ≡ n
  unfolding graph_of
  next_long = s.long ∙ counts.size

  next_first : (i : ℕ) → i < n → num next i ≡ own_start n ap' ai i
  unfolding graph_of
  next_first = first_at (graph_of n ap' ai) degrees pe next counts s

  -- and with the lists in the words
  module _ (iw : List ℤ) (so : HoldsLists n ap' ai degrees iw) where
    laid : own_start n ap' ai n ≤ length iw → IsLaidOut n iw pe degrees (own_start n ap' ai n)
    unfolding graph_of
    laid room = laid_out (graph_of n ap' ai) degrees pe next counts s iw so.0 room

    lists : (i : ℕ) → i < n → list_in iw pe degrees i ≡ starting_list n (is_pair n ap' ai) i
    unfolding graph_of
    lists i l = list_at (graph_of n ap' ai) degrees pe next counts s iw _ i l (so.1 i l)

total : (n : ℕ) (ap' ai : List ℤ) (degrees lent : List ℕ) → AreNeighbourCounts n ap' ai degrees → lent ≡ degrees → (sum : ℕ) →
    sum ≡ sum_below (length lent) (num lent) → sum ≡ own_start n ap' ai n
unfolding graph_of
total n ap' ai degrees lent counts same sum is =
    is ∙ ap (λ xs. sum_below (length xs) (num xs)) same ∙ total_is (graph_of n ap' ai) degrees counts

-- the starts as they are written
starts_are : (g : Over) (c : After-starts-free g) → Starts c.args.memory.now.len.items c.starts-free.new.pe.items
    c.starts-free.new.next.items
starts_are g c = rw c.deref.ensures.value at c.starts-free.ensures.starts

free_is : (g : Over) (c : After-starts-free g) → c.starts-free.result ≡ own_start c.args.size (map g.I.Index.value c.args.a_p.now)
    (map g.I.Index.value c.args.a_i.now) c.args.size
free_is g c = total c.args.size (map g.I.Index.value c.args.a_p.now) (map g.I.Index.value c.args.a_i.now) c.args.memory.now.len.items
    c.deref.result.now c.requires.degrees c.deref.ensures.value c.starts-free.result c.starts-free.ensures.total

pub starts-free-requires-clause-room : goal.starts-free-requires-clause-room
unfolding graph_of
starts-free-requires-clause-room g c =
    let same = ap length c.deref.ensures.value in let size = c.requires.degrees.size in let room = c.requires.room in
    let a = room.pe in let b = room.next in let x = c.clear.ensures.capacity in let y = c.clear-2.ensures.capacity in
    (omega (arith, same, size, a, x), omega (arith, same, size, b, y))

pub starts-free-requires-clause-fits : goal.starts-free-requires-clause-fits
starts-free-requires-clause-fits g c =
    let is = total c.args.size (map g.I.Index.value c.args.a_p.now) (map g.I.Index.value c.args.a_i.now) c.args.memory.now.len.items
    c.deref.result.now c.requires.degrees c.deref.ensures.value _ refl in
    let words = c.requires.words in let fits = c.requires.fits in let p = fits.1 in let u = fits.2 in
    (omega (arith, is, words, p), omega (arith, is, words, u))

pub lower_lists-requires-clause-free : goal.lower_lists-requires-clause-free
lower_lists-requires-clause-free g c = free_is g (goal.at.lower_lists-requires-clause-free g c).After-starts-free

pub lower_lists-requires-clause-ready : goal.lower_lists-requires-clause-ready
lower_lists-requires-clause-ready g c =
    let to = (goal.at.lower_lists-requires-clause-ready g c).After-starts-free in let s = starts_are g to in let r = c.requires in record {
      input = record { form = r.form; sorted = r.sorted; lower = c.is_lower.ensures.yes c.if-is_lower.true };
      some = r.some;
      enough = r.words;
      rows = r.fits.0;
      places = r.fits.2;
      fits = (let room = r.room.words in let kept = c.clear-3.ensures.capacity in omega (arith, room, kept));
      empty = ap length c.clear-3.ensures.items;
      long = next_long _ _ _ _ r.degrees _ _ s;
      starts = next_first _ _ _ _ r.degrees _ _ s;
    }

pub general_lists-requires-clause-long : goal.general_lists-requires-clause-long
general_lists-requires-clause-long g c = next_long _ _ _ _ c.requires.degrees _ _
    (starts_are g (goal.at.general_lists-requires-clause-long g c).After-starts-free)

pub general_lists-requires-clause-starts : goal.general_lists-requires-clause-starts
general_lists-requires-clause-starts g c = next_first _ _ _ _ c.requires.degrees _ _
    (starts_are g (goal.at.general_lists-requires-clause-starts g c).After-starts-free)

pub returns-then-is_lower-clause-laid : goal.returns-then-is_lower-clause-laid
returns-then-is_lower-clause-laid g c =
    let to = (goal.at.returns-then-is_lower-clause-laid g c).After-starts-free in let is = free_is g to in
    let long = c.lower_lists.ensures.long.0 in
    let P : ℕ → Type 0 = λ free. IsLaidOut c.args.size c.lower_lists.new.words.iw.items c.starts-free.new.pe.items
    c.args.memory.now.len.items free in
    subst P (sym (free_is g to)) (laid _ _ _ _ c.requires.degrees _ _ (starts_are g to) _
    (rw c.deref-then-is_lower.ensures.value at c.lower_lists.ensures.lists) (omega (arith, is, long)))

pub returns-then-is_lower-clause-long : goal.returns-then-is_lower-clause-long
returns-then-is_lower-clause-long g c = c.lower_lists.ensures.long

pub returns-then-is_lower-clause-free : goal.returns-then-is_lower-clause-free
returns-then-is_lower-clause-free g c = free_is g (goal.at.returns-then-is_lower-clause-free g c).After-starts-free

pub returns-then-is_lower-clause-lists : goal.returns-then-is_lower-clause-lists
returns-then-is_lower-clause-lists g c = lists _ _ _ _ c.requires.degrees _ _
    (starts_are g (goal.at.returns-then-is_lower-clause-lists g c).After-starts-free) _
    (rw c.deref-then-is_lower.ensures.value at c.lower_lists.ensures.lists)

pub returns-else-is_lower-clause-laid : goal.returns-else-is_lower-clause-laid
returns-else-is_lower-clause-laid g c =
    let to = (goal.at.returns-else-is_lower-clause-laid g c).After-starts-free in let long = c.general_lists.ensures.long.0 in
    let P : ℕ → Type 0 = λ free. IsLaidOut c.args.size c.general_lists.new.words.iw.items c.starts-free.new.pe.items
    c.args.memory.now.len.items free in
    subst P (sym (free_is g to)) (laid _ _ _ _ c.requires.degrees _ _ (starts_are g to) _
    (rw c.deref-else-is_lower.ensures.value at c.general_lists.ensures.lists) (omega (arith, long)))

pub returns-else-is_lower-clause-long : goal.returns-else-is_lower-clause-long
returns-else-is_lower-clause-long g c =
    let is = free_is g (goal.at.returns-else-is_lower-clause-long g c).After-starts-free in
    let long = c.general_lists.ensures.long.0 in (omega (arith, is, long), c.general_lists.ensures.long.1)

pub returns-else-is_lower-clause-free : goal.returns-else-is_lower-clause-free
returns-else-is_lower-clause-free g c = free_is g (goal.at.returns-else-is_lower-clause-free g c).After-starts-free

pub returns-else-is_lower-clause-lists : goal.returns-else-is_lower-clause-lists
returns-else-is_lower-clause-lists g c = lists _ _ _ _ c.requires.degrees _ _
    (starts_are g (goal.at.returns-else-is_lower-clause-lists g c).After-starts-free) _
    (rw c.deref-else-is_lower.ensures.value at c.general_lists.ensures.lists)

pub starts-free-requires-clause-empty : goal.starts-free-requires-clause-empty
starts-free-requires-clause-empty g c = (ap length c.clear.ensures.items, ap length c.clear-2.ensures.items)

pub is_lower-requires-clause-form : goal.is_lower-requires-clause-form
is_lower-requires-clause-form g c = c.requires.form

pub is_lower-requires-clause-sorted : goal.is_lower-requires-clause-sorted
is_lower-requires-clause-sorted g c = c.requires.sorted

pub lower_lists-requires-clause-degrees : goal.lower_lists-requires-clause-degrees
lower_lists-requires-clause-degrees g c =
    subst (AreNeighbourCounts c.args.size (map g.I.Index.value c.args.a_p.now) (map g.I.Index.value c.args.a_i.now))
    (sym c.deref-then-is_lower.ensures.value) c.requires.degrees

pub lower_lists-requires-clause-heads : goal.lower_lists-requires-clause-heads
lower_lists-requires-clause-heads g c = let wide = c.requires.room.lists.w in let kept = c.clear-4.ensures.capacity in
    (ap length c.clear-4.ensures.items, omega (arith, wide, kept))

pub general_lists-requires-clause-form : goal.general_lists-requires-clause-form
general_lists-requires-clause-form g c = c.requires.form

pub general_lists-requires-clause-sorted : goal.general_lists-requires-clause-sorted
general_lists-requires-clause-sorted g c = c.requires.sorted

pub general_lists-requires-clause-some : goal.general_lists-requires-clause-some
general_lists-requires-clause-some g c = c.requires.some

pub general_lists-requires-clause-degrees : goal.general_lists-requires-clause-degrees
general_lists-requires-clause-degrees g c =
    subst (AreNeighbourCounts c.args.size (map g.I.Index.value c.args.a_p.now) (map g.I.Index.value c.args.a_i.now))
    (sym c.deref-else-is_lower.ensures.value) c.requires.degrees

pub general_lists-requires-clause-room : goal.general_lists-requires-clause-room
general_lists-requires-clause-room g c = c.requires.words

pub general_lists-requires-clause-fits : goal.general_lists-requires-clause-fits
general_lists-requires-clause-fits g c = let fits = c.requires.fits in (fits.0, fits.2, fits.3)

pub general_lists-requires-clause-capacity : goal.general_lists-requires-clause-capacity
general_lists-requires-clause-capacity g c =
    let room = c.requires.room.words in let kept = c.clear-3.ensures.capacity in omega (arith, room, kept)

pub general_lists-requires-clause-empty : goal.general_lists-requires-clause-empty
general_lists-requires-clause-empty g c = (ap length c.clear-3.ensures.items, ap length c.clear-4.ensures.items)

pub general_lists-requires-clause-wide : goal.general_lists-requires-clause-wide
general_lists-requires-clause-wide g c =
    let wide = c.requires.room.lists.w in let kept = c.clear-4.ensures.capacity in omega (arith, wide, kept)

-- a list that is cleared and written has room for as many numbers as before
kept_le : {n old cleared new : ℕ} → n ≤ old → cleared ≡ old → cleared ≤ new → n ≤ new
kept_le few is kept = omega arith

-- likewise one that keeps its room exactly
kept_same : {n old cleared new : ℕ} → n ≤ old → cleared ≡ old → new ≡ cleared → n ≤ new
kept_same few is kept = omega arith

-- and one that is written twice
kept_twice : {n old cleared started new : ℕ} → n ≤ old → cleared ≡ old → started ≡ cleared → started ≤ new → n ≤ new
kept_twice few is same kept = omega arith

pub returns-then-is_lower-clause-room : goal.returns-then-is_lower-clause-room
returns-then-is_lower-clause-room g c = λ n words r.
    let started = c.starts-free.ensures.capacity in let kept = c.lower_lists.ensures.capacity in record {
      words = kept_le r.words c.clear-3.ensures.capacity kept.iw;
      next = kept_twice r.next c.clear-2.ensures.capacity started.1 kept.next;
      pe = kept_same r.pe c.clear.ensures.capacity started.0;
      len = r.len;
      lists = record {
        w = kept_le r.lists.w c.clear-4.ensures.capacity c.lower_lists.ensures.heads;
        head = r.lists.head;
        sides = r.lists.sides;
        hash = r.lists.hash;
      };
    }

pub returns-then-is_lower-clause-degrees : goal.returns-then-is_lower-clause-degrees
returns-then-is_lower-clause-degrees g c = refl

pub returns-then-is_lower-clause-aside : goal.returns-then-is_lower-clause-aside
returns-then-is_lower-clause-aside g c = (refl, refl)

pub returns-else-is_lower-clause-room : goal.returns-else-is_lower-clause-room
returns-else-is_lower-clause-room g c = λ n words r.
    let started = c.starts-free.ensures.capacity in let kept = c.general_lists.ensures.capacity in record {
      words = kept_le r.words c.clear-3.ensures.capacity kept.iw;
      next = kept_twice r.next c.clear-2.ensures.capacity started.1 kept.next;
      pe = kept_same r.pe c.clear.ensures.capacity started.0;
      len = r.len;
      lists = record {
        w = kept_le r.lists.w c.clear-4.ensures.capacity c.general_lists.ensures.pointers;
        head = r.lists.head;
        sides = r.lists.sides;
        hash = r.lists.hash;
      };
    }

pub returns-else-is_lower-clause-degrees : goal.returns-else-is_lower-clause-degrees
returns-else-is_lower-clause-degrees g c = refl

pub returns-else-is_lower-clause-aside : goal.returns-else-is_lower-clause-aside
returns-else-is_lower-clause-aside g c = (refl, refl)
