use Rattle.std.proofs.Common.{arith, ℕ, ℤ, List, map, pos, length, take, drop, refl, ap, sym, ◌≡◌, ◌++◌, ◌∙◌}
use Rattle.std.proofs.lemmas.List.{take_at, length-replicate}
use Rattle.std.specs.Option.{option_copied}
use Rattle.std.specs.Vec.{vec_capacity}
use Rattle.amd_model.specs.Quotient.{starting_list}
use Rattle.amd_model.specs.Input.Pattern.{graph_of, is_pair}
use Rattle.amd_types.specs.declared.amd.Info.{Info}
use Rattle.amd_engine.specs.InPlace.{AnswersInPlace, told_info}
use Rattle.amd_engine.proofs.LentPattern.{LaysPattern, lent_pattern}
use Rattle.amd_engine.proofs.LentLists.{lent_empty}
use Rattle.amd_engine.proofs.amd_1.eliminate_within.Given.{Over}
use Rattle.amd_engine.proofs.amd_1.eliminate_within.Goals.{After-deref_mut-7, After-order_lent-told}
use Rattle.amd_engine.proofs.amd_1.eliminate_within.Goals as goal

-- the lent workspace has the lists of the matrix
lent : (g : Over) (c : After-deref_mut-7 g) → LaysPattern (length c.args.nv.now) (map g.J.Index.value c.args.a_p.now)
    (map g.J.Index.value c.args.a_i.now) c.lay-free.new.memory.words.iw.items c.deref_mut.result.now c.deref_mut-2.result.now
    c.lay-free.result
lent g c =
    let laid = c.lay-free.ensures in
    lent_pattern (length c.args.nv.now) (map g.J.Index.value c.args.a_p.now) (map g.J.Index.value c.args.a_i.now)
    c.args.memory.now.len.items c.lay-free.result c.requires.degrees laid.degrees laid.laid laid.lists refl
    (c.deref_mut.ensures.value ∙ ap (λ v. v.items) c.replace-pe.ensures.value)
    (c.deref_mut-2.ensures.value ∙ ap (λ v. v.items) c.replace-len.ensures.value)

pub lay-free-requires-clause-form : goal.lay-free-requires-clause-form
lay-free-requires-clause-form g c = c.requires.form

pub lay-free-requires-clause-sorted : goal.lay-free-requires-clause-sorted
lay-free-requires-clause-sorted g c = c.requires.sorted

pub lay-free-requires-clause-some : goal.lay-free-requires-clause-some
lay-free-requires-clause-some g c = c.requires.some

pub lay-free-requires-clause-degrees : goal.lay-free-requires-clause-degrees
lay-free-requires-clause-degrees g c = c.requires.degrees

pub lay-free-requires-clause-words : goal.lay-free-requires-clause-words
lay-free-requires-clause-words g c = c.requires.words

pub lay-free-requires-clause-fits : goal.lay-free-requires-clause-fits
lay-free-requires-clause-fits g c = let n = c.requires.narrow in let word = n.2 in (omega (arith, word), n.0, n.1, c.requires.pointers)

pub lay-free-requires-clause-room : goal.lay-free-requires-clause-room
lay-free-requires-clause-room g c = c.requires.room

pub fill_lists-requires-clause-narrow : goal.fill_lists-requires-clause-narrow
fill_lists-requires-clause-narrow g c = let cell = c.requires.narrow.3 in omega (arith, cell)

pub order_lent-told-requires-clause-some : goal.order_lent-told-requires-clause-some
order_lent-told-requires-clause-some g c =
    rw (lent g c).size c.requires.some

pub order_lent-told-requires-clause-narrow : goal.order_lent-told-requires-clause-narrow
order_lent-told-requires-clause-narrow g c =
    rw (lent g c).size c.requires.narrow

pub order_lent-told-requires-clause-marks : goal.order_lent-told-requires-clause-marks
order_lent-told-requires-clause-marks g c =
    rw (lent g c).size c.requires.marks

pub order_lent-told-requires-clause-flag : goal.order_lent-told-requires-clause-flag
order_lent-told-requires-clause-flag g c = c.requires.flag

pub returns-clause-aside : goal.returns-clause-aside
returns-clause-aside g c = c.lay-free.ensures.aside

pub fill_lists-requires-clause-room : goal.fill_lists-requires-clause-room
fill_lists-requires-clause-room g c = let room = c.lay-free.ensures.room _ _ c.requires.room in (room.next, room.lists)

pub order_lent-told-requires-clause-can : goal.order_lent-told-requires-clause-can
order_lent-told-requires-clause-can g c =
    let l = lent g (goal.at.order_lent-told-requires-clause-can g c).After-deref_mut-7 in
    let a_p : List ℤ = map g.J.Index.value c.args.a_p.now in let a_i : List ℤ = map g.J.Index.value c.args.a_i.now in
    let n : ℕ = length c.args.nv.now in let long = c.lay-free.ensures.long.0 in let size = l.size in record {
      empty = lent_empty _ c.fill_lists.ensures.fresh size c.requires.counts refl
          (c.deref_mut-3.ensures.value ∙ ap (λ v. v.items) c.replace-degree.ensures.value) c.deref_mut-4.ensures.value
          c.deref_mut-5.ensures.value c.deref_mut-6.ensures.value c.deref_mut-7.ensures.value;
      laid = l.laid;
      room = omega (arith, long, size);
      graph = (graph_of n a_p a_i, starting_list n (is_pair n a_p a_i), l.lays);
    }

pub order_lent-told-requires-clause-room : goal.order_lent-told-requires-clause-room
order_lent-told-requires-clause-room g c = let laid = c.lay-free.ensures in (laid.long.1, (laid.room _ _ c.requires.room).words)

-- the engine answers
answer : (g : Over) (c : After-order_lent-told g) (info : Info) → AnswersInPlace
    (graph_of (length c.args.nv.now) (map g.J.Index.value c.args.a_p.now) (map g.J.Index.value c.args.a_i.now))
    (starting_list (length c.args.nv.now)
    (is_pair (length c.args.nv.now) (map g.J.Index.value c.args.a_p.now) (map g.J.Index.value c.args.a_i.now)))
    (option_copied c.args.choice.now.hold) (length c.args.nv.now) c.args.choice.now.control.now
    (record {
      p = map pos c.order_lent-told.new.head;
      q = map pos c.order_lent-told.new.w;
      nv = c.order_lent-told.new.nv;
      e_len = c.order_lent-told.new.e_len;
      pe = c.order_lent-told.new.laid.pe.now;
    }) info (told_info c.order_lent-told.result info)
answer g c info = let l = lent g c.before in rw l.size at (c.order_lent-told.ensures.orders _ _ info l.lays)

-- the order and its inverse are left in the memory
record AreListed (g : Over) (c : After-order_lent-told g) : Type 0 where
  head : (let new = c.order_lent-told.new.head in let l = c.fill_lists.new.lists.head in take l.len (new ++ drop (length new) l.items)) ≡
      c.order_lent-told.new.head
  w : (let new = c.order_lent-told.new.w in let l = c.fill_lists.new.lists.w in take l.len (new ++ drop (length new) l.items)) ≡
      c.order_lent-told.new.w
  rows : length c.order_lent-told.new.head ≡ length c.args.nv.now

are_listed : (g : Over) (c : After-order_lent-told g) → AreListed g c
are_listed g c =
    let n : ℕ = length c.args.nv.now in let told = c.order_lent-told in let new = told.new in let l = c.fill_lists.new.lists in
    let head = told.auto.head ∙ ap length c.deref_mut-5.ensures.value in let w = told.auto.w ∙ ap length c.deref_mut-4.ensures.value in
    record {
      head = take_at new.head (drop (length new.head) l.head.items) l.head.len (head ∙ sym l.head.ok.0);
      w = take_at new.w (drop (length new.w) l.w.items) l.w.len (w ∙ sym l.w.ok.0);
      rows = head ∙ ap length c.fill_lists.ensures.fresh.heads.0 ∙ length-replicate n n;
    }

pub returns-clause-orders : goal.returns-clause-orders
returns-clause-orders g c = λ info.
    let at = (goal.at.returns-clause-orders g c).After-order_lent-told in let b = are_listed g at in
    rw (b.head, b.w) (answer g at info).answer

pub returns-clause-long : goal.returns-clause-long
returns-clause-long g c = let b = are_listed g (goal.at.returns-clause-long g c).After-order_lent-told in ap length b.head ∙ b.rows

pub returns-clause-packs : goal.returns-clause-packs
returns-clause-packs g c =
    let size = (lent g (goal.at.returns-clause-packs g c).After-deref_mut-7).size in let packs = c.order_lent-told.ensures.packs in
    omega (arith, packs, size)

pub returns-clause-room : goal.returns-clause-room
returns-clause-room g c = λ n count h.
    let a = c.lay-free.ensures.room n count h in let lists = c.fill_lists.ensures.room n a.lists in record {
      words = (let x = a.words in let same = c.order_lent-told.ensures.capacity in omega (arith, x, same));
      next = (let x = a.next in let filled = c.fill_lists.ensures.degree in let out = ap vec_capacity c.replace-degree.ensures.value in
          omega (arith, x, filled, out));
      pe = (let x = a.pe in let out = ap vec_capacity c.replace-pe.ensures.value in omega (arith, x, out));
      len = (let x = a.len in let out = ap vec_capacity c.replace-len.ensures.value in omega (arith, x, out));
      lists = record {
        w = lists.w;
        head = lists.head;
        sides = lists.sides;
        hash = lists.hash;
      };
    }
