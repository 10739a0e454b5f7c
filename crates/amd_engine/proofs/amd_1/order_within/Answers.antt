use Rattle.std.proofs.Common.{◌≡◌, ◌<◌, ◌^◌, ◌∙◌, arith, rules, ap, length, sym, w64}
use Rattle.std.proofs.lemmas.Int.{to_z_pos}
use Rattle.std.proofs.lemmas.List.{length-replicate}
use Rattle.std.specs.Vec.{vec_capacity}
use Rattle.amd_types.specs.declared.amd.Info.{Info}
use Rattle.amd_engine.proofs.amd_1.order_within.Given.{Over}
use Rattle.amd_engine.proofs.amd_1.order_within.Goals.{After-deref_mut-2}
use Rattle.amd_engine.proofs.amd_1.order_within.Goals as goal

-- there is a number of rows for each row, and one of elements
size : (g : Over) (c : After-deref_mut-2 g) → length c.deref_mut.result.now ≡ length c.args.p.now
size g c = ap length (c.deref_mut.ensures.value ∙ c.fill_words.ensures.items) ∙ length-replicate (length c.args.p.now) _

counts : (g : Over) (c : After-deref_mut-2 g) → length c.deref_mut-2.result.now ≡ length c.args.p.now
counts g c = ap length (c.deref_mut-2.ensures.value ∙ c.fill_words-2.ensures.items) ∙ length-replicate (length c.args.p.now) _

pub overflow_cast-first : goal.overflow_cast-first
overflow_cast-first g c =
    let wide = c.requires.narrow.2 in let narrow = g.met.S.Signed.narrow in
    let small : length c.args.p.now < 2 ^ 63 = omega (arith, wide, narrow) in search rules

pub fill_words-requires-clause-room : goal.fill_words-requires-clause-room
fill_words-requires-clause-room g c = let x = c.requires.room.nv in let out = ap vec_capacity c.replace-nv.ensures.value in
    omega (arith, x, out)

pub fill_words-requires-clause-fits : goal.fill_words-requires-clause-fits
fill_words-requires-clause-fits g c =
    let wide = c.requires.narrow.2 in let narrow = g.met.S.Signed.narrow in
    let is = ap lib.IntN.nat_abs (to_z_pos w64 (length c.args.p.now) (omega (arith, wide, narrow))) in omega (arith, is, wide)

pub fill_words-requires-2-clause-room : goal.fill_words-requires-2-clause-room
fill_words-requires-2-clause-room g c = let x = c.requires.room.e_len in let out = ap vec_capacity c.replace-e_len.ensures.value in
    omega (arith, x, out)

pub fill_words-requires-2-clause-fits : goal.fill_words-requires-2-clause-fits
fill_words-requires-2-clause-fits g c =
    let word = c.requires.narrow.2 in let place = c.requires.narrow.4 in let narrow = g.met.P.Signed.narrow in
    let is = ap lib.IntN.nat_abs (to_z_pos w64 (length c.args.p.now) (omega (arith, word, place, narrow))) in
    omega (arith, is, word, place)

pub eliminate_within-told-requires-clause-counts : goal.eliminate_within-told-requires-clause-counts
eliminate_within-told-requires-clause-counts g c =
    let at = (goal.at.eliminate_within-told-requires-clause-counts g c).After-deref_mut-2 in counts g at ∙ sym (size g at)

pub eliminate_within-told-requires-clause-some : goal.eliminate_within-told-requires-clause-some
eliminate_within-told-requires-clause-some g c =
    rw (size g (goal.at.eliminate_within-told-requires-clause-some g c).After-deref_mut-2) c.requires.some

pub eliminate_within-told-requires-clause-form : goal.eliminate_within-told-requires-clause-form
eliminate_within-told-requires-clause-form g c =
    rw (size g (goal.at.eliminate_within-told-requires-clause-form g c).After-deref_mut-2) c.requires.form

pub eliminate_within-told-requires-clause-sorted : goal.eliminate_within-told-requires-clause-sorted
eliminate_within-told-requires-clause-sorted g c =
    rw (size g (goal.at.eliminate_within-told-requires-clause-sorted g c).After-deref_mut-2) c.requires.sorted

pub eliminate_within-told-requires-clause-degrees : goal.eliminate_within-told-requires-clause-degrees
eliminate_within-told-requires-clause-degrees g c =
    rw (size g (goal.at.eliminate_within-told-requires-clause-degrees g c).After-deref_mut-2) c.requires.degrees

pub eliminate_within-told-requires-clause-words : goal.eliminate_within-told-requires-clause-words
eliminate_within-told-requires-clause-words g c =
    rw (size g (goal.at.eliminate_within-told-requires-clause-words g c).After-deref_mut-2) c.requires.words

pub eliminate_within-told-requires-clause-room : goal.eliminate_within-told-requires-clause-room
eliminate_within-told-requires-clause-room g c = let b = c.requires.room.beside in
    rw (size g (goal.at.eliminate_within-told-requires-clause-room g c).After-deref_mut-2) (record {
      words = b.words;
      next = b.next;
      pe = b.pe;
      len = b.len;
      lists = b.lists;
    })

pub eliminate_within-told-requires-clause-narrow : goal.eliminate_within-told-requires-clause-narrow
eliminate_within-told-requires-clause-narrow g c =
    rw (size g (goal.at.eliminate_within-told-requires-clause-narrow g c).After-deref_mut-2) c.requires.narrow

pub eliminate_within-told-requires-clause-pointers : goal.eliminate_within-told-requires-clause-pointers
eliminate_within-told-requires-clause-pointers g c =
    rw (size g (goal.at.eliminate_within-told-requires-clause-pointers g c).After-deref_mut-2) c.requires.pointers

pub eliminate_within-told-requires-clause-marks : goal.eliminate_within-told-requires-clause-marks
eliminate_within-told-requires-clause-marks g c =
    rw (size g (goal.at.eliminate_within-told-requires-clause-marks g c).After-deref_mut-2) c.requires.marks

pub finish-requires-clause-room : goal.finish-requires-clause-room
finish-requires-clause-room g c =
    let all = size g (goal.at.finish-requires-clause-room g c).After-deref_mut-2 in
    let rows = ap length c.deref.ensures.value ∙ c.eliminate_within-told.ensures.long ∙ all in
    (sym rows, c.requires.places ∙ sym rows)

pub finish-requires-clause-inverse : goal.finish-requires-clause-inverse
finish-requires-clause-inverse g c = let told = c.eliminate_within-told.ensures in
    rw (c.deref.ensures.value, c.deref-2.ensures.value, told.long) (told.orders c.args.info.now).inverse

pub finish-requires-clause-fits : goal.finish-requires-clause-fits
finish-requires-clause-fits g c = λ k l.
    let all = size g (goal.at.finish-requires-clause-fits g c).After-deref_mut-2 in
    let rows = ap length c.deref.ensures.value ∙ c.eliminate_within-told.ensures.long ∙ all in
    c.requires.fits k (omega (arith, l, rows))

pub returns-clause-orders : goal.returns-clause-orders
returns-clause-orders g c =
    let all = size g (goal.at.returns-clause-orders g c).After-deref_mut-2 in let order = c.finish.ensures.order in
    rw (order.0, order.1, c.finish.ensures.tells, c.deref.ensures.value, c.deref-2.ensures.value)
    (rw all at (c.eliminate_within-told.ensures.orders c.args.info.now))

pub returns-clause-compactions : goal.returns-clause-compactions
returns-clause-compactions g c =
    let all = size g (goal.at.returns-clause-compactions g c).After-deref_mut-2 in let packs = c.eliminate_within-told.ensures.packs in
    let tells = ap (λ (info : Info). info.n_cmp_a) c.finish.ensures.tells in omega (arith, tells, packs, all)

pub returns-clause-room : goal.returns-clause-room
returns-clause-room g c = λ n count h.
    let b = h.beside in let a = c.eliminate_within-told.ensures.room n count (record {
      words = b.words;
      next = b.next;
      pe = b.pe;
      len = b.len;
      lists = b.lists;
    }) in record {
      beside = record {
        words = a.words;
        next = a.next;
        pe = a.pe;
        len = a.len;
        lists = record {
          w = a.lists.w;
          head = a.lists.head;
          sides = a.lists.sides;
          hash = a.lists.hash;
        };
      };
      nv = (let x = h.nv in let filled = c.fill_words.ensures.capacity in let out = ap vec_capacity c.replace-nv.ensures.value in
          omega (arith, x, filled, out));
      e_len = (let x = h.e_len in let filled = c.fill_words-2.ensures.capacity in
          let out = ap vec_capacity c.replace-e_len.ensures.value in omega (arith, x, filled, out));
    }
