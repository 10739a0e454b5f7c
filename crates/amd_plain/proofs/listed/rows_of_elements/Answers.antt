-- the goals of listed::rows_of_elements.
use Rattle.std.proofs.Common.{refl, sym, ap, ◌∙◌, ◌≡◌, ◌<◌, ◌&&◌, ◌++◌, ◌∷◌, [], subst, not, length, None, is_none, arith}
use Rattle.std.specs.Prelude.{◌==◌}
use Rattle.std.proofs.lemmas.List.{get_or_read, get_or-map, length-set}
use Rattle.amd_model.specs.State.{block_at}
use Rattle.amd_model.proofs.Counting.Places.{below_none}
use Rattle.amd_plain.specs.Views.{some_at, list_at}
use Rattle.amd_plain.specs.Keeps.{PlainLinksLead}
use Rattle.amd_plain.proofs.RowLinks.{none_as_before}
use Rattle.amd_plain.proofs.ElementRows.{rows_skip, rows_take, linked_to, unlinked}
use borrow.Author.Count.{falls}
use Rattle.std.proofs.lemmas.Result.{IfOk-from_err}
use Rattle.amd_model.specs.Below.{list_below}
use Rattle.amd_plain.proofs.listed.rows_of_elements.Goals as goal
use Rattle.amd_plain.proofs.listed.rows_of_elements.Goals.{then-is_some+in_ok-push, else-is_some}

pub rows-init : goal.rows-init
rows-init g c = record {
  size = refl;
  room = (let a = c.in_ok-rows.ensures.0 in let b = c.len.ensures in omega (arith, a, b));
  alone = λ u. refl;
  led = λ home led. led;
  rows = λ home led over e l. c.in_ok-rows.ensures.1 e ∙ sym (below_none (λ v. block_at e (home v) && not (v == e)));
}

pub element_of-requires-clause-led : goal.element_of-requires-clause-led
element_of-requires-clause-led g c = (c.requires.led.0, c.rows.invariant.led c.requires.led.0 c.requires.led.1)

pub rows-preserved : goal.rows-preserved
rows-preserved g c =
    let i = c.rows.invariant in
    let links = c.rows.link.items in let rows = c.rows.rows.items in let v = c.rows.v in
    let small : v < length links = (let s = i.size in let t = c.rows-test.true in let n = c.len-v-end.ensures in omega (arith, s, t, n)) in
    let read = sym (get_or_read links v _ small c.index.ensures None) in
    elim c.if-is_some.branch [
      | then-is_some+in_ok-push w ↦ (
          let e = w.element_of.result in let made = w.element_of.ensures in let new = w.push.new.self in
          let on = linked_to c.index.result.now (sym c.is_some.ensures ∙ w.if-is_some.true) in
          let end : some_at links e ≡ None = none_as_before (some_at links e) (some_at w.element_of.new.link.items e) (sym (made.alone e))
          made.end in
          let within : e < length rows = (let a = made.within in let s = i.size in let r = i.room in omega (arith, a, s, r)) in
          let is : new.items ≡ list_at rows e ++ v ∷ [] = w.in_ok-push.ensures.items ∙
          ap (λ xs. xs ++ v ∷ []) (ap (λ x. x.items) w.index_mut.ensures.value ∙ sym (get_or-map (λ x. x.items) rows e _ [] within)) in
          record {
            size = ap (λ l. length l.items) w.link-is ∙ made.size ∙ i.size;
            room = ap (λ r. length r.items) w.rows-is ∙ length-set rows e new ∙ i.room;
            alone = λ u. ap (λ l. is_none (some_at l.items u)) w.link-is ∙ made.alone u ∙ i.alone u;
            led = λ home led. subst (λ l. PlainLinksLead l.items home) (sym w.link-is) (made.led home (i.led home led));
            rows = λ home led over f l. ap (λ r. list_at r.items f) w.rows-is
                ∙ rows_take links home (i.led home led) over v rows e on.0 new within (read ∙ on.1) end (made.home home (i.led home led)) is
                f (i.rows home led over f l);
          })
      | else-is_some w ↦ (
          let off : some_at links v ≡ None = read ∙ unlinked c.index.result.now (sym c.is_some.ensures ∙ w.if-is_some.false) in
          record {
            size = ap (λ l. length l.items) w.link-is ∙ i.size;
            room = ap (λ r. length r.items) w.rows-is ∙ i.room;
            alone = λ u. ap (λ l. is_none (some_at l.items u)) w.link-is ∙ i.alone u;
            led = λ home led. subst (λ l. PlainLinksLead l.items home) (sym w.link-is) (i.led home led);
            rows = λ home led over f l. ap (λ r. list_at r.items f) w.rows-is ∙ i.rows home led over f l ∙
                sym (rows_skip links home (i.led home led) over v off f);
          })
    ]

pub returns-in_err-rows-clause-size : goal.returns-in_err-rows-clause-size
returns-in_err-rows-clause-size g c = IfOk-from_err c.from_residual.result _ c.from_residual.ensures.0

pub returns-in_err-rows-clause-rows : goal.returns-in_err-rows-clause-rows
returns-in_err-rows-clause-rows g c = IfOk-from_err c.from_residual.result _ c.from_residual.ensures.0

pub returns-in_err-rows-clause-links : goal.returns-in_err-rows-clause-links
returns-in_err-rows-clause-links g c = refl

pub returns-in_err-rows-clause-alone : goal.returns-in_err-rows-clause-alone
returns-in_err-rows-clause-alone g c u = refl

pub index-requires : goal.index-requires
index-requires g c =
    let s = c.rows.invariant.size in let t = c.rows-test.true in let n = c.len-v-end.ensures in let m = c.rows.link.ok.0 in
    omega (arith, s, t, n, m)

pub element_of-requires-clause-within : goal.element_of-requires-clause-within
element_of-requires-clause-within g c =
    let s = c.rows.invariant.size in let t = c.rows-test.true in let n = c.len-v-end.ensures in omega (arith, s, t, n)

pub index_mut-requires : goal.index_mut-requires
index_mut-requires g c =
    let a = c.element_of.ensures.within in let s = c.rows.invariant.size in let r = c.rows.invariant.room in
    let m = c.rows.rows.ok.0 in omega (arith, a, s, r, m)

pub returns-in_err-push-clause-size : goal.returns-in_err-push-clause-size
returns-in_err-push-clause-size g c = IfOk-from_err c.from_residual-in_err-push.result _ c.from_residual-in_err-push.ensures.0

pub returns-in_err-push-clause-rows : goal.returns-in_err-push-clause-rows
returns-in_err-push-clause-rows g c = IfOk-from_err c.from_residual-in_err-push.result _ c.from_residual-in_err-push.ensures.0

pub returns-in_err-push-clause-links : goal.returns-in_err-push-clause-links
returns-in_err-push-clause-links g c = c.element_of.ensures.size ∙ c.rows.invariant.size

pub returns-in_err-push-clause-alone : goal.returns-in_err-push-clause-alone
returns-in_err-push-clause-alone g c u = c.element_of.ensures.alone u ∙ c.rows.invariant.alone u

pub rows-smaller : goal.rows-smaller
rows-smaller g c = falls c.len-v-end.result c.rows.v c.rows-test.true

pub returns-clause-size : goal.returns-clause-size
returns-clause-size g c = c.rows.invariant.room

pub returns-clause-rows : goal.returns-clause-rows
returns-clause-rows g c = λ home led over e l.
    let a = c.rows-test.false in let b = c.rows.auto.v-end in let n = c.len-v-end.ensures in
    let end : c.rows.v ≡ length c.args.link.now.items = omega (arith, a, b, n) in
    c.rows.invariant.rows home led over e l ∙ ap (λ m. list_below m (λ v. block_at e (home v) && not (v == e))) end

pub returns-clause-links : goal.returns-clause-links
returns-clause-links g c = c.rows.invariant.size

pub returns-clause-alone : goal.returns-clause-alone
returns-clause-alone g c = c.rows.invariant.alone
