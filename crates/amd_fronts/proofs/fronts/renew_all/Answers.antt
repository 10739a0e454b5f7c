-- The goals of fronts::renew_all.
use Rattle.std.proofs.Common.{ℕ, ℤ, List, true, ◌≡◌, ◌<◌, ◌≤◌, ◌+◌, ◌-◌, inl, inr, refl, sym, ap, subst, ◌∙◌, arith, length, le-add_right}
use Rattle.std.proofs.lemmas.Bool.{cases_eq}
use Rattle.amd_words.specs.Words.{num, word, place, is_place, start, rows}
use Rattle.amd_words.proofs.RowLists.{rows_none}
use Rattle.amd_words.proofs.WordCounts.{next_place, none_passed}
use Rattle.amd_lists.specs.Renewal.{key_mask}
use Rattle.amd_lists.specs.Workspaces.{workspace_of}
use Rattle.amd_lists.proofs.Frames.{has_from}
use Rattle.amd_fronts.specs.Effects.{RenewsOrRetires}
use Rattle.amd_fronts.specs.Fronts.{renewed_in, RenewsFront}
use Rattle.amd_fronts.specs.Premises.{CanRenewOrRetire}
use Rattle.amd_fronts.proofs.Retiring.{front_none, word_inside, word_one, class_ready, class_renewed, class_room}
use Rattle.amd_fronts.proofs.fronts.renew_all.Goals as goal

-- the place p of the list, counted from its start
place_at : {from s p : ℕ} → from ≡ s → from ≤ p → s + (p - from) ≡ p
place_at is after = omega (arith, is, after)

within_list : {from count p n : ℕ} → from ≤ p → p < from + count → count ≡ n → p - from < n
within_list after there is = omega (arith, after, there, is)

row_at : (iw : List ℤ) {from s p i : ℕ} → from ≡ s → from ≤ p → i ≡ place (word iw p) → i ≡ place (word iw (s + (p - from)))
row_at iw is after i_is = i_is ∙ ap (λ q. place (word iw q)) (sym (place_at is after))

pub list_lent-from-requires : goal.list_lent-from-requires
list_lent-from-requires g c = let a = c.requires.row.0 in let l = c.requires.lengths in record {
  inside = ((let n = l.0 in omega (arith, a, n)), (let n = l.2 in omega (arith, a, n)));
  place = c.requires.list;
}

pub overflow_add-p-end : goal.overflow_add-p-end
overflow_add-p-end g c = let is = c.list_lent-from.ensures.list.0 in let count = c.list_lent-from.ensures.list.1 in
    let p = workspace_of c.args.work.now in
    elim (cases_eq (num p.len c.args.me) 0) [
      | inl q ↦ omega (arith, q, count)
      | inr ne ↦ (let a = c.requires.laid.within c.args.me (has_from p.pe p.len c.args.me c.requires.list (omega (arith, ne))) in
          let b = c.requires.end in let d = c.requires.narrow.0 in let z = g.met.P.Signed.narrow in omega (arith, a, b, d, z, is, count))
    ]

pub loop-p-init : goal.loop-p-init
loop-p-init g c =
    let p = workspace_of c.args.work.now in let me : ℕ = c.args.me in let same = c.list_lent-from.ensures.same in record {
      renews = rw (same.0, same.1) (subst (λ xs. RenewsFront (length p.w) me xs p p 0)
          (sym (ap (rows p.iw (start p.pe me)) (none_passed c.list_lent-from.result.0) ∙ rows_none p.iw (start p.pe me)))
          (front_none (length p.w) me p c.requires.laid));
      same = rw (same.0, same.1) refl;
      loans = (refl, refl, refl, refl, refl, refl, refl, refl, refl, refl);
    }

pub named_lent-i-requires-clause-inside : goal.named_lent-i-requires-clause-inside
named_lent-i-requires-clause-inside g c = let at = c.list_lent-from.ensures.list in
    subst (λ q. q < length c.loop-p.work.iw.now) (place_at at.0 c.loop-p.auto.p)
    (word_inside c.requires (c.loop-p.p - c.list_lent-from.result.0) (within_list c.loop-p.auto.p c.loop-p-test.true at.1)
    c.loop-p.invariant.renews)

pub named_lent-i-requires-clause-place : goal.named_lent-i-requires-clause-place
named_lent-i-requires-clause-place g c = let at = c.list_lent-from.ensures.list in
    subst (λ q. is_place (word c.loop-p.work.iw.now q) ≡ true) (place_at at.0 c.loop-p.auto.p)
    (word_one c.requires (c.loop-p.p - c.list_lent-from.result.0) (within_list c.loop-p.auto.p c.loop-p-test.true at.1)
    c.loop-p.invariant.renews)

pub renew_or_retire-gone-requires-clause-class : goal.renew_or_retire-gone-requires-clause-class
renew_or_retire-gone-requires-clause-class g c =
    let at = c.list_lent-from.ensures.list in let v = workspace_of c.loop-p.work in
    rw c.named_lent-i.ensures.same
    (subst (λ x. CanRenewOrRetire g.S.Signed.MOST g.P.Signed.MOST g.U.Unsigned.MOST c.args.me c.named_lent-i.result x)
    (sym c.loop-p.invariant.same)
    (class_ready c.requires (c.loop-p.p - c.list_lent-from.result.0) (within_list c.loop-p.auto.p c.loop-p-test.true at.1)
    c.loop-p.invariant.renews c.named_lent-i.result (row_at v.iw at.0 c.loop-p.auto.p c.named_lent-i.ensures.is)))

pub renew_or_retire-gone-requires-clause-mask : goal.renew_or_retire-gone-requires-clause-mask
renew_or_retire-gone-requires-clause-mask g c = c.key_mask-mask.ensures ∙ sym (ap (λ x. key_mask (length x.w)) c.loop-p.invariant.same)

pub overflow_add-gone : goal.overflow_add-gone
overflow_add-gone g c =
    let p = workspace_of c.args.work.now in let at = c.list_lent-from.ensures.list in let v = workspace_of c.loop-p.work in
    let told : RenewsOrRetires c.args.me c.named_lent-i.result (renewed_in p v) (workspace_of c.renew_or_retire-gone.new.work)
    c.renew_or_retire-gone.result = subst (λ x. RenewsOrRetires c.args.me c.named_lent-i.result x
    (workspace_of c.renew_or_retire-gone.new.work) c.renew_or_retire-gone.result) c.loop-p.invariant.same
    (rw c.named_lent-i.ensures.same at c.renew_or_retire-gone.ensures.renews) in
    let a = class_room c.requires (c.loop-p.p - c.list_lent-from.result.0) (within_list c.loop-p.auto.p c.loop-p-test.true at.1)
    c.loop-p.invariant.renews c.named_lent-i.result (row_at v.iw at.0 c.loop-p.auto.p c.named_lent-i.ensures.is) told in
    let d = g.met.S.Signed.narrow in omega (arith, a, d)

pub loop-p-preserved : goal.loop-p-preserved
loop-p-preserved g c =
    let p = workspace_of c.args.work.now in let at = c.list_lent-from.ensures.list in let v = workspace_of c.loop-p.work in
    let told : RenewsOrRetires c.args.me c.named_lent-i.result (renewed_in p v) (workspace_of c.renew_or_retire-gone.new.work)
    c.renew_or_retire-gone.result = subst (λ x. RenewsOrRetires c.args.me c.named_lent-i.result x
    (workspace_of c.renew_or_retire-gone.new.work) c.renew_or_retire-gone.result) c.loop-p.invariant.same
    (rw c.named_lent-i.ensures.same at c.renew_or_retire-gone.ensures.renews) in
    let l = c.loop-p.invariant.loans in let m = c.renew_or_retire-gone.ensures.loans in record {
      renews = subst (λ k. RenewsFront (length p.w) c.args.me (rows p.iw (start p.pe c.args.me) k) p
          (workspace_of c.renew_or_retire-gone.new.work) (c.loop-p.gone + c.renew_or_retire-gone.result))
          (sym (next_place c.loop-p.auto.p))
          (class_renewed c.requires (c.loop-p.p - c.list_lent-from.result.0) (within_list c.loop-p.auto.p c.loop-p-test.true at.1)
          c.loop-p.invariant.renews c.named_lent-i.result (row_at v.iw at.0 c.loop-p.auto.p c.named_lent-i.ensures.is) told);
      same = told.same;
      loans = (m.0 ∙ l.0, m.1 ∙ l.1, m.2 ∙ l.2, m.3 ∙ l.3, m.4 ∙ l.4, m.5 ∙ l.5, m.6 ∙ l.6, m.7 ∙ l.7, m.8 ∙ l.8, m.9 ∙ l.9);
    }

pub returns-clause-renews : goal.returns-clause-renews
returns-clause-renews g c =
    let p = workspace_of c.args.work.now in let t = c.loop-p-test.false in let after : c.list_lent-from.result.0 ≤ c.loop-p.p =
    c.loop-p.auto.p in
    let count = c.list_lent-from.ensures.list.1 in
    let past : c.loop-p.p ≤ c.list_lent-from.result.0 + c.list_lent-from.result.1 = c.loop-p.auto.p-end (le-add_right _ _) in
    record {
      renews = subst (λ k. RenewsFront (length p.w) c.args.me (rows p.iw (start p.pe c.args.me) k) p (workspace_of c.loop-p.work)
          c.loop-p.gone) (omega (arith, t, after, past, count)) c.loop-p.invariant.renews;
      same = c.loop-p.invariant.same;
    }

pub returns-clause-loans : goal.returns-clause-loans
returns-clause-loans g c = c.loop-p.invariant.loans
