-- The goals of fronts::renew_or_retire.
use Rattle.std.proofs.Common.{ℕ, List, sym, ap, subst, ◌∙◌, arith, length, set, length-set, negsuc, pos}
use Rattle.std.proofs.Common.{lt_of_lt_of_le, le_of_eq}
use Rattle.std.specs.Prelude.{bit_and, min}
use Rattle.amd_words.specs.Words.{num, size_of, flip_of}
use Rattle.amd_words.proofs.SideLists.{both_long}
use Rattle.std.proofs.lemmas.Nat.{and_le_r}
use Rattle.amd_lists.proofs.Keys.{mask_small}
use Rattle.amd_lists.specs.Renewal.{key_mask}
use Rattle.amd_lists.specs.Workspaces.{workspace_of}
use Rattle.amd_fronts.specs.Fronts.{RenewsOrEnds}
use Rattle.amd_fronts.specs.Premises.{CanRetire}
use Rattle.amd_fronts.proofs.Retiring.{one_ends, one_stays, class_in, changed_in}
use Rattle.amd_fronts.proofs.fronts.renew_or_retire.Goals as goal

pub renew_class-count-requires : goal.renew_class-count-requires
renew_class-count-requires g c = c.requires.class.list

pub retire-requires : goal.retire-requires
retire-requires g c =
    let p = workspace_of c.args.work.now in let m = workspace_of c.renew_class-count.new.work in
    let r = c.requires.class in let told = c.renew_class-count.ensures.renews in let row = r.list.placed.row in let l = r.list.lengths in
    let ready : CanRetire g.P.Signed.MOST c.args.i c.args.me p.pe m.e_len p.nv = record {
      inside = (
        lt_of_lt_of_le row (le_of_eq (sym l.0)),
        lt_of_lt_of_le row (le_of_eq (sym (told.renews.e_long ∙ l.1))),
        lt_of_lt_of_le row (le_of_eq (sym l.3)),
      );
      small = r.small.0;
      marked = r.marked;
    } in
    rw (ap (λ x. x.pe) told.same, ap (λ x. x.nv) told.same) ready

pub returns-then-count-eq1 : goal.returns-then-count-eq1
returns-then-count-eq1 g c =
    let p = workspace_of c.args.work.now in let m = workspace_of c.renew_class-count.new.work in let i = c.args.i in let me = c.args.me in
    let told = c.renew_class-count.ensures.renews in let l = c.requires.class.list.lengths in let row = c.requires.class.list.placed.row in
    let e = told.renews.e_long in let out = c.retire.ensures in let same = told.same in
    let gone : ℕ = c.retire.result in
    let ends : RenewsOrEnds (length p.w) me i p (record m {
      pe = set m.pe i (flip_of me);
      e_len = set m.e_len i (negsuc 0);
      nv = set m.nv i (pos 0);
    }) gone = subst (λ x. RenewsOrEnds (length p.w) me i p (record x {
      iw = m.iw;
      pe = set x.pe i (flip_of me);
      e_len = set m.e_len i (negsuc 0);
      nv = set x.nv i (pos 0);
      len = m.len;
    }) gone) (sym same) (one_ends told.renews gone (sym told.count_is ∙ c.if-count-eq1.true) (lt_of_lt_of_le row (le_of_eq (sym l.0)))
    (lt_of_lt_of_le row (le_of_eq (sym (e ∙ l.1)))) (lt_of_lt_of_le row (le_of_eq (sym l.3)))
    (out.gone ∙ ap (λ x. size_of x.nv i) same)) in
    record {
      renews = rw (out.starts, out.lists, out.sizes) record {
        renews = ends;
        lengths = (
          length-set m.pe i (flip_of me) ∙ ap (λ x. length x.pe) same,
          length-set m.e_len i (negsuc 0) ∙ e,
          length-set m.nv i (pos 0) ∙ ap (λ x. length x.nv) same,
          ap (λ x. length x.degree) same,
          ap (λ x. length x.last) same,
        );
        same = changed_in p m (class_in p m same) (set m.pe i (flip_of me)) (set m.e_len i (negsuc 0)) (set m.nv i (pos 0)) m.degree m.last;
      };
      loans = c.renew_class-count.ensures.loans;
    }

pub lower_bound-requires : goal.lower_bound-requires
lower_bound-requires g c = let r = c.requires.class in record {
  inside = lt_of_lt_of_le r.list.placed.row
      (le_of_eq (sym (ap (λ x. length x.degree) c.renew_class-count.ensures.renews.same ∙ r.more_lengths.0)));
}

pub put_last-requires-clause-inside : goal.put_last-requires-clause-inside
put_last-requires-clause-inside g c = let r = c.requires.class in let m = c.renew_class-count.new.work in
    lt_of_lt_of_le r.list.placed.row (le_of_eq (sym (ap (λ x. length x.last) c.renew_class-count.ensures.renews.same ∙ r.more_lengths.1)
    ∙ both_long m.sides.now))

pub returns : goal.returns
returns g c =
    let p = workspace_of c.args.work.now in let m = workspace_of c.renew_class-count.new.work in let i = c.args.i in let me = c.args.me in
    let told = c.renew_class-count.ensures.renews in let same = told.same in let r = c.requires.class in let row = r.list.placed.row in
    let wide = r.more_lengths in let degree : List ℕ = c.lower_bound.new.degree in let reach : ℕ = c.renew_class-count.result.1 in
    let hash : ℕ = c.renew_class-count.result.2 in let out = c.put_last.ensures in let low = c.lower_bound.ensures in
    let last : List ℕ = set m.last i (bit_and hash (key_mask (length p.w))) in
    let stays : RenewsOrEnds (length p.w) me i p (record m { degree = degree; last = last }) 0 =
    subst (λ x. RenewsOrEnds (length p.w) me i p (record x {
      iw = m.iw;
      e_len = m.e_len;
      len = m.len;
      degree = degree;
      last = set x.last i (bit_and hash (key_mask (length p.w)));
    }) 0) (sym same)
    (one_stays told.renews degree reach hash (λ e. c.if-count-eq1.false (told.count_is ∙ e))
    (lt_of_lt_of_le row (le_of_eq (sym wide.1))) told.outside
    (low.bound ∙ ap (λ x. min (num x.degree i) reach) same) (λ x ne. low.others x ne ∙ ap (λ y. num y.degree x) same) told.hash_is) in
    record {
      renews = rw (out.lasts, out.nexts, c.requires.mask) record {
        renews = stays;
        lengths = (
          ap (λ x. length x.pe) same,
          told.renews.e_long,
          ap (λ x. length x.nv) same,
          low.long ∙ ap (λ x. length x.degree) same,
          length-set m.last i (bit_and hash (key_mask (length p.w))) ∙ ap (λ x. length x.last) same,
        );
        same = changed_in p m (class_in p m same) m.pe m.e_len m.nv degree last;
      };
      loans = c.renew_class-count.ensures.loans;
    }

pub put_last-requires-clause-fits : goal.put_last-requires-clause-fits
put_last-requires-clause-fits g c =
    let p = workspace_of c.args.work.now in let r = c.requires.class in let row = r.list.placed.row in let mask = c.requires.mask in
    let low = and_le_r c.renew_class-count.result.2 c.args.mask in let few = r.small in
    let small = mask_small (length p.w) (omega (arith, row)) in omega (arith, low, mask, small, few)
