use Rattle.std.proofs.Common.{ℕ, ℤ, List, true, ◌≡◌, inl, inr, refl, sym, ap, subst, ◌∙◌, arith, length, set}
use Rattle.std.specs.Prelude.{◌==◌, ◌&&◌}
use Rattle.std.proofs.lemmas.Bool.{cases_Bool, and_from, eq-eqb}
use Rattle.amd_model.specs.Quotient.{has}
use Rattle.amd_model.proofs.Counting.Below.{clash}
use Rattle.amd_round_laws.specs.Rounds.{alike_in}
use Rattle.amd_words.specs.Words.{num, place, word}
use Rattle.amd_lists.specs.Layout.{variables_in}
use Rattle.amd_lists.specs.Chains.{Chain}
use Rattle.amd_merging.specs.Merging.{bucket, bucket_of, kept_of, words_of, is_near, HasSome, HasNone}
use Rattle.amd_merging.proofs.Likeness.{alike_counts}
use Rattle.amd_words.proofs.WordMarks.{marked_below, marked_zero}
use Rattle.std.proofs.Common.{le_refl, le-add_right, lt_of_le_of_lt, lt_irrefl, lt_of_lt_of_le, le_trans, le_of_eq, ◌+◌, ◌≤◌}
use Rattle.amd_words.specs.Sides.{nexts, lasts}
use Rattle.amd_words.proofs.SideLists.{nexts_same, lasts_same}
use Rattle.amd_words.specs.Words.{size_of, in_front}
use Rattle.amd_merging.proofs.merging.merge_one.Goals.{then-found-row_count, else-found-row_count}
use Rattle.amd_merging.proofs.merging.merge_one.Goals as goal

pub bucket_at-key-requires : goal.bucket_at-key-requires
bucket_at-key-requires g c = c.requires.ready.here.row

pub cell_at-head-requires : goal.cell_at-head-requires
cell_at-head-requires g c = lt_of_le_of_lt (le_of_eq c.bucket_at-key.ensures)
    (lt_of_lt_of_le c.requires.ready.key (le_of_eq (sym c.requires.lengths.5)))

pub push-requires : goal.push-requires
push-requires g c = record {
  inside = (
    c.requires.ready.here.row,
    lt_of_le_of_lt (le_of_eq c.bucket_at-key.ensures) (lt_of_lt_of_le c.requires.ready.key (le_of_eq (sym c.requires.lengths.5))),
  );
  short = c.requires.short.2;
}

pub push-requires-else-found-row_count : goal.push-requires-else-found-row_count
push-requires-else-found-row_count g c = record {
  inside = (
    c.requires.ready.here.row,
    lt_of_le_of_lt (le_of_eq c.bucket_at-key.ensures) (lt_of_lt_of_le c.requires.ready.key (le_of_eq (sym c.requires.lengths.5))),
  );
  short = c.requires.short.2;
}

pub find-found-requires : goal.find-found-requires
find-found-requires g c = record {
  walk = record {
    lengths = (let l = c.requires.lengths in let w = sym l.4 in (l.0 ∙ w, l.1 ∙ w, l.3 ∙ w, w));
    chain = (let next = (nexts c.args.sides.now) in
        let head_is = c.cell_at-head.ensures.is ∙ ap (num c.args.hash.now) c.bucket_at-key.ensures in
        subst (λ k. Chain (length next) next k (bucket next k)) (sym head_is) c.requires.ready.chain);
    members = (λ j h. let head_is = c.cell_at-head.ensures.is ∙ ap (num c.args.hash.now) c.bucket_at-key.ensures in
        rw c.requires.lengths.4
        (c.requires.ready.members j (subst (λ k. has (bucket (nexts c.args.sides.now) k) j ≡ true) head_is h)).renewed);
  };
  here = (rw c.requires.lengths.4 c.requires.ready.here);
  apart = (λ j h. let head_is = c.cell_at-head.ensures.is ∙ ap (num c.args.hash.now) c.bucket_at-key.ensures in
      (c.requires.ready.members j (subst (λ k. has (bucket (nexts c.args.sides.now) k) j ≡ true) head_is h)).apart);
  keys = (λ j h alike. let head_is = c.cell_at-head.ensures.is ∙ ap (num c.args.hash.now) c.bucket_at-key.ensures in
      c.requires.ready.keys j (subst (λ k. has (bucket (nexts c.args.sides.now) k) j ≡ true) head_is h) alike);
  under = (c.requires.under);
  fits = (let r = c.requires.room in omega (arith, r));
}

pub merge-requires : goal.merge-requires
merge-requires g c =
    let l = c.requires.lengths in let ready = c.requires.ready in let row = c.if-found-row_count.true in
    let next = nexts c.args.sides.now in
    let head = num c.args.hash.now (bucket_of c.args.sought.count (lasts c.args.sides.now) c.args.sought.class) in
    let head_is : c.cell_at-head.result ≡ head = c.cell_at-head.ensures.is ∙ ap (num c.args.hash.now) c.bucket_at-key.ensures in
    let in_bucket : has (bucket next head) c.find-found.result ≡ true = elim c.find-found.ensures.found [
      | inl h ↦ subst (λ k. has (bucket next k) c.find-found.result ≡ true) head_is h.1
      | inr h ↦ absurd (lt_irrefl _ (lt_of_lt_of_le row (le_of_eq (c.row_count.ensures ∙ sym h.0))))
    ] in
    let member = ready.members c.find-found.result in_bucket in record {
      lengths = (l.0 ∙ sym l.2, l.1 ∙ sym l.2);
      short = subst (λ k. k + 2 ≤ g.P.Signed.MOST) (sym l.2) c.requires.short.1;
      add = record {
        inside = (
          lt_of_lt_of_le ready.here.row (le_of_eq (sym l.2)),
          lt_of_lt_of_le row (le_of_eq (c.row_count.ensures ∙ sym l.2)),
        );
        other = member.other;
        marked = (ready.marked, member.marked);
        small = le_trans member.small (le_trans (le-add_right (length next) 2) c.requires.short.0);
      };
    }

pub overflow_add-result : goal.overflow_add-result
overflow_add-result g c = record { fits = lt_of_le_of_lt c.requires.room g.met.U.Unsigned.narrow }

pub is_compared-requires : goal.is_compared-requires
is_compared-requires g c =
    let head_is = c.cell_at-head.ensures.is ∙ ap (num c.args.hash.now) c.bucket_at-key.ensures in
    let next = nexts c.args.sides.now in record {
      bucket = record {
        lengths = (let l = c.requires.lengths in (l.1, l.3));
        chain = subst (λ k. Chain (length next) next k (bucket next k)) (sym head_is) c.requires.ready.chain;
        members = λ j h.
            (c.requires.ready.members j (subst (λ k. has (bucket next k) j ≡ true) head_is h)).renewed.counts;
      };
      class = (c.requires.ready.here.row, c.requires.ready.here.counts);
    }

-- a class that is not near is not alike
pub returns-then-not-is_compared-clause-merges : goal.returns-then-not-is_compared-clause-merges
returns-then-not-is_compared-clause-merges g c =
    let next = nexts c.args.sides.now in let last = lasts c.args.sides.now in let i : ℕ = c.args.sought.class in
    let iw : List ℤ = c.args.iw.now in let pe : List ℤ = c.args.pe.now in let e_len : List ℤ = c.args.e_len.now in
    let len : List ℕ = c.args.len.now in let head = num c.args.hash.now (bucket_of c.args.sought.count last i) in
    let key_is = c.bucket_at-key.ensures in
    let head_is : c.cell_at-head.result ≡ head = c.cell_at-head.ensures.is ∙ ap (num c.args.hash.now) key_is in
    let none : HasNone (is_near e_len len last i) (bucket next head) =
    subst (λ k. HasNone (is_near e_len len last i) (bucket next k)) head_is
    (c.is_compared.ensures.none c.if-not-is_compared.true) in record {
      settles = inr (
        λ x h. elim (cases_Bool (alike_in (kept_of iw pe e_len) (variables_in iw pe e_len len) i x)) [
          | inr f ↦ f
          | inl t ↦
              let q = alike_counts (length next) iw pe e_len len i x c.requires.ready.here (c.requires.ready.members x h).renewed t in
              clash (and_from (num last x == num last i) (num len x == num len i && place (word e_len x) == place (word e_len i))
              (eq-eqb (num last x) (num last i) (c.requires.ready.keys x h t))
              (and_from (num len x == num len i) (place (word e_len x) == place (word e_len i))
              (eq-eqb (num len x) (num len i) q.0)
              (eq-eqb (place (word e_len x)) (place (word e_len i)) q.1)))
              (none x h)
        ],
        record {
          heads = c.push.ensures.heads
              ∙ ap (λ k. set c.args.hash.now k c.args.sought.class) key_is;
          nexts = c.push.ensures.links
              ∙ ap (λ k. set next c.args.sought.class (num c.args.hash.now k)) key_is;
          links = refl;
          lists = refl;
          sizes = refl;
        },
      );
      lengths = (let l = c.requires.lengths in
          (l.0, l.1, l.2, l.3, l.4, c.push.auto.hash ∙ l.5, nexts_same _ _ c.push.auto.sides, lasts_same _ _ c.push.auto.sides ∙ l.7));
      keys = c.push.ensures.keys;
      spreads = inl (none, refl, refl);
      rises = (le_refl c.args.sought.flag, le-add_right c.args.sought.flag 1);
      under = c.requires.under;
      zeros = λ x. refl;
    }

pub returns-clause-merges : goal.returns-clause-merges
returns-clause-merges g c =
    let marks : c.if-found-row_count.counts.w.now ≡ c.find-found.new.w = elim c.if-found-row_count.branch [
      | then-found-row_count w ↦ ap (λ t. t.w.now) w.counts-is
      | else-found-row_count w ↦ ap (λ t. t.w.now) w.counts-is
    ] in
    let long : length c.if-found-row_count.counts.nv.now ≡ length c.args.counts.now.nv.now = elim c.if-found-row_count.branch [
      | then-found-row_count w ↦ ap (λ t. length t.nv.now) w.counts-is ∙ w.merge.ensures.adds.long
      | else-found-row_count w ↦ ap (λ t. length t.nv.now) w.counts-is
    ] in record {
      settles = (let next = (nexts c.args.sides.now) in let key_is = c.bucket_at-key.ensures in
          let head_is : c.cell_at-head.result
          ≡ num c.args.hash.now (bucket_of c.args.sought.count (lasts c.args.sides.now) c.args.sought.class)
          = c.cell_at-head.ensures.is ∙ ap (num c.args.hash.now) key_is in
          elim c.if-found-row_count.branch [
            | then-found-row_count w ↦ elim c.find-found.ensures.found [
              | inl h ↦ inl (
                c.find-found.result,
                subst (λ k. has (bucket next k) c.find-found.result ≡ true) head_is h.1,
                h.2,
                record {
                  links = w.pe-is ∙ w.merge.ensures.links;
                  lists = w.e_len-is ∙ w.merge.ensures.lists;
                  sizes = λ x. ap (λ t. size_of t.nv.now x) w.counts-is ∙ w.merge.ensures.adds.sizes x;
                  front = λ x. ap (λ t. in_front t.nv.now x) w.counts-is ∙ w.merge.ensures.adds.front x;
                  heads = w.hash-is;
                  nexts = ap nexts w.sides-is;
                },
              )
              | inr h ↦ absurd (lt_irrefl _ (lt_of_lt_of_le w.if-found-row_count.true (le_of_eq (c.row_count.ensures ∙ sym h.0))))
            ]
            | else-found-row_count w ↦ elim c.find-found.ensures.found [
              | inl h ↦ absurd (lt_irrefl _ (lt_of_lt_of_le h.0 (le_trans (le_of_eq (sym c.row_count.ensures)) w.if-found-row_count.false)))
              | inr h ↦ inr (
                (λ x m. h.1 x (subst (λ k. has (bucket next k) x ≡ true) (sym head_is) m)),
                record {
                  heads = w.hash-is ∙ w.push-else-found-row_count.ensures.heads
                      ∙ ap (λ k. set c.args.hash.now k c.args.sought.class) key_is;
                  nexts = ap nexts w.sides-is ∙ w.push-else-found-row_count.ensures.links
                      ∙ ap (λ k. set next c.args.sought.class (num c.args.hash.now k)) key_is;
                  links = w.pe-is;
                  lists = w.e_len-is;
                  sizes = ap (λ t. t.nv.now) w.counts-is;
                },
              )
            ]
          ]);
      lengths = (let a = c.if-found-row_count.auto in let l = c.requires.lengths in (
        a.pe ∙ l.0,
        a.e_len ∙ l.1,
        long ∙ l.2,
        l.3,
        ap length marks ∙ c.find-found.ensures.long ∙ l.4,
        a.hash ∙ l.5,
        nexts_same _ _ a.sides ∙ l.6,
        lasts_same _ _ a.sides ∙ l.7,
      ));
      keys = (elim c.if-found-row_count.branch [
        | then-found-row_count w ↦ ap lasts w.sides-is
        | else-found-row_count w ↦ ap lasts w.sides-is ∙ w.push-else-found-row_count.ensures.keys
      ]);
      rises = ((le-add_right c.args.sought.flag 1, le_refl (c.args.sought.flag + 1)));
      spreads = (let head_is = c.cell_at-head.ensures.is ∙ ap (num c.args.hash.now) c.bucket_at-key.ensures in
          inr (
            subst (λ k. HasSome (is_near c.args.e_len.now c.args.len.now (lasts c.args.sides.now) c.args.sought.class)
                (bucket (nexts c.args.sides.now) k)) head_is (c.is_compared.ensures.some c.if-not-is_compared.false),
            refl,
            λ x. ap (λ t. num t x) marks ∙ c.find-found.ensures.marked x,
          ));
      under = (λ x.
          let m = ap (λ t. num t x) marks ∙ c.find-found.ensures.marked x in
          let b = marked_below (has (words_of c.args.iw.now c.args.pe.now c.args.len.now c.args.sought.class) x) c.args.sought.flag
          (num c.args.counts.now.w.now x)
          (c.requires.under x) in
          omega (arith, m, b));
      zeros = (λ x.
          ap (λ k. k == 0) (ap (λ t. num t x) marks ∙ c.find-found.ensures.marked x)
          ∙ marked_zero (has (words_of c.args.iw.now c.args.pe.now c.args.len.now c.args.sought.class) x) c.args.sought.flag
          (num c.args.counts.now.w.now x)
          (c.requires.ready.standing x) (c.requires.under x));
    }

pub returns-clause-loans : goal.returns-clause-loans
returns-clause-loans g c = elim c.if-found-row_count.branch [
  | then-found-row_count w ↦ (ap (λ t. t.nv.ghost_name) w.counts-is, ap (λ t. t.w.ghost_name) w.counts-is)
  | else-found-row_count w ↦ (ap (λ t. t.nv.ghost_name) w.counts-is, ap (λ t. t.w.ghost_name) w.counts-is)
]
