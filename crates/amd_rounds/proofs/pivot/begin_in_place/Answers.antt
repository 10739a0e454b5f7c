use Rattle.std.proofs.Common.{ℕ, true≢false, [], ◌≡◌, sym, ap, subst, ◌∙◌, arith, cond, length}
use Rattle.std.specs.Prelude.{nat_lt, sum_by}
use Rattle.amd_model.specs.Quotient.{has}
use Rattle.amd_words.specs.Words.{num, word, place, start, size_of, rows}
use Rattle.amd_elements.specs.Element.{front_of}
use Rattle.amd_lists.specs.Layout.{elements_in}
use Rattle.amd_elements.specs.Beginning.{Begins}
use Rattle.amd_elements.specs.Pivots.{own_front}
use Rattle.amd_lists.specs.Workspaces.{Workspace, workspace_of}
use Rattle.amd_rounds.proofs.Rooms.{begun_same}
use Rattle.amd_rounds.proofs.pivot.begin_in_place.Goals as goal

pub begin_own-begun-requires : goal.begin_own-begun-requires
unfolding place rows has
begin_own-begun-requires g c =
    let p : Workspace = workspace_of c.args.work.now in let laid = c.requires.laid.1 in let s = laid.sized in
    let zero : place (word p.e_len c.args.me) ≡ 0 = ap place c.requires.count in
    let few = c.requires.pivot.few in let wide = c.requires.wide in
    let same = ap (λ m. sum_by (size_of p.nv) (front_of p.iw p.nv p.pe p.len c.args.me m)) zero in
    record {
      pivot = record {
        lengths = (s.pe, s.e_len, s.len);
        end = laid.end;
        laid = laid.laid;
        row = (c.requires.pivot.row, c.requires.pivot.class);
        listed = (laid.classes c.args.me c.requires.pivot.class).0;
        clear = laid.clear;
      };
      count = c.requires.count;
      few = omega (arith, few, wide, same);
    }

pub returns-clause-begins : goal.returns-clause-begins
unfolding place rows has
returns-clause-begins g c =
    let p : Workspace = workspace_of c.args.work.now in let v : Workspace = workspace_of c.begin_own-begun.new.work in
    let me : ℕ = c.args.me in let told = c.begin_own-begun.ensures.begins in let begins = told.begins in
    let s = c.requires.laid.1.sized in let zero : place (word p.e_len me) ≡ 0 = ap place c.requires.count in
    let none : [] ≡ elements_in p.iw p.pe p.e_len me = sym (ap (rows p.iw (start p.pe me)) zero) in
    record {
      front = own_front p me;
      front_is = sym (ap (front_of p.iw p.nv p.pe p.len me) zero);
      begins = subst (λ xs. Begins (length p.nv) me xs (own_front p me) c.begin_own-begun.result.total p v) none begins;
      counters = λ e. ap (λ (q : Workspace). num q.w e) told.same ∙ ap (λ xs. cond (has xs e) 0 (num p.w e)) none;
      built_is = sym (ap (nat_lt 0) zero);
      before = λ e. absurd (true≢false (sym e));
      total_is = told.total;
      block_is = told.block;
      end = (let l = begins.long in let f = c.requires.laid.1.end in let e = ap (λ (q : Workspace). q.free) told.same in
          omega (arith, l, f, e));
      packed = (let e = ap (λ (q : Workspace). q.n_cmp_a) told.same in omega (arith, e));
      sized = record {
        pe = begins.p_long ∙ s.pe;
        e_len = begins.e_long ∙ s.e_len;
        nv = begins.wide ∙ s.nv;
        len = begins.l_long ∙ s.len;
        degree = ap (λ (q : Workspace). length q.degree) told.same ∙ s.degree;
        w = ap (λ (q : Workspace). length q.w) told.same ∙ s.w;
        head = ap (λ (q : Workspace). length q.head) told.same ∙ s.head;
        next = ap (λ (q : Workspace). length q.next) told.same ∙ s.next;
        last = ap (λ (q : Workspace). length q.last) told.same ∙ s.last;
        hash = ap (λ (q : Workspace). length q.hash) told.same ∙ s.hash;
      };
      same = begun_same p told.same;
    }
