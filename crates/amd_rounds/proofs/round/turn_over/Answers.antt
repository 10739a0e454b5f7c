use Rattle.std.proofs.Common.{ℕ, Bool, List, ◌≡◌, refl, sym, subst, ◌∙◌, arith, length}
use Rattle.std.proofs.Common.{rules}
use Rattle.amd_lists.specs.Layout.{Layout}
use Rattle.amd_lists.specs.Sizes.{IsSized}
use Rattle.amd_lists.specs.Workspaces.{Workspace, workspace_of}
use Rattle.amd_fronts.specs.Effects.{RenewsFlag, Turns}
use Rattle.amd_fronts.specs.Fronts.{renewed_in}
use Rattle.amd_fronts.specs.Tallies.{front_at, LeavesLists}
use Rattle.amd_fronts.specs.Turning.{IsTurning, TurnsFront}
use Rattle.amd_rounds.specs.Parts.{TurnsOver}
use Rattle.amd_rounds.proofs.Begun.{turning_zeros}
use Rattle.amd_rounds.proofs.round.turn_over.Goals as goal

pub turn-requires : goal.turn-requires
turn-requires g c =
    let p = workspace_of c.args.work.now in let s = c.requires.sized in let h = c.requires.front in let f = h.front in
    let wide = c.requires.wide in let flag = c.renew_flag-work.ensures in
    let long : length c.renew_flag-work.new.w ≡ length p.nv = flag.long ∙ s.w in
    let w : length p.nv ≡ length c.renew_flag-work.new.w = sym long in
    let counting : Workspace = record p { w = c.renew_flag-work.new.w; flag = c.renew_flag-work.result } in
    record {
      lengths = ((s.pe ∙ w, s.e_len ∙ w, w, s.degree ∙ w), s.len ∙ w);
      more_lengths = (s.head ∙ w, s.next ∙ w, s.last ∙ w);
      narrow = (wide.0, (let a = wide.3 in omega (arith, a, long)));
      end = f.end;
      laid = subst (λ n. Layout n p.iw p.pe p.e_len p.len p.free) w f.laid;
      row = (let a = f.row in (omega (arith, a, long), omega (arith, a, wide), omega (arith, a, wide)));
      list = record { starts = f.list.starts; within = f.list.within; apart = f.list.apart; once = f.list.once };
      front = λ i m. subst (λ n. IsTurning n c.args.me counting i) w (turning_zeros flag.zeros (h.classes i m));
      few = (let a = h.few in let b = wide.2 in omega (arith, a, b));
      two = (flag.two, flag.under);
      fits = λ e m. let a = h.degrees e in let r = flag.room in let b = s.w in omega (arith, a, r, b);
      part = search rules;
    }

-- a front that was turned over once the flag and the counters were renewed
module _ {n most_cell flag : ℕ} {p : Workspace} {w : List ℕ} (s : IsSized n p) (renewed : RenewsFlag most_cell p.flag p.w w flag)
    (aggressive : Bool) (me gone : ℕ) (v : Workspace) where
  -- the workspace as the count reads it, and then as it is turned over
  abbrev counting : Workspace
  counting = record p { w = w; flag = flag }

  abbrev now : Workspace
  now = record (renewed_in counting v) { w = v.w; head = v.head; next = v.next }

  turned_now : Turns aggressive me counting now gone → TurnsOver aggressive n me gone most_cell p now
  turned_now told =
      let long : length w ≡ n = renewed.long ∙ s.w in let a = told.lengths in let b = told.more_lengths in
      let r = told.turns.renewed in let l = r.lengths in record {
        first = w;
        renews = renewed;
        turns = subst (λ n. TurnsFront aggressive n me counting now gone) long told.turns;
        linked = subst (λ n. LeavesLists n (front_at p me) counting now) long told.linked;
        sized = record {
          pe = b.0 ∙ long;
          e_len = l.1 ∙ s.e_len;
          nv = l.2 ∙ s.nv;
          len = r.renewed.l_long ∙ s.len;
          degree = l.3 ∙ s.degree;
          w = a.0 ∙ long;
          head = a.1 ∙ s.head;
          next = a.2 ∙ s.next;
          last = b.1 ∙ long;
          hash = s.hash;
        };
        same = refl;
      }

  turned_over : Turns aggressive me counting v gone → TurnsOver aggressive n me gone most_cell p v
  turned_over told = subst (TurnsOver aggressive n me gone most_cell p) (sym told.same)
      (turned_now (subst (λ x. Turns aggressive me counting x gone) told.same told))

pub returns : goal.returns
returns g c = record {
  turns = turned_over c.requires.sized c.renew_flag-work.ensures c.args.aggressive c.args.me c.turn.result (workspace_of c.turn.new.work)
      c.turn.ensures.turns;
  loans = c.turn.ensures.loans;
}
