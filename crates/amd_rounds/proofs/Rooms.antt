-- Room for a new element in a workspace: where its lists were packed, what is asked of the element that is built, and what that leaves.
use Rattle.std.proofs.Common.{ℕ, ℤ, true, false, List, ◌≡◌, ◌<◌, ◌+◌, refl, sym, ap, ◌∙◌, subst, arith, cond, length, sum_by}
use Rattle.std.specs.Prelude.{nat_le, nat_lt}
use Rattle.std.proofs.lemmas.Bool.{lt-ltb}
use Rattle.amd_model.specs.Quotient.{has, Once}
use Rattle.amd_words.specs.Words.{num, word, place, size_of}
use Rattle.amd_lists.specs.Layout.{has_list, elements_in, Layout}
use Rattle.amd_elements.specs.Beginning.{Begins}
use Rattle.amd_elements.specs.Compaction.{Compacts}
use Rattle.amd_elements.proofs.Moves.{Packs}
use Rattle.amd_elements.specs.Effects.{BeginsBuilt}
use Rattle.amd_elements.specs.Pivots.{built_front}
use Rattle.amd_elements.specs.Room.{Rooms}
use Rattle.amd_elements.specs.Premises.{CanMakeElement}
use Rattle.amd_elements.specs.declared.beginning.Begun.{Begun}
use Rattle.amd_elements.proofs.Beginnings.{begins_moved}
use Rattle.amd_elements.proofs.MakingRoom.{rooms_packed, rooms_elements, rooms_known, rooms_front, front_few}
use Rattle.amd_elements.proofs.Moves.{packs}
use Rattle.amd_elements.proofs.Settling.{lists_laid}
use Rattle.amd_lists.specs.Workspaces.{Workspace}
use Rattle.amd_lists.specs.Sizes.{AreWideEnough}
use Rattle.amd_rounds.specs.Laid.{IsLaid}
use Rattle.amd_rounds.specs.Parts.{BeginsElement, MakesRoom}
use Rattle.amd_rounds.specs.Premises.{CanBegin}

-- what an element that begins leaves is as before
pub begun_same : (p : Workspace) {v : Workspace} {iw nv pe e_len : List ℤ} {len w : List ℕ} {free n_cmp_a : ℕ} → v ≡ record p {
  iw = iw;
  nv = nv;
  pe = pe;
  e_len = e_len;
  len = len;
  w = w;
  free = free;
  n_cmp_a = n_cmp_a;
} → v ≡ record p {
  iw = v.iw;
  nv = v.nv;
  pe = v.pe;
  e_len = v.e_len;
  len = v.len;
  w = v.w;
  free = v.free;
  n_cmp_a = v.n_cmp_a;
}
begun_same p e = subst (λ (q : Workspace). q ≡ record p {
  iw = q.iw;
  nv = q.nv;
  pe = q.pe;
  e_len = q.e_len;
  len = q.len;
  w = q.w;
  free = q.free;
  n_cmp_a = q.n_cmp_a;
}) (sym e) refl

module _ {nzaat me : ℕ} {p : Workspace} (laid : IsLaid (length p.nv) nzaat p) (pivot : CanBegin (length p.nv) me p) where
  abbrev front : List ℕ
  front = built_front p me

  listed : has_list p.pe p.len me ≡ true
  listed = (laid.classes me pivot.class).0

  known : (e : ℕ) → has (elements_in p.iw p.pe p.e_len me) e ≡ true → has_list p.pe p.len e ≡ true
  known e h = laid.elements me e pivot.class h

  -- the lists were packed
  pub room_packed : (v : Workspace) → Compacts p.iw p.pe p.len p.free v.iw v.pe v.free →
      v ≡ record p { iw = v.iw; pe = v.pe; free = v.free } → nat_le (p.free + length front) (length p.iw) ≡ false →
      MakesRoom (length p.nv) me p (record v { n_cmp_a = v.n_cmp_a + 1 })
  room_packed v moved same none =
      let packed : Packs (length p.nv) p (record v { n_cmp_a = v.n_cmp_a + 1 }) =
      subst (λ n. Packs n p (record v { n_cmp_a = v.n_cmp_a + 1 })) laid.sized.len
      (packs (subst (λ n. Layout n p.iw p.pe p.e_len p.len p.free) (sym laid.sized.len) laid.laid) moved) in record {
        rooms = rooms_packed packed;
        fits = (let few = front_few (length p.nv) p.iw p.nv p.pe p.len p.free me (place (word p.e_len me)) (laid.laid.parts me listed)
            (lists_laid laid.laid me listed known) in
            let count = packed.count in let words = laid.words in let room = laid.room in omega (arith, few, count, words, room));
        packed = (let over : length p.iw < p.free + length front = grind (arith, none) in
            let is : nat_lt (length p.iw) (p.free + length front) ≡ true = lt-ltb (length p.iw) (p.free + length front) over in
            let stays : v.n_cmp_a ≡ p.n_cmp_a = ap (λ (q : Workspace). q.n_cmp_a) same in
            ap (λ m. m + 1) stays ∙ sym (ap (λ b. p.n_cmp_a + cond b 1 0) is));
        same = ap (λ (q : Workspace). record q { n_cmp_a = v.n_cmp_a + 1 }) same;
      }

  module _ {v : Workspace} (made : MakesRoom (length p.nv) me p v) where
    elements_is : elements_in v.iw v.pe p.e_len me ≡ elements_in p.iw p.pe p.e_len me
    elements_is = rooms_elements laid.laid made.rooms me listed known

    -- the workspace once there is room
    abbrev moved : Workspace
    moved = record p { iw = v.iw; pe = v.pe; free = v.free; n_cmp_a = v.n_cmp_a }

    front_is : built_front moved me ≡ front
    front_is = rooms_front laid.laid made.rooms me listed known

    -- the element can be built
    pub can_make : (most_word most_place most_cell : ℕ) → AreWideEnough most_word most_place most_cell (length p.nv) (length p.iw) →
        CanMakeElement most_place most_cell me v
    can_make most_word most_place most_cell wide = subst (λ (q : Workspace). CanMakeElement most_place most_cell me q)
        (sym made.same) (record {
          pivot = record {
            lengths = (made.rooms.p_long ∙ laid.sized.pe, laid.sized.e_len, laid.sized.len);
            end = (let a = made.rooms.lower in let b = laid.end in let c = made.rooms.long in omega (arith, a, b, c));
            laid = made.rooms.laid;
            row = (pivot.row, pivot.class);
            listed = made.rooms.listed me ∙ listed;
            clear = laid.clear;
          };
          counters = laid.sized.w;
          wide = (omega (arith, wide), (let a = wide.0 in let c = made.rooms.long in omega (arith, a, c)));
          cells = (let a = wide.1 in let c = made.rooms.long in omega (arith, a, c));
          count = (laid.classes me pivot.class).1;
          elements = record {
            listed = rooms_known laid.laid made.rooms me listed known;
            apart = ap (λ xs. has xs me) elements_is ∙ pivot.apart;
            once = subst Once (sym elements_is) pivot.once;
          };
          fits = (let a = made.fits in let b = ap length front_is in let c = made.rooms.long in omega (arith, a, b, c));
          few = (let a = pivot.few in let b = ap (sum_by (size_of p.nv)) front_is in omega (arith, a, b, wide));
        })

    module _ {v2 : Workspace} {begun : Begun} (count : 0 < place (word p.e_len me)) (built : BeginsBuilt me v v2 begun) where
      told : BeginsBuilt me moved v2 begun
      told = subst (λ (q : Workspace). BeginsBuilt me q v2 begun) made.same built

      rooms : Rooms (length p.nv) p moved
      rooms = subst (λ (q : Workspace). Rooms (length p.nv) p q) made.same made.rooms

      begins : Begins (length p.nv) me (elements_in p.iw p.pe p.e_len me) front begun.total p v2
      begins = begins_moved rooms (subst (λ xs. Begins (length p.nv) me xs front begun.total moved v2) elements_is
          (subst (λ xs. Begins (length p.nv) me (elements_in v.iw v.pe p.e_len me) xs begun.total moved v2) front_is told.begins))

      -- and it is begun over the lists as they were
      pub begun_behind : BeginsElement (length p.nv) me begun.block begun.total true p v2
      begun_behind = let s = laid.sized in record {
        front = front;
        front_is = refl;
        begins = begins;
        counters = λ e. told.counters e ∙ ap (λ xs. cond (has xs e) 0 (num p.w e)) elements_is;
        built_is = sym (lt-ltb 0 (place (word p.e_len me)) count);
        before = λ y j ne h. told.before j ne h;
        total_is = told.total ∙ ap (sum_by (size_of p.nv)) front_is;
        block_is = told.block;
        end = told.end;
        packed = ap (λ (q : Workspace). q.n_cmp_a) told.same ∙ made.packed;
        sized = record {
          pe = begins.p_long ∙ s.pe;
          e_len = begins.e_long ∙ s.e_len;
          nv = begins.wide;
          len = begins.l_long ∙ s.len;
          degree = ap (λ (q : Workspace). length q.degree) told.same ∙ s.degree;
          w = told.long ∙ s.w;
          head = ap (λ (q : Workspace). length q.head) told.same ∙ s.head;
          next = ap (λ (q : Workspace). length q.next) told.same ∙ s.next;
          last = ap (λ (q : Workspace). length q.last) told.same ∙ s.last;
          hash = ap (λ (q : Workspace). length q.hash) told.same ∙ s.hash;
        };
        same = begun_same p told.same;
      }
