use Rattle.std.proofs.Common.{arith, [], ◌≡◌, ◌^◌, ◌<◌, ◌*◌, ◌==◌, ◌&&◌, ◌++◌, ◌∷◌, length, sym, ◌∙◌, ap, subst, is_none, not}
use Rattle.std.proofs.Common.{ℕ, ℤ, Bool, List, Option, map, pos, cond}
use Rattle.std.specs.Prelude.{flat_map, nat_eq, nat_lt, slice_index}
use Rattle.std.proofs.lemmas.Result.{IfOk-from_err}
use Rattle.amd_model.specs.Below.{list_below}
use Rattle.amd_model.specs.State.{block_at, State}
use Rattle.amd_model.specs.Run.{last_state}
use Rattle.amd_model.proofs.States.EndState.{at_the_end, IsEnd}
use Rattle.amd_types.specs.declared.amd.Status.TheVariants.{OutOfMemory}
use Rattle.amd_plain.specs.Views.{list_at, num, some_at}
use Rattle.amd_plain.specs.Starts.{ListsRun, EndsRun}
use Rattle.amd_postorder.specs.Trees.{IsByPlace, IsElementForest, IsPostorderOf, tree_of, link_of}
use Rattle.amd_plain.proofs.ListingLaw.{if_err, if_same_err, same_last, none_live, parent_small, block_small, front_small, elements}
use Rattle.amd_plain.proofs.ListingLaw.{forest_made, inside, listing_below, listed}
use Rattle.amd_model.specs.Graph.{Graph}
use Rattle.amd_model.specs.Input.Columns.{at}
use Rattle.amd_model.specs.Quotient.{QuotientGraph}
use Rattle.amd_plain.specs.Keeps.{PlainStands}
use Rattle.amd_plain.specs.declared.work.PlainWork.{PlainWork}
use Rattle.amd_plain.proofs.BlockForest.{AreElements}
use Rattle.amd_plain.proofs.listed.listing.Goals as goal

-- the end of the run that the record stands at
ended : {A : Type 0} {w : PlainWork A} (h : EndsRun w) → IsEnd h.graph h.dense (last_state h.first h.states)
ended h = at_the_end h.graph h.dense h.aggressive h.first h.states h.laws h.run

-- the elements as they were handed on, and the postorder of their tree
record AreListed {A : Type 0} (g : Graph) (s : State) (w : PlainWork A) (links nv f_size order : List ℤ) : Type 0 where
  elements : AreElements g s w.parent.items w.block.items w.front.items links nv f_size
  ordered : IsPostorderOf (tree_of g.size links nv f_size) order
  within : (k : ℕ) → k < length ordered.listing → slice_index ordered.listing k < g.size

module _ {A : Type 0} {g : Graph} {dense : ℕ → Bool} {w : PlainWork A} {t : QuotientGraph} {s : State} (st : PlainStands g dense w t s)
    (end : IsEnd g dense s) {parent : List (Option ℕ)} {b n c f : List ℕ} {x y links nv f_size : List ℤ} {len : ℕ}
    (parent_is : parent ≡ w.parent.items) (b_is : b ≡ w.block.items) (n_is : n ≡ w.block.items) (c_is : c ≡ w.block.items)
    (f_is : f ≡ w.front.items) (links_are : links ≡ map link_of parent) (nv_is : nv ≡ x) (sizes_are : f_size ≡ y)
    (nv_room : length x ≡ length b) (nv_each : (e : ℕ) → e < length b → at x e ≡ pos (cond (nat_lt 0 (num b e)) (num n e) 0))
    (sizes_room : length y ≡ length c) (sizes_each : (e : ℕ) → e < length c → at y e ≡ pos (cond (nat_lt 0 (num c e)) (num f e) 0))
    (len_is : len ≡ g.size) where
  handed : AreElements g s w.parent.items w.block.items w.front.items links nv f_size
  handed = elements g dense w t s st end parent b n c f x y links nv f_size parent_is b_is n_is c_is f_is links_are nv_is sizes_are
      (record { room = nv_room; each = nv_each }) (record { room = sizes_room; each = sizes_each })

  forest_handed : IsElementForest len links nv f_size
  forest_handed = subst (λ m. IsElementForest m links nv f_size) (sym len_is) (forest_made g dense w t s st end links nv f_size handed)

  are_listed : {order places : List ℤ} → order ≡ places → IsPostorderOf (tree_of len links nv f_size) places →
      AreListed g s w links nv f_size order
  are_listed {order} {places} order_is posted =
      let o : IsPostorderOf (tree_of g.size links nv f_size) order = subst (λ m. IsPostorderOf (tree_of m links nv f_size) order) len_is
      (subst (IsPostorderOf (tree_of len links nv f_size)) (sym order_is) posted) in record {
        elements = handed;
        ordered = o;
        within = inside g dense w t s st end links nv f_size handed order o;
      }

-- src/listed.rt:224:16
pub rows_of_elements-requires : goal.rows_of_elements-requires
rows_of_elements-requires g c =
    let h = c.requires.ended in record { led = (h.lists.home, h.stands.view.keeps.links, none_live _ _ _ _ _ h.stands (ended h)) }

-- src/listed.rt:224:16
pub returns-in_err-rows-clause-lists : goal.returns-in_err-rows-clause-lists
returns-in_err-rows-clause-lists g c = IfOk-from_err c.from_residual.result (λ p. ListsRun c.args.work.now p.items)
    c.from_residual.ensures.0

-- src/listed.rt:224:16
pub returns-in_err-rows-clause-refused : goal.returns-in_err-rows-clause-refused
returns-in_err-rows-clause-refused g c = if_err c.from_residual.result (λ e. e ≡ OutOfMemory) c.from_residual.ensures.1

-- src/listed.rt:225:18
pub parent_links-requires : goal.parent_links-requires
parent_links-requires g c =
    let h = c.requires.ended in let st = h.stands in record {
      fits = λ e p q.
          let small = parent_small _ _ _ _ _ st (ended h) e p (ap (λ xs. some_at xs e) (sym c.deref.ensures.value) ∙ q) in
          let few : length c.deref.result.now * 8 < 2 ^ 64 = (let room = c.deref.type_inv.1 in omega (arith, room)) in
          let same : length c.deref.result.now ≡ h.graph.size = ap length c.deref.ensures.value ∙ st.sized.parent in
          omega (arith, small, few, same);
    }

-- src/listed.rt:225:18
pub returns-in_err-parent-clause-lists : goal.returns-in_err-parent-clause-lists
returns-in_err-parent-clause-lists g c = IfOk-from_err c.from_residual-in_err-parent.result (λ p. ListsRun c.args.work.now p.items)
    c.from_residual-in_err-parent.ensures.0

-- src/listed.rt:225:18
pub returns-in_err-parent-clause-refused : goal.returns-in_err-parent-clause-refused
returns-in_err-parent-clause-refused g c = if_err c.from_residual-in_err-parent.result (λ e. e ≡ OutOfMemory)
    c.from_residual-in_err-parent.ensures.1

-- src/listed.rt:226:14
pub of_elements-requires-clause-lengths : goal.of_elements-requires-clause-lengths
of_elements-requires-clause-lengths g c = ap length c.deref-3.ensures.value ∙ sym (ap length c.deref-2.ensures.value)

-- src/listed.rt:226:14
pub of_elements-requires-clause-fits : goal.of_elements-requires-clause-fits
of_elements-requires-clause-fits g c = λ e some.
    let h = c.requires.ended in let w = c.args.work.now in let st = h.stands in
    let small = block_small _ _ _ _ _ st (ended h) e (subst (λ xs. 0 < num xs e) c.deref-2.ensures.value some) in
    let few : length c.deref-2.result.now * 8 < 2 ^ 64 = (let room = c.deref-2.type_inv.1 in omega (arith, room)) in
    let same : length c.deref-2.result.now ≡ h.graph.size = ap length c.deref-2.ensures.value ∙ st.sized.block in
    let is : num c.deref-3.result.now e ≡ num w.block.items e = ap (λ xs. num xs e) c.deref-3.ensures.value in
    omega (arith, small, few, same, is)

-- src/listed.rt:226:14
pub returns-in_err-nv-clause-lists : goal.returns-in_err-nv-clause-lists
returns-in_err-nv-clause-lists g c = IfOk-from_err c.from_residual-in_err-nv.result (λ p. ListsRun c.args.work.now p.items)
    c.from_residual-in_err-nv.ensures.0

-- src/listed.rt:226:14
pub returns-in_err-nv-clause-refused : goal.returns-in_err-nv-clause-refused
returns-in_err-nv-clause-refused g c = if_err c.from_residual-in_err-nv.result (λ e. e ≡ OutOfMemory) c.from_residual-in_err-nv.ensures.1

-- src/listed.rt:227:18
pub of_elements-requires-2-clause-lengths : goal.of_elements-requires-2-clause-lengths
of_elements-requires-2-clause-lengths g c =
    let st = c.requires.ended.stands in ap length c.deref-5.ensures.value ∙ st.sized.front ∙
    sym (ap length c.deref-4.ensures.value ∙ st.sized.block)

-- src/listed.rt:227:18
pub of_elements-requires-2-clause-fits : goal.of_elements-requires-2-clause-fits
of_elements-requires-2-clause-fits g c = λ e some.
    let h = c.requires.ended in let w = c.args.work.now in let st = h.stands in
    let small = front_small _ _ _ _ _ st (ended h) e (subst (λ xs. 0 < num xs e) c.deref-4.ensures.value some) in
    let few : length c.deref-4.result.now * 8 < 2 ^ 64 = (let room = c.deref-4.type_inv.1 in omega (arith, room)) in
    let same : length c.deref-4.result.now ≡ h.graph.size = ap length c.deref-4.ensures.value ∙ st.sized.block in
    let is : num c.deref-5.result.now e ≡ num w.front.items e = ap (λ xs. num xs e) c.deref-5.ensures.value in
    omega (arith, small, few, same, is)

-- src/listed.rt:227:18
pub returns-in_err-f_size-clause-lists : goal.returns-in_err-f_size-clause-lists
returns-in_err-f_size-clause-lists g c = IfOk-from_err c.from_residual-in_err-f_size.result (λ p. ListsRun c.args.work.now p.items)
    c.from_residual-in_err-f_size.ensures.0

-- src/listed.rt:227:18
pub returns-in_err-f_size-clause-refused : goal.returns-in_err-f_size-clause-refused
returns-in_err-f_size-clause-refused g c = if_err c.from_residual-in_err-f_size.result (λ e. e ≡ OutOfMemory)
    c.from_residual-in_err-f_size.ensures.1

-- src/listed.rt:228:18
pub postorder-requires-clause-forest : goal.postorder-requires-clause-forest
postorder-requires-clause-forest g c =
    let h = c.requires.ended in let st = h.stands in
    forest_handed st (ended h) c.deref.ensures.value c.deref-2.ensures.value c.deref-3.ensures.value c.deref-4.ensures.value
    c.deref-5.ensures.value (c.deref-6.ensures.value ∙ c.in_ok-parent.ensures) c.deref-7.ensures.value c.deref-8.ensures.value
    c.in_ok-nv.ensures.size c.in_ok-nv.ensures.numbers c.in_ok-f_size.ensures.size c.in_ok-f_size.ensures.numbers
    (c.len.ensures ∙ c.args.work.now.size.ok.0 ∙ st.sized.size)

-- src/listed.rt:228:18
pub postorder-requires-clause-numbers : goal.postorder-requires-clause-numbers
postorder-requires-clause-numbers g c =
    let st = c.requires.ended.stands in let w = c.args.work.now in
    let few : length c.deref-2.result.now * 8 < 2 ^ 64 = (let room = c.deref-2.type_inv.1 in omega (arith, room)) in
    let same : length c.deref-2.result.now ≡ c.requires.ended.graph.size = ap length c.deref-2.ensures.value ∙ st.sized.block in
    let size : c.len.result ≡ c.requires.ended.graph.size = c.len.ensures ∙ w.size.ok.0 ∙ st.sized.size in
    omega (arith, few, same, size)

-- src/listed.rt:228:18
pub returns-in_err-places-clause-lists : goal.returns-in_err-places-clause-lists
returns-in_err-places-clause-lists g c = IfOk-from_err c.from_residual-in_err-places.result (λ p. ListsRun c.args.work.now p.items)
    c.from_residual-in_err-places.ensures.0

-- src/listed.rt:228:18
pub returns-in_err-places-clause-refused : goal.returns-in_err-places-clause-refused
returns-in_err-places-clause-refused g c = if_same_err c.from_residual-in_err-places.result c.in_err-places.field-0.0 OutOfMemory
    c.from_residual-in_err-places.ensures.1 c.in_err-places.ensures

-- src/listed.rt:229:18
pub by_place-requires : goal.by_place-requires
by_place-requires g c =
    let h = c.requires.ended in let st = h.stands in
    let l = are_listed st (ended h) c.deref.ensures.value c.deref-2.ensures.value c.deref-3.ensures.value c.deref-4.ensures.value
    c.deref-5.ensures.value (c.deref-6.ensures.value ∙ c.in_ok-parent.ensures) c.deref-7.ensures.value c.deref-8.ensures.value
    c.in_ok-nv.ensures.size c.in_ok-nv.ensures.numbers c.in_ok-f_size.ensures.size c.in_ok-f_size.ensures.numbers
    (c.len.ensures ∙ c.args.work.now.size.ok.0 ∙ st.sized.size) c.deref-9.ensures.value c.in_ok-places.ensures in
    record { listed = (_, l.ordered, l.within) }

-- src/listed.rt:229:18
pub returns-in_err-places-2-clause-lists : goal.returns-in_err-places-2-clause-lists
returns-in_err-places-2-clause-lists g c = IfOk-from_err c.from_residual-in_err-places-2.result (λ p. ListsRun c.args.work.now p.items)
    c.from_residual-in_err-places-2.ensures.0

-- src/listed.rt:229:18
pub returns-in_err-places-2-clause-refused : goal.returns-in_err-places-2-clause-refused
returns-in_err-places-2-clause-refused g c = if_err c.from_residual-in_err-places-2.result (λ e. e ≡ OutOfMemory)
    c.from_residual-in_err-places-2.ensures.1

-- src/listed.rt:230:20
pub returns-in_err-elements-clause-lists : goal.returns-in_err-elements-clause-lists
returns-in_err-elements-clause-lists g c = IfOk-from_err c.from_residual-in_err-elements.result (λ p. ListsRun c.args.work.now p.items)
    c.from_residual-in_err-elements.ensures.0

-- src/listed.rt:230:20
pub returns-in_err-elements-clause-refused : goal.returns-in_err-elements-clause-refused
returns-in_err-elements-clause-refused g c = if_err c.from_residual-in_err-elements.result (λ e. e ≡ OutOfMemory)
    c.from_residual-in_err-elements.ensures.1

-- src/listed.rt:231:17
pub rows_in_order-requires : goal.rows_in_order-requires
rows_in_order-requires g c =
    let h = c.requires.ended in let st = h.stands in
    let l = are_listed st (ended h) c.deref.ensures.value c.deref-2.ensures.value c.deref-3.ensures.value c.deref-4.ensures.value
    c.deref-5.ensures.value (c.deref-6.ensures.value ∙ c.in_ok-parent.ensures) c.deref-7.ensures.value c.deref-8.ensures.value
    c.in_ok-nv.ensures.size c.in_ok-nv.ensures.numbers c.in_ok-f_size.ensures.size c.in_ok-f_size.ensures.numbers
    (c.len.ensures ∙ c.args.work.now.size.ok.0 ∙ st.sized.size) c.deref-9.ensures.value c.in_ok-places.ensures in
    let all : c.deref-11.result.now ≡ l.ordered.listing = c.deref-11.ensures.value ∙ c.in_ok-elements.ensures h.graph.size l.ordered.listing
    (subst (IsByPlace h.graph.size l.ordered.listing) (sym c.deref-10.ensures.value) (c.in_ok-places-2.ensures _ l.ordered l.within)) in
    record {
      range = λ k d m.
          let small = listing_below _ _ _ _ _ st (ended h) _ _ _ l.elements _ l.ordered c.deref-11.result.now all k d m in
          let room : length c.in_ok-rows.rows.items ≡ h.graph.size = c.in_ok-rows.ensures.size ∙ st.sized.link in
          omega (arith, small, room);
    }

-- src/listed.rt:231:17
pub returns-in_err-p-clause-lists : goal.returns-in_err-p-clause-lists
returns-in_err-p-clause-lists g c = IfOk-from_err c.from_residual-in_err-p.result (λ p. ListsRun c.args.work.now p.items)
    c.from_residual-in_err-p.ensures.0

-- src/listed.rt:231:17
pub returns-in_err-p-clause-refused : goal.returns-in_err-p-clause-refused
returns-in_err-p-clause-refused g c = if_err c.from_residual-in_err-p.result (λ e. e ≡ OutOfMemory) c.from_residual-in_err-p.ensures.1

-- src/listed.rt:232:5
pub add_last-requires : goal.add_last-requires
add_last-requires g c =
    let st = c.requires.ended.stands in
    let link : c.deref-12.result.now ≡ c.rows_of_elements.new.link.items = c.deref-12.ensures.value in
    let block : c.deref-13.result.now ≡ c.args.work.now.block.items = c.deref-13.ensures.value in
    record { lengths = ap length block ∙ st.sized.block ∙ sym (ap length link ∙ c.in_ok-rows.ensures.links ∙ st.sized.link) }

-- src/listed.rt:232:5
pub returns-in_err-add_last-clause-lists : goal.returns-in_err-add_last-clause-lists
returns-in_err-add_last-clause-lists g c = IfOk-from_err c.from_residual-in_err-add_last.result (λ p. ListsRun c.args.work.now p.items)
    c.from_residual-in_err-add_last.ensures.0

-- src/listed.rt:232:5
pub returns-in_err-add_last-clause-refused : goal.returns-in_err-add_last-clause-refused
returns-in_err-add_last-clause-refused g c = if_err c.from_residual-in_err-add_last.result (λ e. e ≡ OutOfMemory)
    c.from_residual-in_err-add_last.ensures.1

-- src/listed.rt:217:1
pub returns-clause-lists : goal.returns-clause-lists
returns-clause-lists g c = λ gr dense aggressive first states t run st.
    let w = c.args.work.now in let end = at_the_end gr dense aggressive first states st.view.graph run in
    let l = are_listed st end c.deref.ensures.value c.deref-2.ensures.value c.deref-3.ensures.value c.deref-4.ensures.value
    c.deref-5.ensures.value (c.deref-6.ensures.value ∙ c.in_ok-parent.ensures) c.deref-7.ensures.value c.deref-8.ensures.value
    c.in_ok-nv.ensures.size c.in_ok-nv.ensures.numbers c.in_ok-f_size.ensures.size c.in_ok-f_size.ensures.numbers
    (c.len.ensures ∙ c.args.work.now.size.ok.0 ∙ st.sized.size) c.deref-9.ensures.value c.in_ok-places.ensures in
    let all : c.deref-11.result.now ≡ l.ordered.listing = c.deref-11.ensures.value ∙ c.in_ok-elements.ensures gr.size l.ordered.listing
    (subst (IsByPlace gr.size l.ordered.listing) (sym c.deref-10.ensures.value) (c.in_ok-places-2.ensures _ l.ordered l.within)) in
    let link : c.deref-12.result.now ≡ c.rows_of_elements.new.link.items = c.deref-12.ensures.value in
    let block : c.deref-13.result.now ≡ w.block.items = c.deref-13.ensures.value in
    let rows = c.in_ok-rows.rows.items in
    let blocks : c.in_ok-p.p.items ≡ flat_map (λ e. list_at rows e ++ e ∷ []) l.ordered.listing = c.in_ok-p.ensures ∙
    ap (flat_map (λ e. list_at rows e ++ e ∷ [])) all in
    let last = same_last gr.size c.deref-12.result.now c.rows_of_elements.new.link.items c.deref-13.result.now w.block.items link
    (c.in_ok-rows.ensures.links ∙ st.sized.link) block in
    let behind = list_below (length c.deref-12.result.now) (λ v. is_none (some_at c.deref-12.result.now v) && nat_eq
    (num c.deref-13.result.now v) 0) in
    listed gr dense w t (last_state first states) st end _ _ _ l.elements _ l.ordered c.add_last.new.p.items (list_at rows)
    c.rows_of_elements.new.link.items
    (λ e small. c.in_ok-rows.ensures.rows t.home st.view.keeps.links (none_live _ _ _ _ _ st end) e
    (let room = st.sized.link in omega (arith, small, room))
    ∙ ap (λ n. list_below n (λ v. block_at e (t.home v) && not (v == e))) st.sized.link)
    c.in_ok-rows.ensures.alone
    (c.in_ok-add_last.ensures ∙ ap (λ xs. xs ++ behind) blocks
    ∙ ap (λ ys. flat_map (λ e. list_at rows e ++ e ∷ []) l.ordered.listing ++ ys) last)
