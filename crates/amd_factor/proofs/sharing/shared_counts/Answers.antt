use Rattle.std.proofs.Common.{ℕ, ◌≡◌, ◌<◌, ◌-◌, ◌++◌, ◌∙◌, ap, arith, drop, length, take}
use Rattle.std.specs.Prelude.{None, Some, slice_index, slice_index_or}
use Rattle.std.proofs.lemmas.Grind.{common_steps}
use Rattle.std.proofs.lemmas.List.{take_at}
use Rattle.amd_factor.proofs.Factors.Sharing.{shared_sizes}
use Rattle.amd_factor.proofs.sharing.shared_counts.Goals as goal

pub returns : goal.returns
returns g c =
    let lists = c.share_columns.new.lists in let ends = c.tell_columns.new.ends in let links = c.tell_columns.new.link in
    let told = c.tell_columns.ensures in let places = c.share_columns.ensures.places in let firsts = c.share_columns.new.starts in
    let starts-are : c.deref.result.now ≡ lists.starts.items = c.deref.ensures.value in
    let ends-are : c.deref_mut.result.now ≡ lists.ends.items = c.deref_mut.ensures.value in
    let all : length c.deref_mut.result.now ≡ length g.o.rows = ap length ends-are ∙ places.ends in
    let sizes = take lists.ends.len (ends ++ drop (length ends) lists.ends.items) in
    let parent = take lists.link.len (links ++ drop (length links) lists.link.items) in
    let long : length ends ≡ lists.ends.len = grind (arith, common_steps) in
    let linked : length links ≡ lists.link.len = grind (arith, common_steps) in
    let sizes-are : sizes ≡ ends = take_at ends _ _ long in let parents-are : parent ≡ links = take_at links _ _ linked in
    let each : (k : ℕ) → k < length g.o.rows → slice_index sizes k ≡ slice_index lists.ends.items k - slice_index lists.starts.items k =
    (λ k low. ap (λ xs. slice_index xs k) sizes-are ∙ told.sizes.1 k (omega (arith, low, all))
    ∙ ap (λ xs. slice_index xs k - slice_index c.deref.result.now k) ends-are
    ∙ ap (λ xs. slice_index lists.ends.items k - slice_index xs k) starts-are) in
    let none : (k : ℕ) → k < length g.o.rows → slice_index lists.starts.items k ≡ slice_index lists.ends.items k →
    slice_index_or parent k None ≡ None = (λ k low same. ap (λ xs. slice_index_or xs k None) parents-are
    ∙ told.none.1 k (omega (arith, low, all)) (rw (starts-are, ends-are) same)) in
    let some : (k : ℕ) → k < length g.o.rows → slice_index lists.starts.items k < slice_index lists.ends.items k →
    slice_index_or parent k None ≡ Some (slice_index firsts k) = (λ k low less. ap (λ xs. slice_index_or xs k None) parents-are
    ∙ told.parents k (omega (arith, low, all)) (rw (starts-are, ends-are) less)) in
    let stand = c.in_ok-share_columns.ensures.shared in let first = c.in_ok-share_columns.ensures.firsts in
    let holds = shared_sizes _ g.o c.requires.1.0 lists (take c.in-Some.field-0 c.share_columns.new.rows.items) (rw c.in-Some.is at stand)
    firsts (rw c.in-Some.is at first) sizes (ap length sizes-are ∙ told.sizes.0 ∙ all) each parent
    (ap length parents-are ∙ told.none.0 ∙ all) none some in
    record { holds = holds; needs = c.need_of_sizes-need.ensures holds.columns (c.deref-2.ensures.value ∙ holds.sizes_are) }
