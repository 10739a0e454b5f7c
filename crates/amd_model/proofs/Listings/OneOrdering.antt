-- The rules leave one ordering: two runs by them from the same lists end in one tree, and list the same rows.
use Rattle.std.proofs.Common.{ℕ, Bool, false, ◌≡◌, inl, inr, refl, sym, ◌∙◌, ap, subst, List, ◌++◌, Option}
use Rattle.std.proofs.lemmas.Bool.{cases_eq, true≢false}
use Rattle.amd_model.specs.Below.{list_below}
use Rattle.amd_model.specs.Graph.{Graph}
use Rattle.amd_model.specs.State.{State, Home, live, stands, holds, joined, neighbours, front}
use Rattle.amd_model.specs.Step.{StepAt, absorbed, other, outer, mass, block, border_of}
use Rattle.amd_model.specs.Run.{last_state}
use Rattle.amd_model.specs.Listing.{Tree, children, roots, assembly_tree, block_list, weight, IsPostorder, ListsTrees, none as no_tree}
use Rattle.amd_model.specs.Listing.{more as one_more}
use Rattle.amd_model.specs.Figures.{figure, is_made, greatest_front}
use Rattle.amd_model.specs.Quotient.{QuotientGraph, Fits, is_empty, pivot, next, start_quotient}
use Rattle.amd_model.specs.Ordering.{Follows, none, more, SameTree, OneOrdering}
use Rattle.amd_model.proofs.States.Words.{class_gives, live_from}
use Rattle.amd_model.proofs.Quotient.Lists.{some_of}

-- a state without its bounds
bare : (ℕ → Home) → (ℕ → ℕ → Bool) → (ℕ → Option ℕ) → State
bare home border parent = record { home = home; bound = λ i. 0; border = border; parent = parent }

-- what is one tree is one state, but for its bounds
bare_same : (s t : State) → SameTree s t → bare s.home s.border s.parent ≡ bare t.home t.border t.parent
bare_same s t same = λ i. bare (λ v. same.home v i) (λ e v. same.border e v i) (λ e. same.parent e i)

-- the border of a new element reads no bound
border_bare : (g : Graph) (aggressive : Bool) (s : State) (c v : ℕ) →
    border_of g aggressive s c v ≡ border_of g aggressive (bare s.home s.border s.parent) c v
unfolding bare border_of block mass front other absorbed outer neighbours joined holds stands
border_bare g aggressive s c v = refl

border_same : (g : Graph) (aggressive : Bool) (s t : State) (c v : ℕ) → SameTree s t →
    border_of g aggressive s c v ≡ border_of g aggressive t c v
border_same g aggressive s t c v same =
    border_bare g aggressive s c v ∙ ap (λ x. border_of g aggressive x c v) (bare_same s t same) ∙ sym (border_bare g aggressive t c v)

-- the assembly tree reads no bound
tree_bare : (g : Graph) (s : State) → assembly_tree g s ≡ assembly_tree g (bare s.home s.border s.parent)
unfolding bare weight block_list
tree_bare g s = refl

tree_same : (g : Graph) (s t : State) → SameTree s t → assembly_tree g s ≡ assembly_tree g t
tree_same g s t same = tree_bare g s ∙ ap (assembly_tree g) (bare_same s t same) ∙ sym (tree_bare g t)

-- nor do the figures
figure_bare : (share : ℕ → ℕ) (g : Graph) (dense : ℕ → Bool) (s : State) →
    figure share g dense s ≡ figure share g dense (bare s.home s.border s.parent)
unfolding bare figure is_made
figure_bare share g dense s = refl

pub figure_same : (share : ℕ → ℕ) (g : Graph) (dense : ℕ → Bool) (s t : State) → SameTree s t →
    figure share g dense s ≡ figure share g dense t
figure_same share g dense s t same =
    figure_bare share g dense s ∙ ap (figure share g dense) (bare_same s t same) ∙ sym (figure_bare share g dense t)

greatest_bare : (g : Graph) (dense : ℕ → Bool) (s : State) →
    greatest_front g dense s ≡ greatest_front g dense (bare s.home s.border s.parent)
unfolding bare greatest_front is_made
greatest_bare g dense s = refl

pub greatest_same : (g : Graph) (dense : ℕ → Bool) (s t : State) → SameTree s t → greatest_front g dense s ≡ greatest_front g dense t
greatest_same g dense s t same = greatest_bare g dense s ∙ ap (greatest_front g dense) (bare_same s t same) ∙ sym (greatest_bare g dense t)

-- two states that the same lists stand for have the same rows and parents
one_tree : (g : Graph) (t : QuotientGraph) (s u : State) → Fits g t s → Fits g t u → ((e v : ℕ) → s.border e v ≡ u.border e v) →
    SameTree s u
one_tree g t s u a b borders = record {
  home = λ v. sym (a.home v) ∙ b.home v;
  border = borders;
  parent = λ e. sym (a.parent e) ∙ b.parent e;
}

-- steps with the same pivot leave the same borders
borders_step : (g : Graph) (aggressive : Bool) (c : ℕ) (s t new old : State) → SameTree s t → StepAt g aggressive c s new →
    StepAt g aggressive c t old →
    (e v : ℕ) → new.border e v ≡ old.border e v
borders_step g aggressive c s t new old same a b e v = elim (cases_eq e c) [
  | inl q ↦ ap (λ x. new.border x v) q ∙ a.made v ∙ border_same g aggressive s t c v same ∙ sym (b.made v) ∙
      sym (ap (λ x. old.border x v) q)
  | inr n ↦ a.border_stays e v n ∙ same.border e v ∙ sym (b.border_stays e v n)
]

-- where the lists have a class left, a row is live
still_live : (g : Graph) (t : QuotientGraph) (s : State) → Fits g t s → is_empty t.placed ≡ false → ((v : ℕ) → live s v ≡ false) → ⊥
still_live g t s fits some over =
    let i = some_of t.placed some in
    true≢false (sym (live_from i.0 (s.home i.0) (class_gives i.0 (s.home i.0) (sym (fits.placed i.0) ∙ i.1))) ∙ over i.0)

-- from lists that stand for both, states that follow the rules end in one tree
ends_same : (g : Graph) (aggressive : Bool) (t u w : QuotientGraph) (s x : State) (states others : List State) →
    Follows g aggressive t s states u → Follows g aggressive t x others w →
    Fits g t s → Fits g t x → SameTree s x → ((v : ℕ) → live (last_state s states) v ≡ false) →
    ((v : ℕ) → live (last_state x others) v ≡ false) →
    SameTree (last_state s states) (last_state x others)
ends_same g aggressive t u w s x _ _ none none a b same over end = same
ends_same g aggressive t u w s x _ _ none (more some step fits later) a b same over end = absurd (still_live g t s a some over)
ends_same g aggressive t u w s x _ _ (more some step fits later) none a b same over end = absurd (still_live g t x b some end)
ends_same g aggressive t u w s x _ _ (more {new = new} {rest = rest} some step fits later)
    (more {new = old} {rest = tail} some' step' fits' later') a b same over end =
    ends_same g aggressive (next aggressive t) u w new old rest tail later later' fits fits'
    (one_tree g (next aggressive t) new old fits fits' (borders_step g aggressive (pivot t.bound t.placed) s x new old same step step'))
    over end

-- subtrees have one listing
lists_one : (t : Tree) (es xs ys : List ℕ) → ListsTrees t es xs → ListsTrees t es ys → xs ≡ ys
lists_one t _ _ _ no_tree no_tree = refl
lists_one t _ _ _ (one_more {e = e} {rest = rest} {below = below} {after = after} inner outer)
    (one_more {below = below'} {after = after'} inner' outer') =
    let b = lists_one t (children t e) below below' inner inner' in let a = lists_one t rest after after' outer outer' in
    λ i. b i ++ (t.block e ++ a i)

-- a tree has one listing
postorder_one : (g : Graph) (dense : ℕ → Bool) (s t : State) (p q : List ℕ) → SameTree s t → IsPostorder g dense s p →
    IsPostorder g dense t q → p ≡ q
postorder_one g dense s t p q same a b =
    let here : ListsTrees (assembly_tree g s) (roots (assembly_tree g s)) b.blocks =
    subst (λ k. ListsTrees k (roots k) b.blocks) (sym (tree_same g s t same)) b.lists in
    a.is ∙ ap (λ xs. xs ++ list_below g.size dense) (lists_one (assembly_tree g s) (roots (assembly_tree g s)) a.blocks b.blocks a.lists
    here) ∙ sym b.is

pub one_ordering : OneOrdering
one_ordering g dense aggressive lists first other states others p q a b =
    let start = one_tree g (start_quotient g dense lists) first other a.starts b.starts
    (λ e v. a.run.start.borders e v ∙ sym (b.run.start.borders e v)) in
    let same = ends_same g aggressive (start_quotient g dense lists) a.end b.end first other states others a.follows b.follows a.starts
    b.starts
    start a.run.end b.run.end in
    (postorder_one g dense (last_state first states) (last_state other others) p q same a.listing b.listing, same)
