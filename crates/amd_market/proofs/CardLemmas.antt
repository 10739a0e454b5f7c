-- What the words of a card spell, and that others spell nothing.
use Rattle.std.proofs.Common.{◌≡◌, ◌<◌, ◌∙◌, ◌*◌, ◌+◌, ℕ, zero, suc, pos, Bool, true, false, List, [], ◌∷◌, ◌++◌, length}
use Rattle.std.proofs.Common.{take, drop, get_or}
use Rattle.std.proofs.Common.{refl, sym, ap, subst, cond, arith, Option, Some, None, inl, inr}
use Rattle.std.specs.Prelude.{◌==◌, ◌||◌, All, MatchOption, slice_index}
use Rattle.std.specs.Char.{to_ascii_lowercase, digit_value}
use Rattle.std.specs.Str.Parse.{AllDigits, without_leading_sign}
use Rattle.std.proofs.lemmas.Bool.{eqb-true}
use Rattle.std.proofs.lemmas.Grind.{common_steps}
use Rattle.std.proofs.lemmas.List.{get_or-take, length-take}
use Rattle.std.proofs.lemmas.List.Quantifiers.{position-Some}
use Rattle.std.proofs.lemmas.List.Sums.{fails_before_first}
use Rattle.std.specs.List.{position, position_or_len}
use Rattle.amd_lines.specs.Words.{words, SpellsNumber}
use Rattle.amd_market.specs.Boeing.{is_whole_letter, IsCount, SpellsCounts, SpellsSides, SpellsSizes, SpellsType}
use Rattle.amd_market.specs.Boeing.{SpellsRepeat, SpellsWidth, SpellsItem, SpellsGroup, AreGroups, SpellsSkip, SpellsSkipped}
use Rattle.amd_market.specs.Boeing.{SpellsFormat, SpellsFormats, SpellsKind, joined, kept_byte, depth_behind}
use Rattle.amd_market.specs.Boeing.{is_point, is_comma, is_bracket, bare, pointed}
use Rattle.amd_market.specs.Faults.{HasTypeFault, HasCardFault}
use Rattle.amd_market.specs.declared.sources.Letters.{Letters}
use Rattle.amd_market.specs.declared.formats.Layout.{Layout}
use Rattle.amd_market.specs.declared.formats.Fields.{Fields}
use Rattle.amd_market.specs.declared.faults.ReadFault.{ReadFault}
use Rattle.amd_market.specs.declared.faults.ReadFault.TheVariants as fault

-- what stands behind a first word is the same in two readings, and so is the word
pub same-rest : {X : Type 0} (ws us vs : List X) (u v : X) → ws ≡ u ∷ us → ws ≡ v ∷ vs → us ≡ vs
same-rest ws us vs u v h k = let e : u ∷ us ≡ v ∷ vs = sym h ∙ k in cc

pub same-first : {X : Type 0} (ws us vs : List X) (u v : X) → ws ≡ u ∷ us → ws ≡ v ∷ vs → u ≡ v
same-first ws us vs u v h k = let e : u ∷ us ≡ v ∷ vs = sym h ∙ k in cc

-- what stands behind three words
behind-three : (ws vs us ts : List (List ℕ)) (w v u : List ℕ) → ws ≡ w ∷ vs → vs ≡ v ∷ us → us ≡ u ∷ ts → (k : ℕ) →
    (h : SpellsCounts ws k) → ts ≡ h.fourth ∷ h.behind
behind-three ws vs us ts w v u one two three k h =
    let rest = same-rest ws vs _ w h.first one h.parts in
    let more = same-rest vs us _ v h.second two rest in
    same-rest us ts _ u h.third three more

-- what stands behind four numbers tells no number of right-hand sides
no-sides : (ws vs us ts rs : List (List ℕ)) (w v u t : List ℕ) → ws ≡ w ∷ vs → vs ≡ v ∷ us → us ≡ u ∷ ts → ts ≡ t ∷ rs →
    ((k : ℕ) → SpellsSides rs k → ⊥) → (k : ℕ) → SpellsCounts ws k → ⊥
no-sides ws vs us ts rs w v u t one two three four none k h =
    let rest = same-rest ts rs _ t h.fourth four (behind-three ws vs us ts w v u one two three k h) in
    none k (subst (λ z. SpellsSides z k) (sym rest) h.has_sides)

-- four numbers, and what stands behind them
pub counts-option : (ws vs us ts rs : List (List ℕ)) (w v u t : List ℕ) (o : Option ℕ) → ws ≡ w ∷ vs → vs ≡ v ∷ us → us ≡ u ∷ ts →
    ts ≡ t ∷ rs → IsCount w → IsCount v → IsCount u → IsCount t →
    MatchOption o ((k : ℕ) → SpellsSides rs k → ⊥) (SpellsSides rs) →
    MatchOption o ((k : ℕ) → SpellsCounts ws k → ⊥) (SpellsCounts ws)
counts-option ws vs us ts rs w v u t None one two three four a b c d none =
    no-sides ws vs us ts rs w v u t one two three four none
counts-option ws vs us ts rs w v u t (Some k) one two three four a b c d spells = record {
  first = w;
  second = v;
  third = u;
  fourth = t;
  behind = rs;
  parts = one ∙ ap (λ z. w ∷ z) (two ∙ ap (λ z. v ∷ z) (three ∙ ap (λ z. u ∷ z) four));
  has_first = a;
  has_second = b;
  has_third = c;
  has_fourth = d;
  has_sides = spells;
}

-- a third line whose first word is at fault, or what stands behind it
pub card-type : (f : ReadFault) (line word : List ℕ) (behind : List (List ℕ)) → words line ≡ word ∷ behind → HasTypeFault f word →
    HasCardFault f line
card-type fault.Kind line word behind parts none = λ s r c e h. none s
    (subst (λ z. SpellsType z s) (same-first (words line) _ _ h.word word h.parts parts) h.has_type)
card-type fault.Elemental line word behind parts has = (word, (behind, (parts, has)))
card-type f line word behind parts has = absurd has

pub no-sizes : (line word : List ℕ) (behind : List (List ℕ)) → words line ≡ word ∷ behind →
    ((r c e : ℕ) → SpellsSizes behind r c e → ⊥) → (t : Letters) → (r c e : ℕ) → SpellsKind line t r c e → ⊥
no-sizes line word behind parts none s r c e h = none r c e
    (subst (λ z. SpellsSizes z r c e) (same-rest (words line) _ behind h.word word h.parts parts) h.has_sizes)

-- a fourth line whose first or second word is no format
pub no-pointer-format : (ws behind : List (List ℕ)) (first : List ℕ) → ws ≡ first ∷ behind →
    ((f : Fields) → SpellsFormat first f → ⊥) → (l : Layout) → SpellsFormats ws l → ⊥
no-pointer-format ws behind first parts none l h = none l.pointers
    (subst (λ z. SpellsFormat z l.pointers) (same-first ws _ _ h.first first h.parts parts) h.has_pointers)

pub no-row-format : (ws us vs : List (List ℕ)) (first second : List ℕ) → ws ≡ first ∷ us → us ≡ second ∷ vs →
    ((f : Fields) → SpellsFormat second f → ⊥) → (l : Layout) → SpellsFormats ws l → ⊥
no-row-format ws us vs first second one two none l h =
    let rest = same-rest ws _ us h.first first h.parts one in none l.rows
    (subst (λ z. SpellsFormat z l.rows) (same-first us _ _ h.second second (sym rest) two) h.has_rows)

-- none of the bytes passes
abbrev pub NoneOf : (ℕ → Bool) → List ℕ → Type 0
NoneOf p [] = Unit {0}
NoneOf p (b ∷ bs) = (p b ≡ false) × NoneOf p bs

pub none-of : (p : ℕ → Bool) (bs : List ℕ) → All (λ b. p b ≡ false) bs → NoneOf p bs
none-of p [] h = tt
none-of p (b ∷ bs) h = (h 0 0 (omega arith), none-of p bs (λ i d l. h (suc i) d (omega (arith, l))))

all-none : (p : ℕ → Bool) (bs : List ℕ) → NoneOf p bs → All (λ b. p b ≡ false) bs
all-none p [] h i d l = absurd (omega arith)
all-none p (b ∷ bs) h zero d l = h.0
all-none p (b ∷ bs) h (suc i) d l = all-none p bs h.1 i d (omega (arith, l))

-- a number is written without bytes of a kind: neither digits nor signs are of it
abbrev pub IsForeign : (ℕ → Bool) → Type 0
IsForeign p = ((b : ℕ) → digit_value b < 10 → p b ≡ false) × (p 45 ≡ false) × (p 43 ≡ false)

letter-foreign : IsForeign is_whole_letter
letter-foreign = (none, refl, refl)
  where
    none : (b : ℕ) → digit_value b < 10 → is_whole_letter b ≡ false
    none b h = at (b == 105) (b == 73) refl refl
      where
        at : (x y : Bool) → (b == 105) ≡ x → (b == 73) ≡ y → (x || y) ≡ false
        at true y p q = let small = subst (λ z. digit_value z < 10) (eqb-true b 105 p) h in absurd (omega (arith, small))
        at false true p q = let small = subst (λ z. digit_value z < 10) (eqb-true b 73 q) h in absurd (omega (arith, small))
        at false false p q = refl

point-foreign : IsForeign is_point
point-foreign = (none, refl, refl)
  where
    none : (b : ℕ) → digit_value b < 10 → is_point b ≡ false
    none b h = at (b == 46) refl
      where
        at : (x : Bool) → (b == 46) ≡ x → x ≡ false
        at true p = let small = subst (λ z. digit_value z < 10) (eqb-true b 46 p) h in absurd (omega (arith, small))
        at false p = refl

comma-foreign : IsForeign is_comma
comma-foreign = (none, refl, refl)
  where
    none : (b : ℕ) → digit_value b < 10 → is_comma b ≡ false
    none b h = at (b == 44) refl
      where
        at : (x : Bool) → (b == 44) ≡ x → x ≡ false
        at true p = let small = subst (λ z. digit_value z < 10) (eqb-true b 44 p) h in absurd (omega (arith, small))
        at false p = refl

bracket-foreign : IsForeign is_bracket
bracket-foreign = (none, refl, refl)
  where
    none : (b : ℕ) → digit_value b < 10 → is_bracket b ≡ false
    none b h = at (b == 40) refl
      where
        at : (x : Bool) → (b == 40) ≡ x → x ≡ false
        at true p = let small = subst (λ z. digit_value z < 10) (eqb-true b 40 p) h in absurd (omega (arith, small))
        at false p = refl

digits-none : (p : ℕ → Bool) → IsForeign p → (bs : List ℕ) → AllDigits 10 bs → NoneOf p bs
digits-none p f [] h = tt
digits-none p f (b ∷ bs) h = (f.0 b h.0, digits-none p f bs h.1)

-- a number has no such byte, and neither has the front of a format
number-none : (p : ℕ → Bool) → IsForeign p → (w : List ℕ) → AllDigits 10 (without_leading_sign w) → NoneOf p w
number-none p f [] h = tt
number-none p f (c ∷ cs) h = at (c == 45) (c == 43) refl refl h
  where
    at : (x y : Bool) → (c == 45) ≡ x → (c == 43) ≡ y →
        AllDigits 10 (cond x cs (drop (cond y 1 0) (c ∷ cs))) → NoneOf p (c ∷ cs)
    at true y e q d = (subst (λ z. p z ≡ false) (sym (eqb-true c 45 e)) f.1, digits-none p f cs d)
    at false true e q d = (subst (λ z. p z ≡ false) (sym (eqb-true c 43 q)) f.2, digits-none p f cs d)
    at false false e q d = (f.0 c d.0, digits-none p f cs d.1)

repeat-none : (p : ℕ → Bool) → IsForeign p → (front : List ℕ) (k : ℕ) → SpellsRepeat front k → NoneOf p front
repeat-none p f [] k h = tt
repeat-none p f (b ∷ bs) k h = number-none p f (b ∷ bs) h.numeral.1

-- the letter is that of whole numbers, in either case
low-whole : (b : ℕ) → to_ascii_lowercase b ≡ 105 → is_whole_letter b ≡ true
low-whole b h = at (b == 105) (b == 73) refl refl
  where
    at : (x y : Bool) → (b == 105) ≡ x → (b == 73) ≡ y → (x || y) ≡ true
    at true y p q = refl
    at false true p q = refl
    at false false p q = grind arith

-- a text is parted at its first byte that passes in one way
parted : (p : ℕ → Bool) (f g b c : List ℕ) (l m : ℕ) → NoneOf p f → NoneOf p g → p l ≡ true → p m ≡ true →
    f ++ l ∷ b ≡ g ++ m ∷ c → (f ≡ g) × (b ≡ c)
parted p [] [] b c l m h k x y e = (refl, cc)
parted p [] (z ∷ g) b c l m h k x y e =
    let same : l ≡ z = cc in let one = subst (λ v. p v ≡ true) same x in let other = k.0 in cc
parted p (z ∷ f) [] b c l m h k x y e =
    let same : z ≡ m = cc in let one = subst (λ v. p v ≡ true) (sym same) y in let other = h.0 in cc
parted p (z ∷ f) (v ∷ g) b c l m h k x y e =
    let same : z ≡ v = cc in
    let rest : f ++ l ∷ b ≡ g ++ m ∷ c = cc in
    let both = parted p f g b c l m h.1 k.1 x y rest in
    (rw (same, both.0) refl, both.1)

none-at : (p : ℕ → Bool) (f b : List ℕ) (l : ℕ) → NoneOf p (f ++ l ∷ b) → p l ≡ true → ⊥
none-at p [] b l h x = let other = h.0 in cc
none-at p (z ∷ f) b l h x = none-at p f b l h.1 x

-- what stands between parentheses is one text
inner-last : (t u : List ℕ) → t ++ 41 ∷ [] ≡ u ++ 41 ∷ [] → t ≡ u
inner-last [] [] e = refl
inner-last [] (y ∷ u) e = absurd (short u (let rest : [] ≡ u ++ 41 ∷ [] = cc in rest))
  where
    short : (v : List ℕ) → [] ≡ v ++ 41 ∷ [] → ⊥
    short [] h = cc
    short (z ∷ v) h = cc
inner-last (x ∷ t) [] e = absurd (short t (let rest : t ++ 41 ∷ [] ≡ [] = cc in rest))
  where
    short : (v : List ℕ) → v ++ 41 ∷ [] ≡ [] → ⊥
    short [] h = cc
    short (z ∷ v) h = cc
inner-last (x ∷ t) (y ∷ u) e =
    let same : x ≡ y = cc in
    let rest : t ++ 41 ∷ [] ≡ u ++ 41 ∷ [] = cc in
    let more = inner-last t u rest in rw (same, more) refl

pub inner-same : (word t u : List ℕ) → word ≡ 40 ∷ (t ++ 41 ∷ []) → word ≡ 40 ∷ (u ++ 41 ∷ []) → t ≡ u
inner-same word t u h k = let e : t ++ 41 ∷ [] ≡ u ++ 41 ∷ [] = same-rest word _ _ 40 40 h k in inner-last t u e

-- the parts of what says fields
pub item-parts : (text front back : List ℕ) (letter : ℕ) → text ≡ front ++ letter ∷ back → to_ascii_lowercase letter ≡ 105 →
    All (λ b. is_whole_letter b ≡ false) front → (k w : ℕ) → (h : SpellsItem text k w) → (front ≡ h.front) × (back ≡ h.back)
item-parts text front back letter parts low none k w h =
    parted is_whole_letter front h.front back h.back letter h.letter (none-of is_whole_letter front none)
    (repeat-none is_whole_letter letter-foreign h.front k h.repeated)
    (low-whole letter low) (low-whole h.letter h.is_whole) (sym parts ∙ h.parts)

pub no-item-letter : (text : List ℕ) → All (λ b. is_whole_letter b ≡ false) text → (k w : ℕ) → SpellsItem text k w → ⊥
no-item-letter text none k w h =
    none-at is_whole_letter h.front h.back h.letter (subst (NoneOf is_whole_letter) h.parts (none-of is_whole_letter text none))
    (low-whole h.letter h.is_whole)

-- where no byte is found that passes, none does, and none before the first that does
pub position-none : (p : ℕ → Bool) (bs : List ℕ) → position p bs ≡ None → All (λ b. p b ≡ false) bs
position-none p bs e = λ i d l. fails_before_first p bs i d (within i l)
  where
    within : (i : ℕ) → i < length bs → i < position_or_len p bs
    within i l = grind (arith, common_steps)

pub position-before : (p : ℕ → Bool) (bs : List ℕ) (place : ℕ) → position p bs ≡ Some place →
    All (λ b. p b ≡ false) (take place bs)
position-before p bs place e = λ i d l.
    let size = length-take place bs in
    let low : i < place = omega (arith, size, l) in
    ap p (get_or-take place bs i d low) ∙ (position-Some p bs place d e).2 i low

-- two numbers that a word spells are one
number-same : (w : List ℕ) (j k : ℕ) → SpellsNumber w (pos j) → SpellsNumber w (pos k) → j ≡ k
number-same w j k h i = let e : pos j ≡ pos k = h.value ∙ sym i.value in cc

repeat-same : (front : List ℕ) (j k : ℕ) → SpellsRepeat front j → SpellsRepeat front k → j ≡ k
repeat-same [] j k h i = h ∙ sym i
repeat-same (b ∷ bs) j k h i = number-same (b ∷ bs) j k h i

-- the back of a format says no width: it has no point and is no number, or one of its two parts is none
pub no-width-bare : (back : List ℕ) → All (λ b. is_point b ≡ false) back → ((k : ℕ) → SpellsNumber back (pos k) → ⊥) → (w : ℕ) →
    SpellsWidth back w → ⊥
no-width-bare back none other w h = elim h [
  | bare s ↦ other w s
  | pointed front digits least parts a b ↦
      none-at is_point front digits 46 (subst (NoneOf is_point) parts (none-of is_point back none)) refl
]

-- a back with a point has one front and one number of digits
abbrev Pointed : List ℕ → List ℕ → ℕ → Type 0
Pointed front digits w = SpellsNumber front (pos w) × ((m : ℕ) × SpellsNumber digits (pos m))

pub width-parts : (back front digits : List ℕ) → back ≡ front ++ 46 ∷ digits → All (λ b. is_point b ≡ false) front → (w : ℕ) →
    SpellsWidth back w → Pointed front digits w
width-parts back front digits parts none w h = elim h [
  | bare s ↦ absurd (none-at is_point front digits 46
      (subst (NoneOf is_point) parts (number-none is_point point-foreign back s.numeral.1)) refl)
  | pointed f d least whole a b ↦
      let same = parted is_point front f digits d 46 46 (none-of is_point front none)
      (number-none is_point point-foreign f a.numeral.1) refl refl (sym parts ∙ whole) in (
        subst (λ z. SpellsNumber z (pos w)) (sym same.0) a,
        (least, subst (λ z. SpellsNumber z (pos least)) (sym same.1) b),
      )
]

width-same : (back : List ℕ) (v w : ℕ) → SpellsWidth back v → SpellsWidth back w → v ≡ w
width-same back v w h k = elim h [
  | bare s ↦ elim k [
    | bare t ↦ number-same back v w s t
    | pointed front digits least parts a b ↦
        absurd (none-at is_point front digits 46 (subst (NoneOf is_point) parts (number-none is_point point-foreign back s.numeral.1)) refl)
  ]
  | pointed front digits least parts a b ↦
      number-same front v w a (width-parts back front digits parts (all-none is_point front
      (number-none is_point point-foreign front a.numeral.1)) w k).0
]

-- the width that a back says, where it is read
pub width-option : (back : List ℕ) (o : Option ℕ) → All (λ b. is_point b ≡ false) back →
    MatchOption o ((k : ℕ) → SpellsNumber back (pos k) → ⊥) (λ k. SpellsNumber back (pos k)) →
    MatchOption o ((w : ℕ) → SpellsWidth back w → ⊥) (SpellsWidth back)
width-option back None none other = no-width-bare back none other
width-option back (Some k) none s = bare s

pub pointed-option : (back front digits : List ℕ) (least : ℕ) (o : Option ℕ) → back ≡ front ++ 46 ∷ digits →
    All (λ b. is_point b ≡ false) front → SpellsNumber digits (pos least) →
    MatchOption o ((k : ℕ) → SpellsNumber front (pos k) → ⊥) (λ k. SpellsNumber front (pos k)) →
    MatchOption o ((w : ℕ) → SpellsWidth back w → ⊥) (SpellsWidth back)
pointed-option back front digits least None parts none d other = λ w h. other w (width-parts back front digits parts none w h).0
pointed-option back front digits least (Some k) parts none d s = pointed front digits least parts s d

-- a text says one number of fields, and one width
pub item-same : (text front back : List ℕ) (j v k w : ℕ) → SpellsRepeat front j → SpellsWidth back v →
    (h : SpellsItem text k w) → (front ≡ h.front) × (back ≡ h.back) → (j ≡ k) × (v ≡ w)
item-same text front back j v k w repeated wide h same = (
  repeat-same front j k repeated (subst (λ z. SpellsRepeat z k) (sym same.0) h.repeated),
  width-same back v w wide (subst (λ z. SpellsWidth z w) (sym same.1) h.wide),
)

items-same : (text : List ℕ) (j v k w : ℕ) → SpellsItem text j v → SpellsItem text k w → j ≡ k
items-same text j v k w g h =
    (item-same text g.front g.back j v k w g.repeated g.wide h
    (item-parts text g.front g.back g.letter g.parts g.is_whole
    (all-none is_whole_letter g.front (repeat-none is_whole_letter letter-foreign g.front j g.repeated)) k w h)).0

groups-same : (word : List ℕ) (j v k w : ℕ) → SpellsGroup word j v → SpellsGroup word k w → j ≡ k
groups-same word j v k w g h =
    let same = inner-same word g.inner h.inner g.parts h.parts in
    items-same g.inner j v k w g.item (subst (λ z. SpellsItem z k w) (sym same) h.item)

-- a group is what its parentheses hold
pub group-option : (word inner : List ℕ) (o : Option Fields) → word ≡ 40 ∷ (inner ++ 41 ∷ []) →
    MatchOption o ((k w : ℕ) → SpellsItem inner k w → ⊥) (λ f. (f.skipped ≡ 0) × SpellsItem inner f.per_line f.width) →
    MatchOption o ((k w : ℕ) → SpellsGroup word k w → ⊥) (λ f. (f.skipped ≡ 0) × SpellsGroup word f.per_line f.width)
group-option word inner None parts none = λ k w h.
    let same = inner-same word h.inner inner h.parts parts in none k w (subst (λ z. SpellsItem z k w) same h.item)
group-option word inner (Some f) parts both = (
  both.0,
  record {
    inner = inner;
    parts = parts;
    item = both.1;
  },
)

-- a format has one group, or more of them, or bytes are skipped before its fields
pub format-option : (word : List ℕ) (o : Option Fields) → ((k w : ℕ) → SpellsGroup word k w → ⊥) →
    ((k w : ℕ) → AreGroups word k w → ⊥) →
    MatchOption o ((s k w : ℕ) → SpellsSkipped word s k w → ⊥) (λ f. SpellsSkipped word f.skipped f.per_line f.width) →
    MatchOption o ((f : Fields) → SpellsFormat word f → ⊥) (SpellsFormat word)
format-option word None none no_groups other = λ f h. elim h [
  | inl g ↦ none f.per_line f.width g.1
  | inr g ↦ elim g [
    | inl k ↦ no_groups f.per_line f.width k.1
    | inr k ↦ other f.skipped f.per_line f.width k
  ]
]
format-option word (Some f) none no_groups skipped = inr (inr skipped)

-- what says that bytes are skipped has one number before its last letter
last-same : (f g : List ℕ) (l m : ℕ) → f ++ l ∷ [] ≡ g ++ m ∷ [] → (f ≡ g) × (l ≡ m)
last-same [] [] l m e = (refl, cc)
last-same [] (y ∷ g) l m e = absurd (short g (let rest : [] ≡ g ++ m ∷ [] = cc in rest))
  where
    short : (v : List ℕ) → [] ≡ v ++ m ∷ [] → ⊥
    short [] h = cc
    short (z ∷ v) h = cc
last-same (x ∷ f) [] l m e = absurd (short f (let rest : f ++ l ∷ [] ≡ [] = cc in rest))
  where
    short : (v : List ℕ) → v ++ l ∷ [] ≡ [] → ⊥
    short [] h = cc
    short (z ∷ v) h = cc
last-same (x ∷ f) (y ∷ g) l m e =
    let same : x ≡ y = cc in
    let rest : f ++ l ∷ [] ≡ g ++ m ∷ [] = cc in
    let more = last-same f g l m rest in
    (rw (same, more.0) refl, more.1)

pub skip-parts : (text front : List ℕ) (letter : ℕ) → text ≡ front ++ letter ∷ [] → (s : ℕ) → (h : SpellsSkip text s) →
    (front ≡ h.front) × (letter ≡ h.letter)
skip-parts text front letter parts s h = last-same front h.front letter h.letter (sym parts ∙ h.parts)

pub skip-option : (text front : List ℕ) (letter : ℕ) (o : Option ℕ) → text ≡ front ++ letter ∷ [] → to_ascii_lowercase letter ≡ 120 →
    MatchOption o ((k : ℕ) → SpellsNumber front (pos k) → ⊥) (λ k. SpellsNumber front (pos k)) →
    MatchOption o ((s : ℕ) → SpellsSkip text s → ⊥) (SpellsSkip text)
skip-option text front letter None parts low none = λ s h.
    let same = skip-parts text front letter parts s h in none s (subst (λ z. SpellsNumber z (pos s)) (sym same.0) h.number)
skip-option text front letter (Some s) parts low number = record {
  front = front;
  letter = letter;
  parts = parts;
  is_skip = low;
  number = number;
}

none-append : (p : ℕ → Bool) (f : List ℕ) (l : ℕ) → NoneOf p f → p l ≡ false → NoneOf p (f ++ l ∷ [])
none-append p [] l h x = (x, tt)
none-append p (b ∷ f) l h x = (h.0, none-append p f l h.1 x)

skip-comma : (b : ℕ) → to_ascii_lowercase b ≡ 120 → is_comma b ≡ false
skip-comma b h = at (b == 44) refl
  where
    at : (x : Bool) → (b == 44) ≡ x → x ≡ false
    at true p = let e : to_ascii_lowercase 44 ≡ 120 = subst (λ z. to_ascii_lowercase z ≡ 120) (eqb-true b 44 p) h in cc
    at false p = refl

skip-none : (text : List ℕ) (s : ℕ) → SpellsSkip text s → NoneOf is_comma text
skip-none text s h = subst (NoneOf is_comma) (sym h.parts)
    (none-append is_comma h.front h.letter (number-none is_comma comma-foreign h.front h.number.numeral.1) (skip-comma h.letter h.is_skip))

-- a format with bytes that are skipped is parted at its first comma
pub skipped-parts : (word inner front back : List ℕ) → word ≡ 40 ∷ (inner ++ 41 ∷ []) → inner ≡ front ++ 44 ∷ back →
    All (λ b. is_comma b ≡ false) front → (s k w : ℕ) → (h : SpellsSkipped word s k w) → (front ≡ h.front) × (back ≡ h.back)
skipped-parts word inner front back whole parts none s k w h =
    let same = inner-same word inner (h.front ++ 44 ∷ h.back) whole h.parts in
    parted is_comma front h.front back h.back 44 44 (none-of is_comma front none) (skip-none h.front s h.skip) refl refl
    (sym parts ∙ same)

pub no-skipped-comma : (word inner : List ℕ) → word ≡ 40 ∷ (inner ++ 41 ∷ []) → All (λ b. is_comma b ≡ false) inner → (s k w : ℕ) →
    SpellsSkipped word s k w → ⊥
no-skipped-comma word inner whole none s k w h =
    let same = inner-same word inner (h.front ++ 44 ∷ h.back) whole h.parts in
    none-at is_comma h.front h.back 44 (subst (NoneOf is_comma) same (none-of is_comma inner none)) refl

-- a format of groups has one front, and one group
bracket-first : (inner : List ℕ) (k w : ℕ) → (h : SpellsGroup inner k w) → inner ≡ 40 ∷ (h.inner ++ 41 ∷ [])
bracket-first inner k w h = h.parts

pub groups-parts : (word text front inner : List ℕ) → word ≡ 40 ∷ (text ++ 41 ∷ []) → text ≡ front ++ inner → slice_index inner 0 ≡ 40 →
    All (λ b. is_bracket b ≡ false) front → (k w : ℕ) → (h : AreGroups word k w) → (front ≡ h.front) × (inner ≡ h.inner)
groups-parts word text front [] whole parts first none k w h = cc
groups-parts word text front (b ∷ inner) whole parts first none k w h =
    let same = inner-same word text (h.front ++ h.inner) whole h.parts in
    let other = bracket-first h.inner h.each w h.group in
    let both = parted is_bracket front h.front inner _ b 40 (none-of is_bracket front none)
    (repeat-none is_bracket bracket-foreign h.front h.groups h.has_groups) (rw first refl) refl
    (sym parts ∙ same ∙ ap (λ z. h.front ++ z) other) in
    (both.0, rw (first, both.1) (sym other))

pub no-groups-bracket : (word text : List ℕ) → word ≡ 40 ∷ (text ++ 41 ∷ []) → All (λ b. is_bracket b ≡ false) text → (k w : ℕ) →
    AreGroups word k w → ⊥
no-groups-bracket word text whole none k w h =
    let same = inner-same word text (h.front ++ h.inner) whole h.parts in
    let other = bracket-first h.inner h.each w h.group in
    none-at is_bracket h.front _ 40 (subst (NoneOf is_bracket) (same ∙ ap (λ z. h.front ++ z) other) (none-of is_bracket text none)) refl

-- the number of all fields of such a format
pub groups-count : (word front inner : List ℕ) (g i v k w : ℕ) → SpellsRepeat front g → SpellsGroup inner i v → (h : AreGroups word k w) →
    (front ≡ h.front) × (inner ≡ h.inner) → k ≡ g * i
groups-count word front inner g i v k w repeated group h same =
    let one = repeat-same front g h.groups repeated (subst (λ z. SpellsRepeat z h.groups) (sym same.0) h.has_groups) in
    let two = groups-same inner i v h.each w group (subst (λ z. SpellsGroup z h.each w) (sym same.1) h.group) in
    h.counted ∙ rw (one, two) refl

-- what is kept of one byte more
pub joined-turn : (line : List ℕ) (k depth d : ℕ) → k < length line →
    joined depth (drop k line) ≡ kept_byte depth (get_or line k d) ++ joined (depth_behind depth (get_or line k d)) (drop (k + 1) line)
joined-turn [] k depth d h = absurd (omega (arith, h))
joined-turn (b ∷ bs) zero depth d h = refl
joined-turn (b ∷ bs) (suc k) depth d h =
    let e : suc k + 1 ≡ suc (k + 1) = omega arith in rw e (joined-turn bs k depth d (omega (arith, h)))
