-- The paths of a picture: the rectangles of the cells of one kind, line by line.
use Rattle.std.specs.Prelude.{◌≡◌, ◌+◌, ◌-◌, ◌*◌, ◌<◌, ◌≤◌, ◌⊎◌, ℕ, List, [], ◌++◌, Contains, Option, codes, decimal, flat_map}
use Rattle.std.specs.Prelude.{length, max, min, slice_index, slice_range}
use Rattle.std.specs.Io.KnownBytes.{Appends}

-- a rectangle of one line, from a cell on, so many cells wide
abbrev pub run_path : ℕ → ℕ → ℕ → List ℕ
run_path line from width =
    codes "M" ++ (decimal from ++ (codes " " ++ (decimal line ++ (codes "h" ++ (decimal width ++ (codes "v1h-"
    ++ (decimal width ++ codes "z")))))))

-- the rectangles of some runs of a line, each from its first number on and before its second one
abbrev pub runs_text : ℕ → List (ℕ × ℕ) → List ℕ
runs_text line runs = flat_map (λ run. run_path line run.0 (run.1 - run.0)) runs

-- the runs have exactly the cells of a line before place end that are of this kind
pub record AreRunsOf (kinds : List ℕ) (kind end : ℕ) (runs : List (ℕ × ℕ)) : Type 0 where
  pub inside : (run : ℕ × ℕ) → Contains runs run → run.1 ≤ end
  pub only : (run : ℕ × ℕ) (cell : ℕ) → Contains runs run → run.0 ≤ cell → cell < run.1 → slice_index kinds cell ≡ kind
  pub all : (cell : ℕ) → cell < end → slice_index kinds cell ≡ kind →
      (run : ℕ × ℕ) × Contains runs run × (run.0 ≤ cell) × (cell < run.1)

-- the text has the rectangles of exactly the cells of a line that are of this kind
pub record TellsLine (line : ℕ) (kinds : List ℕ) (kind : ℕ) (text : List ℕ) : Type 0 where
  pub runs : List (ℕ × ℕ)
  pub are : AreRunsOf kinds kind (length kinds) runs
  pub tells : text ≡ runs_text line runs

-- a writer that has told the runs before place begin; those of the cells from there on, before place cell, go on
pub record TellsRuns (line : ℕ) (kinds : List ℕ) (kind cell begin : ℕ) (old new : Option (List ℕ)) : Type 0 where
  pub runs : List (ℕ × ℕ)
  pub are : AreRunsOf kinds kind begin runs
  pub told : Appends old new (runs_text line runs)
  pub reached : begin ≤ cell
  pub run : (k : ℕ) → begin ≤ k → k < cell → slice_index kinds k ≡ kind
  pub goes_on : begin < cell → slice_index kinds cell ≡ kind

-- the cells of a line
abbrev pub line_of : ℕ → List ℕ → ℕ → List ℕ
line_of side kinds line =
    let begin : ℕ = min (line * side) (length kinds) in
    slice_range kinds begin (max (min ((line + 1) * side) (length kinds)) begin)

-- the text has the rectangles of the first lines, one after another
pub data TellsLines (side : ℕ) (kinds : List ℕ) (kind : ℕ) : ℕ → List ℕ → Type 0 where
  none : TellsLines side kinds kind 0 []
  next : {line : ℕ} {text more : List ℕ} → TellsLines side kinds kind line text →
      TellsLine line (line_of side kinds line) kind more → TellsLines side kinds kind (line + 1) (text ++ more)

-- how a path begins
abbrev pub path_head : List ℕ → ℕ → List ℕ
path_head colour opacity =
    codes "<path fill=\"" ++ (colour ++ (codes "\" fill-opacity=\"" ++ (decimal opacity ++ codes "%\" d=\"")))

-- the path of the rectangles of all lines, in a colour with so many percent of opacity
pub record IsPath (side : ℕ) (kinds : List ℕ) (kind : ℕ) (colour : List ℕ) (opacity : ℕ) (text : List ℕ) : Type 0 where
  pub lines : ℕ
  pub enough : length kinds ≤ lines * side
  pub shape : List ℕ
  pub tells : TellsLines side kinds kind lines shape
  pub is : text ≡ path_head colour opacity ++ shape ++ codes "\"/>\n"

-- the shape of the cells of a kind: their path, or nothing where there are none
abbrev pub TellsShape : ℕ → List ℕ → ℕ → List ℕ → ℕ → List ℕ → Type 0
TellsShape side kinds kind colour opacity text =
    ((¬ (Contains kinds kind)) × (text ≡ [])) ⊎ IsPath (max side 1) kinds kind colour opacity text

-- a writer took this text, and some before it and behind it
abbrev pub TellsAmong : Option (List ℕ) → Option (List ℕ) → List ℕ → Type 0
TellsAmong old new text = (before after : List ℕ) × Appends old new (before ++ text ++ after)

-- the shapes of the first shades of a picture, each darker than the one before it
pub data TellsShades (side : ℕ) (shades colour : List ℕ) : ℕ → List ℕ → Type 0 where
  none : TellsShades side shades colour 0 []
  next : {shade : ℕ} {text more : List ℕ} → TellsShades side shades colour shade text →
      TellsShape side shades (shade + 1) colour (15 + 5 * (shade + 1)) more →
      TellsShades side shades colour (shade + 1) (text ++ more)

-- the colours of a panel: entries, fill, and both in one cell
abbrev pub entry_colour : List ℕ
entry_colour = codes "#1f4e79"

abbrev pub fill_colour : List ℕ
fill_colour = codes "#e07b39"

abbrev pub both_colour : List ℕ
both_colour = codes "#8a2f5b"

-- the shapes of the cells of a panel: those with entries alone, with fill alone, and with both, each in its colour
pub record TellsPanel (side : ℕ) (kinds text : List ℕ) : Type 0 where
  pub entries : List ℕ
  pub fill : List ℕ
  pub both : List ℕ
  pub tells_entries : TellsShape side kinds 1 entry_colour 100 entries
  pub tells_fill : TellsShape side kinds 2 fill_colour 100 fill
  pub tells_both : TellsShape side kinds 3 both_colour 100 both
  pub is : text ≡ entries ++ fill ++ both

-- the panels of a picture, one after the other
pub record TellsPanels (side : ℕ) (kinds_before kinds_after : List ℕ) (old new : Option (List ℕ)) : Type 0 where
  pub before : List ℕ
  pub after : List ℕ
  pub tells_before : TellsPanel side kinds_before before
  pub tells_after : TellsPanel side kinds_after after
  pub between : Option (List ℕ)
  pub first : TellsAmong old between before
  pub second : TellsAmong between new after
