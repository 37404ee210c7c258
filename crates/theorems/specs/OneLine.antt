-- Two texts whose content lines are the same but for one, and what is written of them.
--     content_lines s   the content lines of a text: after unfolding, without their ends
--     line_is ed a      what a line is: the beginning or the end of a component, or a property
--     open_behind       the components that are open behind lines, the innermost first
--     OneLine ed s t    the texts s and t have the same content lines but for one, which is a property in both
--     stands_in         the component in which this line stands;   stated_first, stated_second: the property that it states there, in s and in t
--     Apart one p q x y    x and y are the same but for one part, which is the property p in x and q in y, as `one` writes a property
use Rattle.std.specs.Prelude.{◌≡◌, List, [], ◌∷◌, map, ℕ}
use Rattle.octets.specs.Append.{◌⊕◌}
use Rattle.calendar.specs.Calendar.{Property}
use Rattle.folding.specs.Unfold.{unfolded}
use Rattle.folding.specs.Lines.{Line, whole, loose, lines}
use Rattle.edition.specs.declared.Edition.{Edition}
use Rattle.read_text_line.specs.ContentLine.{ContentLine}
use Rattle.read_text_line.specs.Decoded.{read_line}
use Rattle.text.specs.Statement.{property_of}
use Rattle.text.specs.Tree.{Entry, begin, end, property, nothing, entry_by}

-- ---- lines

abbrev pub bytes_in : Line → List ℕ
bytes_in (whole p s) = s
bytes_in (loose p) = []

abbrev pub content_lines : List ℕ → List (List ℕ)
content_lines s = map bytes_in (lines (unfolded s))

abbrev pub line_is : Edition → List ℕ → Entry
line_is ed a = entry_by (read_line ed a)

-- ---- the component that a line stands in

abbrev pub without_first : List (List ℕ) → List (List ℕ)
without_first [] = []
without_first (n ∷ ns) = ns

-- where those of the names ns were open before
unfoldable pub open_behind : List Entry → List (List ℕ) → List (List ℕ)
open_behind [] ns = ns
open_behind (begin n ∷ es) ns = open_behind es (n ∷ ns)
open_behind (end ∷ es) ns = open_behind es (without_first ns)
open_behind (property l ∷ es) ns = open_behind es ns
open_behind (nothing ∷ es) ns = open_behind es ns

abbrev pub innermost : List (List ℕ) → List ℕ
innermost [] = []
innermost (n ∷ ns) = n

-- ---- two texts

module _ (ed : Edition) where
  pub record OneLine (s t : List ℕ) : Type 0 where
    pub front : List (List ℕ)
    pub first : List ℕ
    pub second : List ℕ
    pub back : List (List ℕ)
    pub lines_first : content_lines s ≡ front ⊕ (first ∷ back)
    pub lines_second : content_lines t ≡ front ⊕ (second ∷ back)
    -- both are properties
    pub content_first : ContentLine
    pub content_second : ContentLine
    pub is_first : line_is ed first ≡ property content_first
    pub is_second : line_is ed second ≡ property content_second

  -- the component in which it stands
  abbrev pub stands_in : {s t : List ℕ} → OneLine s t → List ℕ
  stands_in o = innermost (open_behind (map (line_is ed) o.front) [])

  -- the property that it states there, in s and in t
  abbrev pub stated_first : {s t : List ℕ} → OneLine s t → Property
  stated_first o = property_of (stands_in o) o.content_first

  abbrev pub stated_second : {s t : List ℕ} → OneLine s t → Property
  stated_second o = property_of (stands_in o) o.content_second

-- ---- what is written of them

pub record Apart (one : Property → List ℕ) (p q : Property) (x y : List ℕ) : Type 0 where
  pub before : List ℕ
  pub after : List ℕ
  pub first : x ≡ before ⊕ one p ⊕ after
  pub second : y ≡ before ⊕ one q ⊕ after
