-- Whether the lines of a calendar fit into a room of n bytes for one line.
--     line_fits   the content line of a property;   head_fits: what stands before the components inside a component
--     fits        all lines of components
use Rattle.std.specs.Prelude.{Bool, true, List, ℕ, ◌+◌, leb, length}
use Rattle.octets.specs.Pick.{◌and◌}
use Rattle.octets.specs.Lists.{every}
use Rattle.calendar.specs.Calendar.{Property, Components, no_more, component}
use Rattle.read_text_line.specs.Decoded.{write_line}
use Rattle.text.specs.WriteText.{content_line_of}
use Rattle.edition.specs.declared.Edition.{Edition}

module _ (ed : Edition) (n : ℕ) where
  unfoldable pub line_fits : Property → Bool
  line_fits p = leb (length (write_line ed (content_line_of p))) n

  -- 6 is the length of `BEGIN:`
  unfoldable pub head_fits : List ℕ → List Property → Bool
  head_fits m ps = leb (6 + length m) n and every line_fits ps

  unfoldable pub fits : Components → Bool
  fits no_more = true
  fits (component m ps inner next) = head_fits m ps and fits inner and fits next
