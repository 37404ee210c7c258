-- What the steps of `to_text` give, one after another.
use Rattle.std.specs.Prelude.{List, ℕ}
use Rattle.calendar.specs.Refusal.{Verdict, answer}
use Rattle.text.specs.WriteText.{write_calendar}
use Rattle.json_text.specs.Tree.{value_of}
use Rattle.jcal.specs.Components.{read_calendars, calendars_in}
use Rattle.calls.specs.Conversion.{Converted, converted}
use Rattle.edition.specs.declared.Edition.{Edition}

module _ (ed : Edition) where
  -- what the jCal text s gives whose verdict is v
  abbrev pub jcal_gives : List ℕ → Verdict → Converted
  jcal_gives s v = converted (write_calendar ed) (answer v (read_calendars (calendars_in (value_of s))))
