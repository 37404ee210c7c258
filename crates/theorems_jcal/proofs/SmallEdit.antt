-- A small edit stays small, in jCal too.
--     small_edit        of two accepted calls to jCal whose content lines are the same but for one, which is a property in both: the jCal of both is the same up to
--                       the array of this property and again after it; between them stands the property that the line states, in canonical jCal
--     property_array    the canonical jCal of a property begins with [ and its name as a string, and ends with ]
-- Whichever property stands for which, in whichever component, and wherever the two texts are folded. Lent buffers may hold any bytes before a call.
use Rattle.std.specs.Prelude.{◌≡◌, true, List, ℕ, length}
use Rattle.octets.specs.Ascii.{ascii}
use Rattle.octets.specs.Append.{◌⊕◌}
use Rattle.octets.specs.Class.{lower}
use Rattle.calendar.specs.Calendar.{Property}
use Rattle.edition.specs.declared.Edition.{Edition}
use Rattle.text.proofs.laws.AcceptedText.{accepts}
use Rattle.json_text.specs.Write.{quoted}
use Rattle.jcal.specs.WriteJcal.{property_json, write_jcal}
use Rattle.theorems.specs.Calls.{Call}
use Rattle.theorems.specs.OneLine.{OneLine, stated_first, stated_second, Apart}
use Rattle.theorems.proofs.laws.Edited.{Gives, edited_apart}
use Rattle.theorems_jcal.specs.Calls.{is_accepted, jcal_of}
use Rattle.theorems_jcal.proofs.laws.Calls.{given}
use Rattle.theorems_jcal.proofs.laws.Split.{gap_jcal, array_begins}

pub property_array : (p : Property) → (items : List ℕ) × (property_json p ≡ ascii "[" ⊕ quoted (lower p.name) ⊕ ascii "," ⊕ items ⊕ ascii "]")
unfolding property_json
property_array p = array_begins (quoted (lower p.name)) _ _

module _ (ed : Edition) where
  call_gives : (k : Call) → is_accepted ed k ≡ true → Gives ed write_jcal k.input (jcal_of ed k)
  call_gives k h = let g = given ed k h in record { calendar = g.calendar; accepts = accepts ed k.input (length k.work) g.calendar g.states; bytes = g.jcal }

  pub small_edit : (k l : Call) → is_accepted ed k ≡ true → is_accepted ed l ≡ true → (o : OneLine ed k.input l.input) →
      Apart property_json (stated_first ed o) (stated_second ed o) (jcal_of ed k) (jcal_of ed l)
  small_edit k l h j o = edited_apart ed gap_jcal (call_gives k h) (call_gives l j) o
