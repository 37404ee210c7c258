-- Laws of what specs/Boolean.antt defines.
use Rattle.std.specs.Prelude.{◌≡◌, refl, Bool, true, false, Some}
use Rattle.octets.specs.Pick.{pick, ◌and◌, ◌or◌}
use Rattle.octets.specs.Scan.{all_of}
use Rattle.octets.specs.Class.{upper, is_visible}
use Rattle.octets.specs.Words.{same, is_one_of}
use Rattle.calendar.specs.Calendar.{Format, ical, xcal}
use Rattle.numbers.specs.Boolean.{read_boolean, write_boolean}

pub boolean_read_back : (f : Format) (b : Bool) → read_boolean f (write_boolean f b) ≡ Some b
unfolding pick ◌and◌ ◌or◌ upper same is_one_of
boolean_read_back ical true = refl
boolean_read_back ical false = refl
boolean_read_back xcal true = refl
boolean_read_back xcal false = refl

pub boolean_visible : (f : Format) (b : Bool) → all_of is_visible (write_boolean f b) ≡ true
unfolding pick ◌and◌ all_of
boolean_visible ical true = refl
boolean_visible ical false = refl
boolean_visible xcal true = refl
boolean_visible xcal false = refl
