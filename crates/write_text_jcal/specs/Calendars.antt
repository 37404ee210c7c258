-- The calendars of a text, by places.
--     is_array_first es  the first of these elements is an array
--     calendar_of es     the calendar whose array has these elements, levels deep
use Rattle.std.specs.Prelude.{Bool}
use Rattle.octets.specs.Reading.{is_read}
use Rattle.calendar.specs.Calendar.{Components, no_more, component}
use Rattle.calendar.specs.Levels.{levels, shallow}
use Rattle.json_text.specs.Tree.{Elements, element_list, first_of}
use Rattle.json_text.specs.Kinds.{as_array}
use Rattle.jcal.specs.Components.{read_properties, read_inner}
use Rattle.write_text_jcal.specs.Walks.{name_of}

abbrev pub is_array_first : Elements → Bool
is_array_first es = is_read (as_array (first_of es))

abbrev pub calendar_of : Elements → Components
calendar_of es = shallow levels (component (name_of es) (read_properties (element_list es)) (read_inner es 2) no_more)
