-- A valid calendar (RFC 5545, sections 3.1 to 3.6, and the rules), in an edition, whichever format states it: what an accepted text or document states is one, and its text and its
-- document are read back as it.
--     is_kept_name           a name of a property, parameter or component
--     is_valid_parameter p   a parameter
--     is_valid_property k p  a property in a component k
--     are_valid l may m c    components whose names pass a test, at most l levels deep, in a calendar with METHOD or, where m is false, without
--     is_valid c             VCALENDAR components, at least one
use Rattle.std.specs.Prelude.{Bool, true, false, not, List, [], ◌∷◌, ℕ, ◌-◌, ltb}
use Rattle.octets.specs.Ascii.{ascii}
use Rattle.octets.specs.Pick.{◌and◌, ◌or◌}
use Rattle.octets.specs.Class.{upper}
use Rattle.octets.specs.Words.{same, none_holds}
use Rattle.octets.specs.Lists.{every}
use Rattle.calendar.specs.Calendar.{Value, Parameter, Property, Components, no_more, component}
use Rattle.calendar.specs.Levels.{levels}
use Rattle.utf8.specs.Utf8.{well_formed}
use Rattle.schema.specs.Properties.{is_known_property}
use Rattle.schema.specs.Components.{may_contain, may_stand}
use Rattle.schema.specs.Counts.{Around, method_for, complete}
use Rattle.values.specs.Valid.{is_parameter, is_property}
use Rattle.values.specs.Characters.{free_in, is_value_text}
use Rattle.edition.specs.declared.Edition.{Edition}
use Rattle.edition.specs.declared.Edition.TheVariants.{Rfc5545, Rfc6868}
use Rattle.read_text_line.specs.ContentLine.{is_name}
use Rattle.read_text_line.specs.Names.{is_carried_name}

-- ---- names and characters (3.1)

-- in capitals, as the calendar keeps it, and one that an XML element can have too
abbrev pub is_kept_name : List ℕ → Bool
is_kept_name n = same (upper n) n and is_name n and is_carried_name n

-- the characters that a value's type leaves free are such that the rules permit
abbrev pub is_permitted : Value → Bool
is_permitted v = every well_formed (free_in v)

-- ---- parameters (3.2)

-- the characters that a parameter's value may have in an edition: no CR; of RFC 5545 alone no LF (10) and no double quote (34) besides
abbrev pub is_parameter_text : Edition → Value → Bool
is_parameter_text Rfc5545 v = none_holds 13 (free_in v) and none_holds 10 (free_in v) and none_holds 34 (free_in v)
is_parameter_text Rfc6868 v = is_value_text v

-- typed as the schema says
unfoldable pub is_valid_parameter : Edition → Parameter → Bool
is_valid_parameter ed p =
    is_kept_name p.name
    and is_parameter p
    and every (is_parameter_text ed) p.values
    and every is_permitted p.values

-- ---- properties (3.5)

-- BEGIN and END are none; a known property stands where the schema lists it; of the free characters no CR
unfoldable pub is_valid_property : Edition → List ℕ → Property → Bool
is_valid_property ed k p =
    is_kept_name p.name
    and not (same p.name (ascii "BEGIN"))
    and not (same p.name (ascii "END"))
    and (not (is_known_property p.name) or may_stand k p.name)
    and is_property k p
    and every (is_valid_parameter ed) p.parameters
    and every is_value_text p.values
    and every is_permitted p.values

-- ---- components (3.4, 3.6)

abbrev pub has_components : Components → Bool
has_components no_more = false
has_components (component k ps inner next) = true

-- each with such properties, as often as they must stand, and with such subcomponents; m says whether the calendar round them has METHOD
unfoldable pub are_valid : Edition → ℕ → (List ℕ → Bool) → Bool → Components → Bool
are_valid ed l may m no_more = true
are_valid ed l may m (component k ps inner next) =
    (ltb 0 l and is_kept_name k and may k)
    and every (is_valid_property ed k) ps
    and complete k ps (record { inner = has_components inner; method = m })
    and are_valid ed (l - 1) (may_contain k) (method_for k ps m) inner
    and are_valid ed l may m next

abbrev pub at_top : List ℕ → Bool
at_top k = same k (ascii "VCALENDAR")

unfoldable pub is_valid : Edition → Components → Bool
is_valid ed c = has_components c and are_valid ed levels at_top false c
