-- The kinds of elements.
--     is_none, is_there           whether there is an element;   is_string, is_number, is_literal, is_array, is_object: it is of this kind
use Rattle.std.specs.Prelude.{Bool, true, false}
use Rattle.read_json.specs.declared.HeadKind.{HeadKind}
use Rattle.read_json.specs.declared.HeadKind.TheVariants.{Absent, String, Number, Literal, Array, Object}

abbrev pub is_none : HeadKind → Bool
is_none Absent = true
is_none String = false
is_none Number = false
is_none Literal = false
is_none Array = false
is_none Object = false

abbrev pub is_there : HeadKind → Bool
is_there Absent = false
is_there String = true
is_there Number = true
is_there Literal = true
is_there Array = true
is_there Object = true

abbrev pub is_string : HeadKind → Bool
is_string Absent = false
is_string String = true
is_string Number = false
is_string Literal = false
is_string Array = false
is_string Object = false

abbrev pub is_number : HeadKind → Bool
is_number Absent = false
is_number String = false
is_number Number = true
is_number Literal = false
is_number Array = false
is_number Object = false

abbrev pub is_literal : HeadKind → Bool
is_literal Absent = false
is_literal String = false
is_literal Number = false
is_literal Literal = true
is_literal Array = false
is_literal Object = false

abbrev pub is_array : HeadKind → Bool
is_array Absent = false
is_array String = false
is_array Number = false
is_array Literal = false
is_array Array = true
is_array Object = false

abbrev pub is_object : HeadKind → Bool
is_object Absent = false
is_object String = false
is_object Number = false
is_object Literal = false
is_object Array = false
is_object Object = true
