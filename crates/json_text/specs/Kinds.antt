-- What a JSON value is, by its kind (RFC 8259, section 3): none where it is of another kind.
--     as_string, as_number, as_literal  its characters, its bytes, its name
--     as_array, as_object               its elements, its members
--     or_alone                          the elements of an array; of any other value, itself alone
--     nth k vs                          element k of a list, from 0
use Rattle.std.specs.Prelude.{List, [], ◌∷◌, ℕ, drop, Option, None, Some}
use Rattle.octets.specs.Reading.{read_or}
use Rattle.json_text.specs.Tree.{Json, string, number, literal, array, object, Member, element_list, member_list}

abbrev pub as_string : Json → Option (List ℕ)
as_string (string p s) = Some s
as_string (number p s) = None
as_string (literal p s) = None
as_string (array p e vs) = None
as_string (object p e ms) = None

abbrev pub as_number : Json → Option (List ℕ)
as_number (string p s) = None
as_number (number p s) = Some s
as_number (literal p s) = None
as_number (array p e vs) = None
as_number (object p e ms) = None

abbrev pub as_literal : Json → Option (List ℕ)
as_literal (string p s) = None
as_literal (number p s) = None
as_literal (literal p s) = Some s
as_literal (array p e vs) = None
as_literal (object p e ms) = None

abbrev pub as_array : Json → Option (List Json)
as_array (string p s) = None
as_array (number p s) = None
as_array (literal p s) = None
as_array (array p e vs) = Some (element_list vs)
as_array (object p e ms) = None

abbrev pub as_object : Json → Option (List Member)
as_object (string p s) = None
as_object (number p s) = None
as_object (literal p s) = None
as_object (array p e vs) = None
as_object (object p e ms) = Some (member_list ms)

abbrev pub or_alone : Json → List Json
or_alone v = read_or (v ∷ []) (as_array v)

abbrev pub first_in : List Json → Option Json
first_in [] = None
first_in (v ∷ vs) = Some v

abbrev pub nth : ℕ → List Json → Option Json
nth k vs = first_in (drop k vs)
