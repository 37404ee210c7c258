-- The elements of a property's parameters (RFC 6321, section 3.5): what they state, and where they are refused.
-- Refusal 7 covers all in a parameter but a missing child, at the parameter's start tag.
--     are_spelled           whether the values of a parameter can be spelled in an edition
--     parameters_verdict    the verdict on the children of `parameters`
--     read_parameter_nodes  the parameters that they state
--     has_encoding          whether ENCODING stands among a property's parameters
use Rattle.std.specs.Prelude.{Bool, true, false, not, List, [], ◌∷◌, ℕ, eqb, Option, None, Some}
use Rattle.octets.specs.Ascii.{ascii}
use Rattle.octets.specs.Pick.{pick, ◌and◌, ◌or◌}
use Rattle.octets.specs.Class.{upper, lower, is_space}
use Rattle.octets.specs.Words.{same, is_one_of, holds, is_empty}
use Rattle.octets.specs.Reading.{provided, and_then, cons_read, read_or}
use Rattle.calendar.specs.Calendar.{xcal, ValueType, BINARY, UNKNOWN, Value, text, unknown, text_in, Parameter}
use Rattle.calendar.specs.Refusal.{NAME, FRAME, PARAMETER, Verdict, fine, refuse, ◌otherwise◌}
use Rattle.schema.specs.Types.{type_name, same_type}
use Rattle.schema.specs.Properties.{permits_parameter}
use Rattle.schema.specs.Parameters.{parameter_type, is_listed_parameter, parameter_words}
use Rattle.edition.specs.declared.Edition.{Edition}
use Rattle.edition.specs.declared.Edition.TheVariants.{Rfc5545, Rfc6868}
use Rattle.read_text_line.specs.Names.{is_carried_name}
use Rattle.values.specs.ReadValue.{read_value}
use Rattle.xml.specs.Nodes.{Nodes, no_nodes, element, literal, referred, characters_of, has_element}
use Rattle.xcal.specs.Layout.{has_capital}

-- ---- the values of one parameter

-- a word of a closed set exactly; that of an unrecognised parameter is any characters
abbrev pub read_word_in : Option (List (List ℕ)) → ValueType → List ℕ → Option Value
read_word_in None t s = pick (same_type t UNKNOWN) (Some (unknown s)) (read_value xcal t s)
read_word_in (Some words) t s = provided (is_one_of s words) (text s)

unfoldable pub read_param_node : List ℕ → Nodes → Option Value
read_param_node n kids =
    pick (has_element kids) None (read_word_in (parameter_words n) (parameter_type n) (characters_of kids))

-- the children of the parameter n, each an element named as its type; none where another thing stands there
unfoldable pub read_param_nodes : List ℕ → Nodes → Option (List Value)
read_param_nodes n no_nodes = Some []
read_param_nodes n (literal p b more) = pick (is_space b) (read_param_nodes n more) None
read_param_nodes n (referred p bs more) = None
read_param_nodes n (element p m x kids more) =
    pick (same m (lower (type_name (parameter_type n)))) (and_then (read_param_node n kids) (λ v. cons_read v (read_param_nodes n more))) None

-- one value, unless the parameter is listed
abbrev pub as_many : Bool → List Value → Bool
as_many listed [] = true
as_many listed (v ∷ vs) = listed or is_empty vs

abbrev pub values_good : Bool → Option (List Value) → Bool
values_good listed None = false
values_good listed (Some vs) = as_many listed vs

-- ---- what an edition can spell

-- no value holds a double quote (34) or LF (10)
unfoldable pub are_plain : Nodes → Bool
are_plain no_nodes = true
are_plain (literal p b more) = are_plain more
are_plain (referred p bs more) = are_plain more
are_plain (element p m x kids more) = not (holds 34 (characters_of kids) or holds 10 (characters_of kids)) and are_plain more

-- RFC 5545 alone can spell neither in a parameter's value
unfoldable pub are_spelled : Edition → Nodes → Bool
are_spelled Rfc5545 kids = are_plain kids
are_spelled Rfc6868 kids = true

-- ---- ENCODING

abbrev pub are_base64 : List Value → Bool
are_base64 [] = true
are_base64 (v ∷ vs) = same (read_or [] (text_in v)) (ascii "BASE64")

-- with a value of type BINARY, ENCODING is BASE64; where it has no value at all, that is its fault
abbrev pub encodes : List ℕ → ValueType → Nodes → Bool
encodes n t kids = not (same n (ascii "ENCODING") and same_type t BINARY) or are_base64 (read_or [] (read_param_nodes n kids))

-- an element named `encoding` is a child of this `parameters`
unfoldable pub has_encoding : Nodes → Bool
has_encoding no_nodes = false
has_encoding (literal p b more) = has_encoding more
has_encoding (referred p bs more) = has_encoding more
has_encoding (element p m x kids more) = same m (ascii "encoding") or has_encoding more

-- ---- the verdict

-- names that no parameter element has: with capitals, beginning with xml, `value`
abbrev pub bad_name : List ℕ → Bool
bad_name m = has_capital m or not (is_carried_name m) or same m (ascii "value")

-- the parameter m, at the tags p and x, of the property n whose value has type t, after the parameters `seen`
unfoldable pub parameter_verdict : Edition → List ℕ → ValueType → List (List ℕ) → ℕ → List ℕ → ℕ → Nodes → Verdict
parameter_verdict ed n t seen p m x kids =
    pick (bad_name m) (refuse NAME p)
    (pick (eqb p x) (refuse FRAME p)
    (pick (is_one_of m seen or not (permits_parameter n t (upper m)) or not (values_good (is_listed_parameter (upper m)) (read_param_nodes (upper m) kids)) or not (encodes (upper m) t kids) or not (are_spelled ed kids))
    (refuse PARAMETER p)
    (pick (has_element kids) fine (refuse FRAME x))))

unfoldable pub parameters_verdict : Edition → List ℕ → ValueType → Nodes → List (List ℕ) → Verdict
parameters_verdict ed n t no_nodes seen = fine
parameters_verdict ed n t (literal p b more) seen = pick (is_space b) (parameters_verdict ed n t more seen) (refuse FRAME p)
parameters_verdict ed n t (referred p bs more) seen = refuse FRAME p
parameters_verdict ed n t (element p m x kids more) seen = parameter_verdict ed n t seen p m x kids otherwise parameters_verdict ed n t more (m ∷ seen)

-- ---- what they state

unfoldable pub read_parameter_nodes : Nodes → List Parameter
read_parameter_nodes no_nodes = []
read_parameter_nodes (literal p b more) = read_parameter_nodes more
read_parameter_nodes (referred p bs more) = read_parameter_nodes more
read_parameter_nodes (element p m x kids more) = record { name = upper m; values = read_or [] (read_param_nodes (upper m) kids) } ∷ read_parameter_nodes more
