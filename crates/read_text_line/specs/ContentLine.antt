-- The content line of RFC 5545, section 3.1, on bytes: after unfolding, without its CRLF. Characters were checked before (refusal 3), so that of the controls
-- only TAB, CR and LF can stand here.
--     ContentLine, RawParameter, ParamValue    a line as its grammar takes it apart, names and values as they stand
--     content_line     the line that these bytes are; none exactly where the line is against the grammar (refusal 4)
--     is_content_line  whether such a thing is one that the grammar has
use Rattle.std.specs.Prelude.{Bool, true, false, List, [], ◌∷◌, ℕ, eqb, Option, None}
use Rattle.octets.specs.Pick.{pick, ◌and◌, ◌or◌}
use Rattle.octets.specs.Scan.{all_of}
use Rattle.octets.specs.Class.{is_name_char}
use Rattle.octets.specs.Words.{is_empty}
use Rattle.octets.specs.Runs.{after_byte, after_run, run_of}
use Rattle.octets.specs.Lists.{every}
use Rattle.octets.specs.Reading.{provided}
use Rattle.octets.specs.Many.{One, got, bad, All, ok, no, many}

-- a value of a parameter: whether it stood between double quotes, and what stood there
pub record ParamValue : Type 0 where
  pub quoted : Bool
  pub chars : List ℕ

-- a parameter: its name as it stands, and its values, at least one
pub record RawParameter : Type 0 where
  pub name : List ℕ
  pub values : List ParamValue

-- a content line: its name as it stands, its parameters in order, and its value
pub record ContentLine : Type 0 where
  pub name : List ℕ
  pub parameters : List RawParameter
  pub value : List ℕ

-- ---- characters

-- what is left of CONTROL: CR and LF
abbrev pub is_line_break : ℕ → Bool
is_line_break b = eqb b 13 or eqb b 10

-- VALUE-CHAR = any character
abbrev pub is_value_char : ℕ → Bool
is_value_char b = pick (is_line_break b) false true

-- QSAFE-CHAR = any character except CONTROL and DQUOTE
abbrev pub is_q_safe_char : ℕ → Bool
is_q_safe_char b = pick (is_line_break b or eqb b 34) false true

-- SAFE-CHAR = any character except CONTROL, DQUOTE, ";", ":", ","
abbrev pub is_safe_char : ℕ → Bool
is_safe_char b = pick (is_line_break b or eqb b 34 or eqb b 59 or eqb b 58 or eqb b 44) false true

-- ---- what the grammar has

-- name = iana-token / x-name, param-name = iana-token / x-name: both are 1*(ALPHA / DIGIT / "-")
unfoldable pub is_name : List ℕ → Bool
is_name n = pick (is_empty n) false (all_of is_name_char n)

-- param-value = paramtext / quoted-string
unfoldable pub is_param_value : ParamValue → Bool
is_param_value v = pick v.quoted (all_of is_q_safe_char v.chars) (all_of is_safe_char v.chars)

-- param = param-name "=" param-value *("," param-value)
unfoldable pub is_raw_parameter : RawParameter → Bool
is_raw_parameter p = is_name p.name and pick (is_empty p.values) false (every is_param_value p.values)

-- contentline = name *(";" param ) ":" value CRLF; value = *VALUE-CHAR
unfoldable pub is_content_line : ContentLine → Bool
is_content_line l = is_name l.name and every is_raw_parameter l.parameters and all_of is_value_char l.value

-- ---- reading: one thing and what is left behind it

-- paramtext = *SAFE-CHAR
unfoldable pub paramtext : List ℕ → One ParamValue
paramtext s = got (record { quoted = false; chars = run_of is_safe_char s }) (after_run is_safe_char s)

-- quoted-string = DQUOTE *QSAFE-CHAR DQUOTE, behind its first DQUOTE
unfoldable pub quoted_string : List ℕ → One ParamValue
quoted_string s = after_byte 34 (after_run is_q_safe_char s) (got (record { quoted = true; chars = run_of is_q_safe_char s })) (bad s)

-- param-value = paramtext / quoted-string
unfoldable pub param_value : List ℕ → One ParamValue
param_value s = after_byte 34 s quoted_string (paramtext s)

-- "," param-value
unfoldable pub next_value : List ℕ → One ParamValue
next_value s = after_byte 44 s param_value One.none

-- a parameter of a name, of its first value and of those that follow
unfoldable pub with_values : All ParamValue → List ℕ → ParamValue → One RawParameter
with_values (ok vs r) n v = got (record { name = n; values = v ∷ vs }) r
with_values (no r) n v = bad r

unfoldable pub with_first : One ParamValue → List ℕ → One RawParameter
with_first (got v r) n = with_values (many next_value r) n v
with_first One.none n = bad []
with_first (bad r) n = bad r

-- param = param-name "=" param-value *("," param-value)
unfoldable pub param : List ℕ → One RawParameter
param s = pick (is_empty (run_of is_name_char s)) (bad s) (after_byte 61 (after_run is_name_char s) (λ r. with_first (param_value r) (run_of is_name_char s)) (bad s))

-- ";" param
unfoldable pub next_param : List ℕ → One RawParameter
next_param s = after_byte 59 s param One.none

-- ":" value, behind a name and its parameters
unfoldable pub with_value : All RawParameter → List ℕ → Option ContentLine
with_value (ok ps r) n = after_byte 58 r (λ v. provided (all_of is_value_char v) (record { name = n; parameters = ps; value = v })) None
with_value (no r) n = None

-- contentline = name *(";" param ) ":" value CRLF
unfoldable pub content_line : List ℕ → Option ContentLine
content_line s = pick (is_empty (run_of is_name_char s)) None (with_value (many next_param (after_run is_name_char s)) (run_of is_name_char s))
