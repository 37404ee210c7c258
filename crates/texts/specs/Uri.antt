-- URI of RFC 5545, section 3.3.13, and CAL-ADDRESS of 3.3.3, which is a URI: the characters are kept as they stand, in text and in xCal alike.
--     is_uri s     a scheme, a colon, then characters of a URI
--     read_uri s   the characters
-- It goes a character at a time, as the code does. UriGrammar says the same as the RFC does.
use Rattle.std.specs.Prelude.{Bool, false, List, [], ◌∷◌, ℕ, eqb, Option}
use Rattle.octets.specs.Pick.{pick, ◌and◌, ◌or◌}
use Rattle.octets.specs.Class.{is_alpha, is_digit, is_visible}
use Rattle.octets.specs.Reading.{provided}

--   uri    = <As defined in Section 3 of [RFC3986]>: scheme ":" ..
--   scheme = ALPHA *( ALPHA / DIGIT / "+" / "-" / "." )
abbrev pub is_scheme_char : ℕ → Bool
is_scheme_char b = is_alpha b or is_digit b or eqb b 43 or eqb b 45 or eqb b 46

-- " < > \ ^ ` { | }, which no URI holds
abbrev pub is_outside : ℕ → Bool
is_outside b = eqb b 34 or eqb b 60 or eqb b 62 or eqb b 92 or eqb b 94 or eqb b 96 or eqb b 123 or eqb b 124 or eqb b 125

abbrev pub is_uri_char : ℕ → Bool
is_uri_char b = pick (is_outside b) false (is_visible b)

-- b may stand before the colon, where it may be the colon, or past it
abbrev pub in_uri : Bool → ℕ → Bool
in_uri past b = pick past (is_uri_char b) (eqb b 58 or is_scheme_char b)

-- what follows the first letter, to its end: `past` says whether the colon was met
unfoldable pub uri_from : Bool → List ℕ → Bool
uri_from past [] = past
uri_from past (b ∷ s) = in_uri past b and uri_from (past or eqb b 58) s

unfoldable pub is_uri : List ℕ → Bool
is_uri [] = false
is_uri (b ∷ s) = is_alpha b and uri_from false s

abbrev pub read_uri : List ℕ → Option (List ℕ)
read_uri s = provided (is_uri s) s
