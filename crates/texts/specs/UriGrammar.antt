-- URI by the grammar of RFC 5545, section 3.3.13, which is that of RFC 3986, section 3. `Uri` goes a character at a time; it accepts exactly these (laws/UriGrammar).
--     is_scheme    the scheme
--     UriOf s      s is a scheme, a colon and characters of a URI
use Rattle.std.specs.Prelude.{◌≡◌, Bool, true, false, List, [], ◌∷◌, ℕ}
use Rattle.octets.specs.Pick.{◌and◌}
use Rattle.octets.specs.Append.{◌⊕◌}
use Rattle.octets.specs.Class.{is_alpha}
use Rattle.octets.specs.Scan.{all_of}
use Rattle.texts.specs.Uri.{is_scheme_char, is_uri_char}

--   scheme = ALPHA *( ALPHA / DIGIT / "+" / "-" / "." )
abbrev pub is_scheme : List ℕ → Bool
is_scheme [] = false
is_scheme (b ∷ s) = is_alpha b and all_of is_scheme_char s

--   uri = scheme ":" ..          what follows the colon is any characters of a URI; 58 is the colon
pub record UriOf (s : List ℕ) : Type 0 where
  pub scheme : List ℕ
  pub behind : List ℕ
  pub is : s ≡ scheme ⊕ (58 ∷ behind)
  pub begins : is_scheme scheme ≡ true
  pub goes_on : all_of is_uri_char behind ≡ true
