-- Values of parameters in both editions, computed.
use Rattle.std.specs.Prelude.{◌≡◌, refl, List, [], ◌∷◌, map, ℕ, None, Some}
use Rattle.octets.specs.Ascii.{ascii}
use Rattle.edition.specs.Edition.{edition_of, decode, encode}
use Rattle.edition.specs.Computing.{edition_compute}
use Rattle.edition.specs.declared.Edition.TheVariants.{Rfc5545, Rfc6868}

numbers : map edition_of (0 ∷ 1 ∷ 2 ∷ []) ≡ Some Rfc5545 ∷ Some Rfc6868 ∷ None ∷ []
unfolding edition_compute
numbers = refl

-- the example of RFC 6868, section 3.1
ruth : decode Rfc6868 (ascii "George Herman ^'Babe^' Ruth") ≡ ascii "George Herman \"Babe\" Ruth"
unfolding edition_compute
ruth = refl

-- from the left; other carets, and one at the end, stand for themselves
carets : List (List ℕ)
carets = ascii "^^n" ∷ ascii "^n" ∷ ascii "^N^x^" ∷ ascii "^^^'" ∷ ascii "^^^" ∷ []

read : map (decode Rfc6868) carets ≡ ascii "^n" ∷ ascii "\n" ∷ ascii "^N^x^" ∷ ascii "^\"" ∷ ascii "^^" ∷ []
unfolding edition_compute carets
read = refl

plain : map (decode Rfc5545) carets ≡ carets
unfolding edition_compute carets
plain = refl

written : map (encode Rfc6868) (ascii "a \"b\"" ∷ ascii "^x" ∷ ascii "\n^" ∷ []) ≡ ascii "a ^'b^'" ∷ ascii "^^x" ∷ ascii "^n^^" ∷ []
unfolding edition_compute
written = refl
