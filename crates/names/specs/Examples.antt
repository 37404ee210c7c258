-- Lookups that compute.
use Rattle.std.specs.Prelude.{◌≡◌, refl, Bool, true, false, List, [], ◌∷◌, map, ℕ, ◌+◌, ◌*◌, ◌^◌, get_or, take}
use Rattle.octets.specs.Ascii.{ascii}
use Rattle.octets.specs.Class.{upper}
use Rattle.octets.specs.Words.{is_one_of}
use Rattle.source.specs.Source.{rest}
use Rattle.names.specs.Case.{cased, case_of}
use Rattle.names.specs.Table.{place_of, names_in}
use Rattle.names.specs.Packing.{high_of, low_of}
use Rattle.names.specs.laws.Known.{by_place, unknown_list}
use Rattle.names.specs.Computing.{names_compute}

-- each name ends in a line feed
table : names_in (ascii "VEVENT\nVTODO\n\nVALARM\nmore") ≡ (ascii "VEVENT" ∷ ascii "VTODO" ∷ [] ∷ ascii "VALARM" ∷ [])
unfolding names_compute
table = refl

places :
    map (λ w. place_of (upper w) (names_in (ascii "VEVENT\nVTODO\nVALARM\n"))) (ascii "VEVENT" ∷ ascii "Vtodo" ∷ ascii "valarm" ∷ ascii "VALAR" ∷ ascii "VALARMS" ∷ [] ∷ [])
    ≡ (0 ∷ 1 ∷ 2 ∷ 3 ∷ 3 ∷ 3 ∷ [])
unfolding names_compute
places = refl

-- the halves of words' numbers; a word of 17 bytes has none
lows : map low_of (ascii "GEO" ∷ ascii "VTODO" ∷ []) ≡ ((((128 + 71) * 128 + 69) * 128 + 79) ∷ 0xd6a93e24f ∷ [])
unfolding names_compute
lows = refl

highs : map high_of (ascii "VTODO" ∷ ascii "VJOURNAL" ∷ ascii "VCALENDAR" ∷ ascii "A-WORD-OF-17-BYTE" ∷ []) ≡ (0 ∷ 1 ∷ (128 + 86) ∷ (2 ^ 63) ∷ [])
unfolding names_compute
highs = refl

-- in XML a word stands as it is
by_format : map (λ xcal. place_of (cased (case_of xcal) (ascii "daily")) (names_in (ascii "WEEKLY\nDAILY\n"))) (true ∷ false ∷ []) ≡ (2 ∷ 1 ∷ [])
unfolding names_compute
by_format = refl

-- the name of a content line, cut out at its end
cut : rest 0 (take 7 (ascii "x\nDTEND:1")) 2 ≡ ascii "DTEND"
unfolding names_compute
cut = refl

-- a table that code goes by the number of a name, against a list of the specification
days : List (List ℕ)
days = ascii "SU" ∷ ascii "MO" ∷ ascii "SA" ∷ []

is_free : List ℕ → Bool
is_free w = is_one_of w (ascii "SA" ∷ ascii "SU" ∷ [])

free : (w : List ℕ) → is_free w ≡ get_or (true ∷ false ∷ true ∷ []) (place_of w days) false
unfolding days is_free names_compute
free w = by_place w is_free false days (λ h. unknown_list w days h (ascii "SA" ∷ ascii "SU" ∷ []) refl)
