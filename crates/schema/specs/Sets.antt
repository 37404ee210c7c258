-- Closed sets of words, by numbers.
--     word_sets            the sets of properties: of CALSCALE, VERSION, CLASS, TRANSP, ACTION, and of STATUS in VEVENT, VTODO, VJOURNAL; then those of parameters; at the end that of STATUS elsewhere
--     word_bytes, set_starts, set_sizes  the sets as the code has them
--     set_of, set_at, words_at   the set of a number; the number of the set of a property in a component, and the set
--     parameter_set, parameter_words_at  the same of a parameter
--     is_word_of           a word of a set, where there is one
--     word_in              the answer of a reader of words: the place of the word in the set
use Rattle.std.specs.Prelude.{Bool, false, List, [], ◌∷◌, ℕ, eqb, ltb, length, get_or, Option, None, Some}
use Rattle.octets.specs.Ascii.{ascii}
use Rattle.octets.specs.Pick.{pick}
use Rattle.octets.specs.Words.{is_one_of}
use Rattle.octets.specs.Reading.{and_then}
use Rattle.names.specs.Table.{place_of, nth}
use Rattle.schema.specs.Parameters.{cutypes, encodings, fbtypes, partstats, ranges, trigrels, reltypes, roles}
use Rattle.schema.specs.Properties.{status_words}
use Rattle.schema.specs.Numbers.{parameter_at}
use Rattle.schema.specs.Property as property

abbrev pub word_sets : List (List (List ℕ))
word_sets =
    (ascii "GREGORIAN" ∷ []) ∷
    (ascii "2.0" ∷ []) ∷
    (ascii "PUBLIC" ∷ ascii "PRIVATE" ∷ ascii "CONFIDENTIAL" ∷ []) ∷
    (ascii "OPAQUE" ∷ ascii "TRANSPARENT" ∷ []) ∷
    (ascii "AUDIO" ∷ ascii "DISPLAY" ∷ ascii "EMAIL" ∷ []) ∷
    (ascii "TENTATIVE" ∷ ascii "CONFIRMED" ∷ ascii "CANCELLED" ∷ []) ∷
    (ascii "NEEDS-ACTION" ∷ ascii "COMPLETED" ∷ ascii "IN-PROCESS" ∷ ascii "CANCELLED" ∷ []) ∷
    (ascii "DRAFT" ∷ ascii "FINAL" ∷ ascii "CANCELLED" ∷ []) ∷
    cutypes ∷
    encodings ∷
    fbtypes ∷
    partstats ∷
    ranges ∷
    trigrels ∷
    reltypes ∷
    roles ∷
    status_words ∷
    []

-- the same as the code has them: the words of one set after the other; where each begins, and where the last one ends; how many words each has
abbrev pub word_bytes : List ℕ
word_bytes = ascii "GREGORIAN\n2.0\nPUBLIC\nPRIVATE\nCONFIDENTIAL\nOPAQUE\nTRANSPARENT\nAUDIO\nDISPLAY\nEMAIL\nTENTATIVE\nCONFIRMED\nCANCELLED\nNEEDS-ACTION\nCOMPLETED\nIN-PROCESS\nCANCELLED\nDRAFT\nFINAL\nCANCELLED\nINDIVIDUAL\nGROUP\nRESOURCE\nROOM\nUNKNOWN\n8BIT\nBASE64\nFREE\nBUSY\nBUSY-UNAVAILABLE\nBUSY-TENTATIVE\nNEEDS-ACTION\nACCEPTED\nDECLINED\nTENTATIVE\nDELEGATED\nCOMPLETED\nIN-PROCESS\nTHISANDFUTURE\nSTART\nEND\nPARENT\nCHILD\nSIBLING\nCHAIR\nREQ-PARTICIPANT\nOPT-PARTICIPANT\nNON-PARTICIPANT\nTENTATIVE\nCONFIRMED\nCANCELLED\nNEEDS-ACTION\nCOMPLETED\nIN-PROCESS\nDRAFT\nFINAL\n"

abbrev pub set_starts : List ℕ
set_starts = 0 ∷ 10 ∷ 14 ∷ 42 ∷ 61 ∷ 81 ∷ 111 ∷ 155 ∷ 177 ∷ 216 ∷ 228 ∷ 270 ∷ 342 ∷ 356 ∷ 366 ∷ 387 ∷ 441 ∷ 517 ∷ []

abbrev pub set_sizes : List ℕ
set_sizes = 1 ∷ 1 ∷ 3 ∷ 2 ∷ 3 ∷ 3 ∷ 4 ∷ 3 ∷ 5 ∷ 2 ∷ 4 ∷ 7 ∷ 1 ∷ 2 ∷ 3 ∷ 4 ∷ 8 ∷ []

-- of STATUS, by component: VEVENT, VTODO, VJOURNAL, any other
abbrev pub status_set : ℕ → ℕ
status_set k = pick (eqb k 1) 5 (pick (eqb k 2) 6 (pick (eqb k 3) 7 16))

abbrev pub property_set : ℕ → Option ℕ
property_set p =
    pick (eqb p property.CALSCALE) (Some 0)
    (pick (eqb p property.VERSION) (Some 1)
    (pick (eqb p property.CLASS) (Some 2)
    (pick (eqb p property.TRANSP) (Some 3)
    (pick (eqb p property.ACTION) (Some 4)
    None))))

abbrev pub set_at : ℕ → ℕ → Option ℕ
set_at k p = pick (eqb p property.STATUS) (Some (status_set k)) (property_set p)

abbrev pub set_of : Option ℕ → Option (List (List ℕ))
set_of n = and_then n (nth word_sets)

abbrev pub words_at : ℕ → ℕ → Option (List (List ℕ))
words_at k p = set_of (set_at k p)

abbrev pub parameter_words_at : ℕ → Option (List (List ℕ))
parameter_words_at q = (parameter_at q).words

-- by parameter: CUTYPE, ENCODING, FBTYPE, PARTSTAT, RANGE, RELATED, RELTYPE, ROLE
abbrev pub parameter_set_numbers : List (Option ℕ)
parameter_set_numbers =
    None ∷ None ∷ Some 8 ∷ None ∷ None ∷ None ∷ Some 9 ∷ None ∷ Some 10 ∷ None ∷ None ∷ Some 11 ∷ Some 12 ∷ Some 13 ∷ Some 14 ∷ Some 15 ∷ None ∷ None ∷ None ∷ []

abbrev pub parameter_set : ℕ → Option ℕ
parameter_set q = get_or parameter_set_numbers q None

abbrev pub is_word_of : Option (List (List ℕ)) → List ℕ → Bool
is_word_of None w = false
is_word_of (Some ws) w = is_one_of w ws

-- the place i in a set of n words
abbrev pub word_among : ℕ → ℕ → Option ℕ
word_among n i = pick (ltb i n) (Some i) None

abbrev pub word_in : Option (List (List ℕ)) → List ℕ → Option ℕ
word_in None w = None
word_in (Some ws) w = word_among (length ws) (place_of w ws)
