-- Property parameters: RFC 5545, section 3.2; schema 3.2, lines 9 to 183, in its order. VALUE is none of them: it names a value's type.
--     parameter_names, is_known_parameter  the schema's parameters
--     parameter_type       the type of its values; UNKNOWN for an unrecognised parameter
--     is_listed_parameter  whether it takes a list of values (`value-cal-address+`); an unrecognised one does
--     parameter_words      its closed set of words, if it has one
--     is_quoted_parameter  whether its values must be quoted in text
use Rattle.std.specs.Prelude.{Bool, true, false, List, [], ◌∷◌, map, ℕ, Option, None, Some}
use Rattle.octets.specs.Ascii.{ascii}
use Rattle.octets.specs.Words.{is_one_of, row_of}
use Rattle.octets.specs.Reading.{read_or}
use Rattle.calendar.specs.Calendar.{ValueType, CAL-ADDRESS, BOOLEAN, TEXT, URI, UNKNOWN}

pub record ParameterRow : Type 0 where
  pub name : List ℕ
  pub type : ValueType
  pub listed : Bool
  pub quoted : Bool
  pub words : Option (List (List ℕ))

-- value-text
abbrev pub takes_text : List ℕ → ParameterRow
takes_text n = record { name = n; type = TEXT; listed = false; quoted = false; words = None }

-- element text { "A" | "B" }: these words only. The rules add no x-name to a closed set
abbrev pub takes_word : List ℕ → List (List ℕ) → ParameterRow
takes_word n ws = record { name = n; type = TEXT; listed = false; quoted = false; words = Some ws }

-- value-boolean
abbrev pub takes_boolean : List ℕ → ParameterRow
takes_boolean n = record { name = n; type = BOOLEAN; listed = false; quoted = false; words = None }

-- The rules: ALTREP, DIR, MEMBER, DELEGATED-FROM, DELEGATED-TO, SENT-BY must be quoted when read and are quoted when written. They are those of these three kinds.
-- value-uri
abbrev pub takes_uri : List ℕ → ParameterRow
takes_uri n = record { name = n; type = URI; listed = false; quoted = true; words = None }

-- value-cal-address
abbrev pub takes_address : List ℕ → ParameterRow
takes_address n = record { name = n; type = CAL-ADDRESS; listed = false; quoted = true; words = None }

-- value-cal-address+
abbrev pub takes_addresses : List ℕ → ParameterRow
takes_addresses n = record { name = n; type = CAL-ADDRESS; listed = true; quoted = true; words = None }

abbrev pub cutypes : List (List ℕ)  -- lines 26 to 32
cutypes = ascii "INDIVIDUAL" ∷ ascii "GROUP" ∷ ascii "RESOURCE" ∷ ascii "ROOM" ∷ ascii "UNKNOWN" ∷ []

abbrev pub encodings : List (List ℕ)  -- lines 56 to 59
encodings = ascii "8BIT" ∷ ascii "BASE64" ∷ []

abbrev pub fbtypes : List (List ℕ)  -- lines 71 to 76
fbtypes = ascii "FREE" ∷ ascii "BUSY" ∷ ascii "BUSY-UNAVAILABLE" ∷ ascii "BUSY-TENTATIVE" ∷ []

-- lines 99 to 127: type-partstat-todo, which has all the words of type-partstat-event and type-partstat-jour. The rules: any of the seven in every component
abbrev pub partstats : List (List ℕ)
partstats = ascii "NEEDS-ACTION" ∷ ascii "ACCEPTED" ∷ ascii "DECLINED" ∷ ascii "TENTATIVE" ∷ ascii "DELEGATED" ∷ ascii "COMPLETED" ∷ ascii "IN-PROCESS" ∷ []

abbrev pub ranges : List (List ℕ)  -- lines 132 to 134
ranges = ascii "THISANDFUTURE" ∷ []

abbrev pub trigrels : List (List ℕ)  -- lines 140 to 143
trigrels = ascii "START" ∷ ascii "END" ∷ []

abbrev pub reltypes : List (List ℕ)  -- lines 149 to 153
reltypes = ascii "PARENT" ∷ ascii "CHILD" ∷ ascii "SIBLING" ∷ []

abbrev pub roles : List (List ℕ)  -- lines 159 to 164
roles = ascii "CHAIR" ∷ ascii "REQ-PARTICIPANT" ∷ ascii "OPT-PARTICIPANT" ∷ ascii "NON-PARTICIPANT" ∷ []

abbrev pub parameter_table : List ParameterRow
parameter_table =
    takes_uri (ascii "ALTREP") ∷  -- 3.2.1,  line 13  altrepparam
    takes_text (ascii "CN") ∷  -- 3.2.2,  line 19  cnparam
    takes_word (ascii "CUTYPE") cutypes ∷  -- 3.2.3,  line 25  cutypeparam
    takes_addresses (ascii "DELEGATED-FROM") ∷  -- 3.2.4,  line 37  delfromparam
    takes_addresses (ascii "DELEGATED-TO") ∷  -- 3.2.5,  line 43  deltoparam
    takes_uri (ascii "DIR") ∷  -- 3.2.6,  line 49  dirparam
    takes_word (ascii "ENCODING") encodings ∷  -- 3.2.7,  line 55  encodingparam
    takes_text (ascii "FMTTYPE") ∷  -- 3.2.8,  line 64  fmttypeparam
    takes_word (ascii "FBTYPE") fbtypes ∷  -- 3.2.9,  line 70  fbtypeparam
    takes_text (ascii "LANGUAGE") ∷  -- 3.2.10, line 81  languageparam
    takes_addresses (ascii "MEMBER") ∷  -- 3.2.11, line 87  memberparam
    takes_word (ascii "PARTSTAT") partstats ∷  -- 3.2.12, line 93  partstatparam
    takes_word (ascii "RANGE") ranges ∷  -- 3.2.13, line 131 rangeparam
    takes_word (ascii "RELATED") trigrels ∷  -- 3.2.14, line 139 trigrelparam
    takes_word (ascii "RELTYPE") reltypes ∷  -- 3.2.15, line 148 reltypeparam
    takes_word (ascii "ROLE") roles ∷  -- 3.2.16, line 158 roleparam
    takes_boolean (ascii "RSVP") ∷  -- 3.2.17, line 169 rsvpparam
    takes_address (ascii "SENT-BY") ∷  -- 3.2.18, line 175 sentbyparam
    takes_text (ascii "TZID") ∷  -- 3.2.19, line 181 tzidparam
    []

-- what stands for a parameter that is no row: one or more `unknown` values, quoted where its characters ask for it, of any words
abbrev pub unrecognised_parameter : ParameterRow
unrecognised_parameter = record { name = []; type = UNKNOWN; listed = true; quoted = false; words = None }

unfoldable pub parameter_row : List ℕ → ParameterRow
parameter_row w = read_or unrecognised_parameter (row_of (λ r. r.name) w parameter_table)

abbrev pub parameter_names : List (List ℕ)
parameter_names = map (λ r. r.name) parameter_table

unfoldable pub is_known_parameter : List ℕ → Bool
is_known_parameter w = is_one_of w parameter_names

abbrev pub parameter_type : List ℕ → ValueType
parameter_type w = (parameter_row w).type

abbrev pub is_listed_parameter : List ℕ → Bool
is_listed_parameter w = (parameter_row w).listed

abbrev pub parameter_words : List ℕ → Option (List (List ℕ))
parameter_words w = (parameter_row w).words

abbrev pub is_quoted_parameter : List ℕ → Bool
is_quoted_parameter w = (parameter_row w).quoted
