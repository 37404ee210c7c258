-- Content lines that are read, refused and written, names, and a text with its folds, by computation.
use Rattle.std.specs.Prelude.{◌≡◌, refl, true, false, List, [], ◌∷◌, ◌++◌, map, ℕ, Some}
use Rattle.octets.specs.Ascii.{ascii}
use Rattle.octets.specs.Reading.{is_read}
use Rattle.read_text_line.specs.ContentLine.{ParamValue, RawParameter, ContentLine, next_param, content_line, is_content_line}
use Rattle.read_text_line.specs.Write.{write_content_line}
use Rattle.read_text_line.specs.Names.{is_carried_name}
use Rattle.read_text_line.specs.Items.{items}
use Rattle.folding.specs.Lines.{whole, lines}
use Rattle.folding.specs.Computing.{folding_compute}
use Rattle.source.specs.Source.{rest, skipping}
use Rattle.read_text_line.specs.LineEnd.{index, lines_at}
use Rattle.read_text_line.specs.Computing.{lines_compute}

abbrev bare : List ℕ → ParamValue
bare s = record { quoted = false; chars = s }

abbrev quote : List ℕ → ParamValue
quote s = record { quoted = true; chars = s }

abbrev parameter : List ℕ → List ParamValue → RawParameter
parameter n vs = record { name = n; values = vs }

abbrev line : List ℕ → List RawParameter → List ℕ → ContentLine
line n ps v = record { name = n; parameters = ps; value = v }

abbrev texts : List (List ℕ)
texts =
    ascii "BEGIN:VCALENDAR"
    ∷ ascii "DTSTART;TZID=Lake:20240504T080000"
    ∷ ascii "Summary:Read glass\\, phone; at 8:00, \"now\""
    ∷ ascii "X-P;X-A=:"
    ∷ ascii "X-P;X-A=\"\":"
    ∷ ascii "X-P;A=\"x;:,\",\"y\",z;B=a b=\\n,:v"
    ∷ ascii "-A;1A=x:"
    ∷ []

abbrev read : List ContentLine
read =
    line (ascii "BEGIN") [] (ascii "VCALENDAR")
    ∷ line (ascii "DTSTART") (parameter (ascii "TZID") (bare (ascii "Lake") ∷ []) ∷ []) (ascii "20240504T080000")
    ∷ line (ascii "Summary") [] (ascii "Read glass\\, phone; at 8:00, \"now\"")
    ∷ line (ascii "X-P") (parameter (ascii "X-A") (bare [] ∷ []) ∷ []) []
    ∷ line (ascii "X-P") (parameter (ascii "X-A") (quote [] ∷ []) ∷ []) []
    ∷ line (ascii "X-P") (parameter (ascii "A") (quote (ascii "x;:,") ∷ quote (ascii "y") ∷ bare (ascii "z") ∷ []) ∷ parameter (ascii "B") (bare (ascii "a b=\\n") ∷ bare [] ∷ []) ∷ []) (ascii "v")
    ∷ line (ascii "-A") (parameter (ascii "1A") (bare (ascii "x") ∷ []) ∷ []) []
    ∷ []

pub lines_read : map content_line texts ≡ map Some read
unfolding lines_compute
lines_read = refl

pub lines_written : map write_content_line read ≡ texts
unfolding lines_compute
lines_written = refl

pub lines_valid : map is_content_line read ≡ map (λ t. true) read
unfolding lines_compute
lines_valid = refl

-- each is none: no line, no name, no colon, no parameter's name, no equals sign, a quote that is not closed, a quote in an unquoted value, text after a closing
-- quote, a space in a name, a byte order mark, a bare CR, a bare LF in a quoted value, CR LF in the value
abbrev faulty : List (List ℕ)
faulty =
    []
    ∷ ascii ":v"
    ∷ ascii "SUMMARY"
    ∷ ascii "X-P;:v"
    ∷ ascii "X-P;=x:v"
    ∷ ascii "X-P;X-A:v"
    ∷ ascii "X-P;X-A=\"x:v"
    ∷ ascii "X-P;X-A=a\"b\":v"
    ∷ ascii "X-P;X-A=\"a\"b:v"
    ∷ ascii "X P:v"
    ∷ (239 ∷ 187 ∷ 191 ∷ ascii "BEGIN:VCALENDAR")
    ∷ (ascii "X-P:a" ++ 13 ∷ ascii "b")
    ∷ (ascii "X-P;X-A=\"a" ++ 10 ∷ ascii "b\":v")
    ∷ (ascii "X-P:a" ++ 13 ∷ 10 ∷ [])
    ∷ []

pub lines_refused : map (λ s. is_read (content_line s)) faulty ≡ map (λ s. false) faulty
unfolding lines_compute
lines_refused = refl

pub names : map is_carried_name (ascii "SUMMARY" ∷ ascii "x-a" ∷ ascii "XM" ∷ ascii "X-XML" ∷ ascii "1A" ∷ ascii "-A" ∷ ascii "xMl" ∷ ascii "XMLNS" ∷ []) ≡ (true ∷ true ∷ true ∷ true ∷ false ∷ false ∷ false ∷ false ∷ [])
unfolding lines_compute
names = refl

-- what is read of parameters before a fault
pub parameters : map (items next_param) (ascii ";A=1,\"2\";B=:v" ∷ ascii ";A=1;B" ∷ ascii ":v" ∷ []) ≡ ((parameter (ascii "A") (bare (ascii "1") ∷ quote (ascii "2") ∷ []) ∷ parameter (ascii "B") (bare [] ∷ []) ∷ []) ∷ (parameter (ascii "A") (bare (ascii "1") ∷ []) ∷ []) ∷ [] ∷ [])
unfolding lines_compute
parameters = refl

-- ---- a text with its folds in place, read in the encoding 2: folds in a name and in a value, before the first line, between CR and LF, and behind the last line

folded : List ℕ
folded = ascii "\r\n A\r\n B:c\r\n\td\r\r\n \nE:f\r\n\r\n "

kept : rest 2 folded 0 ≡ ascii "AB:cd\r\nE:f\r\n"
unfolding folding_compute rest folded
kept = refl

-- CR, a fold, LF ends the first line; the second begins at the cursor 19, which is the place 7 of what is kept
both_lines : (lines (rest 2 folded 0) ≡ whole 0 (ascii "AB:cd") ∷ whole 7 (ascii "E:f") ∷ []) × (lines_at 2 folded 19 ≡ whole 7 (ascii "E:f") ∷ [])
unfolding folding_compute rest lines_at index folded
both_lines = (refl, refl)

-- a cursor within a fold is not reached
within_fold : (skipping 2 folded 0 19 ≡ 0) × (skipping 2 folded 0 2 ≡ 1)
unfolding folding_compute skipping folded
within_fold = (refl, refl)
