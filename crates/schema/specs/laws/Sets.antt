-- Laws of what specs/Sets.antt defines.
--     parameter_set_lem  the set of the number is the row's
--     words_place, parameter_words_place     the same of names
--     event_place ..       a name by its number
--     stored, set_yes, set_no, word_none, word_missing     for code;   set_there, parameter_set_there: a property, a parameter that has a number of a set has a set
--     word_yes, word_no    what the answer of a reader of words says
use Rattle.std.specs.Prelude.{◌≡◌, Bool, true, false, List, [], ◌∷◌, ℕ, zero, suc, ◌+◌, ◌-◌, ◌≤◌, ◌<◌, eqb, leb, ltb, length, get_or, take, drop, Option, None, Some, is_some}
use Rattle.std.proofs.Math.Path.{refl, sym}
use Rattle.std.proofs.Common.{ap, ◌∙◌, not-suc-le-zero, le_of_suc-le-suc, lt-ltb, le-ltb, leb-true, eqb-true}
use Rattle.std.proofs.lemmas.Bool.{false≢true}
use Rattle.std.proofs.Math.ListN.{get_or-map}
use Rattle.octets.specs.Ascii.{ascii}
use Rattle.octets.specs.Pick.{pick, ◌and◌}
use Rattle.octets.specs.laws.Pick.{and_both}
use Rattle.octets.specs.Words.{same, row_of}
use Rattle.octets.specs.laws.Words.{same_true}
use Rattle.octets.specs.Reading.{and_then, is_read, read_or}
use Rattle.octets.specs.Computing.{octets_compute}
use Rattle.names.specs.Table.{place_of, names_in, nth}
use Rattle.names.specs.laws.Table.{one_of_place}
use Rattle.names.specs.laws.Places.{same_place, same_place_first}
use Rattle.schema.specs.Parameters.{ParameterRow, parameter_table, unrecognised_parameter, parameter_names, parameter_words}
use Rattle.schema.specs.Components.{component_names}
use Rattle.schema.specs.Properties.{WordsRow, property_names, words_table, status_table, elsewhere, property_words}
use Rattle.schema.specs.laws.Numbers.{parameter_place}
use Rattle.schema.specs.Arrays.{each_from}
use Rattle.schema.specs.laws.Cells.{below_passes}
use Rattle.schema.specs.Sets.{word_sets, word_bytes, set_starts, set_sizes, status_set, property_set, set_at, set_of, words_at, parameter_words_at, parameter_set_numbers, parameter_set, is_word_of, word_among, word_in}
use Rattle.schema.specs.Property as property

-- ---- names by their numbers

module _ (c : List ℕ) where
  pub calendar_place : same c (ascii "VCALENDAR") ≡ eqb (place_of c component_names) 0
  unfolding octets_compute place_of
  calendar_place = same_place c (ascii "VCALENDAR") component_names refl

  pub event_place : same c (ascii "VEVENT") ≡ eqb (place_of c component_names) 1
  unfolding octets_compute place_of
  event_place = same_place c (ascii "VEVENT") component_names refl

  pub todo_place : same c (ascii "VTODO") ≡ eqb (place_of c component_names) 2
  unfolding octets_compute place_of
  todo_place = same_place c (ascii "VTODO") component_names refl

  pub journal_place : same c (ascii "VJOURNAL") ≡ eqb (place_of c component_names) 3
  unfolding octets_compute place_of
  journal_place = same_place c (ascii "VJOURNAL") component_names refl

  pub timezone_place : same c (ascii "VTIMEZONE") ≡ eqb (place_of c component_names) 5
  unfolding octets_compute place_of
  timezone_place = same_place c (ascii "VTIMEZONE") component_names refl

module _ (p : List ℕ) where
  pub calscale_place : same p (ascii "CALSCALE") ≡ eqb (place_of p property_names) property.CALSCALE
  unfolding octets_compute place_of
  calscale_place = same_place p (ascii "CALSCALE") property_names refl

  pub version_place : same p (ascii "VERSION") ≡ eqb (place_of p property_names) property.VERSION
  unfolding octets_compute place_of
  version_place = same_place p (ascii "VERSION") property_names refl

  pub class_place : same p (ascii "CLASS") ≡ eqb (place_of p property_names) property.CLASS
  unfolding octets_compute place_of
  class_place = same_place p (ascii "CLASS") property_names refl

  pub status_place : same p (ascii "STATUS") ≡ eqb (place_of p property_names) property.STATUS
  unfolding octets_compute place_of
  status_place = same_place p (ascii "STATUS") property_names refl

  pub transp_place : same p (ascii "TRANSP") ≡ eqb (place_of p property_names) property.TRANSP
  unfolding octets_compute place_of
  transp_place = same_place p (ascii "TRANSP") property_names refl

  pub action_place : same p (ascii "ACTION") ≡ eqb (place_of p property_names) property.ACTION
  unfolding octets_compute place_of
  action_place = same_place p (ascii "ACTION") property_names refl

  -- ACTION, the other way round
  pub action_first : same (ascii "ACTION") p ≡ eqb property.ACTION (place_of p property_names)
  unfolding octets_compute place_of
  action_first = same_place_first p (ascii "ACTION") property_names refl

  pub geo_place : same p (ascii "GEO") ≡ eqb (place_of p property_names) property.GEO
  unfolding octets_compute place_of
  geo_place = same_place p (ascii "GEO") property_names refl

  pub request_status_place : same p (ascii "REQUEST-STATUS") ≡ eqb (place_of p property_names) property.REQUEST-STATUS
  unfolding octets_compute place_of
  request_status_place = same_place p (ascii "REQUEST-STATUS") property_names refl

-- ---- sets by their numbers

abbrev words_of : Option WordsRow → Option (List (List ℕ))
words_of o = and_then o (λ r. Some r.words)

-- a row more in front of a table
step : (a : Bool) (r : WordsRow) (o : Option WordsRow) (i : ℕ) (n : Option ℕ) → nth word_sets i ≡ Some r.words → words_of o ≡ set_of n → words_of (pick a (Some r) o) ≡ set_of (pick a (Some i) n)
unfolding pick and_then
step true r o i n e f = sym e
step false r o i n e f = f

choose : (m n : Option ℕ) {o₁ o₂ : Option (List (List ℕ))} (a : Bool) → o₁ ≡ set_of m → o₂ ≡ set_of n → pick a o₁ o₂ ≡ set_of (pick a m n)
unfolding pick
choose m n true f g = f
choose m n false f g = g

-- the same where there is a set for the rest
abbrev or_else : Option WordsRow → Option (List (List ℕ))
or_else o = Some (read_or elsewhere o).words

step_else : (a : Bool) (r : WordsRow) (o : Option WordsRow) (i n : ℕ) → nth word_sets i ≡ Some r.words → or_else o ≡ nth word_sets n → or_else (pick a (Some r) o) ≡ nth word_sets (pick a i n)
unfolding pick read_or
step_else true r o i n e f = sym e
step_else false r o i n e f = f

of_status : (c : List ℕ) → or_else (row_of (λ r. r.name) c status_table) ≡
    nth word_sets (pick (same c (ascii "VEVENT")) 5 (pick (same c (ascii "VTODO")) 6 (pick (same c (ascii "VJOURNAL")) 7 16)))
unfolding row_of and_then read_or nth
of_status c = step_else _ _ _ 5 _ refl (step_else _ _ _ 6 _ refl (step_else _ _ _ 7 16 refl refl))

of_property : (p : List ℕ) → words_of (row_of (λ r. r.name) p words_table) ≡
    set_of (pick (same p (ascii "CALSCALE")) (Some 0) (pick (same p (ascii "VERSION")) (Some 1) (pick (same p (ascii "CLASS")) (Some 2) (pick (same p (ascii "TRANSP")) (Some 3) (pick (same p (ascii "ACTION")) (Some 4) None)))))
unfolding row_of and_then nth
of_property p = step _ _ _ 0 _ refl (step _ _ _ 1 _ refl (step _ _ _ 2 _ refl (step _ _ _ 3 _ refl (step _ _ _ 4 None refl refl))))

pub words_place : (c p : List ℕ) → property_words c p ≡ words_at (place_of c component_names) (place_of p property_names)
unfolding property_words and_then
words_place c p = rw (status_place p) (choose (Some (status_set (place_of c component_names))) (property_set (place_of p property_names)) (eqb (place_of p property_names) property.STATUS)
    (of_status c ∙ rw (event_place c, todo_place c, journal_place c))
    (of_property p ∙ rw (calscale_place p, version_place p, class_place p, transp_place p, action_place p)))

pub parameter_words_place : (w : List ℕ) → parameter_words w ≡ parameter_words_at (place_of w parameter_names)
parameter_words_place w = ap (λ (r : ParameterRow). r.words) (parameter_place w)

pub parameter_set_lem : (q : ℕ) → set_of (parameter_set q) ≡ parameter_words_at q
unfolding nth and_then
parameter_set_lem q = sym (get_or-map set_of parameter_set_numbers q None) ∙ get_or-map (λ r. r.words) parameter_table q unrecognised_parameter

-- ---- for code

there : (a : Bool) (i : ℕ) (n : Option ℕ) → is_read (nth word_sets i) ≡ true → is_some n ≡ is_read (set_of n) → is_some (pick a (Some i) n) ≡ is_read (set_of (pick a (Some i) n))
unfolding pick and_then
there true i n e f = sym e
there false i n e f = f

property_set_there : (p : ℕ) → is_some (property_set p) ≡ is_read (set_of (property_set p))
unfolding nth and_then is_read
property_set_there p = there _ 0 _ refl (there _ 1 _ refl (there _ 2 _ refl (there _ 3 _ refl (there _ 4 None refl refl))))

status_set_there : (a b c : Bool) → is_read (nth word_sets (pick a 5 (pick b 6 (pick c 7 16)))) ≡ true
unfolding nth is_read pick
status_set_there true b c = refl
status_set_there false true c = refl
status_set_there false false true = refl
status_set_there false false false = refl

pub set_there : (k p : ℕ) → is_some (set_at k p) ≡ is_read (words_at k p)
set_there k p = there (eqb p property.STATUS) (status_set k) (property_set p) (status_set_there (eqb k 1) (eqb k 2) (eqb k 3)) (property_set_there p)

pub parameter_set_there : (q : ℕ) → is_some (parameter_set q) ≡ is_read (parameter_words_at q)
unfolding nth and_then is_read
parameter_set_there q = sym (get_or-map is_some parameter_set_numbers q None) ∙ get_or-map (λ n. is_read (set_of n)) parameter_set_numbers q None ∙ ap is_read (parameter_set_lem q)

-- a set as the code has it: its words, how many they are, where they stand
unfoldable pub same_words : List (List ℕ) → List (List ℕ) → Bool
same_words [] [] = true
same_words [] (u ∷ us) = false
same_words (w ∷ ws) [] = false
same_words (w ∷ ws) (u ∷ us) = same w u and same_words ws us

pub words_are : (ws us : List (List ℕ)) → same_words ws us ≡ true → ws ≡ us
unfolding same_words
words_are [] [] h = refl
words_are [] (u ∷ us) h = absurd (false≢true h)
words_are (w ∷ ws) [] h = absurd (false≢true h)
words_are (w ∷ ws) (u ∷ us) h =
    let a = and_both (same w u) (same_words ws us) h in
    rw (same_true w u a.0, words_are ws us a.1)

bytes_of : ℕ → List ℕ
bytes_of n = take (get_or set_starts (n + 1) 0 - get_or set_starts n 0) (drop (get_or set_starts n 0) word_bytes)

is_stored : ℕ → Bool
is_stored n =
    same_words (names_in (bytes_of n)) (get_or word_sets n []) and eqb (get_or set_sizes n 0) (length (get_or word_sets n []))
    and leb (get_or set_starts n 0) (get_or set_starts (n + 1) 0) and leb (get_or set_starts (n + 1) 0) 517

all_stored : each_from 0 17 is_stored ≡ true
unfolding octets_compute names_in each_from same_words bytes_of is_stored
all_stored = refl

pub record Stored (n : ℕ) : Type 0 where
  pub words : names_in (take (get_or set_starts (n + 1) 0 - get_or set_starts n 0) (drop (get_or set_starts n 0) word_bytes)) ≡ get_or word_sets n []
  pub size : get_or set_sizes n 0 ≡ length (get_or word_sets n [])
  pub rises : get_or set_starts n 0 ≤ get_or set_starts (n + 1) 0
  pub within : get_or set_starts (n + 1) 0 ≤ 517

pub stored : (n : ℕ) → n < 17 → Stored n
unfolding is_stored bytes_of
stored n h =
    let a = and_both (same_words (names_in (bytes_of n)) (get_or word_sets n [])) _ (below_passes is_stored 17 n all_stored h) in
    let b = and_both (eqb (get_or set_sizes n 0) (length (get_or word_sets n []))) _ a.1 in
    let c = and_both (leb (get_or set_starts n 0) (get_or set_starts (n + 1) 0)) _ b.1 in
    record { words = words_are _ _ a.0; size = eqb-true _ _ b.0; rises = leb-true _ _ c.0; within = leb-true _ _ c.1 }

nth-some : {A : Type 0} (l : List A) (d : A) (n : ℕ) → n < length l → nth l n ≡ Some (get_or l n d)
unfolding nth
nth-some [] d n h = absurd (not-suc-le-zero h)
nth-some (a ∷ l) d zero h = refl
nth-some (a ∷ l) d (suc n) h = nth-some l d n (le_of_suc-le-suc h)

-- a word found at the place i among those of the set n, or at no place of it
module _ (w : List ℕ) {m : Option ℕ} {n i : ℕ} (g : m ≡ Some n) (h : n < 17)
    (e : i ≡ place_of w (names_in (take (get_or set_starts (n + 1) 0 - get_or set_starts n 0) (drop (get_or set_starts n 0) word_bytes)))) where
  set_place : word_in (set_of m) w ≡ word_among (get_or set_sizes n 0) i
  unfolding and_then
  set_place = let s = stored n h in rw (g, nth-some word_sets [] n h, s.size, e, s.words)

  pub set_yes : i < get_or set_sizes n 0 → Some i ≡ word_in (set_of m) w
  unfolding pick
  set_yes l = sym (set_place ∙ rw (lt-ltb i (get_or set_sizes n 0) l))

  pub set_no : get_or set_sizes n 0 ≤ i → None ≡ word_in (set_of m) w
  unfolding pick
  set_no l = sym (set_place ∙ rw (le-ltb i (get_or set_sizes n 0) l))

none_past : (sets : List (List (List ℕ))) (n : ℕ) (w : List ℕ) → length sets ≤ n → None ≡ word_in (nth sets n) w
unfolding nth
none_past [] n w h = refl
none_past (x ∷ sets) zero w h = absurd (not-suc-le-zero h)
none_past (x ∷ sets) (suc n) w h = none_past sets n w (le_of_suc-le-suc h)

pub word_none : (w : List ℕ) {m : Option ℕ} {n : ℕ} → m ≡ Some n → 17 ≤ n → None ≡ word_in (set_of m) w
unfolding and_then
word_none w {m} {n} g h = rw g (none_past word_sets n w h)

pub word_missing : (w : List ℕ) {m : Option ℕ} → m ≡ None → None ≡ word_in (set_of m) w
unfolding and_then
word_missing w g = rw g

-- ---- the answer

among_is : (t : Bool) (i : ℕ) → is_some (pick t (Some i) None) ≡ t
unfolding pick
among_is true i = refl
among_is false i = refl

word_is : (o : Option (List (List ℕ))) (w : List ℕ) → is_some (word_in o w) ≡ is_word_of o w
word_is None w = refl
word_is (Some ws) w = among_is (ltb (place_of w ws) (length ws)) (place_of w ws) ∙ sym (one_of_place w ws)

module _ (o : Option (List (List ℕ))) (w : List ℕ) {r : Option ℕ} (e : r ≡ word_in o w) where
  pub word_yes : {i : ℕ} → r ≡ Some i → true ≡ is_word_of o w
  word_yes h = sym (sym (word_is o w) ∙ rw (← e, h))

  pub word_no : r ≡ None → false ≡ is_word_of o w
  word_no h = sym (sym (word_is o w) ∙ rw (← e, h))
