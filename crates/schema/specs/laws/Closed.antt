-- Laws of closed sets, by computing over the rows.
--     is_plain                  a word in capitals, of characters that nothing escapes or quotes
--     parameter_words_plain, property_words_plain   the words of closed sets are such
--     parameter_words_text, property_words_text     what has a closed set takes one TEXT
use Rattle.std.specs.Prelude.{◌≡◌, refl, Bool, true, false, not, List, [], ◌∷◌, map, ℕ, eqb, ltb, length, Option, None, Some}
use Rattle.std.proofs.Common.{arith}
use Rattle.std.proofs.lemmas.Bool.{not-true}
use Rattle.octets.specs.Ascii.{ascii}
use Rattle.octets.specs.Pick.{pick, ◌and◌, ◌or◌}
use Rattle.octets.specs.laws.Pick.{pick_either, and_both}
use Rattle.octets.specs.Scan.{all_of}
use Rattle.octets.specs.Class.{is_name_char, upper}
use Rattle.octets.specs.Words.{same, is_empty, is_one_of, row_of}
use Rattle.octets.specs.laws.Words.{empty_is}
use Rattle.octets.specs.laws.Tables.{row_any_passes, row_none, row_passes}
use Rattle.octets.specs.Lists.{every}
use Rattle.octets.specs.laws.Lists.{word_passes}
use Rattle.octets.specs.Reading.{and_then, is_read, read_or}
use Rattle.octets.specs.laws.Reading.{none-some}
use Rattle.octets.specs.Computing.{octets_compute}
use Rattle.calendar.specs.Calendar.{TEXT}
use Rattle.schema.specs.Types.{same_type}
use Rattle.schema.specs.laws.Types.{same_type_true}
use Rattle.schema.specs.Parameters.{is_listed_parameter, parameter_table, parameter_row, unrecognised_parameter, parameter_type, parameter_words}
use Rattle.schema.specs.Properties.{is_listed_property, property_row, default_type, permitted_types, property_words, words_table, status_table, elsewhere, WordsRow}

-- ---- closed sets

-- a character of a name, or the point of "2.0"
abbrev pub is_word_char : ℕ → Bool
is_word_char b = is_name_char b or eqb b 46

-- in capitals, of such characters, and not empty
abbrev pub is_plain : List ℕ → Bool
is_plain w = ltb 0 (length w) and all_of is_word_char w and same (upper w) w

every_plain : Option (List (List ℕ)) → Bool
every_plain None = true
every_plain (Some ws) = every is_plain ws

plain_of : (o : Option (List (List ℕ))) (ws : List (List ℕ)) (w : List ℕ) → every_plain o ≡ true → o ≡ Some ws → is_one_of w ws ≡ true → is_plain w ≡ true
unfolding every_plain
plain_of None ws w a e h = none-some e
plain_of (Some vs) ws w a e h = let q : vs ≡ ws = cc in word_passes is_plain ws w (rw q at a) h

parameters_plain : (q : List ℕ) → every_plain (parameter_words q) ≡ true
unfolding octets_compute parameter_row every_plain
parameters_plain q = row_any_passes (λ r. r.name) q (λ r. every_plain r.words) unrecognised_parameter parameter_table refl refl

words_plain : (w : List ℕ) (rs : List WordsRow) → every (λ r. every is_plain r.words) rs ≡ true →
    every_plain (and_then (row_of (λ r. r.name) w rs) (λ r. Some r.words)) ≡ true
unfolding every_plain and_then
words_plain w rs a = go (row_of (λ r. r.name) w rs) refl
  where
    go : (o : Option WordsRow) → row_of (λ r. r.name) w rs ≡ o → every_plain (and_then o (λ r. Some r.words)) ≡ true
    go None e = refl
    go (Some r) e = row_passes (λ r. r.name) w (λ r. every is_plain r.words) rs r a e

sets_plain : every (λ r. every is_plain r.words) words_table ≡ true
unfolding octets_compute
sets_plain = refl

status_words_lem : (c : List ℕ) → every_plain (Some (read_or elsewhere (row_of (λ r. r.name) c status_table)).words) ≡ true
unfolding octets_compute every_plain
status_words_lem c = row_any_passes (λ r. r.name) c (λ r. every is_plain r.words) elsewhere status_table refl refl

properties_plain : (c p : List ℕ) → every_plain (property_words c p) ≡ true
unfolding property_words
properties_plain c p = pick_either (λ o. every_plain o ≡ true) (same p (ascii "STATUS")) _ _ (status_words_lem c) (words_plain p words_table sets_plain)

pub parameter_words_plain : (q : List ℕ) (ws : List (List ℕ)) (w : List ℕ) → parameter_words q ≡ Some ws → is_one_of w ws ≡ true → is_plain w ≡ true
parameter_words_plain q ws w e h = plain_of (parameter_words q) ws w (parameters_plain q) e h

pub property_words_plain : (c p : List ℕ) (ws : List (List ℕ)) (w : List ℕ) → property_words c p ≡ Some ws → is_one_of w ws ≡ true → is_plain w ≡ true
property_words_plain c p ws w e h = plain_of (property_words c p) ws w (properties_plain c p) e h

-- ---- their types

row_text : (q : List ℕ) → pick (is_read (parameter_words q)) (same_type (parameter_type q) TEXT and not (is_listed_parameter q)) true ≡ true
unfolding octets_compute parameter_row same_type
row_text q = row_any_passes (λ r. r.name) q (λ r. pick (is_read r.words) (same_type r.type TEXT and not r.listed) true) unrecognised_parameter parameter_table refl refl

pub parameter_words_text : (q : List ℕ) (ws : List (List ℕ)) → parameter_words q ≡ Some ws → (parameter_type q ≡ TEXT) × (is_listed_parameter q ≡ false)
unfolding is_read pick
parameter_words_text q ws e = (same_type_true _ _ (and_both _ _ both).0, not-true _ (and_both _ _ both).1)
  where
    both : (same_type (parameter_type q) TEXT and not (is_listed_parameter q)) ≡ true
    both = rw e at (row_text q)

-- a property that takes one TEXT, and nothing else
is_one_text : List ℕ → Bool
is_one_text p = same_type (default_type p) TEXT and is_empty (property_row p).others and not (is_listed_property p)

closed_texts : every is_one_text (ascii "STATUS" ∷ map (λ r. r.name) words_table) ≡ true
unfolding octets_compute is_one_text property_row same_type
closed_texts = refl

-- a property with a closed set is STATUS or a row of the table
closed_named : (c p : List ℕ) (ws : List (List ℕ)) → property_words c p ≡ Some ws → is_one_of p (ascii "STATUS" ∷ map (λ r. r.name) words_table) ≡ true
unfolding property_words is_one_of pick ◌or◌ and_then
closed_named c p ws e = go (same p (ascii "STATUS")) e
  where
    rows : (b : Bool) → is_one_of p (map (λ r. r.name) words_table) ≡ b → and_then (row_of (λ r. r.name) p words_table) (λ r. Some r.words) ≡ Some ws → b ≡ true
    rows true h k = refl
    rows false h k = let z : ◌≡◌ {A = ℕ} 0 1 = cc (row_none (λ r. r.name) p words_table h) in absurd (omega arith)

    go : (b : Bool) → pick b (Some (read_or elsewhere (row_of (λ r. r.name) c status_table)).words) (and_then (row_of (λ r. r.name) p words_table) (λ r. Some r.words)) ≡ Some ws →
        (b or is_one_of p (map (λ r. r.name) words_table)) ≡ true
    go true k = refl
    go false k = rows _ refl k

pub property_words_text : (c p : List ℕ) (ws : List (List ℕ)) → property_words c p ≡ Some ws → (permitted_types p ≡ TEXT ∷ []) × (is_listed_property p ≡ false)
unfolding is_one_text
property_words_text c p ws e =
    let d : default_type p ≡ TEXT = same_type_true _ _ (and_both _ _ passed).0 in
    let o : (property_row p).others ≡ [] = empty_is (property_row p).others (and_both _ _ (and_both _ _ passed).1).0 in
    (cc, not-true _ (and_both _ _ (and_both _ _ passed).1).1)
  where
    passed : is_one_text p ≡ true
    passed = word_passes is_one_text _ p closed_texts (closed_named c p ws e)
