-- Values read from elements that are not refused are values of the type asked for, and clean where the characters are (RFC 6321, section 3.6).
--     is_clean_content  content that is character data, of clean characters
--     typed_accepted    the value that the content of an element states
--     value_clean       is clean
use Rattle.std.specs.Prelude.{◌≡◌, refl, Bool, true, false, List, [], ℕ, Option, None, Some}
use Rattle.std.proofs.Common.{sym, ap, ◌∙◌}
use Rattle.std.proofs.lemmas.Bool.{false≢true}
use Rattle.octets.specs.Ascii.{ascii}
use Rattle.octets.specs.Pick.{pick, ◌and◌, ◌or◌}
use Rattle.octets.specs.laws.Pick.{and_yes}
use Rattle.octets.specs.Words.{holds}
use Rattle.octets.specs.Lists.{every}
use Rattle.octets.specs.Reading.{is_read, read_or}
use Rattle.octets.specs.laws.Reading.{none-some}
use Rattle.calendar.specs.Calendar.{xcal, ValueType, BINARY, BOOLEAN, CAL-ADDRESS, DATE, DATE-TIME, DURATION, FLOAT, INTEGER, PERIOD, RECUR, TEXT, TIME, URI, UTC-OFFSET, UNKNOWN}
use Rattle.calendar.specs.Calendar.{Value, binary, boolean, cal_address, date, date_time, duration, float, integer, recur, text, time, uri, utc_offset, unknown}
use Rattle.calendar.specs.Refusal.{fine}
use Rattle.schema.specs.Types.{same_type}
use Rattle.schema.specs.laws.Types.{same_type_self, same_type_true}
use Rattle.schema.specs.Properties.{property_words}
use Rattle.utf8.specs.Utf8.{bad_from, well_formed}
use Rattle.times.specs.Date.{read_date}
use Rattle.times.specs.Time.{read_time}
use Rattle.times.specs.DateTime.{read_date_time}
use Rattle.times.specs.Duration.{read_duration}
use Rattle.times.specs.UtcOffset.{read_utc_offset}
use Rattle.numbers.specs.Integer.{read_integer}
use Rattle.numbers.specs.Float.{read_float}
use Rattle.numbers.specs.Boolean.{read_boolean}
use Rattle.texts.specs.Uri.{read_uri}
use Rattle.texts.specs.Binary.{read_binary}
use Rattle.texts.specs.Unknown.{read_unknown}
use Rattle.texts.specs.laws.Unknown.{unknown_kept}
use Rattle.recur.specs.Parts.{part_names}
use Rattle.values.specs.ReadValue.{read_value}
use Rattle.values.specs.ReadBack.{is_value}
use Rattle.values.specs.laws.ReadBack.{value_accepted, made}
use Rattle.values.specs.Valid.{is_of_type, is_chosen}
use Rattle.xml.specs.Nodes.{Nodes, characters_of, has_element}
use Rattle.xcal.specs.Layout.{sequence, leaf}
use Rattle.xcal.specs.ValueNodes.{period_slots, period_inside, recur_slots, recur_inside, read_word_of, typed_verdict, child_named, period_of, parts_of, value_of}
use Rattle.xcal.proofs.laws.Chosen.{OfText}
use Rattle.xcal.proofs.laws.SoundContent.{is_clean}
use Rattle.xcal.proofs.laws.CleanValues.{is_clean_value, one_clean}
use Rattle.xcal.proofs.laws.Accepted.{leaf_accepted}
use Rattle.xcal.proofs.laws.PeriodAccepted.{read_passes, period_value}
use Rattle.xcal.proofs.laws.RecurAccepted.{rule_accepted}

-- ---- clean

-- content of an element that is character data, of clean characters
abbrev pub is_clean_content : Nodes → Bool
is_clean_content kids = has_element kids or is_clean (characters_of kids)

-- ---- of the type asked for

-- a value that is read has the type
pub read_typed : (t : ValueType) (s : List ℕ) (v : Value) → read_value xcal t s ≡ Some v → is_of_type t v ≡ true
read_typed t s v h = let a = value_accepted xcal t s v h in and_yes _ _ (rw a.2 (same_type_self t)) (and_yes _ _ a.1 a.0)

-- the characters of a value, or a word of a closed set
pub word_accepted : (o : Option (List (List ℕ))) (t : ValueType) (s : List ℕ) → OfText o t → read_word_of o t s ≡ true → is_chosen o t (read_or (text []) (read_value xcal t s)) ≡ true
unfolding read_value read_or
word_accepted None t s f h = read_passes (text []) (read_value xcal t s) (is_of_type t) h (read_typed t s)
word_accepted (Some words) t s f h = rw (f words refl) h

other_type : {X : Type 0} (t u : ValueType) (words : List (List ℕ)) → OfText (Some words) t → same_type t u ≡ true → same_type TEXT u ≡ false → X
other_type t u words f h k = absurd (false≢true (sym k ∙ ap (λ (w : ValueType). same_type w u) (sym (f words refl)) ∙ h))

period_typed : (o : Option (List ℕ)) (kids : Nodes) → is_value (period_of o kids) ≡ true → is_of_type PERIOD (period_of o kids) ≡ true
unfolding same_type ◌and◌
period_typed None kids h = h
period_typed (Some s) kids h = h

-- the verdict on an element of type t with the closed set o
pub typed_accepted : (k n : List ℕ) (t : ValueType) (p e : ℕ) (kids : Nodes) → OfText (property_words k n) t → typed_verdict k n t p e kids ≡ fine → is_chosen (property_words k n) t (value_of t kids) ≡ true
unfolding typed_verdict value_of pick same_type ◌and◌
typed_accepted k n t p e kids f h = go (same_type t PERIOD) refl (same_type t RECUR) refl (property_words k n) refl f h
  where
    go : (a : Bool) → same_type t PERIOD ≡ a → (b : Bool) → same_type t RECUR ≡ b → (o : Option (List (List ℕ))) → property_words k n ≡ o → OfText o t →
        pick a (sequence period_slots period_inside kids 0 [] e) (pick b (sequence recur_slots recur_inside kids 0 [] e) (leaf (read_word_of o t) p kids)) ≡ fine →
        is_chosen o t (pick a (period_of (child_named (ascii "duration") kids) kids) (pick b (recur (parts_of part_names kids)) (read_or (text []) (read_value xcal t (characters_of kids))))) ≡ true
    go true x b y None z f h = rw (same_type_true t PERIOD x) (period_typed (child_named (ascii "duration") kids) kids (period_value kids e h))
    go true x b y (Some ws) z f h = other_type t PERIOD ws f x refl
    go false x true y None z f h = rw (same_type_true t RECUR y) (rule_accepted kids e h)
    go false x true y (Some ws) z f h = other_type t RECUR ws f y refl
    go false x false y o z f h = word_accepted o t (characters_of kids) f (leaf_accepted (read_word_of o t) p kids h).0

-- ---- clean

pub clean_leaf : (kids : Nodes) → has_element kids ≡ false → is_clean_content kids ≡ true → is_clean (characters_of kids) ≡ true
unfolding ◌or◌
clean_leaf kids e h = rw e at h

abbrev Clean : Value → Type 0
Clean v = is_clean_value v ≡ true

pub read_clean : (t : ValueType) (s : List ℕ) (v : Value) → is_clean s ≡ true → read_value xcal t s ≡ Some v → is_clean_value v ≡ true
unfolding read_value every
read_clean BINARY s v c h = made Clean binary (read_binary xcal s) v h (λ a e. refl)
read_clean BOOLEAN s v c h = made Clean boolean (read_boolean xcal s) v h (λ a e. refl)
read_clean CAL-ADDRESS s v c h = made Clean cal_address (read_uri s) v h (λ a e. refl)
read_clean DATE s v c h = made Clean date (read_date xcal s) v h (λ a e. refl)
read_clean DATE-TIME s v c h = made Clean date_time (read_date_time xcal s) v h (λ a e. refl)
read_clean DURATION s v c h = made Clean duration (read_duration xcal s) v h (λ a e. refl)
read_clean FLOAT s v c h = made Clean float (read_float s) v h (λ a e. refl)
read_clean INTEGER s v c h = made Clean integer (read_integer s) v h (λ a e. refl)
read_clean PERIOD s v c h = none-some h
read_clean RECUR s v c h = none-some h
read_clean TEXT s v c h = made Clean text (Some s) v h (λ a e. let z : s ≡ a = cc in rw (← z) (one_clean s c))
read_clean TIME s v c h = made Clean time (read_time xcal s) v h (λ a e. refl)
read_clean URI s v c h = made Clean uri (read_uri s) v h (λ a e. refl)
read_clean UTC-OFFSET s v c h = made Clean utc_offset (read_utc_offset xcal s) v h (λ a e. refl)
read_clean UNKNOWN s v c h = made Clean unknown (read_unknown s) v h (λ a e. rw (← (unknown_kept s a e)) (one_clean s c))

pub empty_clean : is_clean [] ≡ true
unfolding is_clean well_formed holds bad_from is_read pick ◌and◌
empty_clean = refl

read_or_clean : (t : ValueType) (s : List ℕ) → is_clean s ≡ true → is_clean_value (read_or (text []) (read_value xcal t s)) ≡ true
unfolding read_or
read_or_clean t s c = go (read_value xcal t s) refl
  where
    go : (o : Option Value) → read_value xcal t s ≡ o → is_clean_value (read_or (text []) o) ≡ true
    go None e = one_clean [] empty_clean
    go (Some v) e = read_clean t s v c e

period_clean : (o : Option (List ℕ)) (kids : Nodes) → is_clean_value (period_of o kids) ≡ true
unfolding every
period_clean None kids = refl
period_clean (Some s) kids = refl

pub value_clean : (k n : List ℕ) (t : ValueType) (p e : ℕ) (kids : Nodes) → typed_verdict k n t p e kids ≡ fine → is_clean_content kids ≡ true → is_clean_value (value_of t kids) ≡ true
unfolding typed_verdict value_of pick every
value_clean k n t p e kids h c = go (same_type t PERIOD) (same_type t RECUR) h
  where
    go : (a b : Bool) → pick a (sequence period_slots period_inside kids 0 [] e) (pick b (sequence recur_slots recur_inside kids 0 [] e) (leaf (read_word_of (property_words k n) t) p kids)) ≡ fine →
        is_clean_value (pick a (period_of (child_named (ascii "duration") kids) kids) (pick b (recur (parts_of part_names kids)) (read_or (text []) (read_value xcal t (characters_of kids))))) ≡ true
    go true b h = period_clean (child_named (ascii "duration") kids) kids
    go false true h = refl
    go false false h = read_or_clean t (characters_of kids) (clean_leaf kids (leaf_accepted (read_word_of (property_words k n) t) p kids h).1 c)
