-- A value that is written to XML is read back from its element, and not refused (RFC 6321, section 3.6).
--     value_back       the value that the nodes of a value's element state
--     typed_fine       the verdict on them
--     typed_before     a value that is spelled as its type says is an element named as its type
--     values_back      the values that the elements of values state
--     element_type_lem  the name of a value's element names its type
use Rattle.std.specs.Prelude.{◌≡◌, refl, true, false, List, [], ◌∷◌, ℕ, Some}
use Rattle.std.proofs.Common.{ap}
use Rattle.std.proofs.lemmas.Bool.{false≢true}
use Rattle.octets.specs.Pick.{pick, ◌and◌}
use Rattle.octets.specs.laws.Pick.{and_both}
use Rattle.octets.specs.Class.{lower}
use Rattle.octets.specs.Lists.{every}
use Rattle.octets.specs.Reading.{is_read, read_or}
use Rattle.octets.specs.Computing.{octets_compute}
use Rattle.calendar.specs.Calendar.{xcal, ValueType, BINARY, BOOLEAN, CAL-ADDRESS, DATE, DATE-TIME, DURATION, FLOAT, INTEGER, PERIOD, RECUR, TEXT, TIME, URI, UTC-OFFSET, UNKNOWN}
use Rattle.calendar.specs.Calendar.{Value, binary, boolean, cal_address, date, date_time, duration, float, integer, period_explicit, period_start, recur, text, time, uri, utc_offset, unknown, geo, request_status, type_of}
use Rattle.calendar.specs.Refusal.{fine, ◌otherwise◌}
use Rattle.schema.specs.Types.{type_name, same_type}
use Rattle.schema.specs.Computing.{schema_compute}
use Rattle.schema.specs.Properties.{property_words}
use Rattle.times.specs.DateTime.{is_date_time, read_date_time, write_date_time}
use Rattle.times.specs.laws.DateTime.{date_time_read_back}
use Rattle.times.specs.Duration.{is_duration, read_duration, write_duration}
use Rattle.times.specs.laws.Duration.{duration_read_back}
use Rattle.recur.specs.Parts.{part_names}
use Rattle.recur.specs.Rule.{is_ordered, is_complete}
use Rattle.values.specs.WriteValue.{value_characters}
use Rattle.values.specs.ReadBack.{is_value, is_typed}
use Rattle.values.specs.laws.ReadBack.{is_character_data, characters_read_back}
use Rattle.xml.specs.Nodes.{no_nodes}
use Rattle.xml.specs.Content.{Content, nothing, placed}
use Rattle.xcal.specs.Layout.{lacks, sequence}
use Rattle.xcal.proofs.laws.Contents.{plain_inside, inside, element_before, value_before, values_before}
use Rattle.xcal.proofs.laws.LeavesBack.{leaf_placed, leaf_characters, leaf_fine}
use Rattle.xcal.proofs.laws.RecurBack.{parts_of_lem}
use Rattle.xcal.proofs.laws.RecurFine.{rule_fine}
use Rattle.xcal.specs.ValueNodes.{element_type, child_named, period_inside, read_word_of, typed_verdict, value_of, typed_values}

-- ---- one value

pub typed_before : (v : Value) (next : Content) → is_typed v ≡ true → value_before v next ≡ element_before v next
unfolding value_before
typed_before (binary s) next t = refl
typed_before (boolean b) next t = refl
typed_before (cal_address s) next t = refl
typed_before (date s) next t = refl
typed_before (date_time s) next t = refl
typed_before (duration s) next t = refl
typed_before (float d) next t = refl
typed_before (integer w) next t = refl
typed_before (period_explicit s e) next t = refl
typed_before (period_start s d) next t = refl
typed_before (recur ps) next t = refl
typed_before (text s) next t = refl
typed_before (time s) next t = refl
typed_before (uri s) next t = refl
typed_before (utc_offset s) next t = refl
typed_before (unknown s) next t = refl
typed_before (geo la lo) next t = absurd (false≢true t)
typed_before (request_status c d x) next t = absurd (false≢true t)

-- what holds of every value spelled as its type says, by the three ways it is spelled in XML
pub by_spelling : (P : Value → Type 0) →
    ((v : Value) → is_character_data v ≡ true → inside v ≡ plain_inside v → same_type (type_of v) PERIOD ≡ false → same_type (type_of v) RECUR ≡ false → P v) →
    ((s e : List ℕ) → P (period_explicit s e)) → ((s d : List ℕ) → P (period_start s d)) → ((ps : List _) → P (recur ps)) → (v : Value) → is_typed v ≡ true → P v
unfolding inside same_type
by_spelling P a b c d (binary s) t = a (binary s) refl refl refl refl
by_spelling P a b c d (boolean x) t = a (boolean x) refl refl refl refl
by_spelling P a b c d (cal_address s) t = a (cal_address s) refl refl refl refl
by_spelling P a b c d (date s) t = a (date s) refl refl refl refl
by_spelling P a b c d (date_time s) t = a (date_time s) refl refl refl refl
by_spelling P a b c d (duration s) t = a (duration s) refl refl refl refl
by_spelling P a b c d (float x) t = a (float x) refl refl refl refl
by_spelling P a b c d (integer w) t = a (integer w) refl refl refl refl
by_spelling P a b c d (period_explicit s e) t = b s e
by_spelling P a b c d (period_start s x) t = c s x
by_spelling P a b c d (recur ps) t = d ps
by_spelling P a b c d (text s) t = a (text s) refl refl refl refl
by_spelling P a b c d (time s) t = a (time s) refl refl refl refl
by_spelling P a b c d (uri s) t = a (uri s) refl refl refl refl
by_spelling P a b c d (utc_offset s) t = a (utc_offset s) refl refl refl refl
by_spelling P a b c d (unknown s) t = a (unknown s) refl refl refl refl
by_spelling P a b c d (geo la lo) t = absurd (false≢true t)
by_spelling P a b c d (request_status x y z) t = absurd (false≢true t)

-- ---- read back

explicit_back : (s e : List ℕ) (q : ℕ) → is_value (period_explicit s e) ≡ true → value_of PERIOD (placed (inside (period_explicit s e)) q no_nodes) ≡ period_explicit s e
unfolding octets_compute inside placed value_of same_type child_named
explicit_back s e q h =
    let b = and_both (is_date_time s) (is_date_time e) h in
    rw (leaf_characters (write_date_time xcal s), leaf_characters (write_date_time xcal e), date_time_read_back xcal s b.0, date_time_read_back xcal e b.1)

start_back : (s d : List ℕ) (q : ℕ) → is_value (period_start s d) ≡ true → value_of PERIOD (placed (inside (period_start s d)) q no_nodes) ≡ period_start s d
unfolding octets_compute inside placed value_of same_type child_named
start_back s d q h =
    let b = and_both (is_date_time s) (is_duration d) h in
    rw (leaf_characters (write_date_time xcal s), leaf_characters (write_duration xcal d), date_time_read_back xcal s b.0, duration_read_back xcal d b.1)

recur_back : (ps : List _) (q : ℕ) → is_value (recur ps) ≡ true → value_of RECUR (placed (inside (recur ps)) q no_nodes) ≡ recur ps
unfolding inside value_of same_type pick
recur_back ps q h =
    let b = and_both (is_ordered part_names ps) _ h in
    ap recur (parts_of_lem ps q b.0 (and_both (is_complete ps) _ b.1).1)

pub value_back : (v : Value) → is_typed v ≡ true → is_value v ≡ true → (q : ℕ) → value_of (type_of v) (placed (inside v) q no_nodes) ≡ v
unfolding value_of pick read_or
value_back v t h q =
    by_spelling (λ v. is_value v ≡ true → value_of (type_of v) (placed (inside v) q no_nodes) ≡ v)
    (λ v c e p r h. rw (e, p, r, leaf_placed (value_characters v) q, leaf_characters (value_characters v) q, characters_read_back v c h))
    (λ s e h. explicit_back s e q h) (λ s d h. start_back s d q h) (λ ps h. recur_back ps q h) v t h

-- ---- the verdict

period_end_fine : (s e : List ℕ) (q x : ℕ) → is_value (period_explicit s e) ≡ true → (k n : List ℕ) (p : ℕ) → typed_verdict k n PERIOD p x (placed (inside (period_explicit s e)) q no_nodes) ≡ fine
unfolding octets_compute inside placed typed_verdict same_type sequence period_inside lacks ◌otherwise◌
period_end_fine s e q x h k n p =
    let b = and_both (is_date_time s) (is_date_time e) h in
    rw (
      leaf_fine (λ s. is_read (read_date_time xcal s)) _ (write_date_time xcal s) _ (rw (date_time_read_back xcal s b.0)),
      leaf_fine (λ s. is_read (read_date_time xcal s)) _ (write_date_time xcal e) _ (rw (date_time_read_back xcal e b.1)),
    )

period_duration_fine : (s d : List ℕ) (q x : ℕ) → is_value (period_start s d) ≡ true → (k n : List ℕ) (p : ℕ) → typed_verdict k n PERIOD p x (placed (inside (period_start s d)) q no_nodes) ≡ fine
unfolding octets_compute inside placed typed_verdict same_type sequence period_inside lacks ◌otherwise◌
period_duration_fine s d q x h k n p =
    let b = and_both (is_date_time s) (is_duration d) h in
    rw (
      leaf_fine (λ s. is_read (read_date_time xcal s)) _ (write_date_time xcal s) _ (rw (date_time_read_back xcal s b.0)),
      leaf_fine (λ s. is_read (read_duration xcal s)) _ (write_duration xcal d) _ (rw (duration_read_back xcal d b.1)),
    )

recur-fine : (ps : List _) (q x : ℕ) → is_value (recur ps) ≡ true → (k n : List ℕ) (p : ℕ) → typed_verdict k n RECUR p x (placed (inside (recur ps)) q no_nodes) ≡ fine
unfolding inside typed_verdict same_type pick
recur-fine ps q x h k n p = rule_fine ps q x h

-- where the property has a closed set of words, the value is one of them
pub typed_fine : (v : Value) → is_typed v ≡ true → is_value v ≡ true → (k n : List ℕ) → (is_character_data v ≡ true → read_word_of (property_words k n) (type_of v) (value_characters v) ≡ true) →
    (p x q : ℕ) → typed_verdict k n (type_of v) p x (placed (inside v) q no_nodes) ≡ fine
unfolding typed_verdict pick
typed_fine v t h k n w p x q =
    by_spelling (λ v. is_value v ≡ true → (is_character_data v ≡ true → read_word_of (property_words k n) (type_of v) (value_characters v) ≡ true) → typed_verdict k n (type_of v) p x (placed (inside v) q no_nodes) ≡ fine)
    (λ v c e a b h w. rw (e, a, b, leaf_placed (value_characters v) q) (leaf_fine (read_word_of (property_words k n) (type_of v)) p (value_characters v) q (w c)))
    (λ s e h w. period_end_fine s e q x h k n p) (λ s d h w. period_duration_fine s d q x h k n p) (λ ps h w. recur-fine ps q x h k n p) v t h w

-- ---- the elements of values

pub element_type_lem : (t : ValueType) → element_type (lower (type_name t)) ≡ Some t
unfolding schema_compute element_type
element_type_lem BINARY = refl
element_type_lem BOOLEAN = refl
element_type_lem CAL-ADDRESS = refl
element_type_lem DATE = refl
element_type_lem DATE-TIME = refl
element_type_lem DURATION = refl
element_type_lem FLOAT = refl
element_type_lem INTEGER = refl
element_type_lem PERIOD = refl
element_type_lem RECUR = refl
element_type_lem TEXT = refl
element_type_lem TIME = refl
element_type_lem URI = refl
element_type_lem UTC-OFFSET = refl
element_type_lem UNKNOWN = refl

pub values_back : (vs : List Value) → every (λ (v : Value). is_typed v and is_value v) vs ≡ true → (q : ℕ) → typed_values (placed (values_before vs nothing) q no_nodes) ≡ vs
unfolding every values_before placed typed_values
values_back [] h q = refl
values_back (v ∷ vs) h q =
    let a = and_both (is_typed v and is_value v) _ h in
    let b = and_both (is_typed v) (is_value v) a.0 in
    rw (typed_before v (values_before vs nothing) b.0, element_type_lem (type_of v), value_back v b.0 b.1)
    (ap (λ (l : List Value). v ∷ l) (values_back vs a.1 _))
