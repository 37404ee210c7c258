-- What a line states has characters that are well formed, where the line is.
--     line_parts         the values of the parameters of a content line, and its value
--     property_good      what a line with no fault states
--     after_byte         what follows a byte of ASCII
use Rattle.std.specs.Prelude.{◌≡◌, refl, Bool, true, false, not, List, [], ◌∷◌, map, ℕ, ◌+◌, eqb, length, Option, None, Some, option_map}
use Rattle.std.proofs.Common.{sym, ◌∙◌}
use Rattle.std.proofs.lemmas.Bool.{false≢true}
use Rattle.octets.specs.Ascii.{ascii}
use Rattle.octets.specs.Pick.{pick, ◌and◌, ◌or◌}
use Rattle.octets.specs.laws.Pick.{and_yes, and_both, or_cases, eqb_passes}
use Rattle.octets.specs.Scan.{all_of}
use Rattle.octets.specs.laws.Scan.{all_weaker}
use Rattle.octets.specs.Append.{◌⊕◌, joined}
use Rattle.octets.specs.laws.Append.{append_empty, append_cons, append_regroup}
use Rattle.octets.specs.Class.{is_name_char, is_visible, upper}
use Rattle.octets.specs.laws.Class.{name_char_visible}
use Rattle.octets.specs.Words.{same, is_one_of, cut_at, each_after, joined_by}
use Rattle.octets.specs.Lists.{every}
use Rattle.octets.specs.laws.Lists.{every_both, every_weaker, every_map}
use Rattle.octets.specs.Reading.{read_or, read_each}
use Rattle.octets.specs.laws.Reading.{none-some, provided-some, and_then-some, each_accepted_of}
use Rattle.calendar.specs.Calendar.{ical, ValueType, TEXT, UNKNOWN, Value, text, unknown, type_of, Parameter}
use Rattle.schema.specs.Types.{same_type, is_type_of}
use Rattle.schema.specs.Properties.{permitted_types, is_listed_property, property_words}
use Rattle.schema.specs.Parameters.{parameter_type, parameter_words, is_quoted_parameter}
use Rattle.schema.specs.laws.Closed.{is_word_char, parameter_words_plain, property_words_plain}
use Rattle.utf8.specs.Utf8.{is_ascii, tail_at, first_bad, well_formed}
use Rattle.utf8.specs.laws.Utf8.{well_formed_good, good_well_formed, bad_append, good_split, ascii_first, visible_good, good_shifted}
use Rattle.numbers.specs.Geo.{read_geo}
use Rattle.numbers.specs.laws.Geo.{geo_accepted}
use Rattle.texts.specs.Text.{split_text, alone, read_text}
use Rattle.texts.specs.TextList.{read_texts}
use Rattle.texts.specs.RequestStatus.{status_of, read_request_status}
use Rattle.values.specs.ReadValue.{read_value}
use Rattle.values.specs.ReadBack.{is_typed}
use Rattle.values.specs.laws.ReadBack.{value_accepted}
use Rattle.values.specs.Characters.{free_in}
use Rattle.values.specs.laws.Characters.{free_or_shown}
use Rattle.read_text_line.specs.ContentLine.{ParamValue, RawParameter, ContentLine, is_name, is_raw_parameter, is_content_line}
use Rattle.read_text_line.specs.Names.{is_carried_name}
use Rattle.read_text_line.specs.laws.Names.{carried_name_upper}
use Rattle.read_text_line.specs.Write.{write_param_value, write_parameter, write_content_line}
use Rattle.edition.specs.declared.Edition.{Edition}
use Rattle.read_text_line.specs.Decoded.{decoded_value, decoded_parameter, decoded_line}
use Rattle.read_text_line.specs.Carried.{carries_name}
use Rattle.validity.specs.ValidCalendar.{is_permitted}
use Rattle.validity.proofs.laws.ValidCalendar.{name_visible}
use Rattle.text.specs.Parameters.{read_word, read_param_value, read_parameter, own_parameters, read_parameters}
use Rattle.text.specs.Values.{one_value, read_listed, read_chosen, read_values}
use Rattle.text.specs.Statement.{property_fault, property_of}
use Rattle.text.proofs.laws.AcceptedProperty.{parameter_read, no_fault}
use Rattle.text.proofs.laws.Faults.{own_every}
use Rattle.text.proofs.laws.Carets.{decode_good}
use Rattle.text.proofs.laws.AcceptedLine.{alone_is, text_made, unknown_is, status_parts}
use Rattle.text.proofs.laws.GoodPieces.{split_good, cut_good}
use Rattle.text.proofs.laws.WrittenLine.{is_good_chars, comma_ascii}

-- ---- the parts of a line

-- behind characters that show, and on both sides of one
after_shown : (a b : List ℕ) → all_of is_visible a ≡ true → first_bad (a ⊕ b) ≡ None → first_bad b ≡ None
after_shown a b v h = good_shifted b 0 (0 + length a) 0 (sym (bad_append a b 0 (visible_good a v)) ∙ h)

pub after_byte : (c : ℕ) (s : List ℕ) → is_ascii c ≡ true → first_bad (c ∷ s) ≡ None → first_bad s ≡ None
after_byte c s a h = good_shifted s 0 (0 + 1) 0 (sym (ascii_first c 0 s a) ∙ h)

-- what follows a value begins with no tail byte
value_off : (q : Bool) (s r : List ℕ) → tail_at r ≡ false → first_bad (pick q (34 ∷ (s ⊕ 34 ∷ [])) s ⊕ r) ≡ None → (first_bad s ≡ None) × (first_bad r ≡ None)
unfolding pick ◌and◌ ◌or◌ tail_at
value_off false s r t h = good_split s r t h
value_off true s r t h =
    let a = after_byte 34 ((s ⊕ 34 ∷ []) ⊕ r) refl (rw append_cons at h) in
    let b = good_split s (34 ∷ r) refl (rw (append_regroup, append_cons, append_empty) at a) in
    (b.0, after_byte 34 r refl b.1)

after_tail : (vs : List ParamValue) (r : List ℕ) → tail_at r ≡ false → tail_at (each_after 44 (map write_param_value vs) ⊕ r) ≡ false
unfolding each_after ◌⊕◌ tail_at ◌and◌
after_tail [] r t = t
after_tail (v ∷ vs) r t = refl

after_off : (vs : List ParamValue) (r : List ℕ) → tail_at r ≡ false → first_bad (each_after 44 (map write_param_value vs) ⊕ r) ≡ None → (every is_good_chars vs ≡ true) × (first_bad r ≡ None)
unfolding each_after every write_param_value ◌or◌ ◌and◌
after_off [] r t h = (refl, rw append_empty at h)
after_off (v ∷ vs) r t h =
    let a = after_byte 44 _ refl (rw append_cons at h) in
    let b = value_off v.quoted v.chars (each_after 44 (map write_param_value vs) ⊕ r) (after_tail vs r t) (rw append_regroup at a) in
    let c = after_off vs r t b.1 in
    (and_yes _ _ (good_well_formed v.chars b.0) c.0, c.1)

values_off : (vs : List ParamValue) (r : List ℕ) → tail_at r ≡ false → first_bad (joined_by 44 (map write_param_value vs) ⊕ r) ≡ None → (every is_good_chars vs ≡ true) × (first_bad r ≡ None)
unfolding joined_by every write_param_value
values_off [] r t h = (refl, rw append_empty at h)
values_off (v ∷ vs) r t h =
    let b = value_off v.quoted v.chars (each_after 44 (map write_param_value vs) ⊕ r) (after_tail vs r t) (rw append_regroup at h) in
    let c = after_off vs r t b.1 in
    (and_yes _ _ (good_well_formed v.chars b.0) c.0, c.1)

parameter_off : (p : RawParameter) (r : List ℕ) → is_name p.name ≡ true → tail_at r ≡ false → first_bad (write_parameter p ⊕ r) ≡ None → (every is_good_chars p.values ≡ true) × (first_bad r ≡ None)
unfolding write_parameter ◌or◌ ◌and◌
parameter_off p r n t h =
    let a = after_byte 59 _ refl (rw (append_cons, append_regroup, append_cons) at h) in
    let b = after_shown p.name _ (name_visible p.name n) a in
    values_off p.values r t (after_byte 61 _ refl b)

parameters_tail : (ps : List RawParameter) (r : List ℕ) → tail_at r ≡ false → tail_at (joined (map write_parameter ps) ⊕ r) ≡ false
unfolding joined write_parameter ◌⊕◌ tail_at ◌and◌
parameters_tail [] r t = t
parameters_tail (p ∷ ps) r t = refl

abbrev is_good_raw : RawParameter → Bool
is_good_raw r = every is_good_chars r.values

parameters_off : (ps : List RawParameter) (r : List ℕ) → every is_raw_parameter ps ≡ true → tail_at r ≡ false → first_bad (joined (map write_parameter ps) ⊕ r) ≡ None → (every is_good_raw ps ≡ true) × (first_bad r ≡ None)
unfolding joined every is_raw_parameter
parameters_off [] r n t h = (refl, rw append_empty at h)
parameters_off (p ∷ ps) r n t h =
    let d = every_both is_raw_parameter p ps n in
    let b = parameter_off p (joined (map write_parameter ps) ⊕ r) (and_both _ _ d.0).0 (parameters_tail ps r t) (rw append_regroup at h) in
    let c = parameters_off ps r d.1 t b.1 in
    (and_yes _ _ b.0 c.0, c.1)

pub line_parts : (l : ContentLine) → is_content_line l ≡ true → first_bad (write_content_line l) ≡ None → (every is_good_raw l.parameters ≡ true) × (first_bad l.value ≡ None)
unfolding is_content_line write_content_line tail_at ◌and◌ ◌or◌
line_parts l q h =
    let a = and_both (is_name l.name) _ q in
    let b = and_both (every is_raw_parameter l.parameters) _ a.1 in
    let c = parameters_off l.parameters (58 ∷ l.value) b.0 refl (after_shown l.name _ (name_visible l.name a.0) h) in
    (c.0, after_byte 58 l.value refl c.1)

-- ---- one value

one_piece : (s : List ℕ) → first_bad s ≡ None → every well_formed (s ∷ []) ≡ true
unfolding every
one_piece s h = and_yes _ _ (good_well_formed s h) refl

nothing_good : (v : Value) → free_in v ≡ [] → is_permitted v ≡ true
unfolding every
nothing_good v e = rw e

text_read_good : (s x : List ℕ) → first_bad s ≡ None → read_text s ≡ Some x → every well_formed (x ∷ []) ≡ true
text_read_good s x h e =
    let a = and_then-some (split_text 0 s) alone x e in
    rw (← (alone_is a.0 x a.2)) (split_good 0 s a.0 h a.1)

typed_good : (t : ValueType) (s : List ℕ) (v : Value) → first_bad s ≡ None → read_value ical t s ≡ Some v → is_permitted v ≡ true
unfolding read_value
typed_good t s v n h =
    let a = value_accepted ical t s v h in
    free_or_shown (λ v. is_typed v ≡ true → type_of v ≡ t → read_value ical t s ≡ Some v → is_permitted v ≡ true)
    (λ v e k y u h. nothing_good v e)
    (λ x y u h. text_read_good s x n (text_made (read_text s) x (rw (← u) at h)))
    (λ x k y u h. rw (← (unknown_is t s x u h)) (one_piece s n))
    (λ c d x y u h. absurd (false≢true y))
    v a.0 a.1 a.2 h

-- a word of a closed set shows
word_shows : (b : ℕ) → is_word_char b ≡ true → is_visible b ≡ true
unfolding ◌and◌
word_shows b h = or_cases (is_name_char b) (eqb b 46) h (name_char_visible b) (λ e. eqb_passes is_visible 46 b refl e)

word_good : (s : List ℕ) → all_of is_word_char s ≡ true → is_permitted (text s) ≡ true
word_good s h = one_piece s (visible_good s (all_weaker is_word_char is_visible word_shows s h))

-- ---- parameters

word_read_good : (n : List ℕ) (o : Option (List (List ℕ))) (t : ValueType) (s : List ℕ) (v : Value) → parameter_words n ≡ o → first_bad s ≡ None → read_word o t s ≡ Some v → is_permitted v ≡ true
unfolding pick
word_read_good n None t s v e q h = go (same_type t TEXT) h
  where
    other : (b : Bool) → pick b (Some (unknown s)) (read_value ical t s) ≡ Some v → is_permitted v ≡ true
    other true k = let u : unknown s ≡ v = cc in rw (← u) (one_piece s q)
    other false k = typed_good t s v q k

    go : (b : Bool) → pick b (Some (text s)) (pick (same_type t UNKNOWN) (Some (unknown s)) (read_value ical t s)) ≡ Some v → is_permitted v ≡ true
    go true k = let u : text s ≡ v = cc in rw (← u) (one_piece s q)
    go false k = other (same_type t UNKNOWN) k
word_read_good n (Some words) t s v e q h =
    let p = provided-some (is_one_of (upper s) words) (text (upper s)) v h in
    rw (← p.1) (word_good (upper s) (and_both _ _ (and_both _ _ (parameter_words_plain n words (upper s) e p.0)).1).0)

param_value_good : (n : List ℕ) (r : ParamValue) (v : Value) → is_good_chars r ≡ true → read_param_value n r ≡ Some v → is_permitted v ≡ true
unfolding read_param_value pick
param_value_good n r v q h = go (not r.quoted and is_quoted_parameter n) h
  where
    go : (b : Bool) → pick b None (read_word (parameter_words n) (parameter_type n) r.chars) ≡ Some v → is_permitted v ≡ true
    go true k = none-some k
    go false k = word_read_good n (parameter_words n) (parameter_type n) r.chars v refl (well_formed_good r.chars q) k

abbrev is_both : RawParameter → Bool
is_both r = carries_name r and is_good_raw r

-- what a line says of a parameter: its name is carried, and its characters are permitted
abbrev pub is_good_parameter : Parameter → Bool
is_good_parameter p = is_carried_name p.name and every is_permitted p.values

parameter_good : (r : RawParameter) (p : Parameter) → is_both r ≡ true → read_parameter r ≡ Some p → is_good_parameter p ≡ true
parameter_good r p q h =
    let d = parameter_read r p h in
    let a = and_both (is_carried_name r.name) _ q in
    and_yes _ _ (rw d.named (carried_name_upper r.name ∙ a.0))
    (each_accepted_of (read_param_value (upper r.name)) is_permitted is_good_chars (λ v x k e. param_value_good (upper r.name) v x k e) r.values p.values a.1 d.each)

both_raw : (rs : List RawParameter) → every carries_name rs ≡ true → every is_good_raw rs ≡ true → every is_both rs ≡ true
unfolding every
both_raw [] h k = refl
both_raw (r ∷ rs) h k =
    let d = every_both carries_name r rs h in
    let e = every_both is_good_raw r rs k in
    and_yes _ _ (and_yes _ _ d.0 e.0) (both_raw rs d.1 e.1)

parameters_good_lem : (rs : List RawParameter) (ps : List Parameter) → every is_both rs ≡ true → read_parameters rs ≡ Some ps → every is_good_parameter ps ≡ true
parameters_good_lem rs ps q h = each_accepted_of read_parameter is_good_parameter is_both parameter_good (own_parameters rs) ps (own_every is_both rs q) h

-- ---- the values of a property

one_good : (o : Option Value) (vs : List Value) → ((v : Value) → o ≡ Some v → is_permitted v ≡ true) → one_value o ≡ Some vs → every is_permitted vs ≡ true
unfolding every
one_good None vs f h = none-some h
one_good (Some v) vs f h = let e : v ∷ [] ≡ vs = cc in rw (← e) (and_yes _ _ (f v refl) refl)

geo_good : (s : List ℕ) (v : Value) → read_geo s ≡ Some v → is_permitted v ≡ true
unfolding every
geo_good s v h = rw (geo_accepted s v h).both

status_good : (s : List ℕ) (v : Value) → first_bad s ≡ None → read_request_status s ≡ Some v → is_permitted v ≡ true
status_good s v n h =
    let a = and_then-some (split_text 59 s) status_of v h in
    rw (status_parts a.0 v a.2) (split_good 59 s a.0 n a.1)

texts_good : (ts : List (List ℕ)) → every well_formed ts ≡ true → every is_permitted (map text ts) ≡ true
unfolding every
texts_good [] h = refl
texts_good (t ∷ ts) h = let e = every_both well_formed t ts h in and_yes _ _ (and_yes _ _ e.0 refl) (texts_good ts e.1)

listed_good : (t : ValueType) (s : List ℕ) (vs : List Value) → first_bad s ≡ None → read_listed t s ≡ Some vs → every is_permitted vs ≡ true
unfolding pick
listed_good t s vs n h = go (same_type t TEXT) h
  where
    texts : (o : Option (List (List ℕ))) → read_texts s ≡ o → option_map (map text) o ≡ Some vs → every is_permitted vs ≡ true
    texts None e k = none-some k
    texts (Some ts) e k = let q : map text ts ≡ vs = cc in rw (← q) (texts_good ts (split_good 44 s ts n e))

    go : (b : Bool) → pick b (option_map (map text) (read_texts s)) (read_each (read_value ical t) (cut_at 44 s)) ≡ Some vs → every is_permitted vs ≡ true
    go true k = texts (read_texts s) refl k
    go false k = each_accepted_of (read_value ical t) is_permitted well_formed (λ r v w e. typed_good t r v (well_formed_good r w) e) (cut_at 44 s) vs (cut_good 44 s comma_ascii n) k

chosen_good : (k n : List ℕ) (o : Option (List (List ℕ))) (t : ValueType) (s : List ℕ) (v : Value) → property_words k n ≡ o → first_bad s ≡ None → read_chosen o t s ≡ Some v → is_permitted v ≡ true
chosen_good k n None t s v e c h = typed_good t s v c h
chosen_good k n (Some words) t s v e c h =
    let p = provided-some (is_one_of (upper s) words) (text (upper s)) v h in
    rw (← p.1) (word_good (upper s) (and_both _ _ (and_both _ _ (property_words_plain k n words (upper s) e p.0)).1).0)

values_good : (k n : List ℕ) (t : ValueType) (s : List ℕ) (vs : List Value) → first_bad s ≡ None → read_values k n t s ≡ Some vs → every is_permitted vs ≡ true
unfolding read_values pick
values_good k n t s vs c h =
    go (is_type_of t (permitted_types n)) (same n (ascii "GEO")) (same n (ascii "REQUEST-STATUS")) (is_listed_property n) h
  where
    go : (b g r l : Bool) → pick b (pick g (one_value (read_geo s)) (pick r (one_value (read_request_status s)) (pick l (read_listed t s) (one_value (read_chosen (property_words k n) t s))))) None ≡ Some vs →
        every is_permitted vs ≡ true
    go false g r l h = none-some h
    go true true r l h = one_good (read_geo s) vs (geo_good s) h
    go true false true l h = one_good (read_request_status s) vs (λ v e. status_good s v c e) h
    go true false false true h = listed_good t s vs c h
    go true false false false h = one_good (read_chosen (property_words k n) t s) vs (λ v e. chosen_good k n (property_words k n) t s v refl c e) h

-- ---- the property

value_decoded : (ed : Edition) (v : ParamValue) → is_good_chars v ≡ true → is_good_chars (decoded_value ed v) ≡ true
value_decoded ed v h = good_well_formed _ (decode_good ed v.chars (well_formed_good v.chars h))

raw_decoded : (ed : Edition) (r : RawParameter) → is_good_raw r ≡ true → is_good_raw (decoded_parameter ed r) ≡ true
raw_decoded ed r h = every_map is_good_chars (decoded_value ed) r.values ∙ every_weaker is_good_chars (λ v. is_good_chars (decoded_value ed v)) (value_decoded ed) r.values h

pub property_good : (ed : Edition) (k : List ℕ) (l : ContentLine) → is_content_line l ≡ true → first_bad (write_content_line l) ≡ None → every carries_name (decoded_line ed l).parameters ≡ true →
    property_fault k (decoded_line ed l) ≡ None → (every is_good_parameter (property_of k (decoded_line ed l)).parameters ≡ true) × (every is_permitted (property_of k (decoded_line ed l)).values ≡ true)
unfolding property_of read_or
property_good ed k l q g c h =
    let a = line_parts l q g in
    let f = no_fault k (decoded_line ed l) h in
    let d : every is_good_raw (map (decoded_parameter ed) l.parameters) ≡ true = every_map is_good_raw (decoded_parameter ed) l.parameters ∙ every_weaker is_good_raw (λ r. is_good_raw (decoded_parameter ed r)) (raw_decoded ed) l.parameters a.0 in (
      rw f.parameters_read (parameters_good_lem (map (decoded_parameter ed) l.parameters) f.parameters (both_raw (map (decoded_parameter ed) l.parameters) c d) f.parameters_read),
      rw (f.stated, f.values_read) (values_good k (upper l.name) f.type l.value f.values a.1 f.values_read),
    )
