-- Laws of the action that an ACTION names.
--     words     the rules of the action
use Rattle.std.specs.Prelude.{◌≡◌, refl, Bool, true, false, List, [], ◌∷◌, ℕ, ◌<◌, length, Option, None, Some}
use Rattle.std.proofs.Common.{sym, ap, ◌∙◌, rules, eq-eqb}
use Rattle.std.proofs.lemmas.Bool.{false≢true}
use Rattle.octets.specs.Ascii.{ascii}
use Rattle.octets.specs.Pick.{pick}
use Rattle.octets.specs.Words.{is_one_of}
use Rattle.octets.specs.laws.Words.{same_true}
use Rattle.octets.specs.Reading.{provided, and_then, is_read, read_or, cons_read, read_each}
use Rattle.octets.specs.Computing.{octets_compute}
use Rattle.calendar.specs.Calendar.{ValueType, Value, text}
use Rattle.schema.specs.Types.{is_type_of}
use Rattle.schema.specs.Properties.{property_row, permitted_types, property_words}
use Rattle.schema.specs.Counts.{first_text}
use Rattle.schema.specs.Completing.{action_names, action_named, alarm_action}
use Rattle.schema.specs.declared.Action.{Action}
use Rattle.schema.specs.laws.Sets.{action_place}
use Rattle.schema.specs.Property as property
use Rattle.json_text.specs.Tree.{Json, string, number, literal, array, object, element_list}
use Rattle.json_text.specs.Kinds.{as_string}
use Rattle.jcal.specs.Values.{read_one, read_values}
use Rattle.read_json.specs.TreeAt.{elements_at, string_at}
use Rattle.read_json.specs.Heads.{HeadAt}
use Rattle.read_json.specs.Kinds.{is_string}
use Rattle.read_json.specs.declared.Head.{Head}
use Rattle.read_jcal.specs.Arrays.{found}
use Rattle.read_jcal.specs.laws.Arrays.{first_found, as_string_lem, no_string, head_in, string_inside}
use Rattle.read_jcal.specs.Counting.{action_in, ActionAt}

-- ---- the values of an ACTION that are read

-- a string that is one of the words
abbrev word_from : Json → Option Value
word_from v = and_then (as_string v) (λ s. provided (is_one_of s action_names) (text s))

own_word : (c : List ℕ) (t : ValueType) (v : Json) → read_one c (ascii "ACTION") t v ≡ word_from v
unfolding octets_compute property_row property_words
own_word c t v = refl

one_word : (v : Json) (more : Option (List Value)) → is_read (and_then (word_from v) (λ b. cons_read b more)) ≡ true → first_text (read_or [] (and_then (word_from v) (λ b. cons_read b more))) ≡ as_string v
unfolding and_then cons_read is_read read_or pick
one_word (string p s) more h = go (is_one_of s action_names) more h
  where
    go : (b : Bool) (more : Option (List Value)) → is_read (and_then (provided b (text s)) (λ b. cons_read b more)) ≡ true → first_text (read_or [] (and_then (provided b (text s)) (λ b. cons_read b more))) ≡ Some s
    go true (Some l) h = refl
    go true None h = absurd (false≢true h)
    go false more h = absurd (false≢true h)
one_word (number p s) more h = absurd (false≢true h)
one_word (literal p s) more h = absurd (false≢true h)
one_word (array p e vs) more h = absurd (false≢true h)
one_word (object p e ms) more h = absurd (false≢true h)

words_read : (c : List ℕ) (t : ValueType) (vs : List Json) → is_read (read_each (read_one c (ascii "ACTION") t) vs) ≡ true →
    alarm_action (first_text (read_or [] (read_each (read_one c (ascii "ACTION") t) vs))) ≡ action_in vs
unfolding read_each read_or and_then
words_read c t [] h = refl
words_read c t (v ∷ vs) h = rw (own_word c t v, one_word v (read_each (read_one c (ascii "ACTION") t) vs) (rw (own_word c t v) at h))

values_read : (c w : List ℕ) (t : ValueType) (vs : List Json) → w ≡ ascii "ACTION" → is_read (read_values c w t vs) ≡ true → alarm_action (first_text (read_or [] (read_values c w t vs))) ≡ action_in vs
unfolding read_values pick is_read
values_read c w t vs e h = rw e (go (is_type_of t (permitted_types (ascii "ACTION"))) (rw e at h))
  where
    go : (b : Bool) → is_read (pick b (read_each (read_one c (ascii "ACTION") t) vs) None) ≡ true → alarm_action (first_text (read_or [] (pick b (read_each (read_one c (ascii "ACTION") t) vs) None))) ≡ action_in vs
    go true f = words_read c t vs f
    go false f = absurd (false≢true f)

-- ---- for code

module _ {s : List ℕ} {at : ℕ} {h : Head} (t : HeadAt s at h) {b : Bool} (e : b ≡ is_string h.kind) where
  word_of_first : action_in (element_list (elements_at s at)) ≡ alarm_action (and_then (found s h) as_string)
  word_of_first = ap (λ (o : Option Json). alarm_action (and_then o as_string)) (first_found t)

  pub word_string : {r : Option Action} → b ≡ true → r ≡ action_named (string_at s h.place) → r ≡ action_in (element_list (elements_at s at))
  word_string y f = f ∙ sym (word_of_first ∙ ap alarm_action (as_string_lem s h (sym e ∙ y)))

  pub word_none : b ≡ false → None ≡ action_in (element_list (elements_at s at))
  word_none y = sym (word_of_first ∙ ap alarm_action (no_string s h (sym e ∙ y)))

  pub place_inside : b ≡ true → h.place < length s
  place_inside y = string_inside (head_in t) e y

module _ (p : ℕ) (vs : List Json) where
  pub word_here : {r : Option Action} → r ≡ action_in vs → ActionAt p vs r
  word_here e = record { is = λ c w t o a h. e ∙ sym (values_read c w t vs (same_true w (ascii "ACTION") (action_place w ∙ eq-eqb _ _ (sym o ∙ a))) h) }

  pub word_other : (r : Option Action) → (p ≡ property.ACTION → ⊥) → ActionAt p vs r
  word_other r z = record { is = λ c w t o a h. absurd (z a) }

pub ruleset words = (word_string, word_none, place_inside, word_here, word_other, rules)
