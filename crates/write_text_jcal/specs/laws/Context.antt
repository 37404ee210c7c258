-- Laws of the context of a property's values.
--     name_is          the name of an array is that of its first element
--     type_word, type_other    the ways of `type_at`
--     context_made     that of `context_at`
use Rattle.std.specs.Prelude.{◌≡◌, refl, true, false, List, [], ℕ, zero, suc, ◌≤◌, ◌<◌, Option, None, Some}
use Rattle.std.proofs.Common.{sym, ◌∙◌, arith}
use Rattle.std.proofs.Math.Path.{ap}
use Rattle.std.proofs.Math.ListN.{length}
use Rattle.octets.specs.Ascii.{ascii}
use Rattle.octets.specs.Class.{upper}
use Rattle.octets.specs.Reading.{and_then, is_read, read_or}
use Rattle.octets.specs.Computing.{octets_compute}
use Rattle.calendar.specs.Calendar.{ValueType, TEXT}
use Rattle.source.specs.Source.{rest}
use Rattle.names.specs.Table.{place_of, names_in}
use Rattle.schema.specs.Types.{type_named}
use Rattle.schema.specs.Components.{component_names}
use Rattle.schema.specs.Properties.{property_names}
use Rattle.schema.specs.Numbers.{type_at, type_words}
use Rattle.schema.specs.Coded.{row_at}
use Rattle.schema.specs.declared.Context.{Context}
use Rattle.schema.specs.declared.table.Row.{Row}
use Rattle.json_text.specs.Tree.{Elements, element_list, first_of}
use Rattle.json_text.specs.Kinds.{as_string, nth}
use Rattle.jcal.specs.Property.{name_in, type_of, property_name, value_type_of}
use Rattle.jcal.proofs.laws.TypeNames.{word_type, no_type, word_placed}
use Rattle.read_json.specs.TreeAt.{elements_at}
use Rattle.write_text_jcal_values.specs.Elements.{list_at, without, characters_in}
use Rattle.write_text_jcal_values.specs.laws.Elements.{nth_first}
use Rattle.write_text_jcal.specs.Context.{ContextAt}

pub name_is : (es : Elements) → read_or [] (name_in (element_list es)) ≡ characters_in es
unfolding without
name_is es = ap (λ (o : Option (List ℕ)). read_or [] o) (nth_first as_string refl 0 es)

-- ---- the type

nameless : type_of [] ≡ None
unfolding octets_compute type_named
nameless = refl

type_by : (o : Option (List ℕ)) → read_or TEXT (and_then o type_of) ≡ read_or TEXT (type_of (read_or [] o))
unfolding and_then read_or
type_by None = sym (ap (λ (t : Option ValueType). read_or TEXT t) nameless)
type_by (Some l) = refl

type_is : (es : Elements) → value_type_of (element_list es) ≡ read_or TEXT (type_of (characters_in (without 2 es)))
type_is es = ap (λ (o : Option (List ℕ)). read_or TEXT (and_then o type_of)) (nth_first as_string refl 2 es) ∙ type_by (as_string (first_of (without 2 es)))

module _ (s : List ℕ) (inside at c : ℕ) (i : elements_at s at ≡ without 2 (elements_at s inside)) (j : rest 3 s c ≡ characters_in (elements_at s at)) {t : ℕ}
    (e : t ≡ place_of (rest 3 s c) (names_in (ascii "binary\nboolean\ncal-address\ndate\ndate-time\nduration\nfloat\ninteger\nperiod\nrecur\ntext\ntime\nuri\nutc-offset\nunknown\n"))) where
  placed : t ≡ place_of (rest 3 s c) type_words
  placed = word_placed (rest 3 s c) e

  stated : value_type_of (list_at s inside) ≡ read_or TEXT (type_of (rest 3 s c))
  stated = type_is (elements_at s inside) ∙ ap (λ (l : List ℕ). read_or TEXT (type_of l)) (sym (j ∙ ap (λ (es : Elements). characters_in es) i))

  pub type_word : t ≤ 14 → (type_at t ≡ value_type_of (list_at s inside)) × (t ≤ 14)
  unfolding read_or
  type_word h = (sym (stated ∙ ap (λ (o : Option ValueType). read_or TEXT o) (word_type (rest 3 s c) placed h)), h)

  pub type_other : 14 < t → (type_at 10 ≡ value_type_of (list_at s inside)) × (10 ≤ 14)
  unfolding read_or
  type_other h =
      let l : length type_words ≤ place_of (rest 3 s c) type_words = rw (← placed) (omega arith) in
      (sym (stated ∙ ap (λ (o : Option ValueType). read_or TEXT o) (no_type (rest 3 s c) l)), omega arith)

-- ---- the context

pub context_made : (k : ℕ) (s : List ℕ) (inside c : ℕ) {row : Row} {t : ℕ} → rest 3 s c ≡ characters_in (elements_at s inside) → row ≡ row_at (place_of (upper (rest 3 s c)) property_names) →
    (type_at t ≡ value_type_of (list_at s inside)) × (t ≤ 14) → ContextAt k s inside (record { component = k; row = row; value_type = t })
context_made k s inside c j e y = record {
  component = refl;
  row = e ∙ ap (λ (l : List ℕ). row_at (place_of (upper l) property_names)) (j ∙ sym (name_is (elements_at s inside)));
  type = y.0;
  small = y.1;
}
