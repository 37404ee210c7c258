-- Laws of what specs/ValidCalendar.antt defines.
--     kept_parts, name_visible    what a kept name is;   component_name: as BEGIN has it
--     valid_parameter, valid_property, valid_component    what a valid one is;   valid_parts: of a calendar;   component_valid: and back
--     parameter_value_lem         the value of a parameter, by cases;   parameter_text, nothing_free: its free characters
--     valid_shallow               nothing in valid components stands too deep
use Rattle.std.specs.Prelude.{◌≡◌, Bool, true, not, List, [], ℕ, ◌-◌, ltb, Option, None, Some}
use Rattle.std.proofs.Math.Path.{refl}
use Rattle.std.proofs.Math.Bool.{false}
use Rattle.std.proofs.lemmas.Bool.{false≢true}
use borrow.Author.Tests.{not-true}
use Rattle.octets.specs.Ascii.{ascii}
use Rattle.octets.specs.Pick.{pick, ◌and◌, ◌or◌}
use Rattle.octets.specs.laws.Pick.{pick_second, and_both, and_yes}
use Rattle.octets.specs.Scan.{all_of}
use Rattle.octets.specs.laws.Scan.{all_weaker}
use Rattle.octets.specs.Class.{is_name_char, is_visible, upper}
use Rattle.octets.specs.laws.Class.{name_char_visible}
use Rattle.octets.specs.Words.{same, none_holds}
use Rattle.octets.specs.laws.Words.{same_true}
use Rattle.octets.specs.Lists.{every}
use Rattle.calendar.specs.Calendar.{UNKNOWN, Value, binary, boolean, cal_address, date, date_time, duration, float, integer, period_explicit, period_start, recur, text, time, uri, utc_offset, unknown, geo, request_status, type_of, text_in, Parameter, Property, Components, no_more, component}
use Rattle.calendar.specs.Levels.{levels, shallow}
use Rattle.schema.specs.Types.{same_type, is_type_of}
use Rattle.schema.specs.laws.Types.{same_type_true}
use Rattle.schema.specs.Parameters.{parameter_type, is_listed_parameter, parameter_words}
use Rattle.schema.specs.Properties.{is_known_property}
use Rattle.schema.specs.Components.{may_contain, may_stand}
use Rattle.schema.specs.Counts.{Around, method_for, complete}
use Rattle.schema.specs.Computing.{schema_compute}
use Rattle.schema.specs.laws.Rows.{parameter_types, parameter_type_lem}
use Rattle.texts.specs.Uri.{is_uri}
use Rattle.values.specs.WriteValue.{type_of_all}
use Rattle.values.specs.ReadBack.{is_value, is_typed}
use Rattle.values.specs.Valid.{is_amount, is_word_in, is_parameter_value, is_parameter, are_property_values, are_parameters, is_property}
use Rattle.values.specs.laws.Valid.{text_in_lem}
use Rattle.values.specs.Characters.{free_in, is_value_text}
use Rattle.read_text_line.specs.ContentLine.{is_name}
use Rattle.read_text_line.specs.Names.{is_carried_name, is_component_name}
use Rattle.edition.specs.declared.Edition.{Edition}
use Rattle.edition.specs.declared.Edition.TheVariants.{Rfc5545, Rfc6868}
use Rattle.validity.specs.ValidCalendar.{is_kept_name, is_permitted, is_parameter_text, is_valid_parameter, is_valid_property, has_components, are_valid, at_top, is_valid}

-- ---- names

pub kept_parts : (n : List ℕ) → is_kept_name n ≡ true → (upper n ≡ n) × (is_name n ≡ true) × (is_carried_name n ≡ true)
kept_parts n h =
    let a = and_both (same (upper n) n) _ h in
    let b = and_both (is_name n) (is_carried_name n) a.1 in
    (same_true _ _ a.0, b.0, b.1)

pub name_visible : (n : List ℕ) → is_name n ≡ true → all_of is_visible n ≡ true
unfolding is_name
name_visible n h = all_weaker is_name_char is_visible name_char_visible n (pick_second _ _ h).1

-- in capitals, it shows, and BEGIN may state it
pub component_name : (k : List ℕ) → is_kept_name k ≡ true → (upper k ≡ k) × (all_of is_visible k ≡ true) × (is_component_name k ≡ true)
component_name k h = let n = kept_parts k h in (n.0, name_visible k n.1, and_yes _ _ n.1 n.2)

-- ---- parameters

-- a value of a parameter is a truth value, a URI, or free characters
typed_value : (P : Value → Type 0) → ((b : Bool) → P (boolean b)) → ((s : List ℕ) → is_uri s ≡ true → P (cal_address s)) → ((s : List ℕ) → is_uri s ≡ true → P (uri s)) →
    ((s : List ℕ) → P (text s)) → ((s : List ℕ) → P (unknown s)) → (v : Value) → is_typed v ≡ true → (same_type (type_of v) UNKNOWN or is_value v) ≡ true → is_type_of (type_of v) parameter_types ≡ true → P v
unfolding schema_compute
typed_value P b a u x r (binary s) t h p = absurd (false≢true p)
typed_value P b a u x r (boolean w) t h p = b w
typed_value P b a u x r (cal_address s) t h p = a s h
typed_value P b a u x r (date s) t h p = absurd (false≢true p)
typed_value P b a u x r (date_time s) t h p = absurd (false≢true p)
typed_value P b a u x r (duration s) t h p = absurd (false≢true p)
typed_value P b a u x r (float d) t h p = absurd (false≢true p)
typed_value P b a u x r (integer w) t h p = absurd (false≢true p)
typed_value P b a u x r (period_explicit s e) t h p = absurd (false≢true p)
typed_value P b a u x r (period_start s d) t h p = absurd (false≢true p)
typed_value P b a u x r (recur q) t h p = absurd (false≢true p)
typed_value P b a u x r (text s) t h p = x s
typed_value P b a u x r (time s) t h p = absurd (false≢true p)
typed_value P b a u x r (uri s) t h p = u s h
typed_value P b a u x r (utc_offset s) t h p = absurd (false≢true p)
typed_value P b a u x r (unknown s) t h p = r s
typed_value P b a u x r (geo la lo) t h p = absurd (false≢true t)
typed_value P b a u x r (request_status c d e) t h p = absurd (false≢true t)

pub parameter_value_lem : (P : Value → Type 0) → ((b : Bool) → P (boolean b)) → ((s : List ℕ) → is_uri s ≡ true → P (cal_address s)) → ((s : List ℕ) → is_uri s ≡ true → P (uri s)) →
    ((s : List ℕ) → P (text s)) → ((s : List ℕ) → P (unknown s)) → (n : List ℕ) (v : Value) → is_parameter_value (parameter_words n) (parameter_type n) v ≡ true → P v
parameter_value_lem P b a u x r n v h = go (parameter_words n) h
  where
    word : (words : List (List ℕ)) (o : Option (List ℕ)) → text_in v ≡ o → is_word_in words o ≡ true → P v
    word words None e k = absurd (false≢true k)
    word words (Some s) e k = rw (text_in_lem v s e) (x s)

    go : (o : Option (List (List ℕ))) → is_parameter_value o (parameter_type n) v ≡ true → P v
    go None k =
        let c = and_both (same_type (type_of v) (parameter_type n)) _ k in
        let d = and_both (is_typed v) (same_type (type_of v) UNKNOWN or is_value v) c.1 in
        typed_value P b a u x r v d.0 d.1 (rw (same_type_true (type_of v) (parameter_type n) c.0) (parameter_type_lem n))
    go (Some words) k = word words (text_in v) refl k

-- the free characters of a parameter's value
pub parameter_text : (ed : Edition) (v : Value) → is_parameter_text ed v ≡ true → is_value_text v ≡ true
parameter_text Rfc5545 v h = (and_both _ _ h).0
parameter_text Rfc6868 v h = h

pub nothing_free : (ed : Edition) (v : Value) → free_in v ≡ [] → is_parameter_text ed v ≡ true
unfolding none_holds ◌and◌
nothing_free Rfc5545 v e = rw e
nothing_free Rfc6868 v e = rw e

module _ (ed : Edition) where
  pub record ValidParameter (p : Parameter) : Type 0 where
    pub kept : is_kept_name p.name ≡ true
    pub typed : is_parameter p ≡ true
    pub other : same p.name (ascii "VALUE") ≡ false
    pub amount : is_amount (is_listed_parameter p.name) p.values ≡ true
    pub chosen : every (is_parameter_value (parameter_words p.name) (parameter_type p.name)) p.values ≡ true
    pub plain : every (is_parameter_text ed) p.values ≡ true
    pub permitted : every is_permitted p.values ≡ true

  pub valid_parameter : (p : Parameter) → is_valid_parameter ed p ≡ true → ValidParameter p
  unfolding is_valid_parameter is_parameter
  valid_parameter p h =
      let a = and_both (is_kept_name p.name) _ h in
      let b = and_both (is_parameter p) _ a.1 in
      let c = and_both (every (is_parameter_text ed) p.values) _ b.1 in
      let d = and_both (same (upper p.name) p.name) _ b.0 in
      let e = and_both (not (same p.name (ascii "VALUE"))) _ d.1 in
      let f = and_both (is_amount (is_listed_parameter p.name) p.values) _ e.1 in
      record { kept = a.0; typed = b.0; other = not-true _ e.0; amount = f.0; chosen = f.1; plain = c.0; permitted = c.1 }

  -- ---- properties

  pub record ValidProperty (k : List ℕ) (p : Property) : Type 0 where
    pub kept : is_kept_name p.name ≡ true
    pub begins : same p.name (ascii "BEGIN") ≡ false
    pub ends : same p.name (ascii "END") ≡ false
    pub stands : (not (is_known_property p.name) or may_stand k p.name) ≡ true
    pub typed : is_property k p ≡ true
    pub agree : are_parameters p.name (type_of_all p.values) p.parameters ≡ true
    pub values : are_property_values k p.name p.values ≡ true
    pub parameters : every (is_valid_parameter ed) p.parameters ≡ true
    pub plain : every is_value_text p.values ≡ true
    pub permitted : every is_permitted p.values ≡ true

  pub valid_property : (k : List ℕ) (p : Property) → is_valid_property ed k p ≡ true → ValidProperty k p
  unfolding is_valid_property is_property
  valid_property k p h =
      let a = and_both (is_kept_name p.name) _ h in
      let b = and_both (not (same p.name (ascii "BEGIN"))) _ a.1 in
      let c = and_both (not (same p.name (ascii "END"))) _ b.1 in
      let d = and_both (not (is_known_property p.name) or may_stand k p.name) _ c.1 in
      let e = and_both (is_property k p) _ d.1 in
      let f = and_both (every (is_valid_parameter ed) p.parameters) _ e.1 in
      let g = and_both (every is_value_text p.values) _ f.1 in
      let i = and_both (are_parameters p.name (type_of_all p.values) p.parameters) _ (and_both (same (upper p.name) p.name) _ e.0).1 in
      record {
        kept = a.0;
        begins = not-true _ b.0;
        ends = not-true _ c.0;
        stands = d.0;
        typed = e.0;
        agree = i.0;
        values = i.1;
        parameters = f.0;
        plain = g.0;
        permitted = g.1;
      }

  -- ---- components

  pub record ValidComponent (l : ℕ) (may : List ℕ → Bool) (m : Bool) (k : List ℕ) (ps : List Property) (inner next : Components) : Type 0 where
    pub level : ltb 0 l ≡ true
    pub kept : is_kept_name k ≡ true
    pub named : may k ≡ true
    pub properties : every (is_valid_property ed k) ps ≡ true
    pub counts : complete k ps (record { inner = has_components inner; method = m }) ≡ true
    pub inside : are_valid ed (l - 1) (may_contain k) (method_for k ps m) inner ≡ true
    pub after : are_valid ed l may m next ≡ true

  pub valid_component : (l : ℕ) (may : List ℕ → Bool) (m : Bool) (k : List ℕ) (ps : List Property) (inner next : Components) → are_valid ed l may m (component k ps inner next) ≡ true →
      ValidComponent l may m k ps inner next
  unfolding are_valid
  valid_component l may m k ps inner next h =
      let a = and_both (ltb 0 l and is_kept_name k and may k) _ h in
      let s = and_both (ltb 0 l) _ a.0 in
      let t = and_both (is_kept_name k) (may k) s.1 in
      let b = and_both (every (is_valid_property ed k) ps) _ a.1 in
      let c = and_both (complete k ps (record { inner = has_components inner; method = m })) _ b.1 in
      let d = and_both (are_valid ed (l - 1) (may_contain k) (method_for k ps m) inner) _ c.1 in
      record { level = s.0; kept = t.0; named = t.1; properties = b.0; counts = c.0; inside = d.0; after = d.1 }

  pub component_valid : (l : ℕ) (may : List ℕ → Bool) (m : Bool) (k : List ℕ) (ps : List Property) (inner next : Components) → ValidComponent l may m k ps inner next →
      are_valid ed l may m (component k ps inner next) ≡ true
  unfolding are_valid
  component_valid l may m k ps inner next v =
      and_yes _ _ (and_yes _ _ v.level (and_yes _ _ v.kept v.named)) (and_yes _ _ v.properties (and_yes _ _ v.counts (and_yes _ _ v.inside v.after)))

  pub valid_parts : (c : Components) → is_valid ed c ≡ true → (has_components c ≡ true) × (are_valid ed levels at_top false c ≡ true)
  unfolding is_valid
  valid_parts c h = and_both (has_components c) (are_valid ed levels at_top false c) h

  -- ---- levels

  pub valid_shallow : (c : Components) (l : ℕ) (may : List ℕ → Bool) (m : Bool) → are_valid ed l may m c ≡ true → shallow l c ≡ c
  unfolding shallow pick
  valid_shallow no_more l may m h = refl
  valid_shallow (component k ps inner next) l may m h =
      let v = valid_component l may m k ps inner next h in
      rw (v.level, valid_shallow inner (l - 1) (may_contain k) (method_for k ps m) v.inside, valid_shallow next l may m v.after)
