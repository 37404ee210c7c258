-- What is read of a JSON value does not hang on its places.
--     typed_bare, values_bare, parameters_bare, fault_bare, property_bare    of values, parameters, properties
use Rattle.std.specs.Prelude.{◌≡◌, Bool, ℕ, zero, suc, drop, Option, None, Some, option_map}
use Rattle.std.proofs.Math.Path.{refl}
use Rattle.std.proofs.Common.{ap}
use mathlib.Core.List.{List, [], ◌∷◌, map}
use Rattle.octets.specs.Pick.{pick}
use Rattle.octets.specs.Class.{upper, lower}
use Rattle.octets.specs.Words.{same}
use Rattle.octets.specs.Lists.{every, any_one}
use Rattle.octets.specs.laws.Lists.{every_map}
use Rattle.octets.specs.Reading.{and_then, is_read, read_or, read_each}
use Rattle.calendar.specs.Calendar.{ValueType, BINARY, BOOLEAN, CAL-ADDRESS, DATE, DATE-TIME, DURATION, FLOAT, INTEGER, PERIOD, RECUR, TEXT, TIME, URI, UTC-OFFSET, UNKNOWN, RulePart}
use Rattle.schema.specs.Properties.{permits_parameter, property_words}
use Rattle.recur.specs.Parts.{ItemForm, word_of, enddate, counting, unsigned, signed, weekdaynum, Part, part_of}
use Rattle.values.specs.Valid.{is_amount}
use Rattle.edition.specs.declared.Edition.{Edition}
use Rattle.edition.specs.declared.Edition.TheVariants.{Rfc5545, Rfc6868}
use Rattle.json_text.specs.Tree.{Json, string, number, literal, array, object, Elements, no_elements, element, Members, no_members, member, Member, element_list, member_list}
use Rattle.json_text.specs.Kinds.{as_string, as_number, as_literal, as_array, as_object, or_alone, first_in, nth}
use Rattle.json_text.specs.Written.{bare, bare_elements, bare_members}
use Rattle.jcal.specs.Values.{read_period, item_text, read_item, read_items, read_part, read_recur, read_typed, read_chosen, read_geo, read_status, read_one, read_values}
use Rattle.jcal.specs.Parameters.{read_characters, read_parameter, read_parameters, is_plain, are_spelled, parameters_good}
use Rattle.jcal.specs.Property.{name_in, parameters_in, type_of, type_in, values_in, property_name, member_list as members_in, value_type_of, is_bad_parameter, names_bad, is_shaped, property_fault, property_of}

-- ---- lists

abbrev pub bare_member : Member → Member
bare_member m = record { name = m.name; value = bare m.value }

pub element_bare : (vs : Elements) → element_list (bare_elements vs) ≡ map bare (element_list vs)
unfolding element_list bare_elements
element_bare no_elements = refl
element_bare (element v vs) = ap (λ (l : List Json). bare v ∷ l) (element_bare vs)

member_bare : (ms : Members) → member_list (bare_members ms) ≡ map bare_member (member_list ms)
unfolding member_list bare_members
member_bare no_members = refl
member_bare (member n v ms) = ap (λ (l : List Member). record { name = n; value = bare v } ∷ l) (member_bare ms)

drop-map : {A B : Type 0} (f : A → B) (k : ℕ) (l : List A) → drop k (map f l) ≡ map f (drop k l)
drop-map f zero l = refl
drop-map f (suc k) [] = refl
drop-map f (suc k) (a ∷ l) = drop-map f k l

-- ---- kinds

as_string_lem : (v : Json) → as_string (bare v) ≡ as_string v
unfolding bare
as_string_lem (string p s) = refl
as_string_lem (number p s) = refl
as_string_lem (literal p s) = refl
as_string_lem (array p e vs) = refl
as_string_lem (object p e ms) = refl

as_number_lem : (v : Json) → as_number (bare v) ≡ as_number v
unfolding bare
as_number_lem (string p s) = refl
as_number_lem (number p s) = refl
as_number_lem (literal p s) = refl
as_number_lem (array p e vs) = refl
as_number_lem (object p e ms) = refl

as_literal_lem : (v : Json) → as_literal (bare v) ≡ as_literal v
unfolding bare
as_literal_lem (string p s) = refl
as_literal_lem (number p s) = refl
as_literal_lem (literal p s) = refl
as_literal_lem (array p e vs) = refl
as_literal_lem (object p e ms) = refl

pub as_array_lem : (v : Json) → as_array (bare v) ≡ option_map (map bare) (as_array v)
unfolding bare
as_array_lem (string p s) = refl
as_array_lem (number p s) = refl
as_array_lem (literal p s) = refl
as_array_lem (array p e vs) = ap Some (element_bare vs)
as_array_lem (object p e ms) = refl

as_object_lem : (v : Json) → as_object (bare v) ≡ option_map (map bare_member) (as_object v)
unfolding bare
as_object_lem (string p s) = refl
as_object_lem (number p s) = refl
as_object_lem (literal p s) = refl
as_object_lem (array p e vs) = refl
as_object_lem (object p e ms) = ap Some (member_bare ms)

alone_bare : (v : Json) → or_alone (bare v) ≡ map bare (or_alone v)
unfolding bare read_or
alone_bare (string p s) = refl
alone_bare (number p s) = refl
alone_bare (literal p s) = refl
alone_bare (array p e vs) = element_bare vs
alone_bare (object p e ms) = refl

pub nth-bare : (k : ℕ) (vs : List Json) → nth k (map bare vs) ≡ option_map bare (nth k vs)
nth-bare k vs = rw (drop-map bare k vs) (go (drop k vs))
  where
    go : (l : List Json) → first_in (map bare l) ≡ option_map bare (first_in l)
    go [] = refl
    go (v ∷ l) = refl

-- ---- readings

module _ {B : Type 0} where
  then_array : (f : List Json → Option B) → ((vs : List Json) → f (map bare vs) ≡ f vs) → (v : Json) → and_then (as_array (bare v)) f ≡ and_then (as_array v) f
  unfolding and_then
  then_array f h v = rw (as_array_lem v) (go (as_array v))
    where
      go : (o : Option (List Json)) → and_then (option_map (map bare) o) f ≡ and_then o f
      go None = refl
      go (Some vs) = h vs

  then_object : (f : List Member → Option B) → ((ms : List Member) → f (map bare_member ms) ≡ f ms) → (v : Json) → and_then (as_object (bare v)) f ≡ and_then (as_object v) f
  unfolding and_then
  then_object f h v = rw (as_object_lem v) (go (as_object v))
    where
      go : (o : Option (List Member)) → and_then (option_map (map bare_member) o) f ≡ and_then o f
      go None = refl
      go (Some ms) = h ms

  each_bare : (f : Json → Option B) → ((v : Json) → f (bare v) ≡ f v) → (vs : List Json) → read_each f (map bare vs) ≡ read_each f vs
  unfolding read_each
  each_bare f h [] = refl
  each_bare f h (v ∷ vs) = rw (h v, each_bare f h vs)

  each_member : (f : Member → Option B) → ((m : Member) → f (bare_member m) ≡ f m) → (ms : List Member) → read_each f (map bare_member ms) ≡ read_each f ms
  unfolding read_each
  each_member f h [] = refl
  each_member f h (m ∷ ms) = rw (h m, each_member f h ms)

-- ---- values

period_bare : (vs : List Json) → read_period (map bare vs) ≡ read_period vs
period_bare [] = refl
period_bare (s ∷ []) = refl
period_bare (s ∷ e ∷ []) = rw (as_string_lem s, as_string_lem e)
period_bare (s ∷ e ∷ v ∷ vs) = refl

geo_bare : (vs : List Json) → read_geo (map bare vs) ≡ read_geo vs
geo_bare [] = refl
geo_bare (s ∷ []) = refl
geo_bare (s ∷ e ∷ []) = rw (as_number_lem s, as_number_lem e)
geo_bare (s ∷ e ∷ v ∷ vs) = refl

item_text_lem : (f : ItemForm) (v : Json) → item_text f (bare v) ≡ item_text f v
item_text_lem (word_of ws) v = as_string_lem v
item_text_lem enddate v = as_string_lem v
item_text_lem counting v = as_number_lem v
item_text_lem (unsigned d lo hi) v = as_number_lem v
item_text_lem (signed d hi) v = as_number_lem v
item_text_lem weekdaynum v = as_string_lem v

items_bare : (r : Part) (v : Json) → read_items r (or_alone (bare v)) ≡ read_items r (or_alone v)
items_bare r v = rw (alone_bare v, each_bare (read_item r) (λ v. rw (item_text_lem r.form v)) (or_alone v))

part_bare : (m : Member) → read_part (bare_member m) ≡ read_part m
unfolding and_then
part_bare m = ap (λ (x : Option RulePart). pick (same m.name (lower m.name)) x None) (go (part_of (upper m.name)))
  where
    go : (o : Option Part) → and_then o (λ r. read_items r (or_alone (bare m.value))) ≡ and_then o (λ r. read_items r (or_alone m.value))
    go None = refl
    go (Some r) = items_bare r m.value

recur_bare : (ms : List Member) → read_recur (map bare_member ms) ≡ read_recur ms
recur_bare ms = rw (each_member read_part part_bare ms)

pub typed_bare : (t : ValueType) (v : Json) → read_typed t (bare v) ≡ read_typed t v
unfolding read_typed
typed_bare BINARY v = rw (as_string_lem v)
typed_bare BOOLEAN v = rw (as_literal_lem v)
typed_bare CAL-ADDRESS v = rw (as_string_lem v)
typed_bare DATE v = rw (as_string_lem v)
typed_bare DATE-TIME v = rw (as_string_lem v)
typed_bare DURATION v = rw (as_string_lem v)
typed_bare FLOAT v = rw (as_number_lem v)
typed_bare INTEGER v = rw (as_number_lem v)
typed_bare PERIOD v = then_array read_period period_bare v
typed_bare RECUR v = then_object read_recur recur_bare v
typed_bare TEXT v = rw (as_string_lem v)
typed_bare TIME v = rw (as_string_lem v)
typed_bare URI v = rw (as_string_lem v)
typed_bare UTC-OFFSET v = rw (as_string_lem v)
typed_bare UNKNOWN v = rw (as_string_lem v)

chosen_bare : (o : Option (List (List ℕ))) (t : ValueType) (v : Json) → read_chosen o t (bare v) ≡ read_chosen o t v
chosen_bare None t v = typed_bare t v
chosen_bare (Some words) t v = rw (as_string_lem v)

one_bare : (k n : List ℕ) (t : ValueType) (v : Json) → read_one k n t (bare v) ≡ read_one k n t v
one_bare k n t v =
    rw (
      then_array read_geo geo_bare v,
      then_array (λ vs. and_then (read_each as_string vs) read_status) (λ vs. rw (each_bare as_string as_string_lem vs)) v,
      chosen_bare (property_words k n) t v,
    )

pub values_bare : (k n : List ℕ) (t : ValueType) (vs : List Json) → read_values k n t (map bare vs) ≡ read_values k n t vs
unfolding read_values
values_bare k n t vs = rw (each_bare (read_one k n t) (one_bare k n t) vs)

-- ---- parameters

parameter_bare : (m : Member) → read_parameter (bare_member m) ≡ read_parameter m
unfolding read_parameter
parameter_bare m = rw (alone_bare m.value, each_bare (λ v. and_then (as_string v) (read_characters (upper m.name))) (λ v. rw (as_string_lem v)) (or_alone m.value))

parameters_bare : (ms : List Member) → read_parameters (map bare_member ms) ≡ read_parameters ms
parameters_bare ms = each_member read_parameter parameter_bare ms

names_bare : (ms : List Member) → map (λ (m : Member). m.name) (map bare_member ms) ≡ map (λ (m : Member). m.name) ms
names_bare [] = refl
names_bare (m ∷ ms) = ap (λ (l : List (List ℕ)). m.name ∷ l) (names_bare ms)

plain_bare : (v : Json) → is_plain (read_or [] (as_string (bare v))) ≡ is_plain (read_or [] (as_string v))
plain_bare v = rw (as_string_lem v)

every_plain : (vs : List Json) → every (λ v. is_plain (read_or [] (as_string v))) (map bare vs) ≡ every (λ v. is_plain (read_or [] (as_string v))) vs
unfolding every
every_plain [] = refl
every_plain (v ∷ vs) = rw (plain_bare v, every_plain vs)

spelled_bare : (ed : Edition) (ms : List Member) → are_spelled ed (map bare_member ms) ≡ are_spelled ed ms
unfolding are_spelled every
spelled_bare Rfc6868 ms = refl
spelled_bare Rfc5545 [] = refl
spelled_bare Rfc5545 (m ∷ ms) = rw (alone_bare m.value, every_plain (or_alone m.value), spelled_bare Rfc5545 ms)

good_bare : (ed : Edition) (n : List ℕ) (t : ValueType) (ms : List Member) → parameters_good ed n t (map bare_member ms) ≡ parameters_good ed n t ms
unfolding parameters_good
good_bare ed n t ms = rw (names_bare ms, parameters_bare ms, spelled_bare ed ms, every_map (λ (m : Member). permits_parameter n t (upper m.name)) bare_member ms)

-- ---- properties

bad_bare : (ms : List Member) → any_one is_bad_parameter (map bare_member ms) ≡ any_one is_bad_parameter ms
unfolding any_one
bad_bare [] = refl
bad_bare (m ∷ ms) = rw (bad_bare ms)

amount_bare : (l : Bool) (vs : List Json) → is_amount l (map bare vs) ≡ is_amount l vs
amount_bare l [] = refl
amount_bare l (v ∷ []) = refl
amount_bare l (v ∷ w ∷ vs) = refl

module _ (vs : List Json) where
  pub name_bare : name_in (map bare vs) ≡ name_in vs
  unfolding and_then
  name_bare = rw (nth-bare 0 vs) (go (nth 0 vs))
    where
      go : (o : Option Json) → and_then (option_map bare o) as_string ≡ and_then o as_string
      go None = refl
      go (Some v) = as_string_lem v

  members_bare : parameters_in (map bare vs) ≡ option_map (map bare_member) (parameters_in vs)
  unfolding and_then
  members_bare = rw (nth-bare 1 vs) (go (nth 1 vs))
    where
      go : (o : Option Json) → and_then (option_map bare o) as_object ≡ option_map (map bare_member) (and_then o as_object)
      go None = refl
      go (Some v) = as_object_lem v

  type_bare : type_in (map bare vs) ≡ type_in vs
  unfolding and_then
  type_bare = rw (nth-bare 2 vs) (go (nth 2 vs))
    where
      go : (o : Option Json) → and_then (and_then (option_map bare o) as_string) type_of ≡ and_then (and_then o as_string) type_of
      go None = refl
      go (Some v) = rw (as_string_lem v)

  list_bare : members_in (map bare vs) ≡ map bare_member (members_in vs)
  unfolding read_or
  list_bare = rw members_bare (go (parameters_in vs))
    where
      go : (o : Option (List Member)) → read_or [] (option_map (map bare_member) o) ≡ map bare_member (read_or [] o)
      go None = refl
      go (Some ms) = refl

  read_bare : is_read (parameters_in (map bare vs)) ≡ is_read (parameters_in vs)
  unfolding is_read
  read_bare = rw members_bare (go (parameters_in vs))
    where
      go : (o : Option (List Member)) → is_read (option_map (map bare_member) o) ≡ is_read o
      go None = refl
      go (Some ms) = refl

  rest_bare : values_in (map bare vs) ≡ map bare (values_in vs)
  rest_bare = drop-map bare 3 vs

  names_bad_lem : names_bad (map bare vs) ≡ names_bad vs
  unfolding names_bad
  names_bad_lem = rw (name_bare, list_bare, bad_bare (members_in vs))

  shaped_bare : (k : List ℕ) → is_shaped k (map bare vs) ≡ is_shaped k vs
  unfolding is_shaped
  shaped_bare k = rw (name_bare, read_bare, type_bare, rest_bare, amount_bare)

  pub fault_bare : (ed : Edition) (k : List ℕ) → property_fault ed k (map bare vs) ≡ property_fault ed k vs
  unfolding property_fault
  fault_bare ed k = rw (names_bad_lem, shaped_bare k, name_bare, type_bare, list_bare, rest_bare, good_bare ed (property_name vs) (value_type_of vs) (members_in vs), values_bare k (property_name vs) (value_type_of vs) (values_in vs))

  pub property_bare : (k : List ℕ) → property_of k (map bare vs) ≡ property_of k vs
  unfolding property_of
  property_bare k = rw (name_bare, type_bare, list_bare, rest_bare, parameters_bare (members_in vs), values_bare k (property_name vs) (value_type_of vs) (values_in vs))
