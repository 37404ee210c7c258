-- What is read of components, and whether it is refused, does not hang on places.
--     verdict_bare    whether a value is refused
--     read_bare       it states the same components
use Rattle.std.specs.Prelude.{◌≡◌, refl, Bool, true, false, List, [], ◌∷◌, map, ℕ, zero, suc, ◌-◌, length, Option, None, Some, option_map}
use Rattle.std.proofs.Common.{sym, ap}
use Rattle.std.proofs.lemmas.Bool.{false≢true}
use Rattle.octets.specs.Pick.{pick}
use Rattle.octets.specs.Words.{is_empty}
use Rattle.octets.specs.Reading.{and_then, is_read, read_or}
use Rattle.calendar.specs.Refusal.{Refusal, COUNT, Verdict, fine, refuse, ◌otherwise◌}
use Rattle.schema.specs.Components.{may_contain}
use Rattle.edition.specs.declared.Edition.{Edition}
use Rattle.json_text.specs.Tree.{Json, string, number, literal, array, object, Elements, no_elements, element, element_list}
use Rattle.json_text.specs.Kinds.{as_array, first_in, nth}
use Rattle.json_text.specs.Written.{bare, bare_elements}
use Rattle.jcal.specs.Property.{property_fault, property_of}
use Rattle.jcal.specs.Components.{at, property_verdict, properties_verdict, component_name, property_arrays, component_arrays, read_properties, component_fault, method_inside, is_complete, components_verdict, component_verdict, inner_verdict, array_verdict, read_components, read_inside, read_inner, read_array, read_calendars, stream_in, is_stream, calendars_in}
use Rattle.jcal.proofs.laws.Places.{element_bare, as_array_lem, nth-bare, name_bare, fault_bare, property_bare}

-- ---- verdicts

abbrev pub is_fine : Verdict → Bool
is_fine fine = true
is_fine (refuse r p) = false

pub fine_is : (v : Verdict) → is_fine v ≡ true → v ≡ fine
fine_is fine h = refl
fine_is (refuse r p) h = absurd (false≢true h)

-- one check after another, whatever the places of both
both : (a b c d : Verdict) → is_fine a ≡ is_fine b → is_fine c ≡ is_fine d → is_fine (a otherwise c) ≡ is_fine (b otherwise d)
unfolding ◌otherwise◌
both fine fine c d h k = k
both fine (refuse r p) c d h k = absurd (false≢true (sym h))
both (refuse r p) fine c d h k = absurd (false≢true h)
both (refuse r p) (refuse s q) c d h k = refl

at_same : (p q : ℕ) (o : Option Refusal) → is_fine (at p o) ≡ is_fine (at q o)
at_same p q None = refl
at_same p q (Some r) = refl

-- ---- properties

property_verdict_lem : (ed : Edition) (k : List ℕ) (v : Json) → is_fine (property_verdict ed k (bare v) (as_array (bare v))) ≡ is_fine (property_verdict ed k v (as_array v))
property_verdict_lem ed k v = rw (as_array_lem v) (go (as_array v))
  where
    go : (o : Option (List Json)) → is_fine (property_verdict ed k (bare v) (option_map (map bare) o)) ≡ is_fine (property_verdict ed k v o)
    go None = refl
    go (Some vs) = rw (fault_bare vs ed k) (at_same _ _ (property_fault ed k vs))

properties_verdict_lem : (ed : Edition) (k : List ℕ) (vs : List Json) → is_fine (properties_verdict ed k (map bare vs)) ≡ is_fine (properties_verdict ed k vs)
unfolding properties_verdict
properties_verdict_lem ed k [] = refl
properties_verdict_lem ed k (v ∷ vs) =
    both (property_verdict ed k (bare v) (as_array (bare v))) (property_verdict ed k v (as_array v)) (properties_verdict ed k (map bare vs)) (properties_verdict ed k vs)
    (property_verdict_lem ed k v) (properties_verdict_lem ed k vs)

-- ---- the elements of a component

or_none : (o : Option (List Json)) → read_or [] (option_map (map bare) o) ≡ map bare (read_or [] o)
unfolding read_or
or_none None = refl
or_none (Some vs) = refl

still_read : (o : Option (List Json)) → is_read (option_map (map bare) o) ≡ is_read o
unfolding is_read
still_read None = refl
still_read (Some vs) = refl

nth_array : (k : ℕ) (vs : List Json) → and_then (nth k (map bare vs)) as_array ≡ option_map (map bare) (and_then (nth k vs) as_array)
unfolding and_then
nth_array k vs = rw (nth-bare k vs) (go (nth k vs))
  where
    go : (o : Option Json) → and_then (option_map bare o) as_array ≡ option_map (map bare) (and_then o as_array)
    go None = refl
    go (Some v) = as_array_lem v

each_property : (k : List ℕ) (vs : List Json) → map (λ v. property_of k (read_or [] (as_array v))) (map bare vs) ≡ map (λ v. property_of k (read_or [] (as_array v))) vs
each_property k [] = refl
each_property k (v ∷ vs) = rw (as_array_lem v, or_none (as_array v), property_bare (read_or [] (as_array v)) k, each_property k vs)

same_length : (vs : List Json) → length (map bare vs) ≡ length vs
same_length [] = refl
same_length (v ∷ vs) = ap suc (same_length vs)

same_empty : (vs : List Json) → is_empty (map bare vs) ≡ is_empty vs
same_empty [] = refl
same_empty (v ∷ vs) = refl

module _ (vs : List Json) where
  name_same : component_name (map bare vs) ≡ component_name vs
  name_same = rw (name_bare vs)

  arrays_bare : property_arrays (map bare vs) ≡ option_map (map bare) (property_arrays vs)
  arrays_bare = nth_array 1 vs

  inner_bare : component_arrays (map bare vs) ≡ option_map (map bare) (component_arrays vs)
  inner_bare = nth_array 2 vs

  properties_same : read_properties (map bare vs) ≡ read_properties vs
  properties_same = rw (name_bare vs, arrays_bare, or_none (property_arrays vs)) (each_property (component_name vs) (read_or [] (property_arrays vs)))

  fault_same : (may : List ℕ → Bool) (l : ℕ) → component_fault may l (map bare vs) ≡ component_fault may l vs
  unfolding component_fault
  fault_same may l = rw (name_bare vs, arrays_bare, inner_bare, still_read (property_arrays vs), still_read (component_arrays vs), same_length vs)

  method_same : (m : Bool) → method_inside (map bare vs) m ≡ method_inside vs m
  method_same m = rw (properties_same, name_bare vs)

  complete_same : (m : Bool) → is_complete (map bare vs) m ≡ is_complete vs m
  complete_same m = rw (properties_same, name_bare vs, inner_bare, or_none (component_arrays vs), same_empty (read_or [] (component_arrays vs)))

counts : (t : Bool) (p q : ℕ) → is_fine (pick t fine (refuse COUNT p)) ≡ is_fine (pick t fine (refuse COUNT q))
unfolding pick
counts true p q = refl
counts false p q = refl

-- ---- the verdict

mutual
  unfolding bare bare_elements components_verdict component_verdict inner_verdict array_verdict

  components_verdict_lem : (ed : Edition) (vs : Elements) (may : List ℕ → Bool) (l : ℕ) (m : Bool) → is_fine (components_verdict ed (bare_elements vs) may l m) ≡ is_fine (components_verdict ed vs may l m)
  components_verdict_lem ed no_elements may l m = refl
  components_verdict_lem ed (element v vs) may l m =
      both (component_verdict ed (bare v) may l m) (component_verdict ed v may l m) (components_verdict ed (bare_elements vs) may l m) (components_verdict ed vs may l m)
      (component_verdict_lem ed v may l m) (components_verdict_lem ed vs may l m)

  component_verdict_lem : (ed : Edition) (v : Json) (may : List ℕ → Bool) (l : ℕ) (m : Bool) → is_fine (component_verdict ed (bare v) may l m) ≡ is_fine (component_verdict ed v may l m)
  component_verdict_lem ed (string p s) may l m = refl
  component_verdict_lem ed (number p s) may l m = refl
  component_verdict_lem ed (literal p s) may l m = refl
  component_verdict_lem ed (object p e ms) may l m = refl
  component_verdict_lem ed (array p e vs) may l m =
      rw (
        element_bare vs,
        method_same (element_list vs) m,
        complete_same (element_list vs) m,
        fault_same (element_list vs) may l,
        name_same (element_list vs),
        arrays_bare (element_list vs),
        or_none (property_arrays (element_list vs)),
      )
      (both _ _ _ _ (at_same 0 p (component_fault may l (element_list vs)))
      (both _ _ _ _ (properties_verdict_lem ed (component_name (element_list vs)) (read_or [] (property_arrays (element_list vs))))
      (both _ _ _ _ (inner_verdict_lem ed vs 2 (may_contain (component_name (element_list vs))) (l - 1) (method_inside (element_list vs) m))
      (counts (is_complete (element_list vs) m) 0 e))))

  inner_verdict_lem : (ed : Edition) (vs : Elements) (k : ℕ) (may : List ℕ → Bool) (l : ℕ) (m : Bool) → is_fine (inner_verdict ed (bare_elements vs) k may l m) ≡ is_fine (inner_verdict ed vs k may l m)
  inner_verdict_lem ed no_elements k may l m = refl
  inner_verdict_lem ed (element v vs) zero may l m = array_verdict_lem ed v may l m
  inner_verdict_lem ed (element v vs) (suc k) may l m = inner_verdict_lem ed vs k may l m

  array_verdict_lem : (ed : Edition) (v : Json) (may : List ℕ → Bool) (l : ℕ) (m : Bool) → is_fine (array_verdict ed (bare v) may l m) ≡ is_fine (array_verdict ed v may l m)
  array_verdict_lem ed (string p s) may l m = refl
  array_verdict_lem ed (number p s) may l m = refl
  array_verdict_lem ed (literal p s) may l m = refl
  array_verdict_lem ed (object p e ms) may l m = refl
  array_verdict_lem ed (array p e vs) may l m = components_verdict_lem ed vs may l m

-- ---- what is stated

array_parts : (v : Json) → read_or [] (as_array (bare v)) ≡ map bare (read_or [] (as_array v))
array_parts v = rw (as_array_lem v) (or_none (as_array v))

mutual
  unfolding bare bare_elements read_components read_inside read_inner read_array

  components_same : (vs : Elements) → read_components (bare_elements vs) ≡ read_components vs
  components_same no_elements = refl
  components_same (element v vs) =
      rw (array_parts v, properties_same (read_or [] (as_array v)), name_same (read_or [] (as_array v)), inside_same v, components_same vs)

  inside_same : (v : Json) → read_inside (bare v) ≡ read_inside v
  inside_same (string p s) = refl
  inside_same (number p s) = refl
  inside_same (literal p s) = refl
  inside_same (object p e ms) = refl
  inside_same (array p e vs) = inner_same vs 2

  inner_same : (vs : Elements) (k : ℕ) → read_inner (bare_elements vs) k ≡ read_inner vs k
  inner_same no_elements k = refl
  inner_same (element v vs) zero = array_same v
  inner_same (element v vs) (suc k) = inner_same vs k

  array_same : (v : Json) → read_array (bare v) ≡ read_array v
  array_same (string p s) = refl
  array_same (number p s) = refl
  array_same (literal p s) = refl
  array_same (object p e ms) = refl
  array_same (array p e vs) = components_same vs

-- ---- the stream

stream_bare : (v : Json) → stream_in (bare v) ≡ bare_elements (stream_in v)
unfolding bare bare_elements
stream_bare (string p s) = refl
stream_bare (number p s) = refl
stream_bare (literal p s) = refl
stream_bare (object p e ms) = refl
stream_bare (array p e vs) = refl

first_array : (vs : List Json) → is_read (and_then (first_in (map bare vs)) as_array) ≡ is_read (and_then (first_in vs) as_array)
unfolding and_then
first_array [] = refl
first_array (v ∷ vs) = rw (as_array_lem v) (still_read (as_array v))

is_stream_lem : (v : Json) → is_stream (bare v) ≡ is_stream v
is_stream_lem v = rw (stream_bare v, element_bare (stream_in v)) (first_array (element_list (stream_in v)))

calendars_bare : (v : Json) → calendars_in (bare v) ≡ bare_elements (calendars_in v)
unfolding calendars_in bare_elements pick
calendars_bare v = rw (is_stream_lem v, stream_bare v) (go (is_stream v))
  where
    go : (t : Bool) → pick t (bare_elements (stream_in v)) (element (bare v) no_elements) ≡ bare_elements (pick t (stream_in v) (element v no_elements))
    go true = refl
    go false = refl

pub verdict_bare : (ed : Edition) (v : Json) (may : List ℕ → Bool) (l : ℕ) (m : Bool) →
    is_fine (components_verdict ed (calendars_in (bare v)) may l m) ≡ is_fine (components_verdict ed (calendars_in v) may l m)
verdict_bare ed v may l m = rw (calendars_bare v) (components_verdict_lem ed (calendars_in v) may l m)

pub read_bare : (v : Json) → read_calendars (calendars_in (bare v)) ≡ read_calendars (calendars_in v)
read_bare v = rw (calendars_bare v, components_same (calendars_in v))
