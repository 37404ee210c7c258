-- The fault of a property, by what its elements are.
--     fault_by     the fault by its name, parameters, type and values
use Rattle.std.specs.Prelude.{◌≡◌, Bool, true, false, not, ℕ, Option, None, Some}
use Rattle.std.proofs.Math.Path.{refl, ap}
use Rattle.std.proofs.Common.{◌∙◌}
use mathlib.Core.List.{List, []}
use Rattle.octets.specs.Pick.{pick, ◌and◌, ◌or◌}
use Rattle.octets.specs.Class.{upper}
use Rattle.octets.specs.Lists.{any_one}
use Rattle.octets.specs.Reading.{is_read, read_or}
use Rattle.calendar.specs.Calendar.{ValueType, TEXT}
use Rattle.calendar.specs.Refusal.{Refusal, NAME, FRAME, PARAMETER, VALUE}
use Rattle.schema.specs.Components.{may_stand}
use Rattle.schema.specs.Properties.{is_known_property, is_listed_property}
use Rattle.edition.specs.declared.Edition.{Edition}
use Rattle.values.specs.Valid.{is_amount}
use Rattle.json_text.specs.Tree.{Json, Member}
use Rattle.jcal.specs.Parameters.{parameters_good}
use Rattle.jcal.specs.Values.{read_values}
use Rattle.jcal.specs.Property.{name_in, parameters_in, type_in, values_in, is_bad_property, is_bad_parameter, passes, names_bad, is_shaped, property_fault}
use Rattle.read_jcal.specs.Properties.{values_fault, known_fault, shape_fault}

pick-not : {A : Type 0} (b : Bool) (x y : A) → pick (not b) x y ≡ pick b y x
unfolding pick
pick-not true x y = refl
pick-not false x y = refl

module _ (ed : Edition) (c : List ℕ) where
  -- the three tests behind that of the names
  abbrev tests_by : Option (List ℕ) → Option (List Member) → Option ValueType → List Json → Option Refusal
  tests_by n ms t vs =
      pick (not (is_read n and is_read ms and is_read t and is_amount (is_listed_property (upper (read_or [] n))) vs and (not (is_known_property (upper (read_or [] n))) or may_stand c (upper (read_or [] n))))) (Some FRAME)
      (pick (not (parameters_good ed (upper (read_or [] n)) (read_or TEXT t) (read_or [] ms))) (Some PARAMETER)
      (pick (is_read (read_values c (upper (read_or [] n)) (read_or TEXT t) vs)) None (Some VALUE)))

  known_by : (n : List ℕ) (ms : List Member) (t : ValueType) (vs : List Json) → tests_by (Some n) (Some ms) (Some t) vs ≡ known_fault ed c (upper n) t ms vs
  unfolding is_read read_or ◌and◌ known_fault
  known_by n ms t vs =
      pick-not (is_amount (is_listed_property (upper n)) vs and (not (is_known_property (upper n)) or may_stand c (upper n))) (Some FRAME) _
      ∙ ap (λ (o : Option Refusal). pick (is_amount (is_listed_property (upper n)) vs and (not (is_known_property (upper n)) or may_stand c (upper n))) o (Some FRAME))
      (pick-not (parameters_good ed (upper n) t ms) (Some PARAMETER) (values_fault ed c (upper n) t vs))

  shape_by : (n : Option (List ℕ)) (ms : Option (List Member)) (t : Option ValueType) (vs : List Json) → tests_by n ms t vs ≡ shape_fault ed c ms t vs n
  unfolding is_read ◌and◌ pick
  shape_by None ms t vs = refl
  shape_by (Some n) None t vs = refl
  shape_by (Some n) (Some ms) None vs = refl
  shape_by (Some n) (Some ms) (Some t) vs = known_by n ms t vs

  pub fault_by : (vs : List Json) →
      property_fault ed c vs ≡ pick (passes is_bad_property (name_in vs) or any_one is_bad_parameter (read_or [] (parameters_in vs))) (Some NAME) (shape_fault ed c (parameters_in vs) (type_in vs) (values_in vs) (name_in vs))
  unfolding property_fault names_bad is_shaped
  fault_by vs = ap (pick (passes is_bad_property (name_in vs) or any_one is_bad_parameter (read_or [] (parameters_in vs))) (Some NAME)) (shape_by (name_in vs) (parameters_in vs) (type_in vs) (values_in vs))
