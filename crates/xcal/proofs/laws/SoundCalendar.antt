-- The content of a valid calendar is sound: its bytes are well formed and within the profile.
--     calendar_sound       within 31 elements inside one another
use Rattle.std.specs.Prelude.{◌≡◌, Bool, false}
use Rattle.std.proofs.Math.Path.{refl}
use Rattle.std.proofs.Math.Bool.{true}
use mathlib.Core.List.{List, [], ◌∷◌}
use Prim.Native.Nat.{ℕ, zero, suc, ◌+◌, ◌*◌, ◌-◌, ◌≤◌}
use Rattle.std.proofs.Common.{arith}
use borrow.Author.Tests.{ltb-true}
use Rattle.octets.specs.Ascii.{ascii}
use Rattle.octets.specs.laws.Pick.{pick_either, and_both}
use Rattle.octets.specs.Class.{lower}
use Rattle.octets.specs.Lists.{every}
use Rattle.octets.specs.laws.Lists.{every_both, every_weaker}
use Rattle.octets.specs.Computing.{octets_compute}
use Rattle.calendar.specs.Calendar.{Value, Parameter, Property, Components, no_more, component}
use Rattle.calendar.specs.Levels.{levels}
use Rattle.schema.specs.Components.{may_contain}
use Rattle.schema.specs.Counts.{method_for}
use Rattle.schema.specs.Parameters.{parameter_words, parameter_type}
use Rattle.values.specs.WriteValue.{type_of_all}
use Rattle.values.specs.ReadBack.{is_value}
use Rattle.values.specs.Valid.{are_values_of, are_property_values}
use Rattle.values.specs.laws.Valid.{property_value_valid}
use Rattle.values.specs.Characters.{is_value_text}
use Rattle.xml.specs.Reads.{is_name}
use Rattle.xml.specs.Content.{Content, nothing, child}
use Rattle.validity.specs.ValidCalendar.{is_parameter_text, is_valid_parameter, is_valid_property, are_valid, at_top}
use Rattle.validity.proofs.laws.ValidCalendar.{parameter_text, valid_parameter, valid_property, valid_component}
use Rattle.edition.specs.declared.Edition.{Edition}
use Rattle.xcal.specs.WriteXml.{is_no_more}
use Rattle.xcal.proofs.laws.Contents.{values_before, parameters_before, parameters_part, property_inside, properties_before, components_part, component_inside, calendar_content}
use Rattle.xcal.proofs.laws.ElementNames.{kept_element}
use Rattle.xcal.proofs.laws.ComponentsBack.{is_calendar}
use Rattle.xcal.proofs.laws.SoundContent.{is_sound, sound_deeper}
use Rattle.xcal.proofs.laws.CleanValues.{values_clean}
use Rattle.xcal.proofs.laws.SoundValues.{child_sound, value_sound, parameter_value_sound, values_sound}

parameters_name : is_name (ascii "parameters") ≡ true
unfolding octets_compute is_name
parameters_name = refl

properties_name : is_name (ascii "properties") ≡ true
unfolding octets_compute is_name
properties_name = refl

components_name : is_name (ascii "components") ≡ true
unfolding octets_compute is_name
components_name = refl

property_values : (k n : List ℕ) (vs : List Value) → are_property_values k n vs ≡ true → every is_value vs ≡ true
unfolding are_values_of
property_values k n vs h = every_weaker _ is_value (property_value_valid k n (type_of_all vs)) vs (and_both _ _ (and_both _ _ h).1).1

module _ (ed : Edition) where
  -- ---- parameters and properties

  parameters_sound : (ps : List Parameter) → every (is_valid_parameter ed) ps ≡ true → is_sound (parameters_before ps nothing) 3 ≡ true
  unfolding parameters_before is_sound
  parameters_sound [] h = refl
  parameters_sound (p ∷ ps) h =
      let a = every_both (is_valid_parameter ed) p ps h in
      let c = valid_parameter ed p a.0 in
      child_sound (lower p.name) (values_before p.values nothing) (parameters_before ps nothing) 2 (kept_element p.name c.kept)
      (values_sound _ (parameter_value_sound (parameter_words p.name) (parameter_type p.name)) p.values c.chosen
      (values_clean p.values (every_weaker (is_parameter_text ed) is_value_text (parameter_text ed) p.values c.plain) c.permitted) nothing 0 refl)
      (parameters_sound ps a.1)

  part_sound : (ps : List Parameter) (c : Content) → every (is_valid_parameter ed) ps ≡ true → is_sound c 4 ≡ true → is_sound (parameters_part ps c) 4 ≡ true
  part_sound [] c h s = s
  part_sound (p ∷ ps) c h s = child_sound (ascii "parameters") (parameters_before (p ∷ ps) nothing) c 3 parameters_name (parameters_sound (p ∷ ps) h) s

  properties_sound : (k : List ℕ) (ps : List Property) → every (is_valid_property ed k) ps ≡ true → is_sound (properties_before ps nothing) 5 ≡ true
  unfolding properties_before is_sound
  properties_sound k [] h = refl
  properties_sound k (p ∷ ps) h =
      let a = every_both (is_valid_property ed k) p ps h in
      let c = valid_property ed k p a.0 in
      child_sound (lower p.name) (property_inside p) (properties_before ps nothing) 4 (kept_element p.name c.kept)
      (part_sound p.parameters (values_before p.values nothing) c.parameters
      (values_sound is_value value_sound p.values (property_values k p.name p.values c.values) (values_clean p.values c.plain c.permitted) nothing 2 refl))
      (properties_sound k ps a.1)

  inside_sound : (n : List ℕ) (ps : List Property) (empty : Bool) (c : Content) (d : ℕ) → every (is_valid_property ed n) ps ≡ true → 5 ≤ d → is_sound c d ≡ true →
      is_sound (component_inside n ps empty c) (suc d) ≡ true
  unfolding components_part is_sound
  inside_sound n ps empty c d h l s =
      child_sound (ascii "properties") (properties_before ps nothing) (components_part n empty c) d properties_name (sound_deeper (properties_before ps nothing) 5 d l (properties_sound n ps h))
      (pick_either (λ x. is_sound x (suc d) ≡ true) (is_calendar n) _ _ written (pick_either (λ x. is_sound x (suc d) ≡ true) empty _ _ refl written))
    where
      written : is_sound (child (ascii "components") c nothing) (suc d) ≡ true
      written = child_sound (ascii "components") c nothing d components_name s refl

  -- at most e levels deep
  components_sound : (c : Components) (may : List ℕ → Bool) (m : Bool) (e d : ℕ) → are_valid ed e may m c ≡ true → 5 + 2 * e ≤ d → is_sound (calendar_content c) d ≡ true
  unfolding calendar_content is_sound
  components_sound no_more may m e d h l = refl
  components_sound (component n ps inner next) may m e zero h l = absurd (omega arith)
  components_sound (component n ps inner next) may m e (suc zero) h l = absurd (omega arith)
  components_sound (component n ps inner next) may m e (suc (suc d)) h l =
      let v = valid_component ed e may m n ps inner next h in
      let w = ltb-true 0 e v.level in
      child_sound (lower n) (component_inside n ps (is_no_more inner) (calendar_content inner)) (calendar_content next) (suc d) (kept_element n v.kept)
      (inside_sound n ps (is_no_more inner) (calendar_content inner) d v.properties (omega arith)
      (components_sound inner (may_contain n) (method_for n ps m) (e - 1) d v.inside (omega arith)))
      (components_sound next may m e (suc (suc d)) v.after l)

  pub calendar_sound : (c : Components) → are_valid ed levels at_top false c ≡ true → is_sound (calendar_content c) 31 ≡ true
  calendar_sound c h = components_sound c at_top false levels 31 h (omega arith)
