-- Laws of what specs/Content.antt defines.
--     parameters_put, values_put, end_put, line_put    from what was put
--     component_place                                  the number of the name of a number
use Rattle.std.specs.Prelude.{◌≡◌, refl, Bool, Option}
use Rattle.std.proofs.Math.Path.{sym, ap, subst}
use Rattle.std.proofs.Common.{◌∙◌, arith}
use mathlib.Core.List.{List, [], ◌∷◌, map}
use Prim.Native.Nat.{ℕ, zero, suc, ◌≤◌, ◌<◌}
use Rattle.std.proofs.Math.Decide.{dec_le}
use Rattle.octets.specs.Ascii.{ascii}
use Rattle.octets.specs.Append.{◌⊕◌, joined}
use Rattle.octets.specs.laws.Append.{append_regroup}
use Rattle.octets.specs.Class.{upper}
use Rattle.octets.specs.Reading.{is_read, read_or}
use Rattle.calendar.specs.Calendar.{ValueType, Value}
use Rattle.sink.specs.Sink.{Put}
use Rattle.sink.specs.laws.Sink.{◌▷◌}
use Rattle.source.specs.Source.{rest}
use Rattle.names.specs.Table.{place_of}
use Rattle.schema.specs.Components.{component_names}
use Rattle.schema.specs.Properties.{property_names}
use Rattle.schema.specs.Numbers.{type_at, component_name}
use Rattle.schema.specs.Coded.{row_at}
use Rattle.schema.specs.laws.Places.{component_at_lem, no_component_lem}
use Rattle.schema.specs.declared.Context.{Context}
use Rattle.values.specs.WriteValue.{write_values, type_of_all}
use Rattle.read_text_line.specs.Write.{write_parameter, write_content_line}
use Rattle.read_text_line.specs.Decoded.{encoded_parameter}
use Rattle.text.specs.WriteText.{raw_of, content_line_of}
use Rattle.json_text.specs.Tree.{Json, Member, Members, Elements, element_list, first_of}
use Rattle.json_text.specs.Tree.{member_list as listed}
use Rattle.json_text.specs.Tree.{string, number, literal, array, object, no_members}
use Rattle.json_text.specs.Kinds.{as_object}
use Rattle.jcal.specs.Parameters.{read_parameters}
use Rattle.jcal.specs.Property.{parameters_in, member_list, property_name, value_type_of, values_in, property_of}
use Rattle.jcal.specs.Values.{read_values}
use Rattle.read_json.specs.TreeAt.{elements_at, members_at}
use Rattle.edition.specs.declared.Edition.{Edition}
use Rattle.write_text_pieces.specs.Typing.{value_at}
use Rattle.write_text_pieces.specs.laws.Typing.{value_at_lem, default_of, with_value_lem}
use Rattle.write_text_jcal_values.specs.Elements.{list_at, without, characters_in, members_in}
use Rattle.write_text_jcal_values.specs.laws.Elements.{without_list, nth_first}
use Rattle.write_text_jcal_values.specs.Property.{ReadAs, stated_as}
use Rattle.write_text_jcal.specs.Context.{ContextAt}
use Rattle.write_text_jcal.specs.laws.Context.{name_is}
use Rattle.write_text_jcal.specs.Content.{line_text, parameters_text}

pub component_place : (k : ℕ) → k ≤ 9 → place_of (component_name k) component_names ≡ k
component_place k h = go (dec_le 9 k)
  where
    go : Dec (9 ≤ k) → place_of (component_name k) component_names ≡ k
    go (yes l) = let e : k ≡ 9 = omega arith in rw e no_component_lem
    go (no l) = let l' : k < 9 = omega (arith, l) in component_at_lem k l'

object_list : (v : Json) → read_or [] (as_object v) ≡ listed (members_in v)
unfolding read_or listed
object_list (string p s) = refl
object_list (number p s) = refl
object_list (literal p s) = refl
object_list (array p e vs) = refl
object_list (object p e ms) = refl

members_are : (s : List ℕ) (inside at q : ℕ) → elements_at s at ≡ without 1 (elements_at s inside) → members_at s q ≡ members_in (first_of (elements_at s at)) → listed (members_at s q) ≡ member_list (list_at s inside)
members_are s inside at q i j =
    ap listed (j ∙ ap (λ (es : Elements). members_in (first_of es)) i)
    ∙ sym (object_list (first_of (without 1 (elements_at s inside))))
    ∙ sym (ap (λ (o : Option (List Member)). read_or [] o) (nth_first as_object refl 1 (elements_at s inside)))

pub values_put : (s : List ℕ) (from : ℕ) {x : Context} {b : Bool} {d e f : List ℕ} {o a r : ℕ} → Put d e o a (ascii ":") →
    ((c w : List ℕ) → ReadAs x c w (list_at s from) b → Put e f a r (write_values (stated_as x c w (list_at s from)))) →
    (c w : List ℕ) → ReadAs x c w (list_at s from) b → Put d f o r (58 ∷ write_values (stated_as x c w (list_at s from)))
unfolding ◌⊕◌
values_put s from u v c w k = u ▷ v c w k

module _ (ed : Edition) (s : List ℕ) where
  pub parameters_put : (inside from at q : ℕ) {x : Context} {b : Bool} {t : ℕ} {d e f : List ℕ} {o a r : ℕ} →
      elements_at s at ≡ without 1 (elements_at s inside) → members_at s q ≡ members_in (first_of (elements_at s at)) →
      ((c w : List ℕ) → ReadAs x c w (list_at s from) b → (type_at t ≡ type_of_all (stated_as x c w (list_at s from))) × (t ≤ 14)) →
      Put d e o a (value_at x.row.default t) → Put e f a r (joined (map write_parameter (map (encoded_parameter ed) (map raw_of (read_or [] (read_parameters (listed (members_at s q)))))))) →
      (c w : List ℕ) → ReadAs x c w (list_at s from) b → Put d f o r (parameters_text ed w (stated_as x c w (list_at s from)) (elements_at s inside))
  unfolding parameters_text
  parameters_put inside from at q {x} {b} {t} {d} {e} {f} {o} {a} {r} i j y u v c w k =
      let z = y c w k in
      subst (Put d f o r)
      (rw (value_at_lem w t (default_of w k.row) z.1, z.0, members_are s inside at q i j)
      (sym (with_value_lem ed w (type_of_all (stated_as x c w (list_at s from))) (map raw_of (read_or [] (read_parameters (member_list (list_at s inside))))))))
      (u ▷ v)

  pub end_put : (inside from : ℕ) {x : Context} {b : Bool} {d e f : List ℕ} {o a r : ℕ} → x.value_type ≤ 14 → elements_at s from ≡ without 3 (elements_at s inside) →
      ((c w : List ℕ) → x.component ≡ place_of c component_names → x.row ≡ row_at (place_of w property_names) → x.value_type ≤ 14 → b ≡ is_read (read_values c w (type_at x.value_type) (list_at s from))) →
      ((c w : List ℕ) → ReadAs x c w (list_at s from) b → Put d e o a (parameters_text ed w (stated_as x c w (list_at s from)) (elements_at s inside))) →
      ((c w : List ℕ) → ReadAs x c w (list_at s from) b → Put e f a r (58 ∷ write_values (stated_as x c w (list_at s from)))) →
      (c w : List ℕ) → x.component ≡ place_of c component_names → x.row ≡ row_at (place_of w property_names) →
      Put d f o r (parameters_text ed w (stated_as x c w (element_list (without 3 (elements_at s inside)))) (elements_at s inside) ⊕ (58 ∷ write_values (stated_as x c w (element_list (without 3 (elements_at s inside))))))
  end_put inside from {x} {b} {d} {f = f} {o} {r = r} l i y u v c w p q =
      let k : ReadAs x c w (list_at s from) b = record { component = p; row = q; is = y c w p q l } in
      subst (λ (es : Elements). Put d f o r (parameters_text ed w (stated_as x c w (element_list es)) (elements_at s inside) ⊕ (58 ∷ write_values (stated_as x c w (element_list es))))) i (u c w k ▷ v c w k)

  pub line_put : (k inside n : ℕ) {x : Context} {d e f : List ℕ} {o a r : ℕ} → k ≤ 9 → rest 3 s n ≡ characters_in (elements_at s inside) → ContextAt k s inside x → Put d e o a (upper (rest 3 s n)) →
      ((c w : List ℕ) → x.component ≡ place_of c component_names → x.row ≡ row_at (place_of w property_names) →
      Put e f a r (parameters_text ed w (stated_as x c w (element_list (without 3 (elements_at s inside)))) (elements_at s inside) ⊕ (58 ∷ write_values (stated_as x c w (element_list (without 3 (elements_at s inside))))))) →
      Put d f o r (line_text ed (component_name k) (elements_at s inside))
  unfolding line_text parameters_text write_content_line content_line_of property_of
  line_put k inside n {x} {d} {e} {f} {o} {a} {r} h j m u v =
      let w : List ℕ = property_name (list_at s inside) in
      let name : upper (rest 3 s n) ≡ w = ap upper (j ∙ sym (name_is (elements_at s inside))) in
      let g = v (component_name k) w (m.component ∙ sym (component_place k h)) m.row in
      let z : stated_as x (component_name k) w (element_list (without 3 (elements_at s inside))) ≡ read_or [] (read_values (component_name k) w (value_type_of (list_at s inside)) (values_in (list_at s inside))) =
      ap (λ (t : ValueType). read_or [] (read_values (component_name k) w t (element_list (without 3 (elements_at s inside))))) m.type
      ∙ ap (λ (vs : List Json). read_or [] (read_values (component_name k) w (value_type_of (list_at s inside)) vs)) (sym (without_list 3 (elements_at s inside))) in
      subst (λ (l : List ℕ). Put d e o a l) name u ▷ subst (λ (vs : List Value). Put e f a r (parameters_text ed w vs (elements_at s inside) ⊕ (58 ∷ write_values vs))) z g
