-- Laws of what specs/Rows.antt defines.
--     row_named    of a name's number
--     leaves_are    they are what xcal reads of the name
--     literal_read, element_read values that were read, by the first node
use Rattle.std.specs.Prelude.{◌≡◌, refl, Bool, ℕ, None, Some}
use Rattle.std.proofs.Math.Bool.{true, false}
use mathlib.Core.List.{List, ◌∷◌}
use Rattle.octets.specs.Pick.{pick}
use Rattle.octets.specs.Class.{lower, is_space}
use Rattle.octets.specs.Words.{same}
use Rattle.octets.specs.Reading.{and_then, cons_read}
use Rattle.octets.specs.laws.Reading.{none-some, and_then-some, cons_read-some}
use Rattle.calendar.specs.Calendar.{Value}
use Rattle.names.specs.Table.{place_of}
use Rattle.schema.specs.Types.{type_name}
use Rattle.schema.specs.Parameters.{ParameterRow, parameter_row, parameter_names}
use Rattle.schema.specs.laws.Numbers.{parameter_place}
use Rattle.xml.specs.Nodes.{Nodes, no_nodes, element, literal, referred}
use Rattle.xcal.specs.ParameterNodes.{read_param_node, read_param_nodes}
use Rattle.read_xml_parameters.specs.Rows.{row_at, read_leaf, read_leaves}

pub row_named : (n : List ℕ) → parameter_row n ≡ row_at (place_of n parameter_names)
unfolding row_at
row_named n = parameter_place n

pub leaves_are : (n : List ℕ) (kids : Nodes) → read_param_nodes n kids ≡ read_leaves (parameter_row n) kids
unfolding read_param_nodes read_param_node read_leaves read_leaf
leaves_are n no_nodes = refl
leaves_are n (literal p b more) = rw (leaves_are n more)
leaves_are n (referred p bs more) = refl
leaves_are n (element p m x kids more) = rw (leaves_are n more)

module _ (r : ParameterRow) (vs : List Value) where
  pub literal_read : (p b : ℕ) (more : Nodes) → read_leaves r (literal p b more) ≡ Some vs → read_leaves r more ≡ Some vs
  unfolding read_leaves pick
  literal_read p b more h = go (is_space b) h
    where
      go : (t : Bool) → pick t (read_leaves r more) None ≡ Some vs → read_leaves r more ≡ Some vs
      go true e = e
      go false e = none-some e

  pub element_read : (p : ℕ) (m : List ℕ) (x : ℕ) (kids more : Nodes) → read_leaves r (element p m x kids more) ≡ Some vs →
      (v : Value) × (read_leaf r kids ≡ Some v) × (l : List Value) × (read_leaves r more ≡ Some l) × (v ∷ l ≡ vs)
  unfolding read_leaves pick
  element_read p m x kids more h = go (same m (lower (type_name r.type))) h
    where
      go : (t : Bool) → pick t (and_then (read_leaf r kids) (λ v. cons_read v (read_leaves r more))) None ≡ Some vs →
          (v : Value) × (read_leaf r kids ≡ Some v) × (l : List Value) × (read_leaves r more ≡ Some l) × (v ∷ l ≡ vs)
      go true e =
          let a = and_then-some (read_leaf r kids) (λ v. cons_read v (read_leaves r more)) vs e in
          let b = cons_read-some a.0 (read_leaves r more) vs a.2 in
          (a.0, a.1, b.0, b.1, b.2)
      go false e = none-some e
