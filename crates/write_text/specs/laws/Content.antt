-- Laws of what specs/Content.antt defines.
--     parameters_put, values_put, line_put    from what was put
use Rattle.std.specs.Prelude.{◌≡◌, refl, Bool, true, false, ℕ, ◌≤◌, length}
use Rattle.std.proofs.Common.{sym, ◌∙◌, arith, ne_eqb, ltb-false}
use Rattle.std.proofs.Math.Path.{subst}
use mathlib.Core.List.{List, [], ◌∷◌, map}
use Rattle.octets.specs.Ascii.{ascii}
use Rattle.octets.specs.Pick.{pick}
use Rattle.octets.specs.Append.{◌⊕◌, joined}
use Rattle.octets.specs.Class.{upper}
use Rattle.octets.specs.Words.{is_one_of}
use Rattle.octets.specs.Computing.{octets_compute}
use Rattle.calendar.specs.Calendar.{Value}
use Rattle.sink.specs.Sink.{Put}
use Rattle.sink.specs.laws.Sink.{◌▷◌}
use Rattle.names.specs.Table.{place_of}
use Rattle.names.specs.laws.Table.{one_of_place}
use Rattle.names.specs.laws.Places.{placed}
use Rattle.schema.specs.Properties.{property_names}
use Rattle.schema.specs.Numbers.{type_at, property_name}
use Rattle.schema.specs.Coded.{row_at}
use Rattle.schema.specs.declared.table.Row.{Row}
use Rattle.schema.specs.Property as property
use Rattle.values.specs.WriteValue.{write_values, type_of_all}
use Rattle.read_text_line.specs.Write.{write_parameter, write_content_line}
use Rattle.read_text_line.specs.Decoded.{encoded_parameter}
use Rattle.text.specs.WriteText.{raw_of, content_line_of}
use Rattle.xml.specs.Nodes.{Nodes}
use Rattle.xcal.specs.ValueNodes.{read_value_nodes}
use Rattle.xcal.specs.ParameterNodes.{read_parameter_nodes}
use Rattle.xcal.specs.PropertyNodes.{parameters_in}
use Rattle.xml.specs.NodesAt.{nodes_at}
use Rattle.edition.specs.declared.Edition.{Edition}
use Rattle.write_text_pieces.specs.Typing.{value_at}
use Rattle.write_text_pieces.specs.laws.Typing.{value_at_lem, number_of, default_of, with_value_lem}
use Rattle.write_text.specs.Parameters.{ParametersAt}
use Rattle.write_text.specs.laws.Parameters.{geo_at, status_at}
use Rattle.write_text.specs.Content.{line_text, parameters_text}

-- of a property's name only its number matters to its values
no_name : (w : List ℕ) (kids : Nodes) → is_one_of w property_names ≡ false → read_value_nodes [] kids ≡ read_value_nodes w kids
unfolding read_value_nodes octets_compute
no_name w kids h =
    let l : length property_names ≤ place_of w property_names = ltb-false (place_of w property_names) (length property_names) (sym (one_of_place w property_names) ∙ h) in
    rw (geo_at w refl, status_at w refl, ne_eqb (place_of w property_names) property.GEO (λ q. omega (arith, l)), ne_eqb (place_of w property_names) property.REQUEST-STATUS (λ q. omega (arith, l)))

values_named : (w : List ℕ) (kids : Nodes) {p : ℕ} → p ≡ place_of w property_names → read_value_nodes (property_name p) kids ≡ read_value_nodes w kids
unfolding pick
values_named w kids e = rw (e, placed w property_names) (go (is_one_of w property_names) refl)
  where
    go : (t : Bool) → is_one_of w property_names ≡ t → read_value_nodes (pick t w []) kids ≡ read_value_nodes w kids
    go true h = refl
    go false h = no_name w kids h

module _ (s : List ℕ) (inside : ℕ) {p : ℕ} where
  pub values_put : {d e f : List ℕ} {o a r : ℕ} → Put d e o a (ascii ":") → Put e f a r (write_values (read_value_nodes (property_name p) (nodes_at s inside))) →
      (w : List ℕ) → p ≡ place_of w property_names → Put d f o r (58 ∷ write_values (read_value_nodes w (nodes_at s inside)))
  unfolding ◌⊕◌
  values_put {e = e} {f} {a = a} {r} u v w q = u ▷ subst (λ (vs : List Value). Put e f a r (write_values vs)) (values_named w (nodes_at s inside) q) v

module _ (ed : Edition) where
  module _ (s : List ℕ) (inside : ℕ) {row : Row} where
    pub parameters_put : {d e f : List ℕ} {o a r t q : ℕ} →
        (type_at t ≡ type_of_all (read_value_nodes (property_name row.number) (nodes_at s inside))) × (t ≤ 14) → ParametersAt row.number s inside q →
        Put d e o a (value_at row.default t) → Put e f a r (joined (map write_parameter (map (encoded_parameter ed) (map raw_of (read_parameter_nodes (nodes_at s q)))))) →
        (w : List ℕ) → row ≡ row_at (place_of w property_names) → Put d f o r (parameters_text ed w (nodes_at s inside))
    unfolding parameters_text
    parameters_put {d} {f = f} {o} {r = r} {t} {q} y i u v w e =
        subst (Put d f o r)
        (rw (value_at_lem w t (default_of w e) y.1, y.0, values_named w (nodes_at s inside) (number_of w e), ← (i.is w (number_of w e)))
        (sym (with_value_lem ed w (type_of_all (read_value_nodes w (nodes_at s inside))) (map raw_of (read_parameter_nodes (parameters_in w (nodes_at s inside)))))))
        (u ▷ v)

    pub line_put : {d e f g : List ℕ} {o a b r : ℕ} (m : List ℕ) → row ≡ row_at (place_of (upper m) property_names) → Put d e o a (upper m) →
        ((w : List ℕ) → row ≡ row_at (place_of w property_names) → Put e f a b (parameters_text ed w (nodes_at s inside))) →
        ((w : List ℕ) → row.number ≡ place_of w property_names → Put f g b r (58 ∷ write_values (read_value_nodes w (nodes_at s inside)))) →
        Put d g o r (line_text ed m (nodes_at s inside))
    unfolding line_text parameters_text write_content_line content_line_of
    line_put m e u v w = u ▷ v (upper m) e ▷ w (upper m) (number_of (upper m) e)
