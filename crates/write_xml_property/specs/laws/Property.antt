-- Laws of what specs/Property.antt defines.
--     property_xml_lem  what is written of the line;   name_inside: where its name ends
use Rattle.std.specs.Prelude.{◌≡◌, refl, true, length, Option, None, option_map, Some, unwrap_or}
use Rattle.std.proofs.Common.{sym, subst, ◌∙◌, arith}
use Rattle.std.proofs.Math.Path.{ap}
use mathlib.Core.List.{List, []}
use Prim.Native.Nat.{ℕ, ◌≤◌}
use Rattle.std.proofs.Math.Decide.{dec_le}
use Rattle.octets.specs.Pick.{pick}
use Rattle.octets.specs.Class.{is_name_char, upper}
use Rattle.octets.specs.laws.Letters.{lower_any_case}
use Rattle.octets.specs.Runs.{run_of}
use Rattle.octets.specs.Scan.{span_len}
use Rattle.octets.specs.Reading.{read_or, or_nothing}
use Rattle.octets.specs.laws.Reading.{none-some}
use Rattle.names.specs.Table.{place_of}
use Rattle.sink.specs.Sink.{Put}
use Rattle.source.specs.Source.{rest, cuts}
use Rattle.source.specs.laws.Facts.{rest_past}
use Rattle.schema.specs.Types.{type_place}
use Rattle.schema.specs.Properties.{property_names, default_type}
use Rattle.schema.specs.Numbers.{type_at, component_name}
use Rattle.schema.specs.Coded.{row_at}
use Rattle.schema.specs.laws.Columns.{default_place}
use Rattle.schema.specs.declared.table.Row.{Row}
use Rattle.edition.specs.declared.Edition.{Edition}
use Rattle.read_text_line.specs.ContentLine.{ContentLine, content_line}
use Rattle.read_text_line.specs.Decoded.{decoded_line, read_line}
use Rattle.read_text_line.specs.laws.Params.{name_chars}
use Rattle.read_text_line.specs.Line.{LineAt}
use Rattle.read_text_line.specs.declared.LineCursors.{LineCursors}
use Rattle.text.specs.Values.{read_values}
use Rattle.text.specs.Statement.{property_of}
use Rattle.xcal.specs.WriteXml.{values_xml, property_xml}
use Rattle.write_xml_property.specs.Property.{name_in, stated_xml, parts_xml}
use Rattle.read_text_parameters.specs.Stating.{StatedAt}
use Rattle.read_text_parameters.specs.laws.Stating.{stated_names, stated_none}

no_line : content_line [] ≡ None
unfolding content_line run_of span_len pick
no_line = refl

module _ {m : ℕ} {s : List ℕ} {c : ℕ} {l : LineCursors} (y : cuts m ≡ true) (a : LineAt m s c (Some l)) where
  pub name_inside : l.parameters ≤ length s
  name_inside = go (dec_le c (length s))
    where
      go : Dec (c ≤ length s) → l.parameters ≤ length s
      go (yes h) = a.parts.1.name.plain y (subst (λ (n : ℕ). n ≤ length s) (sym a.parts.0) h)
      go (no h) =
          let k : length s ≤ c = omega arith in
          let z : rest m s c ≡ [] = rest_past m s c y k in
          none-some (sym (ap content_line z ∙ no_line) ∙ a.is)

  pub property_xml_lem : (ed : Edition) (k : ℕ) → or_nothing (λ x. property_xml (property_of (component_name k) x)) (read_line ed (rest m s c)) ≡ parts_xml ed k m s l
  unfolding property_xml property_of
  property_xml_lem ed k =
      ap (λ (o : Option ContentLine). or_nothing (λ x. property_xml (property_of (component_name k) x)) (option_map (decoded_line ed) o)) a.is
      ∙ rw (name_chars y a.parts.1.name, lower_any_case (run_of is_name_char (rest m s l.name)))

-- ---- for the code

-- a line by the cursors of its name, its parameters and its value
abbrev cursors : ℕ → ℕ → ℕ → LineCursors
cursors c e v = record { name = c; parameters = e; value = v }

-- the values from v on, of the property w and the type of the number t
abbrev values_of : ℕ → ℕ → List ℕ → ℕ → List ℕ → ℕ → List ℕ
values_of k m s v w t = values_xml (read_or [] (read_values (component_name k) w (type_at t) (rest m s v)))

default_of : {row : Row} (w : List ℕ) → row ≡ row_at (place_of w property_names) → row.default ≡ type_place (default_type w)
default_of w h = ap (λ (x : Row). x.default) h ∙ default_place w

-- the values, by the row of the line's name and by the type that was found
module _ {ed : Edition} {d f : List ℕ} {at o : ℕ} (k : ℕ) {row : Row} {m : ℕ} {s : List ℕ} (c : ℕ) {e : ℕ} (v : ℕ) {r : Option ℕ}
    (h : row ≡ row_at (place_of (upper (name_in m s (cursors c e v))) property_names)) (a : StatedAt ed row.default m s e r) where
  put_typed : (t : ℕ) → r ≡ Some t → ((w : List ℕ) → row ≡ row_at (place_of w property_names) → Put d f at o (values_of k m s v w t)) → Put d f at o (stated_xml ed k m s (cursors c e v))
  unfolding read_or
  put_typed t z w = let n : List ℕ = upper (name_in m s (cursors c e v)) in rw (stated_names a n (default_of n h) z).0 (w n h)

  put_untyped : r ≡ None → ((w : List ℕ) → row ≡ row_at (place_of w property_names) → Put d f at o (values_of k m s v w 10)) → Put d f at o (stated_xml ed k m s (cursors c e v))
  unfolding read_or
  put_untyped z w = let n : List ℕ = upper (name_in m s (cursors c e v)) in rw (stated_none a n (default_of n h) z) (w n h)

  pub put_stated : {t : ℕ} → t ≡ unwrap_or r 10 → ((w : List ℕ) → row ≡ row_at (place_of w property_names) → Put d f at o (values_of k m s v w t)) → Put d f at o (stated_xml ed k m s (cursors c e v))
  put_stated {t} z p = go r refl z
    where
      go : (x : Option ℕ) → r ≡ x → t ≡ unwrap_or x 10 → Put d f at o (stated_xml ed k m s (cursors c e v))
      go None i j = put_untyped i (subst (λ (u : ℕ). (w : List ℕ) → row ≡ row_at (place_of w property_names) → Put d f at o (values_of k m s v w u)) j p)
      go (Some u) i j = put_typed u i (subst (λ (u : ℕ). (w : List ℕ) → row ≡ row_at (place_of w property_names) → Put d f at o (values_of k m s v w u)) j p)
