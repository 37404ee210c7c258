-- Laws of what specs/Property.antt defines.
--     property_json_lem  it is the array of the property that the line states
--     put_typed, put_untyped    the type and the values, by the type that was found
use Rattle.std.specs.Prelude.{◌≡◌, refl, true, Option, option_map, None, Some, unwrap_or}
use Rattle.std.proofs.Math.Path.{ap}
use Rattle.std.proofs.Common.{◌∙◌, subst}
use mathlib.Core.List.{List, [], ◌∷◌}
use Prim.Native.Nat.{ℕ}
use Rattle.octets.specs.Ascii.{ascii}
use Rattle.octets.specs.Append.{◌⊕◌}
use Rattle.octets.specs.laws.Append.{append_regroup}
use Rattle.octets.specs.Class.{is_name_char, upper}
use Rattle.octets.specs.laws.Letters.{lower_any_case}
use Rattle.octets.specs.Words.{each_after, joined_by}
use Rattle.octets.specs.Runs.{run_of}
use Rattle.octets.specs.Reading.{read_or, or_nothing}
use Rattle.names.specs.Table.{place_of}
use Rattle.sink.specs.Sink.{Put}
use Rattle.source.specs.Source.{rest, cuts}
use Rattle.schema.specs.Types.{type_place}
use Rattle.schema.specs.Properties.{property_names, default_type}
use Rattle.schema.specs.Numbers.{type_at, component_name}
use Rattle.schema.specs.Coded.{row_at}
use Rattle.schema.specs.laws.Columns.{default_place}
use Rattle.schema.specs.declared.table.Row.{Row}
use Rattle.edition.specs.declared.Edition.{Edition}
use Rattle.read_text_line.specs.ContentLine.{ContentLine}
use Rattle.read_text_line.specs.Decoded.{decoded_line, read_line}
use Rattle.read_text_line.specs.laws.Params.{name_chars}
use Rattle.read_text_line.specs.Line.{LineAt}
use Rattle.read_text_line.specs.declared.LineCursors.{LineCursors}
use Rattle.text.specs.Values.{read_values}
use Rattle.text.specs.Statement.{property_of}
use Rattle.json_text.specs.Bytes.{value_separator}
use Rattle.json_text.specs.Write.{array_of}
use Rattle.jcal.specs.WriteJcal.{property_json}
use Rattle.write_jcal_property.specs.Shown.{typed_json}
use Rattle.write_jcal_property.specs.Property.{name_in, stated_json, parts_json}
use Rattle.read_text_parameters.specs.Stating.{StatedAt}
use Rattle.read_text_parameters.specs.laws.Stating.{stated_names, stated_none}

seam : (l : List ℕ) → 44 ∷ l ≡ ascii "," ⊕ l
unfolding ◌⊕◌
seam l = refl

regroup : (o c k a b w : List ℕ) → o ⊕ (a ⊕ c ⊕ b ⊕ c ⊕ w) ⊕ k ≡ (o ⊕ a ⊕ c) ⊕ (b ⊕ c ⊕ w) ⊕ k
regroup o c k a b w = simp append_regroup

-- an array by its first two elements, and what follows
array_parts : (a b t : List ℕ) (vs : List (List ℕ)) → array_of (a ∷ b ∷ t ∷ vs) ≡ (ascii "[" ⊕ a ⊕ ascii ",") ⊕ (b ⊕ ascii "," ⊕ joined_by value_separator (t ∷ vs)) ⊕ ascii "]"
unfolding joined_by each_after
array_parts a b t vs =
    let w : List ℕ = t ⊕ each_after value_separator vs in
    rw (seam w, seam (b ⊕ ascii "," ⊕ w)) (regroup (ascii "[") (ascii ",") (ascii "]") a b w)

module _ {m : ℕ} {s : List ℕ} {c : ℕ} {l : LineCursors} (y : cuts m ≡ true) (a : LineAt m s c (Some l)) where
  pub property_json_lem : (ed : Edition) (k : ℕ) → or_nothing (λ x. property_json (property_of (component_name k) x)) (read_line ed (rest m s c)) ≡ parts_json ed k m s l
  unfolding property_json property_of typed_json
  property_json_lem ed k =
      ap (λ (o : Option ContentLine). or_nothing (λ x. property_json (property_of (component_name k) x)) (option_map (decoded_line ed) o)) a.is
      ∙ rw (name_chars y a.parts.1.name, lower_any_case (run_of is_name_char (rest m s l.name))) (array_parts _ _ _ _)

-- ---- for the code

-- a line by the cursors of its name, its parameters and its value
abbrev cursors : ℕ → ℕ → ℕ → LineCursors
cursors c e v = record { name = c; parameters = e; value = v }

-- the values from v on, of the property w and the type of the number t
abbrev values_of : ℕ → ℕ → List ℕ → ℕ → List ℕ → ℕ → List ℕ
values_of k m s v w t = typed_json (read_or [] (read_values (component_name k) w (type_at t) (rest m s v)))

default_of : {row : Row} (w : List ℕ) → row ≡ row_at (place_of w property_names) → row.default ≡ type_place (default_type w)
default_of w h = ap (λ (x : Row). x.default) h ∙ default_place w

-- the values, by the row of the line's name and by the type that was found
module _ {ed : Edition} {d f : List ℕ} {at o : ℕ} (k : ℕ) {row : Row} {m : ℕ} {s : List ℕ} (c : ℕ) {e : ℕ} (v : ℕ) {r : Option ℕ}
    (h : row ≡ row_at (place_of (upper (name_in m s (cursors c e v))) property_names)) (a : StatedAt ed row.default m s e r) where
  put_typed : (t : ℕ) → r ≡ Some t → ((w : List ℕ) → row ≡ row_at (place_of w property_names) → Put d f at o (values_of k m s v w t)) → Put d f at o (stated_json ed k m s (cursors c e v))
  unfolding read_or
  put_typed t z w = let n : List ℕ = upper (name_in m s (cursors c e v)) in rw (stated_names a n (default_of n h) z).0 (w n h)

  put_untyped : r ≡ None → ((w : List ℕ) → row ≡ row_at (place_of w property_names) → Put d f at o (values_of k m s v w 10)) → Put d f at o (stated_json ed k m s (cursors c e v))
  unfolding read_or
  put_untyped z w = let n : List ℕ = upper (name_in m s (cursors c e v)) in rw (stated_none a n (default_of n h) z) (w n h)

  pub put_stated : {t : ℕ} → t ≡ unwrap_or r 10 → ((w : List ℕ) → row ≡ row_at (place_of w property_names) → Put d f at o (values_of k m s v w t)) → Put d f at o (stated_json ed k m s (cursors c e v))
  put_stated {t} z p = go r refl z
    where
      go : (x : Option ℕ) → r ≡ x → t ≡ unwrap_or x 10 → Put d f at o (stated_json ed k m s (cursors c e v))
      go None i j = put_untyped i (subst (λ (u : ℕ). (w : List ℕ) → row ≡ row_at (place_of w property_names) → Put d f at o (values_of k m s v w u)) j p)
      go (Some u) i j = put_typed u i (subst (λ (u : ℕ). (w : List ℕ) → row ≡ row_at (place_of w property_names) → Put d f at o (values_of k m s v w u)) j p)
