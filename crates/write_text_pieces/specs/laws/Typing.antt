-- Laws of what specs/Typing.antt defines.
--     value_at_lem    it is what the names have
--     number_of, default_of    a row has the number and the default of its property
--     with_value_lem  VALUE and the other parameters, written
--     type_unnamed   a type that has no name of its own
use Rattle.std.specs.Prelude.{◌≡◌, refl, Bool, ℕ, ◌*◌, ◌^◌, ◌≤◌, ◌<◌, eqb, length}
use Rattle.std.proofs.Math.Path.{sym, ap}
use Rattle.std.proofs.Common.{subst, ◌∙◌, eq-eqb, ne_eqb}
use Rattle.std.proofs.Math.Bool.{true, false}
use mathlib.Core.List.{List, [], ◌∷◌, map}
use Rattle.std.proofs.Math.ListN.{get_or-eq_default}
use Rattle.octets.specs.Ascii.{ascii}
use Rattle.octets.specs.Pick.{pick}
use Rattle.octets.specs.Append.{◌⊕◌, joined}
use Rattle.octets.specs.laws.Append.{append_empty, append_none}
use Rattle.octets.specs.Words.{joined_by, each_after}
use Rattle.calendar.specs.Calendar.{ValueType, UNKNOWN}
use Rattle.sink.specs.Sink.{Put}
use Rattle.sink.specs.laws.Sink.{put_none, put_yes, put_no, ◌▷◌}
use Rattle.names.specs.Table.{place_of}
use Rattle.schema.specs.Types.{type_name, value_types, type_place, same_type}
use Rattle.schema.specs.Properties.{property_names, default_type}
use Rattle.schema.specs.Numbers.{type_at}
use Rattle.schema.specs.Coded.{row_at}
use Rattle.schema.specs.laws.Places.{type_back}
use Rattle.schema.specs.laws.Columns.{number_place, default_place}
use Rattle.schema.specs.declared.table.Row.{Row}
use Rattle.read_text_line.specs.ContentLine.{RawParameter}
use Rattle.read_text_line.specs.Write.{write_param_value, write_parameter}
use Rattle.read_text_line.specs.Decoded.{encoded_parameter}
use Rattle.edition.specs.Edition.{encode}
use Rattle.edition.specs.declared.Edition.{Edition}
use Rattle.text.proofs.laws.Carets.{type_encoded}
use Rattle.text.specs.WriteText.{value_parameter, with_value}
use Rattle.write_text_pieces.specs.Typing.{value_at}

abbrev pub value_of : List ℕ → ValueType → List ℕ
value_of w t = pick (same_type t (default_type w)) [] (ascii ";VALUE=" ⊕ type_name t)

-- ---- by numbers

same_at : (w : List ℕ) {d : ℕ} (t : ℕ) → d ≡ type_place (default_type w) → t ≤ 14 → eqb t d ≡ same_type (type_at t) (default_type w)
unfolding same_type
same_at w t e h = ap (eqb t) e ∙ ap (λ (k : ℕ). eqb k (type_place (default_type w))) (sym (type_back t h))

pub value_at_lem : (w : List ℕ) {d : ℕ} (t : ℕ) → d ≡ type_place (default_type w) → t ≤ 14 → value_at d t ≡ value_of w (type_at t)
value_at_lem w t e h = ap (λ (b : Bool). pick b [] (ascii ";VALUE=" ⊕ type_name (type_at t))) (same_at w t e h)

-- ---- a type that has no name of its own

pub type_unnamed : {d e : List ℕ} {o r : ℕ} (t : ℕ) → 14 ≤ t → Put d e o r (ascii "UNKNOWN") → Put d e o r (type_name (type_at t))
type_unnamed {d} {e} {o} {r} t h w = subst (Put d e o r) (ap type_name (sym (get_or-eq_default value_types UNKNOWN h))) w

-- ---- VALUE

module _ {x : List ℕ} (d t : ℕ) where
  pub value_default : (o : ℕ) → t ≡ d → length x * 1 < 2 ^ 63 → Put x x o o (value_at d t)
  value_default o h l = put_yes _ _ _ (eq-eqb t _ h) (put_none x o l)

  pub value_other : {y z : List ℕ} {o a r : ℕ} → (t ≡ d → ⊥) → Put x y o a (ascii ";VALUE=") → Put y z a r (type_name (type_at t)) → Put x z o r (value_at d t)
  value_other h u v = put_no _ _ _ (ne_eqb t _ h) (u ▷ v)

-- ---- by the row of a property

module _ {row : Row} where
  pub number_of : (w : List ℕ) → row ≡ row_at (place_of w property_names) → row.number ≡ place_of w property_names
  number_of w e = ap (λ (r : Row). r.number) e ∙ number_place w

  pub default_of : (w : List ℕ) → row ≡ row_at (place_of w property_names) → row.default ≡ type_place (default_type w)
  default_of w e = ap (λ (r : Row). r.default) e ∙ default_place w

-- ---- with the other parameters

module _ (ed : Edition) where
  value_written : (t : ValueType) → write_parameter (encoded_parameter ed (value_parameter t)) ≡ ascii ";VALUE=" ⊕ type_name t
  unfolding write_parameter write_param_value joined_by each_after pick ◌⊕◌
  value_written t = ap (λ (l : List ℕ). ascii ";VALUE=" ⊕ l) (append_none (encode ed (type_name t)) ∙ type_encoded ed t)

  pub with_value_lem : (w : List ℕ) (t : ValueType) (ps : List RawParameter) → joined (map write_parameter (map (encoded_parameter ed) (with_value w t ps))) ≡ value_of w t ⊕ joined (map write_parameter (map (encoded_parameter ed) ps))
  unfolding with_value pick joined
  with_value_lem w t ps = go (same_type t (default_type w))
    where
      go : (b : Bool) → joined (map write_parameter (map (encoded_parameter ed) (pick b ps (value_parameter t ∷ ps)))) ≡ pick b [] (ascii ";VALUE=" ⊕ type_name t) ⊕ joined (map write_parameter (map (encoded_parameter ed) ps))
      go true = sym (append_empty _)
      go false = ap (λ (l : List ℕ). l ⊕ joined (map write_parameter (map (encoded_parameter ed) ps))) (value_written t)
