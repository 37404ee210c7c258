-- Laws of what specs/Stating.antt defines.
--     Stating        the invariant of the walk over them;   stated_..: its laws
--     stated_same, stated_names, stated-known   what they state of a name whose default has the number
use Rattle.std.specs.Prelude.{◌≡◌, Bool, length, get_or, take, Option, None, Some, option_map, Result, Ok, Err}
use Rattle.std.proofs.Math.Path.{refl, ap}
use Rattle.std.proofs.Common.{sym, ◌∙◌, subst, arith, not-suc-le-zero, le_of_suc-le-suc}
use Rattle.std.proofs.Math.Bool.{true, false}
use mathlib.Core.List.{List, [], ◌∷◌, map}
use Prim.Native.Nat.{ℕ, zero, suc, ◌≤◌, ◌<◌}
use Rattle.octets.specs.Ascii.{ascii}
use Rattle.octets.specs.Pick.{pick}
use Rattle.octets.specs.Class.{upper}
use Rattle.octets.specs.Words.{same, is_empty}
use Rattle.octets.specs.laws.Reading.{none-some}
use Rattle.calendar.specs.Calendar.{ValueType, UNKNOWN}
use Rattle.edition.specs.declared.Edition.{Edition}
use Rattle.edition.specs.Edition.{decode}
use Rattle.source.specs.Source.{rest, cuts}
use Rattle.names.specs.Table.{place_of, nth}
use Rattle.schema.specs.Types.{value_types, type_named, type_place}
use Rattle.schema.specs.laws.Types.{place_type}
use Rattle.schema.specs.Properties.{default_type}
use Rattle.schema.specs.Numbers.{type_names, type_at}
use Rattle.schema.specs.laws.Numbers.{type_place_lem}
use Rattle.schema.specs.laws.Places.{type_back, type_known}
use Rattle.read_text_line.specs.ContentLine.{RawParameter, param_value, next_value, next_param}
use Rattle.read_text_line.specs.Items.{items}
use Rattle.read_text_line.specs.Decoded.{decoded_value, values_in, params_in}
use Rattle.read_text_line.specs.laws.Decoded.{map_empty}
use Rattle.read_text_line.specs.Values.{ValueAt}
use Rattle.read_text_line.specs.Params.{ParamOf}
use Rattle.read_text_line.specs.declared.Malformed.{Malformed}
use Rattle.read_text_line.specs.declared.ValueCursors.{ValueCursors}
use Rattle.read_text_line.specs.declared.ParameterCursors.{ParameterCursors}
use Rattle.text.specs.Parameters.{is_value_parameter, type_in, stated_type}
use Rattle.read_text_parameters.specs.laws.Cutting.{read_step, read_over, read_fault, values_first, values_none}
use Rattle.read_text_parameters.specs.Stating.{TypeOf, stated_at, StatedAt}

module _ {A : Type 0} (d : A) where
  nth-some : (l : List A) (n : ℕ) → n < length l → nth l n ≡ Some (get_or l n d)
  unfolding nth
  nth-some [] n h = absurd (not-suc-le-zero h)
  nth-some (a ∷ l) zero h = refl
  nth-some (a ∷ l) (suc n) h = nth-some l n (le_of_suc-le-suc h)

  nth-none : (l : List A) (n : ℕ) → length l ≤ n → nth l n ≡ None
  unfolding nth
  nth-none [] n h = refl
  nth-none (a ∷ l) zero h = absurd (not-suc-le-zero h)
  nth-none (a ∷ l) (suc n) h = nth-none l n (le_of_suc-le-suc h)

abbrev numbered : Option ValueType → Option ℕ
numbered o = option_map type_place o

module _ (w : List ℕ) {t : ℕ} (e : t ≡ place_of w type_names) where
  pub type_some : t < 14 → TypeOf (type_named w) (Some t)
  type_some h = record { is = ap numbered (type_place_lem w ∙ ap (nth value_types) (sym e) ∙ nth-some UNKNOWN value_types t h) ∙ ap (λ (n : ℕ). Some n) (type_back t (omega arith)) }

  pub type_none : 14 ≤ t → TypeOf (type_named w) None
  type_none h = record { is = ap numbered (type_place_lem w ∙ ap (nth value_types) (sym e) ∙ nth-none UNKNOWN value_types t h) }

-- ---- VALUE's one value, in the encoding u of a value

module _ (ed : Edition) {m : ℕ} {s : List ℕ} {c : ℕ} {r : Result (Option ValueCursors) (Malformed ValueCursors)} (y : cuts m ≡ true) (v : ValueAt param_value m s c r) where
  module _ {b : Bool} {vc : ValueCursors} (h : r ≡ Ok (Some vc)) (e : b ≡ is_empty (items next_value (rest m s vc.next))) where
    several : is_empty (map (decoded_value ed) (items next_value (rest m s vc.next))) ≡ b
    several = map_empty (decoded_value ed) (items next_value (rest m s vc.next)) ∙ sym e

    pub value_single : {t : Option ℕ} → b ≡ true → TypeOf (type_named (upper (decode ed (rest m (take vc.to s) vc.from)))) t → TypeOf (type_in (values_in ed m s c)) t
    unfolding pick
    value_single k p = rw (values_first y v h, several, k) p

    pub value_several : b ≡ false → TypeOf (type_in (values_in ed m s c)) None
    unfolding pick
    value_several k = record { is = rw (values_first y v h, several, k) }

  pub value_none : {x : Malformed ValueCursors} → r ≡ Err x → TypeOf (type_in (values_in ed m s c)) None
  value_none h = record { is = rw (values_none y v h) }

-- ---- the parameters of a line

module _ (d : ℕ) (w : List ℕ) (h : d ≡ type_place (default_type w)) where
  pub stated_same : (rs : List RawParameter) → stated_at d rs ≡ option_map type_place (stated_type w rs)
  unfolding stated_at stated_type pick
  stated_same [] = ap (λ (n : ℕ). Some n) h
  stated_same (r ∷ rs) = ap (λ (o : Option ℕ). pick (is_value_parameter r) (option_map type_place (type_in r.values)) o) (stated_same rs) ∙ go (is_value_parameter r)
    where
      go : (b : Bool) → pick b (option_map type_place (type_in r.values)) (option_map type_place (stated_type w rs)) ≡ option_map type_place (pick b (type_in r.values) (stated_type w rs))
      go true = refl
      go false = refl

-- by its number
type_of : (o : Option ValueType) {t : ℕ} → option_map type_place o ≡ Some t → (o ≡ Some (type_at t)) × (t ≤ 14)
type_of None e = none-some e
type_of (Some u) {t} e = let z : type_place u ≡ t = cc in (rw (← z, place_type u), let l = type_known u in omega arith)

type_off : (o : Option ValueType) → option_map type_place o ≡ None → o ≡ None
type_off None e = refl
type_off (Some u) e = none-some (sym e)

module _ {ed : Edition} {d m : ℕ} {s : List ℕ} {e : ℕ} {r : Option ℕ} (a : StatedAt ed d m s e r) (w : List ℕ) (h : d ≡ type_place (default_type w)) where
  pub stated_names : {t : ℕ} → r ≡ Some t → (stated_type w (params_in ed m s e) ≡ Some (type_at t)) × (t ≤ 14)
  stated_names z = type_of (stated_type w (params_in ed m s e)) (sym (stated_same d w h (params_in ed m s e)) ∙ a.is ∙ z)

  pub stated_none : r ≡ None → stated_type w (params_in ed m s e) ≡ None
  stated_none z = type_off (stated_type w (params_in ed m s e)) (sym (stated_same d w h (params_in ed m s e)) ∙ a.is ∙ z)

-- VALUE is not among those before c
pub record Stating (ed : Edition) (d m : ℕ) (s : List ℕ) (e c : ℕ) : Type 0 where
  pub is : stated_at d (params_in ed m s e) ≡ stated_at d (params_in ed m s c)

pub stated_start : (ed : Edition) (d m : ℕ) (s : List ℕ) (e : ℕ) → Stating ed d m s e e
stated_start ed d m s e = record { is = refl }

module _ {ed : Edition} {d m : ℕ} {s : List ℕ} {e c : ℕ} {r : Result (Option ParameterCursors) (Malformed ParameterCursors)} (y : cuts m ≡ true) (i : Stating ed d m s e c) (a : ParamOf next_param m s c r) where
  module _ {b : Bool} {pc : ParameterCursors} (h : r ≡ Ok (Some pc)) (q : b ≡ same (upper (rest m (take pc.end s) pc.name)) (ascii "VALUE")) where
    pub stated_more : b ≡ false → Stating ed d m s e pc.next
    unfolding stated_at pick
    stated_more z = record { is = read_step ed y (stated_at d) i.is a h ∙ rw (← q, z) }

    pub stated_here : {t : Option ℕ} → b ≡ true → TypeOf (type_in (values_in ed m s pc.first)) t → StatedAt ed d m s e t
    unfolding stated_at pick
    stated_here z o = record { is = read_step ed y (stated_at d) i.is a h ∙ rw (← q, z) o.is }

  ended : stated_at d (params_in ed m s e) ≡ stated_at d [] → StatedAt ed d m s e (Some d)
  unfolding stated_at
  ended f = record { is = f }

  pub stated_over : r ≡ Ok None → StatedAt ed d m s e (Some d)
  stated_over h = ended (read_over ed y (stated_at d) i.is a h)

  pub stated_fault : {x : Malformed ParameterCursors} → r ≡ Err x → StatedAt ed d m s e (Some d)
  stated_fault h = ended (read_fault ed y (stated_at d) i.is a h)
