-- Laws of what specs/Cutting.antt defines.
--     params_step, params_over, params_fault      a walk over parameters: what F says of those from a cursor on, by the one that is there
--     read_step, read_over, read_fault            the same as an edition reads them
--     values_first, values_none, values_step ..   the same of the values of a parameter
--     last_more, last_over, last_fault            whether a value follows
use Rattle.std.specs.Prelude.{◌≡◌, refl, true, false, List, [], ◌∷◌, map, ℕ, min, length, take, Option, None, Some, Result, Ok, Err}
use Rattle.std.proofs.Common.{sym, ap, ◌∙◌}
use Rattle.octets.specs.Words.{is_empty}
use Rattle.octets.specs.laws.Scan.{take_least}
use Rattle.source.specs.Source.{rest, cuts}
use Rattle.read_text_line.specs.ContentLine.{ParamValue, RawParameter, param_value, next_value, next_param}
use Rattle.read_text_line.specs.Items.{items}
use Rattle.edition.specs.declared.Edition.{Edition}
use Rattle.read_text_line.specs.Decoded.{decoded_parameter, params_in}
use Rattle.read_text_line.specs.Cursor.{values_of, values_at, params_at}
use Rattle.read_text_line.specs.laws.Repeating.{item_bad}
use Rattle.read_text_line.specs.Values.{ValueAt}
use Rattle.read_text_line.specs.laws.Values.{value_first, value_more, value_over, value_fault, value_chars}
use Rattle.read_text_line.specs.Params.{ParamOf}
use Rattle.read_text_line.specs.laws.Params.{name_chars, param_more, param_name, param_over, param_fault}
use Rattle.read_text_line.specs.declared.Malformed.{Malformed}
use Rattle.read_text_line.specs.declared.ValueCursors.{ValueCursors}
use Rattle.read_text_line.specs.declared.ParameterCursors.{ParameterCursors}
use Rattle.read_text_parameters.specs.Cutting.{param_cut, value_cut, param_read}

pub cut_at : {A : Type 0} (f : List ℕ → A) {r : A} {e : ℕ} (m : ℕ) (s : List ℕ) (c to : ℕ) → e ≡ min to (length s) → r ≡ f (rest m (take e s) c) → r ≡ f (rest m (take to s) c)
cut_at f m s c to h p = p ∙ ap (λ (l : List ℕ). f (rest m l c)) (rw h (take_least s to))

-- ---- parameters

module _ {m : ℕ} (y : cuts m ≡ true) {A : Type 0} (F : List RawParameter → A) {v : A} {s : List ℕ} {c : ℕ} {r : Result (Option ParameterCursors) (Malformed ParameterCursors)} (e : v ≡ F (params_at m s c)) (a : ParamOf next_param m s c r) where
  pub params_step : {pc : ParameterCursors} → r ≡ Ok (Some pc) → v ≡ F (param_cut m s pc.name pc.end pc.first ∷ params_at m s pc.next)
  params_step h = e ∙ ap F (param_more a h) ∙ rw (name_chars y (param_name a h))

  pub params_over : r ≡ Ok None → v ≡ F []
  params_over h = e ∙ ap F (param_over a h)

  pub params_fault : {x : Malformed ParameterCursors} → r ≡ Err x → v ≡ F []
  params_fault h = e ∙ ap F (param_fault a h)

-- the same as an edition reads them
module _ (ed : Edition) {m : ℕ} (y : cuts m ≡ true) {A : Type 0} (F : List RawParameter → A) {v : A} {s : List ℕ} {c : ℕ} {r : Result (Option ParameterCursors) (Malformed ParameterCursors)} (e : v ≡ F (params_in ed m s c)) (a : ParamOf next_param m s c r) where
  pub read_step : {pc : ParameterCursors} → r ≡ Ok (Some pc) → v ≡ F (param_read ed m s pc.name pc.end pc.first ∷ params_in ed m s pc.next)
  read_step h = params_step y (λ (l : List RawParameter). F (map (decoded_parameter ed) l)) e a h

  pub read_over : r ≡ Ok None → v ≡ F []
  read_over h = params_over y (λ (l : List RawParameter). F (map (decoded_parameter ed) l)) e a h

  pub read_fault : {x : Malformed ParameterCursors} → r ≡ Err x → v ≡ F []
  read_fault h = params_fault y (λ (l : List RawParameter). F (map (decoded_parameter ed) l)) e a h

-- ---- values

module _ {m : ℕ} {s : List ℕ} {c : ℕ} {r : Result (Option ValueCursors) (Malformed ValueCursors)} (y : cuts m ≡ true) (v : ValueAt param_value m s c r) where
  pub values_first : {vc : ValueCursors} → r ≡ Ok (Some vc) → values_at m s c ≡ value_cut m s vc.quoted vc.from vc.to ∷ items next_value (rest m s vc.next)
  values_first h = value_first v h ∙ rw (value_chars y v h)

  pub values_none : {z : Malformed ValueCursors} → r ≡ Err z → values_at m s c ≡ []
  unfolding values_of
  values_none h = rw (item_bad v.item h)

module _ {m : ℕ} (y : cuts m ≡ true) {A : Type 0} (F : List ParamValue → A) {x : A} {s : List ℕ} {c : ℕ} {r : Result (Option ValueCursors) (Malformed ValueCursors)} (e : x ≡ F (items next_value (rest m s c))) (v : ValueAt next_value m s c r) where
  pub values_step : {vc : ValueCursors} → r ≡ Ok (Some vc) → x ≡ F (value_cut m s vc.quoted vc.from vc.to ∷ items next_value (rest m s vc.next))
  values_step h = e ∙ ap F (value_more v h) ∙ rw (value_chars y v h)

  pub values_over : r ≡ Ok None → x ≡ F []
  values_over h = e ∙ ap F (value_over v h)

  pub values_fault : {z : Malformed ValueCursors} → r ≡ Err z → x ≡ F []
  values_fault h = e ∙ ap F (value_fault v h)

-- whether a value follows
module _ {m : ℕ} {s : List ℕ} {c : ℕ} {r : Result (Option ValueCursors) (Malformed ValueCursors)} (y : cuts m ≡ true) (v : ValueAt next_value m s c r) where
  pub last_more : {vc : ValueCursors} → r ≡ Ok (Some vc) → false ≡ is_empty (items next_value (rest m s c))
  last_more h = sym (values_step y is_empty refl v h)

  pub last_fault : {z : Malformed ValueCursors} → r ≡ Err z → true ≡ is_empty (items next_value (rest m s c))
  last_fault h = sym (values_fault y is_empty refl v h)

  pub last_over : r ≡ Ok None → true ≡ is_empty (items next_value (rest m s c))
  last_over h = sym (values_over y is_empty refl v h)
