-- Loops that write one item of a list after another.
--     Writing f d₀ at₀ all d at left     f of each of `all` is to be written, f of each of `left` is still to be written
--     writing_start, writing_more, writing_end     its laws
--     value_written, values_over, values_fault     over the values of a parameter
--     param_written, params_over, params_fault     over the parameters of a line
--     only_more, only_stop, only_over, only_fault  over the parameters of a line, as long as they are VALUE;   own_none: in any edition
use Rattle.std.specs.Prelude.{◌≡◌, refl, Bool, true, false, List, [], ◌∷◌, map, ℕ, ◌*◌, ◌^◌, ◌<◌, length, take, Option, None, Some, Result, Ok, Err}
use Rattle.std.proofs.Math.Path.{sym}
use Rattle.std.proofs.Common.{◌∙◌, subst, ap}
use Rattle.octets.specs.Ascii.{ascii}
use Rattle.octets.specs.Pick.{pick}
use Rattle.octets.specs.Append.{◌⊕◌, joined}
use Rattle.octets.specs.Class.{upper}
use Rattle.octets.specs.Words.{same, is_empty}
use Rattle.sink.specs.Sink.{Put, Todo}
use Rattle.sink.specs.laws.Sink.{put_length, todo_all, todo_step, todo_done}
use Rattle.source.specs.Source.{rest, cuts}
use Rattle.schema.specs.Parameters.{ParameterRow}
use Rattle.read_text_line.specs.ContentLine.{ParamValue, RawParameter, next_value, next_param}
use Rattle.read_text_line.specs.Items.{items}
use Rattle.edition.specs.Edition.{decode}
use Rattle.edition.specs.declared.Edition.{Edition}
use Rattle.read_text_line.specs.Decoded.{decoded_parameter, params_in}
use Rattle.read_text_line.specs.Cursor.{params_at}
use Rattle.read_text_line.specs.Values.{ValueAt}
use Rattle.read_text_line.specs.laws.Values.{value_chars, value_more, value_over, value_fault}
use Rattle.read_text_line.specs.Params.{ParamOf}
use Rattle.read_text_line.specs.laws.Params.{name_chars, param_more, param_name, param_over, param_fault}
use Rattle.read_text_line.specs.declared.Malformed.{Malformed}
use Rattle.read_text_line.specs.declared.ValueCursors.{ValueCursors}
use Rattle.read_text_line.specs.declared.ParameterCursors.{ParameterCursors}
use Rattle.text.specs.Parameters.{own_parameters}
use Rattle.read_text_parameters.specs.Cutting.{param_cut, param_read}
use Rattle.write_xml_parameters.specs.Shown.{value_shown, chars_in, own_shown}

pub record Writing {A : Type 0} (f : A → List ℕ) (d₀ : List ℕ) (at₀ : ℕ) (all : List A) (d : List ℕ) (at : ℕ) (left : List A) : Type 0 where
  pub todo : Todo d₀ at₀ (joined (map f all)) d at (joined (map f left))
  pub kept : length d ≡ length d₀

pub writing_start : {A : Type 0} (f : A → List ℕ) (d : List ℕ) (at : ℕ) (l : List A) → length d * 1 < 2 ^ 63 → Writing f d at l d at l
writing_start f d at l z = record { todo = todo_all d at (joined (map f l)) z; kept = refl }

module _ {A : Type 0} {f : A → List ℕ} {d₀ : List ℕ} {at₀ : ℕ} {all : List A} {d : List ℕ} {at : ℕ} {left : List A} (t : Writing f d₀ at₀ all d at left) where
  pub writing_more : {e : List ℕ} {m : ℕ} (a : A) (l : List A) → left ≡ a ∷ l → Put d e at m (f a) → Writing f d₀ at₀ all e m l
  unfolding joined ◌⊕◌
  writing_more a l q p = record { todo = todo_step t.todo p (rw q); kept = put_length p ∙ t.kept }

  pub writing_end : left ≡ [] → Put d₀ d at₀ at (joined (map f all))
  unfolding joined
  writing_end q = todo_done t.todo (rw q)

-- ---- the values that follow the first

module _ (ed : Edition) (p : ParameterRow) {d₀ : List ℕ} {at₀ : ℕ} {all : List ParamValue} {d : List ℕ} {at n : ℕ} {s : List ℕ} {c : ℕ} {r : Result (Option ValueCursors) (Malformed ValueCursors)}
    (y : cuts n ≡ true) (t : Writing (chars_in ed p) d₀ at₀ all d at (items next_value (rest n s c))) (v : ValueAt next_value n s c r) where
  pub value_written : {a : ValueCursors} {e : List ℕ} {m : ℕ} → r ≡ Ok (Some a) → Put d e at m (value_shown p (decode ed (rest n (take a.to s) a.from))) →
      Writing (chars_in ed p) d₀ at₀ all e m (items next_value (rest n s a.next))
  value_written {a} {e} {m} h w = writing_more t _ _ (value_more v h) (subst (λ (x : List ℕ). Put d e at m (value_shown p (decode ed x))) (value_chars y v h) w)

  pub values_over : r ≡ Ok None → Put d₀ d at₀ at (joined (map (chars_in ed p) all))
  values_over h = writing_end t (value_over v h)

  pub values_fault : {x : Malformed ValueCursors} → r ≡ Err x → Put d₀ d at₀ at (joined (map (chars_in ed p) all))
  values_fault h = writing_end t (value_fault v h)

-- ---- the parameters of a line

module _ {n : ℕ} {s : List ℕ} {c : ℕ} {r : Result (Option ParameterCursors) (Malformed ParameterCursors)} (y : cuts n ≡ true) (a : ParamOf next_param n s c r) {p : ParameterCursors} (h : r ≡ Ok (Some p)) where
  pub cut_more : params_at n s c ≡ param_cut n s p.name p.end p.first ∷ params_at n s p.next
  cut_more = param_more a h ∙ rw (name_chars y (param_name a h))

module _ (ed : Edition) {d₀ : List ℕ} {at₀ : ℕ} {all : List RawParameter} {d : List ℕ} {at n : ℕ} {s : List ℕ} {c : ℕ} {r : Result (Option ParameterCursors) (Malformed ParameterCursors)}
    (y : cuts n ≡ true) (t : Writing own_shown d₀ at₀ all d at (params_in ed n s c)) (a : ParamOf next_param n s c r) where
  pub param_written : {p : ParameterCursors} {e : List ℕ} {m : ℕ} → r ≡ Ok (Some p) → Put d e at m (own_shown (param_read ed n s p.name p.end p.first)) →
      Writing own_shown d₀ at₀ all e m (params_in ed n s p.next)
  param_written h w = writing_more t _ _ (ap (map (decoded_parameter ed)) (cut_more y a h)) w

  pub params_over : r ≡ Ok None → Put d₀ d at₀ at (joined (map own_shown all))
  params_over h = writing_end t (ap (map (decoded_parameter ed)) (param_over a h))

  pub params_fault : {x : Malformed ParameterCursors} → r ≡ Err x → Put d₀ d at₀ at (joined (map own_shown all))
  params_fault h = writing_end t (ap (map (decoded_parameter ed)) (param_fault a h))

-- ---- whether there is one besides VALUE, which is the same in every edition

pub own_none : (ed : Edition) (rs : List RawParameter) → is_empty (own_parameters (map (decoded_parameter ed) rs)) ≡ is_empty (own_parameters rs)
unfolding own_parameters pick
own_none ed [] = refl
own_none ed (r ∷ rs) = go (same (upper r.name) (ascii "VALUE")) (own_none ed rs)
  where
    go : (b : Bool) → is_empty (own_parameters (map (decoded_parameter ed) rs)) ≡ is_empty (own_parameters rs) →
        is_empty (pick b (own_parameters (map (decoded_parameter ed) rs)) (decoded_parameter ed r ∷ own_parameters (map (decoded_parameter ed) rs))) ≡ is_empty (pick b (own_parameters rs) (r ∷ own_parameters rs))
    go true h = h
    go false h = refl

module _ {n : ℕ} {s : List ℕ} {c : ℕ} {v : Bool} {r : Result (Option ParameterCursors) (Malformed ParameterCursors)} (y : cuts n ≡ true) (e : v ≡ is_empty (own_parameters (params_at n s c))) (a : ParamOf next_param n s c r) where
  module _ {t : Bool} {p : ParameterCursors} (h : r ≡ Ok (Some p)) (q : t ≡ same (upper (rest n (take p.end s) p.name)) (ascii "VALUE")) where
    pub only_more : t ≡ true → v ≡ is_empty (own_parameters (params_at n s p.next))
    unfolding own_parameters pick
    only_more z = e ∙ rw (cut_more y a h, ← q, z)

    pub only_stop : t ≡ false → false ≡ v
    unfolding own_parameters pick
    only_stop z = sym (e ∙ rw (cut_more y a h, ← q, z))

  pub only_over : r ≡ Ok None → true ≡ v
  unfolding own_parameters
  only_over h = sym (e ∙ rw (param_over a h))

  pub only_fault : {x : Malformed ParameterCursors} → r ≡ Err x → true ≡ v
  unfolding own_parameters
  only_fault h = sym (e ∙ rw (param_fault a h))
