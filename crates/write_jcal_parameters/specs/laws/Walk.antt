-- Loops that write one item of a list after another.
--     value_written, values_over, values_fault     over the values of a parameter
--     next_there, next_over, next_fault            whether another value follows
--     value_passed, param_written, params_over, params_fault     over the parameters of a line
use Rattle.std.specs.Prelude.{◌≡◌, refl, Bool, true, false, not, List, [], ◌∷◌, map, ℕ, take, Option, None, Some, Result, Ok, Err}
use Rattle.std.proofs.Common.{sym, ◌∙◌, subst, ap}
use Rattle.octets.specs.Ascii.{ascii}
use Rattle.octets.specs.Pick.{pick}
use Rattle.octets.specs.Append.{◌⊕◌}
use Rattle.octets.specs.Class.{upper}
use Rattle.octets.specs.Words.{same, is_empty, each_after, joined_by}
use Rattle.sink.specs.Sink.{Put}
use Rattle.source.specs.Source.{rest, cuts}
use Rattle.schema.specs.Parameters.{ParameterRow}
use Rattle.edition.specs.Edition.{decode}
use Rattle.edition.specs.declared.Edition.{Edition}
use Rattle.read_text_line.specs.ContentLine.{RawParameter, next_value, next_param}
use Rattle.read_text_line.specs.Items.{items}
use Rattle.read_text_line.specs.Decoded.{decoded_parameter, params_in}
use Rattle.read_text_line.specs.Cursor.{params_at}
use Rattle.read_text_line.specs.Values.{ValueAt}
use Rattle.read_text_line.specs.laws.Values.{value_chars, value_more, value_over, value_fault}
use Rattle.read_text_line.specs.Params.{ParamOf}
use Rattle.read_text_line.specs.laws.Params.{name_chars, param_more, param_name, param_over, param_fault}
use Rattle.read_text_line.specs.declared.Malformed.{Malformed}
use Rattle.read_text_line.specs.declared.ValueCursors.{ValueCursors}
use Rattle.read_text_line.specs.declared.ParameterCursors.{ParameterCursors}
use Rattle.text.specs.Parameters.{is_value_parameter, own_parameters}
use Rattle.read_text_parameters.specs.Cutting.{param_cut, param_read}
use Rattle.json_text.specs.Bytes.{value_separator}
use Rattle.write_json.specs.Separated.{separator}
use Rattle.write_json.specs.laws.Separated.{Listing, listing_more, listing_same, listing_end, put_first, put_after, comma_before}
use Rattle.write_jcal_parameters.specs.Shown.{value_shown, chars_in, shown, members_shown}

-- ---- the values that follow the first

module _ (ed : Edition) (p : ParameterRow) {d₀ : List ℕ} {at₀ : ℕ} {all : List (List ℕ)} {d : List ℕ} {at n : ℕ} {s : List ℕ} {c : ℕ} {r : Result (Option ValueCursors) (Malformed ValueCursors)}
    (y : cuts n ≡ true) (t : Listing true all d₀ at₀ d at true (map (chars_in ed p) (items next_value (rest n s c)))) (v : ValueAt next_value n s c r) where
  pub value_written : {u : ValueCursors} {e f : List ℕ} {a m : ℕ} → r ≡ Ok (Some u) → Put d e at a (ascii ",") → Put e f a m (value_shown p (decode ed (rest n (take u.to s) u.from))) →
      Listing true all d₀ at₀ f m true (map (chars_in ed p) (items next_value (rest n s u.next)))
  value_written {u} {e} {f} {a} {m} h x w =
      listing_more t _ _ (ap (map (chars_in ed p)) (value_more v h))
      (comma_before _ x (subst (λ (l : List ℕ). Put e f a m (value_shown p (decode ed l))) (value_chars y v h) w))

  pub values_over : r ≡ Ok None → Put d₀ d at₀ at (each_after value_separator all)
  values_over h = put_after all (listing_end t (ap (map (chars_in ed p)) (value_over v h)))

  pub values_fault : {x : Malformed ValueCursors} → r ≡ Err x → Put d₀ d at₀ at (each_after value_separator all)
  values_fault h = put_after all (listing_end t (ap (map (chars_in ed p)) (value_fault v h)))

-- ---- whether another follows

module _ {n : ℕ} {s : List ℕ} {c : ℕ} {r : Result (Option ValueCursors) (Malformed ValueCursors)} (v : ValueAt next_value n s c r) where
  pub next_there : {u : ValueCursors} → r ≡ Ok (Some u) → true ≡ not (is_empty (items next_value (rest n s c)))
  next_there h = rw (value_more v h)

  pub next_over : r ≡ Ok None → false ≡ not (is_empty (items next_value (rest n s c)))
  next_over h = rw (value_over v h)

  pub next_fault : {x : Malformed ValueCursors} → r ≡ Err x → false ≡ not (is_empty (items next_value (rest n s c)))
  next_fault h = rw (value_fault v h)

-- ---- the parameters of a line

module _ {n : ℕ} {s : List ℕ} {c : ℕ} {r : Result (Option ParameterCursors) (Malformed ParameterCursors)} (y : cuts n ≡ true) (a : ParamOf next_param n s c r) {p : ParameterCursors} (h : r ≡ Ok (Some p)) where
  cut_more : params_at n s c ≡ param_cut n s p.name p.end p.first ∷ params_at n s p.next
  cut_more = param_more a h ∙ rw (name_chars y (param_name a h))

members_value : (r : RawParameter) (rs : List RawParameter) → is_value_parameter r ≡ true → members_shown (r ∷ rs) ≡ members_shown rs
unfolding own_parameters pick
members_value r rs h = rw h

members_own : (r : RawParameter) (rs : List RawParameter) → is_value_parameter r ≡ false → members_shown (r ∷ rs) ≡ shown r ∷ members_shown rs
unfolding own_parameters pick
members_own r rs h = rw h

members_none : members_shown [] ≡ []
unfolding own_parameters
members_none = refl

module _ (ed : Edition) {d₀ : List ℕ} {at₀ : ℕ} {all : List (List ℕ)} {d : List ℕ} {at : ℕ} {started : Bool} {n : ℕ} {s : List ℕ} {c : ℕ} {r : Result (Option ParameterCursors) (Malformed ParameterCursors)}
    (y : cuts n ≡ true) (t : Listing false all d₀ at₀ d at started (members_shown (params_in ed n s c))) (a : ParamOf next_param n s c r) where
  module _ {b : Bool} {p : ParameterCursors} (h : r ≡ Ok (Some p)) (q : b ≡ same (upper (rest n (take p.end s) p.name)) (ascii "VALUE")) where
    pub value_passed : b ≡ true → Listing false all d₀ at₀ d at started (members_shown (params_in ed n s p.next))
    value_passed z = listing_same t _ (ap (λ (l : List RawParameter). members_shown (map (decoded_parameter ed) l)) (cut_more y a h) ∙ members_value _ _ (sym q ∙ z))

    pub param_written : {e : List ℕ} {m : ℕ} → b ≡ false → Put d e at m (separator started ⊕ shown (param_read ed n s p.name p.end p.first)) →
        Listing false all d₀ at₀ e m true (members_shown (params_in ed n s p.next))
    param_written z w = listing_more t _ _ (ap (λ (l : List RawParameter). members_shown (map (decoded_parameter ed) l)) (cut_more y a h) ∙ members_own _ _ (sym q ∙ z)) w

  pub params_over : r ≡ Ok None → Put d₀ d at₀ at (joined_by value_separator all)
  params_over h = put_first all (listing_end t (ap (λ (l : List RawParameter). members_shown (map (decoded_parameter ed) l)) (param_over a h) ∙ members_none))

  pub params_fault : {x : Malformed ParameterCursors} → r ≡ Err x → Put d₀ d at₀ at (joined_by value_separator all)
  params_fault h = put_first all (listing_end t (ap (λ (l : List RawParameter). members_shown (map (decoded_parameter ed) l)) (param_fault a h) ∙ members_none))
