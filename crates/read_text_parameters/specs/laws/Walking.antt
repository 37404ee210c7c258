-- Laws of what specs/Walking.antt defines.
--     number_..        the number of a name
--     Walked           the invariant of the walk: what is noted of the parameters before `rest`
--     Stepping         the same through a cursor;   step_start, step_again, step_bad, step_more, step_over ..: its laws
use Rattle.std.proofs.Math.Path.{◌≡◌, refl, sym, ap}
use Rattle.std.proofs.Common.{subst, ◌∙◌, arith}
use Rattle.std.specs.Prelude.{Bool, ℕ, suc, ◌+◌, ◌^◌, ◌≤◌, ◌<◌, length, take, Option, None, Some, option_map, Result, Ok, Err}
use Rattle.std.proofs.Math.Bool.{true, false, not, cond}
use Rattle.std.proofs.lemmas.Bool.{false≢true}
use mathlib.Core.List.{List, [], ◌∷◌, map}
use Rattle.std.proofs.Math.Dec.{eqb, ltb}
use borrow.Author.Tests.{eq-eqb, ne_eqb, eqb-false, lt-ltb, le-ltb, ltb-false}
use Rattle.bits.specs.Masks.{has}
use Rattle.bits.specs.laws.Masks.{has_none}
use Rattle.octets.specs.Ascii.{ascii}
use Rattle.octets.specs.Pick.{pick, ◌and◌, ◌or◌}
use Rattle.octets.specs.laws.Pick.{or-false}
use Rattle.octets.specs.Class.{upper}
use Rattle.octets.specs.Words.{same, is_one_of}
use Rattle.octets.specs.laws.Words.{same_true, same_self, same_either}
use Rattle.octets.specs.Lists.{any_one}
use Rattle.octets.specs.Reading.{provided, is_read, read_or}
use Rattle.octets.specs.Computing.{octets_compute}
use Rattle.calendar.specs.Calendar.{ValueType}
use Rattle.names.specs.Table.{place_of}
use Rattle.names.specs.laws.Table.{place_within, one_of_place}
use Rattle.names.specs.laws.Places.{same_place}
use Rattle.schema.specs.Types.{type_place}
use Rattle.schema.specs.Parameters.{parameter_names}
use Rattle.schema.specs.Numbers.{parameter_at}
use Rattle.schema.specs.Columns.{permits_at}
use Rattle.schema.specs.declared.table.Row.{Row}
use Rattle.distinct.specs.Again.{first_again}
use Rattle.read_text_line.specs.ContentLine.{ParamValue, RawParameter}
use Rattle.text.specs.Parameters.{is_word, is_value_parameter, type_in}
use Rattle.text.specs.Faults.{is_encoding, is_sound, is_faulty, first_faulty, place_of_fault}
use Rattle.source.specs.Source.{cuts}
use Rattle.read_text_line.specs.ContentLine.{next_param}
use Rattle.edition.specs.declared.Edition.{Edition}
use Rattle.read_text_line.specs.Decoded.{decoded_parameter, values_in, params_in}
use Rattle.read_text_line.specs.Cursor.{params_at}
use Rattle.read_text_line.specs.Params.{ParamOf}
use Rattle.read_text_line.specs.laws.Params.{param_less}
use Rattle.read_text_line.specs.declared.Malformed.{Malformed}
use Rattle.read_text_line.specs.declared.ParameterCursors.{ParameterCursors}
use Rattle.read_text_parameters.specs.Cutting.{name_cut, param_read}
use Rattle.read_text_parameters.specs.laws.Cutting.{read_step, read_over, read_fault}
use Rattle.read_text_parameters.specs.Comparing.{names_of, onto}
use Rattle.read_text_parameters.specs.Readable.{is_read_by}
use Rattle.read_text_parameters.specs.laws.Readable.{parameter_read}
use Rattle.read_text_parameters.specs.Stating.{NumberOf, stated_at}
use Rattle.read_text_parameters.specs.laws.Before.{before_one}
use Rattle.read_text_parameters.specs.Walking.{number_of, comes_again, sought_by, type_for, fits_by, is_binary_at, fits_at, behind_at, stated_by, Notes, ended_by, where_of, fault_as, ParametersAt}
use Rattle.read_text_parameters.specs.declared.walk.Noted.{Noted}
use Rattle.read_text_parameters.specs.declared.ParameterFault.{ParameterFault}
use Rattle.read_text_parameters.specs.declared.ParameterFault.TheVariants.{Faulty, Unencoded}

-- ---- the number of a name

value_place : place_of (ascii "VALUE") parameter_names ≡ 19
unfolding octets_compute place_of
value_place = refl

number_value : (w : List ℕ) → same w (ascii "VALUE") ≡ true → number_of w ≡ 20
unfolding number_of pick
number_value w h = rw h

number_other : (w : List ℕ) → same w (ascii "VALUE") ≡ false → number_of w ≡ place_of w parameter_names
unfolding number_of pick
number_other w h = rw h

place_most : (w : List ℕ) → place_of w parameter_names ≤ 19
place_most w = place_within w parameter_names

-- for code
module _ {q : ℕ} (w : List ℕ) (e : q ≡ place_of w parameter_names) where
  pub number_known : q < 19 → q ≡ number_of w
  number_known h = go (same w (ascii "VALUE")) refl
    where
      go : (b : Bool) → same w (ascii "VALUE") ≡ b → q ≡ number_of w
      go true k = let z : q ≡ 19 = e ∙ ap (λ (v : List ℕ). place_of v parameter_names) (same_true w (ascii "VALUE") k) ∙ value_place in absurd (omega arith)
      go false k = e ∙ sym (number_other w k)

  pub number_none : {b : Bool} → b ≡ same w (ascii "VALUE") → b ≡ false → q ≡ number_of w
  number_none f h = e ∙ sym (number_other w (sym f ∙ h))

pub number_named : (w : List ℕ) {b : Bool} → b ≡ same w (ascii "VALUE") → b ≡ true → 20 ≡ number_of w
number_named w f h = sym (number_value w (sym f ∙ h))

number_most : (w : List ℕ) → number_of w ≤ 20
number_most w = go (same w (ascii "VALUE")) refl
  where
    go : (b : Bool) → same w (ascii "VALUE") ≡ b → number_of w ≤ 20
    go true k = omega (arith, number_value w k)
    go false k = omega (arith, number_other w k, place_most w)

pub number_fits : {q : ℕ} (w : List ℕ) → q ≡ number_of w → q < 32
number_fits w e = let l = number_most w in omega (arith, l, e)

encoding_place : (w : List ℕ) → same w (ascii "ENCODING") ≡ eqb (place_of w parameter_names) 6
unfolding octets_compute place_of
encoding_place w = same_place w (ascii "ENCODING") parameter_names refl

encoding_number : number_of (ascii "ENCODING") ≡ 6
unfolding octets_compute place_of number_of
encoding_number = refl

-- two names have one number where they are the same, unless it is an unrecognised one's
number_same : (v w : List ℕ) → eqb (number_of v) 19 ≡ false → eqb (number_of w) (number_of v) ≡ same v w
number_same v w h = go (same v (ascii "VALUE")) (same w (ascii "VALUE")) refl refl
  where
    apart : (a b : List ℕ) → same a (ascii "VALUE") ≡ true → same b (ascii "VALUE") ≡ false → (t : Bool) → same a b ≡ t → t ≡ false
    apart a b p q true z = absurd (false≢true (sym q ∙ rw (← (same_true a b z)) p))
    apart a b p q false z = refl

    known : same v (ascii "VALUE") ≡ false → is_one_of v parameter_names ≡ true
    known p = one_of_place v parameter_names ∙ lt-ltb (place_of v parameter_names) 19 (let l = place_most v in let n = eqb-false (place_of v parameter_names) 19 (ap (λ (i : ℕ). eqb i 19) (sym (number_other v p)) ∙ h) in omega (arith, l, n))

    go : (a b : Bool) → same v (ascii "VALUE") ≡ a → same w (ascii "VALUE") ≡ b → eqb (number_of w) (number_of v) ≡ same v w
    go true true p q = rw (same_true v (ascii "VALUE") p, same_true w (ascii "VALUE") q) (eq-eqb (number_of (ascii "VALUE")) (number_of (ascii "VALUE")) refl ∙ sym (same_self (ascii "VALUE")))
    go true false p q = rw (number_value v p, number_other w q) (ne_eqb (place_of w parameter_names) 20 (λ z. let l = place_most w in omega (arith, l)) ∙ sym (apart v w p q (same v w) refl))
    go false true p q = rw (number_other v p, number_value w q) (ne_eqb 20 (place_of v parameter_names) (λ z. let l = place_most v in omega (arith, l)) ∙ sym (ap (λ (b : Bool). b) (same_either v w) ∙ apart w v q p (same w v) refl))
    go false false p q = rw (number_other v p, number_other w q) (sym (same_place w v parameter_names (known p)) ∙ same_either w v)

-- ---- it fits

binary_at : (t : Option ℕ) → eqb (read_or 5 t) 0 ≡ is_binary_at t
unfolding read_or
binary_at None = refl
binary_at (Some t) = refl

-- only RELATED hangs on the type
permits_any : (row : Row) (t u q : ℕ) → eqb q 13 ≡ false → permits_at row t q ≡ permits_at row u q
unfolding permits_at pick
permits_any row t u q h = rw h

encodes_at : (e b v : Bool) → (not (b and e) or v) ≡ (not (b and e) or (e and v))
unfolding ◌and◌ ◌or◌
encodes_at true b v = refl
encodes_at false true v = refl
encodes_at false false v = refl

encodes_none : (b v w : Bool) → (not (b and false) or v) ≡ (not (w and false) or (false and v))
unfolding ◌and◌ ◌or◌
encodes_none true v true = refl
encodes_none true v false = refl
encodes_none false v true = refl
encodes_none false v false = refl

-- by the tests for RELATED and ENCODING
fits_cases : (row : Row) (t : Option ℕ) (q : ℕ) (vs : List ParamValue) (x e : Bool) → eqb q 13 ≡ x →
    (permits_at row (pick (x or e) (read_or 5 t) 5) q and is_read_by (parameter_at q) vs and (not (eqb (pick (x or e) (read_or 5 t) 5) 0 and e) or is_word (ascii "BASE64") vs))
    ≡ (permits_at row (read_or 5 t) q and is_read_by (parameter_at q) vs and (not (is_binary_at t and e) or (e and is_word (ascii "BASE64") vs)))
unfolding pick ◌or◌
fits_cases row t q vs true true h = rw (binary_at t, encodes_at true (is_binary_at t) (is_word (ascii "BASE64") vs))
fits_cases row t q vs true false h = rw (encodes_none (eqb (read_or 5 t) 0) (is_word (ascii "BASE64") vs) (is_binary_at t))
fits_cases row t q vs false true h = rw (binary_at t, encodes_at true (is_binary_at t) (is_word (ascii "BASE64") vs))
fits_cases row t q vs false false h = rw (permits_any row 5 (read_or 5 t) q h, encodes_none (eqb 5 0) (is_word (ascii "BASE64") vs) (is_binary_at t))

fits_by_lem : (row : Row) (t : Option ℕ) (r : RawParameter) → fits_by row (type_for (place_of (upper r.name) parameter_names) t) (place_of (upper r.name) parameter_names) r.values ≡ fits_at row t r
unfolding fits_at pick ◌or◌
fits_by_lem row t r = rw (parameter_read r, encoding_place (upper r.name)) (fits_cases row t (place_of (upper r.name) parameter_names) r.values (eqb (place_of (upper r.name) parameter_names) 13) (eqb (place_of (upper r.name) parameter_names) 6) refl)

-- ---- the walk

pub record Walked (row : Row) (all left : List RawParameter) (n : Noted) : Type 0 where
  pub before : List (List ℕ)
  pub names : names_of all ≡ onto before (names_of left)
  pub count : length before ≡ n.count
  pub first : first_faulty (fits_at row (stated_at row.default all)) [] all ≡ first_faulty (fits_at row (stated_at row.default all)) before left
  pub comes : first_again [] (names_of all) ≡ n.count + first_again before (names_of left)
  pub noted : (w : List ℕ) → eqb (number_of w) 19 ≡ false → has n.seen (number_of w) ≡ is_one_of w before
  pub typed : stated_at row.default all ≡ stated_by n left
  pub encoded : any_one is_encoding all ≡ (is_one_of (ascii "ENCODING") before or any_one is_encoding left)
  pub sought : 16 < n.count → n.again ≡ first_again [] (names_of all)

walked_start : (row : Row) (all : List RawParameter) → Walked row all all (record { count = 0; seen = 0; again = 0; value_type = row.default })
unfolding onto is_one_of pick ◌or◌
walked_start row all = record {
  before = [];
  names = refl;
  count = refl;
  first = refl;
  comes = omega arith;
  noted = λ w h. has_none (number_of w);
  typed = refl;
  encoded = refl;
  sought = λ h. absurd (omega arith);
}

module _ {row : Row} {all left : List RawParameter} {x : RawParameter} {n : Noted} (i : Walked row all (x ∷ left) n) where
  -- ---- it comes again

  place_again : (b : Bool) → is_one_of (upper x.name) i.before ≡ b → eqb n.count (first_again [] (names_of all)) ≡ b
  unfolding first_again pick
  place_again true h = eq-eqb n.count (first_again [] (names_of all)) (sym (i.comes ∙ rw h (omega arith)))
  place_again false h = ne_eqb n.count (first_again [] (names_of all)) (λ (z : n.count ≡ first_again [] (names_of all)). let e = i.comes ∙ ap (λ (b : Bool). n.count + pick b 0 (suc (first_again (upper x.name ∷ i.before) (names_of left)))) h in omega (arith, z, e))

  sought_is : (b : Bool) → ltb n.count 16 ≡ false → eqb n.count 16 ≡ b → pick b (first_again [] (names_of all)) n.again ≡ first_again [] (names_of all)
  unfolding pick
  sought_is true h k = refl
  sought_is false h k = i.sought (let l = ltb-false n.count 16 h in let z = eqb-false n.count 16 k in omega (arith, l, z))

  pub again_is : {b : Bool} → b ≡ comes_again (sought_by n (names_of all)) (number_of (upper x.name)) (upper x.name) (names_of all) → b ≡ is_one_of (upper x.name) i.before
  unfolding pick
  again_is e = e ∙ go (eqb (number_of (upper x.name)) 19) (ltb n.count 16) refl refl
    where
      go : (a c : Bool) → eqb (number_of (upper x.name)) 19 ≡ a → ltb n.count 16 ≡ c →
          pick a (pick c (is_one_of (upper x.name) (take n.count (names_of all))) (eqb n.count (pick (eqb n.count 16) (first_again [] (names_of all)) n.again))) (has n.seen (number_of (upper x.name)))
          ≡ is_one_of (upper x.name) i.before
      go false c p q = i.noted (upper x.name) p
      go true true p q = rw (i.names, ← i.count) (before_one (upper x.name) i.before (names_of (x ∷ left)))
      go true false p q = rw (sought_is (eqb n.count 16) q refl) (place_again (is_one_of (upper x.name) i.before) refl)

  -- ---- it is sound

  -- what the line states is what it states behind another than VALUE
  stated_behind : is_value_parameter x ≡ false → stated_at row.default all ≡ stated_by n left
  unfolding stated_at pick
  stated_behind h = i.typed ∙ rw h

  sound_is : (b : Bool) → is_value_parameter x ≡ b → is_read (behind_at row (stated_by n left) n.value_type (number_of (upper x.name)) x.values) ≡ is_sound (fits_at row (stated_at row.default all)) x
  unfolding pick is_read
  sound_is true h = rw (h, number_value (upper x.name) h) (mapped (type_in x.values))
    where
      mapped : (o : Option ValueType) → is_read (option_map type_place o) ≡ is_read o
      mapped None = refl
      mapped (Some t) = refl
  sound_is false h =
      rw (h, number_other (upper x.name) h, ne_eqb (place_of (upper x.name) parameter_names) 20 (λ z. let l = place_most (upper x.name) in omega (arith, l)), ← (stated_behind h), fits_by_lem row (stated_at row.default all) x)
      (given (fits_at row (stated_at row.default all) x))
    where
      given : (b : Bool) → is_read (provided b n.value_type) ≡ b
      given true = refl
      given false = refl

  -- ---- the first faulty one is here

  faulty_here : (is_one_of (upper x.name) i.before or not (is_sound (fits_at row (stated_at row.default all)) x)) ≡ true → ParametersAt row all (Err (Faulty n.count))
  unfolding fault_as first_faulty is_faulty pick
  faulty_here h = record { fault = rw (i.first, h, i.count); typed = λ t e. let z : ◌≡◌ {A = ℕ} 0 1 = cc in absurd (omega arith) }

  walked_again : {b : Bool} → b ≡ comes_again (sought_by n (names_of all)) (number_of (upper x.name)) (upper x.name) (names_of all) → b ≡ true → ParametersAt row all (Err (Faulty n.count))
  unfolding ◌or◌
  walked_again e h = faulty_here (rw (sym (again_is e) ∙ h))

  walked_bad : None ≡ behind_at row (stated_by n left) n.value_type (number_of (upper x.name)) x.values → ParametersAt row all (Err (Faulty n.count))
  unfolding is_read ◌or◌
  walked_bad e = faulty_here (rw (sym (sound_is (is_value_parameter x) refl) ∙ ap is_read (sym e)) (either (is_one_of (upper x.name) i.before)))
    where
      either : (b : Bool) → (b or true) ≡ true
      either true = refl
      either false = refl

  -- ---- it is sound: the walk goes on

  module _ {t : ℕ} {r : Noted} (g : Notes (sought_by n (names_of all)) (number_of (upper x.name)) t r) (a : is_one_of (upper x.name) i.before ≡ false)
      (e : Some t ≡ behind_at row (stated_by n left) n.value_type (number_of (upper x.name)) x.values) where
    more_first : first_faulty (fits_at row (stated_at row.default all)) [] all ≡ first_faulty (fits_at row (stated_at row.default all)) (upper x.name ∷ i.before) left
    unfolding first_faulty is_faulty is_read pick ◌or◌
    more_first = i.first ∙ rw (a, sym (sound_is (is_value_parameter x) refl) ∙ ap is_read (sym e))

    more_comes : first_again [] (names_of all) ≡ r.count + first_again (upper x.name ∷ i.before) (names_of left)
    unfolding first_again pick
    more_comes = i.comes ∙ rw (a, g.count) (omega arith)

    more_noted : (w : List ℕ) → eqb (number_of w) 19 ≡ false → has r.seen (number_of w) ≡ is_one_of w (upper x.name ∷ i.before)
    unfolding is_one_of ◌or◌
    more_noted w h = g.seen (number_of w) ∙ rw (number_same w (upper x.name) h, i.noted w h) (go (same w (upper x.name)))
      where
        go : (b : Bool) → cond b true (is_one_of w i.before) ≡ (b or is_one_of w i.before)
        go true = refl
        go false = refl

    more_typed : (b : Bool) → is_value_parameter x ≡ b → stated_at row.default all ≡ stated_by r left
    unfolding stated_at pick
    more_typed true h =
        let q = number_value (upper x.name) h in
        let s : has r.seen 20 ≡ true = g.seen 20 ∙ rw (q, eq-eqb 20 20 refl) in
        let v : has n.seen 20 ≡ false = ap (has n.seen) (sym q) ∙ i.noted (upper x.name) (ap (λ (j : ℕ). eqb j 19) q) ∙ a in
        let o : Some t ≡ option_map type_place (type_in x.values) = e ∙ rw q in
        i.typed ∙ rw (s, v, h, g.typed) (sym o)
    more_typed false h =
        let q = number_other (upper x.name) h in
        let l = place_most (upper x.name) in
        let y : eqb (place_of (upper x.name) parameter_names) 20 ≡ false = ne_eqb (place_of (upper x.name) parameter_names) 20 (λ (z : place_of (upper x.name) parameter_names ≡ 20). omega (arith, l, z)) in
        let s : has r.seen 20 ≡ has n.seen 20 = g.seen 20 ∙ rw (q, y) in
        let o : Some t ≡ provided (fits_by row (type_for (place_of (upper x.name) parameter_names) (stated_by n left)) (place_of (upper x.name) parameter_names) x.values) n.value_type = e ∙ rw (q, y) in
        let u : t ≡ n.value_type = given (fits_by row (type_for (place_of (upper x.name) parameter_names) (stated_by n left)) (place_of (upper x.name) parameter_names) x.values) o in
        stated_behind h ∙ rw (s, g.typed, u)
      where
        given : (b : Bool) → Some t ≡ provided b n.value_type → t ≡ n.value_type
        given true k = cc
        given false k = let z : ◌≡◌ {A = ℕ} 0 1 = cc in absurd (omega arith)

    more_encoded : any_one is_encoding all ≡ (is_one_of (ascii "ENCODING") (upper x.name ∷ i.before) or any_one is_encoding left)
    unfolding is_one_of any_one ◌or◌
    more_encoded = i.encoded ∙ rw (same_either (ascii "ENCODING") (upper x.name)) (go (is_one_of (ascii "ENCODING") i.before) (is_encoding x))
      where
        go : (b c : Bool) → (b or (c or any_one is_encoding left)) ≡ ((c or b) or any_one is_encoding left)
        go true true = refl
        go true false = refl
        go false true = refl
        go false false = refl

    more_sought : 16 < r.count → r.again ≡ first_again [] (names_of all)
    more_sought h = g.again ∙ sought_is (eqb n.count 16) (le-ltb n.count 16 (let k = g.count in omega (arith, h, k))) refl

    walked_more : Walked row all left r
    unfolding onto
    walked_more = record {
      before = upper x.name ∷ i.before;
      names = i.names;
      count = let c = i.count in let k = g.count in omega (arith, c, k);
      first = more_first;
      comes = more_comes;
      noted = more_noted;
      typed = more_typed (is_value_parameter x) refl;
      encoded = more_encoded;
      sought = more_sought;
    }

-- ---- at the end

module _ {row : Row} {all : List RawParameter} {n : Noted} (i : Walked row all [] n) where
  all_typed : stated_at row.default all ≡ Some n.value_type
  unfolding stated_at pick
  all_typed = i.typed ∙ go (has n.seen 20)
    where
      go : (b : Bool) → pick b (Some n.value_type) (Some n.value_type) ≡ Some n.value_type
      go true = refl
      go false = refl

  all_encoded : any_one is_encoding all ≡ has n.seen 6
  unfolding any_one
  all_encoded = i.encoded ∙ or-false (is_one_of (ascii "ENCODING") i.before) ∙ sym (i.noted (ascii "ENCODING") (ap (λ (j : ℕ). eqb j 19) encoding_number)) ∙ ap (has n.seen) encoding_number

  walked_end : {r : Result ℕ ParameterFault} → r ≡ ended_by n → ParametersAt row all r
  unfolding fault_as first_faulty pick ◌and◌
  walked_end e = rw e (record {
    fault = rw (i.first, all_typed, all_encoded) (place (eqb n.value_type 0) (has n.seen 6));
    typed = λ t h. all_typed ∙ same_type (eqb n.value_type 0) (has n.seen 6) t h;
  })
    where
      place : (b c : Bool) → place_of_fault None (b and not c) ≡ where_of (pick b (pick c (Ok n.value_type) (Err Unencoded)) (Ok n.value_type))
      place true true = refl
      place true false = refl
      place false c = refl

      same_type : (b c : Bool) (t : ℕ) → pick b (pick c (Ok n.value_type) (Err Unencoded)) (Ok n.value_type) ≡ Ok t → Some n.value_type ≡ Some t
      same_type true true t h = cc
      same_type true false t h = let z : ◌≡◌ {A = ℕ} 0 1 = cc in absurd (omega arith)
      same_type false c t h = cc

-- ---- through a cursor

-- decoding changes no name
names_read : (ed : Edition) (rs : List RawParameter) → names_of (map (decoded_parameter ed) rs) ≡ names_of rs
names_read ed [] = refl
names_read ed (r ∷ rs) = ap (λ (l : List (List ℕ)). upper r.name ∷ l) (names_read ed rs)

pub record Stepping (ed : Edition) (row : Row) (m : ℕ) (s : List ℕ) (e c : ℕ) (n : Noted) : Type 0 where
  pub walked : Walked row (params_in ed m s e) (params_in ed m s c) n
  pub past : n.count ≤ c

pub step_start : (ed : Edition) (row : Row) (m : ℕ) (s : List ℕ) (e : ℕ) → Stepping ed row m s e e (record { count = 0; seen = 0; again = 0; value_type = row.default })
step_start ed row m s e = record { walked = walked_start row (params_in ed m s e); past = omega arith }

module _ {ed : Edition} {row : Row} {m : ℕ} {s : List ℕ} {e c : ℕ} {n : Noted} {r : Result (Option ParameterCursors) (Malformed ParameterCursors)} (y : cuts m ≡ true) (i : Stepping ed row m s e c n) (a : ParamOf next_param m s c r) where
  step_none : params_in ed m s c ≡ [] → Walked row (params_in ed m s e) [] n
  step_none h = subst (λ (l : List RawParameter). Walked row (params_in ed m s e) l n) h i.walked

  pub step_over : {p : Result ℕ ParameterFault} → r ≡ Ok None → p ≡ ended_by n → ParametersAt row (params_in ed m s e) p
  step_over h = walked_end (step_none (read_over ed y (λ (rs : List RawParameter). rs) refl a h))

  pub step_fault : {p : Result ℕ ParameterFault} → {x : Malformed ParameterCursors} → r ≡ Err x → p ≡ ended_by n → ParametersAt row (params_in ed m s e) p
  step_fault h = walked_end (step_none (read_fault ed y (λ (rs : List RawParameter). rs) refl a h))

  module _ {q : ℕ} {v : Noted} {b : Bool} {pc : ParameterCursors} (h : r ≡ Ok (Some pc)) (f : q ≡ number_of (name_cut m s pc.name pc.end)) (g₀ : v ≡ sought_by n (names_of (params_at m s e)))
      (x₀ : b ≡ comes_again v q (name_cut m s pc.name pc.end) (names_of (params_at m s e))) where
    g : v ≡ sought_by n (names_of (params_in ed m s e))
    g = g₀ ∙ ap (sought_by n) (sym (names_read ed (params_at m s e)))

    x : b ≡ comes_again v q (name_cut m s pc.name pc.end) (names_of (params_in ed m s e))
    x = x₀ ∙ ap (comes_again v q (name_cut m s pc.name pc.end)) (sym (names_read ed (params_at m s e)))

    here : Walked row (params_in ed m s e) (param_read ed m s pc.name pc.end pc.first ∷ params_in ed m s pc.next) n
    here = subst (λ (l : List RawParameter). Walked row (params_in ed m s e) l n) (read_step ed y (λ (rs : List RawParameter). rs) refl a h) i.walked

    comes : b ≡ comes_again (sought_by n (names_of (params_in ed m s e))) (number_of (name_cut m s pc.name pc.end)) (name_cut m s pc.name pc.end) (names_of (params_in ed m s e))
    comes = subst (λ (u : Noted). b ≡ comes_again u (number_of (name_cut m s pc.name pc.end)) (name_cut m s pc.name pc.end) (names_of (params_in ed m s e))) g
        (subst (λ (j : ℕ). b ≡ comes_again v j (name_cut m s pc.name pc.end) (names_of (params_in ed m s e))) f x)

    pub step_again : b ≡ true → ParametersAt row (params_in ed m s e) (Err (Faulty n.count))
    step_again z = walked_again here comes z

    module _ {t : Option ℕ} (o : NumberOf (behind_at row (stated_by v (params_in ed m s pc.next)) v.value_type q (values_in ed m s pc.first)) t) where
      behind : t ≡ behind_at row (stated_by n (params_in ed m s pc.next)) n.value_type (number_of (name_cut m s pc.name pc.end)) (values_in ed m s pc.first)
      behind = subst (λ (u : Noted). t ≡ behind_at row (stated_by u (params_in ed m s pc.next)) u.value_type (number_of (name_cut m s pc.name pc.end)) (values_in ed m s pc.first)) g
          (subst (λ (j : ℕ). t ≡ behind_at row (stated_by v (params_in ed m s pc.next)) v.value_type j (values_in ed m s pc.first)) f o.is)

      pub step_bad : t ≡ None → ParametersAt row (params_in ed m s e) (Err (Faulty n.count))
      step_bad z = walked_bad here (sym z ∙ behind)

      step_small : v.count + 1 ≤ pc.next
      step_small = let l = param_less a h in let p = i.past in let w : v.count ≡ n.count = ap (λ (u : Noted). u.count) g in omega (arith, l, p, w)

      pub step_room : pc.next < 2 ^ 64 → v.count + 1 < 2 ^ 64
      step_room b = let l = step_small in omega (arith, l, b)

      pub step_more : {u : ℕ} {w : Noted} → b ≡ false → t ≡ Some u → Notes v q u w → Stepping ed row m s e pc.next w
      step_more {u} {w} z d p =
          let p₁ : Notes (sought_by n (names_of (params_in ed m s e))) q u w = subst (λ (j : Noted). Notes j q u w) g p in
          let p₂ : Notes (sought_by n (names_of (params_in ed m s e))) (number_of (name_cut m s pc.name pc.end)) u w = subst (λ (j : ℕ). Notes (sought_by n (names_of (params_in ed m s e))) j u w) f p₁ in
          let l = step_small in
          let k : w.count ≡ v.count + 1 = p.count in
          record { walked = walked_more here p₂ (sym (again_is here comes) ∙ z) (sym d ∙ behind); past = omega (arith, l, k) }
