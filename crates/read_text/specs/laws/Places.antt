-- Laws of what specs/Places.antt defines.
--     Passing          parameters passed one after another;   passing_start, passing_more, passing_end: its laws
--     place_offset     a place by the line's cursors is that place in its bytes;   place_in_text: and in its text
use Rattle.std.specs.Prelude.{◌≡◌, true, take, Option, None, Some, Result, Ok, Err}
use Rattle.std.proofs.Math.Path.{refl, ap}
use Rattle.std.proofs.Common.{sym, subst, ◌∙◌}
use mathlib.Core.List.{List, [], ◌∷◌}
use Prim.Native.Nat.{ℕ, zero, suc, ◌-◌, ◌≤◌, ◌<◌}
use native.Mathlib.Omega.{arith}
use Rattle.std.proofs.Math.ListN.{length}
use Rattle.octets.specs.Append.{◌⊕◌}
use Rattle.octets.specs.laws.Append.{length_both}
use Rattle.octets.specs.Class.{is_name_char}
use Rattle.octets.specs.Runs.{after_run}
use Rattle.octets.specs.Many.{One, got, bad}
use Rattle.source.specs.Source.{rest, cuts, Reach, Reads}
use Rattle.source.specs.laws.Facts.{rest_byte, rest_end, rest_cut, reach_rest, reach_whole}
use Rattle.source.specs.declared.points.Unit.{Unit}
use Rattle.read_text_line.specs.ContentLine.{RawParameter, next_param, content_line}
use Rattle.read_text_line.specs.Write.{write_parameter}
use Rattle.read_text_line.specs.laws.Accepted.{next_param_read}
use Rattle.read_text_line.specs.Items.{items}
use Rattle.read_text_line.specs.laws.Items.{items-none, items_bad}
use Rattle.read_text_line.specs.laws.Repeating.{item_got, item_to, param_takes}
use Rattle.read_text_line.specs.Cursor.{Onward, params_at}
use Rattle.read_text_line.specs.laws.Cursor.{onward_here, onward_both, onward_byte}
use Rattle.read_text_line.specs.Params.{ParamOf}
use Rattle.read_text_line.specs.laws.Params.{name_run, name_onward, param_more, param_over, param_fault}
use Rattle.read_text_line.specs.Line.{LineAt}
use Rattle.read_text_line.specs.LineEnd.{LineEnds}
use Rattle.read_text_line.specs.laws.LineEnd.{index_on}
use Rattle.read_text_line.specs.Ready.{Ready}
use Rattle.read_text_line.specs.laws.Ready.{line_end_inside, line_count, line_inside}
use Rattle.read_text_line.specs.declared.Malformed.{Malformed}
use Rattle.read_text_line.specs.declared.ParameterCursors.{ParameterCursors}
use Rattle.read_text_line.specs.declared.LineCursors.{LineCursors}
use Rattle.text.specs.Faults.{Where, line_start, parameter_name, value_start, left_by, behind, value_in, offset}
use Rattle.read_text.specs.Places.{NameAt, PlaceOf, OffsetAt, PlaceAt}

-- ---- parameters passed

-- of i parameters from the cursor e on so many are left at c, and one more stands there
pub record Passing (m : ℕ) (s : List ℕ) (e i c left : ℕ) : Type 0 where
  pub is : behind i (rest m s e) ≡ behind left (rest m s c)
  pub more : left < length (params_at m s c)
  pub to : Onward m s e c

pub passing_start : (m : ℕ) (s : List ℕ) (e i : ℕ) → i < length (params_at m s e) → Passing m s e i e i
passing_start m s e i h = record { is = refl; more = h; to = onward_here e }

module _ {m : ℕ} {s : List ℕ} {e i c left : ℕ} (p : Passing m s e i c left) where
  module _ {r : Result (Option ParameterCursors) (Malformed ParameterCursors)} (a : ParamOf next_param m s c r) where
    none_left : {X : Type 0} → params_at m s c ≡ [] → X
    none_left h = let z : length (params_at m s c) ≡ 0 = ap length h in let l = p.more in absurd (omega (arith, z, l))

    pub passing_over : {X : Type 0} → r ≡ Ok None → X
    passing_over h = none_left (param_over a h)

    pub passing_fault : {X : Type 0} {x : Malformed ParameterCursors} → r ≡ Err x → X
    passing_fault h = none_left (param_fault a h)

    pub passing_more : {v : ParameterCursors} → r ≡ Ok (Some v) → 0 < left → Passing m s e i v.next (left - 1)
    unfolding behind
    passing_more k h =
        let z : left ≡ suc (left - 1) = omega arith in
        let n = ap length (param_more a k) in
        record {
          is = p.is ∙ ap (λ (j : ℕ). behind j (rest m s c)) z ∙ ap (λ (o : One RawParameter). behind (left - 1) (left_by o)) (item_got a.item k);
          more = let l = p.more in omega (arith, n, l);
          to = onward_both p.to (item_to a.item k);
        }

-- a parameter begins with a semicolon
semicolon : (xs : List ℕ) → 0 < length (items next_param xs) → (ys : List ℕ) × (xs ≡ 59 ∷ ys)
unfolding write_parameter ◌⊕◌
semicolon xs h = go (next_param xs) refl
  where
    none_there : {X : Type 0} → items next_param xs ≡ [] → X
    none_there e = let z : length (items next_param xs) ≡ 0 = ap length e in absurd (omega (arith, z, h))

    go : (o : One RawParameter) → next_param xs ≡ o → (ys : List ℕ) × (xs ≡ 59 ∷ ys)
    go (got v r) e = (_, sym (next_param_read xs v r e).1)
    go One.none e = none_there (items-none next_param xs e)
    go (bad r) e = none_there (items_bad next_param xs r e)

module _ {m : ℕ} {s : List ℕ} {c : ℕ} {n : Unit} (q : Reads m s c n) (ys : List ℕ) (e : rest m s c ≡ 59 ∷ ys) where
  some_byte : n.u ≡ 256 → ⊥
  some_byte h = let z : length (59 ∷ ys) ≡ 0 = ap length (sym e ∙ rest_end q h) in omega arith

  behind_semicolon : rest m s c ≡ 59 ∷ rest m s n.next
  behind_semicolon = let b = sym e ∙ rest_byte q some_byte in let u : 59 ≡ n.u = cc in rest_byte q some_byte ∙ rw u

pub passing_end : {m : ℕ} {s : List ℕ} {e i c left : ℕ} {n : Unit} → Passing m s e i c left → left ≤ 0 → Reads m s c n → NameAt m s e i n.next
unfolding behind
passing_end {m} {s} {e} {i} {c} {left} {n} p h q =
    let l = p.more in
    let z : left ≡ 0 = omega arith in
    let k = semicolon (rest m s c) (omega (arith, l)) in
    record {
      is = p.is ∙ ap (λ (j : ℕ). behind j (rest m s c)) z ∙ behind_semicolon q k.0 k.1;
      to = onward_both p.to (onward_byte q (some_byte q k.0 k.1));
    }

-- ---- lengths

left_less : (xs : List ℕ) → length (left_by (next_param xs)) ≤ length xs
left_less xs = go (next_param xs) refl
  where
    go : (o : One RawParameter) → next_param xs ≡ o → length (left_by o) ≤ length xs
    go (got v r) e = let l = param_takes xs v r e in omega (arith, l)
    go One.none e = omega arith
    go (bad r) e = omega arith

behind_less : (i : ℕ) (xs : List ℕ) → length (behind i xs) ≤ length xs
unfolding behind
behind_less zero xs = omega arith
behind_less (suc i) xs = let b = behind_less i (left_by (next_param xs)) in let l = left_less xs in omega (arith, b, l)

along : {m : ℕ} {s : List ℕ} {c r : ℕ} → cuts m ≡ true → Onward m s c r → length (rest m s r) ≤ length (rest m s c)
along {m} {s} {c} {r} y o = let e = ap length (rest_cut m s c r y o.onward o.reach) in let b = length_both (rest m (take r s) c) (rest m s r) in omega (arith, e, b)

-- ---- in the bytes of a line

pub offset_start : (m : ℕ) (s : List ℕ) (at : ℕ) → OffsetAt m s at line_start at
unfolding offset
offset_start m s at = record { is = omega arith; to = onward_here at }

module _ {m : ℕ} {s : List ℕ} {at : ℕ} {l : LineCursors} (y : cuts m ≡ true) (a : LineAt m s at (Some l)) where
  parameters_at : Onward m s at l.parameters
  parameters_at = subst (λ (n : ℕ). Onward m s n l.parameters) a.parts.0 (name_onward a.parts.1.name)

  behind_name : after_run is_name_char (rest m s at) ≡ rest m s l.parameters
  behind_name = sym (subst (λ (n : ℕ). rest m s l.parameters ≡ after_run is_name_char (rest m s n)) a.parts.0 (name_run a.parts.1.name).left)

  name_offset : (i : ℕ) {c : ℕ} → NameAt m s l.parameters i c → OffsetAt m s at (parameter_name i) c
  unfolding offset
  name_offset i {c} x =
      let b = behind_less i (rest m s l.parameters) in
      let d = along y parameters_at in
      let q : length (behind i (rest m s l.parameters)) ≡ suc (length (rest m s c)) = ap length x.is in
      let z : length (behind i (after_run is_name_char (rest m s at))) ≡ suc (length (rest m s c)) = ap (λ (xs : List ℕ). length (behind i xs)) behind_name ∙ q in
      record { is = omega (arith, b, d, q, z); to = onward_both parameters_at x.to }

  value_offset : OffsetAt m s at value_start l.value
  unfolding offset
  value_offset =
      let o = onward_both parameters_at a.parts.1.value in
      let d = along y o in
      let z : length (value_in (content_line (rest m s at))) ≡ length (rest m s l.value) = rw a.is in
      record { is = omega (arith, d, z); to = o }

  pub place_offset : (w : Where) {c : ℕ} → PlaceOf m s l w c → OffsetAt m s at w c
  place_offset line_start x = subst (OffsetAt m s at line_start) (sym (x ∙ a.parts.0)) (offset_start m s at)
  place_offset (parameter_name i) x = name_offset i x
  place_offset value_start x = subst (OffsetAt m s at value_start) (sym x) value_offset

-- ---- in a text

pub place_in_text : {m : ℕ} {s : List ℕ} {at e n c : ℕ} {w : Where} → Ready m s at → LineEnds m s at e n → OffsetAt m (take e s) at w c → PlaceAt m s at (rest m (take e s) at) w c
place_in_text {m} {s} {at} {e} {n} {c} {w} r f o =
    let y = r.cut in
    let z = line_count r f in
    let b : c ≤ length (take e s) = o.to.plain y (line_inside r f) in
    let k : c ≤ e = omega (arith, z, b) in
    let g = f.line.reach in
    let h : Reach m s at c = reach_whole m s at c e k g o.to.reach in
    let u = ap length (rest_cut m s at e y f.line.onward g) in
    let v = ap length (rest_cut m s c e y k (reach_rest o.to.onward k h g)) in
    let p = length_both (rest m (take e s) at) (rest m s e) in
    let q = length_both (rest m (take e s) c) (rest m s e) in
    let d = o.is in
    let i = line_end_inside r f in
    record { is = index_on m s at c (offset (rest m (take e s) at) w) y r.to (omega (arith, u, v, p, q, d)); most = omega (arith, k, i) }
