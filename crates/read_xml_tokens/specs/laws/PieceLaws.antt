-- Single pieces of markup at a place, and the loops that find them.
--     Lowering     given bytes in any case, compared;   its rules `lowering`
--     Blank        white space, passed over;   its rules `passing`
--     exact_yes, exact_no, any_case_yes, any_case_no, space_some, space_none, name_some, name_none    the piece that was found
use Rattle.std.specs.Prelude.{◌≡◌, Bool, List, [], ◌∷◌, eqb, get_or, take, drop, Some}
use Rattle.std.proofs.Math.Path.{refl, sym, ap}
use Rattle.std.proofs.Common.{◌∙◌, drop_of_length-le, rules}
use Rattle.std.proofs.Math.Bool.{true, false}
use Prim.Native.Nat.{ℕ, zero, suc, ◌+◌, ◌-◌, max, ◌≤◌, ◌<◌}
use native.Mathlib.Omega.{arith}
use Rattle.std.proofs.Math.Dec.{ltb}
use Rattle.std.proofs.Math.ListN.{length, length-drop}
use Rattle.std.proofs.Math.Seq.{take-nil}
use borrow.Author.Tests.{eq-eqb, ne_eqb, lt-ltb, ltb-true, ltb-false}
use Rattle.octets.specs.Pick.{pick, ◌and◌, ◌or◌}
use Rattle.octets.specs.laws.Pick.{flag_yes, flag_no}
use Rattle.octets.specs.Scan.{span_len}
use Rattle.octets.specs.laws.Scan.{drop_next}
use Rattle.octets.specs.Class.{is_alpha, is_name_char, is_space, lower, lower_byte}
use Rattle.octets.specs.Words.{same, starts}
use Rattle.octets.specs.laws.Words.{same_true}
use Rattle.octets.specs.Runs.{after_run}
use Rattle.octets.specs.laws.Reading.{none-some}
use Rattle.octets.specs.laws.Letters.{lower-length}
use Rattle.source.specs.Source.{rest}
use Rattle.names.specs.Runs.{RunEnds}
use Rattle.xml.specs.laws.Starting.{starts_inside}
use Rattle.xml.specs.Pieces.{from, first, exactly, in_any_case, some_space, any_space, xml_name}
use Rattle.xml.specs.laws.Pieces.{length_from}
use Rattle.read_xml_tokens.specs.Ends.{Ends}
use Rattle.read_xml_tokens.specs.laws.Ends.{ends_found, ends_missing}

pub from_next : (s : List ℕ) (i : ℕ) → i < length s → from i s ≡ get_or s i 0 ∷ from (i + 1) s
unfolding from
from_next s i h = drop_next s i h

pub from_past : (s : List ℕ) (i : ℕ) → length s ≤ i → from i s ≡ []
unfolding from
from_past s i h = drop_of_length-le s h

-- ---- given bytes

module _ (s : List ℕ) (at : ℕ) (w : List ℕ) (h : at ≤ length s) where
  pub exact_yes : starts w (drop at s) ≡ true → Ends (exactly w) s at (at + length w)
  unfolding exactly pick from
  exact_yes e = ends_found (exactly w) s at (length w) (at + length w) (rw e) refl (starts_inside w s at h e)

  pub exact_no : starts w (drop at s) ≡ false → Ends (exactly w) s at (length s + 1)
  unfolding exactly pick from
  exact_no e = ends_missing (exactly w) s at h (rw e)

-- ---- given bytes in any case

pub record Lowering (s : List ℕ) (at : ℕ) (w : List ℕ) (c i : ℕ) : Type 0 where
  pub inside : i ≤ length w
  pub left : same (lower (take (length w) (from at s))) w ≡ same (lower (take (length w - i) (from c s))) (from i w)

module _ (s : List ℕ) (at : ℕ) (w : List ℕ) where
  pub lowering_start : Lowering s at w at 0
  unfolding from
  lowering_start = let k : length w - 0 ≡ length w = omega arith in record { inside = omega arith; left = rw k }

  module _ (c i : ℕ) (q : Lowering s at w c i) where
    lowering_step : i < length w → c < length s → same (lower (take (length w) (from at s))) w ≡ (eqb (lower_byte (get_or s c 0)) (get_or w i 0) and same (lower (take (length w - (i + 1)) (from (c + 1) s))) (from (i + 1) w))
    unfolding same lower
    lowering_step h k = let e : length w - i ≡ suc (length w - (i + 1)) = omega arith in q.left ∙ rw (e, from_next w i h, from_next s c k)

    module _ {b l t : ℕ} (h : i < length w) (k : c < length s) (x : (b ≡ get_or s c 0) × (b < 256)) (y : l ≡ lower_byte b) (z : (t ≡ get_or w i 0) × (t < 256)) where
      pub lowering_more : l ≡ t → Lowering s at w (c + 1) (i + 1)
      unfolding ◌and◌
      lowering_more e = record { inside = omega arith; left = lowering_step h k ∙ rw (← x.0, ← z.0, ← y, eq-eqb l t e) }

      pub lowering_stop : (l ≡ t → ⊥) → false ≡ same (lower (take (length w) (from at s))) w
      unfolding ◌and◌
      lowering_stop e = sym (lowering_step h k ∙ rw (← x.0, ← z.0, ← y, ne_eqb l t e))

    pub lowering_short : i < length w → length s ≤ c → false ≡ same (lower (take (length w) (from at s))) w
    unfolding same lower
    lowering_short h k = sym (q.left ∙ rw (from_past s c k, take-nil, from_next w i h))

    pub lowering_end : length w ≤ i → true ≡ same (lower (take (length w) (from at s))) w
    unfolding same lower
    lowering_end h = let e : length w - i ≡ 0 = omega arith in sym (q.left ∙ rw (e, from_past w i h))

pub ruleset lowering = (lowering_start, lowering_more, lowering_stop, lowering_short, lowering_end, rules)

take_short : (n : ℕ) (s : List ℕ) → length (take n s) ≤ length s
take_short zero s = omega arith
take_short (suc n) [] = omega arith
take_short (suc n) (x ∷ s) = let k = take_short n s in omega arith

module _ (s : List ℕ) (at : ℕ) (w : List ℕ) (h : at ≤ length s) where
  pub any_case_room : same (lower (take (length w) (from at s))) w ≡ true → at + length w ≤ length s
  any_case_room e =
      let f : lower (take (length w) (from at s)) ≡ w = same_true _ w e in
      let k : length (take (length w) (from at s)) ≡ length w = sym (lower-length (take (length w) (from at s))) ∙ ap length f in
      omega (arith, take_short (length w) (from at s), length_from at s)

  pub any_case_yes : same (lower (take (length w) (from at s))) w ≡ true → Ends (in_any_case w) s at (at + length w)
  unfolding in_any_case pick
  any_case_yes e = ends_found (in_any_case w) s at (length w) (at + length w) (rw e) refl (any_case_room e)

  pub any_case_no : same (lower (take (length w) (from at s))) w ≡ false → Ends (in_any_case w) s at (length s + 1)
  unfolding in_any_case pick
  any_case_no e = ends_missing (in_any_case w) s at h (rw e)

-- ---- white space

pub record Blank (s : List ℕ) (at j : ℕ) : Type 0 where
  pub onward : at ≤ j
  pub near : j ≤ max at (length s)
  pub left : at + span_len is_space (from at s) ≡ j + span_len is_space (from j s)

module _ (s : List ℕ) (at : ℕ) where
  pub blank_start : Blank s at at
  blank_start = record { onward = omega arith; near = omega arith; left = refl }

  pub blank_more : (j b : ℕ) → Blank s at j → j < length s → (b ≡ get_or s j 0) × (b < 256) → is_space b ≡ true → Blank s at (j + 1)
  unfolding span_len pick
  blank_more j b t h x e = record { onward = omega (arith, t.onward); near = omega arith; left = t.left ∙ rw (from_next s j h, ← x.0, e) (omega arith) }

  blank_ends : (j : ℕ) → Blank s at j → span_len is_space (from j s) ≡ 0 → Ends any_space s at j
  unfolding any_space
  blank_ends j t z =
      let q : span_len is_space (from at s) ≡ j - at = omega (arith, t.left, t.onward) in
      record { onward = t.onward; near = omega (arith, t.near); stands = λ k. ap Some q; misses = λ k l. absurd (omega (arith, t.near)) }

  pub blank_stop : (j b : ℕ) → Blank s at j → j < length s → (b ≡ get_or s j 0) × (b < 256) → is_space b ≡ false → Ends any_space s at j
  unfolding span_len pick
  blank_stop j b t h x e = blank_ends j t (rw (from_next s j h, ← x.0, e))

  pub blank_end : (j : ℕ) → Blank s at j → length s ≤ j → Ends any_space s at j
  unfolding span_len
  blank_end j t h = blank_ends j t (rw (from_past s j h))

pub ruleset passing = (blank_start, blank_more, blank_stop, blank_end, flag_yes, flag_no, rules)

module _ (s : List ℕ) (at e : ℕ) (x : Ends any_space s at e) (h : at ≤ length s) where
  pub blank_inside : e ≤ length s
  unfolding any_space
  blank_inside = go (ltb (length s) e) refl
    where
      go : (t : Bool) → ltb (length s) e ≡ t → e ≤ length s
      go true q = none-some (sym (x.misses h (ltb-true (length s) e q)))
      go false q = ltb-false (length s) e q

  blank_count : span_len is_space (from at s) ≡ e - at
  unfolding any_space
  blank_count = let q = x.stands blank_inside in cc

  pub space_some : (e ≡ at → ⊥) → Ends some_space s at e
  unfolding some_space pick
  space_some l =
      let k : at < e = omega (arith, x.onward, l) in
      ends_found some_space s at (e - at) e (rw (blank_count, lt-ltb 0 (e - at) (omega arith))) (omega arith) (omega (arith, blank_inside))

  pub space_none : e ≡ at → Ends some_space s at (length s + 1)
  unfolding some_space pick
  space_none l =
      let q : span_len is_space (from at s) ≡ 0 = blank_count ∙ omega arith in
      ends_missing some_space s at h (rw q)

-- ---- names

span_room : (p : ℕ → Bool) (s : List ℕ) → span_len p s ≤ length s
unfolding span_len pick
span_room p [] = omega arith
span_room p (x ∷ s) = go (p x) (span_room p s)
  where
    go : (t : Bool) → span_len p s ≤ length s → pick t (suc (span_len p s)) 0 ≤ suc (length s)
    go true h = omega arith
    go false h = omega arith

module _ (s : List ℕ) (at r : ℕ) (x : RunEnds is_name_char 0 s at r) (h : at ≤ length s) where
  pub name_count : span_len is_name_char (from at s) ≡ r - at
  unfolding rest pick after_run from
  name_count =
      let e : length s - r ≡ length s - at - span_len is_name_char (drop at s) = sym (length-drop r s) ∙ ap length x.left ∙ length-drop (span_len is_name_char (drop at s)) (drop at s) ∙ ap (λ (n : ℕ). n - span_len is_name_char (drop at s)) (length-drop at s) in
      omega (arith, e, span_room is_name_char (drop at s), length-drop at s, x.plain refl h, x.onward)

  pub name_some : at < length s → is_alpha (get_or s at 0) ≡ true → Ends xml_name s at r
  unfolding xml_name first pick
  name_some l a =
      ends_found xml_name s at (r - at) r (rw (← name_count, from_next s at l, a)) (omega (arith, x.onward)) (omega (arith, x.onward, x.plain refl h))

pub name_none : (s : List ℕ) (at : ℕ) → at < length s → is_alpha (get_or s at 0) ≡ false → Ends xml_name s at (length s + 1)
unfolding xml_name first pick
name_none s at l a = ends_missing xml_name s at (omega arith) (rw (from_next s at l, a))

pub name_over : (s : List ℕ) (at : ℕ) → at ≡ length s → Ends xml_name s at (length s + 1)
unfolding xml_name first pick ◌or◌ ◌and◌
name_over s at l = ends_missing xml_name s at (omega arith) (rw (from_past s at (omega arith)))
