-- Names that stand before others.
--     before-take          so many names from the front are those;   before_one: a name is one of them
--     first_..             the first names of a list, compared one after another
--     word_..              a value is one word, for code
use Rattle.std.specs.Prelude.{◌≡◌, Bool, true, false, List, [], ◌∷◌, map, length, take, Option, Some, Result, Ok, Err}
use Rattle.std.proofs.Math.Path.{refl, ap}
use Rattle.std.proofs.Common.{sym, ◌∙◌}
use Prim.Native.Nat.{ℕ, zero, suc, ◌+◌, ◌-◌, ◌≤◌, ◌<◌}
use native.Mathlib.Omega.{arith}
use Rattle.octets.specs.Pick.{◌or◌}
use Rattle.octets.specs.laws.Pick.{or-false, and_go, and_stop}
use Rattle.octets.specs.Class.{upper}
use Rattle.octets.specs.Words.{same, is_one_of, is_empty}
use Rattle.edition.specs.Edition.{decode}
use Rattle.edition.specs.declared.Edition.{Edition}
use Rattle.source.specs.Source.{rest, cuts}
use Rattle.read_text_line.specs.ContentLine.{ParamValue, param_value, next_value}
use Rattle.read_text_line.specs.Items.{items}
use Rattle.read_text_line.specs.Decoded.{decoded_value, values_in}
use Rattle.read_text_line.specs.laws.Decoded.{map_empty}
use Rattle.read_text_line.specs.Values.{ValueAt}
use Rattle.read_text_line.specs.declared.Malformed.{Malformed}
use Rattle.read_text_line.specs.declared.ValueCursors.{ValueCursors}
use Rattle.text.specs.Parameters.{is_word}
use Rattle.read_text_parameters.specs.Cutting.{name_cut}
use Rattle.read_text_parameters.specs.Comparing.{onto}
use Rattle.read_text_parameters.specs.laws.Cutting.{values_first, values_none}

take-onto : (b ns : List (List ℕ)) (j : ℕ) → take (length b + j) (onto b ns) ≡ onto b (take j ns)
unfolding onto
take-onto [] ns j = let e : 0 + j ≡ j = omega arith in ap (λ (i : ℕ). take i ns) e
take-onto (w ∷ b) ns j = let e : suc (length b) + j ≡ length b + suc j = omega arith in ap (λ (i : ℕ). take i (onto b (w ∷ ns))) e ∙ take-onto b (w ∷ ns) (suc j)

one_onto : (v : List ℕ) (b ns : List (List ℕ)) → is_one_of v (onto b ns) ≡ (is_one_of v b or is_one_of v ns)
unfolding onto is_one_of ◌or◌
one_onto v [] ns = refl
one_onto v (w ∷ b) ns = one_onto v b (w ∷ ns) ∙ go (is_one_of v b) (same v w)
  where
    go : (x y : Bool) → (x or (y or is_one_of v ns)) ≡ ((y or x) or is_one_of v ns)
    go true true = refl
    go true false = refl
    go false true = refl
    go false false = refl

pub before_one : (v : List ℕ) (b ns : List (List ℕ)) → is_one_of v (take (length b) (onto b ns)) ≡ is_one_of v b
unfolding is_one_of
before_one v b ns =
    let e : length b ≡ length b + 0 = omega arith in
    ap (λ (i : ℕ). is_one_of v (take i (onto b ns))) e ∙ ap (is_one_of v) (take-onto b ns 0) ∙ one_onto v b [] ∙ or-false (is_one_of v b)

-- ---- the first names of a list, compared one after another

module _ (w : List ℕ) where
  pub first_over : (k : ℕ) → is_one_of w (take k []) ≡ false
  unfolding is_one_of
  first_over zero = refl
  first_over (suc k) = refl

  pub first_zero : (k : ℕ) (ns : List (List ℕ)) → k ≤ 0 → is_one_of w (take k ns) ≡ false
  unfolding is_one_of
  first_zero zero ns h = refl
  first_zero (suc k) ns h = absurd (omega arith)

  module _ (x : List ℕ) (ns : List (List ℕ)) (k : ℕ) {t : Bool} (l : 0 < k) (e : t ≡ same w x) where
    one_more : is_one_of w (take k (x ∷ ns)) ≡ (same w x or is_one_of w (take (k - 1) ns))
    unfolding is_one_of
    one_more = let z : k ≡ suc (k - 1) = omega arith in ap (λ (i : ℕ). is_one_of w (take i (x ∷ ns))) z

    pub first_go : t ≡ false → is_one_of w (take k (x ∷ ns)) ≡ is_one_of w (take (k - 1) ns)
    unfolding ◌or◌
    first_go h = one_more ∙ rw (← e, h)

    pub first_halt : t ≡ true → is_one_of w (take k (x ∷ ns)) ≡ true
    unfolding ◌or◌
    first_halt h = one_more ∙ rw (← e, h)

-- ---- one word, in the encoding u of a value

module _ (ed : Edition) {m : ℕ} (y : cuts m ≡ true) (w : List ℕ) {s : List ℕ} {c : ℕ} {r : Result (Option ValueCursors) (Malformed ValueCursors)} (v : ValueAt param_value m s c r) where
  module _ {b : Bool} {vc : ValueCursors} (h : r ≡ Ok (Some vc)) (e : b ≡ same (upper (decode ed (rest m (take vc.to s) vc.from))) w) where
    pub word_one : {a : Bool} → b ≡ true → a ≡ is_empty (items next_value (rest m s vc.next)) → a ≡ is_word w (values_in ed m s c)
    word_one k f = and_go _ _ _ (sym e ∙ k) (f ∙ sym (map_empty (decoded_value ed) (items next_value (rest m s vc.next)))) ∙ sym (ap (λ (l : List ParamValue). is_word w (map (decoded_value ed) l)) (values_first y v h))

    pub word_other : b ≡ false → false ≡ is_word w (values_in ed m s c)
    word_other k = and_stop _ _ (sym e ∙ k) ∙ sym (ap (λ (l : List ParamValue). is_word w (map (decoded_value ed) l)) (values_first y v h))

  pub word_none : {x : Malformed ValueCursors} → r ≡ Err x → false ≡ is_word w (values_in ed m s c)
  word_none h = sym (ap (λ (l : List ParamValue). is_word w (map (decoded_value ed) l)) (values_none y v h))
