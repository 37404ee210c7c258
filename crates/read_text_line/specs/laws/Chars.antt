-- The classes of characters of a content line, one within the other, for writers that know what they write.
--     safe_qsafe, qsafe_value    SAFE-CHAR within QSAFE-CHAR within VALUE-CHAR
--     visible_value              what shows is VALUE-CHAR
--     qsafe_safe                 QSAFE-CHARs without ";", ":" and "," are SAFE-CHARs
use Rattle.std.specs.Prelude.{◌≡◌, refl, true, false, List, [], ◌∷◌, ℕ, eqb}
use Rattle.std.proofs.Common.{arith, ne_eqb}
use Rattle.octets.specs.Pick.{pick, ◌or◌}
use Rattle.octets.specs.laws.Pick.{pick_no, or_no, or_neither, pick_first, pick_second, within_range, eqb_swap}
use Rattle.octets.specs.Scan.{all_of}
use Rattle.octets.specs.laws.Scan.{all_weaker}
use Rattle.octets.specs.Class.{is_visible}
use Rattle.octets.specs.Words.{holds}
use Rattle.octets.specs.laws.Words.{holds_split}
use Rattle.read_text_line.specs.ContentLine.{is_line_break, is_value_char, is_q_safe_char, is_safe_char}

safe_qsafe_char : (b : ℕ) → is_safe_char b ≡ true → is_q_safe_char b ≡ true
safe_qsafe_char b h =
    let p = or_neither (is_line_break b) (eqb b 34 or eqb b 59 or eqb b 58 or eqb b 44) (pick_second _ _ h).0 in
    let q = or_neither (eqb b 34) (eqb b 59 or eqb b 58 or eqb b 44) p.1 in
    pick_no _ false true (or_no (is_line_break b) (eqb b 34) p.0 q.0)

qsafe_value_char : (b : ℕ) → is_q_safe_char b ≡ true → is_value_char b ≡ true
qsafe_value_char b h = pick_no _ false true (or_neither (is_line_break b) (eqb b 34) (pick_second _ _ h).0).0

visible_value_char : (b : ℕ) → is_visible b ≡ true → is_value_char b ≡ true
visible_value_char b h =
    let l = within_range 33 126 b h in
    pick_no _ false true (or_no (eqb b 13) (eqb b 10) (ne_eqb b 13 (λ e. omega arith)) (ne_eqb b 10 (λ e. omega arith)))

pub safe_qsafe : (s : List ℕ) → all_of is_safe_char s ≡ true → all_of is_q_safe_char s ≡ true
safe_qsafe = all_weaker is_safe_char is_q_safe_char safe_qsafe_char

pub qsafe_value : (s : List ℕ) → all_of is_q_safe_char s ≡ true → all_of is_value_char s ≡ true
qsafe_value = all_weaker is_q_safe_char is_value_char qsafe_value_char

pub visible_value : (s : List ℕ) → all_of is_visible s ≡ true → all_of is_value_char s ≡ true
visible_value = all_weaker is_visible is_value_char visible_value_char

-- ---- a value that needs no quotes

pub qsafe_safe : (s : List ℕ) → all_of is_q_safe_char s ≡ true → holds 59 s ≡ false → holds 58 s ≡ false → holds 44 s ≡ false → all_of is_safe_char s ≡ true
unfolding all_of pick
qsafe_safe [] q a b c = refl
qsafe_safe (x ∷ s) q a b c =
    let e = pick_first (is_q_safe_char x) (all_of is_q_safe_char s) q in
    let p = or_neither (is_line_break x) (eqb x 34) (pick_second (is_line_break x or eqb x 34) true e.0).0 in
    let a' = holds_split 59 x s a in
    let b' = holds_split 58 x s b in
    let c' = holds_split 44 x s c in
    let t : is_safe_char x ≡ true = pick_no _ false true (or_no _ _ p.0 (or_no _ _ p.1 (or_no _ _ (eqb_swap 59 x a'.0) (or_no _ _ (eqb_swap 58 x b'.0) (eqb_swap 44 x c'.0))))) in
    rw t (qsafe_safe s e.1 a'.1 b'.1 c'.1)
