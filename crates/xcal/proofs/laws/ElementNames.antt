-- Names in capitals, as the calendar keeps them, and the names of their elements in small letters (RFC 6321, section 3).
--     upper-lower      a name in capitals is read back from its element's
--     lower-same       elements have the same name exactly where names in capitals are the same
--     no_capital       an element's name has no capital
--     lower-upper, upper_apart, kept_name    the name of an element without capitals, in capitals
--     element_name     the element of a name that is carried has a name as XML has it
use Rattle.std.specs.Prelude.{◌≡◌, refl, Bool, true, false, List, [], ◌∷◌, ℕ, ◌+◌, ◌≤◌, eqb, leb}
use Rattle.std.proofs.Common.{sym, ap, ◌∙◌, arith, le-leb}
use Rattle.std.proofs.lemmas.Bool.{false≢true, lt-leb}
use Rattle.octets.specs.Pick.{pick, ◌or◌}
use Rattle.octets.specs.laws.Pick.{within_yes, within_range, and_yes, and_no_right, or_left, or_right, or_no, and_both, or_neither, pick_second}
use Rattle.octets.specs.Scan.{all_of}
use Rattle.octets.specs.laws.Scan.{all_split}
use Rattle.octets.specs.Class.{is_digit, is_capital, is_small, is_alpha, is_name_char, upper_byte, lower_byte, upper, lower}
use Rattle.octets.specs.laws.Letters.{upper_twice, lower_any_case}
use Rattle.octets.specs.Words.{same}
use Rattle.octets.specs.laws.Words.{same_self, same_true}
use Rattle.read_text_line.specs.ContentLine.{is_name}
use Rattle.read_text_line.specs.Names.{starts_off_name, is_carried_name}
use Rattle.read_text_line.specs.laws.Names.{name_upper, carried_name_upper}
use Rattle.validity.specs.ValidCalendar.{is_kept_name}
use Rattle.validity.proofs.laws.ValidCalendar.{kept_parts}
use Rattle.xml.specs.Reads.{is_name as is_xml_name}
use Rattle.xcal.specs.Layout.{has_capital}

-- what a byte becomes, by cases: a capital is made small, another byte stays
lower_case : (P : ℕ → Type 0) (b : ℕ) → (65 ≤ b → b ≤ 90 → P (b + 32)) → (is_capital b ≡ false → P b) → P (lower_byte b)
unfolding pick
lower_case P b capital other = go (is_capital b) refl
  where
    go : (t : Bool) → is_capital b ≡ t → P (pick t (b + 32) b)
    go true e = let q = within_range 65 90 b e in capital q.0 q.1
    go false e = other e

small : (b : ℕ) → 65 ≤ b → b ≤ 90 → is_small (b + 32) ≡ true
small b l h = within_yes 97 122 (b + 32) (le-leb 97 (b + 32) (omega arith)) (le-leb (b + 32) 122 (omega arith))

upper_lower_byte : (b : ℕ) → upper_byte b ≡ b → upper_byte (lower_byte b) ≡ b
unfolding pick
upper_lower_byte b e = lower_case (λ x. upper_byte x ≡ b) b (λ l h. rw (small b l h) (omega arith)) (λ k. e)

pub upper-lower : (n : List ℕ) → upper n ≡ n → upper (lower n) ≡ n
unfolding upper lower
upper-lower [] e = refl
upper-lower (b ∷ n) e =
    let p : upper_byte b ≡ b = cc in
    let q : upper n ≡ n = cc in
    rw (upper_lower_byte b p, upper-lower n q)

pub lower-same : (m n : List ℕ) → upper m ≡ m → upper n ≡ n → same (lower m) (lower n) ≡ same m n
lower-same m n p q = go (same (lower m) (lower n)) refl (same m n) refl
  where
    go : (a : Bool) → same (lower m) (lower n) ≡ a → (b : Bool) → same m n ≡ b → a ≡ b
    go true e true k = refl
    go false e false k = refl
    go true e false k =
        let z : m ≡ n = sym (upper-lower m p) ∙ ap upper (same_true (lower m) (lower n) e) ∙ upper-lower n q in
        sym (same_self n) ∙ ap (λ (x : List ℕ). same x n) (sym z) ∙ k
    go false e true k = sym e ∙ ap (λ (x : List ℕ). same (lower m) (lower x)) (sym (same_true m n k)) ∙ same_self (lower m)

pub no_capital : (n : List ℕ) → has_capital (lower n) ≡ false
unfolding has_capital lower
no_capital [] = refl
no_capital (b ∷ n) = or_no (is_capital (lower_byte b)) (has_capital (lower n)) (lower_case (λ x. is_capital x ≡ false) b (λ l h. and_no_right (leb 65 (b + 32)) (leb (b + 32) 90) (lt-leb (b + 32) 90 (omega arith))) (λ e. e)) (no_capital n)

-- ---- names of elements

lower_alpha : (b : ℕ) → is_alpha b ≡ true → is_alpha (lower_byte b) ≡ true
lower_alpha b h = lower_case (λ x. is_alpha x ≡ true) b (λ l k. or_right (is_capital (b + 32)) (is_small (b + 32)) (small b l k)) (λ e. h)

lower_name_char : (b : ℕ) → is_name_char b ≡ true → is_name_char (lower_byte b) ≡ true
lower_name_char b h = lower_case (λ x. is_name_char x ≡ true) b (λ l k. or_left _ _ (or_right (is_capital (b + 32)) (is_small (b + 32)) (small b l k))) (λ e. h)

lower_name_chars : (n : List ℕ) → all_of is_name_char n ≡ true → all_of is_name_char (lower n) ≡ true
unfolding lower all_of pick
lower_name_chars [] h = refl
lower_name_chars (b ∷ n) h = let q = all_split is_name_char b n h in rw (lower_name_char b q.0) (lower_name_chars n q.1)

-- a name that is carried begins with a letter
begins_alpha : (b : ℕ) → is_name_char b ≡ true → (is_digit b or eqb b 45) ≡ false → is_alpha b ≡ true
unfolding ◌or◌
begins_alpha b h k = go (is_alpha b) refl h
  where
    go : (t : Bool) → is_alpha b ≡ t → (t or is_digit b or eqb b 45) ≡ true → t ≡ true
    go true e j = refl
    go false e j = sym k ∙ j

pub element_name : (n : List ℕ) → is_name n ≡ true → is_carried_name n ≡ true → is_xml_name (lower n) ≡ true
unfolding is_name is_carried_name starts_off_name is_xml_name lower all_of pick
element_name [] h c = absurd (false≢true h)
element_name (b ∷ n) h c =
    let q = all_split is_name_char b n h in
    let s = or_neither (is_digit b or eqb b 45) _ (pick_second _ true c).0 in
    and_yes _ _ (lower_alpha b (begins_alpha b q.0 s.0)) (lower_name_chars (b ∷ n) h)

-- ---- kept names

pub kept_upper : (n : List ℕ) → is_kept_name n ≡ true → upper n ≡ n
kept_upper n h = (kept_parts n h).0

pub kept_back : (n : List ℕ) → is_kept_name n ≡ true → upper (lower n) ≡ n
kept_back n h = upper-lower n (kept_upper n h)

pub kept_element : (n : List ℕ) → is_kept_name n ≡ true → is_xml_name (lower n) ≡ true
kept_element n h = let q = kept_parts n h in element_name n q.1 q.2

pub kept_carried : (n : List ℕ) → is_kept_name n ≡ true → is_carried_name (lower n) ≡ true
kept_carried n h = sym (carried_name_upper (lower n)) ∙ ap is_carried_name (kept_back n h) ∙ (kept_parts n h).2

-- ---- names that are read

small_stays : (m : List ℕ) → has_capital m ≡ false → lower m ≡ m
unfolding has_capital lower pick
small_stays [] h = refl
small_stays (b ∷ m) h = let q = or_neither (is_capital b) (has_capital m) h in rw (q.0, small_stays m q.1)

pub lower-upper : (m : List ℕ) → has_capital m ≡ false → lower (upper m) ≡ m
lower-upper m h = lower_any_case m ∙ small_stays m h

-- names without capitals are the same where they are in capitals
pub upper_apart : (m w : List ℕ) → has_capital m ≡ false → same m (lower w) ≡ false → same (upper m) w ≡ false
upper_apart m w h k = go (same (upper m) w) refl
  where
    go : (t : Bool) → same (upper m) w ≡ t → t ≡ false
    go true e = absurd (false≢true (sym k ∙ ap (λ (x : List ℕ). same x (lower w)) (sym (lower-upper m h) ∙ ap lower (same_true (upper m) w e)) ∙ same_self (lower w)))
    go false e = refl

pub kept_name : (m : List ℕ) → is_xml_name m ≡ true → is_carried_name m ≡ true → is_kept_name (upper m) ≡ true
unfolding is_xml_name is_name pick
kept_name m h c = and_yes _ _ (rw (upper_twice m) (same_self (upper m))) (and_yes _ _ (name_upper m (line_name m h)) (carried_name_upper m ∙ c))
  where
    line_name : (m : List ℕ) → is_xml_name m ≡ true → is_name m ≡ true
    line_name [] h = absurd (false≢true h)
    line_name (b ∷ m) h = (and_both _ _ h).1
