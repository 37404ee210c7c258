-- Laws of what specs/Spelling.antt defines.
--     Chars    a test that passes no other
--     chars_visible, chars_upper, chars_without    what follows for a spelling of such characters
--     marked_read_back, marked_accepted, marked_exact    what is read with marks, for any test
use Rattle.std.specs.Prelude.{◌≡◌, refl, Bool, true, false, List, [], ◌∷◌, ℕ, zero, suc, ◌+◌, ◌≤◌, eqb, length, Option, None, Some}
use Rattle.std.proofs.Common.{ap, ◌∙◌, arith, eq-eqb, eqb-true, leb-true, le-leb}
use Rattle.std.proofs.lemmas.Bool.{false≢true, lt-leb}
use Rattle.octets.specs.Pick.{pick, ◌and◌, ◌or◌}
use Rattle.octets.specs.laws.Pick.{and_yes, and_both, or_cases}
use Rattle.octets.specs.Scan.{all_of}
use Rattle.octets.specs.laws.Scan.{all_cons, all_weaker}
use Rattle.octets.specs.Class.{is_digit, is_small, is_visible, upper}
use Rattle.octets.specs.laws.Letters.{upper_same}
use Rattle.octets.specs.Words.{holds, is_empty}
use Rattle.octets.specs.laws.Words.{all_without}
use Rattle.octets.specs.Reading.{and_then, is_read, cons_read}
use Rattle.octets.specs.laws.Reading.{provided-some, and_then-some, cons_read-some, none-some}
use Rattle.times.specs.Spelling.{is_time_char, keep, begins, Mark, put_mark, take_mark, with_marks, without_marks, fits}

-- ---- the characters

char_least : (b : ℕ) → is_time_char b ≡ true → 43 ≤ b
unfolding is_time_char
char_least b h = or_cases _ _ h (λ d. omega (arith, leb-true 48 b (and_both _ _ d).0))
    (λ h. or_cases _ _ h (λ c. omega (arith, leb-true 65 b (and_both _ _ c).0))
    (λ h. or_cases _ _ h (λ e. omega (arith, eqb-true b 43 e)) (λ e. omega (arith, eqb-true b 45 e))))

char_most : (b : ℕ) → is_time_char b ≡ true → b ≤ 90
unfolding is_time_char
char_most b h = or_cases _ _ h (λ d. omega (arith, leb-true b 57 (and_both _ _ d).1))
    (λ h. or_cases _ _ h (λ c. omega (arith, leb-true b 90 (and_both _ _ c).1))
    (λ h. or_cases _ _ h (λ e. omega (arith, eqb-true b 43 e)) (λ e. omega (arith, eqb-true b 45 e))))

pub char_visible : (b : ℕ) → is_time_char b ≡ true → is_visible b ≡ true
unfolding ◌and◌
char_visible b h = rw (le-leb 33 b (omega (arith, char_least b h)), le-leb b 126 (omega (arith, char_most b h)))

char_not_small : (b : ℕ) → is_time_char b ≡ true → is_small b ≡ false
unfolding ◌and◌
char_not_small b h = rw (lt-leb 97 b (omega (arith, char_most b h)))

pub digit_char : (b : ℕ) → is_digit b ≡ true → is_time_char b ≡ true
unfolding is_time_char ◌or◌
digit_char b h = rw h

-- a test that passes spellings of these characters only
abbrev pub Chars : (List ℕ → Bool) → Type 0
Chars test = (s : List ℕ) → test s ≡ true → all_of is_time_char s ≡ true

pub chars_digits : Chars (all_of is_digit)
chars_digits s h = all_weaker is_digit is_time_char digit_char s h

pub chars_empty : Chars is_empty
unfolding all_of
chars_empty [] h = refl
chars_empty (b ∷ s) h = absurd (false≢true h)

pub chars_begins : (c : ℕ) (rest : List ℕ → Bool) → is_time_char c ≡ true → Chars rest → Chars (begins c rest)
unfolding begins
chars_begins c rest e r [] h = absurd (false≢true h)
chars_begins c rest e r (b ∷ s) h = all_cons is_time_char b s (rw (eqb-true b c (and_both _ _ h).0) e) (r s (and_both _ _ h).1)

pub chars_or : (p q : List ℕ → Bool) → Chars p → Chars q → Chars (λ s. p s or q s)
chars_or p q f g s h = or_cases (p s) (q s) h (λ e. f s e) (λ e. g s e)

-- what follows for such a spelling
pub chars_visible : (s : List ℕ) → all_of is_time_char s ≡ true → all_of is_visible s ≡ true
chars_visible s h = all_weaker is_time_char is_visible char_visible s h

pub chars_upper : (s : List ℕ) → all_of is_time_char s ≡ true → upper s ≡ s
chars_upper s h = upper_same is_time_char char_not_small s h

pub chars_without : (c : ℕ) → is_time_char c ≡ false → (s : List ℕ) → all_of is_time_char s ≡ true → holds c s ≡ false
chars_without c e s h = all_without is_time_char c e s h

pub chars_no_comma : (s : List ℕ) → all_of is_time_char s ≡ true → holds 44 s ≡ false
unfolding is_time_char ◌or◌ ◌and◌
chars_no_comma s h = chars_without 44 refl s h

pub chars_no_slash : (s : List ℕ) → all_of is_time_char s ≡ true → holds 47 s ≡ false
unfolding is_time_char ◌or◌ ◌and◌
chars_no_slash s h = chars_without 47 refl s h

-- ---- what is kept

pub keep_yes : (test : List ℕ → Bool) (v : List ℕ) → test v ≡ true → keep test v ≡ Some v
unfolding keep pick
keep_yes test v h = rw h

pub keep_is : (test : List ℕ → Bool) (s v : List ℕ) → keep test s ≡ Some v → s ≡ v
unfolding keep
keep_is test s v h = (provided-some (test s) s v h).1

pub keep_accepted : (test : List ℕ → Bool) (s v : List ℕ) → keep test s ≡ Some v → test v ≡ true
unfolding keep
keep_accepted test s v h = let p = provided-some (test s) s v h in rw (← p.1) p.0

-- what is kept is read exactly where it passes
pub keep_read : (test : List ℕ → Bool) (s : List ℕ) → is_read (keep test s) ≡ test s
unfolding keep is_read pick
keep_read test s = go (test s)
  where
    go : (t : Bool) → is_read (pick t (Some s) None) ≡ t
    go true = refl
    go false = refl

pub marked_accepted : (test : List ℕ → Bool) (o : Option (List ℕ)) (v : List ℕ) → and_then o (keep test) ≡ Some v → test v ≡ true
marked_accepted test o v h = let q = and_then-some o (keep test) v h in keep_accepted test q.0 v q.2

-- ---- marks that are put in are taken out, and only those

pub put_length : (n c : ℕ) (s : List ℕ) → length (put_mark n c s) ≡ suc (length s)
unfolding put_mark
put_length zero c s = refl
put_length (suc n) c [] = refl
put_length (suc n) c (b ∷ s) = ap suc (put_length n c s)

-- each mark is one character more
pub marks_length : (ms : List Mark) (s : List ℕ) → length (with_marks ms s) ≡ length ms + length s
unfolding with_marks
marks_length [] s = omega arith
marks_length (m ∷ ms) s = marks_length ms (put_mark m.place m.sign s) ∙ rw put_length (omega arith)

take_put : (n c : ℕ) (s : List ℕ) → n ≤ length s → take_mark n c (put_mark n c s) ≡ Some s
unfolding take_mark put_mark cons_read pick
take_put zero c s h = rw (eq-eqb c c refl)
take_put (suc n) c [] h = absurd (omega arith)
take_put (suc n) c (b ∷ s) h = rw (take_put n c s (omega arith))

take_exact : (n c : ℕ) (s v : List ℕ) → take_mark n c s ≡ Some v → s ≡ put_mark n c v
unfolding take_mark put_mark
take_exact zero c [] v h = none-some h
take_exact zero c (b ∷ s) v h =
    let p = provided-some (eqb b c) s v h in
    let q : b ≡ c = eqb-true b c p.0 in
    cc (p.1, q)
take_exact (suc n) c [] v h = none-some h
take_exact (suc n) c (b ∷ s) v h =
    let q = cons_read-some b (take_mark n c s) v h in rw (← q.2) (ap (λ (r : List ℕ). b ∷ r) (take_exact n c s q.0 q.1))

pub marks_taken_out : (ms : List Mark) (s : List ℕ) → fits ms (length s) ≡ true → without_marks ms (with_marks ms s) ≡ Some s
unfolding with_marks without_marks fits and_then
marks_taken_out [] s h = refl
marks_taken_out (m ∷ ms) s h =
    rw (marks_taken_out ms (put_mark m.place m.sign s) (rw put_length (and_both _ _ h).1))
    (take_put m.place m.sign s (leb-true _ _ (and_both _ _ h).0))

pub marks_exact : (ms : List Mark) (s v : List ℕ) → without_marks ms s ≡ Some v → s ≡ with_marks ms v
unfolding with_marks without_marks
marks_exact [] s v h = cc
marks_exact (m ∷ ms) s v h =
    let q = and_then-some (without_marks ms s) (take_mark m.place m.sign) v h in
    marks_exact ms s q.0 q.1 ∙ ap (with_marks ms) (take_exact m.place m.sign q.0 v q.2)

-- marks fit a longer spelling too
pub fits_longer : (ms : List Mark) (n k : ℕ) → fits ms n ≡ true → n ≤ k → fits ms k ≡ true
unfolding fits
fits_longer [] n k h l = refl
fits_longer (m ∷ ms) n k h l =
    and_yes _ _ (le-leb m.place k (omega (arith, leb-true m.place n (and_both _ _ h).0))) (fits_longer ms (suc n) (suc k) (and_both _ _ h).1 (omega arith))

-- reading without marks what was written with them, and only that
pub marked_read_back : (test : List ℕ → Bool) (ms : List Mark) (v : List ℕ) → test v ≡ true → fits ms (length v) ≡ true → and_then (without_marks ms (with_marks ms v)) (keep test) ≡ Some v
unfolding and_then
marked_read_back test ms v h k = rw (marks_taken_out ms v k) (keep_yes test v h)

pub marked_exact : (test : List ℕ → Bool) (ms : List Mark) (s v : List ℕ) → and_then (without_marks ms s) (keep test) ≡ Some v → s ≡ with_marks ms v
marked_exact test ms s v h =
    let q = and_then-some (without_marks ms s) (keep test) v h in
    marks_exact ms s q.0 q.1 ∙ ap (with_marks ms) (keep_is test q.0 v q.2)
