-- What is read as a content line is one, and the bytes are those that it is written with.
--     content_line_accepted      what is read is a content line of the grammar
--     content_line_write_back    what is read is written as it stood
use Rattle.std.specs.Prelude.{◌≡◌, refl, true, false, List, ◌∷◌, ℕ, None, Some}
use Rattle.std.proofs.Common.{ap, ◌∙◌}
use Rattle.octets.specs.Pick.{pick}
use Rattle.octets.specs.laws.Pick.{and_yes, pick_case}
use Rattle.octets.specs.Scan.{all_of}
use Rattle.octets.specs.Append.{◌⊕◌}
use Rattle.octets.specs.laws.Append.{append_empty, append_cons, append_regroup}
use Rattle.octets.specs.Class.{is_name_char}
use Rattle.octets.specs.Words.{is_empty}
use Rattle.octets.specs.Runs.{after_byte, after_run, run_of}
use Rattle.octets.specs.laws.Runs.{byte_case, run_joined, run_passes}
use Rattle.octets.specs.Lists.{every}
use Rattle.octets.specs.Reading.{provided}
use Rattle.octets.specs.laws.Reading.{none-some}
use Rattle.octets.specs.Many.{One, got, bad, All, ok, no, many}
use Rattle.octets.specs.laws.Many.{every_of_each, joined_all, many_read, bad-got, none-got}
use Rattle.read_text_line.specs.ContentLine.{ParamValue, RawParameter, ContentLine, is_q_safe_char, is_safe_char, is_value_char, is_name, is_param_value, is_raw_parameter, is_content_line, paramtext, quoted_string, param_value, next_value, with_values, with_first, param, next_param, with_value, content_line}
use Rattle.read_text_line.specs.Write.{write_param_value, write_parameter, write_content_line}
use Rattle.read_text_line.specs.laws.RoundTrip.{comma_value, write_param, parameter_parts}

-- v is a value that was read from s, with r left
record ReadValue (v : ParamValue) (r s : List ℕ) : Type 0 where
  valid : is_param_value v ≡ true
  written : write_param_value v ⊕ r ≡ s

record ReadParam (p : RawParameter) (r s : List ℕ) : Type 0 where
  valid : is_raw_parameter p ≡ true
  written : write_parameter p ⊕ r ≡ s

record ReadLine (l : ContentLine) (s : List ℕ) : Type 0 where
  valid : is_content_line l ≡ true
  written : write_content_line l ≡ s

-- ---- a value of a parameter

text_read : (s : List ℕ) (v : ParamValue) (r : List ℕ) → paramtext s ≡ got v r → ReadValue v r s
unfolding paramtext is_param_value write_param_value pick
text_read s v r e =
    let x : record { quoted = false; chars = run_of is_safe_char s } ≡ v = cc in
    let y : after_run is_safe_char s ≡ r = cc in
    rw (← x, ← y) (record { valid = run_passes is_safe_char s; written = run_joined is_safe_char s })

quoted_read : (s : List ℕ) (v : ParamValue) (r : List ℕ) → quoted_string s ≡ got v r → ReadValue v r (34 ∷ s)
unfolding quoted_string is_param_value write_param_value pick
quoted_read s v r =
    byte_case (λ o. o ≡ got v r → ReadValue v r (34 ∷ s)) 34 (after_run is_q_safe_char s) (got (record { quoted = true; chars = run_of is_q_safe_char s })) (bad s)
    (λ t q e.
    let x : record { quoted = true; chars = run_of is_q_safe_char s } ≡ v = cc in
    let y : t ≡ r = cc in
    rw (← x, ← y) (record { valid = run_passes is_q_safe_char s; written = rw (append_cons, append_regroup, append_cons, append_empty, q, run_joined) }))
    bad-got

value_read : (s : List ℕ) (v : ParamValue) (r : List ℕ) → param_value s ≡ got v r → ReadValue v r s
unfolding param_value
value_read s v r =
    byte_case (λ o. o ≡ got v r → ReadValue v r s) 34 s quoted_string (paramtext s)
    (λ t q e. rw (← q) (quoted_read t v r e))
    (text_read s v r)

pub next_value_read : (s : List ℕ) (v : ParamValue) (r : List ℕ) → next_value s ≡ got v r → (is_param_value v ≡ true) × (comma_value v r ≡ s)
unfolding next_value
next_value_read s v r =
    byte_case (λ o. o ≡ got v r → (is_param_value v ≡ true) × (comma_value v r ≡ s)) 44 s param_value One.none
    (λ t q e. let i = value_read t v r e in (i.valid, ap (λ (u : List ℕ). 44 ∷ u) i.written ∙ q))
    none-got

-- ---- a parameter

run_name : (s : List ℕ) → is_empty (run_of is_name_char s) ≡ false → is_name (run_of is_name_char s) ≡ true
unfolding is_name pick
run_name s e = rw e (run_passes is_name_char s)

values_read : (n : List ℕ) (v : ParamValue) (t u : List ℕ) (p : RawParameter) (r : List ℕ) → is_name n ≡ true → ReadValue v u t → with_values (many next_value u) n v ≡ got p r → ReadParam p r (59 ∷ (n ⊕ (61 ∷ t)))
unfolding with_values is_raw_parameter every pick
values_read n v t u p r hn i = go (many next_value u) refl
  where
    go : (o : All ParamValue) → many next_value u ≡ o → with_values o n v ≡ got p r → ReadParam p r (59 ∷ (n ⊕ (61 ∷ t)))
    go (ok vs w) k e =
        let j = many_read next_value comma_value (λ a. is_param_value a ≡ true) next_value_read u vs w k in
        let x : record { name = n; values = v ∷ vs } ≡ p = cc in
        let y : w ≡ r = cc in
        rw (← x, ← y) (record { valid = and_yes _ _ hn (and_yes _ _ i.valid (every_of_each is_param_value vs j.0)); written = parameter_parts n v vs w ∙ rw (j.1, i.written) })
    go (no w) k e = bad-got e

first_read : (n t : List ℕ) (p : RawParameter) (r : List ℕ) → is_name n ≡ true → with_first (param_value t) n ≡ got p r → ReadParam p r (59 ∷ (n ⊕ (61 ∷ t)))
unfolding with_first
first_read n t p r hn = go (param_value t) refl
  where
    go : (o : One ParamValue) → param_value t ≡ o → with_first o n ≡ got p r → ReadParam p r (59 ∷ (n ⊕ (61 ∷ t)))
    go (got v u) k e = values_read n v t u p r hn (value_read t v u k) e
    go One.none k e = bad-got e
    go (bad u) k e = bad-got e

param_read : (s : List ℕ) (p : RawParameter) (r : List ℕ) → param s ≡ got p r → ReadParam p r (59 ∷ s)
unfolding param
param_read s p r =
    let n : List ℕ = run_of is_name_char s in
    pick_case (λ o. o ≡ got p r → ReadParam p r (59 ∷ s)) (is_empty n) (bad s) (after_byte 61 (after_run is_name_char s) (λ t. with_first (param_value t) n) (bad s))
    (λ h. bad-got)
    (λ h. byte_case (λ o. o ≡ got p r → ReadParam p r (59 ∷ s)) 61 (after_run is_name_char s) (λ t. with_first (param_value t) n) (bad s)
    (λ t q e. rw (q, run_joined) at (first_read n t p r (run_name s h) e))
    bad-got)

pub next_param_read : (s : List ℕ) (p : RawParameter) (r : List ℕ) → next_param s ≡ got p r → (is_raw_parameter p ≡ true) × (write_param p r ≡ s)
unfolding next_param
next_param_read s p r =
    byte_case (λ o. o ≡ got p r → (is_raw_parameter p ≡ true) × (write_param p r ≡ s)) 59 s param One.none
    (λ t q e. let i = param_read t p r e in (i.valid, i.written ∙ q))
    none-got

-- ---- a content line

-- a value behind a name and parameters
rest_read : (n t : List ℕ) (l : ContentLine) → is_name n ≡ true → with_value (many next_param t) n ≡ Some l → ReadLine l (n ⊕ t)
unfolding with_value is_content_line write_content_line
rest_read n t l hn = go (many next_param t) refl
  where
    go : (o : All RawParameter) → many next_param t ≡ o → with_value o n ≡ Some l → ReadLine l (n ⊕ t)
    go (ok ps u) k =
        let j = many_read next_param write_param (λ p. is_raw_parameter p ≡ true) next_param_read t ps u k in
        byte_case (λ o. o ≡ Some l → ReadLine l (n ⊕ t)) 58 u (λ v. provided (all_of is_value_char v) (record { name = n; parameters = ps; value = v })) None
        (λ v q. pick_case (λ o. o ≡ Some l → ReadLine l (n ⊕ t)) (all_of is_value_char v) (Some (record { name = n; parameters = ps; value = v })) None
        (λ h e.
        let x : record { name = n; parameters = ps; value = v } ≡ l = cc in
        rw (← x) (record { valid = and_yes _ _ hn (and_yes _ _ (every_of_each is_raw_parameter ps j.0) h); written = ap (λ (w : List ℕ). n ⊕ w) (joined_all write_parameter ps (58 ∷ v) ∙ rw (q, j.1)) }))
        (λ h. none-some))
        none-some
    go (no u) k = none-some

line_read : (s : List ℕ) (l : ContentLine) → content_line s ≡ Some l → ReadLine l s
unfolding content_line
line_read s l =
    let n : List ℕ = run_of is_name_char s in
    pick_case (λ o. o ≡ Some l → ReadLine l s) (is_empty n) None (with_value (many next_param (after_run is_name_char s)) n)
    (λ h. none-some)
    (λ h e. rw run_joined at (rest_read n (after_run is_name_char s) l (run_name s h) e))

pub content_line_accepted : (s : List ℕ) (l : ContentLine) → content_line s ≡ Some l → is_content_line l ≡ true
content_line_accepted s l e = (line_read s l e).valid

pub content_line_write_back : (s : List ℕ) (l : ContentLine) → content_line s ≡ Some l → write_content_line l ≡ s
content_line_write_back s l e = (line_read s l e).written
