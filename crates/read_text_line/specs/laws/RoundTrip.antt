-- Content lines written and read back.
--     content_line_read_back    what is written of a content line is read as that content line
use Rattle.std.specs.Prelude.{◌≡◌, refl, Bool, true, false, List, [], ◌∷◌, map, ℕ, eqb, Some}
use Rattle.std.proofs.Common.{sym, ◌∙◌, arith}
use Rattle.std.proofs.lemmas.Bool.{false≢true}
use Rattle.octets.specs.Pick.{pick, ◌and◌, ◌or◌}
use Rattle.octets.specs.laws.Pick.{and_both, eqb_apart, pick_second}
use Rattle.octets.specs.Scan.{all_of}
use Rattle.octets.specs.laws.Scan.{all_split}
use Rattle.octets.specs.Append.{◌⊕◌, joined}
use Rattle.octets.specs.laws.Append.{append_empty, append_cons, append_regroup, length_both}
use Rattle.octets.specs.Class.{is_name_char}
use Rattle.octets.specs.Words.{is_empty, joined_by}
use Rattle.octets.specs.Runs.{after_byte, stops}
use Rattle.octets.specs.laws.Runs.{after_front, byte_missing, byte_there, run_front}
use Rattle.octets.specs.Lists.{every}
use Rattle.octets.specs.Many.{One, got, ok, many}
use Rattle.octets.specs.laws.Many.{write_all, Each, many_round, each_after_all, each_of_every, joined_all}
use Rattle.read_text_line.specs.ContentLine.{ParamValue, RawParameter, ContentLine, is_q_safe_char, is_safe_char, is_value_char, is_name, is_param_value, is_raw_parameter, is_content_line, paramtext, quoted_string, param_value, next_value, with_values, with_first, param, next_param, with_value, content_line}
use Rattle.read_text_line.specs.Write.{write_param_value, write_parameter, write_content_line}

-- ---- what may follow

abbrev is_byte : ℕ → ℕ → Bool
is_byte b x = eqb x b

-- what may follow a value of a parameter
record AfterValue (r : List ℕ) : Type 0 where
  safe : stops is_safe_char r ≡ true
  quote : stops (is_byte 34) r ≡ true

-- what may follow a parameter, or a name
record AfterParam (r : List ℕ) : Type 0 where
  safe : stops is_safe_char r ≡ true
  quote : stops (is_byte 34) r ≡ true
  comma : stops (is_byte 44) r ≡ true
  name : stops is_name_char r ≡ true

comma_follows : (r : List ℕ) → AfterValue (44 ∷ r)
unfolding stops pick ◌and◌ ◌or◌
comma_follows r = record { safe = refl; quote = refl }

semicolon_follows : (r : List ℕ) → AfterParam (59 ∷ r)
unfolding stops pick ◌and◌ ◌or◌
semicolon_follows r = record { safe = refl; quote = refl; comma = refl; name = refl }

colon_follows : (r : List ℕ) → AfterParam (58 ∷ r)
unfolding stops pick ◌and◌ ◌or◌
colon_follows r = record { safe = refl; quote = refl; comma = refl; name = refl }

-- ---- a value of a parameter

text_no_quote : (c r : List ℕ) → all_of is_safe_char c ≡ true → stops (is_byte 34) r ≡ true → stops (is_byte 34) (c ⊕ r) ≡ true
unfolding all_of stops pick ◌⊕◌ ◌or◌
text_no_quote [] r h g = g
text_no_quote (x ∷ c) r h g = rw (eqb_apart is_safe_char x 34 (all_split is_safe_char x c h).0 refl)

text_round : (c r : List ℕ) → all_of is_safe_char c ≡ true → AfterValue r → param_value (c ⊕ r) ≡ got (record { quoted = false; chars = c }) r
unfolding param_value paramtext
text_round c r h g = byte_missing 34 (c ⊕ r) quoted_string (paramtext (c ⊕ r)) (text_no_quote c r h g.quote) ∙ rw (run_front is_safe_char c r h g.safe, after_front is_safe_char c r h g.safe)

quote_stops : (r : List ℕ) → stops is_q_safe_char (34 ∷ r) ≡ true
unfolding stops pick ◌or◌
quote_stops r = refl

quoted_round : (c r : List ℕ) → all_of is_q_safe_char c ≡ true → param_value ((34 ∷ (c ⊕ 34 ∷ [])) ⊕ r) ≡ got (record { quoted = true; chars = c }) r
unfolding param_value quoted_string
quoted_round c r h = rw (append_cons, append_regroup, append_cons, append_empty, byte_there, after_front is_q_safe_char c (34 ∷ r) h (quote_stops r), run_front is_q_safe_char c (34 ∷ r) h (quote_stops r), byte_there)

value_round : (v : ParamValue) (r : List ℕ) → is_param_value v ≡ true → AfterValue r → param_value (write_param_value v ⊕ r) ≡ got v r
unfolding is_param_value write_param_value pick
value_round v r h g = go v.quoted v.chars h
  where
    go : (q : Bool) (c : List ℕ) → pick q (all_of is_q_safe_char c) (all_of is_safe_char c) ≡ true → param_value (pick q (34 ∷ (c ⊕ 34 ∷ [])) c ⊕ r) ≡ got (record { quoted = q; chars = c }) r
    go true c h = quoted_round c r h
    go false c h = text_round c r h g

abbrev pub comma_value : ParamValue → List ℕ → List ℕ
comma_value v r = 44 ∷ (write_param_value v ⊕ r)

values_round : (vs : List ParamValue) (r : List ℕ) → Each (λ v. is_param_value v ≡ true) vs → AfterParam r → (many next_value (write_all comma_value vs r) ≡ ok vs r) × AfterValue (write_all comma_value vs r)
unfolding next_value
values_round vs r h g =
    many_round next_value comma_value (λ v. is_param_value v ≡ true) AfterValue
    (λ v t f k. byte_there 44 (write_param_value v ⊕ t) param_value One.none ∙ value_round v t f k)
    (λ v t. omega (arith, length_both (write_param_value v) t))
    (λ v t k. comma_follows (write_param_value v ⊕ t)) vs r h (record { safe = g.safe; quote = g.quote }) (byte_missing 44 r param_value One.none g.comma)

-- ---- a parameter

equals_stops : (r : List ℕ) → stops is_name_char (61 ∷ r) ≡ true
unfolding stops pick ◌and◌ ◌or◌
equals_stops r = refl

-- a written parameter, with its first value apart
pub parameter_parts : (n : List ℕ) (v : ParamValue) (vs : List ParamValue) (r : List ℕ) → write_parameter (record { name = n; values = v ∷ vs }) ⊕ r ≡ 59 ∷ (n ⊕ (61 ∷ (write_param_value v ⊕ write_all comma_value vs r)))
unfolding write_parameter joined_by
parameter_parts n v vs r = rw (append_cons, append_regroup, append_cons, append_regroup, each_after_all 44 write_param_value vs r)

param_round : (n : List ℕ) (v : ParamValue) (vs : List ParamValue) (r : List ℕ) → is_name n ≡ true → is_param_value v ≡ true → Each (λ u. is_param_value u ≡ true) vs → AfterParam r → param (n ⊕ (61 ∷ (write_param_value v ⊕ write_all comma_value vs r))) ≡ got (record { name = n; values = v ∷ vs }) r
unfolding is_name param with_first with_values pick
param_round n v vs r hn hv hs g =
    let q = pick_second (is_empty n) (all_of is_name_char n) hn in
    let t : List ℕ = write_param_value v ⊕ write_all comma_value vs r in
    let i = values_round vs r hs g in
    rw (run_front is_name_char n (61 ∷ t) q.1 (equals_stops t), after_front is_name_char n (61 ∷ t) q.1 (equals_stops t), q.0, byte_there, value_round v (write_all comma_value vs r) hv i.1, i.0)

abbrev pub write_param : RawParameter → List ℕ → List ℕ
write_param p r = write_parameter p ⊕ r

parameter_round : (p : RawParameter) (r : List ℕ) → is_raw_parameter p ≡ true → AfterParam r → next_param (write_param p r) ≡ got p r
unfolding is_raw_parameter next_param every
parameter_round p r h g = let q = and_both (is_name p.name) (pick (is_empty p.values) false (every is_param_value p.values)) h in go p.name p.values q.0 (pick_second (is_empty p.values) (every is_param_value p.values) q.1)
  where
    go : (n : List ℕ) (vs : List ParamValue) → is_name n ≡ true → (is_empty vs ≡ false) × (every is_param_value vs ≡ true) → next_param (write_parameter (record { name = n; values = vs }) ⊕ r) ≡ got (record { name = n; values = vs }) r
    go n [] hn hs = absurd (false≢true (sym hs.0))
    go n (v ∷ vs) hn hs =
        let q = and_both (is_param_value v) (every is_param_value vs) hs.1 in
        rw (parameter_parts n v vs r, byte_there) (param_round n v vs r hn q.0 (each_of_every is_param_value vs q.1) g)

-- ---- a content line

parameters_round : (ps : List RawParameter) (r : List ℕ) → every is_raw_parameter ps ≡ true → AfterParam r → next_param r ≡ One.none → (many next_param (write_all write_param ps r) ≡ ok ps r) × AfterParam (write_all write_param ps r)
unfolding write_parameter
parameters_round ps r h g e =
    many_round next_param write_param (λ p. is_raw_parameter p ≡ true) AfterParam parameter_round (λ p t. omega (arith, length_both (write_parameter p) t)) (λ p t k. rw append_cons (semicolon_follows _)) ps r (each_of_every is_raw_parameter ps h) g e

no_parameter : (r : List ℕ) → next_param (58 ∷ r) ≡ One.none
unfolding next_param after_byte pick
no_parameter r = refl

line_round : (n : List ℕ) (ps : List RawParameter) (v : List ℕ) → is_name n ≡ true → every is_raw_parameter ps ≡ true → all_of is_value_char v ≡ true → content_line (n ⊕ joined (map write_parameter ps) ⊕ 58 ∷ v) ≡ Some (record { name = n; parameters = ps; value = v })
unfolding is_name content_line with_value pick
line_round n ps v hn hp hv =
    let q = pick_second (is_empty n) (all_of is_name_char n) hn in
    let i = parameters_round ps (58 ∷ v) hp (colon_follows v) (no_parameter v) in
    let t : List ℕ = write_all write_param ps (58 ∷ v) in
    rw (joined_all write_parameter ps (58 ∷ v), run_front is_name_char n t q.1 i.1.name, after_front is_name_char n t q.1 i.1.name, q.0, i.0, byte_there, hv)

pub content_line_read_back : (l : ContentLine) → is_content_line l ≡ true → content_line (write_content_line l) ≡ Some l
unfolding is_content_line write_content_line
content_line_read_back l h =
    let p = and_both (is_name l.name) (every is_raw_parameter l.parameters and all_of is_value_char l.value) h in
    let q = and_both (every is_raw_parameter l.parameters) (all_of is_value_char l.value) p.1 in
    line_round l.name l.parameters l.value p.0 q.0 q.1
