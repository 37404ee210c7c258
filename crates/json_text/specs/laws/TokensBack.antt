-- Strings, numbers and literals that are written are read back as one token each.
--     string_token_lem, name_token, number_token, literal_token
use Rattle.std.specs.Prelude.{◌≡◌, refl, Bool, true, false, ℕ, suc, ◌+◌, ◌<◌, eqb, length, drop}
use Rattle.std.proofs.Math.Path.{sym}
use Rattle.std.proofs.Common.{ap, ◌∙◌, arith, eqb-true}
use Rattle.std.proofs.lemmas.Bool.{false≢true, lt-leb}
use mathlib.Core.List.{List, [], ◌∷◌}
use Rattle.std.proofs.Math.Seq.{drop-append_seam}
use Rattle.octets.specs.Ascii.{ascii}
use Rattle.octets.specs.Pick.{pick, ◌and◌, ◌or◌}
use Rattle.octets.specs.laws.Pick.{and_no_left, or_cases, or_left, or_right, pick_case, eqb_apart, within_range}
use Rattle.octets.specs.Append.{◌⊕◌}
use Rattle.octets.specs.laws.Append.{append_empty, append_cons, append_regroup}
use Rattle.octets.specs.Scan.{span_len, all_of}
use Rattle.octets.specs.laws.Scan.{all_split, all_weaker}
use Rattle.octets.specs.Class.{is_digit, is_small, is_space}
use Rattle.octets.specs.Words.{same, is_one_of}
use Rattle.octets.specs.laws.Words.{same_true}
use Rattle.octets.specs.Runs.{after_run, stops}
use Rattle.octets.specs.laws.Runs.{span_front, run_front}
use Rattle.octets.specs.Front.{begins_by}
use Rattle.json_text.specs.Strings.{characters_by, characters_from, quoted_length, length_by, length_from}
use Rattle.json_text.specs.Strings as strings
use Rattle.json_text.specs.Tree.{string, number, literal, Token, name, scalar, is_scalar, string_token, word_token, scan}
use Rattle.json_text.specs.Write.{escaped_byte, escaped, quoted}
use Rattle.json_text.specs.Written.{is_number, literals}
use Rattle.json_text.specs.laws.Fronts.{follows, follows_case}
use Rattle.json_text.specs.laws.Text.{quoted_front}
use Rattle.json_text.specs.laws.Numbers.{is_number_byte, number_bytes, number_some}

-- ---- bytes passed over

scan_skip : (a r : List ℕ) (p : ℕ) → scan (a ⊕ r) p (length a) ≡ scan r (p + length a) 0
unfolding scan
scan_skip [] r p = rw (append_empty r) (ap (λ (n : ℕ). scan r n 0) (omega arith))
scan_skip (b ∷ a) r p = rw (append_cons b a r) (scan_skip a r (p + 1) ∙ ap (λ (n : ℕ). scan r n 0) (omega arith))

drop_front : (a r : List ℕ) → drop (length a) (a ⊕ r) ≡ r
unfolding ◌⊕◌
drop_front a r = drop-append_seam a r

-- ---- strings

byte_back : (b : ℕ) (y : List ℕ) → characters_from (escaped_byte b ⊕ y) 0 ≡ b ∷ characters_from y 0
unfolding characters_from characters_by strings.escaped pick ◌⊕◌
byte_back b y =
    pick_case P (eqb b 34) _ _ (λ e. rw (eqb-true b 34 e))
    (λ q. pick_case P (eqb b 92) _ _ (λ e. rw (eqb-true b 92 e))
    (λ k. pick_case P (eqb b 10) _ _ (λ e. rw (eqb-true b 10 e))
    (λ m. pick_case P (eqb b 9) _ _ (λ e. rw (eqb-true b 9 e)) (λ t. rw (q, k)))))
  where
    P : List ℕ → Type 0
    P bs = characters_from (bs ⊕ y) 0 ≡ b ∷ characters_from y 0

characters_back : (s r : List ℕ) → characters_from (escaped s ⊕ (34 ∷ r)) 0 ≡ s
unfolding escaped characters_from characters_by pick
characters_back [] r = rw (append_empty (34 ∷ r))
characters_back (b ∷ s) r =
    rw (append_regroup (escaped_byte b) (escaped s) (34 ∷ r)) (byte_back b (escaped s ⊕ (34 ∷ r)) ∙ ap (λ (l : List ℕ). b ∷ l) (characters_back s r))

byte_length : (b : ℕ) (y z : List ℕ) → length_from y 0 ≡ length z → length_from (escaped_byte b ⊕ y) 0 ≡ length (escaped_byte b ⊕ z)
unfolding length_from length_by strings.escaped pick ◌⊕◌
byte_length b y z h =
    pick_case P (eqb b 34) _ _ (λ e. ap (λ (n : ℕ). suc (suc n)) h)
    (λ q. pick_case P (eqb b 92) _ _ (λ e. ap (λ (n : ℕ). suc (suc n)) h)
    (λ k. pick_case P (eqb b 10) _ _ (λ e. ap (λ (n : ℕ). suc (suc n)) h)
    (λ m. pick_case P (eqb b 9) _ _ (λ e. ap (λ (n : ℕ). suc (suc n)) h) (λ t. rw (q, k) (ap (λ (n : ℕ). suc n) h)))))
  where
    P : List ℕ → Type 0
    P bs = length_from (bs ⊕ y) 0 ≡ length (bs ⊕ z)

length_back : (s r : List ℕ) → length_from (escaped s ⊕ (34 ∷ r)) 0 ≡ length (escaped s ⊕ (34 ∷ []))
unfolding escaped length_from length_by pick
length_back [] r = rw (append_empty (34 ∷ r), append_empty {A = ℕ} (34 ∷ []))
length_back (b ∷ s) r =
    rw (append_regroup (escaped_byte b) (escaped s) (34 ∷ r), append_regroup (escaped_byte b) (escaped s) (34 ∷ [])) (byte_length b (escaped s ⊕ (34 ∷ r)) (escaped s ⊕ (34 ∷ [])) (length_back s r))

-- the bytes behind the first quotation mark
module _ (s r : List ℕ) where
  abbrev string_body : List ℕ
  string_body = escaped s ⊕ (34 ∷ [])

  body_front : escaped s ⊕ (34 ∷ r) ≡ string_body ⊕ r
  unfolding ◌⊕◌
  body_front = sym (append_regroup (escaped s) (34 ∷ []) r)

  past_string : drop (quoted_length (escaped s ⊕ (34 ∷ r))) (escaped s ⊕ (34 ∷ r)) ≡ r
  past_string = rw (length_back s r, body_front) (drop_front string_body r)

  string_scan : (i : ℕ) → scan (quoted s ⊕ r) i 0 ≡ string_token i (escaped s ⊕ (34 ∷ r)) ∷ scan r (i + 1 + length string_body) 0
  unfolding scan pick ◌or◌
  string_scan i =
      rw (quoted_front s r)
      (ap (λ (ts : List Token). string_token i (escaped s ⊕ (34 ∷ r)) ∷ ts)
      (rw (length_back s r, body_front) (scan_skip string_body r (i + 1))))

  string_kind : (t : Bool) → begins_by (λ b. eqb b 58) (after_run is_space r) ≡ t → (i : ℕ) → string_token i (escaped s ⊕ (34 ∷ r)) ≡ pick t (name i s) (scalar (string i s))
  string_kind t h i = rw (past_string, h, characters_back s r)

no_colon : (r : List ℕ) → follows r ≡ true → begins_by (λ b. eqb b 58) (after_run is_space r) ≡ false
unfolding begins_by after_run span_len pick ◌or◌
no_colon r h = follows_case (λ r. begins_by (λ b. eqb b 58) (after_run is_space r) ≡ false) refl (λ s. refl) (λ s. refl) (λ s. refl) r h

colon_there : (r : List ℕ) → begins_by (λ b. eqb b 58) (after_run is_space (58 ∷ r)) ≡ true
unfolding begins_by after_run span_len pick ◌or◌
colon_there r = refl

pub string_token_lem : (s r : List ℕ) → follows r ≡ true → (i : ℕ) → (j : ℕ) × (scan (quoted s ⊕ r) i 0 ≡ scalar (string i s) ∷ scan r j 0)
unfolding pick
string_token_lem s r h i = (_, string_scan s r i ∙ ap (λ (t : Token). t ∷ scan r (i + 1 + length (escaped s ⊕ (34 ∷ []))) 0) (string_kind s r false (no_colon r h) i))

-- a name, with its colon
pub name_token : (n r : List ℕ) (i : ℕ) → (j : ℕ) × (scan (quoted n ⊕ (58 ∷ r)) i 0 ≡ name i n ∷ scan r j 0)
unfolding scan pick ◌or◌
name_token n r i = (_, string_scan n (58 ∷ r) i ∙ ap (λ (t : Token). t ∷ scan r (i + 1 + length (escaped n ⊕ (34 ∷ [])) + 1) 0) (string_kind n (58 ∷ r) true (colon_there r) i))

-- ---- numbers and literals

ended : (r : List ℕ) → follows r ≡ true → stops is_scalar r ≡ true
unfolding stops pick ◌and◌ ◌or◌
ended r h = follows_case (λ r. stops is_scalar r ≡ true) refl (λ s. refl) (λ s. refl) (λ s. refl) r h

span_word : (s r : List ℕ) → all_of is_scalar s ≡ true → follows r ≡ true → span_len is_scalar (s ⊕ r) ≡ length s
unfolding ◌⊕◌
span_word s r h f = span_front is_scalar s r h (ended r f)

-- the token of a word, and what follows it
word_back : (b : ℕ) (s r : List ℕ) (i : ℕ) → all_of is_scalar s ≡ true → follows r ≡ true → (t : Bool) → is_small b ≡ t →
    word_token i b (s ⊕ r) ∷ scan (s ⊕ r) (i + 1) (span_len is_scalar (s ⊕ r)) ≡ pick t (scalar (literal i (b ∷ s))) (scalar (number i (b ∷ s))) ∷ scan r (i + 1 + length s) 0
word_back b s r i h f t e = rw (e, run_front is_scalar s r h (ended r f), span_word s r h f, scan_skip s r (i + 1))

number_scalar : (b : ℕ) → is_number_byte b ≡ true → is_scalar b ≡ true
number_scalar b h =
    or_cases (is_digit b) _ h (λ e. or_left _ _ e)
    (λ h. or_cases (eqb b 45) _ h (λ e. or_right _ _ (or_right _ _ (or_right _ _ (or_left _ _ (or_left _ _ e))))) (λ e. or_right _ _ (or_right _ _ (or_right _ _ (or_right _ _ e)))))

number_not_small : (b : ℕ) → is_number_byte b ≡ true → is_small b ≡ false
number_not_small b h = and_no_left _ _ (lt-leb 97 b least)
  where
    least : b < 97
    least =
        or_cases (is_digit b) _ h (λ e. let r = within_range 48 57 b e in omega arith)
        (λ h. or_cases (eqb b 45) _ h (λ e. let q = eqb-true b 45 e in omega arith) (λ e. let q = eqb-true b 46 e in omega arith))

pub number_token : (s r : List ℕ) → is_number s ≡ true → follows r ≡ true → (i : ℕ) → (j : ℕ) × (scan (s ⊕ r) i 0 ≡ scalar (number i s) ∷ scan r j 0)
unfolding scan pick ◌and◌ ◌or◌
number_token s r h f i = number_some (λ s. all_of is_number_byte s ≡ true → (j : ℕ) × (scan (s ⊕ r) i 0 ≡ scalar (number i s) ∷ scan r j 0)) first s h (number_bytes s h)
  where
    first : (b : ℕ) (s : List ℕ) → all_of is_number_byte (b ∷ s) ≡ true → (j : ℕ) × (scan ((b ∷ s) ⊕ r) i 0 ≡ scalar (number i (b ∷ s)) ∷ scan r j 0)
    first b s h =
        let a = all_split is_number_byte b s h in (
          i + 1 + length s,
          rw (
            append_cons b s r,
            eqb_apart is_number_byte b 32 a.0 refl,
            eqb_apart is_number_byte b 9 a.0 refl,
            eqb_apart is_number_byte b 13 a.0 refl,
            eqb_apart is_number_byte b 10 a.0 refl,
            eqb_apart is_number_byte b 58 a.0 refl,
            eqb_apart is_number_byte b 44 a.0 refl,
            eqb_apart is_number_byte b 91 a.0 refl,
            eqb_apart is_number_byte b 123 a.0 refl,
            eqb_apart is_number_byte b 93 a.0 refl,
            eqb_apart is_number_byte b 125 a.0 refl,
            eqb_apart is_number_byte b 34 a.0 refl,
          )
              (word_back b s r i (all_weaker is_number_byte is_scalar number_scalar s a.1) f false (number_not_small b a.0)),
        )

pub literal_token : (s r : List ℕ) → is_one_of s literals ≡ true → follows r ≡ true → (i : ℕ) → (j : ℕ) × (scan (s ⊕ r) i 0 ≡ scalar (literal i s) ∷ scan r j 0)
unfolding is_one_of scan pick ◌and◌ ◌or◌ all_of
literal_token s r h f i =
    or_cases (same s (ascii "true")) _ h (λ e. rw (same_true s _ e) (i + 1 + length (ascii "rue"), rw (append_cons 116 (ascii "rue") r) (word_back 116 (ascii "rue") r i refl f true refl)))
    (λ h. or_cases (same s (ascii "false")) _ h (λ e. rw (same_true s _ e) (i + 1 + length (ascii "alse"), rw (append_cons 102 (ascii "alse") r) (word_back 102 (ascii "alse") r i refl f true refl)))
    (λ h. or_cases (same s (ascii "null")) _ h (λ e. rw (same_true s _ e) (i + 1 + length (ascii "ull"), rw (append_cons 110 (ascii "ull") r) (word_back 110 (ascii "ull") r i refl f true refl))) (λ h. absurd (false≢true h))))
