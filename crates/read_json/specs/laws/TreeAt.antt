-- Laws of the tokens from a place on, by the byte there.
--     at_separator, at_array, at_object, at_closing, at_string, at_word
--     tokens_past     past the end there are none;   elements_past, members_past
--     elements_are, members_are    by the tokens
use Rattle.std.specs.Prelude.{◌≡◌, true, false, ℕ, zero, suc, ◌+◌, ◌≤◌, ◌<◌, length, get_or, drop}
use Rattle.std.proofs.Math.Path.{refl, ap}
use Rattle.std.proofs.Common.{◌∙◌, arith, drop_of_length-le, drop-drop}
use mathlib.Core.List.{List, [], ◌∷◌}
use borrow.Author.Tests.{ne_eqb}
use Rattle.octets.specs.Pick.{pick, ◌or◌}
use Rattle.octets.specs.laws.Scan.{drop_next}
use Rattle.octets.specs.Scan.{span_len}
use Rattle.json_text.specs.Bytes.{begin_array, begin_object, quotation_mark}
use Rattle.json_text.specs.Strings.{quoted_length}
use Rattle.json_text.specs.Tree.{opens_array, opens_object, closes, is_closing, is_separator, is_scalar, string_token, word_token, tokens_by, scan, elements, members, no_elements, no_members}
use Rattle.read_json.specs.TreeAt.{tokens_at, elements_at, members_at}
use Rattle.read_json.specs.Pieces.{BeginsWord}

pub elements_are : (s : List ℕ) (p : ℕ) → elements_at s p ≡ elements (tokens_at s p) 0
unfolding elements_at
elements_are s p = refl

pub members_are : (s : List ℕ) (p : ℕ) → members_at s p ≡ members (tokens_at s p) 0
unfolding members_at
members_are s p = refl

pub tokens_past : (s : List ℕ) (p : ℕ) → length s ≤ p → tokens_at s p ≡ []
unfolding tokens_at scan
tokens_past s p h = rw (drop_of_length-le s h)

pub elements_past : (s : List ℕ) (p : ℕ) → length s ≤ p → elements_at s p ≡ no_elements
unfolding elements_at elements
elements_past s p h = rw (tokens_past s p h)

pub members_past : (s : List ℕ) (p : ℕ) → length s ≤ p → members_at s p ≡ no_members
unfolding members_at members
members_past s p h = rw (tokens_past s p h)

-- bytes passed over
scan_skip : (l : List ℕ) (q k : ℕ) → scan l q k ≡ scan (drop k l) (q + k) 0
unfolding scan
scan_skip l q zero = let z : q ≡ q + 0 = omega arith in ap (λ (n : ℕ). scan l n 0) z
scan_skip [] q (suc k) = refl
scan_skip (b ∷ l) q (suc k) = let z : q + 1 + k ≡ q + suc k = omega arith in scan_skip l (q + 1) k ∙ ap (λ (n : ℕ). scan (drop k l) n 0) z

module _ (s : List ℕ) (p : ℕ) (h : p < length s) where
  here : tokens_at s p ≡ tokens_by (get_or s p 0) (drop (p + 1) s) p (scan (drop (p + 1) s) (p + 1))
  unfolding tokens_at scan
  here = rw (drop_next s p h)

  after : (k : ℕ) → scan (drop (p + 1) s) (p + 1) k ≡ tokens_at s (p + 1 + k)
  unfolding tokens_at
  after k = scan_skip (drop (p + 1) s) (p + 1) k ∙ ap (λ (l : List ℕ). scan l (p + 1 + k) 0) (drop-drop k (p + 1) s)

  next : scan (drop (p + 1) s) (p + 1) 0 ≡ tokens_at s (p + 1)
  unfolding tokens_at
  next = refl

  pub at_separator : is_separator (get_or s p 0) ≡ true → tokens_at s p ≡ tokens_at s (p + 1)
  unfolding pick
  at_separator e = here ∙ rw (e, next)

  pub at_array : get_or s p 0 ≡ begin_array → tokens_at s p ≡ opens_array p ∷ tokens_at s (p + 1)
  unfolding pick ◌or◌
  at_array e = here ∙ rw (e, next)

  pub at_object : get_or s p 0 ≡ begin_object → tokens_at s p ≡ opens_object p ∷ tokens_at s (p + 1)
  unfolding pick ◌or◌
  at_object e = here ∙ rw (e, next)

  pub at_closing : is_separator (get_or s p 0) ≡ false → (get_or s p 0 ≡ begin_array → ⊥) → (get_or s p 0 ≡ begin_object → ⊥) → is_closing (get_or s p 0) ≡ true → tokens_at s p ≡ closes p ∷ tokens_at s (p + 1)
  unfolding pick
  at_closing n a o e = here ∙ rw (n, ne_eqb (get_or s p 0) begin_array a, ne_eqb (get_or s p 0) begin_object o, e, next)

  pub at_string : get_or s p 0 ≡ quotation_mark → tokens_at s p ≡ string_token p (drop (p + 1) s) ∷ tokens_at s (p + 1 + quoted_length (drop (p + 1) s))
  unfolding pick ◌or◌
  at_string e = here ∙ rw (e, after (quoted_length (drop (p + 1) s)))

  pub at_word : BeginsWord (get_or s p 0) → tokens_at s p ≡ word_token p (get_or s p 0) (drop (p + 1) s) ∷ tokens_at s (p + 1 + span_len is_scalar (drop (p + 1) s))
  unfolding pick
  at_word w =
      here
      ∙ rw (w.separates, ne_eqb (get_or s p 0) begin_array w.array, ne_eqb (get_or s p 0) begin_object w.object, w.closes, ne_eqb (get_or s p 0) quotation_mark w.quoted, after (span_len is_scalar (drop (p + 1) s)))
