-- The bytes of escaped text (RFC 5545, section 3.3.11): a TEXT is written on one line.
--     text_one_line, each_one_line     what is written holds no LF; of one text, and of each of a list
--     text_no_return, each_no_return   it holds a CR only where the text has one
--     text_each                        it passes a test of each byte that the text passes
use Rattle.std.specs.Prelude.{◌≡◌, refl, Bool, true, false, List, [], ◌∷◌, map, ℕ, eqb}
use Rattle.std.proofs.lemmas.Bool.{false≢true}
use Rattle.octets.specs.Pick.{pick, ◌or◌}
use Rattle.octets.specs.laws.Pick.{eqb_swap}
use Rattle.octets.specs.Scan.{all_of}
use Rattle.octets.specs.laws.Scan.{all_append}
use Rattle.octets.specs.Append.{◌⊕◌}
use Rattle.octets.specs.Words.{holds, none_holds}
use Rattle.octets.specs.laws.Words.{holds_neither, none_split, holds_split}
use Rattle.texts.specs.Text.{is_escaped, escape_text, write_text}

escape_without : (x b : ℕ) → eqb x 92 ≡ false → eqb x 110 ≡ false → (eqb b 10 ≡ false → eqb x b ≡ false) → holds x (escape_text b) ≡ false
unfolding holds pick ◌or◌
escape_without x b p q h = newline (eqb b 10) refl
  where
    other : (t : Bool) → eqb x b ≡ false → holds x (pick t (92 ∷ b ∷ []) (b ∷ [])) ≡ false
    other true n = rw (p, n)
    other false n = rw n

    newline : (t : Bool) → eqb b 10 ≡ t → holds x (pick t (92 ∷ 110 ∷ []) (pick (is_escaped b) (92 ∷ b ∷ []) (b ∷ []))) ≡ false
    newline true e = rw (p, q)
    newline false e = other (is_escaped b) (h e)

-- no LF
pub text_one_line : (s : List ℕ) → holds 10 (write_text s) ≡ false
unfolding write_text holds
text_one_line [] = refl
text_one_line (b ∷ s) = holds_neither 10 (escape_text b) (write_text s) (escape_without 10 b refl refl (eqb_swap b 10)) (text_one_line s)

-- a CR only where the text has one
pub text_no_return : (s : List ℕ) → holds 13 s ≡ false → holds 13 (write_text s) ≡ false
unfolding write_text holds
text_no_return [] h = refl
text_no_return (b ∷ s) h =
    let q = holds_split 13 b s h in holds_neither 13 (escape_text b) (write_text s) (escape_without 13 b refl refl (λ e. q.0)) (text_no_return s q.1)

pub each_one_line : (ts : List (List ℕ)) → none_holds 10 (map write_text ts) ≡ true
unfolding none_holds pick
each_one_line [] = refl
each_one_line (t ∷ ts) = rw (text_one_line t) (each_one_line ts)

pub each_no_return : (ts : List (List ℕ)) → none_holds 13 ts ≡ true → none_holds 13 (map write_text ts) ≡ true
unfolding none_holds pick
each_no_return [] h = refl
each_no_return (t ∷ ts) h = let q = none_split 13 t ts h in rw (text_no_return t q.0) (each_no_return ts q.1)

-- a test that backslash and n pass is passed by what is written where the text passes it
pub text_each : (p : ℕ → Bool) → p 92 ≡ true → p 110 ≡ true → (s : List ℕ) → all_of p s ≡ true → all_of p (write_text s) ≡ true
unfolding write_text all_of pick
text_each p m n [] h = refl
text_each p m n (b ∷ s) h = go (p b) refl h (text_each p m n s)
  where
    other : (t : Bool) → p b ≡ true → all_of p (pick t (92 ∷ b ∷ []) (b ∷ [])) ≡ true
    other true e = rw (m, e)
    other false e = rw e

    escaped : (t : Bool) → p b ≡ true → all_of p (pick t (92 ∷ 110 ∷ []) (pick (is_escaped b) (92 ∷ b ∷ []) (b ∷ []))) ≡ true
    escaped true e = rw (m, n)
    escaped false e = other (is_escaped b) e

    go : (t : Bool) → p b ≡ t → pick t (all_of p s) false ≡ true → (all_of p s ≡ true → all_of p (write_text s) ≡ true) → all_of p (escape_text b ⊕ write_text s) ≡ true
    go true e k ih = all_append p (escape_text b) (write_text s) (escaped (eqb b 10) e) (ih k)
    go false e k ih = absurd (false≢true k)
