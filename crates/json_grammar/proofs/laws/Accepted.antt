-- A text of the grammar whose strings name only what they may is accepted.
--     Accepts          the check of s, in a state and inside what is open, finds no fault, wherever s stands
--     text_accepted    a text is accepted
use Rattle.std.specs.Prelude.{◌≡◌, Bool, not, ℕ, ◌+◌, length, None}
use Rattle.std.proofs.Math.Path.{refl}
use Rattle.std.proofs.Common.{◌∙◌}
use Rattle.std.proofs.Math.Bool.{true, false}
use Rattle.std.proofs.lemmas.Bool.{false≢true}
use mathlib.Core.List.{List, [], ◌∷◌}
use Rattle.octets.specs.Pick.{pick, ◌and◌}
use Rattle.octets.specs.laws.Pick.{and_both}
use Rattle.octets.specs.Append.{◌⊕◌}
use Rattle.octets.specs.laws.Append.{append_empty, append_cons, append_regroup}
use Rattle.json_text.specs.Bytes.{names_bad, is_high, is_low, named_bad}
use Rattle.json_text.specs.Check.{Container, check, followed, named, low_pair, verdict}
use Rattle.json_text.specs.declared.Inside.TheVariants.{Chars, High}
use Rattle.json_text.specs.declared.State.{State}
use Rattle.json_text.specs.declared.State.TheVariants.{InString}
use Rattle.json_grammar.specs.Grammar.{Byte, is_hexdig, Char, unescaped, escaped, escaped_unit, spelled_chars, code_unit, may_name_unit, may_name, JsonText}
use Rattle.json_grammar.proofs.laws.Steps.{not-false, unit_on, escape_steps, plain_step, two_step}
use Rattle.json_grammar.proofs.laws.Onward.{Onward, Strings, text_on}

abbrev pub Accepts : ℕ → State → List Container → List ℕ → Type 0
Accepts limit st cs s = (i : ℕ) → check s limit i st cs ≡ None

pub accepts_onward : (limit : ℕ) → Onward limit (Accepts limit)
accepts_onward limit = record {
  chunk = λ l st st' cs cs' f s h i. f i s ∙ h (i + length l);
  same = λ st st' cs b f s h i. f i s ∙ h i;
  ends = λ st st' cs f h i. f i ∙ h i;
  first = λ st cs b s h. (s, h 0);
}

-- ---- strings

module _ (limit : ℕ) (cs : List Container) (n : Bool) where
  -- between characters; behind a high surrogate
  abbrev AcceptsIn : Bool → List ℕ → Type 0
  AcceptsIn false s = Accepts limit (InString n Chars) cs s
  AcceptsIn true s = (from : ℕ) → Accepts limit (InString n (High from)) cs s

  module _ (r : List ℕ) (h : Accepts limit (InString n Chars) cs (34 ∷ r)) where
    front : (a b c d : Byte is_hexdig) (us : List Char) → spelled_chars (escaped_unit a b c d ∷ us) ⊕ (34 ∷ r) ≡ 92 ∷ 117 ∷ a.byte ∷ b.byte ∷ c.byte ∷ d.byte ∷ (spelled_chars us ⊕ (34 ∷ r))
    unfolding spelled_chars ◌⊕◌
    front a b c d us = refl

    behind_unit : (v : ℕ) (us : List Char) (from i : ℕ) → may_name_unit false v (may_name us) ≡ true →
        (may_name us true ≡ true → AcceptsIn true (spelled_chars us ⊕ (34 ∷ r))) → (may_name us false ≡ true → AcceptsIn false (spelled_chars us ⊕ (34 ∷ r))) →
        followed (named n from v) limit i cs (check (spelled_chars us ⊕ (34 ∷ r)) limit (i + 1)) ≡ None
    unfolding followed pick
    behind_unit v us from i m f g = go (is_high v) refl m
      where
        go : (t : Bool) → is_high v ≡ t → pick t (may_name us true) (not (named_bad v) and may_name us false) ≡ true → followed (named n from v) limit i cs (check (spelled_chars us ⊕ (34 ∷ r)) limit (i + 1)) ≡ None
        go true e m = rw e (f m from (i + 1))
        go false e m = let q = and_both (not (named_bad v)) _ m in rw (e, not-false (named_bad v) q.0) (g q.1 (i + 1))

    behind_low : (v : ℕ) (us : List Char) (from i : ℕ) → is_low v ≡ true → AcceptsIn false (spelled_chars us ⊕ (34 ∷ r)) →
        followed (low_pair n from v) limit i cs (check (spelled_chars us ⊕ (34 ∷ r)) limit (i + 1)) ≡ None
    unfolding followed pick
    behind_low v us from i m g = rw m (g (i + 1))

    chars_on : (us : List Char) (high : Bool) → may_name us high ≡ true → AcceptsIn high (spelled_chars us ⊕ (34 ∷ r))
    unfolding may_name spelled_chars
    chars_on [] false m = λ i. rw (append_empty (34 ∷ r)) (h i)
    chars_on [] true m = λ from i. absurd (false≢true m)
    chars_on (unescaped b ∷ us) false m = λ i.
        let q = and_both true _ m in
        rw (append_regroup (b.byte ∷ []) (spelled_chars us) (34 ∷ r), append_cons b.byte [] (spelled_chars us ⊕ (34 ∷ r)), append_empty (spelled_chars us ⊕ (34 ∷ r)))
        (plain_step limit cs n b i _ ∙ chars_on us false q.1 (i + 1))
    chars_on (unescaped b ∷ us) true m = λ from i. absurd (false≢true (and_both false _ m).0)
    chars_on (escaped b ∷ us) false m = λ i.
        let q = and_both (not (names_bad b.byte)) _ (and_both true _ m).1 in
        rw (append_regroup (92 ∷ b.byte ∷ []) (spelled_chars us) (34 ∷ r), append_cons 92 (b.byte ∷ []) (spelled_chars us ⊕ (34 ∷ r)), append_cons b.byte [] (spelled_chars us ⊕ (34 ∷ r)), append_empty (spelled_chars us ⊕ (34 ∷ r)))
        (two_step limit cs n b (not-false (names_bad b.byte) q.0) i _ ∙ chars_on us false q.1 (i + 1 + 1))
    chars_on (escaped b ∷ us) true m = λ from i. absurd (false≢true (and_both false _ m).0)
    chars_on (escaped_unit a b c d ∷ us) false m = λ i.
        rw (front a b c d us)
        ((escape_steps limit cs n 0 i _).0 ∙ (unit_on limit cs n a b c d i (i + 1 + 1) (spelled_chars us ⊕ (34 ∷ r))).0
        ∙ behind_unit (code_unit a.byte b.byte c.byte d.byte) us i (i + 1 + 1 + 1 + 1 + 1) m (λ t. chars_on us true t) (λ t. chars_on us false t))
    chars_on (escaped_unit a b c d ∷ us) true m = λ from i.
        let q = and_both (is_low (code_unit a.byte b.byte c.byte d.byte)) _ m in
        rw (front a b c d us)
        ((escape_steps limit cs n from i _).1 ∙ (unit_on limit cs n a b c d from (i + 1 + 1) (spelled_chars us ⊕ (34 ∷ r))).1
        ∙ behind_low (code_unit a.byte b.byte c.byte d.byte) us from (i + 1 + 1 + 1 + 1 + 1) q.0 (chars_on us false q.1))

pub strings_accepted : (limit : ℕ) → Strings (Accepts limit) (λ us. may_name us false)
strings_accepted limit n cs us m r h = chars_on limit cs n r h us false m

pub text_accepted : (limit : ℕ) (s : List ℕ) → JsonText limit s → verdict limit s ≡ None
unfolding check
text_accepted limit s t =
    rw t.is (text_on limit (Accepts limit) (accepts_onward limit) (λ us. may_name us false) (strings_accepted limit) t.text t.deep t.names (λ i. refl) 0)
