-- A text of the grammar is accepted, or its fault is at an escape.
--     Fair             from a state on no fault is found, or one at a byte with which a text can go on
--     grammar_fair     so it is with each text of the grammar
use Rattle.std.specs.Prelude.{◌≡◌, ◌⊎◌, Bool, ℕ, suc, ◌+◌, ◌<◌, eqb, length, take, None, Some}
use Rattle.std.proofs.Math.Path.{refl, ap}
use Rattle.std.proofs.Common.{sym, ◌∙◌, inl, eqb-true}
use Rattle.std.proofs.Math.Logic.{inr}
use Rattle.std.proofs.Math.Bool.{true, false}
use mathlib.Core.List.{List, [], ◌∷◌}
use native.Mathlib.Omega.{arith}
use Rattle.octets.specs.Pick.{pick, ◌and◌, ◌or◌}
use Rattle.octets.specs.laws.Pick.{or_cases, eqb_apart}
use Rattle.octets.specs.Append.{◌⊕◌}
use Rattle.octets.specs.laws.Append.{append_cons, append_regroup, length_both}
use Rattle.json_text.specs.Bytes.{names_bad, is_high, is_low, named_bad}
use Rattle.json_text.specs.Check.{Container, check, followed, verdict}
use Rattle.json_text.specs.declared.Expect.TheVariants.{Value}
use Rattle.json_text.specs.declared.Inside.TheVariants.{Chars, Escape, High}
use Rattle.json_text.specs.declared.State.{State}
use Rattle.json_text.specs.declared.State.TheVariants.{Expects, InString}
use Rattle.json_grammar.specs.Grammar as grammar
use Rattle.json_grammar.specs.Grammar.{Byte, is_unescaped, is_escaped, is_hexdig, Char, unescaped, escaped, escaped_unit, spelled_chars, literal, empty_object, object, empty_array, array, number, string, Member, member, Members, no_members, and_member, Values, no_values, and_value, code_unit, every_string, every_string_member, every_string_members, every_string_values, GrammarText}
use Rattle.json_grammar.proofs.laws.Steps.{unit_on, escape_steps, plain_step, two_step}
use Rattle.json_grammar.proofs.laws.Onward.{Onward, Strings, step, text_on}
use Rattle.json_grammar.proofs.laws.Ready.{ready_string}

-- a fault at the byte p of s, with which the bytes up to it can go on
pub record Later (limit : ℕ) (st : State) (cs : List Container) (i : ℕ) (s : List ℕ) : Type 0 where
  pub p : ℕ
  pub inside : p < length s
  pub at : check s limit i st cs ≡ Some (i + p)
  pub tail : List ℕ
  pub goes : check (take (p + 1) s ⊕ tail) limit i st cs ≡ None

abbrev pub Fair : ℕ → State → List Container → List ℕ → Type 0
Fair limit st cs s = (i : ℕ) → (check s limit i st cs ≡ None) ⊎ Later limit st cs i s

take_behind : (l s : List ℕ) (m : ℕ) → take (length l + m) (l ⊕ s) ≡ l ⊕ take m s
unfolding ◌⊕◌
take_behind [] s m = let j : 0 + m ≡ m = omega arith in rw j
take_behind (b ∷ l) s m = let j : suc (length l) + m ≡ suc (length l + m) = omega arith in rw j (ap (λ (x : List ℕ). b ∷ x) (take_behind l s m))

module _ (limit : ℕ) where
  fair_chunk : (l : List ℕ) (st st' : State) (cs cs' : List Container) → ((i : ℕ) (u : List ℕ) → check (l ⊕ u) limit i st cs ≡ check u limit (i + length l) st' cs') →
      (s : List ℕ) → Fair limit st' cs' s → Fair limit st cs (l ⊕ s)
  fair_chunk l st st' cs cs' f s h i = go (h (i + length l))
    where
      go : (check s limit (i + length l) st' cs' ≡ None) ⊎ Later limit st' cs' (i + length l) s → (check (l ⊕ s) limit i st cs ≡ None) ⊎ Later limit st cs i (l ⊕ s)
      go (inl e) = inl (f i s ∙ e)
      go (inr x) =
          let j : i + length l + x.p ≡ i + (length l + x.p) = omega arith in
          let k : length l + x.p + 1 ≡ length l + (x.p + 1) = omega arith in
          inr (record {
            p = length l + x.p;
            inside = omega (arith, x.inside, length_both l s);
            at = f i s ∙ x.at ∙ ap (λ (m : ℕ). Some m) j;
            tail = x.tail;
            goes = rw (k, take_behind l s (x.p + 1), append_regroup l (take (x.p + 1) s) x.tail) (f i (take (x.p + 1) s ⊕ x.tail) ∙ x.goes);
          })

  take_one : (b : ℕ) (s t : List ℕ) (p : ℕ) → take (p + 1) (b ∷ s) ⊕ t ≡ b ∷ (take p s ⊕ t)
  take_one b s t p = let j : p + 1 ≡ suc p = omega arith in rw j (append_cons b (take p s) t)

  fair_same : (st st' : State) (cs : List Container) (b : ℕ) → ((i : ℕ) (u : List ℕ) → check (b ∷ u) limit i st cs ≡ check (b ∷ u) limit i st' cs) → (s : List ℕ) → Fair limit st' cs (b ∷ s) → Fair limit st cs (b ∷ s)
  fair_same st st' cs b f s h i = go (h i)
    where
      go : (check (b ∷ s) limit i st' cs ≡ None) ⊎ Later limit st' cs i (b ∷ s) → (check (b ∷ s) limit i st cs ≡ None) ⊎ Later limit st cs i (b ∷ s)
      go (inl e) = inl (f i s ∙ e)
      go (inr x) = inr (record {
        p = x.p;
        inside = x.inside;
        at = f i s ∙ x.at;
        tail = x.tail;
        goes = rw (take_one b s x.tail x.p) (f i (take x.p s ⊕ x.tail) ∙ (rw (take_one b s x.tail x.p) at x.goes));
      })

  fair_ends : (st st' : State) (cs : List Container) → ((i : ℕ) → check [] limit i st cs ≡ check [] limit i st' cs) → Fair limit st' cs [] → Fair limit st cs []
  fair_ends st st' cs f h i = go (h i)
    where
      go : (check [] limit i st' cs ≡ None) ⊎ Later limit st' cs i [] → (check [] limit i st cs ≡ None) ⊎ Later limit st cs i []
      go (inl e) = inl (f i ∙ e)
      go (inr x) = absurd (omega (arith, x.inside))

  fair_first : (st : State) (cs : List Container) (b : ℕ) (s : List ℕ) → Fair limit st cs (b ∷ s) → (u : List ℕ) × (check (b ∷ u) limit 0 st cs ≡ None)
  fair_first st cs b s h = go (h 0)
    where
      go : (check (b ∷ s) limit 0 st cs ≡ None) ⊎ Later limit st cs 0 (b ∷ s) → (u : List ℕ) × (check (b ∷ u) limit 0 st cs ≡ None)
      go (inl e) = (s, e)
      go (inr x) = (take x.p s ⊕ x.tail, rw (take_one b s x.tail x.p) at x.goes)

  fair_onward : Onward limit (Fair limit)
  fair_onward = record { chunk = fair_chunk; same = fair_same; ends = fair_ends; first = fair_first }

  -- ---- strings

  module _ (cs : List Container) (n : Bool) where
    abbrev in_chars : State
    in_chars = InString n Chars

    -- an escape that names what it may not
    at_escape : (s : List ℕ) → ((i : ℕ) → check (92 ∷ s) limit i in_chars cs ≡ Some i) → Fair limit in_chars cs (92 ∷ s)
    unfolding check followed pick ◌⊕◌
    at_escape s f i =
        let g = ready_string limit n (Escape i) tt cs in
        let j : i + 0 ≡ i = omega arith in
        inr (record { p = 0; inside = omega arith; at = f i ∙ ap (λ (k : ℕ). Some k) (sym j); tail = g.0; goes = g.1 (i + 1) })

    two_bad : (b : Byte is_escaped) → names_bad b.byte ≡ true → (i : ℕ) (s : List ℕ) → check (92 ∷ b.byte ∷ s) limit i in_chars cs ≡ Some i
    unfolding check followed pick ◌and◌ ◌or◌
    two_bad b h i s =
        or_cases (eqb b.byte 0x62) _ h (λ e. rw (eqb-true b.byte 0x62 e))
        (λ h. or_cases (eqb b.byte 0x66) _ h (λ e. rw (eqb-true b.byte 0x66 e)) (λ e. rw (eqb-true b.byte 0x72 e)))

    -- behind a high surrogate: what is no escape of digits
    high_bad : (from : ℕ) →
        ((b : ℕ) (i : ℕ) (s : List ℕ) → eqb b 92 ≡ false → check (b ∷ s) limit i (InString n (High from)) cs ≡ Some from)
        × ((b : ℕ) (i : ℕ) (s : List ℕ) → eqb b 117 ≡ false → check (92 ∷ b ∷ s) limit i (InString n (High from)) cs ≡ Some from)
    unfolding check followed pick
    high_bad from = (λ b i s e. rw e, λ b i s e. rw e)

    apart : (eqb 34 92 ≡ false) × ((b : Byte is_unescaped) → eqb b.byte 92 ≡ false) × ((b : Byte is_escaped) → eqb b.byte 117 ≡ false)
    unfolding ◌and◌ ◌or◌
    apart = (refl, λ b. eqb_apart is_unescaped b.byte 92 b.passes refl, λ b. eqb_apart is_escaped b.byte 117 b.passes refl)

    module _ (a b c d : Byte is_hexdig) where
      abbrev bytes_of : List ℕ → List ℕ
      bytes_of s = 92 ∷ 117 ∷ a.byte ∷ b.byte ∷ c.byte ∷ d.byte ∷ s

      abbrev unit_of : ℕ
      unit_of = code_unit a.byte b.byte c.byte d.byte

      unit_high : is_high unit_of ≡ true → (i : ℕ) (s : List ℕ) → check (bytes_of s) limit i in_chars cs ≡ check s limit (i + 6) (InString n (High i)) cs
      unfolding followed pick
      unit_high e i s =
          let j : i + 1 + 1 + 1 + 1 + 1 + 1 ≡ i + 6 = omega arith in
          (escape_steps limit cs n 0 i _).0 ∙ (unit_on limit cs n a b c d i (i + 1 + 1) s).0 ∙ rw (e, j)

      unit_bad : is_high unit_of ≡ false → named_bad unit_of ≡ true → (i : ℕ) (s : List ℕ) → check (bytes_of s) limit i in_chars cs ≡ Some i
      unfolding followed pick
      unit_bad e f i s = (escape_steps limit cs n 0 i _).0 ∙ (unit_on limit cs n a b c d i (i + 1 + 1) s).0 ∙ rw (e, f)

      unit_good : is_high unit_of ≡ false → named_bad unit_of ≡ false → (i : ℕ) (s : List ℕ) → check (bytes_of s) limit i in_chars cs ≡ check s limit (i + 6) in_chars cs
      unfolding followed pick
      unit_good e f i s =
          let j : i + 1 + 1 + 1 + 1 + 1 + 1 ≡ i + 6 = omega arith in
          (escape_steps limit cs n 0 i _).0 ∙ (unit_on limit cs n a b c d i (i + 1 + 1) s).0 ∙ rw (e, f, j)

      low_good : is_low unit_of ≡ true → (from i : ℕ) (s : List ℕ) → check (bytes_of s) limit i (InString n (High from)) cs ≡ check s limit (i + 6) in_chars cs
      unfolding followed pick
      low_good e from i s =
          let j : i + 1 + 1 + 1 + 1 + 1 + 1 ≡ i + 6 = omega arith in
          (escape_steps limit cs n from i _).1 ∙ (unit_on limit cs n a b c d from (i + 1 + 1) s).1 ∙ rw (e, j)

      low_bad : is_low unit_of ≡ false → (from i : ℕ) (s : List ℕ) → check (bytes_of s) limit i (InString n (High from)) cs ≡ Some from
      unfolding followed pick
      low_bad e from i s = (escape_steps limit cs n from i _).1 ∙ (unit_on limit cs n a b c d from (i + 1 + 1) s).1 ∙ rw e

      -- a unit, with s behind it: fair where s is, and where a high one is faulted
      unit_fair : (s : List ℕ) → Fair limit in_chars cs s → (is_high unit_of ≡ true → Fair limit in_chars cs (bytes_of s)) → Fair limit in_chars cs (bytes_of s)
      unfolding ◌⊕◌
      unit_fair s h g = go (is_high unit_of) refl (named_bad unit_of) refl
        where
          go : (t : Bool) → is_high unit_of ≡ t → (v : Bool) → named_bad unit_of ≡ v → Fair limit in_chars cs (bytes_of s)
          go true e v f = g e
          go false e true f = at_escape _ (λ i. unit_bad e f i s)
          go false e false f = fair_chunk (92 ∷ 117 ∷ a.byte ∷ b.byte ∷ c.byte ∷ d.byte ∷ []) in_chars in_chars cs cs (unit_good e f) s h

    pair_fair : (a b c d e f g k : Byte is_hexdig) (s : List ℕ) → is_high (code_unit a.byte b.byte c.byte d.byte) ≡ true → Fair limit in_chars cs s → Fair limit in_chars cs (bytes_of a b c d (bytes_of e f g k s))
    unfolding ◌⊕◌
    pair_fair a b c d e f g k s z h = go (is_low (code_unit e.byte f.byte g.byte k.byte)) refl
      where
        go : (t : Bool) → is_low (code_unit e.byte f.byte g.byte k.byte) ≡ t → Fair limit in_chars cs (bytes_of a b c d (bytes_of e f g k s))
        go true q = fair_chunk (bytes_of a b c d (bytes_of e f g k [])) in_chars in_chars cs cs (λ i u. let j : i + 6 + 6 ≡ i + 12 = omega arith in unit_high a b c d z i (bytes_of e f g k u) ∙ low_good e f g k q i (i + 6) u ∙ rw j) s h
        go false q = at_escape _ (λ i. unit_high a b c d z i (bytes_of e f g k s) ∙ low_bad e f g k q i (i + 6) s)

    module _ (r : List ℕ) (h : Fair limit in_chars cs (34 ∷ r)) where
      two_fair : (b : Byte is_escaped) (s : List ℕ) → Fair limit in_chars cs s → Fair limit in_chars cs (92 ∷ b.byte ∷ s)
      unfolding ◌⊕◌
      two_fair b s h = go (names_bad b.byte) refl
        where
          go : (t : Bool) → names_bad b.byte ≡ t → Fair limit in_chars cs (92 ∷ b.byte ∷ s)
          go true e = at_escape _ (λ i. two_bad b e i s)
          go false e = fair_chunk (92 ∷ b.byte ∷ []) in_chars in_chars cs cs (λ i u. let j : i + 1 + 1 ≡ i + 2 = omega arith in two_step limit cs n b e i u ∙ rw j) s h

      chars_fair : (us : List Char) → Fair limit in_chars cs (spelled_chars us ⊕ (34 ∷ r))
      unfolding spelled_chars ◌⊕◌
      chars_fair [] = h
      chars_fair (unescaped b ∷ us) = step limit (Fair limit) fair_onward b.byte in_chars in_chars cs cs (plain_step limit cs n b) _ (chars_fair us)
      chars_fair (escaped b ∷ us) = two_fair b _ (chars_fair us)
      chars_fair (escaped_unit a b c d ∷ []) =
          unit_fair a b c d (34 ∷ r) h (λ e. at_escape _ (λ i. unit_high a b c d e i (34 ∷ r) ∙ (high_bad i).0 34 (i + 6) r apart.0))
      chars_fair (escaped_unit a b c d ∷ unescaped x ∷ us) =
          unit_fair a b c d _ (chars_fair (unescaped x ∷ us)) (λ e. at_escape _ (λ i. unit_high a b c d e i _ ∙ (high_bad i).0 x.byte (i + 6) _ (apart.1 x)))
      chars_fair (escaped_unit a b c d ∷ escaped x ∷ us) =
          unit_fair a b c d _ (chars_fair (escaped x ∷ us)) (λ e. at_escape _ (λ i. unit_high a b c d e i _ ∙ (high_bad i).1 x.byte (i + 6) _ (apart.2 x)))
      chars_fair (escaped_unit a b c d ∷ escaped_unit e f g k ∷ us) =
          unit_fair a b c d _ (chars_fair (escaped_unit e f g k ∷ us)) (λ z. pair_fair a b c d e f g k _ z (chars_fair us))

  strings_fair : Strings (Fair limit) (λ us. true)
  strings_fair n cs us m r h = chars_fair cs n r h us

-- ---- texts

mutual
  unfolding every_string every_string_member every_string_members every_string_values ◌and◌

  any_value : (v : grammar.Value) → every_string (λ us. true) v ≡ true
  any_value (literal l) = refl
  any_value (empty_object o e) = refl
  any_value (object o m ms e) = rw (any_member m) (any_members ms)
  any_value (empty_array o e) = refl
  any_value (array o v vs e) = rw (any_value v) (any_values vs)
  any_value (number n) = refl
  any_value (string us) = refl

  any_member : (m : Member) → every_string_member (λ us. true) m ≡ true
  any_member (member us c v) = any_value v

  any_members : (ms : Members) → every_string_members (λ us. true) ms ≡ true
  any_members no_members = refl
  any_members (and_member c m ms) = rw (any_member m) (any_members ms)

  any_values : (vs : Values) → every_string_values (λ us. true) vs ≡ true
  any_values no_values = refl
  any_values (and_value c v vs) = rw (any_value v) (any_values vs)

pub grammar_fair : (most : ℕ) (s : List ℕ) → GrammarText most s → (verdict most s ≡ None) ⊎ Later most (Expects Value) [] 0 s
unfolding check
grammar_fair most s t =
    rw t.is (text_on most (Fair most) (fair_onward most) (λ us. true) (strings_fair most) t.text t.deep (any_value t.text.value) (λ i. inl refl) 0)
