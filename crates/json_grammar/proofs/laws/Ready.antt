-- In each state of the check the bytes so far can go on to a text.
--     Plain st          the state is not one of the digits of an escape, nor behind a high surrogate
--     ready_plain       from such a state some bytes are accepted
--     naming_any        strings that may name anything
--     ready             from every state some bytes complete a text of the grammar
use Rattle.std.specs.Prelude.{◌≡◌, Bool}
use Rattle.std.proofs.Math.Path.{refl}
use Rattle.std.proofs.Common.{sym}
use Rattle.std.proofs.Math.Bool.{true, false}
use mathlib.Core.List.{List, [], ◌∷◌}
use Prim.Native.Nat.{ℕ, zero, suc, ◌+◌, ◌-◌, ◌/◌, ◌%◌, ◌≤◌}
use native.Mathlib.Omega.{arith}
use Rattle.std.proofs.Math.Dec.{eqb}
use borrow.Author.Tests.{eq-eqb, ne_eqb}
use Rattle.octets.specs.Pick.{pick, ◌and◌, ◌or◌}
use Rattle.octets.specs.Append.{◌⊕◌}
use Rattle.json_text.specs.Bytes.{names_bad, grown, hex_value}
use Rattle.json_text.specs.Check as check
use Rattle.json_text.specs.Check.{Container, check, followed}
use Rattle.json_text.specs.declared.Expect.{Expect}
use Rattle.json_text.specs.declared.Expect.TheVariants.{Value, ValueOrEnd, Name, NameOrEnd, Colon, After}
use Rattle.json_text.specs.declared.Number.{Number as NumberState}
use Rattle.json_text.specs.declared.Number.TheVariants.{Minus, Zero, Int, Point, Frac, E, Sign, Exp}
use Rattle.json_text.specs.declared.Inside.{Inside}
use Rattle.json_text.specs.declared.Inside.TheVariants.{Chars, Escape, Hex, High, HighEscape, Low}
use Rattle.json_text.specs.declared.State.{State}
use Rattle.json_text.specs.declared.State.TheVariants.{Expects, InLiteral, InNumber, InString}
use Rattle.json_grammar.specs.Grammar.{Byte, spelled_bytes, is_escaped, is_hexdig, Char}
use Rattle.json_grammar.proofs.laws.Onward.{ends_number}
use Rattle.json_grammar.proofs.laws.Accepted.{Accepts, accepts_onward}
use Rattle.json_grammar.proofs.laws.Rest.{Charred, Digited, Behind, Completes}
use Rattle.json_grammar.proofs.laws.Back.{Naming, unit_char, two_char, more_hex, three_digits}
use Rattle.json_grammar.proofs.laws.JsonGrammar.{completes}

-- what closes all that is open, the innermost first
abbrev closers : List Container → List ℕ
closers [] = []
closers (check.array ∷ cs) = 93 ∷ closers cs
closers (check.object ∷ cs) = 125 ∷ closers cs

abbrev pub PlainInside : Inside → Type 0
PlainInside Chars = Unit {0}
PlainInside (Escape from) = Unit {0}
PlainInside (Hex from k v) = ⊥
PlainInside (High from) = ⊥
PlainInside (HighEscape from) = ⊥
PlainInside (Low from k v) = ⊥

abbrev pub Plain : State → Type 0
Plain (Expects e) = Unit {0}
Plain (InLiteral w) = Unit {0}
Plain (InNumber n) = Unit {0}
Plain (InString n t) = PlainInside t

abbrev pub Ready : ℕ → State → List Container → Type 0
Ready limit st cs = (t : List ℕ) × Accepts limit st cs t

module _ (limit : ℕ) where
  closers_accepted : (cs : List Container) → Accepts limit (Expects After) cs (closers cs)
  unfolding check followed pick ◌and◌ ◌or◌
  closers_accepted [] i = refl
  closers_accepted (check.array ∷ cs) i = closers_accepted cs (i + 1)
  closers_accepted (check.object ∷ cs) i = closers_accepted cs (i + 1)

  -- an empty string is a value
  ready_expects : (e : Expect) (cs : List Container) → Ready limit (Expects e) cs
  unfolding check followed pick ◌and◌ ◌or◌
  ready_expects Value cs = (34 ∷ 34 ∷ closers cs, λ i. closers_accepted cs (i + 1 + 1))
  ready_expects ValueOrEnd cs = (34 ∷ 34 ∷ closers cs, λ i. closers_accepted cs (i + 1 + 1))
  ready_expects Name cs = (34 ∷ 34 ∷ 58 ∷ 34 ∷ 34 ∷ closers cs, λ i. closers_accepted cs (i + 1 + 1 + 1 + 1 + 1))
  ready_expects NameOrEnd cs = (34 ∷ 34 ∷ 58 ∷ 34 ∷ 34 ∷ closers cs, λ i. closers_accepted cs (i + 1 + 1 + 1 + 1 + 1))
  ready_expects Colon cs = (58 ∷ 34 ∷ 34 ∷ closers cs, λ i. closers_accepted cs (i + 1 + 1 + 1))
  ready_expects After cs = (closers cs, closers_accepted cs)

  ready_number : (n : NumberState) (cs : List Container) → Ready limit (InNumber n) cs
  unfolding check followed pick ◌and◌ ◌or◌
  ready_number Minus cs = (48 ∷ closers cs, λ i. (ends_number limit (Accepts limit) (accepts_onward limit) cs (closers cs) (closers_accepted cs)).0 (i + 1))
  ready_number Zero cs = (closers cs, (ends_number limit (Accepts limit) (accepts_onward limit) cs (closers cs) (closers_accepted cs)).0)
  ready_number Int cs = (closers cs, (ends_number limit (Accepts limit) (accepts_onward limit) cs (closers cs) (closers_accepted cs)).1)
  ready_number Point cs = (48 ∷ closers cs, λ i. (ends_number limit (Accepts limit) (accepts_onward limit) cs (closers cs) (closers_accepted cs)).2 (i + 1))
  ready_number Frac cs = (closers cs, (ends_number limit (Accepts limit) (accepts_onward limit) cs (closers cs) (closers_accepted cs)).2)
  ready_number E cs = (48 ∷ closers cs, λ i. (ends_number limit (Accepts limit) (accepts_onward limit) cs (closers cs) (closers_accepted cs)).3 (i + 1))
  ready_number Sign cs = (48 ∷ closers cs, λ i. (ends_number limit (Accepts limit) (accepts_onward limit) cs (closers cs) (closers_accepted cs)).3 (i + 1))
  ready_number Exp cs = (closers cs, (ends_number limit (Accepts limit) (accepts_onward limit) cs (closers cs) (closers_accepted cs)).3)

  -- the letters of w, one by one
  ready_literal : (fuel w : ℕ) → w ≤ fuel → (cs : List Container) → Ready limit (InLiteral w) cs
  unfolding check followed pick
  ready_literal zero w h cs =
      let a : w % 256 ≡ 0 = omega arith in
      let b : w / 256 ≡ 0 = omega arith in
      (0 ∷ closers cs, λ i. rw (eq-eqb 0 (w % 256) (sym a), eq-eqb (w / 256) 0 b) (closers_accepted cs (i + 1)))
  ready_literal (suc fuel) w h cs = go (eqb (w / 256) 0) refl (ready_literal fuel (w / 256) (omega arith) cs)
    where
      go : (t : Bool) → eqb (w / 256) 0 ≡ t → Ready limit (InLiteral (w / 256)) cs → Ready limit (InLiteral w) cs
      go true e r = (w % 256 ∷ closers cs, λ i. rw (eq-eqb (w % 256) (w % 256) refl, e) (closers_accepted cs (i + 1)))
      go false e r = (w % 256 ∷ r.0, λ i. rw (eq-eqb (w % 256) (w % 256) refl, e) (r.1 (i + 1)))

  pub ready_string : (n : Bool) (t : Inside) → PlainInside t → (cs : List Container) → Ready limit (InString n t) cs
  unfolding check followed pick ◌and◌ ◌or◌
  ready_string true Chars p cs = (34 ∷ 58 ∷ 34 ∷ 34 ∷ closers cs, λ i. closers_accepted cs (i + 1 + 1 + 1 + 1))
  ready_string false Chars p cs = (34 ∷ closers cs, λ i. closers_accepted cs (i + 1))
  ready_string true (Escape from) p cs = (110 ∷ 34 ∷ 58 ∷ 34 ∷ 34 ∷ closers cs, λ i. closers_accepted cs (i + 1 + 1 + 1 + 1 + 1))
  ready_string false (Escape from) p cs = (110 ∷ 34 ∷ closers cs, λ i. closers_accepted cs (i + 1 + 1))
  ready_string n (Hex from k v) p cs = absurd p
  ready_string n (High from) p cs = absurd p
  ready_string n (HighEscape from) p cs = absurd p
  ready_string n (Low from k v) p cs = absurd p

  pub ready_plain : (st : State) → Plain st → (cs : List Container) → Ready limit st cs
  ready_plain (Expects e) p cs = ready_expects e cs
  ready_plain (InLiteral w) p cs = ready_literal w w (omega arith) cs
  ready_plain (InNumber n) p cs = ready_number n cs
  ready_plain (InString n t) p cs = ready_string n t p cs

-- ---- strings that may name anything

abbrev pub anything : List Char → Bool → Bool
anything us high = true

pub naming_any : Naming anything
naming_any = record {
  nothing = refl;
  plain = λ b us h. refl;
  two = λ b us n h. refl;
  high = λ a b c d us e h. refl;
  other = λ a b c d us e f h. refl;
  low = λ a b c d us e h. refl;
}

abbrev pub Goes : ℕ → State → List Container → Type 0
Goes limit st cs = (t : List ℕ) × Completes limit anything st cs t

nought_hexdig : is_hexdig 48 ≡ true
unfolding ◌and◌ ◌or◌
nought_hexdig = refl

abbrev nought : Byte is_hexdig
nought = record { byte = 48; passes = nought_hexdig }

n_escaped : (is_escaped 110 ≡ true) × (names_bad 110 ≡ false)
unfolding ◌or◌
n_escaped = (refl, refl)

module _ (limit : ℕ) where
  -- anything may follow a high surrogate
  any_high : {R : List ℕ → Type 0} (t : List ℕ) → Charred limit anything false R t → Charred limit anything true R t
  any_high t c = record { it = record { chars = c.it.chars; named = refl }; rest = c.rest; is = c.is; on = c.on }

  -- noughts for the digits that are still to come
  any_digits : (k v : ℕ) (high : Bool) (R : List ℕ → Type 0) (t : List ℕ) → Charred limit anything false R t → (u : List ℕ) × Digited limit anything high k v R u
  unfolding spelled_bytes ◌⊕◌
  any_digits zero v high R t c =
      (48 ∷ t, λ ds l w. three_digits limit anything (λ ds. Charred limit anything high R (92 ∷ 117 ∷ (spelled_bytes ds ⊕ (48 ∷ t)))) (λ x y z. unit_char limit anything naming_any t x y z nought high false (λ us k. refl) c) ds (omega (arith, l)))
  any_digits (suc k) v high R t c =
      let q = any_digits k (grown v (hex_value 48)) high R t c in
      let j : suc k - 1 ≡ k = omega arith in
      (48 ∷ q.0, more_hex limit anything high (suc k) v nought q.0 (ne_eqb (suc k) 0 (λ e. omega arith)) (rw j q.1))

  module _ (cs : List Container) where
    goes_plain : (st : State) → Plain st → Goes limit st cs
    goes_plain st p = let r = ready_plain limit st p cs in (r.0, completes limit anything naming_any r.0 0 st cs (r.1 0))

    goes_string : (n : Bool) (t : Inside) → Goes limit (InString n t) cs
    goes_string n Chars = goes_plain (InString n Chars) tt
    goes_string n (Escape from) = goes_plain (InString n (Escape from)) tt
    goes_string n (Hex from k v) = let r = goes_plain (InString n Chars) tt in any_digits k v false (λ u. Behind limit anything n cs u) r.0 r.1
    goes_string n (High from) = let r = goes_plain (InString n Chars) tt in (r.0, any_high r.0 r.1)
    goes_string n (HighEscape from) =
        let r = goes_plain (InString n Chars) tt in
        (110 ∷ r.0, any_high (92 ∷ 110 ∷ r.0) (two_char limit anything naming_any r.0 (record { byte = 110; passes = n_escaped.0 }) n_escaped.1 r.1))
    goes_string n (Low from k v) = let r = goes_plain (InString n Chars) tt in any_digits k v true (λ u. Behind limit anything n cs u) r.0 r.1

  pub ready : (st : State) (cs : List Container) → Goes limit st cs
  ready (Expects e) cs = goes_plain cs (Expects e) tt
  ready (InLiteral w) cs = goes_plain cs (InLiteral w) tt
  ready (InNumber n) cs = goes_plain cs (InNumber n) tt
  ready (InString n t) cs = goes_string cs n t
