-- Among the digits of an escape: they can go on to name what they may, or never can.
--     hexes     one of the two, for each state
use Rattle.std.specs.Prelude.{◌≡◌, ◌⊎◌, Bool, ℕ, zero, suc, ◌+◌, ◌-◌, ◌%◌, ◌≤◌, ◌<◌, None, Some}
use Rattle.std.proofs.Math.Path.{refl}
use Rattle.std.proofs.Common.{sym, ◌∙◌, inl, inr, arith, le-leb, eqb-true}
use Rattle.std.proofs.Math.Bool.{true, false}
use mathlib.Core.List.{List, [], ◌∷◌}
use Rattle.std.proofs.Math.Dec.{eqb}
use Rattle.std.proofs.lemmas.Bool.{lt-leb}
use Rattle.octets.specs.Pick.{pick, within, ◌and◌, ◌or◌}
use Rattle.octets.specs.laws.Pick.{or_cases, or_left, or_right, within_range, within_yes, and_no_left, and_no_right}
use Rattle.octets.specs.laws.Append.{append_empty}
use Rattle.json_text.specs.Bytes.{hex_value, grown, is_high, is_low, named_bad}
use Rattle.json_text.specs.Check.{Container, check, followed, named}
use Rattle.json_text.specs.declared.Inside.TheVariants.{Chars, Escape, Hex, High, HighEscape, Low}
use Rattle.json_text.specs.declared.State.{State}
use Rattle.json_text.specs.declared.State.TheVariants.{Expects, InLiteral, InNumber, InString}
use Rattle.json_grammar.specs.Grammar.{is_hexdig}
use Rattle.json_grammar.proofs.laws.Steps.{fault_not_fine, hexdig_value, hex_step, hex_last}
use Rattle.json_grammar.proofs.laws.Back.{hexdig_is}
use Rattle.json_grammar.proofs.laws.Ready.{Ready, ready_string}
use Rattle.json_grammar.proofs.laws.Outcome.{IsHex, Never}

digit_bytes : (is_hexdig 48 ≡ true) × (is_hexdig 52 ≡ true) × (is_hexdig 57 ≡ true) × (hex_value 48 ≡ 0) × (hex_value 52 ≡ 4) × (hex_value 57 ≡ 9)
unfolding pick ◌and◌ ◌or◌
digit_bytes = (refl, refl, refl, refl, refl, refl)

-- three digits whose value is v: with any fourth they name a control, or a low surrogate
abbrev Bad3 : ℕ → Type 0
Bad3 v = (v % 0x1000 ≡ 1) ⊎ ((0xDC0 ≤ v % 0x1000) × (v % 0x1000 ≤ 0xDFF))

-- with 9 behind them
bad_nine : (v : ℕ) → named_bad (grown v 9) ≡ true → Bad3 v
bad_nine v h =
    or_cases (is_low (grown v 9)) _ h (λ e. let r = within_range 0xDC00 0xDFFF (grown v 9) e in inr (omega arith, omega arith))
    (λ h. or_cases (within 0x0 0x8 (grown v 9)) _ h (λ e. let r = within_range 0x0 0x8 (grown v 9) e in absurd (omega arith))
    (λ h. or_cases (within 0xB 0x1F (grown v 9)) _ h (λ e. let r = within_range 0xB 0x1F (grown v 9) e in inl (omega arith))
    (λ h. or_cases (eqb (grown v 9) 0x7F) _ h (λ e. let r = eqb-true (grown v 9) 0x7F e in absurd (omega arith))
    (λ e. let r = within_range 0xFFFE 0xFFFF (grown v 9) e in absurd (omega arith)))))

bad_any : (v d : ℕ) → Bad3 v → d < 16 → (is_high (grown v d) ≡ false) × (named_bad (grown v d) ≡ true)
bad_any v d (inl e) h = (
  and_no_left _ _ (lt-leb 0xD800 (grown v d) (omega arith)),
  or_right _ _ (or_right _ _ (or_left _ _ (within_yes 0xB 0x1F (grown v d) (le-leb 0xB (grown v d) (omega arith)) (le-leb (grown v d) 0x1F (omega arith))))),
)
bad_any v d (inr (l, m)) h = (
  and_no_right _ _ (lt-leb (grown v d) 0xDBFF (omega arith)),
  or_left _ _ (within_yes 0xDC00 0xDFFF (grown v d) (le-leb 0xDC00 (grown v d) (omega arith)) (le-leb (grown v d) 0xDFFF (omega arith))),
)

module _ (limit : ℕ) (n : Bool) (from : ℕ) (cs : List Container) where
  -- ---- never

  never_last : (v : ℕ) → Bad3 v → (i : ℕ) (t : List ℕ) → check t limit i (InString n (Hex from 0 v)) cs ≡ None → ⊥
  unfolding check followed pick
  never_last v z i [] h = fault_not_fine i h
  never_last v z i (b ∷ t) h = go (eqb (hex_value b) 16) refl
    where
      go : (e : Bool) → eqb (hex_value b) 16 ≡ e → ⊥
      go true e = fault_not_fine i (rw e at h)
      go false e =
          let x = hexdig_is b e in
          let q = bad_any v (hex_value b) z (hexdig_value b x) in
          let f : followed (named n from (grown v (hex_value b))) limit i cs (check t limit (i + 1)) ≡ Some from = rw (q.0, q.1) in
          fault_not_fine from (sym ((hex_last limit cs n from v b x i t).0 ∙ f) ∙ h)

  never_two : (v : ℕ) → (0xDC ≤ v % 256) × (v % 256 ≤ 0xDF) → (i : ℕ) (t : List ℕ) → check t limit i (InString n (Hex from 1 v)) cs ≡ None → ⊥
  unfolding check followed pick
  never_two v z i [] h = fault_not_fine i h
  never_two v z i (b ∷ t) h = go (eqb (hex_value b) 16) refl
    where
      go : (e : Bool) → eqb (hex_value b) 16 ≡ e → ⊥
      go true e = fault_not_fine i (rw e at h)
      go false e =
          let x = hexdig_is b e in
          let d = hexdig_value b x in
          never_last (grown v (hex_value b)) (inr (omega (arith, z, d), omega (arith, z, d))) (i + 1) t (sym (hex_step limit cs n from 1 v b (omega arith) x i t).0 ∙ h)

  -- ---- they can go on

  -- a low surrogate behind a high one
  low_ready : Ready limit (InString n (High from)) cs
  unfolding check followed pick ◌and◌ ◌or◌
  low_ready = let r = ready_string limit n Chars tt cs in (92 ∷ 117 ∷ 68 ∷ 67 ∷ 48 ∷ 48 ∷ r.0, λ i. r.1 (i + 1 + 1 + 1 + 1 + 1 + 1))

  last_ready : (v : ℕ) → Bad3 v ⊎ Ready limit (InString n (Hex from 0 v)) cs
  unfolding followed pick
  last_ready v = go (is_high (grown v 9)) refl (named_bad (grown v 9)) refl
    where
      nine : (i : ℕ) (s : List ℕ) → check (57 ∷ s) limit i (InString n (Hex from 0 v)) cs ≡ followed (named n from (grown v 9)) limit i cs (check s limit (i + 1))
      nine i s = (hex_last limit cs n from v 57 digit_bytes.2 i s).0 ∙ rw digit_bytes.5

      go : (h : Bool) → is_high (grown v 9) ≡ h → (b : Bool) → named_bad (grown v 9) ≡ b → Bad3 v ⊎ Ready limit (InString n (Hex from 0 v)) cs
      go true e b f = inr (57 ∷ low_ready.0, λ i. nine i _ ∙ rw e (low_ready.1 (i + 1)))
      go false e true f = inl (bad_nine v f)
      go false e false f = let r = ready_string limit n Chars tt cs in inr (57 ∷ r.0, λ i. nine i _ ∙ rw (e, f) (r.1 (i + 1)))

  two_ready : (v : ℕ) → ((0xDC ≤ v % 256) × (v % 256 ≤ 0xDF)) ⊎ Ready limit (InString n (Hex from 1 v)) cs
  two_ready v = go (last_ready (grown v 4))
    where
      four : (i : ℕ) (s : List ℕ) → check (52 ∷ s) limit i (InString n (Hex from 1 v)) cs ≡ check s limit (i + 1) (InString n (Hex from 0 (grown v 4))) cs
      four i s = (hex_step limit cs n from 1 v 52 (omega arith) digit_bytes.1 i s).0 ∙ rw digit_bytes.4

      go : Bad3 (grown v 4) ⊎ Ready limit (InString n (Hex from 0 (grown v 4))) cs → ((0xDC ≤ v % 256) × (v % 256 ≤ 0xDF)) ⊎ Ready limit (InString n (Hex from 1 v)) cs
      go (inl (inl e)) = absurd (omega arith)
      go (inl (inr (l, m))) = inl (omega arith, omega arith)
      go (inr r) = inr (52 ∷ r.0, λ i. four i _ ∙ r.1 (i + 1))

  more_ready : (k v : ℕ) → Ready limit (InString n (Hex from (k + 2) v)) cs
  more_ready zero v = go (two_ready (grown v 0))
    where
      zeroth : (i : ℕ) (s : List ℕ) → check (48 ∷ s) limit i (InString n (Hex from 2 v)) cs ≡ check s limit (i + 1) (InString n (Hex from 1 (grown v 0))) cs
      zeroth i s = (hex_step limit cs n from 2 v 48 (omega arith) digit_bytes.0 i s).0 ∙ rw digit_bytes.3

      go : ((0xDC ≤ grown v 0 % 256) × (grown v 0 % 256 ≤ 0xDF)) ⊎ Ready limit (InString n (Hex from 1 (grown v 0))) cs → Ready limit (InString n (Hex from 2 v)) cs
      go (inl (l, m)) = absurd (omega arith)
      go (inr r) = (48 ∷ r.0, λ i. zeroth i _ ∙ r.1 (i + 1))
  more_ready (suc k) v =
      let r = more_ready k (grown v (hex_value 48)) in
      let j : suc k + 2 - 1 ≡ k + 2 = omega arith in
      (48 ∷ r.0, λ i. (hex_step limit cs n from (suc k + 2) v 48 (omega arith) digit_bytes.0 i r.0).0 ∙ rw j (r.1 (i + 1)))

  digits_ready : (k v : ℕ) → ((i : ℕ) → Never limit (InString n (Hex from k v)) cs i []) ⊎ Ready limit (InString n (Hex from k v)) cs
  digits_ready zero v = go (last_ready v)
    where
      go : Bad3 v ⊎ Ready limit (InString n (Hex from 0 v)) cs → ((i : ℕ) → Never limit (InString n (Hex from 0 v)) cs i []) ⊎ Ready limit (InString n (Hex from 0 v)) cs
      go (inl z) = inl (λ i t h. never_last v z i t (rw (append_empty t) at h))
      go (inr r) = inr r
  digits_ready (suc zero) v = go (two_ready v)
    where
      go : ((0xDC ≤ v % 256) × (v % 256 ≤ 0xDF)) ⊎ Ready limit (InString n (Hex from 1 v)) cs → ((i : ℕ) → Never limit (InString n (Hex from 1 v)) cs i []) ⊎ Ready limit (InString n (Hex from 1 v)) cs
      go (inl z) = inl (λ i t h. never_two v z i t (rw (append_empty t) at h))
      go (inr r) = inr r
  digits_ready (suc (suc k)) v = let j : suc (suc k) ≡ k + 2 = omega arith in inr (rw j (more_ready k v))

pub hexes : (limit : ℕ) (st : State) → IsHex st → (cs : List Container) → ((i : ℕ) → Never limit st cs i []) ⊎ Ready limit st cs
hexes limit (Expects e) x cs = absurd x
hexes limit (InLiteral w) x cs = absurd x
hexes limit (InNumber n) x cs = absurd x
hexes limit (InString n Chars) x cs = absurd x
hexes limit (InString n (Escape from)) x cs = absurd x
hexes limit (InString n (Hex from k v)) x cs = digits_ready limit n from cs k v
hexes limit (InString n (High from)) x cs = absurd x
hexes limit (InString n (HighEscape from)) x cs = absurd x
hexes limit (InString n (Low from k v)) x cs = absurd x
