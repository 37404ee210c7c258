-- Strings, numbers and literals that are written pass the check.
--     Passes             the check of s in a state, inside what is open, comes to that of what follows s
--     string_passes, name_passes, number_passes, literal_passes
use Rattle.std.specs.Prelude.{◌≡◌, Bool, leb}
use Rattle.std.proofs.Math.Path.{refl, subst}
use Rattle.std.proofs.Common.{sym, ◌∙◌}
use Rattle.std.proofs.Math.Bool.{true, false}
use Rattle.std.proofs.lemmas.Bool.{false≢true}
use mathlib.Core.List.{List, [], ◌∷◌}
use Prim.Native.Nat.{ℕ, ◌+◌, ◌≤◌}
use Rattle.std.proofs.Math.Dec.{eqb}
use borrow.Author.Tests.{le-ltb, leb-true, eqb-true}
use Rattle.octets.specs.Ascii.{ascii}
use Rattle.octets.specs.Pick.{pick, ◌and◌, ◌or◌}
use Rattle.octets.specs.laws.Pick.{and_both, or_cases, pick_case, eqb_apart}
use Rattle.octets.specs.Append.{◌⊕◌}
use Rattle.octets.specs.laws.Append.{append_empty, append_cons, append_regroup}
use Rattle.octets.specs.Scan.{all_of}
use Rattle.octets.specs.laws.Scan.{all_split}
use Rattle.octets.specs.Class.{is_digit}
use Rattle.octets.specs.Words.{same, is_empty, is_one_of}
use Rattle.octets.specs.laws.Words.{same_true, empty_is}
use Rattle.octets.specs.Runs.{run_of, after_run}
use Rattle.octets.specs.laws.Runs.{run_joined}
use Rattle.json_text.specs.Check.{Container, check, followed}
use Rattle.json_text.specs.Write.{escaped_byte, escaped, quoted}
use Rattle.json_text.specs.Written.{is_text, is_int, is_frac, is_unsigned, is_number, literals}
use Rattle.json_text.specs.laws.Fronts.{follows, follows_case}
use Rattle.json_text.specs.laws.Text.{quoted_front, is_string_byte, text_bytes}
use Rattle.json_text.specs.declared.Expect.TheVariants.{Value, Name, After}
use Rattle.json_text.specs.declared.Number.TheVariants.{Minus, Zero, Int, Frac}
use Rattle.json_text.specs.declared.Inside.TheVariants.{Chars}
use Rattle.json_text.specs.declared.State.{State}
use Rattle.json_text.specs.declared.State.TheVariants.{Expects, InNumber, InString}

abbrev pub Passes : ℕ → List ℕ → ℕ → State → List Container → List ℕ → State → List Container → Type 0
Passes limit s i st cs r st' cs' = (j : ℕ) × (check s limit i st cs ≡ check r limit j st' cs')

module _ (limit : ℕ) where
  -- ---- strings

  byte_passes : (b : ℕ) → is_string_byte b ≡ true → (n : Bool) (i : ℕ) (x : List ℕ) (cs : List Container) →
      Passes limit (escaped_byte b ⊕ x) i (InString n Chars) cs x (InString n Chars) cs
  unfolding check followed pick ◌or◌ ◌⊕◌
  byte_passes b h n i x cs =
      pick_case P (eqb b 34) _ _ (λ e. (i + 1 + 1, refl))
      (λ q. pick_case P (eqb b 92) _ _ (λ e. (i + 1 + 1, refl))
      (λ k. pick_case P (eqb b 10) _ _ (λ e. (i + 1 + 1, refl))
      (λ m. pick_case P (eqb b 9) _ _ (λ e. (i + 1 + 1, refl))
      (λ t. (i + 1, rw (q, k, le-ltb b 32 (least m t)))))))
    where
      P : List ℕ → Type 0
      P bs = Passes limit (bs ⊕ x) i (InString n Chars) cs x (InString n Chars) cs

      least : eqb b 10 ≡ false → eqb b 9 ≡ false → 32 ≤ b
      least m t =
          or_cases (leb 32 b) _ h (λ e. leb-true 32 b e)
          (λ h. or_cases (eqb b 10) _ h (λ e. absurd (false≢true (sym m ∙ e))) (λ e. absurd (false≢true (sym t ∙ e))))

  chars_pass : (s : List ℕ) → all_of is_string_byte s ≡ true → (n : Bool) (i : ℕ) (r : List ℕ) (cs : List Container) →
      Passes limit (escaped s ⊕ r) i (InString n Chars) cs r (InString n Chars) cs
  unfolding escaped
  chars_pass [] h n i r cs = (i, rw (append_empty r))
  chars_pass (b ∷ s) h n i r cs =
      let a = all_split is_string_byte b s h in
      let p = byte_passes b a.0 n i (escaped s ⊕ r) cs in
      let q = chars_pass s a.1 n p.0 r cs in
      (q.0, rw (append_regroup (escaped_byte b) (escaped s) r) (p.1 ∙ q.1))

  pub string_passes : (s : List ℕ) → is_text s ≡ true → (i : ℕ) (r : List ℕ) (cs : List Container) → Passes limit (quoted s ⊕ r) i (Expects Value) cs r (Expects After) cs
  unfolding check followed pick ◌or◌
  string_passes s h i r cs =
      let p = chars_pass s (text_bytes s h) false (i + 1) (34 ∷ r) cs in
      (p.0 + 1, rw (quoted_front s r) p.1)

  -- a name, and its colon
  pub name_passes : (s : List ℕ) → is_text s ≡ true → (i : ℕ) (r : List ℕ) (cs : List Container) → Passes limit (quoted s ⊕ (58 ∷ r)) i (Expects Name) cs r (Expects Value) cs
  unfolding check followed pick ◌or◌
  name_passes s h i r cs =
      let p = chars_pass s (text_bytes s h) true (i + 1) (34 ∷ 58 ∷ r) cs in
      (p.0 + 1 + 1, rw (quoted_front s (58 ∷ r)) p.1)

  -- ---- numbers

  after_number : (r : List ℕ) → follows r ≡ true → (i : ℕ) (cs : List Container) →
      (check r limit i (InNumber Zero) cs ≡ check r limit i (Expects After) cs)
      × (check r limit i (InNumber Int) cs ≡ check r limit i (Expects After) cs)
      × (check r limit i (InNumber Frac) cs ≡ check r limit i (Expects After) cs)
  unfolding check followed pick ◌and◌ ◌or◌
  after_number r f i cs =
      follows_case (λ r. (check r limit i (InNumber Zero) cs ≡ check r limit i (Expects After) cs)
      × (check r limit i (InNumber Int) cs ≡ check r limit i (Expects After) cs)
      × (check r limit i (InNumber Frac) cs ≡ check r limit i (Expects After) cs))
      (refl, refl, refl) (λ s. (refl, refl, refl)) (λ s. (refl, refl, refl)) (λ s. (refl, refl, refl)) r f

  ints_pass : (d : List ℕ) → all_of is_digit d ≡ true → (i : ℕ) (r : List ℕ) (cs : List Container) → Passes limit (d ⊕ r) i (InNumber Int) cs r (InNumber Int) cs
  unfolding check followed pick
  ints_pass [] h i r cs = (i, rw (append_empty r))
  ints_pass (b ∷ d) h i r cs =
      let a = all_split is_digit b d h in
      let p = ints_pass d a.1 (i + 1) r cs in
      (p.0, rw (append_cons b d r, a.0) p.1)

  fracs_pass : (d : List ℕ) → all_of is_digit d ≡ true → (i : ℕ) (r : List ℕ) (cs : List Container) → Passes limit (d ⊕ r) i (InNumber Frac) cs r (InNumber Frac) cs
  unfolding check followed pick
  fracs_pass [] h i r cs = (i, rw (append_empty r))
  fracs_pass (b ∷ d) h i r cs =
      let a = all_split is_digit b d h in
      let p = fracs_pass d a.1 (i + 1) r cs in
      (p.0, rw (append_cons b d r, a.0) p.1)

  -- behind int: a fraction, or the end
  frac_passes : (s : List ℕ) → is_frac s ≡ true → (i : ℕ) (r : List ℕ) → follows r ≡ true → (cs : List Container) →
      Passes limit (s ⊕ r) i (InNumber Zero) cs r (Expects After) cs × Passes limit (s ⊕ r) i (InNumber Int) cs r (Expects After) cs
  unfolding is_frac check followed pick ◌and◌ ◌or◌
  frac_passes [] h i r f cs = let a = after_number r f i cs in ((i, rw (append_empty r) a.0), (i, rw (append_empty r) a.1))
  frac_passes (b ∷ []) h i r f cs = absurd (false≢true (and_both (eqb b 46) false h).1)
  frac_passes (b ∷ c ∷ d) h i r f cs =
      let a = and_both (eqb b 46) _ h in
      let e = all_split is_digit c d a.1 in
      let p = fracs_pass d e.1 (i + 1 + 1) r cs in
      let q = after_number r f p.0 cs in
      ((p.0, (point b c d (eqb-true b 46 a.0) e.0).0 ∙ p.1 ∙ q.2), (p.0, (point b c d (eqb-true b 46 a.0) e.0).1 ∙ p.1 ∙ q.2))
    where
      point : (b c : ℕ) (d : List ℕ) → b ≡ 46 → is_digit c ≡ true →
          (check ((b ∷ c ∷ d) ⊕ r) limit i (InNumber Zero) cs ≡ check (d ⊕ r) limit (i + 1 + 1) (InNumber Frac) cs)
          × (check ((b ∷ c ∷ d) ⊕ r) limit i (InNumber Int) cs ≡ check (d ⊕ r) limit (i + 1 + 1) (InNumber Frac) cs)
      point b c d e g = (rw (e, append_cons 46 (c ∷ d) r, append_cons c d r, g), rw (e, append_cons 46 (c ∷ d) r, append_cons c d r, g))

  -- int and frac, from a state in which a number may begin
  module _ (st : State)
      (zeroth : (x : List ℕ) (i : ℕ) (cs : List Container) → check (48 ∷ x) limit i st cs ≡ check x limit (i + 1) (InNumber Zero) cs)
      (digit : (b : ℕ) (x : List ℕ) (i : ℕ) (cs : List Container) → is_digit b ≡ true → eqb b 48 ≡ false → check (b ∷ x) limit i st cs ≡ check x limit (i + 1) (InNumber Int) cs) where
    int_passes : (d f : List ℕ) → is_int d ≡ true → is_frac f ≡ true → (i : ℕ) (r : List ℕ) → follows r ≡ true → (cs : List Container) →
        Passes limit ((d ⊕ f) ⊕ r) i st cs r (Expects After) cs
    unfolding is_int pick
    int_passes [] f h g i r k cs = absurd (false≢true h)
    int_passes (b ∷ d) f h g i r k cs = go (eqb b 48) refl h
      where
        go : (t : Bool) → eqb b 48 ≡ t → pick t (is_empty d) (is_digit b and all_of is_digit d) ≡ true → Passes limit (((b ∷ d) ⊕ f) ⊕ r) i st cs r (Expects After) cs
        go true e h =
            let p = (frac_passes f g (i + 1) r k cs).0 in
            (p.0, rw (eqb-true b 48 e, empty_is d h, append_cons 48 [] f, append_empty f, append_cons 48 f r) (zeroth (f ⊕ r) i cs ∙ p.1))
        go false e h =
            let a = and_both (is_digit b) _ h in
            let p = ints_pass d a.1 (i + 1) (f ⊕ r) cs in
            let q = (frac_passes f g p.0 r k cs).1 in
            (q.0, rw (append_cons b d f, append_cons b (d ⊕ f) r, append_regroup d f r) (digit b (d ⊕ (f ⊕ r)) i cs a.0 e ∙ p.1 ∙ q.1))

    unsigned_passes : (s : List ℕ) → is_unsigned s ≡ true → (i : ℕ) (r : List ℕ) → follows r ≡ true → (cs : List Container) → Passes limit (s ⊕ r) i st cs r (Expects After) cs
    unfolding is_unsigned
    unsigned_passes s h i r k cs =
        let a = and_both (is_int (run_of is_digit s)) _ h in
        subst (λ (x : List ℕ). Passes limit (x ⊕ r) i st cs r (Expects After) cs) (run_joined is_digit s) (int_passes (run_of is_digit s) (after_run is_digit s) a.0 a.1 i r k cs)

  -- a digit is no other byte that a value may begin with
  digit_first : (b : ℕ) (x : List ℕ) (i : ℕ) (cs : List Container) → is_digit b ≡ true → eqb b 48 ≡ false → check (b ∷ x) limit i (Expects Value) cs ≡ check x limit (i + 1) (InNumber Int) cs
  unfolding check followed pick ◌and◌ ◌or◌
  digit_first b x i cs h z =
      rw (
        eqb_apart is_digit b 32 h refl,
        eqb_apart is_digit b 9 h refl,
        eqb_apart is_digit b 13 h refl,
        eqb_apart is_digit b 10 h refl,
        eqb_apart is_digit b 34 h refl,
        eqb_apart is_digit b 91 h refl,
        eqb_apart is_digit b 123 h refl,
        eqb_apart is_digit b 45 h refl,
        z,
        h,
      )

  zero_first : (x : List ℕ) (i : ℕ) (cs : List Container) → check (48 ∷ x) limit i (Expects Value) cs ≡ check x limit (i + 1) (InNumber Zero) cs
  unfolding check followed pick ◌and◌ ◌or◌
  zero_first x i cs = refl

  minus_first : (x : List ℕ) (i : ℕ) (cs : List Container) → check (45 ∷ x) limit i (Expects Value) cs ≡ check x limit (i + 1) (InNumber Minus) cs
  unfolding check followed pick ◌and◌ ◌or◌
  minus_first x i cs = refl

  minus_zero : (x : List ℕ) (i : ℕ) (cs : List Container) → check (48 ∷ x) limit i (InNumber Minus) cs ≡ check x limit (i + 1) (InNumber Zero) cs
  unfolding check followed pick
  minus_zero x i cs = refl

  minus_digit : (b : ℕ) (x : List ℕ) (i : ℕ) (cs : List Container) → is_digit b ≡ true → eqb b 48 ≡ false → check (b ∷ x) limit i (InNumber Minus) cs ≡ check x limit (i + 1) (InNumber Int) cs
  unfolding check followed pick
  minus_digit b x i cs h z = rw (z, h)

  pub number_passes : (s : List ℕ) → is_number s ≡ true → (i : ℕ) (r : List ℕ) → follows r ≡ true → (cs : List Container) → Passes limit (s ⊕ r) i (Expects Value) cs r (Expects After) cs
  unfolding is_number pick
  number_passes [] h i r k cs = absurd (false≢true h)
  number_passes (b ∷ s) h i r k cs = go (eqb b 45) refl h
    where
      go : (t : Bool) → eqb b 45 ≡ t → pick t (is_unsigned s) (is_unsigned (b ∷ s)) ≡ true → Passes limit ((b ∷ s) ⊕ r) i (Expects Value) cs r (Expects After) cs
      go true e h =
          let p = unsigned_passes (InNumber Minus) minus_zero minus_digit s h (i + 1) r k cs in
          (p.0, rw (eqb-true b 45 e, append_cons 45 s r) (minus_first (s ⊕ r) i cs ∙ p.1))
      go false e h = unsigned_passes (Expects Value) zero_first digit_first (b ∷ s) h i r k cs

  -- ---- literals

  pub literal_passes : (s : List ℕ) → is_one_of s literals ≡ true → (i : ℕ) (r : List ℕ) (cs : List Container) → Passes limit (s ⊕ r) i (Expects Value) cs r (Expects After) cs
  unfolding is_one_of check followed pick ◌and◌ ◌or◌ ◌⊕◌
  literal_passes s h i r cs =
      or_cases (same s (ascii "true")) _ h (λ e. rw (same_true s _ e) (i + 1 + 1 + 1 + 1, refl))
      (λ h. or_cases (same s (ascii "false")) _ h (λ e. rw (same_true s _ e) (i + 1 + 1 + 1 + 1 + 1, refl))
      (λ h. or_cases (same s (ascii "null")) _ h (λ e. rw (same_true s _ e) (i + 1 + 1 + 1 + 1, refl)) (λ h. absurd (false≢true h))))
