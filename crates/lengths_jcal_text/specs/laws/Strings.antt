-- Where a string of a JSON text ends that passes the check: behind its bytes a name's colon is expected, or what follows a value.
--     follower       which of them
--     string_ends    the check goes on there
use Rattle.std.specs.Prelude.{◌≡◌, Bool, ltb, None}
use Rattle.std.proofs.Math.Path.{refl, sym, ap, subst}
use Rattle.std.proofs.Common.{◌∙◌, drop-drop}
use Rattle.std.proofs.Math.Bool.{true, false}
use Rattle.std.proofs.lemmas.Bool.{false≢true}
use mathlib.Core.List.{List, [], ◌∷◌}
use Prim.Native.Nat.{ℕ, zero, suc, ◌+◌, ◌-◌, ◌<◌}
use native.Mathlib.Omega.{arith}
use Rattle.std.proofs.Math.Dec.{eqb}
use Rattle.std.proofs.Math.ListN.{drop}
use borrow.Author.Tests.{eqb-true, ne_eqb, lt-ltb}
use Rattle.octets.specs.Pick.{pick, within, ◌and◌, ◌or◌}
use Rattle.octets.specs.laws.Pick.{pick_case, within_range}
use Rattle.octets.specs.Class.{is_digit}
use Rattle.utf8.specs.Spell.{spell}
use Rattle.json_text.specs.Bytes.{letter_u, names_good, names_bad, hex_value, grown, is_high, is_low, named_bad}
use Rattle.json_text.specs.Check.{named, low_pair, move, end, Container, around, followed, check}
use Rattle.json_text.specs.Strings.{char, named as lettered, hex_worth, paired, escaped, char_at, length_by, length_from}
use Rattle.json_text.specs.declared.Around.{Around}
use Rattle.json_text.specs.declared.Expect.{Expect}
use Rattle.json_text.specs.declared.Expect.TheVariants.{Colon, After}
use Rattle.json_text.specs.declared.Inside.TheVariants.{Chars, Escape, Hex, High, HighEscape, Low}
use Rattle.json_text.specs.declared.State.{State}
use Rattle.json_text.specs.declared.State.TheVariants.{Expects, InString}
use Rattle.json_text.specs.declared.Move.{Move}
use Rattle.json_text.specs.declared.Move.TheVariants.{To, Bad}
use Rattle.jcal.proofs.laws.CheckedStrings.{not_fine, Goes, goes, choose, bad_not, to_state}

-- what is expected behind a string, a member's name or a value
abbrev pub follower : Bool → Expect
follower true = Colon
follower false = After

-- a hexadecimal digit
hex_digit : (b : ℕ) → eqb (hex_value b) 16 ≡ false → hex_value b < 16
hex_digit b h =
    pick_case P (is_digit b) _ _ (λ e k. let r = within_range 48 57 b e in omega arith)
    (λ e. pick_case P (within 0x41 0x46 b) _ _ (λ e k. let r = within_range 0x41 0x46 b e in omega arith)
    (λ e. pick_case P (within 0x61 0x66 b) _ _ (λ e k. let r = within_range 0x61 0x66 b e in omega arith)
    (λ e k. absurd (false≢true (sym k)))))
    h
  where
    P : ℕ → Type 0
    P x = eqb x 16 ≡ false → x < 16

grown_small : (v d : ℕ) → d < 16 → grown v d < 0x10000
grown_small v d h = omega arith

module _ (limit : ℕ) where
  -- ---- hexadecimal digits

  -- k digits behind the next one, those before worth v: what the code unit leads to is not refused
  record Digits (F : ℕ → Move) (k v : ℕ) (r : List ℕ) (cs : List Container) : Type 0 where
    small : hex_worth (suc k) v r < 0x10000
    at : ℕ
    next : Goes (F (hex_worth (suc k) v r)) limit at cs (check (drop (suc k) r) limit (at + 1))

  -- of a state T k v, and what a code unit leads to
  module _ (T : ℕ → ℕ → State) (F : ℕ → Move) (bad : ℕ → ℕ)
      (step : (k v : ℕ) (a : Around) (i b : ℕ) → move (T k v) a i b ≡ pick (eqb (hex_value b) 16) (Bad (bad i)) (pick (eqb k 0) (F (grown v (hex_value b))) (To (T (k - 1) (grown v (hex_value b))))))
      (over : (k v l : ℕ) (a : Around) → end (T k v) a l ≡ None → ⊥) where
    digits_run : (k v : ℕ) (r : List ℕ) (i : ℕ) (cs : List Container) → check r limit i (T k v) cs ≡ None → Digits F k v r cs
    unfolding check hex_worth pick
    digits_run k v [] i cs h = absurd (over k v i (around cs) h)
    digits_run zero v (b ∷ r) i cs h =
        choose (eqb (hex_value b) 16) _ _ (rw (step 0 v (around cs) i b) at (goes b r limit i (T 0 v) cs h)) (λ e k. bad_not (bad i) k)
        (λ e k. record { small = rw e (grown_small v (hex_value b) (hex_digit b e)); at = i; next = rw e k })
    digits_run (suc k) v (b ∷ r) i cs h =
        choose (eqb (hex_value b) 16) _ _ (rw (step (suc k) v (around cs) i b) at (goes b r limit i (T (suc k) v) cs h)) (λ e k. bad_not (bad i) k)
        (λ e g.
        let z : suc k - 1 ≡ k = omega arith in
        let f : eqb (suc k) 0 ≡ false = ne_eqb (suc k) 0 (λ w. omega arith) in
        let q = digits_run k (grown v (hex_value b)) r (i + 1) cs (to_state _ (rw (f, z) at g)) in
        record { small = rw e q.small; at = q.at; next = rw e q.next })

  -- ---- a string

  -- behind k bytes more that belong to a character
  pub record Ends (s : List ℕ) (k : ℕ) (n : Bool) (cs : List Container) : Type 0 where
    pub at : ℕ
    pub fine : check (drop (length_from s k) s) limit at (Expects (follower n)) cs ≡ None

  -- what is known of the rest of a text
  abbrev Strings : List ℕ → Type 0
  Strings s = (k i : ℕ) (n : Bool) (cs : List Container) → check (drop k s) limit i (InString n Chars) cs ≡ None → Ends s k n cs

  module _ (n : Bool) (cs : List Container) where
    -- a character of the bytes w, of which k bytes of the text follow
    char_ends : (b : ℕ) (s w : List ℕ) (k : ℕ) → char_at b s ≡ char w k → Ends s k n cs → Ends (b ∷ s) 0 n cs
    unfolding length_from length_by
    char_ends b s w k e q = record { at = q.at; fine = rw e q.fine }

    -- the quotation mark that closes it
    close_ends : (s : List ℕ) (i : ℕ) → check s limit i (Expects (follower n)) cs ≡ None → Ends (34 ∷ s) 0 n cs
    unfolding length_from length_by pick
    close_ends s i c = record { at = i; fine = c }

    letter_ends : (d : ℕ) (r : List ℕ) (i : ℕ) → Strings (d ∷ r) → eqb d letter_u ≡ false → check r limit i (InString n Chars) cs ≡ None → Ends (92 ∷ d ∷ r) 0 n cs
    unfolding escaped pick
    letter_ends d r i ih e c = char_ends 92 (d ∷ r) (lettered d ∷ []) 1 (rw e) (ih 1 i n cs c)

    -- a code unit of its own
    unit_ends : (r : List ℕ) (i : ℕ) → Strings (117 ∷ r) → hex_worth 4 0 r < 0x10000 → is_high (hex_worth 4 0 r) ≡ false → check (drop 4 r) limit i (InString n Chars) cs ≡ None → Ends (92 ∷ 117 ∷ r) 0 n cs
    unfolding escaped pick
    unit_ends r i ih l a c = char_ends 92 (117 ∷ r) (spell (hex_worth 4 0 r)) 5 (rw (a, lt-ltb (hex_worth 4 0 r) 0x10000 l)) (ih 5 i n cs c)

    -- a high surrogate and a low one, r being behind `\u` of the first, t behind that of the second
    pair_ends : (r t : List ℕ) (i : ℕ) → Strings (117 ∷ r) → drop 6 r ≡ t → is_high (hex_worth 4 0 r) ≡ true → is_low (hex_worth 4 0 t) ≡ true → check (drop 4 t) limit i (InString n Chars) cs ≡ None → Ends (92 ∷ 117 ∷ r) 0 n cs
    unfolding escaped pick
    pair_ends r t i ih e a b c =
        let z : drop 10 r ≡ drop 4 t = sym (drop-drop 4 6 r) ∙ ap (drop 4) e in
        char_ends 92 (117 ∷ r) (spell (paired (hex_worth 4 0 r) (hex_worth 4 0 t))) 11 (rw (a, e, b)) (ih 11 i n cs (rw z c))

    -- behind a high surrogate, whose escape is at `from`
    high_ends : (r : List ℕ) (from i : ℕ) → Strings (117 ∷ r) → is_high (hex_worth 4 0 r) ≡ true → check (drop 4 r) limit i (InString n (High from)) cs ≡ None → Ends (92 ∷ 117 ∷ r) 0 n cs
    unfolding check
    high_ends r from i ih a c = first (drop 4 r) refl c
      where
        second : (t : List ℕ) (j : ℕ) → drop 6 r ≡ t → check t limit j (InString n (Low from 3 0)) cs ≡ None → Ends (92 ∷ 117 ∷ r) 0 n cs
        second t j e c =
            let q = digits_run (λ k v. InString n (Low from k v)) (low_pair n from) (λ i. from) (λ k v a i b. refl) (λ k v l a e. not_fine from e) 3 0 t j cs c in
            choose (is_low (hex_worth 4 0 t)) _ _ q.next (λ b k. pair_ends r t (q.at + 1) ih e a b (to_state _ k)) (λ b k. bad_not from k)

        letter : (t : List ℕ) (j : ℕ) → drop 5 r ≡ t → check t limit j (InString n (HighEscape from)) cs ≡ None → Ends (92 ∷ 117 ∷ r) 0 n cs
        letter [] j e c = not_fine from c
        letter (y ∷ t) j e c =
            choose (eqb y letter_u) _ _ (goes y t limit j (InString n (HighEscape from)) cs c)
            (λ b k. second t (j + 1) (sym (drop-drop 1 5 r) ∙ ap (drop 1) e) (to_state _ k)) (λ b k. bad_not from k)

        first : (t : List ℕ) → drop 4 r ≡ t → check t limit i (InString n (High from)) cs ≡ None → Ends (92 ∷ 117 ∷ r) 0 n cs
        first [] e c = not_fine from c
        first (x ∷ t) e c =
            choose (eqb x 92) _ _ (goes x t limit i (InString n (High from)) cs c)
            (λ b k. letter t (i + 1) (sym (drop-drop 1 4 r) ∙ ap (drop 1) e) (to_state _ k)) (λ b k. bad_not from k)

    -- behind `\u`
    hex_ends : (r : List ℕ) (from i : ℕ) → Strings (117 ∷ r) → check r limit i (InString n (Hex from 3 0)) cs ≡ None → Ends (92 ∷ 117 ∷ r) 0 n cs
    hex_ends r from i ih c =
        let q = digits_run (λ k v. InString n (Hex from k v)) (named n from) (λ i. i) (λ k v a i b. refl) (λ k v l a e. not_fine l e) 3 0 r i cs c in
        choose (is_high (hex_worth 4 0 r)) _ _ q.next (λ a k. high_ends r from (q.at + 1) ih a (to_state _ k))
        (λ a k. choose (named_bad (hex_worth 4 0 r)) _ _ k (λ b k. bad_not from k) (λ b k. unit_ends r (q.at + 1) ih q.small a (to_state _ k)))

    escape_ends : (s : List ℕ) (from i : ℕ) → Strings s → check s limit i (InString n (Escape from)) cs ≡ None → Ends (92 ∷ s) 0 n cs
    unfolding check
    escape_ends [] from i ih c = not_fine i c
    escape_ends (d ∷ r) from i ih c =
        choose (eqb d letter_u) _ _ (goes d r limit i (InString n (Escape from)) cs c)
        (λ e k.
        let z = eqb-true d 117 e in
        subst (λ (x : ℕ). Ends (92 ∷ x ∷ r) 0 n cs) (sym z) (hex_ends r from (i + 1) (subst (λ (x : ℕ). Strings (x ∷ r)) z ih) (to_state _ k)))
        (λ e k. choose (names_good d) _ _ k (λ l k. letter_ends d r (i + 1) ih e (to_state _ k)) (λ l k. choose (names_bad d) _ _ k (λ b k. bad_not from k) (λ b k. bad_not i k)))

  pub string_ends : (s : List ℕ) → Strings s
  unfolding check length_from
  string_ends [] zero i n cs c = not_fine i c
  string_ends [] (suc k) i n cs c = not_fine i c
  string_ends (b ∷ s) (suc k) i n cs c = let q = string_ends s k i n cs c in record { at = q.at; fine = q.fine }
  string_ends (b ∷ s) zero i n cs c =
      choose (eqb b 34) _ _ (goes b s limit i (InString n Chars) cs c)
      (λ e k. subst (λ (x : ℕ). Ends (x ∷ s) 0 n cs) (sym (eqb-true b 34 e)) (closing n k))
      (λ q k. choose (eqb b 92) _ _ k
      (λ e k. subst (λ (x : ℕ). Ends (x ∷ s) 0 n cs) (sym (eqb-true b 92 e)) (escape_ends n cs s i (i + 1) (string_ends s) (to_state _ k)))
      (λ e k. choose (ltb b 0x20) _ _ k (λ l k. bad_not i k) (λ l k. char_ends n cs b s (b ∷ []) 0 (unfold pick in rw (q, e)) (string_ends s 0 (i + 1) n cs (to_state _ k)))))
    where
      closing : (n : Bool) → Goes (pick n (To (Expects Colon)) (To (Expects After))) limit i cs (check s limit (i + 1)) → Ends (34 ∷ s) 0 n cs
      closing true k = choose true _ _ k (λ m k. close_ends true cs s (i + 1) (to_state _ k)) (λ m k. absurd (false≢true (sym m)))
      closing false k = choose false _ _ k (λ m k. absurd (false≢true m)) (λ m k. close_ends false cs s (i + 1) (to_state _ k))
