-- The value of a JSON text that passes the checks: its strings and names are text (RFC 8259).
--     is_textual        a value whose strings and names are text
--     value_textual     that of such a text
use Rattle.std.specs.Prelude.{◌≡◌, Bool, false, ltb, length, drop, None, Option}
use Rattle.std.proofs.Math.Path.{refl}
use Rattle.std.proofs.Common.{sym, subst, ◌∙◌, arith, eqb-true}
use Rattle.std.proofs.Math.Bool.{true}
use Rattle.std.proofs.lemmas.Bool.{false≢true}
use mathlib.Core.List.{List, [], ◌∷◌}
use Prim.Native.Nat.{ℕ, zero, suc, ◌+◌}
use Rattle.std.proofs.Math.Dec.{eqb}
use Rattle.octets.specs.Pick.{pick, ◌and◌, ◌or◌}
use Rattle.octets.specs.laws.Pick.{pick_case, and_both, and_yes, or_left, or_right, or_no, or_cases, within_wider}
use Rattle.octets.specs.Append.{◌⊕◌}
use Rattle.octets.specs.laws.Append.{append_empty}
use Rattle.octets.specs.Scan.{span_len}
use Rattle.octets.specs.Class.{is_space, is_digit, is_small}
use Rattle.octets.specs.Words.{holds}
use Rattle.octets.specs.Runs.{after_run}
use Rattle.octets.specs.Front.{begins_by}
use Rattle.octets.specs.Lists.{every}
use Rattle.octets.specs.laws.Lists.{every_both}
use Rattle.utf8.specs.Utf8.{is_ascii, first_bad}
use Rattle.utf8.specs.laws.Utf8.{good_well_formed}
use Rattle.json_text.specs.Bytes.{name_separator, is_sign, is_e}
use Rattle.json_text.specs.Check.{after_by, value, name as name_move, expected, between, Container, around, outer, followed, check, verdict}
use Rattle.json_text.specs.Strings.{characters, quoted_length}
use Rattle.json_text.specs.Tree.{Json, string, literal, array, object, Elements, no_elements, element, Members, no_members, member, Token, opens_array, opens_object, closes, name, scalar, is_closing, is_separator, is_scalar, string_token, tokens_by, scan, first_of, elements_by, members_by, elements, members, value_of}
use Rattle.json_text.specs.Tree.{number as number_json}
use Rattle.json_text.specs.Written.{is_text}
use Rattle.json_text.specs.declared.Around.{Around}
use Rattle.json_text.specs.declared.Around.TheVariants.{Nothing, Array, Object}
use Rattle.json_text.specs.declared.Expect.{Expect}
use Rattle.json_text.specs.declared.Expect.TheVariants.{Value, ValueOrEnd, Name, NameOrEnd, Colon, After}
use Rattle.json_text.specs.declared.Number.{Number}
use Rattle.json_text.specs.declared.Inside.TheVariants.{Chars}
use Rattle.json_text.specs.declared.State.{State}
use Rattle.json_text.specs.declared.State.TheVariants.{Expects, InLiteral, InNumber, InString}
use Rattle.json_text.specs.declared.Move.TheVariants.{To, OpenArray, OpenObject, Close}
use Rattle.jcal.proofs.laws.CheckedStrings.{Goes, goes, choose, bad_not, to_state, past_ascii, string_text}
use Rattle.jcal.proofs.laws.CheckedScalars.{apart, no_scalar, scalar_no_space, letters, Behind, number_run, literal_run, scalar_by, opened}

-- ---- values

unfoldable mutual
  pub is_textual : Json → Bool
  is_textual (string p s) = is_text s
  is_textual (number_json p s) = true
  is_textual (literal p s) = true
  is_textual (array p e vs) = are_textual vs
  is_textual (object p e ms) = members_textual ms

  pub are_textual : Elements → Bool
  are_textual no_elements = true
  are_textual (element v vs) = is_textual v and are_textual vs

  pub members_textual : Members → Bool
  members_textual no_members = true
  members_textual (member n v ms) = is_text n and is_textual v and members_textual ms

-- ---- tokens

abbrev token_textual : Token → Bool
token_textual (opens_array p) = true
token_textual (opens_object p) = true
token_textual (closes p) = true
token_textual (name p n) = is_text n
token_textual (scalar v) = is_textual v

first_textual : (vs : Elements) → are_textual vs ≡ true → is_textual (first_of vs) ≡ true
unfolding is_textual are_textual
first_textual no_elements h = refl
first_textual (element v vs) h = (and_both (is_textual v) _ h).0

mutual
  unfolding elements members elements_by members_by is_textual are_textual members_textual

  elements_textual : (ts : List Token) → every token_textual ts ≡ true → (d : ℕ) → are_textual (elements ts d) ≡ true
  elements_textual [] h d = refl
  elements_textual (opens_array p ∷ ts) h zero = let a = every_both token_textual (opens_array p) ts h in and_yes _ _ (elements_textual ts a.1 0) (elements_textual ts a.1 1)
  elements_textual (opens_array p ∷ ts) h (suc d) = elements_textual ts (every_both token_textual (opens_array p) ts h).1 (suc (suc d))
  elements_textual (opens_object p ∷ ts) h zero = let a = every_both token_textual (opens_object p) ts h in and_yes _ _ (members_textual_lem ts a.1 0) (elements_textual ts a.1 1)
  elements_textual (opens_object p ∷ ts) h (suc d) = elements_textual ts (every_both token_textual (opens_object p) ts h).1 (suc (suc d))
  elements_textual (closes p ∷ ts) h zero = refl
  elements_textual (closes p ∷ ts) h (suc d) = elements_textual ts (every_both token_textual (closes p) ts h).1 d
  elements_textual (name p n ∷ ts) h zero = elements_textual ts (every_both token_textual (name p n) ts h).1 zero
  elements_textual (name p n ∷ ts) h (suc d) = elements_textual ts (every_both token_textual (name p n) ts h).1 (suc d)
  elements_textual (scalar v ∷ ts) h zero = let a = every_both token_textual (scalar v) ts h in and_yes _ _ a.0 (elements_textual ts a.1 0)
  elements_textual (scalar v ∷ ts) h (suc d) = elements_textual ts (every_both token_textual (scalar v) ts h).1 (suc d)

  members_textual_lem : (ts : List Token) → every token_textual ts ≡ true → (d : ℕ) → members_textual (members ts d) ≡ true
  members_textual_lem [] h d = refl
  members_textual_lem (opens_array p ∷ ts) h d = members_textual_lem ts (every_both token_textual (opens_array p) ts h).1 (suc d)
  members_textual_lem (opens_object p ∷ ts) h d = members_textual_lem ts (every_both token_textual (opens_object p) ts h).1 (suc d)
  members_textual_lem (closes p ∷ ts) h zero = refl
  members_textual_lem (closes p ∷ ts) h (suc d) = members_textual_lem ts (every_both token_textual (closes p) ts h).1 d
  members_textual_lem (name p n ∷ ts) h zero =
      let a = every_both token_textual (name p n) ts h in
      and_yes _ _ a.0 (and_yes _ _ (first_textual (elements ts 0) (elements_textual ts a.1 0)) (members_textual_lem ts a.1 0))
  members_textual_lem (name p n ∷ ts) h (suc d) = members_textual_lem ts (every_both token_textual (name p n) ts h).1 (suc d)
  members_textual_lem (scalar v ∷ ts) h d = members_textual_lem ts (every_both token_textual (scalar v) ts h).1 d

-- ---- bytes

scalar_ascii : (b : ℕ) → is_scalar b ≡ true → is_ascii b ≡ true
unfolding ◌and◌ ◌or◌
scalar_ascii b h =
    or_cases (is_digit b) _ h (λ e. or_left _ _ (within_wider 48 57 0x20 0x7E b (omega arith) (omega arith) e)) (λ h.
    or_cases (is_small b) _ h (λ e. or_left _ _ (within_wider 97 122 0x20 0x7E b (omega arith) (omega arith) e)) (λ h.
    or_cases (is_e b) _ h (λ e. eqb_e e) (λ h.
    or_cases (is_sign b) _ h (λ e. eqb_sign e) (λ e. rw (eqb-true b 0x2E e)))))
  where
    eqb_e : is_e b ≡ true → is_ascii b ≡ true
    eqb_e e = or_cases (eqb b 0x65) _ e (λ k. rw (eqb-true b 0x65 k)) (λ k. rw (eqb-true b 0x45 k))

    eqb_sign : is_sign b ≡ true → is_ascii b ≡ true
    eqb_sign e = or_cases (eqb b 0x2D) _ e (λ k. rw (eqb-true b 0x2D k)) (λ k. rw (eqb-true b 0x2B k))

-- no character goes on behind such bytes
past_scalars : (s : List ℕ) → first_bad s ≡ None → first_bad (drop (span_len is_scalar s) s) ≡ None
unfolding span_len pick
past_scalars [] h = h
past_scalars (b ∷ s) h = go (is_scalar b) refl (past_scalars s)
  where
    go : (t : Bool) → is_scalar b ≡ t → (first_bad s ≡ None → first_bad (drop (span_len is_scalar s) s) ≡ None) → first_bad (drop (pick t (suc (span_len is_scalar s)) 0) (b ∷ s)) ≡ None
    go true e ih = ih (past_ascii b s (scalar_ascii b e) h)
    go false e ih = h

ascii_quote : is_ascii 34 ≡ true
unfolding ◌and◌ ◌or◌
ascii_quote = refl

-- ---- the bytes between tokens, and their brackets

abbrev is_structural : ℕ → Bool
is_structural b = is_separator b or eqb b 91 or eqb b 123 or is_closing b

module _ (limit : ℕ) where
  -- ---- between tokens

  -- what a byte between tokens can be
  record Ways (X : Type 0) (b : ℕ) (cs : List Container) (rest : State → List Container → Option ℕ) : Type 0 where
    structural : is_structural b ≡ true → (e : Expect) (ds : List Container) → rest (Expects e) ds ≡ None → X
    quote : eqb b 34 ≡ true → (n : Bool) → rest (InString n Chars) cs ≡ None → X
    numeral : is_scalar b ≡ true → (m : Number) → rest (InNumber m) cs ≡ None → X
    letter : is_scalar b ≡ true → (w : ℕ) → letters 4 w ≡ true → rest (InLiteral w) cs ≡ None → X

  module _ {X : Type 0} {i b : ℕ} {cs : List Container} {rest : State → List Container → Option ℕ} (w : Ways X b cs rest) where
    open_array : eqb b 91 ≡ true → Goes OpenArray limit i cs rest → X
    unfolding followed
    open_array e k = w.structural (or_right _ _ (or_left _ _ e)) ValueOrEnd _ (opened (ltb (length cs) limit) _ i k.fine)

    open_object : eqb b 123 ≡ true → Goes OpenObject limit i cs rest → X
    unfolding followed
    open_object e k = w.structural (or_right _ _ (or_right _ _ (or_left _ _ e))) NameOrEnd _ (opened (ltb (length cs) limit) _ i k.fine)

    close_by : is_closing b ≡ true → Goes Close limit i cs rest → X
    unfolding followed
    close_by e k = w.structural (or_right _ _ (or_right _ _ (or_right _ _ e))) After (outer cs) k.fine

    value_by : Goes (value i b) limit i cs rest → X
    value_by k =
        choose (eqb b 34) _ _ k (λ e k. w.quote e false (to_state _ k)) (λ e k.
        choose (eqb b 91) _ _ k open_array (λ e k.
        choose (eqb b 123) _ _ k open_object (λ e k. scalar_by limit i b w.numeral w.letter k)))

    name_by : Goes (name_move i b) limit i cs rest → X
    name_by k = choose (eqb b 34) _ _ k (λ e k. w.quote e true (to_state _ k)) (λ e k. bad_not i k)

    comma : (e : Expect) → eqb b 44 ≡ true → Goes (To (Expects e)) limit i cs rest → X
    comma x e k = w.structural (or_left _ _ (or_right _ _ (or_right _ _ e))) x cs (to_state _ k)

    behind_by : (a : Around) → Goes (after_by a i b) limit i cs rest → X
    behind_by Nothing k = bad_not i k
    behind_by Array k = choose (eqb b 44) _ _ k (comma Value) (λ e k. choose (eqb b 93) _ _ k (λ e k. close_by (or_left _ _ e) k) (λ e k. bad_not i k))
    behind_by Object k = choose (eqb b 44) _ _ k (comma Name) (λ e k. choose (eqb b 125) _ _ k (λ e k. close_by (or_right _ _ e) k) (λ e k. bad_not i k))

    expected_by : (e : Expect) (a : Around) → Goes (expected e a i b) limit i cs rest → X
    expected_by Value a k = value_by k
    expected_by ValueOrEnd a k = choose (eqb b 93) _ _ k (λ e k. close_by (or_left _ _ e) k) (λ e k. value_by k)
    expected_by Name a k = name_by k
    expected_by NameOrEnd a k = choose (eqb b 125) _ _ k (λ e k. close_by (or_right _ _ e) k) (λ e k. name_by k)
    expected_by Colon a k = choose (eqb b 58) _ _ k (λ e k. w.structural (or_left _ _ (or_right _ _ (or_left _ _ e))) Value cs (to_state _ k)) (λ e k. bad_not i k)
    expected_by After a k = behind_by a k

    between_by : (e : Expect) (a : Around) → Goes (between e a i b) limit i cs rest → X
    between_by x a k = choose (is_space b) _ _ k (λ e k. w.structural (or_left _ _ (or_left _ _ e)) x cs (to_state _ k)) (λ e k. expected_by x a k)

  -- ---- tokens

  structural_ascii : (b : ℕ) → is_structural b ≡ true → is_ascii b ≡ true
  unfolding ◌and◌ ◌or◌
  structural_ascii b h =
      or_cases (is_separator b) _ h (λ e.
      or_cases (is_space b) _ e (λ e.
      or_cases (eqb b 32) _ e (λ e. rw (eqb-true b 32 e)) (λ e. or_cases (eqb b 9) _ e (λ e. rw (eqb-true b 9 e)) (λ e. or_cases (eqb b 13) _ e (λ e. rw (eqb-true b 13 e)) (λ e. rw (eqb-true b 10 e))))) (λ e.
      or_cases (eqb b 58) _ e (λ e. rw (eqb-true b 58 e)) (λ e. rw (eqb-true b 44 e)))) (λ h.
      or_cases (eqb b 91) _ h (λ e. rw (eqb-true b 91 e)) (λ h.
      or_cases (eqb b 123) _ h (λ e. rw (eqb-true b 123 e)) (λ h.
      or_cases (eqb b 93) _ h (λ e. rw (eqb-true b 93 e)) (λ e. rw (eqb-true b 125 e)))))

  structural_tokens : (b : ℕ) (s : List ℕ) (p : ℕ) (rest : ℕ → List Token) → is_structural b ≡ true → every token_textual (rest 0) ≡ true → every token_textual (tokens_by b s p rest) ≡ true
  unfolding every
  structural_tokens b s p rest h q =
      pick_case P (is_separator b) _ _ (λ e. q) (λ x.
      pick_case P (eqb b 91) _ _ (λ e. and_yes _ _ refl q) (λ y.
      pick_case P (eqb b 123) _ _ (λ e. and_yes _ _ refl q) (λ z.
      pick_case P (is_closing b) _ _ (λ e. and_yes _ _ refl q) (λ w.
      absurd (false≢true (sym (or_no _ _ x (or_no _ _ y (or_no _ _ z w))) ∙ h))))))
    where
      P : List Token → Type 0
      P ts = every token_textual ts ≡ true

  scalar_tokens : (b : ℕ) (s : List ℕ) (p : ℕ) (rest : ℕ → List Token) → is_scalar b ≡ true → every token_textual (rest (span_len is_scalar s)) ≡ true → every token_textual (tokens_by b s p rest) ≡ true
  unfolding every pick is_textual
  scalar_tokens b s p rest h q =
      rw (
        or_no _ _ (scalar_no_space b h) (or_no _ _ (apart b 58 h no_scalar.5) (apart b 44 h no_scalar.4)),
        apart b 91 h no_scalar.6,
        apart b 123 h no_scalar.8,
        or_no _ _ (apart b 93 h no_scalar.7) (apart b 125 h no_scalar.9),
        apart b 34 h no_scalar.10,
      )
      (and_yes _ _ (pick_case (λ t. token_textual t ≡ true) (is_small b) _ _ (λ e. refl) (λ e. refl)) q)

  string_textual : (s : List ℕ) (p : ℕ) → is_text (characters s) ≡ true → token_textual (string_token p s) ≡ true
  unfolding is_textual
  string_textual s p h =
      pick_case (λ t. token_textual t ≡ true) (begins_by (λ b. eqb b name_separator) (after_run is_space (drop (quoted_length s) s))) (name p (characters s)) (scalar (string p (characters s))) (λ e. h) (λ e. h)

  quote_tokens : (s : List ℕ) (p : ℕ) (rest : ℕ → List Token) → is_text (characters s) ≡ true → every token_textual (rest (quoted_length s)) ≡ true → every token_textual (tokens_by 34 s p rest) ≡ true
  unfolding every pick ◌or◌
  quote_tokens s p rest h q = and_yes _ _ (string_textual s p h) q

  text_by : (s : List ℕ) → first_bad ([] ⊕ s) ≡ None → holds 13 s ≡ false → is_text s ≡ true
  unfolding is_text
  text_by s h p = and_yes _ _ (rw p) (good_well_formed s (rw (append_empty s) at h))

  -- k bytes are passed over, which belong to a token before
  tokens_textual : (s : List ℕ) (k p i : ℕ) (e : Expect) (cs : List Container) → first_bad (drop k s) ≡ None → check (drop k s) limit i (Expects e) cs ≡ None → every token_textual (scan s p k) ≡ true
  unfolding scan every
  tokens_textual [] k p i e cs h c = refl
  tokens_textual (b ∷ s) (suc k) p i e cs h c = tokens_textual s k (p + 1) i e cs h c
  tokens_textual (b ∷ s) zero p i e cs h c =
      between_by {b = b} (record {
        structural = λ t x ds q. structural_tokens b s p (scan s (p + 1)) t (tokens_textual s 0 (p + 1) (i + 1) x ds (past_ascii b s (structural_ascii b t) h) q);
        quote = λ t n q. quoted t n q (λ k j x. tokens_textual s k (p + 1) j x cs);
        numeral = λ t m q. scalar_tokens b s p (scan s (p + 1)) t (onward t (number_run limit s m (i + 1) cs q) (λ k j x. tokens_textual s k (p + 1) j x cs));
        letter = λ t w l q. scalar_tokens b s p (scan s (p + 1)) t (onward t (literal_run limit 4 w l s (i + 1) cs q) (λ k j x. tokens_textual s k (p + 1) j x cs));
      }) e (around cs) (goes b s limit i (Expects e) cs c)
    where
      Onward : Type 0
      Onward = (k j : ℕ) (x : Expect) → first_bad (drop k s) ≡ None → check (drop k s) limit j (Expects x) cs ≡ None → every token_textual (scan s (p + 1) k) ≡ true

      onward : is_scalar b ≡ true → Behind limit s cs → Onward → every token_textual (scan s (p + 1) (span_len is_scalar s)) ≡ true
      onward t l ih = ih (span_len is_scalar s) l.0 After (past_scalars s (past_ascii b s (scalar_ascii b t) h)) l.1

      quoted : eqb b 34 ≡ true → (n : Bool) → check s limit (i + 1) (InString n Chars) cs ≡ None → Onward → every token_textual (tokens_by b s p (scan s (p + 1))) ≡ true
      quoted t n q ih =
          let z = eqb-true b 34 t in
          let g = past_ascii b s (rw z ascii_quote) h in
          let r = string_text limit s 0 (i + 1) [] n cs (rw (append_empty s) g) q in
          subst (λ (x : ℕ). every token_textual (tokens_by x s p (scan s (p + 1))) ≡ true) (sym z)
          (quote_tokens s p (scan s (p + 1)) (text_by (characters s) r.good r.plain) (ih (quoted_length s) r.left.at r.left.expect r.left.good r.left.fine))

  pub value_textual : (s : List ℕ) → first_bad s ≡ None → verdict limit s ≡ None → is_textual (value_of s) ≡ true
  unfolding value_of
  value_textual s h c = first_textual (elements (scan s 0 0) 0) (elements_textual (scan s 0 0) (tokens_textual s 0 0 0 Value [] h c) 0)
