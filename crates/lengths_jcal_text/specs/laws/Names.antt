-- Of a JSON text that passes the check each member's name stands before a value, and no other string has a colon behind it.
--     tokens_valued    the tokens of such a text
--     checked_size     its value is no larger than the text
use Rattle.std.specs.Prelude.{◌≡◌, Bool, not, ltb, length, drop, Option, None}
use Rattle.std.proofs.Math.Path.{refl}
use Rattle.std.proofs.Common.{sym, subst, ◌∙◌, eqb-true}
use Rattle.std.proofs.Math.Bool.{true, false}
use Rattle.std.proofs.lemmas.Bool.{false≢true}
use mathlib.Core.List.{List, [], ◌∷◌}
use Prim.Native.Nat.{ℕ, zero, suc, ◌+◌, ◌≤◌}
use native.Mathlib.Omega.{arith}
use Rattle.std.proofs.Math.Dec.{eqb}
use Rattle.octets.specs.Pick.{pick, ◌and◌, ◌or◌}
use Rattle.octets.specs.laws.Pick.{pick_case, or_left, or_right, or_no, or_cases}
use Rattle.octets.specs.Scan.{span_len}
use Rattle.octets.specs.Class.{is_space, is_small}
use Rattle.octets.specs.Runs.{after_run}
use Rattle.octets.specs.Front.{begins_by}
use Rattle.json_text.specs.Bytes.{name_separator}
use Rattle.json_text.specs.Check.{after_by, value, name as name_move, expected, between, Container, around, outer, followed, check, verdict}
use Rattle.json_text.specs.Strings.{characters, quoted_length}
use Rattle.json_text.specs.Tree.{string, Token, name, scalar, is_closing, is_separator, is_scalar, tokens_by, scan, value_of}
use Rattle.json_text.specs.declared.Around.{Around}
use Rattle.json_text.specs.declared.Around.TheVariants.{Nothing, Array, Object}
use Rattle.json_text.specs.declared.Expect.{Expect}
use Rattle.json_text.specs.declared.Expect.TheVariants.{Value, ValueOrEnd, Name, NameOrEnd, Colon, After}
use Rattle.json_text.specs.declared.Number.{Number}
use Rattle.json_text.specs.declared.Inside.TheVariants.{Chars}
use Rattle.json_text.specs.declared.State.{State}
use Rattle.json_text.specs.declared.State.TheVariants.{Expects, InLiteral, InNumber, InString}
use Rattle.json_text.specs.declared.Move.TheVariants.{To, OpenArray, OpenObject, Close}
use Rattle.jcal.proofs.laws.CheckedStrings.{not_fine, Goes, goes, choose, bad_not, to_state}
use Rattle.jcal.proofs.laws.CheckedScalars.{apart, no_scalar, scalar_no_space, letters, number_run, literal_run, scalar_by, opened}
use Rattle.lengths_jcal_text.specs.laws.Sizes.{size}
use Rattle.lengths_jcal_text.specs.laws.Tokens.{valued, valued_weaker, value_size}
use Rattle.lengths_jcal_text.specs.laws.Strings.{Ends, string_ends}

-- ---- what is expected where a name stands before: its colon, or a value

abbrev wanted : Expect → Bool
wanted Value = true
wanted ValueOrEnd = false
wanted Name = false
wanted NameOrEnd = false
wanted Colon = true
wanted After = false

module _ (limit : ℕ) where
  -- behind a value no colon stands
  no_colon : (s : List ℕ) (i : ℕ) (cs : List Container) → check s limit i (Expects After) cs ≡ None → begins_by (λ b. eqb b name_separator) (after_run is_space s) ≡ false
  unfolding after_run span_len begins_by pick
  no_colon [] i cs h = refl
  no_colon (b ∷ s) i cs h = go (is_space b) refl (goes b s limit i (Expects After) cs h) (no_colon s (i + 1) cs)
    where
      other : (a : Around) → Goes (after_by a i b) limit i cs (check s limit (i + 1)) → eqb b name_separator ≡ false
      other Nothing k = bad_not i k
      other Array k = choose (eqb b 44) _ _ k (λ e k. rw (eqb-true b 44 e)) (λ e k. choose (eqb b 93) _ _ k (λ e k. rw (eqb-true b 93 e)) (λ e k. bad_not i k))
      other Object k = choose (eqb b 44) _ _ k (λ e k. rw (eqb-true b 44 e)) (λ e k. choose (eqb b 125) _ _ k (λ e k. rw (eqb-true b 125 e)) (λ e k. bad_not i k))

      go : (t : Bool) → is_space b ≡ t → Goes (pick t (To (Expects After)) (after_by (around cs) i b)) limit i cs (check s limit (i + 1)) →
          (check s limit (i + 1) (Expects After) cs ≡ None → begins_by (λ b. eqb b name_separator) (after_run is_space s) ≡ false) → begins_by (λ b. eqb b name_separator) (drop (pick t (suc (span_len is_space s)) 0) (b ∷ s)) ≡ false
      go true e k ih = ih (to_state _ k)
      go false e k ih = other (around cs) k

  -- ---- between tokens

  -- what a byte between tokens can be, where x is expected
  record Ways (X : Type 0) (x : Expect) (b : ℕ) (cs : List Container) (rest : State → List Container → Option ℕ) : Type 0 where
    separates : is_separator b ≡ true → (e : Expect) → (wanted x ≡ true → wanted e ≡ true) → rest (Expects e) cs ≡ None → X
    opens : (eqb b 91 or eqb b 123) ≡ true → (e : Expect) (ds : List Container) → rest (Expects e) ds ≡ None → X
    closes : is_closing b ≡ true → wanted x ≡ false → (ds : List Container) → rest (Expects After) ds ≡ None → X
    quote : eqb b 34 ≡ true → (n : Bool) → (n ≡ true → wanted x ≡ false) → rest (InString n Chars) cs ≡ None → X
    numeral : is_scalar b ≡ true → (m : Number) → rest (InNumber m) cs ≡ None → X
    letter : is_scalar b ≡ true → (w : ℕ) → letters 4 w ≡ true → rest (InLiteral w) cs ≡ None → X

  module _ {X : Type 0} {x : Expect} {i b : ℕ} {cs : List Container} {rest : State → List Container → Option ℕ} (w : Ways X x b cs rest) where
    open_array : eqb b 91 ≡ true → Goes OpenArray limit i cs rest → X
    unfolding followed
    open_array e k = w.opens (or_left _ _ e) ValueOrEnd _ (opened (ltb (length cs) limit) _ i k.fine)

    open_object : eqb b 123 ≡ true → Goes OpenObject limit i cs rest → X
    unfolding followed
    open_object e k = w.opens (or_right _ _ e) NameOrEnd _ (opened (ltb (length cs) limit) _ i k.fine)

    close_by : wanted x ≡ false → is_closing b ≡ true → Goes Close limit i cs rest → X
    unfolding followed
    close_by f e k = w.closes e f (outer cs) k.fine

    value_by : Goes (value i b) limit i cs rest → X
    value_by k =
        choose (eqb b 34) _ _ k (λ e k. w.quote e false (λ z. absurd (false≢true z)) (to_state _ k)) (λ e k.
        choose (eqb b 91) _ _ k open_array (λ e k.
        choose (eqb b 123) _ _ k open_object (λ e k. scalar_by limit i b w.numeral w.letter k)))

    name_by : wanted x ≡ false → Goes (name_move i b) limit i cs rest → X
    name_by f k = choose (eqb b 34) _ _ k (λ e k. w.quote e true (λ z. f) (to_state _ k)) (λ e k. bad_not i k)

    comma : wanted x ≡ false → (e : Expect) → eqb b 44 ≡ true → Goes (To (Expects e)) limit i cs rest → X
    comma f y e k = w.separates (or_right _ _ (or_right _ _ e)) y (λ z. absurd (false≢true (sym f ∙ z))) (to_state _ k)

    behind_by : wanted x ≡ false → (a : Around) → Goes (after_by a i b) limit i cs rest → X
    behind_by f Nothing k = bad_not i k
    behind_by f Array k = choose (eqb b 44) _ _ k (comma f Value) (λ e k. choose (eqb b 93) _ _ k (λ e k. close_by f (or_left _ _ e) k) (λ e k. bad_not i k))
    behind_by f Object k = choose (eqb b 44) _ _ k (comma f Name) (λ e k. choose (eqb b 125) _ _ k (λ e k. close_by f (or_right _ _ e) k) (λ e k. bad_not i k))

  expected_by : {X : Type 0} {i b : ℕ} {cs : List Container} {rest : State → List Container → Option ℕ} (x : Expect) → Ways X x b cs rest → (a : Around) → Goes (expected x a i b) limit i cs rest → X
  expected_by Value w a k = value_by w k
  expected_by {b = b} ValueOrEnd w a k = choose (eqb b 93) _ _ k (λ e k. close_by w refl (or_left _ _ e) k) (λ e k. value_by w k)
  expected_by Name w a k = name_by w refl k
  expected_by {b = b} NameOrEnd w a k = choose (eqb b 125) _ _ k (λ e k. close_by w refl (or_right _ _ e) k) (λ e k. name_by w refl k)
  expected_by {i = i} {b = b} Colon w a k = choose (eqb b 58) _ _ k (λ e k. w.separates (or_right _ _ (or_left _ _ e)) Value (λ z. refl) (to_state _ k)) (λ e k. bad_not i k)
  expected_by After w a k = behind_by w refl a k

  between_by : {X : Type 0} {i b : ℕ} {cs : List Container} {rest : State → List Container → Option ℕ} (x : Expect) → Ways X x b cs rest → (a : Around) → Goes (between x a i b) limit i cs rest → X
  between_by {b = b} x w a k = choose (is_space b) _ _ k (λ e k. w.separates (or_left _ _ e) x (λ z. z) (to_state _ k)) (λ e k. expected_by x w a k)

  -- ---- tokens

  loosened : (ts : List Token) (a c : Bool) → (a ≡ true → c ≡ true) → valued ts c ≡ true → valued ts a ≡ true
  loosened ts true c f h = subst (λ (z : Bool). valued ts z ≡ true) (f refl) h
  loosened ts false true f h = valued_weaker ts h
  loosened ts false false f h = h

  module _ (b : ℕ) (s : List ℕ) (p : ℕ) (rest : ℕ → List Token) (a : Bool) where
    separator_valued : is_separator b ≡ true → valued (rest 0) a ≡ true → valued (tokens_by b s p rest) a ≡ true
    unfolding pick
    separator_valued h q = rw h q

    scalar_valued : is_scalar b ≡ true → valued (rest (span_len is_scalar s)) false ≡ true → valued (tokens_by b s p rest) a ≡ true
    unfolding valued pick
    scalar_valued h q =
        rw (
          or_no _ _ (scalar_no_space b h) (or_no _ _ (apart b 58 h no_scalar.5) (apart b 44 h no_scalar.4)),
          apart b 91 h no_scalar.6,
          apart b 123 h no_scalar.8,
          or_no _ _ (apart b 93 h no_scalar.7) (apart b 125 h no_scalar.9),
          apart b 34 h no_scalar.10,
        )
        (pick_case (λ t. valued (t ∷ rest (span_len is_scalar s)) a ≡ true) (is_small b) _ _ (λ e. q) (λ e. q))

  module _ (s : List ℕ) (p : ℕ) (rest : ℕ → List Token) (a : Bool) where
    array_valued : valued (rest 0) false ≡ true → valued (tokens_by 91 s p rest) a ≡ true
    unfolding valued pick ◌or◌
    array_valued q = q

    object_valued : valued (rest 0) false ≡ true → valued (tokens_by 123 s p rest) a ≡ true
    unfolding valued pick ◌or◌
    object_valued q = q

    end_array_valued : a ≡ false → valued (rest 0) false ≡ true → valued (tokens_by 93 s p rest) a ≡ true
    unfolding valued pick ◌or◌ ◌and◌
    end_array_valued f q = rw f q

    end_object_valued : a ≡ false → valued (rest 0) false ≡ true → valued (tokens_by 125 s p rest) a ≡ true
    unfolding valued pick ◌or◌ ◌and◌
    end_object_valued f q = rw f q

    -- a name
    name_valued : a ≡ false → valued (rest (quoted_length s)) true ≡ true → valued (tokens_by 34 s p rest) a ≡ true
    unfolding valued pick ◌or◌ ◌and◌
    name_valued f q =
        pick_case (λ t. valued (t ∷ rest (quoted_length s)) a ≡ true) (begins_by (λ b. eqb b name_separator) (after_run is_space (drop (quoted_length s) s))) (name p (characters s)) (scalar (string p (characters s)))
        (λ e. rw f q) (λ e. valued_weaker (rest (quoted_length s)) q)

    -- a value
    string_valued : begins_by (λ b. eqb b name_separator) (after_run is_space (drop (quoted_length s) s)) ≡ false → valued (rest (quoted_length s)) false ≡ true → valued (tokens_by 34 s p rest) a ≡ true
    unfolding valued pick ◌or◌
    string_valued e q = rw e q

  none_wanted : (e : Expect) (i : ℕ) (cs : List Container) → check [] limit i (Expects e) cs ≡ None → not (wanted e) ≡ true
  unfolding check
  none_wanted Value i cs c = not_fine i c
  none_wanted ValueOrEnd i cs c = refl
  none_wanted Name i cs c = refl
  none_wanted NameOrEnd i cs c = refl
  none_wanted Colon i cs c = not_fine i c
  none_wanted After i cs c = refl

  -- k bytes are passed over, which belong to a token before
  pub tokens_valued : (s : List ℕ) (k p i : ℕ) (e : Expect) (cs : List Container) → check (drop k s) limit i (Expects e) cs ≡ None → valued (scan s p k) (wanted e) ≡ true
  unfolding scan
  tokens_valued [] zero p i e cs c = unfold valued in none_wanted e i cs c
  tokens_valued [] (suc k) p i e cs c = unfold valued in none_wanted e i cs c
  tokens_valued (b ∷ s) (suc k) p i e cs c = tokens_valued s k (p + 1) i e cs c
  tokens_valued (b ∷ s) zero p i e cs c =
      between_by {b = b} e (record {
        separates = λ t x f q. separator_valued b s p (scan s (p + 1)) (wanted e) t (loosened (scan s (p + 1) 0) (wanted e) (wanted x) f (tokens_valued s 0 (p + 1) (i + 1) x cs q));
        opens = λ t x ds q. bracket t (loosened (scan s (p + 1) 0) false (wanted x) (λ z. absurd (false≢true z)) (tokens_valued s 0 (p + 1) (i + 1) x ds q));
        closes = λ t f ds q. closed t f (tokens_valued s 0 (p + 1) (i + 1) After ds q);
        quote = λ t n f q. quoted t n f (string_ends limit s 0 (i + 1) n cs q) (λ k j x. tokens_valued s k (p + 1) j x cs);
        numeral = λ t m q. let r = number_run limit s m (i + 1) cs q in scalar_valued b s p (scan s (p + 1)) (wanted e) t (tokens_valued s (span_len is_scalar s) (p + 1) r.0 After cs r.1);
        letter = λ t w l q. let r = literal_run limit 4 w l s (i + 1) cs q in scalar_valued b s p (scan s (p + 1)) (wanted e) t (tokens_valued s (span_len is_scalar s) (p + 1) r.0 After cs r.1);
      }) (around cs) (goes b s limit i (Expects e) cs c)
    where
      P : ℕ → Type 0
      P x = valued (tokens_by x s p (scan s (p + 1))) (wanted e) ≡ true

      bracket : (eqb b 91 or eqb b 123) ≡ true → valued (scan s (p + 1) 0) false ≡ true → P b
      bracket t q =
          or_cases (eqb b 91) _ t (λ z. subst P (sym (eqb-true b 91 z)) (array_valued s p (scan s (p + 1)) (wanted e) q))
          (λ z. subst P (sym (eqb-true b 123 z)) (object_valued s p (scan s (p + 1)) (wanted e) q))

      closed : is_closing b ≡ true → wanted e ≡ false → valued (scan s (p + 1) 0) false ≡ true → P b
      closed t f q =
          or_cases (eqb b 93) _ t (λ z. subst P (sym (eqb-true b 93 z)) (end_array_valued s p (scan s (p + 1)) (wanted e) f q))
          (λ z. subst P (sym (eqb-true b 125 z)) (end_object_valued s p (scan s (p + 1)) (wanted e) f q))

      quoted : eqb b 34 ≡ true → (n : Bool) → (n ≡ true → wanted e ≡ false) → Ends limit s 0 n cs →
          ((k j : ℕ) (x : Expect) → check (drop k s) limit j (Expects x) cs ≡ None → valued (scan s (p + 1) k) (wanted x) ≡ true) → P b
      quoted t true f r ih = subst P (sym (eqb-true b 34 t)) (name_valued s p (scan s (p + 1)) (wanted e) (f refl) (ih (quoted_length s) r.at Colon r.fine))
      quoted t false f r ih =
          subst P (sym (eqb-true b 34 t)) (string_valued s p (scan s (p + 1)) (wanted e) (no_colon (drop (quoted_length s) s) r.at cs r.fine) (ih (quoted_length s) r.at After r.fine))

  checked_some : (s : List ℕ) → verdict limit s ≡ None → 1 ≤ length s
  unfolding check
  checked_some [] c = not_fine 0 c
  checked_some (b ∷ s) c = omega arith

  pub checked_size : (s : List ℕ) → verdict limit s ≡ None → size (value_of s) ≤ length s
  checked_size s c = value_size s (checked_some s c) (valued_weaker (scan s 0 0) (tokens_valued s 0 0 0 Value [] c))
