-- A byte back: what completes a text behind a move completes it, with the byte before it, from the state that the move was made in.
--     Naming        what is asked of N
--     step_back     the law for all states
use Rattle.std.specs.Prelude.{◌≡◌, Bool, ℕ, ◌+◌, ◌-◌, ◌/◌, ◌%◌, ◌≤◌, ◌<◌, eqb, ltb, length, None, Some}
use Rattle.std.proofs.Math.Path.{refl, ap}
use Rattle.std.proofs.Common.{sym, subst, ◌∙◌, inl, inr, le-leb, eqb-true, ltb-false}
use Rattle.std.proofs.Math.Bool.{true, false}
use Rattle.std.proofs.lemmas.Bool.{false≢true, eqb-false}
use mathlib.Core.List.{List, [], ◌∷◌}
use native.Mathlib.Omega.{arith}
use Rattle.std.proofs.Math.Decide.{dec_le}
use Rattle.octets.specs.Ascii.{ascii}
use Rattle.octets.specs.Pick.{pick, within, ◌or◌, ◌and◌}
use Rattle.octets.specs.laws.Pick.{and_yes, or_cases, or_left, or_right, within_range, within_yes, eqb_passes, pick_case}
use Rattle.octets.specs.Append.{◌⊕◌}
use Rattle.octets.specs.laws.Append.{append_empty, append_cons, append_regroup}
use Rattle.octets.specs.Class.{is_space, is_digit}
use Rattle.octets.specs.Scan.{all_of}
use Rattle.octets.specs.laws.Scan.{all_split}
use Rattle.json_text.specs.Bytes.{is_e, is_sign, word, names_good, names_bad, hex_value, grown, is_high, is_low, named_bad}
use Rattle.json_text.specs.Check as check
use Rattle.json_text.specs.Check.{Container, around, move}
use Rattle.json_text.specs.declared.Expect.{Expect}
use Rattle.json_text.specs.declared.Expect.TheVariants.{Value, ValueOrEnd, Name, NameOrEnd, Colon, After}
use Rattle.json_text.specs.declared.Number.{Number as NumberState}
use Rattle.json_text.specs.declared.Number.TheVariants.{Minus, Zero, Int, Point, Frac, E, Sign, Exp}
use Rattle.json_text.specs.declared.Inside.{Inside}
use Rattle.json_text.specs.declared.Inside.TheVariants.{Chars, Escape, Hex, High, HighEscape, Low}
use Rattle.json_text.specs.declared.State.{State}
use Rattle.json_text.specs.declared.State.TheVariants.{Expects, InLiteral, InNumber, InString}
use Rattle.json_text.specs.declared.Move.{Move}
use Rattle.json_grammar.specs.Grammar as grammar
use Rattle.json_grammar.specs.Grammar.{Byte, spelled_bytes, optional, Ws, Structural, structural, false_name, null_name, true_name, spelled_digits, spelled_sign, spelled_exp, spelled_frac, is_digit1_9, zero_int, digits_int, spelled_int, is_unescaped, is_escaped, is_hexdig, Char, unescaped, escaped, escaped_unit, spelled_char, spelled_chars, literal, empty_object, object, empty_array, array, number, string, member, no_members, and_member, Values, no_values, and_value, spelled_value, spelled_member, spelled_members, spelled_values, depth, depth_member, depth_members, depth_values, code_unit, every_string, every_string_member, every_string_members, every_string_values}
use Rattle.json_grammar.proofs.laws.Steps.{hexdig_value, unit_grown}
use Rattle.json_grammar.proofs.laws.Rest.{Then, spelled_ws, spelled_digit, is_letters, worth, names_of, Rest, Valued, Membered, Coloned, Between, Lettered, Exponent, Fraction, Numbered, Charred, Digited, Stringed, Behind, Completes, Back}

pub record Naming (N : List Char → Bool → Bool) : Type 0 where
  pub nothing : N [] false ≡ true
  pub plain : (b : Byte is_unescaped) (us : List Char) → N us false ≡ true → N (unescaped b ∷ us) false ≡ true
  pub two : (b : Byte is_escaped) (us : List Char) → names_bad b.byte ≡ false → N us false ≡ true → N (escaped b ∷ us) false ≡ true
  pub high : (a b c d : Byte is_hexdig) (us : List Char) → is_high (code_unit a.byte b.byte c.byte d.byte) ≡ true → N us true ≡ true → N (escaped_unit a b c d ∷ us) false ≡ true
  pub other : (a b c d : Byte is_hexdig) (us : List Char) → is_high (code_unit a.byte b.byte c.byte d.byte) ≡ false → named_bad (code_unit a.byte b.byte c.byte d.byte) ≡ false →
      N us false ≡ true → N (escaped_unit a b c d ∷ us) false ≡ true
  pub low : (a b c d : Byte is_hexdig) (us : List Char) → is_low (code_unit a.byte b.byte c.byte d.byte) ≡ true → N us false ≡ true → N (escaped_unit a b c d ∷ us) true ≡ true

-- ---- spellings in a row

join : {s t : List ℕ} (a b u : List ℕ) → s ≡ a ⊕ t → t ≡ b ⊕ u → s ≡ (a ⊕ b) ⊕ u
join a b u e f = e ∙ ap (λ (l : List ℕ). a ⊕ l) f ∙ sym (append_regroup a b u)

-- behind one byte
joined_cons : (x : ℕ) (a u : List ℕ) {s : List ℕ} → s ≡ a ⊕ u → x ∷ s ≡ (x ∷ a) ⊕ u
joined_cons x a u e = ap (λ (l : List ℕ). x ∷ l) e ∙ sym (append_cons x a u)

-- white space before a structural character
abbrev spaced : (b : ℕ) → is_space b ≡ true → Structural → Structural
spaced b e m = record { before = record { byte = b; passes = e } ∷ m.before; behind = m.behind }

abbrev bare : Ws → Structural
bare w = record { before = []; behind = w }

-- ---- bytes

digit1_9_is : (b : ℕ) → is_digit b ≡ true → eqb b 48 ≡ false → is_digit1_9 b ≡ true
digit1_9_is b h e =
    let r = within_range 48 57 b h in
    let n = eqb-false b 48 e in
    within_yes 49 57 b (le-leb 49 b (go n r.0)) (le-leb b 57 r.1)
  where
    go : (b ≡ 48 → ⊥) → 48 ≤ b → 49 ≤ b
    go n l = omega arith

pub hexdig_is : (b : ℕ) → eqb (hex_value b) 16 ≡ false → is_hexdig b ≡ true
unfolding pick ◌or◌
hexdig_is b h = go (is_digit b) (within 0x41 0x46 b) (within 0x61 0x66 b) h
  where
    go : (t u v : Bool) → eqb (pick t (b - 0x30) (pick u (b - 0x37) (pick v (b - 0x57) 16))) 16 ≡ false → (t or u or v) ≡ true
    go true u v h = refl
    go false true v h = refl
    go false false true h = refl
    go false false false h = absurd (false≢true (sym h))

unescaped_is : (b : ℕ) → eqb b 34 ≡ false → eqb b 92 ≡ false → ltb b 32 ≡ false → is_unescaped b ≡ true
unescaped_is b q r l =
    let n = eqb-false b 34 q in
    let m = eqb-false b 92 r in
    let k = ltb-false b 32 l in
    go n m k (dec_le b 33) (dec_le b 91)
  where
    go : (b ≡ 34 → ⊥) → (b ≡ 92 → ⊥) → 32 ≤ b → Dec (b ≤ 33) → Dec (b ≤ 91) → is_unescaped b ≡ true
    go n m k (yes h) d = or_left _ _ (within_yes 0x20 0x21 b (le-leb 32 b k) (le-leb b 33 h))
    go n m k (no h) (yes g) = or_right _ _ (or_left _ _ (within_yes 0x23 0x5B b (le-leb 35 b (omega arith)) (le-leb b 91 g)))
    go n m k (no h) (no g) = or_right _ _ (or_right _ _ (le-leb 93 b (omega arith)))

escaped_is : (b : ℕ) → names_good b ≡ true → is_escaped b ≡ true
unfolding ◌or◌
escaped_is b h =
    or_cases (eqb b 0x22) _ h (eqb_passes is_escaped 0x22 b refl)
    (λ h. or_cases (eqb b 0x5C) _ h (eqb_passes is_escaped 0x5C b refl)
    (λ h. or_cases (eqb b 0x2F) _ h (eqb_passes is_escaped 0x2F b refl)
    (λ h. or_cases (eqb b 0x6E) _ h (eqb_passes is_escaped 0x6E b refl) (eqb_passes is_escaped 0x74 b refl))))

not_bad : (b : ℕ) → names_good b ≡ true → names_bad b ≡ false
unfolding ◌or◌
not_bad b h =
    or_cases (eqb b 0x22) _ h (λ e. rw (eqb-true b 0x22 e))
    (λ h. or_cases (eqb b 0x5C) _ h (λ e. rw (eqb-true b 0x5C e))
    (λ h. or_cases (eqb b 0x2F) _ h (λ e. rw (eqb-true b 0x2F e))
    (λ h. or_cases (eqb b 0x6E) _ h (λ e. rw (eqb-true b 0x6E e)) (λ e. rw (eqb-true b 0x74 e)))))

-- one character more
char_front : (u : Char) (us : List Char) (s r : List ℕ) → s ≡ (spelled_chars us ⊕ (34 ∷ [])) ⊕ r → spelled_char u ⊕ s ≡ (spelled_chars (u ∷ us) ⊕ (34 ∷ [])) ⊕ r
unfolding spelled_chars
char_front u us s r e = rw (append_regroup (spelled_char u) (spelled_chars us) (34 ∷ []), append_regroup (spelled_char u) (spelled_chars us ⊕ (34 ∷ [])) r) (ap (λ (l : List ℕ). spelled_char u ⊕ l) e)

module _ (limit : ℕ) (N : List Char → Bool → Bool) where
  -- ---- behind a value

  rest_space : (cs : List Container) (b : ℕ) → is_space b ≡ true → (s : List ℕ) → Rest limit N cs s → Rest limit N cs (b ∷ s)
  unfolding spelled_bytes spelled_values spelled_members every_string_values every_string_members depth_values depth_members ◌⊕◌
  rest_space [] b e s t = record { it = record { byte = b; passes = e } ∷ t.it; rest = t.rest; is = ap (λ (l : List ℕ). b ∷ l) t.is; on = t.on }
  rest_space (check.array ∷ cs) b e s t = go t.it.part t.it.names t.it.fits t.is
    where
      go : (vs : Values) → every_string_values (names_of limit N) vs ≡ true → depth_values vs ≤ limit - (length cs + 1) → s ≡ spelled_values vs ⊕ t.rest → Rest limit N (check.array ∷ cs) (b ∷ s)
      go no_values n d i = record {
        it = record { part = no_values; names = n; fits = d };
        rest = b ∷ t.rest;
        is = ap (λ (l : List ℕ). b ∷ l) i;
        on = record { it = spaced b e t.on.it; rest = t.on.rest; is = ap (λ (l : List ℕ). b ∷ l) t.on.is; on = t.on.on };
      }
      go (and_value c v vs) n d i = record { it = record { part = and_value (spaced b e c) v vs; names = n; fits = d }; rest = t.rest; is = ap (λ (l : List ℕ). b ∷ l) i; on = t.on }
  rest_space (check.object ∷ cs) b e s t = go t.it.part t.it.names t.it.fits t.is
    where
      go : (ms : grammar.Members) → every_string_members (names_of limit N) ms ≡ true → depth_members ms ≤ limit - (length cs + 1) → s ≡ spelled_members ms ⊕ t.rest → Rest limit N (check.object ∷ cs) (b ∷ s)
      go no_members n d i = record {
        it = record { part = no_members; names = n; fits = d };
        rest = b ∷ t.rest;
        is = ap (λ (l : List ℕ). b ∷ l) i;
        on = record { it = spaced b e t.on.it; rest = t.on.rest; is = ap (λ (l : List ℕ). b ∷ l) t.on.is; on = t.on.on };
      }
      go (and_member c m ms) n d i = record { it = record { part = and_member (spaced b e c) m ms; names = n; fits = d }; rest = t.rest; is = ap (λ (l : List ℕ). b ∷ l) i; on = t.on }

  -- white space before anything that may come between tokens
  ws_space : {R : List ℕ → Type 0} (b : ℕ) → is_space b ≡ true → (s : List ℕ) → Then spelled_ws R s → Then spelled_ws R (b ∷ s)
  unfolding spelled_bytes ◌⊕◌
  ws_space b e s t = record { it = record { byte = b; passes = e } ∷ t.it; rest = t.rest; is = ap (λ (l : List ℕ). b ∷ l) t.is; on = t.on }

  mark_space : {R : List ℕ → Type 0} (c b : ℕ) → is_space b ≡ true → (s : List ℕ) → Then (structural c) R s → Then (structural c) R (b ∷ s)
  unfolding spelled_bytes ◌⊕◌
  mark_space c b e s t = record { it = spaced b e t.it; rest = t.rest; is = ap (λ (l : List ℕ). b ∷ l) t.is; on = t.on }

  between_space : (e : Expect) (cs : List Container) (b : ℕ) → is_space b ≡ true → (s : List ℕ) → Between limit N e cs s → Between limit N e cs (b ∷ s)
  between_space Value cs b h s t = ws_space b h s t
  between_space ValueOrEnd cs b h s (inl t) = inl (mark_space 93 b h s t)
  between_space ValueOrEnd cs b h s (inr t) = inr (ws_space b h s t)
  between_space Name cs b h s t = ws_space b h s t
  between_space NameOrEnd cs b h s (inl t) = inl (mark_space 125 b h s t)
  between_space NameOrEnd cs b h s (inr t) = inr (ws_space b h s t)
  between_space Colon cs b h s t = mark_space 58 b h s t
  between_space After cs b h s t = rest_space cs b h s t

  -- a structural character and the white space behind it
  mark_here : {R : List ℕ → Type 0} (c : ℕ) (s : List ℕ) → Then spelled_ws R s → Then (structural c) R (c ∷ s)
  unfolding spelled_bytes ◌⊕◌
  mark_here c s t = record { it = bare t.it; rest = t.rest; is = ap (λ (l : List ℕ). c ∷ l) t.is; on = t.on }

  -- the end of an array, of an object
  closes_array : (cs : List Container) (s : List ℕ) → Rest limit N cs s → Rest limit N (check.array ∷ cs) (93 ∷ s)
  unfolding spelled_bytes spelled_values every_string_values depth_values ◌⊕◌
  closes_array cs s t = record {
    it = record { part = no_values; names = refl; fits = omega arith };
    rest = 93 ∷ s;
    is = refl;
    on = record { it = bare []; rest = s; is = refl; on = t };
  }

  closes_object : (cs : List Container) (s : List ℕ) → Rest limit N cs s → Rest limit N (check.object ∷ cs) (125 ∷ s)
  unfolding spelled_bytes spelled_members every_string_members depth_members ◌⊕◌
  closes_object cs s t = record {
    it = record { part = no_members; names = refl; fits = omega arith };
    rest = 125 ∷ s;
    is = refl;
    on = record { it = bare []; rest = s; is = refl; on = t };
  }

  -- a value separator
  next_value : (cs : List Container) (s : List ℕ) → Valued limit N (check.array ∷ cs) s → Rest limit N (check.array ∷ cs) (44 ∷ s)
  unfolding spelled_bytes spelled_values every_string_values depth_values ◌⊕◌
  next_value cs s t =
      let v = t.on.it in
      let vs = t.on.on.it in
      record {
        it = record { part = and_value (bare t.it) v.part vs.part; names = and_yes _ _ v.names vs.names; fits = omega (arith, v.fits, vs.fits) };
        rest = t.on.on.rest;
        is = join (44 ∷ spelled_bytes t.it) _ _ (joined_cons 44 (spelled_bytes t.it) _ t.is) (join (spelled_value v.part) (spelled_values vs.part) _ t.on.is t.on.on.is);
        on = t.on.on.on;
      }

  next_member : (cs : List Container) (s : List ℕ) → Membered limit N (check.object ∷ cs) s → Rest limit N (check.object ∷ cs) (44 ∷ s)
  unfolding spelled_bytes spelled_members every_string_members depth_members ◌⊕◌
  next_member cs s t =
      let m = t.on.it in
      let ms = t.on.on.it in
      record {
        it = record { part = and_member (bare t.it) m.part ms.part; names = and_yes _ _ m.names ms.names; fits = omega (arith, m.fits, ms.fits) };
        rest = t.on.on.rest;
        is = join (44 ∷ spelled_bytes t.it) _ _ (joined_cons 44 (spelled_bytes t.it) _ t.is) (join (spelled_member m.part) (spelled_members ms.part) _ t.on.is t.on.on.is);
        on = t.on.on.on;
      }

  -- a goal from what a move leads to
  abbrev From : Type 0 → List Container → List ℕ → Move → Type 0
  From G cs s m = Back limit N m cs s → G

  after_by_back : (cs : List Container) (i b : ℕ) (s : List ℕ) → Back limit N (check.after_by (around cs) i b) cs s → Rest limit N cs (b ∷ s)
  after_by_back [] i b s = λ h. absurd h
  after_by_back (check.array ∷ cs) i b s =
      pick_case (From (Rest limit N (check.array ∷ cs) (b ∷ s)) (check.array ∷ cs) s) (eqb b 44) _ _ (λ e h. rw (eqb-true b 44 e) (next_value cs s h))
      (λ n. pick_case (From (Rest limit N (check.array ∷ cs) (b ∷ s)) (check.array ∷ cs) s) (eqb b 93) _ _ (λ e h. rw (eqb-true b 93 e) (closes_array cs s h)) (λ e h. absurd h))
  after_by_back (check.object ∷ cs) i b s =
      pick_case (From (Rest limit N (check.object ∷ cs) (b ∷ s)) (check.object ∷ cs) s) (eqb b 44) _ _ (λ e h. rw (eqb-true b 44 e) (next_member cs s h))
      (λ n. pick_case (From (Rest limit N (check.object ∷ cs) (b ∷ s)) (check.object ∷ cs) s) (eqb b 125) _ _ (λ e h. rw (eqb-true b 125 e) (closes_object cs s h)) (λ e h. absurd h))

  after_back : (cs : List Container) (i b : ℕ) (s : List ℕ) → Back limit N (check.after (around cs) i b) cs s → Rest limit N cs (b ∷ s)
  after_back cs i b s = pick_case (From (Rest limit N cs (b ∷ s)) cs s) (is_space b) _ _ (λ e h. rest_space cs b e s h) (λ e h. after_by_back cs i b s h)

  -- ---- numbers

  module _ {R : List ℕ → Type 0} where
    no_fraction : (s : List ℕ) → Exponent limit N R s → Fraction limit N R s
    unfolding optional ◌⊕◌
    no_fraction s t = record { it = None; rest = s; is = refl; on = t }

    no_exponent : (s : List ℕ) → R s → Exponent limit N R s
    unfolding optional ◌⊕◌
    no_exponent s t = record { it = None; rest = s; is = refl; on = t }

    no_digits : (s : List ℕ) → R s → Then spelled_digit R s
    unfolding spelled_bytes ◌⊕◌
    no_digits s t = record { it = []; rest = s; is = refl; on = t }

    more_digits : (b : ℕ) → is_digit b ≡ true → (s : List ℕ) → Then spelled_digit R s → Then spelled_digit R (b ∷ s)
    unfolding spelled_bytes ◌⊕◌
    more_digits b e s t = record { it = record { byte = b; passes = e } ∷ t.it; rest = t.rest; is = ap (λ (l : List ℕ). b ∷ l) t.is; on = t.on }

    first_digit : (b : ℕ) → is_digit b ≡ true → (s : List ℕ) → Then spelled_digit R s → Then spelled_digits R (b ∷ s)
    unfolding ◌⊕◌
    first_digit b e s t = record { it = record { first = record { byte = b; passes = e }; more = t.it }; rest = t.rest; is = ap (λ (l : List ℕ). b ∷ l) t.is; on = t.on }

    no_sign : (s : List ℕ) → R s → Then (optional spelled_sign) R s
    unfolding optional ◌⊕◌
    no_sign s t = record { it = None; rest = s; is = refl; on = t }

    one_sign : (b : ℕ) → is_sign b ≡ true → (s : List ℕ) → R s → Then (optional spelled_sign) R (b ∷ s)
    unfolding optional ◌⊕◌
    one_sign b e s t = record { it = Some (record { byte = b; passes = e }); rest = s; is = refl; on = t }

    a_fraction : (s : List ℕ) → Then spelled_digits (Exponent limit N R) s → Fraction limit N R (46 ∷ s)
    unfolding optional ◌⊕◌
    a_fraction s t = record { it = Some t.it; rest = t.rest; is = ap (λ (l : List ℕ). 46 ∷ l) t.is; on = t.on }

    an_exponent : (b : ℕ) → is_e b ≡ true → (s : List ℕ) → Then (optional spelled_sign) (Then spelled_digits R) s → Exponent limit N R (b ∷ s)
    unfolding optional ◌⊕◌
    an_exponent b e s t = record {
      it = Some (record { e = record { byte = b; passes = e }; sign = t.it; digits = t.on.it });
      rest = t.on.rest;
      is = ap (λ (l : List ℕ). b ∷ l) (join (optional spelled_sign t.it) (spelled_digits t.on.it) _ t.is t.on.is);
      on = t.on.on;
    }

    zero_int_lem : (s : List ℕ) → Fraction limit N R s → Then spelled_int (Fraction limit N R) (48 ∷ s)
    unfolding ◌⊕◌
    zero_int_lem s t = record { it = zero_int; rest = s; is = refl; on = t }

    digits_int_lem : (b : ℕ) → is_digit1_9 b ≡ true → (s : List ℕ) → Then spelled_digit (Fraction limit N R) s → Then spelled_int (Fraction limit N R) (b ∷ s)
    unfolding ◌⊕◌
    digits_int_lem b e s t = record { it = digits_int (record { byte = b; passes = e }) t.it; rest = t.rest; is = ap (λ (l : List ℕ). b ∷ l) t.is; on = t.on }

  module _ (cs : List Container) (i b : ℕ) (s : List ℕ) where
    abbrev Behinds : List ℕ → Type 0
    Behinds t = Rest limit N cs t

    exponent_back : Back limit N (check.exponent (around cs) i b) cs s → Exponent limit N Behinds (b ∷ s)
    exponent_back = pick_case (From (Exponent limit N Behinds (b ∷ s)) cs s) (is_e b) _ _ (λ e h. an_exponent b e s h) (λ e h. no_exponent (b ∷ s) (after_back cs i b s h))

    fraction_back : Back limit N (check.fraction (around cs) i b) cs s → Fraction limit N Behinds (b ∷ s)
    fraction_back = pick_case (From (Fraction limit N Behinds (b ∷ s)) cs s) (eqb b 46) _ _ (λ e h. rw (eqb-true b 46 e) (a_fraction s h)) (λ e h. no_fraction (b ∷ s) (exponent_back h))

    number_back : (n : NumberState) → Back limit N (check.number n (around cs) i b) cs s → Numbered limit N n Behinds (b ∷ s)
    number_back Minus =
        pick_case (From (Numbered limit N Minus Behinds (b ∷ s)) cs s) (eqb b 48) _ _ (λ e h. rw (eqb-true b 48 e) (zero_int_lem s h))
        (λ n. pick_case (From (Numbered limit N Minus Behinds (b ∷ s)) cs s) (is_digit b) _ _ (λ e h. digits_int_lem b (digit1_9_is b e n) s h) (λ e h. absurd h))
    number_back Zero = fraction_back
    number_back Int = pick_case (From (Numbered limit N Int Behinds (b ∷ s)) cs s) (is_digit b) _ _ (λ e h. more_digits b e s h) (λ e h. no_digits (b ∷ s) (fraction_back h))
    number_back Point = pick_case (From (Numbered limit N Point Behinds (b ∷ s)) cs s) (is_digit b) _ _ (λ e h. first_digit b e s h) (λ e h. absurd h)
    number_back Frac = pick_case (From (Numbered limit N Frac Behinds (b ∷ s)) cs s) (is_digit b) _ _ (λ e h. more_digits b e s h) (λ e h. no_digits (b ∷ s) (exponent_back h))
    number_back E =
        pick_case (From (Numbered limit N E Behinds (b ∷ s)) cs s) (is_sign b) _ _ (λ e h. one_sign b e s h)
        (λ n. pick_case (From (Numbered limit N E Behinds (b ∷ s)) cs s) (is_digit b) _ _ (λ e h. no_sign (b ∷ s) (first_digit b e s h)) (λ e h. absurd h))
    number_back Sign = pick_case (From (Numbered limit N Sign Behinds (b ∷ s)) cs s) (is_digit b) _ _ (λ e h. first_digit b e s h) (λ e h. absurd h)
    number_back Exp = pick_case (From (Numbered limit N Exp Behinds (b ∷ s)) cs s) (is_digit b) _ _ (λ e h. more_digits b e s h) (λ e h. no_digits (b ∷ s) (after_back cs i b s h))

  -- ---- literals

  letters_back : (w : ℕ) (cs : List Container) (i b : ℕ) (s : List ℕ) → Back limit N (check.literal w i b) cs s → Lettered limit N w cs (b ∷ s)
  letters_back w cs i b s h [] a z q = absurd (omega arith)
  letters_back w cs i b s h (c ∷ []) a z q = go h
    where
      r : (1 ≤ c) × (c ≤ 255)
      r = within_range 1 255 c (all_split (within 1 255) c [] a).0

      go : Back limit N (check.literal w i b) cs s → (u : List ℕ) × (b ∷ s ≡ (c ∷ []) ⊕ u) × Rest limit N cs u
      go = pick_case (From ((u : List ℕ) × (b ∷ s ≡ (c ∷ []) ⊕ u) × Rest limit N cs u) cs s) (eqb b (w % 256)) _ _
          (λ e. pick_case (From ((u : List ℕ) × (b ∷ s ≡ (c ∷ []) ⊕ u) × Rest limit N cs u) cs s) (eqb (w / 256) 0) _ _
          (λ f h. (s, let k = eqb-true b (w % 256) e in let m : b ≡ c = omega (arith, r, q, k) in ap (λ (x : ℕ). x ∷ s) m ∙ joined_cons c [] s (sym (append_empty s)), h))
          (λ f h. let k = eqb-false (w / 256) 0 f in let m : w / 256 ≡ 0 = omega (arith, r, q) in absurd (k m)))
          (λ e h. absurd h)
  letters_back w cs i b s h (c ∷ d ∷ l) a z q = go h
    where
      p : (within 1 255 c ≡ true) × (is_letters (d ∷ l) ≡ true)
      p = all_split (within 1 255) c (d ∷ l) a

      r : (1 ≤ c) × (c ≤ 255)
      r = within_range 1 255 c p.0

      t : (1 ≤ d) × (d ≤ 255)
      t = within_range 1 255 d (all_split (within 1 255) d l p.1).0

      go : Back limit N (check.literal w i b) cs s → (u : List ℕ) × (b ∷ s ≡ (c ∷ d ∷ l) ⊕ u) × Rest limit N cs u
      go = pick_case (From ((u : List ℕ) × (b ∷ s ≡ (c ∷ d ∷ l) ⊕ u) × Rest limit N cs u) cs s) (eqb b (w % 256)) _ _
          (λ e. pick_case (From ((u : List ℕ) × (b ∷ s ≡ (c ∷ d ∷ l) ⊕ u) × Rest limit N cs u) cs s) (eqb (w / 256) 0) _ _
          (λ f h. let k = eqb-true (w / 256) 0 f in absurd (omega (arith, r, t, q, k)))
          (λ f h.
          let k = eqb-true b (w % 256) e in
          let m : b ≡ c = omega (arith, r, q, k) in
          let n : word (d ∷ l) ≡ w / 256 = omega (arith, r, q) in
          let x = h (d ∷ l) p.1 (omega arith) n in
          (x.0, ap (λ (y : ℕ). y ∷ s) m ∙ joined_cons c (d ∷ l) x.0 x.1, x.2)))
          (λ e h. absurd h)

  -- ---- values

  value_here : (cs : List Container) (v : grammar.Value) (s r : List ℕ) → every_string (names_of limit N) v ≡ true → depth v ≤ limit - length cs → s ≡ spelled_value v ⊕ r → Rest limit N cs r → Valued limit N cs s
  unfolding spelled_bytes ◌⊕◌
  value_here cs v s r n d e t = record { it = []; rest = s; is = refl; on = record { it = record { part = v; names = n; fits = d }; rest = r; is = e; on = t } }

  -- a number that begins with minus, with zero, with another digit
  minus_value : (cs : List Container) (s : List ℕ) → Numbered limit N Minus (λ t. Rest limit N cs t) s → Valued limit N cs (45 ∷ s)
  unfolding spelled_value every_string depth pick ◌⊕◌
  minus_value cs s t =
      value_here cs (number (record { has_minus = true; int = t.it; frac = t.on.it; exp = t.on.on.it })) (45 ∷ s) t.on.on.rest refl (omega arith)
      (ap (λ (l : List ℕ). 45 ∷ l) (join (spelled_int t.it) _ _ t.is (join (optional spelled_frac t.on.it) (optional spelled_exp t.on.on.it) _ t.on.is t.on.on.is))) t.on.on.on

  int_value : (cs : List Container) (s : List ℕ) → Numbered limit N Minus (λ t. Rest limit N cs t) s → Valued limit N cs s
  unfolding spelled_value every_string depth pick ◌⊕◌
  int_value cs s t =
      value_here cs (number (record { has_minus = false; int = t.it; frac = t.on.it; exp = t.on.on.it })) s t.on.on.rest refl (omega arith)
      (join (spelled_int t.it) _ _ t.is (join (optional spelled_frac t.on.it) (optional spelled_exp t.on.on.it) _ t.on.is t.on.on.is)) t.on.on.on

  -- literals
  literal_values : (cs : List Container) (s : List ℕ) →
      (Lettered limit N (word (ascii "rue")) cs s → Valued limit N cs (0x74 ∷ s))
      × (Lettered limit N (word (ascii "alse")) cs s → Valued limit N cs (0x66 ∷ s))
      × (Lettered limit N (word (ascii "ull")) cs s → Valued limit N cs (0x6E ∷ s))
  unfolding spelled_value every_string depth all_of pick ◌and◌
  literal_values cs s = (
    λ f. let t = f (ascii "rue") refl (omega arith) refl in value_here cs (literal true_name) (0x74 ∷ s) t.0 refl (omega arith) (joined_cons 0x74 (ascii "rue") t.0 t.1) t.2,
    λ f. let t = f (ascii "alse") refl (omega arith) refl in value_here cs (literal false_name) (0x66 ∷ s) t.0 refl (omega arith) (joined_cons 0x66 (ascii "alse") t.0 t.1) t.2,
    λ f. let t = f (ascii "ull") refl (omega arith) refl in value_here cs (literal null_name) (0x6E ∷ s) t.0 refl (omega arith) (joined_cons 0x6E (ascii "ull") t.0 t.1) t.2,
  )

  string_value : (cs : List Container) (s : List ℕ) → Charred limit N false (λ t. Rest limit N cs t) s → Valued limit N cs (34 ∷ s)
  unfolding spelled_value every_string depth
  string_value cs s t = value_here cs (string t.it.chars) (34 ∷ s) t.rest t.it.named (omega arith) (joined_cons 34 _ t.rest t.is) t.on

  array_value : (cs : List Container) (s : List ℕ) → length cs < limit → Between limit N ValueOrEnd (check.array ∷ cs) s → Valued limit N cs (91 ∷ s)
  unfolding spelled_bytes spelled_value every_string depth ◌⊕◌
  array_value cs s l (inl t) = value_here cs (empty_array (bare []) t.it) (91 ∷ s) t.rest refl (omega arith) (ap (λ (l : List ℕ). 91 ∷ l) t.is) t.on
  array_value cs s l (inr t) =
      let v = t.on.it in
      let vs = t.on.on.it in
      let e = t.on.on.on.it in
      value_here cs (array (bare t.it) v.part vs.part e) (91 ∷ s) t.on.on.on.rest (and_yes _ _ v.names vs.names) (omega (arith, v.fits, vs.fits))
      (ap (λ (l : List ℕ). 91 ∷ l) (join (spelled_bytes t.it) _ _ t.is (join (spelled_value v.part) _ _ t.on.is (join (spelled_values vs.part) (structural 93 e) _ t.on.on.is t.on.on.on.is))))
      t.on.on.on.on

  object_value : (cs : List Container) (s : List ℕ) → length cs < limit → Between limit N NameOrEnd (check.object ∷ cs) s → Valued limit N cs (123 ∷ s)
  unfolding spelled_bytes spelled_value every_string depth ◌⊕◌
  object_value cs s l (inl t) = value_here cs (empty_object (bare []) t.it) (123 ∷ s) t.rest refl (omega arith) (ap (λ (l : List ℕ). 123 ∷ l) t.is) t.on
  object_value cs s l (inr t) =
      let m = t.on.it in
      let ms = t.on.on.it in
      let e = t.on.on.on.it in
      value_here cs (object (bare t.it) m.part ms.part e) (123 ∷ s) t.on.on.on.rest (and_yes _ _ m.names ms.names) (omega (arith, m.fits, ms.fits))
      (ap (λ (l : List ℕ). 123 ∷ l) (join (spelled_bytes t.it) _ _ t.is (join (spelled_member m.part) _ _ t.on.is (join (spelled_members ms.part) (structural 125 e) _ t.on.on.is t.on.on.on.is))))
      t.on.on.on.on

  name_member : (cs : List Container) (s : List ℕ) → Charred limit N false (λ t. Coloned limit N cs t) s → Membered limit N cs (34 ∷ s)
  unfolding spelled_bytes spelled_member every_string_member depth_member ◌⊕◌
  name_member cs s t =
      let v = t.on.on.it in
      record {
        it = [];
        rest = 34 ∷ s;
        is = refl;
        on = record {
          it = record { part = member t.it.chars t.on.it v.part; names = and_yes _ _ t.it.named v.names; fits = v.fits };
          rest = t.on.on.rest;
          is = join (34 ∷ (spelled_chars t.it.chars ⊕ (34 ∷ []))) _ _ (joined_cons 34 (spelled_chars t.it.chars ⊕ (34 ∷ [])) t.rest t.is) (join (structural 58 t.on.it) (spelled_value v.part) _ t.on.is t.on.on.is);
          on = t.on.on.on;
        };
      }

  -- the first byte of a value
  value_back : (cs : List Container) (i b : ℕ) (s : List ℕ) → Back limit N (check.value i b) cs s → Valued limit N cs (b ∷ s)
  value_back cs i b s =
      pick_case G (eqb b 34) _ _ (λ e h. rw (eqb-true b 34 e) (string_value cs s h))
      (λ _. pick_case G (eqb b 91) _ _ (λ e h. rw (eqb-true b 91 e) (array_value cs s h.0 h.1))
      (λ _. pick_case G (eqb b 123) _ _ (λ e h. rw (eqb-true b 123 e) (object_value cs s h.0 h.1))
      (λ _. pick_case G (eqb b 45) _ _ (λ e h. rw (eqb-true b 45 e) (minus_value cs s h))
      (λ _. pick_case G (eqb b 48) _ _ (λ e h. rw (eqb-true b 48 e) (int_value cs (48 ∷ s) (zero_int_lem s h)))
      (λ n. pick_case G (is_digit b) _ _ (λ e h. int_value cs (b ∷ s) (digits_int_lem b (digit1_9_is b e n) s h))
      (λ _. pick_case G (eqb b 0x74) _ _ (λ e h. rw (eqb-true b 0x74 e) ((literal_values cs s).0 h))
      (λ _. pick_case G (eqb b 0x66) _ _ (λ e h. rw (eqb-true b 0x66 e) ((literal_values cs s).1 h))
      (λ _. pick_case G (eqb b 0x6E) _ _ (λ e h. rw (eqb-true b 0x6E e) ((literal_values cs s).2 h)) (λ e h. absurd h)))))))))
    where
      G : Move → Type 0
      G = From (Valued limit N cs (b ∷ s)) cs s

  name_back : (cs : List Container) (i b : ℕ) (s : List ℕ) → Back limit N (check.name i b) cs s → Membered limit N cs (b ∷ s)
  name_back cs i b s = pick_case (From (Membered limit N cs (b ∷ s)) cs s) (eqb b 34) _ _ (λ e h. rw (eqb-true b 34 e) (name_member cs s h)) (λ e h. absurd h)

  closed_here : {R : List ℕ → Type 0} (c : ℕ) (s : List ℕ) → R s → Then (structural c) R (c ∷ s)
  unfolding spelled_bytes ◌⊕◌
  closed_here c s t = record { it = bare []; rest = s; is = refl; on = t }

  expected_back : (e : Expect) (cs : List Container) (i b : ℕ) (s : List ℕ) → Back limit N (check.expected e (around cs) i b) cs s → Between limit N e cs (b ∷ s)
  expected_back Value cs i b s = value_back cs i b s
  expected_back ValueOrEnd cs i b s = pick_case (From (Between limit N ValueOrEnd cs (b ∷ s)) cs s) (eqb b 93) _ _ (λ e h. inl (rw (eqb-true b 93 e) (closed_here 93 s h))) (λ e h. inr (value_back cs i b s h))
  expected_back Name cs i b s = name_back cs i b s
  expected_back NameOrEnd cs i b s = pick_case (From (Between limit N NameOrEnd cs (b ∷ s)) cs s) (eqb b 125) _ _ (λ e h. inl (rw (eqb-true b 125 e) (closed_here 125 s h))) (λ e h. inr (name_back cs i b s h))
  expected_back Colon cs i b s = pick_case (From (Between limit N Colon cs (b ∷ s)) cs s) (eqb b 58) _ _ (λ e h. rw (eqb-true b 58 e) (mark_here 58 s h)) (λ e h. absurd h)
  expected_back After cs i b s = after_by_back cs i b s

  between_back : (e : Expect) (cs : List Container) (i b : ℕ) (s : List ℕ) → Back limit N (check.between e (around cs) i b) cs s → Between limit N e cs (b ∷ s)
  between_back e cs i b s = pick_case (From (Between limit N e cs (b ∷ s)) cs s) (is_space b) _ _ (λ t h. between_space e cs b t s h) (λ t h. expected_back e cs i b s h)

  -- ---- strings

  module _ (law : Naming N) {R : List ℕ → Type 0} where
    -- the quotation mark at the end
    no_chars : (s : List ℕ) → R s → Charred limit N false R (34 ∷ s)
    unfolding spelled_chars ◌⊕◌
    no_chars s t = record { it = record { chars = []; named = law.nothing }; rest = s; is = refl; on = t }

    module _ (s : List ℕ) where
      plain_char : (b : Byte is_unescaped) → Charred limit N false R s → Charred limit N false R (b.byte ∷ s)
      plain_char b t = record {
        it = record { chars = unescaped b ∷ t.it.chars; named = law.plain b t.it.chars t.it.named };
        rest = t.rest;
        is = sym (append_cons b.byte [] s ∙ ap (λ (l : List ℕ). b.byte ∷ l) (append_empty s)) ∙ char_front (unescaped b) t.it.chars s t.rest t.is;
        on = t.on;
      }

      pub two_char : (b : Byte is_escaped) → names_bad b.byte ≡ false → Charred limit N false R s → Charred limit N false R (92 ∷ b.byte ∷ s)
      unfolding ◌⊕◌
      two_char b n t = record {
        it = record { chars = escaped b ∷ t.it.chars; named = law.two b t.it.chars n t.it.named };
        rest = t.rest;
        is = char_front (escaped b) t.it.chars s t.rest t.is;
        on = t.on;
      }

      module _ (a b c d : Byte is_hexdig) where
        pub unit_char : (before behind : Bool) → ((us : List Char) → N us behind ≡ true → N (escaped_unit a b c d ∷ us) before ≡ true) → Charred limit N behind R s →
            Charred limit N before R (92 ∷ 117 ∷ a.byte ∷ b.byte ∷ c.byte ∷ d.byte ∷ s)
        unfolding ◌⊕◌
        unit_char before behind f t = record {
          it = record { chars = escaped_unit a b c d ∷ t.it.chars; named = f t.it.chars t.it.named };
          rest = t.rest;
          is = char_front (escaped_unit a b c d) t.it.chars s t.rest t.is;
          on = t.on;
        }

  -- the digits of an escape
  worth_last : (ds : List (Byte is_hexdig)) (v : ℕ) (b : Byte is_hexdig) → worth v (ds ⊕ (b ∷ [])) ≡ grown (worth v ds) (hex_value b.byte)
  unfolding ◌⊕◌
  worth_last [] v b = refl
  worth_last (d ∷ ds) v b = worth_last ds (grown v (hex_value d.byte)) b

  length_last : (ds : List (Byte is_hexdig)) (b : Byte is_hexdig) → length (ds ⊕ (b ∷ [])) ≡ length ds + 1
  unfolding ◌⊕◌
  length_last [] b = refl
  length_last (d ∷ ds) b = let e = length_last ds b in omega arith

  spelled_last : (ds : List (Byte is_hexdig)) (b : Byte is_hexdig) (s : List ℕ) → spelled_bytes (ds ⊕ (b ∷ [])) ⊕ s ≡ spelled_bytes ds ⊕ (b.byte ∷ s)
  unfolding spelled_bytes ◌⊕◌
  spelled_last [] b s = refl
  spelled_last (d ∷ ds) b s = ap (λ (l : List ℕ). d.byte ∷ l) (spelled_last ds b s)

  pub more_hex : {R : List ℕ → Type 0} (high : Bool) (k v : ℕ) (b : Byte is_hexdig) (s : List ℕ) → eqb k 0 ≡ false → Digited limit N high (k - 1) (grown v (hex_value b.byte)) R s → Digited limit N high k v R (b.byte ∷ s)
  more_hex {R} high k v b s z f ds l w =
      let n = eqb-false k 0 z in
      subst (λ (l : List ℕ). Charred limit N high R (92 ∷ 117 ∷ l)) (spelled_last ds b s) (f (ds ⊕ (b ∷ [])) (ap (λ (x : ℕ). x + (k - 1)) (length_last ds b) ∙ less n) (worth_last ds 0 b ∙ ap (λ (x : ℕ). grown x (hex_value b.byte)) w))
    where
      less : (k ≡ 0 → ⊥) → length ds + 1 + (k - 1) ≡ 3
      less n = omega (arith, l)

  pub three_digits : (P : List (Byte is_hexdig) → Type 0) → ((x y z : Byte is_hexdig) → P (x ∷ y ∷ z ∷ [])) → (ds : List (Byte is_hexdig)) → length ds ≡ 3 → P ds
  three_digits P f [] l = absurd (omega arith)
  three_digits P f (x ∷ []) l = absurd (omega arith)
  three_digits P f (x ∷ y ∷ []) l = absurd (omega arith)
  three_digits P f (x ∷ y ∷ z ∷ []) l = f x y z
  three_digits P f (x ∷ y ∷ z ∷ u ∷ ds) l = absurd (omega arith)

  module _ (law : Naming N) (cs : List Container) (n : Bool) (b : Byte is_hexdig) (s : List ℕ) where
    abbrev R : List ℕ → Type 0
    R t = Behind limit N n cs t

    unit_is : (x y z : Byte is_hexdig) (v : ℕ) → worth 0 (x ∷ y ∷ z ∷ []) ≡ v → grown v (hex_value b.byte) ≡ code_unit x.byte y.byte z.byte b.byte
    unit_is x y z v w =
        ap (λ (u : ℕ). grown u (hex_value b.byte)) (sym w)
        ∙ unit_grown (hex_value x.byte) (hex_value y.byte) (hex_value z.byte) (hex_value b.byte) (hexdig_value x.byte x.passes) (hexdig_value y.byte y.passes) (hexdig_value z.byte z.passes)

    last_hex : (from v : ℕ) → Back limit N (check.named n from (grown v (hex_value b.byte))) cs s → Digited limit N false 0 v R (b.byte ∷ s)
    unfolding spelled_bytes ◌⊕◌
    last_hex from v h ds l w = three_digits (λ ds. worth 0 ds ≡ v → Charred limit N false R (92 ∷ 117 ∷ (spelled_bytes ds ⊕ (b.byte ∷ s)))) go ds (omega (arith, l)) w
      where
        go : (x y z : Byte is_hexdig) → worth 0 (x ∷ y ∷ z ∷ []) ≡ v → Charred limit N false R (92 ∷ 117 ∷ (spelled_bytes (x ∷ y ∷ z ∷ []) ⊕ (b.byte ∷ s)))
        go x y z w =
            let q = unit_is x y z v w in
            pick_case (From (Charred limit N false R (92 ∷ 117 ∷ x.byte ∷ y.byte ∷ z.byte ∷ b.byte ∷ s)) cs s) (is_high (grown v (hex_value b.byte))) _ _
            (λ e h. unit_char law s x y z b false true (λ us k. law.high x y z b us (ap is_high (sym q) ∙ e) k) h)
            (λ e. pick_case (From (Charred limit N false R (92 ∷ 117 ∷ x.byte ∷ y.byte ∷ z.byte ∷ b.byte ∷ s)) cs s) (named_bad (grown v (hex_value b.byte))) _ _
            (λ f h. absurd h)
            (λ f h. unit_char law s x y z b false false (λ us k. law.other x y z b us (ap is_high (sym q) ∙ e) (ap named_bad (sym q) ∙ f) k) h))
            h

    last_low : (from v : ℕ) → Back limit N (check.low_pair n from (grown v (hex_value b.byte))) cs s → Digited limit N true 0 v R (b.byte ∷ s)
    unfolding spelled_bytes ◌⊕◌
    last_low from v h ds l w = three_digits (λ ds. worth 0 ds ≡ v → Charred limit N true R (92 ∷ 117 ∷ (spelled_bytes ds ⊕ (b.byte ∷ s)))) go ds (omega (arith, l)) w
      where
        go : (x y z : Byte is_hexdig) → worth 0 (x ∷ y ∷ z ∷ []) ≡ v → Charred limit N true R (92 ∷ 117 ∷ (spelled_bytes (x ∷ y ∷ z ∷ []) ⊕ (b.byte ∷ s)))
        go x y z w =
            let q = unit_is x y z v w in
            pick_case (From (Charred limit N true R (92 ∷ 117 ∷ x.byte ∷ y.byte ∷ z.byte ∷ b.byte ∷ s)) cs s) (is_low (grown v (hex_value b.byte))) _ _
            (λ e h. unit_char law s x y z b true false (λ us k. law.low x y z b us (ap is_low (sym q) ∙ e) k) h)
            (λ e h. absurd h)
            h

  module _ (law : Naming N) (cs : List Container) (n : Bool) (i b : ℕ) (s : List ℕ) where
    abbrev In : Inside → List ℕ → Type 0
    In t u = Stringed limit N t (λ x. Behind limit N n cs x) u

    behind_back : Back limit N (check.behind n) cs s → Behind limit N n cs s
    unfolding pick
    behind_back = go n
      where
        go : (n : Bool) → Back limit N (check.behind n) cs s → Behind limit N n cs s
        go true h = h
        go false h = h

    hex_back : (from k v : ℕ) → Back limit N (check.hex n from k v i (hex_value b)) cs s → In (Hex from k v) (b ∷ s)
    hex_back from k v =
        pick_case (From (In (Hex from k v) (b ∷ s)) cs s) (eqb (hex_value b) 16) _ _ (λ e h. absurd h)
        (λ e. pick_case (From (In (Hex from k v) (b ∷ s)) cs s) (eqb k 0) _ _
        (λ z h. rw (eqb-true k 0 z) (last_hex law cs n (record { byte = b; passes = hexdig_is b e }) s from v h))
        (λ z h. more_hex false k v (record { byte = b; passes = hexdig_is b e }) s z h))

    low_back : (from k v : ℕ) → Back limit N (check.low n from k v (hex_value b)) cs s → In (Low from k v) (b ∷ s)
    low_back from k v =
        pick_case (From (In (Low from k v) (b ∷ s)) cs s) (eqb (hex_value b) 16) _ _ (λ e h. absurd h)
        (λ e. pick_case (From (In (Low from k v) (b ∷ s)) cs s) (eqb k 0) _ _
        (λ z h. rw (eqb-true k 0 z) (last_low law cs n (record { byte = b; passes = hexdig_is b e }) s from v h))
        (λ z h. more_hex true k v (record { byte = b; passes = hexdig_is b e }) s z h))

    digits_begin : (high : Bool) → Digited limit N high 3 0 (λ x. Behind limit N n cs x) s → Charred limit N high (λ x. Behind limit N n cs x) (92 ∷ 117 ∷ s)
    unfolding spelled_bytes ◌⊕◌
    digits_begin high f = f [] refl refl

    string_back : (t : Inside) → Back limit N (check.string t n i b) cs s → In t (b ∷ s)
    string_back Chars =
        pick_case (From (In Chars (b ∷ s)) cs s) (eqb b 34) _ _ (λ e h. rw (eqb-true b 34 e) (no_chars law s (behind_back h)))
        (λ q. pick_case (From (In Chars (b ∷ s)) cs s) (eqb b 92) _ _ (λ e h. rw (eqb-true b 92 e) h)
        (λ r. pick_case (From (In Chars (b ∷ s)) cs s) (ltb b 32) _ _ (λ e h. absurd h)
        (λ l h. plain_char law s (record { byte = b; passes = unescaped_is b q r l }) h)))
    string_back (Escape from) =
        pick_case (From (In (Escape from) (b ∷ s)) cs s) (eqb b 117) _ _ (λ e h. rw (eqb-true b 117 e) (digits_begin false h))
        (λ q. pick_case (From (In (Escape from) (b ∷ s)) cs s) (names_good b) _ _ (λ e h. two_char law s (record { byte = b; passes = escaped_is b e }) (not_bad b e) h)
        (λ e. pick_case (From (In (Escape from) (b ∷ s)) cs s) (names_bad b) _ _ (λ e h. absurd h) (λ e h. absurd h)))
    string_back (Hex from k v) = hex_back from k v
    string_back (High from) = pick_case (From (In (High from) (b ∷ s)) cs s) (eqb b 92) _ _ (λ e h. rw (eqb-true b 92 e) h) (λ e h. absurd h)
    string_back (HighEscape from) = pick_case (From (In (HighEscape from) (b ∷ s)) cs s) (eqb b 117) _ _ (λ e h. rw (eqb-true b 117 e) (digits_begin true h)) (λ e h. absurd h)
    string_back (Low from k v) = low_back from k v

  -- ---- all states

  pub step_back : Naming N → (st : State) (cs : List Container) (i b : ℕ) (s : List ℕ) → Back limit N (move st (around cs) i b) cs s → Completes limit N st cs (b ∷ s)
  step_back law (Expects e) cs i b s h = between_back e cs i b s h
  step_back law (InLiteral w) cs i b s h = letters_back w cs i b s h
  step_back law (InNumber n) cs i b s h = number_back cs i b s n h
  step_back law (InString n t) cs i b s h = string_back law cs n i b s t h
