-- What a text of the grammar comes to in the check, for any property of what the check does from a state on.
--     Onward      what is asked of the property
--     Strings     that it holds over the characters of a string that are good
--     value_on    then it holds from where a value must come on, if it holds behind the value
--     text_on     and of a whole text
use Rattle.std.specs.Prelude.{◌≡◌, Bool, eqb, length, Option, None, Some}
use Rattle.std.proofs.Math.Path.{refl, ap}
use Rattle.std.proofs.Common.{◌∙◌}
use Rattle.std.proofs.Math.Bool.{true, false}
use mathlib.Core.List.{List, [], ◌∷◌}
use Prim.Native.Nat.{ℕ, ◌+◌, ◌≤◌}
use native.Mathlib.Omega.{arith}
use Rattle.octets.specs.Ascii.{ascii}
use Rattle.octets.specs.Pick.{pick, ◌and◌, ◌or◌}
use Rattle.octets.specs.laws.Pick.{and_both, or_no, eqb_apart}
use Rattle.octets.specs.Append.{◌⊕◌}
use Rattle.octets.specs.laws.Append.{append_empty, append_cons, append_none, append_regroup}
use Rattle.octets.specs.Class.{is_space, is_digit}
use Rattle.json_text.specs.Bytes.{is_sign}
use Rattle.json_text.specs.Check as check
use Rattle.json_text.specs.Check.{Container, check, followed}
use Rattle.json_text.specs.declared.Expect.{Expect}
use Rattle.json_text.specs.declared.Expect.TheVariants.{Value, ValueOrEnd, Name, NameOrEnd, Colon, After}
use Rattle.json_text.specs.declared.Number.{Number as NumberState}
use Rattle.json_text.specs.declared.Number.TheVariants.{Minus, Zero, Int, Point, Frac, E, Sign, Exp}
use Rattle.json_text.specs.declared.Inside.TheVariants.{Chars}
use Rattle.json_text.specs.declared.State.{State}
use Rattle.json_text.specs.declared.State.TheVariants.{Expects, InNumber, InString}
use Rattle.json_grammar.specs.Grammar as grammar
use Rattle.json_grammar.specs.Grammar.{Byte, spelled_bytes, optional, Ws, Structural, structural, Literal, false_name, null_name, true_name, spelled_literal, Digits, spelled_digits, spelled_sign, spelled_exp, spelled_frac, is_digit1_9, zero_int, digits_int, spelled_int, spelled_number, Char, spelled_chars, spelled_string, literal, empty_object, object, empty_array, array, number, string, Member, member, Members, no_members, and_member, Values, no_values, and_value, spelled_value, spelled_member, spelled_members, spelled_values, Text, spelled_text, depth, depth_member, depth_members, depth_values, every_string, every_string_member, every_string_members, every_string_values}
use Rattle.json_grammar.proofs.laws.Steps.{space_step, opens_array, opens_object, marks, not_after, digit_steps, e_steps, point_steps, sign_step, zero_steps, digit1_9_steps, quote_steps}

-- A st cs s: of the check of s from the state st on, inside cs
pub record Onward (limit : ℕ) (A : State → List Container → List ℕ → Type 0) : Type 0 where
  -- some bytes lead to another state
  pub chunk : (l : List ℕ) (st st' : State) (cs cs' : List Container) → ((i : ℕ) (u : List ℕ) → check (l ⊕ u) limit i st cs ≡ check u limit (i + length l) st' cs') →
      (s : List ℕ) → A st' cs' s → A st cs (l ⊕ s)
  -- a byte does the same in another state, and so does the end
  pub same : (st st' : State) (cs : List Container) (b : ℕ) → ((i : ℕ) (u : List ℕ) → check (b ∷ u) limit i st cs ≡ check (b ∷ u) limit i st' cs) → (s : List ℕ) → A st' cs (b ∷ s) → A st cs (b ∷ s)
  pub ends : (st st' : State) (cs : List Container) → ((i : ℕ) → check [] limit i st cs ≡ check [] limit i st' cs) → A st' cs [] → A st cs []
  -- a first byte can stand there
  pub first : (st : State) (cs : List Container) (b : ℕ) (s : List ℕ) → A st cs (b ∷ s) → (u : List ℕ) × (check (b ∷ u) limit 0 st cs ≡ None)

abbrev pub Strings : (State → List Container → List ℕ → Type 0) → (List Char → Bool) → Type 0
Strings A good = (n : Bool) (cs : List Container) (us : List Char) → good us ≡ true → (r : List ℕ) → A (InString n Chars) cs (34 ∷ r) → A (InString n Chars) cs (spelled_chars us ⊕ (34 ∷ r))

-- where a value must come, or may behind `[`; a name behind `{`
abbrev opening : Bool → Expect
opening true = ValueOrEnd
opening false = Value

abbrev opening_name : Bool → Expect
opening_name true = NameOrEnd
opening_name false = Name

module _ (limit : ℕ) (A : State → List Container → List ℕ → Type 0) (law : Onward limit A) where
  pub step : (b : ℕ) (st st' : State) (cs cs' : List Container) → ((i : ℕ) (u : List ℕ) → check (b ∷ u) limit i st cs ≡ check u limit (i + 1) st' cs') → (s : List ℕ) → A st' cs' s → A st cs (b ∷ s)
  unfolding ◌⊕◌
  step b st st' cs cs' f s h = law.chunk (b ∷ []) st st' cs cs' f s h

  -- ---- white space and structural characters

  ws_on : (e : Expect) (cs : List Container) (w : Ws) (r : List ℕ) → A (Expects e) cs r → A (Expects e) cs (spelled_bytes w ⊕ r)
  unfolding spelled_bytes ◌⊕◌
  ws_on e cs [] r h = h
  ws_on e cs (b ∷ w) r h = step b.byte (Expects e) (Expects e) cs cs (space_step limit cs e b.byte b.passes) (spelled_bytes w ⊕ r) (ws_on e cs w r h)

  mark_on : (c : ℕ) (m : Structural) (e f : Expect) (cs ds : List Container) → ((i : ℕ) (u : List ℕ) → check (c ∷ u) limit i (Expects e) cs ≡ check u limit (i + 1) (Expects f) ds) →
      (r : List ℕ) → A (Expects f) ds r → A (Expects e) cs (structural c m ⊕ r)
  mark_on c m e f cs ds k r h =
      rw (append_regroup (spelled_bytes m.before) (c ∷ spelled_bytes m.behind) r, append_cons c (spelled_bytes m.behind) r)
      (ws_on e cs m.before (c ∷ (spelled_bytes m.behind ⊕ r)) (step c (Expects e) (Expects f) cs ds k (spelled_bytes m.behind ⊕ r) (ws_on f ds m.behind r h)))

  -- what begins a value does so behind `[` too
  begins : (cs : List Container) (o : Bool) (b : ℕ) → is_space b ≡ false → eqb b 93 ≡ false → (i : ℕ) (u : List ℕ) → check (b ∷ u) limit i (Expects (opening o)) cs ≡ check (b ∷ u) limit i (Expects Value) cs
  unfolding check followed pick
  begins cs true b s e i u = rw (s, e)
  begins cs false b s e i u = refl

  begin_bytes : (is_space 34 ≡ false) × (is_space 91 ≡ false) × (is_space 123 ≡ false) × (is_space 45 ≡ false) × (is_space 48 ≡ false) × (is_space 0x74 ≡ false) × (is_space 0x66 ≡ false) × (is_space 0x6E ≡ false)
  unfolding ◌or◌
  begin_bytes = (refl, refl, refl, refl, refl, refl, refl, refl)

  digit_begins : (b : ℕ) → is_digit1_9 b ≡ true → (is_space b ≡ false) × (eqb b 93 ≡ false)
  unfolding ◌and◌
  digit_begins b h = (
    or_no _ _ (eqb_apart is_digit1_9 b 32 h refl) (or_no _ _ (eqb_apart is_digit1_9 b 9 h refl) (or_no _ _ (eqb_apart is_digit1_9 b 13 h refl) (eqb_apart is_digit1_9 b 10 h refl))),
    eqb_apart is_digit1_9 b 93 h refl,
  )

  -- ---- numbers

  module _ (cs : List Container) where
    -- what may follow a value may follow a number
    pub ends_number : (r : List ℕ) → A (Expects After) cs r → A (InNumber Zero) cs r × A (InNumber Int) cs r × A (InNumber Frac) cs r × A (InNumber Exp) cs r
    unfolding check followed pick ◌or◌ ◌and◌
    ends_number [] h = (
      law.ends (InNumber Zero) (Expects After) cs (λ i. refl) h,
      law.ends (InNumber Int) (Expects After) cs (λ i. refl) h,
      law.ends (InNumber Frac) (Expects After) cs (λ i. refl) h,
      law.ends (InNumber Exp) (Expects After) cs (λ i. refl) h,
    )
    ends_number (b ∷ s) h = (
      law.same (InNumber Zero) (Expects After) cs b (λ i u. rw (point, small_e, big_e)) s h,
      law.same (InNumber Int) (Expects After) cs b (λ i u. rw (digit, point, small_e, big_e)) s h,
      law.same (InNumber Frac) (Expects After) cs b (λ i u. rw (digit, small_e, big_e)) s h,
      law.same (InNumber Exp) (Expects After) cs b (λ i u. rw digit) s h,
    )
      where
        q : (u : List ℕ) × (check (b ∷ u) limit 0 (Expects After) cs ≡ None)
        q = law.first (Expects After) cs b s h

        digit : is_digit b ≡ false
        digit = not_after limit cs is_digit (refl, refl, refl, refl, refl, refl, refl) b q.0 0 q.1

        point : eqb b 46 ≡ false
        point = not_after limit cs (λ b. eqb b 46) (refl, refl, refl, refl, refl, refl, refl) b q.0 0 q.1

        small_e : eqb b 0x65 ≡ false
        small_e = not_after limit cs (λ b. eqb b 0x65) (refl, refl, refl, refl, refl, refl, refl) b q.0 0 q.1

        big_e : eqb b 0x45 ≡ false
        big_e = not_after limit cs (λ b. eqb b 0x45) (refl, refl, refl, refl, refl, refl, refl) b q.0 0 q.1

    digits_on : (n : NumberState) → ((b : ℕ) → is_digit b ≡ true → (i : ℕ) (u : List ℕ) → check (b ∷ u) limit i (InNumber n) cs ≡ check u limit (i + 1) (InNumber n) cs) →
        (ds : List (Byte is_digit)) (r : List ℕ) → A (InNumber n) cs r → A (InNumber n) cs (spelled_bytes ds ⊕ r)
    unfolding spelled_bytes ◌⊕◌
    digits_on n k [] r h = h
    digits_on n k (b ∷ ds) r h = step b.byte (InNumber n) (InNumber n) cs cs (k b.byte b.passes) (spelled_bytes ds ⊕ r) (digits_on n k ds r h)

    module _ (r : List ℕ) (h : A (Expects After) cs r) where
      exp_digits : (ds : List (Byte is_digit)) → A (InNumber Exp) cs (spelled_bytes ds ⊕ r)
      exp_digits ds = digits_on Exp (λ b t i s. (digit_steps limit cs b t i s).5) ds r (ends_number r h).3

      -- behind e
      exponent_on : (o : Option (Byte is_sign)) (d : Digits) → A (InNumber E) cs ((optional spelled_sign o ⊕ spelled_digits d) ⊕ r)
      unfolding optional ◌⊕◌
      exponent_on None d = step d.first.byte (InNumber E) (InNumber Exp) cs cs (λ i u. (digit_steps limit cs d.first.byte d.first.passes i u).3) _ (exp_digits d.more)
      exponent_on (Some b) d =
          step b.byte (InNumber E) (InNumber Sign) cs cs (sign_step limit cs b.byte b.passes) _
          (step d.first.byte (InNumber Sign) (InNumber Exp) cs cs (λ i u. (digit_steps limit cs d.first.byte d.first.passes i u).4) _ (exp_digits d.more))

      exp_on : (x : Option grammar.Exp) → A (InNumber Zero) cs (optional spelled_exp x ⊕ r) × A (InNumber Int) cs (optional spelled_exp x ⊕ r) × A (InNumber Frac) cs (optional spelled_exp x ⊕ r)
      unfolding optional ◌⊕◌
      exp_on None = let q = ends_number r h in (q.0, q.1, q.2)
      exp_on (Some x) = (
        step x.e.byte (InNumber Zero) (InNumber E) cs cs (λ i u. (e_steps limit cs x.e.byte x.e.passes i u).0) _ (exponent_on x.sign x.digits),
        step x.e.byte (InNumber Int) (InNumber E) cs cs (λ i u. (e_steps limit cs x.e.byte x.e.passes i u).1) _ (exponent_on x.sign x.digits),
        step x.e.byte (InNumber Frac) (InNumber E) cs cs (λ i u. (e_steps limit cs x.e.byte x.e.passes i u).2) _ (exponent_on x.sign x.digits),
      )

      frac_on : (f : Option Digits) (x : Option grammar.Exp) →
          A (InNumber Zero) cs (optional spelled_frac f ⊕ (optional spelled_exp x ⊕ r)) × A (InNumber Int) cs (optional spelled_frac f ⊕ (optional spelled_exp x ⊕ r))
      unfolding optional ◌⊕◌
      frac_on None x = let q = exp_on x in (q.0, q.1)
      frac_on (Some d) x = (step 46 (InNumber Zero) (InNumber Point) cs cs (λ i u. (point_steps limit cs i u).0) _ behind, step 46 (InNumber Int) (InNumber Point) cs cs (λ i u. (point_steps limit cs i u).1) _ behind)
        where
          behind : A (InNumber Point) cs (spelled_digits d ⊕ (optional spelled_exp x ⊕ r))
          behind =
              step d.first.byte (InNumber Point) (InNumber Frac) cs cs (λ i u. (digit_steps limit cs d.first.byte d.first.passes i u).1) _
              (digits_on Frac (λ b t i s. (digit_steps limit cs b t i s).2) d.more (optional spelled_exp x ⊕ r) (exp_on x).2)

      -- int, and what may follow it
      int_on : (n : grammar.Int) (f : Option Digits) (x : Option grammar.Exp) →
          ((o : Bool) → A (Expects (opening o)) cs (spelled_int n ⊕ (optional spelled_frac f ⊕ (optional spelled_exp x ⊕ r)))) × A (InNumber Minus) cs (spelled_int n ⊕ (optional spelled_frac f ⊕ (optional spelled_exp x ⊕ r)))
      unfolding ◌⊕◌
      int_on zero_int f x = (
        λ o. step 48 (Expects (opening o)) (InNumber Zero) cs cs (λ i u. begins cs o 48 begin_bytes.4 refl i u ∙ (zero_steps limit cs i u).0) _ (frac_on f x).0,
        step 48 (InNumber Minus) (InNumber Zero) cs cs (λ i u. (zero_steps limit cs i u).1) _ (frac_on f x).0,
      )
      int_on (digits_int b ds) f x = (
        λ o. step b.byte (Expects (opening o)) (InNumber Int) cs cs
            (λ i u. begins cs o b.byte (digit_begins b.byte b.passes).0 (digit_begins b.byte b.passes).1 i u ∙ (digit1_9_steps limit cs b.byte b.passes i u).0) _ digits,
        step b.byte (InNumber Minus) (InNumber Int) cs cs (λ i u. (digit1_9_steps limit cs b.byte b.passes i u).1) _ digits,
      )
        where
          digits : A (InNumber Int) cs (spelled_bytes ds ⊕ (optional spelled_frac f ⊕ (optional spelled_exp x ⊕ r)))
          digits = digits_on Int (λ b t i s. (digit_steps limit cs b t i s).0) ds _ (frac_on f x).1

      number_on : (o : Bool) (n : grammar.Number) → A (Expects (opening o)) cs (spelled_number n ⊕ r)
      unfolding pick
      number_on o n = go n.has_minus
        where
          tail : List ℕ
          tail = spelled_int n.int ⊕ (optional spelled_frac n.frac ⊕ optional spelled_exp n.exp)

          tailed : tail ⊕ r ≡ spelled_int n.int ⊕ (optional spelled_frac n.frac ⊕ (optional spelled_exp n.exp ⊕ r))
          tailed =
              append_regroup (spelled_int n.int) (optional spelled_frac n.frac ⊕ optional spelled_exp n.exp) r
              ∙ ap (λ (l : List ℕ). spelled_int n.int ⊕ l) (append_regroup (optional spelled_frac n.frac) (optional spelled_exp n.exp) r)

          go : (t : Bool) → A (Expects (opening o)) cs ((pick t (45 ∷ []) [] ⊕ tail) ⊕ r)
          go true =
              rw (append_cons 45 [] tail, append_empty tail, append_cons 45 tail r, tailed)
              (step 45 (Expects (opening o)) (InNumber Minus) cs cs (λ i u. begins cs o 45 begin_bytes.3 refl i u ∙ (zero_steps limit cs i u).2) _ (int_on n.int n.frac n.exp).1)
          go false = rw (append_empty tail, tailed) ((int_on n.int n.frac n.exp).0 o)

  -- ---- literals

  literal_on : (cs : List Container) (o : Bool) (l : Literal) (r : List ℕ) → A (Expects After) cs r → A (Expects (opening o)) cs (spelled_literal l ⊕ r)
  unfolding check followed pick ◌and◌ ◌or◌ ◌⊕◌
  literal_on cs o false_name r h = law.chunk (spelled_literal false_name) (Expects (opening o)) (Expects After) cs cs (λ i u. begins cs o 0x66 refl refl i (ascii "alse" ⊕ u) ∙ five i u) r h
    where
      five : (i : ℕ) (u : List ℕ) → check (spelled_literal false_name ⊕ u) limit i (Expects Value) cs ≡ check u limit (i + 5) (Expects After) cs
      five i u = let j : i + 1 + 1 + 1 + 1 + 1 ≡ i + 5 = omega arith in ap (λ (k : ℕ). check u limit k (Expects After) cs) j
  literal_on cs o null_name r h = law.chunk (spelled_literal null_name) (Expects (opening o)) (Expects After) cs cs (λ i u. begins cs o 0x6E refl refl i (ascii "ull" ⊕ u) ∙ four i u) r h
    where
      four : (i : ℕ) (u : List ℕ) → check (spelled_literal null_name ⊕ u) limit i (Expects Value) cs ≡ check u limit (i + 4) (Expects After) cs
      four i u = let j : i + 1 + 1 + 1 + 1 ≡ i + 4 = omega arith in ap (λ (k : ℕ). check u limit k (Expects After) cs) j
  literal_on cs o true_name r h = law.chunk (spelled_literal true_name) (Expects (opening o)) (Expects After) cs cs (λ i u. begins cs o 0x74 refl refl i (ascii "rue" ⊕ u) ∙ four i u) r h
    where
      four : (i : ℕ) (u : List ℕ) → check (spelled_literal true_name ⊕ u) limit i (Expects Value) cs ≡ check u limit (i + 4) (Expects After) cs
      four i u = let j : i + 1 + 1 + 1 + 1 ≡ i + 4 = omega arith in ap (λ (k : ℕ). check u limit k (Expects After) cs) j

  -- ---- strings

  string_front : (us : List Char) (r : List ℕ) → spelled_string us ⊕ r ≡ 34 ∷ (spelled_chars us ⊕ (34 ∷ r))
  string_front us r = append_cons 34 (spelled_chars us ⊕ (34 ∷ [])) r ∙ ap (λ (l : List ℕ). 34 ∷ l) (append_regroup (spelled_chars us) (34 ∷ []) r ∙ rw (append_cons 34 [] r, append_empty r))

  module _ (good : List Char → Bool) (strings : Strings A good) where
    string_on : (cs : List Container) (o : Bool) (us : List Char) → good us ≡ true → (r : List ℕ) → A (Expects After) cs r → A (Expects (opening o)) cs (spelled_string us ⊕ r)
    string_on cs o us g r h =
        rw (string_front us r)
        (step 34 (Expects (opening o)) (InString false Chars) cs cs (λ i u. begins cs o 34 begin_bytes.0 refl i u ∙ (quote_steps limit cs i u).0) _
        (strings false cs us g r (step 34 (InString false Chars) (Expects After) cs cs (λ i u. (quote_steps limit cs i u).2) r h)))

    name_begins : (cs : List Container) (o : Bool) (i : ℕ) (u : List ℕ) → check (34 ∷ u) limit i (Expects (opening_name o)) cs ≡ check u limit (i + 1) (InString true Chars) cs
    unfolding check followed pick ◌and◌ ◌or◌
    name_begins cs true i u = refl
    name_begins cs false i u = refl

    name_on : (cs : List Container) (o : Bool) (us : List Char) → good us ≡ true → (r : List ℕ) → A (Expects Colon) cs r → A (Expects (opening_name o)) cs (spelled_string us ⊕ r)
    name_on cs o us g r h =
        rw (string_front us r)
        (step 34 (Expects (opening_name o)) (InString true Chars) cs cs (name_begins cs o) _
        (strings true cs us g r (step 34 (InString true Chars) (Expects Colon) cs cs (λ i u. (quote_steps limit cs i u).3) r h)))

    -- ---- values

    mutual
      unfolding spelled_value spelled_member spelled_members spelled_values depth depth_member depth_members depth_values every_string every_string_member every_string_members every_string_values

      value_on : (v : grammar.Value) (cs : List Container) (o : Bool) → every_string good v ≡ true → depth v + length cs ≤ limit → (r : List ℕ) → A (Expects After) cs r → A (Expects (opening o)) cs (spelled_value v ⊕ r)
      value_on (literal l) cs o g d r h = literal_on cs o l r h
      value_on (empty_object b e) cs o g d r h =
          rw (append_regroup (structural 123 b) (structural 125 e) r)
          (mark_on 123 b (opening o) NameOrEnd cs (check.object ∷ cs) (λ i u. begins cs o 123 begin_bytes.2 refl i u ∙ opens_object limit cs (omega arith) i u) _
          (mark_on 125 e NameOrEnd After (check.object ∷ cs) cs (λ i s. (marks limit cs i s).5) r h))
      value_on (object b m ms e) cs o g d r h =
          let q = and_both (every_string_member good m) _ g in
          rw (append_regroup (structural 123 b) (spelled_member m ⊕ (spelled_members ms ⊕ structural 125 e)) r, append_regroup (spelled_member m) (spelled_members ms ⊕ structural 125 e) r, append_regroup (spelled_members ms) (structural 125 e) r)
          (mark_on 123 b (opening o) NameOrEnd cs (check.object ∷ cs) (λ i u. begins cs o 123 begin_bytes.2 refl i u ∙ opens_object limit cs (omega arith) i u) _
          (member_on m (check.object ∷ cs) true q.0 (omega arith) _
          (members_on ms cs q.1 (omega arith) _
          (mark_on 125 e After After (check.object ∷ cs) cs (λ i s. (marks limit cs i s).4) r h))))
      value_on (empty_array b e) cs o g d r h =
          rw (append_regroup (structural 91 b) (structural 93 e) r)
          (mark_on 91 b (opening o) ValueOrEnd cs (check.array ∷ cs) (λ i u. begins cs o 91 begin_bytes.1 refl i u ∙ opens_array limit cs (omega arith) i u) _
          (mark_on 93 e ValueOrEnd After (check.array ∷ cs) cs (λ i s. (marks limit cs i s).2) r h))
      value_on (array b v vs e) cs o g d r h =
          let q = and_both (every_string good v) _ g in
          rw (append_regroup (structural 91 b) (spelled_value v ⊕ (spelled_values vs ⊕ structural 93 e)) r, append_regroup (spelled_value v) (spelled_values vs ⊕ structural 93 e) r, append_regroup (spelled_values vs) (structural 93 e) r)
          (mark_on 91 b (opening o) ValueOrEnd cs (check.array ∷ cs) (λ i u. begins cs o 91 begin_bytes.1 refl i u ∙ opens_array limit cs (omega arith) i u) _
          (value_on v (check.array ∷ cs) true q.0 (omega arith) _
          (values_on vs cs q.1 (omega arith) _
          (mark_on 93 e After After (check.array ∷ cs) cs (λ i s. (marks limit cs i s).1) r h))))
      value_on (number n) cs o g d r h = number_on cs r h o n
      value_on (string us) cs o g d r h = string_on cs o us g r h

      member_on : (m : Member) (cs : List Container) (o : Bool) → every_string_member good m ≡ true → depth_member m + length cs ≤ limit → (r : List ℕ) → A (Expects After) cs r → A (Expects (opening_name o)) cs (spelled_member m ⊕ r)
      member_on (member us c v) cs o g d r h =
          let q = and_both (good us) _ g in
          rw (append_regroup (spelled_string us) (structural 58 c ⊕ spelled_value v) r, append_regroup (structural 58 c) (spelled_value v) r)
          (name_on cs o us q.0 _
          (mark_on 58 c Colon Value cs cs (λ i s. (marks limit cs i s).6) _
          (value_on v cs false q.1 d r h)))

      members_on : (ms : Members) (cs : List Container) → every_string_members good ms ≡ true → depth_members ms + length (check.object ∷ cs) ≤ limit → (r : List ℕ) →
          A (Expects After) (check.object ∷ cs) r → A (Expects After) (check.object ∷ cs) (spelled_members ms ⊕ r)
      members_on no_members cs g d r h = rw (append_empty r) h
      members_on (and_member c m ms) cs g d r h =
          let q = and_both (every_string_member good m) _ g in
          rw (append_regroup (structural 44 c) (spelled_member m ⊕ spelled_members ms) r, append_regroup (spelled_member m) (spelled_members ms) r)
          (mark_on 44 c After Name (check.object ∷ cs) (check.object ∷ cs) (λ i s. (marks limit cs i s).3) _
          (member_on m (check.object ∷ cs) false q.0 (omega arith) _
          (members_on ms cs q.1 (omega arith) r h)))

      values_on : (vs : Values) (cs : List Container) → every_string_values good vs ≡ true → depth_values vs + length (check.array ∷ cs) ≤ limit → (r : List ℕ) →
          A (Expects After) (check.array ∷ cs) r → A (Expects After) (check.array ∷ cs) (spelled_values vs ⊕ r)
      values_on no_values cs g d r h = rw (append_empty r) h
      values_on (and_value c v vs) cs g d r h =
          let q = and_both (every_string good v) _ g in
          rw (append_regroup (structural 44 c) (spelled_value v ⊕ spelled_values vs) r, append_regroup (spelled_value v) (spelled_values vs) r)
          (mark_on 44 c After Value (check.array ∷ cs) (check.array ∷ cs) (λ i s. (marks limit cs i s).0) _
          (value_on v (check.array ∷ cs) false q.0 (omega arith) _
          (values_on vs cs q.1 (omega arith) r h)))

    pub text_on : (t : Text) → depth t.value ≤ limit → every_string good t.value ≡ true → A (Expects After) [] [] → A (Expects Value) [] (spelled_text t)
    text_on t d g h =
        ws_on Value [] t.before _
        (value_on t.value [] false g (omega (arith, d)) (spelled_bytes t.behind) (rw (← (append_none (spelled_bytes t.behind))) (ws_on After [] t.behind [] h)))
