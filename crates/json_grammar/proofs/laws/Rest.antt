-- What must still come, for each state of the check, in the words of the grammar.
--     Then spelled R s       s is a spelling, and then what R tells of
--     Rest cs s              s completes a text behind a value, inside the open arrays and objects cs
--     Completes st cs s      s completes a text from the state st on
--     Back m cs s            the same from what a move leads to
-- In strings counts what N says of their characters: `may_name`, or nothing (`anything` of laws/Ready).
use Rattle.std.specs.Prelude.{◌≡◌, ◌⊎◌, Bool, true, false, List, [], ◌∷◌, ℕ, ◌+◌, ◌-◌, ◌≤◌, ◌<◌, length}
use Rattle.octets.specs.Pick.{within}
use Rattle.octets.specs.Append.{◌⊕◌}
use Rattle.octets.specs.Class.{is_digit}
use Rattle.octets.specs.Scan.{all_of}
use Rattle.json_text.specs.Bytes.{end_array, end_object, name_separator, quotation_mark, escape, letter_u, word, hex_value, grown}
use Rattle.json_text.specs.Check as check
use Rattle.json_text.specs.Check.{Container, outer}
use Rattle.json_text.specs.declared.Expect.{Expect}
use Rattle.json_text.specs.declared.Expect.TheVariants.{Value, ValueOrEnd, Name, NameOrEnd, Colon, After}
use Rattle.json_text.specs.declared.Number.{Number as NumberState}
use Rattle.json_text.specs.declared.Number.TheVariants.{Minus, Zero, Int, Point, Frac, E, Sign, Exp}
use Rattle.json_text.specs.declared.Inside.{Inside}
use Rattle.json_text.specs.declared.Inside.TheVariants.{Chars, Escape, Hex, High, HighEscape, Low}
use Rattle.json_text.specs.declared.State.{State}
use Rattle.json_text.specs.declared.State.TheVariants.{Expects, InLiteral, InNumber, InString}
use Rattle.json_text.specs.declared.Move.{Move}
use Rattle.json_text.specs.declared.Move.TheVariants.{To, OpenArray, OpenObject, Close, Bad}
use Rattle.json_grammar.specs.Grammar.{Byte, spelled_bytes, optional, Ws, structural, spelled_digits, spelled_sign, spelled_exp, spelled_frac, spelled_int, is_hexdig, Char, spelled_chars, spelled_value, spelled_member, spelled_members, spelled_values, depth, depth_member, depth_members, depth_values, every_string, every_string_member, every_string_members, every_string_values}

pub record Then {A : Type 0} (spelled : A → List ℕ) (R : List ℕ → Type 0) (s : List ℕ) : Type 0 where
  pub it : A
  pub rest : List ℕ
  pub is : s ≡ spelled it ⊕ rest
  pub on : R rest

abbrev pub spelled_ws : Ws → List ℕ
spelled_ws w = spelled_bytes w

abbrev pub spelled_digit : List (Byte is_digit) → List ℕ
spelled_digit ds = spelled_bytes ds

abbrev pub Empty : List ℕ → Type 0
Empty s = s ≡ []

-- a part of a value that is good, and not deeper than `room`
pub record Fit {A : Type 0} (good : A → Bool) (deep : A → ℕ) (room : ℕ) : Type 0 where
  pub part : A
  pub names : good part ≡ true
  pub fits : deep part ≤ room

-- the letters of a literal are no zeros, and bytes
abbrev pub is_letters : List ℕ → Bool
is_letters l = all_of (within 1 255) l

-- the value of hexadecimal digits, behind those that are worth v
abbrev pub worth : ℕ → List (Byte is_hexdig) → ℕ
worth v [] = v
worth v (b ∷ ds) = worth (grown v (hex_value b.byte)) ds

module _ (limit : ℕ) (N : List Char → Bool → Bool) where
  abbrev pub names_of : List Char → Bool
  names_of us = N us false

  -- ---- values, with d arrays and objects open

  abbrev pub FitValue : ℕ → Type 0
  FitValue d = Fit (every_string names_of) depth (limit - d)

  abbrev pub FitMember : ℕ → Type 0
  FitMember d = Fit (every_string_member names_of) depth_member (limit - d)

  abbrev pub FitMembers : ℕ → Type 0
  FitMembers d = Fit (every_string_members names_of) depth_members (limit - d)

  abbrev pub FitValues : ℕ → Type 0
  FitValues d = Fit (every_string_values names_of) depth_values (limit - d)

  abbrev pub ThenValue : ℕ → (List ℕ → Type 0) → List ℕ → Type 0
  ThenValue d R s = Then {A = FitValue d} (λ v. spelled_value v.part) R s

  abbrev pub ThenMember : ℕ → (List ℕ → Type 0) → List ℕ → Type 0
  ThenMember d R s = Then {A = FitMember d} (λ m. spelled_member m.part) R s

  abbrev pub ThenMembers : ℕ → (List ℕ → Type 0) → List ℕ → Type 0
  ThenMembers d R s = Then {A = FitMembers d} (λ ms. spelled_members ms.part) R s

  abbrev pub ThenValues : ℕ → (List ℕ → Type 0) → List ℕ → Type 0
  ThenValues d R s = Then {A = FitValues d} (λ vs. spelled_values vs.part) R s

  -- behind a value
  abbrev pub Rest : List Container → List ℕ → Type 0
  Rest [] s = Then spelled_ws Empty s
  Rest (check.array ∷ cs) s = ThenValues (length cs + 1) (λ u. Then (structural end_array) (λ t. Rest cs t) u) s
  Rest (check.object ∷ cs) s = ThenMembers (length cs + 1) (λ u. Then (structural end_object) (λ t. Rest cs t) u) s

  -- ---- between tokens

  abbrev pub Valued : List Container → List ℕ → Type 0
  Valued cs s = Then spelled_ws (λ u. ThenValue (length cs) (λ t. Rest cs t) u) s

  abbrev pub Membered : List Container → List ℕ → Type 0
  Membered cs s = Then spelled_ws (λ u. ThenMember (length cs) (λ t. Rest cs t) u) s

  abbrev pub Coloned : List Container → List ℕ → Type 0
  Coloned cs s = Then (structural name_separator) (λ u. ThenValue (length cs) (λ t. Rest cs t) u) s

  abbrev pub Between : Expect → List Container → List ℕ → Type 0
  Between Value cs s = Valued cs s
  Between ValueOrEnd cs s = Then (structural end_array) (λ t. Rest (outer cs) t) s ⊎ Valued cs s
  Between Name cs s = Membered cs s
  Between NameOrEnd cs s = Then (structural end_object) (λ t. Rest (outer cs) t) s ⊎ Membered cs s
  Between Colon cs s = Coloned cs s
  Between After cs s = Rest cs s

  -- ---- literals: w has the letters that are still to come

  abbrev pub Lettered : ℕ → List Container → List ℕ → Type 0
  Lettered w cs s = (l : List ℕ) → is_letters l ≡ true → 0 < length l → word l ≡ w → (u : List ℕ) × (s ≡ l ⊕ u) × Rest cs u

  -- ---- numbers

  abbrev pub Exponent : (List ℕ → Type 0) → List ℕ → Type 0
  Exponent R s = Then (optional spelled_exp) R s

  abbrev pub Fraction : (List ℕ → Type 0) → List ℕ → Type 0
  Fraction R s = Then (optional spelled_frac) (Exponent R) s

  abbrev pub Numbered : NumberState → (List ℕ → Type 0) → List ℕ → Type 0
  Numbered Minus R s = Then spelled_int (Fraction R) s
  Numbered Zero R s = Fraction R s
  Numbered Int R s = Then spelled_digit (Fraction R) s
  Numbered Point R s = Then spelled_digits (Exponent R) s
  Numbered Frac R s = Then spelled_digit (Exponent R) s
  Numbered E R s = Then (optional spelled_sign) (Then spelled_digits R) s
  Numbered Sign R s = Then spelled_digits R s
  Numbered Exp R s = Then spelled_digit R s

  -- ---- strings

  -- characters; `high` tells whether an escape has just named a high surrogate
  pub record FitChars (high : Bool) : Type 0 where
    pub chars : List Char
    pub named : N chars high ≡ true

  abbrev pub Charred : Bool → (List ℕ → Type 0) → List ℕ → Type 0
  Charred high R s = Then {A = FitChars high} (λ us. spelled_chars us.chars ⊕ (quotation_mark ∷ [])) R s

  -- the digits of an escape, with n to come behind the next one
  abbrev pub Digited : Bool → ℕ → ℕ → (List ℕ → Type 0) → List ℕ → Type 0
  Digited high n v R s = (ds : List (Byte is_hexdig)) → length ds + n ≡ 3 → worth 0 ds ≡ v → Charred high R (escape ∷ letter_u ∷ (spelled_bytes ds ⊕ s))

  abbrev pub Stringed : Inside → (List ℕ → Type 0) → List ℕ → Type 0
  Stringed Chars R s = Charred false R s
  Stringed (Escape from) R s = Charred false R (escape ∷ s)
  Stringed (Hex from n v) R s = Digited false n v R s
  Stringed (High from) R s = Charred true R s
  Stringed (HighEscape from) R s = Charred true R (escape ∷ s)
  Stringed (Low from n v) R s = Digited true n v R s

  -- behind a name, behind a string that is a value
  abbrev pub Behind : Bool → List Container → List ℕ → Type 0
  Behind true cs s = Coloned cs s
  Behind false cs s = Rest cs s

  -- ---- all states

  abbrev pub Completes : State → List Container → List ℕ → Type 0
  Completes (Expects e) cs s = Between e cs s
  Completes (InLiteral w) cs s = Lettered w cs s
  Completes (InNumber n) cs s = Numbered n (λ t. Rest cs t) s
  Completes (InString n t) cs s = Stringed t (λ u. Behind n cs u) s

  abbrev pub Back : Move → List Container → List ℕ → Type 0
  Back (To st) cs s = Completes st cs s
  Back OpenArray cs s = (length cs < limit) × Completes (Expects ValueOrEnd) (check.array ∷ cs) s
  Back OpenObject cs s = (length cs < limit) × Completes (Expects NameOrEnd) (check.object ∷ cs) s
  Back Close cs s = Completes (Expects After) (outer cs) s
  Back (Bad p) cs s = ⊥
