-- Laws of the names of types in jCal: the type of a word, by its place among the words of the types.
--     word_type, no_type    the type of a word that is one of these, and of one that is none
--     word_placed           the place of a word in the code's table of them
use Rattle.std.specs.Prelude.{◌≡◌, refl, Bool, true, false, List, [], ◌∷◌, ◌++◌, map, ℕ, zero, suc, ◌≤◌, ◌<◌, length, get_or, Option, None, Some}
use Rattle.std.proofs.Common.{sym, ap, ◌∙◌, arith}
use Rattle.std.proofs.lemmas.Bool.{false≢true}
use Rattle.octets.specs.Ascii.{ascii}
use Rattle.octets.specs.Pick.{pick}
use Rattle.octets.specs.Class.{upper, lower}
use Rattle.octets.specs.Words.{same, is_one_of}
use Rattle.octets.specs.laws.Words.{same_self, same_true}
use Rattle.octets.specs.Computing.{octets_compute}
use Rattle.names.specs.Table.{place_of, names_in}
use Rattle.names.specs.laws.Known.{by_place, unknown_word}
use Rattle.calendar.specs.Calendar.{ValueType, UNKNOWN}
use Rattle.schema.specs.Types.{type_name, type_named, value_types}
use Rattle.schema.specs.laws.Types.{type_named_is}
use Rattle.schema.specs.Numbers.{type_at, type_words}
use Rattle.schema.specs.laws.Numbers.{type_words_are}
use Rattle.schema.specs.laws.Places.{word_known}
use Rattle.xcal.proofs.laws.ElementNames.{lower-upper, no_capital}
use Rattle.jcal.specs.Property.{type_of}

unknown_known : is_one_of (ascii "unknown") type_words ≡ true
unfolding octets_compute
unknown_known = refl

-- a word that is none of these
pub no_type : (n : List ℕ) → length type_words ≤ place_of n type_words → type_of n ≡ None
unfolding pick
no_type n h = rw (unknown_word n type_words (ascii "unknown") h unknown_known) (go (same n (lower n)) refl)
  where
    found : (o : Option ValueType) → type_named (upper n) ≡ o → n ≡ lower n → o ≡ None
    found None e q = refl
    found (Some t) e q =
        let back : lower (upper n) ≡ n = lower-upper n (rw q (no_capital n)) in
        let z : n ≡ lower (type_name t) = sym back ∙ ap lower (sym (type_named_is (upper n) t e)) in
        absurd (false≢true (sym (unknown_word n type_words n h (ap (λ (x : List ℕ). is_one_of x type_words) z ∙ word_known t)) ∙ same_self n))

    go : (b : Bool) → same n (lower n) ≡ b → pick b (type_named (upper n)) None ≡ None
    go true e = found (type_named (upper n)) refl (same_true n (lower n) e)
    go false e = refl

types_listed : map type_of type_words ≡ map Some (value_types ++ (UNKNOWN ∷ []))
unfolding octets_compute type_named
types_listed = refl

some_at : {A : Type 0} (l : List A) (d : A) (t : ℕ) → t < length l → get_or (map Some l) t None ≡ Some (get_or l t d)
some_at [] d t h = absurd (omega arith)
some_at (a ∷ l) d zero h = refl
some_at (a ∷ l) d (suc t) h = some_at l d t (omega arith)

last_at : {A : Type 0} (l : List A) (d : A) (t : ℕ) → get_or (l ++ (d ∷ [])) t d ≡ get_or l t d
last_at [] d zero = refl
last_at [] d (suc t) = refl
last_at (a ∷ l) d zero = refl
last_at (a ∷ l) d (suc t) = last_at l d t

pub word_type : (n : List ℕ) {t : ℕ} → t ≡ place_of n type_words → t ≤ 14 → type_of n ≡ Some (type_at t)
word_type n {t} e h =
    by_place n type_of None type_words (no_type n)
    ∙ ap (λ (k : ℕ). get_or (map type_of type_words) k None) (sym e)
    ∙ ap (λ (l : List (Option ValueType)). get_or l t None) types_listed
    ∙ some_at (value_types ++ (UNKNOWN ∷ [])) UNKNOWN t (omega arith)
    ∙ ap Some (last_at value_types UNKNOWN t)

pub word_placed : (n : List ℕ) {t : ℕ} →
    t ≡ place_of n (names_in (ascii "binary\nboolean\ncal-address\ndate\ndate-time\nduration\nfloat\ninteger\nperiod\nrecur\ntext\ntime\nuri\nutc-offset\nunknown\n")) → t ≡ place_of n type_words
word_placed n e = e ∙ ap (place_of n) type_words_are
