-- Laws of what specs/Types.antt defines.
--     type_name_read_back, type_named_is, type_named_listed   a type is named by its name, and by no other
use Rattle.std.specs.Prelude.{◌≡◌, refl, Bool, true, false, List, [], ◌∷◌, ℕ, get_or, Some}
use Rattle.std.proofs.Common.{sym, ap, ◌∙◌, eq-eqb, eqb-true}
use Rattle.std.proofs.lemmas.Bool.{false≢true}
use Rattle.octets.specs.Pick.{◌or◌}
use Rattle.octets.specs.laws.Pick.{and_both}
use Rattle.octets.specs.Scan.{all_of}
use Rattle.octets.specs.Class.{is_name_char, upper, lower}
use Rattle.octets.specs.Words.{same}
use Rattle.octets.specs.laws.Words.{same_true}
use Rattle.octets.specs.laws.Tables.{row_named, row_passes}
use Rattle.octets.specs.Lists.{every}
use Rattle.octets.specs.Computing.{octets_compute}
use Rattle.calendar.specs.Calendar.{ValueType, BINARY, BOOLEAN, CAL-ADDRESS, DATE, DATE-TIME, DURATION, FLOAT, INTEGER, PERIOD, RECUR, TEXT, TIME, URI, UTC-OFFSET, UNKNOWN}
use Rattle.schema.specs.Types.{type_name, value_types, type_named, type_place, same_type, is_type_of}

pub same_type_self : (t : ValueType) → same_type t t ≡ true
unfolding same_type
same_type_self t = eq-eqb (type_place t) (type_place t) refl

pub place_type : (t : ValueType) → get_or value_types (type_place t) UNKNOWN ≡ t
place_type BINARY = refl
place_type BOOLEAN = refl
place_type CAL-ADDRESS = refl
place_type DATE = refl
place_type DATE-TIME = refl
place_type DURATION = refl
place_type FLOAT = refl
place_type INTEGER = refl
place_type PERIOD = refl
place_type RECUR = refl
place_type TEXT = refl
place_type TIME = refl
place_type URI = refl
place_type UTC-OFFSET = refl
place_type UNKNOWN = refl

pub same_type_true : (t u : ValueType) → same_type t u ≡ true → t ≡ u
unfolding same_type
same_type_true t u h = sym (place_type t) ∙ ap (λ (n : ℕ). get_or value_types n UNKNOWN) (eqb-true (type_place t) (type_place u) h) ∙ place_type u

pub type_name_read_back : (t : ValueType) → is_type_of t value_types ≡ true → type_named (type_name t) ≡ Some t
unfolding octets_compute type_named is_type_of same_type
type_name_read_back BINARY h = refl
type_name_read_back BOOLEAN h = refl
type_name_read_back CAL-ADDRESS h = refl
type_name_read_back DATE h = refl
type_name_read_back DATE-TIME h = refl
type_name_read_back DURATION h = refl
type_name_read_back FLOAT h = refl
type_name_read_back INTEGER h = refl
type_name_read_back PERIOD h = refl
type_name_read_back RECUR h = refl
type_name_read_back TEXT h = refl
type_name_read_back TIME h = refl
type_name_read_back URI h = refl
type_name_read_back UTC-OFFSET h = refl
type_name_read_back UNKNOWN h = absurd (false≢true h)

pub type_named_is : (w : List ℕ) (t : ValueType) → type_named w ≡ Some t → type_name t ≡ w
unfolding type_named
type_named_is w t h = row_named type_name w value_types t h

pub type_named_listed : (w : List ℕ) (t : ValueType) → type_named w ≡ Some t → is_type_of t value_types ≡ true
unfolding octets_compute type_named is_type_of same_type
type_named_listed w t h = row_passes type_name w (λ u. is_type_of u value_types) value_types t refl h

-- what holds of each of a list of types holds of one that is in the list
pub listed_passes : (p : ValueType → Bool) (t : ValueType) (ts : List ValueType) → every p ts ≡ true → is_type_of t ts ≡ true → p t ≡ true
unfolding every is_type_of ◌or◌
listed_passes p t [] a h = absurd (false≢true h)
listed_passes p t (u ∷ ts) a h = go (same_type t u) refl h (listed_passes p t ts (and_both _ _ a).1)
  where
    go : (b : Bool) → same_type t u ≡ b → (b or is_type_of t ts) ≡ true → (is_type_of t ts ≡ true → p t ≡ true) → p t ≡ true
    go true e k ih = ap p (same_type_true t u e) ∙ (and_both _ _ a).0
    go false e k ih = ih k

-- every type is one of the fourteen, or UNKNOWN
pub type_any : (t : ValueType) → is_type_of t (UNKNOWN ∷ value_types) ≡ true
unfolding octets_compute is_type_of same_type
type_any BINARY = refl
type_any BOOLEAN = refl
type_any CAL-ADDRESS = refl
type_any DATE = refl
type_any DATE-TIME = refl
type_any DURATION = refl
type_any FLOAT = refl
type_any INTEGER = refl
type_any PERIOD = refl
type_any RECUR = refl
type_any TEXT = refl
type_any TIME = refl
type_any URI = refl
type_any UTC-OFFSET = refl
type_any UNKNOWN = refl

-- what holds of each of the fifteen holds of every type
pub type_passes : (p : ValueType → Bool) → every p (UNKNOWN ∷ value_types) ≡ true → (t : ValueType) → p t ≡ true
type_passes p a t = listed_passes p t (UNKNOWN ∷ value_types) a (type_any t)

-- a type's name is a name, in capitals
pub type_name_is_name : (t : ValueType) → all_of is_name_char (type_name t) ≡ true
unfolding octets_compute
type_name_is_name t = type_passes (λ u. all_of is_name_char (type_name u)) refl t

pub type_name_capital : (t : ValueType) → upper (lower (type_name t)) ≡ type_name t
unfolding octets_compute
type_name_capital t = same_true _ _ (type_passes (λ u. same (upper (lower (type_name u))) (type_name u)) refl t)
