-- Laws of what specs/RequestStatus.antt defines.
--     request_status_read_back, request_status_accepted, request_status_one_line, request_status_no_return
use Rattle.std.specs.Prelude.{◌≡◌, refl, true, false, List, [], ◌∷◌, map, ℕ, Option, None, Some}
use Rattle.octets.specs.Pick.{◌or◌}
use Rattle.octets.specs.Words.{holds, none_holds}
use Rattle.octets.specs.laws.Words.{joined_without}
use Rattle.octets.specs.Reading.{and_then}
use Rattle.octets.specs.laws.Reading.{and_then-some, none-some}
use Rattle.calendar.specs.Calendar.{Value, request_status}
use Rattle.texts.specs.Text.{split_text, write_text}
use Rattle.texts.specs.laws.Text.{split_read_back}
use Rattle.texts.specs.laws.Escaped.{each_one_line, each_no_return}
use Rattle.texts.specs.RequestStatus.{status_of, read_request_status, status_parts, write_request_status}

pub request_status_read_back : (code description : List ℕ) (x : Option (List ℕ)) →
    read_request_status (write_request_status code description x) ≡ Some (request_status code description x)
unfolding and_then ◌or◌
request_status_read_back code description None = rw (split_read_back 59 refl code (description ∷ []))
request_status_read_back code description (Some x) = rw (split_read_back 59 refl code (description ∷ x ∷ []))

-- what is read is a REQUEST-STATUS
pub record IsStatus (v : Value) : Type 0 where
  pub code : List ℕ
  pub description : List ℕ
  pub extra : Option (List ℕ)
  pub is : v ≡ request_status code description extra

status_of_lem : (ps : List (List ℕ)) (v : Value) → status_of ps ≡ Some v → IsStatus v
status_of_lem [] v h = none-some h
status_of_lem (c ∷ []) v h = none-some h
status_of_lem (c ∷ d ∷ []) v h = record { code = c; description = d; extra = None; is = cc }
status_of_lem (c ∷ d ∷ x ∷ []) v h = record { code = c; description = d; extra = Some x; is = cc }
status_of_lem (c ∷ d ∷ x ∷ p ∷ ps) v h = none-some h

pub request_status_accepted : (s : List ℕ) (v : Value) → read_request_status s ≡ Some v → IsStatus v
request_status_accepted s v h = let q = and_then-some (split_text 59 s) status_of v h in status_of_lem q.0 v q.2

-- no LF, and a CR only where a part has one
pub request_status_one_line : (code description : List ℕ) (x : Option (List ℕ)) → holds 10 (write_request_status code description x) ≡ false
request_status_one_line code description x =
    joined_without 10 59 (map write_text (status_parts code description x)) refl (each_one_line (status_parts code description x))

pub request_status_no_return : (code description : List ℕ) (x : Option (List ℕ)) → none_holds 13 (status_parts code description x) ≡ true →
    holds 13 (write_request_status code description x) ≡ false
request_status_no_return code description x h =
    joined_without 13 59 (map write_text (status_parts code description x)) refl (each_no_return (status_parts code description x) h)
