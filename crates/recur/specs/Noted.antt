-- Where each part of a rule stands, as the code notes it: an array with the cursor at the piece of each part, if it is there.
--     piece_from s o     the piece at a cursor
--     Standing           an array tells the piece of each part
--     whole_in t         what the array says of the parts that must and may be there together
--     Parted             the contract of reading the parts
use Rattle.std.specs.Prelude.{◌≡◌, Bool, List, [], ℕ, ◌≤◌, ◌<◌, eqb, length, get_or, Option, None, Some, is_some, is_none}
use Rattle.octets.specs.Pick.{◌and◌, ◌or◌}
use Rattle.octets.specs.Words.{cut_at, row_of}
use Rattle.octets.specs.Reading.{is_read}
use Rattle.octets.specs.Front.{up_to}
use Rattle.source.specs.Source.{rest}
use Rattle.recur.specs.Parts.{part_names}
use Rattle.recur.specs.Rule.{read_rule}
use Rattle.recur.specs.Pieces.{piece_name}

-- 59 is ;
abbrev pub piece_from : ℕ → List ℕ → Option ℕ → Option (List ℕ)
piece_from m s None = None
piece_from m s (Some c) = Some (up_to (λ (b : ℕ). eqb b 59) (rest m s c))

-- the first piece of the part at a place
abbrev pub named : ℕ → List (List ℕ) → Option (List ℕ)
named p ws = row_of piece_name (get_or part_names p []) ws

pub record Standing (m : ℕ) (s : List ℕ) (at : ℕ) (t : List (Option ℕ)) : Type 0 where
  pub is : (p : ℕ) → p < 14 → named p (cut_at 59 (rest m s at)) ≡ piece_from m s (get_or t p None)
  pub inside : (p c : ℕ) → get_or t p None ≡ Some c → c ≤ length s

-- FREQ is noted; UNTIL and COUNT are not both noted
abbrev pub whole_in : List (Option ℕ) → Bool
whole_in t = is_some (get_or t 0 None) and (is_none (get_or t 1 None) or is_none (get_or t 2 None))

pub record Parted (m : ℕ) (s : List ℕ) (at : ℕ) (r : Option (List (Option ℕ))) : Type 0 where
  pub is : is_read (read_rule (rest m s at)) ≡ is_some r
  pub standing : (t : List (Option ℕ)) → r ≡ Some t → Standing m s at t
