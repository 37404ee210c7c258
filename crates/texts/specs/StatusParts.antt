-- The parts of a REQUEST-STATUS (RequestStatus), found at a cursor.
--     in_parts, soon_over  by what stands behind the first part: two or three parts in all; at most one part more
--     StatusEnds           the contract of `read_request_status`; PartEnds, the cursors of the parts
use Rattle.std.specs.Prelude.{◌≡◌, Bool, true, false, List, [], ◌∷◌, ℕ, ◌≤◌, length, Option, None, Some, is_some}
use Rattle.octets.specs.Words.{is_empty}
use Rattle.octets.specs.Reading.{is_read}
use Rattle.source.specs.Source.{rest, cuts}
use Rattle.texts.specs.Text.{split_text}
use Rattle.texts.specs.RequestStatus.{read_request_status}
use Rattle.texts.specs.Items.{behind_from, pieces_behind, ItemEnds}
use Rattle.texts.specs.declared.StatusParts.{StatusParts}

-- at most one part more
abbrev pub soon_over : List ℕ → Bool
soon_over [] = true
soon_over (x ∷ s) = is_empty (behind_from false 59 s)

-- what stands behind the first part has one part or two
abbrev pub in_parts : List ℕ → Bool
in_parts [] = false
in_parts (x ∷ s) = soon_over (behind_from false 59 s)

-- ---- the parts at cursors

-- the first part is from c to a, the second from d to b; behind b stands nothing, or a semicolon and the third part
pub record PartEnds (m : ℕ) (s : List ℕ) (c a d b : ℕ) : Type 0 where
  pub code : ItemEnds 59 m s c a
  pub behind : pieces_behind 59 (rest m s a) ≡ split_text 59 (rest m s d)
  pub plain : cuts m ≡ true → d ≤ length s
  pub description : ItemEnds 59 m s d b

abbrev pub HasParts : ℕ → List ℕ → ℕ → Option StatusParts → Type 0
HasParts m s c None = Unit {0}
HasParts m s c (Some p) = PartEnds m s c p.code_end p.description p.description_end

pub record PartsFound (m : ℕ) (s : List ℕ) (c : ℕ) (r : Option StatusParts) : Type 0 where
  pub is : is_some r ≡ in_parts (behind_from false 59 (rest m s c))
  pub parts : HasParts m s c r

pub record StatusEnds (m : ℕ) (s : List ℕ) (c : ℕ) (r : Option StatusParts) : Type 0 where
  pub is : is_some r ≡ is_read (read_request_status (rest m s c))
  pub parts : HasParts m s c r
