-- Unfolding (RFC 5545 3.1; the rules, "Lines and folds"): one pass from the left that deletes each CRLF followed by space or TAB, with that byte.
-- It runs on bytes and is not repeated: a fold that comes of bytes moving together stays.
--     unfolded s    the bytes that are kept
--     places s      the place in s of each of them
--     origin s w    the place in s of kept byte number w; the length of s where w is past the last
--     Unfolds       the contract of unfolding into lent bytes
use Rattle.std.specs.Prelude.{◌≡◌, Bool, true, false, List, [], ◌∷◌, ℕ, zero, suc, ◌+◌, length, get_or, drop}
use Rattle.octets.specs.Pick.{◌or◌}
use Rattle.octets.specs.Append.{◌⊕◌}
use Rattle.octets.specs.Words.{starts}

-- CRLF = %x0D %x0A
abbrev pub crlf : List ℕ
crlf = 13 ∷ 10 ∷ []

-- WSP = SP / HTAB: a space or a TAB stands at the front
unfoldable pub blank_at : List ℕ → Bool
blank_at s = starts (32 ∷ []) s or starts (9 ∷ []) s

-- a fold stands at the front
unfoldable pub fold_at : List ℕ → Bool
fold_at s = starts (13 ∷ 10 ∷ 32 ∷ []) s or starts (13 ∷ 10 ∷ 9 ∷ []) s

-- s may go on with a fold that begins before it
unfoldable pub fold_goes_on : List ℕ → Bool
fold_goes_on s = starts (10 ∷ []) s or blank_at s

-- at a fold its two other bytes are still to be left out; else a byte is kept. f goes on with what follows, once so many bytes have been left out
unfoldable pub keep : Bool → ℕ → (ℕ → List ℕ) → List ℕ
keep true a f = f 2
keep false a f = a ∷ f 0

-- the bytes of s that are kept, once k bytes have been left out
unfoldable pub kept_from : List ℕ → ℕ → List ℕ
kept_from [] k = []
kept_from (a ∷ s) zero = keep (fold_at (a ∷ s)) a (kept_from s)
kept_from (a ∷ s) (suc k) = kept_from s k

abbrev pub unfolded : List ℕ → List ℕ
unfolded s = kept_from s 0

-- their places, where s starts at place p
unfoldable pub places_from : List ℕ → ℕ → ℕ → List ℕ
places_from [] p k = []
places_from (a ∷ s) p zero = keep (fold_at (a ∷ s)) p (places_from s (p + 1))
places_from (a ∷ s) p (suc k) = places_from s (p + 1) k

abbrev pub places : List ℕ → List ℕ
places s = places_from s 0 0

unfoldable pub origin : List ℕ → ℕ → ℕ
origin s w = get_or (places s) w (length s)

-- the contract of unfolding: of s, over d, which is left as e; r bytes are kept
pub record Unfolds (s d e : List ℕ) (r : ℕ) : Type 0 where
  pub count : r ≡ length (unfolded s)
  pub is : e ≡ unfolded s ⊕ drop (length (unfolded s)) d
