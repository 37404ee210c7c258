-- The open elements of a document, as the places of their names in the input.
--     opened s a e d    the names of d open elements, the innermost first: name i stands from a[i] to e[i]
--     may_stand, closes_at   a character, an end tag may stand there
--     room_at d         an element may start inside d open ones, after the root's start
use Rattle.std.specs.Prelude.{Bool, true, false, List, [], ◌∷◌, ℕ, zero, suc, ◌-◌, ltb, eqb, get_or, take}
use Rattle.octets.specs.Pick.{pick}
use Rattle.octets.specs.Class.{is_space}
use Rattle.octets.specs.Words.{same}
use Rattle.source.specs.Source.{rest}

unfoldable pub opened : List ℕ → List ℕ → List ℕ → ℕ → List (List ℕ)
opened s a e zero = []
opened s a e (suc d) = rest 0 (take (get_or e d 0) s) (get_or a d 0) ∷ opened s a e d

abbrev pub room_at : ℕ → Bool
room_at d = pick (eqb d 0) false (ltb d 32)

-- a character may stand where d elements are open: white space alone behind the root
abbrev pub may_stand : ℕ → ℕ → Bool
may_stand d u = pick (eqb d 0) (is_space u) true

-- an end tag with the name from v to w closes the innermost of d open elements
abbrev pub closes_at : List ℕ → List ℕ → List ℕ → ℕ → ℕ → ℕ → Bool
closes_at s a e d v w = pick (eqb d 0) false (same (rest 0 (take (get_or e (d - 1) 0) s) (get_or a (d - 1) 0)) (rest 0 (take w s) v))
