-- The characters that stand from a cursor on, as bytes, whatever encoding they stand in. A reader of values knows only these: a new encoding is one case more here.
--     rest m s c     the bytes of the characters in s from the cursor c on, in the encoding m: 0 is bytes as they stand, to the end of s; 1 is the characters of
--                    an XML element, up to a tag (Characters); 2 is the bytes of a text with its folds in place, to the end of s; 3 is the characters of a JSON
--                    string, up to its end (Quoted); 4 and 5 are a parameter's value with carets (edition 1) over 0 and over 2
--     over m         the number of the encoding that has the carets of m decoded;   Over b v: the encoding v has the carets of b decoded
--     Decodes e m v  the encoding v has a value of edition e that stands in the encoding m
--     cuts m         a cursor of m is an index, and what is lent may be cut there;   cut_of m: which of those m is
--     skipping m s c e    how many bytes are still to be passed over at e, for one who comes from c;   Reach: none, so that whole steps lead from c to e
--     Within         a cursor of such an encoding, within the length
--     spell u r      u in front of r; 256, which is no byte, stands for the end
--     Reads          the contract of a step: r is the byte at a cursor and the cursor after it
use Rattle.std.specs.Prelude.{◌≡◌, Bool, true, false, List, [], ◌∷◌, ℕ, zero, suc, ◌+◌, ◌-◌, ◌*◌, ◌/◌, ◌^◌, max, ◌≤◌, ◌<◌, eqb, length, drop, Option, None, Some}
use Rattle.octets.specs.Pick.{pick}
use Rattle.folding.specs.Unfold.{unfolded}
use Rattle.folding.specs.Cut.{skip_after}
use Rattle.edition.specs.Edition.{decoding, decode}
use Rattle.edition.specs.declared.Edition.{Edition}
use Rattle.source.specs.Characters.{chars_from}
use Rattle.source.specs.Quoted.{quoted_from}
use Rattle.source.specs.declared.points.Unit.{Unit}
use Rattle.source.specs.declared.Step.{Step}
use Rattle.source.specs.declared.Cut.{Cut}
use Rattle.source.specs.declared.Cut.TheVariants.{Plain, Folded}

unfoldable pub rest : ℕ → List ℕ → ℕ → List ℕ
rest m s c =
    pick (eqb m 0) (drop c s)
    (pick (eqb m 1) (chars_from s c)
    (pick (eqb m 2) (unfolded (drop c s))
    (pick (eqb m 3) (quoted_from s c)
    (pick (eqb m 4) (decoding (drop c s) false)
    (pick (eqb m 5) (decoding (unfolded (drop c s)) false)
    [])))))

-- 0 and 2
abbrev pub cuts : ℕ → Bool
cuts zero = true
cuts (suc zero) = false
cuts (suc (suc zero)) = true
cuts (suc (suc (suc m))) = false

abbrev pub cut_of : ℕ → Option Cut
cut_of zero = Some Plain
cut_of (suc zero) = None
cut_of (suc (suc zero)) = Some Folded
cut_of (suc (suc (suc m))) = None

unfoldable pub skipping : ℕ → List ℕ → ℕ → ℕ → ℕ
skipping m s c e = pick (eqb m 2) (skip_after (drop c s) 0 (e - c)) 0

pub record Reach (m : ℕ) (s : List ℕ) (c e : ℕ) : Type 0 where
  pub whole : skipping m s c e ≡ 0

-- a cursor that is an index within what is lent, where that may be cut
pub record Within (m : ℕ) (s : List ℕ) (c : ℕ) : Type 0 where
  pub cut : cuts m ≡ true
  pub most : c ≤ length s

unfoldable pub spell : ℕ → List ℕ → List ℕ
spell u r = pick (eqb u 256) [] (u ∷ r)

-- `moved`, `inside` and `plain`: unless it is the end, the cursor has moved on, and is within bounds; where it is an index, within the length.
-- `reach`: it stands between two steps
pub record Reads (m : ℕ) (s : List ℕ) (c : ℕ) (r : Unit) : Type 0 where
  pub is : rest m s c ≡ spell r.u (rest m s r.next)
  pub small : r.u ≤ 256
  pub moved : c < r.next + r.u / 256 * 2 ^ 64
  pub inside : r.next ≤ 4 * length s + r.u / 256 * 2 ^ 64
  pub plain : cuts m ≡ true → (r.u ≡ 256 → ⊥) → r.next ≤ length s
  pub reach : Reach m s c r.next

-- what is read at c, as a unit
abbrev pub unit_of : ℕ → Option Step → Unit
unit_of c None = record { u = 256; next = c }
unit_of c (Some r) = record { u = r.byte; next = r.next }

-- the same bytes stand from r on as from c on; where r is an index within the length, there is one
pub record Settled (m : ℕ) (s : List ℕ) (c r : ℕ) : Type 0 where
  pub is : rest m s c ≡ rest m s r
  pub onward : c ≤ r
  pub inside : r ≤ max c (length s)
  pub reach : Reach m s c r
  pub some_byte : cuts m ≡ true → rest m s r ≡ [] → length s ≤ r

-- the number of the encoding that has the carets of m decoded
abbrev pub over : ℕ → ℕ
over zero = 4
over (suc m) = 5

-- the encoding v has what stands in b with its carets decoded
pub record Over (b v : ℕ) : Type 0 where
  pub decodes : (s : List ℕ) (c : ℕ) → rest v s c ≡ decoding (rest b s c) false
  pub uncut : cuts v ≡ false
  pub base : cuts b ≡ true
  pub unfolded : eqb v 2 ≡ false

-- what stands from any cursor on, decoded
pub record Decodes (e : Edition) (m v : ℕ) : Type 0 where
  pub is : (s : List ℕ) (c : ℕ) → rest v s c ≡ decode e (rest m s c)
