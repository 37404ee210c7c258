-- Laws of what specs/Ends.antt defines.
--     ends_stuck         from a place behind the end
--     ends_found, ends_missing    by what the piece is there
--     ends_then          one piece and another after it;   ends_quoted, ends_apostrophe: between quotes
--     from_on            what stands at a later place
use Rattle.std.specs.Prelude.{◌≡◌, Bool, List, [], ◌∷◌, ℕ, ◌+◌, ◌-◌, ◌≤◌, ◌<◌, None, Some}
use Rattle.std.proofs.Math.Path.{refl}
use Rattle.std.proofs.Common.{sym, ap, ◌∙◌, arith, drop-drop}
use Rattle.std.proofs.Math.Bool.{true, false}
use Rattle.std.proofs.Math.Dec.{ltb}
use Rattle.std.proofs.Math.ListN.{length}
use borrow.Author.Tests.{ltb-true, ltb-false}
use Rattle.octets.specs.Pick.{pick}
use Rattle.octets.specs.Words.{starts}
use Rattle.octets.specs.Reading.{and_then}
use Rattle.octets.specs.laws.Reading.{none-some}
use Rattle.xml.specs.Pieces.{from, Piece, exactly, both, ◌then◌, quoted}
use Rattle.read_xml_tokens.specs.Ends.{Ends}

pub from_on : (s : List ℕ) (at m : ℕ) → at ≤ m → from (m - at) (from at s) ≡ from m s
unfolding from
from_on s at m h = let k : at + (m - at) ≡ m = omega arith in drop-drop (m - at) at s ∙ ap (λ (n : ℕ). from n s) k

module _ (p : Piece) (s : List ℕ) (at : ℕ) where
  pub ends_stuck : length s < at → Ends p s at at
  ends_stuck h = record { onward = omega arith; near = omega arith; stands = λ k. absurd (omega arith); misses = λ k l. absurd (omega arith) }

  pub ends_found : (n r : ℕ) → p (from at s) ≡ Some n → r ≡ at + n → at + n ≤ length s → Ends p s at r
  ends_found n r e f h = record {
    onward = omega arith;
    near = omega arith;
    stands = λ k. let q : n ≡ r - at = omega arith in e ∙ ap Some q;
    misses = λ k l. absurd (omega arith);
  }

  pub ends_missing : at ≤ length s → p (from at s) ≡ None → Ends p s at (length s + 1)
  ends_missing h e = record { onward = omega arith; near = omega arith; stands = λ k. absurd (omega arith); misses = λ k l. e }

-- ---- one piece and another after it

module _ {a b : Piece} {s : List ℕ} {at m r : ℕ} (x : Ends a s at m) (y : Ends b s m r) where
  then_stands : r ≤ length s → (a then b) (from at s) ≡ Some (r - at)
  unfolding ◌then◌ and_then both
  then_stands h =
      let k : m ≤ length s = omega (arith, y.onward) in
      let q : m - at + (r - m) ≡ r - at = omega (arith, x.onward, y.onward) in
      rw (x.stands k, from_on s at m x.onward, y.stands h) (ap Some q)

  then_misses : at ≤ length s → length s < r → (a then b) (from at s) ≡ None
  unfolding ◌then◌ and_then both
  then_misses h l = go (ltb (length s) m) refl
    where
      go : (t : Bool) → ltb (length s) m ≡ t → and_then (a (from at s)) (λ n. both n (b (from n (from at s)))) ≡ None
      go true e = rw (x.misses h (ltb-true (length s) m e))
      go false e = let k = ltb-false (length s) m e in rw (x.stands k, from_on s at m x.onward, y.misses k l)

  pub ends_then : Ends (a then b) s at r
  ends_then = record { onward = omega (arith, x.onward, y.onward); near = omega (arith, x.near, y.near); stands = then_stands; misses = then_misses }

-- ---- given bytes, and a piece between quotes

-- whether given bytes stand there
pub exact_stands : (w : List ℕ) {s : List ℕ} {at r : ℕ} → Ends (exactly w) s at r → r ≤ length s → (starts w (from at s) ≡ true) × (r ≡ at + length w)
unfolding exactly pick
exact_stands w {s} {at} {r} x h = go (starts w (from at s)) (x.stands h)
  where
    go : (t : Bool) → pick t (Some (length w)) None ≡ Some (r - at) → (t ≡ true) × (r ≡ at + length w)
    go true e = let q : length w ≡ r - at = cc in (refl, omega (arith, x.onward))
    go false e = none-some e

pub exact_misses : (w : List ℕ) {s : List ℕ} {at r : ℕ} → Ends (exactly w) s at r → at ≤ length s → length s < r → starts w (from at s) ≡ false
unfolding exactly pick
exact_misses w {s} {at} {r} x h l = go (starts w (from at s)) (x.misses h l)
  where
    go : (t : Bool) → pick t (Some (length w)) None ≡ None → t ≡ false
    go true e = none-some (sym e)
    go false e = refl

module _ {p : Piece} {s : List ℕ} {at q v r : ℕ} where
  pub ends_quoted : Ends (exactly (34 ∷ [])) s at q → q ≤ length s → Ends p s q v → Ends (exactly (34 ∷ [])) s v r → Ends (quoted p) s at r
  unfolding quoted pick
  ends_quoted x h z w =
      let y = ends_then x (ends_then z w) in record {
        onward = y.onward;
        near = y.near;
        stands = λ k. rw (exact_stands (34 ∷ []) x h).0 (y.stands k);
        misses = λ k l. rw (exact_stands (34 ∷ []) x h).0 (y.misses k l);
      }

  pub ends_apostrophe : {n : ℕ} → Ends (exactly (34 ∷ [])) s at n → length s < n → Ends (exactly (39 ∷ [])) s at q → Ends p s q v → Ends (exactly (39 ∷ [])) s v r → Ends (quoted p) s at r
  unfolding quoted pick
  ends_apostrophe x h u z w =
      let y = ends_then u (ends_then z w) in record {
        onward = y.onward;
        near = y.near;
        stands = λ k. rw (exact_misses (34 ∷ []) x (omega (arith, y.onward)) h) (y.stands k);
        misses = λ k l. rw (exact_misses (34 ∷ []) x k h) (y.misses k l);
      }
