-- The check of the characters, a byte a turn.
--     Judging    the state of the check after i bytes, at the cursor c;   judging_start, -more, -end: its laws
use Rattle.std.specs.Prelude.{◌≡◌, refl, List, ℕ, ◌+◌, ◌≤◌, ◌<◌, Option}
use Rattle.std.proofs.Common.{sym, ◌∙◌, arith}
use Rattle.std.proofs.Math.Path.{ap}
use Rattle.octets.specs.Scan.{foldi}
use Rattle.source.specs.Source.{rest, Reads}
use Rattle.source.specs.laws.Facts.{rest_byte, rest_end, byte_small, rest_plain}
use Rattle.source.specs.declared.points.Unit.{Unit}
use Rattle.utf8.specs.Utf8.{first_bad}
use Rattle.utf8.specs.Automaton.{start, step, verdict}
use Rattle.utf8.specs.laws.Automaton.{finds}
use Rattle.utf8.specs.declared.Reading.{Reading}

pub record Judging (m : ℕ) (s : List ℕ) (st : Reading) (i c : ℕ) : Type 0 where
  pub left : foldi step start 0 (rest m s 0) ≡ foldi step st i (rest m s c)
  pub count : i ≤ c

pub judging_start : {st : Reading} (m : ℕ) (s : List ℕ) → st ≡ start → Judging m s st 0 0
judging_start m s e = record { left = rw e; count = omega arith }

module _ {m : ℕ} {s : List ℕ} {st : Reading} {i c : ℕ} {x : Unit} (j : Judging m s st i c) (p : Reads m s c x) where
  pub judging_on : x.u < 256 → c < x.next
  judging_on l = omega (arith, p.moved)

  pub judging_more : {st' : Reading} → x.u < 256 → st' ≡ step st i x.u → Judging m s st' (i + 1) x.next
  unfolding foldi
  judging_more l f = record { left = j.left ∙ rw (rest_byte p (λ e. omega arith), f); count = let k = judging_on l in omega (arith, k, j.count) }

  pub judging_end : {r : Option ℕ} → 256 ≤ x.u → r ≡ verdict st → r ≡ first_bad (rest m s 0)
  unfolding foldi
  judging_end l f =
      let e : x.u ≡ 256 = omega (arith, p.small) in
      let g : foldi step start 0 (rest m s 0) ≡ st = j.left ∙ rw (rest_end p e) in
      f ∙ ap verdict (sym g) ∙ finds (rest m s 0)

-- bytes as they stand
pub judged_plain : {o : Option ℕ} (m : ℕ) (s : List ℕ) → m ≡ 0 → o ≡ first_bad s → o ≡ first_bad (rest m s 0)
judged_plain m s e f = rw (e, rest_plain s) f
