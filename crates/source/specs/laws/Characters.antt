-- Laws of the characters of an XML element.
--     rest_place               from a place on, the characters are those that stand there
--     xml_apart, xml_placed, xml_named, xml_found    the step over them, by the character that is read
use Rattle.std.specs.Prelude.{◌≡◌, Bool, ℕ, ◌+◌, ◌-◌, ◌*◌, ◌/◌, ◌%◌, ◌≤◌, ◌<◌, length, drop}
use Rattle.std.proofs.Math.Path.{refl}
use Rattle.std.proofs.Common.{sym, ap, ◌∙◌}
use Rattle.std.proofs.Math.Bool.{true, false}
use mathlib.Core.List.{List, [], ◌∷◌}
use native.Mathlib.Omega.{arith}
use Rattle.std.proofs.Math.Dec.{ltb}
use borrow.Author.Tests.{lt-ltb, ltb-true, ltb-false}
use Rattle.octets.specs.Pick.{pick}
use Rattle.octets.specs.laws.Pick.{pick_yes}
use Rattle.octets.specs.Append.{◌⊕◌}
use Rattle.utf8.specs.Spell.{spell as spelled}
use Rattle.xml.specs.NodesAt.{chars_at}
use Rattle.xml.specs.CharAt.{char_in, Character}
use Rattle.xml.specs.laws.CharAt.{read_none, read_byte, read_reference, chars_none, chars_byte, chars_reference}
use Rattle.xml.specs.laws.ReferenceBytes.{reference_begins, reference_second, reference_third}
use Rattle.xml.specs.declared.CharRead.{CharRead}
use Rattle.source.specs.Mark.{mark_before}
use Rattle.source.specs.laws.Mark.{mark_found}
use Rattle.source.specs.Characters.{remaining, chars_within, chars_from}
use Rattle.source.specs.Source.{rest}
use Rattle.source.specs.Stepping.{Placed, Apart, Inner, Named, Found}
use Rattle.source.specs.laws.Stepping.{spelled_most, spelled_beyond}

rest_even : (s : List ℕ) (p : ℕ) → rest 1 s (2 * p) ≡ chars_at s p
unfolding rest chars_from pick
rest_even s p = let a : 2 * p % 2 ≡ 0 = omega arith in let b : 2 * p / 2 ≡ p = omega arith in rw (a, b)

rest_odd : (s : List ℕ) (q : ℕ) → rest 1 s (2 * q + 1) ≡ chars_within s q
unfolding rest chars_from pick
rest_odd s q = let a : (2 * q + 1) % 2 ≡ 1 = omega arith in let b : (2 * q + 1) / 2 ≡ q = omega arith in rw (a, b)

pub rest_place : (s : List ℕ) (p : ℕ) → rest 1 s (2 * p) ≡ chars_at s p
rest_place s p = rest_even s p

pub xml_apart : Apart 1
xml_apart = record { uncut = refl; unfolded = refl }

module _ (s : List ℕ) (p : ℕ) {r : CharRead} (q : Character (char_in (drop p s)) s (p + 1) r) where
  pub xml_placed : Placed s p r.u r.next
  xml_placed = record {
    high = q.high;
    inside = λ n. let b = q.inside n in (omega (arith, b.0), b.1);
    wide = λ h. omega (arith, q.wide h);
  }

  after : 256 < r.u → p + 1 + (r.next - (p + 1)) ≡ r.next
  after h = omega (arith, q.wide h)

  -- what is left after j bytes
  remains : 256 < r.u → (j : ℕ) → remaining (char_in (drop p s)) j s p ≡ pick (ltb j (length (spelled (r.u - 257)))) (drop j (spelled (r.u - 257)) ⊕ rest 1 s (2 * r.next)) []
  unfolding remaining
  remains h j = rw (read_reference q h, after h, rest_place s r.next)

  -- the cursor after byte j, where more follow
  inner : 256 < r.u → Inner 1 s p (r.u - 257) r.next
  unfolding chars_within
  inner h = record {
    is = λ j l.
        let v = r.u - 257 in
        let o = spelled_beyond v (omega arith) in
        let i = read_reference q h in
        let k = r.next - (p + 1) in
        let a : mark_before 38 s (p + j) ≡ p = mark_found 38 s p (reference_begins s p v k i o) (reference_second s p v k i o) (reference_third s p v k i o) j (omega (arith, spelled_most v)) in
        let b : p + j - p + 1 ≡ j + 1 = omega arith in
        rest_odd s (p + j) ∙ rw (a, b) (remains h (j + 1) ∙ pick_yes (ltb (j + 1) (length (spelled v))) _ _ (lt-ltb (j + 1) (length (spelled v)) l));
  }

  pub xml_named : Named 1 s p r.u r.next
  xml_named = record {
    none = λ h. rest_place s p ∙ chars_none s p (read_none q h);
    byte = λ h.
        let k : p + 1 + (r.next - (p + 1)) ≡ r.next = omega (arith, (q.inside (λ e. omega arith)).0) in
        rest_place s p ∙ chars_byte s p r.u (r.next - (p + 1)) (read_byte q h) ∙ rw (k, rest_place s r.next);
    point = λ h. rest_place s p ∙ chars_reference s p (r.u - 257) (r.next - (p + 1)) (read_reference q h) ∙ rw (after h, rest_place s r.next);
    inner = inner;
  }

  module _ (i : ℕ) (a : p ≡ mark_before 38 s i) where
    within_is : rest 1 s (2 * i + 1) ≡ remaining (char_in (drop p s)) (i - p + 1) s p
    unfolding chars_within
    within_is = rest_odd s i ∙ rw (← a)

    -- there is no reference
    nothing : r.u ≤ 256 → remaining (char_in (drop p s)) (i - p + 1) s p ≡ []
    unfolding remaining
    nothing h = go (ltb r.u 256) refl
      where
        go : (x : Bool) → ltb r.u 256 ≡ x → remaining (char_in (drop p s)) (i - p + 1) s p ≡ []
        go true e = rw (read_byte q (ltb-true r.u 256 e))
        go false e = let l = ltb-false r.u 256 e in rw (read_none q (omega arith))

    pub xml_found : Found 1 s p r.u r.next i
    xml_found = record { none = λ h. within_is ∙ nothing h; left = λ h. within_is ∙ remains h (i - p + 1); inner = inner }
