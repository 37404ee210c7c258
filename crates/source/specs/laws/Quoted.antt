-- Laws of the characters of a JSON string.
--     rest_quoted              from a place on, the characters are those that stand there
--     quoted_apart, quoted_placed, quoted_named, quoted_found    the step over them, by the character that is read
use Rattle.std.specs.Prelude.{◌≡◌, Bool, true, List, [], ◌∷◌, ℕ, ◌+◌, ◌-◌, ◌*◌, ◌/◌, ◌%◌, ◌≤◌, ◌<◌, length, drop}
use Rattle.std.proofs.Math.Path.{refl}
use Rattle.std.proofs.Common.{sym, ap, ◌∙◌}
use Rattle.std.proofs.Math.Bool.{false}
use native.Mathlib.Omega.{arith}
use Rattle.std.proofs.Math.Dec.{ltb}
use borrow.Author.Tests.{lt-ltb, le-ltb, ltb-true, ltb-false}
use Rattle.octets.specs.Pick.{pick}
use Rattle.octets.specs.laws.Pick.{pick_yes}
use Rattle.octets.specs.Append.{◌⊕◌}
use Rattle.octets.specs.laws.Append.{append_cons, append_empty}
use Rattle.utf8.specs.Spell.{spell as spelled}
use Rattle.json_text.specs.Strings.{characters}
use Rattle.json_text.specs.CharAt.{char_in, Character}
use Rattle.json_text.specs.laws.CharAt.{read_none, read_byte, read_escape, chars_none, chars_char}
use Rattle.json_text.specs.declared.CharRead.{CharRead}
use Rattle.source.specs.Mark.{mark_before}
use Rattle.source.specs.laws.Mark.{mark_found}
use Rattle.source.specs.Quoted.{left_of, quoted_within, quoted_from}
use Rattle.source.specs.Source.{rest}
use Rattle.source.specs.Stepping.{Placed, Apart, Inner, Named, Found}
use Rattle.source.specs.laws.Stepping.{spelled_most}

pub rest_quoted : (s : List ℕ) (p : ℕ) → rest 3 s (2 * p) ≡ characters (drop p s)
unfolding rest quoted_from pick
rest_quoted s p = let a : 2 * p % 2 ≡ 0 = omega arith in let b : 2 * p / 2 ≡ p = omega arith in rw (a, b)

rest_odd : (s : List ℕ) (q : ℕ) → rest 3 s (2 * q + 1) ≡ quoted_within s q
unfolding rest quoted_from pick
rest_odd s q = let a : (2 * q + 1) % 2 ≡ 1 = omega arith in let b : (2 * q + 1) / 2 ≡ q = omega arith in rw (a, b)

pub quoted_apart : Apart 3
quoted_apart = record { uncut = refl; unfolded = refl }

module _ {s : List ℕ} {p : ℕ} {r : CharRead} (q : Character s p r) where
  pub quoted_placed : Placed s p r.u r.next
  quoted_placed = record { high = q.high; inside = q.inside; wide = λ h. omega (arith, (q.digits h).wide) }

  after : 256 < r.u → p + 1 + (r.next - (p + 1)) ≡ r.next
  after h = omega (arith, (q.digits h).wide)

  -- what is left after j bytes
  remains : 256 < r.u → (j : ℕ) → left_of (char_in (drop p s)) j s p ≡ pick (ltb j (length (spelled (r.u - 257)))) (drop j (spelled (r.u - 257)) ⊕ rest 3 s (2 * r.next)) []
  unfolding left_of
  remains h j = rw (read_escape q h, after h, rest_quoted s r.next)

  -- the cursor after byte j, where more follow
  inner : 256 < r.u → Inner 3 s p (r.u - 257) r.next
  unfolding quoted_within
  inner h = record {
    is = λ j l.
        let v = r.u - 257 in
        let d = q.digits h in
        let a : mark_before 92 s (p + j) ≡ p = mark_found 92 s p d.begins d.second d.third j (omega (arith, spelled_most v)) in
        let b : p + j - p + 1 ≡ j + 1 = omega arith in
        rest_odd s (p + j) ∙ rw (a, b) (remains h (j + 1) ∙ pick_yes (ltb (j + 1) (length (spelled v))) _ _ (lt-ltb (j + 1) (length (spelled v)) l));
  }

  pub quoted_named : Named 3 s p r.u r.next
  quoted_named = record {
    none = λ h. rest_quoted s p ∙ chars_none s p (read_none q h);
    byte = λ h.
        let k : p + 1 + (r.next - (p + 1)) ≡ r.next = omega (arith, (q.inside (λ e. omega arith)).0) in
        rest_quoted s p ∙ chars_char s p (r.u ∷ []) (r.next - (p + 1)) (read_byte q h) ∙ rw (k, rest_quoted s r.next) (append_cons r.u [] (characters (drop r.next s)) ∙ ap (λ (l : List ℕ). r.u ∷ l) (append_empty (characters (drop r.next s))));
    point = λ h. rest_quoted s p ∙ chars_char s p (spelled (r.u - 257)) (r.next - (p + 1)) (read_escape q h) ∙ rw (after h, rest_quoted s r.next);
    inner = inner;
  }

  module _ (i : ℕ) (a : p ≡ mark_before 92 s i) (l : p ≤ i) where
    within_is : rest 3 s (2 * i + 1) ≡ left_of (char_in (drop p s)) (i - p + 1) s p
    unfolding quoted_within
    within_is = rest_odd s i ∙ rw (← a)

    -- there is no escape of digits: a byte is left whole
    nothing : r.u ≤ 256 → left_of (char_in (drop p s)) (i - p + 1) s p ≡ []
    unfolding left_of pick
    nothing h = go (ltb r.u 256) refl
      where
        one : ltb (i - p + 1) 1 ≡ false
        one = le-ltb (i - p + 1) 1 (omega arith)

        go : (x : Bool) → ltb r.u 256 ≡ x → left_of (char_in (drop p s)) (i - p + 1) s p ≡ []
        go true e = rw (read_byte q (ltb-true r.u 256 e), one)
        go false e = let k = ltb-false r.u 256 e in rw (read_none q (omega arith))

    pub quoted_found : Found 3 s p r.u r.next i
    quoted_found = record { none = λ h. within_is ∙ nothing h; left = λ h. within_is ∙ remains h (i - p + 1); inner = inner }
