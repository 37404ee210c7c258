-- Laws of where a string, a number or a literal ends, and of what follows a string.
--     Ending      the invariant of the walk over a string's characters;   `search ending`
--     Word        the invariant of the walk over a word's bytes;   `search wording`
--     Spaces      the invariant of the walk over white space;   `search spacing`
use Rattle.std.specs.Prelude.{◌≡◌, refl, Bool, true, false, List, ◌∷◌, ℕ, ◌+◌, ◌-◌, ◌≤◌, ◌<◌, eqb, ltb, length, get_or, drop}
use Rattle.std.proofs.Math.Path.{sym}
use Rattle.std.proofs.Common.{ap, ◌∙◌, arith, drop_of_length-le, rules, ltb-true, ltb-false}
use Rattle.octets.specs.Pick.{pick}
use Rattle.octets.specs.Scan.{span_len, span_end}
use Rattle.octets.specs.laws.Scan.{drop_next, SpanFrom, from_start, from_more, from_stop, from_end}
use Rattle.octets.specs.Class.{is_space}
use Rattle.octets.specs.Runs.{after_run}
use Rattle.octets.specs.Front.{begins_by}
use Rattle.json_text.specs.Bytes.{name_separator}
use Rattle.json_text.specs.Strings.{char, quoted_length}
use Rattle.json_text.specs.CharAt.{char_in, Character}
use Rattle.json_text.specs.laws.CharAt.{read_none, read_byte, read_escape, length_past, length_none, length-char}
use Rattle.json_text.specs.declared.CharRead.{CharRead}
use Rattle.json_text.specs.Tree.{is_scalar}
use Rattle.read_json.specs.Ends.{EndAt}

-- ---- a string

pub record Ending (s : List ℕ) (from i : ℕ) : Type 0 where
  pub low : from ≤ i
  pub high : i ≤ length s
  pub left : from + quoted_length (drop from s) ≡ i + quoted_length (drop i s)

pub ending_start : (s : List ℕ) (from : ℕ) → from ≤ length s → Ending s from from
ending_start s from h = record { low = omega arith; high = h; left = refl }

module _ {s : List ℕ} {from i : ℕ} (e : Ending s from i) where
  pub ending_past : length s ≤ i → EndAt s from i
  ending_past h = record { is = omega (arith, e.left, length_past s i h); onward = e.low; inside = e.high }

  module _ (h : i < length s) {r : CharRead} (c : Character s i r) where
    pub ending_stop : r.u ≡ 256 → EndAt s from (i + 1)
    ending_stop n = record { is = omega (arith, e.left, length_none s i h (read_none c n)); onward = omega (arith, e.low); inside = omega arith }

    on : (bs : List ℕ) → (r.u ≡ 256 → ⊥) → char_in (drop i s) ≡ char bs (r.next - (i + 1)) → Ending s from r.next
    on bs n q =
        let b = c.inside n in
        let k : i + 1 + (r.next - (i + 1)) ≡ r.next = omega (arith, b.0) in
        let l = rw k at (length-char s i bs (r.next - (i + 1)) (rw k b.1) q) in
        record { low = omega (arith, e.low, b.0); high = b.1; left = omega (arith, e.left, l, k) }

    pub ending_on : (r.u ≡ 256 → ⊥) → Ending s from r.next
    ending_on n = go (ltb r.u 256) refl
      where
        go : (t : Bool) → ltb r.u 256 ≡ t → Ending s from r.next
        go true q = on _ n (read_byte c (ltb-true r.u 256 q))
        go false q = let l = ltb-false r.u 256 q in on _ n (read_escape c (omega (arith, n)))

    pub ending_less : (r.u ≡ 256 → ⊥) → length s - r.next < length s - i
    ending_less n = let b = c.inside n in omega (arith, b.0, b.1)

pub ruleset ending = (ending_start, ending_past, ending_stop, ending_on, ending_less, rules)

-- ---- a number or a literal

pub record Word (s : List ℕ) (from i : ℕ) : Type 0 where
  pub high : i ≤ length s
  pub span : SpanFrom is_scalar s from i

pub word_start : (s : List ℕ) (from : ℕ) → from ≤ length s → Word s from from
word_start s from h = record { high = h; span = from_start is_scalar s from h }

module _ {s : List ℕ} {from i : ℕ} (w : Word s from i) where
  pub word_past : length s ≤ i → (i ≡ span_end is_scalar s from) × (i ≤ length s)
  word_past h = (from_end is_scalar s from i w.span h, w.high)

  module _ (h : i < length s) {u : ℕ} (e : (u ≡ get_or s i 0) × (u < 256)) {t : Bool} (q : t ≡ is_scalar u) where
    test : is_scalar (get_or s i 0) ≡ t
    test = ap is_scalar (sym e.0) ∙ sym q

    pub word_more : t ≡ true → Word s from (i + 1)
    word_more y = record { high = omega arith; span = from_more is_scalar s from i w.span h (test ∙ y) }

    pub word_stop : t ≡ false → (i ≡ span_end is_scalar s from) × (i ≤ length s)
    word_stop y = (from_stop is_scalar s from i w.span h (test ∙ y), w.high)

pub ruleset wording = (word_start, word_past, word_more, word_stop, rules)

-- ---- what follows a string

abbrev follows : List ℕ → Bool
follows l = begins_by (λ b. eqb b name_separator) (after_run is_space l)

pub record Spaces (s : List ℕ) (from i : ℕ) : Type 0 where
  pub left : begins_by (λ b. eqb b name_separator) (after_run is_space (drop from s)) ≡ begins_by (λ b. eqb b name_separator) (after_run is_space (drop i s))

pub spaces_start : (s : List ℕ) (from : ℕ) → Spaces s from from
spaces_start s from = record { left = refl }

follows_more : (b : ℕ) (l : List ℕ) → is_space b ≡ true → follows (b ∷ l) ≡ follows l
unfolding after_run span_len pick
follows_more b l h = rw h

follows_stop : (b : ℕ) (l : List ℕ) → is_space b ≡ false → follows (b ∷ l) ≡ eqb b name_separator
unfolding after_run span_len pick begins_by
follows_stop b l h = rw h

module _ {s : List ℕ} {from i : ℕ} (w : Spaces s from i) where
  pub spaces_past : length s ≤ i → false ≡ begins_by (λ b. eqb b name_separator) (after_run is_space (drop from s))
  unfolding after_run span_len begins_by
  spaces_past h = sym (w.left ∙ rw (drop_of_length-le s h))

  module _ (h : i < length s) {u : ℕ} (e : (u ≡ get_or s i 0) × (u < 256)) {t : Bool} (q : t ≡ is_space u) where
    test_space : is_space (get_or s i 0) ≡ t
    test_space = ap is_space (sym e.0) ∙ sym q

    pub spaces_more : t ≡ true → Spaces s from (i + 1)
    spaces_more y = record { left = w.left ∙ ap follows (drop_next s i h) ∙ follows_more (get_or s i 0) (drop (i + 1) s) (test_space ∙ y) }

    pub spaces_stop : t ≡ false → eqb u name_separator ≡ begins_by (λ b. eqb b name_separator) (after_run is_space (drop from s))
    spaces_stop y = sym (w.left ∙ ap follows (drop_next s i h) ∙ follows_stop (get_or s i 0) (drop (i + 1) s) (test_space ∙ y) ∙ ap (λ (b : ℕ). eqb b name_separator) (sym e.0))

pub ruleset spacing = (spaces_start, spaces_past, spaces_more, spaces_stop, rules)
