-- Laws of what specs/SpellAt.antt defines.
--     character_tests           the tests of a character
--     spelled_two, spelled_three, spelled_four     how a code point is spelled, by its size
--     byte_one, byte_two, byte_three, byte_four    byte k of a spelled code point;   spelling: the rules for its length
use Rattle.std.specs.Prelude.{◌≡◌, refl, Bool, true, false, List, [], ◌∷◌, ℕ, zero, suc, ◌+◌, ◌/◌, ◌≤◌, ◌<◌, eqb, length, get_or}
use Rattle.std.proofs.Common.{sym, ap, ◌∙◌, arith, rules}
use borrow.Author.Tests.{ne_eqb, lt-ltb, le-ltb}
use Rattle.octets.specs.Pick.{pick, within, ◌or◌}
use Rattle.utf8.specs.Spell.{spell, is_character, tail_of}
use Rattle.utf8.specs.laws.Spell.{spell_ascii}
use Rattle.utf8.specs.SpellAt.{two_of, three_of, four_of}

pub character_tests : (c : ℕ) → is_character c ≡ (within 0x20 0x7E c or eqb c 9 or eqb c 10 or within 0x80 0xD7FF c or within 0xE000 0xFFFD c or within 0x10000 0x10FFFF c)
unfolding is_character
character_tests c = refl

-- how a code point is spelled
module _ (c : ℕ) where
  pub spelled_two : 0x80 ≤ c → c < 0x800 → spell c ≡ (0xC0 + c / 64) ∷ tail_of c ∷ []
  unfolding spell pick
  spelled_two l h = rw (le-ltb c 0x80 l, lt-ltb c 0x800 h)

  pub spelled_three : 0x800 ≤ c → c < 0x10000 → spell c ≡ (0xE0 + c / 4096) ∷ tail_of (c / 64) ∷ tail_of c ∷ []
  unfolding spell pick
  spelled_three l h = rw (le-ltb c 0x80 (omega arith), le-ltb c 0x800 l, lt-ltb c 0x10000 h)

  pub spelled_four : 0x10000 ≤ c → spell c ≡ (0xF0 + c / 262144) ∷ tail_of (c / 4096) ∷ tail_of (c / 64) ∷ tail_of c ∷ []
  unfolding spell pick
  spelled_four l = rw (le-ltb c 0x80 (omega arith), le-ltb c 0x800 (omega arith), le-ltb c 0x10000 l)

  -- its length
  pub length_one : c < 0x80 → 1 ≡ length (spell c)
  length_one h = rw (spell_ascii c h)

  pub length_two : 0x80 ≤ c → c < 0x800 → 2 ≡ length (spell c)
  length_two l h = rw (spelled_two l h)

  pub length_three : 0x800 ≤ c → c < 0x10000 → 3 ≡ length (spell c)
  length_three l h = rw (spelled_three l h)

  pub length_four : 0x10000 ≤ c → 4 ≡ length (spell c)
  length_four l = rw (spelled_four l)

-- the elements of short lists
get_two : (a b k : ℕ) → get_or (a ∷ b ∷ []) k 0 ≡ pick (eqb k 0) a (pick (eqb k 1) b 0)
unfolding pick
get_two a b zero = refl
get_two a b (suc zero) = refl
get_two a b (suc (suc k)) = rw (ne_eqb (suc (suc k)) 0 (λ e. omega arith), ne_eqb (suc (suc k)) 1 (λ e. omega arith))

get_three : (a b d k : ℕ) → get_or (a ∷ b ∷ d ∷ []) k 0 ≡ pick (eqb k 0) a (pick (eqb k 1) b (pick (eqb k 2) d 0))
unfolding pick
get_three a b d zero = refl
get_three a b d (suc zero) = refl
get_three a b d (suc (suc zero)) = refl
get_three a b d (suc (suc (suc k))) =
    rw (ne_eqb (suc (suc (suc k))) 0 (λ e. omega arith), ne_eqb (suc (suc (suc k))) 1 (λ e. omega arith), ne_eqb (suc (suc (suc k))) 2 (λ e. omega arith))

get_four : (a b d e k : ℕ) → get_or (a ∷ b ∷ d ∷ e ∷ []) k 0 ≡ pick (eqb k 0) a (pick (eqb k 1) b (pick (eqb k 2) d (pick (eqb k 3) e 0)))
unfolding pick
get_four a b d e zero = refl
get_four a b d e (suc zero) = refl
get_four a b d e (suc (suc zero)) = refl
get_four a b d e (suc (suc (suc zero))) = refl
get_four a b d e (suc (suc (suc (suc k)))) =
    rw (
      ne_eqb (suc (suc (suc (suc k)))) 0 (λ e. omega arith),
      ne_eqb (suc (suc (suc (suc k)))) 1 (λ e. omega arith),
      ne_eqb (suc (suc (suc (suc k)))) 2 (λ e. omega arith),
      ne_eqb (suc (suc (suc (suc k)))) 3 (λ e. omega arith),
    )

-- byte k, and that it is a byte
abbrev Byte : ℕ → ℕ → ℕ → Type 0
Byte c k r = (r ≡ get_or (spell c) k 0) × (r < 256)

small_pick : (t : Bool) (a b : ℕ) → a < 256 → b < 256 → pick t a b < 256
unfolding pick
small_pick true a b h k = h
small_pick false a b h k = k

module _ (c k : ℕ) where
  pub byte_one : c < 0x80 → k ≡ 0 → Byte c k c
  byte_one h e = (rw (spell_ascii c h, e), omega arith)

  pub byte_past : c < 0x80 → (k ≡ 0 → ⊥) → Byte c k 0
  byte_past h e = (sym (ap (λ (l : List ℕ). get_or l k 0) (spell_ascii c h) ∙ go k e), omega arith)
    where
      go : (k : ℕ) → (k ≡ 0 → ⊥) → get_or (c ∷ []) k 0 ≡ 0
      go zero e = absurd (e refl)
      go (suc k) e = refl

  module _ {r : ℕ} where
    pub byte_two : 0x80 ≤ c → c < 0x800 → r ≡ two_of c k → Byte c k r
    byte_two l h e = (
      e ∙ sym (ap (λ (l : List ℕ). get_or l k 0) (spelled_two c l h) ∙ get_two (0xC0 + c / 64) (tail_of c) k),
      rw e (small_pick (eqb k 0) _ _ (omega arith) (small_pick (eqb k 1) _ _ (omega arith) (omega arith))),
    )

    pub byte_three : 0x800 ≤ c → c < 0x10000 → r ≡ three_of c k → Byte c k r
    byte_three l h e = (
      e ∙ sym (ap (λ (l : List ℕ). get_or l k 0) (spelled_three c l h) ∙ get_three (0xE0 + c / 4096) (tail_of (c / 64)) (tail_of c) k),
      rw e (small_pick (eqb k 0) _ _ (omega arith) (small_pick (eqb k 1) _ _ (omega arith) (small_pick (eqb k 2) _ _ (omega arith) (omega arith)))),
    )

    pub byte_four : 0x10000 ≤ c → c < 0x110000 → r ≡ four_of c k → Byte c k r
    byte_four l h e = (
      e ∙ sym (ap (λ (l : List ℕ). get_or l k 0) (spelled_four c l) ∙ get_four (0xF0 + c / 262144) (tail_of (c / 4096)) (tail_of (c / 64)) (tail_of c) k),
      rw e (small_pick (eqb k 0) _ _ (omega arith) (small_pick (eqb k 1) _ _ (omega arith) (small_pick (eqb k 2) _ _ (omega arith) (small_pick (eqb k 3) _ _ (omega arith) (omega arith))))),
    )

pub ruleset spelling = (length_one, length_two, length_three, length_four, rules)
