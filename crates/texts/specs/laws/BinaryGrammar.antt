-- Laws of what specs/BinaryGrammar.antt defines.
--     binary_grammar     Binary's characters are those of the grammar, exactly
use Rattle.std.specs.Prelude.{◌≡◌, refl, Bool, true, false, List, [], ◌∷◌, ℕ, ◌%◌, eqb}
use Rattle.std.proofs.Common.{sym, eqb-true}
use Rattle.octets.specs.Pick.{pick, ◌and◌, ◌or◌}
use Rattle.octets.specs.laws.Pick.{eqb_apart}
use Rattle.octets.specs.Words.{is_empty}
use Rattle.texts.specs.Binary.{is_base64_char, base64_value, binary_from, is_binary}
use Rattle.texts.specs.BinaryGrammar.{is_binary_grammar}

-- ---- a character at each place of a group: b-char, or `=`, or neither

-- `=` is no b-char
not_pad : (b : ℕ) → is_base64_char b ≡ true → eqb b 61 ≡ false
unfolding ◌and◌ ◌or◌
not_pad b h = eqb_apart is_base64_char b 61 h refl

-- a test of b by cases; `=` is no b-char
by_char : (P : Bool → Bool → Type 0) (b : ℕ) → P true false → (b ≡ 61 → P false true) → P false false → P (is_base64_char b) (eqb b 61)
unfolding ◌and◌ ◌or◌
by_char P b char pad other = go (is_base64_char b) refl (eqb b 61) refl
  where
    go : (t : Bool) → is_base64_char b ≡ t → (u : Bool) → eqb b 61 ≡ u → P (is_base64_char b) (eqb b 61)
    go true e u k = rw (e, not_pad b e) char
    go false e true k = rw (e, k) (pad (eqb-true b 61 k))
    go false e false k = rw (e, k) other

first : (last b : ℕ) (s : List ℕ) → binary_from 0 last (b ∷ s) ≡ (is_base64_char b and binary_from 1 b s)
unfolding binary_from pick ◌and◌ ◌or◌
first last b s = by_char (λ t u. (pick u false (t and true) and binary_from (pick u 5 1) b s) ≡ (t and binary_from 1 b s)) b refl (λ e. refl) refl

second : (last b : ℕ) (s : List ℕ) → binary_from 1 last (b ∷ s) ≡ (is_base64_char b and binary_from 2 b s)
unfolding binary_from pick ◌and◌ ◌or◌
second last b s = by_char (λ t u. (pick u false (t and true) and binary_from (pick u 5 2) b s) ≡ (t and binary_from 2 b s)) b refl (λ e. refl) refl

or_none : (a : Bool) → (a or false) ≡ a
unfolding ◌or◌
or_none true = refl
or_none false = refl

third : (last b : ℕ) (s : List ℕ) →
    binary_from 2 last (b ∷ s) ≡ ((is_base64_char b and binary_from 3 b s) or (eqb b 61 and eqb (base64_value last % 16) 0 and binary_from 4 b s))
unfolding binary_from pick ◌and◌ ◌or◌
third last b s = go (eqb (base64_value last % 16) 0)
  where
    go : (z : Bool) →
        (pick (eqb b 61) (z or false) (is_base64_char b and true) and binary_from (pick (eqb b 61) 4 3) b s)
        ≡ ((is_base64_char b and binary_from 3 b s) or (eqb b 61 and z and binary_from 4 b s))
    go true = by_char (λ t u. (pick u true (t and true) and binary_from (pick u 4 3) b s) ≡ ((t and binary_from 3 b s) or (u and binary_from 4 b s))) b (sym (or_none (binary_from 3 b s))) (λ e. refl) refl
    go false = by_char (λ t u. (pick u false (t and true) and binary_from (pick u 4 3) b s) ≡ ((t and binary_from 3 b s) or (u and false))) b (sym (or_none (binary_from 3 b s))) (λ e. refl) refl

fourth : (last b : ℕ) (s : List ℕ) →
    binary_from 3 last (b ∷ s) ≡ ((is_base64_char b and binary_from 0 b s) or (eqb b 61 and eqb (base64_value last % 4) 0 and binary_from 5 b s))
unfolding binary_from pick ◌and◌ ◌or◌
fourth last b s = go (eqb (base64_value last % 4) 0)
  where
    go : (z : Bool) →
        (pick (eqb b 61) z (is_base64_char b and true) and binary_from (pick (eqb b 61) 5 0) b s)
        ≡ ((is_base64_char b and binary_from 0 b s) or (eqb b 61 and z and binary_from 5 b s))
    go true = by_char (λ t u. (pick u true (t and true) and binary_from (pick u 5 0) b s) ≡ ((t and binary_from 0 b s) or (u and binary_from 5 b s))) b (sym (or_none (binary_from 0 b s))) (λ e. refl) refl
    go false = by_char (λ t u. (pick u false (t and true) and binary_from (pick u 5 0) b s) ≡ ((t and binary_from 0 b s) or (u and false))) b (sym (or_none (binary_from 0 b s))) (λ e. refl) refl

-- the second `=`
pad : (last b : ℕ) (s : List ℕ) → binary_from 4 last (b ∷ s) ≡ (eqb b 61 and binary_from 5 b s)
unfolding binary_from pick ◌and◌ ◌or◌
pad last b s = by_char (λ t u. (pick u true (t and false) and binary_from (pick u 5 5) b s) ≡ (u and binary_from 5 b s)) b refl (λ e. refl) refl

-- nothing behind it
over : (last : ℕ) (s : List ℕ) → binary_from 5 last s ≡ is_empty s
unfolding binary_from pick ◌and◌ ◌or◌
over last [] = refl
over last (b ∷ s) = by_char (λ t u. (pick u false (t and false) and binary_from (pick u 5 6) b s) ≡ false) b refl (λ e. refl) refl

-- ---- a group: which of its characters are b-chars (a, b, c, d), which are `=` (p, q), whether the bits that are over are zero (x, y)
group : (a b c d p q x y more none : Bool) →
    (a and b and ((c and ((d and more) or (q and y and none))) or (p and x and q and none)))
    ≡ (((a and b and c and d) and more) or (((a and b and p and q and x) or (a and b and c and q and y)) and none))
unfolding ◌and◌ ◌or◌
group false b c d p q x y more none = refl
group true false c d p q x y more none = refl
group true true false d false q x y more none = refl
group true true false d true false false y more none = refl
group true true false d true false true y more none = refl
group true true false d true true false y more none = refl
group true true false d true true true y more none = refl
group true true true true false false x y true none = refl
group true true true true false false x y false none = refl
group true true true true false true x true true none = refl
group true true true true false true x true false none = or_none none
group true true true true false true x false true none = refl
group true true true true false true x false false none = refl
group true true true true true q x y true none = refl
group true true true true true true true true false true = refl
group true true true true true true true true false false = refl
group true true true true true true true false false none = refl
group true true true true true true false true false none = or_none none
group true true true true true true false false false none = refl
group true true true true true false true y false none = refl
group true true true true true false false y false none = refl
group true true true false false true x true more none = or_none none
group true true true false false true x false more none = refl
group true true true false false false x y more none = refl
group true true true false true true true true more true = refl
group true true true false true true true true more false = refl
group true true true false true true true false more none = refl
group true true true false true true false true more none = or_none none
group true true true false true true false false more none = refl
group true true true false true false true y more none = refl
group true true true false true false false y more none = refl

-- a group that breaks off
ends : (last : ℕ) → (binary_from 0 last [] ≡ true) × (binary_from 1 last [] ≡ false) × (binary_from 2 last [] ≡ false) × (binary_from 3 last [] ≡ false) × (binary_from 4 last [] ≡ false)
unfolding binary_from ◌or◌
ends last = (refl, refl, refl, refl, refl)

nowhere : (a b c p x : Bool) → ((a and false) ≡ false) × ((a and b and false) ≡ false) × ((a and b and ((c and false) or (p and x and false))) ≡ false)
unfolding ◌and◌ ◌or◌
nowhere false b c p x = (refl, refl, refl)
nowhere true false c p x = (refl, refl, refl)
nowhere true true false false x = (refl, refl, refl)
nowhere true true false true false = (refl, refl, refl)
nowhere true true false true true = (refl, refl, refl)
nowhere true true true false x = (refl, refl, refl)
nowhere true true true true false = (refl, refl, refl)
nowhere true true true true true = (refl, refl, refl)

by_groups : (s : List ℕ) (last : ℕ) → binary_from 0 last s ≡ is_binary_grammar s
unfolding is_binary_grammar
by_groups [] last = (ends last).0
by_groups (a ∷ []) last = rw (first last a [], (ends a).1) (nowhere (is_base64_char a) false false false false).0
by_groups (a ∷ b ∷ []) last = rw (first last a (b ∷ []), second a b [], (ends b).2) (nowhere (is_base64_char a) (is_base64_char b) false false false).1
by_groups (a ∷ b ∷ c ∷ []) last =
    rw (first last a (b ∷ c ∷ []), second a b (c ∷ []), third b c [], (ends c).3, (ends c).4)
    (nowhere (is_base64_char a) (is_base64_char b) (is_base64_char c) (eqb c 61) (eqb (base64_value b % 16) 0)).2
by_groups (a ∷ b ∷ c ∷ d ∷ s) last =
    rw (first last a (b ∷ c ∷ d ∷ s), second a b (c ∷ d ∷ s), third b c (d ∷ s), fourth c d s, pad c d s, over d s, by_groups s d)
    (group (is_base64_char a) (is_base64_char b) (is_base64_char c) (is_base64_char d) (eqb c 61) (eqb d 61) (eqb (base64_value b % 16) 0) (eqb (base64_value c % 4) 0) (is_binary_grammar s) (is_empty s))

pub binary_grammar : (s : List ℕ) → is_binary s ≡ is_binary_grammar s
binary_grammar s = by_groups s 0
