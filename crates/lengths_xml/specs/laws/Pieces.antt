-- The pieces of a text, counted with a byte more for each: where a text is cut there is a separator between two pieces.
--     weight          how many bytes the pieces have, and how many they are
--     cut_weight      pieces that a text is cut into
--     split_weight    texts that escaped text is split into
--     joined_weight, joined_within    pieces joined
use Rattle.std.specs.Prelude.{◌≡◌, refl, Bool, true, false, List, [], ◌∷◌, ℕ, suc, ◌+◌, ◌≤◌, eqb, length, Option, None, Some}
use native.Mathlib.Omega.{arith}
use Rattle.octets.specs.Pick.{pick}
use Rattle.octets.specs.laws.Pick.{pick_either}
use Rattle.octets.specs.laws.Append.{length_both}
use Rattle.octets.specs.Words.{onto, cut_at, each_after, joined_by}
use Rattle.octets.specs.Reading.{cons_read}
use Rattle.texts.specs.Text.{Sign, char, opening, separator, fault, sign_of, opens, onto_read, with_sign, split_from, split_text}

unfoldable pub weight : List (List ℕ) → ℕ
weight [] = 0
weight (p ∷ ps) = length p + 1 + weight ps

onto-weight : (b : ℕ) (ps : List (List ℕ)) (n : ℕ) → weight ps ≤ suc n → weight (onto b ps) ≤ suc (suc n)
unfolding onto weight
onto-weight b [] n h = omega arith
onto-weight b (p ∷ ps) n h = omega arith

pub cut_weight : (c : ℕ) (s : List ℕ) → weight (cut_at c s) ≤ suc (length s)
unfolding cut_at weight
cut_weight c [] = omega arith
cut_weight c (b ∷ s) =
    pick_either (λ (ps : List (List ℕ)). weight ps ≤ suc (suc (length s))) (eqb b c) ([] ∷ cut_at c s) (onto b (cut_at c s))
    (omega (arith, cut_weight c s)) (onto-weight b (cut_at c s) (length s) (cut_weight c s))

-- ---- escaped text: a sign adds a byte at most

weight_read : Option (List (List ℕ)) → ℕ
weight_read None = 0
weight_read (Some ps) = weight ps

sign_weight : (g : Sign) (o : Option (List (List ℕ))) (n : ℕ) → weight_read o ≤ suc n → weight_read (with_sign g o) ≤ suc (suc n)
unfolding weight_read onto_read cons_read
sign_weight (char b) None n h = omega arith
sign_weight (char b) (Some ps) n h = onto-weight b ps n h
sign_weight opening o n h = omega arith
sign_weight separator None n h = omega arith
sign_weight separator (Some ps) n h = unfold weight in omega arith
sign_weight fault o n h = omega arith

from_weight : (s : List ℕ) (after : Bool) (c : ℕ) → weight_read (split_from after c s) ≤ suc (length s)
unfolding split_from weight_read pick weight
from_weight [] true c = omega arith
from_weight [] false c = omega arith
from_weight (b ∷ s) after c = sign_weight (sign_of after c b) (split_from (opens after b) c s) (length s) (from_weight s (opens after b) c)

pub split_weight : (c : ℕ) (s : List ℕ) (ps : List (List ℕ)) → split_text c s ≡ Some ps → weight ps ≤ suc (length s)
unfolding weight_read
split_weight c s ps h = rw h at (from_weight s false c)

-- ---- pieces joined

after_weight : (c : ℕ) (ps : List (List ℕ)) → weight ps ≡ length (each_after c ps)
unfolding weight each_after
after_weight c [] = refl
after_weight c (p ∷ ps) = omega (arith, length_both p (each_after c ps), after_weight c ps)

pub joined_weight : (c : ℕ) (ps : List (List ℕ)) → weight ps ≤ suc (length (joined_by c ps))
unfolding weight joined_by
joined_weight c [] = omega arith
joined_weight c (p ∷ ps) = omega (arith, length_both p (each_after c ps), after_weight c ps)

pub joined_within : (c : ℕ) (ps : List (List ℕ)) → length (joined_by c ps) ≤ weight ps
unfolding weight joined_by
joined_within c [] = omega arith
joined_within c (p ∷ ps) = omega (arith, length_both p (each_after c ps), after_weight c ps)
