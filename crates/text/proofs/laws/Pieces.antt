-- A text in pieces, whether escaped or cut at a separator: no piece holds a byte that the text does not.
--     split_without    of escaped text, for a byte that is not LF
--     cut_without      of a text that is cut
use Rattle.std.specs.Prelude.{◌≡◌, refl, Bool, true, false, not, List, [], ◌∷◌, ℕ, eqb, Option, None, Some}
use Rattle.std.proofs.lemmas.Bool.{not-true}
use Rattle.octets.specs.Pick.{pick, ◌or◌}
use Rattle.octets.specs.laws.Pick.{pick_either}
use Rattle.octets.specs.Words.{holds, onto, cut_at, none_holds}
use Rattle.octets.specs.laws.Words.{holds_split}
use Rattle.octets.specs.Reading.{cons_read}
use Rattle.texts.specs.Text.{Sign, char, opening, separator, fault, is_escaped, is_break, sign_of, opens, onto_read, with_sign, split_from, split_text}

none_read : ℕ → Option (List (List ℕ)) → Bool
none_read x None = true
none_read x (Some ps) = none_holds x ps

onto_without : (x b : ℕ) (ps : List (List ℕ)) → eqb x b ≡ false → none_holds x ps ≡ true → none_holds x (onto b ps) ≡ true
unfolding onto none_holds holds pick ◌or◌
onto_without x b [] e h = rw e
onto_without x b (p ∷ ps) e h = rw e h

pub cut_without : (x c : ℕ) (s : List ℕ) → holds x s ≡ false → none_holds x (cut_at c s) ≡ true
unfolding cut_at none_holds holds pick
cut_without x c [] h = refl
cut_without x c (b ∷ s) h =
    let e = holds_split x b s h in
    let ih = cut_without x c s e.1 in
    pick_either (λ (l : List (List ℕ)). none_holds x l ≡ true) (eqb b c) ([] ∷ cut_at c s) (onto b (cut_at c s)) ih (onto_without x b (cut_at c s) e.0 ih)

-- a sign that does not stand for x
clears : ℕ → Sign → Bool
clears x (char b) = not (eqb x b)
clears x opening = true
clears x separator = true
clears x fault = true

sign_clears : (x : ℕ) (after : Bool) (c b : ℕ) → eqb x 10 ≡ false → eqb x b ≡ false → clears x (sign_of after c b) ≡ true
unfolding clears
sign_clears x after c b l e =
    pick_either Clear after _ _
    (pick_either Clear (eqb b 110 or eqb b 78) (char 10) _ (rw l) (pick_either Clear (is_escaped b) (char b) fault (rw e) refl))
    (pick_either Clear (eqb b 92) opening _ refl (pick_either Clear (is_break b) _ (char b) (pick_either Clear (eqb b c) separator fault refl refl) (rw e)))
  where
    Clear : Sign → Type 0
    Clear g = clears x g ≡ true

sign_without : (x : ℕ) (g : Sign) (o : Option (List (List ℕ))) → clears x g ≡ true → none_read x o ≡ true → none_read x (with_sign g o) ≡ true
unfolding clears none_read onto_read cons_read none_holds holds pick
sign_without x (char b) None e h = refl
sign_without x (char b) (Some ps) e h = onto_without x b ps (not-true (eqb x b) e) h
sign_without x opening o e h = h
sign_without x separator None e h = refl
sign_without x separator (Some ps) e h = h
sign_without x fault o e h = refl

from_without : (x : ℕ) (c : ℕ) → eqb x 10 ≡ false → (s : List ℕ) (after : Bool) → holds x s ≡ false → none_read x (split_from after c s) ≡ true
unfolding split_from none_read none_holds holds pick
from_without x c l [] true h = refl
from_without x c l [] false h = refl
from_without x c l (b ∷ s) after h =
    let e = holds_split x b s h in
    sign_without x (sign_of after c b) (split_from (opens after b) c s) (sign_clears x after c b l e.0) (from_without x c l s (opens after b) e.1)

-- x is not LF, for which `\n` stands
pub split_without : (x c : ℕ) (s : List ℕ) (ps : List (List ℕ)) → eqb x 10 ≡ false → holds x s ≡ false → split_text c s ≡ Some ps → none_holds x ps ≡ true
unfolding none_read
split_without x c s ps l h e = rw e at (from_without x c l s false h)
