-- Laws of what specs/Uri.antt defines.
--     uri_read_back, uri_kept, uri_accepted, uri_visible, uri_unquoted
use Rattle.std.specs.Prelude.{◌≡◌, refl, Bool, true, false, List, [], ◌∷◌, ℕ, ◌≤◌, eqb, None, Some}
use Rattle.std.proofs.Common.{◌∙◌, arith, ne_eqb, le-leb}
use Rattle.octets.specs.Pick.{pick, ◌and◌, ◌or◌, within}
use Rattle.octets.specs.laws.Pick.{pick_yes, within_yes, or_left, and_both, or_cases, or_neither, within_range, pick_second, eqb_passes}
use Rattle.octets.specs.Scan.{all_of}
use Rattle.octets.specs.laws.Scan.{all_weaker}
use Rattle.octets.specs.Class.{is_alpha, is_capital, is_small, is_digit, is_visible}
use Rattle.octets.specs.Words.{holds}
use Rattle.octets.specs.laws.Words.{all_without}
use Rattle.octets.specs.laws.Reading.{provided-some}
use Rattle.texts.specs.Uri.{is_scheme_char, is_outside, is_uri_char, in_uri, uri_from, is_uri, read_uri}

pub uri_read_back : (v : List ℕ) → is_uri v ≡ true → read_uri v ≡ Some v
uri_read_back v h = pick_yes (is_uri v) (Some v) None h

pub uri_kept : (s v : List ℕ) → read_uri s ≡ Some v → s ≡ v
uri_kept s v h = (provided-some (is_uri s) s v h).1

pub uri_accepted : (s v : List ℕ) → read_uri s ≡ Some v → is_uri v ≡ true
uri_accepted s v h = rw (← (uri_kept s v h)) (provided-some (is_uri s) s v h).0

-- a character that shows and is no double quote
abbrev is_plain : ℕ → Bool
is_plain b = pick (eqb b 34) false (is_visible b)

plain_between : (b : ℕ) → 35 ≤ b → b ≤ 126 → is_plain b ≡ true
unfolding pick
plain_between b l h = rw (ne_eqb b 34 (λ e. omega arith)) (within_yes 33 126 b (le-leb 33 b (omega arith)) (le-leb b 126 (omega arith)))

plain_within : (lo hi b : ℕ) → 35 ≤ lo → hi ≤ 126 → within lo hi b ≡ true → is_plain b ≡ true
plain_within lo hi b l h w = let p = within_range lo hi b w in plain_between b (omega arith) (omega arith)

plain_scheme : (b : ℕ) → is_scheme_char b ≡ true → is_plain b ≡ true
unfolding pick ◌and◌
plain_scheme b h =
    or_cases (is_alpha b) _ h
    (λ k. or_cases (is_capital b) (is_small b) k (plain_within 65 90 b (omega arith) (omega arith)) (plain_within 97 122 b (omega arith) (omega arith)))
    (λ k. or_cases (is_digit b) _ k (plain_within 48 57 b (omega arith) (omega arith))
    (λ k. or_cases (eqb b 43) _ k (eqb_passes is_plain 43 b refl) (λ k. or_cases (eqb b 45) (eqb b 46) k (eqb_passes is_plain 45 b refl) (eqb_passes is_plain 46 b refl))))

plain_char : (b : ℕ) → is_uri_char b ≡ true → is_plain b ≡ true
unfolding pick
plain_char b h = let p = pick_second (is_outside b) (is_visible b) h in rw (or_neither (eqb b 34) _ p.0).0 p.1

plain_in : (past : Bool) (b : ℕ) → in_uri past b ≡ true → is_plain b ≡ true
unfolding pick ◌and◌
plain_in true b h = plain_char b h
plain_in false b h = or_cases (eqb b 58) (is_scheme_char b) h (eqb_passes is_plain 58 b refl) (plain_scheme b)

plain_from : (s : List ℕ) (past : Bool) → uri_from past s ≡ true → all_of is_plain s ≡ true
unfolding uri_from all_of
plain_from [] past h = refl
plain_from (b ∷ s) past h =
    pick_yes (is_plain b) (all_of is_plain s) false (plain_in past b (and_both (in_uri past b) _ h).0) ∙ plain_from s (past or eqb b 58) (and_both (in_uri past b) _ h).1

uri_plain : (v : List ℕ) → is_uri v ≡ true → all_of is_plain v ≡ true
unfolding is_uri all_of
uri_plain [] h = refl
uri_plain (b ∷ s) h = pick_yes (is_plain b) (all_of is_plain s) false (plain_scheme b (or_left (is_alpha b) _ (and_both (is_alpha b) _ h).0)) ∙ plain_from s false (and_both (is_alpha b) _ h).1

plain_visible : (b : ℕ) → is_plain b ≡ true → is_visible b ≡ true
plain_visible b h = (pick_second (eqb b 34) (is_visible b) h).1

pub uri_visible : (v : List ℕ) → is_uri v ≡ true → all_of is_visible v ≡ true
uri_visible v h = all_weaker is_plain is_visible plain_visible v (uri_plain v h)

-- no double quote
pub uri_unquoted : (v : List ℕ) → is_uri v ≡ true → holds 34 v ≡ false
unfolding pick
uri_unquoted v h = all_without is_plain 34 refl v (uri_plain v h)
