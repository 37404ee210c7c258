-- Laws of what specs/Binary.antt defines.
--     binary_read_back, binary_kept, binary_accepted, binary_visible
use Rattle.std.specs.Prelude.{◌≡◌, refl, Bool, true, false, List, [], ◌∷◌, ℕ, eqb, ltb, None, Some}
use Rattle.std.proofs.Common.{◌∙◌, arith}
use Rattle.octets.specs.Pick.{pick, ◌and◌}
use Rattle.octets.specs.laws.Pick.{pick_yes, and_both, or_cases, within_wider, eqb_passes}
use Rattle.octets.specs.Scan.{all_of}
use Rattle.octets.specs.laws.Scan.{all_split}
use Rattle.octets.specs.Class.{is_alpha, is_capital, is_small, is_digit, is_visible}
use Rattle.octets.specs.laws.Class.{visible_no_space}
use Rattle.octets.specs.laws.Reading.{provided-some}
use Rattle.calendar.specs.Calendar.{Format, ical, xcal}
use Rattle.texts.specs.Binary.{is_base64_char, pad_fits, in_group, next_place, binary_from, is_binary, without_space, binary_chars, read_binary}

visible_base64 : (b : ℕ) → is_base64_char b ≡ true → is_visible b ≡ true
unfolding ◌and◌
visible_base64 b h =
    or_cases (is_alpha b) _ h
    (λ k. or_cases (is_capital b) (is_small b) k (within_wider 65 90 33 126 b (omega arith) (omega arith)) (within_wider 97 122 33 126 b (omega arith) (omega arith)))
    (λ k. or_cases (is_digit b) _ k (within_wider 48 57 33 126 b (omega arith) (omega arith))
    (λ k. or_cases (eqb b 43) (eqb b 47) k (eqb_passes is_visible 43 b refl) (eqb_passes is_visible 47 b refl)))

visible_in : (n last b : ℕ) → in_group n last b ≡ true → is_visible b ≡ true
unfolding pick ◌and◌
visible_in n last b h = go (eqb b 61) refl h
  where
    go : (t : Bool) → eqb b 61 ≡ t → pick t (pad_fits n last) (is_base64_char b and ltb n 4) ≡ true → is_visible b ≡ true
    go true e k = eqb_passes is_visible 61 b refl e
    go false e k = visible_base64 b (and_both (is_base64_char b) _ k).0

visible_from : (s : List ℕ) (n last : ℕ) → binary_from n last s ≡ true → all_of is_visible s ≡ true
unfolding binary_from all_of
visible_from [] n last h = refl
visible_from (b ∷ s) n last h =
    pick_yes (is_visible b) (all_of is_visible s) false (visible_in n last b (and_both (in_group n last b) _ h).0)
    ∙ visible_from s (next_place n b) b (and_both (in_group n last b) _ h).1

pub binary_visible : (v : List ℕ) → is_binary v ≡ true → all_of is_visible v ≡ true
binary_visible v h = visible_from v 0 0 h

-- where nothing is white space nothing is dropped
pub visible_stays : (s : List ℕ) → all_of is_visible s ≡ true → without_space s ≡ s
unfolding without_space all_of pick
visible_stays [] h = refl
visible_stays (b ∷ s) h = let q = all_split is_visible b s h in rw (visible_no_space b q.0, visible_stays s q.1)

chars_stay : (f : Format) (v : List ℕ) → is_binary v ≡ true → binary_chars f v ≡ v
chars_stay ical v h = refl
chars_stay xcal v h = visible_stays v (binary_visible v h)

pub binary_read_back : (f : Format) (v : List ℕ) → is_binary v ≡ true → read_binary f v ≡ Some v
binary_read_back f v h = rw (chars_stay f v h) (pick_yes (is_binary v) (Some v) None h)

pub binary_kept : (f : Format) (s v : List ℕ) → read_binary f s ≡ Some v → binary_chars f s ≡ v
binary_kept f s v h = (provided-some (is_binary (binary_chars f s)) (binary_chars f s) v h).1

pub binary_accepted : (f : Format) (s v : List ℕ) → read_binary f s ≡ Some v → is_binary v ≡ true
binary_accepted f s v h = rw (← (binary_kept f s v h)) (provided-some (is_binary (binary_chars f s)) (binary_chars f s) v h).0
