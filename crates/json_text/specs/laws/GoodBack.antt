-- The bytes of a value that is written are well formed.
--     written_good
use Rattle.std.specs.Prelude.{◌≡◌, refl, true, List, [], ◌∷◌, ℕ, zero, suc, eqb, None}
use Rattle.std.proofs.lemmas.Bool.{false≢true}
use Rattle.std.proofs.Common.{eqb-true}
use Rattle.octets.specs.Ascii.{ascii}
use Rattle.octets.specs.Pick.{pick, ◌and◌}
use Rattle.octets.specs.laws.Pick.{and_both, or_cases}
use Rattle.octets.specs.Append.{◌⊕◌}
use Rattle.octets.specs.Scan.{all_of}
use Rattle.octets.specs.laws.Scan.{all_weaker}
use Rattle.octets.specs.Class.{is_digit, is_visible}
use Rattle.octets.specs.laws.Class.{digit_visible}
use Rattle.octets.specs.Words.{each_after, joined_by}
use Rattle.octets.specs.laws.Lists.{word_passes}
use Rattle.octets.specs.Lists.{every}
use Rattle.utf8.specs.Utf8.{first_bad, bad_from}
use Rattle.utf8.specs.laws.Utf8.{good_append, visible_good}
use Rattle.json_text.specs.Tree.{Json, string, number, literal, array, object, Elements, no_elements, element, Members, no_members, member}
use Rattle.json_text.specs.Write.{escaped, quoted, member_of}
use Rattle.json_text.specs.Written.{written, written_elements, written_members, is_text, literals, is_writable, are_writable, members_writable}
use Rattle.json_text.specs.laws.Text.{escaped_good}
use Rattle.json_text.specs.laws.Numbers.{is_number_byte, number_bytes}

between : (w s e : List ℕ) → all_of is_visible w ≡ true → first_bad s ≡ None → all_of is_visible e ≡ true → first_bad (w ⊕ s ⊕ e) ≡ None
between w s e a h b = good_append w (s ⊕ e) (visible_good w a) (good_append s e h (visible_good e b))

quoted_good : (s : List ℕ) → is_text s ≡ true → first_bad (quoted s) ≡ None
unfolding all_of pick ◌and◌
quoted_good s h = between (ascii "\"") (escaped s) (ascii "\"") refl (escaped_good s h) refl

number_visible : (b : ℕ) → is_number_byte b ≡ true → is_visible b ≡ true
unfolding ◌and◌
number_visible b h =
    or_cases (is_digit b) _ h (λ e. digit_visible b e)
    (λ h. or_cases (eqb b 45) _ h (λ e. rw (eqb-true b 45 e)) (λ e. rw (eqb-true b 46 e)))

literals_visible : every (all_of is_visible) literals ≡ true
unfolding every all_of pick ◌and◌
literals_visible = refl

comma_good : (s : List ℕ) → first_bad s ≡ None → first_bad (44 ∷ s) ≡ None
unfolding all_of pick ◌and◌ ◌⊕◌
comma_good s h = good_append (44 ∷ []) s (visible_good (44 ∷ []) refl) h

member_good : (n w : List ℕ) → is_text n ≡ true → first_bad w ≡ None → first_bad (member_of n w) ≡ None
unfolding all_of pick ◌and◌
member_good n w h k = good_append (quoted n) (ascii ":" ⊕ w) (quoted_good n h) (good_append (ascii ":") w (visible_good (ascii ":") refl) k)

mutual
  unfolding written written_elements written_members is_writable are_writable members_writable joined_by each_after all_of pick ◌and◌ bad_from

  pub written_good : (v : Json) (d : ℕ) → is_writable v d ≡ true → first_bad (written v) ≡ None
  written_good (string p s) d h = quoted_good s h
  written_good (number p s) d h = visible_good s (all_weaker is_number_byte is_visible number_visible s (number_bytes s h))
  written_good (literal p s) d h = visible_good s (word_passes (all_of is_visible) literals s literals_visible h)
  written_good (array p e vs) zero h = absurd (false≢true h)
  written_good (array p e vs) (suc d) h = between (ascii "[") (joined_by 44 (written_elements vs)) (ascii "]") refl (elements_good vs d h) refl
  written_good (object p e ms) zero h = absurd (false≢true h)
  written_good (object p e ms) (suc d) h = between (ascii "{") (joined_by 44 (written_members ms)) (ascii "}") refl (members_good ms d h) refl

  elements_good : (vs : Elements) (d : ℕ) → are_writable vs d ≡ true → first_bad (joined_by 44 (written_elements vs)) ≡ None
  elements_good no_elements d h = refl
  elements_good (element v vs) d h =
      let a = and_both (is_writable v d) _ h in
      good_append (written v) (each_after 44 (written_elements vs)) (written_good v d a.0) (more_good vs d a.1)

  more_good : (vs : Elements) (d : ℕ) → are_writable vs d ≡ true → first_bad (each_after 44 (written_elements vs)) ≡ None
  more_good no_elements d h = refl
  more_good (element v vs) d h =
      let a = and_both (is_writable v d) _ h in
      comma_good (written v ⊕ each_after 44 (written_elements vs)) (good_append (written v) (each_after 44 (written_elements vs)) (written_good v d a.0) (more_good vs d a.1))

  members_good : (ms : Members) (d : ℕ) → members_writable ms d ≡ true → first_bad (joined_by 44 (written_members ms)) ≡ None
  members_good no_members d h = refl
  members_good (member n v ms) d h =
      let a = and_both (is_text n) _ h in
      let b = and_both (is_writable v d) _ a.1 in
      good_append (member_of n (written v)) (each_after 44 (written_members ms)) (member_good n (written v) a.0 (written_good v d b.0)) (more_members_good ms d b.1)

  more_members_good : (ms : Members) (d : ℕ) → members_writable ms d ≡ true → first_bad (each_after 44 (written_members ms)) ≡ None
  more_members_good no_members d h = refl
  more_members_good (member n v ms) d h =
      let a = and_both (is_text n) _ h in
      let b = and_both (is_writable v d) _ a.1 in
      comma_good (member_of n (written v) ⊕ each_after 44 (written_members ms))
      (good_append (member_of n (written v)) (each_after 44 (written_members ms)) (member_good n (written v) a.0 (written_good v d b.0)) (more_members_good ms d b.1))
