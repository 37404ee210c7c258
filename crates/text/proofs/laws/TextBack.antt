-- The canonical text of a calendar is read back as that calendar.
--     text_written    the canonical text is the lines of the calendar, each folded
--     text_back       it is accepted, and states the calendar, where it is not over the limit and the work room is long enough
use Rattle.std.specs.Prelude.{◌≡◌, Bool, not, ℕ, ◌-◌, ◌≤◌, length, None}
use Rattle.std.proofs.Math.Path.{refl, sym, ap}
use Rattle.std.proofs.Common.{◌∙◌}
use Rattle.std.proofs.Math.Bool.{true, false}
use Rattle.std.proofs.lemmas.Bool.{false≢true}
use mathlib.Core.List.{List, [], ◌∷◌}
use borrow.Author.Tests.{le-leb, not-true}
use Rattle.octets.specs.Pick.{pick, ◌and◌, ◌or◌}
use Rattle.octets.specs.laws.Pick.{pick_no, and_yes, and_both}
use Rattle.octets.specs.Append.{◌⊕◌, joined}
use Rattle.octets.specs.laws.Append.{append_empty, append_none, append_regroup}
use Rattle.octets.specs.Words.{holds, none_holds}
use Rattle.octets.specs.Lists.{every}
use Rattle.octets.specs.laws.Lists.{every_both}
use Rattle.calendar.specs.Calendar.{Property, Components, no_more, component}
use Rattle.calendar.specs.Levels.{levels}
use Rattle.calendar.specs.Refusal.{fine, ◌otherwise◌, accepted, limit}
use Rattle.schema.specs.Components.{may_contain}
use Rattle.schema.specs.Counts.{method_for}
use Rattle.utf8.specs.Utf8.{bad_from, first_bad}
use Rattle.utf8.specs.laws.Utf8.{well_formed_good, good_append, ascii_first}
use Rattle.folding.specs.Unfold.{crlf, blank_at, unfolded}
use Rattle.folding.specs.Lines.{Line, lines}
use Rattle.folding.specs.Text.{folded_text, none_blank, whole_lines}
use Rattle.folding.specs.laws.Text.{ended, plain_text, text_unfolded, text_lines}
use Rattle.validity.specs.ValidCalendar.{is_valid_property, has_components, are_valid, at_top, is_valid}
use Rattle.validity.proofs.laws.ValidCalendar.{component_name, valid_component, valid_parts}
use Rattle.edition.specs.declared.Edition.{Edition}
use Rattle.text.specs.Nesting.{nesting}
use Rattle.text.specs.ReadText.{lines_verdict, kept_verdict, placed, text_verdict, read_calendar}
use Rattle.text.specs.WriteText.{property_line, property_lines, begin_line, end_line, write_calendar}
use Rattle.text.proofs.laws.TreeBack.{end_of, properties_before, lines_before, lines_of, tree_back}
use Rattle.text.proofs.laws.NestingBack.{nesting_back}
use Rattle.text.proofs.laws.WrittenLine.{is_good_line, begin_good, end_good, property_good}

-- five parts in a row, and what follows
pub regrouped : (a b c d e r : List ℕ) → (a ⊕ b ⊕ c ⊕ d ⊕ e) ⊕ r ≡ a ⊕ b ⊕ c ⊕ d ⊕ e ⊕ r
regrouped a b c d e r = rw (append_regroup, append_regroup, append_regroup, append_regroup)

module _ (ed : Edition) where
  -- ---- the lines, each folded

  properties_written : (ps : List Property) (r : List (List ℕ)) → property_lines ed ps ⊕ folded_text r ≡ folded_text (properties_before ed ps r)
  unfolding property_lines properties_before joined
  properties_written [] r = append_empty (folded_text r)
  properties_written (p ∷ ps) r = append_regroup (property_line ed p) (property_lines ed ps) (folded_text r) ∙ ap (λ (s : List ℕ). (property_line ed) p ⊕ s) (properties_written ps r)

  components_written : (c : Components) (r : List (List ℕ)) → write_calendar ed c ⊕ folded_text r ≡ folded_text (lines_before ed c r)
  unfolding write_calendar lines_before joined
  components_written no_more r = append_empty (folded_text r)
  components_written (component k ps inner next) r =
      regrouped (begin_line k) (property_lines ed ps) (write_calendar ed inner) (end_line k) (write_calendar ed next) (folded_text r)
      ∙ ap (λ (s : List ℕ). begin_line k ⊕ property_lines ed ps ⊕ write_calendar ed inner ⊕ end_line k ⊕ s) (components_written next r)
      ∙ ap (λ (s : List ℕ). begin_line k ⊕ property_lines ed ps ⊕ s) (components_written inner (end_of k ∷ (lines_before ed) next r))
      ∙ ap (λ (s : List ℕ). begin_line k ⊕ s) (properties_written ps (lines_before ed inner (end_of k ∷ (lines_before ed) next r)))

  pub text_written : (c : Components) → write_calendar ed c ≡ folded_text (lines_of ed c)
  unfolding joined
  text_written c = sym (append_none (write_calendar ed c)) ∙ components_written c []

  -- ---- the lines are good

  good_properties : (k : List ℕ) (ps : List Property) (r : List (List ℕ)) → every (is_valid_property ed k) ps ≡ true → every is_good_line r ≡ true → every is_good_line (properties_before ed ps r) ≡ true
  unfolding properties_before every
  good_properties k [] r h g = g
  good_properties k (p ∷ ps) r h g = let a = every_both (is_valid_property ed k) p ps h in and_yes _ _ (property_good ed k p a.0) (good_properties k ps r a.1 g)

  good_components : (c : Components) (l : ℕ) (may : List ℕ → Bool) (m : Bool) → are_valid ed l may m c ≡ true → (r : List (List ℕ)) → every is_good_line r ≡ true → every is_good_line (lines_before ed c r) ≡ true
  unfolding lines_before every
  good_components no_more l may m v r g = g
  good_components (component k ps inner next) l may m h r g =
      let v = valid_component ed l may m k ps inner next h in
      let n = component_name k v.kept in
      and_yes _ _ (begin_good k n.1)
      (good_properties k ps _ v.properties (good_components inner (l - 1) (may_contain k) (method_for k ps m) v.inside _ (and_yes _ _ (end_good k n.1) (good_components next l may m v.after r g))))

  -- what good lines are
  record Good (s : List ℕ) : Type 0 where
    return : holds 13 s ≡ false
    blank : blank_at s ≡ false
    good : first_bad s ≡ None

  good_line : (s : List ℕ) → is_good_line s ≡ true → Good s
  unfolding is_good_line
  good_line s h =
      let a = and_both (not (holds 13 s)) _ h in
      let b = and_both (not (blank_at s)) _ a.1 in
      record { return = not-true _ a.0; blank = not-true _ b.0; good = well_formed_good s b.1 }

  lines_no_return : (ls : List (List ℕ)) → every is_good_line ls ≡ true → none_holds 13 ls ≡ true
  unfolding none_holds
  lines_no_return [] h = refl
  lines_no_return (l ∷ ls) h = let a = every_both is_good_line l ls h in pick_no _ _ _ (good_line l a.0).return ∙ lines_no_return ls a.1

  lines_no_blank : (ls : List (List ℕ)) → every is_good_line ls ≡ true → none_blank ls ≡ true
  unfolding none_blank
  lines_no_blank [] h = refl
  lines_no_blank (l ∷ ls) h = let a = every_both is_good_line l ls h in pick_no _ _ _ (good_line l a.0).blank ∙ lines_no_blank ls a.1

  break_good : first_bad crlf ≡ None
  unfolding bad_from pick ◌and◌ ◌or◌
  break_good = ascii_first 13 0 (10 ∷ []) refl ∙ ascii_first 10 1 [] refl

  lines_good : (ls : List (List ℕ)) → every is_good_line ls ≡ true → first_bad (plain_text ls) ≡ None
  unfolding joined bad_from
  lines_good [] h = refl
  lines_good (l ∷ ls) h =
      let a = every_both is_good_line l ls h in
      good_append (ended l) (plain_text ls) (good_append l crlf (good_line l a.0).good break_good) (lines_good ls a.1)

  -- ---- the text

  not_empty : (c : Components) (e p : ℕ) → has_components c ≡ true → lines_verdict ed e (whole_lines p (lines_of ed c)) ≡ nesting ed e (whole_lines p (lines_of ed c)) []
  unfolding lines_verdict whole_lines lines_before
  not_empty no_more e p h = absurd (false≢true h)
  not_empty (component k ps inner next) e p h = refl

  kept_fine : (u : List ℕ) (ls : List Line) → first_bad u ≡ None → lines u ≡ ls → lines_verdict ed (length u) ls ≡ fine → kept_verdict ed u ≡ fine
  unfolding kept_verdict ◌otherwise◌
  kept_fine u ls b l h = rw (b, l) h

  verdict_fine : (s u : List ℕ) (room : ℕ) → length s ≤ limit → length s ≤ room → unfolded s ≡ u → kept_verdict ed u ≡ fine → text_verdict ed s room ≡ fine
  unfolding text_verdict placed pick
  verdict_fine s u room l r e h = rw (le-leb _ _ l, le-leb _ _ r, e, h)

  pub text_back : (c : Components) (room : ℕ) → is_valid ed c ≡ true → length (write_calendar ed c) ≤ limit → length (write_calendar ed c) ≤ room →
      read_calendar ed (write_calendar ed c) room ≡ accepted c
  unfolding read_calendar every
  text_back c room h l r =
      let n = valid_parts ed c h in
      let v = n.1 in
      let g : every is_good_line (lines_of ed c) ≡ true = good_components c levels at_top false v [] refl in
      let nr = lines_no_return (lines_of ed c) g in
      let u : unfolded (write_calendar ed c) ≡ plain_text (lines_of ed c) = ap unfolded (text_written c) ∙ text_unfolded (lines_of ed c) nr (lines_no_blank (lines_of ed c) g) in
      let w : lines (plain_text (lines_of ed c)) ≡ whole_lines 0 (lines_of ed c) = text_lines (lines_of ed c) 0 nr in
      let f : lines_verdict ed (length (plain_text (lines_of ed c))) (whole_lines 0 (lines_of ed c)) ≡ fine = not_empty c _ 0 n.0 ∙ nesting_back ed _ c 0 v in
      let t : text_verdict ed (write_calendar ed c) room ≡ fine = verdict_fine (write_calendar ed c) (plain_text (lines_of ed c)) room l r u (kept_fine (plain_text (lines_of ed c)) (whole_lines 0 (lines_of ed c)) (lines_good (lines_of ed c) g) w f) in
      rw (t, u, w, tree_back ed c 0 v)
