-- A valid calendar that is written as jCal is read back (RFC 7265).
--     jcal_back        within the input limit, in any edition
--     jcal_injective   equal bytes, however many, are those of equal calendars
use Rattle.std.specs.Prelude.{◌≡◌, true, false, List, ℕ, ◌≤◌, length}
use Rattle.std.proofs.Common.{sym, ap, subst, ◌∙◌, le-leb}
use Rattle.octets.specs.Pick.{pick}
use Rattle.calendar.specs.Calendar.{Components}
use Rattle.calendar.specs.Levels.{levels}
use Rattle.calendar.specs.Refusal.{fine, ◌otherwise◌, accepted, limit}
use Rattle.edition.specs.declared.Edition.{Edition}
use Rattle.validity.specs.ValidCalendar.{at_top, is_valid}
use Rattle.validity.proofs.laws.ValidCalendar.{valid_parts}
use Rattle.json_text.specs.Bytes.{most_open}
use Rattle.json_text.specs.Tree.{Json, value_of}
use Rattle.json_text.specs.Written.{written, bare, is_writable}
use Rattle.json_text.specs.laws.CheckBack.{written_fine}
use Rattle.json_text.specs.laws.TreeBack.{written_back}
use Rattle.json_text.specs.laws.GoodBack.{written_good}
use Rattle.jcal.specs.Components.{components_verdict, read_calendars, calendars_in}
use Rattle.jcal.specs.ReadJcal.{jcal_verdict, read_jcal}
use Rattle.jcal.specs.WriteJcal.{write_jcal}
use Rattle.jcal.proofs.laws.Trees.{calendar_tree, calendar_written}
use Rattle.jcal.proofs.laws.ComponentsBack.{tree_fine, tree_back}
use Rattle.jcal.proofs.laws.PlacesComponents.{is_fine, fine_is, verdict_bare, read_bare}
use Rattle.jcal.proofs.laws.Writable.{calendar_writable}

module _ (ed : Edition) (c : Components) (valid : is_valid ed c ≡ true) where
  writable : is_writable (calendar_tree c) most_open ≡ true
  writable = calendar_writable ed c (valid_parts ed c valid).1

  -- the value that is read has other places than the one that is written
  same_value : bare (value_of (written (calendar_tree c))) ≡ bare (calendar_tree c)
  same_value = written_back (calendar_tree c) most_open writable

  value_fine : components_verdict ed (calendars_in (value_of (written (calendar_tree c)))) at_top levels false ≡ fine
  value_fine =
      fine_is _
      (sym (verdict_bare ed (value_of (written (calendar_tree c))) at_top levels false)
      ∙ ap (λ (v : Json). is_fine (components_verdict ed (calendars_in v) at_top levels false)) same_value
      ∙ verdict_bare ed (calendar_tree c) at_top levels false
      ∙ ap is_fine (tree_fine ed c valid))

  value_back : read_calendars (calendars_in (value_of (written (calendar_tree c)))) ≡ c
  value_back = sym (read_bare (value_of (written (calendar_tree c)))) ∙ ap (λ (v : Json). read_calendars (calendars_in v)) same_value ∙ read_bare (calendar_tree c) ∙ tree_back ed c valid

  tree_read : length (written (calendar_tree c)) ≤ limit → read_jcal ed (written (calendar_tree c)) ≡ accepted c
  unfolding read_jcal jcal_verdict pick ◌otherwise◌
  tree_read l = rw (le-leb _ _ l, written_good (calendar_tree c) most_open writable, written_fine most_open (calendar_tree c) writable, value_fine, value_back)

pub jcal_back : (ed : Edition) (c : Components) → is_valid ed c ≡ true → length (write_jcal c) ≤ limit → read_jcal ed (write_jcal c) ≡ accepted c
jcal_back ed c h l = subst (λ (s : List ℕ). length s ≤ limit → read_jcal ed s ≡ accepted c) (calendar_written c) (tree_read ed c h) l

-- ---- equal bytes

-- the calendar that the bytes of jCal state, of any length
jcal_states : (ed : Edition) (c : Components) → is_valid ed c ≡ true → read_calendars (calendars_in (value_of (write_jcal c))) ≡ c
jcal_states ed c h = subst (λ (s : List ℕ). read_calendars (calendars_in (value_of s)) ≡ c) (calendar_written c) (value_back ed c h)

pub jcal_injective : (ed : Edition) (c d : Components) → is_valid ed c ≡ true → is_valid ed d ≡ true → write_jcal c ≡ write_jcal d → c ≡ d
jcal_injective ed c d h k e = sym (jcal_states ed c h) ∙ ap (λ (s : List ℕ). read_calendars (calendars_in (value_of s))) e ∙ jcal_states ed d k
