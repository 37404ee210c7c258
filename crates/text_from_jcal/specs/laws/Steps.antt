-- Laws of what specs/Steps.antt defines.
use Rattle.std.specs.Prelude.{◌≡◌, refl, List, ℕ, ◌*◌, ◌≤◌, ◌<◌, length, ⊤, Option, None, Some, Result, Ok, Err}
use Rattle.std.proofs.Math.Path.{sym}
use Rattle.std.proofs.Common.{ap, subst, ◌∙◌}
use Rattle.std.proofs.Math.Bool.{true, false}
use Rattle.std.proofs.Math.Dec.{leb}
use borrow.Author.Tests.{le-leb, lt-leb}
use Rattle.octets.specs.Pick.{pick}
use Rattle.calendar.specs.Calendar.{Components}
use Rattle.calendar.specs.Levels.{levels}
use Rattle.calendar.specs.Refusal.{Verdict, characters, fine, answer, ◌otherwise◌}
use Rattle.utf8.specs.Utf8.{first_bad}
use Rattle.validity.specs.ValidCalendar.{at_top}
use Rattle.text.specs.WriteText.{write_calendar}
use Rattle.json_text.specs.Bytes.{most_open}
use Rattle.json_text.specs.Check.{verdict}
use Rattle.json_text.specs.Tree.{value_of}
use Rattle.jcal.specs.Components.{components_verdict, read_calendars, calendars_in}
use Rattle.jcal.specs.ReadJcal.{json, jcal_verdict, read_jcal}
use Rattle.refusals.specs.Fault.{judged_as}
use Rattle.refusals.specs.declared.Fault.{Fault}
use Rattle.refusals.specs.declared.Refusal.TheVariants.{Length, Character, Json}
use Rattle.refusals.specs.declared.Refusal.TheVariants.{Edition as EditionRefused}
use Rattle.calls.specs.Conversion.{converted, outcome, contents}
use Rattle.calls.specs.Answered.{outcome_of, answer_of, Done}
use Rattle.calls.specs.laws.Answered.{done_fault}
use Rattle.calls.specs.declared.Answer.{Answer}
use Rattle.calls.specs.declared.Answer.TheVariants.{Refused}
use Rattle.calls_jcal.specs.JcalToText.{jcal_to_text, jcal_to_text_outcome, jcal_to_text_output}
use Rattle.edition.specs.Edition.{edition_of}
use Rattle.edition.specs.declared.Edition.{Edition}
use Rattle.lengths_jcal_text.specs.Fitting.{fits}
use Rattle.lengths_jcal_text.specs.laws.Streams.{text_bound, lines_fit}
use Rattle.text_from_jcal.specs.Steps.{jcal_gives}

-- the contract of the call: all that it answers, and leaves in the output
abbrev pub Converts : List ℕ → List ℕ → List ℕ → ℕ → Answer → Type 0
Converts s d d' edition r = (outcome_of r ≡ jcal_to_text_outcome s d edition) × (d' ≡ jcal_to_text_output s d edition)

-- the verdict on the calendars
abbrev pub judged_in : Edition → List ℕ → Verdict
judged_in ed s = components_verdict ed (calendars_in (value_of s)) at_top levels false

module _ (s d : List ℕ) (edition : ℕ) where
  -- whatever the edition
  pub too_long : 65535 < length s → Converts s d d edition (Refused Length 0)
  unfolding jcal_to_text read_jcal jcal_verdict outcome contents pick
  too_long h = go (edition_of edition)
    where
      go : (o : Option Edition) → (outcome_of (Refused Length 0) ≡ outcome (jcal_to_text o s) (length d)) × (d ≡ contents (jcal_to_text o s) d)
      go (Some ed) = let e : leb (length s) 65535 ≡ false = lt-leb (length s) 65535 h in (rw e, rw e)
      go None = let e : leb (length s) 65535 ≡ false = lt-leb (length s) 65535 h in (rw e, rw e)

  pub no_edition : length s ≤ 65535 → None ≡ edition_of edition → Converts s d d edition (Refused EditionRefused 0)
  unfolding jcal_to_text outcome contents pick
  no_edition h k = let e : leb (length s) 65535 ≡ true = le-leb (length s) 65535 h in (rw (← k, e), rw (← k, e))

  pub in_edition : {ed : Edition} {e : List ℕ} {r : Answer} → length s ≤ 65535 → Some ed ≡ edition_of edition →
      Done (jcal_gives ed s (characters (first_bad s) otherwise json (verdict most_open s) otherwise judged_in ed s)) d e r → Converts s d e edition r
  unfolding jcal_to_text read_jcal jcal_verdict pick
  in_edition h k g = let e : leb (length s) 65535 ≡ true = le-leb (length s) 65535 h in (g.answer ∙ rw (← k, e), g.left ∙ rw (← k, e))

-- a room of the same length
pub fits_again : (ed : Edition) (c : Components) (m n : ℕ) → m ≡ n → fits ed n c ≡ true → fits ed m c ≡ true
fits_again ed c m n e h = subst (λ (k : ℕ). fits ed k c ≡ true) (sym e) h

module _ (ed : Edition) where
  module _ (s d : List ℕ) where
    -- the characters
    pub bad_character : {p : ℕ} → first_bad s ≡ Some p → Done (jcal_gives ed s (characters (first_bad s) otherwise json (verdict most_open s) otherwise judged_in ed s)) d d (Refused Character p)
    unfolding ◌otherwise◌
    bad_character k = rw k (done_fault d refl)

    pub good_characters : {e : List ℕ} {r : Answer} → first_bad s ≡ None → Done (jcal_gives ed s (json (verdict most_open s) otherwise judged_in ed s)) d e r →
        Done (jcal_gives ed s (characters (first_bad s) otherwise json (verdict most_open s) otherwise judged_in ed s)) d e r
    unfolding ◌otherwise◌
    good_characters k g = rw k g

    -- JSON
    pub json_refused : {c : Option ℕ} {p : ℕ} → c ≡ verdict most_open s → c ≡ Some p → Done (jcal_gives ed s (json (verdict most_open s) otherwise judged_in ed s)) d d (Refused Json p)
    unfolding ◌otherwise◌
    json_refused e h = let z : verdict most_open s ≡ Some _ = sym e ∙ h in rw z (done_fault d refl)

    pub json_fine : {c : Option ℕ} {e : List ℕ} {r : Answer} → c ≡ verdict most_open s → c ≡ None → Done (jcal_gives ed s (judged_in ed s)) d e r →
        Done (jcal_gives ed s (json (verdict most_open s) otherwise judged_in ed s)) d e r
    unfolding ◌otherwise◌
    json_fine q h g = let z : verdict most_open s ≡ None = sym q ∙ h in rw z g

    -- the calendars of a text that is JSON
    module _ {j : Result ⊤ Fault} (v : judged_in ed s ≡ judged_as j) where
      pub calendars_refused : (f : Fault) {r : Answer} → j ≡ Err f → r ≡ answer_of f → Done (jcal_gives ed s (judged_in ed s)) d d r
      calendars_refused q e g = rw (v, e, g) (done_fault d refl)

      pub calendars_fine : {e : List ℕ} {r : Answer} → j ≡ Ok tt → Done (converted (write_calendar ed) (answer fine (read_calendars (calendars_in (value_of s))))) d e r → Done (jcal_gives ed s (judged_in ed s)) d e r
      calendars_fine e g = rw (v, e) g

  pub calendars_bound : (s : List ℕ) → verdict most_open s ≡ None → {j : Result ⊤ Fault} → judged_in ed s ≡ judged_as j → j ≡ Ok tt → length (write_calendar ed (read_calendars (calendars_in (value_of s)))) ≤ 6 * length s
  calendars_bound s h v e = text_bound ed s h (v ∙ ap judged_as e)

  pub calendars_fit : (s : List ℕ) → length s ≤ 65535 → verdict most_open s ≡ None → fits ed 262144 (read_calendars (calendars_in (value_of s))) ≡ true
  calendars_fit s l h = lines_fit ed s h l
