-- A calendar that is read from jCal is valid (RFC 7265).
--     jcal_accepted    what is read is valid
--     jcal_again       and is read again from its own jCal, where that is within the input limit
use Rattle.std.specs.Prelude.{◌≡◌, refl, Bool, true, false, List, ℕ, ◌≤◌, leb, length, Option, None, Some}
use Rattle.std.proofs.lemmas.Bool.{false≢true}
use Rattle.std.proofs.Common.{arith}
use Rattle.octets.specs.Pick.{pick}
use Rattle.octets.specs.laws.Pick.{and_yes}
use Rattle.octets.specs.Reading.{and_then, is_read}
use Rattle.calendar.specs.Calendar.{Calendar}
use Rattle.calendar.specs.Levels.{levels}
use Rattle.calendar.specs.Refusal.{LENGTH, CHARACTER, JSON, Verdict, fine, refuse, accepted, answer, characters, limit}
use Rattle.calendar.specs.laws.Refusal.{refused_not}
use Rattle.utf8.specs.Utf8.{first_bad}
use Rattle.edition.specs.declared.Edition.{Edition}
use Rattle.validity.specs.ValidCalendar.{has_components, at_top, is_valid}
use Rattle.validity.proofs.laws.ValidCalendar.{valid_shallow}
use Rattle.xcal.proofs.laws.Accepted.{both_fine, test_fine}
use Rattle.json_text.specs.Bytes.{most_open}
use Rattle.json_text.specs.Check.{verdict}
use Rattle.json_text.specs.Tree.{Json, string, number, literal, array, object, Elements, no_elements, element, element_list, value_of}
use Rattle.json_text.specs.Kinds.{as_array, first_in}
use Rattle.jcal.specs.Components.{read_components, read_calendars, stream_in, is_stream, calendars_in}
use Rattle.jcal.specs.ReadJcal.{json, jcal_verdict, read_jcal}
use Rattle.jcal.specs.WriteJcal.{write_jcal}
use Rattle.jcal.proofs.laws.JcalBack.{jcal_back}
use Rattle.jcal.proofs.laws.Textual.{is_textual, are_textual, value_textual}
use Rattle.jcal.proofs.laws.ComponentsAccepted.{components_accepted}

-- ---- the stream

stream_textual : (v : Json) → is_textual v ≡ true → are_textual (stream_in v) ≡ true
unfolding is_textual are_textual
stream_textual (string p s) h = refl
stream_textual (number p s) h = refl
stream_textual (literal p s) h = refl
stream_textual (object p e ms) h = refl
stream_textual (array p e vs) h = h

first_there : (vs : Elements) → is_read (and_then (first_in (element_list vs)) as_array) ≡ true → has_components (read_components vs) ≡ true
unfolding and_then is_read element_list read_components
first_there no_elements h = absurd (false≢true h)
first_there (element v vs) h = refl

one_there : (v : Json) → has_components (read_components (element v no_elements)) ≡ true
unfolding read_components
one_there v = refl

one_textual : (v : Json) → is_textual v ≡ true → are_textual (element v no_elements) ≡ true
unfolding are_textual
one_textual v h = and_yes _ _ h refl

-- there is a calendar, and the strings are text
calendars : (v : Json) → is_textual v ≡ true → (are_textual (calendars_in v) ≡ true) × (has_components (read_components (calendars_in v)) ≡ true)
unfolding calendars_in pick
calendars v h = go (is_stream v) refl
  where
    go : (t : Bool) → is_stream v ≡ t → (are_textual (pick t (stream_in v) (element v no_elements)) ≡ true) × (has_components (read_components (pick t (stream_in v) (element v no_elements))) ≡ true)
    go true e = (stream_textual v h, first_there (stream_in v) e)
    go false e = (one_textual v h, one_there v)

-- ---- the text

none_bad : (o : Option ℕ) → characters o ≡ fine → o ≡ None
none_bad None h = refl
none_bad (Some p) h = refused_not CHARACTER p h

none_json : (c : Option ℕ) → json c ≡ fine → c ≡ None
none_json None h = refl
none_json (Some p) h = refused_not JSON p h

answered : (v : Verdict) (d c : Calendar) → answer v d ≡ accepted c → (v ≡ fine) × (d ≡ c)
answered fine d c h = (refl, cc)
answered (refuse r p) d c h = let z : ◌≡◌ {A = ℕ} 0 1 = cc in absurd (omega arith)

pub jcal_accepted : (ed : Edition) (s : List ℕ) (c : Calendar) → read_jcal ed s ≡ accepted c → is_valid ed c ≡ true
unfolding read_jcal jcal_verdict is_valid
jcal_accepted ed s c h =
    let v = value_of s in
    let a = answered (jcal_verdict ed s) (read_calendars (calendars_in v)) c h in
    let b = test_fine (leb (length s) limit) _ LENGTH 0 a.0 in
    let d = both_fine (characters (first_bad s)) _ b.1 in
    let e = both_fine (json (verdict most_open s)) _ d.1 in
    let k = calendars v (value_textual most_open s (none_bad (first_bad s) d.0) (none_json (verdict most_open s) e.0)) in
    let g = components_accepted ed (calendars_in v) at_top levels false k.0 e.1 in
    rw (← a.1, valid_shallow ed (read_components (calendars_in v)) levels at_top false g) (and_yes _ _ k.1 g)

pub jcal_again : (ed : Edition) (s : List ℕ) (c : Calendar) → read_jcal ed s ≡ accepted c → length (write_jcal c) ≤ limit → read_jcal ed (write_jcal c) ≡ accepted c
jcal_again ed s c h l = jcal_back ed c (jcal_accepted ed s c h) l
