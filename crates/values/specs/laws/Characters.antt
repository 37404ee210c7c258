-- Laws of what specs/Characters.antt defines.
--     free_or_shown    a value has free characters, or is written in characters that show
--     value_one_line   no value is written with LF;   value_no_return: with CR only where its free characters have one
use Rattle.std.specs.Prelude.{◌≡◌, refl, true, false, List, [], ℕ, Option}
use Rattle.octets.specs.Pick.{◌and◌}
use Rattle.octets.specs.laws.Pick.{and_both}
use Rattle.octets.specs.Scan.{all_of}
use Rattle.octets.specs.Class.{is_visible}
use Rattle.octets.specs.Words.{holds}
use Rattle.octets.specs.laws.Words.{all_without, none_split}
use Rattle.calendar.specs.Calendar.{ical, Value, binary, boolean, cal_address, date, date_time, duration, float, integer, period_explicit, period_start, recur, text, time, uri, utc_offset, unknown, geo, request_status}
use Rattle.times.specs.laws.Date.{date_visible}
use Rattle.times.specs.laws.Time.{time_visible}
use Rattle.times.specs.laws.DateTime.{date_time_visible}
use Rattle.times.specs.laws.Duration.{duration_visible}
use Rattle.times.specs.laws.UtcOffset.{utc_offset_visible}
use Rattle.times.specs.laws.Period.{period_explicit_visible, period_start_visible}
use Rattle.numbers.specs.laws.Integer.{integer_visible}
use Rattle.numbers.specs.laws.FloatLaws.{float_visible}
use Rattle.numbers.specs.laws.Boolean.{boolean_visible}
use Rattle.numbers.specs.laws.Geo.{geo_visible}
use Rattle.texts.specs.laws.Escaped.{text_one_line, text_no_return}
use Rattle.texts.specs.laws.Uri.{uri_visible}
use Rattle.texts.specs.laws.Binary.{binary_visible}
use Rattle.texts.specs.Unknown.{is_unknown}
use Rattle.texts.specs.laws.Unknown.{unknown_one_line}
use Rattle.texts.specs.laws.RequestStatus.{request_status_one_line, request_status_no_return}
use Rattle.recur.specs.laws.RuleLaws.{rule_visible}
use Rattle.values.specs.WriteValue.{write_value}
use Rattle.values.specs.ReadBack.{is_value}
use Rattle.values.specs.Characters.{free_in, is_value_text}

pub free_or_shown : (P : Value → Type 0) → ((v : Value) → free_in v ≡ [] → all_of is_visible (write_value v) ≡ true → P v) → ((s : List ℕ) → P (text s)) → ((s : List ℕ) → is_unknown s ≡ true → P (unknown s)) →
    ((c d : List ℕ) (x : Option (List ℕ)) → P (request_status c d x)) → (v : Value) → is_value v ≡ true → P v
unfolding write_value
free_or_shown P shown t u r (binary s) h = shown (binary s) refl (binary_visible s h)
free_or_shown P shown t u r (boolean b) h = shown (boolean b) refl (boolean_visible ical b)
free_or_shown P shown t u r (cal_address s) h = shown (cal_address s) refl (uri_visible s h)
free_or_shown P shown t u r (date s) h = shown (date s) refl (date_visible s h)
free_or_shown P shown t u r (date_time s) h = shown (date_time s) refl (date_time_visible s h)
free_or_shown P shown t u r (duration s) h = shown (duration s) refl (duration_visible s h)
free_or_shown P shown t u r (float d) h = shown (float d) refl (float_visible d h)
free_or_shown P shown t u r (integer w) h = shown (integer w) refl (integer_visible w)
free_or_shown P shown t u r (period_explicit s e) h = let p = and_both _ _ h in shown (period_explicit s e) refl (period_explicit_visible s e p.0 p.1)
free_or_shown P shown t u r (period_start s d) h = let p = and_both _ _ h in shown (period_start s d) refl (period_start_visible s d p.0 p.1)
free_or_shown P shown t u r (recur q) h = shown (recur q) refl (rule_visible q h)
free_or_shown P shown t u r (text s) h = t s
free_or_shown P shown t u r (time s) h = shown (time s) refl (time_visible s h)
free_or_shown P shown t u r (uri s) h = shown (uri s) refl (uri_visible s h)
free_or_shown P shown t u r (utc_offset s) h = shown (utc_offset s) refl (utc_offset_visible s h)
free_or_shown P shown t u r (unknown s) h = u s h
free_or_shown P shown t u r (geo la lo) h = let p = and_both _ _ h in shown (geo la lo) refl (geo_visible la lo p.0 p.1)
free_or_shown P shown t u r (request_status c d x) h = r c d x

pub value_one_line : (v : Value) → is_value v ≡ true → holds 10 (write_value v) ≡ false
unfolding write_value ◌and◌
value_one_line v h =
    free_or_shown (λ v. holds 10 (write_value v) ≡ false) (λ v e k. all_without is_visible 10 refl (write_value v) k) text_one_line unknown_one_line request_status_one_line v h

pub value_no_return : (v : Value) → is_value v ≡ true → is_value_text v ≡ true → holds 13 (write_value v) ≡ false
unfolding write_value ◌and◌
value_no_return v h t =
    free_or_shown (λ v. is_value_text v ≡ true → holds 13 (write_value v) ≡ false)
    (λ v e k t. all_without is_visible 13 refl (write_value v) k)
    (λ s t. text_no_return s (none_split 13 s [] t).0)
    (λ s k t. (none_split 13 s [] t).0)
    (λ c d x t. request_status_no_return c d x t)
    v h t
