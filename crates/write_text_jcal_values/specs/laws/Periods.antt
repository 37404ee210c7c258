-- Laws of PERIOD from its array.
--     start_put, end_span, end_moment, finish_put, period_put    from what was put
use Rattle.std.specs.Prelude.{◌≡◌, refl, Bool, true, List, [], ◌∷◌, ℕ, suc, Option, None, Some, option_map}
use Rattle.std.proofs.Common.{sym, ap, subst, ◌∙◌}
use Rattle.octets.specs.Ascii.{ascii}
use Rattle.octets.specs.Append.{◌⊕◌}
use Rattle.octets.specs.Reading.{and_then, read_or, or_nothing}
use Rattle.octets.specs.laws.Reading.{none-some, and_then-some}
use Rattle.calendar.specs.Calendar.{ical, xcal, Value, period_start, period_explicit}
use Rattle.sink.specs.Sink.{Put}
use Rattle.sink.specs.laws.Sink.{◌▷◌}
use Rattle.source.specs.Source.{rest}
use Rattle.times.specs.DateTime.{read_date_time, write_date_time}
use Rattle.times.specs.Duration.{read_duration, write_duration}
use Rattle.times.specs.DurationAt.{span_of}
use Rattle.times.specs.Period.{write_period}
use Rattle.times.specs.declared.duration.Duration.{Duration}
use Rattle.recur.specs.Item.{or_other}
use Rattle.values.specs.WriteValue.{write_value}
use Rattle.json_text.specs.Tree.{Json, Elements, no_elements, element, element_list}
use Rattle.json_text.specs.Kinds.{as_string}
use Rattle.jcal.specs.Values.{period_from, read_period}
use Rattle.read_json.specs.TreeAt.{elements_at}
use Rattle.write_text_jcal_values.specs.Elements.{list_at, without, characters_in}
use Rattle.write_text_jcal_values.specs.Periods.{end_text}

moment_text : (o : Option (List ℕ)) → or_nothing (write_date_time ical) o ≡ read_or [] o
unfolding write_date_time read_or
moment_text None = refl
moment_text (Some v) = refl

pub start_put : (s : List ℕ) (inside c : ℕ) → rest 3 s c ≡ characters_in (elements_at s inside) → {d e : List ℕ} {o r : ℕ} →
    Put d e o r (or_nothing (write_date_time ical) (read_date_time xcal (rest 3 s c))) → Put d e o r (or_nothing (write_date_time ical) (read_date_time xcal (characters_in (elements_at s inside))))
start_put s inside c j {d} {e} {o} {r} p = subst (λ (l : List ℕ). Put d e o r (or_nothing (write_date_time ical) (read_date_time xcal l))) j p

-- ---- the end

module _ {d e : List ℕ} {o r : ℕ} (s : List ℕ) (c : ℕ) {x : Option Duration} (q : read_duration xcal (rest 3 s c) ≡ span_of true 3 s x) where
  pub end_span : {y : Duration} → x ≡ Some y → Put d e o r (or_nothing (write_duration ical) (read_duration xcal (rest 3 s c))) → Put d e o r (end_text (rest 3 s c))
  unfolding write_duration read_or
  end_span h p = rw (q, h) (rw (q, h) at p)

  pub end_moment : x ≡ None → Put d e o r (or_nothing (write_date_time ical) (read_date_time xcal (rest 3 s c))) → Put d e o r (end_text (rest 3 s c))
  end_moment h p = rw (q, h) (subst (Put d e o r) (moment_text (read_date_time xcal (rest 3 s c))) p)

pub finish_put : (s : List ℕ) (inside second c : ℕ) → elements_at s second ≡ without 1 (elements_at s inside) → rest 3 s c ≡ characters_in (elements_at s second) → {d e : List ℕ} {o r : ℕ} →
    Put d e o r (end_text (rest 3 s c)) → Put d e o r (end_text (characters_in (without 1 (elements_at s inside))))
finish_put s inside second c i j {d} {e} {o} {r} p = subst (λ (l : List ℕ). Put d e o r (end_text l)) (j ∙ ap (λ (es : Elements). characters_in es) i) p

-- ---- the whole

from_written : (m l : List ℕ) (v : Value) → period_from m l ≡ Some v → write_value v ≡ m ⊕ ascii "/" ⊕ end_text l
unfolding write_value write_period read_or ◌⊕◌
from_written m l v h = go (read_duration xcal l) (read_date_time xcal l) h
  where
    go : (a b : Option (List ℕ)) → or_other (option_map (period_start m) a) (option_map (period_explicit m) b) ≡ Some v → write_value v ≡ m ⊕ ascii "/" ⊕ read_or [] (or_other a b)
    go (Some x) b k = let z : period_start m x ≡ v = cc in rw (← z)
    go None (Some x) k = let z : period_explicit m x ≡ v = cc in rw (← z)
    go None None k = none-some k

two_written : (a b : Json) (v : Value) (x m y : List ℕ) → as_string a ≡ Some x → read_date_time xcal x ≡ Some m → as_string b ≡ Some y → period_from m y ≡ Some v →
    write_value v ≡ or_nothing (write_date_time ical) (read_date_time xcal (read_or [] (as_string a))) ⊕ ascii "/" ⊕ end_text (read_or [] (as_string b))
unfolding read_or
two_written a b v x m y e f g h = rw (moment_text (read_date_time xcal (read_or [] (as_string a))), e, f, g) (from_written m y v h)

period_written : (es : Elements) (v : Value) → read_period (element_list es) ≡ Some v →
    write_value v ≡ or_nothing (write_date_time ical) (read_date_time xcal (characters_in es)) ⊕ ascii "/" ⊕ end_text (characters_in (without 1 es))
unfolding element_list without
period_written no_elements v h = none-some h
period_written (element a no_elements) v h = none-some h
period_written (element a (element b no_elements)) v h =
    let e = and_then-some (and_then (as_string a) (read_date_time xcal)) (λ m. and_then (as_string b) (period_from m)) v h in
    let f = and_then-some (as_string a) (read_date_time xcal) e.0 e.1 in
    let g = and_then-some (as_string b) (period_from e.0) v e.2 in
    two_written a b v f.0 e.0 g.0 f.1 f.2 g.1 g.2
period_written (element a (element b (element x xs))) v h = none-some h

pub period_put : (s : List ℕ) (inside : ℕ) {d e f g : List ℕ} {o a b r : ℕ} →
    Put d e o a (or_nothing (write_date_time ical) (read_date_time xcal (characters_in (elements_at s inside)))) → Put e f a b (ascii "/") →
    Put f g b r (end_text (characters_in (without 1 (elements_at s inside)))) → (v : Value) → read_period (list_at s inside) ≡ Some v → Put d g o r (write_value v)
period_put s inside {d} {g = g} {o} {r = r} p q t v h = subst (Put d g o r) (sym (period_written (elements_at s inside) v h)) (p ▷ q ▷ t)
