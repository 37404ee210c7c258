-- Laws of what specs/LineKind.antt defines.
--     move_is       a line moves the open components as its kind says
use Rattle.std.specs.Prelude.{◌≡◌, Bool, true, false, List, ◌∷◌, ℕ, Option, None, Some}
use Rattle.std.proofs.Math.Path.{refl}
use Rattle.octets.specs.Pick.{pick}
use Rattle.calendar.specs.Calendar.{Property}
use Rattle.edition.specs.declared.Edition.{Edition}
use Rattle.read_text_line.specs.ContentLine.{ContentLine}
use Rattle.read_text_line.specs.Decoded.{read_line}
use Rattle.text.specs.Faults.{Fault}
use Rattle.text.specs.Nesting.{Open, on, has_level, begins, ends, states, told, move_by, move_of, move}
use Rattle.text.specs.LineKind.{LineKind, held_by, kind_by, kind_of, line_kind, step}

-- ---- what it does

-- what is done by a choice of kinds is the choice of what is done
step-pick : (t : Bool) (a b : LineKind) (f : Open) (st : List Open) → step (pick t a b) f st ≡ pick t (step a f st) (step b f st)
unfolding pick
step-pick true a b f st = refl
step-pick false a b f st = refl

step_held : (o : Option Fault) (p : Property) (f : Open) (st : List Open) → step (held_by o p) f st ≡ told o (on (record { name = f.name; seen = p ∷ f.seen; inner = f.inner } ∷ st))
unfolding step
step_held None p f st = refl
step_held (Some r) p f st = refl

move_by_lem : (o : Option ContentLine) (f : Open) (st : List Open) → move_of o (f ∷ st) ≡ step (kind_of f.name (has_level (f ∷ st)) f.inner o) f st
unfolding move_of kind_of
move_by_lem None f st = unfold step in refl
move_by_lem (Some l) f st = unfold move_by kind_by begins ends states in simp (step-pick, step_held) (unfold step in refl)

pub move_is : (ed : Edition) (s : List ℕ) (f : Open) (st : List Open) → move ed s (f ∷ st) ≡ step (line_kind ed f.name (has_level (f ∷ st)) f.inner s) f st
move_is ed s f st = move_by_lem (read_line ed s) f st
