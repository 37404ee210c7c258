-- What code finds, as a verdict.
--     refusal_of   the refusal that code names
--     fault_at     a refusal with its place
--     judged_as    the verdict of a check's result
use Rattle.std.specs.Prelude.{ℕ, ⊤, Result, Ok, Err}
use Rattle.calendar.specs.Refusal.{Refusal, LENGTH, WORK, CHARACTER, LINE, NAME, FRAME, PARAMETER, VALUE, COUNT, XML, JSON, EDITION, Verdict, fine, refuse}
use Rattle.refusals.specs.declared.Refusal as coded
use Rattle.refusals.specs.declared.Refusal.TheVariants.{Length, Work, Character, Line, Name, Frame, Parameter, Value, Count, Xml, Json, Edition}
use Rattle.refusals.specs.declared.Fault.{Fault}

abbrev pub refusal_of : coded.Refusal → Refusal
refusal_of Length = LENGTH
refusal_of Work = WORK
refusal_of Character = CHARACTER
refusal_of Line = LINE
refusal_of Name = NAME
refusal_of Frame = FRAME
refusal_of Parameter = PARAMETER
refusal_of Value = VALUE
refusal_of Count = COUNT
refusal_of Xml = XML
refusal_of Json = JSON
refusal_of Edition = EDITION

abbrev pub fault_at : coded.Refusal → ℕ → Fault
fault_at r p = record { refusal = r; place = p }

abbrev pub judged_as : Result ⊤ Fault → Verdict
judged_as (Ok u) = fine
judged_as (Err f) = refuse (refusal_of f.refusal) f.place
