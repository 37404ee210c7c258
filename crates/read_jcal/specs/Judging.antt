-- What is found, by the definitions.
--     fault_as      the fault of an answer that names one by its refusal
--     verdict_as    the verdict of an answer that gives something, or refuses at a place
use Rattle.std.specs.Prelude.{Option, None, Some, Result, Ok, Err}
use Rattle.calendar.specs.Refusal.{Refusal, Verdict, fine, refuse}
use Rattle.refusals.specs.Fault.{refusal_of}
use Rattle.refusals.specs.declared.Refusal as coded
use Rattle.refusals.specs.declared.Fault.{Fault}

abbrev pub fault_as : {A : Type 0} → Result A coded.Refusal → Option Refusal
fault_as (Ok a) = None
fault_as (Err r) = Some (refusal_of r)

abbrev pub verdict_as : {A : Type 0} → Result A Fault → Verdict
verdict_as (Ok a) = fine
verdict_as (Err f) = refuse (refusal_of f.refusal) f.place
