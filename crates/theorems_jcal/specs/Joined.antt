-- Texts that are joined, and the jCal that their calls give.
--     objects_in x    the jCal objects of a text (RFC 7265, section 3.2), each as it is written without white space: the elements of the outer array, which is
--                     known by beginning with an array; else the text's value alone
--     Objects vs x    these are vs, and x is the bytes of vs: of one, itself; of two or more, one outer array
--     JcalRota        an accepted call to jCal, with the calendars that its text states and the objects of its jCal
use Rattle.std.specs.Prelude.{◌≡◌, true, List, ℕ}
use Rattle.calendar.specs.Calendar.{Calendar}
use Rattle.edition.specs.declared.Edition.{Edition}
use Rattle.json_text.specs.Tree.{value_of}
use Rattle.json_text.specs.Written.{written_elements}
use Rattle.jcal.specs.Components.{calendars_in}
use Rattle.jcal.specs.WriteJcal.{one_or_array}
use Rattle.theorems.specs.Calls.{Call, States}
use Rattle.theorems_jcal.specs.Calls.{is_accepted, jcal_of}

abbrev pub objects_in : List ℕ → List (List ℕ)
objects_in x = written_elements (calendars_in (value_of x))

pub record Objects (vs : List (List ℕ)) (x : List ℕ) : Type 0 where
  pub elements : objects_in x ≡ vs
  pub bytes : x ≡ one_or_array vs

module _ (ed : Edition) where
  pub record JcalRota : Type 0 where
    pub call : Call
    pub calendars : Calendar
    pub objects : List (List ℕ)
    pub is_given : is_accepted ed call ≡ true
    pub states : States ed call calendars
    pub jcal : Objects objects (jcal_of ed call)

  -- its text
  abbrev pub text_in : JcalRota → List ℕ
  text_in r = r.call.input
