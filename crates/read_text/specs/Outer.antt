-- A line where nothing is open: it begins a VCALENDAR, or is refused. A calendar from its BEGIN on.
--     OpeningIs P m s    what the code's answer says of what a line does there, where P says that a place in the line has a cursor, and the line is s
--     Outer              the contract of a calendar
use Rattle.std.specs.Prelude.{◌≡◌, List, [], ◌∷◌, ℕ, Result, Ok, Err}
use Rattle.octets.specs.Class.{upper}
use Rattle.source.specs.Source.{rest}
use Rattle.names.specs.Table.{place_of}
use Rattle.schema.specs.Components.{component_names}
use Rattle.read_text_line.specs.Decoded.{params_in}
use Rattle.read_text_line.specs.declared.LineCursors.{LineCursors}
use Rattle.text.specs.Faults.{Where, fault}
use Rattle.text.specs.Nesting.{Move, on, stop, opened, begins}
use Rattle.edition.specs.declared.Edition.{Edition}
use Rattle.read_text.specs.Turns.{on_from, resumed, Ends}
use Rattle.refusals.specs.Fault.{refusal_of}
use Rattle.refusals.specs.declared.Fault.{Fault}

pub record Stopped (P : Where → ℕ → Type 0) (x : Move) (f : Fault) : Type 0 where
  pub place : Where
  pub is : x ≡ stop (fault (refusal_of f.refusal) place)
  pub there : P place f.place

-- of a calendar that begins where its name stands in the line: VCALENDAR, whose number is 0
abbrev pub OpeningIs : (Where → ℕ → Type 0) → ℕ → List ℕ → Move → Result ℕ Fault → Type 0
OpeningIs P m s x (Ok a) = (x ≡ on (opened (upper (rest m s a)) ∷ [])) × (0 ≡ place_of (upper (rest m s a)) component_names)
OpeningIs P m s x (Err f) = Stopped P x f

module _ (ed : Edition) where
  -- a BEGIN, by its parts
  abbrev pub begins_outer : ℕ → List ℕ → LineCursors → Move
  begins_outer m s l = begins (upper (rest m s l.value)) (params_in ed m s l.parameters) []

  pub record Outer (m : ℕ) (s : List ℕ) (at : ℕ) (r : Result ℕ Fault) : Type 0 where
    pub ends : Ends m s at r
    pub agrees : on_from ed m s at [] ≡ resumed ed m s r []
