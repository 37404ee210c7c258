-- Texts that are joined, and what their calls give.
--     ◌followed_by◌   the calendars of one, and then those of the other;   in_order: of each of a list
--     Inside s x      s is the inside of the XML x: what stands between the root's start tag and its end tag
--     Lent j t x      the call j is lent the text t, within the input limit, a work room no shorter, and room for x
--     Rota            an accepted call, with the calendars that its text states and the inside of its XML
--     FoldedLent, FoldedRota    the same of the engine that is lent no work room
use Rattle.std.specs.Prelude.{◌≡◌, true, List, [], ◌∷◌, ℕ, ◌≤◌, length}
use Rattle.calendar.specs.Calendar.{Calendar, no_more, component}
use Rattle.calendar.specs.Refusal.{limit}
use Rattle.xml.specs.Escape.{document_of}
use Rattle.edition.specs.declared.Edition.{Edition}
use Rattle.theorems.specs.Calls.{Call, is_accepted, xml_of, States}
use Rattle.theorems.specs.FoldedCalls.{FoldedCall, is_folded_accepted, folded_xml_of, FoldedStates}

-- ---- calendars

infixr 50 ◌followed_by◌
unfoldable pub ◌followed_by◌ : Calendar → Calendar → Calendar
no_more followed_by d = d
component n ps inner next followed_by d = component n ps inner (next followed_by d)

unfoldable pub in_order : List Calendar → Calendar
in_order [] = no_more
in_order (c ∷ cs) = c followed_by in_order cs

-- ---- XML

-- x is the declaration, LF, the root's start tag, s, the root's end tag, LF
abbrev pub Inside : List ℕ → List ℕ → Type 0
Inside s x = x ≡ document_of s

-- ---- calls

pub record Lent (j : Call) (t x : List ℕ) : Type 0 where
  pub text : j.input ≡ t
  pub short : length t ≤ limit
  pub work : length t ≤ length j.work
  pub room : length x ≤ length j.output

pub record FoldedLent (j : FoldedCall) (t x : List ℕ) : Type 0 where
  pub text : j.input ≡ t
  pub short : length t ≤ limit
  pub room : length x ≤ length j.output

module _ (ed : Edition) where
  pub record Rota : Type 0 where
    pub call : Call
    pub calendars : Calendar
    pub inside : List ℕ
    pub is_given : is_accepted ed call ≡ true
    pub states : States ed call calendars
    pub xml : Inside inside (xml_of ed call)

  pub record FoldedRota : Type 0 where
    pub call : FoldedCall
    pub calendars : Calendar
    pub inside : List ℕ
    pub is_given : is_folded_accepted ed call ≡ true
    pub states : FoldedStates ed call calendars
    pub xml : Inside inside (folded_xml_of ed call)

  -- its text
  abbrev pub text_in : Rota → List ℕ
  text_in r = r.call.input

  abbrev pub folded_text_in : FoldedRota → List ℕ
  folded_text_in r = r.call.input
