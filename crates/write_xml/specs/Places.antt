-- The places that a walk over the lines of a text comes to.
--     ComponentsPut    the contract of a walk that writes the components on its way
--     PropertiesPut    that of one over a component's properties, which writes bs; u is taken of the subcomponents ahead
--     LeadingPut       that of one that stops at the first subcomponent
use Rattle.std.specs.Prelude.{◌≡◌, true, List, [], ℕ}
use Rattle.sink.specs.Sink.{Put, Todo}
use Rattle.schema.specs.Numbers.{component_name}
use Rattle.calendar.specs.Calendar.{Components}
use Rattle.edition.specs.declared.Edition.{Edition}
use Rattle.text_entries.specs.Entries.{entries_at}
use Rattle.text_entries.specs.Passing.{Passed}
use Rattle.text_entries.specs.Levels.{whole, AheadAt}
use Rattle.write_xml.specs.declared.components.Reached.{Reached}
use Rattle.write_xml.specs.declared.properties.Walked.{Walked}
use Rattle.write_xml.specs.Walks.{own_xml, inner_xml}

module _ (ed : Edition) where
  -- of l levels
  pub record ComponentsPut (l : ℕ) (d e : List ℕ) (o mode : ℕ) (s : List ℕ) (from : ℕ) (r : Reached) : Type 0 where
    pub put : Put d e o r.to (inner_xml l (entries_at ed mode s from))
    pub passed : Passed ed mode s from r.next

  pub record PropertiesPut (u : Components → Components) (d e : List ℕ) (o : ℕ) (bs : List ℕ) (mode : ℕ) (s : List ℕ) (from : ℕ) (r : Walked) : Type 0 where
    pub put : Put d e o r.to bs
    pub ahead : AheadAt ed u mode s from r.ahead

  pub record LeadingPut (d e : List ℕ) (o k mode : ℕ) (s : List ℕ) (from : ℕ) (r : Walked) : Type 0 where
    pub todo : Todo d o (own_xml (component_name k) (entries_at ed mode s from)) e r.to (own_xml (component_name k) (entries_at ed mode s r.ahead.inner))
    pub all : r.ahead.bare ≡ true → own_xml (component_name k) (entries_at ed mode s r.ahead.inner) ≡ []
    pub ahead : AheadAt ed whole mode s from r.ahead
