-- What stands ahead of a walk over a component's properties, as many levels deep as are left.
--     is_none c   no component
--     whole       all of them
--     AheadAt     the component's lines begin at `from`; its subcomponents, of which u is taken, stand from `inner` on; if there is none, `next` is behind its END
use Rattle.std.specs.Prelude.{◌≡◌, Bool, true, false, List, ℕ, ◌≤◌}
use Rattle.read_text_line.specs.Ready.{Ready}
use Rattle.calendar.specs.Calendar.{Components, no_more, component}
use Rattle.text.specs.Tree.{inner_of}
use Rattle.edition.specs.declared.Edition.{Edition}
use Rattle.text_entries.specs.declared.levels.Ahead.{Ahead}
use Rattle.text_entries.specs.Entries.{entries_at}
use Rattle.text_entries.specs.Passing.{behind, Passed}

abbrev pub is_none : Components → Bool
is_none no_more = true
is_none (component n ps inner next) = false

abbrev pub whole : Components → Components
whole c = c

module _ (ed : Edition) where
  pub record AheadAt (u : Components → Components) (mode : ℕ) (s : List ℕ) (from : ℕ) (a : Ahead) : Type 0 where
    pub onward : from ≤ a.inner
    pub forth : from ≤ a.next
    pub ready : Ready mode s a.inner
    pub components : inner_of (entries_at ed mode s a.inner) 0 ≡ inner_of (entries_at ed mode s from) 0
    pub rest : behind (entries_at ed mode s a.inner) 0 ≡ behind (entries_at ed mode s from) 0
    pub empty : a.bare ≡ is_none (u (inner_of (entries_at ed mode s from) 0))
    pub passed : a.bare ≡ true → Passed ed mode s from a.next
