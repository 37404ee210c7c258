-- Whether there is one component, and not another.
--     is_alone     of components;   Begins: one begins behind a cursor
--     NextBegun    the contract of a walk to the next BEGIN
use Rattle.std.specs.Prelude.{◌≡◌, Bool, true, false, List, ◌∷◌, ℕ, ◌≤◌, Option, IfNone, IfSome}
use Rattle.calendar.specs.Calendar.{Components, no_more, component}
use Rattle.read_text_line.specs.Ready.{Ready}
use Rattle.text.specs.Tree.{begin, inner_of}
use Rattle.edition.specs.declared.Edition.{Edition}
use Rattle.text_entries.specs.Entries.{entries_at}
use Rattle.text_entries.specs.Levels.{is_none}

abbrev pub is_alone : Components → Bool
is_alone no_more = false
is_alone (component n ps inner next) = is_none next

module _ (ed : Edition) where
  -- a component that is called `name` begins behind `next`
  pub record Begins (mode : ℕ) (s : List ℕ) (from next : ℕ) : Type 0 where
    pub onward : from ≤ next
    pub ready : Ready mode s next
    pub name : List ℕ
    pub is : inner_of (entries_at ed mode s from) 0 ≡ inner_of (begin name ∷ entries_at ed mode s next) 0

  pub record NextBegun (mode : ℕ) (s : List ℕ) (from : ℕ) (r : Option ℕ) : Type 0 where
    pub none : IfNone r (inner_of (entries_at ed mode s from) 0 ≡ no_more)
    pub begins : IfSome r (Begins mode s from)
