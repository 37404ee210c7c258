-- Lines of which only BEGIN and END, the bounds of components, are asked for.
--     opens_bound    a byte that BEGIN or END can begin with
--     opens          what begins with one
--     Aside          the line at a cursor is neither, and the next begins at another cursor
--     BoundAt        the contract of `bound_at`
use Rattle.std.specs.Prelude.{◌≡◌, Bool, true, false, List, [], ◌∷◌, ℕ, ◌≤◌, ◌<◌, eqb, length, take}
use Rattle.octets.specs.Pick.{◌or◌}
use Rattle.octets.specs.Class.{upper}
use Rattle.source.specs.Source.{rest}
use Rattle.read_text_line.specs.Ready.{Ready}
use Rattle.text.specs.Tree.{Entry, begin, end}
use Rattle.edition.specs.declared.Edition.{Edition}
use Rattle.text_entries.specs.declared.entry.Found.{Found}
use Rattle.text_entries.specs.declared.entry.Kind.{Kind}
use Rattle.text_entries.specs.declared.entry.Kind.TheVariants.{Begin, End, Property, Nothing}
use Rattle.text_entries.specs.Entries.{First}
use Rattle.text_entries.specs.Passing.{is_aside}

abbrev pub opens_bound : ℕ → Bool
opens_bound b = eqb b 66 or eqb b 98 or eqb b 69 or eqb b 101

abbrev pub opens : List ℕ → Bool
opens [] = false
opens (b ∷ l) = opens_bound b

module _ (ed : Edition) where
  pub record Aside (mode : ℕ) (s : List ℕ) (at next : ℕ) : Type 0 where
    pub entry : Entry
    pub aside : is_aside entry ≡ true
    pub first : First ed mode s at entry next

  abbrev pub BoundBy : Kind → ℕ → List ℕ → ℕ → ℕ → ℕ → ℕ → Type 0
  BoundBy Begin mode s at v e next = First ed mode s at (begin (upper (rest mode (take e s) v))) next
  BoundBy End mode s at v e next = First ed mode s at end next
  BoundBy Property mode s at v e next = Aside mode s at next
  BoundBy Nothing mode s at v e next = Aside mode s at next

  pub record BoundAt (mode : ℕ) (s : List ℕ) (at : ℕ) (r : Found) : Type 0 where
    pub onward : at < r.next
    pub ready : Ready mode s r.next
    pub ends : r.end ≤ length s
    pub found : BoundBy r.kind mode s at r.line.value r.end r.next
