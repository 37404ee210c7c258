-- Laws of what specs/Places.antt defines.
--     leading_bare, leading_more    what is left to write then
--     element_put      the same between the tags of an element
--     ahead_ready      where its subcomponents begin
use Rattle.std.specs.Prelude.{◌≡◌, refl, true, List, ℕ}
use Rattle.std.proofs.Common.{sym, append-nil}
use Rattle.calendar.specs.Calendar.{Components}
use Rattle.sink.specs.Sink.{Put}
use Rattle.read_text_line.specs.Ready.{Ready}
use Rattle.sink.specs.laws.Sink.{◌▷◌, todo_step, todo_done}
use Rattle.xml.specs.Escape.{start_tag, end_tag, element_of}
use Rattle.schema.specs.Numbers.{component_name}
use Rattle.edition.specs.declared.Edition.{Edition}
use Rattle.text_entries.specs.Entries.{entries_at}
use Rattle.text_entries.specs.Levels.{whole}
use Rattle.write_xml.specs.declared.properties.Walked.{Walked}
use Rattle.write_xml.specs.Walks.{own_xml}
use Rattle.write_xml.specs.Places.{PropertiesPut, LeadingPut}

module _ {ed : Edition} where
  module _ {d e : List ℕ} {o k mode : ℕ} {s : List ℕ} {from : ℕ} {r : Walked} (l : LeadingPut ed d e o k mode s from r) where
    pub leading_bare : r.ahead.bare ≡ true → PropertiesPut ed whole d e o (own_xml (component_name k) (entries_at ed mode s from)) mode s from r
    leading_bare h = record { put = todo_done l.todo (l.all h); ahead = l.ahead }

    pub leading_more : {f : List ℕ} {p : ℕ} → Put e f r.to p (own_xml (component_name k) (entries_at ed mode s r.ahead.inner)) →
        PropertiesPut ed whole d f o (own_xml (component_name k) (entries_at ed mode s from)) mode s from (record { to = p; ahead = r.ahead })
    leading_more b = record { put = todo_done (todo_step l.todo b (sym (append-nil _))) refl; ahead = l.ahead }

  -- between the tags of an element
  pub element_put : (n bs : List ℕ) {h : Components → Components} {d e f g : List ℕ} {o a r mode : ℕ} {s : List ℕ} {from : ℕ} {w : Walked} → Put d e o a (start_tag n) → PropertiesPut ed h e f a bs mode s from w →
      Put f g w.to r (end_tag n) → PropertiesPut ed h d g o (element_of n bs) mode s from (record { to = r; ahead = w.ahead })
  element_put n bs u v z = record { put = u ▷ v.put ▷ z; ahead = v.ahead }

  -- where its subcomponents begin
  pub ahead_ready : {u : Components → Components} {d e : List ℕ} {o : ℕ} {bs : List ℕ} {mode : ℕ} {s : List ℕ} {from : ℕ} {r : Walked} → PropertiesPut ed u d e o bs mode s from r → Ready mode s r.ahead.inner
  ahead_ready p = p.ahead.ready
