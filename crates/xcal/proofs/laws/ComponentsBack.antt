-- Components that are written to XML are read back from their elements (RFC 6321, sections 3.2 and 3.3).
--     components_back      the components that elements state
--     by_part              the part `components` of a component, by cases
use Rattle.std.specs.Prelude.{◌≡◌, Bool, true, false, not, List, ℕ, ◌-◌}
use Rattle.std.proofs.Math.Path.{refl}
use Rattle.std.proofs.Common.{sym}
use Rattle.std.proofs.lemmas.Bool.{false≢true}
use Rattle.octets.specs.Ascii.{ascii}
use Rattle.octets.specs.Pick.{pick, ◌or◌}
use Rattle.octets.specs.Words.{same}
use Rattle.octets.specs.Computing.{octets_compute}
use Rattle.calendar.specs.Calendar.{Property, Components, no_more, component}
use Rattle.schema.specs.Components.{may_contain}
use Rattle.schema.specs.Counts.{method_for}
use Rattle.validity.specs.ValidCalendar.{has_components, are_valid}
use Rattle.validity.proofs.laws.ValidCalendar.{valid_component}
use Rattle.xml.specs.Nodes.{no_nodes, has_element}
use Rattle.xml.specs.Content.{Content, nothing, child, placed}
use Rattle.edition.specs.declared.Edition.{Edition}
use Rattle.xcal.specs.WriteXml.{is_no_more}
use Rattle.xcal.proofs.laws.Contents.{components_part, component_inside, calendar_content}
use Rattle.xcal.specs.ComponentNodes.{inside_of, read_components, read_inner}
use Rattle.xcal.proofs.laws.ElementNames.{kept_back}
use Rattle.xcal.proofs.laws.PropertiesBack.{properties_back}

-- ---- the part `components`

abbrev pub is_calendar : List ℕ → Bool
is_calendar n = same n (ascii "VCALENDAR")

-- it is written in a VCALENDAR, and where there are subcomponents
pub by_part : (P : Content → Type 0) (n : List ℕ) (empty : Bool) (c : Content) → ((is_calendar n or not empty) ≡ true → P (child (ascii "components") c nothing)) →
    (is_calendar n ≡ false → empty ≡ true → P nothing) → P (components_part n empty c)
unfolding components_part pick ◌or◌
by_part P n empty c a b = go (is_calendar n) refl empty refl
  where
    go : (t : Bool) → is_calendar n ≡ t → (u : Bool) → empty ≡ u → P (pick t (child (ascii "components") c nothing) (pick u nothing (child (ascii "components") c nothing)))
    go true e u f = a (rw e)
    go false e true f = b e f
    go false e false f = a (rw (e, f))

pub no_more_lem : (c : Components) → is_no_more c ≡ true → c ≡ no_more
no_more_lem no_more h = refl
no_more_lem (component n ps inner next) h = absurd (false≢true h)

pub has_components_lem : (c : Components) (q : ℕ) → has_element (placed (calendar_content c) q no_nodes) ≡ has_components c
unfolding calendar_content placed has_element
has_components_lem no_more q = refl
has_components_lem (component n ps inner next) q = refl

-- ---- read back

inner_back : (n : List ℕ) (ps : List Property) (inner : Components) → ((q : ℕ) → read_components (placed (calendar_content inner) q no_nodes) ≡ inner) →
    (q : ℕ) → read_inner (placed (component_inside n ps (is_no_more inner) (calendar_content inner)) q no_nodes) ≡ inner
unfolding octets_compute placed read_components read_inner
inner_back n ps inner ih q =
    by_part (λ d. (r : ℕ) → read_inner (placed d r no_nodes) ≡ inner) n (is_no_more inner) (calendar_content inner)
    (λ h r. ih _) (λ h e r. sym (no_more_lem inner e)) _

module _ (ed : Edition) where
  pub components_back : (c : Components) (l : ℕ) (may : List ℕ → Bool) (m : Bool) → are_valid ed l may m c ≡ true → (q : ℕ) → read_components (placed (calendar_content c) q no_nodes) ≡ c
  unfolding octets_compute calendar_content placed read_components read_inner inside_of
  components_back no_more l may m h q = refl
  components_back (component n ps inner next) l may m h q =
      let v = valid_component ed l may m n ps inner next h in
      rw (
        kept_back n v.kept,
        properties_back ed n ps v.properties,
        inner_back n ps inner (components_back inner (l - 1) (may_contain n) (method_for n ps m) v.inside),
        components_back next l may m v.after,
      )
