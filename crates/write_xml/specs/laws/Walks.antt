-- Laws of what specs/Walks.antt defines.
--     own_begin ..      by the entry at hand
--     own_place         of a component's name only its number matters
use Rattle.std.specs.Prelude.{◌≡◌, true, List, [], ◌∷◌, ℕ}
use Rattle.std.proofs.Math.Path.{refl, ap}
use Rattle.std.proofs.lemmas.Bool.{false≢true}
use Rattle.octets.specs.Append.{◌⊕◌}
use Rattle.names.specs.Table.{place_of}
use Rattle.schema.specs.Components.{component_names}
use Rattle.schema.specs.Numbers.{component_name}
use Rattle.calendar.specs.Calendar.{Components, no_more, component}
use Rattle.calendar.specs.Levels.{shallow}
use Rattle.read_text_line.specs.ContentLine.{ContentLine}
use Rattle.text.specs.Statement.{property_of}
use Rattle.text.specs.Tree.{Entry, begin, end, property, nothing, own_of, inner_of}
use Rattle.xcal.specs.WriteXml.{property_xml, properties_xml, components_xml}
use Rattle.write_xml_property.specs.laws.Placed.{property_of_place}
use Rattle.text_entries.specs.Passing.{behind, is_aside}
use Rattle.text_entries.specs.laws.Passing.{own_deeper, inner_beside, own_same}
use Rattle.text_entries.specs.Levels.{is_none}
use Rattle.write_xml.specs.Walks.{own_xml, inner_xml}

-- ---- the properties

module _ (k : List ℕ) where
  pub own_none : own_xml k [] ≡ []
  unfolding own_of properties_xml
  own_none = refl

  module _ (es : List Entry) where
    pub own_begin : (n : List ℕ) → own_xml k (begin n ∷ es) ≡ own_xml k (behind es 0)
    unfolding own_of
    own_begin n = ap properties_xml (own_deeper k es 0)

    pub own_close : own_xml k (end ∷ es) ≡ []
    unfolding own_of properties_xml
    own_close = refl

    pub own_property : (l : ContentLine) → own_xml k (property l ∷ es) ≡ property_xml (property_of k l) ⊕ own_xml k es
    unfolding own_of properties_xml
    own_property l = refl

    pub own_pass : own_xml k (nothing ∷ es) ≡ own_xml k es
    unfolding own_of
    own_pass = refl

-- ---- the subcomponents

pub inner_none : (l : ℕ) → inner_xml l [] ≡ []
unfolding inner_of shallow components_xml
inner_none l = refl

pub inner_empty : (l : ℕ) (es : List Entry) → is_none (shallow l (inner_of es 0)) ≡ true → inner_xml l es ≡ []
unfolding components_xml
inner_empty l es h = go (shallow l (inner_of es 0)) h
  where
    go : (c : Components) → is_none c ≡ true → components_xml c ≡ []
    go no_more h = refl
    go (component n ps inner next) h = absurd (false≢true h)

module _ (l : ℕ) (es : List Entry) where
  pub inner_close : inner_xml l (end ∷ es) ≡ []
  unfolding inner_of shallow components_xml
  inner_close = refl

  pub inner_aside : (x : Entry) → is_aside x ≡ true → inner_xml l (x ∷ es) ≡ inner_xml l es
  inner_aside x h = ap (λ (c : Components). components_xml (shallow l c)) (inner_beside es x h)

-- ---- the component's number

pub own_place : (c : List ℕ) (es : List Entry) → own_xml (component_name (place_of c component_names)) es ≡ own_xml c es
own_place c es = ap properties_xml (own_same (component_name (place_of c component_names)) c (property_of_place c) es 0)
