-- All components of a text, however they are nested: each line is written into one component at most.
--     cost, costs        what the lines of a text may come to in XML
--     weight             what components come to at most
--     component-length   a component
--     nested_length      all components that some lines begin, without those that stand too deep
use Rattle.std.specs.Prelude.{◌≡◌, refl, Bool, true, List, [], ◌∷◌, ℕ, suc, ◌+◌, ◌*◌, ◌-◌, ◌≤◌, ltb, length}
use Rattle.std.proofs.Math.Bool.{false}
use native.Mathlib.Omega.{arith}
use Rattle.octets.specs.Ascii.{ascii}
use Rattle.octets.specs.Pick.{pick}
use Rattle.octets.specs.laws.Pick.{pick_either}
use Rattle.octets.specs.Append.{◌⊕◌}
use Rattle.octets.specs.laws.Append.{length_both}
use Rattle.octets.specs.Class.{lower}
use Rattle.octets.specs.Words.{same}
use Rattle.octets.specs.laws.Letters.{lower-length}
use Rattle.calendar.specs.Calendar.{Property, Components, no_more, component}
use Rattle.calendar.specs.Levels.{shallow}
use Rattle.read_text_line.specs.ContentLine.{ContentLine}
use Rattle.read_text_line.specs.Write.{write_content_line}
use Rattle.text.specs.Statement.{property_of}
use Rattle.text.specs.Tree.{Entry, begin, end, property, nothing, own_of, inner_of}
use Rattle.xml.specs.Escape.{element_of}
use Rattle.xcal.specs.WriteXml.{property_xml, properties_xml, is_no_more, components_element, components_xml}
use Rattle.lengths_xml.specs.laws.Elements.{rate, element_length}
use Rattle.lengths_xml.specs.laws.Properties.{property_length}

-- ---- a component

inside_length : (n : List ℕ) (empty : Bool) (s : List ℕ) → length (components_element n empty s) ≤ 25 + length s
unfolding components_element
inside_length n empty s = pick_either Short (same n (ascii "VCALENDAR")) x _ most (pick_either Short empty [] x (omega arith) most)
  where
    x : List ℕ
    x = element_of (ascii "components") s

    Short : List ℕ → Type 0
    Short l = length l ≤ 25 + length s

    most : Short x
    most = omega (arith, element_length (ascii "components") s)

component-length : (n : List ℕ) (ps : List Property) (inner next : Components) →
    length (components_xml (component n ps inner next)) ≤ 2 * length n + 55 + length (properties_xml ps) + length (components_xml inner) + length (components_xml next)
unfolding components_xml
component-length n ps inner next =
    let p : List ℕ = element_of (ascii "properties") (properties_xml ps) in
    let i : List ℕ = components_element n (is_no_more inner) (components_xml inner) in
    let outer = length_both (element_of (lower n) (p ⊕ i)) (components_xml next) in
    let properties = element_length (ascii "properties") (properties_xml ps) in
    let subcomponents = inside_length n (is_no_more inner) (components_xml inner) in
    omega (arith, outer, element_length (lower n) (p ⊕ i), lower-length n, length_both p i, properties, subcomponents)

-- ---- components, however deep

unfoldable weight : Components → ℕ
weight no_more = 0
weight (component n ps inner next) = 2 * length n + 55 + length (properties_xml ps) + weight inner + weight next

weight-length : (c : Components) → length (components_xml c) ≤ weight c
unfolding weight
weight-length no_more = unfold components_xml in omega arith
weight-length (component n ps inner next) = omega (arith, component-length n ps inner next, weight-length inner, weight-length next)

shallow-weight : (c : Components) (l : ℕ) → weight (shallow l c) ≤ weight c
unfolding weight shallow
shallow-weight no_more l = omega arith
shallow-weight (component n ps inner next) l = go (ltb 0 l) (shallow-weight inner (l - 1)) (shallow-weight next l)
  where
    go : (b : Bool) → weight (shallow (l - 1) inner) ≤ weight inner → weight (shallow l next) ≤ weight next →
        weight (pick b (component n ps (shallow (l - 1) inner) (shallow l next)) no_more) ≤ 2 * length n + 55 + length (properties_xml ps) + weight inner + weight next
    go true h k = unfold pick in omega arith
    go false h k = unfold pick in omega arith

-- ---- components that are open, one inside the other

-- what a line may come to
unfoldable pub cost : Entry → ℕ
cost (begin n) = 2 * length n + 55
cost end = 0
cost (property l) = rate * (length (write_content_line l) + 2)
cost nothing = 0

unfoldable pub costs : List Entry → ℕ
costs [] = 0
costs (e ∷ es) = cost e + costs es

-- what the lines es still add to open components of the names ks, the innermost first, at the depths from d on
unfoldable added : List (List ℕ) → List Entry → ℕ → ℕ
added [] es d = 0
added (k ∷ ks) es d = length (properties_xml (own_of k es d)) + weight (inner_of es d) + added ks es (suc d)

-- a line counts at its depth alone
begin_deeper : (ks : List (List ℕ)) (n : List ℕ) (es : List Entry) (d : ℕ) → added ks (begin n ∷ es) (suc d) ≡ added ks es (suc (suc d))
unfolding added own_of inner_of
begin_deeper [] n es d = refl
begin_deeper (k ∷ ks) n es d = rw (begin_deeper ks n es (suc d))

end_deeper : (ks : List (List ℕ)) (es : List Entry) (d : ℕ) → added ks (end ∷ es) (suc d) ≡ added ks es d
unfolding added own_of inner_of
end_deeper [] es d = refl
end_deeper (k ∷ ks) es d = rw (end_deeper ks es (suc d))

property_deeper : (ks : List (List ℕ)) (l : ContentLine) (es : List Entry) (d : ℕ) → added ks (property l ∷ es) (suc d) ≡ added ks es (suc d)
unfolding added own_of inner_of
property_deeper [] l es d = refl
property_deeper (k ∷ ks) l es d = rw (property_deeper ks l es (suc d))

nothing_anywhere : (ks : List (List ℕ)) (es : List Entry) (d : ℕ) → added ks (nothing ∷ es) d ≡ added ks es d
unfolding added own_of inner_of
nothing_anywhere [] es d = refl
nothing_anywhere (k ∷ ks) es d = rw (nothing_anywhere ks es (suc d))

none_anywhere : (ks : List (List ℕ)) (d : ℕ) → added ks [] d ≡ 0
unfolding added own_of inner_of properties_xml weight
none_anywhere [] d = refl
none_anywhere (k ∷ ks) d = omega (arith, none_anywhere ks (suc d))

added_length : (es : List Entry) (ks : List (List ℕ)) → added ks es 0 ≤ costs es
unfolding added costs cost own_of inner_of properties_xml weight
added_length [] ks = omega (arith, none_anywhere ks 0)
added_length (begin n ∷ es) [] = omega arith
added_length (begin n ∷ es) (k ∷ ks) = omega (arith, begin_deeper ks n es 0, added_length es (n ∷ k ∷ ks))
added_length (end ∷ es) [] = omega arith
added_length (end ∷ es) (k ∷ ks) = omega (arith, end_deeper ks es 0, added_length es ks)
added_length (property l ∷ es) [] = omega arith
added_length (property l ∷ es) (k ∷ ks) =
    omega (arith, length_both (property_xml (property_of k l)) (properties_xml (own_of k es 0)), property_length k l, property_deeper ks l es 0, added_length es (k ∷ ks))
added_length (nothing ∷ es) ks = omega (arith, nothing_anywhere ks es 0, added_length es ks)

pub nested_length : (es : List Entry) (l : ℕ) → length (components_xml (shallow l (inner_of es 0))) ≤ costs es
unfolding added
nested_length es l = omega (arith, weight-length (shallow l (inner_of es 0)), shallow-weight (inner_of es 0) l, added_length es ([] ∷ []))
