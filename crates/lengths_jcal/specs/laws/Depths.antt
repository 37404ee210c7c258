-- All components of a text, however they are nested: each line is written into one component at most.
--     size               what components come to at most, each with a comma
--     nested_length      all components that some lines begin, without those that stand too deep; what a line may come to is what it may come to in XML
use Rattle.std.specs.Prelude.{◌≡◌, refl, Bool, true, List, [], ◌∷◌, map, ℕ, suc, ◌+◌, ◌*◌, ◌-◌, ◌≤◌, ltb, length}
use Rattle.std.proofs.Math.Bool.{false}
use native.Mathlib.Omega.{arith}
use Rattle.octets.specs.Pick.{pick}
use Rattle.octets.specs.Class.{lower}
use Rattle.octets.specs.laws.Letters.{lower-length}
use Rattle.calendar.specs.Calendar.{Property, Components, no_more, component}
use Rattle.calendar.specs.Levels.{shallow}
use Rattle.read_text_line.specs.ContentLine.{ContentLine}
use Rattle.text.specs.Tree.{Entry, begin, end, property, nothing, own_of, inner_of}
use Rattle.json_text.specs.Write.{quoted, array_of}
use Rattle.jcal.specs.WriteJcal.{property_json, components_json}
use Rattle.lengths_xml.specs.laws.Pieces.{weight}
use Rattle.lengths_xml.specs.laws.Depths.{cost, costs}
use Rattle.lengths_jcal.specs.laws.Strings.{quoted_length, array_length}
use Rattle.lengths_jcal.specs.laws.Properties.{property_length}

-- ---- a component

component-length : (n : List ℕ) (ps : List Property) (inner next : Components) →
    weight (components_json (component n ps inner next)) ≤ 2 * length n + 55 + weight (map property_json ps) + weight (components_json inner) + weight (components_json next)
unfolding components_json weight
component-length n ps inner next =
    let p : List ℕ = array_of (map property_json ps) in
    let i : List ℕ = array_of (components_json inner) in
    let outer = array_length (quoted (lower n) ∷ p ∷ i ∷ []) in
    omega (arith, outer, quoted_length (lower n), lower-length n, array_length (map property_json ps), array_length (components_json inner))

-- ---- components, however deep

unfoldable size : Components → ℕ
size no_more = 0
size (component n ps inner next) = 2 * length n + 55 + weight (map property_json ps) + size inner + size next

size-weight : (c : Components) → weight (components_json c) ≤ size c
unfolding size
size-weight no_more = unfold components_json weight in omega arith
size-weight (component n ps inner next) = omega (arith, component-length n ps inner next, size-weight inner, size-weight next)

shallow-size : (c : Components) (l : ℕ) → size (shallow l c) ≤ size c
unfolding size shallow
shallow-size no_more l = omega arith
shallow-size (component n ps inner next) l = go (ltb 0 l) (shallow-size inner (l - 1)) (shallow-size next l)
  where
    go : (b : Bool) → size (shallow (l - 1) inner) ≤ size inner → size (shallow l next) ≤ size next →
        size (pick b (component n ps (shallow (l - 1) inner) (shallow l next)) no_more) ≤ 2 * length n + 55 + weight (map property_json ps) + size inner + size next
    go true h k = unfold pick in omega arith
    go false h k = unfold pick in omega arith

-- ---- components that are open, one inside the other

-- what the lines es still add to open components of the names ks, the innermost first, at the depths from d on
unfoldable added : List (List ℕ) → List Entry → ℕ → ℕ
added [] es d = 0
added (k ∷ ks) es d = weight (map property_json (own_of k es d)) + size (inner_of es d) + added ks es (suc d)

-- a line counts at its depth alone
begin_deeper : (ks : List (List ℕ)) (n : List ℕ) (es : List Entry) (d : ℕ) → added ks (begin n ∷ es) (suc d) ≡ added ks es (suc (suc d))
unfolding added own_of inner_of
begin_deeper [] n es d = refl
begin_deeper (k ∷ ks) n es d = rw (begin_deeper ks n es (suc d))

end_deeper : (ks : List (List ℕ)) (es : List Entry) (d : ℕ) → added ks (end ∷ es) (suc d) ≡ added ks es d
unfolding added own_of inner_of
end_deeper [] es d = refl
end_deeper (k ∷ ks) es d = rw (end_deeper ks es (suc d))

property_deeper : (ks : List (List ℕ)) (l : ContentLine) (es : List Entry) (d : ℕ) → added ks (property l ∷ es) (suc d) ≡ added ks es (suc d)
unfolding added own_of inner_of
property_deeper [] l es d = refl
property_deeper (k ∷ ks) l es d = rw (property_deeper ks l es (suc d))

nothing_anywhere : (ks : List (List ℕ)) (es : List Entry) (d : ℕ) → added ks (nothing ∷ es) d ≡ added ks es d
unfolding added own_of inner_of
nothing_anywhere [] es d = refl
nothing_anywhere (k ∷ ks) es d = rw (nothing_anywhere ks es (suc d))

none_anywhere : (ks : List (List ℕ)) (d : ℕ) → added ks [] d ≡ 0
unfolding added own_of inner_of size weight
none_anywhere [] d = refl
none_anywhere (k ∷ ks) d = omega (arith, none_anywhere ks (suc d))

added_length : (es : List Entry) (ks : List (List ℕ)) → added ks es 0 ≤ costs es
unfolding added costs cost own_of inner_of size weight
added_length [] ks = omega (arith, none_anywhere ks 0)
added_length (begin n ∷ es) [] = omega arith
added_length (begin n ∷ es) (k ∷ ks) = omega (arith, begin_deeper ks n es 0, added_length es (n ∷ k ∷ ks))
added_length (end ∷ es) [] = omega arith
added_length (end ∷ es) (k ∷ ks) = omega (arith, end_deeper ks es 0, added_length es ks)
added_length (property l ∷ es) [] = omega arith
added_length (property l ∷ es) (k ∷ ks) = omega (arith, property_length k l, property_deeper ks l es 0, added_length es (k ∷ ks))
added_length (nothing ∷ es) ks = omega (arith, nothing_anywhere ks es 0, added_length es ks)

pub nested_length : (es : List Entry) (l : ℕ) → weight (components_json (shallow l (inner_of es 0))) ≤ costs es
unfolding added
nested_length es l = omega (arith, size-weight (shallow l (inner_of es 0)), shallow-size (inner_of es 0) l, added_length es ([] ∷ []))
