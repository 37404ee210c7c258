-- The children of a property, by the property's number p and the child's number.
--     name_of                   the name of an element
--     child_words p             the names of the children
--     slots_at                  their slots;   slot_at p i: the slot of the child of the number i, if it has one
--     after_at                  the slot after a child
--     flags_at                            the slots that must be filled: the first of the value, and of GEO and REQUEST-STATUS the second
use Rattle.std.specs.Prelude.{Bool, true, false, List, [], ◌∷◌, ℕ, ◌+◌, eqb, ltb, take, Option, None, Some}
use Rattle.octets.specs.Ascii.{ascii}
use Rattle.octets.specs.Pick.{pick, ◌and◌, ◌or◌}
use Rattle.source.specs.Source.{rest}
use Rattle.schema.specs.Numbers.{property_at, type_words}
use Rattle.schema.specs.Property as property
use Rattle.xcal.specs.Layout.{Slot}
use Rattle.xcal.specs.ValueNodes.{geo_elements, status_elements, type_elements, may, must}
use Rattle.read_xml_nodes.specs.declared.Node.{Node}

abbrev pub name_of : List ℕ → Node → List ℕ
name_of s n = rest 0 (take n.name_end s) n.name

-- ---- their names and slots

abbrev pub geo_words : List (List ℕ)
geo_words = ascii "parameters" ∷ geo_elements

abbrev pub status_words : List (List ℕ)
status_words = ascii "parameters" ∷ status_elements

abbrev pub other_words : List (List ℕ)
other_words = ascii "parameters" ∷ type_words

abbrev pub child_words : ℕ → List (List ℕ)
child_words p = pick (eqb p property.GEO) geo_words (pick (eqb p property.REQUEST-STATUS) status_words other_words)

abbrev pub slots_of : Bool → Bool → Bool → List Slot
slots_of g s l =
    may (ascii "parameters")
    ∷ pick g (must (ascii "latitude") ∷ must (ascii "longitude") ∷ [])
    (pick s (must (ascii "code") ∷ must (ascii "description") ∷ may (ascii "data") ∷ [])
    (record { names = type_elements; several = l; required = true } ∷ []))

unfoldable pub slots_at : ℕ → List Slot
slots_at p = slots_of (eqb p property.GEO) (eqb p property.REQUEST-STATUS) (property_at p).listed

-- ---- the slot of a child

abbrev pub number_below : ℕ → ℕ → Option ℕ
number_below i n = pick (ltb i n) (Some i) None

abbrev pub slot_at : ℕ → ℕ → Option ℕ
slot_at p i = pick (eqb p property.GEO) (number_below i 3) (pick (eqb p property.REQUEST-STATUS) (number_below i 4) (pick (eqb i 0) (Some 0) (pick (ltb i 16) (Some 1) None)))

-- ---- the slot after a child

unfoldable pub after_at : Bool → ℕ → ℕ → Option ℕ
after_at l k next = pick (ltb k 4) (pick (ltb k next) None (pick (eqb k 1 and l) (Some k) (Some (k + 1)))) None

-- ---- slots that must be filled

abbrev pub has_two : ℕ → Bool
has_two p = eqb p property.GEO or eqb p property.REQUEST-STATUS

abbrev pub flags_of : Bool → Bool → Bool → List Bool
flags_of true f g = f ∷ g ∷ []
flags_of false f g = f ∷ []

abbrev pub flags_at : ℕ → Bool → Bool → List Bool
flags_at p f g = flags_of (has_two p) f g
