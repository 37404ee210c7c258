-- The numbers of specs/Property.antt are the places of the names.
--     numbers_placed    the numbers, in the order of the table's rows
use Rattle.std.specs.Prelude.{◌≡◌, refl, List, [], ◌∷◌, map, ℕ}
use Rattle.names.specs.Table.{place_of}
use Rattle.schema.specs.Properties.{property_names}
use Rattle.schema.specs.Computing.{schema_compute}
use Rattle.schema.specs.Property as property

abbrev numbers : List ℕ
numbers =
    property.ACTION ∷ property.ATTACH ∷ property.ATTENDEE ∷ property.CALSCALE ∷ property.CATEGORIES ∷ property.CLASS
    ∷ property.COMMENT ∷ property.COMPLETED ∷ property.CONTACT ∷ property.CREATED ∷ property.DESCRIPTION ∷ property.DTEND
    ∷ property.DTSTAMP ∷ property.DTSTART ∷ property.DUE ∷ property.DURATION ∷ property.EXDATE ∷ property.FREEBUSY
    ∷ property.GEO ∷ property.LAST-MODIFIED ∷ property.LOCATION ∷ property.METHOD ∷ property.ORGANIZER ∷ property.PERCENT-COMPLETE
    ∷ property.PRIORITY ∷ property.PRODID ∷ property.RDATE ∷ property.RECURRENCE-ID ∷ property.RELATED-TO ∷ property.REPEAT
    ∷ property.REQUEST-STATUS ∷ property.RESOURCES ∷ property.RRULE ∷ property.SEQUENCE ∷ property.STATUS ∷ property.SUMMARY
    ∷ property.TRANSP ∷ property.TRIGGER ∷ property.TZID ∷ property.TZNAME ∷ property.TZOFFSETFROM ∷ property.TZOFFSETTO
    ∷ property.TZURL ∷ property.UID ∷ property.URL ∷ property.VERSION ∷ []

pub numbers_placed : map (λ w. place_of w property_names) property_names ≡ numbers
unfolding schema_compute
numbers_placed = refl
