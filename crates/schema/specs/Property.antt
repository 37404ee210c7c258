-- The numbers of the properties by name, as src/property.rt has them: `use Rattle.schema.specs.Property as property`, and then `property.ACTION`.
-- They are the places in property_names: specs/laws/Property.antt.
--     KNOWN    how many there are, and the number of an unrecognised one
use Rattle.std.specs.Prelude.{ℕ}

abbrev pub ACTION : ℕ
ACTION = 0

abbrev pub ATTACH : ℕ
ATTACH = 1

abbrev pub ATTENDEE : ℕ
ATTENDEE = 2

abbrev pub CALSCALE : ℕ
CALSCALE = 3

abbrev pub CATEGORIES : ℕ
CATEGORIES = 4

abbrev pub CLASS : ℕ
CLASS = 5

abbrev pub COMMENT : ℕ
COMMENT = 6

abbrev pub COMPLETED : ℕ
COMPLETED = 7

abbrev pub CONTACT : ℕ
CONTACT = 8

abbrev pub CREATED : ℕ
CREATED = 9

abbrev pub DESCRIPTION : ℕ
DESCRIPTION = 10

abbrev pub DTEND : ℕ
DTEND = 11

abbrev pub DTSTAMP : ℕ
DTSTAMP = 12

abbrev pub DTSTART : ℕ
DTSTART = 13

abbrev pub DUE : ℕ
DUE = 14

abbrev pub DURATION : ℕ
DURATION = 15

abbrev pub EXDATE : ℕ
EXDATE = 16

abbrev pub FREEBUSY : ℕ
FREEBUSY = 17

abbrev pub GEO : ℕ
GEO = 18

abbrev pub LAST-MODIFIED : ℕ
LAST-MODIFIED = 19

abbrev pub LOCATION : ℕ
LOCATION = 20

abbrev pub METHOD : ℕ
METHOD = 21

abbrev pub ORGANIZER : ℕ
ORGANIZER = 22

abbrev pub PERCENT-COMPLETE : ℕ
PERCENT-COMPLETE = 23

abbrev pub PRIORITY : ℕ
PRIORITY = 24

abbrev pub PRODID : ℕ
PRODID = 25

abbrev pub RDATE : ℕ
RDATE = 26

abbrev pub RECURRENCE-ID : ℕ
RECURRENCE-ID = 27

abbrev pub RELATED-TO : ℕ
RELATED-TO = 28

abbrev pub REPEAT : ℕ
REPEAT = 29

abbrev pub REQUEST-STATUS : ℕ
REQUEST-STATUS = 30

abbrev pub RESOURCES : ℕ
RESOURCES = 31

abbrev pub RRULE : ℕ
RRULE = 32

abbrev pub SEQUENCE : ℕ
SEQUENCE = 33

abbrev pub STATUS : ℕ
STATUS = 34

abbrev pub SUMMARY : ℕ
SUMMARY = 35

abbrev pub TRANSP : ℕ
TRANSP = 36

abbrev pub TRIGGER : ℕ
TRIGGER = 37

abbrev pub TZID : ℕ
TZID = 38

abbrev pub TZNAME : ℕ
TZNAME = 39

abbrev pub TZOFFSETFROM : ℕ
TZOFFSETFROM = 40

abbrev pub TZOFFSETTO : ℕ
TZOFFSETTO = 41

abbrev pub TZURL : ℕ
TZURL = 42

abbrev pub UID : ℕ
UID = 43

abbrev pub URL : ℕ
URL = 44

abbrev pub VERSION : ℕ
VERSION = 45

abbrev pub KNOWN : ℕ
KNOWN = 46
