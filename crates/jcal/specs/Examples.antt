-- A calendar written and read back, two calendars in a stream, what is read beside the canonical form, and each kind of fault at its place.
use Rattle.std.specs.Prelude.{◌≡◌, refl, List, [], ◌∷◌, ◌++◌, map, ℕ, zero, suc}
use Prim.Native.String.{String}
use Rattle.octets.specs.Ascii.{ascii}
use Rattle.calendar.specs.Refusal.{CHARACTER, NAME, FRAME, PARAMETER, VALUE, COUNT, JSON, accepted}
use Rattle.edition.specs.declared.Edition.TheVariants.{Rfc5545, Rfc6868}
use Rattle.validity.specs.Examples.{rota}
use Rattle.jcal.specs.Property.{property_fault, property_of}
use Rattle.jcal.specs.ReadJcal.{read_jcal}
use Rattle.jcal.specs.WriteJcal.{write_jcal}
use Rattle.jcal.specs.Notation.{json, in_event, Given, is, refusal, canonical, property_by, elements_of, property}
use Rattle.jcal.specs.Computing.{jcal_compute}

rota_back : read_jcal Rfc5545 (write_jcal rota) ≡ accepted rota
unfolding jcal_compute
rota_back = refl

-- ---- streams

abbrev one : List ℕ
one = json "['vcalendar',[['prodid',{},'text','p'],['version',{},'text','2.0']],[]]"

-- one calendar, with and without an outer array; two; white space
streams : map canonical (one ∷ (json "[" ++ one ++ json "]") ∷ (json "[" ++ one ++ json " , " ++ one ++ json "]\n") ∷ [])
    ≡ is one ∷ is one ∷ is (json "[" ++ one ++ json "," ++ one ++ json "]") ∷ []
unfolding jcal_compute
streams = refl

-- no calendar; no array; an element that is no calendar; a component at the top
no_streams : map canonical (json " []" ∷ json "[[]]" ∷ json "{}" ∷ json "'a'" ∷ (json "[" ++ one ++ json ", 'x']") ∷ json "['vevent',[],[]]" ∷ [])
    ≡ refusal FRAME 1 ∷ refusal FRAME 1 ∷ refusal FRAME 0 ∷ refusal FRAME 0 ∷ refusal FRAME 74 ∷ refusal FRAME 0 ∷ []
unfolding jcal_compute
no_streams = refl

-- ---- components

components : map canonical (
    json "['vcalendar',[ 1],[]]" ∷ json "['vcalendar',[],[{}]]" ∷ json "['vcalendar',[],{}]" ∷ json "['vcalendar',[]]" ∷ json "['vcalendar',[],[],[]]" ∷
    json "['VCALENDAR',[],[]]" ∷ json "['vcalendar',[],[['a b',[]]]]" ∷ json "['vcalendar',[],[['vevent',[],[]]]]" ∷ json "['vcalendar',[],[]]" ∷
    json "['vcalendar',[],[['vjournal',[],[['valarm',[],[]]]]]]" ∷ [])
    ≡ refusal FRAME 15 ∷ refusal FRAME 17 ∷ refusal FRAME 0 ∷ refusal FRAME 0 ∷ refusal FRAME 0 ∷
    refusal NAME 0 ∷ refusal NAME 17 ∷ refusal COUNT 32 ∷ refusal COUNT 18 ∷ refusal FRAME 33 ∷ []
unfolding jcal_compute
components = refl

-- ---- unrecognised components

-- a calendar with a component in it
abbrev holding : List ℕ → List ℕ
holding s = json "['vcalendar',[['prodid',{},'text','p'],['version',{},'text','2.0']],[" ++ s ++ json "]]"

-- so many of them inside one another, and in the innermost something else
abbrev nested : ℕ → List ℕ → List ℕ
nested zero s = s
nested (suc n) s = json "['x-a',[],[" ++ nested n s ++ json "]]"

-- any own property, any number of times; the names `begin` and `end`; eight levels below the calendar
carried : map canonical (
    holding (json "['x-a',[['uid',{},'text','u'],['uid',{},'text','v'],['status',{},'text','FINAL']],[]]") ∷ holding (json "['begin',[],[['end',[],[]]]]") ∷ holding (nested 8 []) ∷ [])
    ≡ is (holding (json "['x-a',[['uid',{},'text','u'],['uid',{},'text','v'],['status',{},'text','FINAL']],[]]")) ∷ is (holding (json "['begin',[],[['end',[],[]]]]")) ∷ is (holding (nested 8 [])) ∷ []
unfolding jcal_compute
carried = refl

-- a name that can't be carried, or is none; one at the top; a VCALENDAR inside; in an event; a ninth level, also of a known component, and of a bad name
not_carried : map canonical (
    holding (json "['xmla',[],[]]") ∷ holding (json "['1a',[]]") ∷ json "['x-a',[],[]]" ∷ holding (json "['x-a',[],[['vcalendar',[],[]]]]") ∷ holding (json "['vevent',[],[['x-a',[],[]]]]") ∷
    holding (nested 9 []) ∷ holding (nested 8 (json "['valarm',[],[]]")) ∷ holding (nested 8 (json "['1a',[],[]]")) ∷ [])
    ≡ refusal NAME 69 ∷ refusal NAME 69 ∷ refusal FRAME 0 ∷ refusal FRAME 80 ∷ refusal FRAME 83 ∷
    refusal FRAME 157 ∷ refusal FRAME 157 ∷ refusal NAME 157 ∷ []
unfolding jcal_compute
not_carried = refl

-- ---- properties of an event

abbrev properties : List String → List Given
properties l = map (property (ascii "VEVENT")) l

-- numbers by value, a parameter of one value in an array, a rule's members in any order and in arrays
read_otherwise : properties (
    "['x-a',{},'integer',10.0e-1]" ∷ "['x-a',{},'integer',0e999999999999]" ∷ "['x-a',{},'integer',-0]" ∷ "['x-a',{},'integer',21474836.47E2]" ∷ "['x-a',{},'float',-0.50]" ∷
    "['attendee',{'cn':['A'],'member':'a:b','rsvp':'TRUE'},'cal-address','c:d']" ∷ "['rrule',{},'recur',{'count':[5],'byday':'-1SU','freq':['DAILY']}]" ∷ [])
    ≡ is (json "['x-a',{},'integer',1]") ∷ is (json "['x-a',{},'integer',0]") ∷ is (json "['x-a',{},'integer',0]") ∷ is (json "['x-a',{},'integer',2147483647]") ∷ is (json "['x-a',{},'float',-0.5]") ∷
    is (json "['attendee',{'cn':'A','member':'a:b','rsvp':'TRUE'},'cal-address','c:d']") ∷ is (json "['rrule',{},'recur',{'freq':'DAILY','count':5,'byday':'-1SU'}]") ∷ []
unfolding jcal_compute
read_otherwise = refl

-- NAME: no name, capitals, a name that can't be carried, `begin`, `value`; also where another element is at fault
names : properties ("['a b',{},'text','x']" ∷ "['',{},'text','x']" ∷ "['Summary',{},'text','x']" ∷ "['xml-a',{},'text','x']" ∷ "['begin',{},'text','x']" ∷
    "['x-a',{'value':'TEXT'},'text','x']" ∷ "['due',{'CN':'a'},'text']" ∷ "[1,{'CN':'a'},2]" ∷ [])
    ≡ map (λ (n : ℕ). refusal NAME 0) (1 ∷ 2 ∷ 3 ∷ 4 ∷ 5 ∷ 6 ∷ 7 ∷ 8 ∷ [])
unfolding jcal_compute
names = refl

-- FRAME: elements that are missing, surplus or wrong; a type that is none; a property that stands elsewhere
frames : properties ("[]" ∷ "['x-a',{},'text']" ∷ "['summary',{},'text','a','b']" ∷ "['x-a',[],'text','a']" ∷ "[1,{},'text','a']" ∷ "['x-a',{},'TEXT','x']" ∷ "['x-a',{},'x-type','x']" ∷
    "['geo',{},'float',1,2]" ∷ "['due',{},'date','2024-05-04']" ∷ [])
    ≡ map (λ (n : ℕ). refusal FRAME 0) (1 ∷ 2 ∷ 3 ∷ 4 ∷ 5 ∷ 6 ∷ 7 ∷ 8 ∷ 9 ∷ [])
unfolding jcal_compute
frames = refl

-- PARAMETER: a value of another kind, none, too many, an array in an array, a name twice, one that is not permitted, words, a double quote, no ENCODING
parameters : properties ("['attendee',{'rsvp':'true'},'cal-address','a:b']" ∷ "['attendee',{'rsvp':true},'cal-address','a:b']" ∷ "['x-a',{'b':[]},'text','x']" ∷ "['x-a',{'cn':['a','b']},'text','x']" ∷
    "['x-a',{'b':[['c']]},'text','x']" ∷ "['x-a',{'b':'c','b':'d'},'text','x']" ∷ "['summary',{'rsvp':'TRUE'},'text','x']" ∷ "['attendee',{'role':'chair'},'cal-address','a:b']" ∷
    "['x-a',{'b':'\\\\'},'text','x']" ∷ "['x-a',{'b':'\\u0022'},'text','x']" ∷ "['x-a',{},'binary','AAAA']" ∷ "['x-a',{'encoding':'8BIT'},'binary','AAAA']" ∷ [])
    ≡ refusal PARAMETER 0 ∷ refusal PARAMETER 0 ∷ refusal PARAMETER 0 ∷ refusal PARAMETER 0 ∷
    refusal PARAMETER 0 ∷ refusal PARAMETER 0 ∷ refusal PARAMETER 0 ∷ refusal PARAMETER 0 ∷
    is (json "['x-a',{'b':'\\\\'},'text','x']") ∷ refusal PARAMETER 0 ∷ refusal PARAMETER 0 ∷ refusal PARAMETER 0 ∷ []
unfolding jcal_compute
parameters = refl

-- with the carets of RFC 6868 a double quote and LF can be spelled, but not in a URI
abbrev with_carets : String → Given
with_carets s = property_by (property_fault Rfc6868 (ascii "VEVENT") (elements_of s)) (property_of (ascii "VEVENT") (elements_of s))

carets : map with_carets ("['x-a',{'cn':'\\u0022\\n^'},'text','x']" ∷ "['x-a',{'b':'\\u0022\\n^'},'text','x']" ∷ "['summary',{'altrep':'a:\\u0022'},'text','x']" ∷ [])
    ≡ is (json "['x-a',{'cn':'\\'\\n^'},'text','x']") ∷ is (json "['x-a',{'b':'\\'\\n^'},'text','x']") ∷ refusal PARAMETER 0 ∷ []
unfolding jcal_compute
carets = refl

-- VALUE
values : properties ("['x-a',{'encoding':'BASE64'},'binary','AA AA']" ∷ "['x-a',{},'boolean','true']" ∷ "['x-a',{},'float',1e2]" ∷ "['x-a',{},'integer',1.5]" ∷ "['x-a',{},'integer',1e10]" ∷
    "['x-a',{},'integer','1']" ∷ "['x-a',{},'period','2006-01-02T15:00:00/PT2H']" ∷ "['rrule',{},'recur',{'freq':'DAILY','count':5.0}]" ∷ "['rrule',{},'recur',{'freq':'DAILY','bysecond':-0}]" ∷
    "['rrule',{},'recur',{'freq':['DAILY','DAILY']}]" ∷ "['rrule',{},'recur',{'freq':'DAILY','byday':[]}]" ∷ "['rrule',{},'recur',{'FREQ':'DAILY'}]" ∷ "['rrule',{},'recur',{}]" ∷
    "['rrule',{},'recur',{'freq':'DAILY','freq':'DAILY'}]" ∷ "['summary',{},'unknown','x']" ∷ "['geo',{},'text',[1,2]]" ∷ "['geo',{},'float',[1]]" ∷ "['categories',{},'text',['a','b']]" ∷
    "['class',{},'text','public']" ∷ "['x-a',{},'text',null]" ∷ [])
    ≡ map (λ (n : ℕ). refusal VALUE 0) (1 ∷ 2 ∷ 3 ∷ 4 ∷ 5 ∷ 6 ∷ 7 ∷ 8 ∷ 9 ∷ 10 ∷ 11 ∷ 12 ∷ 13 ∷ 14 ∷ 15 ∷ 16 ∷ 17 ∷ 18 ∷ 19 ∷ 20 ∷ [])
unfolding jcal_compute
values = refl

-- ---- over the whole text, and the place of a property

whole : map canonical (
    in_event (json "['x-a',{},'text','\\uD800']") ∷ in_event (json "['x-a',{},'text','x'") ∷ in_event (json "['x-a',{},'text','" ++ (1 ∷ []) ++ json "']") ∷
    in_event (json "['x-a',{},'text',1]") ∷ in_event (json "1") ∷ in_event (json "['x-a',{},'text','x'],['uid',{},'text','v']") ∷ json "['A'," ∷ [])
    ≡ refusal JSON 219 ∷ refusal JSON 228 ∷ refusal CHARACTER 219 ∷
    refusal VALUE 201 ∷ refusal FRAME 201 ∷ refusal COUNT 248 ∷ refusal JSON 5 ∷ []
unfolding jcal_compute
whole = refl
