-- The examples of RFC 7265, read and written in canonical form. Where the RFC's own example breaks its rules or ours, it is said.
--     sections    of sections 3.4 to 3.6 and 5.3
--     b1, b2      of appendix B
use Rattle.std.specs.Prelude.{◌≡◌, refl, List, [], ◌∷◌, ◌++◌, map, ℕ}
use Rattle.octets.specs.Ascii.{ascii}
use Rattle.calendar.specs.Refusal.{PARAMETER, VALUE}
use Rattle.jcal.specs.Notation.{json, is, refusal, canonical, property}
use Rattle.jcal.specs.Computing.{jcal_compute}

-- ---- sections 3.4 to 3.6 and 5.3, each property in a component in which it may stand

sections_3_4 : map (property (ascii "VEVENT")) (
    "['summary', {}, 'text', 'Meeting with Fred']" ∷
    "['categories', {}, 'text', 'Meetings', 'Work']" ∷
    "['geo', {}, 'float', [ 37.386013, -122.082932 ] ]" ∷
    "['request-status', {}, 'text', ['2.0', 'Success'] ]" ∷
    "['request-status', {}, 'text', [ '3.7', 'Invalid calendar user', 'ATTENDEE:mailto:jsmith@example.org' ] ]" ∷ [])
    ≡ is (json "['summary',{},'text','Meeting with Fred']") ∷
    is (json "['categories',{},'text','Meetings','Work']") ∷
    is (json "['geo',{},'float',[37.386013,-122.082932]]") ∷
    is (json "['request-status',{},'text',['2.0','Success']]") ∷
    is (json "['request-status',{},'text',['3.7','Invalid calendar user','ATTENDEE:mailto:jsmith@example.org']]") ∷ []
unfolding jcal_compute
sections_3_4 = refl

-- parameters stand in the order of the text
section_3_5 : map (property (ascii "VEVENT")) (
    "['attendee', { 'partstat': 'ACCEPTED', 'rsvp': 'TRUE', 'role': 'REQ-PARTICIPANT' }, 'cal-address', 'mailto:jsmith@example.org' ]" ∷
    "['attendee', { 'delegated-to': ['mailto:jdoe@example.org', 'mailto:jqpublic@example.org'] }, 'cal-address', 'mailto:jsmith@example.org' ]" ∷
    "['attendee', { 'delegated-to': 'mailto:jdoe@example.org' }, 'cal-address', 'mailto:jsmith@example.org' ]" ∷ [])
    ≡ is (json "['attendee',{'partstat':'ACCEPTED','rsvp':'TRUE','role':'REQ-PARTICIPANT'},'cal-address','mailto:jsmith@example.org']") ∷
    is (json "['attendee',{'delegated-to':['mailto:jdoe@example.org','mailto:jqpublic@example.org']},'cal-address','mailto:jsmith@example.org']") ∷
    is (json "['attendee',{'delegated-to':'mailto:jdoe@example.org'},'cal-address','mailto:jsmith@example.org']") ∷ []
unfolding jcal_compute
section_3_5 = refl

-- 3.6.1: ENCODING is missing in the RFC's example; a calendar keeps it, and BINARY needs it
section_3_6 : map (property (ascii "VEVENT")) (
    "['attach', {}, 'binary', 'SGVsbG8gV29ybGQh']" ∷
    "['attach', {'encoding':'BASE64'}, 'binary', 'SGVsbG8gV29ybGQh']" ∷
    "['x-non-smoking', {}, 'boolean', true]" ∷
    "['attendee', {}, 'cal-address', 'mailto:kewisch@example.com']" ∷
    "['dtstart', {}, 'date', '2011-05-17']" ∷
    "['dtstamp', {}, 'date-time', '2012-10-17T12:00:00Z']" ∷
    "['dtend', { 'tzid': 'Europe/Berlin' }, 'date-time', '2011-10-17T13:00:00' ]" ∷
    "['duration', {}, 'duration', 'P1D']" ∷
    "['x-grade', {}, 'float', 1.3]" ∷
    "['rrule', {}, 'recur', { 'freq': 'YEARLY', 'count': 5, 'byday': [ '-1SU', '2MO' ], 'bymonth': 10 } ]" ∷
    "['rrule', {}, 'recur', { 'freq': 'MONTHLY', 'interval': 2, 'bymonthday': [ 1, 15, -1 ], 'until': '2013-10-01' } ]" ∷
    "['comment', {}, 'text', 'hello, world']" ∷
    "['x-time-local', {}, 'time', '12:30:00']" ∷
    "['x-time-offset', { 'tzid': 'Europe/Berlin' }, 'time', '12:30:00']" ∷ [])
    ≡ refusal PARAMETER 0 ∷
    is (json "['attach',{'encoding':'BASE64'},'binary','SGVsbG8gV29ybGQh']") ∷
    is (json "['x-non-smoking',{},'boolean',true]") ∷
    is (json "['attendee',{},'cal-address','mailto:kewisch@example.com']") ∷
    is (json "['dtstart',{},'date','2011-05-17']") ∷
    is (json "['dtstamp',{},'date-time','2012-10-17T12:00:00Z']") ∷
    is (json "['dtend',{'tzid':'Europe/Berlin'},'date-time','2011-10-17T13:00:00']") ∷
    is (json "['duration',{},'duration','P1D']") ∷
    is (json "['x-grade',{},'float',1.3]") ∷
    is (json "['rrule',{},'recur',{'freq':'YEARLY','count':5,'byday':['-1SU','2MO'],'bymonth':10}]") ∷
    is (json "['rrule',{},'recur',{'freq':'MONTHLY','until':'2013-10-01','interval':2,'bymonthday':[1,15,-1]}]") ∷
    is (json "['comment',{},'text','hello, world']") ∷
    is (json "['x-time-local',{},'time','12:30:00']") ∷
    is (json "['x-time-offset',{'tzid':'Europe/Berlin'},'time','12:30:00']") ∷ []
unfolding jcal_compute
section_3_6 = refl

others : property (ascii "VTODO") "['percent-complete', {}, 'integer', 42]" ∷
    property (ascii "VFREEBUSY") "['freebusy', { 'fbtype': 'FREE' }, 'period', ['1997-03-08T16:00:00Z', 'P1D'] ]" ∷
    property (ascii "VTIMEZONE") "['tzurl', {}, 'uri', 'http://example.org/tz/Europe-Berlin.ics']" ∷
    property (ascii "STANDARD") "['tzoffsetfrom', {}, 'utc-offset', '-05:00']" ∷
    property (ascii "VEVENT") "['x-complaint-deadline', {}, 'unknown', '20110512T120000Z']" ∷
    property (ascii "VEVENT") "['x-coffee-data', {}, 'unknown', 'Stenophylla;Guinea\\\\,Africa']" ∷
    property (ascii "VEVENT") "['dtstart', { 'x-slack': '30.3' }, 'date', '2011-05-12']" ∷ []
    ≡ is (json "['percent-complete',{},'integer',42]") ∷
    is (json "['freebusy',{'fbtype':'FREE'},'period',['1997-03-08T16:00:00Z','P1D']]") ∷
    is (json "['tzurl',{},'uri','http://example.org/tz/Europe-Berlin.ics']") ∷
    is (json "['tzoffsetfrom',{},'utc-offset','-05:00']") ∷
    is (json "['x-complaint-deadline',{},'unknown','20110512T120000Z']") ∷
    is (json "['x-coffee-data',{},'unknown','Stenophylla;Guinea\\\\,Africa']") ∷
    is (json "['dtstart',{'x-slack':'30.3'},'date','2011-05-12']") ∷ []
unfolding jcal_compute
others = refl

-- ---- appendix B

b1 : canonical (
    json "['vcalendar',\n  [\n    ['calscale', {}, 'text', 'GREGORIAN'],\n    ['prodid', {}, 'text', '-//Example Inc.//Example Calendar//EN'],\n    ['version', {}, 'text', '2.0']\n  ],\n"
    ++ json "  [\n    ['vevent',\n      [\n        ['dtstamp', {}, 'date-time', '2008-02-05T19:12:24Z'],\n        ['dtstart', {}, 'date', '2008-10-06'],\n"
    ++ json "        ['summary', {}, 'text', 'Planning meeting'],\n        ['uid', {}, 'text', '4088E990AD89CB3DBB484909']\n      ],\n      []\n    ]\n  ]\n]\n")
    ≡ is (
    json "['vcalendar',[['calscale',{},'text','GREGORIAN'],['prodid',{},'text','-//Example Inc.//Example Calendar//EN'],['version',{},'text','2.0']],"
    ++ json "[['vevent',[['dtstamp',{},'date-time','2008-02-05T19:12:24Z'],['dtstart',{},'date','2008-10-06'],"
    ++ json "['summary',{},'text','Planning meeting'],['uid',{},'text','4088E990AD89CB3DBB484909']],[]]]]")
unfolding jcal_compute
b1 = refl

-- B.2.2, with its strings joined. Its PERIOD is one string, against 3.6.9: `period` is the value of RDATE, whose array is at place 972
abbrev b22 : List ℕ → List ℕ
b22 period =
    json "['vcalendar',[['prodid', {}, 'text', '-//Example Corp.//Example Client//EN'],['version', {}, 'text', '2.0']],"
    ++ json "[['vtimezone',[['last-modified', {}, 'date-time', '2004-01-10T03:28:45Z'],['tzid', {}, 'text', 'US/Eastern']],"
    ++ json "[['daylight',[['dtstart', {}, 'date-time', '2000-04-04T02:00:00'],['rrule',{},'recur',{ 'freq': 'YEARLY', 'byday': '1SU', 'bymonth': 4 }],"
    ++ json "['tzname', {}, 'text', 'EDT'],['tzoffsetfrom', {}, 'utc-offset', '-05:00'],['tzoffsetto', {}, 'utc-offset', '-04:00']],[]],"
    ++ json "['standard',[['dtstart', {}, 'date-time', '2000-10-26T02:00:00'],['rrule',{},'recur',{ 'freq': 'YEARLY', 'byday': '1SU', 'bymonth': 10 }],"
    ++ json "['tzname', {}, 'text', 'EST'],['tzoffsetfrom', {}, 'utc-offset', '-04:00'],['tzoffsetto', {}, 'utc-offset', '-05:00']],[]]]],"
    ++ json "['vevent',[['dtstamp', {}, 'date-time', '2006-02-06T00:11:21Z'],['dtstart',{ 'tzid': 'US/Eastern' },'date-time','2006-01-02T12:00:00'],"
    ++ json "['duration', {}, 'duration', 'PT1H'],['rrule', {}, 'recur', { 'freq': 'DAILY', 'count': 5 } ],['rdate',{ 'tzid': 'US/Eastern' },'period'," ++ period ++ json "],"
    ++ json "['summary', {}, 'text', 'Event #2'],['description',{},'text','We are having a meeting all this week at 12 pm for one hour, with an additional meeting"
    ++ json " on the first day 2 hours long.\\nPlease bring your own lunch for the 12 pm meetings.'],['uid', {}, 'text', '00959BC664CA650E933C892C@example.com']],[]],"
    ++ json "['vevent',[['dtstamp', {}, 'date-time', '2006-02-06T00:11:21Z'],['dtstart',{ 'tzid': 'US/Eastern' },'date-time','2006-01-02T14:00:00'],"
    ++ json "['duration', {}, 'duration', 'PT1H'],['recurrence-id',{ 'tzid': 'US/Eastern' },'date-time','2006-01-04T12:00:00'],"
    ++ json "['summary', {}, 'text', 'Event #2'],['uid', {}, 'text', '00959BC664CA650E933C892C@example.com']],[]]]]"

-- the same without white space outside strings
abbrev canonical_b22 : List ℕ
canonical_b22 =
    json "['vcalendar',[['prodid',{},'text','-//Example Corp.//Example Client//EN'],['version',{},'text','2.0']],"
    ++ json "[['vtimezone',[['last-modified',{},'date-time','2004-01-10T03:28:45Z'],['tzid',{},'text','US/Eastern']],"
    ++ json "[['daylight',[['dtstart',{},'date-time','2000-04-04T02:00:00'],['rrule',{},'recur',{'freq':'YEARLY','byday':'1SU','bymonth':4}],"
    ++ json "['tzname',{},'text','EDT'],['tzoffsetfrom',{},'utc-offset','-05:00'],['tzoffsetto',{},'utc-offset','-04:00']],[]],"
    ++ json "['standard',[['dtstart',{},'date-time','2000-10-26T02:00:00'],['rrule',{},'recur',{'freq':'YEARLY','byday':'1SU','bymonth':10}],"
    ++ json "['tzname',{},'text','EST'],['tzoffsetfrom',{},'utc-offset','-04:00'],['tzoffsetto',{},'utc-offset','-05:00']],[]]]],"
    ++ json "['vevent',[['dtstamp',{},'date-time','2006-02-06T00:11:21Z'],['dtstart',{'tzid':'US/Eastern'},'date-time','2006-01-02T12:00:00'],"
    ++ json "['duration',{},'duration','PT1H'],['rrule',{},'recur',{'freq':'DAILY','count':5}],['rdate',{'tzid':'US/Eastern'},'period',['2006-01-02T15:00:00','PT2H']],"
    ++ json "['summary',{},'text','Event #2'],['description',{},'text','We are having a meeting all this week at 12 pm for one hour, with an additional meeting"
    ++ json " on the first day 2 hours long.\\nPlease bring your own lunch for the 12 pm meetings.'],['uid',{},'text','00959BC664CA650E933C892C@example.com']],[]],"
    ++ json "['vevent',[['dtstamp',{},'date-time','2006-02-06T00:11:21Z'],['dtstart',{'tzid':'US/Eastern'},'date-time','2006-01-02T14:00:00'],"
    ++ json "['duration',{},'duration','PT1H'],['recurrence-id',{'tzid':'US/Eastern'},'date-time','2006-01-04T12:00:00'],"
    ++ json "['summary',{},'text','Event #2'],['uid',{},'text','00959BC664CA650E933C892C@example.com']],[]]]]"

b2 : map canonical (b22 (json "'2006-01-02T15:00:00/PT2H'") ∷ b22 (json "['2006-01-02T15:00:00', 'PT2H']") ∷ canonical_b22 ∷ [])
    ≡ refusal VALUE 972 ∷ is canonical_b22 ∷ is canonical_b22 ∷ []
unfolding jcal_compute
b2 = refl
