-- Logs that are split, by computation.
use Rattle.std.specs.Prelude.{◌≡◌, refl, [], ◌∷◌, None}
use Rattle.octets.specs.Ascii.{ascii}
use Rattle.octets.specs.Many.{ok}
use Rattle.octets.specs.Computing.{octets_compute}
use Rattle.documents.specs.Log.{ahead, document_end, documents}

-- no document ends in an end tag with no LF behind it, nor where a log was cut off
no_end : document_end (ascii "<icalendar></icalendar><icalendar></icalendar>") ≡ None
unfolding octets_compute document_end ahead
no_end = refl

-- two documents, the first with an element that has the root's name, and a part of a third
two : documents (ascii "<a><icalendar></icalendar></a></icalendar>\n<b><</icalendar>\n<c></icalendar>")
    ≡ ok (ascii "<a><icalendar></icalendar></a></icalendar>\n" ∷ ascii "<b><</icalendar>\n" ∷ []) (ascii "<c></icalendar>")
unfolding octets_compute document_end ahead documents
two = refl
