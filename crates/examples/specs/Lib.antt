-- Worked examples of both conversions, each computed by the definitions alone.
--     Notation       how texts and documents are written down here
--     Readings       the starred readings of the rules, one table under one claim
--     Rota           the whole rota of the rules, both ways
--     MeetingsPage   the document of RFC 6321, appendix B.2.2, as it is printed
--     Appendix       both examples of RFC 6321, appendix B
--     Worked         lines, elements and whole texts, both ways
--     Refusals       each refusal, with its place
--     Todos          to-dos that are due, and events without DTSTART
--     Fleets         unrecognised components
--     Joined         two rotas that are joined
--     Edited         the line of one property is another
--     Buffers        whole calls, with the lent buffers afterwards
pub mod Notation
pub mod Readings
pub mod Rota
pub mod MeetingsPage
pub mod Appendix
pub mod Worked
pub mod Refusals
pub mod Todos
pub mod Fleets
pub mod Joined
pub mod Edited
pub mod Buffers
