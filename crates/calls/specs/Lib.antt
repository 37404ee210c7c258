-- The two conversions: the complete answer of each call.
--     Conversion    what a call answers and what it leaves in the lent buffers, of what its input states
--     ToXml         iCalendar text to canonical XML
--     ToXmlFolded   the same, read with its folds in place
--     ToText        xCal to canonical text
--     Answered      what the code answers, as an outcome and as one number
--     Computing     opens all of these, for examples that compute
--     laws          laws of these, and what proofs need
pub mod Conversion
pub mod ToXml
pub mod ToXmlFolded
pub mod ToText
pub mod Answered
pub mod Computing
pub mod laws
