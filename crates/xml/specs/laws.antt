-- Laws. The XML profile: reading and writing documents, with nothing of calendars but the root's name and the namespace.
--     Pieces          pieces of markup, with which XML's productions are written
--     NodesAt         the content of an element from a place on
--     CharAt          the character at a place
--     Starting        given bytes at a place
--     Digits          the digits of a character reference, read from the left
--     References      the readings of references and literal bytes
--     ReferenceBytes  the first bytes of a reference beyond ASCII
--     Escape          writing: character data, tags, elements, the document
--     Reads           tags and character data that are written are read back as marks
--     Content         the content of an element as it is written
--     ReadBack        content that is written is read back as nodes
--     Decoding        a decoder of UTF-8 beside the tokens of a document
--     CleanRuns       the characters up to the next tag
--     DocumentBack    a document that is written is within the profile and is read back
pub mod Pieces
pub mod NodesAt
pub mod CharAt
pub mod Starting
pub mod Digits
pub mod References
pub mod ReferenceBytes
pub mod Escape
pub mod Reads
pub mod Content
pub mod ReadBack
pub mod Decoding
pub mod CleanRuns
pub mod DocumentBack
