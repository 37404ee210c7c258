-- The XML profile: reading and writing documents, with nothing of calendars but the root's name and the namespace.
--     Pieces        pieces of markup, with which XML's productions are written
--     Token         the token at the front of a list of bytes
--     Prolog        what stands before the root
--     Marks         a document as the list of its marks, with their places
--     WellFormed    whether a document is within the profile, and where it is not
--     Nodes         the content of a document as a tree
--     NodesAt       the content of an element from a place on
--     CharAt        the character at a place
--     Digits        the digits of a character reference, read from the left
--     Escape        writing: character data, tags, elements, the document
--     Reads         tags and character data that are written are read back as marks
--     Content       the content of an element as it is written
--     CleanRuns     the characters up to the next tag
--     Computing     opens all definitions, for examples that compute
--     Examples      documents read, and each kind of fault
--     laws          laws of these, and what proofs need
pub mod Pieces
pub mod Token
pub mod Prolog
pub mod Marks
pub mod WellFormed
pub mod Nodes
pub mod NodesAt
pub mod CharAt
pub mod Digits
pub mod Escape
pub mod Reads
pub mod Content
pub mod CleanRuns
pub mod Computing
pub mod Examples
pub mod laws
