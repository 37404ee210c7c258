-- JSON texts (RFC 8259), with nothing of calendars.
--     Bytes      the bytes of the grammar
--     Check      whether a text is within the grammar and the limits, and where it is not
--     Stack      the open arrays and objects as one number
--     Strings    the characters that a string states
--     CharAt     the character at a place in a string
--     Tree       the value that a text states, with its places
--     Kinds      what a value is, by its kind
--     Write      strings, arrays and objects written
--     Written    a value written, whatever its places
--     Computing  opens all definitions, for examples that compute
--     Examples   texts and their verdicts, values read
--     laws       laws of these, and what proofs need
pub mod Bytes
pub mod Check
pub mod Stack
pub mod Strings
pub mod CharAt
pub mod Tree
pub mod Kinds
pub mod Write
pub mod Written
pub mod Computing
pub mod Examples
pub mod laws
