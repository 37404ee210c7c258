-- A cursor over lent bytes in a given encoding.
--     Mark        where the name of a character begins
--     Characters  the characters of an XML element
--     Quoted      the characters of a JSON string
--     Source   the characters from a cursor on, and the contract of a step
--     Stepping  the step over characters that may be named by their code points
--     Examples  computed
--     laws        laws of these, and what proofs need
pub mod Mark
pub mod Characters
pub mod Quoted
pub mod Source
pub mod Stepping
pub mod Examples
pub mod laws
