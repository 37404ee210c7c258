-- The characters that an input may hold, in UTF-8.
--     Utf8     where a list of bytes holds anything else
--     Automaton  the check, a byte at a time
--     Spell    the bytes of a code point
--     SpellAt  the same by their numbers
--     Computing  opens all of these, for examples that compute
--     Examples   computed
--     laws     laws of these, and what proofs need
pub mod Utf8
pub mod Automaton
pub mod Spell
pub mod SpellAt
pub mod Computing
pub mod Examples
pub mod laws
