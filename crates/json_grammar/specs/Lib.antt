-- JSON texts by the grammar of RFC 8259, beside the check of crate json_text, which goes a byte at a time.
--     Grammar    the grammar, rule by rule; depth and what escapes may name
--     Faults     what is told of the place of a fault
--     Computing  opens all definitions, for examples that compute
--     Examples   a derivation, its spelling
pub mod Grammar
pub mod Faults
pub mod Computing
pub mod Examples
