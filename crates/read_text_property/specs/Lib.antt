-- The values of a property line, and all faults of the line, as the code finds them. Definitions are in text.
--     Listed       lists of values
--     ValuesAt     the values of a property in a component, by numbers
--     Faults       the faults of a property's line
--     laws         laws of these, and what proofs need
pub mod Listed
pub mod ValuesAt
pub mod Faults
pub mod laws
