-- Laws. The values of a property line, and all faults of the line, as the code finds them.
--     Listed    lists of values
--     ValuesAt  the values of a property in a component, by numbers
--     Faults    the faults of a property's line
pub mod Listed
pub mod ValuesAt
pub mod Faults
