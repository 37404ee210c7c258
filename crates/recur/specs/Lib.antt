-- RECUR (RFC 5545, section 3.3.10): recurrence rules.
--     Parts        the parts of a rule in the schema's order, and what an item of each is
--     Packs        the numbers by which code finds the parts' names
--     Item         one item of a part, read and written
--     Rule         a whole rule in text, read and written
--     Numeral      numbers as the code reads them through the cursor
--     Fits         whether there is an item, as tests
--     Shown        what is written of an item, from its characters
--     Pieces       a rule as the code reads it, piece by piece
--     Noted        where each part of a rule stands
--     Computing    opens all definitions, for examples that compute
--     Examples     computed examples
--     laws         laws of these, and what proofs need
pub mod Parts
pub mod Packs
pub mod Item
pub mod Rule
pub mod Numeral
pub mod Fits
pub mod Shown
pub mod Pieces
pub mod Computing
pub mod Noted
pub mod Examples
pub mod laws
