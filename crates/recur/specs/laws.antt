-- Laws. RECUR (RFC 5545, section 3.3.10): recurrence rules.
--     Parts        the parts of a rule in the schema's order, and what an item of each is
--     Numeral      numbers as the code reads them through the cursor
--     Fits         whether there is an item, as tests
--     Shown        what is written of an item, from its characters
--     PutShown     the rules of the code that writes it
--     Pieces       a rule as the code reads it, piece by piece
--     NumberLaws, WordLaws, EnddateLaws  numbers, words and weekdays, dates are read back
--     ItemLaws     an item is read back from what is written of it, and what is read is an item
--     OrderLaws    the order of a rule's parts
--     PartLaws     one part, NAME=ITEMS, is read back, and what is read is one
--     RuleLaws     a rule is read back from its text, and what is read is a rule
--     PieceLaws    laws of pieces, for each way that the code goes
--     Whole        a rule by its pieces: one part, and the whole rule
--     NotedLaws    the loop that notes where each part stands
pub mod Parts
pub mod Numeral
pub mod Fits
pub mod Shown
pub mod PutShown
pub mod Pieces
pub mod NumberLaws
pub mod WordLaws
pub mod EnddateLaws
pub mod ItemLaws
pub mod OrderLaws
pub mod PartLaws
pub mod RuleLaws
pub mod PieceLaws
pub mod Whole
pub mod NotedLaws
