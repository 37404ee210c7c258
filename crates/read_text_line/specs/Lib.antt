-- Content lines of RFC 5545, section 3.1, on the bytes of one unfolded line.
--     ContentLine  the grammar, read by recursive descent
--     Write        a content line written
--     Decoded      a content line in an edition
--     Names        names that can be carried (refusal 5)
--     Items        what a repetition reads before it ends or meets a fault
--     Cursor       the parts of a line read through a cursor: positions, runs of characters, items
--     Repeating    items one after another, through a cursor
--     Values       values of a parameter, through a cursor
--     Params       parameters, through a cursor
--     Line         a content line, through a cursor
--     LineEnd      where a line ends, through a cursor
--     Ready        cursors where a line may begin, and their places
--     Carried      names that can be carried, through a cursor
--     Written      parts of a parameter written one after another
--     Computing    opens all of these, for examples that compute
--     Examples     lines that are read, lines that are refused, lines that are written
--     laws         laws of these, and what proofs need
pub mod ContentLine
pub mod Write
pub mod Decoded
pub mod Names
pub mod Items
pub mod Cursor
pub mod Repeating
pub mod Values
pub mod Params
pub mod Line
pub mod LineEnd
pub mod Ready
pub mod Carried
pub mod Written
pub mod Computing
pub mod Examples
pub mod laws
