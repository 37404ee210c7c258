-- Laws. Content lines of RFC 5545, section 3.1, on the bytes of one unfolded line.
--     RoundTrip  a content line written is read back
--     Accepted   what is read is a content line, written as it stood
--     Decoded    a content line in an edition
--     Chars      its classes of characters, one within the other
--     Names      names that can be carried (refusal 5)
--     Items      what a repetition reads before it ends or meets a fault
--     Cursor     the parts of a line read through a cursor: positions, runs of characters, items
--     Repeating  items one after another, through a cursor
--     Values     values of a parameter, through a cursor
--     Params     parameters, through a cursor
--     Line       a content line, through a cursor
--     LineEnd    where a line ends, through a cursor
--     Ready      cursors where a line may begin, and their places
--     Carried    names that can be carried, through a cursor
--     Written    parts of a parameter written one after another
pub mod RoundTrip
pub mod Accepted
pub mod Decoded
pub mod Chars
pub mod Names
pub mod Items
pub mod Cursor
pub mod Repeating
pub mod Values
pub mod Params
pub mod Line
pub mod LineEnd
pub mod Ready
pub mod Carried
pub mod Written
