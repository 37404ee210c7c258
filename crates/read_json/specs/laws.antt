-- Laws. A JSON text by places.
--     Ends          where a string, a number or a literal ends, and what follows a string
--     TreeAt        the tokens from a place on, by the byte there
--     Pieces        the token at a place
--     Closing       the end of an open array or object
--     Heads         the elements of an array, one by one
--     Kinds         the kinds of elements
--     MemberHeads   the members of an object, one by one
pub mod Ends
pub mod TreeAt
pub mod Pieces
pub mod Closing
pub mod Heads
pub mod Kinds
pub mod MemberHeads
