-- A JSON text by places.
--     TreeAt        the tokens, elements and members from a place on
--     Ends          where a string ends
--     Pieces        the token at a place
--     Closing       the end of an open array or object
--     Heads         the elements of an array, one by one
--     Kinds         the kinds of elements
--     MemberHeads   the members of an object, one by one
--     laws          laws of these, and what proofs need
pub mod TreeAt
pub mod Ends
pub mod Pieces
pub mod Closing
pub mod Heads
pub mod Kinds
pub mod MemberHeads
pub mod laws
