-- Laws. Reading XML by places in the input.
--     Ends       a piece of markup at a place
--     PieceLaws  single pieces at a place, and the loops that find them
--     Prologue   the prolog at the front of the input
--     TokenAt    a token at a place
--     Tags       tags at a place
--     TokenLaws  the token at a place, by the ways of the code
--     MarksAt    the marks from a place on, by the token there
--     Open       the open elements, as places in the input
--     Formed     the XML profile in one pass
pub mod Ends
pub mod PieceLaws
pub mod Prologue
pub mod TokenAt
pub mod Tags
pub mod TokenLaws
pub mod MarksAt
pub mod Open
pub mod Formed
