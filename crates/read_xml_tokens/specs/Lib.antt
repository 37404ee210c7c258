-- Reading XML by places in the input.
--     Ends         a piece of markup at a place
--     Prologue     the prolog at the front of the input
--     TokenAt      a token at a place
--     Tags         tags at a place
--     MarksAt      the marks from a place on, by the token there
--     Open         the open elements, as places in the input
--     Formed       the XML profile in one pass
--     laws         laws of these, and what proofs need
pub mod Ends
pub mod Prologue
pub mod TokenAt
pub mod Tags
pub mod MarksAt
pub mod Open
pub mod Formed
pub mod laws
