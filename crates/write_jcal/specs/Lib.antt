-- The canonical jCal of a text.
--     Walks      what is written of the entries of a component, one by one
--     Alone      whether there is one component, and not another
--     Places     the places that a walk over the lines of a text comes to
--     laws       laws of these, and what proofs need
pub mod Walks
pub mod Alone
pub mod Places
pub mod laws
