-- Laws. The canonical jCal of a text.
--     Walks      what is written of the entries of a component, one by one
--     Places     the places that a walk over the lines of a text comes to
--     Alone      whether there is one component, and the stream
pub mod Walks
pub mod Places
pub mod Alone
