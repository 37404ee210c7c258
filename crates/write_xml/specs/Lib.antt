-- The canonical XML of a text.
--     Walks      what is written of the entries of a component, one by one
--     Places     the places that a walk over the lines of a text comes to
--     Parts      the parts of a component's element around its subcomponents
--     Fronts     what stands before the components, by its pieces
--     laws       laws of these, and what proofs need
pub mod Walks
pub mod Places
pub mod Parts
pub mod Fronts
pub mod laws
