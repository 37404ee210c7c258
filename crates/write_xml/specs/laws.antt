-- Laws. The canonical XML of a text.
--     Walks    what is written of the entries of a component, one by one
--     Places   the places that a walk over the lines of a text comes to
--     Parts    the parts of a component's element around its subcomponents
--     Fronts   the declaration and the root's tags by their pieces
--     Written  the document of a text
pub mod Walks
pub mod Places
pub mod Parts
pub mod Fronts
pub mod Written
