-- The verdict on the elements of a property's value.
--     Sequencing      children in a fixed order, taken one after another
--     Leaves          an element of character data
--     ElementTypes    the types that elements are named as
--     Parts           the children of PERIOD and RECUR, and their slots, by numbers
--     PartContents    what stands in them, and which slots must be filled
--     Turning         a walk over them
--     Values          an element of a property's value, by numbers
--     laws            laws of these, and what proofs need
pub mod Sequencing
pub mod Leaves
pub mod ElementTypes
pub mod Parts
pub mod PartContents
pub mod Turning
pub mod Values
pub mod laws
