-- Laws. Pieces of canonical text, whatever document they are written from.
--     Leaves    values that are characters in the document
--     Reading   the type of what was read
--     Joining   pieces with a separator between them, in a loop
--     Typing    VALUE, where it must stand
--     Room      a line that was written into the room for one
pub mod Leaves
pub mod Reading
pub mod Joining
pub mod Typing
pub mod Room
