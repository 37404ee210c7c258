-- Laws of the loops.
--     Walking    a walk over the lines of a component that writes
--     Leading    a walk over the properties before the first subcomponent
--     Seeking    the way to the next component
pub mod Walking
pub mod Leading
pub mod Seeking
