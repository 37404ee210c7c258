-- Laws of the loops.
--     Walking    a walk over the lines of a component that writes
--     Leading    a walk over the properties before the first subcomponent
pub mod Walking
pub mod Leading
