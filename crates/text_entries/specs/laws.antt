-- Laws. The lines of a text one by one.
--     Entries  what the lines of a text are, as code finds them
--     Passing  the way past a component
--     Bounds   lines of which only BEGIN and END are asked for
--     Along    a walk over the lines of a component
--     Levels   what stands ahead of a walk over a component's properties
pub mod Entries
pub mod Passing
pub mod Bounds
pub mod Along
pub mod Levels
