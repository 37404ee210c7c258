-- The lines of a text one by one.
--     Entries    what the lines of a text are, as code finds them
--     Passing    the way past a component
--     Bounds     lines of which only BEGIN and END are asked for
--     Levels     what stands ahead of a walk over a component's properties, as deep as levels are left
--     laws       laws of these, and what proofs need
pub mod Entries
pub mod Passing
pub mod Bounds
pub mod Levels
pub mod laws
