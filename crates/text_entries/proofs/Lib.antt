-- Laws of the loops.
--     Past       the way past a component
pub mod Past
