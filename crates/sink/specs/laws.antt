-- Laws. The specifications of the clipping sink.
--     Sink    writes, one after another and in loops
--     Rest    a write into the rest of a list
pub mod Sink
pub mod Rest
