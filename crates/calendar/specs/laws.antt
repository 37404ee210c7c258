-- Laws. The calendar that an input states, and what is answered of an input that states none.
--     Refusal  the refusals with their numbers, and the answer of a reading
pub mod Refusal
