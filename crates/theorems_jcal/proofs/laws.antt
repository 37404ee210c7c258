-- Laws. What the theorems' proofs need.
--     Calls      what an accepted call of jCal states, and what it gives
--     Objects    the jCal objects of canonical jCal
--     Split      what jCal is written of a calendar with a gap for one property
pub mod Calls
pub mod Objects
pub mod Split
