-- Laws. The members of a line's parameters in jCal: the laws of the code that writes them.
--     Shown  what is written of parameters, readable or not; of those that are readable it is the jCal of what they state
--     Walk   the loops that write one value, one parameter after another
--     Parts  a value, a parameter, all parameters of a line, each written by its parts
pub mod Shown
pub mod Walk
pub mod Parts
