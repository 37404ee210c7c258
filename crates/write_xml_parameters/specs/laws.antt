-- Laws. The XML of a line's parameters: the laws of the code that writes it.
--     Shown  what is written of parameters, readable or not; of those that are readable it is the XML of what they state
--     Walk   the loops that write one value, one parameter after another
--     Parts  a value, a name, a parameter, each written by its parts
pub mod Shown
pub mod Walk
pub mod Parts
