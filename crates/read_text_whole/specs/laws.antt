-- Laws. A text as it is lent.
--     Steps    laws of the steps of the code
--     Given    what the calls from text give, by the writer of a format
--     Small    the values of their answers are small
pub mod Steps
pub mod Given
pub mod Small
