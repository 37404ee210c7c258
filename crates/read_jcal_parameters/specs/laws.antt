-- Laws. The parameters of a property in jCal.
--     Shapes    the members of an object, the values of one, and their kinds, from a place on
--     Names     names in small letters
--     Values    the values of a parameter by the parameter's row
--     Order     two strings compared
--     Apart     the names of members
--     Rounds    many names, in rounds
--     Encoded   ENCODING=BASE64
--     Sound     what parameters must be, by numbers
--     Written   parameters as text
pub mod Shapes
pub mod Names
pub mod Values
pub mod Order
pub mod Apart
pub mod Rounds
pub mod Encoded
pub mod Sound
pub mod Written
