-- The parameters of a property in jCal: the laws of the code that checks them and writes them as text.
--     Shapes        the members of an object, the values of one, and their kinds, from a place on
--     Names         names in small letters
--     Values        the values of a parameter by the parameter's row
--     Apart         the names of members
--     Rounds        many names, in rounds
--     Encoded       ENCODING=BASE64
--     Sound         what parameters must be, by numbers
--     Written       parameters as text
--     laws          laws of these, and what proofs need
pub mod Shapes
pub mod Names
pub mod Values
pub mod Apart
pub mod Rounds
pub mod Encoded
pub mod Sound
pub mod Written
pub mod laws
