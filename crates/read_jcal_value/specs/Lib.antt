-- The values of a property in a jCal text, read.
--     Elements    the elements of an array, by what they are
--     Digits      digits walked with a cap
--     Number      INTEGER by its value
--     Typed       a value of a type, by its number
--     Items       the items of a part of a rule
--     Members     a rule by its members
--     Values      the values of a property, by numbers
--     laws        laws of these, and what proofs need
pub mod Elements
pub mod Digits
pub mod Number
pub mod Typed
pub mod Items
pub mod Members
pub mod Values
pub mod laws
