-- The values that are numbers.
--     Sign        a sign in front of digits
--     Integer     INTEGER
--     Numeral     digits as the code reads them one by one
--     ReadInteger INTEGER as the code reads and writes it
--     Float       FLOAT
--     Until       what stands from a cursor on, up to a byte that ends it
--     FloatParts  FLOAT in the parts that the code finds one after another
--     ReadFloat   FLOAT as the code reads and writes it
--     Worth       what digits are worth, with zeros in front of them and after them
--     Boolean     BOOLEAN
--     Geo         GEO, two FLOAT values
--     ReadGeo     GEO as the code reads it
--     Computing   opens all of these, for examples that compute
--     Examples    computed examples
--     laws        laws of these, and what proofs need
pub mod Sign
pub mod Integer
pub mod Numeral
pub mod ReadInteger
pub mod Float
pub mod Worth
pub mod Until
pub mod FloatParts
pub mod ReadFloat
pub mod Boolean
pub mod Geo
pub mod ReadGeo
pub mod Computing
pub mod Examples
pub mod laws
