-- Laws. The values that are numbers.
--     Sign         a sign in front of digits
--     Integer      INTEGER
--     Cursor       a byte that is known was found at the cursor
--     Numeral      digits as the code reads them one by one
--     ReadInteger  INTEGER as the code reads and writes it
--     PutInteger   a number written digit by digit
--     FloatLaws    the laws of FLOAT
--     Worth        what digits are worth, with zeros in front of them and after them
--     Until        what stands from a cursor on, up to a byte that ends it
--     FloatParts   FLOAT in the parts that the code finds one after another
--     Spans        what the code walks over
--     ReadFloat    FLOAT as the code reads and writes it
--     PutFloat     a FLOAT written part by part
--     FloatValue   the number that a FLOAT states, and that it is kept
--     Boolean      BOOLEAN
--     ReadBoolean  BOOLEAN as the code reads it
--     Geo          GEO, two FLOAT values
--     ReadGeo      GEO as the code reads it
pub mod Sign
pub mod Integer
pub mod Cursor
pub mod Numeral
pub mod ReadInteger
pub mod PutInteger
pub mod FloatLaws
pub mod Worth
pub mod Until
pub mod FloatParts
pub mod Spans
pub mod ReadFloat
pub mod PutFloat
pub mod FloatValue
pub mod Boolean
pub mod ReadBoolean
pub mod Geo
pub mod ReadGeo
