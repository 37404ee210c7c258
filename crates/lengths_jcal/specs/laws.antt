-- Laws. How long the jCal of a text is: no longer than its XML may be, for each byte of text.
--     Strings         strings, arrays and objects
--     Rules           the object of a rule
--     Values          a value of any type
--     PropertyValues, Parameters, Properties  a property, with its values and its parameters
--     Depths          components, however nested
--     Streams         the jCal of a text
pub mod Strings
pub mod Rules
pub mod Values
pub mod PropertyValues
pub mod Parameters
pub mod Properties
pub mod Depths
pub mod Streams
