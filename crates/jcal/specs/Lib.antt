-- jCal (RFC 7265), beside xCal: where RFC 7265 is silent, names, parameters and values are read and written as in XML.
-- What texts state, and where they are refused:
--     Integer          INTEGER by its value
--     Values           the values of a property
--     Parameters       the parameters of a property
--     Property         the array of a property
--     Components       the arrays of components, up to the stream
--     ReadJcal         the answer for a text
-- What is written:
--     WriteJcal        the canonical jCal of a calendar
-- and
--     Computing        opens all definitions, for examples that compute
--     Notation         how the examples write JSON down
--     Examples         calendars written and read, and each kind of fault
--     RfcExamples      the examples of RFC 7265
pub mod Integer
pub mod Values
pub mod Parameters
pub mod Property
pub mod Components
pub mod ReadJcal
pub mod WriteJcal
pub mod Computing
pub mod Notation
pub mod Examples
pub mod RfcExamples
