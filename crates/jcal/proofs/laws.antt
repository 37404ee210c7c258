-- Laws. jCal (RFC 7265).
--     Trees             the JSON value of a calendar, and that it is written as the canonical jCal
--     IntegerBack       an INTEGER by its value
--     ValuesBack        a value is read back from its JSON value
--     ParametersBack    parameters
--     PropertyBack      a property
--     ComponentsBack    components, and the whole value
--     Places, PlacesComponents  what is read, and whether it is refused, does not hang on places
--     Plain             values whose characters stand in JSON as they are
--     NumbersWritten    FLOAT and INTEGER are written as JSON numbers
--     Writable          the JSON value of a valid calendar can be written
--     JcalBack          a valid calendar is read back from its jCal
--     TypeNames         the type of a word
--     CheckedStrings, CheckedScalars, Textual   the strings of a text that passes the checks are text
--     ValuesAccepted    values that are read are of the type asked for
--     ParametersAccepted, PropertyAccepted, ComponentsAccepted    parameters, properties and components that are read are valid
--     JcalAccepted      so is a calendar that is read from jCal
pub mod Trees
pub mod IntegerBack
pub mod ValuesBack
pub mod ParametersBack
pub mod PropertyBack
pub mod ComponentsBack
pub mod Places
pub mod PlacesComponents
pub mod Plain
pub mod NumbersWritten
pub mod Writable
pub mod JcalBack
pub mod TypeNames
pub mod CheckedStrings
pub mod CheckedScalars
pub mod Textual
pub mod ValuesAccepted
pub mod ParametersAccepted
pub mod PropertyAccepted
pub mod ComponentsAccepted
pub mod JcalAccepted
