-- Laws. xCal (RFC 6321).
--     Contents            the content of a calendar's document, as a tree without places
--     WrittenContents     that content, written, is the canonical XML
--     ElementNames        names in capitals and the names of their elements
--     LeavesBack          elements of character data
--     RecurBack, RecurFine  the elements of a rule
--     ValuesBack, Chosen  the element of a value
--     ParametersBack, ParametersFine  the elements of parameters
--     PropertyValues, OwnValues  the values of a property in its element
--     PropertiesBack      the elements of properties
--     ComponentsBack, ComponentsFine  the elements of components
--     SoundContent, CleanValues, SoundValues  the bytes are well formed and within the profile
--     SoundCalendar       the same of a valid calendar
--     DocumentBack        a valid calendar is read back from its document
--     Accepted            what a verdict that is fine says of nodes
--     PeriodAccepted, ItemsAccepted, RecurAccepted, ValuesAccepted  values
--     ParametersAccepted, EncodingAccepted  parameters
--     TypedAccepted, OwnAccepted, PropertiesAccepted  properties
--     ComponentsAccepted  components
--     GoodNodes, GoodMarks  nodes of a document whose bytes are well formed; the characters of its elements
--     DocumentAccepted    a calendar that is read from a document is valid
pub mod Contents
pub mod WrittenContents
pub mod ElementNames
pub mod LeavesBack
pub mod RecurBack
pub mod RecurFine
pub mod ValuesBack
pub mod Chosen
pub mod ParametersBack
pub mod ParametersFine
pub mod PropertyValues
pub mod OwnValues
pub mod PropertiesBack
pub mod ComponentsBack
pub mod ComponentsFine
pub mod SoundContent
pub mod CleanValues
pub mod SoundValues
pub mod SoundCalendar
pub mod DocumentBack
pub mod Accepted
pub mod PeriodAccepted
pub mod ItemsAccepted
pub mod RecurAccepted
pub mod ValuesAccepted
pub mod ParametersAccepted
pub mod EncodingAccepted
pub mod TypedAccepted
pub mod OwnAccepted
pub mod PropertiesAccepted
pub mod ComponentsAccepted
pub mod GoodNodes
pub mod GoodMarks
pub mod DocumentAccepted
