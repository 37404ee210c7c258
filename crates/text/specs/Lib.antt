-- iCalendar text (RFC 5545).
--     Parameters          the parameters of a content line, typed
--     Values              the values of a property, by its type
--     Faults              the place of a fault in a line
--     Statement           the property that a content line states
--     Nesting             which lines are refused: one pass with the open components
--     LineKind            what a line is in an open component
--     Tree                the components that the lines state
--     ReadText            the answer for a text
--     WriteText           the canonical text of a calendar
--     Computing           opens all of these, for examples that compute
--     Examples            places of faults, by computation
pub mod Parameters
pub mod Values
pub mod Faults
pub mod Statement
pub mod Nesting
pub mod LineKind
pub mod Tree
pub mod ReadText
pub mod WriteText
pub mod Computing
pub mod Examples
