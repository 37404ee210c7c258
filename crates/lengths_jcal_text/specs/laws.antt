-- Laws. How long the iCalendar text of a jCal text is, and a content line of it.
--     Sizes       the size of a JSON value
--     Tokens      the bytes that tokens take; names that stand before values
--     Strings     where a string of a JSON text ends that passes the check
--     Names       of a text that passes the check each name stands before a value
--     Numbers     numbers and truth values
--     Rules, Values, Parameters    the text of a value, of a recurrence rule, of parameters
--     Lines       the content line of a property, and the lines of properties
--     Streams     the text of a jCal text
pub mod Sizes
pub mod Tokens
pub mod Strings
pub mod Names
pub mod Numbers
pub mod Rules
pub mod Values
pub mod Parameters
pub mod Lines
pub mod Streams
