-- Laws. A value of any type.
--     WriteValue  written to iCalendar text and as XML character data
--     ReadBack    what a kept value is; what is written is read back
--     Valid       what a parameter and a property of a calendar are
--     Characters  the characters that values are written in
--     ValueAt     the laws of the code that reads a value of a type by its number
--     Bare        characters that stand in XML as they are
--     PutValue    the rules of the code that writes a value to XML
pub mod WriteValue
pub mod ReadBack
pub mod Valid
pub mod Characters
pub mod ValueAt
pub mod Bare
pub mod PutValue
