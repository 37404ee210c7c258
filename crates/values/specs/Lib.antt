-- A value of any type.
--     ReadValue    read from iCalendar text and from XML character data
--     WriteValue   written to iCalendar text and as XML character data
--     ReadBack     what a kept value is; what is written is read back
--     Valid        what a parameter and a property of a calendar are
--     Characters   the characters that values are written in
--     ValueAt      the laws of the code that reads a value of a type by its number
--     PutValue     the rules of the code that writes a value to XML
--     Computing    opens all of these, for examples that compute
--     laws         laws of these, and what proofs need
pub mod ReadValue
pub mod WriteValue
pub mod ReadBack
pub mod Valid
pub mod Characters
pub mod ValueAt
pub mod PutValue
pub mod Computing
pub mod laws
