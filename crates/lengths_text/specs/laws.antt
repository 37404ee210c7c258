-- Laws. How long the text of a document is, and a content line of it.
--     Bytes           the bytes that marks take
--     Sizes           the size of the content of an element, and of the elements of some names in it
--     Values, Rules   the text of a value, and of a recurrence rule
--     Children        the children of a name in an element
--     TypedValues, PropertyValues, Parameters  the text of a property's values, by type and in all, and of its parameters
--     Lines           the content line of a property
--     Documents       the text of a document
pub mod Bytes
pub mod Sizes
pub mod Values
pub mod Rules
pub mod Children
pub mod TypedValues
pub mod PropertyValues
pub mod Parameters
pub mod Lines
pub mod Documents
