-- Laws. How long the XML of a text is.
--     Elements        elements and character data; the bytes of XML for a byte of text
--     Pieces          the pieces of a text that is cut, and of escaped text
--     Times, Numbers, Texts, Rules  the values of each kind
--     Values          a value of any type
--     PropertyValues, Parameters, Properties  a property, with its values and its parameters
--     Depths          components, however nested
--     Documents       the document of a text
pub mod Elements
pub mod Pieces
pub mod Times
pub mod Numbers
pub mod Texts
pub mod Rules
pub mod Values
pub mod PropertyValues
pub mod Parameters
pub mod Properties
pub mod Depths
pub mod Documents
