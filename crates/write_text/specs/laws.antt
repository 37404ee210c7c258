-- Laws. The canonical text of a document's components.
--     Children    the first child of a name
--     Parameters  a property's `parameters`
--     Content     the content line of a property's element
--     Room        a word and a name that were written into the room for a line
--     Fitting     how long a content line is
--     Walks       what is written of the elements of properties and of components, one by one
pub mod Children
pub mod Parameters
pub mod Content
pub mod Room
pub mod Fitting
pub mod Walks
