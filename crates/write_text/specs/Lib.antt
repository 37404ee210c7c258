-- The canonical text of a document's components.
--     Children     the first child of a name
--     Parameters   a property's `parameters`
--     Content      the content line of a property's element
--     Walks        what is written of the elements of properties and of components, one by one
--     laws         laws of these, and what proofs need
pub mod Children
pub mod Parameters
pub mod Content
pub mod Walks
pub mod laws
