-- The content of an element, node by node.
--     Plain        bytes that are characters of their own
--     Closing      the end tag of an open element
--     HeadFound    the head of the node at a place, without the end of an element
--     NodeFound    the node at a place
--     Elements     an element by its places
--     First        the first element of some content
--     RootFound    the root of a document
--     laws         laws of these, and what proofs need
pub mod Plain
pub mod Closing
pub mod HeadFound
pub mod NodeFound
pub mod Elements
pub mod First
pub mod RootFound
pub mod laws
