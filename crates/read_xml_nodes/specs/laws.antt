-- Laws. The content of an element, node by node.
--     Tokens      what a token that was found says of them
--     Plain       bytes that are characters of their own
--     Closing     the end tag of an open element
--     HeadFound   the head of the node at a place, without the end of an element
--     NodeFound   the node at a place
--     RootFound   the root of a document
--     Characters  the characters of an element through the cursor
--     Judging     what readers find, as a verdict
--     Walks       walks over nodes
pub mod Tokens
pub mod Plain
pub mod Closing
pub mod HeadFound
pub mod NodeFound
pub mod RootFound
pub mod Characters
pub mod Judging
pub mod Walks
