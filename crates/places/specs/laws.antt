-- Laws. Where a document or a jCal text is refused: at a place within it, or at its end.
--     Bounds     verdicts and nodes whose places are bounded
--     Marks      the marks and the nodes of a document; the verdict on its XML
--     Values     children in a fixed order, the elements of a value and of parameters
--     Documents  properties, components, the root, the document
--     Streams    the same of a jCal text
pub mod Bounds
pub mod Marks
pub mod Values
pub mod Documents
pub mod Streams
