-- A log: documents one after another, as the calls wrote them.
--     Log           where its first document ends, and the documents that it is made of
--     Pieces        a log that is read in pieces
--     Examples      logs that are split
--     laws          the words by which laws of these speak of bytes that are passed over
pub mod Log
pub mod Pieces
pub mod Examples
pub mod laws
