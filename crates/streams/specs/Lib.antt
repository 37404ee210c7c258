-- What is sent to a writer, and what a read that fails leaves.
--     Sent   bytes that are sent to a writer
pub mod Sent
