-- Theorems over the answers of the calls of jCal.
--     Calls         calls, whether they are accepted and what they give
--     Joined        texts that are joined, and the objects of jCal
--     Examples      worked examples, by computation
pub mod Calls
pub mod Joined
pub mod Examples
