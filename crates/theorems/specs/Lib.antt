-- Theorems over the answers of both conversions.
--     Calls         calls, whether they are accepted and what they give
--     FoldedCalls   the same of calls that are lent no work room
--     Joined        texts that are joined, and the insides of XML
--     OneLine       two texts whose content lines are the same but for one
--     Logs          logs: the XML of calls, one after another
pub mod Calls
pub mod FoldedCalls
pub mod Joined
pub mod OneLine
pub mod Logs
