-- Laws. The two conversions: the complete answer of each call.
--     Answered  what the code answers, as an outcome and as one number
--     ToXml     what the work room keeps
--     Codes     the one number
pub mod Answered
pub mod ToXml
pub mod Codes
