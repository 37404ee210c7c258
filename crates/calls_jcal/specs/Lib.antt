-- The calls of jCal: the complete answer of each, as crate calls has it of the other two.
--     ToJcal       iCalendar text to canonical jCal
--     JcalToText   jCal to canonical text
--     Computing    opens all of these, for examples that compute
pub mod ToJcal
pub mod JcalToText
pub mod Computing
