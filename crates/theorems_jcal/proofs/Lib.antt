-- Laws and theorems. Theorems over the answers of the calls of jCal.
--     Carrying      what the jCal of calls says of their texts
--     ThereAndBack  from text to jCal, back to text, and to jCal again
--     BackAndThere  from jCal to text, to jCal, and to text again
--     BothFormats   the jCal and the XML of a text
--     Joining       joined texts are converted as one
--     SmallEdit     a small edit stays small
--     laws          what their proofs need
pub mod Carrying
pub mod ThereAndBack
pub mod BackAndThere
pub mod BothFormats
pub mod Joining
pub mod SmallEdit
pub mod laws
