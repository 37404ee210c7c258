-- Laws and theorems. Theorems over the answers of both conversions.
--     Carrying      what the XML of calls says of their texts
--     ThereAndBack  from text to XML, back to text, and to XML again
--     BackAndThere  from XML to text, to XML, and to text again
--     Joining       joined texts are converted as one
--     SmallEdit     a small edit stays small
--     Engines       the two ways from text to XML
--     Log           the XML of calls one after another, split again
--     laws          what their proofs need
pub mod Carrying
pub mod ThereAndBack
pub mod BackAndThere
pub mod Joining
pub mod SmallEdit
pub mod Engines
pub mod Log
pub mod laws
