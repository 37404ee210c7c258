-- Laws. JSON (RFC 8259).
--     CharAt     the character at a place in a string
--     Stack      what is open as one number
--     Pass       the invariant of the check's loop, and its turns
--     Text       strings as they are written
--     Fronts     arrays and objects that are written, in front of what follows them
--     Numbers    numbers as they are written
--     ScalarsPass  strings, numbers and literals that are written pass the check
--     CheckBack  a value that is written passes the check
--     TokensBack  strings, numbers and literals that are written are read back as tokens
--     TreeBack   a value that is written is read back
--     GoodBack   its bytes are well formed
pub mod CharAt
pub mod Stack
pub mod Pass
pub mod Text
pub mod Fronts
pub mod Numbers
pub mod ScalarsPass
pub mod CheckBack
pub mod TokensBack
pub mod TreeBack
pub mod GoodBack
