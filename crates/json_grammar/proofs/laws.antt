-- Laws. JSON by its grammar (RFC 8259).
--     Steps         what single bytes do in the check
--     Onward        what a text of the grammar comes to
--     Accepted      a text of the grammar is accepted
--     Rest          what must still come, for each state of the check
--     Back          what completes a text behind a move, with the byte before it
--     JsonGrammar   the check accepts exactly the texts of the grammar
--     Ready         in each state the bytes so far can go on to a text
--     Outcome       where a fault is told
--     Told          by which byte a fault is told
--     Digits        among the digits of an escape: they can go on, or never can
--     Fair          a text of the grammar is accepted, or its fault is at an escape
--     Places        the place of a fault is the first byte at which no text can go on
pub mod Steps
pub mod Onward
pub mod Accepted
pub mod Rest
pub mod Back
pub mod JsonGrammar
pub mod Ready
pub mod Outcome
pub mod Told
pub mod Digits
pub mod Fair
pub mod Places
