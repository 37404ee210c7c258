-- Laws. Theorems over the answers of both conversions.
--     Injective     documents of any length are of one calendar, alone and one after another
--     Calls         what an accepted call states, and what it gives
--     Balanced      lines that are not refused end each component that they begin
--     Joined        texts that are joined, and the XML of their calendars
--     Gap           a property's line among others
--     Split         what is written of a calendar with a gap for one property
--     Edited        texts whose content lines are the same but for one, and their calendars
--     Engines       work rooms that are long enough
--     FoldedCalls   calls that are lent no work room, as calls that are lent one
--     Log           where a document ends, whatever follows it
pub mod Injective
pub mod Calls
pub mod Balanced
pub mod Joined
pub mod Gap
pub mod Split
pub mod Edited
pub mod Engines
pub mod FoldedCalls
pub mod Log
