-- Laws of the loops.
--     Kept     the bytes kept from an index on, and their places
--     Rowed    a content line written one line at a time
pub mod Kept
pub mod Rowed
