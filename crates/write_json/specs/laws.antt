-- Laws. Writing JSON.
--     Escaped      characters escaped byte by byte, in small letters, in capitals
--     Separated    the loops that write one value after another
pub mod Escaped
pub mod Separated
