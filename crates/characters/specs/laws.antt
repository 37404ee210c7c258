-- Laws. The characters of a text through a cursor.
--     Judging     the check of the characters, a byte a turn
--     Counting    the bytes that are left, counted
pub mod Judging
pub mod Counting
