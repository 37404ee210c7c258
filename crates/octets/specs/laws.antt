-- Laws. Bytes and words, which every other crate speaks with.
--     Pick     a choice by a test, tests joined, and the rules for branches
--     Scan     loops over a list from its front
--     Find     the first byte of a class
--     Append   one list after another, shut
--     Class    classes of bytes, letter case
--     Letters  laws of letter case
--     Words    byte lists compared, counted, looked up, cut at a separator and joined
--     Runs     a run of bytes at the front of a list, a byte at the front
--     Front    a list cut at its first byte that passes a test
--     Lists    lists of anything, tested
--     Tables   laws of tables, lists of rows with names
--     Decimal  decimal digits and what they are worth
--     Reading  readings that may fail, of one thing and of each of a list
--     Many     repetition: items read from the front until there is none
pub mod Pick
pub mod Scan
pub mod Find
pub mod Append
pub mod Class
pub mod Letters
pub mod Words
pub mod Runs
pub mod Front
pub mod Lists
pub mod Tables
pub mod Decimal
pub mod Reading
pub mod Many
