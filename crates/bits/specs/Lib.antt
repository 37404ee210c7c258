-- Bits of a number.
--     Masks     a set of small numbers as a mask; runs of bits
--     laws      laws of these
pub mod Masks
pub mod laws
