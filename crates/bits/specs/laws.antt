-- Laws. Bits of a number.
--     Masks     a set of small numbers as a mask; runs of bits
pub mod Masks
