-- Laws and theorems. A valid calendar (RFC 5545), whichever format states it.
--     laws             laws of these, and what proofs need
pub mod laws
