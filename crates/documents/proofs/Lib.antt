-- Laws and theorems. A log: documents one after another, as the calls wrote them.
--     laws          laws of these, and what proofs need
pub mod laws
