-- Laws and theorems. iCalendar text (RFC 5545).
--     laws                laws of these, and what proofs need
pub mod laws
