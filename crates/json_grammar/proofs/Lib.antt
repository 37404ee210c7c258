-- Laws and theorems. JSON texts by the grammar of RFC 8259, beside the check of crate json_text, which goes a byte at a time.
--     laws       the check accepts exactly these texts, and tells the first byte at which none can go on
pub mod laws
