-- Laws. A valid calendar (RFC 5545).
--     ValidCalendar    what its components, properties, parameters and values are
pub mod ValidCalendar
