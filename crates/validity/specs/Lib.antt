-- A valid calendar (RFC 5545), whichever format states it.
--     ValidCalendar    what it is
--     Computing        opens it, for examples that compute
--     Examples         calendars that are valid, and ones that are not
pub mod ValidCalendar
pub mod Computing
pub mod Examples
