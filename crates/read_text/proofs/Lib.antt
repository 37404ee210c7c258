-- Laws of the walks over a text.
--     Walk    from line to line in a component, and from calendar to calendar
pub mod Walk
