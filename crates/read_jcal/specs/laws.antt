-- Laws. The verdict on properties, components and calendars of a jCal text.
--     Judging         the refusals by their numbers
--     Arrays          the elements of an array
--     Types           the type that an element names
--     BadNames        names that can't be carried
--     Counting        the word of an ACTION
--     Faults          the fault of a property, by what its elements are
--     Properties      the array of a property, and the properties of a component
--     Components      the array of a component, up to its subcomponents and behind them
--     Subcomponents   a whole component, and several
--     Calendars       the calendars of a text
pub mod Judging
pub mod Arrays
pub mod Types
pub mod BadNames
pub mod Counting
pub mod Faults
pub mod Properties
pub mod Components
pub mod Subcomponents
pub mod Calendars
