-- The verdict on properties, components and calendars of a jCal text, by places in it.
--     Judging         what is found, as a verdict
--     Arrays          the elements of an array
--     Types           the type that an element names
--     Counting        the action that an ACTION names
--     Properties      the array of a property, and the properties of a component
--     Components      the array of a component, up to its subcomponents and behind them
--     Subcomponents   a whole component, and several
--     laws            laws of these, and what proofs need
pub mod Judging
pub mod Arrays
pub mod Types
pub mod Counting
pub mod Properties
pub mod Components
pub mod Subcomponents
pub mod laws
