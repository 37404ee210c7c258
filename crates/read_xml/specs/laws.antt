-- Laws. The verdict on properties, components and the root of a document.
--     Children       the children of a property, by numbers
--     Turning        a walk over them
--     Counting       the numbers of a property, for its tallies
--     Properties     a property's element, and the children of `properties`
--     ActionWord     the word of an ACTION
--     Components     the children of a component, up to its `components` and behind it
--     Subcomponents  a whole component, and the children of `components`
--     Roots          the calendars of a document, the root
pub mod Children
pub mod Turning
pub mod Counting
pub mod Properties
pub mod ActionWord
pub mod Components
pub mod Subcomponents
pub mod Roots
