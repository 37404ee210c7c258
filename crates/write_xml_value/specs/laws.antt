-- Laws. A value of iCalendar text, written as its XML element.
--     Words       a text as it stands, and a word in capitals
--     Tags        names of elements by number
--     Rules       the elements of a rule, piece by piece
--     PutRule     the rules of the code that writes them
--     PutPeriod   a period's element
--     PutElement  the element of a value of any type
pub mod Words
pub mod Tags
pub mod Rules
pub mod PutRule
pub mod PutPeriod
pub mod PutElement
