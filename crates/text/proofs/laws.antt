-- Laws. iCalendar text (RFC 5545).
--     LineKind            what a line is in an open component
--     Faults              when parameters have no fault
--     Leftmost            the fault of parameters is the leftmost
--     ParameterLaws       parameters are read back
--     ValuesLaws          the values of a property are read back
--     AcceptedValues      what is read is values of the property
--     PropertyLaws        the line of a property states it
--     AcceptedProperty    what is read is a property
--     Carets              characters with carets
--     LineLaws            the bytes of a property's line are read back
--     Pieces              a text in pieces
--     AcceptedLine        what is read can be written as a line
--     TreeBack            the lines of a calendar state it
--     Turned              the properties of a component, the last first
--     NestingBack         the lines of a calendar are not refused
--     EscapedCharacters   the characters of values as they are written
--     WrittenLine         the bytes of a calendar's lines
--     TextBack            the text of a calendar is read back as that calendar
--     GoodPieces          the pieces of a text are well formed
--     AcceptedCharacters  the characters of what a line states
--     AcceptedTree        what lines state that are not refused is a valid calendar
--     AcceptedText        what an accepted text states is a valid calendar
pub mod LineKind
pub mod Faults
pub mod Leftmost
pub mod ParameterLaws
pub mod ValuesLaws
pub mod AcceptedValues
pub mod PropertyLaws
pub mod AcceptedProperty
pub mod Carets
pub mod LineLaws
pub mod Pieces
pub mod AcceptedLine
pub mod TreeBack
pub mod Turned
pub mod NestingBack
pub mod EscapedCharacters
pub mod WrittenLine
pub mod TextBack
pub mod GoodPieces
pub mod AcceptedCharacters
pub mod AcceptedTree
pub mod AcceptedText
