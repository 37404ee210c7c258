-- Laws. A cursor over lent bytes in a given encoding.
--     Mark        where the name of a character begins
--     Facts       laws of a step
--     Stepping    the step over characters that may be named by their code points
--     Characters  the characters of an XML element
--     Quoted      the characters of a JSON string
--     Copying     loops that write what they read
pub mod Mark
pub mod Facts
pub mod Stepping
pub mod Characters
pub mod Quoted
pub mod Copying
