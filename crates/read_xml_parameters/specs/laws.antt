-- Laws. The elements of a property's parameters: the laws of the code that judges them and writes them as text.
--     Children  the elements of a content, one by one
--     Rows      a parameter's values by the parameter's row
--     Leaves    one value: its characters, and its element's name
--     Several   all values of a parameter
--     Seen      the names before a place
--     Fresh     the first names, where no two are the same
--     Sound     what a parameter must be, by numbers
--     Told      the verdict on the parameters of a property
--     Written   one value, and all values of a parameter, as text
--     Listed    the parameters of a property as text
pub mod Children
pub mod Rows
pub mod Leaves
pub mod Several
pub mod Seen
pub mod Fresh
pub mod Sound
pub mod Told
pub mod Written
pub mod Listed
