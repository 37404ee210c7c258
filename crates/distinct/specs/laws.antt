-- Laws. Words cut out of bytes, and whether no two of them are the same.
--     Listed   words by their numbers, a list of them, and when it is distinct
--     Keeping  words collected by their cuts
--     Order    an order of words
--     Rising   numbers whose words rise, and that leave no number out
--     Pairs    words compared with all words before them
--     Again    the first word that comes again
pub mod Listed
pub mod Keeping
pub mod Order
pub mod Rising
pub mod Pairs
pub mod Again
