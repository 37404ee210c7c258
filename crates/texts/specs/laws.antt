-- Laws. Values that are characters.
--     Text           TEXT, escaped and unescaped, and the splitter of escaped text
--     Escaped        the bytes of escaped text: one line
--     TextList       lists of TEXT: CATEGORIES, RESOURCES
--     RequestStatus  REQUEST-STATUS, two or three TEXT
--     Uri            URI and CAL-ADDRESS
--     Binary         BINARY, base64 characters
--     TextGrammar    Text reads exactly what the grammar has
--     UriGrammar     so does Uri
--     BinaryGrammar  so does Binary
--     Unknown        values of the type unknown
--     Quoting        parameter values between double quotes
--     Unescaped      TEXT followed a byte at a time
--     Kept           the loops that read values kept by their characters
--     Written        TEXT written
--     Items          the items of a list of TEXT, found at a cursor
--     StatusParts    the parts of a REQUEST-STATUS, found at a cursor
--     Elements       TEXT written as elements of XML
--     StatusXml      a REQUEST-STATUS written as elements of XML
--     Chars          values kept by their characters, written
pub mod Text
pub mod Escaped
pub mod TextList
pub mod RequestStatus
pub mod Uri
pub mod Binary
pub mod TextGrammar
pub mod UriGrammar
pub mod BinaryGrammar
pub mod Unknown
pub mod Quoting
pub mod Unescaped
pub mod Kept
pub mod Written
pub mod Items
pub mod StatusParts
pub mod Elements
pub mod StatusXml
pub mod Chars
