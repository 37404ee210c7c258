-- Values that are characters.
--     Text            TEXT, escaped and unescaped, and the splitter of escaped text
--     TextList        lists of TEXT: CATEGORIES, RESOURCES
--     RequestStatus   REQUEST-STATUS, two or three TEXT
--     Uri             URI and CAL-ADDRESS
--     Binary          BINARY, base64 characters
--     TextGrammar     TEXT and lists of it, URI and BINARY by the grammars of the RFCs: what the three above read, by laws
--     UriGrammar
--     BinaryGrammar
--     Unknown         values of the type unknown
--     Quoting         parameter values between double quotes
--     Unescaped       TEXT followed a byte at a time
--     Items           the items of a list of TEXT, found at a cursor
--     StatusParts     the parts of a REQUEST-STATUS, found at a cursor
--     Elements        TEXT written as elements of XML
--     StatusXml       a REQUEST-STATUS written as elements of XML
--     Chars           values kept by their characters, written
--     Computing       opens all of these, for examples that compute
--     Examples        computed examples
--     laws            laws of these, and what proofs need
pub mod Text
pub mod TextList
pub mod RequestStatus
pub mod Uri
pub mod Binary
pub mod TextGrammar
pub mod UriGrammar
pub mod BinaryGrammar
pub mod Unknown
pub mod Quoting
pub mod Unescaped
pub mod Items
pub mod StatusParts
pub mod Elements
pub mod StatusXml
pub mod Chars
pub mod Computing
pub mod Examples
pub mod laws
