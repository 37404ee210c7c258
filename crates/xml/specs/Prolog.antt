-- What stands before the root: an optional declaration, with white space after it (XML 1.0, section 2.8; the rules, "XML profile for reading").
-- Without a declaration the root's tag is the first thing. What is no declaration is no root's tag either, and a fault at its start.
--     prolog s    how many bytes stand before the root's tag
--     xml_decl    the declaration: version 1.0, encoding utf-8 in any case, in this order, nothing else
use Rattle.std.specs.Prelude.{List, ℕ}
use Rattle.octets.specs.Ascii.{ascii}
use Rattle.octets.specs.Reading.{read_or}
use Rattle.xml.specs.Pieces.{Piece, exactly, in_any_case, some_space, any_space, ◌then◌, quoted, equals_sign}

-- VersionInfo ::= S 'version' Eq ("'" VersionNum "'" | '"' VersionNum '"')
unfoldable pub version_info : Piece
version_info = some_space then exactly (ascii "version") then equals_sign then quoted (exactly (ascii "1.0"))

-- EncodingDecl ::= S 'encoding' Eq ('"' EncName '"' | "'" EncName "'" )
unfoldable pub encoding_decl : Piece
encoding_decl = some_space then exactly (ascii "encoding") then equals_sign then quoted (in_any_case (ascii "utf-8"))

-- XMLDecl ::= '<?xml' VersionInfo EncodingDecl? SDDecl? S? '?>'
unfoldable pub xml_decl : Piece
xml_decl = exactly (ascii "<?xml") then version_info then encoding_decl then any_space then exactly (ascii "?>")

unfoldable pub prolog : List ℕ → ℕ
prolog s = read_or 0 ((xml_decl then any_space) s)
