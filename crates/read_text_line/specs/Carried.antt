-- Names that can be carried, tested at a cursor.
--     carries_name    of a parameter
use Rattle.std.specs.Prelude.{Bool}
use Rattle.read_text_line.specs.ContentLine.{RawParameter}
use Rattle.read_text_line.specs.Names.{is_carried_name}

abbrev pub carries_name : RawParameter → Bool
carries_name p = is_carried_name p.name
