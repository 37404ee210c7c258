-- The one table of properties as the code has it: a set is a mask, one bit for each type, parameter, component or list.
--     coded            a row in numbers
--     row_at           what code hands on of the property of a number: the row that stands there, or what stands for an unrecognised property. Its laws: specs/laws/Columns.antt
--     place_by         the number of a property by the halves of its name's number
--     first_half, second_half  the table in two halves, as the code has it
use Rattle.std.specs.Prelude.{List, [], ◌∷◌, map, ℕ, suc, ◌+◌, ◌/◌, ◌%◌, ◌^◌, min, eqb, take, drop}
use Prim.Native.String.{String}
use Rattle.bits.specs.Masks.{mask_of}
use Rattle.octets.specs.Ascii.{ascii}
use Rattle.octets.specs.Pick.{pick}
use Rattle.octets.specs.Words.{holds}
use Rattle.names.specs.Packing.{high_of, low_of, row, lookup}
use Rattle.names.specs.Packing as packing
use Rattle.names.specs.Table.{place_of}
use Rattle.calendar.specs.Calendar.{ValueType}
use Rattle.schema.specs.Types.{type_place}
use Rattle.schema.specs.Parameters.{parameter_names}
use Rattle.schema.specs.Properties.{PropertyRow, property_table}
use Rattle.schema.specs.Numbers.{property_at}
use Rattle.schema.specs.Halving.{key_for, row_from}
use Rattle.schema.specs.Property as property
use Rattle.schema.specs.declared.table.Entry.{Entry}
use Rattle.schema.specs.declared.table.Row.{Row}

-- ---- masks

abbrev pub type_mask : List ValueType → ℕ
type_mask ts = mask_of (map type_place ts)

abbrev pub parameter_mask : List (List ℕ) → ℕ
parameter_mask qs = mask_of (map (λ q. place_of q parameter_names) qs)

-- the columns, from number i on, whose sign is one of those wanted
unfoldable pub columns : List ℕ → ℕ → List ℕ → List ℕ
columns wanted i [] = []
columns wanted i (s ∷ signs) = pick (holds s wanted) (i ∷ columns wanted (suc i) signs) (columns wanted (suc i) signs)

abbrev pub list_mask : String → List ℕ → ℕ
list_mask wanted signs = mask_of (columns (ascii wanted) 0 signs)

-- the components of the lists of a mask: the columns from 8 on are VALARM's, which is component 8
abbrev pub component_mask : ℕ → ℕ
component_mask m = m % 2 ^ 8 + pick (eqb (m / 2 ^ 8) 0) 0 (2 ^ 8)

-- ---- rows

abbrev pub coded : PropertyRow → Entry
coded r = record {
  key = key_for (high_of r.name) (low_of r.name);
  high = high_of r.name;
  low = low_of r.name;
  parameters = parameter_mask r.parameters;
  types = type_mask (r.default ∷ r.others);
  components = component_mask (list_mask "1?*+" r.signs);
  least = list_mask "1+" r.signs;
  once = list_mask "1?" r.signs;
  many = list_mask "*+" r.signs;
  default = type_place r.default;
  listed = r.listed;
}

unfoldable pub row_at : ℕ → Row
row_at p = row_from (min p property.KNOWN) (coded (property_at p))

-- ---- found by name

-- the halves of the names of entries, the first with the number i
abbrev pub packed_from : ℕ → List Entry → List packing.Row
packed_from i [] = []
packed_from i (e ∷ es) = row e.high e.low i ∷ packed_from (suc i) es

-- the number of the property whose name has the halves h and l, row by row
unfoldable pub place_by : ℕ → ℕ → ℕ
place_by h l = lookup h l (packed_from 0 (map coded property_table)) property.KNOWN

-- the table in two halves, and the key from which on a name is in the second
abbrev pub half : ℕ
half = 23

abbrev pub first_half : List Entry
first_half = map coded (take half property_table)

abbrev pub second_half : List Entry
second_half = map coded (drop half property_table)

abbrev pub middle : ℕ
middle = (coded (property_at half)).key
