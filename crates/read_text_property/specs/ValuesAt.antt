-- The values of a property by its row and the numbers of the component and of the type: what the code asks is what `read_values` says of the names.
--     values_read      the answer of `read_values`: the type's number where the values are good
--     own_at, good_at  whether the values are good, by these;   good_at: and their type is permitted
use Rattle.std.specs.Prelude.{Bool, true, false, List, ℕ, eqb, Option, None, Some}
use Rattle.octets.specs.Pick.{pick}
use Rattle.octets.specs.Reading.{is_read}
use Rattle.schema.specs.Numbers.{type_at}
use Rattle.schema.specs.Columns.{permits_type}
use Rattle.schema.specs.Sets.{words_at}
use Rattle.schema.specs.Property as property
use Rattle.schema.specs.declared.table.Row.{Row}
use Rattle.numbers.specs.Geo.{read_geo}
use Rattle.texts.specs.RequestStatus.{read_request_status}
use Rattle.text.specs.Values.{read_listed, read_chosen}

abbrev pub values_read : ℕ → Bool → Option ℕ
values_read t true = Some t
values_read t false = None

abbrev pub own_at : ℕ → Row → ℕ → List ℕ → Bool
own_at k row t l =
    pick (eqb row.number property.GEO) (is_read (read_geo l))
    (pick (eqb row.number property.REQUEST-STATUS) (is_read (read_request_status l))
    (pick row.listed (is_read (read_listed (type_at t) l)) (is_read (read_chosen (words_at k row.number) (type_at t) l))))

abbrev pub good_at : ℕ → Row → ℕ → List ℕ → Bool
good_at k row t l = pick (permits_type row t) (own_at k row t l) false
