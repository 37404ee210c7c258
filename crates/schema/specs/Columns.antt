-- What the tables of properties and components say, by numbers: of a property its row (row_at), of a type, a parameter or a component its number.
--     permits_type     the property may have values of the type
--     permits_at       the property, whose values have the type t, permits the parameter q; unrecognised ones: any
--     stands_at        the property may stand in the component k
--     may_begin        a component may stand directly in another
use Rattle.std.specs.Prelude.{Bool, true, not, ℕ, eqb, ltb}
use Rattle.bits.specs.Masks.{has}
use Rattle.octets.specs.Pick.{pick, ◌and◌, ◌or◌}
use Rattle.octets.specs.Words.{is_one_of}
use Rattle.schema.specs.Numbers.{component_at, component_name}
use Rattle.schema.specs.declared.table.Row.{Row}

unfoldable pub permits_type : Row → ℕ → Bool
permits_type r t = has r.types t

-- 13 is RELATED, 5 is DURATION
unfoldable pub permits_at : Row → ℕ → ℕ → Bool
permits_at r t q =
    pick (ltb q 19)
    (pick (ltb r.number 46) (has r.parameters q and pick (eqb q 13) (eqb t 5) true) true)
    true

-- in an unrecognised component every known one
unfoldable pub stands_at : ℕ → Row → Bool
stands_at k r = pick (ltb k 9) (has r.components k) (ltb r.number 46)

-- whether the component k may stand directly in the component c; 0 is VCALENDAR
abbrev pub may_begin : ℕ → ℕ → Bool
may_begin c k = is_one_of (component_name k) (component_at c).subcomponents or ((eqb c 0 or not (ltb c 9)) and not (ltb k 9))
