-- VALUE, which stands where the type of a property's values is not its default.
--     value_at d t    what is written of it, where the numbers of the default and of the type are these
use Rattle.std.specs.Prelude.{List, [], ℕ, eqb}
use Rattle.octets.specs.Ascii.{ascii}
use Rattle.octets.specs.Pick.{pick}
use Rattle.octets.specs.Append.{◌⊕◌}
use Rattle.schema.specs.Types.{type_name}
use Rattle.schema.specs.Numbers.{type_at}

abbrev pub value_at : ℕ → ℕ → List ℕ
value_at d t = pick (eqb t d) [] (ascii ";VALUE=" ⊕ type_name (type_at t))
