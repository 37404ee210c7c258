-- An element of a property's value, by numbers.
--     typed_at            the verdict on a value of a type
use Rattle.std.specs.Prelude.{[], ℕ, eqb}
use Rattle.octets.specs.Pick.{pick}
use Rattle.calendar.specs.Refusal.{Verdict}
use Rattle.schema.specs.Numbers.{type_at}
use Rattle.schema.specs.Sets.{words_at}
use Rattle.xml.specs.Nodes.{Nodes}
use Rattle.xcal.specs.Layout.{sequence, leaf}
use Rattle.schema.specs.declared.Context.{Context}
use Rattle.xcal.specs.ValueNodes.{period_slots, period_inside, recur_slots, recur_inside, read_word_of}

abbrev pub typed_at : Context → ℕ → ℕ → Nodes → Verdict
typed_at x place e kids =
    pick (eqb x.value_type 8) (sequence period_slots period_inside kids 0 [] e)
    (pick (eqb x.value_type 9) (sequence recur_slots recur_inside kids 0 [] e)
    (leaf (read_word_of (words_at x.component x.row.number) (type_at x.value_type)) place kids))
