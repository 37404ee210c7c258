-- Components inside one another: a VCALENDAR, and at most eight levels below it.
--     levels        the levels of a calendar, its VCALENDAR the first
--     shallow l c   components without what stands deeper in them than l levels
use Rattle.std.specs.Prelude.{List, ℕ, ◌-◌, ltb}
use Rattle.octets.specs.Pick.{pick}
use Rattle.calendar.specs.Calendar.{Property, Components, no_more, component}

abbrev pub levels : ℕ
levels = 9

unfoldable pub shallow : ℕ → Components → Components
shallow l no_more = no_more
shallow l (component n ps inner next) = pick (ltb 0 l) (component n ps (shallow (l - 1) inner) (shallow l next)) no_more
