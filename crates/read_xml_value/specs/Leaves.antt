-- An element of character data, as code judges it.
--     leaf_by v kids    the verdict, where v is the one on its characters
use Rattle.calendar.specs.Refusal.{Verdict, ◌otherwise◌}
use Rattle.xml.specs.Nodes.{Nodes}
use Rattle.xcal.specs.Layout.{inner_element}

abbrev pub leaf_by : Verdict → Nodes → Verdict
leaf_by v kids = inner_element kids otherwise v
