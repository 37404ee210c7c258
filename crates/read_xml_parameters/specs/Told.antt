-- The verdict on the parameters of a property, as code comes to it.
--     judged_by          the verdict on one parameter, by the tests that it goes by
--     against_by         the parameter stood before, or is not sound
use Rattle.std.specs.Prelude.{Bool, not, List, ℕ, eqb}
use Rattle.octets.specs.Pick.{pick, ◌or◌}
use Rattle.octets.specs.Class.{upper}
use Rattle.calendar.specs.Refusal.{NAME, FRAME, PARAMETER, Verdict, fine, refuse}
use Rattle.names.specs.Table.{place_of}
use Rattle.schema.specs.Parameters.{parameter_names}
use Rattle.schema.specs.declared.table.Row.{Row}
use Rattle.xml.specs.Nodes.{Nodes, has_element}
use Rattle.xcal.specs.ParameterNodes.{bad_name}
use Rattle.xml.specs.NodesAt.{nodes_at}
use Rattle.edition.specs.declared.Edition.{Edition}
use Rattle.read_xml_parameters.specs.Seen.{is_before}
use Rattle.read_xml_parameters.specs.Sound.{sound_by}

-- at the tags at and x: whether its name is bad, it is against a rule, it has a value
unfoldable pub judged_by : Bool → Bool → Bool → ℕ → ℕ → Verdict
judged_by bad against some at x = pick bad (refuse NAME at) (pick (eqb at x) (refuse FRAME at) (pick against (refuse PARAMETER at) (pick some fine (refuse FRAME x))))

module _ (ed : Edition) where
  -- ---- one parameter

  unfoldable pub against_by : Bool → Row → ℕ → List ℕ → Nodes → Bool
  against_by again row t m kids = again or not (sound_by ed row t (place_of (upper m) parameter_names) kids)

  -- the verdict on the parameter m, by the parameters from `from` on
  abbrev pub verdict_at : Row → ℕ → List ℕ → ℕ → ℕ → List ℕ → ℕ → Nodes → Verdict
  verdict_at row t s from at m x kids = judged_by (bad_name m) (against_by (is_before m at (nodes_at s from)) row t m kids) (has_element kids) at x
