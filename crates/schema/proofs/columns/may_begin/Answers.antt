-- `schema::columns::may_begin` meets its contract.
use mathlib.Core.Path.{◌∙◌}
use mathlib.Core.List.{[]}
use Rattle.octets.specs.Words.{is_one_of}
use Rattle.schema.specs.Components.{component_names, unknown_component}
use Rattle.schema.specs.Cells.{tabled}
use Rattle.schema.specs.Computing.{schema_compute}
use Rattle.schema.specs.laws.Columns.{inner_at, begin_in_known, begin_in_unknown, known_in_unknown, flag_at}
use Rattle.schema.proofs.columns.may_begin.Goals as goal

pub returns-then-k-lt-KNOWN : goal.returns-then-k-lt-KNOWN
unfolding schema_compute tabled
returns-then-k-lt-KNOWN c = inner_at _ _ c.if-parent-lt-KNOWN.true c.if-k-lt-KNOWN.true

pub returns-then-parent-lt-KNOWN : goal.returns-then-parent-lt-KNOWN
returns-then-parent-lt-KNOWN c = begin_in_known _ _ c.if-parent-lt-KNOWN.true c.if-k-lt-KNOWN.false

pub returns-then-k-lt-KNOWN-2 : goal.returns-then-k-lt-KNOWN-2
unfolding schema_compute tabled
returns-then-k-lt-KNOWN-2 c = flag_at (λ w. is_one_of w unknown_component.subcomponents) [] component_names _ c.if-k-lt-KNOWN-2.true ∙ known_in_unknown _ _ c.if-parent-lt-KNOWN.false c.if-k-lt-KNOWN-2.true

pub returns : goal.returns
returns c = begin_in_unknown _ _ c.if-parent-lt-KNOWN.false c.if-k-lt-KNOWN-2.false
