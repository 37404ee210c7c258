-- `read_text_property::value_fault` meets its contract.
use Rattle.read_text_property.specs.laws.Faults.{value_bad, value_good}
use Rattle.source.specs.Source.{rest}
use Rattle.read_text_property.specs.ValuesAt.{good_at}
use Rattle.read_text_property.proofs.fault.value_fault.Goals as goal

pub returns-in_default : goal.returns-in_default
returns-in_default g c = value_bad c.args.c.value_type (good_at c.args.c.component c.args.c.row c.args.c.value_type (rest g.E.Encoding.encoding c.args.s.now c.args.at)) c.read_values.ensures c.in_default.is

pub returns : goal.returns
returns g c = value_good c.args.c.value_type (good_at c.args.c.component c.args.c.row c.args.c.value_type (rest g.E.Encoding.encoding c.args.s.now c.args.at)) c.read_values.ensures c.in-Some.is
