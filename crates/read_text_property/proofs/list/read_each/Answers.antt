-- `read_text_property::list::read_each` meets its contract.
use Rattle.schema.specs.Numbers.{type_at}
use Rattle.values.specs.laws.ValueAt.{good_yes, good_no, value_there}
use Rattle.read_text_property.specs.laws.Listed.{each_gone}
use Rattle.read_text_property.specs.laws.ValuesAt.{values_yes, values_no}
use Rattle.read_text_property.proofs.list.read_each.Goals as goal

pub read_pieces-requires : goal.read_pieces-requires
read_pieces-requires g c = record { cut = g.met.E.Cuttable.cut; most = c.if-at-s.true }

pub returns-in_default : goal.returns-in_default
returns-in_default g c = values_no c.args.t (each_gone (type_at c.args.t) g.E.Encoding.encoding c.args.s.now c.args.at g.met.E.Cuttable.cut c.if-at-s.false (good_no c.args.t (value_there _ _ _ _ _ c.read_value.ensures (λ h. g.met.E.Cuttable.cut)) c.in_default.is))

pub returns : goal.returns
returns g c = values_yes c.args.t (each_gone (type_at c.args.t) g.E.Encoding.encoding c.args.s.now c.args.at g.met.E.Cuttable.cut c.if-at-s.false (good_yes c.args.t (value_there _ _ _ _ _ c.read_value.ensures (λ h. g.met.E.Cuttable.cut)) c.in-Some.is))
