-- `write_jcal_parameters::value::put_next_values` meets its contract.
use Rattle.std.proofs.Common.{rules, ◌≡◌, ◌∙◌, ap, None, Ok}
use Rattle.read_text_line.specs.laws.Values.{value_less}
use Rattle.write_json.specs.laws.Separated.{listing_start}
use Rattle.write_jcal_parameters.specs.laws.Walk.{value_written, values_over, values_fault}
use Rattle.sink.specs.laws.Sink.{writing}
use Rattle.write_jcal_parameters.proofs.value.put_next_values.Goals as goal

pub loop-v-init : goal.loop-v-init
loop-v-init g c = let cut = g.met.E.Cuttable.cut in search (listing_start, writing)

pub next_value-requires : goal.next_value-requires
next_value-requires g c = let cut = g.met.E.Cuttable.cut in search writing

pub put-a-requires : goal.put-a-requires
put-a-requires g c = let cut = g.met.E.Cuttable.cut in search writing

pub put_cut_value-p-requires : goal.put_cut_value-p-requires
put_cut_value-p-requires g c = let cut = g.met.E.Cuttable.cut in search writing

pub loop-v-smaller : goal.loop-v-smaller
loop-v-smaller g c = value_less c.next_value.ensures (c.in-Ok-Some.is ∙ ap Ok c.in-Ok-Some.field-0-is)

pub loop-v-preserved : goal.loop-v-preserved
loop-v-preserved g c = value_written _ _ g.met.E.Cuttable.cut c.loop-v.invariant c.next_value.ensures (c.in-Ok-Some.is ∙ ap Ok c.in-Ok-Some.field-0-is) c.put-a.ensures c.put_cut_value-p.ensures

pub returns-in_default : goal.returns-in_default
returns-in_default g c = let e : c.in_default.field-0 ≡ None = search rules in values_over _ _ g.met.E.Cuttable.cut c.loop-v.invariant c.next_value.ensures (c.in_default.is ∙ ap Ok e)

pub returns-in_default-2 : goal.returns-in_default-2
returns-in_default-2 g c = values_fault _ _ g.met.E.Cuttable.cut c.loop-v.invariant c.next_value.ensures c.in_default.is
