-- `write_jcal_value::rule::put_parts_json` meets its contract.
use mathlib.Core.Bool.{false}
use Prim.Native.Nat.{◌-◌}
use Rattle.octets.specs.Words.{cut_at}
use Rattle.source.specs.Source.{rest}
use Rattle.recur.specs.Parts.{part_names}
use Rattle.sink.specs.laws.Sink.{writing}
use Rattle.write_json.specs.laws.Separated.{Listing}
use Rattle.write_jcal_value.specs.Rules.{named_shown}
use Rattle.write_jcal_value.specs.laws.PutRule.{left_parts, noted_within, parts_start, parts_skip, parts_more, parts_end}
use Rattle.write_jcal_value.proofs.rule.put_parts_json.Given as goal

abbrev pub invariant-loop-p : goal.invariant-loop-p
invariant-loop-p g l = Listing false (named_shown part_names (cut_at 59 (rest g.E.Encoding.encoding l.s l.at))) l.initial.out l.o l.out l.q l.started (left_parts g.E.Encoding.encoding l.s l.at l.p)

abbrev pub decreases-loop-p : goal.decreases-loop-p
decreases-loop-p g l = 14 - l.p
