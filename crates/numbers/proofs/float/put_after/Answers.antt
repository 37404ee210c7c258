-- `numbers::float::put_after` meets its contract.
use mathlib.Core.Path.{sym, ◌∙◌}
use Rattle.numbers.specs.laws.PutInteger.{put_front}
use Rattle.numbers.specs.laws.PutFloat.{put_same}
use Rattle.numbers.specs.laws.Spans.{point_none, point_some}
use Rattle.sink.specs.laws.Sink.{writing}
use Rattle.numbers.proofs.float.put_after.Goals as goal

pub returns-then-only_zeros : goal.returns-then-only_zeros
returns-then-only_zeros g c = rw (point_none _ (c.only_zeros.ensures ∙ c.if-only_zeros.true)) (search writing)

pub returns : goal.returns
returns g c = put_same (put_front c.put-q.ensures c.put_trimmed.ensures) (sym (point_some _ (c.only_zeros.ensures ∙ c.if-only_zeros.false)))
