-- `times::period::period_from` meets its contract.
use Rattle.std.proofs.Common.{◌∙◌, ap}
use Rattle.octets.specs.laws.Pick.{flag_yes, flag_no}
use Rattle.times.specs.DurationAt.{span_of}
use Rattle.std.proofs.Math.Bool.{false}
use Rattle.times.specs.laws.PeriodAt.{ends_explicit, ends_duration, ends_not}
use Rattle.times.proofs.period.period_from.Goals as goal

pub returns-then-is_some : goal.returns-then-is_some
returns-then-is_some g c = ends_explicit c.args.start g.E.Encoding.encoding c.args.s.now c.args.at c.read_date_time.result c.read_date_time.ensures (flag_yes _ _ c.is_some.ensures c.if-is_some.true)

pub returns-in_err-read_duration : goal.returns-in_err-read_duration
returns-in_err-read_duration g c = rw c.from_residual.ensures (ends_not c.args.start g.E.Encoding.encoding c.args.s.now c.args.at c.read_date_time.result c.read_date_time.ensures (flag_no _ _ c.is_some.ensures c.if-is_some.false) (c.read_duration.ensures ∙ ap (span_of false g.E.Encoding.encoding c.args.s.now) c.in_err-read_duration.was))

pub returns : goal.returns
returns g c = ends_duration c.args.start g.E.Encoding.encoding c.args.s.now c.args.at c.read_date_time.result c.read_date_time.ensures (flag_no _ _ c.is_some.ensures c.if-is_some.false) (c.read_duration.ensures ∙ ap (span_of false g.E.Encoding.encoding c.args.s.now) c.in_ok-read_duration.was)
