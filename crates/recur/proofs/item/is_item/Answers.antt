-- `recur::is_item` meets its contract.
use Rattle.source.specs.Source.{rest}
use Rattle.calendar.specs.Calendar.{format_of}
use Rattle.recur.specs.laws.Fits.{item_beyond}
use Rattle.recur.proofs.item.is_item.Goals as goal

pub returns-then-p-lt-BYSECOND : goal.returns-then-p-lt-BYSECOND
returns-then-p-lt-BYSECOND g c = c.is_limit.ensures

pub returns-then-p-lt-BYMONTHDAY : goal.returns-then-p-lt-BYMONTHDAY
returns-then-p-lt-BYMONTHDAY g c = c.is_time_part.ensures

pub returns-then-p-lt-KNOWN : goal.returns-then-p-lt-KNOWN
returns-then-p-lt-KNOWN g c = c.is_day_part.ensures

pub returns : goal.returns
returns g c = item_beyond (format_of c.args.xcal) (rest g.E.Encoding.encoding c.args.s.now c.args.at) c.args.p c.if-p-lt-KNOWN.false
