-- `recur::is_time_part` meets its contract.
use Rattle.source.specs.Source.{rest}
use Rattle.calendar.specs.Calendar.{format_of}
use Rattle.recur.specs.laws.Fits.{item_at}
use native.Mathlib.Omega.{arith}
use mathlib.Core.Path.{refl}
use Rattle.recur.proofs.item.is_time_part.Goals as goal

pub returns-then-p-eq-BYSECOND : goal.returns-then-p-eq-BYSECOND
returns-then-p-eq-BYSECOND g c = item_at (format_of c.args.xcal) (rest g.E.Encoding.encoding c.args.s.now c.args.at) c.args.p 4 c.if-p-eq-BYSECOND.true refl c.is_unsigned.ensures

pub returns-then-p-eq-BYMINUTE : goal.returns-then-p-eq-BYMINUTE
returns-then-p-eq-BYMINUTE g c = item_at (format_of c.args.xcal) (rest g.E.Encoding.encoding c.args.s.now c.args.at) c.args.p 5 c.if-p-eq-BYMINUTE.true refl c.is_unsigned-then-p-eq-BYMINUTE.ensures

pub returns-then-p-eq-BYHOUR : goal.returns-then-p-eq-BYHOUR
returns-then-p-eq-BYHOUR g c = item_at (format_of c.args.xcal) (rest g.E.Encoding.encoding c.args.s.now c.args.at) c.args.p 6 c.if-p-eq-BYHOUR.true refl c.is_unsigned-then-p-eq-BYHOUR.ensures

pub returns : goal.returns
returns g c = item_at (format_of c.args.xcal) (rest g.E.Encoding.encoding c.args.s.now c.args.at) c.args.p 7 (omega (arith, c.requires, c.if-p-eq-BYSECOND.false, c.if-p-eq-BYMINUTE.false, c.if-p-eq-BYHOUR.false)) refl c.is_weekdaynum.ensures
