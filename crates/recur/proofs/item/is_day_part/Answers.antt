-- `recur::is_day_part` meets its contract.
use Rattle.source.specs.Source.{rest}
use Rattle.calendar.specs.Calendar.{format_of}
use Rattle.recur.specs.laws.Fits.{item_at}
use native.Mathlib.Omega.{arith}
use mathlib.Core.Path.{refl}
use Rattle.recur.proofs.item.is_day_part.Goals as goal

pub returns-then-p-eq-BYMONTHDAY : goal.returns-then-p-eq-BYMONTHDAY
returns-then-p-eq-BYMONTHDAY g c = item_at (format_of c.args.xcal) (rest g.E.Encoding.encoding c.args.s.now c.args.at) c.args.p 8 c.if-p-eq-BYMONTHDAY.true refl c.is_signed.ensures

pub returns-then-p-eq-BYYEARDAY : goal.returns-then-p-eq-BYYEARDAY
returns-then-p-eq-BYYEARDAY g c = item_at (format_of c.args.xcal) (rest g.E.Encoding.encoding c.args.s.now c.args.at) c.args.p 9 c.if-p-eq-BYYEARDAY.true refl c.is_signed-then-p-eq-BYYEARDAY.ensures

pub returns-then-p-eq-BYWEEKNO : goal.returns-then-p-eq-BYWEEKNO
returns-then-p-eq-BYWEEKNO g c = item_at (format_of c.args.xcal) (rest g.E.Encoding.encoding c.args.s.now c.args.at) c.args.p 10 c.if-p-eq-BYWEEKNO.true refl c.is_signed-then-p-eq-BYWEEKNO.ensures

pub returns-then-p-eq-BYMONTH : goal.returns-then-p-eq-BYMONTH
returns-then-p-eq-BYMONTH g c = item_at (format_of c.args.xcal) (rest g.E.Encoding.encoding c.args.s.now c.args.at) c.args.p 11 c.if-p-eq-BYMONTH.true refl c.is_unsigned.ensures

pub returns-then-p-eq-BYSETPOS : goal.returns-then-p-eq-BYSETPOS
returns-then-p-eq-BYSETPOS g c = item_at (format_of c.args.xcal) (rest g.E.Encoding.encoding c.args.s.now c.args.at) c.args.p 12 c.if-p-eq-BYSETPOS.true refl c.is_signed-then-p-eq-BYSETPOS.ensures

pub returns : goal.returns
returns g c = item_at (format_of c.args.xcal) (rest g.E.Encoding.encoding c.args.s.now c.args.at) c.args.p 13 (omega (arith, c.requires, c.if-p-eq-BYMONTHDAY.false, c.if-p-eq-BYYEARDAY.false, c.if-p-eq-BYWEEKNO.false, c.if-p-eq-BYMONTH.false, c.if-p-eq-BYSETPOS.false)) refl c.is_weekday.ensures
