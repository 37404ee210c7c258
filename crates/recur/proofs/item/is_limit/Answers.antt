-- `recur::is_limit` meets its contract.
use Rattle.source.specs.Source.{rest}
use Rattle.calendar.specs.Calendar.{format_of}
use Rattle.recur.specs.laws.Fits.{item_at}
use native.Mathlib.Omega.{arith}
use mathlib.Core.Path.{refl}
use Rattle.recur.proofs.item.is_limit.Goals as goal

pub returns-then-p-eq-FREQ : goal.returns-then-p-eq-FREQ
returns-then-p-eq-FREQ g c = item_at (format_of c.args.xcal) (rest g.E.Encoding.encoding c.args.s.now c.args.at) c.args.p 0 c.if-p-eq-FREQ.true refl c.is_frequency.ensures

pub returns-then-p-eq-UNTIL : goal.returns-then-p-eq-UNTIL
returns-then-p-eq-UNTIL g c = item_at (format_of c.args.xcal) (rest g.E.Encoding.encoding c.args.s.now c.args.at) c.args.p 1 c.if-p-eq-UNTIL.true refl c.is_enddate.ensures

pub returns-then-p-eq-COUNT : goal.returns-then-p-eq-COUNT
returns-then-p-eq-COUNT g c = item_at (format_of c.args.xcal) (rest g.E.Encoding.encoding c.args.s.now c.args.at) c.args.p 2 c.if-p-eq-COUNT.true refl c.is_numeral.ensures

pub returns : goal.returns
returns g c = item_at (format_of c.args.xcal) (rest g.E.Encoding.encoding c.args.s.now c.args.at) c.args.p 3 (omega (arith, c.requires, c.if-p-eq-FREQ.false, c.if-p-eq-UNTIL.false, c.if-p-eq-COUNT.false)) refl c.is_numeral-2.ensures
