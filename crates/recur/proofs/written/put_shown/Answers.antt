-- `recur::put_shown` meets its contract.
use Rattle.sink.specs.laws.Sink.{writing}
use Rattle.recur.specs.laws.PutShown.{put_shown_at, put_shown_number, put_shown_beyond}
use Rattle.recur.proofs.written.put_shown.Goals as goal

pub returns-then-p-eq-FREQ : goal.returns-then-p-eq-FREQ
returns-then-p-eq-FREQ g c = put_shown_at _ _ _ c.args.p 0 c.if-p-eq-FREQ.true c.put_word.ensures

pub returns-then-p-eq-UNTIL : goal.returns-then-p-eq-UNTIL
returns-then-p-eq-UNTIL g c = put_shown_at _ _ _ c.args.p 1 c.if-p-eq-UNTIL.true c.put_enddate.ensures

pub returns-then-p-eq-BYDAY : goal.returns-then-p-eq-BYDAY
returns-then-p-eq-BYDAY g c = put_shown_at _ _ _ c.args.p 7 c.if-p-eq-BYDAY.true c.put_weekdaynum.ensures

pub returns-then-p-eq-WKST : goal.returns-then-p-eq-WKST
returns-then-p-eq-WKST g c = put_shown_at _ _ _ c.args.p 13 c.if-p-eq-WKST.true c.put_word-then-p-eq-WKST.ensures

pub returns-then-p-lt-KNOWN : goal.returns-then-p-lt-KNOWN
returns-then-p-lt-KNOWN g c = put_shown_number _ _ _ c.args.p c.if-p-eq-FREQ.false c.if-p-eq-UNTIL.false c.if-p-eq-BYDAY.false c.if-p-eq-WKST.false c.if-p-lt-KNOWN.true c.put_number.ensures

pub returns : goal.returns
returns g c = put_shown_beyond _ _ _ c.args.p c.if-p-lt-KNOWN.false (search writing)
