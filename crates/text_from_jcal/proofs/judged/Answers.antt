-- `text_from_jcal::judged` meets its contract.
use Rattle.text_from_jcal.specs.laws.Steps.{calendars_refused, calendars_fine, calendars_bound, calendars_fit}
use borrow.Author.Rules.{rules}
use Rattle.text_from_jcal.proofs.judged.Goals as goal

pub lined-requires : goal.lined-requires
lined-requires c = (c.requires.0, calendars_fit c.args.edition c.args.s.now c.requires.0 c.requires.1, calendars_bound c.args.edition c.args.s.now c.requires.1 c.calendars_verdict.ensures c.in-Ok.is)

pub returns-in-Err : goal.returns-in-Err
returns-in-Err c = calendars_refused c.args.edition c.args.s.now c.args.out.now c.calendars_verdict.ensures c.in-Err.fault c.in-Err.is c.from.ensures

pub returns-in-Ok : goal.returns-in-Ok
returns-in-Ok c = calendars_fine c.args.edition c.args.s.now c.args.out.now c.calendars_verdict.ensures c.in-Ok.is c.lined.ensures
