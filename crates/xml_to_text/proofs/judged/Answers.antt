-- `xml_to_text::judged` meets its contract. Assumes nothing.
use Rattle.xml_to_text.specs.laws.Steps.{root_bound, root_refused, root_fine}
use native.Mathlib.Omega.{arith}
use borrow.Author.Rules.{rules}
use Rattle.xml_to_text.proofs.judged.Goals as goal

pub root_verdict-requires : goal.root_verdict-requires
root_verdict-requires c = (c.requires.0, c.root_node-t.ensures.name_within)

pub lined-requires : goal.lined-requires
lined-requires c = (c.requires.0, root_bound _ c.root_node-t.ensures c.requires.1)

pub returns-in-Err : goal.returns-in-Err
returns-in-Err c = root_refused _ c.root_node-t.ensures c.requires.1 c.root_verdict.ensures c.args.out.now c.in-Err.fault c.in-Err.is c.from.ensures

pub returns-in-Ok : goal.returns-in-Ok
returns-in-Ok c = root_fine _ c.root_node-t.ensures c.requires.1 c.root_verdict.ensures c.args.out.now c.in-Ok.is c.lined.ensures
