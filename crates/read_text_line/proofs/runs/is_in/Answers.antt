-- `read_text_line::runs::is_in` meets its contract.
use Rattle.read_text_line.proofs.runs.is_in.Goals as goal

pub returns-in-Safe : goal.returns-in-Safe
returns-in-Safe c = rw c.in-Safe.is c.is_safe.ensures

pub returns-in-Quoted : goal.returns-in-Quoted
returns-in-Quoted c = rw c.in-Quoted.is c.is_qsafe.ensures

pub returns-in-Valued : goal.returns-in-Valued
returns-in-Valued c = rw c.in-Valued.is c.is_valued.ensures
