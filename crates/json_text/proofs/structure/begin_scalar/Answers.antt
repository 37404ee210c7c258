-- `json_text::begin_scalar` meets its contract. Assumes nothing.
use Rattle.octets.specs.laws.Pick.{choice, flag_yes, flag_no, branching}
use Rattle.json_text.proofs.structure.begin_scalar.Goals as goal

pub returns-then-b-eq45 : goal.returns-then-b-eq45
returns-then-b-eq45 c = search (choice, flag_yes, flag_no) depth 9

pub returns-then-b-eq48 : goal.returns-then-b-eq48
returns-then-b-eq48 c = search (choice, flag_yes, flag_no) depth 9

pub is_digit-requires : goal.is_digit-requires
is_digit-requires c = search branching

pub returns-then-is_digit : goal.returns-then-is_digit
returns-then-is_digit c = search (choice, flag_yes, flag_no) depth 9

pub returns-then-b-eq116 : goal.returns-then-b-eq116
returns-then-b-eq116 c = search (choice, flag_yes, flag_no) depth 9

pub returns-then-b-eq102 : goal.returns-then-b-eq102
returns-then-b-eq102 c = search (choice, flag_yes, flag_no) depth 9

pub returns-then-b-eq110 : goal.returns-then-b-eq110
returns-then-b-eq110 c = search (choice, flag_yes, flag_no) depth 9

pub returns : goal.returns
returns c = search (choice, flag_yes, flag_no) depth 9
