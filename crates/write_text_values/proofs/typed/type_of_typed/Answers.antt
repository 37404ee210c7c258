-- `write_text_values::typed::type_of_typed` meets its contract.
use Rattle.write_text_values.specs.laws.Typed.{typed_within}
use Rattle.write_text_values.specs.laws.Types.{type_of_first, type_of_none}
use borrow.Author.Rules.{rules}
use Rattle.write_text_values.proofs.typed.type_of_typed.Goals as goal

pub type_of_value-requires : goal.type_of_value-requires
type_of_value-requires c = (c.requires, (typed_within c.find_typed.ensures c.in-Some.is).inside, (typed_within c.find_typed.ensures c.in-Some.is).known)

pub returns-in-Some : goal.returns-in-Some
returns-in-Some c = type_of_first c.find_typed.ensures c.in-Some.is c.type_of_value.ensures

pub returns-in-None : goal.returns-in-None
returns-in-None c = type_of_none c.find_typed.ensures c.in-None.is
