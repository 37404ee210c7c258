-- `read_xml_tokens::formed::well_formed` meets its contract.
use mathlib.Core.Path.{refl}
use native.Mathlib.Omega.{arith}
use Rattle.read_xml_tokens.specs.declared.TokenKind.TheVariants.{Start, Empty}
use Rattle.read_xml_tokens.specs.laws.Formed.{formed_start, formed_empty, root_faulty}
use Rattle.read_xml_tokens.specs.laws.Open.{opened_one, opened_none}
use Rattle.read_xml_tokens.specs.laws.MarksAt.{root_onward}
use Rattle.read_xml_tokens.proofs.formed.well_formed.Goals as goal

pub content_formed-requires : goal.content_formed-requires
content_formed-requires c = ((root_onward c.root_at-t.ensures Start refl c.in-Start.is).1, omega arith)

pub content_formed-requires-in-Empty : goal.content_formed-requires-in-Empty
content_formed-requires-in-Empty c = ((root_onward c.root_at-t.ensures Empty refl c.in-Empty.is).1, omega arith)

pub returns-in-Start : goal.returns-in-Start
returns-in-Start c = formed_start c.root_at-t.ensures _ _ 1 c.content_formed.ensures c.in-Start.is (opened_one _ _ _ _ _)

pub returns-in-Empty : goal.returns-in-Empty
returns-in-Empty c = formed_empty c.root_at-t.ensures _ _ 0 c.content_formed-in-Empty.ensures c.in-Empty.is (opened_none _ _ _ _ refl)

pub returns-in-End : goal.returns-in-End
returns-in-End c = rw c.at.ensures (root_faulty c.root_at-t.ensures c.in-End.is)
