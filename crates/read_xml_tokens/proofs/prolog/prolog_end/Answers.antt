-- `read_xml_tokens::prolog::prolog_end` meets its contract.
use native.Mathlib.Omega.{arith}
use borrow.Author.Rules.{rules}
use Rattle.read_xml_tokens.specs.laws.Prologue.{prolog_found, prolog_none}
use Rattle.read_xml_tokens.proofs.prolog.prolog_end.Goals as goal

pub returns-then-e-s : goal.returns-then-e-s
returns-then-e-s c = (prolog_found c.declaration_at-a.ensures c.blank_at-e.ensures c.if-e-s.true, c.if-e-s.true)

pub returns : goal.returns
returns c = (prolog_none c.declaration_at-a.ensures c.blank_at-e.ensures c.if-e-s.false, omega arith)
