-- `read_xml_tokens::formed::depth_after` meets its contract.
use mathlib.Core.Path.{refl, sym, ◌∙◌}
use native.Mathlib.Omega.{arith}
use Rattle.read_xml_tokens.specs.declared.TokenKind.TheVariants.{Start, Empty, End, Char, Reference}
use Rattle.read_xml_tokens.specs.laws.Formed.{start_turn, start_stop, empty_turn, empty_stop, end_turn, end_stop, char_turn, char_stop, reference_turn, reference_stop, fault_stop, turn_stop, turn_open, turn_stay}
use Rattle.read_xml_tokens.specs.laws.Open.{closes_some}
use Rattle.read_xml_tokens.specs.laws.MarksAt.{a_token}
use Rattle.read_xml_tokens.specs.laws.TokenAt.{token_named}
use Rattle.read_xml_tokens.proofs.formed.depth_after.Goals as goal

pub overflow_add-result : goal.overflow_add-result
overflow_add-result c = omega (arith, c.requires.2)

pub returns-then-has_room : goal.returns-then-has_room
returns-then-has_room c = λ v o. turn_open o c.requires.0 (a_token Start refl c.in-Start.is) (start_turn o c.requires.0 c.in-Start.is (sym c.has_room.ensures ∙ c.if-has_room.true))

pub returns-then-has_room-2 : goal.returns-then-has_room-2
returns-then-has_room-2 c = λ v o. turn_stay o c.requires.0 _ (omega arith) (a_token Empty refl c.in-Empty.is) (empty_turn o c.requires.0 c.in-Empty.is (sym c.has_room-in-Empty.ensures ∙ c.if-has_room-2.true))

pub closes_top-requires : goal.closes_top-requires
closes_top-requires c = (c.requires.2, c.requires.0.named, token_named c.requires.0 (a_token End refl c.in-End.is))

pub overflow_sub-result : goal.overflow_sub-result
overflow_sub-result c = closes_some c.args.s.now c.args.starts c.args.ends c.args.depth c.args.t.name c.args.t.name_end (sym c.closes_top.ensures ∙ c.if-closes_top.true)

pub returns-then-closes_top : goal.returns-then-closes_top
returns-then-closes_top c = λ v o. turn_stay o c.requires.0 _ (omega arith) (a_token End refl c.in-End.is) (end_turn o c.requires.0 c.in-End.is (sym c.closes_top.ensures ∙ c.if-closes_top.true))

pub returns-then-may_stand : goal.returns-then-may_stand
returns-then-may_stand c = λ v o. turn_stay o c.requires.0 _ (omega arith) (a_token Char refl c.in-Char.is) (char_turn o c.requires.0 c.in-Char.is (sym c.may_stand.ensures ∙ c.if-may_stand.true))

pub returns-then-depth-eq0 : goal.returns-then-depth-eq0
returns-then-depth-eq0 c = λ v o. turn_stop o c.requires.0 (reference_stop o c.requires.0 c.in-Reference.is c.if-depth-eq0.true)

pub returns-else-has_room : goal.returns-else-has_room
returns-else-has_room c = λ v o. turn_stop o c.requires.0 (start_stop o c.requires.0 c.in-Start.is (sym c.has_room.ensures ∙ c.if-has_room.false))

pub returns-else-has_room-2 : goal.returns-else-has_room-2
returns-else-has_room-2 c = λ v o. turn_stop o c.requires.0 (empty_stop o c.requires.0 c.in-Empty.is (sym c.has_room-in-Empty.ensures ∙ c.if-has_room-2.false))

pub returns-else-closes_top : goal.returns-else-closes_top
returns-else-closes_top c = λ v o. turn_stop o c.requires.0 (end_stop o c.requires.0 c.in-End.is (sym c.closes_top.ensures ∙ c.if-closes_top.false))

pub returns-else-may_stand : goal.returns-else-may_stand
returns-else-may_stand c = λ v o. turn_stop o c.requires.0 (char_stop o c.requires.0 c.in-Char.is (sym c.may_stand.ensures ∙ c.if-may_stand.false))

pub returns-else-depth-eq0 : goal.returns-else-depth-eq0
returns-else-depth-eq0 c = λ v o. turn_stay o c.requires.0 _ (omega arith) (a_token Reference refl c.in-Reference.is) (reference_turn o c.requires.0 c.in-Reference.is c.if-depth-eq0.false)

pub returns-in-Fault : goal.returns-in-Fault
returns-in-Fault c = λ v o. turn_stop o c.requires.0 (fault_stop o c.requires.0 c.in-Fault.is c.requires.1)
