-- `read_text::line::row_line` meets its contract.
use mathlib.Core.Path.{refl}
use Rattle.octets.specs.Class.{upper}
use Rattle.read_text_line.specs.Decoded.{decoded_line}
use Rattle.read_text_line.specs.Line.{line_from}
use Rattle.read_text_property.specs.laws.Faults.{fault_named}
use Rattle.read_text.specs.laws.Holding.{property_parameter, property_encoding, property_value, property_held, property_not}
use Rattle.std.proofs.Common.{ap, ◌∙◌, Some}
use Rattle.read_text.proofs.line.row_line.Goals as goal

pub returns-in-Some-Parameter : goal.returns-in-Some-Parameter
returns-in-Some-Parameter g c = λ i n w o e. rw c.at-in-Some-Parameter.ensures (property_parameter _ i g.E.Encoding.encoding c.args.s.now c.args.l w n c.args.inner e (c.may_hold.ensures n (upper w) o e) c.if-not-may_hold.false (fault_named n (decoded_line c.args.edition (line_from w g.E.Encoding.encoding c.args.s.now c.args.l)) c.property_fault.ensures o e refl refl) (c.in-Some-Parameter.is ∙ ap Some c.in-Some-Parameter.field-0-is) (rw c.in-Some-Parameter.i-is at c.parameter_cursor-c.ensures))

pub returns-in-Some-Encoding : goal.returns-in-Some-Encoding
returns-in-Some-Encoding g c = λ i n w o e. rw c.at-in-Some-Encoding.ensures (property_encoding _ i g.E.Encoding.encoding c.args.s.now c.args.l w n c.args.inner e (c.may_hold.ensures n (upper w) o e) c.if-not-may_hold.false (fault_named n (decoded_line c.args.edition (line_from w g.E.Encoding.encoding c.args.s.now c.args.l)) c.property_fault.ensures o e refl refl) (c.in-Some-Encoding.is ∙ ap Some c.in-Some-Encoding.field-0-is))

pub returns-in-Some-Value : goal.returns-in-Some-Value
returns-in-Some-Value g c = λ i n w o e. rw c.at-in-Some-Value.ensures (property_value _ i g.E.Encoding.encoding c.args.s.now c.args.l w n c.args.inner e (c.may_hold.ensures n (upper w) o e) c.if-not-may_hold.false (fault_named n (decoded_line c.args.edition (line_from w g.E.Encoding.encoding c.args.s.now c.args.l)) c.property_fault.ensures o e refl refl) (c.in-Some-Value.is ∙ ap Some c.in-Some-Value.field-0-is))

pub returns-in-None : goal.returns-in-None
returns-in-None g c = λ i n w o e. property_held _ i g.E.Encoding.encoding c.args.s.now c.args.l w n c.args.inner e (c.may_hold.ensures n (upper w) o e) c.if-not-may_hold.false (fault_named n (decoded_line c.args.edition (line_from w g.E.Encoding.encoding c.args.s.now c.args.l)) c.property_fault.ensures o e refl refl) c.in-None.is c.action_of-a.ensures

pub returns-then-not-may_hold : goal.returns-then-not-may_hold
returns-then-not-may_hold g c = λ i n w o e. rw c.at.ensures (property_not _ i g.E.Encoding.encoding c.args.s.now c.args.l w n c.args.inner e (c.may_hold.ensures n (upper w) o e) c.if-not-may_hold.true)
