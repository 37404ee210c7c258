-- `read_jcal_value::typed_read` meets its contract.
use Rattle.octets.specs.laws.Pick.{branching, choice}
use Rattle.read_jcal_value.proofs.typed.typed_read.Goals as goal

pub binary_read-requires : goal.binary_read-requires
binary_read-requires c = search branching

pub returns-then-t-eq-BINARY : goal.returns-then-t-eq-BINARY
returns-then-t-eq-BINARY c = search choice depth 12

pub boolean_read-requires : goal.boolean_read-requires
boolean_read-requires c = search branching

pub returns-then-t-eq-BOOLEAN : goal.returns-then-t-eq-BOOLEAN
returns-then-t-eq-BOOLEAN c = search choice depth 12

pub float_read-requires : goal.float_read-requires
float_read-requires c = search branching

pub returns-then-t-eq-FLOAT : goal.returns-then-t-eq-FLOAT
returns-then-t-eq-FLOAT c = search choice depth 12

pub integer_read-requires : goal.integer_read-requires
integer_read-requires c = search branching

pub returns-then-t-eq-INTEGER : goal.returns-then-t-eq-INTEGER
returns-then-t-eq-INTEGER c = search choice depth 12

pub period_read-requires : goal.period_read-requires
period_read-requires c = search branching

pub returns-then-t-eq-PERIOD : goal.returns-then-t-eq-PERIOD
returns-then-t-eq-PERIOD c = search choice depth 12

pub rule_read-requires : goal.rule_read-requires
rule_read-requires c = search branching

pub returns-then-t-eq-RECUR : goal.returns-then-t-eq-RECUR
returns-then-t-eq-RECUR c = search choice depth 12

pub string_read-requires : goal.string_read-requires
string_read-requires c = search branching

pub returns : goal.returns
returns c = search choice depth 12
