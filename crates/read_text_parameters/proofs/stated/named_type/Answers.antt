-- `read_text_parameters::named_type` meets its contract.
use Rattle.read_text_parameters.specs.laws.Stating.{type_some, type_none}
use Rattle.read_text_parameters.specs.laws.Cutting.{cut_at}
use Rattle.schema.specs.Numbers.{type_names}
use Rattle.names.specs.Table.{place_of}
use Rattle.octets.specs.Class.{upper}
use lib.ListN.{length-take}
use native.Mathlib.Omega.{arith}
use Rattle.read_text_parameters.proofs.stated.named_type.Goals as goal

pub slice_bounds-type_number-end : goal.slice_bounds-type_number-end
slice_bounds-type_number-end g c = simp length-take (omega arith)

pub returns-then-t-lt-KNOWN : goal.returns-then-t-lt-KNOWN
returns-then-t-lt-KNOWN g c = type_some _ (cut_at (λ l. place_of (upper l) type_names) g.E.Encoding.encoding c.args.s.now c.args.from c.args.to c.smaller-e.ensures c.type_number-t.ensures) c.if-t-lt-KNOWN.true

pub returns-else-t-lt-KNOWN : goal.returns-else-t-lt-KNOWN
returns-else-t-lt-KNOWN g c = type_none _ (cut_at (λ l. place_of (upper l) type_names) g.E.Encoding.encoding c.args.s.now c.args.from c.args.to c.smaller-e.ensures c.type_number-t.ensures) c.if-t-lt-KNOWN.false
