-- `read_text_parameters::type_for` meets its contract.
use mathlib.Core.Path.{refl, ◌∙◌}
use Rattle.read_text_line.specs.Decoded.{params_in}
use Rattle.read_text_parameters.specs.laws.Judging.{for_other, for_named, for_none, for_some}
use Rattle.read_text_parameters.proofs.walk.type_for.Goals as goal

pub returns-then-named : goal.returns-then-named
returns-then-named g c = for_named c.args.n (params_in c.args.edition g.E.Encoding.encoding c.args.s.now c.args.next) c.args.q c.is_typed-typed.ensures c.if-typed.true c.holds-named.ensures refl c.if-named.true

pub returns-in_default : goal.returns-in_default
returns-in_default g c = for_none c.args.n (params_in c.args.edition g.E.Encoding.encoding c.args.s.now c.args.next) c.args.q c.is_typed-typed.ensures c.if-typed.true c.holds-named.ensures c.if-named.false (c.stated_type.ensures.is ∙ c.in_default.is)

pub returns-then-typed : goal.returns-then-typed
returns-then-typed g c = for_some c.args.n (params_in c.args.edition g.E.Encoding.encoding c.args.s.now c.args.next) c.args.q c.is_typed-typed.ensures c.if-typed.true c.holds-named.ensures c.if-named.false (c.stated_type.ensures.is ∙ c.in-Some.is)

pub returns : goal.returns
returns g c = for_other c.args.n (params_in c.args.edition g.E.Encoding.encoding c.args.s.now c.args.next) c.args.q c.is_typed-typed.ensures c.if-typed.false
