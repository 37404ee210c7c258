-- `read_jcal_parameters::order::name_unit` meets its contract.
use native.Mathlib.Omega.{arith}
use Rattle.source.specs.laws.Stepping.{byte_step}
use Rattle.source.specs.laws.Quoted.{quoted_apart, quoted_placed, quoted_named}
use Rattle.read_jcal_parameters.proofs.order.name_unit.Goals as goal

pub overflow_mul-result : goal.overflow_mul-result
overflow_mul-result c = omega (arith, ((quoted_placed c.char_at-c.ensures).inside (λ e. omega arith)).1)

pub returns-then-c-lt-END : goal.returns-then-c-lt-END
returns-then-c-lt-END c =
    let i = (quoted_placed c.char_at-c.ensures).inside (λ e. omega arith) in
    byte_step quoted_apart (quoted_named c.char_at-c.ensures) _ (omega arith) c.if-c-lt-END.true i.0 i.1
