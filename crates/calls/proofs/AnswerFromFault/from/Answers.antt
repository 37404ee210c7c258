-- A fault becomes the answer of its number.
use Rattle.std.proofs.Common.{ap, ◌∙◌}
use Rattle.calls.specs.Answered.{answer_at}
use Rattle.calls.specs.laws.Answered.{answer_back}
use Rattle.calls.proofs.AnswerFromFault.from.Goals as goal

pub returns : goal.returns
returns c = c.refused.ensures ∙ ap (λ n. answer_at n c.args.fault.place) c.number.ensures ∙ answer_back c.args.fault.refusal c.args.fault.place
