use Rattle.std.proofs.Common.{ap, ◌∙◌, take}
use Rattle.octets.specs.Class.{upper}
use Rattle.octets.specs.Words.{same}
use Rattle.source.specs.laws.Facts.{decodes_same, decodes_over, decodes_when}
use Rattle.read_text_parameters.proofs.base64.is_word_in.Goals as goal

pub returns-in-Rfc5545 : goal.returns-in-Rfc5545
returns-in-Rfc5545 g c = c.is_named.ensures ∙ ap (λ l. same (upper l) c.args.w.now) ((decodes_when c.in-Rfc5545.is (decodes_same _)).is (take c.args.to c.args.s.now) c.args.from)

pub returns-in-Rfc6868 : goal.returns-in-Rfc6868
returns-in-Rfc6868 g c =
    c.is_named-in-Rfc6868.ensures ∙ ap (λ l. same (upper l) c.args.w.now) ((decodes_when c.in-Rfc6868.is (decodes_over _ g.met.E.Cuttable.cut)).is (take c.args.to c.args.s.now) c.args.from)
