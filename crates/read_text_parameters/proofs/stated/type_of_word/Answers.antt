use Rattle.std.proofs.Common.{take}
use Rattle.std.proofs.Math.Path.{subst}
use Rattle.octets.specs.Class.{upper}
use Rattle.schema.specs.Types.{type_named}
use Rattle.source.specs.laws.Facts.{decodes_same, decodes_over, decodes_when}
use Rattle.read_text_parameters.specs.Stating.{TypeOf}
use Rattle.read_text_parameters.proofs.stated.type_of_word.Goals as goal

pub returns-in-Rfc5545 : goal.returns-in-Rfc5545
returns-in-Rfc5545 g c = subst (λ l. TypeOf (type_named (upper l)) c.named_type.result) ((decodes_when c.in-Rfc5545.is (decodes_same _)).is (take c.args.to c.args.s.now) c.args.from) c.named_type.ensures

pub returns-in-Rfc6868 : goal.returns-in-Rfc6868
returns-in-Rfc6868 g c =
    subst (λ l. TypeOf (type_named (upper l)) c.named_type-in-Rfc6868.result) ((decodes_when c.in-Rfc6868.is (decodes_over _ g.met.E.Cuttable.cut)).is (take c.args.to c.args.s.now) c.args.from) c.named_type-in-Rfc6868.ensures
