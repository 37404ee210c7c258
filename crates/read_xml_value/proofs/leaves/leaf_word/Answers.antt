-- `read_xml_value::leaf_word` meets its contract.
use Rattle.schema.specs.Sets.{is_word_of, words_at}
use Rattle.read_xml_value.specs.laws.Leaves.{leaf_as}
use Rattle.read_xml_value.proofs.leaves.leaf_word.Goals as goal

pub returns : goal.returns
returns c = leaf_as (λ l. is_word_of (words_at c.args.k c.args.p) l) c.args.s.now c.args.place c.args.inside c.word_chars.ensures c.leaf.ensures
