-- `numbers::boolean::read_xml` meets its contract.
use Rattle.numbers.specs.laws.ReadBoolean.{xml_true, xml_one, xml_false, xml_zero, xml_neither}
use Rattle.numbers.proofs.boolean.read_xml.Goals as goal
use Rattle.numbers.proofs.boolean.read_xml.Goals.{then-is_word-via-then-is_word, then-is_word-via-else-is_word+then-is_word-2, then-is_word-3-via-then-is_word-3, then-is_word-3-via-else-is_word-3+then-is_word-4}

pub returns-then-is_word : goal.returns-then-is_word
returns-then-is_word g c =
    elim c.then-is_word.branch [
      | then-is_word-via-then-is_word w ↦ xml_true _ c.is_word.ensures w.if-is_word.true
      | then-is_word-via-else-is_word+then-is_word-2 w ↦ xml_one _ c.is_word.ensures w.if-is_word.false w.is_word-else-is_word.ensures w.if-is_word-2.true
    ]

pub returns-then-is_word-3 : goal.returns-then-is_word-3
returns-then-is_word-3 g c =
    elim c.then-is_word-3.branch [
      | then-is_word-3-via-then-is_word-3 w ↦ xml_false _ c.is_word.ensures c.if-is_word.false c.is_word-else-is_word.ensures c.if-is_word-2.false c.is_word-2.ensures w.if-is_word-3.true
      | then-is_word-3-via-else-is_word-3+then-is_word-4 w ↦
          xml_zero _ c.is_word.ensures c.if-is_word.false c.is_word-else-is_word.ensures c.if-is_word-2.false c.is_word-2.ensures w.if-is_word-3.false w.is_word-else-is_word-3.ensures w.if-is_word-4.true
    ]

pub returns : goal.returns
returns g c =
    xml_neither _ c.is_word.ensures c.if-is_word.false c.is_word-else-is_word.ensures c.if-is_word-2.false c.is_word-2.ensures c.if-is_word-3.false c.is_word-else-is_word-3.ensures c.if-is_word-4.false
