-- `write_xml_parameters::value::put_value` meets its contract.
use Rattle.write_xml_parameters.specs.laws.Parts.{put_word, put_raw, put_unknown, put_typed}
use Rattle.sink.specs.laws.Sink.{writing}
use Rattle.read_text_parameters.specs.laws.Typing.{no_rule}
use Rattle.write_xml_parameters.proofs.value.put_value.Goals as goal

pub parameter_has_words-words-requires : goal.parameter_has_words-words-requires
parameter_has_words-words-requires g c = search writing

pub put_word_element-requires : goal.put_word_element-requires
put_word_element-requires g c = search writing

pub shape_of-out-then-words : goal.shape_of-out-then-words
shape_of-out-then-words g c = search writing

pub returns-then-words : goal.returns-then-words
returns-then-words g c = search (put_word, writing)

pub parameter_type-t-requires : goal.parameter_type-t-requires
parameter_type-t-requires g c = search writing

pub put_raw_element-requires : goal.put_raw_element-requires
put_raw_element-requires g c = search writing

pub shape_of-out-then-t-eq-TEXT : goal.shape_of-out-then-t-eq-TEXT
shape_of-out-then-t-eq-TEXT g c = search writing

pub returns-then-t-eq-TEXT : goal.returns-then-t-eq-TEXT
returns-then-t-eq-TEXT g c = search (put_raw, writing)

pub put_unknown_element-requires : goal.put_unknown_element-requires
put_unknown_element-requires g c = search writing

pub shape_of-out-then-t-eq-UNKNOWN : goal.shape_of-out-then-t-eq-UNKNOWN
shape_of-out-then-t-eq-UNKNOWN g c = search writing

pub returns-then-t-eq-UNKNOWN : goal.returns-then-t-eq-UNKNOWN
returns-then-t-eq-UNKNOWN g c = search (put_unknown, writing)

pub put_value_element-requires : goal.put_value_element-requires
put_value_element-requires g c = search (no_rule, writing)

pub shape_of-out : goal.shape_of-out
shape_of-out g c = search writing

pub returns : goal.returns
returns g c = search (put_typed, writing)
