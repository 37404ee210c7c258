-- `write_jcal_parameters::value::put_value` meets its contract.
use Rattle.write_jcal_parameters.specs.laws.Parts.{no_recur, put_word, put_raw, put_unknown, put_typed}
use Rattle.sink.specs.laws.Sink.{writing}
use Rattle.write_jcal_parameters.proofs.value.put_value.Goals as goal

pub parameter_has_words-words-requires : goal.parameter_has_words-words-requires
parameter_has_words-words-requires g c = search writing

pub put_capitals_quoted-requires : goal.put_capitals_quoted-requires
put_capitals_quoted-requires g c = search writing

pub shape_of-out-then-words : goal.shape_of-out-then-words
shape_of-out-then-words g c = search writing

pub returns-then-words : goal.returns-then-words
returns-then-words g c = search (put_word, writing)

pub parameter_type-t-requires : goal.parameter_type-t-requires
parameter_type-t-requires g c = search writing

pub put_quoted-requires : goal.put_quoted-requires
put_quoted-requires g c = search writing

pub shape_of-out-then-t-eq-TEXT : goal.shape_of-out-then-t-eq-TEXT
shape_of-out-then-t-eq-TEXT g c = search writing

pub returns-then-t-eq-TEXT : goal.returns-then-t-eq-TEXT
returns-then-t-eq-TEXT g c = search (put_raw, writing)

pub put_quoted-requires-then-t-eq-UNKNOWN : goal.put_quoted-requires-then-t-eq-UNKNOWN
put_quoted-requires-then-t-eq-UNKNOWN g c = search writing

pub shape_of-out-then-t-eq-UNKNOWN : goal.shape_of-out-then-t-eq-UNKNOWN
shape_of-out-then-t-eq-UNKNOWN g c = search writing

pub returns-then-t-eq-UNKNOWN : goal.returns-then-t-eq-UNKNOWN
returns-then-t-eq-UNKNOWN g c = search (put_unknown, writing)

pub put_typed-requires : goal.put_typed-requires
put_typed-requires g c = search (no_recur, writing)

pub shape_of-out : goal.shape_of-out
shape_of-out g c = search writing

pub returns : goal.returns
returns g c = search (put_typed, writing)
