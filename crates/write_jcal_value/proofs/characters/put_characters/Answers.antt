-- `write_jcal_value::characters::put_characters` meets its contract.
use Rattle.sink.specs.laws.Sink.{writing}
use Rattle.write_jcal_value.specs.laws.Characters.{put_uri, put_address, put_text, put_unknown, put_other, put_at, put_beyond}
use Rattle.write_jcal_value.proofs.characters.put_characters.Goals as goal

pub put_uri-requires : goal.put_uri-requires
put_uri-requires g c = search writing

pub shape_of-out-then-t-eq-CAL_ADDRESS : goal.shape_of-out-then-t-eq-CAL_ADDRESS
shape_of-out-then-t-eq-CAL_ADDRESS g c = search writing

pub returns-then-t-eq-CAL_ADDRESS : goal.returns-then-t-eq-CAL_ADDRESS
returns-then-t-eq-CAL_ADDRESS g c = search (put_at, put_address, writing)

pub put_text_characters-requires : goal.put_text_characters-requires
put_text_characters-requires g c = search writing

pub shape_of-out-then-t-eq-TEXT : goal.shape_of-out-then-t-eq-TEXT
shape_of-out-then-t-eq-TEXT g c = search writing

pub returns-then-t-eq-TEXT : goal.returns-then-t-eq-TEXT
returns-then-t-eq-TEXT g c = search (put_at, put_text, writing)

pub put_uri-requires-then-t-eq-URI : goal.put_uri-requires-then-t-eq-URI
put_uri-requires-then-t-eq-URI g c = search writing

pub shape_of-out-then-t-eq-URI : goal.shape_of-out-then-t-eq-URI
shape_of-out-then-t-eq-URI g c = search writing

pub returns-then-t-eq-URI : goal.returns-then-t-eq-URI
returns-then-t-eq-URI g c = search (put_at, put_uri, writing)

pub put_unknown_characters-requires : goal.put_unknown_characters-requires
put_unknown_characters-requires g c = search writing

pub shape_of-out-then-t-ge-KNOWN : goal.shape_of-out-then-t-ge-KNOWN
shape_of-out-then-t-ge-KNOWN g c = search writing

pub returns-then-t-ge-KNOWN : goal.returns-then-t-ge-KNOWN
returns-then-t-ge-KNOWN g c = search (put_beyond, put_unknown, writing)

pub put_value_xml-requires : goal.put_value_xml-requires
put_value_xml-requires g c = search writing

pub shape_of-out : goal.shape_of-out
shape_of-out g c = search writing

pub returns : goal.returns
returns g c = search (put_other, writing)
