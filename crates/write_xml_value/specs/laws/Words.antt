-- The element of a TEXT value, by its characters.
--     put_text_value, put_unknown_value    an element `text`, or `unknown`, of these characters is the value's
--     capitals              rules of the loop that writes a word in capitals, with `capitals_each`: byte by byte
use Rattle.std.specs.Prelude.{◌≡◌, refl, List, [], ◌∷◌, ◌++◌, ℕ, ◌<◌}
use Rattle.std.proofs.Common.{ap}
use Rattle.octets.specs.Ascii.{ascii}
use Rattle.octets.specs.Append.{◌⊕◌}
use Rattle.octets.specs.Class.{upper, upper_byte}
use Rattle.octets.specs.Computing.{octets_compute}
use Rattle.calendar.specs.Calendar.{text, unknown}
use Rattle.sink.specs.Sink.{Put}
use Rattle.sink.specs.laws.Sink.{each}
use Rattle.names.specs.laws.Case.{cased_small}
use Rattle.names.specs.declared.Case.TheVariants.{Capital}
use Rattle.source.specs.laws.Copying.{copying}
use Rattle.values.specs.WriteValue.{value_characters}
use Rattle.xml.specs.Escape.{escaped_byte, escaped, element_of}
use Rattle.xcal.specs.WriteXml.{value_xml}
use Rattle.write_xml_value.specs.Tags.{type_label}

pub put_text_value : {d e : List ℕ} {o r : ℕ} (s : List ℕ) → Put d e o r (element_of (ascii "text") (escaped s)) → Put d e o r (value_xml (text s))
unfolding value_xml value_characters octets_compute
put_text_value s p = p

pub put_unknown_value : {d e : List ℕ} {o r : ℕ} (s : List ℕ) → Put d e o r (element_of (type_label 14) (escaped s)) → Put d e o r (value_xml (unknown s))
unfolding value_xml value_characters octets_compute
put_unknown_value s p = p

-- ---- capitals

abbrev pub capital_byte : ℕ → List ℕ
capital_byte b = escaped_byte (upper_byte b)

pub capitals_each : (s : List ℕ) → escaped (upper s) ≡ each capital_byte s
unfolding escaped upper each ◌⊕◌
capitals_each [] = refl
capitals_each (b ∷ s) = ap (λ (l : List ℕ). capital_byte b ++ l) (capitals_each s)

pub capital_small : (b : ℕ) → b < 256 → upper_byte b < 256
capital_small b h = cased_small Capital b h

-- the byte, made capital by a call
pub put_capital : {d e : List ℕ} {o r v : ℕ} (u : ℕ) → v ≡ upper_byte u → Put d e o r (escaped_byte v) → Put d e o r (capital_byte u)
put_capital u h p = rw (← h) p

pub ruleset capitals = (put_capital, copying)
