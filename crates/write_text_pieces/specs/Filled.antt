-- What the room for one content line holds after lines were written into it, each from its start over what stood there.
--     properties_room   after the content lines of properties;   calendar_room: after those of components
--     PutBy             the contract of a writer that has such a room: what was put, and what the room l then is
use Rattle.std.specs.Prelude.{◌≡◌, List, [], ◌∷◌, ℕ}
use Rattle.octets.specs.Ascii.{ascii}
use Rattle.octets.specs.Append.{◌⊕◌}
use Rattle.calendar.specs.Calendar.{Property, Components, no_more, component}
use Rattle.sink.specs.Sink.{overwrite, Put}
use Rattle.read_text_line.specs.Decoded.{write_line}
use Rattle.text.specs.WriteText.{content_line_of}
use Rattle.edition.specs.declared.Edition.{Edition}

pub record PutBy (d e : List ℕ) (at r : ℕ) (bs l after : List ℕ) : Type 0 where
  pub put : Put d e at r bs
  pub room : l ≡ after

module _ (ed : Edition) where
  unfoldable pub properties_room : List Property → List ℕ → List ℕ
  properties_room [] k = k
  properties_room (p ∷ ps) k = properties_room ps (overwrite k 0 (write_line ed (content_line_of p)))

  unfoldable pub calendar_room : Components → List ℕ → List ℕ
  calendar_room no_more k = k
  calendar_room (component n ps inner next) k =
      calendar_room next (overwrite (calendar_room inner (properties_room ps (overwrite k 0 (ascii "BEGIN:" ⊕ n)))) 0 (ascii "END:" ⊕ n))
