-- Laws of what specs/Own.antt defines.
--     put_..             the ways of the code
use Rattle.std.specs.Prelude.{◌≡◌, Bool, List, [], ℕ, ◌*◌, Option, None, Some, option_map}
use Rattle.std.proofs.Common.{sym, ◌∙◌}
use Rattle.octets.specs.Ascii.{ascii}
use Rattle.octets.specs.Pick.{pick}
use Rattle.octets.specs.Append.{◌⊕◌}
use Rattle.octets.specs.laws.Append.{append_none}
use Rattle.octets.specs.Words.{each_after, joined_by}
use Rattle.octets.specs.Reading.{read_or, or_nothing}
use Rattle.calendar.specs.Calendar.{request_status}
use Rattle.sink.specs.Sink.{Put}
use Rattle.source.specs.Source.{rest}
use Rattle.numbers.specs.Float.{read_float, write_float, or_zero, after_point}
use Rattle.numbers.specs.ReadFloat.{float_of as read_as}
use Rattle.numbers.specs.declared.float.Float.{Float}
use Rattle.texts.specs.Text.{write_text}
use Rattle.values.specs.WriteValue.{write_value}
use Rattle.xml.specs.Nodes.{Nodes, characters_of}
use Rattle.xcal.specs.ValueNodes.{child_named, text_of, float_of}
use Rattle.xml.specs.NodesAt.{nodes_at}
use Rattle.read_xml_nodes.specs.laws.Characters.{characters_at}
use Rattle.write_text_values.specs.Children.{ChildAt, TextAt}
use Rattle.write_text_values.specs.Own.{geo_of, status_of, data_text}

-- ---- GEO

-- the characters of the child are those that were read
same_chars : {n s : List ℕ} {from i : ℕ} → TextAt n s from i → rest 1 s (2 * i) ≡ text_of n (nodes_at s from)
same_chars {n} {s} {from} {i} t = characters_at s i ∙ sym t.is

module _ {d e : List ℕ} {o q : ℕ} {n s : List ℕ} {from i : ℕ} (t : TextAt n s from i) {r : Option Float} (f : read_float (rest 1 s (2 * i)) ≡ option_map (read_as 256 1 s) r) where
  pub put_read : {m : Float} → r ≡ Some m → Put d e o q (or_nothing write_float (read_float (rest 1 s (2 * i)))) → Put d e o q (write_float (float_of n (nodes_at s from)))
  unfolding read_or
  put_read h p = rw (← (same_chars t), f, h) (rw (f, h) at p)

  pub put_zero : r ≡ None → Put d e o q (ascii "0") → Put d e o q (write_float (float_of n (nodes_at s from)))
  unfolding read_or or_zero after_point pick ◌⊕◌
  put_zero h p = rw (← (same_chars t), f, h) p

module _ {d e : List ℕ} {o r : ℕ} (kids : Nodes) where
  pub put_geo : Put d e o r (write_float (float_of (ascii "latitude") kids) ⊕ ascii ";" ⊕ write_float (float_of (ascii "longitude") kids)) → Put d e o r (write_value (geo_of kids))
  unfolding write_value ◌⊕◌
  put_geo p = p

  -- ---- REQUEST-STATUS

  pub put_status : Put d e o r (write_text (text_of (ascii "code") kids) ⊕ ascii ";" ⊕ write_text (text_of (ascii "description") kids) ⊕ data_text (child_named (ascii "data") kids)) →
      Put d e o r (write_value (status_of kids))
  unfolding write_value joined_by each_after ◌⊕◌
  put_status p = go (child_named (ascii "data") kids) p
    where
      go : (x : Option (List ℕ)) → Put d e o r (write_text (text_of (ascii "code") kids) ⊕ ascii ";" ⊕ write_text (text_of (ascii "description") kids) ⊕ data_text x) →
          Put d e o r (write_value (request_status (text_of (ascii "code") kids) (text_of (ascii "description") kids) x))
      go None p = p
      go (Some s) p = rw (append_none (write_text s)) p

module _ {d e : List ℕ} {o r : ℕ} {n s : List ℕ} {from : ℕ} {c : Option ℕ} (a : ChildAt n s from c) where
  pub put_data : {i : ℕ} → c ≡ Some i → Put d e o r (ascii ";" ⊕ write_text (characters_of (nodes_at s i))) → Put d e o r (data_text (child_named n (nodes_at s from)))
  put_data h p = rw (a.is, h) p

  pub put_no_data : c ≡ None → Put d e o r [] → Put d e o r (data_text (child_named n (nodes_at s from)))
  put_no_data h p = rw (a.is, h) p
