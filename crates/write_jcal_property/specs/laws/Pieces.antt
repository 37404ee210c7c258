-- Laws of what specs/Pieces.antt defines.
--     piecing        the rules of the loop over pieces, for `search`
--     put_list_texts, put_list_pieces, put_list_past    a list, by its type
use Rattle.std.specs.Prelude.{◌≡◌, true, List, map, ℕ, ◌≤◌, ◌<◌, length}
use Rattle.std.proofs.Math.Path.{sym}
use Rattle.std.proofs.Common.{◌∙◌, arith, eq-eqb, ne_eqb}
use Rattle.octets.specs.Pick.{pick}
use Rattle.octets.specs.Words.{cut_at, joined_by}
use Rattle.octets.specs.Reading.{or_nothing}
use Rattle.sink.specs.Sink.{Put}
use Rattle.source.specs.Source.{rest, cuts, Within}
use Rattle.source.specs.laws.Facts.{rest_past}
use Rattle.schema.specs.Numbers.{type_at}
use Rattle.texts.specs.TextList.{read_texts}
use Rattle.json_text.specs.Bytes.{value_separator}
use Rattle.write_jcal_value.specs.Texts.{strings_of}
use Rattle.write_jcal_property.specs.Pieces.{piece_json, pieces_json, listed_json}

pub put_pieces : {d e : List ℕ} {at o : ℕ} (t m : ℕ) (s : List ℕ) (c : ℕ) → Put d e at o (joined_by value_separator (map (piece_json (type_at t)) (cut_at 44 (rest m s c)))) → Put d e at o (pieces_json (type_at t) (cut_at 44 (rest m s c)))
unfolding pieces_json
put_pieces t m s c p = p

-- past the end of a slice stands what stands at its end
pub end_within : (m : ℕ) (s : List ℕ) → cuts m ≡ true → Within m s (length s)
end_within m s y = record { cut = y; most = omega arith }

pub index_within : (m : ℕ) (s : List ℕ) (c : ℕ) → cuts m ≡ true → c ≤ length s → Within m s c
index_within m s c y h = record { cut = y; most = h }

module _ {d e : List ℕ} {at o t : ℕ} (m : ℕ) (s : List ℕ) (c : ℕ) where
  pub put_list_texts : t ≡ 10 → Put d e at o (or_nothing strings_of (read_texts (rest m s c))) → Put d e at o (listed_json t (rest m s c))
  unfolding pick
  put_list_texts h p = rw (eq-eqb t 10 h) p

  pub put_list_pieces : (t ≡ 10 → ⊥) → Put d e at o (pieces_json (type_at t) (cut_at 44 (rest m s c))) → Put d e at o (listed_json t (rest m s c))
  unfolding pick
  put_list_pieces h p = rw (ne_eqb t 10 h) p

  pub put_list_past : cuts m ≡ true → (t ≡ 10 → ⊥) → length s < c → Put d e at o (pieces_json (type_at t) (cut_at 44 (rest m s (length s)))) → Put d e at o (listed_json t (rest m s c))
  unfolding pick
  put_list_past y h l p =
      let k : rest m s (length s) ≡ rest m s c = rest_past m s (length s) y (omega arith) ∙ sym (rest_past m s c y (omega arith)) in
      rw (ne_eqb t 10 h, ← k) p
