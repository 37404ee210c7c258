-- Laws of what specs/Pieces.antt defines.
--     Piecing        the invariant of the loop that writes them;   `search piecing`
use Rattle.std.specs.Prelude.{◌≡◌, true, List, ℕ, ◌*◌, ◌^◌, ◌≤◌, ◌<◌, length, take}
use Rattle.std.proofs.Math.Path.{refl, sym}
use Rattle.std.proofs.Common.{ap, ◌∙◌, arith, eq-eqb, ne_eqb}
use Rattle.octets.specs.Pick.{pick}
use Rattle.octets.specs.Append.{◌⊕◌}
use Rattle.octets.specs.Words.{cut_at}
use Rattle.octets.specs.Reading.{or_nothing}
use Rattle.calendar.specs.Calendar.{ical}
use Rattle.sink.specs.Sink.{Put, Todo}
use Rattle.sink.specs.laws.Sink.{put_length, todo_all, todo_step, todo_done, writing}
use Rattle.source.specs.Source.{rest, cuts, Within, Reads}
use Rattle.source.specs.laws.Facts.{rest_past}
use Rattle.source.specs.declared.points.Unit.{Unit}
use Rattle.schema.specs.Numbers.{type_at}
use Rattle.texts.specs.TextList.{read_texts}
use Rattle.texts.specs.Elements.{texts_xml}
use Rattle.recur.specs.Pieces.{Ends}
use Rattle.recur.specs.laws.PieceLaws.{pieces_last, pieces_more, pieces_less, step_less}
use Rattle.values.specs.ReadValue.{read_value}
use Rattle.xcal.specs.WriteXml.{value_xml}
use Rattle.write_xml_property.specs.Pieces.{pieces_xml, listed_xml}

-- ---- the loop over the pieces

abbrev pub from_piece : ℕ → ℕ → List ℕ → ℕ → List ℕ
from_piece t m s c = pieces_xml (type_at t) (cut_at 44 (rest m s c))

pub record Piecing (t : ℕ) (d₀ : List ℕ) (at₀ m : ℕ) (s : List ℕ) (c₀ : ℕ) (d : List ℕ) (at c : ℕ) : Type 0 where
  pub todo : Todo d₀ at₀ (from_piece t m s c₀) d at (from_piece t m s c)
  pub inside : Within m s c
  pub kept : length d ≡ length d₀

pub piecing_start : (t : ℕ) (d : List ℕ) (at m : ℕ) (s : List ℕ) (c : ℕ) → length d * 1 < 2 ^ 63 → Within m s c → Piecing t d at m s c d at c
piecing_start t d at m s c z h = record { todo = todo_all d at (from_piece t m s c) z; inside = h; kept = refl }

module _ {t : ℕ} {d₀ : List ℕ} {at₀ m : ℕ} {s : List ℕ} {c₀ : ℕ} {d : List ℕ} {at c e : ℕ} {n : Unit} {d' : List ℕ} {o : ℕ} (i : Piecing t d₀ at₀ m s c₀ d at c) (p : Ends 44 m s c e)
    (w : Put d d' at o (or_nothing value_xml (read_value ical (type_at t) (rest m (take e s) c)))) (q : Reads m s e n) where
  pub piecing_more : (n.u ≡ 256 → ⊥) → Piecing t d₀ at₀ m s c₀ d' o n.next
  unfolding pieces_xml ◌⊕◌
  piecing_more h = record {
    todo = todo_step i.todo w (ap (pieces_xml (type_at t)) (pieces_more p q h));
    inside = (step_less p.inside q h).1;
    kept = put_length w ∙ i.kept;
  }

  pub piecing_end : n.u ≡ 256 → Put d₀ d' at₀ o (from_piece t m s c₀)
  unfolding pieces_xml ◌⊕◌
  piecing_end h = todo_done (todo_step i.todo w (ap (pieces_xml (type_at t)) (pieces_last p q h))) refl

pub ruleset piecing = (piecing_start, piecing_more, piecing_end, pieces_less, writing)

-- ---- a list, by its type

-- past the end of a slice stands what stands at its end
pub end_within : (m : ℕ) (s : List ℕ) → cuts m ≡ true → Within m s (length s)
end_within m s y = record { cut = y; most = omega arith }

pub index_within : (m : ℕ) (s : List ℕ) (c : ℕ) → cuts m ≡ true → c ≤ length s → Within m s c
index_within m s c y h = record { cut = y; most = h }

module _ {d e : List ℕ} {at o t : ℕ} (m : ℕ) (s : List ℕ) (c : ℕ) where
  pub put_list_texts : t ≡ 10 → Put d e at o (or_nothing texts_xml (read_texts (rest m s c))) → Put d e at o (listed_xml t (rest m s c))
  unfolding pick
  put_list_texts h p = rw (eq-eqb t 10 h) p

  pub put_list_pieces : (t ≡ 10 → ⊥) → Put d e at o (from_piece t m s c) → Put d e at o (listed_xml t (rest m s c))
  unfolding pick
  put_list_pieces h p = rw (ne_eqb t 10 h) p

  pub put_list_past : cuts m ≡ true → (t ≡ 10 → ⊥) → length s < c → Put d e at o (from_piece t m s (length s)) → Put d e at o (listed_xml t (rest m s c))
  unfolding pick
  put_list_past y h l p =
      let k : rest m s (length s) ≡ rest m s c = rest_past m s (length s) y (omega arith) ∙ sym (rest_past m s c y (omega arith)) in
      rw (ne_eqb t 10 h, ← k) p
