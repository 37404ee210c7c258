-- TEXT written: loops that unescape a TEXT into XML's character data, and that escape characters.
--     xml_..      the ways that the first goes on and ends;   `search writing_xml`
--     text_each_of  the second writes escape_text of each byte
--     put_read, put_unread, put_two   what was written, from what was read
use Rattle.std.specs.Prelude.{◌≡◌, refl, Bool, true, List, [], ◌∷◌, ◌++◌, ℕ, ◌*◌, ◌^◌, ◌<◌, length, Option, None, Some}
use Rattle.std.proofs.Common.{sym, ap, ◌∙◌}
use Rattle.std.proofs.Math.Bool.{false}
use Rattle.std.proofs.lemmas.Bool.{false≢true}
use Rattle.octets.specs.Pick.{pick}
use Rattle.octets.specs.Append.{◌⊕◌}
use Rattle.octets.specs.Reading.{is_read, or_nothing}
use Rattle.sink.specs.Sink.{Put, Todo}
use Rattle.sink.specs.laws.Sink.{put_none, ◌▷◌, todo_step, todo_done, each, writing}
use Rattle.source.specs.Source.{rest, Reads}
use Rattle.source.specs.laws.Facts.{rest_byte, rest_end}
use Rattle.source.specs.declared.points.Unit.{Unit}
use Rattle.xml.specs.Escape.{escaped_byte, escaped}
use Rattle.texts.specs.Text.{opens, read_text, escape_text, write_text}
use Rattle.texts.specs.Unescaped.{meant, unescaped}
use Rattle.texts.specs.laws.Unescaped.{text_is, text_value}

-- ---- unescaped

unescaped_open : (after : Bool) (b : ℕ) (l : List ℕ) → opens after b ≡ true → unescaped after (b ∷ l) ≡ unescaped true l
unfolding unescaped pick
unescaped_open after b l h = rw h

unescaped_char : (after : Bool) (b : ℕ) (l : List ℕ) → opens after b ≡ false → unescaped after (b ∷ l) ≡ meant after b ∷ unescaped false l
unfolding unescaped pick
unescaped_char after b l h = rw h

module _ {d₀ : List ℕ} {at₀ : ℕ} {all d : List ℕ} {at : ℕ} {m : ℕ} {s : List ℕ} {c : ℕ} {r : Unit} (after : Bool)
    (w : Todo d₀ at₀ all d at (escaped (unescaped after (rest m s c)))) (p : Reads m s c r) where
  pub xml_open : {t : Bool} → (r.u ≡ 256 → ⊥) → t ≡ opens after r.u → t ≡ true → Todo d₀ at₀ all d at (escaped (unescaped true (rest m s r.next)))
  xml_open h k l = rw (← (unescaped_open after r.u (rest m s r.next) (sym k ∙ l)), ← (rest_byte p h)) w

  pub xml_char : {t : Bool} {e : List ℕ} {o b : ℕ} → (r.u ≡ 256 → ⊥) → t ≡ opens after r.u → t ≡ false → b ≡ meant after r.u → Put d e at o (escaped_byte b) →
      Todo d₀ at₀ all e o (escaped (unescaped false (rest m s r.next)))
  unfolding escaped ◌⊕◌
  xml_char h k l q x = todo_step w x (ap escaped (rest_eq h k l) ∙ rw (← q))
    where
      rest_eq : {t : Bool} → (r.u ≡ 256 → ⊥) → t ≡ opens after r.u → t ≡ false → unescaped after (rest m s c) ≡ meant after r.u ∷ unescaped false (rest m s r.next)
      rest_eq h k l = rw (rest_byte p h) (unescaped_char after r.u (rest m s r.next) (sym k ∙ l))

  pub xml_end : r.u ≡ 256 → Put d₀ d at₀ at all
  unfolding escaped unescaped
  xml_end h = todo_done w (rw (rest_end p h))

pub ruleset writing_xml = (xml_open, xml_char, xml_end, writing)

-- ---- what was read, written

module _ {d : List ℕ} {at : ℕ} {t : Bool} (l : List ℕ) (h : t ≡ is_read (read_text l)) where
  pub put_read : {e : List ℕ} {r : ℕ} → t ≡ true → Put d e at r (escaped (unescaped false l)) → Put d e at r (or_nothing escaped (read_text l))
  put_read k p = rw (text_value l false (sym (text_is l false) ∙ sym h ∙ k)) p

  pub put_unread : t ≡ false → length d * 1 < 2 ^ 63 → Put d d at at (or_nothing escaped (read_text l))
  unfolding is_read
  put_unread k z = go (read_text l) (sym k ∙ h)
    where
      go : (o : Option (List ℕ)) → false ≡ is_read o → Put d d at at (or_nothing escaped o)
      go None x = put_none d at z
      go (Some v) x = absurd (false≢true x)

-- ---- escaped

pub text_each_of : (s : List ℕ) → write_text s ≡ each escape_text s
unfolding write_text each ◌⊕◌
text_each_of [] = refl
text_each_of (b ∷ s) = ap (λ (l : List ℕ). escape_text b ++ l) (text_each_of s)

pub put_two : {d e f : List ℕ} {at m r : ℕ} {x y : ℕ} → Put d e at m (x ∷ []) → Put e f m r (y ∷ []) → Put d f at r (x ∷ y ∷ [])
unfolding ◌⊕◌
put_two p q = p ▷ q
