-- Laws of what specs/Chars.antt defines.
--     put_kept, put_kept_xml, put_unkept, put_unkept_xml   what was read, written
--     base64-..       the ways that a loop over BINARY goes on and ends;   `search writing_base64`
use Rattle.std.specs.Prelude.{◌≡◌, refl, Bool, true, false, List, [], ◌∷◌, ℕ, ◌*◌, ◌^◌, ◌<◌, length}
use Rattle.std.proofs.Math.Path.{sym}
use Rattle.std.proofs.Common.{ap, ◌∙◌}
use Rattle.octets.specs.Pick.{pick, ◌and◌}
use Rattle.octets.specs.Class.{is_space}
use Rattle.octets.specs.Reading.{provided, or_nothing}
use Rattle.calendar.specs.Calendar.{format_of}
use Rattle.sink.specs.Sink.{Put, Todo}
use Rattle.sink.specs.laws.Sink.{put_none, todo_step, todo_done, each, writing}
use Rattle.source.specs.Source.{rest, Reads}
use Rattle.source.specs.laws.Facts.{rest_byte, rest_end}
use Rattle.source.specs.declared.points.Unit.{Unit}
use Rattle.xml.specs.Escape.{escaped}
use Rattle.texts.specs.Binary.{binary_chars}
use Rattle.texts.specs.laws.Kept.{passed, kept, none_left}
use Rattle.texts.specs.Chars.{as_is, as_is_byte}

each_as_is : (s : List ℕ) → each as_is_byte s ≡ s
unfolding each
each_as_is [] = refl
each_as_is (b ∷ s) = ap (λ (l : List ℕ). b ∷ l) (each_as_is s)

pub put_as_is : {d e : List ℕ} {at r : ℕ} {l : List ℕ} → Put d e at r (each as_is_byte l) → Put d e at r l
put_as_is {l = l} p = rw (each_as_is l) at p

-- ---- what was read, written

module _ {d : List ℕ} {at : ℕ} {t : Bool} (b : Bool) (l : List ℕ) (h : t ≡ b) where
  pub put_kept : {e : List ℕ} {r : ℕ} → t ≡ true → Put d e at r l → Put d e at r (or_nothing as_is (provided b l))
  unfolding pick
  put_kept k p = rw (sym h ∙ k) p

  pub put_kept_xml : {e : List ℕ} {r : ℕ} → t ≡ true → Put d e at r (escaped l) → Put d e at r (or_nothing escaped (provided b l))
  unfolding pick
  put_kept_xml k p = rw (sym h ∙ k) p

  pub put_unkept : t ≡ false → length d * 1 < 2 ^ 63 → Put d d at at (or_nothing as_is (provided b l))
  unfolding pick
  put_unkept k z = rw (sym h ∙ k) (put_none d at z)

  pub put_unkept_xml : t ≡ false → length d * 1 < 2 ^ 63 → Put d d at at (or_nothing escaped (provided b l))
  unfolding pick
  put_unkept_xml k z = rw (sym h ∙ k) (put_none d at z)

pub ruleset writing_kept = (put_kept, put_kept_xml, put_unkept, put_unkept_xml, writing)

-- ---- BINARY without white space

module _ {d₀ : List ℕ} {at₀ : ℕ} {all d : List ℕ} {at : ℕ} {m : ℕ} {s : List ℕ} {c : ℕ} {r : Unit} (x : Bool)
    (w : Todo d₀ at₀ all d at (binary_chars (format_of x) (rest m s c))) (p : Reads m s c r) where
  pub base64_pass : {t : Bool} → (r.u ≡ 256 → ⊥) → t ≡ (x and is_space r.u) → t ≡ true → Todo d₀ at₀ all d at (binary_chars (format_of x) (rest m s r.next))
  base64_pass h k l = rw (← (passed x r.u (rest m s r.next) (sym k ∙ l)), ← (rest_byte p h)) w

  pub base64_char : {t : Bool} {e : List ℕ} {o : ℕ} → (r.u ≡ 256 → ⊥) → t ≡ (x and is_space r.u) → t ≡ false → Put d e at o (r.u ∷ []) →
      Todo d₀ at₀ all e o (binary_chars (format_of x) (rest m s r.next))
  base64_char h k l v = todo_step w v (ap (binary_chars (format_of x)) (rest_byte p h) ∙ kept x r.u (rest m s r.next) (sym k ∙ l))

  pub base64_end : r.u ≡ 256 → Put d₀ d at₀ at all
  base64_end h = todo_done w (ap (binary_chars (format_of x)) (rest_end p h) ∙ none_left x)

pub ruleset writing_base64 = (base64_pass, base64_char, base64_end, writing)
