-- Laws of what specs/StatusXml.antt defines.
--     status_xml_lem  what is read, written part by part
use Rattle.std.specs.Prelude.{◌≡◌, refl, Bool, true, List, [], ◌∷◌, ℕ, ◌*◌, ◌^◌, ◌<◌, length, take, Option, None, Some, is_some}
use Rattle.std.proofs.Common.{sym, ap, ◌∙◌}
use Rattle.std.proofs.Math.Bool.{false}
use Rattle.std.proofs.lemmas.Bool.{false≢true}
use Rattle.std.proofs.Math.Seq.{take-length}
use Rattle.octets.specs.Ascii.{ascii}
use Rattle.octets.specs.Append.{◌⊕◌}
use Rattle.octets.specs.laws.Append.{append_none}
use Rattle.octets.specs.Words.{is_empty}
use Rattle.octets.specs.laws.Words.{empty_is}
use Rattle.octets.specs.Reading.{and_then, is_read, cons_read, or_nothing}
use Rattle.calendar.specs.Calendar.{Value}
use Rattle.sink.specs.Sink.{Put}
use Rattle.sink.specs.laws.Sink.{put_none}
use Rattle.source.specs.Source.{rest, cuts, Reads}
use Rattle.source.specs.laws.Facts.{rest_byte, rest_end}
use Rattle.source.specs.declared.points.Unit.{Unit}
use Rattle.xml.specs.Escape.{escaped, element_of}
use Rattle.texts.specs.Text.{split_text, read_text}
use Rattle.texts.specs.laws.Text.{split_some, text_from}
use Rattle.texts.specs.RequestStatus.{status_of, read_request_status}
use Rattle.texts.specs.Items.{item_from, behind_from, pieces_behind}
use Rattle.texts.specs.laws.Items.{item_behind, item_first}
use Rattle.texts.specs.StatusParts.{PartEnds, StatusEnds}
use Rattle.texts.specs.laws.StatusParts.{pieces, behind_empty}
use Rattle.texts.specs.StatusXml.{status_xml, data_behind, parts_xml}
use Rattle.texts.specs.declared.StatusParts.{StatusParts}

-- one piece is a single TEXT
piece_alone : (s p : List ℕ) → split_text 59 s ≡ Some (p ∷ []) → read_text s ≡ Some p
unfolding ◌⊕◌
piece_alone s p h =
    let q = pieces s (p ∷ []) h in
    let o : q.others ≡ [] = cc q.is in
    let f : q.first ≡ p = cc q.is in
    let e : behind_from false 59 s ≡ [] = empty_is (behind_from false 59 s) (sym (behind_empty (behind_from false 59 s) q.others q.behind) ∙ rw o) in
    let i : item_from false 59 s ≡ s = sym (append_none (item_from false 59 s)) ∙ ap (λ (l : List ℕ). item_from false 59 s ⊕ l) (sym e) ∙ item_behind s false 59 in
    ap (text_from false) (sym i) ∙ q.read ∙ ap Some f

abbrev data_of : Option (List (List ℕ)) → List ℕ
data_of None = []
data_of (Some []) = []
data_of (Some (x ∷ ps)) = element_of (ascii "data") (escaped x)

abbrev third : Option (List (List ℕ)) → Bool
third None = false
third (Some []) = true
third (Some (x ∷ ps)) = is_empty ps

parts_xml_lem : (a b : Option (List ℕ)) (q : Option (List (List ℕ))) → is_read (and_then (and_then a (λ x. cons_read x (and_then b (λ y. cons_read y q)))) status_of) ≡ true →
    (or_nothing status_xml (and_then (and_then a (λ x. cons_read x (and_then b (λ y. cons_read y q)))) status_of)
    ≡ element_of (ascii "code") (or_nothing escaped a) ⊕ element_of (ascii "description") (or_nothing escaped b) ⊕ data_of q) × (third q ≡ true)
unfolding and_then cons_read is_read status_xml
parts_xml_lem None b q h = absurd (false≢true h)
parts_xml_lem (Some x) None q h = absurd (false≢true h)
parts_xml_lem (Some x) (Some y) None h = absurd (false≢true h)
parts_xml_lem (Some x) (Some y) (Some []) h = (refl, refl)
parts_xml_lem (Some x) (Some y) (Some (z ∷ [])) h = (refl, refl)
parts_xml_lem (Some x) (Some y) (Some (z ∷ w ∷ ps)) h = absurd (false≢true h)

data_behind_lem : (s : List ℕ) → third (pieces_behind 59 s) ≡ true → data_of (pieces_behind 59 s) ≡ data_behind s
data_behind_lem [] h = refl
data_behind_lem (x ∷ s) h = go (split_text 59 s) refl h
  where
    go : (o : Option (List (List ℕ))) → split_text 59 s ≡ o → third o ≡ true → data_of o ≡ data_behind (x ∷ s)
    go None e k = absurd (false≢true k)
    go (Some []) e k = absurd (false≢true (sym (split_some 59 s [] e)))
    go (Some (p ∷ [])) e k = rw (piece_alone s p e)
    go (Some (p ∷ q ∷ ps)) e k = absurd (false≢true k)

pub status_xml_lem : {m : ℕ} {s : List ℕ} {c : ℕ} {p : StatusParts} → cuts m ≡ true → StatusEnds m s c (Some p) → or_nothing status_xml (read_request_status (rest m s c)) ≡ parts_xml m s c p.code_end p.description p.description_end
status_xml_lem {m} {s} {c} {p = r} g st =
    let a = r.code_end in
    let d = r.description in
    let b = r.description_end in
    let p : PartEnds m s c a d b = st.parts in
    let x : Option (List ℕ) = read_text (rest m (take a s) c) in
    let y : Option (List ℕ) = read_text (rest m (take b s) d) in
    let q : Option (List (List ℕ)) = pieces_behind 59 (rest m s b) in
    let e : split_text 59 (rest m s c) ≡ and_then x (λ u. cons_read u (and_then y (λ v. cons_read v q))) =
    item_first 59 m s c a g p.code ∙ rw (p.behind, item_first 59 m s d b g p.description) in
    let f = parts_xml_lem x y q (ap (λ (o : Option (List (List ℕ))). is_read (and_then o status_of)) (sym e) ∙ sym st.is) in
    ap (λ (o : Option (List (List ℕ))). or_nothing status_xml (and_then o status_of)) e ∙ f.0
    ∙ ap (λ (l : List ℕ). element_of (ascii "code") (or_nothing escaped x) ⊕ element_of (ascii "description") (or_nothing escaped y) ⊕ l) (data_behind_lem (rest m s b) f.1)

-- ---- rules for the code

module _ {d₀ : List ℕ} {at m : ℕ} {s : List ℕ} {c : ℕ} {r : Option StatusParts} (st : StatusEnds m s c r) where
  pub put_status : {e : List ℕ} {o : ℕ} (p : StatusParts) → cuts m ≡ true → r ≡ Some p →
      Put d₀ e at o (parts_xml m s c p.code_end p.description p.description_end) → Put d₀ e at o (or_nothing status_xml (read_request_status (rest m s c)))
  put_status p y h w = let k : StatusEnds m s c (Some p) = rw h at st in rw (status_xml_lem y k) w

  pub put_no_status : r ≡ None → length d₀ * 1 < 2 ^ 63 → Put d₀ d₀ at at (or_nothing status_xml (read_request_status (rest m s c)))
  unfolding is_read
  put_no_status h z = go (read_request_status (rest m s c)) (ap is_some (sym h) ∙ st.is)
    where
      go : (o : Option Value) → false ≡ is_read o → Put d₀ d₀ at at (or_nothing status_xml o)
      go None x = put_none d₀ at z
      go (Some v) x = absurd (false≢true x)

module _ {d₀ : List ℕ} {at m : ℕ} {s : List ℕ} {b : ℕ} {n : Unit} (p : Reads m s b n) where
  pub put_no_data : n.u ≡ 256 → length d₀ * 1 < 2 ^ 63 → Put d₀ d₀ at at (data_behind (rest m s b))
  put_no_data h z = rw (rest_end p h) (put_none d₀ at z)

  pub put_data : {e : List ℕ} {o : ℕ} → (n.u ≡ 256 → ⊥) → Put d₀ e at o (element_of (ascii "data") (or_nothing escaped (read_text (rest m (take (length s) s) n.next)))) →
      Put d₀ e at o (data_behind (rest m s b))
  put_data h w = rw (rest_byte p h) (rw (take-length s) at w)
