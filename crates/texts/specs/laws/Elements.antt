-- Laws of what specs/Elements.antt defines.
--     put_part     a slice cut at its length where the cut is to be past it
--     Listing      the invariant of the loop that writes them;   `search listing`
use Rattle.std.specs.Prelude.{◌≡◌, Bool, true, List, [], ℕ, ◌*◌, ◌^◌, min, ◌<◌, length, take, Option, None, Some}
use Rattle.std.proofs.Math.Path.{refl}
use Rattle.std.proofs.Common.{sym, ap, ◌∙◌}
use Rattle.std.proofs.Math.Bool.{false}
use Rattle.std.proofs.lemmas.Bool.{false≢true}
use Rattle.octets.specs.Ascii.{ascii}
use Rattle.octets.specs.Append.{◌⊕◌}
use Rattle.octets.specs.Reading.{and_then, is_read, cons_read, or_nothing}
use Rattle.octets.specs.laws.Scan.{take_least}
use Rattle.sink.specs.Sink.{Put, Todo}
use Rattle.sink.specs.laws.Sink.{put_none, put_length, todo_all, todo_step, todo_done, writing}
use Rattle.source.specs.Source.{rest, cuts, Reads}
use Rattle.source.specs.declared.points.Unit.{Unit}
use Rattle.xml.specs.Escape.{escaped, element_of}
use Rattle.texts.specs.Text.{read_text}
use Rattle.texts.specs.TextList.{read_texts}
use Rattle.texts.specs.Items.{ItemEnds}
use Rattle.texts.specs.laws.Items.{item_last, item_more}
use Rattle.texts.specs.Elements.{texts_xml}

-- ---- a slice cut at its length, or before

pub put_part : {d f : List ℕ} {at o r : ℕ} (m : ℕ) (s : List ℕ) (e c : ℕ) → r ≡ min e (length s) →
    Put d f at o (or_nothing escaped (read_text (rest m (take r s) c))) → Put d f at o (or_nothing escaped (read_text (rest m (take e s) c)))
put_part m s e c h p = rw (← (take_least s e), ← h) p

-- ---- the loop over the items of a list

first_of : (o : Option (List ℕ)) (q : Option (List (List ℕ))) → is_read (and_then o (λ p. cons_read p q)) ≡ true →
    (or_nothing texts_xml (and_then o (λ p. cons_read p q)) ≡ element_of (ascii "text") (or_nothing escaped o) ⊕ or_nothing texts_xml q) × (is_read q ≡ true)
unfolding and_then cons_read is_read texts_xml
first_of None q h = absurd (false≢true h)
first_of (Some p) None h = absurd (false≢true h)
first_of (Some p) (Some l) h = (refl, refl)

pub record Listing (d₀ : List ℕ) (at₀ m : ℕ) (s : List ℕ) (c₀ : ℕ) (d : List ℕ) (at c : ℕ) : Type 0 where
  pub cut : cuts m ≡ true
  pub read : is_read (read_texts (rest m s c)) ≡ true
  pub todo : Todo d₀ at₀ (or_nothing texts_xml (read_texts (rest m s c₀))) d at (or_nothing texts_xml (read_texts (rest m s c)))
  pub kept : length d ≡ length d₀

pub listing_start : (d : List ℕ) (at m : ℕ) (s : List ℕ) (c : ℕ) → length d * 1 < 2 ^ 63 → cuts m ≡ true → is_read (read_texts (rest m s c)) ≡ true → Listing d at m s c d at c
listing_start d at m s c z y h = record { cut = y; read = h; todo = todo_all d at (or_nothing texts_xml (read_texts (rest m s c))) z; kept = refl }

module _ {d₀ : List ℕ} {at₀ m : ℕ} {s : List ℕ} {c₀ : ℕ} {d : List ℕ} {at c e : ℕ} {n : Unit} {d' : List ℕ} {o : ℕ} (t : Listing d₀ at₀ m s c₀ d at c) (i : ItemEnds 44 m s c e)
    (w : Put d d' at o (element_of (ascii "text") (or_nothing escaped (read_text (rest m (take e s) c))))) (p : Reads m s e n) where
  pub listing_more : (n.u ≡ 256 → ⊥) → Listing d₀ at₀ m s c₀ d' o n.next
  unfolding ◌⊕◌
  listing_more h =
      let k = item_more t.cut i p h in
      let f = first_of (read_text (rest m (take e s) c)) (read_texts (rest m s n.next)) (rw k at t.read) in record {
        cut = t.cut;
        read = f.1;
        todo = todo_step t.todo w (ap (or_nothing texts_xml) k ∙ f.0);
        kept = put_length w ∙ t.kept;
      }

  pub listing_end : n.u ≡ 256 → Put d₀ d' at₀ o (or_nothing texts_xml (read_texts (rest m s c₀)))
  unfolding ◌⊕◌ texts_xml cons_read
  listing_end h =
      let k = item_last t.cut i p h in
      let f = first_of (read_text (rest m (take e s) c)) (Some []) (rw k at t.read) in
      todo_done (todo_step t.todo w (ap (or_nothing texts_xml) k ∙ f.0)) refl

pub ruleset listing = (listing_start, listing_more, listing_end, writing)

-- ---- what was read, written

module _ {t : Bool} (l : List ℕ) (h : t ≡ is_read (read_texts l)) where
  pub texts_read : t ≡ true → is_read (read_texts l) ≡ true
  texts_read k = sym h ∙ k

  pub put_no_texts : {d : List ℕ} {at : ℕ} → t ≡ false → length d * 1 < 2 ^ 63 → Put d d at at (or_nothing texts_xml (read_texts l))
  unfolding is_read
  put_no_texts {d} {at} k z = go (read_texts l) (sym k ∙ h)
    where
      go : (o : Option (List (List ℕ))) → false ≡ is_read o → Put d d at at (or_nothing texts_xml o)
      go None x = put_none d at z
      go (Some v) x = absurd (false≢true x)
