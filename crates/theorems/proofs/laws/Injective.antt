-- Documents of valid calendars, of any length: a calendar is read from its document, whatever bytes follow.
--     document_front      the calendar that the bytes of a document, and any bytes behind it, state
--     document_unique     of two documents in front of anything, the calendars and what follows are the same
--     documents_unique    of documents one after another, the calendars are the same
use Rattle.std.specs.Prelude.{◌≡◌, true, ℕ}
use Rattle.std.proofs.Math.Path.{refl, ap}
use Rattle.std.proofs.Common.{sym, ◌∙◌, arith}
use Rattle.std.proofs.Math.Bool.{false}
use mathlib.Core.List.{List, [], ◌∷◌, map}
use Rattle.octets.specs.Ascii.{ascii}
use Rattle.octets.specs.Append.{◌⊕◌, joined}
use Rattle.octets.specs.laws.Append.{append_none}
use Rattle.octets.specs.Lists.{every}
use Rattle.octets.specs.laws.Lists.{every_both}
use Rattle.calendar.specs.Calendar.{Calendar}
use Rattle.calendar.specs.Levels.{levels, shallow}
use Rattle.validity.specs.ValidCalendar.{at_top, is_valid}
use Rattle.validity.proofs.laws.ValidCalendar.{valid_parts, valid_shallow}
use Rattle.text.proofs.laws.TextBack.{regrouped}
use Rattle.xml.specs.Escape.{declaration_line, root_start, end_tag}
use Rattle.xml.specs.Marks.{Mark, opens, marks, document_marks}
use Rattle.xml.specs.Nodes.{Nodes, root_by, root_node, document_nodes}
use Rattle.xml.specs.Content.{written}
use Rattle.xml.specs.laws.ReadBack.{content_nodes}
use Rattle.xml.specs.Computing.{xml_compute}
use Rattle.xcal.specs.WriteXml.{write_document}
use Rattle.xcal.specs.ComponentNodes.{read_components, read_root}
use Rattle.xcal.proofs.laws.Contents.{calendar_content}
use Rattle.xcal.proofs.laws.WrittenContents.{document_written}
use Rattle.xcal.proofs.laws.ComponentsBack.{components_back}
use Rattle.xcal.proofs.laws.SoundContent.{sound_writable}
use Rattle.xcal.proofs.laws.SoundCalendar.{calendar_sound}
use Rattle.edition.specs.declared.Edition.{Edition}

-- ---- a document and what follows it

-- the marks of the root's start tag, and of what follows it
root_front : (r : List ℕ) → document_marks (declaration_line ⊕ root_start ⊕ r) ≡ opens 39 (ascii "icalendar") ∷ marks 95 r
unfolding xml_compute
root_front r = refl

-- what bytes state, read as a document
abbrev read_bytes : List ℕ → Calendar
read_bytes s = read_root (document_nodes s)

marks_root : (p : ℕ) (n : List ℕ) (r : List ℕ) (s : List ℕ) → document_marks s ≡ opens p n ∷ marks 95 r → read_bytes s ≡ read_root (root_by (opens p n) (marks 95 r))
unfolding document_nodes root_node
marks_root p n r s e = ap (λ (ms : List Mark). read_root (root_node ms)) e

-- ---- one document

rest_same : (a x y : List ℕ) → a ⊕ x ≡ a ⊕ y → x ≡ y
unfolding ◌⊕◌
rest_same [] x y e = e
rest_same (b ∷ a) x y e = rest_same a x y (cons_rest b (a ⊕ x) (a ⊕ y) e)
  where
    cons_rest : (b : ℕ) (s t : List ℕ) → b ∷ s ≡ b ∷ t → s ≡ t
    cons_rest b s t e = cc

-- ---- documents one after another

cons_some : (b : ℕ) (s : List ℕ) → b ∷ s ≡ [] → ⊥
cons_some b s e = let z : ◌≡◌ {A = ℕ} 0 1 = cc in omega arith

pub document_some : (c : Calendar) (x : List ℕ) → write_document c ⊕ x ≡ [] → ⊥
unfolding ◌⊕◌
document_some c x e = cons_some 60 _ (ap (λ (s : List ℕ). s ⊕ x) (sym (document_written c)) ∙ e)

module _ (ed : Edition) where
  pub document_front : (c : Calendar) (x : List ℕ) → is_valid ed c ≡ true → read_bytes (write_document c ⊕ x) ≡ c
  unfolding root_by read_root
  document_front c x h =
      let v = (valid_parts ed c h).1 in
      ap (λ (s : List ℕ). read_bytes (s ⊕ x)) (document_written c)
      ∙ ap read_bytes (regrouped declaration_line root_start (written (calendar_content c)) (end_tag (ascii "icalendar")) (ascii "\n") x)
      ∙ marks_root 39 (ascii "icalendar") (written (calendar_content c) ⊕ (end_tag (ascii "icalendar") ⊕ (ascii "\n" ⊕ x))) _ (root_front _)
      ∙ ap (λ (ns : Nodes). shallow levels (read_components ns)) (content_nodes (calendar_content c) 31 (ascii "icalendar") (ascii "\n" ⊕ x) 95 (sound_writable (calendar_content c) 31 (calendar_sound ed c v)) (unfold xml_compute in refl))
      ∙ ap (shallow levels) (components_back ed c levels at_top false v 95)
      ∙ valid_shallow ed c levels at_top false v

  pub document_unique : (c d : Calendar) (x y : List ℕ) → is_valid ed c ≡ true → is_valid ed d ≡ true → write_document c ⊕ x ≡ write_document d ⊕ y → (c ≡ d) × (x ≡ y)
  document_unique c d x y h k e =
      let z : c ≡ d = sym (document_front c x h) ∙ ap read_bytes e ∙ document_front d y k in
      (z, rest_same (write_document c) x y (e ∙ ap (λ (b : Calendar). write_document b ⊕ y) (sym z)))

  -- the same with nothing behind them
  pub document_same : (c d : Calendar) → is_valid ed c ≡ true → is_valid ed d ≡ true → write_document c ≡ write_document d → c ≡ d
  document_same c d h k e = (document_unique c d [] [] h k (ap (λ (s : List ℕ). s ⊕ []) e)).0

  -- no document is a proper beginning of another
  pub document_whole : (c d : Calendar) (x : List ℕ) → is_valid ed c ≡ true → is_valid ed d ≡ true → write_document c ⊕ x ≡ write_document d → x ≡ []
  document_whole c d x h k e = (document_unique c d x [] h k (e ∙ sym (append_none (write_document d)))).1

  pub documents_unique : (cs ds : List Calendar) → every (is_valid ed) cs ≡ true → every (is_valid ed) ds ≡ true → joined (map write_document cs) ≡ joined (map write_document ds) → cs ≡ ds
  unfolding joined
  documents_unique [] [] h k e = refl
  documents_unique [] (d ∷ ds) h k e = absurd (document_some d _ (sym e))
  documents_unique (c ∷ cs) [] h k e = absurd (document_some c _ e)
  documents_unique (c ∷ cs) (d ∷ ds) h k e =
      let a = every_both (is_valid ed) c cs h in
      let b = every_both (is_valid ed) d ds k in
      let u = document_unique c d (joined (map write_document cs)) (joined (map write_document ds)) a.0 b.0 e in
      let v : cs ≡ ds = documents_unique cs ds a.1 b.1 u.1 in
      let w : c ≡ d = u.0 in
      rw (w, v)
