-- What is written of a calendar with a gap, in three parts: before the property in the gap, the property, after it.
--     Split one f    what f writes, in three parts, of which `one` writes the property, and the others are the same for every property
--     gap_xml        the XML of a calendar with a gap
use Rattle.std.specs.Prelude.{◌≡◌, refl, Bool, true, false, List, [], ◌∷◌, ℕ}
use Rattle.std.proofs.Common.{sym, ap, ◌∙◌}
use Rattle.octets.specs.Ascii.{ascii}
use Rattle.octets.specs.Pick.{pick}
use Rattle.octets.specs.Append.{◌⊕◌}
use Rattle.octets.specs.laws.Append.{append_empty, append_none, append_regroup}
use Rattle.octets.specs.Class.{lower}
use Rattle.octets.specs.Words.{same}
use Rattle.calendar.specs.Calendar.{Property}
use Rattle.xml.specs.Escape.{start_tag, end_tag, element_of, root_start}
use Rattle.xcal.specs.WriteXml.{property_xml, properties_xml, is_no_more, components_element, components_xml, declaration, root_end, write_document}
use Rattle.theorems.proofs.laws.Gap.{Gap, here, inside, later, filled}

pub record Split (one f : Property → List ℕ) : Type 0 where
  pub before : List ℕ
  pub after : List ℕ
  pub is : (p : Property) → f p ≡ before ⊕ one p ⊕ after

module _ {one : Property → List ℕ} where
  -- the property alone
  pub split_one : Split one one
  split_one = record { before = []; after = []; is = λ p. sym (append_empty (one p ⊕ []) ∙ append_none (one p)) }

  -- in front of it, and behind it, the same for every property
  pub split_front : {f : Property → List ℕ} (c : List ℕ) → Split one f → Split one (λ p. c ⊕ f p)
  split_front c s = record { before = c ⊕ s.before; after = s.after; is = λ p. ap (λ (x : List ℕ). c ⊕ x) (s.is p) ∙ sym (append_regroup c s.before (one p ⊕ s.after)) }

  pub split_back : {f : Property → List ℕ} (c : List ℕ) → Split one f → Split one (λ p. f p ⊕ c)
  split_back c s = record {
    before = s.before;
    after = s.after ⊕ c;
    is = λ p. ap (λ (x : List ℕ). x ⊕ c) (s.is p) ∙ append_regroup s.before (one p ⊕ s.after) c ∙ ap (λ (x : List ℕ). s.before ⊕ x) (append_regroup (one p) s.after c);
  }

  pub split_same : {f g : Property → List ℕ} → ((p : Property) → f p ≡ g p) → Split one g → Split one f
  split_same e s = record { before = s.before; after = s.after; is = λ p. e p ∙ s.is p }

  pub split_element : {f : Property → List ℕ} (n : List ℕ) → Split one f → Split one (λ p. element_of n (f p))
  split_element n s = split_front (start_tag n) (split_back (end_tag n) s)

-- ---- XML

properties_split : (ps qs : List Property) → Split property_xml (λ p. properties_xml (ps ⊕ (p ∷ qs)))
unfolding properties_xml ◌⊕◌
properties_split [] qs = split_back (properties_xml qs) split_one
properties_split (q ∷ ps) qs = split_front (property_xml q) (properties_split ps qs)

some_inside : (g : Gap) (p : Property) → is_no_more (filled g p) ≡ false
unfolding filled
some_inside (here n ps qs inner next) p = refl
some_inside (inside n ps g next) p = refl
some_inside (later n ps inner g) p = refl

-- `components` stands where there are some
components_stand : (n s : List ℕ) → components_element n false s ≡ element_of (ascii "components") s
unfolding components_element pick
components_stand n s = go (same n (ascii "VCALENDAR"))
  where
    go : (t : Bool) → pick t (element_of (ascii "components") s) (element_of (ascii "components") s) ≡ element_of (ascii "components") s
    go true = refl
    go false = refl

gap_components : (g : Gap) → Split property_xml (λ p. components_xml (filled g p))
unfolding components_xml filled
gap_components (here n ps qs inner next) =
    split_back (components_xml next) (split_element (lower n)
    (split_back (components_element n (is_no_more inner) (components_xml inner)) (split_element (ascii "properties") (properties_split ps qs))))
gap_components (inside n ps g next) =
    split_back (components_xml next) (split_element (lower n) (split_front (element_of (ascii "properties") (properties_xml ps))
    (split_same (λ p. rw (some_inside g p) (components_stand n (components_xml (filled g p)))) (split_element (ascii "components") (gap_components g)))))
gap_components (later n ps inner g) =
    split_front (element_of (lower n) (element_of (ascii "properties") (properties_xml ps) ⊕ components_element n (is_no_more inner) (components_xml inner))) (gap_components g)

pub gap_xml : (g : Gap) → Split property_xml (λ p. write_document (filled g p))
unfolding write_document
gap_xml g = split_front declaration (split_front (10 ∷ []) (split_front root_start (split_back (root_end ⊕ (10 ∷ [])) (gap_components g))))
