-- Laws of what specs/Parts.antt defines.
--     component_parts          the element is made of these
--     head_put, tail_put       for code
use Rattle.std.specs.Prelude.{◌≡◌, refl, Bool, true, false, List, [], ◌∷◌, ℕ, ◌-◌, ◌≤◌}
use Rattle.std.proofs.Common.{sym, ap, subst, ◌∙◌, lt-ltb}
use Rattle.octets.specs.Ascii.{ascii}
use Rattle.octets.specs.Pick.{pick}
use Rattle.octets.specs.Append.{◌⊕◌}
use Rattle.octets.specs.laws.Append.{append_empty, append_regroup}
use Rattle.octets.specs.Class.{upper, lower}
use Rattle.octets.specs.laws.Letters.{lower_any_case}
use Rattle.octets.specs.Words.{same}
use Rattle.names.specs.Table.{place_of}
use Rattle.schema.specs.Components.{component_names}
use Rattle.schema.specs.Numbers.{component_name}
use Rattle.sink.specs.Sink.{Put}
use Rattle.sink.specs.laws.Sink.{◌▷◌}
use Rattle.calendar.specs.Calendar.{Components, no_more, component}
use Rattle.calendar.specs.Levels.{shallow}
use Rattle.xml.specs.Escape.{start_tag, end_tag, element_of}
use Rattle.text.specs.Tree.{Entry, begin, inner_of}
use Rattle.xcal.specs.WriteXml.{is_no_more, components_element, components_xml}
use Rattle.edition.specs.declared.Edition.{Edition}
use Rattle.write_xml.specs.declared.properties.Walked.{Walked}
use Rattle.text_entries.specs.declared.levels.Ahead.{Ahead}
use Rattle.text_entries.specs.Entries.{entries_at}
use Rattle.text_entries.specs.Passing.{behind}
use Rattle.text_entries.specs.laws.Passing.{inner_deeper}
use Rattle.text_entries.specs.Levels.{is_none, whole, AheadAt}
use Rattle.write_xml.specs.Walks.{own_xml, inner_xml}
use Rattle.write_xml.specs.laws.Walks.{own_place}
use Rattle.write_xml.specs.Places.{PropertiesPut}
use Rattle.write_xml.specs.Parts.{has_components, head_xml, tail_xml}

-- `components` by its tags and what stands between them
element_parts : (n : List ℕ) (c : Components) → components_element n (is_no_more c) (components_xml c) ≡
    pick (has_components n (is_none c)) (start_tag (ascii "components")) [] ⊕ components_xml c ⊕ pick (has_components n (is_none c)) (end_tag (ascii "components")) []
unfolding components_element components_xml pick
element_parts n c = go (same n (ascii "VCALENDAR")) c
  where
    go : (t : Bool) (c : Components) → pick t (element_of (ascii "components") (components_xml c)) (pick (is_no_more c) [] (element_of (ascii "components") (components_xml c))) ≡
        pick (pick t true (pick (is_none c) false true)) (start_tag (ascii "components")) [] ⊕ components_xml c ⊕ pick (pick t true (pick (is_none c) false true)) (end_tag (ascii "components")) []
    go true c = refl
    go false no_more = sym (append_empty ([] ⊕ []) ∙ append_empty [])
    go false (component n ps inner next) = refl

regroup : (a b c x d e f : List ℕ) → (a ⊕ (b ⊕ (c ⊕ x ⊕ d)) ⊕ e) ⊕ f ≡ ((a ⊕ b ⊕ c) ⊕ x ⊕ (d ⊕ e)) ⊕ f
regroup a b c x d e f = simp append_regroup

-- l levels deep
pub component_parts : (l : ℕ) (n : List ℕ) (es : List Entry) → 1 ≤ l → inner_xml l (begin n ∷ es) ≡
    (head_xml n (is_none (shallow (l - 1) (inner_of es 0))) es ⊕ inner_xml (l - 1) es ⊕ tail_xml n (is_none (shallow (l - 1) (inner_of es 0)))) ⊕ inner_xml l (behind es 0)
unfolding inner_of shallow pick components_xml
component_parts l n es h = rw (lt-ltb 0 l h, element_parts n (shallow (l - 1) (inner_of es 0)), inner_deeper es 0) (regroup (start_tag (lower n)) (element_of (ascii "properties") (own_xml n es)) _ _ _ _ _)

pub tail_put : (n : List ℕ) (empty : Bool) {there : Bool} {d e f : List ℕ} {o a r : ℕ} → there ≡ has_components (upper n) empty →
    Put d e o a (pick there (end_tag (ascii "components")) []) → Put e f a r (end_tag (lower n)) → Put d f o r (tail_xml (upper n) empty)
tail_put n empty {e = e} {f = f} {a = a} {r = r} h u v = (rw h at u) ▷ subst (λ (m : List ℕ). Put e f a r (end_tag m)) (sym (lower_any_case n)) v

module _ {ed : Edition} where
  -- ---- for code

  -- n is the name as it stands
  pub head_put : (n : List ℕ) (mode : ℕ) (s : List ℕ) {h : Components → Components} {from : ℕ} {w : Walked} {b : Ahead} {there : Bool} {d e f g : List ℕ} {o a r : ℕ} (k : ℕ) → k ≡ place_of (upper n) component_names → Put d e o a (start_tag (lower n)) →
      PropertiesPut ed whole e f a (element_of (ascii "properties") (own_xml (component_name k) (entries_at ed mode s from))) mode s from w → AheadAt ed h mode s from b → there ≡ has_components (upper n) b.bare →
      Put f g w.to r (pick there (start_tag (ascii "components")) []) →
      PropertiesPut ed h d g o (head_xml (upper n) b.bare (entries_at ed mode s from)) mode s from (record { to = r; ahead = b })
  head_put n mode s {from = from} {d = d} {e = e} {o = o} {a = a} k q u v x y z =
      let es : List Entry = entries_at ed mode s from in
      let q' : own_xml (component_name k) es ≡ own_xml (upper n) es = ap (λ (k : ℕ). own_xml (component_name k) es) q ∙ own_place (upper n) es in
      record { put = subst (λ (m : List ℕ). Put d e o a (start_tag m)) (sym (lower_any_case n)) u ▷ (rw q' at v).put ▷ (rw y at z); ahead = x }
