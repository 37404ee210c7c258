-- The length of a document's text grows no faster than the document's, whether the document is accepted or not; and a room for one content line is large enough.
--     text_bound     `rate` bytes for each byte of the document;   text_fits: an output that has them is long enough;   text_short: of a document within the limit
--     line_fits_lem  the content line of a property that an element states;   lines_fit: of each that is stated at a place
use Rattle.std.specs.Prelude.{◌≡◌, Bool, ltb, drop}
use Rattle.std.proofs.Math.Path.{refl, ap}
use Rattle.std.proofs.Math.Bool.{true, false}
use mathlib.Core.List.{List, [], ◌∷◌}
use Prim.Native.Nat.{ℕ, suc, ◌+◌, ◌-◌, ◌*◌, ◌^◌, ◌≤◌, ◌<◌}
use native.Mathlib.Omega.{arith}
use Rattle.std.proofs.Math.ListN.{length, length-drop}
use Rattle.std.proofs.Common.{lt-ltb, ltb-true}
use Rattle.octets.specs.Ascii.{ascii}
use Rattle.octets.specs.Pick.{pick}
use Rattle.octets.specs.laws.Pick.{and_yes}
use Rattle.octets.specs.Append.{◌⊕◌}
use Rattle.octets.specs.laws.Append.{length_both}
use Rattle.octets.specs.Class.{upper}
use Rattle.octets.specs.Words.{same}
use Rattle.octets.specs.Lists.{every, distinct}
use Rattle.octets.specs.Computing.{octets_compute}
use Rattle.octets.specs.laws.Letters.{upper-length}
use Rattle.calendar.specs.Calendar.{Property, Components, no_more, component}
use Rattle.calendar.specs.Levels.{levels, shallow}
use Rattle.folding.specs.Fold.{width, is_over, fold_from}
use Rattle.folding.specs.laws.Fold.{width_most}
use Rattle.read_text_line.specs.Decoded.{write_line}
use Rattle.text.specs.WriteText.{content_line_of, property_line, property_lines, begin_line, end_line, write_calendar}
use Rattle.xml.specs.Marks.{marks}
use Rattle.xml.specs.Nodes.{Nodes, no_nodes, element, literal, referred, nodes, document_nodes}
use Rattle.xcal.specs.PropertyNodes.{read_properties, property_in}
use Rattle.xcal.specs.ComponentNodes.{inside_of, read_components, read_inner, read_root}
use Rattle.edition.specs.declared.Edition.{Edition}
use Rattle.lengths_text.specs.laws.Bytes.{name_bytes, name_some, name_length}
use Rattle.lengths_text.specs.laws.Sizes.{size, nodes-size, document_size, part, named, parts, parts-size}
use Rattle.lengths_text.specs.laws.Children.{inside_size}
use Rattle.lengths_text.specs.laws.Lines.{line_length, line_short}

-- no less than 4 would do: `<a/>` comes to BEGIN:A and END:A, which are 16 bytes with the ends of the lines
abbrev pub rate : ℕ
rate = 6

-- ---- folded lines: three bytes more where a line has 72 or more, so that each byte after the first 40 comes to a tenth more at most

fold_length : (c : ℕ) (s : List ℕ) → 10 * length (fold_from c s) ≤ 10 * length s + 20 + (c + length s - 40)
unfolding fold_from pick
fold_length c [] = omega arith
fold_length c (b ∷ s) = go (is_over c b) refl (λ (d : ℕ). fold_length d s)
  where
    go : (t : Bool) → is_over c b ≡ t → ((d : ℕ) → 10 * length (fold_from d s) ≤ 10 * length s + 20 + (d + length s - 40)) →
        10 * length (pick t (13 ∷ 10 ∷ 32 ∷ []) [] ⊕ (b ∷ fold_from (pick t 1 c + 1) s)) ≤ 10 * suc (length s) + 20 + (c + suc (length s) - 40)
    go true e ih =
        let late : 75 < c + width b = ltb-true 75 (c + width b) e in
        omega (arith, length_both (13 ∷ 10 ∷ 32 ∷ []) (b ∷ fold_from 2 s), ih 2, late, width_most b)
    go false e ih = omega (arith, length_both [] (b ∷ fold_from (c + 1) s), ih (c + 1))

-- ---- components

abbrev part_names : List (List ℕ)
part_names = ascii "properties" ∷ ascii "components" ∷ []

parts_distinct : distinct part_names ≡ true
unfolding octets_compute
parts_distinct = refl

abbrev components_part : Nodes → ℕ
components_part ns = part (named (ascii "components")) ns

module _ (ed : Edition) where
  properties_length : (ns : Nodes) → length (property_lines ed (read_properties ns)) ≤ rate * size ns
  unfolding read_properties property_lines size
  properties_length no_nodes = omega arith
  properties_length (literal p b more) = omega (arith, properties_length more)
  properties_length (referred p bs more) = omega (arith, properties_length more)
  properties_length (element p m x kids more) =
      let q : Property = property_in m kids in
      omega (arith, length_both (property_line ed q) (property_lines ed (read_properties more)), fold_length 0 (write_line ed (content_line_of q)), line_short ed m kids, name_some m, properties_length more)

  -- the lines of a component, beside its properties and its subcomponents
  around_length : (n : List ℕ) (ps : List Property) (inner next : Components) →
      length (write_calendar ed (component n ps inner next)) ≤ 4 * length n + 14 + length (property_lines ed ps) + length (write_calendar ed inner) + length (write_calendar ed next)
  unfolding write_calendar
  around_length n ps inner next =
      let a : List ℕ = property_lines ed ps in
      let b : List ℕ = write_calendar ed inner in
      let c : List ℕ = write_calendar ed next in
      let begins : length (begin_line n) ≤ 2 * length n + 8 = omega (arith, fold_length 0 (ascii "BEGIN:" ⊕ n), length_both (ascii "BEGIN:") n) in
      let ends : length (end_line n) ≤ 2 * length n + 6 = omega (arith, fold_length 0 (ascii "END:" ⊕ n), length_both (ascii "END:") n) in
      omega (arith, length_both (begin_line n) (a ⊕ b ⊕ end_line n ⊕ c), length_both a (b ⊕ end_line n ⊕ c), length_both b (end_line n ⊕ c), length_both (end_line n) c, begins, ends)

  component-length : (m : List ℕ) (kids more : Nodes) →
      length (write_calendar ed (read_inner kids)) ≤ rate * components_part kids → length (write_calendar ed (read_components more)) ≤ rate * size more →
      length (write_calendar ed (component (upper m) (read_properties (inside_of (ascii "properties") kids)) (read_inner kids) (read_components more))) ≤ rate * (name_bytes m + 2 + size kids + size more)
  unfolding parts
  component-length m kids more inner next =
      let ps : Nodes = inside_of (ascii "properties") kids in
      let around = around_length (upper m) (read_properties ps) (read_inner kids) (read_components more) in
      omega (arith, around, upper-length m, name_some m, name_length m, properties_length ps, inside_size (ascii "properties") kids, parts-size part_names parts_distinct kids, inner, next)

  -- the components that nodes state, and those in the `components` among nodes
  calendar_length : (ns : Nodes) → (length (write_calendar ed (read_components ns)) ≤ rate * size ns) × (length (write_calendar ed (read_inner ns)) ≤ rate * components_part ns)
  unfolding read_components read_inner size part pick
  calendar_length no_nodes = unfold write_calendar in (omega arith, omega arith)
  calendar_length (literal p b more) = (omega (arith, (calendar_length more).0), (calendar_length more).1)
  calendar_length (referred p bs more) = (omega (arith, (calendar_length more).0), (calendar_length more).1)
  calendar_length (element p m x kids more) =
      (component-length m kids more (calendar_length kids).1 (calendar_length more).0, go (same m (ascii "components")) (calendar_length kids).0 (calendar_length more).1)
    where
      go : (t : Bool) → length (write_calendar ed (read_components kids)) ≤ rate * size kids → length (write_calendar ed (read_inner more)) ≤ rate * components_part more →
          length (write_calendar ed (pick t (read_components kids) (read_inner more))) ≤ rate * (pick t (name_bytes m + 2 + size kids) 0 + components_part more)
      go true h k = omega (arith, h)
      go false h k = omega (arith, k)

  none_shorter : (c : Components) → length (write_calendar ed no_more) ≤ length (write_calendar ed c)
  none_shorter c = unfold write_calendar in omega arith

  -- the lines of a component, exactly
  all_length : (n : List ℕ) (ps : List Property) (i x : Components) → length (write_calendar ed (component n ps i x)) ≡
      length (begin_line n) + length (property_lines ed ps) + length (write_calendar ed i) + length (end_line n) + length (write_calendar ed x)
  unfolding write_calendar
  all_length n ps i x =
      let a : List ℕ = property_lines ed ps in
      let b : List ℕ = write_calendar ed i in
      let c : List ℕ = write_calendar ed x in
      omega (arith, length_both (begin_line n) (a ⊕ b ⊕ end_line n ⊕ c), length_both a (b ⊕ end_line n ⊕ c), length_both b (end_line n ⊕ c), length_both (end_line n) c)

  -- without what stands too deep
  shallow-length : (c : Components) (l : ℕ) → length (write_calendar ed (shallow l c)) ≤ length (write_calendar ed c)
  unfolding shallow
  shallow-length no_more l = omega arith
  shallow-length (component n ps inner next) l = go (ltb 0 l) (shallow-length inner (l - 1)) (shallow-length next l)
    where
      go : (b : Bool) → length (write_calendar ed (shallow (l - 1) inner)) ≤ length (write_calendar ed inner) → length (write_calendar ed (shallow l next)) ≤ length (write_calendar ed next) →
          length (write_calendar ed (pick b (component n ps (shallow (l - 1) inner) (shallow l next)) no_more)) ≤ length (write_calendar ed (component n ps inner next))
      go true h k = unfold pick in omega (arith, all_length n ps inner next, all_length n ps (shallow (l - 1) inner) (shallow l next))
      go false h k = unfold pick in none_shorter (component n ps inner next)

  -- ---- the text

  root_length : (ns : Nodes) → length (write_calendar ed (read_root ns)) ≤ rate * size ns
  unfolding read_root size
  root_length no_nodes = unfold write_calendar in omega arith
  root_length (literal p b more) = unfold write_calendar in omega arith
  root_length (referred p bs more) = unfold write_calendar in omega arith
  root_length (element p m x kids more) = omega (arith, shallow-length (read_components kids) levels, (calendar_length kids).0)

  pub text_bound : (s : List ℕ) → length (write_calendar ed (read_root (document_nodes s))) ≤ rate * length s
  text_bound s = omega (arith, root_length (document_nodes s), document_size s)

  pub text_fits : (s : List ℕ) (n : ℕ) → rate * length s ≤ n → length (write_calendar ed (read_root (document_nodes s))) ≤ n
  text_fits s n h = omega (arith, text_bound s, h)

  pub text_short : (s : List ℕ) → length s ≤ 65535 → length (write_calendar ed (read_root (document_nodes s))) < 2 ^ 32
  text_short s h = omega (arith, text_bound s, h)

  -- ---- one content line

  -- the property that the element at the place p states, whose content is kids
  pub line_fits_lem : (s : List ℕ) (p q : ℕ) (m : List ℕ) (x : ℕ) (kids more : Nodes) → length s ≤ 65535 → nodes (marks p (drop p s)) 0 ≡ element q m x kids more →
      length (write_line ed (content_line_of (property_in m kids))) < 262144
  unfolding size
  line_fits_lem s p q m x kids more h e = omega (arith, line_length ed m kids, name_length m, ap size e, nodes-size (drop p s) p 0, length-drop p s)

  unfoldable pub line_fits : Property → Bool
  line_fits q = ltb (length (write_line ed (content_line_of q))) 262144

  each_fits : (ns : Nodes) → size ns ≤ 65535 → every line_fits (read_properties ns) ≡ true
  unfolding read_properties every line_fits size
  each_fits no_nodes h = refl
  each_fits (literal p b more) h = each_fits more (omega arith)
  each_fits (referred p bs more) h = each_fits more (omega arith)
  each_fits (element p m x kids more) h = and_yes _ _ (lt-ltb (length (write_line ed (content_line_of (property_in m kids)))) 262144 (omega (arith, line_length ed m kids, name_length m))) (each_fits more (omega arith))

  -- the properties that the elements from the place p on state
  pub lines_fit : (s : List ℕ) (p : ℕ) → length s ≤ 65535 → every line_fits (read_properties (nodes (marks p (drop p s)) 0)) ≡ true
  lines_fit s p h = each_fits (nodes (marks p (drop p s)) 0) (omega (arith, nodes-size (drop p s) p 0, length-drop p s))
