-- The lines of a calendar, not folded, and the components that they state: that calendar.
--     lines_before c r  the lines of components, in front of others;   lines_of c: alone
--     entry             what a line is
--     begin_line_lem, end_line_lem, property_line_lem  these lines are read as content lines
--     tree_back         the components that the lines of a calendar state, wherever they stand
use Rattle.std.specs.Prelude.{◌≡◌, Bool, true, ℕ, suc, ◌+◌, ◌-◌, Some, option_map}
use Rattle.std.proofs.Math.Path.{refl, ap}
use Rattle.std.proofs.Common.{sym, ◌∙◌}
use Rattle.std.proofs.Math.Bool.{false}
use mathlib.Core.List.{List, [], ◌∷◌, map}
use Rattle.std.proofs.Math.ListN.{length}
use Rattle.octets.specs.Ascii.{ascii}
use Rattle.octets.specs.Pick.{pick}
use Rattle.octets.specs.laws.Pick.{and_yes}
use Rattle.octets.specs.Scan.{all_of}
use Rattle.octets.specs.Append.{◌⊕◌, joined}
use Rattle.octets.specs.Class.{is_visible, upper}
use Rattle.octets.specs.Lists.{every}
use Rattle.octets.specs.laws.Lists.{every_both}
use Rattle.octets.specs.Computing.{octets_compute}
use Rattle.calendar.specs.Calendar.{Property, Components, no_more, component}
use Rattle.calendar.specs.Levels.{levels}
use Rattle.schema.specs.Components.{may_contain}
use Rattle.schema.specs.Counts.{method_for}
use Rattle.folding.specs.Text.{whole_lines}
use Rattle.read_text_line.specs.ContentLine.{ContentLine, is_name, is_content_line, content_line}
use Rattle.read_text_line.specs.Decoded.{decoded_line, read_line, write_line}
use Rattle.read_text_line.specs.laws.Chars.{visible_value}
use Rattle.read_text_line.specs.Write.{write_content_line}
use Rattle.read_text_line.specs.laws.RoundTrip.{content_line_read_back}
use Rattle.validity.specs.ValidCalendar.{is_valid_property, are_valid, at_top}
use Rattle.validity.proofs.laws.ValidCalendar.{kept_parts, component_name, ValidProperty, valid_property, valid_component, valid_shallow}
use Rattle.edition.specs.declared.Edition.{Edition}
use Rattle.text.specs.Statement.{property_of}
use Rattle.text.specs.Tree.{Entry, begin, end, property, entry_by, entry_of, own_of, inner_of, calendar_of}
use Rattle.text.specs.WriteText.{content_line_of}
use Rattle.text.proofs.laws.PropertyLaws.{property_read_back}
use Rattle.text.proofs.laws.LineLaws.{line_read_back}

-- ---- lines

abbrev pub begin_of : List ℕ → List ℕ
begin_of k = ascii "BEGIN:" ⊕ k

abbrev pub end_of : List ℕ → List ℕ
end_of k = ascii "END:" ⊕ k

-- ---- what a line is

-- BEGIN and END have no parameters
abbrev pub framing : List ℕ → List ℕ → ContentLine
framing n k = record { name = n; parameters = []; value = k }

framing_line : (n k : List ℕ) → is_name n ≡ true → all_of is_visible k ≡ true → is_content_line (framing n k) ≡ true
unfolding is_content_line every
framing_line n k a h = and_yes _ _ a (and_yes _ _ refl (visible_value k h))

pub begin_name : is_name (ascii "BEGIN") ≡ true
unfolding octets_compute is_name
begin_name = refl

pub end_name : is_name (ascii "END") ≡ true
unfolding octets_compute is_name
end_name = refl

begin_written : (k : List ℕ) → write_content_line (framing (ascii "BEGIN") k) ≡ begin_of k
unfolding write_content_line joined ◌⊕◌
begin_written k = refl

end_written : (k : List ℕ) → write_content_line (framing (ascii "END") k) ≡ end_of k
unfolding write_content_line joined ◌⊕◌
end_written k = refl

begin_content : (k : List ℕ) → all_of is_visible k ≡ true → content_line (begin_of k) ≡ Some (framing (ascii "BEGIN") k)
begin_content k h = ap content_line (sym (begin_written k)) ∙ content_line_read_back (framing (ascii "BEGIN") k) (framing_line (ascii "BEGIN") k begin_name h)

end_content : (k : List ℕ) → all_of is_visible k ≡ true → content_line (end_of k) ≡ Some (framing (ascii "END") k)
end_content k h = ap content_line (sym (end_written k)) ∙ content_line_read_back (framing (ascii "END") k) (framing_line (ascii "END") k end_name h)

module _ (ed : Edition) where
  -- ---- the lines of a calendar

  abbrev pub line_of : Property → List ℕ
  line_of p = write_line ed (content_line_of p)

  unfoldable pub properties_before : List Property → List (List ℕ) → List (List ℕ)
  properties_before [] r = r
  properties_before (p ∷ ps) r = line_of p ∷ properties_before ps r

  unfoldable pub lines_before : Components → List (List ℕ) → List (List ℕ)
  lines_before no_more r = r
  lines_before (component k ps inner next) r = begin_of k ∷ properties_before ps (lines_before inner (end_of k ∷ lines_before next r))

  abbrev pub lines_of : Components → List (List ℕ)
  lines_of c = lines_before c []

  pub begin_line_lem : (k : List ℕ) → all_of is_visible k ≡ true → read_line ed (begin_of k) ≡ Some (framing (ascii "BEGIN") k)
  begin_line_lem k h = ap (option_map (decoded_line ed)) (begin_content k h)

  pub end_line_lem : (k : List ℕ) → all_of is_visible k ≡ true → read_line ed (end_of k) ≡ Some (framing (ascii "END") k)
  end_line_lem k h = ap (option_map (decoded_line ed)) (end_content k h)

  pub property_line_lem : (k : List ℕ) (p : Property) → ValidProperty ed k p → read_line ed (line_of p) ≡ Some (content_line_of p)
  property_line_lem k p s = line_read_back ed k p s

  -- ---- entries

  pub entry : List ℕ → Entry
  entry s = entry_by (read_line ed s)

  begin_by : (k : List ℕ) → entry_by (Some (framing (ascii "BEGIN") k)) ≡ begin (upper k)
  unfolding entry_by octets_compute
  begin_by k = refl

  end_by : (k : List ℕ) → entry_by (Some (framing (ascii "END") k)) ≡ end
  unfolding entry_by octets_compute
  end_by k = refl

  begin-entry : (k : List ℕ) → upper k ≡ k → all_of is_visible k ≡ true → entry (begin_of k) ≡ begin k
  unfolding entry
  begin-entry k u h = ap entry_by (begin_line_lem k h) ∙ begin_by k ∙ ap begin u

  end-entry : (k : List ℕ) → all_of is_visible k ≡ true → entry (end_of k) ≡ end
  unfolding entry
  end-entry k h = ap entry_by (end_line_lem k h) ∙ end_by k

  property-entry : (k : List ℕ) (p : Property) → is_valid_property ed k p ≡ true → entry (line_of p) ≡ property (content_line_of p)
  unfolding entry entry_by pick content_line_of
  property-entry k p h = let s = valid_property ed k p h in ap entry_by (property_line_lem k p s) ∙ rw ((kept_parts p.name s.kept).0, s.begins, s.ends)

  stated_back : (k : List ℕ) (p : Property) → is_valid_property ed k p ≡ true → property_of k (content_line_of p) ≡ p
  stated_back k p h = property_read_back k p (valid_property ed k p h).typed

  -- places do not matter
  placeless : (ls : List (List ℕ)) (p : ℕ) → map (entry_of ed) (whole_lines p ls) ≡ map entry ls
  unfolding whole_lines entry_of entry
  placeless [] p = refl
  placeless (l ∷ ls) p = rw (placeless ls (p + length l + 2))

  -- ---- the properties of a component

  abbrev entries : List (List ℕ) → List Entry
  entries ls = map entry ls

  own_properties : (k : List ℕ) (ps : List Property) (r : List (List ℕ)) → every (is_valid_property ed k) ps ≡ true → own_of k (entries r) 0 ≡ [] → own_of k (entries (properties_before ps r)) 0 ≡ ps
  unfolding properties_before own_of
  own_properties k [] r h e = e
  own_properties k (p ∷ ps) r h e =
      let a = every_both (is_valid_property ed k) p ps h in
      rw (property-entry k p a.0, stated_back k p a.0, own_properties k ps r a.1 e)

  deep_properties : (j k : List ℕ) (d : ℕ) (ps : List Property) (r : List (List ℕ)) → every (is_valid_property ed k) ps ≡ true → own_of j (entries (properties_before ps r)) (suc d) ≡ own_of j (entries r) (suc d)
  unfolding properties_before own_of
  deep_properties j k d [] r h = refl
  deep_properties j k d (p ∷ ps) r h =
      let a = every_both (is_valid_property ed k) p ps h in
      rw (property-entry k p a.0) (deep_properties j k d ps r a.1)

  inner_properties : (k : List ℕ) (d : ℕ) (ps : List Property) (r : List (List ℕ)) → every (is_valid_property ed k) ps ≡ true → inner_of (entries (properties_before ps r)) d ≡ inner_of (entries r) d
  unfolding properties_before inner_of
  inner_properties k d [] r h = refl
  inner_properties k d (p ∷ ps) r h =
      let a = every_both (is_valid_property ed k) p ps h in
      rw (property-entry k p a.0) (inner_properties k d ps r a.1)

  -- ---- components

  own_components : (c : Components) (l : ℕ) (may : List ℕ → Bool) (m : Bool) → are_valid ed l may m c ≡ true → (j : List ℕ) (d : ℕ) (r : List (List ℕ)) → own_of j (entries (lines_before c r)) d ≡ own_of j (entries r) d
  unfolding lines_before own_of
  own_components no_more l may m v j d r = refl
  own_components (component k ps inner next) l may m h j d r =
      let v = valid_component ed l may m k ps inner next h in
      let n = component_name k v.kept in
      let e = end-entry k n.1 in
      rw (begin-entry k n.0 n.1)
      (deep_properties j k d ps _ v.properties ∙ own_components inner (l - 1) (may_contain k) (method_for k ps m) v.inside j (suc d) _ ∙ rw e (own_components next l may m v.after j d r))

  inner_deep : (c : Components) (l : ℕ) (may : List ℕ → Bool) (m : Bool) → are_valid ed l may m c ≡ true → (d : ℕ) (r : List (List ℕ)) → inner_of (entries (lines_before c r)) (suc d) ≡ inner_of (entries r) (suc d)
  unfolding lines_before inner_of
  inner_deep no_more l may m v d r = refl
  inner_deep (component k ps inner next) l may m h d r =
      let v = valid_component ed l may m k ps inner next h in
      let n = component_name k v.kept in
      let e = end-entry k n.1 in
      rw (begin-entry k n.0 n.1)
      (inner_properties k (suc (suc d)) ps _ v.properties ∙ inner_deep inner (l - 1) (may_contain k) (method_for k ps m) v.inside (suc d) _ ∙ rw e (inner_deep next l may m v.after d r))

  inner_own : (c : Components) (l : ℕ) (may : List ℕ → Bool) (m : Bool) → are_valid ed l may m c ≡ true → (r : List (List ℕ)) → inner_of (entries r) 0 ≡ no_more → inner_of (entries (lines_before c r)) 0 ≡ c
  unfolding lines_before inner_of own_of
  inner_own no_more l may m v r h = h
  inner_own (component k ps inner next) l may m w r h =
      let v = valid_component ed l may m k ps inner next w in
      let n = component_name k v.kept in
      let e = end-entry k n.1 in
      let x : List (List ℕ) = end_of k ∷ lines_before next r in
      let y : List (List ℕ) = lines_before inner x in
      let own : own_of k (entries (properties_before ps y)) 0 ≡ ps =
      own_properties k ps y v.properties (own_components inner (l - 1) (may_contain k) (method_for k ps m) v.inside k 0 x ∙ rw e) in
      let ours : inner_of (entries (properties_before ps y)) 0 ≡ inner =
      inner_properties k 0 ps y v.properties ∙ inner_own inner (l - 1) (may_contain k) (method_for k ps m) v.inside x (rw e) in
      let after : inner_of (entries (properties_before ps y)) 1 ≡ next =
      inner_properties k 1 ps y v.properties ∙ inner_deep inner (l - 1) (may_contain k) (method_for k ps m) v.inside 0 x ∙ rw e (inner_own next l may m v.after r h) in
      rw (begin-entry k n.0 n.1) (rw (own, ours, after))

  pub tree_back : (c : Components) (p : ℕ) → are_valid ed levels at_top false c ≡ true → calendar_of ed (whole_lines p (lines_of c)) ≡ c
  unfolding calendar_of
  tree_back c p v = rw (placeless (lines_of c) p, inner_own c levels at_top false v [] done) (valid_shallow ed c levels at_top false v)
    where
      done : inner_of [] 0 ≡ no_more
      done = unfold inner_of in refl
