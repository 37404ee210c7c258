-- Components that are written to XML are not refused (RFC 6321, sections 3.2 and 3.3).
--     components_fine      the verdict on the children of `components`
--     stream_fine          the verdict on the children of the root
use Rattle.std.specs.Prelude.{◌≡◌, Bool, List, ℕ, ◌-◌}
use Rattle.std.proofs.Math.Path.{refl, sym}
use Rattle.std.proofs.Math.Bool.{true, false, not}
use Rattle.std.proofs.lemmas.Bool.{false≢true}
use Rattle.octets.specs.Ascii.{ascii}
use Rattle.octets.specs.Pick.{pick, ◌and◌, ◌or◌}
use Rattle.octets.specs.laws.Pick.{or_left, or_right, or_no, or_cases}
use Rattle.octets.specs.Class.{lower}
use Rattle.octets.specs.Words.{same, is_empty}
use Rattle.octets.specs.laws.Words.{same_true}
use Rattle.octets.specs.Lists.{every}
use Rattle.octets.specs.Computing.{octets_compute}
use Rattle.calendar.specs.Calendar.{Property, Components, no_more, component}
use Rattle.calendar.specs.Levels.{levels}
use Rattle.calendar.specs.Refusal.{FRAME, fine, refuse, ◌otherwise◌}
use Rattle.schema.specs.Components.{subcomponents_of, may_contain}
use Rattle.schema.specs.Counts.{Around, method_for, complete}
use Rattle.schema.specs.Computing.{schema_compute}
use Rattle.schema.specs.laws.Unknown.{contains_some}
use Rattle.validity.specs.ValidCalendar.{is_kept_name, is_valid_property, has_components, are_valid, at_top}
use Rattle.validity.proofs.laws.ValidCalendar.{valid_component}
use Rattle.xml.specs.Nodes.{no_nodes, has_element}
use Rattle.xml.specs.Content.{Content, placed}
use Rattle.edition.specs.declared.Edition.{Edition}
use Rattle.xcal.specs.WriteXml.{is_no_more}
use Rattle.xcal.proofs.laws.ElementNames.{no_capital, kept_back, kept_carried}
use Rattle.xcal.proofs.laws.Contents.{components_part, component_inside, calendar_content}
use Rattle.xcal.specs.PropertyNodes.{read_properties}
use Rattle.xcal.specs.ComponentNodes.{inside_of, is_complete, bad_component, nothing_come, end_of_component, end_of_components, component_verdict, components_verdict, stream_verdict}
use Rattle.xcal.proofs.laws.PropertiesBack.{properties_back, properties_fine}
use Rattle.xcal.proofs.laws.ComponentsBack.{is_calendar, by_part, no_more_lem, has_components_lem}

-- ---- counts

-- whether there is a subcomponent
has_sub : (n : List ℕ) (ps : List Property) (inner : Components) (q : ℕ) → has_element (inside_of (ascii "components") (placed (component_inside n ps (is_no_more inner) (calendar_content inner)) q no_nodes)) ≡ has_components inner
unfolding octets_compute placed inside_of has_element
has_sub n ps inner q =
    by_part (λ d. (r : ℕ) → has_element (inside_of (ascii "components") (placed d r no_nodes)) ≡ has_components inner) n (is_no_more inner) (calendar_content inner)
    (λ h r. has_components_lem inner _) (λ h e r. rw (no_more_lem inner e)) _

module _ (ed : Edition) where
  properties_first : (n : List ℕ) (ps : List Property) (empty : Bool) (c : Content) → every (is_valid_property ed n) ps ≡ true → (q : ℕ) →
      read_properties (inside_of (ascii "properties") (placed (component_inside n ps empty c) q no_nodes)) ≡ ps
  unfolding octets_compute placed inside_of
  properties_first n ps empty c h q = properties_back ed n ps h _

  complete_in : (n : List ℕ) (m : Bool) (ps : List Property) (inner : Components) → every (is_valid_property ed n) ps ≡ true → complete n ps (record { inner = has_components inner; method = m }) ≡ true → (q : ℕ) →
      is_complete n m (placed (component_inside n ps (is_no_more inner) (calendar_content inner)) q no_nodes) ≡ true
  complete_in n m ps inner h c q = rw (has_sub n ps inner q, properties_first n ps (is_no_more inner) (calendar_content inner) h q) c

  -- ---- the children of a component

  -- a component that has `components` may have some
  has_subcomponents : (n : List ℕ) (l : ℕ) (m : Bool) (inner : Components) → (is_calendar n or not (is_no_more inner)) ≡ true → are_valid ed l (may_contain n) m inner ≡ true →
      is_empty (subcomponents_of n) ≡ false
  unfolding schema_compute
  has_subcomponents n l m inner h c = or_cases (is_calendar n) _ h (λ e. rw (same_true n (ascii "VCALENDAR") e)) (other inner c)
    where
      other : (i : Components) → are_valid ed l (may_contain n) m i ≡ true → not (is_no_more i) ≡ true → is_empty (subcomponents_of n) ≡ false
      other no_more c e = absurd (false≢true e)
      other (component v ps i next) c e = contains_some n v (valid_component ed l (may_contain n) m v ps i next c).named

  end_fine : (n : List ℕ) (m : Bool) (e : ℕ) → end_of_component n true (record { properties = true; components = true; method = m }) e ≡ fine
  unfolding end_of_component pick ◌and◌ ◌or◌
  end_fine n m e = go (is_calendar n)
    where
      go : (t : Bool) → pick (t and false) (refuse FRAME e) fine ≡ fine
      go true = refl
      go false = refl

  -- after `properties`
  part_fine : (n : List ℕ) (l : ℕ) (m : Bool) (inner : Components) → are_valid ed l (may_contain n) m inner ≡ true →
      ((x q : ℕ) → (is_calendar n or not (is_no_more inner)) ≡ true → components_verdict ed (placed (calendar_content inner) q no_nodes) n l m false x ≡ fine) →
      (e q : ℕ) → component_verdict ed (placed (components_part n (is_no_more inner) (calendar_content inner)) q no_nodes) n l true (record { properties = true; components = false; method = m }) e ≡ fine
  unfolding octets_compute placed component_verdict end_of_component ◌otherwise◌
  part_fine n l m inner c ih e q =
      by_part (λ d. (r : ℕ) → component_verdict ed (placed d r no_nodes) n l true (record { properties = true; components = false; method = m }) e ≡ fine) n (is_no_more inner) (calendar_content inner)
      (λ h r. rw (has_subcomponents n l m inner h c, ih _ _ h) (end_fine n m e))
      (λ h k r. rw h)
      q

  inside_fine : (n : List ℕ) (l : ℕ) (m : Bool) (ps : List Property) (inner : Components) → every (is_valid_property ed n) ps ≡ true → are_valid ed l (may_contain n) (method_for n ps m) inner ≡ true →
      ((x q : ℕ) → (is_calendar n or not (is_no_more inner)) ≡ true → components_verdict ed (placed (calendar_content inner) q no_nodes) n l (method_for n ps m) false x ≡ fine) →
      (e q : ℕ) → component_verdict ed (placed (component_inside n ps (is_no_more inner) (calendar_content inner)) q no_nodes) n l true (nothing_come m) e ≡ fine
  unfolding octets_compute placed component_verdict ◌otherwise◌
  inside_fine n l m ps inner h c ih e q = rw (properties_fine ed n ps h, properties_back ed n ps h) (part_fine n l (method_for n ps m) inner c ih e _)

  -- ---- components

  no_components : (k : List ℕ) (any : Bool) (x : ℕ) → (is_calendar k or any) ≡ true → end_of_components k any x ≡ fine
  unfolding end_of_components pick ◌or◌
  no_components k true x h = refl
  no_components k false x h = or_cases (is_calendar k) false h (λ e. rw e) (λ e. absurd (false≢true e))

  or_last : (a b : Bool) → (a or b or false) ≡ true → (a or b) ≡ true
  unfolding ◌or◌
  or_last true b e = refl
  or_last false true e = refl
  or_last false false e = e

  or_middle : (a b : Bool) → (a or b) ≡ true → (a or false or b) ≡ true
  unfolding ◌or◌
  or_middle true b e = refl
  or_middle false b e = e

  good_component : (n : List ℕ) → is_kept_name n ≡ true → bad_component (lower n) ≡ false
  good_component n h = or_no _ _ (no_capital n) (rw (kept_carried n h))

  pub components_fine : (c : Components) (k : List ℕ) (l : ℕ) (m any : Bool) (x q : ℕ) → are_valid ed l (may_contain k) m c ≡ true → (is_calendar k or any or not (is_no_more c)) ≡ true →
      components_verdict ed (placed (calendar_content c) q no_nodes) k l m any x ≡ fine
  unfolding calendar_content placed components_verdict pick ◌and◌ ◌otherwise◌
  components_fine no_more k l m any x q h o = no_components k any x (or_last (is_calendar k) any o)
  components_fine (component n ps inner next) k l m any x q h o =
      let v = valid_component ed l (may_contain k) m n ps inner next h in
      rw (
        good_component n v.kept,
        kept_back n v.kept,
        v.named,
        v.level,
        complete_in n m ps inner v.properties v.counts,
        inside_fine n (l - 1) m ps inner v.properties v.inside (λ y r z. components_fine inner n (l - 1) (method_for n ps m) false y r v.inside (or_middle _ _ z)),
      )
      (components_fine next k l m true x _ v.after (or_right _ _ (or_left _ _ refl)))

  -- ---- the root

  calendar_element : (n : List ℕ) → is_calendar n ≡ true → same (lower n) (ascii "vcalendar") ≡ true
  unfolding octets_compute
  calendar_element n h = rw (same_true n (ascii "VCALENDAR") h)

  pub stream_fine : (c : Components) (any : Bool) (x q : ℕ) → are_valid ed levels at_top false c ≡ true → (any or has_components c) ≡ true → stream_verdict ed (placed (calendar_content c) q no_nodes) any x ≡ fine
  unfolding calendar_content placed stream_verdict pick ◌otherwise◌
  stream_fine no_more any x q h o = or_cases any false o (λ e. rw e) (λ e. absurd (false≢true e))
  stream_fine (component n ps inner next) any x q h o =
      let v = valid_component ed levels at_top false n ps inner next h in
      let e = v.named in
      let z : ascii "VCALENDAR" ≡ n = sym (same_true n (ascii "VCALENDAR") e) in
      rw (
        calendar_element n e,
        z,
        complete_in n false ps inner v.properties v.counts,
        inside_fine n (levels - 1) false ps inner v.properties v.inside (λ y r w. components_fine inner n (levels - 1) (method_for n ps false) false y r v.inside (or_middle _ _ w)),
      )
      (stream_fine next true x _ v.after (or_left _ _ refl))
