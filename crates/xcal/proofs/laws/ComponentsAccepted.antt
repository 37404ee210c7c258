-- Components read from elements that are not refused are valid (RFC 6321, sections 3.2 and 3.3).
--     stream_accepted        the calendars that the children of the root state are valid
use Rattle.std.specs.Prelude.{◌≡◌, Bool, ℕ, ◌-◌}
use Rattle.std.proofs.Math.Path.{refl, ap}
use Rattle.std.proofs.Common.{sym, ◌∙◌}
use Rattle.std.proofs.Math.Bool.{true, false, not}
use Rattle.std.proofs.lemmas.Bool.{false≢true, not-true, not-false}
use mathlib.Core.List.{List}
use Rattle.std.proofs.Math.Dec.{ltb}
use Rattle.octets.specs.Ascii.{ascii}
use Rattle.octets.specs.Pick.{pick, ◌and◌, ◌or◌}
use Rattle.octets.specs.laws.Pick.{and_both, or_left, or_right, or_neither}
use Rattle.octets.specs.Class.{is_space, upper}
use Rattle.octets.specs.Words.{same, is_empty}
use Rattle.octets.specs.laws.Words.{same_true, same_swap}
use Rattle.octets.specs.Lists.{every}
use Rattle.octets.specs.Computing.{octets_compute}
use Rattle.calendar.specs.Calendar.{Components, component}
use Rattle.calendar.specs.Levels.{levels}
use Rattle.calendar.specs.Refusal.{NAME, FRAME, COUNT, Verdict, fine, refuse}
use Rattle.calendar.specs.laws.Refusal.{refused_not}
use Rattle.schema.specs.Components.{subcomponents_of, may_contain}
use Rattle.schema.specs.Counts.{method_for}
use Rattle.read_text_line.specs.Names.{is_carried_name}
use Rattle.read_text_line.specs.Computing.{lines_compute}
use Rattle.validity.specs.ValidCalendar.{is_kept_name, is_valid_property, has_components, are_valid, at_top}
use Rattle.validity.proofs.laws.ValidCalendar.{component_valid}
use Rattle.xml.specs.Reads.{is_name}
use Rattle.xml.specs.Nodes.{Nodes, no_nodes, element, literal, referred, has_element}
use Rattle.edition.specs.declared.Edition.{Edition}
use Rattle.xcal.specs.Layout.{has_capital, unexpected}
use Rattle.xcal.specs.PropertyNodes.{properties_verdict, read_properties}
use Rattle.xcal.specs.ComponentNodes.{inside_of, is_complete, Come, nothing_come, bad_component, no_component, end_of_component, component_verdict, components_verdict, stream_verdict, read_components, read_inner}
use Rattle.xcal.proofs.laws.Accepted.{unexpected_not, both_fine, test_fine, past_fine}
use Rattle.xcal.proofs.laws.ElementNames.{kept_name}
use Rattle.xcal.proofs.laws.ValuesAccepted.{is_clean_content}
use Rattle.xcal.proofs.laws.GoodNodes.{is_good}
use Rattle.xcal.proofs.laws.PropertiesAccepted.{properties_accepted}

-- ---- what a component holds

-- an element that is taken by the one test or by the other
either_fine : {X : Type 0} (a b : Bool) (v w : Verdict) (p : ℕ) (m : List ℕ) → pick a v (pick b w (unexpected p m)) ≡ fine → (a ≡ true → v ≡ fine → X) → (b ≡ true → w ≡ fine → X) → X
unfolding pick
either_fine true b v w p m h f g = f refl h
either_fine false true v w p m h f g = g refl h
either_fine false false v w p m h f g = unexpected_not p m h

pub one_fine : (a : Bool) (v : Verdict) (p : ℕ) (m : List ℕ) → pick a v (unexpected p m) ≡ fine → (a ≡ true) × (v ≡ fine)
unfolding pick
one_fine true v p m h = (refl, h)
one_fine false v p m h = unexpected_not p m h

no_component_lem : {X : Type 0} (a : Bool) (p : ℕ) → pick a (refuse NAME p) (refuse FRAME p) ≡ fine → X
unfolding pick
no_component_lem true p h = refused_not NAME p h
no_component_lem false p h = refused_not FRAME p h

component_fine : (a : Bool) (v : Verdict) (p : ℕ) (m : List ℕ) → pick a v (no_component p m) ≡ fine → (a ≡ true) × (v ≡ fine)
unfolding pick
component_fine true v p m h = (refl, h)
component_fine false v p m h = no_component_lem (bad_component m) p h

has_components_lem : (kids : Nodes) → has_element kids ≡ has_components (read_components kids)
unfolding has_element read_components read_inner
has_components_lem no_nodes = refl
has_components_lem (literal p b more) = has_components_lem more
has_components_lem (referred p bs more) = has_components_lem more
has_components_lem (element p m x kids more) = refl

pub inner_components : (kids : Nodes) → read_inner kids ≡ read_components (inside_of (ascii "components") kids)
unfolding read_components read_inner inside_of pick
inner_components no_nodes = refl
inner_components (literal p b more) = inner_components more
inner_components (referred p bs more) = inner_components more
inner_components (element p m x kids more) = go (same m (ascii "components")) (inner_components more)
  where
    go : (t : Bool) → read_inner more ≡ read_components (inside_of (ascii "components") more) → pick t (read_components kids) (read_inner more) ≡ read_components (pick t kids (inside_of (ascii "components") more))
    go true ih = refl
    go false ih = ih

module _ (ed : Edition) where
  -- METHOD of the calendar that the subcomponents of a component n stand in
  abbrev method_by : List ℕ → Come → Nodes → Bool
  method_by n c kids = pick c.properties c.method (method_for n (read_properties (inside_of (ascii "properties") kids)) c.method)

  -- what is known of the children of a component n, with l levels left in it
  record Holds (n : List ℕ) (l : ℕ) (counts : Bool) (c : Come) (kids : Nodes) : Type 0 where
    inner : are_valid ed l (may_contain n) (method_by n c kids) (read_inner kids) ≡ true
    properties : every (is_valid_property ed n) (read_properties (inside_of (ascii "properties") kids)) ≡ true
    counted : counts ≡ true
    came : c.components ≡ true → c.properties ≡ true

  -- the component that an element states
  component_within : (l : ℕ) (may : List ℕ → Bool) (m : Bool) (n : List ℕ) (kids more : Nodes) → ltb 0 l ≡ true → is_kept_name n ≡ true → may n ≡ true →
      Holds n (l - 1) (is_complete n m kids) (nothing_come m) kids → are_valid ed l may m (read_components more) ≡ true → are_valid ed l may m (component n (read_properties (inside_of (ascii "properties") kids)) (read_inner kids) (read_components more)) ≡ true
  unfolding pick
  component_within l may m n kids more v k o h r =
      component_valid ed l may m n _ _ _ (record {
        level = v;
        kept = k;
        named = o;
        properties = h.properties;
        counts = rw (inner_components kids, ← (has_components_lem (inside_of (ascii "components") kids))) h.counted;
        inside = h.inner;
        after = r;
      })

  abbrev Components-fine : Nodes → Type 0
  Components-fine kids = (k : List ℕ) (l : ℕ) (method any : Bool) (e : ℕ) → is_good kids ≡ true → components_verdict ed kids k l method any e ≡ fine → are_valid ed l (may_contain k) method (read_components kids) ≡ true

  abbrev Component-fine : Nodes → Type 0
  Component-fine kids = (n : List ℕ) (l : ℕ) (counts : Bool) (c : Come) (e : ℕ) → is_good kids ≡ true → component_verdict ed kids n l counts c e ≡ fine → Holds n l counts c kids

  other_name : same (ascii "properties") (ascii "components") ≡ false
  unfolding octets_compute
  other_name = refl

  end_counted : (n : List ℕ) (counts : Bool) (c : Come) (e : ℕ) → end_of_component n counts c e ≡ fine → counts ≡ true
  unfolding end_of_component
  end_counted n counts c e h =
      (test_fine counts fine COUNT e (past_fine (not c.properties or (same n (ascii "VCALENDAR") and not c.components)) _ FRAME e h).1).0

  came_by : (a b : Bool) → (not a or b) ≡ false → a ≡ true
  unfolding ◌or◌
  came_by true b h = refl
  came_by false b h = absurd (false≢true (sym h))

  end_came : (n : List ℕ) (counts : Bool) (c : Come) (e : ℕ) → end_of_component n counts c e ≡ fine → c.properties ≡ true
  unfolding end_of_component
  end_came n counts c e h = came_by c.properties _ (past_fine (not c.properties or (same n (ascii "VCALENDAR") and not c.components)) _ FRAME e h).0

  module _ (p : ℕ) (m : List ℕ) (x : ℕ) (kids more : Nodes) (g : is_good (element p m x kids more) ≡ true) where
    parts : (is_name m ≡ true) × (is_good kids ≡ true) × (is_good more ≡ true)
    unfolding is_good
    parts =
        let b = and_both (is_name m) _ g in
        let c = and_both (is_clean_content kids) _ b.1 in
        let d = and_both (is_good kids) _ c.1 in
        (b.0, d.0, d.1)

    -- the element of a subcomponent
    subcomponent : Component-fine kids → Components-fine more → (k : List ℕ) (l : ℕ) (method any : Bool) (e : ℕ) → components_verdict ed (element p m x kids more) k l method any e ≡ fine →
        are_valid ed l (may_contain k) method (read_components (element p m x kids more)) ≡ true
    unfolding components_verdict read_components
    subcomponent f r k l method any e h =
        let a = component_fine (not (bad_component m) and may_contain k (upper m) and ltb 0 l) _ p m h in
        let t = and_both (not (bad_component m)) _ a.0 in
        let u = and_both (may_contain k (upper m)) (ltb 0 l) t.1 in
        let w = or_neither (has_capital m) (not (is_carried_name m)) (not-true _ t.0) in
        let b = both_fine (component_verdict ed kids (upper m) (l - 1) (is_complete (upper m) method kids) (nothing_come method) x) _ a.1 in
        component_within l (may_contain k) method (upper m) kids more u.1 (kept_name m parts.0 (not-false _ w.1)) u.0
        (f (upper m) (l - 1) (is_complete (upper m) method kids) (nothing_come method) x parts.1 b.0) (r k l method true e parts.2 b.1)

    -- a child of a component
    child : Components-fine kids → Component-fine more → (n : List ℕ) (l : ℕ) (counts : Bool) (c : Come) (e : ℕ) → component_verdict ed (element p m x kids more) n l counts c e ≡ fine →
        Holds n l counts c (element p m x kids more)
    unfolding component_verdict read_inner inside_of pick
    child f r n l counts c e h =
        either_fine (same m (ascii "properties") and not c.properties and not c.components) (same m (ascii "components") and not c.components and not (is_empty (subcomponents_of n))) _ _ p m h
        (λ t v.
        let y = and_both (same m (ascii "properties")) _ t in
        let z = y.0 in
        let u = and_both (not c.properties) (not c.components) y.1 in
        let b = both_fine (properties_verdict ed n kids) _ v in
        let q = properties_accepted ed n kids parts.1 b.0 in
        let i = r n l counts (record { properties = true; components = false; method = method_for n (read_properties kids) c.method }) e parts.2 b.1 in
        let w : same m (ascii "components") ≡ false = ap (λ (u : List ℕ). same u (ascii "components")) (same_true m (ascii "properties") z) ∙ other_name in
        record { inner = rw (not-true c.properties u.0, z, w) i.inner; properties = rw z q; counted = i.counted; came = λ k. absurd (false≢true (sym (not-true c.components u.1) ∙ k)) })
        (λ t v.
        let y = and_both (same m (ascii "components")) _ t in
        let z = y.0 in
        let u = and_both (not c.components) (not (is_empty (subcomponents_of n))) y.1 in
        let b = both_fine (components_verdict ed kids n l c.method false x) _ v in
        let i = r n l counts (record { properties = c.properties; components = true; method = c.method }) e parts.2 b.1 in
        let w : same m (ascii "properties") ≡ false = ap (λ (u : List ℕ). same u (ascii "properties")) (same_true m (ascii "components") z) ∙ same_swap (ascii "properties") (ascii "components") other_name in
        record {
          inner = rw (i.came refl, z) (f n l c.method false x parts.1 b.0);
          properties = rw w i.properties;
          counted = i.counted;
          came = λ k. absurd (false≢true (sym (not-true c.components u.0) ∙ k));
        })

  both_accepted : (kids : Nodes) → Components-fine kids × Component-fine kids
  unfolding components_verdict component_verdict read_components read_inner inside_of read_properties are_valid every is_good
  both_accepted no_nodes = (
    λ k l method any e g h. refl,
    λ n l counts c e g h. record { inner = refl; properties = refl; counted = end_counted n counts c e h; came = λ k. end_came n counts c e h },
  )
  both_accepted (literal p b more) =
      let r = both_accepted more in (
        λ k l method any e g h. r.0 k l method any e g (test_fine (is_space b) _ FRAME p h).1,
        λ n l counts c e g h.
            let i = r.1 n l counts c e g (test_fine (is_space b) _ FRAME p h).1 in
            record { inner = i.inner; properties = i.properties; counted = i.counted; came = i.came },
      )
  both_accepted (referred p bs more) = (λ k l method any e g h. refused_not FRAME p h, λ n l counts c e g h. refused_not FRAME p h)
  both_accepted (element p m x kids more) =
      let f = both_accepted kids in
      let r = both_accepted more in
      (λ k l method any e g h. subcomponent p m x kids more g f.1 r.0 k l method any e h, λ n l counts c e g h. child p m x kids more g f.0 r.1 n l counts c e h)

  -- ---- the root

  vcalendar_name : upper (ascii "vcalendar") ≡ ascii "VCALENDAR"
  unfolding octets_compute
  vcalendar_name = refl

  top : at_top (ascii "VCALENDAR") ≡ true
  unfolding octets_compute
  top = refl

  top_kept : is_kept_name (ascii "VCALENDAR") ≡ true
  unfolding lines_compute
  top_kept = refl

  pub record Calendars (any : Bool) (c : Components) : Type 0 where
    pub valid : are_valid ed levels at_top false c ≡ true
    pub there : (any or has_components c) ≡ true

  pub stream_accepted : (kids : Nodes) (any : Bool) (e : ℕ) → is_good kids ≡ true → stream_verdict ed kids any e ≡ fine → Calendars any (read_components kids)
  unfolding stream_verdict read_components read_inner are_valid is_good
  stream_accepted no_nodes any e g h = record { valid = refl; there = or_left _ _ (test_fine any fine FRAME e h).0 }
  stream_accepted (literal p b more) any e g h = stream_accepted more any e g (test_fine (is_space b) _ FRAME p h).1
  stream_accepted (referred p bs more) any e g h = refused_not FRAME p h
  stream_accepted (element p m x kids more) any e g h =
      let a = component_fine (same m (ascii "vcalendar")) _ p m h in
      let b = both_fine (component_verdict ed kids (ascii "VCALENDAR") (levels - 1) (is_complete (ascii "VCALENDAR") false kids) (nothing_come false) x) _ a.1 in
      let q = parts p m x kids more g in
      let i = (both_accepted kids).1 (ascii "VCALENDAR") (levels - 1) (is_complete (ascii "VCALENDAR") false kids) (nothing_come false) x q.1 b.0 in
      let r = stream_accepted more true e q.2 b.1 in
      let z : upper m ≡ ascii "VCALENDAR" = ap upper (same_true m (ascii "vcalendar") a.0) ∙ vcalendar_name in
      rw z (record { valid = component_within levels at_top false (ascii "VCALENDAR") kids more refl top_kept top i r.valid; there = or_right _ _ refl })
