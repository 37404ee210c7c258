-- Laws of what specs/Components.antt defines.
--     complete_is  the tallies that are kept are those of the component
--     ending       the rules of a component's end tag, and of that of `components`
--     choosing     the rules of its two children
--     meeting      the rules of what stands next before `components`
--     Heading      the invariant of the walk up to `components`;   heading: the rules
--     Following    the invariant of the walk behind it;   following: the rules
use Prim.{tt}
use Rattle.std.specs.Prelude.{◌≡◌, refl, Bool, false, not, List, ℕ, zero, suc, ◌-◌, ◌≤◌, ◌<◌, eqb, length, ⊤, None, Some, Result, Ok, Err}
use Rattle.std.proofs.Math.Path.{sym, ap}
use Rattle.std.proofs.Common.{subst, ◌∙◌, arith, length-take-le, rules}
use Rattle.std.proofs.Math.Bool.{true}
use Rattle.std.proofs.lemmas.Bool.{false≢true}
use borrow.Author.Tests.{eq-eqb, ne_eqb, le-leb}
use Rattle.octets.specs.Ascii.{ascii}
use Rattle.octets.specs.Pick.{pick, ◌and◌, ◌or◌}
use Rattle.octets.specs.Class.{is_space}
use Rattle.octets.specs.Words.{same, is_empty}
use Rattle.octets.specs.laws.Words.{same_true}
use Rattle.octets.specs.Computing.{octets_compute}
use Rattle.names.specs.Table.{place_of}
use Rattle.calendar.specs.Refusal.{FRAME, COUNT, Verdict, fine, refuse, ◌otherwise◌}
use Rattle.schema.specs.Components.{ComponentRow, component_names, subcomponents_of}
use Rattle.schema.specs.Counts.{method_for}
use Rattle.schema.specs.Numbers.{component_at}
use Rattle.schema.specs.laws.Numbers.{component_place}
use Rattle.schema.specs.laws.Sets.{calendar_place, timezone_place}
use Rattle.schema.specs.laws.Completing.{complete-tallies}
use Rattle.xml.specs.Nodes.{Nodes, has_element}
use Rattle.xcal.specs.Layout.{unexpected}
use Rattle.xcal.specs.PropertyNodes.{properties_verdict, read_properties}
use Rattle.xcal.specs.ComponentNodes.{inside_of, is_complete, end_of_component, end_of_components, component_verdict, components_verdict}
use Rattle.xml.specs.NodesAt.{nodes_at}
use Rattle.read_xml_nodes.specs.NodeFound.{NodeAt}
use Rattle.read_xml_nodes.specs.laws.NodeFound.{node_none, node_element, node_literal, node_referred, element_less, inside_less, literal_less}
use Rattle.refusals.specs.Fault.{fault_at, judged_as}
use Rattle.refusals.specs.declared.Refusal.TheVariants.{Frame, Count}
use Rattle.refusals.specs.declared.Fault.{Fault}
use Rattle.read_xml_nodes.specs.declared.Node.{Node}
use Rattle.read_xml_nodes.specs.declared.NodeKind.TheVariants.{Absent, Element, Literal, Referred}
use Rattle.edition.specs.declared.Edition.{Edition}
use Rattle.read_xml.specs.Children.{name_of}
use Rattle.read_xml.specs.laws.Turning.{name_inside}
use Rattle.tallies.specs.Counting.{Counted}
use Rattle.read_xml.specs.Properties.{ListedAt}
use Rattle.read_xml.specs.Components.{part_name, come, method_inside, complete_by, EndAt, EndsAt, has_subs, WhichIs, WhichAt, met_of, MetAt, HeadAt, BehindAt}
use Rattle.tallies.specs.declared.Kept.{Kept}
use Rattle.read_xml.specs.declared.Which.{Which}
use Rattle.read_xml.specs.declared.Which.TheVariants.{Properties, Components, Other}
use Rattle.read_xml.specs.declared.Met.{Met}
use Rattle.read_xml.specs.declared.Met.TheVariants.{End, Past, Properties as HasProperties, Components as HasComponents}

-- ---- end tags

-- the tallies that are kept are those of the component
pub complete_is : (c : List ℕ) {k : ℕ} → k ≡ place_of c component_names → (method : Bool) (kids : Nodes) {t : Kept} {inner : Bool} →
    Counted (read_properties (inside_of (ascii "properties") kids)) t → inner ≡ has_element (inside_of (ascii "components") kids) → is_complete c method kids ≡ complete_by k t inner method
complete_is c o method kids i h =
    sym (rw (i.tallied, i.acting, h, o) (complete-tallies c (read_properties (inside_of (ascii "properties") kids)) (record { inner = has_element (inside_of (ascii "components") kids); method = method })))

pub counts_good : (k : ℕ) (t : Kept) (inner method : Bool) (e : ℕ) {b : Bool} → b ≡ complete_by k t inner method → b ≡ true → pick (complete_by k t inner method) fine (refuse COUNT e) ≡ judged_as (Ok tt)
unfolding pick
counts_good k t inner method e f h = rw (← f, h)

pub counts_bad : (k : ℕ) (t : Kept) (inner method : Bool) (e : ℕ) {b : Bool} {v : Fault} → b ≡ complete_by k t inner method → b ≡ false → v ≡ fault_at Count e →
    pick (complete_by k t inner method) fine (refuse COUNT e) ≡ judged_as (Err v)
unfolding pick
counts_bad k t inner method e f h y = rw (← f, h, y)

module _ (k : ℕ) (t : Kept) (inner method : Bool) (e : ℕ) (had came : Bool) where
  end_at : (c : List ℕ) → k ≡ place_of c component_names → (counts m : Bool) →
      end_of_component c counts (come had came m) e ≡ pick (not had or (eqb k 0 and not came)) (refuse FRAME e) (pick counts fine (refuse COUNT e))
  unfolding end_of_component
  end_at c o counts m = rw (calendar_place c, ← o)

  pub end_bare : {v : Fault} → had ≡ false → v ≡ fault_at Frame e → EndAt k t had came inner method e (Err v)
  unfolding pick ◌or◌
  end_bare h y = rw y (record { is = λ c o counts g m. end_at c o counts m ∙ rw h })

  module _ (h : had ≡ true) where
    pub end_lacking : {v : Fault} → k ≡ 0 → came ≡ false → v ≡ fault_at Frame e → EndAt k t had came inner method e (Err v)
    unfolding pick ◌or◌ ◌and◌
    end_lacking z g y = rw y (record { is = λ c o counts f m. end_at c o counts m ∙ rw (h, eq-eqb k 0 z, g) })

    module _ {j : Result ⊤ Fault} (d : pick (complete_by k t inner method) fine (refuse COUNT e) ≡ judged_as j) where
      pub end_calendar : k ≡ 0 → came ≡ true → EndAt k t had came inner method e j
      unfolding pick ◌or◌ ◌and◌
      end_calendar z g = record { is = λ c o counts f m. end_at c o counts m ∙ rw (f h, h, eq-eqb k 0 z, g) d }

      pub end_other : (k ≡ 0 → ⊥) → EndAt k t had came inner method e j
      unfolding pick ◌or◌ ◌and◌
      end_other z = record { is = λ c o counts f m. end_at c o counts m ∙ rw (f h, h, ne_eqb k 0 z) d }

module _ (k e : ℕ) (any : Bool) where
  ends_at : (c : List ℕ) → k ≡ place_of c component_names → end_of_components c any e ≡ pick (any or eqb k 0 or eqb k 5) fine (refuse FRAME e)
  unfolding end_of_components
  ends_at c o = rw (calendar_place c, timezone_place c, ← o)

  pub ends_any : any ≡ true → EndsAt k any e (Ok tt)
  unfolding pick ◌or◌
  ends_any h = record { is = λ c o. ends_at c o ∙ rw h }

  pub ends_calendar : k ≡ 0 → EndsAt k any e (Ok tt)
  unfolding pick ◌or◌
  ends_calendar z = record { is = λ c o. ends_at c o ∙ rw (eq-eqb k 0 z) (go any) }
    where
      go : (a : Bool) → pick (a or true or eqb k 5) fine (refuse FRAME e) ≡ fine
      go true = refl
      go false = refl

  pub ends_timezone : k ≡ 5 → EndsAt k any e (Ok tt)
  unfolding pick ◌or◌
  ends_timezone z = record { is = λ c o. ends_at c o ∙ rw (eq-eqb k 5 z) (go any (eqb k 0)) }
    where
      go : (a b : Bool) → pick (a or b or true) fine (refuse FRAME e) ≡ fine
      go true b = refl
      go false true = refl
      go false false = refl

  pub ends_empty : {v : Fault} → any ≡ false → (k ≡ 0 → ⊥) → (k ≡ 5 → ⊥) → v ≡ fault_at Frame e → EndsAt k any e (Err v)
  unfolding pick ◌or◌
  ends_empty h y z u = rw u (record { is = λ c o. ends_at c o ∙ rw (h, ne_eqb k 0 y, ne_eqb k 5 z) })

-- ---- which components have subcomponents

subs_at : (k : ℕ) → not (is_empty (component_at k).subcomponents) ≡ has_subs k
unfolding octets_compute
subs_at zero = refl
subs_at (suc zero) = refl
subs_at (suc (suc zero)) = refl
subs_at (suc (suc (suc zero))) = refl
subs_at (suc (suc (suc (suc zero)))) = refl
subs_at (suc (suc (suc (suc (suc zero))))) = refl
subs_at (suc (suc (suc (suc (suc (suc zero)))))) = refl
subs_at (suc (suc (suc (suc (suc (suc (suc zero))))))) = refl
subs_at (suc (suc (suc (suc (suc (suc (suc (suc zero)))))))) = refl
subs_at (suc (suc (suc (suc (suc (suc (suc (suc (suc n))))))))) =
    let k : ℕ = suc (suc (suc (suc (suc (suc (suc (suc (suc n)))))))) in
    rw (ne_eqb k 0 (λ e. omega arith), ne_eqb k 1 (λ e. omega arith), ne_eqb k 2 (λ e. omega arith), ne_eqb k 5 (λ e. omega arith), le-leb 9 k (omega arith))

subs_place : (c : List ℕ) {k : ℕ} → k ≡ place_of c component_names → not (is_empty (subcomponents_of c)) ≡ has_subs k
subs_place c {k} o = ap (λ (r : ComponentRow). not (is_empty r.subcomponents)) (component_place c ∙ ap component_at (sym o)) ∙ subs_at k

-- ---- which child an element is

module _ (m : List ℕ) {b r : Bool} where
  pub part_properties : b ≡ true → r ≡ same m (ascii "properties") → r ≡ same m (part_name b)
  part_properties h e = rw h e

  pub part_components : b ≡ false → r ≡ same m (ascii "components") → r ≡ same m (part_name b)
  part_components h e = rw h e

-- no element is both
properties_only : (m : List ℕ) → same m (ascii "properties") ≡ true → same m (ascii "components") ≡ false
unfolding octets_compute
properties_only m h = ap (λ (w : List ℕ). same w (ascii "components")) (same_true m (ascii "properties") h)

module _ (k : ℕ) (m : List ℕ) {had b : Bool} (e : b ≡ same m (ascii "properties")) where
  pub which_again : b ≡ true → had ≡ true → WhichAt k had m Other
  unfolding ◌and◌
  which_again h g = record { is = (rw (← e, h, g), rw (properties_only m (sym e ∙ h))) }

  pub which_properties : b ≡ true → had ≡ false → WhichAt k had m Properties
  unfolding ◌and◌
  which_properties h g = record { is = rw (← e, h, g) }

  module _ (h : b ≡ false) {d : Bool} (f : d ≡ same m (ascii "components")) where
    pub which_other : d ≡ false → WhichAt k had m Other
    unfolding ◌and◌
    which_other g = record { is = (rw (← e, h), rw (← f, g)) }

    module _ (g : d ≡ true) {x : Bool} (y : x ≡ has_subs k) where
      pub which_components : x ≡ true → WhichAt k had m Components
      unfolding ◌and◌
      which_components z = record { is = (rw (← e, h), rw (← f, g, ← y, z)) }

      pub which_lone : x ≡ false → WhichAt k had m Other
      unfolding ◌and◌
      which_lone z = record { is = (rw (← e, h), rw (← f, g, ← y, z)) }

-- ---- what stands next before `components`

-- before `components` only `properties` counts as come
not_yet : (a d b g : Bool) (v w z : Verdict) → pick (a and (d and true)) v (pick (b and (true and g)) w z) ≡ pick (a and d) v (pick (b and g) w z)
unfolding pick ◌and◌
not_yet true true b g v w z = refl
not_yet true false true g v w z = refl
not_yet true false false g v w z = refl
not_yet false d true g v w z = refl
not_yet false d false g v w z = refl

first_of : (a b : Bool) → (a and b) ≡ true → a ≡ true
unfolding ◌and◌
first_of true b h = refl
first_of false b h = absurd (false≢true h)

second_not : (a had : Bool) → (a and not had) ≡ true → had ≡ false
unfolding ◌and◌
second_not true false h = refl
second_not true true h = absurd (false≢true h)
second_not false had h = absurd (false≢true h)

-- neither child may come behind `components`
none_behind : (a b d g : Bool) (v w z : Verdict) → pick (a and (d and false)) v (pick (b and (false and g)) w z) ≡ z
unfolding pick ◌and◌
none_behind true true true g v w z = refl
none_behind true true false g v w z = refl
none_behind true false true g v w z = refl
none_behind true false false g v w z = refl
none_behind false true d g v w z = refl
none_behind false false d g v w z = refl

module _ (ed : Edition) where
  -- ---- up to `components`

  pub record Heading (k : ℕ) (method : Bool) (s : List ℕ) (from e at : ℕ) (had : Bool) (t : Kept) : Type 0 where
    pub is : (c : List ℕ) → k ≡ place_of c component_names → (l : ℕ) (b : Bool) →
        component_verdict ed (nodes_at s from) c l b (come false false method) e ≡ component_verdict ed (nodes_at s at) c l b (come had false (method_inside c method had (nodes_at s from))) e
    pub low : length s - at ≤ length s - from
    pub inner : inside_of (ascii "components") (nodes_at s from) ≡ inside_of (ascii "components") (nodes_at s at)
    pub unread : had ≡ false → inside_of (ascii "properties") (nodes_at s from) ≡ inside_of (ascii "properties") (nodes_at s at)
    pub counted : had ≡ true → Counted (read_properties (inside_of (ascii "properties") (nodes_at s from))) t

-- ---- behind `components`

pub record Following (s : List ℕ) (from e at : ℕ) (had : Bool) : Type 0 where
  pub is : (ed : Edition) (c : List ℕ) (l : ℕ) (b m : Bool) → component_verdict ed (nodes_at s from) c l b (come had true m) e ≡ component_verdict ed (nodes_at s at) c l b (come had true m) e

module _ (k : ℕ) (had : Bool) {s : List ℕ} {at : ℕ} {r : Node} (n : NodeAt s at r) where
  as_nodes : (ed : Edition) {x : Nodes} → nodes_at s at ≡ x → (c : List ℕ) (l : ℕ) (b m : Bool) (e : ℕ) → component_verdict ed (nodes_at s at) c l b (come had false m) e ≡ component_verdict ed x c l b (come had false m) e
  as_nodes ed h c l b m e = ap (λ (y : Nodes). component_verdict ed y c l b (come had false m) e) h

  pub met_end : r.kind ≡ Absent → MetAt k had s at (Ok End)
  unfolding component_verdict inside_of
  met_end q = record { is = λ ed c o. as_nodes ed (node_none n q) c; fits = ap (inside_of (ascii "components")) (node_none n q) }

  pub met_referred : {v : Fault} → r.kind ≡ Referred → v ≡ fault_at Frame at → MetAt k had s at (Err v)
  unfolding component_verdict
  met_referred q y = rw y (record { is = λ ed c o l b m e. as_nodes ed (node_referred n q) c l b m e; fits = tt })

  module _ (q : r.kind ≡ Literal) {b : Bool} (f : b ≡ is_space r.unit) where
    pub met_space : b ≡ true → MetAt k had s at (Ok (Past r.next))
    unfolding component_verdict inside_of pick
    met_space h = record { is = λ ed c o l b m e. as_nodes ed (node_literal n q) c l b m e ∙ rw (← f, h); fits = (literal_less n q, λ m. ap (inside_of m) (node_literal n q)) }

    pub met_text : {v : Fault} → b ≡ false → v ≡ fault_at Frame at → MetAt k had s at (Err v)
    unfolding component_verdict pick
    met_text h y = rw y (record { is = λ ed c o l b m e. as_nodes ed (node_literal n q) c l b m e ∙ rw (← f, h); fits = tt })

  module _ (q : r.kind ≡ Element) {x : Which} (y : WhichAt k had (name_of s r) x) where
    at_child : (ed : Edition) (c : List ℕ) → k ≡ place_of c component_names → (l : ℕ) (b m : Bool) (e : ℕ) → component_verdict ed (nodes_at s at) c l b (come had false m) e ≡
        pick (same (name_of s r) (ascii "properties") and not had)
        (properties_verdict ed c (nodes_at s r.inside) otherwise component_verdict ed (nodes_at s r.next) c l b (come true false (method_for c (read_properties (nodes_at s r.inside)) m)) e)
        (pick (same (name_of s r) (ascii "components") and has_subs k)
        (components_verdict ed (nodes_at s r.inside) c l m false r.end otherwise component_verdict ed (nodes_at s r.next) c l b (come had true m) e)
        (unexpected at (name_of s r)))
    unfolding component_verdict
    at_child ed c o l b m e =
        as_nodes ed (node_element n q) c l b m e
        ∙ not_yet (same (name_of s r) (ascii "properties")) (not had) (same (name_of s r) (ascii "components")) (not (is_empty (subcomponents_of c))) _ _ _
        ∙ rw (subs_place c o)

    which_is : {v : Which} → x ≡ v → WhichIs (same (name_of s r) (ascii "properties") and not had) (same (name_of s r) (ascii "components") and has_subs k) v
    which_is z = subst (WhichIs (same (name_of s r) (ascii "properties") and not had) (same (name_of s r) (ascii "components") and has_subs k)) z y.is

    pub met_other : {v : Fault} → x ≡ Other → unexpected at (name_of s r) ≡ judged_as (Err v) → MetAt k had s at (Err v)
    unfolding pick
    met_other z u = record { is = λ ed c o l b m e. at_child ed c o l b m e ∙ rw ((which_is z).0, (which_is z).1) u; fits = tt }

    pub met_components : x ≡ Components → MetAt k had s at (Ok (HasComponents r.inside r.end r.next))
    unfolding pick inside_of
    met_components z = record {
      is = λ ed c o l b m e. at_child ed c o l b m e ∙ rw ((which_is z).0, (which_is z).1);
      fits = (inside_less n q, ap (inside_of (ascii "components")) (node_element n q) ∙ rw (first_of (same (name_of s r) (ascii "components")) (has_subs k) (which_is z).1));
    }

    pub met_properties : x ≡ Properties → MetAt k had s at (Ok (HasProperties r.inside r.next))
    unfolding pick inside_of
    met_properties z =
        let first : same (name_of s r) (ascii "properties") ≡ true = first_of (same (name_of s r) (ascii "properties")) (not had) (which_is z) in record {
          is = λ ed c o l b m e. at_child ed c o l b m e ∙ rw (which_is z);
          fits = (
            element_less n q,
            second_not (same (name_of s r) (ascii "properties")) had (which_is z),
            ap (inside_of (ascii "properties")) (node_element n q) ∙ rw first,
            ap (inside_of (ascii "components")) (node_element n q) ∙ rw (properties_only (name_of s r) first),
          );
        }

module _ (ed : Edition) where
  pub head_start : (k : ℕ) (method : Bool) (s : List ℕ) (from e : ℕ) (t : Kept) → Heading ed k method s from e from false t
  unfolding pick
  head_start k method s from e t = record { is = λ c o l b. refl; low = omega arith; inner = refl; unread = λ h. refl; counted = λ h. absurd (false≢true h) }

  module _ {k : ℕ} {method : Bool} {s : List ℕ} {from e at : ℕ} {had : Bool} {t : Kept} (i : Heading ed k method s from e at had t) {x : Result Met Fault} (y : MetAt k had s at x) where
    met_is : {v : Result Met Fault} → x ≡ v → MetAt k had s at v
    met_is z = subst (MetAt k had s at) z y

    as_met : {v : Result Met Fault} → x ≡ v → (c : List ℕ) → k ≡ place_of c component_names → (l : ℕ) (b : Bool) →
        component_verdict ed (nodes_at s from) c l b (come false false method) e ≡ met_of ed c l b had (method_inside c method had (nodes_at s from)) s e v
    as_met z c o l b = i.is c o l b ∙ (met_is z).is ed c o l b (method_inside c method had (nodes_at s from)) e

    pub head_stops : {v : Fault} → x ≡ Err v → HeadAt ed k method s from e (Err v)
    head_stops z = record { is = λ c o l. as_met z c o l (is_complete c method (nodes_at s from)); fits = tt }

    module _ (z : x ≡ Ok End) (j : Result ⊤ Fault) (d : EndAt k t had false false method e j) where
      end_is : (c : List ℕ) → k ≡ place_of c component_names → (l : ℕ) (v : Verdict) → judged_as j ≡ v → component_verdict ed (nodes_at s from) c l (is_complete c method (nodes_at s from)) (come false false method) e ≡ v
      unfolding has_element
      end_is c o l v u =
          as_met z c o l (is_complete c method (nodes_at s from))
          ∙ d.is c o (is_complete c method (nodes_at s from)) (λ h. complete_is c o method (nodes_at s from) (i.counted h) (sym (ap has_element (i.inner ∙ (met_is z).fits))))
          (method_inside c method had (nodes_at s from))
          ∙ u

      pub head_end : {u : ⊤} → j ≡ Ok u → HeadAt ed k method s from e (Ok None)
      head_end g = record { is = λ c o l. end_is c o l _ (rw g); fits = tt }

      pub head_short : {v : Fault} → j ≡ Err v → HeadAt ed k method s from e (Err v)
      head_short g = record { is = λ c o l. end_is c o l _ (rw g); fits = tt }

    pub head_opens : {q z d : ℕ} → x ≡ Ok (HasComponents q z d) → HeadAt ed k method s from e (Ok (Some (record { inside = q; end = z; next = d; had = had; kept = t })))
    head_opens z = record {
      is = λ c o l. as_met z c o l (is_complete c method (nodes_at s from));
      fits = (omega (arith, i.low, (met_is z).fits.0), i.inner ∙ (met_is z).fits.1, i.counted);
    }

    module _ {d : ℕ} (z : x ≡ Ok (Past d)) where
      pub head_less : length s - d < length s - at
      head_less = (met_is z).fits.0

      pub head_past : Heading ed k method s from e d had t
      head_past = record {
        is = as_met z;
        low = omega (arith, i.low, head_less);
        inner = i.inner ∙ (met_is z).fits.1 (ascii "components");
        unread = λ g. i.unread g ∙ (met_is z).fits.1 (ascii "properties");
        counted = i.counted;
      }

    module _ {q d : ℕ} (z : x ≡ Ok (HasProperties q d)) where
      pub listed_less : length s - d < length s - at
      listed_less = (met_is z).fits.0

      -- the first `properties`
      first : inside_of (ascii "properties") (nodes_at s from) ≡ nodes_at s q
      first = i.unread (met_is z).fits.1 ∙ (met_is z).fits.2

      module _ {l : Result Kept Fault} (g : ListedAt ed k s q l) where
        pub head_good : {a : Kept} → l ≡ Ok a → Heading ed k method s from e d true a
        unfolding ◌otherwise◌ pick
        head_good {a} h =
            let f : ListedAt ed k s q (Ok a) = subst (ListedAt ed k s q) h g in record {
              is = λ c o l b. as_met z c o l b ∙ rw (f.is c o, (met_is z).fits.1, first);
              low = omega (arith, i.low, listed_less);
              inner = i.inner ∙ (met_is z).fits.3;
              unread = λ u. absurd (false≢true (sym u));
              counted = λ u. rw first f.counted;
            }

        pub head_bad : {v : Fault} → l ≡ Err v → HeadAt ed k method s from e (Err v)
        unfolding ◌otherwise◌
        head_bad h = record { is = λ c o l. as_met z c o l (is_complete c method (nodes_at s from)) ∙ rw (g.is c o, h); fits = tt }

pub follow_start : (s : List ℕ) (from e : ℕ) (had : Bool) → Following s from e from had
follow_start s from e had = record { is = λ ed c l b m. refl }

module _ (k : ℕ) (t : Kept) (inner method : Bool) {s : List ℕ} {from e at : ℕ} {had : Bool} {r : Node} (i : Following s from e at had) (n : NodeAt s at r) where
  on_nodes : (ed : Edition) {x : Nodes} → nodes_at s at ≡ x → (c : List ℕ) (l : ℕ) (b m : Bool) → component_verdict ed (nodes_at s from) c l b (come had true m) e ≡ component_verdict ed x c l b (come had true m) e
  on_nodes ed h c l b m = i.is ed c l b m ∙ ap (λ (y : Nodes). component_verdict ed y c l b (come had true m) e) h

  pub follow_none : {j : Result ⊤ Fault} → r.kind ≡ Absent → EndAt k t had true inner method e j → BehindAt k t had inner method s from e j
  unfolding component_verdict
  follow_none q d = record { is = λ ed c o l b g m. on_nodes ed (node_none n q) c l b m ∙ d.is c o b g m }

  pub follow_referred : {v : Fault} → r.kind ≡ Referred → v ≡ fault_at Frame at → BehindAt k t had inner method s from e (Err v)
  unfolding component_verdict
  follow_referred q y = rw y (record { is = λ ed c o l b g m. on_nodes ed (node_referred n q) c l b m })

  module _ (q : r.kind ≡ Literal) {b : Bool} (f : b ≡ is_space r.unit) where
    pub follow_text : {v : Fault} → b ≡ false → v ≡ fault_at Frame at → BehindAt k t had inner method s from e (Err v)
    unfolding component_verdict pick
    follow_text h y = rw y (record { is = λ ed c o l b g m. on_nodes ed (node_literal n q) c l b m ∙ rw (← f, h) })

  pub follow_element : {j : Result ⊤ Fault} → r.kind ≡ Element → unexpected at (name_of s r) ≡ judged_as j → BehindAt k t had inner method s from e j
  unfolding component_verdict
  follow_element q u = record {
    is = λ ed c o l b g m. on_nodes ed (node_element n q) c l b m ∙ none_behind (same (name_of s r) (ascii "properties")) (same (name_of s r) (ascii "components")) (not had) (not (is_empty (subcomponents_of c))) _ _ _ ∙ u;
  }

pub follow_space : {s : List ℕ} {from e at : ℕ} {had : Bool} {r : Node} → Following s from e at had → NodeAt s at r → r.kind ≡ Literal → {b : Bool} → b ≡ is_space r.unit → b ≡ true → Following s from e r.next had
unfolding component_verdict pick
follow_space {s} {from} {e} {at} {had} i n q f h = record { is = λ ed c l b m. i.is ed c l b m ∙ ap (λ (y : Nodes). component_verdict ed y c l b (come had true m) e) (node_literal n q) ∙ rw (← f, h) }

pub ruleset ending = (counts_good, counts_bad, end_bare, end_lacking, end_calendar, end_other, ends_any, ends_calendar, ends_timezone, ends_empty, rules)

pub ruleset parting = (part_properties, part_components, length-take-le, rules)

pub ruleset choosing = (which_again, which_properties, which_other, which_components, which_lone, rules)

pub ruleset meeting = (met_end, met_referred, met_space, met_text, met_other, met_components, met_properties, name_inside, rules)

pub ruleset heading = (head_start, head_end, head_short, head_stops, head_opens, head_less, head_past, listed_less, head_good, head_bad, rules)

pub ruleset following = (follow_start, follow_none, follow_referred, follow_space, follow_text, follow_element, literal_less, rules)
