-- Laws of what specs/ElementTypes.antt defines.
--     type_there, type_nowhere    its answers
--     firsts            the rules of a walk to the first child that is named as a type
--     number_of         the number of a name's row
--     of_geo, of_status, of_first    the type of a property's value
use Prim.{tt}
use Rattle.std.specs.Prelude.{◌≡◌, Bool, ℕ, zero, suc, ◌≤◌, ◌<◌, length, get_or, take, Option, None, Some, option_map}
use Rattle.std.proofs.Math.Path.{refl, sym, ap, subst}
use Rattle.std.proofs.Common.{◌∙◌, arith, take_all, length-take-le, rules}
use Rattle.std.proofs.Math.Bool.{true, false}
use Rattle.std.proofs.lemmas.Bool.{false≢true}
use mathlib.Core.List.{List, map}
use borrow.Author.Tests.{eq-eqb, ne_eqb}
use Rattle.std.proofs.Math.Logic.{◌⊎◌, inl, inr}
use Rattle.octets.specs.Ascii.{ascii}
use Rattle.octets.specs.Pick.{pick, ◌or◌}
use Rattle.octets.specs.Class.{upper, lower}
use Rattle.octets.specs.Words.{same, is_one_of}
use Rattle.octets.specs.laws.Words.{same_self, same_true}
use Rattle.octets.specs.Reading.{read_or}
use Rattle.octets.specs.Computing.{octets_compute}
use Rattle.source.specs.Source.{rest}
use Rattle.names.specs.Table.{place_of}
use Rattle.names.specs.laws.Known.{by_place, unknown_word}
use Rattle.calendar.specs.Calendar.{ValueType}
use Rattle.schema.specs.Types.{type_name, type_named, type_place}
use Rattle.schema.specs.laws.Types.{type_named_is, place_type}
use Rattle.schema.specs.Properties.{property_names, default_type}
use Rattle.schema.specs.Numbers.{type_at, type_words}
use Rattle.schema.specs.Coded.{row_at}
use Rattle.schema.specs.laws.Columns.{number_place, default_place}
use Rattle.schema.specs.laws.Places.{word_known, type_known}
use Rattle.schema.specs.laws.Sets.{geo_place, request_status_place}
use Rattle.schema.specs.Property as property
use Rattle.schema.specs.declared.table.Row.{Row}
use Rattle.xml.specs.Nodes.{Nodes}
use Rattle.xcal.proofs.laws.ElementNames.{lower-upper, no_capital}
use Rattle.xcal.specs.ValueNodes.{element_type, first_type, type_of_nodes}
use Rattle.xml.specs.NodesAt.{nodes_at}
use Rattle.read_xml_nodes.specs.HeadFound.{HeadAt, NodeEnded}
use Rattle.read_xml_nodes.specs.laws.HeadFound.{head_none, head_element, head_whole, head_literal, head_referred, head_less}
use Rattle.read_xml_nodes.specs.laws.Walks.{Passing, passing_start}
use Rattle.read_xml_nodes.specs.declared.Ended.{Ended}
use Rattle.read_xml_nodes.specs.declared.Head.{Head}
use Rattle.read_xml_nodes.specs.declared.NodeKind.TheVariants.{Absent, Element, Literal, Referred}
use Rattle.read_xml_value.specs.ElementTypes.{TypeNamed}

-- ---- the type of a name

unknown_known : is_one_of (ascii "unknown") type_words ≡ true
unfolding octets_compute
unknown_known = refl

-- a name that is none of these
no_type : (n : List ℕ) → length type_words ≤ place_of n type_words → element_type n ≡ None
unfolding element_type pick
no_type n h = rw (unknown_word n type_words (ascii "unknown") h unknown_known) (go (same n (lower n)) refl)
  where
    found : (o : Option ValueType) → type_named (upper n) ≡ o → n ≡ lower n → o ≡ None
    found None e q = refl
    found (Some t) e q =
        let back : lower (upper n) ≡ n = lower-upper n (rw q (no_capital n)) in
        let z : n ≡ lower (type_name t) = sym back ∙ ap lower (sym (type_named_is (upper n) t e)) in
        absurd (false≢true (sym (unknown_word n type_words n h (ap (λ (x : List ℕ). is_one_of x type_words) z ∙ word_known t)) ∙ same_self n))

    go : (b : Bool) → same n (lower n) ≡ b → pick b (type_named (upper n)) None ≡ None
    go true e = found (type_named (upper n)) refl (same_true n (lower n) e)
    go false e = refl

abbrev type_table : List (Option ValueType)
type_table = map element_type type_words

table_at : (t : ℕ) → t < 15 → get_or type_table t None ≡ Some (type_at t)
unfolding octets_compute element_type type_named
table_at zero h = refl
table_at (suc zero) h = refl
table_at (suc (suc zero)) h = refl
table_at (suc (suc (suc zero))) h = refl
table_at (suc (suc (suc (suc zero)))) h = refl
table_at (suc (suc (suc (suc (suc zero))))) h = refl
table_at (suc (suc (suc (suc (suc (suc zero)))))) h = refl
table_at (suc (suc (suc (suc (suc (suc (suc zero))))))) h = refl
table_at (suc (suc (suc (suc (suc (suc (suc (suc zero)))))))) h = refl
table_at (suc (suc (suc (suc (suc (suc (suc (suc (suc zero))))))))) h = refl
table_at (suc (suc (suc (suc (suc (suc (suc (suc (suc (suc zero)))))))))) h = refl
table_at (suc (suc (suc (suc (suc (suc (suc (suc (suc (suc (suc zero))))))))))) h = refl
table_at (suc (suc (suc (suc (suc (suc (suc (suc (suc (suc (suc (suc zero)))))))))))) h = refl
table_at (suc (suc (suc (suc (suc (suc (suc (suc (suc (suc (suc (suc (suc zero))))))))))))) h = refl
table_at (suc (suc (suc (suc (suc (suc (suc (suc (suc (suc (suc (suc (suc (suc zero)))))))))))))) h = refl
table_at (suc (suc (suc (suc (suc (suc (suc (suc (suc (suc (suc (suc (suc (suc (suc t))))))))))))))) h = absurd (omega arith)

by_word : (n : List ℕ) → element_type n ≡ get_or type_table (place_of n type_words) None
by_word n = by_place n element_type None type_words (no_type n)

-- ---- for code

module _ (n : List ℕ) {t : ℕ} (e : t ≡ place_of n type_words) where
  pub type_there : t < 15 → TypeNamed n (Some t)
  type_there h = record { is = by_word n ∙ ap (λ (k : ℕ). get_or type_table k None) (sym e) ∙ table_at t h; small = omega arith }

  pub type_nowhere : 15 ≤ t → TypeNamed n None
  type_nowhere h = record { is = no_type n (rw (← e) h); small = tt }

-- a name that is cut behind the end of the bytes
pub cut_whole : (ws : List (List ℕ)) (s : List ℕ) (a e : ℕ) {r : ℕ} → length s < e → r ≡ place_of (rest 0 s a) ws → r ≡ place_of (rest 0 (take e s) a) ws
cut_whole ws s a e h q = q ∙ ap (λ (x : List ℕ). place_of (rest 0 x a) ws) (sym (take_all e s (omega arith)))

pub ruleset naming = (type_there, type_nowhere, cut_whole, length-take-le, rules)

pub named_small : {n : List ℕ} {m : Option ℕ} → TypeNamed n m → {u : ℕ} → m ≡ Some u → u ≤ 14
named_small {n} d z = (subst (TypeNamed n) z d).small

-- ---- the first child that is named as a type

module _ (t : ValueType) {s : List ℕ} {from at : ℕ} {r : Head} (p : Passing (first_type t) s from at) (n : HeadAt s at r) where
  pub first_none : r.kind ≡ Absent → t ≡ first_type t (nodes_at s from)
  unfolding first_type
  first_none q = sym (p.is ∙ ap (first_type t) (head_none n q))

  pub first_character : (r.kind ≡ Literal) ⊎ (r.kind ≡ Referred) → Passing (first_type t) s from r.next
  unfolding first_type
  first_character (inl q) = record { is = p.is ∙ ap (first_type t) (head_literal n q) }
  first_character (inr q) = record { is = p.is ∙ ap (first_type t) (head_referred n q) }

  module _ (q : r.kind ≡ Element) {m : Option ℕ} (d : TypeNamed (rest 0 (take r.name_end s) r.name) m) where
    pub first_here : {u : ℕ} → m ≡ Some u → type_at u ≡ first_type t (nodes_at s from)
    unfolding first_type read_or
    first_here {u} z =
        let f : TypeNamed (rest 0 (take r.name_end s) r.name) (Some u) = subst (TypeNamed _) z d in
        sym (p.is ∙ ap (first_type t) (head_element n q) ∙ rw f.is)

    pub first_other : {e : Ended} → NodeEnded s at r.opens r.next e → m ≡ None → Passing (first_type t) s from e.next
    unfolding first_type read_or
    first_other y z =
        let f : TypeNamed (rest 0 (take r.name_end s) r.name) None = subst (TypeNamed _) z d in
        record { is = p.is ∙ ap (first_type t) (head_whole n q y) ∙ rw f.is }

pub ruleset firsts = (passing_start, first_none, first_character, first_here, first_other, named_small, head_less, rules)

-- ---- the type of a property's value

pub number_of : {row : Row} (w : List ℕ) → row ≡ row_at (place_of w property_names) → row.number ≡ place_of w property_names
number_of w e = ap (λ (r : Row). r.number) e ∙ number_place w

module _ (row : Row) (kids : Nodes) where
  -- the type of the number t is that of a name that has the row
  abbrev TypeFor : ℕ → Type 0
  TypeFor t = (w : List ℕ) → row ≡ row_at (place_of w property_names) → (type_at t ≡ type_of_nodes w kids) × (t ≤ 14)

  default_place_of : (w : List ℕ) → row ≡ row_at (place_of w property_names) → row.default ≡ type_place (default_type w)
  default_place_of w h = ap (λ (r : Row). r.default) h ∙ default_place w

  default_as : (w : List ℕ) → row ≡ row_at (place_of w property_names) → type_at row.default ≡ default_type w
  default_as w h = ap type_at (default_place_of w h) ∙ place_type (default_type w)

  default_known : (w : List ℕ) → row ≡ row_at (place_of w property_names) → row.default ≤ 14
  default_known w h = rw (default_place_of w h) (type_known (default_type w))

  pub of_geo : row.number ≡ property.GEO → TypeFor row.default
  unfolding type_of_nodes pick ◌or◌
  of_geo h = λ w y. (default_as w y ∙ rw (geo_place w, eq-eqb (place_of w property_names) property.GEO (sym (number_of w y) ∙ h)), default_known w y)

  pub of_status : row.number ≡ property.REQUEST-STATUS → TypeFor row.default
  unfolding type_of_nodes pick ◌or◌
  of_status h = λ w y. (
    default_as w y ∙ rw (request_status_place w, eq-eqb (place_of w property_names) property.REQUEST-STATUS (sym (number_of w y) ∙ h)) (own (same w (ascii "GEO")) w),
    default_known w y,
  )
    where
      own : (b : Bool) (w : List ℕ) → default_type w ≡ pick (b or true) (default_type w) (first_type (default_type w) kids)
      own true w = refl
      own false w = refl

  pub of_first : {r : ℕ} → (row.number ≡ property.GEO → ⊥) → (row.number ≡ property.REQUEST-STATUS → ⊥) →
      (type_at r ≡ first_type (type_at row.default) kids) × (row.default ≤ 14 → r ≤ 14) → TypeFor r
  unfolding type_of_nodes pick ◌or◌
  of_first g h q = λ w y. (
    q.0
        ∙ rw (geo_place w, ne_eqb (place_of w property_names) property.GEO (λ z. g (number_of w y ∙ z)), request_status_place w, ne_eqb (place_of w property_names) property.REQUEST-STATUS (λ z. h (number_of w y ∙ z)), default_as w y),
    q.1 (default_known w y),
  )
