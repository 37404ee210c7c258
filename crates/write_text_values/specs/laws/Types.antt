-- The type of a property's values, by its number.
--     type_..          the ways of `type_of_value` and `type_of_typed`
use Rattle.std.specs.Prelude.{◌≡◌, refl, Bool, List, ℕ, ◌*◌, ◌≤◌, Option, None, Some}
use Rattle.std.proofs.Common.{sym, ap, ◌∙◌, arith}
use Rattle.octets.specs.Ascii.{ascii}
use Rattle.octets.specs.Reading.{is_read}
use Rattle.calendar.specs.Calendar.{xcal, PERIOD, type_of}
use Rattle.source.specs.Source.{rest}
use Rattle.schema.specs.Numbers.{type_at}
use Rattle.values.specs.ReadValue.{read_value}
use Rattle.values.specs.WriteValue.{type_of_all}
use Rattle.values.specs.ValueAt.{value_read}
use Rattle.values.specs.laws.ValueAt.{good_yes, good_no}
use Rattle.xml.specs.Nodes.{Nodes, characters_of}
use Rattle.xcal.specs.ValueNodes.{child_named, period_of, value_of, typed_values}
use Rattle.xml.specs.NodesAt.{nodes_at}
use Rattle.read_xml_nodes.specs.laws.Characters.{characters_at}
use Rattle.write_text_pieces.specs.laws.Reading.{type_of_read, type_unread}
use Rattle.write_text_values.specs.Typed.{values_from, TypedAt}
use Rattle.write_text_values.specs.laws.Typed.{value_period, value_recur, value_leaf}
use Rattle.write_text_values.specs.declared.typed.Typed.{Typed}

period_typed : (x : Option (List ℕ)) (kids : Nodes) → type_of (period_of x kids) ≡ PERIOD
period_typed None kids = refl
period_typed (Some s) kids = refl

-- ---- the ways of the code

module _ (t : ℕ) (s : List ℕ) (i : ℕ) (h : t ≤ 14) where
  pub type_is_period : t ≡ 8 → (type_at 8 ≡ type_of (value_of (type_at t) (nodes_at s i))) × (8 ≤ 14)
  type_is_period e = (sym (ap type_of (value_period t (nodes_at s i) h e) ∙ period_typed (child_named (ascii "duration") (nodes_at s i)) (nodes_at s i)), omega arith)

  module _ (n : t ≡ 8 → ⊥) where
    pub type_is_recur : t ≡ 9 → (type_at 9 ≡ type_of (value_of (type_at t) (nodes_at s i))) × (9 ≤ 14)
    type_is_recur e = (sym (ap type_of (value_recur t (nodes_at s i) h n e)), omega arith)

    module _ (m : t ≡ 9 → ⊥) {v : Option ℕ} (q : v ≡ value_read t (is_read (read_value xcal (type_at t) (rest 1 s (2 * i))))) where
      leaf : {b : Bool} → b ≡ is_read (read_value xcal (type_at t) (rest 1 s (2 * i))) → is_read (read_value xcal (type_at t) (characters_of (nodes_at s i))) ≡ b
      leaf e = sym (e ∙ ap (λ (l : List ℕ). is_read (read_value xcal (type_at t) l)) (characters_at s i))

      pub type_is_read : {u : ℕ} → v ≡ Some u → (type_at t ≡ type_of (value_of (type_at t) (nodes_at s i))) × (t ≤ 14)
      type_is_read e = (sym (ap type_of (value_leaf t (nodes_at s i) h n m) ∙ type_of_read (type_at t) (characters_of (nodes_at s i)) (leaf (good_yes t q e))), h)

      pub type_is_text : v ≡ None → (type_at 10 ≡ type_of (value_of (type_at t) (nodes_at s i))) × (10 ≤ 14)
      type_is_text e = (sym (ap type_of (value_leaf t (nodes_at s i) h n m) ∙ type_unread (read_value xcal (type_at t) (characters_of (nodes_at s i))) (leaf (good_no t q e))), omega arith)

module _ {s : List ℕ} {at : ℕ} {r : Option Typed} (f : TypedAt s at r) where
  pub type_of_first : {v : Typed} {n : ℕ} → r ≡ Some v → (type_at n ≡ type_of (value_of (type_at v.value_type) (nodes_at s v.inside))) × (n ≤ 14) → (type_at n ≡ type_of_all (typed_values (nodes_at s at))) × (n ≤ 14)
  type_of_first h p = (p.0 ∙ sym (ap type_of_all (f.is ∙ ap (values_from s) h)), p.1)

  pub type_of_none : r ≡ None → (type_at 14 ≡ type_of_all (typed_values (nodes_at s at))) × (14 ≤ 14)
  type_of_none h = (sym (ap type_of_all (f.is ∙ ap (values_from s) h)), omega arith)
