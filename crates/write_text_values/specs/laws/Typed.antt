-- Laws of what specs/Typed.antt defines.
--     `search typings`
--     put_..          the ways of `put_value`
--     Valuing         the invariant of the loop over the values
--     type_..         the type of a value
use Prim.{tt}
use Rattle.std.specs.Prelude.{◌≡◌, refl, Bool, true, false, ℕ, ◌-◌, ◌*◌, ◌^◌, ◌≤◌, ◌<◌, eqb, length, take, Option, None, Some, IfSome}
use Rattle.std.proofs.Math.Path.{ap}
use Rattle.std.proofs.Common.{subst, ◌∙◌, arith, rules}
use mathlib.Core.List.{List, [], ◌∷◌, map}
use borrow.Author.Tests.{eq-eqb, ne_eqb}
use Rattle.octets.specs.Ascii.{ascii}
use Rattle.octets.specs.Pick.{pick}
use Rattle.octets.specs.Append.{◌⊕◌}
use Rattle.octets.specs.Words.{joined_by}
use Rattle.octets.specs.Reading.{read_or}
use Rattle.calendar.specs.Calendar.{xcal, PERIOD, RECUR, Value, text, recur}
use Rattle.sink.specs.Sink.{Put, Todo}
use Rattle.sink.specs.laws.Sink.{put_length, todo_all, todo_step, todo_done}
use Rattle.source.specs.Source.{rest}
use Rattle.schema.specs.Types.{same_type}
use Rattle.schema.specs.Numbers.{type_at}
use Rattle.schema.specs.laws.Places.{type_back}
use Rattle.recur.specs.Parts.{part_names}
use Rattle.recur.specs.Rule.{write_rule}
use Rattle.values.specs.ReadValue.{read_value}
use Rattle.values.specs.WriteValue.{write_value, write_values}
use Rattle.xml.specs.Nodes.{Nodes, characters_of}
use Rattle.xcal.specs.ValueNodes.{child_named, period_of, parts_of, value_of, typed_values}
use Rattle.xml.specs.NodesAt.{nodes_at}
use Rattle.read_xml_nodes.specs.HeadFound.{HeadAt, NodeEnded}
use Rattle.read_xml_nodes.specs.laws.HeadFound.{head_none, head_element, head_whole, head_onward, end_onward, head_literal, head_literal_onward, head_referred, head_referred_onward, head_less}
use Rattle.read_xml_nodes.specs.declared.Ended.{Ended}
use Rattle.read_xml_nodes.specs.declared.Head.{Head}
use Rattle.read_xml_nodes.specs.declared.NodeKind.TheVariants.{Absent, Element, Literal, Referred}
use Rattle.read_xml_value.specs.ElementTypes.{TypeNamed}
use Rattle.read_xml_nodes.specs.laws.Walks.{Skips}
use Rattle.write_text_values.specs.laws.Walking.{Seeking, seek_start, seek_at, seek_past, seek_literal, seek_referred}
use Rattle.write_text_values.specs.laws.Children.{put_chars}
use Rattle.write_text_pieces.specs.Leaves.{value_text}
use Rattle.write_text_pieces.specs.laws.Leaves.{value_or}
use Rattle.write_text_pieces.specs.laws.Joining.{following, following_first, following_none, following_more}
use Rattle.write_text_values.specs.Typed.{values_from, Within, TypedAt}
use Rattle.write_text_values.specs.declared.typed.Typed.{Typed}

-- ---- the walk to a value

typed_skips : Skips typed_values
unfolding typed_values
typed_skips = record { over_literal = λ p b m. refl; over_referred = λ p bs m. refl }

pub typed_start : (s : List ℕ) (from : ℕ) → Seeking typed_values s from from
typed_start s from = seek_start typed_values s from

module _ {s : List ℕ} {from at : ℕ} {r : Head} (w : Seeking typed_values s from at) (d : HeadAt s at r) where
  pub typed_none : r.kind ≡ Absent → TypedAt s from None
  unfolding typed_values
  typed_none q = record { is = seek_at w (head_none d q); within = tt }

  module _ {m : Option ℕ} (q : r.kind ≡ Element) (e : TypeNamed (rest 0 (take r.name_end s) r.name) m) where
    pub typed_here : {t : ℕ} → m ≡ Some t → TypedAt s from (Some (record { value_type = t; inside = r.inside; opens = r.opens; next = r.next }))
    unfolding typed_values
    typed_here {t} h = record {
      is = seek_at w (head_element d q) ∙ rw (e.is, h);
      within = record { known = subst (λ (o : Option ℕ). IfSome o (λ u. u ≤ 14)) h e.small; inside = d.inside_within; next = d.next_within; onward = omega (arith, w.onward, head_onward d q) };
    }

    pub typed_other : {x : Ended} → NodeEnded s at r.opens r.next x → m ≡ None → Seeking typed_values s from x.next
    unfolding typed_values
    typed_other y h = seek_past w (head_whole d q y) (rw (e.is, h)) (end_onward d q y)

  pub typed_literal : r.kind ≡ Literal → Seeking typed_values s from r.next
  typed_literal q = seek_literal w typed_skips (head_literal d q) (head_literal_onward d q)

  pub typed_referred : r.kind ≡ Referred → Seeking typed_values s from r.next
  typed_referred q = seek_referred w typed_skips (head_referred d q) (head_referred_onward d q)

pub ruleset typings = (typed_start, typed_none, typed_here, typed_other, typed_literal, typed_referred, head_less, rules)

module _ {s : List ℕ} {at : ℕ} {r : Option Typed} (f : TypedAt s at r) {v : Typed} (h : r ≡ Some v) where
  pub typed_within : Within s at v
  typed_within = subst (λ (o : Option Typed). IfSome o (Within s at)) h f.within

  pub typed_less : {y : Ended} → NodeEnded s at v.opens v.next y → length s - y.next < length s - at
  typed_less d = let b = typed_within.onward in omega (arith, b, d.onward, d.within)

-- ---- PERIOD and RECUR by their numbers

pub type_period : (t : ℕ) → t ≤ 14 → same_type (type_at t) PERIOD ≡ eqb t 8
unfolding same_type
type_period t h = rw (type_back t h)

pub type_recur : (t : ℕ) → t ≤ 14 → same_type (type_at t) RECUR ≡ eqb t 9
unfolding same_type
type_recur t h = rw (type_back t h)

-- a value by the number of its type
abbrev pub period_from : Nodes → Value
period_from kids = period_of (child_named (ascii "duration") kids) kids

abbrev pub leaf_of : ℕ → Nodes → Value
leaf_of t kids = read_or (text []) (read_value xcal (type_at t) (characters_of kids))

pub value_at_lem : (t : ℕ) (kids : Nodes) → t ≤ 14 → value_of (type_at t) kids ≡ pick (eqb t 8) (period_from kids) (pick (eqb t 9) (recur (parts_of part_names kids)) (leaf_of t kids))
unfolding value_of
value_at_lem t kids h = rw (type_period t h, type_recur t h)

module _ (t : ℕ) (kids : Nodes) (h : t ≤ 14) where
  pub value_period : t ≡ 8 → value_of (type_at t) kids ≡ period_from kids
  unfolding pick
  value_period e = value_at_lem t kids h ∙ rw (eq-eqb t 8 e)

  module _ (n : t ≡ 8 → ⊥) where
    pub value_recur : t ≡ 9 → value_of (type_at t) kids ≡ recur (parts_of part_names kids)
    unfolding pick
    value_recur e = value_at_lem t kids h ∙ rw (ne_eqb t 8 n, eq-eqb t 9 e)

    pub value_leaf : (t ≡ 9 → ⊥) → value_of (type_at t) kids ≡ leaf_of t kids
    unfolding pick
    value_leaf m = value_at_lem t kids h ∙ rw (ne_eqb t 8 n, ne_eqb t 9 m)

-- ---- a value written

module _ {d e : List ℕ} {o r : ℕ} (t : ℕ) (s : List ℕ) (i : ℕ) (h : t ≤ 14) where
  pub put_period : t ≡ 8 → Put d e o r (write_value (period_from (nodes_at s i))) → Put d e o r (write_value (value_of (type_at t) (nodes_at s i)))
  put_period q p = rw (value_period t (nodes_at s i) h q) p

  module _ (n : t ≡ 8 → ⊥) where
    pub put_recur : t ≡ 9 → Put d e o r (write_rule (parts_of part_names (nodes_at s i))) → Put d e o r (write_value (value_of (type_at t) (nodes_at s i)))
    unfolding write_value
    put_recur q p = rw (value_recur t (nodes_at s i) h n q) p

    pub put_chars_of : (t ≡ 9 → ⊥) → Put d e o r (value_text (read_value xcal (type_at t) (rest 1 s (2 * i)))) → Put d e o r (write_value (value_of (type_at t) (nodes_at s i)))
    put_chars_of q p =
        rw (value_leaf t (nodes_at s i) h n q) (subst (Put d e o r) (value_or (read_value xcal (type_at t) (characters_of (nodes_at s i)))) (put_chars (λ l. value_text (read_value xcal (type_at t) l)) s i p))

-- ---- the loop over the values

abbrev pub texts_of : List ℕ → ℕ → List (List ℕ)
texts_of s at = map write_value (typed_values (nodes_at s at))

pub record Valuing (s : List ℕ) (from : ℕ) (d₀ : List ℕ) (o₀ : ℕ) (d : List ℕ) (o c : ℕ) (started : Bool) : Type 0 where
  pub todo : Todo d₀ o₀ (write_values (typed_values (nodes_at s from))) d o (following started 44 (texts_of s c))
  pub kept : length d ≡ length d₀

pub values_start : (s : List ℕ) (from : ℕ) (d : List ℕ) (o : ℕ) → length d * 1 < 2 ^ 63 → Valuing s from d o d o from false
unfolding write_values
values_start s from d o z = record { todo = rw (following_first 44 (texts_of s from)) (todo_all d o (joined_by 44 (texts_of s from)) z); kept = refl }

module _ {s : List ℕ} {from : ℕ} {d₀ : List ℕ} {o₀ : ℕ} {d : List ℕ} {o c : ℕ} {b : Bool} {r : Option Typed} (v : Valuing s from d₀ o₀ d o c b) (f : TypedAt s c r) where
  pub values_more : {u : Typed} {y : Ended} {d' : List ℕ} {q : ℕ} → r ≡ Some u → NodeEnded s c u.opens u.next y → Put d d' o q (pick b (44 ∷ []) [] ⊕ write_value (value_of (type_at u.value_type) (nodes_at s u.inside))) → Valuing s from d₀ o₀ d' q y.next true
  unfolding ◌⊕◌
  values_more {u} {y = y} h n w = record {
    todo = todo_step v.todo w (ap (λ (l : List Value). following b 44 (map write_value l)) (f.is ∙ ap (values_from s) h ∙ ap (λ (ns : Nodes). value_of (type_at u.value_type) (nodes_at s u.inside) ∷ typed_values ns) n.after) ∙ following_more b 44 (write_value (value_of (type_at u.value_type) (nodes_at s u.inside))) (texts_of s y.next));
    kept = put_length w ∙ v.kept;
  }

  pub values_end : r ≡ None → Put d₀ d o₀ o (write_values (typed_values (nodes_at s from)))
  values_end h = todo_done v.todo (ap (λ (l : List Value). following b 44 (map write_value l)) (f.is ∙ ap (values_from s) h) ∙ following_none b 44)
