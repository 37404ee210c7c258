-- Laws of what specs/PutRule.antt defines.
--     Itemizing       the invariant of the loop over the items of a part
--     Parting         that of the loop over the parts
use Rattle.std.specs.Prelude.{◌≡◌, refl, Bool, true, false, ℕ, ◌+◌, ◌-◌, ◌*◌, ◌^◌, ◌≤◌, ◌<◌, length, take, drop, Option, None, Some, IfSome}
use Rattle.std.proofs.Math.Path.{ap, subst}
use Rattle.std.proofs.Common.{◌∙◌, arith, add-one, drop_of_length-le, drop-cons}
use mathlib.Core.List.{List, [], ◌∷◌, map}
use Rattle.octets.specs.Ascii.{ascii}
use Rattle.octets.specs.Pick.{pick}
use Rattle.octets.specs.Append.{◌⊕◌}
use Rattle.octets.specs.Class.{upper}
use Rattle.octets.specs.Words.{joined_by}
use Rattle.octets.specs.Reading.{read_or, or_nothing}
use Rattle.calendar.specs.Calendar.{ical, xcal, RuleItem, word, RulePart}
use Rattle.sink.specs.Sink.{Put, Todo}
use Rattle.sink.specs.laws.Sink.{put_length, todo_all, todo_step, todo_done}
use Rattle.source.specs.Source.{rest}
use Rattle.recur.specs.Parts.{part_names}
use Rattle.recur.specs.Item.{read_item, write_item}
use Rattle.recur.specs.Rule.{write_part, write_rule}
use Rattle.xml.specs.Nodes.{Nodes, characters_of}
use Rattle.xcal.specs.ValueNodes.{items_of, one_part, parts_of}
use Rattle.xml.specs.NodesAt.{nodes_at}
use Rattle.write_text_values.specs.laws.Children.{put_chars}
use Rattle.write_text_pieces.specs.laws.Joining.{following, following_first, following_none, following_more}
use Rattle.write_text_values.specs.Rules.{part_name, item_at, items_from, Within, ItemAt}
use Rattle.write_text_values.specs.laws.Rules.{part_capitals}
use Rattle.write_text_values.specs.PutRule.{item_text}
use Rattle.write_text_values.specs.declared.rule.Item.{Item}

-- ---- one item

item_text_lem : (o : Option RuleItem) → or_nothing (write_item ical) o ≡ write_item ical (read_or (word []) o)
unfolding read_or
item_text_lem None = refl
item_text_lem (Some i) = refl

pub put_item_text : {d e : List ℕ} {o r : ℕ} (p : ℕ) (s : List ℕ) (i : ℕ) → Put d e o r (or_nothing (write_item ical) (read_item xcal (part_name p) (rest 1 s (2 * i)))) → Put d e o r (item_text p s i)
put_item_text {d} {e} {o} {r} p s i w =
    subst (Put d e o r) (item_text_lem (read_item xcal (part_name p) (characters_of (nodes_at s i)))) (put_chars (λ l. or_nothing (write_item ical) (read_item xcal (part_name p) l)) s i w)

-- ---- bounds of an item that was found

module _ {p : ℕ} {s : List ℕ} {at : ℕ} {r : Option Item} (f : ItemAt p s at r) {i : Item} (h : r ≡ Some i) where
  pub item_within : Within p s at i
  item_within = subst (λ (o : Option Item). IfSome o (Within p s at)) h f.within

  pub item_less : length s - i.next < length s - at
  item_less = omega (arith, item_within.next, item_within.onward)

-- ---- the items of a part

abbrev pub texts_of : ℕ → List ℕ → ℕ → List (List ℕ)
texts_of p s at = map (write_item ical) (items_of (part_name p) (nodes_at s at))

pub record Itemizing (p : ℕ) (s : List ℕ) (from : ℕ) (d₀ : List ℕ) (o₀ : ℕ) (d : List ℕ) (o c : ℕ) (started : Bool) : Type 0 where
  pub todo : Todo d₀ o₀ (joined_by 44 (texts_of p s from)) d o (following started 44 (texts_of p s c))
  pub kept : length d ≡ length d₀

pub items_start : (p : ℕ) (s : List ℕ) (from : ℕ) (d : List ℕ) (o : ℕ) → length d * 1 < 2 ^ 63 → Itemizing p s from d o d o from false
items_start p s from d o z = record { todo = rw (following_first 44 (texts_of p s from)) (todo_all d o (joined_by 44 (texts_of p s from)) z); kept = refl }

module _ {p : ℕ} {s : List ℕ} {from : ℕ} {d₀ : List ℕ} {o₀ : ℕ} {d : List ℕ} {o c : ℕ} {b : Bool} {r : Option Item} (t : Itemizing p s from d₀ o₀ d o c b) (f : ItemAt p s c r) where
  pub items_more : {i : Item} {d' : List ℕ} {q : ℕ} → r ≡ Some i → Put d d' o q (pick b (44 ∷ []) [] ⊕ item_text p s i.inside) → Itemizing p s from d₀ o₀ d' q i.next true
  unfolding ◌⊕◌
  items_more {i} h w = record {
    todo = todo_step t.todo w (ap (λ (l : List RuleItem). following b 44 (map (write_item ical) l)) (f.is ∙ ap (items_from p s) h) ∙ following_more b 44 (item_text p s i.inside) (texts_of p s i.next));
    kept = put_length w ∙ t.kept;
  }

  pub items_end : r ≡ None → Put d₀ d o₀ o (joined_by 44 (texts_of p s from))
  items_end h = todo_done t.todo (ap (λ (l : List RuleItem). following b 44 (map (write_item ical) l)) (f.is ∙ ap (items_from p s) h) ∙ following_none b 44)

-- ---- the parts

abbrev pub parts_text : ℕ → Nodes → List (List ℕ)
parts_text p kids = map write_part (parts_of (drop p part_names) kids)

parts_next : (p : ℕ) (kids : Nodes) → p < 14 → parts_of (drop p part_names) kids ≡ one_part (part_name p) (items_of (part_name p) kids) (parts_of (drop (p + 1) part_names) kids)
unfolding parts_of
parts_next p kids h = rw (add-one, drop-cons part_names p [] h)

pub record Parting (s : List ℕ) (at : ℕ) (d₀ : List ℕ) (o₀ : ℕ) (d : List ℕ) (o : ℕ) (started : Bool) (p : ℕ) : Type 0 where
  pub todo : Todo d₀ o₀ (write_rule (parts_of part_names (nodes_at s at))) d o (following started 59 (parts_text p (nodes_at s at)))
  pub kept : length d ≡ length d₀

pub parts_start : (s : List ℕ) (at : ℕ) (d : List ℕ) (o : ℕ) → length d * 1 < 2 ^ 63 → Parting s at d o d o false 0
parts_start s at d o z = record { todo = rw (following_first 59 (parts_text 0 (nodes_at s at))) (todo_all d o (write_rule (parts_of part_names (nodes_at s at))) z); kept = refl }

module _ {s : List ℕ} {at : ℕ} {d₀ : List ℕ} {o₀ : ℕ} {d : List ℕ} {o : ℕ} {b : Bool} {p : ℕ} (t : Parting s at d₀ o₀ d o b p) where
  module _ {r : Option Item} (k : p < 14) (f : ItemAt p s at r) where
    left : {l : List RuleItem} → items_from p s r ≡ l → following b 59 (parts_text p (nodes_at s at)) ≡ following b 59 (map write_part (one_part (part_name p) l (parts_of (drop (p + 1) part_names) (nodes_at s at))))
    left e = ap (λ (l : List RulePart). following b 59 (map write_part l)) (parts_next p (nodes_at s at) k ∙ ap (λ (l : List RuleItem). one_part (part_name p) l (parts_of (drop (p + 1) part_names) (nodes_at s at))) (f.is ∙ e))

    -- a part that has items
    pub parts_more : {i : Item} {d' : List ℕ} {q : ℕ} → r ≡ Some i →
        Put d d' o q (pick b (59 ∷ []) [] ⊕ upper (rest 0 (take i.name_end s) i.name) ⊕ ascii "=" ⊕ joined_by 44 (texts_of p s at)) → Parting s at d₀ o₀ d' q true (p + 1)
    unfolding ◌⊕◌
    parts_more {i} {d'} {q} h w =
        let m : upper (rest 0 (take i.name_end s) i.name) ≡ part_name p = part_capitals p (rest 0 (take i.name_end s) i.name) k (item_within f h).named in
        let l : items_of (part_name p) (nodes_at s at) ≡ item_at p s i.inside ∷ items_of (part_name p) (nodes_at s i.next) = f.is ∙ ap (items_from p s) h in
        let y : upper (rest 0 (take i.name_end s) i.name) ⊕ ascii "=" ⊕ joined_by 44 (texts_of p s at) ≡ write_part (record { part = part_name p; items = item_at p s i.inside ∷ items_of (part_name p) (nodes_at s i.next) }) =
        ap (λ (z : List ℕ). z ⊕ ascii "=" ⊕ joined_by 44 (texts_of p s at)) m ∙ ap (λ (z : List RuleItem). part_name p ⊕ ascii "=" ⊕ joined_by 44 (map (write_item ical) z)) l in
        let u = subst (λ (z : List ℕ). Put d d' o q (pick b (59 ∷ []) [] ⊕ z)) y w in
        record { todo = todo_step t.todo u (left (ap (items_from p s) h) ∙ following_more b 59 _ _); kept = put_length w ∙ t.kept }

    pub parts_none : r ≡ None → Parting s at d₀ o₀ d o b (p + 1)
    parts_none h = record { todo = subst (Todo d₀ o₀ (write_rule (parts_of part_names (nodes_at s at))) d o) (left (ap (items_from p s) h)) t.todo; kept = t.kept }

  pub parts_end : 14 ≤ p → Put d₀ d o₀ o (write_rule (parts_of part_names (nodes_at s at)))
  unfolding parts_of
  parts_end h = todo_done t.todo (ap (λ (l : List (List ℕ)). following b 59 (map write_part (parts_of l (nodes_at s at)))) (drop_of_length-le part_names h) ∙ following_none b 59)
