-- Laws of a RECUR from its object.
--     part_is         the number of a part by a name
--     Finding         the invariant of the walk to a part;   `search finding`
--     Parting         that of the loop over the parts
--     rule_put        the whole
use Prim.{tt}
use Rattle.std.specs.Prelude.{◌≡◌, refl, Bool, true, false, ℕ, ◌+◌, ◌-◌, ◌*◌, ◌^◌, ◌≤◌, ◌<◌, eqb, length, drop, Option, None, Some, IfSome, option_map}
use Rattle.std.proofs.Common.{sym, subst, ◌∙◌, arith, add-one, drop_of_length-le, drop-cons, rules}
use Rattle.std.proofs.Math.Path.{ap}
use mathlib.Core.List.{List, [], ◌∷◌, map}
use Rattle.octets.specs.Ascii.{ascii}
use Rattle.octets.specs.Pick.{pick, ◌and◌}
use Rattle.octets.specs.Append.{◌⊕◌}
use Rattle.octets.specs.Class.{upper, lower}
use Rattle.octets.specs.Words.{same, joined_by, row_of}
use Rattle.octets.specs.laws.Words.{same_true, same_either}
use Rattle.octets.specs.laws.Tables.{row_named}
use Rattle.octets.specs.Lists.{distinct}
use Rattle.octets.specs.Reading.{provided, and_then, read_each}
use Rattle.octets.specs.laws.Reading.{none-some, provided-some, and_then-some}
use Rattle.octets.specs.Computing.{octets_compute}
use Rattle.calendar.specs.Calendar.{ical, RuleItem, RulePart}
use Rattle.sink.specs.Sink.{Put, Todo}
use Rattle.sink.specs.laws.Sink.{todo_all, todo_step, todo_done}
use Rattle.names.specs.Table.{place_of, names_in}
use Rattle.names.specs.laws.Places.{one_at, place_back, same_place}
use Rattle.recur.specs.Parts.{Part, part_table, part_names, part_of}
use Rattle.recur.specs.Item.{write_item}
use Rattle.recur.specs.Rule.{rule_part, name_of, part_named, with_part, in_order, is_amount, is_complete, ruled, write_part, write_rule}
use Rattle.recur.specs.laws.RuleLaws.{names_once}
use Rattle.json_text.specs.Tree.{Json, Member, Members, member_list, first_of}
use Rattle.json_text.specs.Kinds.{or_alone}
use Rattle.jcal.specs.Values.{read_item, read_items, read_part}
use Rattle.read_json.specs.TreeAt.{elements_at, members_at, string_at}
use Rattle.read_json.specs.Pieces.{Taken}
use Rattle.read_json.specs.MemberHeads.{member_by, MemberTakes, MemberAt}
use Rattle.read_json.specs.declared.MemberHead.{MemberHead}
use Rattle.write_text_pieces.specs.laws.Joining.{following, following_first, following_none, following_more}
use Rattle.write_text_jcal_values.specs.Elements.{member_list_at}
use Rattle.write_text_jcal_values.specs.Rules.{part_name, item_of, upper_name, member_of, PartAt}
use Rattle.write_text_jcal_values.specs.laws.Joining.{same_some, each_first, each_none}

-- ---- names

pub part_names_are : names_in (ascii "FREQ\nUNTIL\nCOUNT\nINTERVAL\nBYSECOND\nBYMINUTE\nBYHOUR\nBYDAY\nBYMONTHDAY\nBYYEARDAY\nBYWEEKNO\nBYMONTH\nBYSETPOS\nWKST\n") ≡ part_names
unfolding names_in octets_compute
part_names_are = refl

pub part_is : (p : ℕ) (l : List ℕ) {n : ℕ} → p < 14 → n ≡ place_of (upper l) (names_in (ascii "FREQ\nUNTIL\nCOUNT\nINTERVAL\nBYSECOND\nBYMINUTE\nBYHOUR\nBYDAY\nBYMONTHDAY\nBYYEARDAY\nBYWEEKNO\nBYMONTH\nBYSETPOS\nWKST\n")) →
    eqb n p ≡ same (part_name p) (upper l)
part_is p l {n} h e =
    let m : n ≡ place_of (upper l) part_names = e ∙ ap (place_of (upper l)) part_names_are in
    let k : same (upper l) (part_name p) ≡ eqb (place_of (upper l) part_names) (place_of (part_name p) part_names) = same_place (upper l) (part_name p) part_names (one_at part_names p h) in
    ap (λ (i : ℕ). eqb i p) m ∙ ap (eqb (place_of (upper l) part_names)) (sym (place_back part_names p names_once h)) ∙ sym k ∙ same_either (upper l) (part_name p)

-- ---- the members, one by one

module _ {s : List ℕ} {c : ℕ} {r : Option MemberHead} (t : MemberAt s c r) where
  no_members_lem : r ≡ None → member_list_at s c ≡ []
  unfolding member_list
  no_members_lem q = ap member_list (t.is ∙ ap (member_by s) q)

  module _ {m : MemberHead} (q : r ≡ Some m) where
    member_list_lem : member_list_at s c ≡ member_of s m.name m.next ∷ member_list_at s m.next
    unfolding member_list
    member_list_lem = ap member_list (t.is ∙ ap (member_by s) q)

    taken : Taken s c m.name m.next
    taken = subst (MemberTakes s c) q t.takes

    pub member_place : m.name < length s
    member_place = let k = taken in omega (arith, k.some, k.inside)

    pub member_less : length s - m.next < length s - c
    member_less = let k = taken in omega (arith, k.onward, k.some, k.inside)

-- ---- the walk to a part

pub record Finding (p : ℕ) (s : List ℕ) (from c : ℕ) : Type 0 where
  pub left : row_of upper_name (part_name p) (member_list_at s from) ≡ row_of upper_name (part_name p) (member_list_at s c)

pub finding_start : (p : ℕ) (s : List ℕ) (from : ℕ) → Finding p s from from
finding_start p s from = record { left = refl }

row_first : (n : List ℕ) (m : Member) (ms : List Member) → row_of upper_name n (m ∷ ms) ≡ pick (same n (upper_name m)) (Some m) (row_of upper_name n ms)
unfolding row_of
row_first n m ms = refl

module _ {p : ℕ} {s : List ℕ} {from c : ℕ} (f : Finding p s from c) {r : Option MemberHead} (t : MemberAt s c r) where
  pub finding_none : r ≡ None → PartAt p s from None
  unfolding row_of
  finding_none q = record { is = f.left ∙ ap (row_of upper_name (part_name p)) (no_members_lem t q); place = tt }

  module _ {m : MemberHead} (q : r ≡ Some m) {b : Bool} (e : b ≡ same (part_name p) (upper (string_at s m.name))) where
    first : row_of upper_name (part_name p) (member_list_at s from) ≡ pick b (Some (member_of s m.name m.next)) (row_of upper_name (part_name p) (member_list_at s m.next))
    first =
        f.left ∙ ap (row_of upper_name (part_name p)) (member_list_lem t q) ∙ row_first (part_name p) (member_of s m.name m.next) (member_list_at s m.next)
        ∙ ap (λ (y : Bool). pick y (Some (member_of s m.name m.next)) (row_of upper_name (part_name p) (member_list_at s m.next))) (sym e)

    pub finding_here : b ≡ true → PartAt p s from (Some m)
    unfolding pick
    finding_here y = record {
      is = first ∙ ap (λ (z : Bool). pick z (Some (member_of s m.name m.next)) (row_of upper_name (part_name p) (member_list_at s m.next))) y;
      place = member_place t q;
    }

    pub finding_on : b ≡ false → Finding p s from m.next
    unfolding pick
    finding_on y = record { left = first ∙ ap (λ (z : Bool). pick z (Some (member_of s m.name m.next)) (row_of upper_name (part_name p) (member_list_at s m.next))) y }

module _ {p : ℕ} {s : List ℕ} {from : ℕ} {r : Option MemberHead} (f : PartAt p s from r) where
  pub part_place : {m : MemberHead} → r ≡ Some m → m.name < length s
  part_place h = subst (λ (o : Option MemberHead). IfSome o (λ m. m.name < length s)) h f.place

pub ruleset finding = (finding_start, finding_none, finding_here, finding_on, member_place, member_less, rules)

-- ---- the parts that members state

-- a member that states a part
part_stated : (m : Member) (q : RulePart) → read_part m ≡ Some q →
    (r : Part) × (is : List RuleItem) × (part_of (upper_name m) ≡ Some r) × (read_each (read_item r) (or_alone m.value) ≡ Some is) × (q ≡ rule_part (upper_name m) is)
unfolding pick
part_stated m q h = go (same m.name (lower m.name)) h
  where
    go : (b : Bool) → pick b (and_then (part_of (upper m.name)) (λ r. read_items r (or_alone m.value))) None ≡ Some q →
        (r : Part) × (is : List RuleItem) × (part_of (upper_name m) ≡ Some r) × (read_each (read_item r) (or_alone m.value) ≡ Some is) × (q ≡ rule_part (upper_name m) is)
    go true k =
        let e = and_then-some (part_of (upper m.name)) (λ r. read_items r (or_alone m.value)) q k in
        let g = and_then-some (read_each (read_item e.0) (or_alone m.value)) (λ is. provided (is_amount e.0.listed is) (rule_part e.0.name is)) q e.2 in
        let x = provided-some (is_amount e.0.listed g.0) (rule_part e.0.name g.0) q g.2 in
        let n : e.0.name ≡ upper_name m = row_named (λ (r : Part). r.name) (upper m.name) part_table e.0 e.1 in
        (e.0, g.0, e.1, g.1, sym x.1 ∙ ap (λ (l : List ℕ). rule_part l g.0) n)
    go false k = none-some k

part_name_lem : (m : Member) (q : RulePart) → read_part m ≡ Some q → q.part ≡ upper_name m
part_name_lem m q h = let e = part_stated m q h in ap (λ (x : RulePart). x.part) e.4

-- the part of a name is that of the first member of the name
named_part : (n : List ℕ) (ms : List Member) (qs : List RulePart) → read_each read_part ms ≡ Some qs → (m : Member) → row_of upper_name n ms ≡ Some m → (q : RulePart) × (read_part m ≡ Some q) × (part_named n qs ≡ Some q)
unfolding row_of pick
named_part n [] qs h m i = none-some i
named_part n (x ∷ ms) qs h m i =
    let g = each_first read_part x ms qs h in
    go g.0 g.1 g.2 g.4 (same n (upper_name x)) refl i (λ y. named_part n ms g.1 g.3 m y)
  where
    go : (a : RulePart) (more : List RulePart) → read_part x ≡ Some a → qs ≡ a ∷ more → (b : Bool) → same n (upper_name x) ≡ b → pick b (Some x) (row_of upper_name n ms) ≡ Some m →
        (row_of upper_name n ms ≡ Some m → (q : RulePart) × (read_part m ≡ Some q) × (part_named n more ≡ Some q)) → (q : RulePart) × (read_part m ≡ Some q) × (part_named n qs ≡ Some q)
    go a more e z true y k ih =
        let w : same n a.part ≡ true = ap (same n) (part_name_lem x a e) ∙ y in
        (a, ap read_part (sym (same_some k)) ∙ e, ap (part_named n) z ∙ ap (λ (b : Bool). pick b (Some a) (row_of name_of n more)) w)
    go a more e z false y k ih =
        let w : same n a.part ≡ false = ap (same n) (part_name_lem x a e) ∙ y in
        let u = ih k in
        (u.0, u.1, ap (part_named n) z ∙ ap (λ (b : Bool). pick b (Some a) (row_of name_of n more)) w ∙ u.2)

unnamed_part : (n : List ℕ) (ms : List Member) (qs : List RulePart) → read_each read_part ms ≡ Some qs → row_of upper_name n ms ≡ None → part_named n qs ≡ None
unfolding row_of pick
unnamed_part n [] qs h i = ap (part_named n) (each_none read_part qs h)
unnamed_part n (x ∷ ms) qs h i =
    let g = each_first read_part x ms qs h in
    go g.0 g.1 g.2 g.4 (same n (upper_name x)) refl i (λ y. unnamed_part n ms g.1 g.3 y)
  where
    go : (a : RulePart) (more : List RulePart) → read_part x ≡ Some a → qs ≡ a ∷ more → (b : Bool) → same n (upper_name x) ≡ b → pick b (Some x) (row_of upper_name n ms) ≡ None →
        (row_of upper_name n ms ≡ None → part_named n more ≡ None) → part_named n qs ≡ None
    go a more e z true y k ih = none-some (sym k)
    go a more e z false y k ih =
        let w : same n a.part ≡ false = ap (same n) (part_name_lem x a e) ∙ y in
        ap (part_named n) z ∙ ap (λ (b : Bool). pick b (Some a) (row_of name_of n more)) w ∙ ih k

-- the items of a part by its number
same_items : (p : ℕ) (a : Part) (vs : List Json) (is : List RuleItem) → part_of (part_name p) ≡ Some a → read_each (read_item a) vs ≡ Some is → read_each (item_of p) vs ≡ Some is
unfolding and_then
same_items p a vs is j h = subst (λ (o : Option Part). read_each (λ v. and_then o (λ r. read_item r v)) vs ≡ Some is) (sym j) h

-- ---- the loop over the parts

abbrev parts_text : ℕ → List RulePart → List (List ℕ)
parts_text p qs = map write_part (in_order (drop p part_names) qs)

parts_next : (p : ℕ) (qs : List RulePart) → p < 14 → in_order (drop p part_names) qs ≡ with_part (part_named (part_name p) qs) (in_order (drop (p + 1) part_names) qs)
unfolding in_order
parts_next p qs h = rw (add-one, drop-cons part_names p [] h)

parts_here : (p : ℕ) (qs : List RulePart) → p < 14 → (q : RulePart) → part_named (part_name p) qs ≡ Some q → in_order (drop p part_names) qs ≡ q ∷ in_order (drop (p + 1) part_names) qs
unfolding with_part
parts_here p qs h q e = parts_next p qs h ∙ ap (λ (z : Option RulePart). with_part z (in_order (drop (p + 1) part_names) qs)) e

parts_not : (p : ℕ) (qs : List RulePart) → p < 14 → part_named (part_name p) qs ≡ None → in_order (drop p part_names) qs ≡ in_order (drop (p + 1) part_names) qs
unfolding with_part
parts_not p qs h e = parts_next p qs h ∙ ap (λ (z : Option RulePart). with_part z (in_order (drop (p + 1) part_names) qs)) e

pub record Parting (s : List ℕ) (at : ℕ) (d₀ : List ℕ) (o₀ : ℕ) (d : List ℕ) (o : ℕ) (started : Bool) (p : ℕ) : Type 0 where
  pub kept : length d ≡ length d₀
  pub left : (qs : List RulePart) → read_each read_part (member_list_at s at) ≡ Some qs → Todo d₀ o₀ (joined_by 59 (map write_part (in_order part_names qs))) d o (following started 59 (map write_part (in_order (drop p part_names) qs)))

pub parts_start : (s : List ℕ) (at : ℕ) (d : List ℕ) (o : ℕ) → length d * 1 < 2 ^ 63 → Parting s at d o d o false 0
parts_start s at d o z = record { kept = refl; left = λ qs h. rw (following_first 59 (parts_text 0 qs)) (todo_all d o (joined_by 59 (parts_text 0 qs)) z) }

module _ {s : List ℕ} {at : ℕ} {d₀ : List ℕ} {o₀ : ℕ} {d : List ℕ} {o : ℕ} {b : Bool} {p : ℕ} (t : Parting s at d₀ o₀ d o b p) where
  module _ {r : Option MemberHead} (k : p < 14) (f : PartAt p s at r) where
    -- a part that is there
    pub parts_more : {x : MemberHead} → r ≡ Some x → {d' : List ℕ} {q : ℕ} → length d' ≡ length d →
        ((is : List RuleItem) → read_each (item_of p) (or_alone (first_of (elements_at s x.next))) ≡ Some is →
        Put d d' o q (pick b (59 ∷ []) [] ⊕ upper (string_at s x.name) ⊕ ascii "=" ⊕ joined_by 44 (map (write_item ical) is))) → Parting s at d₀ o₀ d' q true (p + 1)
    unfolding ◌⊕◌
    parts_more {x} y {d'} {q} l w = record {
      kept = l ∙ t.kept;
      left = λ qs h.
          let m : Member = member_of s x.name x.next in
          let i : row_of upper_name (part_name p) (member_list_at s at) ≡ Some m = f.is ∙ ap (option_map (λ (h : MemberHead). member_of s h.name h.next)) y in
          let g = named_part (part_name p) (member_list_at s at) qs h m i in
          let e = part_stated m g.0 g.1 in
          let n : upper_name m ≡ part_name p = row_named upper_name (part_name p) (member_list_at s at) m i in
          let j : part_of (part_name p) ≡ Some e.0 = ap part_of (sym n) ∙ e.2 in
          let v = w e.1 (same_items p e.0 (or_alone m.value) e.1 j e.3) in
          let z : in_order (drop p part_names) qs ≡ g.0 ∷ in_order (drop (p + 1) part_names) qs = parts_here p qs k g.0 g.2 in
          let u : write_part g.0 ≡ upper (string_at s x.name) ⊕ ascii "=" ⊕ joined_by 44 (map (write_item ical) e.1) = ap write_part e.4 in
          todo_step (t.left qs h) (subst (λ (z : List ℕ). Put d d' o q (pick b (59 ∷ []) [] ⊕ z)) (sym u) v)
          (ap (λ (z : List RulePart). following b 59 (map write_part z)) z ∙ following_more b 59 (write_part g.0) (parts_text (p + 1) qs));
    }

    pub parts_none : r ≡ None → Parting s at d₀ o₀ d o b (p + 1)
    parts_none y = record {
      kept = t.kept;
      left = λ qs h.
          let i : row_of upper_name (part_name p) (member_list_at s at) ≡ None = f.is ∙ ap (option_map (λ (h : MemberHead). member_of s h.name h.next)) y in
          let x : in_order (drop p part_names) qs ≡ in_order (drop (p + 1) part_names) qs = parts_not p qs k (unnamed_part (part_name p) (member_list_at s at) qs h i) in
          subst (λ (z : List RulePart). Todo d₀ o₀ (joined_by 59 (map write_part (in_order part_names qs))) d o (following b 59 (map write_part z))) x (t.left qs h);
    }

  pub parts_end : 14 ≤ p → (qs : List RulePart) → read_each read_part (member_list_at s at) ≡ Some qs → Put d₀ d o₀ o (joined_by 59 (map write_part (in_order part_names qs)))
  unfolding in_order
  parts_end h qs i = todo_done (t.left qs i) (ap (λ (l : List (List ℕ)). following b 59 (map write_part (in_order l qs))) (drop_of_length-le part_names h) ∙ following_none b 59)

-- ---- the whole

pub rule_put : (s : List ℕ) (inside : ℕ) {d e : List ℕ} {o r : ℕ} →
    ((ps : List RulePart) → read_each read_part (member_list_at s inside) ≡ Some ps → Put d e o r (joined_by 59 (map write_part (in_order part_names ps)))) →
    (ps : List RulePart) → and_then (read_each read_part (member_list_at s inside)) ruled ≡ Some ps → Put d e o r (write_rule ps)
rule_put s inside {d} {e} {o} {r} w ps h =
    let g = and_then-some (read_each read_part (member_list_at s inside)) ruled ps h in
    let x = provided-some (distinct (map name_of g.0) and is_complete g.0) (in_order part_names g.0) ps g.2 in
    subst (λ (z : List RulePart). Put d e o r (write_rule z)) x.1 (w g.0 g.1)
