-- Laws of what specs/Members.antt defines.
--     recur_read       whether there is a rule
--     part_as          a member by the number of its part
--     Ruling           the invariant of the loop over members;   `search ruling`
use Rattle.std.specs.Prelude.{◌≡◌, Bool, cond, ℕ, zero, suc, ◌-◌, ◌<◌, eqb, length, get_or, Option, None, Some}
use Rattle.std.proofs.Math.Path.{refl, sym, ap}
use Rattle.std.proofs.Common.{subst, ◌∙◌, arith, rules, eq-eqb, eqb-true}
use Rattle.std.proofs.Math.Bool.{true, false, not}
use Rattle.std.proofs.lemmas.Bool.{false≢true}
use mathlib.Core.List.{List, [], ◌∷◌, map}
use Rattle.bits.specs.Masks.{has}
use Rattle.bits.specs.laws.Masks.{has_none}
use Rattle.octets.specs.Ascii.{ascii}
use Rattle.octets.specs.Pick.{pick, ◌and◌, ◌or◌}
use Rattle.octets.specs.laws.Pick.{and_no_right, eqb_swap}
use Rattle.octets.specs.Class.{upper, lower}
use Rattle.octets.specs.Words.{same, is_one_of, row_of}
use Rattle.octets.specs.laws.Tables.{row_named}
use Rattle.octets.specs.Lists.{distinct}
use Rattle.octets.specs.Reading.{provided, and_then, is_read, cons_read, read_each}
use Rattle.octets.specs.laws.Reading.{none-some, provided-some, and_then-some, cons_read-some}
use Rattle.octets.specs.Computing.{octets_compute}
use Rattle.calendar.specs.Calendar.{RulePart, recur}
use Rattle.names.specs.Table.{place_of, nth}
use Rattle.names.specs.laws.Table.{row_place}
use Rattle.recur.specs.Parts.{Part, part_of, part_table, part_names}
use Rattle.recur.specs.Rule.{rule_part, is_amount, name_of, has_part, is_complete, in_order, ruled}
use Rattle.recur.specs.laws.Fits.{part_at, provided_is}
use Rattle.recur.specs.laws.PieceLaws.{cons_read_lem}
use Rattle.recur.specs.laws.Whole.{part_same}
use Rattle.values.specs.laws.ValueAt.{mapped}
use Rattle.json_text.specs.Tree.{Member, first_of, member_list}
use Rattle.json_text.specs.Kinds.{or_alone}
use Rattle.jcal.specs.Values.{read_item, read_items, read_part, read_recur}
use Rattle.read_json.specs.TreeAt.{elements_at, members_at, string_at}
use Rattle.read_json.specs.MemberHeads.{MemberAt}
use Rattle.read_json.specs.declared.MemberHead.{MemberHead}
use Rattle.read_jcal_value.specs.Items.{items_in, part_in, part_place}
use Rattle.read_jcal_value.specs.Members.{cap_name, place_in, has_place, each_part, is_whole, whole_in}

-- ---- the part of a name

nth_at : {A : Type 0} (l : List A) (k : ℕ) → nth l k ≡ get_or (map (λ (a : A). Some a) l) k None
unfolding nth
nth_at [] k = refl
nth_at (a ∷ l) zero = refl
nth_at (a ∷ l) (suc k) = nth_at l k

nth_inside : {A : Type 0} (l : List A) (k : ℕ) (a : A) → nth l k ≡ Some a → k < length l
unfolding nth
nth_inside [] k a h = none-some h
nth_inside (x ∷ l) zero a h = omega arith
nth_inside (x ∷ l) (suc k) a h = omega (arith, nth_inside l k a h)

part_place_lem : (n : List ℕ) → part_of n ≡ part_of (get_or part_names (place_of n part_names) [])
part_place_lem n = row_place (λ (r : Part). r.name) n part_table ∙ nth_at part_table (place_of n part_names) ∙ sym (part_at (place_of n part_names))

-- ---- one member

module _ (m : Member) where
  none_there : is_read {A = RulePart} None ≡ is_read (and_then (part_of (get_or part_names 14 [])) (λ r. read_items r (or_alone m.value)))
  unfolding and_then
  none_there = rw (part_at 14)

  pub part_as : is_read (read_part m) ≡ part_in (part_place m.name) m.value
  unfolding part_place part_in items_in pick
  part_as = go (same m.name (lower m.name))
    where
      go : (t : Bool) → is_read (pick t (and_then (part_of (upper m.name)) (λ r. read_items r (or_alone m.value))) None)
          ≡ is_read (and_then (part_of (get_or part_names (pick t (place_of (upper m.name) part_names) 14) [])) (λ r. read_items r (or_alone m.value)))
      go true = rw (← (part_place_lem (upper m.name)))
      go false = none_there

  -- what is read
  read_part_lem : (p : RulePart) → read_part m ≡ Some p → (same m.name (lower m.name) ≡ true) × (p.part ≡ cap_name m) × (place_in m < 14)
  unfolding place_in pick
  read_part_lem p h = go (same m.name (lower m.name)) h
    where
      go : (t : Bool) → pick t (and_then (part_of (cap_name m)) (λ r. read_items r (or_alone m.value))) None ≡ Some p → (t ≡ true) × (p.part ≡ cap_name m) × (place_of (cap_name m) part_names < 14)
      go false k = none-some k
      go true k =
          let e = and_then-some (part_of (cap_name m)) (λ r. read_items r (or_alone m.value)) p k in
          let f = and_then-some (read_each (read_item e.0) (or_alone m.value)) (λ is. provided (is_amount e.0.listed is) (rule_part e.0.name is)) p e.2 in
          let g = provided-some (is_amount e.0.listed f.0) (rule_part e.0.name f.0) p f.2 in (
            refl,
            sym (ap (λ (x : RulePart). x.part) g.1) ∙ row_named (λ (r : Part). r.name) (cap_name m) part_table e.0 e.1,
            nth_inside part_table (place_of (cap_name m) part_names) e.0 (sym (row_place (λ (r : Part). r.name) (cap_name m) part_table) ∙ e.1),
          )

  module _ (h : is_read (read_part m) ≡ true) where
    was : (p : RulePart) × (read_part m ≡ Some p)
    unfolding is_read
    was = go (read_part m) refl h
      where
        go : (o : Option RulePart) → read_part m ≡ o → is_read o ≡ true → (p : RulePart) × (read_part m ≡ Some p)
        go None e k = absurd (false≢true k)
        go (Some p) e k = (p, e)

    pub known : place_in m < 14
    known = (read_part_lem was.0 was.1).2

    pub small_name : part_place m.name ≡ place_in m
    unfolding part_place place_in pick
    small_name = rw (read_part_lem was.0 was.1).0

-- ---- the whole rule

one_place : (n : List ℕ) → place_of n part_names < 14 → (ms : List Member) → has_place (place_of n part_names) ms ≡ is_one_of n (map cap_name ms)
unfolding has_place place_in is_one_of
one_place n l [] = refl
one_place n l (m ∷ ms) = rw (part_same n (cap_name m) l, one_place n l ms)

each_part_lem : (ms : List Member) → each_part ms ≡ (is_read (read_each read_part ms) and distinct (map cap_name ms))
unfolding each_part read_each distinct place_in ◌and◌ is_read pick
each_part_lem [] = refl
each_part_lem (m ∷ ms) = rw (cons_read_lem (read_part m) (read_each read_part ms)) (go (is_read (read_part m)) refl (each_part_lem ms))
  where
    shuffle : (h a d : Bool) → pick h false (a and d) ≡ (a and pick h false d)
    shuffle true a d = sym (and_no_right a false refl)
    shuffle false a d = refl

    go : (t : Bool) → is_read (read_part m) ≡ t → each_part ms ≡ (is_read (read_each read_part ms) and distinct (map cap_name ms)) →
        (t and pick (has_place (place_of (cap_name m) part_names) ms) false (each_part ms))
        ≡ ((t and is_read (read_each read_part ms)) and pick (is_one_of (cap_name m) (map cap_name ms)) false (distinct (map cap_name ms)))
    go true e ih = rw (one_place (cap_name m) (known m e) ms, ih) (shuffle (is_one_of (cap_name m) (map cap_name ms)) (is_read (read_each read_part ms)) (distinct (map cap_name ms)))
    go false e ih = refl

cons_same : {x y : List ℕ} {l m : List (List ℕ)} → x ≡ y → l ≡ m → x ∷ l ≡ y ∷ m
cons_same p q = cc

names_kept : (ms : List Member) (ps : List RulePart) → read_each read_part ms ≡ Some ps → map name_of ps ≡ map cap_name ms
unfolding read_each
names_kept [] ps h = let z : [] ≡ ps = cc in rw (← z)
names_kept (m ∷ ms) ps h =
    let e = and_then-some (read_part m) (λ b. cons_read b (read_each read_part ms)) ps h in
    let f = cons_read-some e.0 (read_each read_part ms) ps e.2 in
    sym (ap (λ (l : List RulePart). map name_of l) f.2) ∙ cons_same (read_part_lem m e.0 e.1).1 (names_kept ms f.0 f.1)

has_named : (n : List ℕ) (ps : List RulePart) → has_part n ps ≡ is_one_of n (map name_of ps)
unfolding row_of is_read is_one_of ◌or◌ pick
has_named n [] = refl
has_named n (p ∷ ps) = go (same n p.part) (has_named n ps)
  where
    go : (t : Bool) → has_part n ps ≡ is_one_of n (map name_of ps) → is_read (pick t (Some p) (row_of name_of n ps)) ≡ (t or is_one_of n (map name_of ps))
    go true ih = refl
    go false ih = ih

whole_is : (ms : List Member) (ps : List RulePart) → map name_of ps ≡ map cap_name ms → is_complete ps ≡ is_whole ms
unfolding octets_compute place_of
whole_is ms ps h =
    let a : has_place 0 ms ≡ is_one_of (ascii "FREQ") (map cap_name ms) = one_place (ascii "FREQ") (omega arith) ms in
    let b : has_place 1 ms ≡ is_one_of (ascii "UNTIL") (map cap_name ms) = one_place (ascii "UNTIL") (omega arith) ms in
    let c : has_place 2 ms ≡ is_one_of (ascii "COUNT") (map cap_name ms) = one_place (ascii "COUNT") (omega arith) ms in
    rw (a, b, c, has_named (ascii "FREQ") ps, has_named (ascii "UNTIL") ps, has_named (ascii "COUNT") ps, h)

pub recur_read : (ms : List Member) → is_read (read_recur ms) ≡ (each_part ms and is_whole ms)
unfolding and_then is_read ◌and◌
recur_read ms = mapped recur (and_then (read_each read_part ms) ruled) ∙ rw (each_part_lem ms) (go (read_each read_part ms) refl)
  where
    go : (o : Option (List RulePart)) → read_each read_part ms ≡ o →
        is_read (and_then o ruled) ≡ ((is_read o and distinct (map cap_name ms)) and is_whole ms)
    go None e = refl
    go (Some ps) e =
        let h = names_kept ms ps e in
        provided_is (distinct (map name_of ps) and is_complete ps) (in_order part_names ps) ∙ rw (h, whole_is ms ps h)

-- ---- the parts seen, in a mask

unfoldable pub are_new : ℕ → List Member → Bool
are_new k [] = true
are_new k (m ∷ ms) = not (has k (place_in m)) and are_new k ms

-- the members vs are left of the members ms
pub record Noting (ms : List Member) (k : ℕ) (vs : List Member) : Type 0 where
  pub each : each_part ms ≡ (are_new k vs and each_part vs)
  pub found : (p : ℕ) → has_place p ms ≡ (has k p or has_place p vs)

all_new : (ms : List Member) → are_new 0 ms ≡ true
unfolding are_new ◌and◌
all_new [] = refl
all_new (m ∷ ms) = rw (has_none (place_in m)) (all_new ms)

none_noted : (ms : List Member) → Noting ms 0 ms
unfolding ◌and◌ ◌or◌
none_noted ms = record { each = rw (all_new ms); found = λ p. rw (has_none p) }

swap : (a b : ℕ) → eqb a b ≡ eqb b a
swap a b = go (eqb a b) refl
  where
    go : (t : Bool) → eqb a b ≡ t → t ≡ eqb b a
    go true e = sym (eq-eqb b a (sym (eqb-true a b e)))
    go false e = sym (eqb_swap a b e)

module _ (k q i : ℕ) (g : (j : ℕ) → has q j ≡ cond (eqb i j) true (has k j)) where
  new_noted : (ms : List Member) → are_new q ms ≡ pick (has_place i ms) false (are_new k ms)
  unfolding are_new has_place ◌and◌ ◌or◌ pick
  new_noted [] = refl
  new_noted (m ∷ ms) = rw (g (place_in m), new_noted ms, swap i (place_in m)) (go (eqb (place_in m) i) (has_place i ms) (has k (place_in m)) (are_new k ms))
    where
      go : (e h x y : Bool) → (not (cond e true x) and pick h false y) ≡ pick (e or h) false (not x and y)
      go true h x y = refl
      go false true true y = refl
      go false true false y = refl
      go false false x y = refl

  module _ {ms : List Member} {m : Member} {vs : List Member} (w : Noting ms k (m ∷ vs)) (e : i ≡ place_in m) (h : is_read (read_part m) ≡ true) (z : has k i ≡ false) where
    one_noted : Noting ms q vs
    unfolding are_new each_part has_place ◌and◌ ◌or◌ pick
    one_noted = record {
      each = w.each ∙ rw (← e, z, h, new_noted vs) (go (has_place i vs) (are_new k vs));
      found = λ p. w.found p ∙ rw (← e, g p) (found_on (has k p) (eqb i p) (has_place p vs));
    }
      where
        go : (a b : Bool) → (b and pick a false (each_part vs)) ≡ (pick a false b and each_part vs)
        go true b = and_no_right b false refl
        go false b = refl

        found_on : (a b c : Bool) → (a or (b or c)) ≡ (cond b true a or c)
        found_on true true c = refl
        found_on true false c = refl
        found_on false true c = refl
        found_on false false c = refl

-- ---- the answers

module _ (ms : List Member) where
  no_rule : each_part ms ≡ false → false ≡ is_read (read_recur ms)
  unfolding ◌and◌
  no_rule h = sym (recur_read ms ∙ rw h)

  module _ {k : ℕ} {m : Member} {vs : List Member} (w : Noting ms k (m ∷ vs)) where
    part_bad : is_read (read_part m) ≡ false → false ≡ is_read (read_recur ms)
    unfolding each_part ◌and◌
    part_bad h = no_rule (w.each ∙ rw h (and_no_right (are_new k (m ∷ vs)) false refl))

    part_again : {i : ℕ} → i ≡ place_in m → has k i ≡ true → false ≡ is_read (read_recur ms)
    unfolding are_new ◌and◌
    part_again e h = no_rule (w.each ∙ rw (← e, h))

  all_noted : {k : ℕ} → Noting ms k [] → {r : Bool} → r ≡ whole_in k → r ≡ is_read (read_recur ms)
  unfolding are_new each_part has_place ◌and◌ ◌or◌ pick
  all_noted {k} w e = e ∙ sym (recur_read ms ∙ rw (w.each, w.found 0, w.found 1, w.found 2) (go (has k 0) (has k 1) (has k 2)))
    where
      go : (x y z : Bool) → ((x or false) and not ((y or false) and (z or false))) ≡ pick x (pick y (pick z false true) true) false
      go true true true = refl
      go true true false = refl
      go true false z = refl
      go false y z = refl

-- ---- the loop over members

abbrev member_of : List ℕ → ℕ → ℕ → Member
member_of s p n = record { name = string_at s p; value = first_of (elements_at s n) }

pub record Ruling (s : List ℕ) (from seen c : ℕ) : Type 0 where
  pub noting : Noting (member_list (members_at s from)) seen (member_list (members_at s c))

pub ruling_start : (s : List ℕ) (from : ℕ) → Ruling s from 0 from
ruling_start s from = record { noting = none_noted (member_list (members_at s from)) }

module _ {s : List ℕ} {c : ℕ} where
  pub ruling_end : MemberAt s c None → {from seen : ℕ} → Ruling s from seen c → {r : Bool} → r ≡ whole_in seen → r ≡ is_read (read_recur (member_list (members_at s from)))
  unfolding member_list
  ruling_end t {from} w e = all_noted (member_list (members_at s from)) (rw (ap member_list t.is) at w.noting) e

  module _ {m : MemberHead} (t : MemberAt s c (Some m)) where
    member_here : member_list (members_at s c) ≡ member_of s m.name m.next ∷ member_list (members_at s m.next)
    unfolding member_list
    member_here = ap member_list t.is

    pub member_place : m.name < length s
    member_place = omega (arith, t.takes.some, t.takes.inside)

    pub member_less : length s - m.next < length s - c
    member_less = omega (arith, t.takes.onward, t.takes.some, t.takes.inside)

    module _ {from seen : ℕ} (w : Ruling s from seen c) {i : ℕ} (e : i ≡ part_place (string_at s m.name)) {b : Bool} (f : b ≡ part_in i (first_of (elements_at s m.next))) where
      here : Noting (member_list (members_at s from)) seen (member_of s m.name m.next ∷ member_list (members_at s m.next))
      here = rw member_here at w.noting

      fits : is_read (read_part (member_of s m.name m.next)) ≡ b
      fits = part_as (member_of s m.name m.next) ∙ rw (← e) (sym f)

      pub ruling_bad : b ≡ false → false ≡ is_read (read_recur (member_list (members_at s from)))
      ruling_bad h = part_bad (member_list (members_at s from)) here (fits ∙ h)

      module _ (h : b ≡ true) where
        number : i ≡ place_in (member_of s m.name m.next)
        number = e ∙ small_name (member_of s m.name m.next) (fits ∙ h)

        pub part_small : i < 32
        part_small = let k = known (member_of s m.name m.next) (fits ∙ h) in omega (arith, k, number)

        module _ {a : Bool} (d : a ≡ has seen i) where
          pub ruling_again : a ≡ true → false ≡ is_read (read_recur (member_list (members_at s from)))
          ruling_again q = part_again (member_list (members_at s from)) here number (sym d ∙ q)

          pub ruling_more : {n : ℕ} → a ≡ false → ((j : ℕ) → has n j ≡ cond (eqb i j) true (has seen j)) → Ruling s from n m.next
          ruling_more {n} q g = record { noting = one_noted seen n i g here number (fits ∙ h) (sym d ∙ q) }

pub ruleset ruling = (ruling_start, ruling_end, ruling_bad, ruling_again, ruling_more, part_small, member_place, member_less, rules)
