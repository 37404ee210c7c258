-- Laws of what specs/Names.antt defines.
--     Smalls           the invariant of the walk over characters;   `search smalls`
--     bad_..           a bad name, as code tests it
--     naming           the walk over the names of members
use Rattle.std.specs.Prelude.{◌≡◌, refl, Bool, true, false, not, List, [], ◌∷◌, ℕ, ◌+◌, ◌-◌, ◌*◌, ◌<◌, eqb, length, None, Some}
use Rattle.std.proofs.Math.Path.{sym}
use Rattle.std.proofs.Common.{ap, ◌∙◌, arith, rules, eq-eqb, ne_eqb}
use Rattle.octets.specs.Ascii.{ascii}
use Rattle.octets.specs.Pick.{pick, ◌and◌, ◌or◌}
use Rattle.octets.specs.laws.Pick.{and_no_right}
use Rattle.octets.specs.Scan.{all_of}
use Rattle.octets.specs.Class.{is_capital, is_name_char, lower_byte, lower}
use Rattle.octets.specs.Words.{same}
use Rattle.octets.specs.Lists.{any_one}
use Rattle.source.specs.Source.{rest, Reads}
use Rattle.source.specs.laws.Facts.{rest_byte, rest_end, byte_small}
use Rattle.source.specs.declared.points.Unit.{Unit}
use Rattle.read_text_line.specs.ContentLine.{is_name}
use Rattle.read_text_line.specs.Names.{is_carried_name}
use Rattle.json_text.specs.Tree.{member_list}
use Rattle.jcal.specs.Property.{is_bad_name, is_bad_parameter}
use Rattle.read_json.specs.TreeAt.{members_at, string_at}
use Rattle.read_json.specs.MemberHeads.{MemberAt}
use Rattle.read_json.specs.declared.MemberHead.{MemberHead}
use Rattle.read_jcal_parameters.specs.Shapes.{parameters_at}
use Rattle.read_jcal_parameters.specs.laws.Shapes.{Walking, walking_start, walk_none, walk_some, member_inside, member_less}
use Rattle.read_jcal_parameters.specs.Names.{is_small_name_char, is_bad_parameter_name}

-- ---- characters of a name, and no capitals

pub record Smalls (s : List ℕ) (from at : ℕ) : Type 0 where
  pub is : all_of is_small_name_char (rest 3 s from) ≡ all_of is_small_name_char (rest 3 s at)

pub smalls_start : (s : List ℕ) (from : ℕ) → Smalls s from from
smalls_start s from = record { is = refl }

module _ {s : List ℕ} {from at : ℕ} {n : Unit} (w : Smalls s from at) (p : Reads 3 s at n) where
  pub smalls_end : n.u ≡ 256 → true ≡ all_of is_small_name_char (rest 3 s from)
  unfolding all_of
  smalls_end h = sym (w.is ∙ rw (rest_end p h))

  module _ (h : n.u ≡ 256 → ⊥) {a : Bool} (e : a ≡ is_name_char n.u) where
    pub smalls_other : a ≡ false → false ≡ all_of is_small_name_char (rest 3 s from)
    unfolding all_of pick ◌and◌
    smalls_other q = sym (w.is ∙ rw (rest_byte p h, ← e, q))

    module _ (q : a ≡ true) {b : Bool} (f : b ≡ is_capital n.u) where
      pub smalls_capital : b ≡ true → false ≡ all_of is_small_name_char (rest 3 s from)
      unfolding all_of pick ◌and◌
      smalls_capital r = sym (w.is ∙ rw (rest_byte p h, ← e, q, ← f, r))

      pub smalls_more : b ≡ false → Smalls s from n.next
      unfolding all_of pick ◌and◌
      smalls_more r = record { is = w.is ∙ rw (rest_byte p h, ← e, q, ← f, r) }

  pub smalls_less : (n.u ≡ 256 → ⊥) → 4 * length s - n.next < 4 * length s - at
  smalls_less h = let u : n.u < 256 = byte_small p h in omega (arith, p.moved, p.inside)

pub ruleset smalls = (smalls_start, smalls_end, smalls_other, smalls_capital, smalls_more, smalls_less, rules)

-- ---- a bad name

lower_kept : (b : ℕ) → eqb b (lower_byte b) ≡ not (is_capital b)
unfolding pick
lower_kept b = go (is_capital b)
  where
    go : (t : Bool) → eqb b (pick t (b + 32) b) ≡ not t
    go true = ne_eqb b (b + 32) (λ e. omega arith)
    go false = eq-eqb b b refl

small_names : (l : List ℕ) → (all_of is_name_char l and same l (lower l)) ≡ all_of is_small_name_char l
unfolding all_of same lower pick ◌and◌
small_names [] = refl
small_names (b ∷ l) = rw (lower_kept b) (go (is_name_char b) (is_capital b) (all_of is_name_char l) (same l (lower l)) (small_names l))
  where
    go : (x y a c : Bool) {z : Bool} → (a and c) ≡ z → (pick x a false and (not y and c)) ≡ pick (x and not y) z false
    go true true a c e = and_no_right a false refl
    go true false a c e = e
    go false y a c e = refl

-- of characters that there are
some_bad : (b : ℕ) (l : List ℕ) → is_bad_name (b ∷ l) ≡ (not (all_of is_small_name_char (b ∷ l)) or not (is_carried_name (b ∷ l)))
unfolding is_name pick ◌and◌ ◌or◌
some_bad b l = rw (← (small_names (b ∷ l))) (go (all_of is_name_char (b ∷ l)) (same (b ∷ l) (lower (b ∷ l))) (not (is_carried_name (b ∷ l))))
  where
    go : (x y z : Bool) → (not (pick false false x) or not y or z) ≡ (not (x and y) or z)
    go true y z = refl
    go false y z = refl

module _ {s : List ℕ} {at : ℕ} {n : Unit} (p : Reads 3 s at n) where
  pub bad_none : n.u ≡ 256 → true ≡ is_bad_name (rest 3 s at)
  unfolding is_name pick ◌or◌
  bad_none h = rw (rest_end p h)

  module _ (h : n.u ≡ 256 → ⊥) {a : Bool} (e : a ≡ all_of is_small_name_char (rest 3 s at)) where
    here : is_bad_name (rest 3 s at) ≡ (not (all_of is_small_name_char (rest 3 s at)) or not (is_carried_name (rest 3 s at)))
    here = rw (rest_byte p h) (some_bad n.u (rest 3 s n.next))

    pub bad_large : a ≡ false → true ≡ is_bad_name (rest 3 s at)
    unfolding ◌or◌
    bad_large q = sym (here ∙ rw (← e, q))

    module _ (q : a ≡ true) {b : Bool} (f : b ≡ is_carried_name (rest 3 s at)) where
      pub bad_carried : b ≡ true → false ≡ is_bad_name (rest 3 s at)
      unfolding ◌or◌
      bad_carried r = sym (here ∙ rw (← e, q, ← f, r))

      pub bad_start : b ≡ false → true ≡ is_bad_name (rest 3 s at)
      unfolding ◌or◌
      bad_start r = sym (here ∙ rw (← e, q, ← f, r))

pub bad_at : {l n : List ℕ} {r : Bool} → l ≡ n → r ≡ is_bad_name l → r ≡ is_bad_name n
bad_at e q = q ∙ ap is_bad_name e

-- ---- the name of a parameter

module _ {l n : List ℕ} (i : l ≡ n) {a : Bool} (e : a ≡ is_bad_name l) where
  pub parameter_bad : a ≡ true → true ≡ is_bad_parameter_name n
  unfolding is_bad_parameter_name ◌or◌
  parameter_bad q = rw (← i, ← e, q)

  pub parameter_value_lem : {r : Bool} → a ≡ false → r ≡ same l (ascii "value") → r ≡ is_bad_parameter_name n
  unfolding is_bad_parameter_name ◌or◌
  parameter_value_lem q f = f ∙ rw (← i, ← e, q)

-- ---- the names of members

module _ {s : List ℕ} {from at : ℕ} (w : Walking (any_one is_bad_parameter) s from at) where
  pub naming_none : MemberAt s at None → false ≡ any_one is_bad_parameter (member_list (members_at s from))
  unfolding any_one parameters_at
  naming_none t = sym (walk_none w t)

  module _ {m : MemberHead} (t : MemberAt s at (Some m)) {b : Bool} (e : b ≡ is_bad_parameter_name (string_at s m.name)) where
    pub naming_bad : b ≡ true → true ≡ any_one is_bad_parameter (member_list (members_at s from))
    unfolding any_one parameters_at is_bad_parameter_name ◌or◌
    naming_bad r = sym (walk_some w t ∙ rw (← e, r))

    pub naming_good : b ≡ false → Walking (any_one is_bad_parameter) s from m.next
    unfolding any_one is_bad_parameter_name ◌or◌
    naming_good r = record { is = walk_some w t ∙ rw (← e, r) }

pub ruleset naming = (walking_start, naming_none, naming_bad, naming_good, member_inside, member_less, rules)
