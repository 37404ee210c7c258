-- Names of components.
--     component_upper    a name in capitals is one exactly if it is one as it stands
--     naming, comparing  the rules of code that tests a name, and that compares two
use Rattle.std.specs.Prelude.{◌≡◌, Bool, true, ℕ, suc, ◌-◌, drop}
use Rattle.std.proofs.Math.Path.{refl, sym, ap}
use Rattle.std.proofs.Common.{◌∙◌, arith, rules, eq-eqb, ne_eqb, le-leb}
use Rattle.std.proofs.Math.Bool.{false}
use mathlib.Core.List.{List, [], ◌∷◌}
use Rattle.octets.specs.Pick.{pick, ◌and◌}
use Rattle.octets.specs.laws.Pick.{within_yes, or_left, or_right}
use Rattle.octets.specs.Scan.{all_of, span_len}
use Rattle.octets.specs.Class.{is_name_char, upper_byte, upper}
use Rattle.octets.specs.laws.Letters.{upper_by_cases}
use Rattle.octets.specs.Words.{same, is_empty}
use Rattle.octets.specs.Runs.{after_run}
use Rattle.source.specs.Source.{rest, spell, Reads}
use Rattle.source.specs.declared.points.Unit.{Unit}
use Rattle.names.specs.Runs.{RunEnds}
use Rattle.distinct.specs.Order.{order}
use Rattle.distinct.specs.laws.Order.{order_same, order_apart}
use Rattle.read_text_line.specs.ContentLine.{is_name}
use Rattle.read_text_line.specs.Names.{is_carried_name, is_component_name}
use Rattle.read_text_line.specs.laws.Names.{carried_name_upper}

-- ---- in capitals

char_upper : (b : ℕ) → is_name_char (upper_byte b) ≡ is_name_char b
char_upper b =
    upper_by_cases (λ x. is_name_char x ≡ is_name_char b) b
    (λ l h.
    or_left _ _ (or_left _ _ (within_yes 65 90 (b - 32) (le-leb 65 (b - 32) (omega arith)) (le-leb (b - 32) 90 (omega arith))))
    ∙ sym (or_left _ _ (or_right _ _ (within_yes 97 122 b (le-leb 97 b l) (le-leb b 122 h)))))
    (λ e. refl)

all_upper : (s : List ℕ) → all_of is_name_char (upper s) ≡ all_of is_name_char s
unfolding upper all_of
all_upper [] = refl
all_upper (b ∷ s) = rw (char_upper b, all_upper s)

name_upper : (s : List ℕ) → is_name (upper s) ≡ is_name s
unfolding is_name pick
name_upper [] = unfold upper in refl
name_upper (b ∷ s) = unfold upper in all_upper (b ∷ s)

pub component_upper : (s : List ℕ) → is_component_name (upper s) ≡ is_component_name s
component_upper s = rw (name_upper s, carried_name_upper s)

-- ---- a name

all_after : (s : List ℕ) → all_of is_name_char s ≡ is_empty (after_run is_name_char s)
unfolding all_of after_run span_len
all_after [] = refl
all_after (b ∷ s) = go (is_name_char b) (all_after s)
  where
    go : (t : Bool) → all_of is_name_char s ≡ is_empty (drop (span_len is_name_char s) s) → pick t (all_of is_name_char s) false ≡ is_empty (drop (pick t (suc (span_len is_name_char s)) 0) (b ∷ s))
    go true ih = unfold pick in ih
    go false ih = unfold pick in refl

module _ {m : ℕ} {s : List ℕ} {c : ℕ} {x : Unit} (p : Reads m s c x) where
  at_end : x.u ≡ 256 → rest m s c ≡ []
  unfolding spell pick
  at_end h = p.is ∙ rw (eq-eqb x.u 256 h)

  not_end : (x.u ≡ 256 → ⊥) → rest m s c ≡ x.u ∷ rest m s x.next
  unfolding spell pick
  not_end h = p.is ∙ rw (ne_eqb x.u 256 h)

  pub name_none : x.u ≡ 256 → false ≡ is_component_name (rest m s c)
  unfolding is_name pick ◌and◌
  name_none h = rw (at_end h)

  module _ (h : x.u ≡ 256 → ⊥) {e : ℕ} (r : RunEnds is_name_char m s c e) {y : Unit} (q : Reads m s e y) where
    name_is : is_name (rest m s c) ≡ is_empty (rest m s e)
    unfolding is_name pick
    name_is = ap (λ (l : List ℕ). pick (is_empty l) false (all_of is_name_char (rest m s c))) (not_end h) ∙ all_after (rest m s c) ∙ ap is_empty (sym r.left)

    pub name_whole : {b : Bool} → y.u ≡ 256 → b ≡ is_carried_name (rest m s c) → b ≡ is_component_name (rest m s c)
    unfolding ◌and◌
    name_whole g f = f ∙ sym (rw (name_is, ap is_empty (ends g)))
      where
        ends : y.u ≡ 256 → rest m s e ≡ []
        ends z = q.is ∙ (unfold spell pick in rw (eq-eqb y.u 256 z))

    pub name_broken : (y.u ≡ 256 → ⊥) → false ≡ is_component_name (rest m s c)
    unfolding ◌and◌
    name_broken g = sym (rw (name_is, ap is_empty (goes g)))
      where
        goes : (y.u ≡ 256 → ⊥) → rest m s e ≡ y.u ∷ rest m s y.next
        goes z = q.is ∙ (unfold spell pick in rw (ne_eqb y.u 256 z))

pub ruleset naming = (name_none, name_whole, name_broken, rules)

-- ---- two names

module _ (a b : List ℕ) {k : ℕ} (e : k ≡ order a b) where
  pub names_same : k ≡ 0 → true ≡ same a b
  names_same h = sym (order_same a b (sym e ∙ h))

  pub names_apart : (k ≡ 0 → ⊥) → false ≡ same a b
  names_apart h = sym (order_apart a b k (sym e) h)

pub ruleset comparing = (names_same, names_apart, rules)
