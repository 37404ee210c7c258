-- Laws of what specs/Leaves.antt defines.
--     Holding          the invariant of the look for a byte;   `search holding`
--     word_kept        a word of a closed set was read
--     chosen_..        a word of a closed set, or a value of the type
--     leaf_..          a value is characters alone
--     type_words       the names of the types' elements, by the types' numbers;   type_word: compared by number
--     value_..         an element that is a value
use Rattle.std.specs.Prelude.{◌≡◌, Bool, List, ℕ, ◌-◌, ◌*◌, ◌<◌, length, Option, None, Some, is_some}
use Rattle.std.proofs.Math.Path.{refl, sym}
use Rattle.std.proofs.Common.{ap, ◌∙◌, arith, rules}
use Rattle.std.proofs.Math.Bool.{true, false}
use Rattle.std.proofs.lemmas.Bool.{false≢true}
use borrow.Author.Tests.{eq-eqb, ne_eqb}
use Rattle.octets.specs.Ascii.{ascii}
use Rattle.octets.specs.Pick.{pick, ◌or◌}
use Rattle.octets.specs.laws.Pick.{pick_yes, pick_no, and_go, and_stop}
use Rattle.octets.specs.Words.{is_one_of, holds}
use Rattle.octets.specs.Reading.{is_read}
use Rattle.calendar.specs.Calendar.{xcal, Value, unknown}
use Rattle.source.specs.Source.{rest, Reads}
use Rattle.source.specs.laws.Facts.{rest_byte, rest_end, byte_small, rest_plain}
use Rattle.source.specs.declared.points.Unit.{Unit}
use Rattle.names.specs.Table.{place_of, names_in}
use Rattle.schema.specs.Types.{type_place, same_type}
use Rattle.schema.specs.laws.Types.{place_type}
use Rattle.schema.specs.Parameters.{ParameterRow}
use Rattle.schema.specs.Numbers.{type_at, parameter_at, type_words}
use Rattle.schema.specs.laws.Numbers.{type_words_are}
use Rattle.schema.specs.Sets.{is_word_of, parameter_words_at, word_in}
use Rattle.schema.specs.laws.Sets.{word_yes, word_no}
use Rattle.schema.specs.laws.Places.{type_word}
use Rattle.values.specs.ReadValue.{read_value}
use Rattle.xml.specs.Nodes.{Nodes, characters_of, has_element}
use Rattle.xcal.specs.ParameterNodes.{read_word_in}
use Rattle.read_xml_parameters.specs.Rows.{row_at, read_leaf}
use Rattle.read_xml_parameters.specs.Leaves.{is_value}

-- ---- a word

pub word_kept : (o : Option (List (List ℕ))) (w : List ℕ) (r : Option ℕ) → r ≡ word_in o w → is_some r ≡ is_word_of o w
word_kept o w None e = word_no o w e refl
word_kept o w (Some i) e = word_yes o w e refl

-- ---- a byte

pub record Holding (b m : ℕ) (s : List ℕ) (from at : ℕ) : Type 0 where
  pub is : holds b (rest m s from) ≡ holds b (rest m s at)

pub holding_start : (b m : ℕ) (s : List ℕ) (from : ℕ) → Holding b m s from from
holding_start b m s from = record { is = refl }

module _ {b m : ℕ} {s : List ℕ} {from at : ℕ} {n : Unit} (c : Holding b m s from at) (p : Reads m s at n) where
  pub holding_end : n.u ≡ 256 → false ≡ holds b (rest m s from)
  unfolding holds
  holding_end h = sym (c.is ∙ rw (rest_end p h))

  module _ (h : n.u ≡ 256 → ⊥) where
    pub holding_here : n.u ≡ b → true ≡ holds b (rest m s from)
    unfolding holds ◌or◌
    holding_here q = sym (c.is ∙ rw (rest_byte p h, eq-eqb b n.u (sym q)))

    pub holding_more : (n.u ≡ b → ⊥) → Holding b m s from n.next
    unfolding holds ◌or◌
    holding_more q = record { is = c.is ∙ rw (rest_byte p h, ne_eqb b n.u (λ e. q (sym e))) }

    pub holding_less : 4 * length s - n.next < 4 * length s - at
    holding_less = let u : n.u < 256 = byte_small p h in omega (arith, p.moved, p.inside)

pub ruleset holding = (holding_start, holding_end, holding_here, holding_more, holding_less, rules)

-- ---- a word of a closed set, or a value of the type

module _ (q : ℕ) (l : List ℕ) {a : Bool} (e : a ≡ is_read (parameter_words_at q)) where
  tested : (b : Bool) (v : Value) → b ≡ is_read (pick b (Some v) None)
  unfolding is_read pick
  tested true v = refl
  tested false v = refl

  pub chosen_word : {r : Bool} → a ≡ true → r ≡ is_word_of (parameter_words_at q) l → r ≡ is_read (read_word_in (row_at q).words (row_at q).type l)
  unfolding row_at is_read
  chosen_word {r} h p = go (parameter_words_at q) (sym e ∙ h) p
    where
      go : (o : Option (List (List ℕ))) → is_read o ≡ true → r ≡ is_word_of o l → r ≡ is_read (read_word_in o (parameter_at q).type l)
      go None k w = absurd (false≢true k)
      go (Some ws) k w = w ∙ tested (is_one_of l ws) _

  module _ {t : ℕ} (h : a ≡ false) (i : t ≡ type_place (parameter_at q).type) where
    of_type : {r : Bool} → r ≡ is_read (read_word_in None (parameter_at q).type l) → r ≡ is_read (read_word_in (row_at q).words (row_at q).type l)
    unfolding row_at is_read
    of_type {r} p = go (parameter_words_at q) (sym e ∙ h)
      where
        go : (o : Option (List (List ℕ))) → is_read o ≡ false → r ≡ is_read (read_word_in o (parameter_at q).type l)
        go None k = p
        go (Some ws) k = absurd (false≢true (sym k))

    pub chosen_any : t ≡ 14 → true ≡ is_read (read_word_in (row_at q).words (row_at q).type l)
    unfolding is_read same_type
    chosen_any k = of_type (ap is_read (sym (pick_yes _ (Some (unknown l)) _ (eq-eqb _ _ (sym i ∙ k)))))

    pub chosen_other : {r : Bool} → (t ≡ 14 → ⊥) → r ≡ is_read (read_value xcal (type_at t) l) → r ≡ is_read (read_word_in (row_at q).words (row_at q).type l)
    unfolding same_type
    chosen_other {r} k p = of_type (p ∙ rw (i, place_type (parameter_at q).type) (ap is_read (sym (pick_no _ (Some (unknown l)) _ (ne_eqb _ _ (λ z. k (i ∙ z)))))))

-- ---- characters alone

module _ (r : ParameterRow) (kids : Nodes) {a : Bool} (e : a ≡ has_element kids) where
  pub leaf_inner : a ≡ true → false ≡ is_read (read_leaf r kids)
  unfolding read_leaf pick is_read
  leaf_inner h = rw (← e, h)

  pub leaf_chosen : {l : List ℕ} {v : Bool} → a ≡ false → l ≡ characters_of kids → v ≡ is_read (read_word_in r.words r.type l) → v ≡ is_read (read_leaf r kids)
  unfolding read_leaf pick
  leaf_chosen h i p = p ∙ rw (← e, h, ← i)

-- ---- the name of a value's element

module _ (q : ℕ) (w : List ℕ) (kids : Nodes) {t k : ℕ} (e : t ≡ type_place (parameter_at q).type)
    (f : k ≡ place_of (rest 0 w 0) (names_in (ascii "binary\nboolean\ncal-address\ndate\ndate-time\nduration\nfloat\ninteger\nperiod\nrecur\ntext\ntime\nuri\nutc-offset\nunknown\n"))) where
  placed : k ≡ place_of w type_words
  placed = f ∙ rw (rest_plain w, type_words_are)

  pub value_named : {b : Bool} → k ≡ t → b ≡ is_read (read_leaf (row_at q) kids) → b ≡ is_value (row_at q) w kids
  unfolding row_at
  value_named h p = and_go _ _ _ (type_word w (parameter_at q).type ∙ eq-eqb _ _ (sym placed ∙ h ∙ e)) p

  pub value_other : (k ≡ t → ⊥) → false ≡ is_value (row_at q) w kids
  unfolding row_at
  value_other h = and_stop _ _ (type_word w (parameter_at q).type ∙ ne_eqb _ _ (λ z. h (placed ∙ z ∙ sym e)))
