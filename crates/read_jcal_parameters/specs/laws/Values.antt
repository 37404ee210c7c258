-- Laws of what specs/Values.antt defines.
--     Holding          the invariant of the look for a byte;   `search holding`
--     truth_.., typed_.., chosen_..    one value
--     plain_.., spelled_.., string_..  what an edition can spell
--     all_.., amount_.., values_..     all values
use Rattle.std.specs.Prelude.{◌≡◌, Bool, List, ℕ, ◌-◌, ◌*◌, ◌<◌, eqb, length, Option, None, Some, is_some}
use Rattle.std.proofs.Math.Path.{refl, sym, ap}
use Rattle.std.proofs.Common.{◌∙◌, arith, rules}
use Rattle.std.proofs.Math.Bool.{true, false}
use Rattle.std.proofs.lemmas.Bool.{false≢true}
use borrow.Author.Tests.{eq-eqb, ne_eqb}
use Rattle.octets.specs.Ascii.{ascii}
use Rattle.octets.specs.Pick.{pick, ◌and◌, ◌or◌}
use Rattle.octets.specs.laws.Pick.{pick_yes, pick_no}
use Rattle.octets.specs.Words.{same, is_one_of, is_empty, holds}
use Rattle.octets.specs.Lists.{every}
use Rattle.octets.specs.Reading.{and_then, is_read, read_or}
use Rattle.calendar.specs.Calendar.{xcal, UNKNOWN, Value, boolean, unknown}
use Rattle.source.specs.Source.{rest, Reads}
use Rattle.source.specs.laws.Facts.{rest_byte, rest_end, byte_small}
use Rattle.source.specs.declared.points.Unit.{Unit}
use Rattle.schema.specs.Types.{type_place, same_type}
use Rattle.schema.specs.laws.Types.{place_type}
use Rattle.schema.specs.Parameters.{ParameterRow}
use Rattle.schema.specs.Numbers.{type_at, parameter_at}
use Rattle.schema.specs.Sets.{is_word_of, parameter_words_at, word_in}
use Rattle.schema.specs.laws.Sets.{word_yes, word_no}
use Rattle.edition.specs.declared.Edition.{Edition}
use Rattle.edition.specs.declared.Edition.TheVariants.{Rfc5545, Rfc6868}
use Rattle.values.specs.ReadValue.{read_value}
use Rattle.values.specs.Valid.{is_amount}
use Rattle.json_text.specs.Tree.{Json, string}
use Rattle.jcal.specs.Parameters.{read_truth, read_word_in, is_plain}
use Rattle.read_json.specs.TreeAt.{string_at}
use Rattle.read_json.specs.Heads.{HeadAt, NextAt}
use Rattle.read_json.specs.Kinds.{is_none, is_string, is_array}
use Rattle.read_json.specs.declared.Head.{Head}
use Rattle.read_jcal_parameters.specs.Shapes.{list_at, given_at}
use Rattle.read_jcal_parameters.specs.laws.Shapes.{Other, list_end, list_some, list_any, list_other, list_more, string_inside, string_less, given_array, given_string, given_other}
use Rattle.read_jcal_parameters.specs.Values.{row_at, read_typed, is_spelled, good_string, good_value, good_values}

-- ---- a byte

pub record Holding (b : ℕ) (s : List ℕ) (from at : ℕ) : Type 0 where
  pub is : holds b (rest 3 s from) ≡ holds b (rest 3 s at)

pub holding_start : (b : ℕ) (s : List ℕ) (from : ℕ) → Holding b s from from
holding_start b s from = record { is = refl }

module _ {b : ℕ} {s : List ℕ} {from at : ℕ} {n : Unit} (c : Holding b s from at) (p : Reads 3 s at n) where
  pub holding_end : n.u ≡ 256 → false ≡ holds b (rest 3 s from)
  unfolding holds
  holding_end h = sym (c.is ∙ rw (rest_end p h))

  module _ (h : n.u ≡ 256 → ⊥) where
    pub holding_here : n.u ≡ b → true ≡ holds b (rest 3 s from)
    unfolding holds ◌or◌
    holding_here q = sym (c.is ∙ rw (rest_byte p h, eq-eqb b n.u (sym q)))

    pub holding_more : (n.u ≡ b → ⊥) → Holding b s from n.next
    unfolding holds ◌or◌
    holding_more q = record { is = c.is ∙ rw (rest_byte p h, ne_eqb b n.u (λ e. q (sym e))) }

    pub holding_less : 4 * length s - n.next < 4 * length s - at
    holding_less = let u : n.u < 256 = byte_small p h in omega (arith, p.moved, p.inside)

pub ruleset holding = (holding_start, holding_end, holding_here, holding_more, holding_less, rules)

-- ---- a word of a closed set, or a value of the type

tested : (b : Bool) (v : Value) → b ≡ is_read (pick b (Some v) None)
unfolding is_read pick
tested true v = refl
tested false v = refl

module _ (l : List ℕ) {a : Bool} (e : a ≡ same l (ascii "TRUE")) where
  pub truth_yes : a ≡ true → true ≡ is_read (read_truth l)
  unfolding is_read pick
  truth_yes h = rw (← e, h)

  pub truth_other : {b : Bool} → a ≡ false → b ≡ same l (ascii "FALSE") → b ≡ is_read (read_truth l)
  unfolding pick
  truth_other h f = f ∙ rw (← e, h) (tested (same l (ascii "FALSE")) (boolean false))

module _ (q : ℕ) (l : List ℕ) {t : ℕ} (i : t ≡ type_place (parameter_at q).type) where
  is_type : (n : ℕ) → t ≡ n → eqb (type_place (parameter_at q).type) n ≡ true
  is_type n k = eq-eqb _ _ (sym i ∙ k)

  no_type : (n : ℕ) → (t ≡ n → ⊥) → eqb (type_place (parameter_at q).type) n ≡ false
  no_type n k = ne_eqb _ _ (λ z. k (i ∙ z))

  pub typed_any : t ≡ 14 → true ≡ is_read (read_typed (row_at q) l)
  unfolding row_at is_read same_type
  typed_any k = ap is_read (sym (pick_yes _ (Some (unknown l)) _ (is_type 14 k)))

  module _ (k : t ≡ 14 → ⊥) where
    later : (o : Option Value) → is_read o ≡ is_read (pick (same_type (parameter_at q).type UNKNOWN) (Some (unknown l)) o)
    unfolding same_type
    later o = ap is_read (sym (pick_no _ (Some (unknown l)) o (no_type 14 k)))

    pub typed_truth : {b : Bool} → t ≡ 1 → b ≡ is_read (read_truth l) → b ≡ is_read (read_typed (row_at q) l)
    unfolding row_at same_type
    typed_truth m e = e ∙ ap is_read (sym (pick_yes _ (read_truth l) (read_value xcal (parameter_at q).type l) (is_type 1 m))) ∙ later _

    pub typed_other : {b : Bool} → (t ≡ 1 → ⊥) → b ≡ is_read (read_value xcal (type_at t) l) → b ≡ is_read (read_typed (row_at q) l)
    unfolding row_at same_type
    typed_other m e =
        e
        ∙ (rw (i, place_type (parameter_at q).type))
        ∙ ap is_read (sym (pick_no _ (read_truth l) (read_value xcal (parameter_at q).type l) (no_type 1 m)))
        ∙ later _

pub word_told : {r : Option ℕ} (o : Option (List (List ℕ))) (l : List ℕ) → r ≡ word_in o l → {b : Bool} → b ≡ is_some r → b ≡ is_word_of o l
word_told {r} o l e f = f ∙ go r e
  where
    go : (r : Option ℕ) → r ≡ word_in o l → is_some r ≡ is_word_of o l
    go None e = word_no o l e refl
    go (Some i) e = word_yes o l e refl

module _ (q : ℕ) (l : List ℕ) {a : Bool} (e : a ≡ is_read (parameter_words_at q)) where
  pub chosen_word : {r : Bool} → a ≡ true → r ≡ is_word_of (parameter_words_at q) l → r ≡ is_read (read_word_in (row_at q).words (row_at q).type l)
  unfolding row_at is_read
  chosen_word {r} h p = go (parameter_words_at q) (sym e ∙ h) p
    where
      go : (o : Option (List (List ℕ))) → is_read o ≡ true → r ≡ is_word_of o l → r ≡ is_read (read_word_in o (parameter_at q).type l)
      go None k w = absurd (false≢true k)
      go (Some ws) k w = w ∙ tested (is_one_of l ws) _

  pub chosen_typed : {r : Bool} → a ≡ false → r ≡ is_read (read_typed (row_at q) l) → r ≡ is_read (read_word_in (row_at q).words (row_at q).type l)
  unfolding row_at is_read
  chosen_typed {r} h p = go (parameter_words_at q) (sym e ∙ h)
    where
      go : (o : Option (List (List ℕ))) → is_read o ≡ false → r ≡ is_read (read_word_in o (parameter_at q).type l)
      go None k = p
      go (Some ws) k = absurd (false≢true (sym k))

-- ---- what an edition can spell

module _ (l : List ℕ) {a : Bool} (e : a ≡ holds 34 l) where
  pub plain_quote : a ≡ true → false ≡ is_plain l
  unfolding ◌or◌
  plain_quote h = rw (← e, h)

  module _ (h : a ≡ false) {b : Bool} (f : b ≡ holds 10 l) where
    pub plain_feed : b ≡ true → false ≡ is_plain l
    unfolding ◌or◌
    plain_feed k = rw (← e, h, ← f, k)

    pub plain_yes : b ≡ false → true ≡ is_plain l
    unfolding ◌or◌
    plain_yes k = rw (← e, h, ← f, k)

pub spelled_old : {ed : Edition} {b : Bool} (l : List ℕ) → ed ≡ Rfc5545 → b ≡ is_plain l → b ≡ is_spelled ed l
unfolding is_spelled
spelled_old l h e = rw h e

pub spelled_new : {ed : Edition} (l : List ℕ) → ed ≡ Rfc6868 → true ≡ is_spelled ed l
unfolding is_spelled
spelled_new l h = rw h

module _ (ed : Edition) (r : ParameterRow) (l : List ℕ) {a : Bool} (e : a ≡ is_read (read_word_in r.words r.type l)) where
  pub string_not : a ≡ false → false ≡ good_string ed r l
  unfolding good_string ◌and◌
  string_not h = rw (← e, h)

  pub string_spelled : {b : Bool} → a ≡ true → b ≡ is_spelled ed l → b ≡ good_string ed r l
  unfolding good_string ◌and◌
  string_spelled h f = f ∙ rw (← e, h)

-- ---- all values

string_good : (ed : Edition) (r : ParameterRow) (p : ℕ) (l : List ℕ) → good_value ed r (string p l) ≡ good_string ed r l
unfolding good_value good_string and_then read_or
string_good ed r p l = refl

other_bad : (ed : Edition) (r : ParameterRow) {vs : List Json} → Other vs → false ≡ every (good_value ed r) vs
unfolding every good_value and_then is_read ◌and◌
other_bad ed r o = rw (o.is, o.kind)

pub record Goods (ed : Edition) (q : ℕ) (s : List ℕ) (from at : ℕ) : Type 0 where
  pub is : every (good_value ed (row_at q)) (list_at s from) ≡ every (good_value ed (row_at q)) (list_at s at)

pub goods_start : (ed : Edition) (q : ℕ) (s : List ℕ) (from : ℕ) → Goods ed q s from from
goods_start ed q s from = record { is = refl }

module _ {ed : Edition} {q : ℕ} {s : List ℕ} {from at : ℕ} {h : Head} (w : Goods ed q s from at) (t : HeadAt s at h) {a : Bool} (e : a ≡ is_string h.kind) where
  pub goods_end : {b : Bool} → a ≡ false → b ≡ is_none h.kind → b ≡ every (good_value ed (row_at q)) (list_at s from)
  unfolding every
  goods_end {b} k f = sym (w.is ∙ go b refl)
    where
      go : (x : Bool) → b ≡ x → every (good_value ed (row_at q)) (list_at s at) ≡ b
      go true z = rw (list_end t f z, z)
      go false z = sym (z ∙ other_bad ed (row_at q) (list_other t e k f z))

  module _ (k : a ≡ true) {l : List ℕ} (i : l ≡ string_at s h.place) {b : Bool} (f : b ≡ good_string ed (row_at q) l) where
    here : every (good_value ed (row_at q)) (list_at s at) ≡ (b and every (good_value ed (row_at q)) (list_at s h.next))
    unfolding every
    here = rw (list_more t e k, string_good ed (row_at q) h.place (string_at s h.place), ← i, ← f)

    pub goods_more : b ≡ true → Goods ed q s from h.next
    unfolding ◌and◌
    goods_more g = record { is = w.is ∙ here ∙ rw g }

    pub goods_not : b ≡ false → false ≡ every (good_value ed (row_at q)) (list_at s from)
    unfolding ◌and◌
    goods_not g = sym (w.is ∙ here ∙ rw g)

pub ruleset goods = (goods_start, goods_end, goods_more, goods_not, string_inside, string_less, rules)

-- as many as the parameter takes
module _ (q : ℕ) {s : List ℕ} {at : ℕ} {h : Head} (t : HeadAt s at h) {a : Bool} (e : a ≡ is_none h.kind) where
  pub amount_none : a ≡ true → false ≡ is_amount (row_at q).listed (list_at s at)
  amount_none k = rw (list_end t e k)

  module _ (k : a ≡ false) {b : Bool} (f : b ≡ (parameter_at q).listed) where
    pub amount_listed : b ≡ true → true ≡ is_amount (row_at q).listed (list_at s at)
    unfolding row_at ◌or◌
    amount_listed g = rw ((list_some t e k).2, ← f, g)

    pub amount_single : {r : ℕ} {u : Head} {c : Bool} → b ≡ false → NextAt s h r → HeadAt s r u → c ≡ is_none u.kind → c ≡ is_amount (row_at q).listed (list_at s at)
    unfolding row_at ◌or◌
    amount_single {r} {u} {c} g n v d = rw ((list_any t n e k).1, ← f, g) (go c refl)
      where
        go : (x : Bool) → c ≡ x → c ≡ is_empty (list_at s r)
        go true z = z ∙ rw (list_end v d z)
        go false z = z ∙ rw (list_some v d z).2

-- a value alone, or an array of them
module _ (ed : Edition) (q : ℕ) {s : List ℕ} {at : ℕ} {h : Head} (t : HeadAt s at h) {a : Bool} (e : a ≡ is_array h.kind) where
  module _ (k : a ≡ true) {b : Bool} (f : b ≡ every (good_value ed (row_at q)) (list_at s h.next)) where
    pub values_not : b ≡ false → false ≡ good_values ed (row_at q) (given_at s at)
    unfolding good_values ◌and◌
    values_not g = rw (given_array t e k, ← f, g)

    pub values_many : {c : Bool} → b ≡ true → c ≡ is_amount (row_at q).listed (list_at s h.next) → c ≡ good_values ed (row_at q) (given_at s at)
    unfolding good_values ◌and◌
    values_many g d = d ∙ rw (given_array t e k, ← f, g)

  module _ (k : a ≡ false) {b : Bool} (f : b ≡ is_string h.kind) where
    pub values_alone : {l : List ℕ} {d : Bool} → b ≡ true → l ≡ string_at s h.place → d ≡ good_string ed (row_at q) l → d ≡ good_values ed (row_at q) (given_at s at)
    unfolding good_values every ◌and◌ ◌or◌
    values_alone {l} {d} g i z =
        sym (rw (given_string t f g, string_good ed (row_at q) h.place (string_at s h.place), ← i, ← z) (go d (row_at q).listed))
      where
        go : (x y : Bool) → ((x and true) and (y or true)) ≡ x
        go true true = refl
        go true false = refl
        go false y = refl

    pub values_other : b ≡ false → false ≡ good_values ed (row_at q) (given_at s at)
    unfolding good_values ◌and◌
    values_other g = rw (← (other_bad ed (row_at q) (given_other t e k f g)))
