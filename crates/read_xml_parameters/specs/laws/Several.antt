-- Laws of what specs/Several.antt defines.
--     all_read    then they can be read
--     amount_is                 one value at most
--     good_is                   what `values_good` asks for
--     first_is_lem              the first value's characters are a word
--     all_.., single_.., good_.., first_.., plain_.., spelled_..    for code
use Rattle.std.specs.Prelude.{◌≡◌, refl, Bool, true, false, not, List, [], ℕ, Option, None, Some}
use Rattle.std.proofs.Math.Path.{sym, ap}
use Rattle.std.proofs.Common.{◌∙◌, rules}
use Rattle.octets.specs.Ascii.{ascii}
use Rattle.octets.specs.Pick.{pick, ◌and◌, ◌or◌}
use Rattle.octets.specs.Class.{lower, is_space}
use Rattle.octets.specs.Words.{same, is_one_of, is_empty, holds}
use Rattle.octets.specs.Reading.{is_read, read_or, and_then, cons_read}
use Rattle.octets.specs.laws.Reading.{none-some, provided-some}
use Rattle.calendar.specs.Calendar.{Value, text}
use Rattle.schema.specs.Types.{type_name}
use Rattle.schema.specs.Parameters.{ParameterRow}
use Rattle.schema.specs.Numbers.{parameter_at}
use Rattle.xml.specs.Nodes.{Nodes, no_nodes, element, literal, referred, characters_of, has_element}
use Rattle.edition.specs.declared.Edition.{Edition}
use Rattle.edition.specs.declared.Edition.TheVariants.{Rfc5545, Rfc6868}
use Rattle.xcal.specs.ParameterNodes.{read_word_in, as_many, values_good, are_plain, are_spelled, are_base64}
use Rattle.xml.specs.NodesAt.{nodes_at}
use Rattle.read_xml_nodes.specs.NodeFound.{NodeAt}
use Rattle.read_xml_nodes.specs.laws.NodeFound.{node_none, node_literal, node_referred, element_less, literal_less}
use Rattle.read_xml_nodes.specs.laws.Walks.{Passing, passing_start, Skips}
use Rattle.read_xml_nodes.specs.declared.Node.{Node}
use Rattle.read_xml_nodes.specs.declared.NodeKind.TheVariants.{Absent, Element, Literal, Referred}
use Rattle.read_xml_parameters.specs.Children.{ChildAt, name_of}
use Rattle.read_xml_parameters.specs.laws.Children.{node_named, children_none, children_some, child_less}
use Rattle.read_xml_parameters.specs.Rows.{row_at, read_leaf, read_leaves}
use Rattle.read_xml_parameters.specs.laws.Rows.{literal_read, element_read}
use Rattle.read_xml_parameters.specs.Leaves.{is_value}
use Rattle.read_xml_parameters.specs.Several.{all_values, is_single, good_by, first_is}
use Rattle.read_xml_parameters.specs.declared.Child.{Child}

-- ---- all are values

pub all_read : (r : ParameterRow) (kids : Nodes) → is_read (read_leaves r kids) ≡ all_values r kids
unfolding all_values read_leaves is_read pick ◌and◌ and_then cons_read
all_read r no_nodes = refl
all_read r (literal p b more) = go (is_space b) (all_read r more)
  where
    go : (t : Bool) → is_read (read_leaves r more) ≡ all_values r more → is_read (pick t (read_leaves r more) None) ≡ (t and all_values r more)
    go true e = e
    go false e = refl
all_read r (referred p bs more) = refl
all_read r (element p m x kids more) = go (same m (lower (type_name r.type))) (read_leaf r kids) (all_read r more)
  where
    of : (o : Option (List Value)) (v : Value) → is_read (cons_read v o) ≡ is_read o
    of None v = refl
    of (Some vs) v = refl

    go : (t : Bool) (o : Option Value) → is_read (read_leaves r more) ≡ all_values r more →
        is_read (pick t (and_then o (λ v. cons_read v (read_leaves r more))) None) ≡ ((t and is_read o) and all_values r more)
    go true None e = refl
    go true (Some v) e = of (read_leaves r more) v ∙ e
    go false o e = refl

module _ (r : ParameterRow) {s : List ℕ} {from at : ℕ} {n : Node} (p : Passing (all_values r) s from at) (a : NodeAt s at n) where
  pub all_none : n.kind ≡ Absent → true ≡ all_values r (nodes_at s from)
  unfolding all_values
  all_none q = sym (p.is ∙ ap (all_values r) (node_none a q))

  pub all_referred : n.kind ≡ Referred → false ≡ all_values r (nodes_at s from)
  unfolding all_values
  all_referred q = sym (p.is ∙ ap (all_values r) (node_referred a q))

  module _ {b : Bool} (q : n.kind ≡ Literal) (e : b ≡ is_space n.unit) where
    pub all_space : b ≡ true → Passing (all_values r) s from n.next
    unfolding all_values ◌and◌
    all_space h = record { is = p.is ∙ ap (all_values r) (node_literal a q) ∙ rw (← e, h) }

    pub all_character : b ≡ false → false ≡ all_values r (nodes_at s from)
    unfolding all_values ◌and◌
    all_character h = sym (p.is ∙ ap (all_values r) (node_literal a q) ∙ rw (← e, h))

  module _ {b : Bool} (q : n.kind ≡ Element) (e : b ≡ is_value r (name_of s n.name n.name_end) (nodes_at s n.inside)) where
    pub all_value : b ≡ true → Passing (all_values r) s from n.next
    unfolding all_values ◌and◌
    all_value h = record { is = p.is ∙ ap (all_values r) (node_named a q) ∙ rw (← e, h) }

    pub all_other : b ≡ false → false ≡ all_values r (nodes_at s from)
    unfolding all_values ◌and◌
    all_other h = sym (p.is ∙ ap (all_values r) (node_named a q) ∙ rw (← e, h))

pub ruleset valued = (passing_start, all_none, all_referred, all_space, all_character, all_value, all_other, element_less, literal_less, rules)

-- ---- how many

-- values that were read are none exactly where there is no element
read_empty : (r : ParameterRow) (kids : Nodes) (vs : List Value) → read_leaves r kids ≡ Some vs → not (has_element kids) ≡ is_empty vs
unfolding read_leaves has_element pick
read_empty r no_nodes vs h = let z : [] ≡ vs = cc in rw (← z)
read_empty r (literal p b more) vs h = read_empty r more vs (literal_read r vs p b more h)
read_empty r (referred p bs more) vs h = none-some h
read_empty r (element p m x kids more) vs h = let a = element_read r vs p m x kids more h in rw (← a.4)

pub amount_is : (listed : Bool) (r : ParameterRow) (kids : Nodes) (vs : List Value) → read_leaves r kids ≡ Some vs → as_many listed vs ≡ (listed or is_single kids)
unfolding read_leaves is_single pick ◌or◌
amount_is listed r no_nodes vs h = let z : [] ≡ vs = cc in rw (← z) (always listed)
  where
    always : (t : Bool) → true ≡ (t or true)
    always true = refl
    always false = refl
amount_is listed r (literal p b more) vs h = amount_is listed r more vs (literal_read r vs p b more h)
amount_is listed r (referred p bs more) vs h = none-some h
amount_is listed r (element p m x kids more) vs h = let a = element_read r vs p m x kids more h in rw (← a.4, read_empty r more a.2 a.3)

pub good_is : (r : ParameterRow) (kids : Nodes) → values_good r.listed (read_leaves r kids) ≡ good_by r kids
unfolding good_by is_read ◌and◌
good_is r kids = rw (← (all_read r kids)) (go (read_leaves r kids) refl)
  where
    go : (o : Option (List Value)) → read_leaves r kids ≡ o → values_good r.listed o ≡ (is_read o and (r.listed or is_single kids))
    go None e = refl
    go (Some vs) e = amount_is r.listed r kids vs e

skips_single : Skips is_single
unfolding is_single
skips_single = record { over_literal = λ p b more. refl; over_referred = λ p bs more. refl }

module _ {s : List ℕ} {at : ℕ} {r : Child} (n : ChildAt s at r) where
  pub single_none : r.there ≡ false → true ≡ is_single (nodes_at s at)
  unfolding is_single
  single_none h = sym (children_none skips_single (passing_start is_single s at) n h)

  module _ {b : Bool} (h : r.there ≡ true) (e : b ≡ has_element (nodes_at s r.next)) where
    pub single_not : b ≡ true → false ≡ is_single (nodes_at s at)
    unfolding is_single
    single_not q = sym (children_some skips_single (passing_start is_single s at) n h ∙ rw (← e, q))

    pub single_one : b ≡ false → true ≡ is_single (nodes_at s at)
    unfolding is_single
    single_one q = sym (children_some skips_single (passing_start is_single s at) n h ∙ rw (← e, q))

module _ (q : ℕ) (kids : Nodes) {a : Bool} (e : a ≡ all_values (row_at q) kids) where
  pub good_other : a ≡ false → false ≡ good_by (row_at q) kids
  unfolding good_by ◌and◌
  good_other h = rw (← e, h)

  module _ {b : Bool} (h : a ≡ true) (f : b ≡ (parameter_at q).listed) where
    pub good_listed : b ≡ true → true ≡ good_by (row_at q) kids
    unfolding good_by row_at ◌and◌ ◌or◌
    good_listed k = rw (← e, h, ← f, k)

    pub good_single : {c : Bool} → b ≡ false → c ≡ is_single kids → c ≡ good_by (row_at q) kids
    unfolding good_by row_at ◌and◌ ◌or◌
    good_single k z = z ∙ rw (← e, h, ← f, k)

-- ---- the first

-- a word of a closed set, as it was read
word_read : (r : ParameterRow) (ws : List (List ℕ)) → r.words ≡ Some ws → (kids : Nodes) (v : Value) → read_leaf r kids ≡ Some v → text (characters_of kids) ≡ v
unfolding read_leaf pick
word_read r ws k kids v h = go (has_element kids) h
  where
    go : (t : Bool) → pick t None (read_word_in r.words r.type (characters_of kids)) ≡ Some v → text (characters_of kids) ≡ v
    go true e = none-some e
    go false e =
        (provided-some (is_one_of (characters_of kids) ws) (text (characters_of kids)) v
        (ap (λ (o : Option (List (List ℕ))). read_word_in o r.type (characters_of kids)) (sym k) ∙ e)).1

-- the first of the words that were read
pub first_is_lem : (r : ParameterRow) (ws : List (List ℕ)) → r.words ≡ Some ws → (kids : Nodes) (vs : List Value) → read_leaves r kids ≡ Some vs → are_base64 vs ≡ first_is (ascii "BASE64") kids
unfolding read_leaves first_is pick read_or
first_is_lem r ws k no_nodes vs h = let z : [] ≡ vs = cc in rw (← z)
first_is_lem r ws k (literal p b more) vs h = first_is_lem r ws k more vs (literal_read r vs p b more h)
first_is_lem r ws k (referred p bs more) vs h = none-some h
first_is_lem r ws k (element p m x kids more) vs h = let a = element_read r vs p m x kids more h in rw (← a.4, ← (word_read r ws k kids a.0 a.1))

skips_first : (w : List ℕ) → Skips (first_is w)
unfolding first_is
skips_first w = record { over_literal = λ p b more. refl; over_referred = λ p bs more. refl }

module _ (w : List ℕ) {s : List ℕ} {at : ℕ} {r : Child} (n : ChildAt s at r) where
  pub first_none : r.there ≡ false → true ≡ first_is w (nodes_at s at)
  unfolding first_is
  first_none h = sym (children_none (skips_first w) (passing_start (first_is w) s at) n h)

  pub first_here : {b : Bool} {l : List ℕ} → r.there ≡ true → l ≡ characters_of (nodes_at s r.inside) → b ≡ same l w → b ≡ first_is w (nodes_at s at)
  unfolding first_is
  first_here h e q = sym (children_some (skips_first w) (passing_start (first_is w) s at) n h ∙ rw (← e) (sym q))

-- ---- no double quote and no LF

skips_plain : Skips are_plain
unfolding are_plain
skips_plain = record { over_literal = λ p b more. refl; over_referred = λ p bs more. refl }

module _ {s : List ℕ} {from at : ℕ} {r : Child} (p : Passing are_plain s from at) (n : ChildAt s at r) where
  pub plain_none : r.there ≡ false → true ≡ are_plain (nodes_at s from)
  unfolding are_plain
  plain_none h = sym (children_none skips_plain p n h)

  module _ {l : List ℕ} (h : r.there ≡ true) (i : l ≡ characters_of (nodes_at s r.inside)) {b : Bool} (f : b ≡ holds 34 l) where
    pub plain_quote : b ≡ true → false ≡ are_plain (nodes_at s from)
    unfolding are_plain ◌or◌ ◌and◌
    plain_quote k = sym (children_some skips_plain p n h ∙ rw (← i, ← f, k))

    module _ {c : Bool} (k : b ≡ false) (g : c ≡ holds 10 l) where
      pub plain_feed : c ≡ true → false ≡ are_plain (nodes_at s from)
      unfolding are_plain ◌or◌ ◌and◌
      plain_feed m = sym (children_some skips_plain p n h ∙ rw (← i, ← f, k, ← g, m))

      pub plain_more : c ≡ false → Passing are_plain s from r.next
      unfolding are_plain ◌or◌ ◌and◌
      plain_more m = record { is = children_some skips_plain p n h ∙ rw (← i, ← f, k, ← g, m) }

pub ruleset plains = (passing_start, plain_none, plain_quote, plain_feed, plain_more, child_less, rules)

pub spelled_old : {ed : Edition} {b : Bool} (kids : Nodes) → ed ≡ Rfc5545 → b ≡ are_plain kids → b ≡ are_spelled ed kids
unfolding are_spelled
spelled_old kids h e = rw h e

pub spelled_new : {ed : Edition} (kids : Nodes) → ed ≡ Rfc6868 → true ≡ are_spelled ed kids
unfolding are_spelled
spelled_new kids h = rw h
