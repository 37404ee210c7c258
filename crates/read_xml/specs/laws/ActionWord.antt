-- The word of an ACTION: the first child that is named as a type, where the type is TEXT (10).
--     other_word     a value of another type has no word
--     Wording        the invariant of the walk to that child;   actions: the rules
use Rattle.std.specs.Prelude.{◌≡◌, refl, false, List, [], ℕ, take, Option, None, Some, option_map}
use Rattle.std.proofs.Math.Path.{sym, ap, subst}
use Rattle.std.proofs.Common.{◌∙◌, rules, ne_eqb}
use Rattle.std.proofs.lemmas.Bool.{false≢true}
use Rattle.std.proofs.Math.Logic.{◌⊎◌, inl, inr}
use Rattle.octets.specs.Ascii.{ascii}
use Rattle.octets.specs.Pick.{pick}
use Rattle.octets.specs.Reading.{read_or}
use Rattle.octets.specs.Computing.{octets_compute}
use Rattle.source.specs.Source.{rest}
use Rattle.names.specs.Table.{place_of}
use Rattle.calendar.specs.Calendar.{ValueType, BINARY, BOOLEAN, CAL-ADDRESS, DATE, DATE-TIME, DURATION, FLOAT, INTEGER, PERIOD, RECUR, TEXT, TIME, URI, UTC-OFFSET, UNKNOWN, xcal, Value, text, text_in, binary, boolean, cal_address, date, date_time, duration, float, integer, time, uri, utc_offset, unknown}
use Rattle.schema.specs.Types.{same_type}
use Rattle.schema.specs.Numbers.{type_at}
use Rattle.schema.specs.Counts.{first_text}
use Rattle.schema.specs.Completing.{action_named, alarm_action}
use Rattle.schema.specs.declared.Action.{Action}
use Rattle.schema.specs.laws.Places.{type_back}
use Rattle.times.specs.Date.{read_date}
use Rattle.times.specs.Time.{read_time}
use Rattle.times.specs.DateTime.{read_date_time}
use Rattle.times.specs.Duration.{read_duration}
use Rattle.times.specs.UtcOffset.{read_utc_offset}
use Rattle.numbers.specs.Integer.{read_integer}
use Rattle.numbers.specs.Float.{read_float}
use Rattle.numbers.specs.Boolean.{read_boolean}
use Rattle.texts.specs.Uri.{read_uri}
use Rattle.texts.specs.Binary.{read_binary}
use Rattle.texts.specs.Unknown.{read_unknown}
use Rattle.values.specs.ReadValue.{read_value}
use Rattle.xml.specs.Nodes.{Nodes, characters_of}
use Rattle.xcal.specs.ValueNodes.{child_named, period_of, value_of, typed_values}
use Rattle.xml.specs.NodesAt.{nodes_at}
use Rattle.read_xml_nodes.specs.HeadFound.{HeadAt, NodeEnded}
use Rattle.read_xml_nodes.specs.laws.HeadFound.{head_none, head_element, head_whole, head_literal, head_referred, head_less}
use Rattle.read_xml_nodes.specs.declared.Ended.{Ended}
use Rattle.read_xml_nodes.specs.declared.Head.{Head}
use Rattle.read_xml_nodes.specs.declared.NodeKind.TheVariants.{Absent, Element, Literal, Referred}
use Rattle.read_xml_value.specs.ElementTypes.{TypeNamed}
use Rattle.read_xml.specs.laws.Turning.{head_content}

abbrev word_of : Value → Option Action
word_of v = alarm_action (text_in v)

no_word : word_of (text []) ≡ None
unfolding octets_compute place_of
no_word = refl

unread : {A : Type 0} (f : A → Value) (h : (a : A) → word_of (f a) ≡ None) (o : Option A) → word_of (read_or (text []) (option_map f o)) ≡ None
unfolding read_or
unread f h None = no_word
unread f h (Some a) = h a

period_word : (o : Option (List ℕ)) (kids : Nodes) → word_of (period_of o kids) ≡ None
period_word None kids = refl
period_word (Some d) kids = refl

other_word : (t : ValueType) (kids : Nodes) → same_type t TEXT ≡ false → word_of (value_of t kids) ≡ None
unfolding value_of same_type pick read_value
other_word BINARY kids h = unread binary (λ a. refl) (read_binary xcal (characters_of kids))
other_word BOOLEAN kids h = unread boolean (λ a. refl) (read_boolean xcal (characters_of kids))
other_word CAL-ADDRESS kids h = unread cal_address (λ a. refl) (read_uri (characters_of kids))
other_word DATE kids h = unread date (λ a. refl) (read_date xcal (characters_of kids))
other_word DATE-TIME kids h = unread date_time (λ a. refl) (read_date_time xcal (characters_of kids))
other_word DURATION kids h = unread duration (λ a. refl) (read_duration xcal (characters_of kids))
other_word FLOAT kids h = unread float (λ a. refl) (read_float (characters_of kids))
other_word INTEGER kids h = unread integer (λ a. refl) (read_integer (characters_of kids))
other_word PERIOD kids h = period_word (child_named (ascii "duration") kids) kids
other_word RECUR kids h = refl
other_word TEXT kids h = absurd (false≢true (sym h))
other_word TIME kids h = unread time (λ a. refl) (read_time xcal (characters_of kids))
other_word URI kids h = unread uri (λ a. refl) (read_uri (characters_of kids))
other_word UTC-OFFSET kids h = unread utc_offset (λ a. refl) (read_utc_offset xcal (characters_of kids))
other_word UNKNOWN kids h = unread unknown (λ a. refl) (read_unknown (characters_of kids))

text_word : (kids : Nodes) → word_of (value_of TEXT kids) ≡ action_named (characters_of kids)
unfolding value_of same_type pick read_value read_or
text_word kids = refl

abbrev pub word_in : Nodes → Option Action
word_in kids = alarm_action (first_text (typed_values kids))

pub record Wording (s : List ℕ) (from at : ℕ) : Type 0 where
  pub is : word_in (nodes_at s from) ≡ word_in (nodes_at s at)

pub word_start : (s : List ℕ) (from : ℕ) → Wording s from from
word_start s from = record { is = refl }

module _ {s : List ℕ} {from at : ℕ} {r : Head} (i : Wording s from at) (n : HeadAt s at r) where
  pub word_none : r.kind ≡ Absent → None ≡ word_in (nodes_at s from)
  unfolding typed_values
  word_none q = sym (i.is ∙ ap word_in (head_none n q))

  pub word_character : (r.kind ≡ Literal) ⊎ (r.kind ≡ Referred) → Wording s from r.next
  unfolding typed_values
  word_character (inl q) = record { is = i.is ∙ ap word_in (head_literal n q) }
  word_character (inr q) = record { is = i.is ∙ ap word_in (head_referred n q) }

  module _ (q : r.kind ≡ Element) {t : Option ℕ} (d : TypeNamed (rest 0 (take r.name_end s) r.name) t) where
    pub word_past : {e : Ended} → NodeEnded s at r.opens r.next e → t ≡ None → Wording s from e.next
    unfolding typed_values
    word_past y z = let f : TypeNamed (rest 0 (take r.name_end s) r.name) None = subst (TypeNamed _) z d in record { is = i.is ∙ ap word_in (head_whole n q y) ∙ rw f.is }

    module _ {u : ℕ} (z : t ≡ Some u) where
      word_typed : word_in (nodes_at s from) ≡ word_of (value_of (type_at u) (nodes_at s r.inside))
      unfolding typed_values
      word_typed = let f : TypeNamed (rest 0 (take r.name_end s) r.name) (Some u) = subst (TypeNamed _) z d in i.is ∙ ap word_in (head_element n q) ∙ rw f.is

      pub word_here : {a : Option Action} → u ≡ 10 → a ≡ action_named (characters_of (nodes_at s r.inside)) → a ≡ word_in (nodes_at s from)
      word_here h e = e ∙ sym (word_typed ∙ ap (λ (k : ℕ). word_of (value_of (type_at k) (nodes_at s r.inside))) h ∙ text_word (nodes_at s r.inside))

      pub word_other : (u ≡ 10 → ⊥) → None ≡ word_in (nodes_at s from)
      unfolding same_type
      word_other h =
          let f : TypeNamed (rest 0 (take r.name_end s) r.name) (Some u) = subst (TypeNamed _) z d in
          sym (word_typed ∙ other_word (type_at u) (nodes_at s r.inside) (rw (type_back u f.small) (ne_eqb u 10 h)))

pub ruleset actions = (word_start, word_none, word_character, word_past, word_here, word_other, head_content, head_less, rules)
