-- Laws of the items of a part of a RECUR.
--     item_string, item_word    the ways of `put_item_of`
--     items_array, items_alone  those of `put_items`
use Rattle.std.specs.Prelude.{◌≡◌, refl, Bool, true, false, List, [], ◌∷◌, map, ℕ, Option, None, Some}
use Rattle.std.proofs.Common.{sym, ap, subst, ◌∙◌}
use Rattle.std.proofs.lemmas.Bool.{false≢true}
use Rattle.octets.specs.Append.{◌⊕◌}
use Rattle.octets.specs.laws.Append.{append_none}
use Rattle.octets.specs.Words.{each_after, joined_by}
use Rattle.octets.specs.Reading.{and_then, read_or, read_each, or_nothing}
use Rattle.octets.specs.laws.Reading.{none-some, and_then-some}
use Rattle.calendar.specs.Calendar.{ical, xcal, RuleItem}
use Rattle.sink.specs.Sink.{Put}
use Rattle.recur.specs.Parts.{ItemForm, word_of, enddate, counting, unsigned, signed, weekdaynum, Part, part_of}
use Rattle.recur.specs.Item.{read_form, read_item, write_item}
use Rattle.json_text.specs.Tree.{Json, first_of, element_list}
use Rattle.json_text.specs.Kinds.{as_string, as_number, as_array, or_alone}
use Rattle.jcal.specs.Values.{item_text}
use Rattle.jcal.specs.Values.{read_item as read_item_of}
use Rattle.read_json.specs.TreeAt.{elements_at, string_at, word_at}
use Rattle.read_json.specs.Heads.{value_by, value_of_head, HeadAt}
use Rattle.read_json.specs.Kinds.{is_string, is_array}
use Rattle.read_json.specs.declared.Head.{Head}
use Rattle.read_json.specs.declared.HeadKind.{HeadKind}
use Rattle.read_json.specs.declared.HeadKind.TheVariants.{Absent, String, Number, Literal, Array, Object}
use Rattle.write_text_jcal_values.specs.Elements.{list_at}
use Rattle.write_text_jcal_values.specs.laws.Elements.{head_first}
use Rattle.write_text_jcal_values.specs.laws.Joining.{same_some, each_first, each_none}
use Rattle.write_text_jcal_values.specs.laws.Own.{put_some, string_chars}
use Rattle.write_text_jcal_values.specs.Rules.{part_name, item_of}

-- ---- one item

-- the characters of an item are those of a string or of a number
text_either : (f : ItemForm) (v : Json) (l : List ℕ) → item_text f v ≡ Some l → {P : Type 0} → (as_string v ≡ Some l → P) → (as_number v ≡ Some l → P) → P
text_either (word_of ws) v l h a b = a h
text_either enddate v l h a b = a h
text_either counting v l h a b = b h
text_either (unsigned d lo hi) v l h a b = b h
text_either (signed d hi) v l h a b = b h
text_either weekdaynum v l h a b = a h

string_number : (k : HeadKind) (s : List ℕ) (p n : ℕ) (l : List ℕ) → is_string k ≡ true → as_number (value_by k s p n) ≡ Some l → l ≡ string_at s p
string_number Absent s p n l q h = none-some h
string_number String s p n l q h = none-some h
string_number Number s p n l q h = absurd (false≢true q)
string_number Literal s p n l q h = none-some h
string_number Array s p n l q h = none-some h
string_number Object s p n l q h = none-some h

other_chars : (k : HeadKind) (s : List ℕ) (p n : ℕ) (l : List ℕ) → is_string k ≡ false → as_string (value_by k s p n) ≡ Some l → l ≡ word_at s p n
other_chars Absent s p n l q h = none-some h
other_chars String s p n l q h = absurd (false≢true (sym q))
other_chars Number s p n l q h = none-some h
other_chars Literal s p n l q h = none-some h
other_chars Array s p n l q h = none-some h
other_chars Object s p n l q h = none-some h

other_number : (k : HeadKind) (s : List ℕ) (p n : ℕ) (l : List ℕ) → as_number (value_by k s p n) ≡ Some l → l ≡ word_at s p n
other_number Absent s p n l h = none-some h
other_number String s p n l h = none-some h
other_number Number s p n l h = sym (same_some h)
other_number Literal s p n l h = none-some h
other_number Array s p n l h = none-some h
other_number Object s p n l h = none-some h

-- an item that a value states, by its characters
item_read : (p : ℕ) (v : Json) (i : RuleItem) (x : List ℕ) → item_of p v ≡ Some i → ((l : List ℕ) → as_string v ≡ Some l → l ≡ x) → ((l : List ℕ) → as_number v ≡ Some l → l ≡ x) → read_item xcal (part_name p) x ≡ Some i
unfolding and_then
item_read p v i x h a b =
    let e = and_then-some (part_of (part_name p)) (λ r. read_item_of r v) i h in
    let g = and_then-some (item_text e.0.form v) (read_form xcal e.0.form) i e.2 in
    let z : g.0 ≡ x = text_either e.0.form v g.0 g.1 (a g.0) (b g.0) in
    rw e.1 (subst (λ (l : List ℕ). read_form xcal e.0.form l ≡ Some i) z g.2)

module _ (p : ℕ) (s : List ℕ) (h : Head) {d e : List ℕ} {o r : ℕ} {b : Bool} (q : b ≡ is_string h.kind) where
  pub item_string : b ≡ true → Put d e o r (or_nothing (write_item ical) (read_item xcal (part_name p) (string_at s h.place))) → (i : RuleItem) → item_of p (value_of_head s h) ≡ Some i → Put d e o r (write_item ical i)
  item_string y w i k =
      put_some (write_item ical) (item_read p (value_of_head s h) i (string_at s h.place) k
      (λ l. string_chars h.kind s h.place h.next l) (λ l. string_number h.kind s h.place h.next l (sym q ∙ y))) w

  pub item_word : b ≡ false → Put d e o r (or_nothing (write_item ical) (read_item xcal (part_name p) (word_at s h.place h.next))) → (i : RuleItem) → item_of p (value_of_head s h) ≡ Some i → Put d e o r (write_item ical i)
  item_word y w i k =
      put_some (write_item ical) (item_read p (value_of_head s h) i (word_at s h.place h.next) k
      (λ l. other_chars h.kind s h.place h.next l (sym q ∙ y)) (λ l. other_number h.kind s h.place h.next l)) w

-- ---- all of them

alone_array : (k : HeadKind) (s : List ℕ) (p n : ℕ) → is_array k ≡ true → or_alone (value_by k s p n) ≡ element_list (elements_at s n)
unfolding read_or
alone_array Absent s p n q = absurd (false≢true q)
alone_array String s p n q = absurd (false≢true q)
alone_array Number s p n q = absurd (false≢true q)
alone_array Literal s p n q = absurd (false≢true q)
alone_array Array s p n q = refl
alone_array Object s p n q = absurd (false≢true q)

alone_other : (k : HeadKind) (s : List ℕ) (p n : ℕ) → is_array k ≡ false → or_alone (value_by k s p n) ≡ value_by k s p n ∷ []
unfolding read_or
alone_other Absent s p n q = refl
alone_other String s p n q = refl
alone_other Number s p n q = refl
alone_other Literal s p n q = refl
alone_other Array s p n q = absurd (false≢true (sym q))
alone_other Object s p n q = refl

one_joined : (c : ℕ) (l : List ℕ) → joined_by c (l ∷ []) ≡ l
unfolding joined_by each_after
one_joined c l = append_none l

module _ (p : ℕ) {s : List ℕ} {at : ℕ} {h : Head} (t : HeadAt s at h) {d e : List ℕ} {o r : ℕ} {b : Bool} (q : b ≡ is_array h.kind) where
  pub items_array : b ≡ true → ((is : List RuleItem) → read_each (item_of p) (list_at s h.next) ≡ Some is → Put d e o r (joined_by 44 (map (write_item ical) is))) →
      (is : List RuleItem) → read_each (item_of p) (or_alone (first_of (elements_at s at))) ≡ Some is → Put d e o r (joined_by 44 (map (write_item ical) is))
  items_array y w is k = w is (ap (read_each (item_of p)) (sym (alone_array h.kind s h.place h.next (sym q ∙ y)) ∙ ap (λ (v : Json). or_alone v) (head_first t)) ∙ k)

  pub items_alone : b ≡ false → ((i : RuleItem) → item_of p (value_of_head s h) ≡ Some i → Put d e o r (write_item ical i)) →
      (is : List RuleItem) → read_each (item_of p) (or_alone (first_of (elements_at s at))) ≡ Some is → Put d e o r (joined_by 44 (map (write_item ical) is))
  items_alone y w is k =
      let z : read_each (item_of p) (value_of_head s h ∷ []) ≡ Some is = ap (read_each (item_of p)) (sym (alone_other h.kind s h.place h.next (sym q ∙ y)) ∙ ap (λ (v : Json). or_alone v) (head_first t)) ∙ k in
      let g = each_first (item_of p) (value_of_head s h) [] is z in
      let x : is ≡ g.0 ∷ [] = g.4 ∙ ap (λ (ys : List RuleItem). g.0 ∷ ys) (each_none (item_of p) g.1 g.3) in
      subst (Put d e o r) (sym (ap (λ (ys : List RuleItem). joined_by 44 (map (write_item ical) ys)) x ∙ one_joined 44 (write_item ical g.0))) (w g.0 g.2)
