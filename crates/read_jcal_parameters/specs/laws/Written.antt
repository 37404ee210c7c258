-- Laws of what specs/Written.antt defines.
--     quoted_.., plain_put, item_..        one value
--     Emits                                the invariant of a loop that writes: `all` is to be written, `left` is still to be written
--     list_start, list_next, list_over     the values of a parameter;   given_..: as they stand in a member
--     parameter_put, members_next, members_over    parameters
--     reads_..                             the walk that asks whether all can be read
--     parameters_put, parameters_unread    what the canonical text has
use Rattle.std.specs.Prelude.{◌≡◌, Bool, ℕ, ◌*◌, ◌^◌, ◌<◌, length, Option, None, Some, option_map}
use Rattle.std.proofs.Math.Path.{refl, sym, subst}
use Rattle.std.proofs.Common.{ap, ◌∙◌, rules}
use Rattle.std.proofs.Math.Bool.{true, false}
use Rattle.std.proofs.lemmas.Bool.{false≢true}
use mathlib.Core.List.{List, [], ◌∷◌, map}
use Rattle.octets.specs.Ascii.{ascii}
use Rattle.octets.specs.Pick.{pick, ◌and◌, ◌or◌}
use Rattle.octets.specs.laws.Pick.{or_take, or_skip}
use Rattle.octets.specs.Append.{◌⊕◌, joined}
use Rattle.octets.specs.laws.Append.{append_is, append_cons, append_empty, append_regroup, append_none}
use Rattle.octets.specs.Class.{upper}
use Rattle.octets.specs.Words.{same, holds, is_one_of, joined_by, each_after}
use Rattle.octets.specs.laws.Words.{same_true}
use Rattle.octets.specs.Lists.{every}
use Rattle.octets.specs.Reading.{provided, and_then, cons_read, is_read, read_or, read_each}
use Rattle.octets.specs.laws.Reading.{none-some, provided-some, and_then-some, cons_read-some}
use Rattle.octets.specs.Computing.{octets_compute}
use Rattle.calendar.specs.Calendar.{ValueType, BINARY, BOOLEAN, CAL-ADDRESS, DATE, DATE-TIME, DURATION, FLOAT, INTEGER, PERIOD, RECUR, TEXT, TIME, URI, UTC-OFFSET, UNKNOWN, Value, boolean, cal_address, text, uri, unknown, Parameter}
use Rattle.sink.specs.Sink.{Put, Todo}
use Rattle.sink.specs.laws.Sink.{put_none, put_length, todo_all, todo_step, todo_done, ◌▷◌}
use Rattle.texts.specs.Uri.{is_uri}
use Rattle.texts.specs.Quoting.{needs_quotes}
use Rattle.names.specs.Table.{place_of}
use Rattle.schema.specs.Types.{same_type}
use Rattle.schema.specs.Parameters.{ParameterRow, parameter_row, parameter_table, parameter_names, unrecognised_parameter, is_listed_parameter}
use Rattle.schema.specs.Numbers.{parameter_at}
use Rattle.schema.specs.laws.Cells.{at_passes}
use Rattle.schema.specs.laws.Numbers.{parameter_place}
use Rattle.edition.specs.declared.Edition.{Edition}
use Rattle.edition.specs.declared.Edition.TheVariants.{Rfc6868}
use Rattle.read_text_line.specs.Write.{write_param_value, write_parameter}
use Rattle.read_text_line.specs.Decoded.{encoded_value, encoded_parameter}
use Rattle.read_text_line.specs.Written.{opening}
use Rattle.values.specs.ReadValue.{read_value}
use Rattle.values.specs.WriteValue.{write_value}
use Rattle.values.specs.Valid.{is_amount}
use Rattle.text.specs.WriteText.{param_chars, param_value_of, raw_of}
use Rattle.json_text.specs.Tree.{Json, string, Member, member_list}
use Rattle.json_text.specs.Kinds.{as_string, or_alone}
use Rattle.jcal.specs.Parameters.{read_truth, read_word_in, read_characters, read_parameter, read_parameters}
use Rattle.read_json.specs.TreeAt.{members_at, string_at}
use Rattle.read_json.specs.Heads.{HeadAt}
use Rattle.read_json.specs.MemberHeads.{MemberAt}
use Rattle.read_json.specs.Kinds.{is_none, is_string, is_array}
use Rattle.read_json.specs.declared.Head.{Head}
use Rattle.read_json.specs.declared.MemberHead.{MemberHead}
use Rattle.read_jcal_parameters.specs.Shapes.{list_at, given_at, parameters_at}
use Rattle.read_jcal_parameters.specs.laws.Shapes.{Other, list_end, list_more, list_other, given_array, given_string, given_other, members_none, members_some, Walking, walking_start, walk_none, walk_some, member_inside, member_less}
use Rattle.read_jcal_parameters.specs.Values.{row_at, read_string, good_values}
use Rattle.read_jcal_parameters.specs.laws.Encoded.{parameter_of}
use Rattle.read_jcal_parameters.specs.laws.Sound.{each_read, at_row, read_member}
use Rattle.read_jcal_parameters.specs.Written.{quoted_at, plain_shown, item_shown, list_shown, member_shown, members_shown, is_read_by, is_read_member}

-- ---- one value

module _ (q : ℕ) (l : List ℕ) {a : Bool} (e : a ≡ (parameter_at q).quoted) where
  pub quoted_always : a ≡ true → true ≡ quoted_at (row_at q) l
  unfolding quoted_at row_at
  quoted_always h = or_take _ _ (sym e ∙ h)

  module _ {b : Bool} (h : a ≡ false) (f : b ≡ holds 58 l) where
    pub quoted_colon : b ≡ true → true ≡ quoted_at (row_at q) l
    unfolding quoted_at row_at
    quoted_colon k = or_skip _ _ _ (sym e ∙ h) (or_take _ _ (sym f ∙ k))

    module _ {c : Bool} (k : b ≡ false) (g : c ≡ holds 59 l) where
      pub quoted_semicolon : c ≡ true → true ≡ quoted_at (row_at q) l
      unfolding quoted_at row_at
      quoted_semicolon m = or_skip _ _ _ (sym e ∙ h) (or_skip _ _ _ (sym f ∙ k) (or_take _ _ (sym g ∙ m)))

      pub quoted_comma : {d : Bool} → c ≡ false → d ≡ holds 44 l → d ≡ quoted_at (row_at q) l
      unfolding quoted_at row_at
      quoted_comma m p = or_skip _ _ _ (sym e ∙ h) (or_skip _ _ _ (sym f ∙ k) (or_skip _ _ _ (sym g ∙ m) p))

module _ (ed : Edition) (r : ParameterRow) {d : List ℕ} {o n : ℕ} (l : List ℕ) where
  pub plain_put : {e : List ℕ} {b : Bool} → b ≡ quoted_at r l → Put d e o n (write_param_value (encoded_value ed (record { quoted = b; chars = l }))) → Put d e o n (plain_shown ed r l)
  unfolding plain_shown
  plain_put h p = rw h at p

  module _ {f : List ℕ} {later : Bool} where
    pub item_later : {e : List ℕ} {a : ℕ} → later ≡ true → Put d e o a (44 ∷ []) → Put e f a n (plain_shown ed r l) → Put d f o n (item_shown ed r later l)
    unfolding item_shown pick
    item_later h x y = rw h (x ▷ y)

    pub item_first : later ≡ false → Put d f o n (plain_shown ed r l) → Put d f o n (item_shown ed r later l)
    unfolding item_shown pick
    item_first h x = rw (h, append_empty (plain_shown ed r l)) x

-- ---- a loop that writes

pub record Emits (d₀ : List ℕ) (at₀ : ℕ) (all d : List ℕ) (at : ℕ) (left : List ℕ) : Type 0 where
  pub todo : Todo d₀ at₀ all d at left
  pub kept : length d ≡ length d₀

pub emits_start : (d : List ℕ) (at : ℕ) (all : List ℕ) → length d * 1 < 2 ^ 63 → Emits d at all d at all
emits_start d at all z = record { todo = todo_all d at all z; kept = refl }

module _ {d₀ : List ℕ} {at₀ : ℕ} {all d : List ℕ} {at : ℕ} {left : List ℕ} (t : Emits d₀ at₀ all d at left) where
  emits_more : {e bs : List ℕ} {m : ℕ} (more : List ℕ) → left ≡ bs ⊕ more → Put d e at m bs → Emits d₀ at₀ all e m more
  emits_more {e} {bs} more q p = record { todo = todo_step t.todo p (q ∙ append_is bs more); kept = put_length p ∙ t.kept }

  emits_done : left ≡ [] → Put d₀ d at₀ at all
  emits_done q = todo_done t.todo q

-- ---- the values of a parameter

module _ (ed : Edition) (r : ParameterRow) where
  shown_string : (later : Bool) (p : ℕ) (l : List ℕ) (vs : List Json) → list_shown ed r later (string p l ∷ vs) ≡ item_shown ed r later l ⊕ list_shown ed r true vs
  unfolding list_shown is_read read_or pick
  shown_string later p l vs = refl

  shown_other : (later : Bool) {vs : List Json} → Other vs → list_shown ed r later vs ≡ []
  unfolding list_shown is_read pick
  shown_other later o = rw (o.is, o.kind)

  shown_none : (later : Bool) → list_shown ed r later [] ≡ []
  unfolding list_shown
  shown_none later = refl

  module _ (later : Bool) {d₀ : List ℕ} {at₀ : ℕ} {all d : List ℕ} {at : ℕ} {s : List ℕ} {c : ℕ} {h : Head}
      (t : Emits d₀ at₀ all d at (list_shown ed r later (list_at s c))) (u : HeadAt s c h) {a : Bool} (e : a ≡ is_string h.kind) where
    pub list_next : {f l : List ℕ} {m : ℕ} → a ≡ true → l ≡ string_at s h.place → Put d f at m (item_shown ed r later l) → Emits d₀ at₀ all f m (list_shown ed r true (list_at s h.next))
    list_next q i p = emits_more t _ (ap (list_shown ed r later) (list_more u e q) ∙ shown_string later _ _ _ ∙ rw (← i)) p

    pub list_over : a ≡ false → Put d₀ d at₀ at all
    list_over q = emits_done t (go (is_none h.kind) refl)
      where
        go : (b : Bool) → is_none h.kind ≡ b → list_shown ed r later (list_at s c) ≡ []
        go true z = rw (list_end u (sym z) refl) (shown_none later)
        go false z = shown_other later (list_other u e q (sym z) refl)

  module _ {d : List ℕ} {o : ℕ} {s : List ℕ} {c : ℕ} {h : Head} (u : HeadAt s c h) {a : Bool} (e : a ≡ is_array h.kind) where
    pub given_list : {f : List ℕ} {n : ℕ} → a ≡ true → Put d f o n (list_shown ed r false (list_at s h.next)) → Put d f o n (list_shown ed r false (given_at s c))
    given_list q p = rw (given_array u e q) p

    module _ (q : a ≡ false) {b : Bool} (i : b ≡ is_string h.kind) where
      pub given_alone : {f l : List ℕ} {n : ℕ} → b ≡ true → l ≡ string_at s h.place → Put d f o n (plain_shown ed r l) → Put d f o n (list_shown ed r false (given_at s c))
      unfolding item_shown pick
      given_alone {f} {l} {n} z y p = subst (Put d f o n) (sym (ap (list_shown ed r false) (given_string u i z) ∙ shown_string false _ _ _ ∙ rw (shown_none true, ← y) (append_none _ ∙ append_empty (plain_shown ed r l)))) p

      pub given_none : b ≡ false → length d * 1 < 2 ^ 63 → Put d d o o (list_shown ed r false (given_at s c))
      given_none z y = rw (shown_other false (given_other u e q i z)) (put_none d o y)

-- ---- parameters

module _ (ed : Edition) where
  pub parameter_put : {d e f : List ℕ} {o a n q : ℕ} {l : List ℕ} (w : List ℕ) (vs : List Json) → l ≡ w → q ≡ place_of (upper l) parameter_names →
      Put d e o a (opening (upper l)) → Put e f a n (list_shown ed (row_at q) false vs) → Put d f o n (member_shown ed w vs)
  unfolding member_shown
  parameter_put {d} {e} {f} {o} {a} {n} {q} {l} w vs i h x y =
      subst (λ (z : List ℕ). Put d e o a (opening (upper z))) i x ▷ subst (λ (k : ℕ). Put e f a n (list_shown ed (row_at k) false vs)) (h ∙ rw i) y

  module _ {d₀ : List ℕ} {at₀ : ℕ} {all d : List ℕ} {at : ℕ} {s : List ℕ} {c : ℕ} (t : Emits d₀ at₀ all d at (members_shown ed (parameters_at s c))) where
    pub members_next : {m : MemberHead} → MemberAt s c (Some m) → {e : List ℕ} {k : ℕ} → Put d e at k (member_shown ed (string_at s m.name) (given_at s m.next)) → Emits d₀ at₀ all e k (members_shown ed (parameters_at s m.next))
    unfolding members_shown given_at
    members_next u p = emits_more t _ (ap (members_shown ed) (members_some u)) p

    pub members_over : MemberAt s c None → Put d₀ d at₀ at all
    unfolding members_shown
    members_over u = emits_done t (ap (members_shown ed) (members_none u))

-- ---- what can be read

pub read_by : {n l : List ℕ} {q : ℕ} {r : Bool} (vs : List Json) → l ≡ n → q ≡ place_of (upper l) parameter_names → r ≡ good_values Rfc6868 (row_at q) vs → r ≡ is_read_by n vs
unfolding is_read_by
read_by vs i h e = e ∙ rw (h, i)

module _ {s : List ℕ} {from at : ℕ} (w : Walking (every is_read_member) s from at) where
  pub reads_all : MemberAt s at None → true ≡ every is_read_member (parameters_at s from)
  unfolding every
  reads_all t = sym (walk_none w t)

  module _ {m : MemberHead} (t : MemberAt s at (Some m)) {b : Bool} (e : b ≡ is_read_by (string_at s m.name) (given_at s m.next)) where
    pub reads_more : b ≡ true → Walking (every is_read_member) s from m.next
    unfolding every given_at ◌and◌
    reads_more r = record { is = walk_some w t ∙ rw (← e, r) }

    pub reads_not : b ≡ false → false ≡ every is_read_member (parameters_at s from)
    unfolding every given_at ◌and◌
    reads_not r = sym (walk_some w t ∙ rw (← e, r))

pub ruleset readings = (walking_start, reads_all, reads_more, reads_not, member_inside, member_less, rules)

-- ---- what the canonical text has

-- what the schema's parameters take: words, or one of five types whose characters are kept
abbrev usual : Option (List (List ℕ)) → ValueType → Bool
usual (Some ws) t = true
usual None BINARY = false
usual None BOOLEAN = true
usual None CAL-ADDRESS = true
usual None DATE = false
usual None DATE-TIME = false
usual None DURATION = false
usual None FLOAT = false
usual None INTEGER = false
usual None PERIOD = false
usual None RECUR = false
usual None TEXT = true
usual None TIME = false
usual None URI = true
usual None UTC-OFFSET = false
usual None UNKNOWN = true

abbrev is_usual : ParameterRow → Bool
is_usual r = usual r.words r.type

rows_usual : every is_usual parameter_table ≡ true
unfolding octets_compute
rows_usual = refl

row_usual : (q : ℕ) → is_usual (row_at q) ≡ true
unfolding row_at
row_usual q = at_passes is_usual unrecognised_parameter parameter_table q rows_usual refl

module _ (l : List ℕ) (v : Value) where
  kept : (t : Bool) (make : List ℕ → Value) → param_chars (make l) ≡ l → option_map make (pick t (Some l) None) ≡ Some v → param_chars v ≡ l
  unfolding pick
  kept true make k e = let y : make l ≡ v = cc in rw (← y) k
  kept false make k e = none-some e

  truth : read_truth l ≡ Some v → param_chars v ≡ l
  unfolding pick write_value read_or octets_compute
  truth h = go (same l (ascii "TRUE")) refl (same l (ascii "FALSE")) refl h
    where
      go : (a : Bool) → same l (ascii "TRUE") ≡ a → (b : Bool) → same l (ascii "FALSE") ≡ b → pick a (Some (boolean true)) (provided b (boolean false)) ≡ Some v → param_chars v ≡ l
      go true e b f k = let y : boolean true ≡ v = cc in rw (← y) (sym (same_true l (ascii "TRUE") e))
      go false e true f k = let y : boolean false ≡ v = cc in rw (← y) (sym (same_true l (ascii "FALSE") f))
      go false e false f k = none-some k

  chars_kept : (o : Option (List (List ℕ))) (t : ValueType) → usual o t ≡ true → read_word_in o t l ≡ Some v → param_chars v ≡ l
  unfolding read_value write_value same_type pick read_or
  chars_kept (Some ws) t u h = let z = provided-some (is_one_of l ws) (text l) v h in rw (← z.1)
  chars_kept None BINARY u h = absurd (false≢true u)
  chars_kept None BOOLEAN u h = truth h
  chars_kept None CAL-ADDRESS u h = kept (is_uri l) cal_address refl h
  chars_kept None DATE u h = absurd (false≢true u)
  chars_kept None DATE-TIME u h = absurd (false≢true u)
  chars_kept None DURATION u h = absurd (false≢true u)
  chars_kept None FLOAT u h = absurd (false≢true u)
  chars_kept None INTEGER u h = absurd (false≢true u)
  chars_kept None PERIOD u h = absurd (false≢true u)
  chars_kept None RECUR u h = absurd (false≢true u)
  chars_kept None TEXT u h = kept true text refl h
  chars_kept None TIME u h = absurd (false≢true u)
  chars_kept None URI u h = kept (is_uri l) uri refl h
  chars_kept None UTC-OFFSET u h = absurd (false≢true u)
  chars_kept None UNKNOWN u h = let y : unknown l ≡ v = cc in rw (← y)

-- values with commas between them; before each of them, where they are later ones
abbrev commas : Bool → List (List ℕ) → List ℕ
commas true ws = each_after 44 ws
commas false ws = joined_by 44 ws

module _ (ed : Edition) where
  -- a value as the canonical text has it, by the parameter's row
  abbrev value_text : ParameterRow → Value → List ℕ
  value_text r v = write_param_value (encoded_value ed (record { quoted = r.quoted or needs_quotes (param_chars v); chars = param_chars v }))

  shown_is : (q : ℕ) (l : List ℕ) (v : Value) → read_word_in (row_at q).words (row_at q).type l ≡ Some v → plain_shown ed (row_at q) l ≡ value_text (row_at q) v
  unfolding plain_shown quoted_at
  shown_is q l v h = rw (chars_kept l v (row_at q).words (row_at q).type (row_usual q) h)

  list_is : (q : ℕ) (later : Bool) (vs : List Json) (xs : List Value) → read_each (read_string (row_at q)) vs ≡ Some xs → list_shown ed (row_at q) later vs ≡ commas later (map (value_text (row_at q)) xs)
  unfolding read_each list_shown each_after joined_by is_read read_or item_shown pick ◌⊕◌
  list_is q true [] xs h = let z : [] ≡ xs = cc in rw (← z)
  list_is q false [] xs h = let z : [] ≡ xs = cc in rw (← z)
  list_is q later (v ∷ vs) xs h =
      let a = and_then-some (read_string (row_at q) v) (λ b. cons_read b (read_each (read_string (row_at q)) vs)) xs h in
      let b = cons_read-some a.0 (read_each (read_string (row_at q)) vs) xs a.2 in
      let c = and_then-some (as_string v) (read_word_in (row_at q).words (row_at q).type) a.0 a.1 in
      go later c.0 c.1 a.0 (shown_is q c.0 a.0 c.2) b.0 b.2 (list_is q true vs b.0 b.1)
    where
      go : (k : Bool) (l : List ℕ) → as_string v ≡ Some l → (x : Value) → plain_shown ed (row_at q) l ≡ value_text (row_at q) x → (ys : List Value) → x ∷ ys ≡ xs →
          list_shown ed (row_at q) true vs ≡ each_after 44 (map (value_text (row_at q)) ys) → list_shown ed (row_at q) k (v ∷ vs) ≡ commas k (map (value_text (row_at q)) xs)
      go true l e x f ys g i = rw (e, ← g, i, f)
      go false l e x f ys g i = rw (e, ← g, i, f)

  -- what stands before the values, and the values
  opened : (n l : List ℕ) → opening n ⊕ l ≡ 59 ∷ (n ⊕ 61 ∷ l)
  opened n l =
      append_cons 59 (n ⊕ 61 ∷ []) l
      ∙ ap (λ (x : List ℕ). 59 ∷ x) (append_regroup n (61 ∷ []) l ∙ ap (λ (x : List ℕ). n ⊕ x) (append_cons 61 [] l ∙ ap (λ (x : List ℕ). 61 ∷ x) (append_empty l)))

  texts_are : (r : ParameterRow) (xs : List Value) →
      map write_param_value (map (encoded_value ed) (map (λ (v : Value). record { quoted = r.quoted or needs_quotes (param_chars v); chars = param_chars v }) xs)) ≡ map (value_text r) xs
  texts_are r [] = refl
  texts_are r (x ∷ xs) = rw (texts_are r xs)

  member_is : (m : Member) (p : Parameter) → read_parameter m ≡ Some p → write_parameter (encoded_parameter ed (raw_of p)) ≡ member_shown ed m.name (or_alone m.value)
  unfolding read_parameter member_shown write_parameter row_at
  member_is m p h =
      let a = and_then-some (read_each (λ v. and_then (as_string v) (read_characters (upper m.name))) (or_alone m.value)) (λ vs. provided (is_amount (is_listed_parameter (upper m.name)) vs) (parameter_of (upper m.name) vs)) p h in
      let b = provided-some (is_amount (is_listed_parameter (upper m.name)) a.0) (parameter_of (upper m.name) a.0) p a.2 in
      rw (← b.1) (go a.0 (sym (at_row m) ∙ a.1))
    where
      by_row : (xs : List Value) (r : ParameterRow) → parameter_row (upper m.name) ≡ r → map write_param_value (map (encoded_value ed) (map (param_value_of (upper m.name)) xs)) ≡ map (value_text r) xs
      by_row xs r e = rw (← e) (texts_are (parameter_row (upper m.name)) xs)

      go : (xs : List Value) → read_each (read_string (row_at (place_of (upper m.name) parameter_names))) (or_alone m.value) ≡ Some xs →
          59 ∷ (upper m.name ⊕ 61 ∷ joined_by 44 (map write_param_value (map (encoded_value ed) (map (param_value_of (upper m.name)) xs))))
          ≡ opening (upper m.name) ⊕ list_shown ed (row_at (place_of (upper m.name) parameter_names)) false (or_alone m.value)
      go xs e =
          rw (by_row xs (parameter_at (place_of (upper m.name) parameter_names)) (parameter_place (upper m.name)), list_is (place_of (upper m.name) parameter_names) false (or_alone m.value) xs e)
          (sym (opened (upper m.name) (joined_by 44 (map (value_text (parameter_at (place_of (upper m.name) parameter_names))) xs))))

  members_are : (ms : List Member) (ps : List Parameter) → read_each read_parameter ms ≡ Some ps → joined (map write_parameter (map (encoded_parameter ed) (map raw_of ps))) ≡ members_shown ed ms
  unfolding read_each members_shown joined
  members_are [] ps h = let z : [] ≡ ps = cc in rw (← z)
  members_are (m ∷ ms) ps h =
      let a = and_then-some (read_parameter m) (λ b. cons_read b (read_each read_parameter ms)) ps h in
      let b = cons_read-some a.0 (read_each read_parameter ms) ps a.2 in
      rw (← b.2, member_is m a.0 a.1, members_are ms b.0 b.1)

  abbrev parameters_text : List Member → List ℕ
  parameters_text ms = joined (map write_parameter (map (encoded_parameter ed) (map raw_of (read_or [] (read_parameters ms)))))

  readable : (ms : List Member) → every is_read_member ms ≡ is_read (read_parameters ms)
  unfolding every is_read_by
  readable [] = sym (each_read read_parameter [])
  readable (m ∷ ms) = rw (read_member m, readable ms, each_read read_parameter ms) (sym (each_read read_parameter (m ∷ ms)))

  module _ (s : List ℕ) (from : ℕ) {a : Bool} (e : a ≡ every is_read_member (parameters_at s from)) where
    read : a ≡ is_read (read_parameters (member_list (members_at s from)))
    unfolding parameters_at
    read = e ∙ readable (member_list (members_at s from))

    pub parameters_put : {d f : List ℕ} {o n : ℕ} → a ≡ true → Put d f o n (members_shown ed (parameters_at s from)) → Put d f o n (parameters_text (member_list (members_at s from)))
    unfolding parameters_at is_read read_or
    parameters_put {d} {f} {o} {n} h p = go (read_parameters (member_list (members_at s from))) refl (sym read ∙ h)
      where
        go : (x : Option (List Parameter)) → read_parameters (member_list (members_at s from)) ≡ x → is_read x ≡ true → Put d f o n (joined (map write_parameter (map (encoded_parameter ed) (map raw_of (read_or [] x)))))
        go None i k = absurd (false≢true k)
        go (Some ps) i k = rw (members_are (member_list (members_at s from)) ps i) p

    pub parameters_unread : {d : List ℕ} {o : ℕ} → a ≡ false → length d * 1 < 2 ^ 63 → Put d d o o (parameters_text (member_list (members_at s from)))
    unfolding is_read read_or joined
    parameters_unread {d} {o} h z = go (read_parameters (member_list (members_at s from))) (sym read ∙ h)
      where
        go : (x : Option (List Parameter)) → is_read x ≡ false → Put d d o o (joined (map write_parameter (map (encoded_parameter ed) (map raw_of (read_or [] x)))))
        go None k = put_none d o z
        go (Some ps) k = absurd (false≢true (sym k))
