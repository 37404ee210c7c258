-- Laws of what specs/Sound.antt defines.
--     sound_..                one parameter;   `search sounds`: the walk over all of them
--     encodes_.., good_..     for code
--     read_member, members-read    what can be read, by values
--     good_is                 what `parameters_good` asks for
use Rattle.std.specs.Prelude.{◌≡◌, Bool, not, ℕ, ◌≤◌, eqb, Option, None, Some}
use Rattle.std.proofs.Math.Path.{refl, sym}
use Rattle.std.proofs.Common.{ap, ◌∙◌, rules, eq-eqb, ne_eqb}
use Rattle.std.proofs.Math.Bool.{true, false}
use Rattle.std.proofs.lemmas.Bool.{false≢true}
use mathlib.Core.List.{List, [], ◌∷◌}
use Rattle.octets.specs.Pick.{pick, ◌and◌, ◌or◌}
use Rattle.octets.specs.laws.Pick.{and_no_right}
use Rattle.octets.specs.Class.{upper}
use Rattle.octets.specs.Lists.{every, any_one, distinct}
use Rattle.octets.specs.laws.Lists.{every_always}
use Rattle.octets.specs.Reading.{provided, and_then, cons_read, is_read, read_or, read_each}
use Rattle.octets.specs.laws.Reading.{and_then-some, cons_read-some, each_empty}
use Rattle.calendar.specs.Calendar.{Value, Parameter}
use Rattle.names.specs.Table.{place_of}
use Rattle.schema.specs.Types.{same_type}
use Rattle.schema.specs.Properties.{property_names, permits_parameter}
use Rattle.schema.specs.Parameters.{ParameterRow, parameter_names, is_listed_parameter}
use Rattle.schema.specs.Numbers.{type_at}
use Rattle.schema.specs.Coded.{row_at as property_row_at}
use Rattle.schema.specs.Columns.{permits_at}
use Rattle.schema.specs.declared.table.Row.{Row}
use Rattle.schema.specs.laws.Columns.{permits_place}
use Rattle.schema.specs.laws.Numbers.{parameter_place}
use Rattle.schema.specs.laws.Places.{type_back}
use Rattle.edition.specs.declared.Edition.{Edition}
use Rattle.edition.specs.declared.Edition.TheVariants.{Rfc5545, Rfc6868}
use Rattle.values.specs.Valid.{is_amount, is_base64_encoding}
use Rattle.json_text.specs.Tree.{Json, Member, member_list}
use Rattle.json_text.specs.Kinds.{as_string, or_alone}
use Rattle.jcal.specs.Parameters.{read_characters, read_parameter, read_parameters, are_spelled, parameters_good}
use Rattle.read_json.specs.TreeAt.{members_at, string_at}
use Rattle.read_json.specs.MemberHeads.{MemberAt}
use Rattle.read_json.specs.declared.MemberHead.{MemberHead}
use Rattle.read_jcal_parameters.specs.Shapes.{given_at, parameters_at}
use Rattle.read_jcal_parameters.specs.laws.Shapes.{Walking, walking_start, walk_none, walk_some, member_inside, member_less}
use Rattle.read_jcal_parameters.specs.Values.{row_at, read_string, is_spelled, good_value, good_values}
use Rattle.read_jcal_parameters.specs.Encoded.{is_encoded}
use Rattle.read_jcal_parameters.specs.laws.Encoded.{parameter_of, encoding_is}
use Rattle.read_jcal_parameters.specs.Apart.{names_of, names_at}
use Rattle.read_jcal_parameters.specs.Sound.{encoded_for, sound_by, is_sound, good_by}

-- ---- for code

module _ (ed : Edition) (row : Row) (t : ℕ) where
  module _ (n : List ℕ) (vs : List Json) {l : List ℕ} (i : l ≡ n) {q : ℕ} (e : q ≡ place_of (upper l) parameter_names) {a : Bool} (f : a ≡ permits_at row t q) where
    placed : place_of (upper n) parameter_names ≡ q
    placed = sym (e ∙ rw i)

    pub sound_denied : a ≡ false → false ≡ sound_by ed row t n vs
    unfolding sound_by ◌and◌
    sound_denied h = rw (placed, ← f, h)

    pub sound_values : {b : Bool} → a ≡ true → b ≡ good_values ed (row_at q) vs → b ≡ sound_by ed row t n vs
    unfolding sound_by ◌and◌
    sound_values h g = g ∙ rw (placed, ← f, h)

  module _ {s : List ℕ} {from at : ℕ} (w : Walking (every (is_sound ed row t)) s from at) where
    pub sounds_all : MemberAt s at None → true ≡ every (is_sound ed row t) (parameters_at s from)
    unfolding every
    sounds_all u = sym (walk_none w u)

    module _ {m : MemberHead} (u : MemberAt s at (Some m)) {b : Bool} (e : b ≡ sound_by ed row t (string_at s m.name) (given_at s m.next)) where
      pub sounds_more : b ≡ true → Walking (every (is_sound ed row t)) s from m.next
      unfolding every given_at ◌and◌
      sounds_more r = record { is = walk_some w u ∙ rw (← e, r) }

      pub sounds_not : b ≡ false → false ≡ every (is_sound ed row t) (parameters_at s from)
      unfolding every given_at ◌and◌
      sounds_not r = sym (walk_some w u ∙ rw (← e, r))

  module _ (s : List ℕ) (from : ℕ) {a : Bool} (e : a ≡ distinct (names_at s from)) where
    pub good_again : a ≡ false → false ≡ good_by ed row t (parameters_at s from)
    unfolding good_by names_at ◌and◌
    good_again h = rw (← e, h)

    module _ (h : a ≡ true) {b : Bool} (f : b ≡ every (is_sound ed row t) (parameters_at s from)) where
      pub good_unsound : b ≡ false → false ≡ good_by ed row t (parameters_at s from)
      unfolding good_by names_at ◌and◌
      good_unsound k = rw (← e, h, ← f, k)

      pub good_encoded : {c : Bool} → b ≡ true → c ≡ encoded_for t (parameters_at s from) → c ≡ good_by ed row t (parameters_at s from)
      unfolding good_by names_at ◌and◌
      good_encoded k g = g ∙ rw (← e, h, ← f, k)

pub ruleset sounds = (walking_start, sounds_all, sounds_more, sounds_not, member_inside, member_less, rules)

pub encodes_binary : {t : ℕ} {b : Bool} (ms : List Member) → t ≡ 0 → b ≡ any_one is_encoded ms → b ≡ encoded_for t ms
unfolding encoded_for ◌or◌
encodes_binary {t} ms h e = e ∙ rw (eq-eqb t 0 h)

pub encodes_other : {t : ℕ} (ms : List Member) → (t ≡ 0 → ⊥) → true ≡ encoded_for t ms
unfolding encoded_for ◌or◌
encodes_other {t} ms h = rw (ne_eqb t 0 h)

-- ---- what can be read

one_read : {B : Type 0} (o : Option B) (u : Option (List B)) {z : Bool} → is_read u ≡ z → is_read (and_then o (λ b. cons_read b u)) ≡ (is_read o and z)
unfolding is_read and_then cons_read ◌and◌
one_read None u e = refl
one_read (Some b) None e = e
one_read (Some b) (Some r) e = e

pub each_read : {A B : Type 0} (f : A → Option B) (l : List A) → is_read (read_each f l) ≡ every (λ a. is_read (f a)) l
unfolding read_each every is_read
each_read f [] = refl
each_read f (a ∷ l) = one_read (f a) (read_each f l) (each_read f l)

each_amount : {A B : Type 0} (listed : Bool) (f : A → Option B) (l : List A) (r : List B) → read_each f l ≡ Some r → is_amount listed r ≡ is_amount listed l
unfolding read_each
each_amount listed f [] r h = let z : [] ≡ r = cc in rw (← z)
each_amount listed f (a ∷ l) r h =
    let x = and_then-some (f a) (λ b. cons_read b (read_each f l)) r h in
    let y = cons_read-some x.0 (read_each f l) r x.2 in
    rw (← y.2, each_empty f l y.0 y.1)

every_joined : {A : Type 0} (p q : A → Bool) (l : List A) → every (λ a. p a and q a) l ≡ (every p l and every q l)
unfolding every ◌and◌
every_joined p q [] = refl
every_joined p q (a ∷ l) = rw (every_joined p q l) (go (p a) (q a) (every p l) (every q l))
  where
    go : (x y u v : Bool) → ((x and y) and (u and v)) ≡ ((x and u) and (y and v))
    go true true u v = refl
    go true false u v = sym (and_no_right u false refl)
    go false y u v = refl

-- by the row of its name
pub at_row : (m : Member) → read_each (λ v. and_then (as_string v) (read_characters (upper m.name))) (or_alone m.value) ≡ read_each (read_string (row_at (place_of (upper m.name) parameter_names))) (or_alone m.value)
unfolding row_at
at_row m = ap (λ (r : ParameterRow). read_each (read_string r) (or_alone m.value)) (parameter_place (upper m.name))

listed_row : (m : Member) → is_listed_parameter (upper m.name) ≡ (row_at (place_of (upper m.name) parameter_names)).listed
unfolding row_at
listed_row m = ap (λ (r : ParameterRow). r.listed) (parameter_place (upper m.name))

module _ (r : ParameterRow) where
  abbrev is_readable : List Json → Bool
  is_readable vs = every (λ v. is_read (read_string r v)) vs

  abbrev is_spelled_by : Edition → List Json → Bool
  is_spelled_by ed vs = every (λ v. is_spelled ed (read_or [] (as_string v))) vs

  values_are : (ed : Edition) (vs : List Json) → good_values ed r vs ≡ ((is_readable vs and is_spelled_by ed vs) and is_amount r.listed vs)
  unfolding good_values good_value
  values_are ed vs = rw (every_joined (λ v. is_read (read_string r v)) (λ v. is_spelled ed (read_or [] (as_string v))) vs)

read_parameter_lem : (m : Member) → is_read (read_parameter m) ≡ (is_readable (row_at (place_of (upper m.name) parameter_names)) (or_alone m.value) and is_amount (row_at (place_of (upper m.name) parameter_names)).listed (or_alone m.value))
unfolding read_parameter and_then is_read pick ◌and◌
read_parameter_lem m = rw (at_row m, listed_row m) (go (read_each (read_string (row_at (place_of (upper m.name) parameter_names))) (or_alone m.value)) refl)
  where
    tested : (t : Bool) (p : Parameter) → is_read (provided t p) ≡ t
    tested true p = refl
    tested false p = refl

    go : (o : Option (List Value)) → read_each (read_string (row_at (place_of (upper m.name) parameter_names))) (or_alone m.value) ≡ o →
        is_read (and_then o (λ vs. provided (is_amount (row_at (place_of (upper m.name) parameter_names)).listed vs) (parameter_of (upper m.name) vs)))
        ≡ (is_readable (row_at (place_of (upper m.name) parameter_names)) (or_alone m.value) and is_amount (row_at (place_of (upper m.name) parameter_names)).listed (or_alone m.value))
    go None e = rw (← (each_read (read_string (row_at (place_of (upper m.name) parameter_names))) (or_alone m.value)), e)
    go (Some vs) e =
        rw (← (each_read (read_string (row_at (place_of (upper m.name) parameter_names))) (or_alone m.value)), e)
        (tested (is_amount (row_at (place_of (upper m.name) parameter_names)).listed vs) _ ∙ each_amount (row_at (place_of (upper m.name) parameter_names)).listed (read_string (row_at (place_of (upper m.name) parameter_names))) (or_alone m.value) vs e)

-- an edition that can spell anything asks only that it can be read
pub read_member : (m : Member) → good_values Rfc6868 (row_at (place_of (upper m.name) parameter_names)) (or_alone m.value) ≡ is_read (read_parameter m)
unfolding is_spelled ◌and◌
read_member m =
    values_are (row_at (place_of (upper m.name) parameter_names)) Rfc6868 (or_alone m.value)
    ∙ rw (every_always (λ (v : Json). true) (λ v. refl) (or_alone m.value), read_parameter_lem m) (go (is_readable (row_at (place_of (upper m.name) parameter_names)) (or_alone m.value)) _)
  where
    go : (x y : Bool) → ((x and true) and y) ≡ (x and y)
    go true y = refl
    go false y = refl

-- ---- all of it

spelled_all : (ed : Edition) (ms : List Member) → are_spelled ed ms ≡ every (λ (m : Member). every (λ v. is_spelled ed (read_or [] (as_string v))) (or_alone m.value)) ms
unfolding are_spelled is_spelled
spelled_all Rfc5545 ms = refl
spelled_all Rfc6868 ms = sym (every_always _ (λ m. every_always (λ (v : Json). true) (λ v. refl) (or_alone m.value)) ms)

module _ (ed : Edition) (row : Row) (t : ℕ) (w : List ℕ) (h : row ≡ property_row_at (place_of w property_names)) (k : t ≤ 14) where
  permitted : (m : Member) → permits_parameter w (type_at t) (upper m.name) ≡ permits_at row t (place_of (upper m.name) parameter_names)
  permitted m = permits_place w (upper m.name) (type_at t) ∙ rw (type_back t k, ← h)

  sounds_are : (ms : List Member) →
      (every (λ (m : Member). is_read (read_parameter m)) ms and every (λ (m : Member). permits_parameter w (type_at t) (upper m.name)) ms
      and every (λ (m : Member). every (λ v. is_spelled ed (read_or [] (as_string v))) (or_alone m.value)) ms)
      ≡ every (is_sound ed row t) ms
  unfolding every sound_by ◌and◌
  sounds_are [] = refl
  sounds_are (m ∷ ms) =
      rw (read_parameter_lem m, permitted m, values_are (row_at (place_of (upper m.name) parameter_names)) ed (or_alone m.value))
      (go (is_readable (row_at (place_of (upper m.name) parameter_names)) (or_alone m.value)) (is_amount (row_at (place_of (upper m.name) parameter_names)).listed (or_alone m.value))
      (permits_at row t (place_of (upper m.name) parameter_names)) (every (λ v. is_spelled ed (read_or [] (as_string v))) (or_alone m.value))
      (every (λ (n : Member). is_read (read_parameter n)) ms) (every (λ (n : Member). permits_parameter w (type_at t) (upper n.name)) ms)
      (every (λ (n : Member). every (λ v. is_spelled ed (read_or [] (as_string v))) (or_alone n.value)) ms) (sounds_are ms))
    where
      go : (e a p s u v z : Bool) {y : Bool} → (u and v and z) ≡ y → (((e and a) and u) and (p and v) and (s and z)) ≡ ((p and ((e and s) and a)) and y)
      go true true true true u v z i = i
      go true true true false u v z i = and_no_right u _ (and_no_right v _ refl)
      go true true false s u v z i = and_no_right u _ refl
      go true false true true u v z i = refl
      go true false true false u v z i = refl
      go true false false s u v z i = refl
      go false a true s u v z i = refl
      go false a false s u v z i = refl

  pub good_is : (ms : List Member) → good_by ed row t ms ≡ parameters_good ed w (type_at t) ms
  unfolding good_by parameters_good encoded_for same_type read_or is_read ◌and◌ ◌or◌
  good_is ms =
      rw (spelled_all ed ms, ← (sounds_are ms), type_back t k, each_read read_parameter ms)
      (go (distinct (names_of ms)) (every (λ (m : Member). is_read (read_parameter m)) ms) (every (λ (m : Member). permits_parameter w (type_at t) (upper m.name)) ms)
      (every (λ (m : Member). every (λ v. is_spelled ed (read_or [] (as_string v))) (or_alone m.value)) ms) (eqb t 0) (any_one is_encoded ms) (any_one is_base64_encoding (read_or [] (read_parameters ms))) encoded)
    where
      encoded : every (λ (m : Member). is_read (read_parameter m)) ms ≡ true → any_one is_encoded ms ≡ any_one is_base64_encoding (read_or [] (read_parameters ms))
      encoded r = find (read_each read_parameter ms) refl (each_read read_parameter ms ∙ r)
        where
          find : (o : Option (List Parameter)) → read_each read_parameter ms ≡ o → is_read o ≡ true → any_one is_encoded ms ≡ any_one is_base64_encoding (read_or [] o)
          find None e z = absurd (false≢true z)
          find (Some ps) e z = sym (encoding_is ms ps e)

      go : (d r p s b x y : Bool) → (r ≡ true → x ≡ y) → (d and (r and p and s) and (not b or x)) ≡ (d and r and p and s and (not b or y))
      go false r p s b x y f = refl
      go true false p s b x y f = refl
      go true true false s b x y f = refl
      go true true true false b x y f = refl
      go true true true true b x y f = rw (f refl)

-- of the members at a place
pub good_members : (ed : Edition) (row : Row) (t : ℕ) (s : List ℕ) (from : ℕ) {r : Bool} → r ≡ good_by ed row t (parameters_at s from) →
    (w : List ℕ) → row ≡ property_row_at (place_of w property_names) → t ≤ 14 → r ≡ parameters_good ed w (type_at t) (member_list (members_at s from))
unfolding parameters_at
good_members ed row t s from e w h k = e ∙ good_is ed row t w h k (member_list (members_at s from))
