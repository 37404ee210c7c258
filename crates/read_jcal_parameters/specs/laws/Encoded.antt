-- Laws of what specs/Encoded.antt defines.
--     first_.., base_..          the first value, as code finds it
--     encoded_..                 a parameter that is ENCODING;   `search encodings`: the walk that looks for it
--     encoding_is                of parameters that were read
use Rattle.std.specs.Prelude.{◌≡◌, Bool, List, [], ◌∷◌, ℕ, Option, Some, None}
use Rattle.std.proofs.Math.Path.{refl, sym}
use Rattle.std.proofs.Common.{ap, ◌∙◌, rules}
use Rattle.std.proofs.Math.Bool.{true, false}
use Rattle.std.proofs.lemmas.Bool.{false≢true}
use borrow.Author.Tests.{eq-eqb, ne_eqb}
use Rattle.octets.specs.Ascii.{ascii}
use Rattle.octets.specs.Pick.{◌and◌, ◌or◌}
use Rattle.octets.specs.Class.{upper}
use Rattle.octets.specs.Words.{same, is_one_of}
use Rattle.octets.specs.laws.Words.{same_true}
use Rattle.octets.specs.Lists.{every, any_one}
use Rattle.octets.specs.Reading.{provided, and_then, cons_read, read_or, read_each}
use Rattle.octets.specs.laws.Reading.{provided-some, and_then-some, cons_read-some}
use Rattle.octets.specs.Computing.{octets_compute}
use Rattle.calendar.specs.Calendar.{Value, text, text_in, Parameter}
use Rattle.names.specs.Table.{place_of}
use Rattle.names.specs.laws.Places.{same_place}
use Rattle.schema.specs.Parameters.{parameter_row, parameter_type, is_listed_parameter, parameter_words, parameter_names, encodings}
use Rattle.values.specs.Valid.{is_amount, is_word_in, is_base64_encoding}
use Rattle.json_text.specs.Tree.{Json, Member}
use Rattle.json_text.specs.Kinds.{as_string, or_alone}
use Rattle.jcal.specs.Parameters.{read_word_in, read_characters, read_parameter}
use Rattle.read_json.specs.TreeAt.{string_at}
use Rattle.read_json.specs.Heads.{HeadAt}
use Rattle.read_json.specs.MemberHeads.{MemberAt}
use Rattle.read_json.specs.Kinds.{is_none, is_string, is_array}
use Rattle.read_json.specs.declared.Head.{Head}
use Rattle.read_json.specs.declared.MemberHead.{MemberHead}
use Rattle.read_jcal_parameters.specs.Shapes.{list_at, given_at, parameters_at}
use Rattle.read_jcal_parameters.specs.laws.Shapes.{Other, list_end, list_more, list_other, given_array, given_string, given_other, Walking, walking_start, walk_none, walk_some, member_inside, member_less}
use Rattle.read_jcal_parameters.specs.Encoded.{first_is, encoded_by, is_encoded}

-- ---- the first value

other_first : {vs : List Json} → Other vs → false ≡ first_is (ascii "BASE64") vs
unfolding first_is read_or same
other_first o = rw (o.is, o.kind)

module _ {s : List ℕ} {at : ℕ} {h : Head} (t : HeadAt s at h) where
  module _ {a : Bool} (e : a ≡ is_string h.kind) where
    pub first_string : {l : List ℕ} {b : Bool} → a ≡ true → l ≡ string_at s h.place → b ≡ same l (ascii "BASE64") → b ≡ first_is (ascii "BASE64") (list_at s at)
    unfolding first_is read_or
    first_string q i f = f ∙ rw (list_more t e q, i)

    pub first_other : a ≡ false → false ≡ first_is (ascii "BASE64") (list_at s at)
    unfolding first_is
    first_other q = go (is_none h.kind) refl
      where
        go : (b : Bool) → is_none h.kind ≡ b → false ≡ first_is (ascii "BASE64") (list_at s at)
        go true z = rw (list_end t (sym z) refl)
        go false z = other_first (list_other t e q (sym z) refl)

  module _ {a : Bool} (e : a ≡ is_array h.kind) where
    pub base_array : {b : Bool} → a ≡ true → b ≡ first_is (ascii "BASE64") (list_at s h.next) → b ≡ first_is (ascii "BASE64") (given_at s at)
    base_array q f = f ∙ rw (given_array t e q)

    -- a value alone is the first element too
    pub base_alone : {b : Bool} → a ≡ false → b ≡ first_is (ascii "BASE64") (list_at s at) → b ≡ first_is (ascii "BASE64") (given_at s at)
    unfolding first_is
    base_alone q f = f ∙ go (is_string h.kind) refl
      where
        go : (x : Bool) → is_string h.kind ≡ x → first_is (ascii "BASE64") (list_at s at) ≡ first_is (ascii "BASE64") (given_at s at)
        go true z = rw (list_more t (sym z) refl, given_string t (sym z) refl)
        go false z = sym (first_other (sym z) refl) ∙ other_first (given_other t e q (sym z) refl)

-- ---- ENCODING

module _ (n : List ℕ) (vs : List Json) {l : List ℕ} (i : l ≡ n) {q : ℕ} (e : q ≡ place_of (upper l) parameter_names) where
  placed : q ≡ place_of (upper n) parameter_names
  placed = e ∙ rw i

  pub encoded_here : {b : Bool} → q ≡ 6 → b ≡ first_is (ascii "BASE64") vs → b ≡ encoded_by n vs
  unfolding encoded_by ◌and◌
  encoded_here h f = f ∙ rw (← placed, eq-eqb q 6 h)

  pub encoded_other : (q ≡ 6 → ⊥) → false ≡ encoded_by n vs
  unfolding encoded_by ◌and◌
  encoded_other h = rw (← placed, ne_eqb q 6 h)

module _ {s : List ℕ} {from at : ℕ} (w : Walking (any_one is_encoded) s from at) where
  pub encoding_none : MemberAt s at None → false ≡ any_one is_encoded (parameters_at s from)
  unfolding any_one
  encoding_none t = sym (walk_none w t)

  module _ {m : MemberHead} (t : MemberAt s at (Some m)) {b : Bool} (e : b ≡ encoded_by (string_at s m.name) (given_at s m.next)) where
    pub encoding_here : b ≡ true → true ≡ any_one is_encoded (parameters_at s from)
    unfolding any_one given_at ◌or◌
    encoding_here r = sym (walk_some w t ∙ rw (← e, r))

    pub encoding_later : b ≡ false → Walking (any_one is_encoded) s from m.next
    unfolding any_one given_at ◌or◌
    encoding_later r = record { is = walk_some w t ∙ rw (← e, r) }

pub ruleset encoding = (walking_start, encoding_none, encoding_here, encoding_later, member_inside, member_less, rules)

-- ---- of parameters that were read

encoding_known : is_one_of (ascii "ENCODING") parameter_names ≡ true
unfolding octets_compute
encoding_known = refl

encoding_place : place_of (ascii "ENCODING") parameter_names ≡ 6
unfolding octets_compute place_of
encoding_place = refl

encoding_words : parameter_words (ascii "ENCODING") ≡ Some encodings
unfolding octets_compute parameter_row
encoding_words = refl

encoding_single : is_listed_parameter (ascii "ENCODING") ≡ false
unfolding octets_compute parameter_row
encoding_single = refl

abbrev pub parameter_of : List ℕ → List Value → Parameter
parameter_of n vs = record { name = n; values = vs }

-- the one value of ENCODING, as it was read
word_read : (v : Json) (x : Value) → and_then (as_string v) (read_characters (ascii "ENCODING")) ≡ Some x → (every (λ (y : Value). is_word_in (ascii "BASE64" ∷ []) (text_in y)) (x ∷ [])) ≡ same (read_or [] (as_string v)) (ascii "BASE64")
unfolding every is_one_of read_or ◌and◌ ◌or◌
word_read v x h =
    let a = and_then-some (as_string v) (read_characters (ascii "ENCODING")) x h in
    let b = provided-some (is_one_of a.0 encodings) (text a.0) x (ap (λ (o : Option (List (List ℕ))). read_word_in o (parameter_type (ascii "ENCODING")) a.0) (sym encoding_words) ∙ a.2) in
    go a.0 x a.1 b.1
  where
    alone : (t : Bool) → ((t or false) and true) ≡ t
    alone true = refl
    alone false = refl

    go : (l : List ℕ) (y : Value) → as_string v ≡ Some l → text l ≡ y → every (λ (z : Value). is_word_in (ascii "BASE64" ∷ []) (text_in z)) (y ∷ []) ≡ same (read_or [] (as_string v)) (ascii "BASE64")
    go l y e f = rw (e, ← f) (alone (same l (ascii "BASE64")))

one_read : (vs : List Json) (xs : List Value) → read_each (λ v. and_then (as_string v) (read_characters (ascii "ENCODING"))) vs ≡ Some xs → is_amount false xs ≡ true →
    every (λ (y : Value). is_word_in (ascii "BASE64" ∷ []) (text_in y)) xs ≡ first_is (ascii "BASE64") vs
unfolding read_each first_is ◌or◌
one_read [] xs h k = let z : [] ≡ xs = cc in absurd (false≢true (ap (is_amount false) z ∙ k))
one_read (v ∷ vs) xs h k =
    let a = and_then-some (and_then (as_string v) (read_characters (ascii "ENCODING"))) (λ b. cons_read b (read_each (λ v. and_then (as_string v) (read_characters (ascii "ENCODING"))) vs)) xs h in
    let b = cons_read-some a.0 (read_each (λ v. and_then (as_string v) (read_characters (ascii "ENCODING"))) vs) xs a.2 in
    go a.0 b.0 b.2 (word_read v a.0 a.1)
  where
    go : (x : Value) (l : List Value) → x ∷ l ≡ xs → every (λ (y : Value). is_word_in (ascii "BASE64" ∷ []) (text_in y)) (x ∷ []) ≡ same (read_or [] (as_string v)) (ascii "BASE64") →
        every (λ (y : Value). is_word_in (ascii "BASE64" ∷ []) (text_in y)) xs ≡ same (read_or [] (as_string v)) (ascii "BASE64")
    go x [] e f = rw (← e) f
    go x (y ∷ l) e f = absurd (false≢true (ap (is_amount false) e ∙ k))

member_is : (m : Member) (p : Parameter) → read_parameter m ≡ Some p → is_base64_encoding p ≡ is_encoded m
unfolding read_parameter encoded_by ◌and◌
member_is m p h =
    let a = and_then-some (read_each (λ v. and_then (as_string v) (read_characters (upper m.name))) (or_alone m.value)) (λ vs. provided (is_amount (is_listed_parameter (upper m.name)) vs) (parameter_of (upper m.name) vs)) p h in
    let b = provided-some (is_amount (is_listed_parameter (upper m.name)) a.0) (parameter_of (upper m.name) a.0) p a.2 in
    rw (← b.1, ← encoding_place, ← (same_place (upper m.name) (ascii "ENCODING") parameter_names encoding_known)) (go (same (upper m.name) (ascii "ENCODING")) refl a.0 a.1 b.0)
  where
    go : (t : Bool) → same (upper m.name) (ascii "ENCODING") ≡ t → (xs : List Value) → read_each (λ v. and_then (as_string v) (read_characters (upper m.name))) (or_alone m.value) ≡ Some xs →
        is_amount (is_listed_parameter (upper m.name)) xs ≡ true → (t and every (λ (y : Value). is_word_in (ascii "BASE64" ∷ []) (text_in y)) xs) ≡ (t and first_is (ascii "BASE64") (or_alone m.value))
    go false e xs r k = refl
    go true e xs r k =
        let z : upper m.name ≡ ascii "ENCODING" = same_true (upper m.name) (ascii "ENCODING") e in
        one_read (or_alone m.value) xs (ap (λ (n : List ℕ). read_each (λ v. and_then (as_string v) (read_characters n)) (or_alone m.value)) (sym z) ∙ r)
        (ap (λ (b : Bool). is_amount b xs) (sym encoding_single ∙ ap is_listed_parameter (sym z)) ∙ k)

pub encoding_is : (ms : List Member) (ps : List Parameter) → read_each read_parameter ms ≡ Some ps → any_one is_base64_encoding ps ≡ any_one is_encoded ms
unfolding read_each any_one
encoding_is [] ps h = let z : [] ≡ ps = cc in rw (← z)
encoding_is (m ∷ ms) ps h =
    let a = and_then-some (read_parameter m) (λ b. cons_read b (read_each read_parameter ms)) ps h in
    let b = cons_read-some a.0 (read_each read_parameter ms) ps a.2 in
    rw (← b.2, member_is m a.0 a.1, encoding_is ms b.0 b.1)
