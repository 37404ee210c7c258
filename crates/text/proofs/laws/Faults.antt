-- Laws of what specs/Faults.antt defines: when the parameters of a line have no fault.
--     parameters_good   of a value of a type: no parameter twice, each readable and permitted; BINARY has ENCODING=BASE64
--     good_faultless    parameters that are good, and state the type, have no fault
--     faultless_good    parameters that have no fault state a type and are good with it
--     own_every         what all parameters pass, those but VALUE pass
--     fault_within      a fault of a parameter is one of the line's
--     fault_not         a line with a fault is refused
use Rattle.std.specs.Prelude.{◌≡◌, Bool, ℕ, suc, ◌+◌, ◌<◌, length, Option, None, Some}
use Rattle.std.proofs.Math.Path.{refl}
use Rattle.std.proofs.Common.{sym, ◌∙◌, arith}
use Rattle.std.proofs.Math.Bool.{true, false, not}
use Rattle.std.proofs.lemmas.Bool.{false≢true}
use mathlib.Core.List.{List, [], ◌∷◌, map}
use borrow.Author.Tests.{not-true}
use Rattle.octets.specs.Ascii.{ascii}
use Rattle.octets.specs.Pick.{pick, ◌and◌, ◌or◌}
use Rattle.octets.specs.laws.Pick.{pick_either, pick_second, and_yes, and_both, or_no, or_neither, or_left, or_right, or_cases}
use Rattle.octets.specs.Class.{upper}
use Rattle.octets.specs.Words.{same, is_one_of}
use Rattle.octets.specs.laws.Words.{same_self, same_true, same_swap}
use Rattle.octets.specs.Lists.{every, any_one, distinct}
use Rattle.octets.specs.laws.Lists.{every_both, every_always, every-and}
use Rattle.octets.specs.Reading.{and_then, cons_read, is_read, read_or, read_each}
use Rattle.octets.specs.laws.Reading.{none-some, read_some}
use Rattle.octets.specs.Computing.{octets_compute}
use Rattle.calendar.specs.Calendar.{ValueType, BINARY, Parameter}
use Rattle.calendar.specs.Refusal.{PARAMETER, fine}
use Rattle.calendar.specs.laws.Refusal.{refused_not}
use Rattle.schema.specs.Types.{same_type}
use Rattle.schema.specs.Properties.{permits_parameter}
use Rattle.read_text_line.specs.ContentLine.{RawParameter, ContentLine}
use Rattle.text.specs.Parameters.{read_parameter, is_value_parameter, type_in, stated_type, own_parameters, read_parameters, is_raw_base64_encoding}
use Rattle.text.specs.Faults.{Where, parameter_name, Fault, fault, refused_at, is_encoding, fits, is_sound, is_faulty, first_faulty, lacks_encoding, place_of_fault, parameters_fault, line_fault}
use Rattle.text.specs.Statement.{type_of_line, values_of_line, fault_as, property_fault}

abbrev name_of : RawParameter → List ℕ
name_of r = upper r.name

abbrev permits : List ℕ → ValueType → RawParameter → Bool
permits n t r = permits_parameter n t (upper r.name)

unfoldable pub parameters_good : List ℕ → ValueType → List RawParameter → Bool
parameters_good n t rs =
    distinct (map name_of rs)
    and is_read (read_parameters rs)
    and every (permits n t) (own_parameters rs)
    and (not (same_type t BINARY) or any_one is_raw_base64_encoding rs)

pub fault_not : {X : Type 0} (f : Fault) (p : ℕ) (s : List ℕ) → refused_at f p s ≡ fine → X
fault_not (fault r w) p s h = refused_not _ _ h

-- ---- a parameter, and those behind it

some-none : {A X : Type 0} {a : A} → Some a ≡ None → X
some-none e = none-some (sym e)

not_yes : (b : Bool) → b ≡ false → not b ≡ true
not_yes b h = rw h

not_off : (b : Bool) → b ≡ true → not b ≡ false
not_off b h = rw h

not_no : (b : Bool) → not b ≡ false → b ≡ true
not_no true h = refl
not_no false h = absurd (false≢true (sym h))

module _ (fit : RawParameter → Bool) where
  -- the first of them is not faulty, and none behind it is
  turn : (before : List (List ℕ)) (r : RawParameter) (rs : List RawParameter) → first_faulty fit before (r ∷ rs) ≡ None →
      (is_faulty fit before r ≡ false) × (first_faulty fit (name_of r ∷ before) rs ≡ None)
  unfolding first_faulty pick
  turn before r rs h = go (is_faulty fit before r) h
    where
      go : (b : Bool) → pick b (Some (length before)) (first_faulty fit (name_of r ∷ before) rs) ≡ None → (b ≡ false) × (first_faulty fit (name_of r ∷ before) rs ≡ None)
      go true k = some-none k
      go false k = (refl, k)

  -- what a parameter that is not faulty is
  record Sound (before : List (List ℕ)) (r : RawParameter) : Type 0 where
    fresh : is_one_of (name_of r) before ≡ false
    typed : is_value_parameter r ≡ true → is_read (type_in r.values) ≡ true
    fits : is_value_parameter r ≡ false → fit r ≡ true

  sound : (before : List (List ℕ)) (r : RawParameter) → is_faulty fit before r ≡ false → Sound before r
  unfolding is_faulty pick
  sound before r h =
      let e = or_neither _ _ h in
      let k = not_no (is_sound fit r) e.1 in
      record { fresh = e.0; typed = λ v. rw v at k; fits = λ v. rw v at k }

  -- ---- without a fault: each stands once

  apart : (before : List (List ℕ)) (w : List ℕ) (rs : List RawParameter) → is_one_of w before ≡ true → first_faulty fit before rs ≡ None → is_one_of w (map name_of rs) ≡ false
  unfolding is_one_of
  apart before w [] k h = refl
  apart before w (r ∷ rs) k h = let e = turn before r rs h in or_no _ _ (other (same w (name_of r)) refl) (apart (name_of r ∷ before) w rs (or_right _ _ k) e.1)
    where
      other : (b : Bool) → same w (name_of r) ≡ b → b ≡ false
      other true q = absurd (false≢true (sym (sound before r (turn before r rs h).0).fresh ∙ rw (← (same_true w (name_of r) q)) k))
      other false q = refl

  once : (before : List (List ℕ)) (rs : List RawParameter) → first_faulty fit before rs ≡ None → distinct (map name_of rs) ≡ true
  unfolding distinct is_one_of pick
  once before [] h = refl
  once before (r ∷ rs) h =
      let e = turn before r rs h in
      rw (apart (name_of r ∷ before) (name_of r) rs (or_left _ _ (same_self (name_of r))) e.1) (once (name_of r ∷ before) rs e.1)

  -- ---- VALUE names a type

  stated : (n : List ℕ) (before : List (List ℕ)) (rs : List RawParameter) → first_faulty fit before rs ≡ None → is_read (stated_type n rs) ≡ true
  unfolding stated_type is_read pick
  stated n before [] h = refl
  stated n before (r ∷ rs) h = let e = turn before r rs h in go (is_value_parameter r) refl (sound before r e.0) (stated n (name_of r ∷ before) rs e.1)
    where
      go : (b : Bool) → is_value_parameter r ≡ b → Sound before r → is_read (stated_type n rs) ≡ true → is_read (pick b (type_in r.values) (stated_type n rs)) ≡ true
      go true v f ih = f.typed v
      go false v f ih = ih

  -- ---- what holds of each that fits

  all_own : (p : RawParameter → Bool) → ((r : RawParameter) → fit r ≡ true → p r ≡ true) → (before : List (List ℕ)) (rs : List RawParameter) → first_faulty fit before rs ≡ None → every p (own_parameters rs) ≡ true
  unfolding own_parameters every pick
  all_own p f before [] h = refl
  all_own p f before (r ∷ rs) h = let e = turn before r rs h in go (is_value_parameter r) refl (sound before r e.0) (all_own p f (name_of r ∷ before) rs e.1)
    where
      go : (b : Bool) → is_value_parameter r ≡ b → Sound before r → every p (own_parameters rs) ≡ true → every p (pick b (own_parameters rs) (r ∷ own_parameters rs)) ≡ true
      go true v g ih = ih
      go false v g ih = and_yes _ _ (f r (g.fits v)) ih

each_read : (rs : List RawParameter) → every (λ (r : RawParameter). is_read (read_parameter r)) rs ≡ is_read (read_each read_parameter rs)
unfolding every read_each is_read and_then cons_read ◌and◌
each_read [] = refl
each_read (r ∷ rs) = rw (each_read rs) (go (read_parameter r) (read_each read_parameter rs))
  where
    go : (o : Option Parameter) (q : Option (List Parameter)) → (is_read o and is_read q) ≡ is_read (and_then o (λ b. cons_read b q))
    go None q = refl
    go (Some p) None = refl
    go (Some p) (Some l) = refl

module _ (n : List ℕ) (t : ValueType) where
  permitted : (r : RawParameter) → fits n (Some t) r ≡ true → permits_parameter n t (name_of r) ≡ true
  unfolding read_or
  permitted r h = (and_both _ _ h).0

  readable : (r : RawParameter) → fits n (Some t) r ≡ true → is_read (read_parameter r) ≡ true
  readable r h = (and_both _ _ (and_both _ _ h).1).0

  -- ---- ENCODING

  encoding_own : same (ascii "ENCODING") (ascii "VALUE") ≡ false
  unfolding octets_compute
  encoding_own = refl

  abbrev encodes : RawParameter → Bool
  encodes r = not (same_type t BINARY and is_encoding r) or is_raw_base64_encoding r

  encoded : (r : RawParameter) → fits n (Some t) r ≡ true → encodes r ≡ true
  encoded r h = (and_both _ _ (and_both _ _ h).1).1

  all_encoded : (rs : List RawParameter) → same_type t BINARY ≡ true → every encodes (own_parameters rs) ≡ true → any_one is_encoding rs ≡ true → any_one is_raw_base64_encoding rs ≡ true
  unfolding any_one own_parameters pick every ◌and◌ ◌or◌
  all_encoded [] y h a = a
  all_encoded (r ∷ rs) y h a = go (is_value_parameter r) refl h (all_encoded rs y)
    where
      own : is_encoding r ≡ true → is_value_parameter r ≡ false
      own k = rw (same_true (name_of r) (ascii "ENCODING") k) encoding_own

      last : (a b c : Bool) → a ≡ true → b ≡ true → (not (a and b) or c) ≡ true → c ≡ true
      last a b c i j q = rw (i, j) at q

      go : (b : Bool) → is_value_parameter r ≡ b → every encodes (pick b (own_parameters rs) (r ∷ own_parameters rs)) ≡ true → (every encodes (own_parameters rs) ≡ true → any_one is_encoding rs ≡ true → any_one is_raw_base64_encoding rs ≡ true) →
          (is_raw_base64_encoding r or any_one is_raw_base64_encoding rs) ≡ true
      go true v k ih = or_cases (is_encoding r) (any_one is_encoding rs) a (λ z. absurd (false≢true (sym (own z) ∙ v))) (λ z. or_right (is_raw_base64_encoding r) (any_one is_raw_base64_encoding rs) (ih k z))
      go false v k ih =
          let e = and_both (encodes r) (every encodes (own_parameters rs)) k in
          or_cases (is_encoding r) (any_one is_encoding rs) a (λ z. or_left (is_raw_base64_encoding r) (any_one is_raw_base64_encoding rs) (last (same_type t BINARY) (is_encoding r) (is_raw_base64_encoding r) y z e.0)) (λ z. or_right (is_raw_base64_encoding r) (any_one is_raw_base64_encoding rs) (ih e.1 z))

faultless : (o : Option ℕ) (b : Bool) → place_of_fault o b ≡ None → (o ≡ None) × (b ≡ false)
faultless (Some i) b h = some-none h
faultless None true h = some-none h
faultless None false h = (refl, refl)

-- what parameters without a fault have
pub record Faultless (n : List ℕ) (rs : List RawParameter) : Type 0 where
  pub type : ValueType
  pub stated : stated_type n rs ≡ Some type
  pub good : parameters_good n type rs ≡ true

pub faultless_good : (n : List ℕ) (rs : List RawParameter) → parameters_fault n (stated_type n rs) rs ≡ None → Faultless n rs
unfolding parameters_fault parameters_good ◌and◌ ◌or◌
faultless_good n rs h =
    let e = faultless (first_faulty (fits n (stated_type n rs)) [] rs) (lacks_encoding (stated_type n rs) rs) h in
    let s = read_some (stated_type n rs) (stated (fits n (stated_type n rs)) n [] rs e.0) in
    go s.0 s.1 (rw s.1 at e.0) (rw s.1 at e.1)
  where
    base64 : (t : ValueType) → first_faulty (fits n (Some t)) [] rs ≡ None → (b : Bool) → same_type t BINARY ≡ b → (b and not (any_one is_encoding rs)) ≡ false → (not b or any_one is_raw_base64_encoding rs) ≡ true
    base64 t f true y k = all_encoded n t rs y (all_own (fits n (Some t)) (encodes n t) (encoded n t) [] rs f) (not_no _ k)
    base64 t f false y k = refl

    go : (t : ValueType) → stated_type n rs ≡ Some t → first_faulty (fits n (Some t)) [] rs ≡ None → lacks_encoding (Some t) rs ≡ false → Faultless n rs
    go t s f k =
        let fit = fits n (Some t) in record {
          type = t;
          stated = s;
          good =
              and_yes (distinct (map name_of rs)) _ (once fit [] rs f)
              (and_yes (is_read (read_parameters rs)) _ (sym (each_read (own_parameters rs)) ∙ all_own fit (λ r. is_read (read_parameter r)) (readable n t) [] rs f)
              (and_yes (every (permits n t) (own_parameters rs)) _ (all_own fit (permits n t) (permitted n t) [] rs f) (base64 t f (same_type t BINARY) refl k)));
        }

-- ---- good parameters have no fault

module _ (fit : RawParameter → Bool) (n : List ℕ) (t : ValueType) where
  -- the rest of them, behind those of the names `before`
  record Good (before : List (List ℕ)) (rs : List RawParameter) : Type 0 where
    fresh : every (λ (r : RawParameter). not (is_one_of (name_of r) before)) rs ≡ true
    once : distinct (map name_of rs) ≡ true
    typed : is_one_of (ascii "VALUE") before ≡ false → stated_type n rs ≡ Some t
    fits : every fit (own_parameters rs) ≡ true

  fresh_more : (before : List (List ℕ)) (w : List ℕ) (rs : List RawParameter) → every (λ (r : RawParameter). not (is_one_of (name_of r) before)) rs ≡ true → is_one_of w (map name_of rs) ≡ false →
      every (λ (r : RawParameter). not (is_one_of (name_of r) (w ∷ before))) rs ≡ true
  unfolding every is_one_of
  fresh_more before w [] h k = refl
  fresh_more before w (r ∷ rs) h k =
      let e = every_both (λ (r : RawParameter). not (is_one_of (name_of r) before)) r rs h in
      let d = or_neither _ _ k in
      and_yes _ _ (not_yes _ (or_no _ _ (same_swap w (name_of r) d.0) (not-true _ e.0))) (fresh_more before w rs e.1 d.1)

  -- the first of good parameters, and those behind it
  good_first : (before : List (List ℕ)) (r : RawParameter) (rs : List RawParameter) → Good before (r ∷ rs) → is_faulty fit before r ≡ false
  unfolding is_faulty stated_type own_parameters pick
  good_first before r rs g =
      let f = not-true _ (every_both (λ (r : RawParameter). not (is_one_of (name_of r) before)) r rs g.fresh).0 in
      or_no _ _ f (not_off _ (go (is_value_parameter r) refl f g.typed g.fits))
    where
      go : (b : Bool) → is_value_parameter r ≡ b → is_one_of (name_of r) before ≡ false → (is_one_of (ascii "VALUE") before ≡ false → stated_type n (r ∷ rs) ≡ Some t) → every fit (own_parameters (r ∷ rs)) ≡ true →
          pick b (is_read (type_in r.values)) (fit r) ≡ true
      go true v f s e = rw (rw v at (s (rw (same_true (name_of r) (ascii "VALUE") v) at f))) (unfold is_read in refl)
      go false v f s e = (every_both fit r (own_parameters rs) (rw v at e)).0

  good_rest : (before : List (List ℕ)) (r : RawParameter) (rs : List RawParameter) → Good before (r ∷ rs) → Good (name_of r ∷ before) rs
  unfolding distinct stated_type own_parameters is_one_of pick
  good_rest before r rs g =
      let d = pick_second _ _ g.once in
      record {
        fresh = fresh_more before (name_of r) rs (every_both (λ (r : RawParameter). not (is_one_of (name_of r) before)) r rs g.fresh).1 d.0;
        once = d.1;
        typed = λ h. typed (is_value_parameter r) refl (or_neither _ _ h) g.typed;
        fits = own (is_value_parameter r) refl g.fits;
      }
    where
      typed : (b : Bool) → is_value_parameter r ≡ b → (same (ascii "VALUE") (name_of r) ≡ false) × (is_one_of (ascii "VALUE") before ≡ false) → (is_one_of (ascii "VALUE") before ≡ false → stated_type n (r ∷ rs) ≡ Some t) →
          stated_type n rs ≡ Some t
      typed true v d k = absurd (false≢true (sym (same_swap (ascii "VALUE") (name_of r) d.0) ∙ v))
      typed false v d k = rw v at (k d.1)

      own : (b : Bool) → is_value_parameter r ≡ b → every fit (own_parameters (r ∷ rs)) ≡ true → every fit (own_parameters rs) ≡ true
      own true v h = rw v at h
      own false v h = (every_both fit r (own_parameters rs) (rw v at h)).1

  good_none : (before : List (List ℕ)) (rs : List RawParameter) → Good before rs → first_faulty fit before rs ≡ None
  unfolding first_faulty pick
  good_none before [] g = refl
  good_none before (r ∷ rs) g = rw (good_first before r rs g) (good_none (name_of r ∷ before) rs (good_rest before r rs g))

-- ---- where each stands once, and one is ENCODING=BASE64, no other is ENCODING

base64_is : (r : RawParameter) → is_raw_base64_encoding r ≡ true → name_of r ≡ ascii "ENCODING"
base64_is r h = same_true (name_of r) (ascii "ENCODING") (and_both _ _ h).0

among : (rs : List RawParameter) → any_one is_raw_base64_encoding rs ≡ true → is_one_of (ascii "ENCODING") (map name_of rs) ≡ true
unfolding any_one is_one_of
among [] h = h
among (r ∷ rs) h = or_cases (is_raw_base64_encoding r) _ h (λ k. or_left _ _ (rw (base64_is r k) (same_self (ascii "ENCODING")))) (λ k. or_right _ _ (among rs k))

none_else : (rs : List RawParameter) → is_one_of (ascii "ENCODING") (map name_of rs) ≡ false → every (λ (r : RawParameter). not (is_encoding r) or is_raw_base64_encoding r) rs ≡ true
unfolding every is_one_of
none_else [] h = refl
none_else (r ∷ rs) h = let e = or_neither _ _ h in and_yes _ _ (or_left _ _ (not_yes _ (same_swap (ascii "ENCODING") (name_of r) e.0))) (none_else rs e.1)

only : (rs : List RawParameter) → distinct (map name_of rs) ≡ true → any_one is_raw_base64_encoding rs ≡ true → every (λ (r : RawParameter). not (is_encoding r) or is_raw_base64_encoding r) rs ≡ true
unfolding distinct any_one every
only [] d h = refl
only (r ∷ rs) d h =
    let e = pick_second _ _ d in
    or_cases (is_raw_base64_encoding r) _ h (λ k. and_yes _ _ (or_right _ _ k) (none_else rs (rw (base64_is r k) at e.0))) (λ k. and_yes _ _ (other k (is_encoding r) refl e.0) (only rs e.1 k))
  where
    other : any_one is_raw_base64_encoding rs ≡ true → (b : Bool) → is_encoding r ≡ b → is_one_of (name_of r) (map name_of rs) ≡ false → (not (is_encoding r) or is_raw_base64_encoding r) ≡ true
    other k true q z = absurd (false≢true (sym z ∙ rw (same_true (name_of r) (ascii "ENCODING") q) (among rs k)))
    other k false q z = or_left _ _ (not_yes _ q)

some_encoding : (rs : List RawParameter) → any_one is_raw_base64_encoding rs ≡ true → any_one is_encoding rs ≡ true
unfolding any_one
some_encoding [] h = h
some_encoding (r ∷ rs) h = or_cases (is_raw_base64_encoding r) _ h (λ k. or_left _ _ (and_both _ _ k).0) (λ k. or_right _ _ (some_encoding rs k))

pub own_every : (q : RawParameter → Bool) (rs : List RawParameter) → every q rs ≡ true → every q (own_parameters rs) ≡ true
unfolding own_parameters every
own_every q [] h = refl
own_every q (r ∷ rs) h =
    let e = every_both q r rs h in
    let ih = own_every q rs e.1 in
    pick_either (λ (l : List RawParameter). every q l ≡ true) (is_value_parameter r) (own_parameters rs) (r ∷ own_parameters rs) ih (and_yes _ _ e.0 ih)

all_encode : (n : List ℕ) (t : ValueType) (rs : List RawParameter) → distinct (map name_of rs) ≡ true → (not (same_type t BINARY) or any_one is_raw_base64_encoding rs) ≡ true → every (encodes n t) rs ≡ true
unfolding every ◌and◌ ◌or◌
all_encode n t rs d h = go (same_type t BINARY) h
  where
    None : (rs : List RawParameter) → every (λ (r : RawParameter). not (false and is_encoding r) or is_raw_base64_encoding r) rs ≡ true
    None [] = refl
    None (r ∷ rs) = None rs

    go : (b : Bool) → (not b or any_one is_raw_base64_encoding rs) ≡ true → every (λ (r : RawParameter). not (b and is_encoding r) or is_raw_base64_encoding r) rs ≡ true
    go true k = only rs d k
    go false k = None rs

pub good_faultless : (n : List ℕ) (t : ValueType) (rs : List RawParameter) → stated_type n rs ≡ Some t → parameters_good n t rs ≡ true → parameters_fault n (stated_type n rs) rs ≡ None
unfolding parameters_good parameters_fault is_one_of read_or ◌and◌ ◌or◌
good_faultless n t rs s h =
    let a = and_both (distinct (map name_of rs)) _ h in
    let b = and_both (is_read (read_parameters rs)) _ a.1 in
    let c = and_both (every (permits n t) (own_parameters rs)) _ b.1 in
    let k = own_every (encodes n t) rs (all_encode n t rs a.0 c.1) in
    let d = every-and (λ r. is_read (read_parameter r)) (encodes n t) (own_parameters rs) (each_read (own_parameters rs) ∙ b.0) k in
    let g : Good (fits n (Some t)) n t [] rs = record {
      fresh = every_always (λ (r : RawParameter). not (is_one_of (name_of r) [])) (λ r. refl) rs;
      once = a.0;
      typed = λ z. s;
      fits = every-and (permits n t) (λ r. is_read (read_parameter r) and encodes n t r) (own_parameters rs) c.0 d;
    } in
    rw (s, good_none (fits n (Some t)) n t [] rs g, lacks (same_type t BINARY) c.1)
  where
    lacks : (y : Bool) → (not y or any_one is_raw_base64_encoding rs) ≡ true → (y and not (any_one is_encoding rs)) ≡ false
    lacks true k = rw (some_encoding rs k)
    lacks false k = refl

-- ---- the faulty parameter is one of the line's

first_within : (fit : RawParameter → Bool) (before : List (List ℕ)) (rs : List RawParameter) (i : ℕ) → first_faulty fit before rs ≡ Some i → i < length before + length rs
unfolding first_faulty pick
first_within fit before [] i h = none-some h
first_within fit before (r ∷ rs) i h = go (is_faulty fit before r) h (first_within fit (name_of r ∷ before) rs i)
  where
    go : (b : Bool) → pick b (Some (length before)) (first_faulty fit (name_of r ∷ before) rs) ≡ Some i → (first_faulty fit (name_of r ∷ before) rs ≡ Some i → i < suc (length before) + length rs) → i < length before + suc (length rs)
    go true k ih = let z : length before ≡ i = cc in omega (arith, z)
    go false k ih = let l = ih k in omega (arith, l)

placed : (o : Option ℕ) (b : Bool) (i : ℕ) → place_of_fault o b ≡ Some (parameter_name i) → o ≡ Some i
placed (Some j) b i h = let z : j ≡ i = cc in rw z
placed None true i h = let z : ◌≡◌ {A = ℕ} 0 1 = cc in absurd (omega arith)
placed None false i h = none-some h

of_parameter : (o : Option Where) (b : Bool) (w : Where) → line_fault o b ≡ Some (fault PARAMETER w) → o ≡ Some w
of_parameter (Some v) b w h = let z : v ≡ w = cc in rw z
of_parameter None true w h = none-some h
of_parameter None false w h = let z : ◌≡◌ {A = ℕ} 0 1 = cc in absurd (omega arith)

pub fault_within : (k : List ℕ) (l : ContentLine) (i : ℕ) → property_fault k l ≡ Some (fault PARAMETER (parameter_name i)) → i < length l.parameters
unfolding fault_as parameters_fault
fault_within k l i h =
    let n = upper l.name in
    let p = of_parameter (parameters_fault n (type_of_line l) l.parameters) (is_read (values_of_line k (type_of_line l) l)) (parameter_name i) h in
    let f = placed (first_faulty (fits n (type_of_line l)) [] l.parameters) (lacks_encoding (type_of_line l) l.parameters) i p in
    let w = first_within (fits n (type_of_line l)) [] l.parameters i f in
    omega (arith, w)
