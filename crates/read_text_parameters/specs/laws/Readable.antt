-- Laws of what specs/Readable.antt defines.
--     own_every      what holds of a property's own parameters, of all of them;   all_read: all can be read where each one can
--     single_.., amount_.., readable_..    for code
use Rattle.std.specs.Prelude.{◌≡◌, refl, Bool, true, false, List, [], ◌∷◌, map, ℕ, Option, None, Some, option_map, Result, Ok, Err}
use Rattle.std.proofs.Common.{sym, ap, ◌∙◌}
use Rattle.octets.specs.Ascii.{ascii}
use Rattle.octets.specs.Pick.{pick, ◌and◌, ◌or◌}
use Rattle.octets.specs.laws.Pick.{or_take, or_skip}
use Rattle.octets.specs.Class.{upper}
use Rattle.octets.specs.Words.{same, is_empty}
use Rattle.octets.specs.Lists.{every}
use Rattle.octets.specs.laws.Lists.{every_map}
use Rattle.octets.specs.Reading.{is_read, and_then, cons_read, read_each}
use Rattle.calendar.specs.Calendar.{Value, Parameter}
use Rattle.source.specs.Source.{rest, cuts}
use Rattle.names.specs.Table.{place_of}
use Rattle.schema.specs.Parameters.{ParameterRow, parameter_names, is_listed_parameter}
use Rattle.schema.specs.Numbers.{parameter_at}
use Rattle.schema.specs.laws.Numbers.{parameter_place}
use Rattle.edition.specs.declared.Edition.{Edition}
use Rattle.read_text_line.specs.ContentLine.{ParamValue, RawParameter, param_value, next_value}
use Rattle.read_text_line.specs.Items.{items}
use Rattle.read_text_line.specs.Decoded.{decoded_value}
use Rattle.read_text_line.specs.laws.Decoded.{map_empty}
use Rattle.read_text_line.specs.Cursor.{values_at}
use Rattle.read_text_line.specs.Values.{ValueAt}
use Rattle.read_text_line.specs.declared.Malformed.{Malformed}
use Rattle.read_text_line.specs.declared.ValueCursors.{ValueCursors}
use Rattle.text.specs.Parameters.{read_param_value, is_single, read_parameter, is_value_parameter, own_parameters, read_parameters}
use Rattle.read_text_parameters.specs.Cutting.{value_cut}
use Rattle.read_text_parameters.specs.laws.Cutting.{values_first, values_none, values_step}
use Rattle.read_text_parameters.specs.Typing.{is_value_by, is_value_in}
use Rattle.read_text_parameters.specs.laws.Typing.{value_place}
use Rattle.read_text_parameters.specs.laws.Steps.{every_go, every_halt}
use Rattle.read_text_parameters.specs.Readable.{is_read_by, is_readable}

-- ---- by tests

-- each of a list is read where it passes the test
each_read : {A B : Type 0} (f : A → Option B) (p : A → Bool) → ((a : A) → is_read (f a) ≡ p a) → (l : List A) → is_read (read_each f l) ≡ every p l
unfolding read_each every is_read and_then cons_read ◌and◌
each_read f p k [] = refl
each_read {B = B} f p k (a ∷ l) = rw (← (k a), ← (each_read f p k l)) (go (f a) (read_each f l))
  where
    go : (o : Option B) (r : Option (List B)) → is_read (and_then o (λ b. cons_read b r)) ≡ (is_read o and is_read r)
    go None r = refl
    go (Some b) None = refl
    go (Some b) (Some l) = refl

counted : {A B : Type 0} (t : Bool) (g : A → B) (o : Option A) → is_read (pick t (option_map g o) None) ≡ (t and is_read o)
unfolding is_read pick ◌and◌
counted false g o = refl
counted true g None = refl
counted true g (Some a) = refl

pub parameter_read : (r : RawParameter) → is_read (read_parameter r) ≡ is_read_by (parameter_at (place_of (upper r.name) parameter_names)) r.values
unfolding read_parameter
parameter_read r =
    let n = upper r.name in
    let g : List Value → Parameter = λ vs. record { name = n; values = vs } in
    let q = parameter_at (place_of n parameter_names) in
    counted (is_listed_parameter n or is_single r.values) g (read_each (read_param_value n) r.values)
    ∙ ap (λ (b : Bool). (is_listed_parameter n or is_single r.values) and b) (each_read (read_param_value n) (is_value_by q) (λ v. ap is_read (value_place n v)) r.values)
    ∙ ap (λ (p : ParameterRow). (p.listed or is_single r.values) and every (is_value_by q) r.values) (parameter_place n)

pub own_every : (p q : RawParameter → Bool) → ((r : RawParameter) → (is_value_parameter r or p r) ≡ q r) → (rs : List RawParameter) → every p (own_parameters rs) ≡ every q rs
unfolding own_parameters every pick ◌or◌ ◌and◌
own_every p q f [] = refl
own_every p q f (r ∷ rs) = rw (← (f r), ← (own_every p q f rs)) (go (is_value_parameter r))
  where
    go : (t : Bool) → every p (pick t (own_parameters rs) (r ∷ own_parameters rs)) ≡ ((t or p r) and every p (own_parameters rs))
    go true = refl
    go false = refl

pub all_read : (rs : List RawParameter) → is_read (read_parameters rs) ≡ every is_readable rs
all_read rs = each_read read_parameter (λ r. is_read (read_parameter r)) (λ r. refl) (own_parameters rs) ∙ own_every (λ r. is_read (read_parameter r)) is_readable (λ r. refl) rs

-- ---- for code

-- the values of a parameter, tested one by one
module _ {m : ℕ} (y : cuts m ≡ true) (p : ParamValue → Bool) {s : List ℕ} {c : ℕ} {r : Result (Option ValueCursors) (Malformed ValueCursors)} {vc : ValueCursors} {t : Bool} (q : t ≡ p (value_cut m s vc.quoted vc.from vc.to)) where
  module _ (v : ValueAt param_value m s c r) (h : r ≡ Ok (Some vc)) where
    pub first_go : {b : Bool} → t ≡ true → b ≡ every p (items next_value (rest m s vc.next)) → b ≡ every p (values_at m s c)
    first_go z e = e ∙ sym (ap (every p) (values_first y v h) ∙ every_go p _ _ q z)

    pub first_halt : t ≡ false → false ≡ every p (values_at m s c)
    first_halt z = sym (ap (every p) (values_first y v h) ∙ every_halt p _ _ q z)

  module _ {b : Bool} (e : b ≡ every p (items next_value (rest m s c))) (v : ValueAt next_value m s c r) (h : r ≡ Ok (Some vc)) where
    pub later_go : t ≡ true → b ≡ every p (items next_value (rest m s vc.next))
    later_go z = values_step y (every p) e v h ∙ every_go p _ _ q z

    pub later_halt : t ≡ false → false ≡ b
    later_halt z = sym (values_step y (every p) e v h ∙ every_halt p _ _ q z)

module _ {m : ℕ} {s : List ℕ} {c : ℕ} {r : Result (Option ValueCursors) (Malformed ValueCursors)} (y : cuts m ≡ true) (v : ValueAt param_value m s c r) where
  pub single_first : {b : Bool} {vc : ValueCursors} → r ≡ Ok (Some vc) → b ≡ is_empty (items next_value (rest m s vc.next)) → b ≡ is_single (values_at m s c)
  single_first h e = e ∙ sym (ap is_single (values_first y v h))

  pub single_none : {x : Malformed ValueCursors} → r ≡ Err x → false ≡ is_single (values_at m s c)
  single_none h = sym (ap is_single (values_none y v h))

module _ (n : List ℕ) (vs : List ParamValue) {b : Bool} (e : b ≡ same (upper n) (ascii "VALUE")) where
  pub readable_value : b ≡ true → true ≡ is_readable (record { name = n; values = vs })
  readable_value h = or_take _ _ (sym e ∙ h)

  pub readable_other : {q : ℕ} {t : Bool} → b ≡ false → q ≡ place_of (upper n) parameter_names → t ≡ is_read_by (parameter_at q) vs → t ≡ is_readable (record { name = n; values = vs })
  readable_other {q} {t} h k p = or_skip _ _ _ (sym e ∙ h) (p ∙ ap (λ (i : ℕ). is_read_by (parameter_at i) vs) k ∙ sym (parameter_read (record { name = n; values = vs })))

-- ---- as an edition reads them

single_decoded : (ed : Edition) (vs : List ParamValue) → is_single (map (decoded_value ed) vs) ≡ is_single vs
single_decoded ed [] = refl
single_decoded ed (v ∷ vs) = map_empty (decoded_value ed) vs

-- by the values as they stand
pub read_by_lem : (ed : Edition) (p : ParameterRow) (vs : List ParamValue) → is_read_by p (map (decoded_value ed) vs) ≡ ((p.listed or is_single vs) and every (is_value_in ed p) vs)
read_by_lem ed p vs = rw (single_decoded ed vs, every_map (is_value_by p) (decoded_value ed) vs)
