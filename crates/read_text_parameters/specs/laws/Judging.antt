-- Laws of what specs/Walking.antt says of one parameter, each way that code goes.
--     sought_..     the place of the first that comes again
--     for_..        the type by which it is judged
--     encodes_..    ENCODING;   behind_..: the type behind it
use Rattle.std.specs.Prelude.{◌≡◌, Bool, true, false, List, [], ℕ, eqb, Option, None, Some}
use Rattle.std.proofs.Math.Path.{sym}
use Rattle.std.proofs.Common.{ap, ◌∙◌}
use borrow.Author.Tests.{eq-eqb, ne_eqb}
use Rattle.bits.specs.Masks.{has}
use Rattle.octets.specs.Ascii.{ascii}
use Rattle.octets.specs.Pick.{pick, ◌and◌, ◌or◌}
use Rattle.octets.specs.Reading.{read_or}
use Rattle.distinct.specs.Again.{first_again}
use Rattle.schema.specs.declared.table.Row.{Row}
use Rattle.read_text_line.specs.ContentLine.{ParamValue, RawParameter}
use Rattle.text.specs.Parameters.{is_word, type_in}
use Rattle.read_text_parameters.specs.Stating.{NumberOf, TypeOf, stated_at}
use Rattle.read_text_parameters.specs.Walking.{sought_by, type_for, encodes_by, fits_by, behind_at, stated_by}
use Rattle.read_text_parameters.specs.declared.walk.Noted.{Noted}

module _ (n : Noted) (names : List (List ℕ)) where
  pub sought_now : {k f : ℕ} → k ≡ n.count → k ≡ 16 → f ≡ first_again [] names → record { count = n.count; seen = n.seen; again = f; value_type = n.value_type } ≡ sought_by n names
  unfolding pick
  sought_now e h g = rw (eq-eqb n.count 16 (sym e ∙ h), g)

  pub sought_not : {k : ℕ} → k ≡ n.count → (k ≡ 16 → ⊥) → n ≡ sought_by n names
  unfolding pick
  sought_not e h = rw (ne_eqb n.count 16 (λ z. h (e ∙ z)))

-- ---- the type by which it is judged

module _ (n : Noted) (rs : List RawParameter) (q : ℕ) {b : Bool} (e : b ≡ (eqb q 13 or eqb q 6)) where
  pub for_other : b ≡ false → 5 ≡ type_for q (stated_by n rs)
  unfolding pick
  for_other h = rw (← e, h)

  module _ {c : Bool} (h : b ≡ true) (f : c ≡ has n.seen 20) where
    pub for_named : {t : ℕ} → t ≡ n.value_type → c ≡ true → t ≡ type_for q (stated_by n rs)
    unfolding pick read_or
    for_named g k = rw (← e, h, ← f, k) g

    pub for_none : c ≡ false → stated_at n.value_type rs ≡ None → 5 ≡ type_for q (stated_by n rs)
    unfolding pick read_or
    for_none k g = rw (← e, h, ← f, k, g)

    pub for_some : {u : ℕ} → c ≡ false → stated_at n.value_type rs ≡ Some u → u ≡ type_for q (stated_by n rs)
    unfolding pick read_or
    for_some k g = rw (← e, h, ← f, k, g)

-- ---- ENCODING

module _ (t q : ℕ) (vs : List ParamValue) where
  pub encodes_is : {r : Bool} → t ≡ 0 → q ≡ 6 → r ≡ is_word (ascii "BASE64") vs → r ≡ encodes_by t q vs
  unfolding ◌and◌ ◌or◌
  encodes_is h k e = rw (eq-eqb t 0 h, eq-eqb q 6 k) e

  pub encodes_other : t ≡ 0 → (q ≡ 6 → ⊥) → true ≡ encodes_by t q vs
  unfolding ◌and◌ ◌or◌
  encodes_other h k = rw (eq-eqb t 0 h, ne_eqb q 6 k)

  pub encodes_none : (t ≡ 0 → ⊥) → true ≡ encodes_by t q vs
  unfolding ◌and◌ ◌or◌
  encodes_none h = rw (ne_eqb t 0 h)

-- ---- the type behind it

module _ (row : Row) (o : Option ℕ) (t q : ℕ) (vs : List ParamValue) where
  pub behind_value : {r : Option ℕ} → q ≡ 20 → TypeOf (type_in vs) r → NumberOf (behind_at row o t q vs) r
  unfolding pick
  behind_value h e = record { is = sym (rw (eq-eqb q 20 h) e.is) }

  module _ {u : ℕ} {b : Bool} (h : q ≡ 20 → ⊥) (e : u ≡ type_for q o) (f : b ≡ fits_by row u q vs) where
    fits : b ≡ fits_by row (type_for q o) q vs
    fits = f ∙ ap (λ (j : ℕ). fits_by row j q vs) e

    pub behind_fit : b ≡ true → NumberOf (behind_at row o t q vs) (Some t)
    unfolding pick
    behind_fit k = record { is = rw (ne_eqb q 20 h, ← fits, k) }

    pub behind_unfit : b ≡ false → NumberOf (behind_at row o t q vs) None
    unfolding pick
    behind_unfit k = record { is = rw (ne_eqb q 20 h, ← fits, k) }
