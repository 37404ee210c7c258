-- Laws of what specs/Listed.antt defines.
--     each_bad, each_last, each_more          the loop over pieces;   each_gone: past the end
--     listed_text, listed_other               a list of TEXT, and of another type
use Rattle.std.specs.Prelude.{◌≡◌, refl, Bool, true, false, List, [], ◌∷◌, map, ℕ, ◌≤◌, ◌<◌, length, take, Option, None, Some}
use Rattle.std.proofs.Math.Path.{sym, ap}
use Rattle.std.proofs.Common.{◌∙◌, arith, ne_eqb}
use Rattle.std.proofs.Math.Decide.{dec_le}
use Rattle.std.proofs.Math.ListN.{get_or-eq_default}
use Rattle.octets.specs.Pick.{pick, ◌and◌}
use Rattle.octets.specs.Words.{cut_at}
use Rattle.octets.specs.Reading.{and_then, is_read, cons_read, read_each}
use Rattle.calendar.specs.Calendar.{ical, ValueType, TEXT, UNKNOWN, Value, text}
use Rattle.source.specs.Source.{rest, cuts, Reads}
use Rattle.source.specs.laws.Facts.{rest_past}
use Rattle.source.specs.declared.points.Unit.{Unit}
use Rattle.schema.specs.Types.{value_types, same_type}
use Rattle.schema.specs.Numbers.{type_at}
use Rattle.schema.specs.laws.Places.{type_back}
use Rattle.recur.specs.Pieces.{Ends}
use Rattle.recur.specs.laws.PieceLaws.{Left, step_less, pieces_any, pieces_last, pieces_more, cons_read_lem}
use Rattle.texts.specs.TextList.{read_texts}
use Rattle.values.specs.ReadValue.{read_value}
use Rattle.values.specs.laws.ValueAt.{mapped}
use Rattle.text.specs.Values.{read_listed}
use Rattle.read_text_property.specs.Listed.{each_value}

-- ---- the pieces of a list

each_first : (t : ValueType) (w : List ℕ) (ws : List (List ℕ)) → each_value t (w ∷ ws) ≡ (is_read (read_value ical t w) and each_value t ws)
unfolding read_each
each_first t w ws = cons_read_lem (read_value ical t w) (read_each (read_value ical t) ws)

each_none : (t : ValueType) → each_value t [] ≡ true
unfolding read_each is_read
each_none t = refl

module _ (t : ValueType) {m : ℕ} {s : List ℕ} {c₀ c e : ℕ} (l : Left (each_value t) 44 m s c₀ c) (d : Ends 44 m s c e) where
  pub each_bad : is_read (read_value ical t (rest m (take e s) c)) ≡ false → false ≡ each_value t (cut_at 44 (rest m s c₀))
  unfolding ◌and◌
  each_bad h = sym (l.left ∙ ap (each_value t) (pieces_any d) ∙ each_first t _ _ ∙ rw h)

  module _ {n : Unit} (q : Reads m s e n) (h : is_read (read_value ical t (rest m (take e s) c)) ≡ true) where
    pub each_last : n.u ≡ 256 → true ≡ each_value t (cut_at 44 (rest m s c₀))
    unfolding ◌and◌
    each_last z = sym (l.left ∙ ap (each_value t) (pieces_last d q z) ∙ each_first t _ _ ∙ rw h (each_none t))

    pub each_more : (n.u ≡ 256 → ⊥) → Left (each_value t) 44 m s c₀ n.next
    unfolding ◌and◌
    each_more z = record { left = l.left ∙ ap (each_value t) (pieces_more d q z) ∙ each_first t _ _ ∙ rw h; inside = (step_less d.inside q z).1 }

alone : (o : Option Value) → is_read (and_then o (λ v. cons_read v (Some []))) ≡ is_read o
unfolding and_then cons_read is_read
alone None = refl
alone (Some v) = refl

gone_is : {r : Bool} (t : ValueType) → r ≡ is_read (read_value ical t []) → r ≡ each_value t (cut_at 44 [])
unfolding cut_at read_each
gone_is t e = e ∙ sym (alone (read_value ical t []))

pub each_gone : {r : Bool} (t : ValueType) (m : ℕ) (s : List ℕ) (c : ℕ) → cuts m ≡ true → length s < c → r ≡ is_read (read_value ical t (rest m s c)) → r ≡ each_value t (cut_at 44 (rest m s c))
each_gone t m s c y h e = let p = rest_past m s c y (omega arith) in rw p (gone_is t (rw p at e))

-- ---- a list

not_text : (t : ℕ) → (t ≡ 10 → ⊥) → same_type (type_at t) TEXT ≡ false
unfolding same_type
not_text t h = go (dec_le 14 t)
  where
    go : Dec (14 ≤ t) → same_type (type_at t) TEXT ≡ false
    go (yes k) = rw (get_or-eq_default value_types UNKNOWN k)
    go (no k) = let z : t < 14 = omega (arith, k) in rw (type_back t (omega arith)) (ne_eqb t 10 h)

module _ {r : Bool} (t : ℕ) (l : List ℕ) where
  pub listed_text : t ≡ 10 → r ≡ is_read (read_texts l) → r ≡ is_read (read_listed (type_at t) l)
  unfolding pick same_type
  listed_text h e = rw h (e ∙ sym (mapped (map text) (read_texts l)))

  pub listed_other : (t ≡ 10 → ⊥) → r ≡ each_value (type_at t) (cut_at 44 l) → r ≡ is_read (read_listed (type_at t) l)
  unfolding pick
  listed_other h e = rw (not_text t h) e
