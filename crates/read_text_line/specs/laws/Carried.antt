-- Laws of what specs/Carried.antt defines.
--     carried_run     whatever follows a name does not matter
use Rattle.std.specs.Prelude.{◌≡◌, Bool, ℕ, suc, take, Option, None, Some, Result, Ok, Err}
use Rattle.std.proofs.Math.Path.{refl, sym}
use Rattle.std.proofs.Common.{◌∙◌}
use Rattle.std.proofs.Math.Bool.{true, false, not}
use Rattle.std.proofs.lemmas.Bool.{false≢true}
use mathlib.Core.List.{List, [], ◌∷◌}
use Rattle.std.proofs.Math.Dec.{eqb}
use borrow.Author.Tests.{eq-eqb, ne_eqb, eqb-true, le-leb}
use Rattle.octets.specs.Ascii.{ascii}
use Rattle.octets.specs.Pick.{pick, ◌and◌, ◌or◌}
use Rattle.octets.specs.laws.Pick.{or_left, or_right, or_neither, or_take, or_skip, and_go, and_stop, within_yes, eqb_swap}
use Rattle.octets.specs.Class.{is_digit, is_name_char, upper_byte, upper}
use Rattle.octets.specs.laws.Letters.{upper_by_cases}
use Rattle.octets.specs.Lists.{every}
use Rattle.octets.specs.Scan.{span_len, all_of}
use Rattle.octets.specs.laws.Scan.{all_split}
use Rattle.octets.specs.Runs.{run_of}
use Rattle.octets.specs.Words.{starts}
use Rattle.source.specs.Source.{rest, spell, Reads}
use Rattle.source.specs.declared.points.Unit.{Unit}
use Rattle.read_text_line.specs.ContentLine.{next_param}
use Rattle.read_text_line.specs.Names.{starts_off_name, is_carried_name}
use Rattle.read_text_line.specs.Cursor.{params_at}
use Rattle.read_text_line.specs.Params.{ParamOf}
use Rattle.read_text_line.specs.laws.Params.{param_more, param_over, param_fault}
use Rattle.read_text_line.specs.Carried.{carries_name}
use Rattle.read_text_line.specs.declared.Malformed.{Malformed}
use Rattle.read_text_line.specs.declared.ParameterCursors.{ParameterCursors}

-- ---- by the unit at a cursor

module _ {m : ℕ} {s : List ℕ} {c : ℕ} {n : Unit} (p : Reads m s c n) where
  off_here : starts_off_name (rest m s c) ≡ (is_digit n.u or eqb n.u 45)
  unfolding starts_off_name spell pick ◌or◌ ◌and◌
  off_here = rw p.is (go (eqb n.u 256) refl)
    where
      go : (t : Bool) → eqb n.u 256 ≡ t → starts_off_name (pick t [] (n.u ∷ rest m s n.next)) ≡ (is_digit n.u or eqb n.u 45)
      go true e = rw (eqb-true n.u 256 e)
      go false e = refl

  module _ {t : Bool} (e : t ≡ is_digit n.u) where
    pub off_digit : t ≡ true → true ≡ starts_off_name (rest m s c)
    off_digit h = or_take (is_digit n.u) (eqb n.u 45) (sym e ∙ h) ∙ sym off_here

    pub off_other : t ≡ false → eqb n.u 45 ≡ starts_off_name (rest m s c)
    off_other h = or_skip (is_digit n.u) (eqb n.u 45) (eqb n.u 45) (sym e ∙ h) refl ∙ sym off_here

  -- the next of some capitals x and w
  module _ {v : ℕ} (x : ℕ) (w : List ℕ) (e : v ≡ upper_byte n.u) where
    step_here : (x ≡ 256 → ⊥) → starts (x ∷ w) (upper (rest m s c)) ≡ (eqb x v and starts w (upper (rest m s n.next)))
    unfolding starts upper spell pick ◌and◌
    step_here h = rw (p.is, e) (go (eqb n.u 256) refl)
      where
        go : (t : Bool) → eqb n.u 256 ≡ t → starts (x ∷ w) (upper (pick t [] (n.u ∷ rest m s n.next))) ≡ (eqb x (upper_byte n.u) and starts w (upper (rest m s n.next)))
        go true k = rw (eqb-true n.u 256 k, ne_eqb x 256 h)
        go false k = refl

    pub starts_more : {r : Bool} → (x ≡ 256 → ⊥) → v ≡ x → r ≡ starts w (upper (rest m s n.next)) → r ≡ starts (x ∷ w) (upper (rest m s c))
    unfolding ◌and◌
    starts_more h k q = q ∙ sym (step_here h ∙ rw (eq-eqb x v (sym k)))

    pub starts_not : (x ≡ 256 → ⊥) → (v ≡ x → ⊥) → false ≡ starts (x ∷ w) (upper (rest m s c))
    unfolding ◌and◌
    starts_not h k = sym (step_here h ∙ rw (ne_eqb x v (λ z. k (sym z))))

  -- the last one
  pub starts_last : {v : ℕ} (x : ℕ) → v ≡ upper_byte n.u → (x ≡ 256 → ⊥) → eqb v x ≡ starts (x ∷ []) (upper (rest m s c))
  unfolding starts ◌and◌
  starts_last {v} x e h = go (eqb x v) refl
    where
      go : (t : Bool) → eqb x v ≡ t → eqb v x ≡ starts (x ∷ []) (upper (rest m s c))
      go true k = eq-eqb v x (sym (eqb-true x v k)) ∙ sym (step_here x [] e h ∙ rw k)
      go false k = eqb_swap x v k ∙ sym (step_here x [] e h ∙ rw k)

module _ (n : List ℕ) {a : Bool} (p : a ≡ starts_off_name n) where
  pub carried_off : a ≡ true → false ≡ is_carried_name n
  unfolding is_carried_name pick ◌or◌
  carried_off h = rw (sym p ∙ h)

  pub carried_test : {b : Bool} → b ≡ starts (ascii "XML") (upper n) → a ≡ false → not b ≡ is_carried_name n
  unfolding is_carried_name pick ◌or◌
  carried_test {b} q h = rw (sym p ∙ h, ← q) (go b)
    where
      go : (t : Bool) → not t ≡ pick t false true
      go true = refl
      go false = refl

-- ---- a name, and what follows it

off_run : (xs : List ℕ) → starts_off_name (run_of is_name_char xs) ≡ starts_off_name xs
unfolding starts_off_name run_of span_len pick
off_run [] = refl
off_run (b ∷ xs) = go (is_name_char b) refl
  where
    go : (t : Bool) → is_name_char b ≡ t → starts_off_name (take (pick t (suc (span_len is_name_char xs)) 0) (b ∷ xs)) ≡ (is_digit b or eqb b 45)
    go true e = refl
    go false e = sym (or_neither _ (is_digit b or eqb b 45) e).1

lower_name_char : (b : ℕ) → is_name_char (upper_byte b) ≡ true → is_name_char b ≡ true
lower_name_char b = upper_by_cases (λ x. is_name_char x ≡ true → is_name_char b ≡ true) b (λ l k h. or_left _ _ (or_right _ _ (within_yes 97 122 b (le-leb 97 b l) (le-leb b 122 k)))) (λ e h. h)

starts_run : (w xs : List ℕ) → all_of is_name_char w ≡ true → starts w (upper (run_of is_name_char xs)) ≡ starts w (upper xs)
unfolding starts upper run_of span_len pick ◌and◌
starts_run [] xs h = refl
starts_run (x ∷ w) [] h = refl
starts_run (x ∷ w) (b ∷ xs) h = go (is_name_char b) refl (starts_run w xs (all_split is_name_char x w h).1)
  where
    other : is_name_char b ≡ false → x ≡ upper_byte b → ⊥
    other e k = false≢true (sym e ∙ lower_name_char b (rw k at (all_split is_name_char x w h).0))

    go : (t : Bool) → is_name_char b ≡ t → starts w (upper (run_of is_name_char xs)) ≡ starts w (upper xs) →
        starts (x ∷ w) (upper (take (pick t (suc (span_len is_name_char xs)) 0) (b ∷ xs))) ≡ (eqb x (upper_byte b) and starts w (upper xs))
    go true e ih = rw ih
    go false e ih = rw (ne_eqb x (upper_byte b) (other e))

pub carried_run : (xs : List ℕ) → is_carried_name (run_of is_name_char xs) ≡ is_carried_name xs
unfolding is_carried_name all_of pick ◌or◌ ◌and◌
carried_run xs = rw (off_run xs, starts_run (ascii "XML") xs refl)

-- ---- all parameters of a line

-- those from c on are left to test
module _ {m : ℕ} {s : List ℕ} {c : ℕ} {v : Bool} {r : Result (Option ParameterCursors) (Malformed ParameterCursors)} (e : v ≡ every carries_name (params_at m s c)) (a : ParamOf next_param m s c r) where
  module _ {t : Bool} {p : ParameterCursors} (h : r ≡ Ok (Some p)) (q : t ≡ is_carried_name (rest m s p.name)) where
    pub carried_more : t ≡ true → v ≡ every carries_name (params_at m s p.next)
    unfolding every ◌and◌
    carried_more z = e ∙ rw (param_more a h, carried_run (rest m s p.name), ← q, z)

    pub carried_stop : t ≡ false → false ≡ v
    unfolding every ◌and◌
    carried_stop z = sym (e ∙ rw (param_more a h, carried_run (rest m s p.name), ← q, z))

  pub carried_over : r ≡ Ok None → true ≡ v
  unfolding every
  carried_over h = sym (e ∙ rw (param_over a h))

  pub carried_fault : {x : Malformed ParameterCursors} → r ≡ Err x → true ≡ v
  unfolding every
  carried_fault h = sym (e ∙ rw (param_fault a h))

-- the name of a line, and then its parameters
module _ (xs : List ℕ) {t : Bool} (b : Bool) (q : t ≡ is_carried_name xs) where
  pub carried_both : {r : Bool} → t ≡ true → r ≡ b → r ≡ (is_carried_name (run_of is_name_char xs) and b)
  carried_both {r} h e = and_go _ b r (carried_run xs ∙ sym q ∙ h) e

  pub carried_not : t ≡ false → false ≡ (is_carried_name (run_of is_name_char xs) and b)
  carried_not h = and_stop _ b (carried_run xs ∙ sym q ∙ h)
