-- Laws of what specs/Naming.antt defines.
--     name_there                                the name of the parameter at a cursor, for code
--     name_less, name_more, name_end, name_on   two names, by the units at their cursors;   name_nearer: the measure of a walk over them
use Rattle.std.specs.Prelude.{◌≡◌, refl, Bool, true, false, List, [], ◌∷◌, ℕ, ◌-◌, ◌*◌, ◌≤◌, ◌<◌, eqb, ltb, length, Option, Some, Result, Ok}
use Rattle.std.proofs.Math.Path.{sym, ap}
use Rattle.std.proofs.Common.{◌∙◌, arith}
use borrow.Author.Tests.{eq-eqb, ne_eqb, eqb-true, eqb-false, lt-ltb, le-ltb}
use Rattle.octets.specs.Pick.{pick}
use Rattle.octets.specs.laws.Pick.{pick_yes, pick_no, pick_either, pick_case, within_range}
use Rattle.octets.specs.Class.{is_name_char, upper_byte, upper}
use Rattle.octets.specs.laws.Class.{name_char_visible}
use Rattle.octets.specs.Scan.{span_len}
use Rattle.octets.specs.Runs.{run_of}
use Rattle.source.specs.Source.{rest, spell, Reads}
use Rattle.source.specs.laws.Facts.{rest_byte, byte_small}
use Rattle.source.specs.declared.points.Unit.{Unit}
use Rattle.distinct.specs.Order.{order}
use Rattle.read_text_line.specs.ContentLine.{next_param}
use Rattle.read_text_line.specs.Params.{ParamOf}
use Rattle.read_text_line.specs.laws.Params.{param_more, param_parts}
use Rattle.read_text_line.specs.declared.Malformed.{Malformed}
use Rattle.read_text_line.specs.declared.ParameterCursors.{ParameterCursors}
use Rattle.read_text_parameters.specs.Comparing.{names_of}
use Rattle.read_text_parameters.specs.Naming.{name_unit, name_at, NameAt}

-- ---- the name of the parameter at a cursor

pub name_there : {m : ℕ} {s : List ℕ} {c : ℕ} {r : Result (Option ParameterCursors) (Malformed ParameterCursors)} {pc : ParameterCursors} → ParamOf next_param m s c r → r ≡ Ok (Some pc) → pc.name < pc.next → NameAt m s c (record { name = pc.name; next = pc.next })
unfolding name_at
name_there a h l = record { is = ap names_of (param_more a h); onward = (param_parts a h).start.onward; past = l }

-- ---- two names, by the units at their cursors

run_yes : (p : ℕ → Bool) (x : ℕ) (r : List ℕ) → p x ≡ true → run_of p (x ∷ r) ≡ x ∷ run_of p r
unfolding run_of span_len pick
run_yes p x r h = rw h

run_no : (p : ℕ → Bool) (x : ℕ) (r : List ℕ) → p x ≡ false → run_of p (x ∷ r) ≡ []
unfolding run_of span_len pick
run_no p x r h = rw h

spell_byte : (u : ℕ) (r : List ℕ) → u < 256 → spell u r ≡ u ∷ r
unfolding spell pick
spell_byte u r h = rw (ne_eqb u 256 (λ e. omega arith))

char_small : (u : ℕ) → is_name_char u ≡ true → u < 256
char_small u h = let v = within_range 33 126 u (name_char_visible u h) in omega (arith, v.1)

upper_small : (u : ℕ) → u < 256 → upper_byte u < 256
upper_small u h = pick_either (λ (k : ℕ). k < 256) _ (u - 32) u (omega arith) h

unit_small : (u : ℕ) → name_unit u ≤ 256
unit_small u = pick_case (λ (k : ℕ). k ≤ 256) (is_name_char u) (upper_byte u) 256 (λ h. let l = upper_small u (char_small u h) in omega (arith, l)) (λ h. omega arith)

name_spell : {m : ℕ} {s : List ℕ} {c : ℕ} {x : Unit} → Reads m s c x → name_at m s c ≡ spell (name_unit x.u) (name_at m s x.next)
unfolding name_at upper pick run_of span_len spell
name_spell {m} {s} {c} {x} p = go (is_name_char x.u) refl
  where
    r : List ℕ
    r = rest m s x.next

    none : (b : Bool) → is_name_char x.u ≡ false → upper (run_of is_name_char (pick b [] (x.u ∷ r))) ≡ []
    none true h = refl
    none false h = ap upper (run_no is_name_char x.u r h)

    go : (t : Bool) → is_name_char x.u ≡ t → upper (run_of is_name_char (rest m s c)) ≡ spell (name_unit x.u) (upper (run_of is_name_char r))
    go true h =
        let l = char_small x.u h in
        ap (λ (w : List ℕ). upper (run_of is_name_char w)) (rest_byte p (λ e. omega (arith, l)))
        ∙ ap upper (run_yes is_name_char x.u r h)
        ∙ sym (spell_byte (upper_byte x.u) (upper (run_of is_name_char r)) (upper_small x.u l))
        ∙ ap (λ (k : ℕ). spell k (upper (run_of is_name_char r))) (sym (pick_yes (is_name_char x.u) (upper_byte x.u) 256 h))
    go false h = ap (λ (w : List ℕ). upper (run_of is_name_char w)) p.is ∙ none (eqb x.u 256) h ∙ ap (λ (k : ℕ). spell k (upper (run_of is_name_char r))) (sym (pick_no (is_name_char x.u) (upper_byte x.u) 256 h))

order_spelled : (a b : ℕ) (r q : List ℕ) → a ≤ 256 → b ≤ 256 → order (spell a r) (spell b q) ≡ pick (ltb a b) 1 (pick (ltb b a) 2 (pick (eqb a 256) 0 (order r q)))
unfolding order spell pick
order_spelled a b r q h k = go (eqb a 256) refl (eqb b 256) refl
  where
    go : (x : Bool) → eqb a 256 ≡ x → (y : Bool) → eqb b 256 ≡ y → order (pick x [] (a ∷ r)) (pick y [] (b ∷ q)) ≡ pick (ltb a b) 1 (pick (ltb b a) 2 (pick x 0 (order r q)))
    go true e true f = let i = eqb-true a 256 e in let j = eqb-true b 256 f in rw (le-ltb a b (omega arith), le-ltb b a (omega arith))
    go true e false f = let i = eqb-true a 256 e in let j = eqb-false b 256 f in rw (le-ltb a b (omega arith), lt-ltb b a (omega (arith, j)))
    go false e true f = let i = eqb-false a 256 e in let j = eqb-true b 256 f in rw (lt-ltb a b (omega (arith, i)))
    go false e false f = refl

module _ {m : ℕ} {s : List ℕ} {c d : ℕ} {x y : Unit} (p : Reads m s c x) (q : Reads m s d y) {a b : ℕ} (e : a ≡ name_unit x.u) (f : b ≡ name_unit y.u) {v : ℕ} (i : v ≡ order (name_at m s c) (name_at m s d)) where
  by_units : v ≡ pick (ltb a b) 1 (pick (ltb b a) 2 (pick (eqb a 256) 0 (order (name_at m s x.next) (name_at m s y.next))))
  by_units = i ∙ rw (e, f, name_spell p, name_spell q) (order_spelled (name_unit x.u) (name_unit y.u) (name_at m s x.next) (name_at m s y.next) (unit_small x.u) (unit_small y.u))

  pub name_less : a < b → 1 ≡ v
  unfolding pick
  name_less h = sym (by_units ∙ rw (lt-ltb a b h))

  pub name_more : b ≤ a → b < a → 2 ≡ v
  unfolding pick
  name_more l h = sym (by_units ∙ rw (le-ltb a b l, lt-ltb b a h))

  pub name_end : b ≤ a → a ≤ b → a ≡ 256 → 0 ≡ v
  unfolding pick
  name_end l k h = sym (by_units ∙ rw (le-ltb a b l, le-ltb b a k, eq-eqb a 256 h))

  pub name_on : b ≤ a → a ≤ b → (a ≡ 256 → ⊥) → v ≡ order (name_at m s x.next) (name_at m s y.next)
  unfolding pick
  name_on l k h = by_units ∙ rw (le-ltb a b l, le-ltb b a k, ne_eqb a 256 h)

-- what is no 256 is a character
pub name_nearer : {m : ℕ} {s : List ℕ} {c a : ℕ} {x : Unit} → Reads m s c x → a ≡ name_unit x.u → (a ≡ 256 → ⊥) → 4 * length s - x.next < 4 * length s - c
name_nearer {m} {s} {c} {a} {x} p e h = go (is_name_char x.u) refl
  where
    go : (t : Bool) → is_name_char x.u ≡ t → 4 * length s - x.next < 4 * length s - c
    go true k = let l = char_small x.u k in let u = byte_small p (λ z. omega (arith, l)) in omega arith
    go false k = absurd (h (e ∙ pick_no (is_name_char x.u) (upper_byte x.u) 256 k))
