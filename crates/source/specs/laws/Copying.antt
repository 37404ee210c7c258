-- A loop that writes f of each byte from a cursor on, to the end. Its invariant is `Todo out₀ o₀ all out o (each f (rest m s c))`.
--     todo_unit, todo_units   a turn, and the end;   `search copying` answers nearly every need of such a loop
use Rattle.std.specs.Prelude.{◌≡◌, refl, List, [], ◌∷◌, ◌++◌, ℕ}
use Rattle.std.proofs.Common.{◌∙◌}
use Rattle.sink.specs.Sink.{Put, Todo}
use Rattle.sink.specs.laws.Sink.{todo_step, todo_done, each, writing}
use Rattle.source.specs.Source.{rest, Reads}
use Rattle.source.specs.laws.Facts.{rest_byte, rest_end}
use Rattle.source.specs.declared.points.Unit.{Unit}

each_byte : (f : ℕ → List ℕ) {m : ℕ} {s : List ℕ} {c : ℕ} {r : Unit} → Reads m s c r → (r.u ≡ 256 → ⊥) → each f (rest m s c) ≡ f r.u ++ each f (rest m s r.next)
unfolding each
each_byte f p h = rw (rest_byte p h)

each_end : (f : ℕ → List ℕ) {m : ℕ} {s : List ℕ} {c : ℕ} {r : Unit} → Reads m s c r → r.u ≡ 256 → each f (rest m s c) ≡ []
unfolding each
each_end f p h = rw (rest_end p h)

module _ {d₀ : List ℕ} {at₀ : ℕ} {all d : List ℕ} {at : ℕ} {m : ℕ} {s : List ℕ} {c : ℕ} {r : Unit} (f : ℕ → List ℕ) where
  pub todo_unit : {e : List ℕ} {o : ℕ} →
      Todo d₀ at₀ all d at (each f (rest m s c)) → Reads m s c r → (r.u ≡ 256 → ⊥) → Put d e at o (f r.u) → Todo d₀ at₀ all e o (each f (rest m s r.next))
  todo_unit t p h w = todo_step t w (each_byte f p h)

  pub todo_units : Todo d₀ at₀ all d at (each f (rest m s c)) → Reads m s c r → r.u ≡ 256 → Put d₀ d at₀ at all
  todo_units t p h = todo_done t (each_end f p h)

pub ruleset copying = (todo_unit, todo_units, writing)
