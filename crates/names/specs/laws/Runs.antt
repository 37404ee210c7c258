-- Laws of what specs/Runs.antt defines.
--     run_cut              the run, cut out of the slice
--     Running              the invariant of a loop over a run, with its rules `running`
--     Comparing, Copying   the invariants of the loops that compare and write a word, with their rules
use Rattle.std.specs.Prelude.{◌≡◌, Bool, ℕ, ◌+◌, ◌-◌, ◌*◌, ◌^◌, max, ◌≤◌, ◌<◌, eqb, length, take, drop, get_or}
use Rattle.std.proofs.Math.Path.{refl, sym}
use Rattle.std.proofs.Common.{◌∙◌, arith, drop_of_length-le, rules, ne_eqb, eq-eqb}
use Rattle.std.proofs.Math.Bool.{true, false}
use Rattle.std.proofs.lemmas.Bool.{false≢true}
use mathlib.Core.List.{List, [], ◌∷◌}
use Rattle.octets.specs.Pick.{pick, ◌and◌, ◌or◌}
use Rattle.octets.specs.laws.Pick.{flag_yes, flag_no}
use Rattle.octets.specs.Scan.{span_len}
use Rattle.octets.specs.laws.Scan.{drop_next}
use Rattle.octets.specs.Runs.{run_of, after_run}
use Rattle.octets.specs.laws.Runs.{run_joined}
use Rattle.octets.specs.Class.{is_name_char}
use Rattle.octets.specs.Words.{same, is_empty}
use Rattle.sink.specs.Sink.{Put, Todo}
use Rattle.sink.specs.laws.Sink.{todo_all, todo_step, todo_done, put_length}
use Rattle.source.specs.Source.{rest, spell, cuts, Reach, Reads}
use Rattle.source.specs.laws.Facts.{rest_byte, rest_end, byte_small, cut_is, reach_here, reach_on}
use Rattle.source.specs.declared.points.Unit.{Unit}
use Rattle.names.specs.Case.{cased, cased_byte}
use Rattle.names.specs.laws.Case.{cased_none, cased_more, same_step, same_empty}
use Rattle.names.specs.Runs.{RunEnds}
use Rattle.names.specs.declared.Case.{Case}

-- ---- a run

-- what is lent, cut at the run's end, is the run
pub run_cut : {p : ℕ → Bool} {m : ℕ} {s : List ℕ} {c r : ℕ} → cuts m ≡ true → RunEnds p m s c r → rest m (take r s) c ≡ run_of p (rest m s c)
run_cut {p} {m} {s} {c} {r} y q = cut_is m s (run_of p (rest m s c)) c r y q.onward q.reach q.is

-- what is left behind the run is the same from c₀ as from c
pub record Running (p : ℕ → Bool) (m : ℕ) (s : List ℕ) (c₀ c : ℕ) : Type 0 where
  pub left : after_run p (rest m s c₀) ≡ after_run p (rest m s c)
  pub onward : c₀ ≤ c
  pub inside : c ≤ max c₀ (4 * length s)
  pub plain : cuts m ≡ true → c₀ ≤ length s → c ≤ length s
  pub reach : Reach m s c₀ c

pub run_start : (p : ℕ → Bool) (m : ℕ) (s : List ℕ) (c : ℕ) → Running p m s c c
run_start p m s c = record { left = refl; onward = omega arith; inside = omega arith; plain = λ z h. h; reach = reach_here m s c }

-- p is a test that the sign of the end does not pass
no_end : (p : ℕ → Bool) (u : ℕ) → p 256 ≡ false → p u ≡ true → u ≡ 256 → ⊥
no_end p u z h e = let q : true ≡ false = sym h ∙ rw e z in absurd (false≢true (sym q))

-- a run goes on with no byte
pub run_ends : {p : ℕ → Bool} {m : ℕ} {s : List ℕ} {c₀ c : ℕ} → Running p m s c₀ c → span_len p (rest m s c) ≡ 0 → RunEnds p m s c₀ c
unfolding after_run
run_ends {p} {m} {s} {c₀} {c} t h =
    let e : rest m s c ≡ after_run p (rest m s c₀) = sym (t.left ∙ rw h) in record {
      is = rw e (sym (run_joined p (rest m s c₀)));
      left = e;
      onward = t.onward;
      inside = t.inside;
      plain = t.plain;
      reach = t.reach;
    }

module _ {p : ℕ → Bool} {m : ℕ} {s : List ℕ} {c₀ c : ℕ} {n : Unit} (t : Running p m s c₀ c) (q : Reads m s c n) where
  pub run_more : p 256 ≡ false → p n.u ≡ true → Running p m s c₀ n.next
  unfolding after_run span_len pick
  run_more z h =
      let u : n.u < 256 = byte_small q (no_end p n.u z h) in record {
        left = t.left ∙ rw (rest_byte q (no_end p n.u z h), h);
        onward = omega arith;
        inside = omega arith;
        plain = λ e l. q.plain e (no_end p n.u z h);
        reach = reach_on t.onward (omega arith) t.reach q.reach;
      }

  pub run_less : p 256 ≡ false → p n.u ≡ true → 4 * length s - n.next < 4 * length s - c
  run_less z h = let u : n.u < 256 = byte_small q (no_end p n.u z h) in omega arith

  run_none : p n.u ≡ false → span_len p (rest m s c) ≡ 0
  unfolding span_len pick spell
  run_none h = rw q.is (go (eqb n.u 256))
    where
      go : (b : Bool) → span_len p (pick b [] (n.u ∷ rest m s n.next)) ≡ 0
      go true = refl
      go false = rw h

  pub run_stop : p n.u ≡ false → RunEnds p m s c₀ c
  run_stop h = run_ends t (run_none h)

pub name_end : is_name_char 256 ≡ false
unfolding ◌or◌ ◌and◌
name_end = refl

pub ruleset running = (run_start, run_more, run_less, run_stop, name_end, flag_yes, flag_no, rules)

-- ---- a word that is compared with w: i bytes are the same, and c is the cursor behind them

pub record Comparing (k : Case) (m : ℕ) (s : List ℕ) (c₀ : ℕ) (w : List ℕ) (c i : ℕ) : Type 0 where
  pub inside : i ≤ length w
  pub left : same (cased k (rest m s c₀)) w ≡ same (cased k (rest m s c)) (drop i w)

pub comparing_start : (k : Case) (m : ℕ) (s : List ℕ) (c : ℕ) (w : List ℕ) → Comparing k m s c w c 0
comparing_start k m s c w = record { inside = omega arith; left = refl }

module _ {k : Case} {m : ℕ} {s : List ℕ} {c₀ : ℕ} {w : List ℕ} {c i : ℕ} (q : Comparing k m s c₀ w c i) where
  module _ {n : Unit} {v t : ℕ} (h : i < length w) (p : Reads m s c n) (e : v ≡ cased_byte k n.u) (f : (t ≡ get_or w i 0) × (t < 256)) where
    step : same (cased k (rest m s c₀)) w ≡ (eqb v t and same (cased k (rest m s n.next)) (drop (i + 1) w))
    step = q.left ∙ rw (drop_next w i h, ← f.0, p.is, e) (same_step k n.u (rest m s n.next) t (drop (i + 1) w) f.1)

    pub comparing_more : v ≡ t → Comparing k m s c₀ w n.next (i + 1)
    unfolding ◌and◌
    comparing_more g = record { inside = omega arith; left = step ∙ rw (eq-eqb v t g) }

    pub comparing_stop : (v ≡ t → ⊥) → false ≡ same (cased k (rest m s c₀)) w
    unfolding ◌and◌
    comparing_stop g = sym (step ∙ rw (ne_eqb v t g))

  pub comparing_end : {r : Bool} → length w ≤ i → r ≡ is_empty (rest m s c) → r ≡ same (cased k (rest m s c₀)) w
  comparing_end h e = e ∙ sym (q.left ∙ rw (drop_of_length-le w h) (same_empty k (rest m s c)))

-- ---- a word that is written: what stands from c on is left to write

pub record Copying (k : Case) (m : ℕ) (s : List ℕ) (c₀ : ℕ) (d₀ : List ℕ) (at₀ : ℕ) (d : List ℕ) (at c : ℕ) : Type 0 where
  pub todo : Todo d₀ at₀ (cased k (rest m s c₀)) d at (cased k (rest m s c))
  pub kept : length d ≡ length d₀

pub copying_start : (k : Case) (m : ℕ) (s : List ℕ) (c : ℕ) (d : List ℕ) (at : ℕ) → length d * 1 < 2 ^ 63 → Copying k m s c d at d at c
copying_start k m s c d at h = record { todo = todo_all d at (cased k (rest m s c)) h; kept = refl }

module _ {k : Case} {m : ℕ} {s : List ℕ} {c₀ : ℕ} {d₀ : List ℕ} {at₀ : ℕ} {d : List ℕ} {at c : ℕ} {n : Unit} (t : Copying k m s c₀ d₀ at₀ d at c) (p : Reads m s c n) where
  pub copying_more : {e : List ℕ} {r v : ℕ} → (n.u ≡ 256 → ⊥) → v ≡ cased_byte k n.u → Put d e at r (v ∷ []) → Copying k m s c₀ d₀ at₀ e r n.next
  copying_more h e q = record {
    todo = todo_step t.todo q (rw (rest_byte p h, cased_more k n.u (rest m s n.next), e));
    kept = put_length q ∙ t.kept;
  }

  pub copying_end : n.u ≡ 256 → Put d₀ d at₀ at (cased k (rest m s c₀))
  copying_end h = todo_done t.todo (rw (rest_end p h) (cased_none k))

pub ruleset copying = (copying_start, copying_more, copying_end, rules)
