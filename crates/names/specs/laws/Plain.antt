-- Words over bytes as they stand (encoding 0): the laws of the loops that go from byte to byte.
--     cased_next, cased_over, cased_ended    the word at a cursor, by the byte that stands there; behind the last byte; and whether it is over
--     running_bytes, comparing_bytes, copying_bytes    rules of the loops of a run, of a comparison, of a copy, over the invariants of Runs
use Rattle.std.specs.Prelude.{◌≡◌, Bool, ℕ, ◌+◌, ◌≤◌, ◌<◌, length, drop, get_or}
use Rattle.std.proofs.Math.Path.{refl, sym, ap}
use Rattle.std.proofs.Common.{◌∙◌, arith, drop_of_length-le, rules}
use Rattle.std.proofs.Math.Bool.{true, false}
use mathlib.Core.List.{List, [], ◌∷◌}
use Rattle.std.proofs.Math.Dec.{leb}
use borrow.Author.Tests.{leb-true, leb-false}
use Rattle.octets.specs.Pick.{pick}
use Rattle.octets.specs.laws.Pick.{flag_yes, flag_no}
use Rattle.octets.specs.Scan.{span_len}
use Rattle.octets.specs.laws.Scan.{drop_next}
use Rattle.octets.specs.Words.{same}
use Rattle.sink.specs.Sink.{Put}
use Rattle.sink.specs.laws.Sink.{todo_done}
use Rattle.source.specs.Source.{rest}
use Rattle.source.specs.laws.Facts.{plain_byte}
use Rattle.names.specs.Case.{cased, cased_byte}
use Rattle.names.specs.laws.Case.{cased_none, cased_more}
use Rattle.names.specs.Runs.{RunEnds}
use Rattle.names.specs.laws.Runs.{Running, run_start, run_more, run_stop, run_ends, name_end, Comparing, comparing_start, comparing_more, comparing_stop, Copying, copying_start, copying_more}
use Rattle.names.specs.declared.Case.{Case}

module _ (k : Case) (s : List ℕ) (c : ℕ) where
  pub cased_next : c < length s → cased k (rest 0 s c) ≡ cased_byte k (get_or s c 0) ∷ cased k (rest 0 s (c + 1))
  unfolding rest pick
  cased_next h = ap (cased k) (drop_next s c h) ∙ cased_more k (get_or s c 0) (drop (c + 1) s)

  pub cased_over : length s ≤ c → cased k (rest 0 s c) ≡ []
  unfolding rest pick
  cased_over h = ap (cased k) (drop_of_length-le s h) ∙ cased_none k

  pub cased_ended : leb (length s) c ≡ same (cased k (rest 0 s c)) []
  unfolding same
  cased_ended = go (leb (length s) c) refl
    where
      go : (t : Bool) → leb (length s) c ≡ t → t ≡ same (cased k (rest 0 s c)) []
      go true e = rw (cased_over (leb-true (length s) c e))
      go false e = rw (cased_next (omega (arith, leb-false (length s) c e)))

-- ---- a run

module _ {p : ℕ → Bool} {s : List ℕ} {c₀ c : ℕ} (t : Running p 0 s c₀ c) where
  pub running_bytes_end : length s ≤ c → RunEnds p 0 s c₀ c
  unfolding rest pick span_len
  running_bytes_end h = run_ends t (rw (drop_of_length-le s h))

  module _ {u : ℕ} (l : c < length s) (e : (u ≡ get_or s c 0) × (u < 256)) where
    pub running_bytes_more : p 256 ≡ false → p u ≡ true → Running p 0 s c₀ (c + 1)
    running_bytes_more z h = run_more t (plain_byte s c u l e.0 e.1) z h

    pub running_bytes_stop : p u ≡ false → RunEnds p 0 s c₀ c
    running_bytes_stop h = run_stop t (plain_byte s c u l e.0 e.1) h

pub ruleset running_bytes = (run_start, running_bytes_end, running_bytes_more, running_bytes_stop, name_end, flag_yes, flag_no, rules)

-- ---- a word compared with w

module _ {k : Case} {s : List ℕ} {c₀ : ℕ} {w : List ℕ} {c i : ℕ} (q : Comparing k 0 s c₀ w c i) where
  pub comparing_bytes_end : length w ≤ i → leb (length s) c ≡ same (cased k (rest 0 s c₀)) w
  comparing_bytes_end h = cased_ended k s c ∙ sym (q.left ∙ rw (drop_of_length-le w h))

  pub comparing_bytes_short : i < length w → length s ≤ c → false ≡ same (cased k (rest 0 s c₀)) w
  unfolding same
  comparing_bytes_short h l = sym (q.left ∙ rw (cased_over k s c l, drop_next w i h))

  module _ {u v t : ℕ} (h : i < length w) (l : c < length s) (e : (u ≡ get_or s c 0) × (u < 256)) (g : v ≡ cased_byte k u) (f : (t ≡ get_or w i 0) × (t < 256)) where
    pub comparing_bytes_more : v ≡ t → Comparing k 0 s c₀ w (c + 1) (i + 1)
    comparing_bytes_more d = comparing_more q h (plain_byte s c u l e.0 e.1) g f d

    pub comparing_bytes_other : (v ≡ t → ⊥) → false ≡ same (cased k (rest 0 s c₀)) w
    comparing_bytes_other d = comparing_stop q h (plain_byte s c u l e.0 e.1) g f d

pub ruleset comparing_bytes = (comparing_start, comparing_bytes_end, comparing_bytes_short, comparing_bytes_more, comparing_bytes_other, rules)

-- ---- a word written

module _ {k : Case} {s : List ℕ} {c₀ : ℕ} {d₀ : List ℕ} {at₀ : ℕ} {d : List ℕ} {at c : ℕ} (t : Copying k 0 s c₀ d₀ at₀ d at c) where
  pub copying_bytes_more : {f : List ℕ} {r u v : ℕ} → c < length s → (u ≡ get_or s c 0) × (u < 256) → v ≡ cased_byte k u → Put d f at r (v ∷ []) → Copying k 0 s c₀ d₀ at₀ f r (c + 1)
  copying_bytes_more {f} {r} {u} l e g q = copying_more t (plain_byte s c u l e.0 e.1) (λ z. omega arith) g q

  pub copying_bytes_end : length s ≤ c → Put d₀ d at₀ at (cased k (rest 0 s c₀))
  copying_bytes_end h = todo_done t.todo (cased_over k s c h)

pub ruleset copying_bytes = (copying_start, copying_bytes_more, copying_bytes_end, rules)

-- ---- the encoding's number was tested

pub run_as : {p : ℕ → Bool} {m k : ℕ} {s : List ℕ} {c r : ℕ} → m ≡ k → RunEnds p k s c r → RunEnds p m s c r
run_as e q = rw e q
