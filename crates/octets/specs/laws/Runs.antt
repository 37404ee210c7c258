-- Laws of what specs/Runs.antt defines.
--     span_front, stops_at    how long a run is that was written; a byte that ends one
--     run_front, after_front, run_passes, run_joined    a run written is read back; a run read is written back
--     byte_there, byte_missing, byte_case               of after_byte, from what stands at the front; and what holds of its answer
use Rattle.std.specs.Prelude.{◌≡◌, Bool, ℕ, suc, eqb, length, take}
use Rattle.std.proofs.Math.Path.{refl}
use Rattle.std.proofs.Common.{sym, ap, eq-eqb, eqb-true}
use Rattle.std.proofs.Math.Bool.{true, false}
use mathlib.Core.List.{List, [], ◌∷◌, ◌++◌}
use Rattle.std.proofs.Math.ListN.{take-append-drop}
use Rattle.std.proofs.Math.Seq.{take-append_seam, drop-append_seam}
use Rattle.octets.specs.Pick.{pick}
use Rattle.octets.specs.laws.Pick.{pick_case, pick_second}
use Rattle.octets.specs.Scan.{span_len, all_of}
use Rattle.octets.specs.laws.Scan.{all_split}
use Rattle.octets.specs.Append.{◌⊕◌}
use Rattle.octets.specs.Runs.{run_of, after_run, stops, after_byte}

-- ---- runs

module _ (p : ℕ → Bool) where
  pub stops_at : (x : ℕ) (r : List ℕ) → p x ≡ false → stops p (x ∷ r) ≡ true
  unfolding stops pick
  stops_at x r e = rw e

  span_none : (r : List ℕ) → stops p r ≡ true → span_len p r ≡ 0
  unfolding stops span_len pick
  span_none [] h = refl
  span_none (x ∷ r) h = rw (pick_second (p x) true h).0

  pub span_front : (a r : List ℕ) → all_of p a ≡ true → stops p r ≡ true → span_len p (a ++ r) ≡ length a
  unfolding all_of span_len pick
  span_front [] r h g = span_none r g
  span_front (x ∷ a) r h g = let q = all_split p x a h in rw (q.0, span_front a r q.1 g)

  pub run_front : (a r : List ℕ) → all_of p a ≡ true → stops p r ≡ true → run_of p (a ⊕ r) ≡ a
  unfolding run_of ◌⊕◌
  run_front a r h g = rw (span_front a r h g) (take-append_seam a r)

  pub after_front : (a r : List ℕ) → all_of p a ≡ true → stops p r ≡ true → after_run p (a ⊕ r) ≡ r
  unfolding after_run ◌⊕◌
  after_front a r h g = rw (span_front a r h g) (drop-append_seam a r)

  pub run_joined : (s : List ℕ) → run_of p s ⊕ after_run p s ≡ s
  unfolding run_of after_run ◌⊕◌
  run_joined s = take-append-drop (span_len p s) s

  pub run_passes : (s : List ℕ) → all_of p (run_of p s) ≡ true
  unfolding run_of span_len all_of pick
  run_passes [] = refl
  run_passes (x ∷ s) = go (p x) refl (run_passes s)
    where
      go : (t : Bool) → p x ≡ t → all_of p (take (span_len p s) s) ≡ true → all_of p (take (pick t (suc (span_len p s)) 0) (x ∷ s)) ≡ true
      go true e ih = rw e ih
      go false e ih = refl

-- ---- a byte at the front

module _ {A : Type 0} where
  pub byte_there : (b : ℕ) (s : List ℕ) (f : List ℕ → A) (d : A) → after_byte b (b ∷ s) f d ≡ f s
  unfolding after_byte pick
  byte_there b s f d = rw (eq-eqb b b refl)

  pub byte_missing : (b : ℕ) (s : List ℕ) (f : List ℕ → A) (d : A) → stops (λ x. eqb x b) s ≡ true → after_byte b s f d ≡ d
  unfolding after_byte stops pick
  byte_missing b [] f d h = refl
  byte_missing b (x ∷ s) f d h = rw (pick_second (eqb x b) true h).0

  pub byte_case : (P : A → Type 0) (b : ℕ) (s : List ℕ) (f : List ℕ → A) (d : A) → ((r : List ℕ) → b ∷ r ≡ s → P (f r)) → P d → P (after_byte b s f d)
  unfolding after_byte
  byte_case P b [] f d p q = q
  byte_case P b (x ∷ s) f d p q = pick_case P (eqb x b) (f s) d (λ e. p s (ap (λ (y : ℕ). y ∷ s) (sym (eqb-true x b e)))) (λ e. q)
