-- By which byte a fault is told, whatever follows.
--     Told       a fault at k, from a state on: it is told by the byte j, or by the end of the text
--     told_by    each fault is told so
use Rattle.std.specs.Prelude.{◌≡◌, ◌⊎◌, Bool, List, [], ◌∷◌, length, take, drop, None, Some}
use Rattle.std.proofs.Math.Path.{refl}
use Rattle.std.proofs.Common.{sym, subst, ◌∙◌}
use Rattle.std.proofs.Math.Logic.{inl, inr}
use Rattle.std.proofs.Math.Bool.{true, false}
use Prim.Native.Nat.{ℕ, suc, ◌+◌, ◌≤◌, ◌<◌}
use native.Mathlib.Omega.{arith}
use Rattle.std.proofs.Math.Dec.{ltb}
use Rattle.octets.specs.Pick.{pick}
use Rattle.octets.specs.Append.{◌⊕◌}
use Rattle.json_text.specs.Check as check
use Rattle.json_text.specs.Check.{Container, around, outer, move, followed, check}
use Rattle.json_text.specs.declared.Expect.TheVariants.{ValueOrEnd, NameOrEnd, After}
use Rattle.json_text.specs.declared.State.{State}
use Rattle.json_text.specs.declared.State.TheVariants.{Expects}
use Rattle.json_text.specs.declared.Move.{Move}
use Rattle.json_text.specs.declared.Move.TheVariants.{To, OpenArray, OpenObject, Close, Bad}
use Rattle.json_grammar.proofs.laws.Ready.{Plain, ready_plain}
use Rattle.json_grammar.proofs.laws.Outcome.{Began, Faults, Placed, placed, ended, at_same}

-- a reverse solidus of s stands at k, p bytes from place i on, and can stand there
pub record Escape (limit : ℕ) (st : State) (cs : List Container) (i k : ℕ) (s : List ℕ) (by : ℕ) : Type 0 where
  pub p : ℕ
  pub at : k ≡ i + p
  pub before : p ≤ by
  pub inside : p < length s
  pub stands : take 1 (drop p s) ≡ 92 ∷ []
  pub tail : List ℕ
  pub goes : check (take (p + 1) s ⊕ tail) limit i st cs ≡ None

-- the bytes from place i on are s
pub record Told (limit : ℕ) (st : State) (cs : List Container) (i k : ℕ) (s : List ℕ) : Type 0 where
  -- the byte of s that tells it; the length of s, where its end does
  pub by : ℕ
  pub inside : by ≤ length s
  pub told : by < length s → (t : List ℕ) → check (take (by + 1) s ⊕ t) limit i st cs ≡ Some k
  -- the fault is there; or at the escape that the state stands in; or at a reverse solidus before
  pub place : (k ≡ i + by) ⊎ Began st k ⊎ Escape limit st cs i k s by

module _ (limit : ℕ) (st : State) (cs : List Container) (i b k : ℕ) (s : List ℕ) where
  -- by the byte itself
  told_here : ((u : List ℕ) → check (b ∷ u) limit i st cs ≡ Some k) → (k ≡ i) ⊎ Began st k → Told limit st cs i k (b ∷ s)
  unfolding ◌⊕◌
  told_here f q = record { by = 0; inside = omega arith; told = λ _ t. f t; place = go q }
    where
      go : (k ≡ i) ⊎ Began st k → (k ≡ i + 0) ⊎ Began st k ⊎ Escape limit st cs i k (b ∷ s) 0
      go (inl e) = inl (omega arith)
      go (inr z) = inr (inl z)

  -- by a byte behind it
  told_on : (st' : State) (cs' : List Container) → ((u : List ℕ) → check (b ∷ u) limit i st cs ≡ check u limit (i + 1) st' cs') →
      ((k : ℕ) → Began st' k → (Plain st' × (b ≡ 92) × (k ≡ i)) ⊎ Began st k) → Told limit st' cs' (i + 1) k s → Told limit st cs i k (b ∷ s)
  unfolding ◌⊕◌
  told_on st' cs' f at r = record { by = suc r.by; inside = omega (arith, r.inside); told = λ l t. let j : suc r.by + 1 ≡ suc (r.by + 1) = omega arith in rw j (f (take (r.by + 1) s ⊕ t) ∙ r.told (omega arith) t); place = go r.place }
    where
      go : (k ≡ i + 1 + r.by) ⊎ Began st' k ⊎ Escape limit st' cs' (i + 1) k s r.by →
          (k ≡ i + suc r.by) ⊎ Began st k ⊎ Escape limit st cs i k (b ∷ s) (suc r.by)
      go (inl e) = inl (omega arith)
      go (inr (inl z)) = began (at k z)
        where
          began : (Plain st' × (b ≡ 92) × (k ≡ i)) ⊎ Began st k → (k ≡ i + suc r.by) ⊎ Began st k ⊎ Escape limit st cs i k (b ∷ s) (suc r.by)
          began (inl (x, e, q)) =
              let g = ready_plain limit st' x cs' in
              inr (inr (record { p = 0; at = omega arith; before = omega arith; inside = omega arith; stands = rw e; tail = g.0; goes = f g.0 ∙ g.1 (i + 1) }))
          began (inr z) = inr (inl z)
      go (inr (inr x)) =
          let j : suc x.p + 1 ≡ suc (x.p + 1) = omega arith in
          inr (inr (record { p = suc x.p; at = omega (arith, x.at); before = omega (arith, x.before); inside = omega (arith, x.inside); stands = x.stands; tail = x.tail; goes = rw j (f _ ∙ x.goes) }))

  turned : (m : Move) → m ≡ move st (around cs) i b → Placed st i b m → ((st' : State) (cs' : List Container) → check s limit (i + 1) st' cs' ≡ Some k → Told limit st' cs' (i + 1) k s) →
      followed m limit i cs (check s limit (i + 1)) ≡ Some k → Told limit st cs i k (b ∷ s)
  unfolding check followed pick
  turned (To st') e at ih h = told_on st' cs (λ u. rw (← e)) weaker (ih st' cs h)
    where
      weaker : (k : ℕ) → Began st' k → (Plain st' × (b ≡ 92) × (k ≡ i)) ⊎ Began st k
      weaker k z = go (at.0 k z)
        where
          go : (Plain st × Plain st' × (b ≡ 92) × (k ≡ i)) ⊎ Began st k → (Plain st' × (b ≡ 92) × (k ≡ i)) ⊎ Began st k
          go (inl (_, p, q, r)) = inl (p, q, r)
          go (inr z) = inr z
  turned OpenArray e at ih h = go (ltb (length cs) limit) refl h
    where
      go : (t : Bool) → ltb (length cs) limit ≡ t → pick t (check s limit (i + 1) (Expects ValueOrEnd) (check.array ∷ cs)) (Some i) ≡ Some k → Told limit st cs i k (b ∷ s)
      go true q h = told_on (Expects ValueOrEnd) (check.array ∷ cs) (λ u. rw (← e, q)) (λ k z. absurd z) (ih (Expects ValueOrEnd) (check.array ∷ cs) h)
      go false q h = told_here (λ u. rw (← e, q) h) (inl (sym (at_same i k h)))
  turned OpenObject e at ih h = go (ltb (length cs) limit) refl h
    where
      go : (t : Bool) → ltb (length cs) limit ≡ t → pick t (check s limit (i + 1) (Expects NameOrEnd) (check.object ∷ cs)) (Some i) ≡ Some k → Told limit st cs i k (b ∷ s)
      go true q h = told_on (Expects NameOrEnd) (check.object ∷ cs) (λ u. rw (← e, q)) (λ k z. absurd z) (ih (Expects NameOrEnd) (check.object ∷ cs) h)
      go false q h = told_here (λ u. rw (← e, q) h) (inl (sym (at_same i k h)))
  turned Close e at ih h = told_on (Expects After) (outer cs) (λ u. rw (← e)) (λ k z. absurd z) (ih (Expects After) (outer cs) h)
  turned (Bad p) e at ih h = told_here (λ u. rw (← e) h) (go (subst (λ (x : ℕ). ((x ≡ i) × Faults st) ⊎ Began st x) (at_same p k h) at))
    where
      go : ((k ≡ i) × Faults st) ⊎ Began st k → (k ≡ i) ⊎ Began st k
      go (inl (q, _)) = inl q
      go (inr z) = inr z

pub told_by : (s : List ℕ) (limit k i : ℕ) (st : State) (cs : List Container) → check s limit i st cs ≡ Some k → Told limit st cs i k s
unfolding check
told_by [] limit k i st cs h = record { by = 0; inside = omega arith; told = λ l. absurd (omega arith); place = go (ended i k st (around cs) h) }
  where
    go : ((k ≡ i) × Faults st) ⊎ Began st k → (k ≡ i + 0) ⊎ Began st k ⊎ Escape limit st cs i k [] 0
    go (inl (e, _)) = inl (omega arith)
    go (inr z) = inr (inl z)
told_by (b ∷ s) limit k i st cs h = turned limit st cs i b k s (move st (around cs) i b) refl (placed st (around cs) i b) (λ st' cs' q. told_by s limit k (i + 1) st' cs' q) h
