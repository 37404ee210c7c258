-- The check in one pass, at most most_open arrays and objects open at once.
--     Ongoing                the invariant: at the place i the verdict v is that on the rest, in the state st and inside what n has the code of
--     turn_to .. turn_bad    a turn for each kind of move;   over: the end of the text
use Rattle.std.specs.Prelude.{◌≡◌, refl, List, [], ◌∷◌, ℕ, ◌+◌, ◌*◌, ◌^◌, ◌≤◌, ◌<◌, length, get_or, drop, Option, Some}
use Rattle.std.proofs.Math.Path.{sym, ap}
use Rattle.std.proofs.Common.{◌∙◌, arith, drop_of_length-le}
use borrow.Author.Tests.{lt-ltb, le-ltb}
use Rattle.octets.specs.Pick.{pick}
use Rattle.octets.specs.laws.Scan.{drop_next}
use Rattle.json_text.specs.Bytes.{most_open}
use Rattle.json_text.specs.Check.{Container, array, object, around, outer, move, end, followed, check, verdict}
use Rattle.json_text.specs.Stack.{coded, around_of, outer_of}
use Rattle.json_text.specs.laws.Stack.{around_is, coded-outer, coded_low, coded_high}
use Rattle.json_text.specs.declared.Around.{Around}
use Rattle.json_text.specs.declared.Expect.TheVariants.{Value, ValueOrEnd, NameOrEnd, After}
use Rattle.json_text.specs.declared.State.{State}
use Rattle.json_text.specs.declared.State.TheVariants.{Expects}
use Rattle.json_text.specs.declared.Move.{Move}
use Rattle.json_text.specs.declared.Move.TheVariants.{To, OpenArray, OpenObject, Close, Bad}

pub record Ongoing (v : Option ℕ) (s : List ℕ) (st : State) (n i : ℕ) : Type 0 where
  pub inside : i ≤ length s
  pub cs : List Container
  pub is : n ≡ coded cs
  pub left : v ≡ check (drop i s) most_open i st cs

pub ongoing_start : (s : List ℕ) → Ongoing (verdict most_open s) s (Expects Value) 1 0
unfolding coded
ongoing_start s = record { inside = omega arith; cs = []; is = refl; left = refl }

around_same : (n : ℕ) (cs : List Container) (a : Around) → a ≡ around_of n → n ≡ coded cs → a ≡ around cs
around_same n cs a f q = f ∙ ap around_of q ∙ around_is cs

check_next : (s : List ℕ) (i : ℕ) (st : State) (cs : List Container) → i < length s →
    check (drop i s) most_open i st cs ≡ followed (move st (around cs) i (get_or s i 0)) most_open i cs (check (drop (i + 1) s) most_open (i + 1))
unfolding check
check_next s i st cs h = rw (drop_next s i h)

module _ {v : Option ℕ} {s : List ℕ} {st : State} {n i : ℕ} {a : Around} {m : Move}
    (o : Ongoing v s st n i) (h : i < length s) (f : a ≡ around_of n) (e : m ≡ move st a i (get_or s i 0)) where
  here : v ≡ followed m most_open i o.cs (check (drop (i + 1) s) most_open (i + 1))
  here =
      o.left ∙ check_next s i st o.cs h
      ∙ rw (e, around_same n o.cs a f o.is)

  turned : (st' : State) (n' : ℕ) (cs' : List Container) → n' ≡ coded cs' →
      followed m most_open i o.cs (check (drop (i + 1) s) most_open (i + 1)) ≡ check (drop (i + 1) s) most_open (i + 1) st' cs' → Ongoing v s st' n' (i + 1)
  turned st' n' cs' p q = record { inside = omega arith; cs = cs'; is = p; left = here ∙ q }

  pub turn_to : (st' : State) → m ≡ To st' → Ongoing v s st' n (i + 1)
  unfolding followed
  turn_to st' q = turned st' n o.cs o.is (rw q)

  room : n < 2 ^ most_open → length o.cs < most_open
  room l = coded_low o.cs most_open (rw o.is at l)

  full : 2 ^ most_open ≤ n → most_open ≤ length o.cs
  full l = coded_high o.cs most_open (rw o.is at l)

  pub turn_array : m ≡ OpenArray → n < 2 ^ most_open → Ongoing v s (Expects ValueOrEnd) (n * 2) (i + 1)
  unfolding followed pick coded
  turn_array q l = turned (Expects ValueOrEnd) (n * 2) (array ∷ o.cs) (rw o.is) (rw (q, lt-ltb (length o.cs) most_open (room l)))

  pub turn_object : m ≡ OpenObject → n < 2 ^ most_open → Ongoing v s (Expects NameOrEnd) (n * 2 + 1) (i + 1)
  unfolding followed pick coded
  turn_object q l = turned (Expects NameOrEnd) (n * 2 + 1) (object ∷ o.cs) (rw o.is) (rw (q, lt-ltb (length o.cs) most_open (room l)))

  pub stop_array : m ≡ OpenArray → 2 ^ most_open ≤ n → Some i ≡ v
  unfolding followed pick
  stop_array q l = sym (here ∙ rw (q, le-ltb (length o.cs) most_open (full l)))

  pub stop_object : m ≡ OpenObject → 2 ^ most_open ≤ n → Some i ≡ v
  unfolding followed pick
  stop_object q l = sym (here ∙ rw (q, le-ltb (length o.cs) most_open (full l)))

  pub turn_close : (n' : ℕ) → m ≡ Close → n' ≡ outer_of n → Ongoing v s (Expects After) n' (i + 1)
  unfolding followed
  turn_close n' q p = turned (Expects After) n' (outer o.cs) (p ∙ ap outer_of o.is ∙ coded-outer o.cs) (rw q)

  pub turn_bad : (p : ℕ) → m ≡ Bad p → Some p ≡ v
  unfolding followed
  turn_bad p q = sym (here ∙ rw q)

pub over : {v : Option ℕ} {s : List ℕ} {st : State} {n i : ℕ} {a : Around} {r : Option ℕ} →
    Ongoing v s st n i → length s ≤ i → a ≡ around_of n → r ≡ end st a i → r ≡ v
unfolding check
over {v} {s} {st} {n} {i} {a} {r} o h f e =
    e ∙ sym (o.left ∙ rw (drop_of_length-le s h, around_same n o.cs a f o.is))
