-- Laws of what specs/Apart.antt defines.
--     names_none, names_some       the names, by the member that was found
--     twice_..                     the walk to a name that comes again;   `search twices`
--     rounds_..                    names in rounds;   `search rounds`
--     again_..                     the walk that looks for a name;   `search agains`
--     apart_..                     the walk that compares each name with those behind it;   `search aparts`
use Rattle.std.specs.Prelude.{◌≡◌, Bool, List, [], ◌∷◌, ℕ, ◌-◌, ◌<◌, length, None, Some}
use Rattle.std.proofs.Math.Path.{refl, sym, ap}
use Rattle.std.proofs.Common.{◌∙◌, arith, rules}
use Rattle.std.proofs.Math.Bool.{true, false}
use Rattle.std.proofs.lemmas.Bool.{false≢true}
use Rattle.octets.specs.Pick.{pick, ◌or◌}
use Rattle.octets.specs.Words.{is_one_of}
use Rattle.octets.specs.Lists.{distinct}
use Rattle.distinct.specs.Order.{order}
use Rattle.distinct.specs.laws.Order.{order_same, order_apart}
use Rattle.read_json.specs.TreeAt.{string_at}
use Rattle.read_json.specs.MemberHeads.{MemberAt}
use Rattle.read_json.specs.declared.MemberHead.{MemberHead}
use Rattle.read_jcal_parameters.specs.laws.Shapes.{members_none, members_some, member_inside, member_less}
use Rattle.read_jcal_parameters.specs.Apart.{names_of, names_at}
use Rattle.read_jcal_parameters.specs.Rounds.{PassedTo, Twice}

module _ {s : List ℕ} {at : ℕ} where
  pub names_none : MemberAt s at None → names_at s at ≡ []
  unfolding names_at
  names_none t = ap names_of (members_none t)

  pub names_some : {m : MemberHead} → MemberAt s at (Some m) → names_at s at ≡ string_at s m.name ∷ names_at s m.next
  unfolding names_at
  names_some t = ap names_of (members_some t)

-- ---- a name among those from a place on

pub record Seeking (w s : List ℕ) (from at : ℕ) : Type 0 where
  pub is : is_one_of w (names_at s from) ≡ is_one_of w (names_at s at)

pub seeking_start : (w s : List ℕ) (from : ℕ) → Seeking w s from from
seeking_start w s from = record { is = refl }

module _ {w s : List ℕ} {from at : ℕ} (i : Seeking w s from at) where
  pub again_none : MemberAt s at None → false ≡ is_one_of w (names_at s from)
  unfolding is_one_of
  again_none t = sym (i.is ∙ rw (names_none t))

  module _ {m : MemberHead} (t : MemberAt s at (Some m)) {l n : List ℕ} {o : ℕ} (e : l ≡ w) (f : n ≡ string_at s m.name) (g : o ≡ order l n) where
    compared : o ≡ order w (string_at s m.name)
    compared = g ∙ rw (e, f)

    pub again_here : o ≡ 0 → true ≡ is_one_of w (names_at s from)
    unfolding is_one_of ◌or◌
    again_here h = sym (i.is ∙ rw (names_some t, order_same w (string_at s m.name) (sym compared ∙ h)))

    pub again_later : (o ≡ 0 → ⊥) → Seeking w s from m.next
    unfolding is_one_of ◌or◌
    again_later h = record { is = i.is ∙ rw (names_some t, order_apart w (string_at s m.name) o (sym compared) h) }

pub ruleset agains = (seeking_start, again_none, again_here, again_later, member_inside, member_less, rules)

-- ---- each name and those behind it

pub record Parting (s : List ℕ) (from at : ℕ) : Type 0 where
  pub is : distinct (names_at s from) ≡ distinct (names_at s at)

pub parting_start : (s : List ℕ) (from : ℕ) → Parting s from from
parting_start s from = record { is = refl }

module _ {s : List ℕ} {from at : ℕ} (i : Parting s from at) where
  pub apart_none : MemberAt s at None → true ≡ distinct (names_at s from)
  unfolding distinct
  apart_none t = sym (i.is ∙ rw (names_none t))

  module _ {m : MemberHead} (t : MemberAt s at (Some m)) {b : Bool} (e : b ≡ is_one_of (string_at s m.name) (names_at s m.next)) where
    pub apart_not : b ≡ true → false ≡ distinct (names_at s from)
    unfolding distinct pick
    apart_not h = sym (i.is ∙ rw (names_some t, ← e, h))

    pub apart_more : b ≡ false → Parting s from m.next
    unfolding distinct pick
    apart_more h = record { is = i.is ∙ rw (names_some t, ← e, h) }

-- ---- a name that comes again, somewhere behind

pub record Behind (s : List ℕ) (from at : ℕ) : Type 0 where
  pub is : distinct (names_at s at) ≡ false → distinct (names_at s from) ≡ false

pub behind_start : (s : List ℕ) (from : ℕ) → Behind s from from
behind_start s from = record { is = λ h. h }

module _ {s : List ℕ} {from at : ℕ} {m : MemberHead} (i : Behind s from at) (t : MemberAt s at (Some m)) where
  pub behind_more : Behind s from m.next
  unfolding distinct pick
  behind_more = record { is = λ h. i.is (rw (names_some t, h) (go (is_one_of (string_at s m.name) (names_at s m.next)))) }
    where
      go : (b : Bool) → pick b false false ≡ false
      go true = refl
      go false = refl

  pub twice_here : {b : Bool} → b ≡ is_one_of (string_at s m.name) (names_at s m.next) → Twice s from b
  unfolding distinct pick
  twice_here e = record { is = λ h. i.is (rw (names_some t, ← e, h)) }

pub twice_not : {s : List ℕ} {from : ℕ} → Twice s from false
twice_not = record { is = λ h. absurd (false≢true h) }

pub ruleset twices = (behind_start, behind_more, twice_here, twice_not, member_inside, member_less, rules)

-- ---- rounds

module _ {s : List ℕ} {from at : ℕ} (i : Parting s from at) where
  pub rounds_on : {e : ℕ} → PassedTo s at e → Parting s from e
  rounds_on p = record { is = i.is ∙ p.is }

  pub rounds_end : {b : Bool} → b ≡ distinct (names_at s at) → b ≡ distinct (names_at s from)
  rounds_end e = e ∙ sym i.is

  pub rounds_twice : {b : Bool} → Twice s at b → b ≡ true → false ≡ distinct (names_at s from)
  rounds_twice p h = sym (i.is ∙ p.is h)

pub rounds_less : {s : List ℕ} {at e : ℕ} → PassedTo s at e → at < e → length s - e < length s - at
rounds_less p l = let k = p.inside l in omega arith

pub ruleset rounds = (parting_start, rounds_on, rounds_end, rounds_twice, rounds_less, rules)

pub ruleset aparts = (parting_start, apart_none, apart_not, apart_more, member_inside, member_less, rules)
