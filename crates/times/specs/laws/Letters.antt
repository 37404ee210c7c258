-- Laws of what specs/Letters.antt defines.
use Rattle.std.specs.Prelude.{◌≡◌, refl, Bool, true, false, List, [], ◌∷◌, ℕ, ◌+◌, ◌-◌, ◌*◌, ◌/◌, ◌^◌, ◌≤◌, ◌<◌, eqb, length}
use Rattle.std.proofs.Common.{arith, eqb-true, ne_eqb, rules}
use Rattle.std.proofs.lemmas.Bool.{eqb-false}
use Rattle.octets.specs.Pick.{pick, ◌and◌}
use Rattle.octets.specs.Class.{is_small, upper_byte, upper}
use Rattle.octets.specs.Words.{is_empty}
use Rattle.source.specs.Source.{rest, spell, Reads}
use Rattle.source.specs.declared.points.Unit.{Unit}
use Rattle.times.specs.Letters.{cased, Spells}

pub capital_most : (u : ℕ) → upper_byte u ≤ u
unfolding pick
capital_most u = go (is_small u)
  where
    go : (t : Bool) → pick t (u - 32) u ≤ u
    go true = omega arith
    go false = omega arith

capital_end : upper_byte 256 ≡ 256
unfolding pick ◌and◌
capital_end = refl

pub upper-spell : (u : ℕ) (r : List ℕ) → u ≤ 256 → upper (spell u r) ≡ spell (upper_byte u) (upper r)
unfolding upper spell pick
upper-spell u r h = go (eqb u 256) refl
  where
    go : (t : Bool) → eqb u 256 ≡ t → upper (pick t [] (u ∷ r)) ≡ pick (eqb (upper_byte u) 256) [] (upper_byte u ∷ upper r)
    go true e = rw (eqb-true u 256 e, capital_end)
    go false e = rw (ne_eqb (upper_byte u) 256 (λ q. eqb-false u 256 e (omega (arith, capital_most u))))

pub spells_plain : {m : ℕ} {s : List ℕ} {c : ℕ} {r : Unit} {e : Bool} → e ≡ true → Reads m s c r → Spells e m s c r
unfolding cased
spells_plain h p = rw h (record { is = p.is; small = p.small; moved = p.moved; inside = p.inside })

pub spells_capital : {m : ℕ} {s : List ℕ} {c : ℕ} {r : Unit} {e : Bool} {w : ℕ} → e ≡ false → Reads m s c r → w ≡ upper_byte r.u → Spells e m s c (record { u = w; next = r.next })
unfolding cased
spells_capital {m} {s} {c} {r} {e} {w} h p k =
    rw (h, k) (capital r.u r.next p.is p.small p.moved p.inside)
  where
    capital : (u n : ℕ) → rest m s c ≡ spell u (rest m s n) → u ≤ 256 → c < n + u / 256 * 2 ^ 64 → n ≤ 4 * length s + u / 256 * 2 ^ 64 → Spells false m s c (record { u = upper_byte u; next = n })
    capital u n i l a b =
        let d : upper_byte u / 256 ≡ u / 256 = parts u l in
        record {
          is = rw i (upper-spell u (rest m s n) l);
          small = omega (arith, capital_most u);
          moved = rw d a;
          inside = rw d b;
        }
      where
        parts : (u : ℕ) → u ≤ 256 → upper_byte u / 256 ≡ u / 256
        parts u l = go (eqb u 256) refl
          where
            go : (t : Bool) → eqb u 256 ≡ t → upper_byte u / 256 ≡ u / 256
            go true e = rw (eqb-true u 256 e, capital_end)
            go false e = omega (arith, capital_most u, eqb-false u 256 e)

pub cased_empty : (e : Bool) (l : List ℕ) → is_empty (cased e l) ≡ is_empty l
unfolding cased upper
cased_empty true l = refl
cased_empty false [] = refl
cased_empty false (b ∷ l) = refl

-- nothing is left where the end was found
pub ends_here : {m : ℕ} {s : List ℕ} {c : ℕ} {r : Unit} → Reads m s c r → eqb r.u 256 ≡ is_empty (rest m s c)
unfolding spell pick
ends_here {m} {s} {c} {r} p = rw p.is (go (eqb r.u 256))
  where
    go : (t : Bool) → t ≡ is_empty (pick t [] (r.u ∷ rest m s r.next))
    go true = refl
    go false = refl

pub ruleset lettering = (spells_plain, spells_capital, ends_here, rules)
