-- Laws of what specs/ReadGeo.antt defines.
use Rattle.std.specs.Prelude.{◌≡◌, refl, true, false, ℕ, Option, None, Some, is_some}
use Rattle.std.proofs.Common.{sym, ap, ◌∙◌}
use Rattle.std.proofs.lemmas.Bool.{false≢true}
use mathlib.Core.List.{List, [], ◌∷◌}
use borrow.Author.Tests.{eq-eqb, ne_eqb}
use Rattle.octets.specs.Pick.{pick}
use Rattle.octets.specs.Words.{cut_at}
use Rattle.octets.specs.Reading.{and_then, is_read}
use Rattle.calendar.specs.Calendar.{Decimal}
use Rattle.source.specs.Source.{rest}
use Rattle.numbers.specs.Float.{read_float}
use Rattle.numbers.specs.Geo.{longitude, coordinates, read_geo}
use Rattle.numbers.specs.Until.{until, before}
use Rattle.numbers.specs.FloatParts.{more_after}
use Rattle.numbers.specs.laws.FloatParts.{cut_parts, one_piece}
use Rattle.numbers.specs.ReadGeo.{pieces_of, Parted, both_of, ReadsGeo}

-- ---- a separator

module _ (c : ℕ) {s : List ℕ} where
  pub part_none : s ≡ [] → more_after c s ≡ []
  unfolding more_after
  part_none e = rw e

module _ (c : ℕ) {s t : List ℕ} {b : ℕ} (e : s ≡ b ∷ t) where
  pub part_here : b ≡ c → more_after c s ≡ cut_at c t
  unfolding more_after pick
  part_here h = rw (e, eq-eqb b c h)

  pub part_more : (b ≡ c → ⊥) → more_after c s ≡ more_after c t
  unfolding more_after pick
  part_more h = rw (e, ne_eqb b c h)

pub parted_no : {c m : ℕ} {s : List ℕ} {at : ℕ} → more_after c (rest m s at) ≡ [] → Parted c m s at None
parted_no h = record { is = h }

pub parted_yes : {c m : ℕ} {s : List ℕ} {at n : ℕ} → more_after c (rest m s at) ≡ cut_at c (rest m s n) → Parted c m s at (Some n)
parted_yes h = record { is = h }

-- ---- the two numbers

both_none : (x : Option Decimal) → both_of x None ≡ None
unfolding both_of and_then
both_none None = refl
both_none (Some d) = refl

none_both : (y : Option Decimal) → both_of None y ≡ None
unfolding both_of and_then
none_both y = refl

-- the longitude, by the pieces after the semicolon
geo_parts : (l : List ℕ) → read_geo l ≡ both_of (read_float (before 59 l)) (longitude (more_after 59 l))
unfolding coordinates both_of
geo_parts l = rw (cut_parts l 59)

one_more : (l : List ℕ) → more_after 59 l ≡ [] → longitude (cut_at 59 l) ≡ read_float l
unfolding longitude pick
one_more l h = rw (cut_parts l 59, h, one_piece l 59 (rw h))

two_more : (l r : List ℕ) → more_after 59 l ≡ cut_at 59 r → longitude (cut_at 59 l) ≡ None
unfolding longitude pick
two_more l r h = rw (cut_parts l 59, h, cut_parts r 59)

refused : (m : ℕ) (s : List ℕ) (at : ℕ) → read_geo (rest m s at) ≡ None → ReadsGeo m s at None
unfolding is_read
refused m s at h = record { is = h; good = rw h }

module _ (m : ℕ) (s : List ℕ) (at : ℕ) {f : Option ℕ} (p : Parted 59 m s at f) where
  pub geo_single : f ≡ None → ReadsGeo m s at None
  unfolding longitude
  geo_single h = refused m s at (geo_parts (rest m s at) ∙ rw (p.is, h) (both_none (read_float (before 59 (rest m s at)))))

  module _ {e : ℕ} {g : Option ℕ} (h : f ≡ Some e) (q : Parted 59 m s e g) where
    pub geo_triple : is_some g ≡ true → ReadsGeo m s at None
    geo_triple k = go g k q.is
      where
        go : (g : Option ℕ) → is_some g ≡ true → more_after 59 (rest m s e) ≡ pieces_of 59 m s g → ReadsGeo m s at None
        go None k r = absurd (false≢true k)
        go (Some n) k r = refused m s at (geo_parts (rest m s at) ∙ rw (p.is, h, two_more (rest m s e) (rest m s n) r) (both_none (read_float (before 59 (rest m s at)))))

    two : is_some g ≡ false → read_geo (rest m s at) ≡ both_of (read_float (until 59 m s at)) (read_float (rest m s e))
    unfolding pick until
    two k = go g k q.is
      where
        go : (g : Option ℕ) → is_some g ≡ false → more_after 59 (rest m s e) ≡ pieces_of 59 m s g → read_geo (rest m s at) ≡ both_of (read_float (until 59 m s at)) (read_float (rest m s e))
        go None k r = geo_parts (rest m s at) ∙ rw (p.is, h, one_more (rest m s e) r)
        go (Some n) k r = absurd (false≢true (sym k))

    pub geo_no_latitude : is_some g ≡ false → read_float (until 59 m s at) ≡ None → ReadsGeo m s at None
    geo_no_latitude k x = refused m s at (two k ∙ rw x (none_both (read_float (rest m s e))))

    pub geo_no_longitude : is_some g ≡ false → read_float (rest m s e) ≡ None → ReadsGeo m s at None
    geo_no_longitude k x = refused m s at (two k ∙ rw x (both_none (read_float (until 59 m s at))))

    pub geo_both : {x y : Decimal} → is_some g ≡ false → read_float (until 59 m s at) ≡ Some x → read_float (rest m s e) ≡ Some y → ReadsGeo m s at (Some e)
    unfolding both_of and_then is_read
    geo_both k x y = record { is = two k; good = ap is_read (two k) ∙ rw (x, y) refl }
