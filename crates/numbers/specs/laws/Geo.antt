-- Laws of what specs/Geo.antt defines.
--     IsGeo       a latitude and a longitude in normal form
use Rattle.std.specs.Prelude.{◌≡◌, refl, Bool, true, false, not, List, [], ◌∷◌, ℕ, eqb, None, Some}
use Rattle.std.proofs.Common.{arith, ne_eqb}
use Rattle.octets.specs.Pick.{pick, ◌and◌}
use Rattle.octets.specs.Scan.{all_of}
use Rattle.octets.specs.laws.Scan.{all_append}
use Rattle.octets.specs.laws.Append.{append_none}
use Rattle.octets.specs.Class.{is_digit, is_visible}
use Rattle.octets.specs.laws.Class.{digit_range}
use Rattle.octets.specs.Words.{is_empty, holds, cut_at, none_holds, joined_by, each_after}
use Rattle.octets.specs.laws.Words.{cut_joined, all_without}
use Rattle.octets.specs.Reading.{and_then}
use Rattle.octets.specs.laws.Reading.{and_then-some, none-some}
use Rattle.calendar.specs.Calendar.{Decimal, Value, geo}
use Rattle.numbers.specs.Float.{read_float, write_float, is_normal}
use Rattle.numbers.specs.laws.FloatLaws.{float_read_back, float_accepted, float_all, float_visible}
use Rattle.numbers.specs.Geo.{longitude, coordinates, read_geo, write_geo}

no_semicolon : (d : Decimal) → is_normal d ≡ true → holds 59 (write_float d) ≡ false
no_semicolon d h = all_without (λ b. not (eqb b 59)) 59 refl (write_float d) (float_all (λ b. not (eqb b 59)) digit refl refl d h)
  where
    digit : (b : ℕ) → is_digit b ≡ true → not (eqb b 59) ≡ true
    digit b k = let r = digit_range b k in rw (ne_eqb b 59 (λ e. omega arith))

cut_geo : (la lo : Decimal) → is_normal la ≡ true → is_normal lo ≡ true → cut_at 59 (write_geo la lo) ≡ write_float la ∷ write_float lo ∷ []
unfolding none_holds joined_by each_after pick
cut_geo la lo h k = rw (append_none (write_float lo)) at (cut_joined 59 (write_float la) (write_float lo ∷ []) (rw (no_semicolon la h, no_semicolon lo k)))

pub geo_read_back : (la lo : Decimal) → is_normal la ≡ true → is_normal lo ≡ true → read_geo (write_geo la lo) ≡ Some (geo la lo)
unfolding coordinates longitude pick and_then
geo_read_back la lo h k = rw (cut_geo la lo h k, float_read_back la h, float_read_back lo k)

-- a value that is read is a latitude and a longitude in normal form
pub record IsGeo (v : Value) : Type 0 where
  pub latitude : Decimal
  pub longitude : Decimal
  pub both : v ≡ geo latitude longitude
  pub latitude_normal : is_normal latitude ≡ true
  pub longitude_normal : is_normal longitude ≡ true

longitude_accepted : (ps : List (List ℕ)) (d : Decimal) → longitude ps ≡ Some d → is_normal d ≡ true
unfolding longitude pick
longitude_accepted [] d h = none-some h
longitude_accepted (s ∷ ps) d h = go (is_empty ps) h
  where
    go : (t : Bool) → pick t (read_float s) None ≡ Some d → is_normal d ≡ true
    go true k = float_accepted s d k
    go false k = none-some k

coordinates_accepted : (ps : List (List ℕ)) (v : Value) → coordinates ps ≡ Some v → IsGeo v
unfolding coordinates
coordinates_accepted [] v h = none-some h
coordinates_accepted (s ∷ ps) v h =
    let p = and_then-some (read_float s) (λ la. and_then (longitude ps) (λ lo. Some (geo la lo))) v h in
    let q = and_then-some (longitude ps) (λ lo. Some (geo p.0 lo)) v p.2 in
    record {
      latitude = p.0;
      longitude = q.0;
      both = cc q.2;
      latitude_normal = float_accepted s p.0 p.1;
      longitude_normal = longitude_accepted ps q.0 q.1;
    }

pub geo_accepted : (s : List ℕ) (v : Value) → read_geo s ≡ Some v → IsGeo v
geo_accepted s v h = coordinates_accepted (cut_at 59 s) v h

pub geo_visible : (la lo : Decimal) → is_normal la ≡ true → is_normal lo ≡ true → all_of is_visible (write_geo la lo) ≡ true
unfolding all_of pick ◌and◌
geo_visible la lo h k = all_append is_visible (write_float la) (59 ∷ write_float lo) (float_visible la h) (float_visible lo k)
