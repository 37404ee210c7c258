-- Laws of what specs/Geo.antt defines.
--     put_geo, put_no_geo    what is read, written number by number
use Rattle.std.specs.Prelude.{◌≡◌, true, List, ℕ, ◌*◌, ◌^◌, ◌<◌, length, Option, None, Some}
use Rattle.std.proofs.Common.{sym, ap, ◌∙◌}
use Rattle.std.proofs.lemmas.Bool.{false≢true}
use Rattle.octets.specs.Ascii.{ascii}
use Rattle.octets.specs.Append.{◌⊕◌}
use Rattle.octets.specs.laws.Append.{append_regroup}
use Rattle.octets.specs.Reading.{and_then, is_read, or_nothing}
use Rattle.calendar.specs.Calendar.{Decimal}
use Rattle.sink.specs.Sink.{Put}
use Rattle.sink.specs.laws.Sink.{put_none}
use Rattle.source.specs.Source.{rest}
use Rattle.numbers.specs.Float.{read_float, write_float}
use Rattle.numbers.specs.Until.{until}
use Rattle.numbers.specs.Geo.{read_geo}
use Rattle.numbers.specs.ReadGeo.{both_of, ReadsGeo}
use Rattle.jcal.specs.WriteJcal.{value_json}
use Rattle.write_json.specs.laws.Separated.{array_pair}
use Rattle.write_jcal_property.specs.Geo.{coordinates_json}

both_json : (x y : List ℕ) → is_read (both_of (read_float x) (read_float y)) ≡ true →
    or_nothing value_json (both_of (read_float x) (read_float y))
    ≡ (ascii "[" ⊕ or_nothing write_float (read_float x)) ⊕ ascii "," ⊕ or_nothing write_float (read_float y) ⊕ ascii "]"
unfolding both_of and_then is_read value_json
both_json x y = go (read_float x) (read_float y)
  where
    go : (a b : Option Decimal) → is_read (both_of a b) ≡ true →
        or_nothing value_json (both_of a b) ≡ (ascii "[" ⊕ or_nothing write_float a) ⊕ ascii "," ⊕ or_nothing write_float b ⊕ ascii "]"
    go None b h = absurd (false≢true h)
    go (Some la) None h = absurd (false≢true h)
    go (Some la) (Some lo) h = sym (append_regroup (ascii "[") (write_float la) (ascii "," ⊕ write_float lo ⊕ ascii "]") ∙ array_pair (write_float la) (write_float lo))

geo_json : {m : ℕ} {s : List ℕ} {c g : ℕ} → ReadsGeo m s c (Some g) → or_nothing value_json (read_geo (rest m s c)) ≡ coordinates_json m s c g
geo_json {m} {s} {c} {g} r =
    ap (or_nothing value_json) r.is ∙ both_json (until 59 m s c) (rest m s g) (ap is_read (sym r.is) ∙ r.good)

-- ---- rules for the code

module _ {d : List ℕ} {at m : ℕ} {s : List ℕ} {c : ℕ} {r : Option ℕ} (t : ReadsGeo m s c r) where
  pub put_geo : {e : List ℕ} {o : ℕ} (g : ℕ) → r ≡ Some g → Put d e at o (coordinates_json m s c g) → Put d e at o (or_nothing value_json (read_geo (rest m s c)))
  put_geo g h w = let k : ReadsGeo m s c (Some g) = rw h at t in rw (geo_json k) w

  pub put_no_geo : r ≡ None → length d * 1 < 2 ^ 63 → Put d d at at (or_nothing value_json (read_geo (rest m s c)))
  put_no_geo h z = let k : ReadsGeo m s c None = rw h at t in rw k.is (put_none d at z)
