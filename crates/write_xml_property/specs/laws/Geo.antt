-- Laws of what specs/Geo.antt defines.
--     geo_xml            what is read, written number by number
use Rattle.std.specs.Prelude.{◌≡◌, refl, true, List, ℕ, ◌*◌, ◌^◌, ◌<◌, length, Option, None, Some}
use Rattle.std.proofs.Common.{sym, ap, ◌∙◌}
use Rattle.std.proofs.lemmas.Bool.{false≢true}
use Rattle.octets.specs.Ascii.{ascii}
use Rattle.octets.specs.Append.{◌⊕◌}
use Rattle.octets.specs.Reading.{and_then, is_read, or_nothing}
use Rattle.calendar.specs.Calendar.{Decimal}
use Rattle.sink.specs.Sink.{Put}
use Rattle.sink.specs.laws.Sink.{put_none}
use Rattle.source.specs.Source.{rest}
use Rattle.numbers.specs.Float.{read_float, write_float}
use Rattle.numbers.specs.Until.{until}
use Rattle.numbers.specs.Geo.{read_geo}
use Rattle.numbers.specs.ReadGeo.{both_of, ReadsGeo}
use Rattle.xml.specs.Escape.{element_of}
use Rattle.values.specs.laws.Bare.{float_bare}
use Rattle.xcal.specs.WriteXml.{value_xml}
use Rattle.write_xml_property.specs.Geo.{coordinates_xml}

both_xml : (x y : List ℕ) → is_read (both_of (read_float x) (read_float y)) ≡ true →
    or_nothing value_xml (both_of (read_float x) (read_float y))
    ≡ element_of (ascii "latitude") (or_nothing write_float (read_float x)) ⊕ element_of (ascii "longitude") (or_nothing write_float (read_float y))
unfolding both_of and_then is_read value_xml
both_xml x y = go (read_float x) (read_float y) refl refl
  where
    go : (a b : Option Decimal) → read_float x ≡ a → read_float y ≡ b → is_read (both_of a b) ≡ true →
        or_nothing value_xml (both_of a b) ≡ element_of (ascii "latitude") (or_nothing write_float a) ⊕ element_of (ascii "longitude") (or_nothing write_float b)
    go None b e f h = absurd (false≢true h)
    go (Some la) None e f h = absurd (false≢true h)
    go (Some la) (Some lo) e f h = rw (float_bare x la e, float_bare y lo f)

pub geo_xml : {m : ℕ} {s : List ℕ} {c g : ℕ} → ReadsGeo m s c (Some g) → or_nothing value_xml (read_geo (rest m s c)) ≡ coordinates_xml m s c g
geo_xml {m} {s} {c} {g} r =
    ap (or_nothing value_xml) r.is ∙ both_xml (until 59 m s c) (rest m s g) (ap is_read (sym r.is) ∙ r.good)

-- ---- rules for the code

module _ {d : List ℕ} {at m : ℕ} {s : List ℕ} {c : ℕ} {r : Option ℕ} (t : ReadsGeo m s c r) where
  pub put_geo : {e : List ℕ} {o : ℕ} (g : ℕ) → r ≡ Some g → Put d e at o (coordinates_xml m s c g) → Put d e at o (or_nothing value_xml (read_geo (rest m s c)))
  put_geo g h w = let k : ReadsGeo m s c (Some g) = rw h at t in rw (geo_xml k) w

  pub put_no_geo : r ≡ None → length d * 1 < 2 ^ 63 → Put d d at at (or_nothing value_xml (read_geo (rest m s c)))
  put_no_geo h z = let k : ReadsGeo m s c None = rw h at t in rw k.is (put_none d at z)
