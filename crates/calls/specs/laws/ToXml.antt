-- Laws of what specs/ToXml.antt defines: the work room keeps all its bytes after the refusals that come before unfolding.
--     work_kept_long     an input over the limit
--     work_kept_short    a work room that is shorter than the input
--     work_kept_edition  a number that names no edition
use Rattle.std.specs.Prelude.{◌≡◌, Bool, List, ℕ, ◌<◌, leb, length, None}
use Rattle.std.proofs.Math.Path.{refl}
use Rattle.std.proofs.Math.Bool.{true, false}
use Rattle.std.proofs.lemmas.Bool.{lt-leb}
use Rattle.octets.specs.Pick.{pick}
use Rattle.calendar.specs.Refusal.{limit}
use Rattle.edition.specs.Edition.{edition_of}
use Rattle.calls.specs.ToXml.{to_xml_work}

module _ (s work : List ℕ) (edition : ℕ) where
  pub work_kept_long : limit < length s → to_xml_work s work edition ≡ work
  unfolding to_xml_work pick
  work_kept_long h = rw (lt-leb (length s) limit h)

  either : (t : Bool) → pick t work work ≡ work
  unfolding pick
  either true = refl
  either false = refl

  pub work_kept_short : length work < length s → to_xml_work s work edition ≡ work
  unfolding to_xml_work pick
  work_kept_short h = rw (lt-leb (length s) (length work) h) (either (leb (length s) limit))

  pub work_kept_edition : edition_of edition ≡ None → to_xml_work s work edition ≡ work
  unfolding to_xml_work
  work_kept_edition h = rw (h, either (leb (length s) (length work))) (either (leb (length s) limit))
