-- Laws of what specs/Prologue.antt defines.
--     prolog_found, prolog_none    the prolog, from where it ends
use Rattle.std.specs.Prelude.{◌≡◌, List, ℕ, ◌-◌, ◌≤◌, ◌<◌, length}
use Rattle.std.proofs.Math.Path.{sym}
use native.Mathlib.Omega.{arith}
use Rattle.octets.specs.Ascii.{ascii}
use Rattle.octets.specs.Reading.{read_or}
use Rattle.xml.specs.Pieces.{from, exactly, in_any_case, any_space, equals_sign}
use Rattle.xml.specs.Prolog.{version_info, encoding_decl, xml_decl, prolog}
use Rattle.read_xml_tokens.specs.Ends.{Ends}
use Rattle.read_xml_tokens.specs.laws.Ends.{ends_then}
use Rattle.read_xml_tokens.specs.Prologue.{attribute}

pub ends_eq : {s : List ℕ} {at a b r : ℕ} → Ends any_space s at a → Ends (exactly (ascii "=")) s a b → Ends any_space s b r → Ends equals_sign s at r
unfolding equals_sign
ends_eq x y z = ends_then x (ends_then y z)

pub ends_declaration : {s : List ℕ} {at a b c d r : ℕ} → Ends (exactly (ascii "<?xml")) s at a → Ends (attribute (ascii "version") (exactly (ascii "1.0"))) s a b →
    Ends (attribute (ascii "encoding") (in_any_case (ascii "utf-8"))) s b c → Ends any_space s c d → Ends (exactly (ascii "?>")) s d r → Ends xml_decl s at r
unfolding xml_decl version_info encoding_decl
ends_declaration x y z u v = ends_then x (ends_then y (ends_then z (ends_then u v)))

module _ {s : List ℕ} {a e : ℕ} (x : Ends xml_decl s 0 a) (y : Ends any_space s a e) where
  pub prolog_found : e ≤ length s → e ≡ prolog s
  unfolding prolog read_or from
  prolog_found h = let k : e - 0 ≡ e = omega arith in sym (rw ((ends_then x y).stands h, k))

  pub prolog_none : length s < e → 0 ≡ prolog s
  unfolding prolog read_or from
  prolog_none h = sym (rw ((ends_then x y).misses (omega arith) h))
