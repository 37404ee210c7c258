-- Laws of what specs/Plain.antt defines.
--     plain_token    the token that begins with it
use Rattle.std.specs.Prelude.{◌≡◌, refl, Bool, true, false, List, [], ◌∷◌, ℕ, eqb}
use Rattle.std.proofs.lemmas.Bool.{false≢true}
use Rattle.octets.specs.Ascii.{ascii}
use Rattle.octets.specs.Pick.{pick, ◌and◌}
use Rattle.octets.specs.Words.{starts}
use Rattle.xml.specs.Token.{char_byte, no_token, tag, reference, literal_byte, token}
use Rattle.read_xml_nodes.specs.Plain.{is_plain}

pub plain_token : (b : ℕ) (s : List ℕ) → is_plain b ≡ true → token b s ≡ char_byte b 0
unfolding token literal_byte pick ◌and◌
plain_token b s h = go (eqb b 60) (eqb b 38) (eqb b 93) (eqb b 13) h
  where
    go : (lt amp bracket cr : Bool) → pick lt false (pick amp false (pick bracket false (pick cr false true))) ≡ true →
        pick lt (tag s) (pick amp (reference s) (pick cr (pick (starts (10 ∷ []) s) (char_byte 10 1) (char_byte 10 0)) (pick (bracket and starts (ascii "]>") s) no_token (char_byte b 0)))) ≡ char_byte b 0
    go true amp bracket cr e = absurd (false≢true e)
    go false true bracket cr e = absurd (false≢true e)
    go false false true cr e = absurd (false≢true e)
    go false false false true e = absurd (false≢true e)
    go false false false false e = refl
