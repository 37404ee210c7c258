-- A word and a name in capitals that were written into the room for a line.
--     name_within, name_cut, name_folded    as of any line
use Rattle.std.specs.Prelude.{◌≡◌, List, ℕ, ◌+◌, ◌-◌, ◌≤◌, length, take, drop}
use Rattle.std.proofs.Common.{ap, arith, length-take, length-drop}
use Rattle.octets.specs.Append.{◌⊕◌}
use Rattle.octets.specs.laws.Append.{length_both}
use Rattle.octets.specs.Class.{upper}
use Rattle.octets.specs.laws.Letters.{upper-length}
use Rattle.source.specs.laws.Facts.{rest_part}
use Rattle.sink.specs.Sink.{overwrite, Put}
use Rattle.sink.specs.laws.Sink.{◌▷◌}
use Rattle.folding.specs.Fold.{folded_line}
use Rattle.write_text_pieces.specs.Filled.{PutBy}
use Rattle.write_text_pieces.specs.laws.Room.{room_within, room_cut, folded_put}
use Rattle.write_text.specs.Children.{name_in}

name_short : (s : List ℕ) (c e : ℕ) → length (upper (name_in s c e)) ≤ length s
name_short s c e = omega (arith, upper-length (name_in s c e), ap length (rest_part s c e), length-take (e - c) (drop c s), length-drop c s)

module _ {d e f w : List ℕ} {a n : ℕ} (s : List ℕ) (c x : ℕ)
    (u : Put d e 0 a w) (v : Put e f a n (upper (name_in s c x))) (h : length w + length s ≤ length d) where
  name_fits : length (w ⊕ upper (name_in s c x)) ≤ length d
  name_fits = omega (arith, length_both w (upper (name_in s c x)), name_short s c x)

  pub name_within : n ≤ length f
  name_within = room_within (u ▷ v) name_fits

  pub name_cut : n ≡ length (take n f)
  name_cut = room_cut (u ▷ v) name_fits

  pub name_folded : {y z : List ℕ} {o r : ℕ} → Put y z o r (folded_line (take n f)) → PutBy y z o r (folded_line (w ⊕ upper (name_in s c x))) f (overwrite d 0 (w ⊕ upper (name_in s c x)))
  name_folded q = folded_put (u ▷ v) name_fits q
