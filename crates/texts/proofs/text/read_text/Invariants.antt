-- `texts::read_text` meets its contract.
use mathlib.Core.Path.{◌≡◌}
use Prim.Native.Nat.{◌-◌, ◌*◌}
use lib.ListN.{length}
use Rattle.octets.specs.Reading.{is_read}
use Rattle.source.specs.Source.{rest}
use Rattle.texts.specs.Text.{split_text}
use Rattle.texts.specs.Unescaped.{is_split}
use Rattle.texts.proofs.text.read_text.Given as goal

abbrev pub invariant-loop-t : goal.invariant-loop-t
invariant-loop-t g l = is_read (split_text l.sep (rest g.E.Encoding.encoding l.s l.at)) ≡ is_split l.after l.sep (rest g.E.Encoding.encoding l.s l.c)

abbrev pub decreases-loop-t : goal.decreases-loop-t
decreases-loop-t g l = 4 * length l.s - l.c
