-- `read_xml_tokens::pieces::blank_at` meets its contract.
use mathlib.Core.Path.{sym, ◌∙◌}
use Prim.Native.Nat.{◌-◌}
use lib.ListN.{length}
use Rattle.read_xml_tokens.specs.laws.PieceLaws.{blank_more, blank_stop, Blank, passing}
use Rattle.read_xml_tokens.proofs.pieces.blank_at.Given as goal

abbrev pub invariant-loop-i : goal.invariant-loop-i
invariant-loop-i l = Blank l.s l.at l.i

abbrev pub decreases-loop-i : goal.decreases-loop-i
decreases-loop-i l = length l.s - l.i
