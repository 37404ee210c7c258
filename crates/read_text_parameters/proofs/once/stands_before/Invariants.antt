-- `read_text_parameters::stands_before` meets its contract.
use mathlib.Core.Path.{◌≡◌}
use lib.ListN.{take}
use Rattle.octets.specs.Words.{is_one_of}
use Rattle.read_text_line.specs.Cursor.{params_at}
use Rattle.read_text_parameters.specs.Cutting.{name_cut}
use Rattle.read_text_parameters.specs.Comparing.{names_of}
use Rattle.read_text_parameters.proofs.once.stands_before.Given as goal

abbrev pub invariant-loop-left : goal.invariant-loop-left
invariant-loop-left g l = is_one_of (name_cut g.E.Encoding.encoding l.s l.name l.end) (take l.k (names_of (params_at g.E.Encoding.encoding l.s l.e))) ≡ is_one_of (name_cut g.E.Encoding.encoding l.s l.name l.end) (take l.left (names_of (params_at g.E.Encoding.encoding l.s l.c)))

abbrev pub decreases-loop-left : goal.decreases-loop-left
decreases-loop-left g l = l.left
