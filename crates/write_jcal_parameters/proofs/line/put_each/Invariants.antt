-- `write_jcal_parameters::line::put_each` meets its contract.
use mathlib.Core.Bool.{false}
use Prim.Native.Nat.{◌-◌, ◌*◌}
use lib.ListN.{length}
use Rattle.read_text_line.specs.Decoded.{params_in}
use Rattle.read_text_line.specs.laws.Params.{param_less}
use Rattle.write_json.specs.laws.Separated.{Listing, listing_start}
use Rattle.write_jcal_parameters.specs.Shown.{members_shown}
use Rattle.write_jcal_parameters.proofs.line.put_each.Given as goal

abbrev pub invariant-loop-p : goal.invariant-loop-p
invariant-loop-p g l = Listing false (members_shown (params_in l.edition g.E.Encoding.encoding l.s l.at)) l.initial.out l.o l.out l.q l.started (members_shown (params_in l.edition g.E.Encoding.encoding l.s l.c))

abbrev pub decreases-loop-p : goal.decreases-loop-p
decreases-loop-p g l = 4 * length l.s - l.c
