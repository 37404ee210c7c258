-- What is written so far is the front of the buffer, and the loop ends with the bytes that are left.
use Rattle.std.proofs.Common.{◌-◌, ◌≤◌, length, take}
use Rattle.std.specs.Io.KnownBytes.{Appends}
use Rattle.streams.proofs.write_full.Given as goal

abbrev pub invariant-loop-sent : goal.invariant-loop-sent
invariant-loop-sent g l = (l.sent ≤ length l.buf) × Appends (g.W.Write.contents l.initial.to) (g.W.Write.contents l.to) (take l.sent l.buf)

abbrev pub decreases-loop-sent : goal.decreases-loop-sent
decreases-loop-sent g l = length l.buf - l.sent
