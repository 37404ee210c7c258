-- The bytes that one write took stand behind those of the writes before it.
use Rattle.std.proofs.Common.{◌≡◌, ◌+◌, ◌-◌, ◌≤◌, arith, length, take, drop, subst, sym, ap, ◌∙◌, ◌++◌, length-take}
use Rattle.std.specs.Io.KnownBytes.{Appends}
use Rattle.std.proofs.KnownBytes.{Appends-trans}
use Rattle.std.proofs.lemmas.List.{take-take}
use lib.Seq.{take-add}
use Rattle.streams.proofs.write_full.Goals as goal

pub loop-sent-preserved : goal.loop-sent-preserved
loop-sent-preserved g c =
    let at = c.loop-sent.sent in
    let n = c.in_ok-taken.taken in
    let bs = c.args.buf.now in
    let fits : n ≤ length bs - at = omega (arith, c.in_ok-taken.ensures.bound, length-take (length bs - at) (drop at bs)) in
    let part : take n (take (length bs - at) (drop at bs)) ≡ take n (drop at bs) = take-take n (length bs - at) (drop at bs) fits in
    let joined : take at bs ++ take n (take (length bs - at) (drop at bs)) ≡ take (at + n) bs = ap (λ l. take at bs ++ l) part ∙ sym (take-add at n bs) in
    (omega arith, subst (Appends _ _) joined (Appends-trans _ _ _ _ _ c.loop-sent.invariant.1 c.in_ok-taken.ensures.bytes))
