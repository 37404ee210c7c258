-- `schema::counts::bump` meets its contract.
use lib.ListN.{get_or}
use mir.Syntax.{w8}
use mir.Val.{Fits}
use borrow.Author.Rules.{rules}
use Rattle.schema.specs.laws.Arrays.{bumped_more, bumped_full, bumped_past}
use Rattle.schema.proofs.counts.bump.Goals as goal

pub returns-then-c-lt255 : goal.returns-then-c-lt255
returns-then-c-lt255 c = bumped_more _ _ c.if-c-lt255.true

pub returns-then-p-lt-KNOWN : goal.returns-then-p-lt-KNOWN
returns-then-p-lt-KNOWN c = let h : Fits w8 (get_or c.args.t c.args.p 0) = search rules in
    bumped_full _ _ c.if-c-lt255.false h.fits

pub returns : goal.returns
returns c = bumped_past _ _ (search rules)
