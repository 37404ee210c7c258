-- `documents::pieces::search_piece` meets its contract.
use Prim.Native.Nat.{◌-◌}
use lib.ListN.{length}
use borrow.Author.Rules.{rules}
use Rattle.documents.proofs.laws.Pieces.{Searching, searching}
use Rattle.documents.proofs.pieces.search_piece.Goals as goal

pub loop-i-init : goal.loop-i-init
loop-i-init c = search searching

pub returns-then-m-eq13 : goal.returns-then-m-eq13
returns-then-m-eq13 c = search searching

pub loop-i-preserved : goal.loop-i-preserved
loop-i-preserved c = search searching

pub returns : goal.returns
returns c = search searching
