-- `xml_to_text::lined` meets its contract.
use mathlib.Core.Path.{◌≡◌, sym}
use Prim.Native.Nat.{ℕ}
use lib.ListN.{length, replicate, length-replicate}
use borrow.Author.Rules.{rules}
use Rattle.xml_to_text.proofs.lined.Goals as goal

-- for any n: the array is too long to be counted by computation
zeros : (n : ℕ) → n ≡ length {A = ℕ} (replicate n 0)
zeros n = sym (length-replicate n 0)

pub slice_bounds-written-end : goal.slice_bounds-written-end
slice_bounds-written-end c = zeros 262144

pub written-requires : goal.written-requires
written-requires c = (c.requires.0, sym (zeros 262144), c.requires.1)
