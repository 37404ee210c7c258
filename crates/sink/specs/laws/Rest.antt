-- What a write into the rest of a list is to the whole list.
--     put_rest     `&mut out[from..]` was lent to a writer
use Rattle.std.specs.Prelude.{◌≡◌, refl, List, [], ◌∷◌, ◌++◌, ℕ, zero, suc, ◌*◌, ◌-◌, ◌^◌, min, ◌≤◌, ◌<◌, length, take, drop}
use Rattle.std.proofs.Common.{sym, ap, ◌∙◌, append-nil, arith, drop_of_length-le, length-drop}
use Rattle.std.proofs.Math.Decide.{dec_le}
use borrow.Rule.Slice.PartMut.{put_mid}
use Rattle.octets.specs.laws.Scan.{part_rest}
use Rattle.sink.specs.Sink.{Put, far, overwrite}
use Rattle.sink.specs.laws.Sink.{overwrite_past}

-- what is written from an index is written at the front of the rest
overwrite_rest : (d : List ℕ) (at : ℕ) (bs : List ℕ) → overwrite d at bs ≡ take at d ++ overwrite (drop at d) 0 bs
unfolding overwrite
overwrite_rest [] zero bs = refl
overwrite_rest [] (suc at) bs = refl
overwrite_rest (x ∷ d) zero bs = refl
overwrite_rest (x ∷ d) (suc at) bs = ap (λ (l : List ℕ). x ∷ l) (overwrite_rest d at bs)

overwrite_least : (d : List ℕ) (at from : ℕ) (bs : List ℕ) → from ≡ min at (length d) → overwrite d from bs ≡ overwrite d at bs
overwrite_least d at from bs h = go (dec_le at (length d))
  where
    go : Dec (at ≤ length d) → overwrite d from bs ≡ overwrite d at bs
    go (yes p) = let e : from ≡ at = omega arith in rw e
    go (no p) =
        let f : length d ≤ from = omega arith in
        let g : length d ≤ at = omega arith in
        overwrite_past d from bs f ∙ sym (overwrite_past d at bs g)

far_twice : (at n : ℕ) → far at (far 0 n) ≡ far at n
unfolding far
far_twice at n = omega arith

-- from is the smaller of the index and the length: what the callee did to the part is a write from the index
pub put_rest : {d e bs : List ℕ} {at from n r : ℕ} →
    length d * 1 < 2 ^ 63 → from ≡ min at (length d) → Put (take (length d - from) (drop from d)) e 0 n bs → r ≡ far at n →
    Put d (put_mid from (length d - from) d e) at r bs
put_rest {d} {e} {bs} {at} {from} {n} {r} h f p q =
    let short : length (drop from d) ≤ length d - from = omega (arith, length-drop from d) in
    let none : drop (length d - from) (drop from d) ≡ [] = drop_of_length-le (drop from d) short in
    record {
      sized = h;
      to = q ∙ rw p.to (far_twice at (length bs));
      is = rw (none, append-nil e, p.is, part_rest d from) (sym (overwrite_rest d from bs) ∙ overwrite_least d at from bs f);
    }
