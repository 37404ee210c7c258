-- A line that was written into the room for one, where it fits.
--     room_count, room_within    how many bytes it has
--     folded_put                 what is folded from there is the line, which the room then has
use Rattle.std.specs.Prelude.{◌≡◌, List, ℕ, ◌≤◌, length, take, drop}
use Rattle.std.proofs.Common.{sym, subst, arith, length-take-le}
use Rattle.std.proofs.Math.Seq.{take-append_seam}
use Rattle.sink.specs.Sink.{overwrite, Put, far}
use Rattle.sink.specs.laws.Sink.{put_length, overwrite_fits}
use Rattle.folding.specs.Fold.{folded_line}
use Rattle.write_text_pieces.specs.Filled.{PutBy}

module _ {d e : List ℕ} {n : ℕ} {bs : List ℕ} (p : Put d e 0 n bs) (h : length bs ≤ length d) where
  pub room_count : n ≡ length bs
  unfolding far
  room_count = omega (arith, p.to, p.sized)

  pub room_within : n ≤ length e
  room_within = omega (arith, room_count, put_length p)

  pub room_cut : n ≡ length (take n e)
  room_cut = sym (length-take-le n e room_within)

  room_is : take n e ≡ bs
  room_is = rw (room_count, p.is, overwrite_fits d bs h) (take-append_seam bs (drop (length bs) d))

  pub folded_put : {x y : List ℕ} {o r : ℕ} → Put x y o r (folded_line (take n e)) → PutBy x y o r (folded_line bs) e (overwrite d 0 bs)
  folded_put {x} {y} {o} {r} q = record { put = subst (λ (l : List ℕ). Put x y o r (folded_line l)) room_is q; room = p.is }
