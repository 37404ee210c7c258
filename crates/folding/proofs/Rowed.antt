-- A content line written one line at a time.
--     Taking       the invariant of looking for a line's last octet, `search takings`
--     todo_begun, todo_next, todo_rows     the loop that writes: after the first line, another line, the end
use mathlib.Core.Path.{◌≡◌, refl, sym, ap, ◌∙◌}
use mathlib.Core.Bool.{true, false}
use mathlib.Core.List.{List, ◌∷◌}
use Prim.Native.Nat.{ℕ, suc, ◌+◌, ◌-◌, ◌≤◌, ◌<◌}
use native.Mathlib.Omega.{arith}
use lib.ListN.{length, get_or, take, drop, drop_of_length-le}
use borrow.Author.Tests.{lt-ltb, le-ltb}
use borrow.Author.Rules.{rules}
use Rattle.octets.specs.Pick.{pick}
use Rattle.octets.specs.laws.Scan.{drop_next}
use Rattle.octets.specs.Append.{◌⊕◌}
use Rattle.octets.specs.laws.Append.{append_is}
use Rattle.sink.specs.Sink.{Put, Todo}
use Rattle.sink.specs.laws.Sink.{◌▷◌, put_length, todo_all, todo_step, todo_done}
use Rattle.folding.specs.Fold.{longest, width, taken, folded_line}
use Rattle.folding.specs.laws.Fold.{width_some}
use Rattle.folding.specs.Rows.{row, Takes, spaced}
use Rattle.folding.specs.laws.Rows.{folded_rows, spaced_rows}

-- ---- a line has c octets and takes those of s from i on, up to j by now; so it has k octets

pub record Taking (c : ℕ) (s : List ℕ) (i j k : ℕ) : Type 0 where
  pub low : i ≤ j
  pub high : j ≤ length s
  pub fits : k ≤ longest
  pub left : i + taken c (drop i s) ≡ j + taken k (drop j s)

pub taking_start : (c : ℕ) (s : List ℕ) (i : ℕ) → i ≤ length s → c ≤ longest → Taking c s i i c
taking_start c s i h l = record { low = omega arith; high = h; fits = l; left = refl }

taken_over : (k b : ℕ) (s : List ℕ) → longest < k + width b → taken k (b ∷ s) ≡ 0
unfolding taken pick
taken_over k b s h = rw (lt-ltb longest (k + width b) h)

taken_next : (k b : ℕ) (s : List ℕ) → k + width b ≤ longest → taken k (b ∷ s) ≡ suc (taken (k + 1) s)
unfolding taken pick
taken_next k b s h = rw (le-ltb longest (k + width b) h)

module _ {c : ℕ} {s : List ℕ} {i j k : ℕ} (t : Taking c s i j k) where
  pub taking_more : (w : ℕ) → j < length s → w ≡ width (get_or s j 0) → k + w ≤ longest → Taking c s i (j + 1) (k + 1)
  taking_more w h e l =
      let o : k + width (get_or s j 0) ≤ longest = rw (← e) l in
      let n : taken k (drop j s) ≡ suc (taken (k + 1) (drop (j + 1) s)) = ap (taken k) (drop_next s j h) ∙ taken_next k (get_or s j 0) (drop (j + 1) s) o in
      record { low = omega (arith, t.low); high = omega arith; fits = omega (arith, width_some (get_or s j 0)); left = omega (arith, t.left, n) }

  pub taking_over : (w : ℕ) → j < length s → w ≡ width (get_or s j 0) → longest < k + w → Takes c s i j
  taking_over w h e l =
      let o : longest < k + width (get_or s j 0) = rw (← e) l in
      let n : taken k (drop j s) ≡ 0 = ap (taken k) (drop_next s j h) ∙ taken_over k (get_or s j 0) (drop (j + 1) s) o in
      record { is = omega (arith, t.left, n); high = t.high }

  pub taking_end : length s ≤ j → Takes c s i j
  unfolding taken
  taking_end h =
      let n : taken k (drop j s) ≡ 0 = rw (drop_of_length-le s h) in
      record { is = omega (arith, t.left, n); high = t.high }

pub ruleset takings = (taking_start, taking_more, taking_over, taking_end, rules)

-- ---- the loop that writes, once the first line is written

pub todo_begun : {d e : List ℕ} {at m : ℕ} {bs : List ℕ} (all : List ℕ) → Put d e at m bs → Todo e m all e m all
todo_begun {d} {e} {at} {m} {bs} all p = todo_all e m all (omega (arith, p.sized, put_length p))

pub todo_next : {d₀ : List ℕ} {at₀ : ℕ} {all d : List ℕ} {at : ℕ} {e : List ℕ} {m r : ℕ} (s : List ℕ) (i : ℕ) →
    Todo d₀ at₀ all d at (spaced (drop i s)) → Takes 1 s i r → i < length s →
    Put d e at m (row true (take (r - i) (drop i s))) → Todo d₀ at₀ all e m (spaced (drop r s))
todo_next s i t k h p = todo_step t p (spaced_rows k h)

pub todo_rows : {d e f : List ℕ} {at m o : ℕ} (s : List ℕ) (n i : ℕ) → Takes 0 s 0 n → Put d e at m (row false (take n s)) →
    Todo e m (spaced (drop n s)) f o (spaced (drop i s)) → length s ≤ i → Put d f at o (folded_line s)
unfolding spaced
todo_rows {d} {e} {f} {at} {m} {o} s n i k p t h =
    let q : Put e f m o (spaced (drop n s)) = todo_done t (rw (drop_of_length-le s h)) in
    let a : folded_line s ≡ row false (take n s) ⊕ spaced (drop n s) = folded_rows k ∙ sym (append_is _ _) in
    rw a (p ▷ q)
