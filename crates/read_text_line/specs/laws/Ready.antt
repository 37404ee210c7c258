-- Laws of what specs/Ready.antt defines.
--     ready_start      behind the folds at the start;   ready_end: the end
--     line_next        behind a line;   line_count, line_inside, line_low: that line, cut out
--     lines_past       no line begins at the end;   index_end: the place of the end
--     index_plain      over bytes as they stand, the place of a cursor is the cursor
--     origin_folded    in a text with its folds, the place of a cursor behind folds is that of its byte in the text as it is lent
use Rattle.std.specs.Prelude.{◌≡◌, true, false, List, [], ◌∷◌, ℕ, ◌+◌, ◌-◌, ◌≤◌, ◌<◌, length, take, drop}
use Rattle.std.proofs.Common.{sym, ap, ◌∙◌, arith, length-drop, length-take-le}
use Rattle.octets.specs.Pick.{pick}
use Rattle.octets.specs.laws.Append.{length_both}
use Rattle.folding.specs.Unfold.{fold_at, origin}
use Rattle.folding.specs.Cut.{skip_after}
use Rattle.folding.specs.laws.Cut.{origin_kept}
use Rattle.folding.specs.Lines.{lines_after, lines}
use Rattle.source.specs.Source.{rest, cuts, skipping, Reach, Settled}
use Rattle.source.specs.laws.Facts.{rest_past, reach_end}
use Rattle.read_text_line.specs.laws.Cursor.{onward_both}
use Rattle.read_text_line.specs.LineEnd.{index, lines_at, LineEnds}
use Rattle.read_text_line.specs.Ready.{Ready}

pub ready_start : {m : ℕ} {s : List ℕ} {c : ℕ} → cuts m ≡ true → Settled m s 0 c → Ready m s c
ready_start y p = record {
  cut = y;
  most = omega (arith, p.inside);
  to = record { onward = p.onward; inside = omega (arith, p.inside); plain = λ x l. omega (arith, p.inside); reach = p.reach };
  some_byte = p.some_byte y;
}

pub ready_end : (m : ℕ) (s : List ℕ) → cuts m ≡ true → Ready m s (length s)
ready_end m s y = record { cut = y; most = omega arith; to = record { onward = omega arith; inside = omega arith; plain = λ z h. omega arith; reach = reach_end m s }; some_byte = λ e. omega arith }

-- ---- behind a line

module _ {m : ℕ} {s : List ℕ} {at e n : ℕ} (r : Ready m s at) (f : LineEnds m s at e n) where
  pub line_end_inside : e ≤ length s
  line_end_inside = f.line.plain r.cut r.most

  -- the line, cut out
  pub line_count : e ≡ length (take e s)
  line_count = sym (length-take-le e s line_end_inside)

  pub line_inside : at ≤ length (take e s)
  line_inside = let o = f.line.onward in rw (← line_count) o

  pub line_next : Ready m s n
  line_next = record { cut = r.cut; most = f.behind.plain r.cut line_end_inside; to = onward_both r.to (onward_both f.line f.behind); some_byte = f.some_byte r.cut }

  pub line_low : at < n
  line_low =
      let b = length_both (rest m (take e s) at) (13 ∷ 10 ∷ rest m s n) in
      let k : length (rest m s at) ≡ length (rest m (take e s) at) + 2 + length (rest m s n) = ap length (f.is r.cut) ∙ omega (arith, b) in
      let d : at ≡ n → ⊥ = λ (q : at ≡ n). let z : length (rest m s n) ≡ length (rest m s at) = rw q in omega arith in
      omega (arith, f.line.onward, f.behind.onward, d)

-- ---- places

-- the lines from behind the folds at the start on are all lines
pub lines_start : {m : ℕ} {s : List ℕ} {c : ℕ} → Settled m s 0 c → lines_at m s c ≡ lines (rest m s 0)
unfolding lines_at index
lines_start {m} {s} p =
    let z : (n : ℕ) → n - n ≡ 0 = λ (n : ℕ). omega arith in
    rw (← p.is, z (length (rest m s 0)))

module _ (m : ℕ) (s : List ℕ) (c : ℕ) (y : cuts m ≡ true) (h : length s ≤ c) where
  pub lines_past : lines_at m s c ≡ []
  unfolding lines_at lines_after
  lines_past = rw (rest_past m s c y h)

  pub index_end : index m s c ≡ length (rest m s 0)
  unfolding index
  index_end = rw (rest_past m s c y h) (omega arith)

pub index_plain : (s : List ℕ) (c : ℕ) → c ≤ length s → index 0 s c ≡ c
unfolding index rest pick
index_plain s c h = rw (length-drop c s) (omega arith)

pub origin_folded : (s : List ℕ) (c : ℕ) → Reach 2 s 0 c → fold_at (drop c s) ≡ false → c < length s → origin s (index 2 s c) ≡ c
unfolding index rest skipping pick
origin_folded s c r f l =
    let z : c - 0 ≡ c = omega arith in
    let w : skip_after s 0 c ≡ 0 = rw z at r.whole in
    origin_kept s c w f l
