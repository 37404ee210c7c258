-- Laws of what specs/LineEnd.antt defines.
--     line_first, line_none    what the lines are then;   index_on: places further on
--     Seeking           the invariant of looking for a line's end;   seeking_plain: its rules over bytes as they stand
use Rattle.std.specs.Prelude.{◌≡◌, Bool, take, None, Some}
use Rattle.std.proofs.Math.Path.{refl, sym, ap}
use Rattle.std.proofs.Common.{◌∙◌, get_or-drop, rules}
use Rattle.std.proofs.Math.Bool.{true, false}
use Rattle.std.proofs.lemmas.Bool.{false≢true}
use mathlib.Core.List.{List, [], ◌∷◌}
use Prim.Native.Nat.{ℕ, suc, ◌+◌, ◌-◌, ◌*◌, ◌≤◌, ◌<◌}
use native.Mathlib.Omega.{arith}
use Rattle.std.proofs.Math.Dec.{eqb}
use Rattle.std.proofs.Math.ListN.{length, drop, get_or, length-drop}
use Rattle.std.proofs.Math.Seq.{drop-drop}
use borrow.Author.Tests.{ne_eqb, eqb-true, eqb-false}
use Rattle.octets.specs.Pick.{pick, ◌and◌}
use Rattle.octets.specs.Append.{◌⊕◌}
use Rattle.octets.specs.laws.Append.{append_none, append_empty, append_cons, append_regroup, length_both}
use Rattle.octets.specs.Words.{starts}
use Rattle.octets.specs.Scan.{span_len, span_end}
use Rattle.octets.specs.laws.Scan.{span_most, span_stopped}
use Rattle.octets.specs.Find.{without, is_return}
use Rattle.folding.specs.Unfold.{crlf}
use Rattle.folding.specs.Lines.{whole, loose, lines_from, to_break}
use Rattle.folding.specs.laws.Lines.{lines_at_break, first_loose}
use Rattle.source.specs.Source.{rest, spell, cuts, Reads, Settled}
use Rattle.source.specs.laws.Facts.{rest_byte, rest_end, rest_cut, cut_is, rest_past, reach_other, plain_byte, settled_here}
use Rattle.source.specs.declared.points.Unit.{Unit}
use Rattle.read_text_line.specs.Cursor.{Onward}
use Rattle.read_text_line.specs.laws.Cursor.{onward_here, onward_both, onward_byte}
use Rattle.read_text_line.specs.LineEnd.{index, lines_at, LineEnds, EndsLine}

-- ---- the lines

-- how many bytes stand before a cursor that is reached from the start
pub index_on : (m : ℕ) (s : List ℕ) (c n k : ℕ) → cuts m ≡ true → Onward m s 0 c → length (rest m s c) ≡ k + length (rest m s n) → index m s n ≡ index m s c + k
unfolding index
index_on m s c n k y o h =
    let e : length (rest m s 0) ≡ length (rest m (take c s) 0) + length (rest m s c) = ap length (rest_cut m s 0 c y o.onward o.reach) ∙ length_both (rest m (take c s) 0) (rest m s c) in
    omega (arith, e, h)

module _ {m : ℕ} {s : List ℕ} {c : ℕ} (y : cuts m ≡ true) where
  pub line_first : {e n : ℕ} → Onward m s 0 c → LineEnds m s c e n → lines_at m s c ≡ whole (index m s c) (rest m (take e s) c) ∷ lines_at m s n
  unfolding lines_at
  line_first {e} {n} o l =
      let b = length_both (rest m (take e s) c) (13 ∷ 10 ∷ rest m s n) in
      let k : length (rest m s c) ≡ length (rest m (take e s) c) + 2 + length (rest m s n) = ap length (l.is y) ∙ omega (arith, b) in
      let i : index m s n ≡ index m s c + length (rest m (take e s) c) + 2 = index_on m s c n (length (rest m (take e s) c) + 2) y o k ∙ omega arith in
      let f : to_break (rest m (take e s) c ⊕ (13 ∷ 10 ∷ rest m s n)) ≡ length (rest m (take e s) c) = ap to_break (sym (l.is y)) ∙ l.first y in
      ap (lines_from (index m s c)) (l.is y) ∙ lines_at_break (rest m (take e s) c) (rest m s n) (index m s c) f ∙ rw i

pub line_none : (m : ℕ) (s : List ℕ) (c : ℕ) → (rest m s c ≡ [] → ⊥) → to_break (rest m s c) ≡ length (rest m s c) → lines_at m s c ≡ loose (index m s c) ∷ []
unfolding lines_at
line_none m s c h e = go (rest m s c) h e
  where
    go : (l : List ℕ) → (l ≡ [] → ⊥) → to_break l ≡ length l → lines_from (index m s c) l ≡ loose (index m s c) ∷ []
    go [] h e = absurd (h refl)
    go (a ∷ l) h e = first_loose l a (index m s c) (omega (arith, e))

-- ---- the loop: from c₀ to c there is no end of a line

pub record Seeking (m : ℕ) (s : List ℕ) (c₀ c : ℕ) : Type 0 where
  pub line : List ℕ
  pub is : rest m s c₀ ≡ line ⊕ rest m s c
  pub left : to_break (rest m s c₀) ≡ length line + to_break (rest m s c)
  pub to : Onward m s c₀ c

pub seeking_start : (m : ℕ) (s : List ℕ) (c : ℕ) → Seeking m s c c
seeking_start m s c = record { line = []; is = sym (append_empty (rest m s c)); left = omega arith; to = onward_here c }

module _ {m : ℕ} {s : List ℕ} {c₀ c : ℕ} {n : Unit} (t : Seeking m s c₀ c) (p : Reads m s c n) where
  pub seeking_none : n.u ≡ 256 → EndsLine m s c₀ None
  unfolding to_break
  seeking_none h =
      let e : rest m s c₀ ≡ t.line = t.is ∙ rw (rest_end p h) (append_none t.line) in
      t.left ∙ rw (rest_end p h) (ap (λ (k : ℕ). k + 0) (sym (ap length e)) ∙ omega arith)

  module _ (h : n.u ≡ 256 → ⊥) where
    -- a byte that begins no end of a line
    seeking_byte : starts crlf (rest m s c) ≡ false → Seeking m s c₀ n.next
    unfolding to_break pick
    seeking_byte e = record {
      line = t.line ⊕ (n.u ∷ []);
      is = t.is ∙ ap (λ (l : List ℕ). t.line ⊕ l) (rest_byte p h ∙ sym (append_cons n.u [] (rest m s n.next) ∙ rw (append_empty (rest m s n.next)))) ∙ sym (append_regroup t.line (n.u ∷ []) (rest m s n.next));
      left =
          let k : to_break (rest m s c) ≡ suc (to_break (rest m s n.next)) = ap to_break (rest_byte p h) ∙ rw (sym (ap (starts crlf) (rest_byte p h)) ∙ e) in
          omega (arith, t.left, k, length_both t.line (n.u ∷ []));
      to = onward_both t.to (onward_byte p h);
    }

    pub seeking_other : (n.u ≡ 13 → ⊥) → Seeking m s c₀ n.next
    unfolding starts ◌and◌
    seeking_other e = seeking_byte (rw (rest_byte p h, ne_eqb 13 n.u (λ z. e (sym z))))

    pub seeking_less : 4 * length s - n.next < 4 * length s - c
    seeking_less = let u : n.u < 256 = omega (arith, p.small, h) in omega arith

    module _ {k : Unit} (q : Reads m s n.next k) where
      pub seeking_return : (k.u ≡ 10 → ⊥) → Seeking m s c₀ n.next
      unfolding starts spell pick ◌and◌
      seeking_return e = seeking_byte (rw (rest_byte p h, q.is) (go (eqb 13 n.u) (eqb k.u 256)))
        where
          go : (a b : Bool) → (a and starts (10 ∷ []) (pick b [] (k.u ∷ rest m s k.next))) ≡ false
          go true true = refl
          go true false = rw (ne_eqb 10 k.u (λ z. e (sym z)))
          go false b = refl

      pub seeking_found : {r : ℕ} → n.u ≡ 13 → k.u ≡ 10 → Settled m s k.next r → EndsLine m s c₀ (Some (record { end = c; next = r }))
      unfolding to_break starts pick ◌and◌
      seeking_found {r} a b g =
          let f : rest m s c ≡ 13 ∷ 10 ∷ rest m s r = rest_byte p h ∙ rw (a, rest_byte q (λ z. omega arith), b, g.is) in
          let cut : cuts m ≡ true → rest m (take c s) c₀ ≡ t.line = λ (y : cuts m ≡ true). cut_is m s t.line c₀ c y t.to.onward t.to.reach t.is in
          record {
            line = t.to;
            behind = onward_both (onward_byte p h) (onward_both (onward_byte q (λ z. omega arith)) (record { onward = g.onward; inside = omega (arith, g.inside); plain = λ z l. omega (arith, g.inside); reach = g.reach }));
            is = λ y. rw (cut y, ← f) t.is;
            first = λ y. rw (cut y) (t.left ∙ rw f (omega arith));
            some_byte = λ y e. g.some_byte y e;
          }

-- ---- the same over bytes as they stand: a CR is sought, and then LF

-- what is left has no line's end
seeking_over : {m : ℕ} {s : List ℕ} {c₀ c : ℕ} → Seeking m s c₀ c → to_break (rest m s c) ≡ length (rest m s c) → EndsLine m s c₀ None
seeking_over {m} {s} {c₀} {c} t h = let n = ap length t.is ∙ length_both t.line (rest m s c) in omega (arith, t.left, h, n)

pub seeking_past : {s : List ℕ} {c₀ c : ℕ} → Seeking 0 s c₀ c → length s ≤ c → EndsLine 0 s c₀ None
unfolding to_break
seeking_past {s} {c₀} {c} t h = let e = rest_past 0 s c refl h in seeking_over t (rw e)

-- up to the first CR no line ends
break_run : (l : List ℕ) → to_break l ≡ span_len (without is_return) l + to_break (drop (span_len (without is_return) l) l)
unfolding to_break span_len without starts ◌and◌ pick
break_run [] = refl
break_run (a ∷ l) = go (eqb a 13) refl (break_run l)
  where
    go : (t : Bool) → eqb a 13 ≡ t → to_break l ≡ span_len (without is_return) l + to_break (drop (span_len (without is_return) l) l) →
        to_break (a ∷ l) ≡ pick (pick t false true) (suc (span_len (without is_return) l)) 0 + to_break (drop (pick (pick t false true) (suc (span_len (without is_return) l)) 0) (a ∷ l))
    go true e ih = omega arith
    go false e ih = rw (ne_eqb 13 a (λ z. eqb-false a 13 e (sym z))) (rw ih (omega arith))

-- what is too short has no line's end
break_short : (l : List ℕ) → length l < 2 → to_break l ≡ length l
unfolding to_break starts ◌and◌ pick
break_short [] h = refl
break_short (a ∷ []) h = go (eqb 13 a)
  where
    go : (t : Bool) → ◌≡◌ {A = ℕ} (pick (t and false) 0 1) 1
    go true = refl
    go false = refl
break_short (a ∷ b ∷ l) h = absurd (omega arith)

-- the index that is found is at or behind c, and within the length
found_inside : (s : List ℕ) (c r : ℕ) → c < length s → r ≡ span_end (without is_return) s c → (c ≤ r) × (r ≤ length s)
found_inside s c r h e = let l = span_most (without is_return) (drop c s) in (omega (arith, e), omega (arith, e, l, length-drop c s))

pub found_most : (s : List ℕ) (c r : ℕ) → c < length s → r ≡ span_end (without is_return) s c → r ≤ length s
found_most s c r h e = (found_inside s c r h e).1

module _ {s : List ℕ} {c₀ c r : ℕ} (t : Seeking 0 s c₀ c) (h : c < length s) (e : r ≡ span_end (without is_return) s c) where
  -- up to r no line ends
  pub found_return : Seeking 0 s c₀ r
  unfolding rest pick
  found_return =
      let i = found_inside s c r h e in
      let k : c + span_len (without is_return) (drop c s) ≡ r = sym e in
      let d : drop (span_len (without is_return) (drop c s)) (drop c s) ≡ drop r s = drop-drop (span_len (without is_return) (drop c s)) c s ∙ ap (λ (n : ℕ). drop n s) k in
      let b = rest_cut 0 s c r refl i.0 (reach_other 0 s c r refl) in
      let n : length (drop c s) ≡ length (drop c (take r s)) + length (drop r s) = ap length b ∙ length_both (drop c (take r s)) (drop r s) in
      record {
        line = t.line ⊕ drop c (take r s);
        is = t.is ∙ ap (λ (l : List ℕ). t.line ⊕ l) b ∙ sym (append_regroup t.line (drop c (take r s)) (drop r s));
        left =
            let q = break_run (drop c s) in
            let z = ap to_break d in
            omega (arith, t.left, q, z, n, length-drop c s, length-drop r s, i.0, i.1, k, length_both t.line (drop c (take r s)));
        to = onward_both t.to (record { onward = i.0; inside = omega (arith, i.1); plain = λ z l. i.1; reach = reach_other 0 s c r refl });
      }

  -- a CR stands there, unless it is the end
  at_return : r < length s → get_or s r 0 ≡ 13
  unfolding without pick
  at_return l =
      let k : c + span_len (without is_return) (drop c s) ≡ r = sym e in
      let q : without is_return (get_or s r 0) ≡ false = rw (← k, ← (get_or-drop c s (span_len (without is_return) (drop c s)) 0)) (span_stopped (without is_return) (drop c s) (omega (arith, length-drop c s))) in
      go (eqb (get_or s r 0) 13) refl q
    where
      go : (t : Bool) → eqb (get_or s r 0) 13 ≡ t → pick t false true ≡ false → get_or s r 0 ≡ 13
      go true e q = eqb-true (get_or s r 0) 13 e
      go false e q = absurd (false≢true (sym q))

  pub found_loose : length s - r < 2 → EndsLine 0 s c₀ None
  found_loose l = seeking_over found_return (unfold rest pick in break_short (drop r s) (omega (arith, length-drop r s)))

  module _ (l : 2 ≤ length s - r) where
    return_step : Reads 0 s r (record { u = 13; next = r + 1 })
    return_step = plain_byte s r 13 (omega arith) (sym (at_return (omega arith))) (omega arith)

    pub found_end : {b : ℕ} → (b ≡ get_or s (r + 1) 0) × (b < 256) → b ≡ 10 → EndsLine 0 s c₀ (Some (record { end = r; next = r + 2 }))
    found_end {b} q f =
        let k : r + 1 + 1 ≡ r + 2 = omega arith in
        rw (← k) (seeking_found found_return return_step (λ z. omega arith) (plain_byte s (r + 1) 10 (omega arith) (sym f ∙ q.0) (omega arith)) refl refl (settled_here 0 s (r + 1 + 1) (λ z. omega arith)))

    pub found_other : {b : ℕ} → (b ≡ get_or s (r + 1) 0) × (b < 256) → (b ≡ 10 → ⊥) → Seeking 0 s c₀ (r + 1)
    found_other {b} q f = seeking_return found_return return_step (λ z. omega arith) (plain_byte s (r + 1) b (omega arith) q.0 q.1) f

    pub found_less : length s - (r + 1) < length s - c
    found_less = let i = found_inside s c r h e in omega (arith, i.0, i.1)

pub ruleset seeking_plain = (seeking_start, seeking_past, found_most, found_return, found_loose, found_end, found_other, found_less, rules)
