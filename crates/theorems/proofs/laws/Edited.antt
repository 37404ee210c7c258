-- Two accepted texts whose content lines are the same but for one, which is a property in both: their calendars are the same but for this property.
--     Edited c d p q    the calendars c and d are one with a gap, filled with p and with q
--     text_edited       what such texts state
--     Gives, edited_apart    what is written of them, by any writer
use Rattle.std.specs.Prelude.{◌≡◌, true, ℕ, length, None}
use Rattle.std.proofs.Math.Path.{refl}
use Rattle.std.proofs.Common.{sym, ap, ◌∙◌}
use mathlib.Core.List.{List, [], ◌∷◌, map}
use Rattle.octets.specs.Pick.{pick}
use Rattle.octets.specs.Append.{◌⊕◌}
use Rattle.octets.specs.Runs.{run_of}
use Rattle.octets.specs.Scan.{span_len}
use Rattle.calendar.specs.Calendar.{Property, Calendar}
use Rattle.folding.specs.Unfold.{unfolded}
use Rattle.folding.specs.Lines.{Line, whole, loose, lines}
use Rattle.edition.specs.declared.Edition.{Edition}
use Rattle.read_text_line.specs.ContentLine.{ContentLine, content_line}
use Rattle.text.specs.Tree.{Entry, property, entry_by, entry_of, inner_of}
use Rattle.text.proofs.laws.AcceptedText.{Accepts, verdict_nesting, text_tree}
use Rattle.theorems.specs.OneLine.{bytes_in, content_lines, line_is, OneLine, stands_in, stated_first, stated_second, Apart}
use Rattle.theorems.proofs.laws.Joined.{map_both}
use Rattle.theorems.proofs.laws.Balanced.{closes, nesting-closes}
use Rattle.theorems.proofs.laws.Gap.{Gap, name_in, filled, between, gap_of}
use Rattle.theorems.proofs.laws.Split.{Split}

pub record Edited (c d : Calendar) (p q : Property) : Type 0 where
  pub gap : Gap
  pub first : c ≡ filled gap p
  pub second : d ≡ filled gap q

module _ (ed : Edition) where
  -- ---- the lines of one text

  no_line : content_line [] ≡ None
  unfolding content_line run_of span_len pick
  no_line = refl

  entries_are : (ls : List Line) → map (entry_of ed) ls ≡ map (line_is ed) (map bytes_in ls)
  unfolding entry_of entry_by
  entries_are [] = refl
  entries_are (whole p s ∷ ls) = rw (entries_are ls)
  entries_are (loose p ∷ ls) = rw (no_line, entries_are ls)

  -- where one of them is a property
  lines_are : (s : List ℕ) (front back : List (List ℕ)) (a : List ℕ) (x : ContentLine) → content_lines s ≡ front ⊕ (a ∷ back) → line_is ed a ≡ property x →
      map (entry_of ed) (lines (unfolded s)) ≡ between (map (line_is ed) front) x (map (line_is ed) back)
  lines_are s front back a x e p = entries_are (lines (unfolded s)) ∙ ap (map (line_is ed)) e ∙ map_both (line_is ed) front (a ∷ back) ∙ rw p

  record Tree (c : Calendar) (es : List Entry) : Type 0 where
    states : c ≡ inner_of es 0
    ended : closes es 0 ≡ true

  tree_of : (s : List ℕ) (c : Calendar) (es : List Entry) → Accepts ed s c → map (entry_of ed) (lines (unfolded s)) ≡ es → Tree c es
  tree_of s c es a e =
      let u : List ℕ = unfolded s in
      let n = nesting-closes ed (lines u) (length u) [] (verdict_nesting ed (lines u) (length u) a.verdict) in
      record { states = sym a.states ∙ text_tree ed u (length u) a.characters a.verdict ∙ ap (λ (l : List Entry). inner_of l 0) e; ended = rw e at n }

  -- ---- two texts

  pub text_edited : (s t : List ℕ) (c d : Calendar) → Accepts ed s c → Accepts ed t d → (o : OneLine ed s t) → Edited c d (stated_first ed o) (stated_second ed o)
  text_edited s t c d a b o =
      let fs : List Entry = map (line_is ed) o.front in
      let gs : List Entry = map (line_is ed) o.back in
      let p = tree_of s c (between fs o.content_first gs) a (lines_are s o.front o.back o.first o.content_first o.lines_first o.is_first) in
      let q = tree_of t d (between fs o.content_second gs) b (lines_are t o.front o.back o.second o.content_second o.lines_second o.is_second) in
      let r = gap_of fs gs o.content_first p.ended in
      let n : stands_in ed o ≡ name_in r.gap = r.name in
      record { gap = r.gap; first = p.states ∙ r.states o.content_first ∙ rw n; second = q.states ∙ r.states o.content_second ∙ rw n }

  -- ---- what is written of them

  -- x is what `write` makes of the calendar that s states
  pub record Gives (write : Calendar → List ℕ) (s x : List ℕ) : Type 0 where
    pub calendar : Calendar
    pub accepts : Accepts ed s calendar
    pub bytes : x ≡ write calendar

  pub edited_apart : {one : Property → List ℕ} {write : Calendar → List ℕ} {s t x y : List ℕ} → ((g : Gap) → Split one (λ p. write (filled g p))) →
      Gives write s x → Gives write t y → (o : OneLine ed s t) → Apart one (stated_first ed o) (stated_second ed o) x y
  edited_apart {one} {write} {s} {t} {x} {y} f a b o =
      let e = text_edited s t a.calendar b.calendar a.accepts b.accepts o in
      let z = f e.gap in
      record { before = z.before; after = z.after; first = a.bytes ∙ ap write e.first ∙ z.is _; second = b.bytes ∙ ap write e.second ∙ z.is _ }
