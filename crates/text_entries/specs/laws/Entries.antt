-- Laws of what specs/Entries.antt defines.
--     by_kind    what was found, by its kind;   found_loose, found_bad, found_named: its answers
--     name_inside, property_inside   where a property's name ends
use Rattle.std.specs.Prelude.{◌≡◌, Bool, ℕ, ◌≤◌, ◌<◌, length, take, Option, None, Some, option_map}
use Rattle.std.proofs.Math.Path.{refl, ap, subst}
use Rattle.std.proofs.Common.{sym, ◌∙◌, arith, take-take, length-take-le}
use Rattle.std.proofs.Math.Bool.{true, false}
use mathlib.Core.List.{List, [], ◌∷◌, map}
use Rattle.std.proofs.Math.Decide.{dec_le}
use Rattle.octets.specs.Ascii.{ascii}
use Rattle.octets.specs.Pick.{pick}
use Rattle.octets.specs.Class.{upper}
use Rattle.octets.specs.Words.{same}
use Rattle.octets.specs.Scan.{span_len}
use Rattle.octets.specs.Runs.{run_of}
use Rattle.octets.specs.laws.Reading.{none-some}
use Rattle.source.specs.Source.{rest, cuts, Settled}
use Rattle.source.specs.laws.Facts.{rest_past}
use Rattle.folding.specs.Lines.{lines}
use Rattle.read_text_line.specs.ContentLine.{ContentLine, content_line}
use Rattle.read_text_line.specs.Decoded.{decoded_line, read_line}
use Rattle.read_text_line.specs.laws.Params.{name_chars}
use Rattle.read_text_line.specs.Line.{named, LineAt}
use Rattle.read_text_line.specs.LineEnd.{LineEnds, EndsLine}
use Rattle.read_text_line.specs.laws.LineEnd.{line_first, line_none}
use Rattle.read_text_line.specs.Ready.{Ready}
use Rattle.read_text_line.specs.laws.Ready.{ready_end, line_count, line_next, line_low, line_end_inside, lines_start, lines_past}
use Rattle.read_text_line.specs.declared.LineCursors.{LineCursors}
use Rattle.calendar.specs.Levels.{levels, shallow}
use Rattle.text.specs.Tree.{Entry, nothing, entry_by, entry_of, inner_of, calendar_of}
use Rattle.edition.specs.declared.Edition.{Edition}
use Rattle.text_entries.specs.Entries.{entries_at, kind_named, First, FoundBy, FoundAt}
use Rattle.text_entries.specs.declared.entry.Found.{Found}
use Rattle.text_entries.specs.declared.entry.Kind.{Kind}
use Rattle.text_entries.specs.declared.entry.Kind.TheVariants.{Begin, End, Property, Nothing}

-- ---- where the name of a line ends

no_line : content_line [] ≡ None
unfolding content_line run_of span_len pick
no_line = refl

module _ {m : ℕ} {s : List ℕ} {c : ℕ} {l : LineCursors} (y : cuts m ≡ true) (a : LineAt m s c (Some l)) where
  pub name_inside : l.parameters ≤ length s
  name_inside = go (dec_le c (length s))
    where
      go : Dec (c ≤ length s) → l.parameters ≤ length s
      go (yes h) = a.parts.1.name.plain y (subst (λ (n : ℕ). n ≤ length s) (sym a.parts.0) h)
      go (no h) =
          let k : length s ≤ c = omega arith in
          let z : rest m s c ≡ [] = rest_past m s c y k in
          none-some (sym (ap content_line z ∙ no_line) ∙ a.is)

-- ---- what was found

module _ {ed : Edition} {mode : ℕ} {s : List ℕ} {at : ℕ} {r : Found} (f : FoundAt ed mode s at r) where
  -- what was found, of the kind that it has
  pub by_kind : (k : Kind) → r.kind ≡ k → FoundBy ed k mode s at r.line r.end r.next
  by_kind k q = subst (λ (x : Kind). FoundBy ed x mode s at r.line r.end r.next) q f.found

  -- where a property's name ends
  pub property_inside : r.kind ≡ Property → r.line.parameters ≤ length (take r.end s)
  property_inside q = name_inside f.ready.cut (by_kind Property q).parts

-- ---- the name of a line

module _ {mode : ℕ} {s : List ℕ} {at : ℕ} (r : Ready mode s at) {e next : ℕ} (f : LineEnds mode s at e next) {y : Option LineCursors} (a : LineAt mode (take e s) at y) {l : LineCursors} (z : y ≡ Some l) where
  there : LineAt mode (take e s) at (Some l)
  there = subst (LineAt mode (take e s) at) z a

  name_within : l.parameters ≤ e
  name_within = let b = line_count r f in omega (arith, b, there.parts.1.name.plain r.cut (omega (arith, b, f.line.onward, there.parts.0)))

  pub name_count : l.parameters ≡ length (take l.parameters s)
  name_count = sym (length-take-le l.parameters s (omega (arith, name_within, line_end_inside r f)))

module _ (ed : Edition) where
  -- ---- from the start, and past the end

  pub entries_start : {mode : ℕ} {s : List ℕ} {at : ℕ} → Settled mode s 0 at → shallow levels (inner_of (entries_at ed mode s at) 0) ≡ calendar_of ed (lines (rest mode s 0))
  unfolding entries_at calendar_of
  entries_start p = rw (lines_start p)

  pub entries_past : (mode : ℕ) (s : List ℕ) (at : ℕ) → cuts mode ≡ true → length s ≤ at → entries_at ed mode s at ≡ []
  unfolding entries_at
  entries_past mode s at y h = ap (map (entry_of ed)) (lines_past mode s at y h)

  -- ---- what is found

  module _ {mode : ℕ} {s : List ℕ} {at : ℕ} (r : Ready mode s at) where
    pub found_loose : (l : LineCursors) → at < length s → EndsLine mode s at None → FoundAt ed mode s at (record { kind = Nothing; line = l; end = at; next = length s })
    unfolding entries_at entry_of
    found_loose l h f = record {
      onward = h;
      ready = ready_end mode s r.cut;
      ends = omega arith;
      found =
          ap (map (entry_of ed)) (line_none mode s at (λ e. let k = r.some_byte e in omega arith) f)
          ∙ ap (λ (l : List Entry). nothing ∷ l) (sym (entries_past mode s (length s) r.cut (omega arith)));
    }

    module _ {e next : ℕ} (f : LineEnds mode s at e next) where
      whole_line : (o : Option ContentLine) → read_line ed (rest mode (take e s) at) ≡ o → First ed mode s at (entry_by o) next
      unfolding entries_at entry_of
      whole_line o k = ap (map (entry_of ed)) (line_first r.cut r.to f) ∙ rw k

      pub found_whole : (k : Kind) (l : LineCursors) → FoundBy ed k mode s at l e next → FoundAt ed mode s at (record { kind = k; line = l; end = e; next = next })
      found_whole k l h = record { onward = line_low r f; ready = line_next r f; ends = line_end_inside r f; found = h }

      -- what is found by the two tests of the name
      by_name : (w : List ℕ) (l : LineCursors) (x : ContentLine) → w ≡ upper x.name → x.value ≡ rest mode (take e s) l.value → read_line ed (rest mode (take e s) at) ≡ Some x →
          LineAt mode (take e s) at (Some l) → FoundBy ed (kind_named w) mode s at l e next
      unfolding entry_by pick
      by_name w l x q z k g = go (same w (ascii "BEGIN")) refl (same w (ascii "END")) refl
        where
          go : (t : Bool) → same w (ascii "BEGIN") ≡ t → (u : Bool) → same w (ascii "END") ≡ u → FoundBy ed (pick t Begin (pick u End Property)) mode s at l e next
          go true b u y = subst (λ m. First ed mode s at m next) (rw (← q, b, z)) (whole_line (Some x) k)
          go false b true y = subst (λ m. First ed mode s at m next) (rw (← q, b, y)) (whole_line (Some x) k)
          go false b false y = record { line = x; is = k; parts = g; first = subst (λ m. First ed mode s at m next) (rw (← q, b, y)) (whole_line (Some x) k) }

      module _ {y : Option LineCursors} (a : LineAt mode (take e s) at y) where
        pub found_bad : (l : LineCursors) → y ≡ None → FoundAt ed mode s at (record { kind = Nothing; line = l; end = e; next = next })
        unfolding entry_by
        found_bad l z = found_whole Nothing l (whole_line None (ap (option_map (decoded_line ed)) (subst (LineAt mode (take e s) at) z a).is))

        pub found_named : {l : LineCursors} → y ≡ Some l → {k : Kind} → k ≡ kind_named (upper (rest mode (take l.parameters s) l.name)) → FoundAt ed mode s at (record { kind = k; line = l; end = e; next = next })
        found_named {l} z {k} h =
            found_whole k l (rw h (by_name _ l (decoded_line ed (named mode (take e s) l))
            (ap upper (ap (λ (x : List ℕ). rest mode x l.name) (sym (take-take l.parameters e s (name_within r f a z))) ∙ name_chars r.cut (there r f a z).parts.1.name)) refl (ap (option_map (decoded_line ed)) (there r f a z).is) (there r f a z)))
