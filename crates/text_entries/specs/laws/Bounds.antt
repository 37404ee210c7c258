-- Laws of what specs/Bounds.antt defines.
--     content_aside    a line with another first byte is neither
--     bound_kind    what was found, by its kind;   found_bound, loose_aside, whole_aside: its answers
use Rattle.std.specs.Prelude.{◌≡◌, Bool, true, List, [], ◌∷◌, map, ℕ, zero, suc, ◌-◌, ◌<◌, eqb, length, take, Option, None, Some, option_map}
use Rattle.std.proofs.Math.Path.{refl, sym, ap}
use Rattle.std.proofs.Common.{subst, ◌∙◌, arith, ne_eqb}
use Rattle.std.proofs.Math.Bool.{false}
use Rattle.std.proofs.lemmas.Bool.{eqb-false}
use Rattle.octets.specs.Ascii.{ascii}
use Rattle.octets.specs.Pick.{pick}
use Rattle.octets.specs.laws.Pick.{pick_either, within_range, and_no_left, or_neither}
use Rattle.octets.specs.Append.{◌⊕◌}
use Rattle.octets.specs.Scan.{span_len}
use Rattle.octets.specs.Class.{is_small, is_name_char, upper_byte, upper}
use Rattle.octets.specs.Words.{same}
use Rattle.octets.specs.Runs.{run_of}
use Rattle.octets.specs.laws.Runs.{byte_case}
use Rattle.octets.specs.Many.{All, ok, no}
use Rattle.source.specs.Source.{rest, spell, Reads}
use Rattle.source.specs.declared.points.Unit.{Unit}
use Rattle.read_text_line.specs.LineEnd.{LineEnds, EndsLine}
use Rattle.read_text_line.specs.laws.LineEnd.{line_first}
use Rattle.read_text_line.specs.Ready.{Ready}
use Rattle.read_text_line.specs.laws.Ready.{line_next, line_low, line_end_inside}
use Rattle.read_text_line.specs.declared.LineCursors.{LineCursors}
use Rattle.read_text_line.specs.ContentLine.{ContentLine, RawParameter, with_value, content_line}
use Rattle.read_text_line.specs.Decoded.{decoded_line, read_line}
use Rattle.text.specs.Tree.{begin, end, property, nothing, entry_by, entry_of}
use Rattle.edition.specs.declared.Edition.{Edition}
use Rattle.text_entries.specs.declared.entry.Found.{Found}
use Rattle.text_entries.specs.declared.entry.Kind.{Kind}
use Rattle.text_entries.specs.declared.entry.Kind.TheVariants.{Begin, End, Property, Nothing}
use Rattle.text_entries.specs.Entries.{entries_at, FoundBy, FoundAt}
use Rattle.text_entries.specs.laws.Entries.{found_loose}
use Rattle.text_entries.specs.Passing.{is_aside}
use Rattle.text_entries.specs.Bounds.{opens_bound, opens, BoundBy, BoundAt}

-- ---- a line by its first byte

opens_front : (a b : List ℕ) → opens (a ⊕ b) ≡ false → opens a ≡ false
unfolding ◌⊕◌
opens_front [] b h = refl
opens_front (x ∷ a) b h = h

opens-take : (k : ℕ) (l : List ℕ) → opens l ≡ false → opens (take k l) ≡ false
opens-take zero l h = refl
opens-take (suc k) [] h = refl
opens-take (suc k) (b ∷ l) h = h

upper_apart : (b : ℕ) → opens_bound b ≡ false → (eqb (upper_byte b) 66 ≡ false) × (eqb (upper_byte b) 69 ≡ false)
unfolding pick
upper_apart b h =
    let p = or_neither (eqb b 66) _ h in
    let q = or_neither (eqb b 98) _ p.1 in
    let r = or_neither (eqb b 69) (eqb b 101) q.1 in
    go (is_small b) refl p.0 (eqb-false b 98 q.0) r.0 (eqb-false b 101 r.1)
  where
    go : (t : Bool) → is_small b ≡ t → eqb b 66 ≡ false → (b ≡ 98 → ⊥) → eqb b 69 ≡ false → (b ≡ 101 → ⊥) →
        (eqb (pick t (b - 32) b) 66 ≡ false) × (eqb (pick t (b - 32) b) 69 ≡ false)
    go true e p q r s = let w = within_range 97 122 b e in (ne_eqb (b - 32) 66 (λ z. q (omega arith)), ne_eqb (b - 32) 69 (λ z. s (omega arith)))
    go false e p q r s = (p, r)

name_apart : (n : List ℕ) → opens n ≡ false → (same (upper n) (ascii "BEGIN") ≡ false) × (same (upper n) (ascii "END") ≡ false)
unfolding same upper
name_apart [] h = (refl, refl)
name_apart (b ∷ n) h = let p = upper_apart b h in (and_no_left _ _ p.0, and_no_left _ _ p.1)

module _ (n : List ℕ) (h : (same (upper n) (ascii "BEGIN") ≡ false) × (same (upper n) (ascii "END") ≡ false)) where
  named_aside : (l : ContentLine) → l.name ≡ n → is_aside (entry_by (Some l)) ≡ true
  unfolding entry_by pick
  named_aside l q = rw (q, h.0, h.1)

  valued_aside : (ps : All RawParameter) → is_aside (entry_by (with_value ps n)) ≡ true
  unfolding entry_by with_value
  valued_aside (no r) = refl
  valued_aside (ok ps r) =
      byte_case (λ (o : Option ContentLine). is_aside (entry_by o) ≡ true) 58 r _ None
      (λ v e. pick_either (λ (o : Option ContentLine). is_aside (entry_by o) ≡ true) _ _ None (named_aside _ refl) refl) refl

content_aside : (l : List ℕ) → opens l ≡ false → is_aside (entry_by (content_line l)) ≡ true
unfolding content_line entry_by run_of
content_aside l h = pick_either (λ (o : Option ContentLine). is_aside (entry_by o) ≡ true) _ None _ refl (valued_aside (run_of is_name_char l) (name_apart _ (opens-take (span_len is_name_char l) l h)) _)

-- ---- for code

-- by the byte that was found there
pub opens_not : {mode : ℕ} {s : List ℕ} {at : ℕ} {n : Unit} {t : Bool} → Reads mode s at n → t ≡ opens_bound n.u → t ≡ false → opens (rest mode s at) ≡ false
unfolding spell
opens_not {mode} {s} {at} {n} p q h = rw p.is (go (eqb n.u 256))
  where
    go : (b : Bool) → opens (pick b [] (n.u ∷ rest mode s n.next)) ≡ false
    go true = unfold pick in refl
    go false = unfold pick in sym q ∙ h

-- decoding leaves the name as it is
decoded_aside : (ed : Edition) (o : Option ContentLine) → is_aside (entry_by (option_map (decoded_line ed) o)) ≡ is_aside (entry_by o)
unfolding entry_by pick
decoded_aside ed None = refl
decoded_aside ed (Some l) = go (same (upper l.name) (ascii "BEGIN")) (same (upper l.name) (ascii "END"))
  where
    go : (a b : Bool) → is_aside (pick a (begin (upper l.value)) (pick b end (property (decoded_line ed l)))) ≡ is_aside (pick a (begin (upper l.value)) (pick b end (property l)))
    go true b = refl
    go false true = refl
    go false false = refl

-- what was found, of the kind that it has
pub bound_kind : {ed : Edition} {mode : ℕ} {s : List ℕ} {at : ℕ} {r : Found} → BoundAt ed mode s at r → (k : Kind) → r.kind ≡ k → BoundBy ed k mode s at r.line.value r.end r.next
bound_kind {ed} {mode} {s} {at} {r} f k q = subst (λ (x : Kind). BoundBy ed x mode s at r.line.value r.end r.next) q f.found

-- ---- a line that is read whole

found_by : (k : Kind) (ed : Edition) (mode : ℕ) (s : List ℕ) (at : ℕ) (l : LineCursors) (e next : ℕ) → FoundBy ed k mode s at l e next → BoundBy ed k mode s at l.value e next
found_by Begin ed mode s at l e next h = h
found_by End ed mode s at l e next h = h
found_by Property ed mode s at l e next h = record { entry = property h.line; aside = refl; first = h.first }
found_by Nothing ed mode s at l e next h = record { entry = nothing; aside = refl; first = h }

pub found_bound : {ed : Edition} {mode : ℕ} {s : List ℕ} {at : ℕ} {r : Found} → FoundAt ed mode s at r → BoundAt ed mode s at r
found_bound {ed} {mode} {s} {at} {r} f = record { onward = f.onward; ready = f.ready; ends = f.ends; found = found_by r.kind ed mode s at r.line r.end r.next f.found }

module _ {ed : Edition} {mode : ℕ} {s : List ℕ} {at : ℕ} (r : Ready mode s at) where
  pub loose_aside : at < length s → EndsLine mode s at None → BoundAt ed mode s at (record { kind = Nothing; line = record { name = at; parameters = at; value = at }; end = at; next = length s })
  loose_aside h f = found_bound (found_loose ed r _ h f)

  pub whole_aside : {e next : ℕ} → LineEnds mode s at e next → opens (rest mode s at) ≡ false → BoundAt ed mode s at (record { kind = Nothing; line = record { name = at; parameters = e; value = e }; end = e; next = next })
  unfolding entries_at entry_of
  whole_aside {e} {next} f q = record {
    onward = line_low r f;
    ready = line_next r f;
    ends = line_end_inside r f;
    found = record {
      entry = entry_by (read_line ed (rest mode (take e s) at));
      aside = decoded_aside ed (content_line (rest mode (take e s) at)) ∙ content_aside _ (opens_front (rest mode (take e s) at) _ (sym (ap opens (f.is r.cut)) ∙ q));
      first = ap (map (entry_of ed)) (line_first r.cut r.to f);
    };
  }
