-- Laws of lines that fit.
--     every-first     the first of properties whose lines fit;   line_within: how long it is
--     head_parts, fits_parts    the parts of what fits
use Rattle.std.specs.Prelude.{◌≡◌, true, List, ℕ, ◌+◌, ◌≤◌, leb}
use Rattle.std.proofs.Math.ListN.{length}
use borrow.Author.Tests.{leb-true}
use Rattle.octets.specs.Pick.{◌and◌}
use Rattle.octets.specs.laws.Pick.{and_both}
use Rattle.octets.specs.Lists.{every}
use Rattle.calendar.specs.Calendar.{Property, Components, component}
use Rattle.read_text_line.specs.Decoded.{write_line}
use Rattle.text.specs.WriteText.{content_line_of}
use Rattle.edition.specs.declared.Edition.{Edition}
use Rattle.lengths_jcal_text.specs.Fitting.{line_fits, head_fits, fits}

module _ (ed : Edition) (n : ℕ) where
  pub line_within : (p : Property) → line_fits ed n p ≡ true → length (write_line ed (content_line_of p)) ≤ n
  unfolding line_fits
  line_within p h = leb-true (length (write_line ed (content_line_of p))) n h

  pub head_parts : (m : List ℕ) (ps : List Property) → head_fits ed n m ps ≡ true → (6 + length m ≤ n) × (every (line_fits ed n) ps ≡ true)
  unfolding head_fits
  head_parts m ps h = let e = and_both (leb (6 + length m) n) (every (line_fits ed n) ps) h in (leb-true (6 + length m) n e.0, e.1)

  pub fits_parts : (m : List ℕ) (ps : List Property) (i x : Components) → fits ed n (component m ps i x) ≡ true → (head_fits ed n m ps ≡ true) × (fits ed n i ≡ true) × (fits ed n x ≡ true)
  unfolding fits
  fits_parts m ps i x h =
      let e = and_both (head_fits ed n m ps) (fits ed n i and fits ed n x) h in
      let f = and_both (fits ed n i) (fits ed n x) e.1 in
      (e.0, f.0, f.1)
