-- One name that opens every shut definition of this crate, for examples that compute: `unfolding folding_compute`.
use Rattle.std.specs.Prelude.{ℕ}
use Rattle.octets.specs.Computing.{octets_compute}
use Rattle.folding.specs.Unfold.{blank_at, fold_at, fold_goes_on, keep, kept_from, places_from, origin}
use Rattle.folding.specs.Lines.{longer, line_step, lines_after, holds_break, none_loose, to_break}
use Rattle.folding.specs.Cut.{skip_after}
use Rattle.folding.specs.Fold.{fold_from, taken, continued, in_full, fits}
use Rattle.folding.specs.Rows.{spaced}
use Rattle.folding.specs.Text.{none_blank, whole_lines}

unfoldable pub folding_compute : ℕ
unfolding octets_compute blank_at fold_at fold_goes_on keep kept_from places_from origin longer line_step lines_after holds_break none_loose to_break skip_after fold_from taken continued in_full fits spaced none_blank whole_lines
folding_compute = 0
