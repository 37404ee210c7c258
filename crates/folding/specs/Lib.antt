-- Content lines as they stand in a text: folds, and the lines of what unfolding keeps.
--     Unfold   the bytes that unfolding keeps, and the place of each
--     Lines    the lines of a text, each with where it starts
--     Fold     a content line as it is written
--     Rows     a content line as it is written, one line at a time
--     Cut      a text with its folds in place, cut between two kept bytes; folds passed over
--     Text     content lines, one after another
--     Computing  opens all of these, for examples that compute
--     Examples   computed
--     laws     laws of these, and what proofs need
pub mod Unfold
pub mod Lines
pub mod Fold
pub mod Rows
pub mod Cut
pub mod Text
pub mod Computing
pub mod Examples
pub mod laws
