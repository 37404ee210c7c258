-- The length of an unfolded text's jCal grows no faster than the text's, whether the text is accepted or not.
--     jcal_bound    `rate` bytes for each byte of the text, and two brackets;   jcal_fits: an output that has them is long enough
--     jcal_short    of a text within the limit
use Rattle.std.specs.Prelude.{List, map, ℕ, ◌+◌, ◌*◌, ◌^◌, ◌≤◌, ◌<◌, length}
use Rattle.std.proofs.Common.{arith}
use Rattle.calendar.specs.Levels.{levels, shallow}
use Rattle.folding.specs.Lines.{lines}
use Rattle.edition.specs.declared.Edition.{Edition}
use Rattle.text.specs.Tree.{entry_of, inner_of, calendar_of}
use Rattle.jcal.specs.WriteJcal.{components_json, write_jcal}
use Rattle.lengths_xml.specs.laws.Elements.{rate}
use Rattle.lengths_xml.specs.laws.Documents.{text_cost}
use Rattle.lengths_jcal.specs.laws.Strings.{one_length}
use Rattle.lengths_jcal.specs.laws.Depths.{nested_length}

pub jcal_bound : (ed : Edition) (u : List ℕ) → length (write_jcal (calendar_of ed (lines u))) ≤ rate * length u + 2
unfolding write_jcal calendar_of
jcal_bound ed u =
    let outer = one_length (components_json (shallow levels (inner_of (map (entry_of ed) (lines u)) 0))) in
    omega (arith, outer, nested_length (map (entry_of ed) (lines u)) levels, text_cost ed u)

pub jcal_fits : (ed : Edition) (u : List ℕ) (n : ℕ) → rate * length u + 2 ≤ n → length (write_jcal (calendar_of ed (lines u))) ≤ n
jcal_fits ed u n h = omega (arith, jcal_bound ed u, h)

pub jcal_short : (ed : Edition) (u : List ℕ) → length u ≤ 65535 → length (write_jcal (calendar_of ed (lines u))) < 2 ^ 32
jcal_short ed u h = omega (arith, jcal_bound ed u, h)
