-- `xml::entities::entity_at` meets its contract.
use mathlib.Core.Path.{refl}
use native.Mathlib.Omega.{arith}
use borrow.Author.Rules.{rules}
use Rattle.octets.specs.laws.Pick.{flag_yes, flag_no}
use Rattle.octets.specs.Ascii.{ascii}
use Rattle.xml.specs.laws.References.{named, pick_first_character, pick_other_character}
use Rattle.xml.specs.laws.CharAt.{no_character}
use Rattle.xml.proofs.entities.entity_at.Goals as goal

pub returns-then-starts_at : goal.returns-then-starts_at
returns-then-starts_at c = let e = flag_yes _ _ c.starts_at.ensures c.if-starts_at.true in pick_first_character _ _ _ e (named (ascii "amp;") _ _ 38 c.requires e (omega arith) (omega arith))

pub returns-then-starts_at-2 : goal.returns-then-starts_at-2
returns-then-starts_at-2 c = let e = flag_yes _ _ c.starts_at-2.ensures c.if-starts_at-2.true in pick_other_character _ _ _ (flag_no _ _ c.starts_at.ensures c.if-starts_at.false) (pick_first_character _ _ _ e (named (ascii "lt;") _ _ 60 c.requires e (omega arith) (omega arith)))

pub returns-then-starts_at-3 : goal.returns-then-starts_at-3
returns-then-starts_at-3 c = let e = flag_yes _ _ c.starts_at-3.ensures c.if-starts_at-3.true in pick_other_character _ _ _ (flag_no _ _ c.starts_at.ensures c.if-starts_at.false) (pick_other_character _ _ _ (flag_no _ _ c.starts_at-2.ensures c.if-starts_at-2.false) (pick_first_character _ _ _ e (named (ascii "gt;") _ _ 62 c.requires e (omega arith) (omega arith))))

pub returns-then-starts_at-4 : goal.returns-then-starts_at-4
returns-then-starts_at-4 c = let e = flag_yes _ _ c.starts_at-4.ensures c.if-starts_at-4.true in pick_other_character _ _ _ (flag_no _ _ c.starts_at.ensures c.if-starts_at.false) (pick_other_character _ _ _ (flag_no _ _ c.starts_at-2.ensures c.if-starts_at-2.false) (pick_other_character _ _ _ (flag_no _ _ c.starts_at-3.ensures c.if-starts_at-3.false) (pick_first_character _ _ _ e (named (ascii "apos;") _ _ 39 c.requires e (omega arith) (omega arith)))))

pub returns-then-starts_at-5 : goal.returns-then-starts_at-5
returns-then-starts_at-5 c = let e = flag_yes _ _ c.starts_at-5.ensures c.if-starts_at-5.true in pick_other_character _ _ _ (flag_no _ _ c.starts_at.ensures c.if-starts_at.false) (pick_other_character _ _ _ (flag_no _ _ c.starts_at-2.ensures c.if-starts_at-2.false) (pick_other_character _ _ _ (flag_no _ _ c.starts_at-3.ensures c.if-starts_at-3.false) (pick_other_character _ _ _ (flag_no _ _ c.starts_at-4.ensures c.if-starts_at-4.false) (pick_first_character _ _ _ e (named (ascii "quot;") _ _ 34 c.requires e (omega arith) (omega arith))))))

pub returns : goal.returns
returns c = pick_other_character _ _ _ (flag_no _ _ c.starts_at.ensures c.if-starts_at.false) (pick_other_character _ _ _ (flag_no _ _ c.starts_at-2.ensures c.if-starts_at-2.false) (pick_other_character _ _ _ (flag_no _ _ c.starts_at-3.ensures c.if-starts_at-3.false) (pick_other_character _ _ _ (flag_no _ _ c.starts_at-4.ensures c.if-starts_at-4.false) (pick_other_character _ _ _ (flag_no _ _ c.starts_at-5.ensures c.if-starts_at-5.false) (no_character _ refl)))))
