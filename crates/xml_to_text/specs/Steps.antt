-- What the steps of `to_text` give, one after another.
use Rattle.std.specs.Prelude.{List, ℕ}
use Rattle.calendar.specs.Refusal.{Verdict, answer}
use Rattle.xml.specs.Nodes.{document_nodes}
use Rattle.text.specs.WriteText.{write_calendar}
use Rattle.xcal.specs.ComponentNodes.{read_root}
use Rattle.calls.specs.Conversion.{Converted, converted}
use Rattle.edition.specs.declared.Edition.{Edition}

module _ (ed : Edition) where
  -- what the document s gives whose verdict is v
  abbrev pub nodes_give : List ℕ → Verdict → Converted
  nodes_give s v = converted (write_calendar ed) (answer v (read_root (document_nodes s)))
