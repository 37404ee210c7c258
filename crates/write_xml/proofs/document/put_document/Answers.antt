-- `write_xml::document::put_document` meets its contract.
use native.Mathlib.Omega.{arith}
use borrow.Author.Rules.{rules}
use Rattle.sink.specs.laws.Sink.{writing}
use Rattle.read_text_line.specs.laws.Ready.{ready_start}
use Rattle.write_xml.specs.laws.Written.{document_put}
use Rattle.write_xml.proofs.document.put_document.Goals as goal

pub put_components-b-requires : goal.put_components-b-requires
put_components-b-requires g c = (search (ready_start, rules), omega arith)

pub returns : goal.returns
returns g c = let cut = g.met.E.Cuttable.cut in search (document_put, writing)
