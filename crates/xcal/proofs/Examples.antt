-- A calendar that is written as a document is read back from it.
--     rota_back
use Rattle.std.specs.Prelude.{◌≡◌, refl, true, length, leb}
use Rattle.std.proofs.Common.{leb-true}
use Rattle.calendar.specs.Refusal.{accepted}
use Rattle.edition.specs.declared.Edition.TheVariants.{Rfc5545}
use Rattle.validity.specs.Examples.{rota, rota_valid}
use Rattle.xcal.specs.WriteXml.{write_document}
use Rattle.xcal.specs.ReadDocument.{read_document}
use Rattle.xcal.proofs.laws.DocumentBack.{document_back}
use Rattle.xcal.specs.Computing.{xcal_compute}

rota_short : leb (length (write_document rota)) 65535 ≡ true
unfolding xcal_compute
rota_short = refl

rota_back : read_document Rfc5545 (write_document rota) ≡ accepted rota
rota_back = document_back Rfc5545 rota rota_valid (leb-true _ _ rota_short)
