-- Logs: the XML of accepted calls, of any editions, one after another.
--     Logged           a call and the edition that it names;   is_logged: it is accepted;   xml_in: what it gives;   log_of: the log of a list of such calls
use Rattle.std.specs.Prelude.{Bool, List, map, ℕ}
use Rattle.octets.specs.Append.{joined}
use Rattle.edition.specs.declared.Edition.{Edition}
use Rattle.theorems.specs.Calls.{Call, is_accepted, xml_of}

pub record Logged : Type 0 where
  pub edition : Edition
  pub call : Call

abbrev pub is_logged : Logged → Bool
is_logged k = is_accepted k.edition k.call

abbrev pub xml_in : Logged → List ℕ
xml_in k = xml_of k.edition k.call

abbrev pub log_of : List Logged → List ℕ
log_of ks = joined (map xml_in ks)
