-- A log is split into what was written to it.
--     first_document      the first document of a log ends where the first call's XML ends, whatever follows
--     log_splits          a log is split into exactly the calls' XML, in order, and nothing is left
--     log_cut_splits      the same of a log that was cut off in its last document: the part of that is left
-- Lent buffers may hold any bytes before a call.
use Rattle.std.specs.Prelude.{◌≡◌, refl, true, List, [], ◌∷◌, map, ℕ, ◌<◌, length, take, drop, Some}
use Rattle.std.proofs.Common.{sym, ap, ◌∙◌, arith, take-append-drop, length-take}
use Rattle.octets.specs.Append.{◌⊕◌}
use Rattle.octets.specs.laws.Append.{append_is, append_none}
use Rattle.octets.specs.Lists.{every}
use Rattle.octets.specs.laws.Lists.{every_both}
use Rattle.octets.specs.Many.{ok}
use Rattle.documents.specs.Log.{document_end, documents, AllWhole}
use Rattle.documents.proofs.laws.Splitting.{documents_split, end_cut}
use Rattle.theorems.specs.Logs.{Logged, is_logged, xml_in, log_of}
use Rattle.theorems.proofs.laws.Calls.{given}
use Rattle.theorems.proofs.laws.Log.{document_end_lem}

pub first_document : (k : Logged) (more : List ℕ) → is_logged k ≡ true → document_end (xml_in k ⊕ more) ≡ Some (length (xml_in k))
first_document k more h = let g = given k.edition k.call h in rw g.xml (document_end_lem k.edition g.calendar more g.valid)

all_whole : (ks : List Logged) → every is_logged ks ≡ true → AllWhole (map xml_in ks)
all_whole [] h = tt
all_whole (k ∷ ks) h = let q = every_both is_logged k ks h in (λ more. first_document k more q.0, all_whole ks q.1)

pub log_splits : (ks : List Logged) → every is_logged ks ≡ true → documents (log_of ks) ≡ ok (map xml_in ks) []
unfolding document_end
log_splits ks h = ap documents (sym (append_none (log_of ks))) ∙ documents_split (map xml_in ks) [] (all_whole ks h) refl

pub log_cut_splits : (ks : List Logged) (k : Logged) (n : ℕ) → every is_logged ks ≡ true → is_logged k ≡ true → n < length (xml_in k) →
    documents (log_of ks ⊕ take n (xml_in k)) ≡ ok (map xml_in ks) (take n (xml_in k))
log_cut_splits ks k n h j l =
    let e : document_end (take n (xml_in k) ⊕ drop n (xml_in k)) ≡ Some (length (xml_in k)) =
    ap document_end (append_is (take n (xml_in k)) (drop n (xml_in k)) ∙ take-append-drop n (xml_in k) ∙ sym (append_none (xml_in k))) ∙ first_document k [] j in
    documents_split (map xml_in ks) (take n (xml_in k)) (all_whole ks h) (end_cut (take n (xml_in k)) (drop n (xml_in k)) (length (xml_in k)) e (omega (arith, length-take n (xml_in k), l)))
