-- A calendar that is written as a document is read back from it (RFC 6321).
--     document_back    a valid calendar, whose document is within the input limit, is read back
use Rattle.std.specs.Prelude.{◌≡◌, refl, true, List, ℕ, ◌+◌, ◌≤◌, length, None}
use Rattle.std.proofs.Math.Bool.{false}
use Rattle.std.proofs.Common.{le-leb}
use Rattle.octets.specs.Ascii.{ascii}
use Rattle.octets.specs.Pick.{pick, ◌or◌}
use Rattle.octets.specs.Append.{◌⊕◌}
use Rattle.octets.specs.laws.Words.{same_self}
use Rattle.calendar.specs.Calendar.{Components}
use Rattle.calendar.specs.Levels.{levels}
use Rattle.calendar.specs.Refusal.{fine, ◌otherwise◌, accepted}
use Rattle.utf8.specs.Computing.{utf8_compute}
use Rattle.utf8.specs.Utf8.{first_bad}
use Rattle.utf8.specs.laws.Utf8.{good_append}
use Rattle.validity.specs.ValidCalendar.{has_components, are_valid, at_top, is_valid}
use Rattle.validity.proofs.laws.ValidCalendar.{valid_parts, valid_shallow}
use Rattle.xml.specs.Escape.{declaration_line, root_start, end_tag, document_of}
use Rattle.xml.specs.Nodes.{no_nodes, element, document_nodes}
use Rattle.xml.specs.Content.{written, placed}
use Rattle.xml.specs.laws.DocumentBack.{document_read_back, document_well_formed}
use Rattle.edition.specs.declared.Edition.{Edition}
use Rattle.xcal.specs.WriteXml.{write_document}
use Rattle.xcal.specs.ComponentNodes.{root_verdict, read_root}
use Rattle.xcal.specs.ReadDocument.{document_verdict, read_document}
use Rattle.xcal.proofs.laws.Contents.{calendar_content}
use Rattle.xcal.proofs.laws.WrittenContents.{document_written}
use Rattle.xcal.proofs.laws.ComponentsBack.{components_back}
use Rattle.xcal.proofs.laws.ComponentsFine.{stream_fine}
use Rattle.xcal.proofs.laws.SoundContent.{is_sound, sound_writable, sound_good}
use Rattle.xcal.proofs.laws.SoundCalendar.{calendar_sound}

-- ---- bytes

start_good : first_bad declaration_line ≡ None
unfolding utf8_compute
start_good = refl

root_good : first_bad root_start ≡ None
unfolding utf8_compute
root_good = refl

end_good : first_bad (end_tag (ascii "icalendar") ⊕ ascii "\n") ≡ None
unfolding utf8_compute
end_good = refl

document_good : (s : List ℕ) → first_bad s ≡ None → first_bad (document_of s) ≡ None
document_good s h =
    good_append declaration_line (root_start ⊕ s ⊕ end_tag (ascii "icalendar") ⊕ ascii "\n") start_good
    (good_append root_start (s ⊕ end_tag (ascii "icalendar") ⊕ ascii "\n") root_good (good_append s (end_tag (ascii "icalendar") ⊕ ascii "\n") h end_good))

module _ (ed : Edition) where
  -- ---- the document

  module _ (c : Components) (there : has_components c ≡ true) (valid : are_valid ed levels at_top false c ≡ true) (sound : is_sound (calendar_content c) 31 ≡ true) where
    nodes_back : document_nodes (document_of (written (calendar_content c)))
        ≡ element 39 (ascii "icalendar") (95 + length (written (calendar_content c))) (placed (calendar_content c) 95 no_nodes) no_nodes
    nodes_back = document_read_back (calendar_content c) 31 (sound_writable (calendar_content c) 31 sound)

    root_fine : root_verdict ed (document_nodes (document_of (written (calendar_content c)))) ≡ fine
    unfolding root_verdict pick ◌or◌
    root_fine = rw (nodes_back, same_self (ascii "icalendar")) (stream_fine ed c false _ 95 valid there)

    root_back : read_root (document_nodes (document_of (written (calendar_content c)))) ≡ c
    unfolding read_root
    root_back = rw (nodes_back, components_back ed c levels at_top false valid 95) (valid_shallow ed c levels at_top false valid)

    document_fine : length (document_of (written (calendar_content c))) ≤ 65535 → document_verdict ed (document_of (written (calendar_content c))) ≡ fine
    unfolding document_verdict pick ◌otherwise◌
    document_fine l =
        rw (le-leb _ _ l, document_good (written (calendar_content c)) (sound_good (calendar_content c) 31 sound), document_well_formed (calendar_content c) (sound_writable (calendar_content c) 31 sound)) root_fine

    content_back : length (write_document c) ≤ 65535 → read_document ed (write_document c) ≡ accepted c
    unfolding read_document
    content_back l = rw (document_written c, document_fine (rw (document_written c) at l), root_back)

  pub document_back : (c : Components) → is_valid ed c ≡ true → length (write_document c) ≤ 65535 → read_document ed (write_document c) ≡ accepted c
  document_back c h l = let v = valid_parts ed c h in content_back c v.0 v.1 (calendar_sound ed c v.1) l
