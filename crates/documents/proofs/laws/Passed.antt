-- Content in which no document ends, whatever element or end tag follows it.
--     content_passed      content of names and such data is passed over
--     whole_document      a document of such content ends where it ends, whatever follows
use Rattle.std.specs.Prelude.{◌≡◌, refl, Bool, true, false, List, [], ◌∷◌, ℕ, zero, suc, eqb, length, Some}
use Rattle.std.proofs.Common.{sym, ap, ◌∙◌, arith, eqb-true}
use Rattle.std.proofs.lemmas.Bool.{false≢true}
use Rattle.octets.specs.Ascii.{ascii}
use Rattle.octets.specs.Pick.{◌and◌, ◌or◌}
use Rattle.octets.specs.laws.Pick.{and_both, and_no_left, eqb_apart, eqb_swap, pick_case}
use Rattle.octets.specs.Append.{◌⊕◌}
use Rattle.octets.specs.laws.Append.{append_empty, append_cons, append_regroup, length_both}
use Rattle.octets.specs.Class.{is_alpha, is_name_char}
use Rattle.octets.specs.Words.{starts, holds}
use Rattle.octets.specs.laws.Words.{holds_split, holds_neither, all_without}
use Rattle.octets.specs.Computing.{octets_compute}
use Rattle.xml.specs.Escape.{escaped_byte, escaped, declaration_line, root_start, start_tag, end_tag, element_of, document_of}
use Rattle.xml.specs.Reads.{is_name}
use Rattle.xml.specs.Content.{Content, nothing, child, char_data, written, is_writable}
use Rattle.documents.specs.Log.{document_close, ahead, document_end}
use Rattle.documents.proofs.laws.Log.{ahead_none, ahead_twice, end_later}
use Rattle.documents.specs.laws.Passed.{opens_tag, data_in_front, Passed}

-- ---- bytes that are passed over

pub passed_none : (r : List ℕ) → Passed [] r
passed_none r = ap document_end (append_empty r) ∙ sym (ahead_none (document_end r))

passed_both : (a b r : List ℕ) → Passed a (b ⊕ r) → Passed b r → Passed (a ⊕ b) r
passed_both a b r p q =
    ap document_end (append_regroup a b r) ∙ p ∙ ap (ahead (length a)) q ∙ ahead_twice (length a) (length b) (document_end r)
    ∙ ap (λ (n : ℕ). ahead n (document_end r)) (sym (length_both a b))

pub passed_byte : (b : ℕ) (a r : List ℕ) → starts document_close (b ∷ (a ⊕ r)) ≡ false → Passed a r → Passed (b ∷ a) r
passed_byte b a r h p =
    ap document_end (append_cons b a r) ∙ end_later b (a ⊕ r) h ∙ ap (ahead 1) p ∙ ahead_twice 1 (length a) (document_end r)
    ∙ ap (λ (n : ℕ). ahead n (document_end r)) (omega arith)

-- no document's end begins with another byte than `<`
pub no_close : (b : ℕ) (s : List ℕ) → eqb 60 b ≡ false → starts document_close (b ∷ s) ≡ false
unfolding starts
no_close b s h = and_no_left (eqb 60 b) _ h

pub plain_passed : (a r : List ℕ) → holds 60 a ≡ false → Passed a r
plain_passed [] r h = passed_none r
plain_passed (b ∷ a) r h = let q = holds_split 60 b a h in passed_byte b a r (no_close b (a ⊕ r) q.0) (plain_passed a r q.1)

-- ---- character data

other_plain : (b : ℕ) → eqb 60 b ≡ false → holds 60 (b ∷ []) ≡ false
unfolding holds ◌or◌
other_plain b h = rw h

byte_plain : (b : ℕ) → holds 60 (escaped_byte b) ≡ false
byte_plain b =
    pick_case (λ x. holds 60 x ≡ false) (eqb b 38) _ _ (λ e. unfold octets_compute in refl) (λ e.
    pick_case (λ x. holds 60 x ≡ false) (eqb b 60) _ _ (λ k. unfold octets_compute in refl) (λ k.
    pick_case (λ x. holds 60 x ≡ false) (eqb b 62) _ _ (λ g. unfold octets_compute in refl) (λ g. other_plain b (eqb_swap b 60 k))))

pub data_plain : (s : List ℕ) → holds 60 (escaped s) ≡ false
unfolding escaped holds
data_plain [] = refl
data_plain (b ∷ s) = holds_neither 60 (escaped_byte b) (escaped s) (byte_plain b) (data_plain s)

-- ---- tags

name_plain : (c : ℕ) → is_name_char c ≡ false → (nm : List ℕ) → is_name nm ≡ true → holds c nm ≡ false
unfolding is_name
name_plain c f [] h = absurd (false≢true h)
name_plain c f (b ∷ nm) h = all_without is_name_char c f (b ∷ nm) (and_both _ _ h).1

no_less : is_name_char 60 ≡ false
unfolding octets_compute
no_less = refl

no_greater : is_name_char 62 ≡ false
unfolding octets_compute
no_greater = refl

no_slash : is_alpha 47 ≡ false
unfolding octets_compute
no_slash = refl

-- a start tag: no slash stands behind its `<`
start_apart : (nm r : List ℕ) → is_name nm ≡ true → starts document_close (60 ∷ (nm ⊕ r)) ≡ false
unfolding is_name starts ◌⊕◌ ◌and◌
start_apart [] r h = absurd (false≢true h)
start_apart (b ∷ nm) r h = rw (eqb_swap b 47 (eqb_apart is_alpha b 47 (and_both _ _ h).0 no_slash))

pub start_passed : (nm r : List ℕ) → is_name nm ≡ true → Passed (start_tag nm) r
unfolding ◌⊕◌
start_passed nm r h =
    passed_byte 60 (nm ⊕ ascii ">") r (ap (λ (x : List ℕ). starts document_close (60 ∷ x)) (append_regroup nm (ascii ">") r) ∙ start_apart nm (ascii ">" ⊕ r) h)
    (plain_passed (nm ⊕ ascii ">") r (holds_neither 60 nm (ascii ">") (name_plain 60 no_less nm h) (unfold octets_compute in refl)))

-- an end tag: no LF stands behind its `>`
close_apart : (u nm r : List ℕ) → holds 62 u ≡ false → holds 62 nm ≡ false → opens_tag r ≡ true → starts (u ⊕ ascii ">\n") (nm ⊕ (62 ∷ r)) ≡ false
unfolding starts ◌⊕◌ ◌and◌ opens_tag
close_apart [] [] [] h k o = absurd (false≢true o)
close_apart [] [] (b ∷ r) h k o = rw (← (eqb-true 60 b o))
close_apart [] (b ∷ nm) r h k o = let q = holds_split 62 b nm k in rw q.0
close_apart (a ∷ u) [] r h k o = let q = holds_split 62 a u h in rw (eqb_swap 62 a q.0)
close_apart (a ∷ u) (b ∷ nm) r h k o = go (eqb a b) (close_apart u nm r (holds_split 62 a u h).1 (holds_split 62 b nm k).1 o)
  where
    go : (t : Bool) → starts (u ⊕ ascii ">\n") (nm ⊕ (62 ∷ r)) ≡ false → (t and starts (u ⊕ ascii ">\n") (nm ⊕ (62 ∷ r))) ≡ false
    go true e = e
    go false e = refl

end_apart : (nm r : List ℕ) → is_name nm ≡ true → opens_tag r ≡ true → starts document_close (60 ∷ 47 ∷ (nm ⊕ (62 ∷ r))) ≡ false
unfolding starts ◌⊕◌ ◌and◌
end_apart nm r h o = close_apart (ascii "icalendar") nm r (unfold octets_compute in refl) (name_plain 62 no_greater nm h) o

pub end_passed : (nm r : List ℕ) → is_name nm ≡ true → opens_tag r ≡ true → Passed (end_tag nm) r
unfolding ◌⊕◌
end_passed nm r h o =
    passed_byte 60 (47 ∷ (nm ⊕ ascii ">")) r (ap (λ (x : List ℕ). starts document_close (60 ∷ 47 ∷ x)) (append_regroup nm (ascii ">") r) ∙ end_apart nm r h o)
    (plain_passed (47 ∷ (nm ⊕ ascii ">")) r (holds_neither 60 (ascii "/") (nm ⊕ ascii ">") (unfold octets_compute in refl) (holds_neither 60 nm (ascii ">") (name_plain 60 no_less nm h) (unfold octets_compute in refl))))

-- ---- content

-- where no character data may stand in front, a tag stands there, of the content or of what follows
content_opens : (c : Content) (r : List ℕ) → data_in_front c false ≡ true → opens_tag r ≡ true → opens_tag (written c ⊕ r) ≡ true
unfolding data_in_front written opens_tag ◌⊕◌ ◌and◌
content_opens nothing r h o = o
content_opens (child nm inner next) r h o = refl
content_opens (char_data s next) r h o = absurd (false≢true h)

end_opens : (nm r : List ℕ) → opens_tag (end_tag nm ⊕ r) ≡ true
unfolding opens_tag ◌⊕◌
end_opens nm r = refl

pub content_passed : (c : Content) (d : ℕ) (may : Bool) (r : List ℕ) → is_writable c d ≡ true → data_in_front c may ≡ true → opens_tag r ≡ true → Passed (written c) r
unfolding is_writable data_in_front written
content_passed nothing d may r w h o = passed_none r
content_passed (child nm inner next) zero may r w h o = absurd (false≢true w)
content_passed (child nm inner next) (suc d) may r w h o =
    let a = and_both (is_name nm) _ w in
    let b = and_both (is_writable inner d) _ a.1 in
    let q = and_both (data_in_front inner true) _ h in
    let n = content_opens next r q.1 o in
    passed_both (element_of nm (written inner)) (written next) r
    (passed_both (start_tag nm) (written inner ⊕ end_tag nm) (written next ⊕ r) (start_passed nm _ a.0)
    (passed_both (written inner) (end_tag nm) (written next ⊕ r) (content_passed inner d true _ b.0 q.0 (end_opens nm (written next ⊕ r))) (end_passed nm (written next ⊕ r) a.0 n)))
    (content_passed next (suc d) false r b.1 q.1 o)
content_passed (char_data s next) d may r w h o =
    let a = and_both _ (is_writable next d) w in
    let q = and_both may _ h in
    passed_both (escaped s) (written next) r (plain_passed (escaped s) (written next ⊕ r) (data_plain s)) (content_passed next d may r a.1 q.1 o)

-- ---- the document

-- one `<`, and no slash behind it
tag_passed : (b : ℕ) (a r : List ℕ) → eqb 47 b ≡ false → holds 60 (b ∷ a) ≡ false → Passed (60 ∷ b ∷ a) r
unfolding starts ◌⊕◌ ◌and◌
tag_passed b a r e h = passed_byte 60 (b ∷ a) r (rw e) (plain_passed (b ∷ a) r h)

declaration_passed : (r : List ℕ) → Passed declaration_line r
declaration_passed r = tag_passed 63 (ascii "xml version=\"1.0\" encoding=\"utf-8\"?>\n") r refl (unfold octets_compute in refl)

root_passed : (r : List ℕ) → Passed root_start r
root_passed r = tag_passed 105 (ascii "calendar xmlns=\"urn:ietf:params:xml:ns:icalendar-2.0\">") r refl (unfold octets_compute in refl)

close_ends : (r : List ℕ) → document_end ((end_tag (ascii "icalendar") ⊕ ascii "\n") ⊕ r) ≡ Some (length (end_tag (ascii "icalendar") ⊕ ascii "\n"))
unfolding octets_compute document_end
close_ends r = refl

front_passed : (a s r : List ℕ) → Passed a (s ⊕ r) → document_end (s ⊕ r) ≡ Some (length s) → document_end ((a ⊕ s) ⊕ r) ≡ Some (length (a ⊕ s))
unfolding ahead
front_passed a s r p e = ap document_end (append_regroup a s r) ∙ p ∙ ap (ahead (length a)) e ∙ ap Some (sym (length_both a s))

pub whole_document : (c : Content) (d : ℕ) (r : List ℕ) → is_writable c d ≡ true → data_in_front c true ≡ true → document_end (document_of (written c) ⊕ r) ≡ Some (length (document_of (written c)))
whole_document c d r w h =
    front_passed declaration_line _ r (declaration_passed _)
    (front_passed root_start _ r (root_passed _)
    (front_passed (written c) (end_tag (ascii "icalendar") ⊕ ascii "\n") r (content_passed c d true _ w h (unfold octets_compute opens_tag in refl)) (close_ends r)))
