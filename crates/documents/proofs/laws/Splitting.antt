-- Documents joined are split again.
--     documents_split     such documents joined, and bytes in which no document ends, are split into them and those bytes
--     end_longer, end_shorter    an end does not hang on what follows it;   end_cut: what was cut off has none
--     documents_parts     on any bytes: they are their documents and what is left, in which none ends
use Rattle.std.specs.Prelude.{◌≡◌, refl, Bool, true, false, List, [], ◌∷◌, ℕ, zero, suc, ◌+◌, ◌≤◌, ◌<◌, eqb, length, take, drop, Option, None, Some}
use Rattle.std.proofs.Common.{sym, ap, ◌∙◌, arith, length-drop, take-append-drop, lt-ltb}
use Rattle.octets.specs.Pick.{pick, ◌and◌}
use Rattle.octets.specs.Append.{◌⊕◌, joined}
use Rattle.octets.specs.laws.Append.{append_is, append_empty, append_regroup, length_both}
use Rattle.octets.specs.Words.{starts}
use Rattle.octets.specs.laws.Words.{starts-length}
use Rattle.octets.specs.Many.{All, ok, no, cons, many_by, many_in, many}
use Rattle.octets.specs.laws.Many.{many-got, many-none}
use Rattle.documents.specs.Log.{document_close, ahead, document_end, cut_by, first_document, documents, Whole, AllWhole}
use Rattle.documents.proofs.laws.Log.{some_same, none_is_some, end_here, end_later, end_inside}

-- ---- documents one after another

take_front : (a b : List ℕ) → take (length a) (a ⊕ b) ≡ a
unfolding ◌⊕◌
take_front [] b = refl
take_front (x ∷ a) b = ap (λ (l : List ℕ). x ∷ l) (take_front a b)

drop_front : (a b : List ℕ) → drop (length a) (a ⊕ b) ≡ b
unfolding ◌⊕◌
drop_front [] b = refl
drop_front (x ∷ a) b = drop_front a b

-- a document has bytes
whole_some : (d : List ℕ) → Whole d → 13 ≤ length d
whole_some d w = (end_inside (d ⊕ []) (length d) (w [])).0

pub documents_split : (ds : List (List ℕ)) (more : List ℕ) → AllWhole ds → document_end more ≡ None → documents (joined ds ⊕ more) ≡ ok ds more
unfolding joined documents
documents_split [] more a e = ap documents (append_empty more) ∙ many-none first_document more (ap (λ (o : Option ℕ). cut_by o more) e)
documents_split (d ∷ ds) more a e =
    let w = whole_some d a.0 in
    let l = length_both d (joined ds ⊕ more) in
    ap documents (append_regroup d (joined ds) more)
    ∙ many-got first_document (d ⊕ joined ds ⊕ more) d (joined ds ⊕ more) (
    ap (λ (o : Option ℕ). cut_by o (d ⊕ joined ds ⊕ more)) (a.0 (joined ds ⊕ more)) ∙ rw (take_front d (joined ds ⊕ more), drop_front d (joined ds ⊕ more))
    ) (omega (arith, w, l))
    ∙ rw (documents_split ds more a.1 e)

-- ---- a log that was cut off

starts_settled : (p s b : List ℕ) → length p ≤ length s → starts p (s ⊕ b) ≡ starts p s
unfolding starts ◌⊕◌
starts_settled [] s b l = refl
starts_settled (x ∷ p) [] b l = absurd (omega arith)
starts_settled (x ∷ p) (y ∷ s) b l = ap (λ t. eqb x y and t) (starts_settled p s b (omega arith))

-- an end stays where it is, whatever follows
pub end_longer : (a b : List ℕ) (n : ℕ) → document_end a ≡ Some n → document_end (a ⊕ b) ≡ Some n
unfolding document_end ahead pick ◌⊕◌
end_longer [] b n e = none_is_some n e
end_longer (x ∷ a) b n e = go (starts document_close (x ∷ a)) refl (document_end a) refl e (end_longer a b)
  where
    go : (t : Bool) → starts document_close (x ∷ a) ≡ t → (o : Option ℕ) → document_end a ≡ o → pick t (Some 13) (ahead 1 o) ≡ Some n →
        ((m : ℕ) → document_end a ≡ Some m → document_end (a ⊕ b) ≡ Some m) → document_end (x ∷ (a ⊕ b)) ≡ Some n
    go true h o q e ih = end_here x (a ⊕ b) (starts_settled document_close (x ∷ a) b (starts-length document_close (x ∷ a) h) ∙ h) ∙ e
    go false h None q e ih = none_is_some n e
    go false h (Some m) q e ih =
        let l = end_inside a m q in
        end_later x (a ⊕ b) (starts_settled document_close (x ∷ a) b (omega (arith, l.0, l.1)) ∙ h) ∙ ap (ahead 1) (ih m q) ∙ e

-- and does not hang on what follows
pub end_shorter : (a b : List ℕ) (n : ℕ) → document_end (a ⊕ b) ≡ Some n → n ≤ length a → document_end a ≡ Some n
unfolding document_end ahead pick ◌⊕◌
end_shorter [] b n e l = let k = end_inside b n e in absurd (omega (arith, k.0, l))
end_shorter (x ∷ a) b n e l = go (starts document_close (x ∷ (a ⊕ b))) refl (document_end (a ⊕ b)) refl e (end_shorter a b)
  where
    go : (t : Bool) → starts document_close (x ∷ (a ⊕ b)) ≡ t → (o : Option ℕ) → document_end (a ⊕ b) ≡ o → pick t (Some 13) (ahead 1 o) ≡ Some n →
        ((m : ℕ) → document_end (a ⊕ b) ≡ Some m → m ≤ length a → document_end a ≡ Some m) → document_end (x ∷ a) ≡ Some n
    go true h o q e ih = let k = some_same 13 n e in end_here x a (sym (starts_settled document_close (x ∷ a) b (omega (arith, k, l))) ∙ h) ∙ e
    go false h None q e ih = none_is_some n e
    go false h (Some m) q e ih =
        let k = some_same (1 + m) n e in
        let i = end_inside (a ⊕ b) m q in
        end_later x a (sym (starts_settled document_close (x ∷ a) b (omega (arith, k, i.0, l))) ∙ h) ∙ ap (ahead 1) (ih m q (omega (arith, k, l))) ∙ e

-- less than a document has no end
pub end_cut : (a b : List ℕ) (n : ℕ) → document_end (a ⊕ b) ≡ Some n → length a < n → document_end a ≡ None
end_cut a b n e l = go (document_end a) refl
  where
    go : (o : Option ℕ) → document_end a ≡ o → o ≡ None
    go None q = refl
    go (Some m) q =
        let k = end_inside a m q in
        let z = some_same m n (sym (end_longer a b m q) ∙ e) in
        absurd (omega (arith, k.1, z))

-- ---- any bytes

abbrev Parts : All (List ℕ) → List ℕ → Type 0
Parts (ok ds rest) s = (joined ds ⊕ rest ≡ s) × (document_end rest ≡ None)
Parts (no r) s = ⊥

parts_more : (d s r : List ℕ) (o : All (List ℕ)) → d ⊕ r ≡ s → Parts o r → Parts (cons d o) s
unfolding joined
parts_more d s r (ok ds rest) e p = (append_regroup d (joined ds) rest ∙ ap (λ (t : List ℕ). d ⊕ t) p.0 ∙ e, p.1)
parts_more d s r (no t) e p = absurd p

parts_in : (k : ℕ) (s : List ℕ) → length s < k → Parts (many_in k first_document s) s
unfolding many_in many_by joined
parts_in zero s h = absurd (omega arith)
parts_in (suc k) s h = go (document_end s) refl (parts_in k)
  where
    go : (o : Option ℕ) → document_end s ≡ o → ((r : List ℕ) → length r < k → Parts (many_in k first_document r) r) → Parts (many_by (cut_by o s) (many_in k first_document) s) s
    go None q ih = (append_empty s, q)
    go (Some n) q ih =
        let l = end_inside s n q in
        let c : length (drop n s) < length s = omega (arith, length-drop n s, l.0, l.1) in
        rw (lt-ltb (length (drop n s)) (length s) c) (parts_more (take n s) s (drop n s) (many_in k first_document (drop n s)) (append_is (take n s) (drop n s) ∙ take-append-drop n s) (ih (drop n s) (omega arith)))

-- a log is its documents and what is left, in which none ends
pub documents_parts : (s : List ℕ) → Parts (documents s) s
unfolding documents many
documents_parts s = parts_in (suc (length s)) s (omega arith)
