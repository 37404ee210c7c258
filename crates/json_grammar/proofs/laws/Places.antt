-- The place of a fault is the first byte at which no text can go on.
--     place_in_grammar     the bytes before it can go on to a text of the grammar
--     place_goes_on        and to one that is accepted, but for the digits of an escape that can't name what they may
--     place_stops          what tells it; with a byte more it is no text of the grammar, if it is not an escape
--     grammar_faults       a text of the grammar has faults at escapes alone
use Rattle.std.specs.Prelude.{◌≡◌, refl, ◌⊎◌, List, [], ◌∷◌, ℕ, zero, suc, ◌+◌, ◌-◌, ◌≤◌, ◌<◌, length, take, drop, None, Some}
use Rattle.std.proofs.Common.{sym, ap, subst, ◌∙◌, inl, inr, arith}
use Rattle.std.proofs.Math.Decide.{dec_le}
use Rattle.octets.specs.Append.{◌⊕◌}
use Rattle.json_text.specs.Check.{Container, verdict}
use Rattle.json_text.specs.declared.Expect.TheVariants.{Value}
use Rattle.json_text.specs.declared.State.{State}
use Rattle.json_text.specs.declared.State.TheVariants.{Expects}
use Rattle.json_grammar.specs.Grammar.{may_name, GrammarText}
use Rattle.json_grammar.specs.Faults.{InDigits, Stops, by_byte, by_escape, by_end}
use Rattle.json_grammar.proofs.laws.Steps.{fault_not_fine}
use Rattle.json_grammar.proofs.laws.Accepted.{text_accepted}
use Rattle.json_grammar.proofs.laws.Rest.{Valued}
use Rattle.json_grammar.proofs.laws.JsonGrammar.{naming_well, completes, text_of, text_is, text_found}
use Rattle.json_grammar.proofs.laws.Ready.{Ready, ready_plain, anything, naming_any, ready}
use Rattle.json_grammar.proofs.laws.Outcome.{Never, Outcome, here, begun, cut, digits, GoesBy, at_same, faulty}
use Rattle.json_grammar.proofs.laws.Told.{Told, Escape, told_by}
use Rattle.json_grammar.proofs.laws.Digits.{hexes}
use Rattle.json_grammar.proofs.laws.Fair.{Later, grammar_fair}

-- ---- by the grammar

grammar_found : (most : ℕ) (s : List ℕ) → Valued most anything [] s → GrammarText most s
grammar_found most s t = record { text = text_of most anything s t; is = text_is most anything s t; deep = omega (arith, t.on.it.fits) }

-- Where a fault is told at k, the first k bytes of the text begin a JSON-text of RFC 8259, with at most `most` arrays and objects open at once.
-- Of a text that is cut short these are all its bytes.
pub place_in_grammar : (most : ℕ) (s : List ℕ) (k : ℕ) → verdict most s ≡ Some k → (t : List ℕ) × GrammarText most (take k s ⊕ t)
place_in_grammar most s k h = go (faulty ⊥ most anything naming_any (λ st p cs. ready most st cs) (λ st x cs. inr (ready most st cs)) k s 0 (Expects Value) [] h)
  where
    go : Outcome ⊥ most anything (Expects Value) [] 0 k s → (t : List ℕ) × GrammarText most (take k s ⊕ t)
    go (here l t c) = let z : k - 0 ≡ k = omega arith in (t, grammar_found most (take k s ⊕ t) (subst (λ (j : ℕ). Valued most anything [] (take j s ⊕ t)) z c))
    go (begun z) = absurd z
    go (cut h l ds c n) = absurd h
    go (digits h p lo hi ds d e t c n) = absurd h

-- ---- accepted

well : (most : ℕ) (st : State) (cs : List Container) → Ready most st cs → GoesBy most may_name st cs
well most st cs r = (r.0, completes most may_name naming_well r.0 0 st cs (r.1 0))

-- Where a fault is told at k, the first k bytes of the text begin one that is accepted; or k stands among the digits of an escape: then the bytes before the
-- escape do, and with these digits none is.
pub place_goes_on : (most : ℕ) (s : List ℕ) (k : ℕ) → verdict most s ≡ Some k → ((t : List ℕ) × (verdict most (take k s ⊕ t) ≡ None)) ⊎ InDigits most s k
place_goes_on most s k h = go (faulty (Unit {0}) most may_name naming_well (λ st p cs. well most st cs (ready_plain most st p cs)) (λ st x cs. either st cs (hexes most st x cs)) k s 0 (Expects Value) [] h)
  where
    either : (st : State) (cs : List Container) → ((i : ℕ) → Never most st cs i []) ⊎ Ready most st cs → (Unit {0} × ((i : ℕ) → Never most st cs i [])) ⊎ GoesBy most may_name st cs
    either st cs (inl n) = inl (tt, n)
    either st cs (inr r) = inr (well most st cs r)

    found : (p : ℕ) (t : List ℕ) → Valued most may_name [] (take (p - 0) s ⊕ t) → verdict most (take p s ⊕ t) ≡ None
    found p t c = let z : p - 0 ≡ p = omega arith in text_accepted most (take p s ⊕ t) (text_found most (take p s ⊕ t) (subst (λ (j : ℕ). Valued most may_name [] (take j s ⊕ t)) z c))

    go : Outcome (Unit {0}) most may_name (Expects Value) [] 0 k s → ((t : List ℕ) × (verdict most (take k s ⊕ t) ≡ None)) ⊎ InDigits most s k
    go (here l t c) = inl (t, found k t c)
    go (begun z) = absurd z
    go (cut h l ds c n) = absurd c
    go (digits h p lo hi ds d e t c n) =
        let z : k - 0 ≡ k = omega arith in
        let y : p - 0 ≡ p = omega arith in
        inr (record { from = p; digits = ds; before = hi; few = d; is = rw y at e; goes_on = (t, found p t c); never = rw z at n })

-- ---- with a byte more

take_again : (m : ℕ) (s t : List ℕ) → m ≤ length s → take m (take m s ⊕ t) ≡ take m s
unfolding ◌⊕◌
take_again zero s t h = refl
take_again (suc m) [] t h = absurd (omega arith)
take_again (suc m) (b ∷ s) t h = ap (λ (l : List ℕ). b ∷ l) (take_again m s t (omega arith))

parts : (m : ℕ) (s : List ℕ) → s ≡ take m s ⊕ drop m s
unfolding ◌⊕◌
parts zero s = refl
parts (suc m) [] = refl
parts (suc m) (b ∷ s) = ap (λ (l : List ℕ). b ∷ l) (parts m s)

-- what is faulted at k, whatever follows, is the beginning of no text of the grammar
none_begins : (most : ℕ) (s : List ℕ) (k : ℕ) → k < length s → ((t : List ℕ) → verdict most (take (k + 1) s ⊕ t) ≡ Some k) → (t : List ℕ) → GrammarText most (take (k + 1) s ⊕ t) → ⊥
none_begins most s k l f t g = go (grammar_fair most (take (k + 1) s ⊕ t) g)
  where
    go : (verdict most (take (k + 1) s ⊕ t) ≡ None) ⊎ Later most (Expects Value) [] 0 (take (k + 1) s ⊕ t) → ⊥
    go (inl e) = fault_not_fine k (sym (f t) ∙ e)
    go (inr x) =
        let q : 0 + x.p ≡ k = at_same (0 + x.p) k (sym x.at ∙ f t) in
        let j : x.p + 1 ≡ k + 1 = omega arith in
        let e : take (x.p + 1) (take (k + 1) s ⊕ t) ≡ take (k + 1) s = ap (λ (m : ℕ). take m (take (k + 1) s ⊕ t)) j ∙ take_again (k + 1) s t (omega arith) in
        fault_not_fine k (sym (f x.tail) ∙ subst (λ (u : List ℕ). verdict most (u ⊕ x.tail) ≡ None) e x.goes)

by_byte_lem : (most : ℕ) (s : List ℕ) (k : ℕ) → k < length s → ((t : List ℕ) → verdict most (take (k + 1) s ⊕ t) ≡ Some k) → Stops most s k
by_byte_lem most s k l f = by_byte l f (none_begins most s k l f)

-- A fault at k is told by the byte there: then no JSON-text of RFC 8259 begins with the first k + 1 bytes, with at most `most` arrays and objects open at once,
-- and each text that does has this fault. Or by an escape that stands there, and could stand there. Or by the end of the text, which is k.
pub place_stops : (most : ℕ) (s : List ℕ) (k : ℕ) → verdict most s ≡ Some k → Stops most s k
place_stops most s k h = go (told_by s most k 0 (Expects Value) [] h)
  where
    go : Told most (Expects Value) [] 0 k s → Stops most s k
    go r = placed r.place (dec_le (length s) r.by)
      where
        same : k ≡ 0 + r.by → r.by ≡ k
        same e = omega arith

        placed : (k ≡ 0 + r.by) ⊎ ⊥ ⊎ Escape most (Expects Value) [] 0 k s r.by → Dec (length s ≤ r.by) → Stops most s k
        placed (inl e) (yes l) = by_end (omega (arith, r.inside))
        placed (inl e) (no l) = by_byte_lem most s k (omega arith) (subst (λ (j : ℕ). (t : List ℕ) → verdict most (take (j + 1) s ⊕ t) ≡ Some k) (same e) (r.told (omega arith)))
        placed (inr (inl z)) d = absurd z
        placed (inr (inr x)) d = escapes (dec_le r.by x.p)
          where
            at : x.p ≡ k
            at = omega (arith, x.at)

            escapes : Dec (r.by ≤ x.p) → Stops most s k
            escapes (yes l) =
                let e : r.by ≡ k = omega (arith, x.before, at) in
                by_byte_lem most s k (omega (arith, x.inside, at)) (subst (λ (j : ℕ). (t : List ℕ) → verdict most (take (j + 1) s ⊕ t) ≡ Some k) e (r.told (omega (arith, x.inside))))
            escapes (no l) = by_escape (subst (λ (j : ℕ). take 1 (drop j s) ≡ 92 ∷ []) at x.stands) (x.tail, subst (λ (j : ℕ). verdict most (take (j + 1) s ⊕ x.tail) ≡ None) at x.goes) r.by (omega (arith, at)) r.inside r.told

-- A text of the grammar that is refused has its fault at a reverse solidus: an escape that names what it may not.
pub grammar_faults : (most : ℕ) (s : List ℕ) (k : ℕ) → GrammarText most s → verdict most s ≡ Some k → take 1 (drop k s) ≡ 92 ∷ []
grammar_faults most s k g h = go (place_stops most s k h) (grammar_fair most s g)
  where
    go : Stops most s k → (verdict most s ≡ None) ⊎ Later most (Expects Value) [] 0 s → take 1 (drop k s) ≡ 92 ∷ []
    go stops (inl e) = absurd (fault_not_fine k (sym h ∙ e))
    go (by_byte l f none) (inr x) = absurd (none (drop (k + 1) s) (subst (λ (u : List ℕ). GrammarText most u) (parts (k + 1) s) g))
    go (by_escape e t j lo hi f) (inr x) = e
    go (by_end e) (inr x) = let q : 0 + x.p ≡ k = at_same (0 + x.p) k (sym x.at ∙ h) in absurd (omega (arith, x.inside))
