-- Laws of a step: what stands at a cursor, by the byte that was found there.
--     rest_byte, rest_end       what the bytes from the cursor on are, where a byte was found, and where none was
--     byte_small                a unit that is not the end's is a byte
--     plain_byte, plain_end     the step over bytes as they stand;   none_end: over an encoding that there is not
--     rest_plain                bytes as they stand, from the first on;   rest_part: what a slice that is cut at e has from c on
--     reach_here, reach_on, reach_cut    cursors with whole steps between them: none, one after another, in what is cut further on
--     rest_past                 past the end nothing stands;   reach_end: the end is reached from the start
--     rest_cut, cut_is          what stands from a cursor on, cut in two at a cursor that is reached from it
--     folded_byte, folded_end   the step over a text with its folds
--     caret_other, caret_letter, caret_itself, caret_last    the step over carets;   decodes_as: the encoding of a value in an edition
use Rattle.std.specs.Prelude.{◌≡◌, refl, Bool, true, false, List, [], ◌∷◌, ℕ, zero, suc, ◌+◌, ◌-◌, ◌/◌, ◌^◌, max, ◌≤◌, ◌<◌, eqb, ltb, length, take, drop, get_or, Option, None, Some}
use Rattle.std.proofs.Common.{sym, ap, ◌∙◌, arith, length-drop, drop_of_length-le, take-append-drop, drop-drop, rules, eq-eqb, ne_eqb, ltb-true, ltb-false}
use Rattle.std.proofs.lemmas.Bool.{false≢true, eqb-true, eqb-false}
use Rattle.std.proofs.lemmas.List.{append_cancel_right}
use Rattle.std.proofs.Math.Seq.{take-nil, drop-nil}
use Rattle.octets.specs.Pick.{pick}
use Rattle.octets.specs.laws.Scan.{drop_next}
use Rattle.octets.specs.Append.{◌⊕◌}
use Rattle.folding.specs.Unfold.{unfolded, fold_at, kept_from}
use Rattle.folding.specs.Cut.{skip_after, Passed, Behind}
use Rattle.folding.specs.laws.Cut.{skip_none, skip_on, skip_take, skip_all, kept_cut, kept_byte}
use Rattle.edition.specs.Edition.{is_letter, meant, decoding, decode}
use Rattle.edition.specs.laws.Carets.{decoded_other, decoded_last, decoded_letter, decoded_caret}
use Rattle.edition.specs.declared.Edition.{Edition}
use Rattle.edition.specs.declared.Edition.TheVariants.{Rfc5545, Rfc6868}
use Rattle.source.specs.Source.{rest, spell, cuts, cut_of, over, skipping, Reach, Reads, Settled, Over, Decodes}
use Rattle.source.specs.declared.points.Unit.{Unit}
use Rattle.source.specs.declared.Cut.TheVariants.{Plain, Folded}

pub spell_byte : (u : ℕ) (r : List ℕ) → (u ≡ 256 → ⊥) → spell u r ≡ u ∷ r
unfolding spell pick
spell_byte u r h = rw (ne_eqb u 256 h)

pub spell_end : (u : ℕ) (r : List ℕ) → u ≡ 256 → spell u r ≡ []
unfolding spell pick
spell_end u r h = rw (eq-eqb u 256 h)

sub_self : (c : ℕ) → c - c ≡ 0
sub_self c = omega arith

pub reach_here : (m : ℕ) (s : List ℕ) (c : ℕ) → Reach m s c c
unfolding skipping pick
reach_here m s c = record { whole = go (eqb m 2) }
  where
    go : (t : Bool) → pick t (skip_after (drop c s) 0 (c - c)) 0 ≡ 0
    go true = rw (sub_self c) (skip_none (drop c s) 0)
    go false = refl

module _ {m : ℕ} {s : List ℕ} {c : ℕ} {r : Unit} (p : Reads m s c r) where
  pub rest_byte : (r.u ≡ 256 → ⊥) → rest m s c ≡ r.u ∷ rest m s r.next
  rest_byte h = p.is ∙ spell_byte r.u (rest m s r.next) h

  pub byte_small : (r.u ≡ 256 → ⊥) → r.u < 256
  byte_small h = go r.u p.small h
    where
      go : (u : ℕ) → u ≤ 256 → (u ≡ 256 → ⊥) → u < 256
      go u l h = omega (arith, h)

  pub rest_end : r.u ≡ 256 → rest m s c ≡ []
  rest_end h = p.is ∙ spell_end r.u (rest m s r.next) h

  -- where nothing is left, the cursor may stay
  pub stays : r.u ≡ 256 → c < 2 ^ 64 → Reads m s c (record { u = 256; next = c })
  stays h f = record {
    is = rest_end h ∙ sym (spell_end 256 (rest m s c) refl);
    small = omega arith;
    moved = omega arith;
    inside = omega arith;
    plain = λ z b. absurd (b refl);
    reach = reach_here m s c;
  }

-- ---- cursors with whole steps between them

-- only folds are passed over
pub reach_other : (m : ℕ) (s : List ℕ) (c e : ℕ) → eqb m 2 ≡ false → Reach m s c e
unfolding skipping pick
reach_other m s c e h = record { whole = rw h }

skip_both : (s : List ℕ) (a b c : ℕ) → a ≤ b → b ≤ c → skip_after (drop a s) 0 (b - a) ≡ 0 → skip_after (drop b s) 0 (c - b) ≡ 0 → skip_after (drop a s) 0 (c - a) ≡ 0
skip_both s a b c h k p q =
    let e : c - a ≡ b - a + (c - b) = omega arith in
    let f : a + (b - a) ≡ b = omega arith in
    rw (e, skip_on (drop a s) 0 (b - a) (c - b), p, drop-drop (b - a) a s, f) q

pub reach_on : {m : ℕ} {s : List ℕ} {a b c : ℕ} → a ≤ b → b ≤ c → Reach m s a b → Reach m s b c → Reach m s a c
unfolding skipping pick
reach_on {m} {s} {a} {b} {c} h k p q = record { whole = go (eqb m 2) p.whole q.whole }
  where
    go : (t : Bool) → pick t (skip_after (drop a s) 0 (b - a)) 0 ≡ 0 → pick t (skip_after (drop b s) 0 (c - b)) 0 ≡ 0 → pick t (skip_after (drop a s) 0 (c - a)) 0 ≡ 0
    go true p q = skip_both s a b c h k p q
    go false p q = refl

-- what is reached from a is reached from a cursor on the way
pub reach_rest : {m : ℕ} {s : List ℕ} {a b c : ℕ} → a ≤ b → b ≤ c → Reach m s a b → Reach m s a c → Reach m s b c
unfolding skipping pick
reach_rest {m} {s} {a} {b} {c} h k p q = record { whole = go (eqb m 2) p.whole q.whole }
  where
    e : c - a ≡ b - a + (c - b)
    e = omega arith

    f : a + (b - a) ≡ b
    f = omega arith

    go : (t : Bool) → pick t (skip_after (drop a s) 0 (b - a)) 0 ≡ 0 → pick t (skip_after (drop a s) 0 (c - a)) 0 ≡ 0 → pick t (skip_after (drop b s) 0 (c - b)) 0 ≡ 0
    go true p q = rw (e, skip_on (drop a s) 0 (b - a) (c - b), p, drop-drop (b - a) a s, f) at q
    go false p q = refl

pub reach_end : (m : ℕ) (s : List ℕ) → Reach m s 0 (length s)
unfolding skipping pick
reach_end m s = record { whole = go (eqb m 2) }
  where
    z : length s - 0 ≡ length s
    z = omega arith

    go : (t : Bool) → pick t (skip_after s 0 (length s - 0)) 0 ≡ 0
    go true = rw z (skip_all s 0 (omega arith))
    go false = refl

-- past the end
pub rest_past : (m : ℕ) (s : List ℕ) (c : ℕ) → cuts m ≡ true → length s ≤ c → rest m s c ≡ []
unfolding rest kept_from pick
rest_past zero s c y h = drop_of_length-le s h
rest_past (suc zero) s c y h = absurd (false≢true y)
rest_past (suc (suc zero)) s c y h = rw (drop_of_length-le s h)
rest_past (suc (suc (suc m))) s c y h = absurd (false≢true y)

-- bytes as they stand
pub plain_byte : (s : List ℕ) (c u : ℕ) → c < length s → u ≡ get_or s c 0 → u < 256 → Reads 0 s c (record { u = u; next = c + 1 })
unfolding rest spell pick
plain_byte s c u h e b = record {
  is = rw (drop_next s c h, ← e, ne_eqb u 256 (omega arith));
  small = omega arith;
  moved = omega arith;
  inside = omega arith;
  plain = λ z b. omega arith;
  reach = reach_other 0 s c (c + 1) refl;
}

pub plain_end : (s : List ℕ) (c : ℕ) → length s ≤ c → c < 2 ^ 64 → Reads 0 s c (record { u = 256; next = c })
unfolding rest spell pick
plain_end s c h f = record { is = drop_of_length-le s h; small = omega arith; moved = omega arith; inside = omega arith; plain = λ z b. absurd (b refl); reach = reach_here 0 s c }

pub none_end : (m : ℕ) (s : List ℕ) (c : ℕ) → (m ≡ 0 → ⊥) → (m ≡ 1 → ⊥) → (m ≡ 2 → ⊥) → (m ≡ 3 → ⊥) → (m ≡ 4 → ⊥) → (m ≡ 5 → ⊥) → c < 2 ^ 64 →
    Reads m s c (record { u = 256; next = c })
unfolding rest spell pick
none_end m s c h g k j d e f = record {
  is = rw (ne_eqb m 0 h, ne_eqb m 1 g, ne_eqb m 2 k, ne_eqb m 3 j, ne_eqb m 4 d, ne_eqb m 5 e);
  small = omega arith;
  moved = omega arith;
  inside = omega arith;
  plain = λ z b. absurd (b refl);
  reach = reach_here m s c;
}

-- the encoding's number was tested
pub reads_as : {m k : ℕ} {s : List ℕ} {c : ℕ} {r : Unit} → m ≡ k → Reads k s c r → Reads m s c r
reads_as e p = rw e p

-- ---- a slice of bytes as they stand, cut at e

drop-take : (s : List ℕ) (c e : ℕ) → drop c (take e s) ≡ take (e - c) (drop c s)
drop-take [] c e = rw (take-nil, drop-nil, take-nil)
drop-take (x ∷ s) zero e = let k : e - 0 ≡ e = omega arith in rw k
drop-take (x ∷ s) (suc c) zero = let k : 0 - suc c ≡ 0 = omega arith in rw k
drop-take (x ∷ s) (suc c) (suc e) = let k : suc e - suc c ≡ e - c = omega arith in rw k (drop-take s c e)

-- the same from a later index on
later : (s : List ℕ) (c e : ℕ) → c ≤ e → drop e s ≡ drop (e - c) (drop c s)
later s c e h = let k : e ≡ c + (e - c) = omega arith in ap (λ (n : ℕ). drop n s) k ∙ sym (drop-drop (e - c) c s)

pub rest_plain : (s : List ℕ) → rest 0 s 0 ≡ s
unfolding rest pick
rest_plain s = refl

pub rest_part : (s : List ℕ) (c e : ℕ) → rest 0 (take e s) c ≡ take (e - c) (drop c s)
unfolding rest pick
rest_part s c e = drop-take s c e

-- ---- what is lent, cut at a cursor

-- what stands from c on is what stands before e, and what stands from e on
pub rest_cut : (m : ℕ) (s : List ℕ) (c e : ℕ) → cuts m ≡ true → c ≤ e → Reach m s c e → rest m s c ≡ rest m (take e s) c ⊕ rest m s e
unfolding rest skipping pick ◌⊕◌
rest_cut zero s c e y h p = rw (drop-take s c e, later s c e h) (sym (take-append-drop (e - c) (drop c s)))
rest_cut (suc zero) s c e y h p = absurd (false≢true y)
rest_cut (suc (suc zero)) s c e y h p = rw (drop-take s c e, later s c e h) (kept_cut (drop c s) 0 (e - c) p.whole)
rest_cut (suc (suc (suc m))) s c e y h p = absurd (false≢true y)

pub cut_is : (m : ℕ) (s n : List ℕ) (c e : ℕ) → cuts m ≡ true → c ≤ e → Reach m s c e → rest m s c ≡ n ⊕ rest m s e → rest m (take e s) c ≡ n
unfolding ◌⊕◌
cut_is m s n c e y h p q = append_cancel_right (rest m (take e s) c) n (rest m s e) (sym (rest_cut m s c e y h p) ∙ q)

-- a cursor before the cut is reached in what is cut as in the whole
skipping_cut : (m : ℕ) (s : List ℕ) (c e f : ℕ) → e ≤ f → Reach m s c f → skipping m (take f s) c e ≡ skipping m s c e
unfolding skipping pick
skipping_cut m s c e f h p = go (eqb m 2) p.whole
  where
    go : (t : Bool) → pick t (skip_after (drop c s) 0 (f - c)) 0 ≡ 0 → pick t (skip_after (drop c (take f s)) 0 (e - c)) 0 ≡ pick t (skip_after (drop c s) 0 (e - c)) 0
    go true p = rw (drop-take s c f) (skip_take (drop c s) 0 (e - c) (f - c) (omega arith) p)
    go false p = refl

pub reach_cut : {m : ℕ} {s : List ℕ} {c e f : ℕ} → e ≤ f → Reach m s c f → Reach m s c e → Reach m (take f s) c e
reach_cut {m} {s} {c} {e} {f} h p q = record { whole = skipping_cut m s c e f h p ∙ q.whole }

pub reach_whole : (m : ℕ) (s : List ℕ) (c e f : ℕ) → e ≤ f → Reach m s c f → Reach m (take f s) c e → Reach m s c e
reach_whole m s c e f h p q = record { whole = sym (skipping_cut m s c e f h p) ∙ q.whole }

-- ---- a text with its folds

-- folds are passed over, and then a byte stands
pub folded_byte : (s : List ℕ) (c n u : ℕ) → Behind s c n → n < length s → u ≡ get_or s n 0 → u < 256 → Reads 2 s c (record { u = u; next = n + 1 })
unfolding rest spell skipping pick
folded_byte s c n u b h e l =
    let k = kept_byte (get_or s n 0) (drop (n + 1) s) (rw (drop_next s n h) at b.stop) in
    let o = b.passed.onward in
    let f : n + 1 - n ≡ 1 = omega arith in
    record {
      is = b.passed.left ∙ rw (drop_next s n h) (k.0 ∙ rw (← e, ne_eqb u 256 (omega arith)));
      small = omega arith;
      moved = omega arith;
      inside = omega arith;
      plain = λ z b. omega arith;
      reach = record { whole = skip_both s c n (n + 1) o (omega arith) b.passed.whole (rw (f, drop_next s n h) k.1) };
    }

-- nothing but folds is left
pub folded_end : (s : List ℕ) (c n : ℕ) → Behind s c n → length s ≤ n → c < 2 ^ 64 → Reads 2 s c (record { u = 256; next = c })
unfolding rest spell kept_from pick
folded_end s c n b h l = record {
  is = b.passed.left ∙ rw (drop_of_length-le s h);
  small = omega arith;
  moved = omega arith;
  inside = omega arith;
  plain = λ z b. absurd (b refl);
  reach = reach_here 2 s c;
}

pub folded_past : (s : List ℕ) (c : ℕ) → length s ≤ c → c < 2 ^ 64 → Reads 2 s c (record { u = 256; next = c })
unfolding rest spell kept_from pick
folded_past s c h l = record {
  is = rw (drop_of_length-le s h);
  small = omega arith;
  moved = omega arith;
  inside = omega arith;
  plain = λ z b. absurd (b refl);
  reach = reach_here 2 s c;
}

-- ---- behind folds

not_empty : (a : ℕ) (l : List ℕ) → a ∷ l ≡ [] → ⊥
not_empty a l h = let e : ◌≡◌ {A = ℕ} (suc (length l)) 0 = ap length h in omega arith

pub settled_here : (m : ℕ) (s : List ℕ) (c : ℕ) → (m ≡ 2 → ⊥) → Settled m s c c
unfolding rest pick
settled_here m s c h = record { is = refl; onward = omega arith; inside = omega arith; reach = reach_here m s c; some_byte = go m h }
  where
    go : (m : ℕ) → (m ≡ 2 → ⊥) → cuts m ≡ true → rest m s c ≡ [] → length s ≤ c
    go zero h y e = let k : ◌≡◌ {A = ℕ} (length (drop c s)) 0 = ap length e in omega (arith, k, length-drop c s)
    go (suc zero) h y e = absurd (false≢true y)
    go (suc (suc zero)) h y e = absurd (h refl)
    go (suc (suc (suc m))) h y e = absurd (false≢true y)

pub settled_plain : (s : List ℕ) (c : ℕ) → Settled 0 s c c
settled_plain s c = settled_here 0 s c (λ h. let z : ◌≡◌ {A = ℕ} 0 2 = h in omega arith)

pub settled_characters : (s : List ℕ) (c : ℕ) → Settled 1 s c c
settled_characters s c = settled_here 1 s c (λ h. let z : ◌≡◌ {A = ℕ} 1 2 = h in omega arith)

pub settled_quoted : (s : List ℕ) (c : ℕ) → Settled 3 s c c
settled_quoted s c = settled_here 3 s c (λ h. let z : ◌≡◌ {A = ℕ} 3 2 = h in omega arith)

pub settled_past : (m : ℕ) (s : List ℕ) (c : ℕ) → length s ≤ c → Settled m s c c
settled_past m s c h = record { is = refl; onward = omega arith; inside = omega arith; reach = reach_here m s c; some_byte = λ y e. h }

pub settled_behind : (s : List ℕ) (c n : ℕ) → Behind s c n → Settled 2 s c n
unfolding rest skipping pick
settled_behind s c n b = let i = b.passed.inside in record {
  is = b.passed.left;
  onward = b.passed.onward;
  inside = omega arith;
  reach = record { whole = b.passed.whole };
  some_byte = λ y e. go (ltb n (length s)) refl e;
}
  where
    go : (t : Bool) → ltb n (length s) ≡ t → kept_from (drop n s) 0 ≡ [] → length s ≤ n
    go true t e =
        let h = ltb-true n (length s) t in
        let k = kept_byte (get_or s n 0) (drop (n + 1) s) (rw (drop_next s n h) at b.stop) in
        absurd (not_empty _ _ (sym k.0 ∙ rw (drop_next s n h) at e))
    go false t e = ltb-false n (length s) t

pub settled_as : {m k : ℕ} {s : List ℕ} {c r : ℕ} → m ≡ k → Settled k s c r → Settled m s c r
settled_as e p = rw e p

pub ruleset settling = (settled_here, settled_past, settled_behind, settled_as, rules)

-- ---- carets

pub cuts_two : (m : ℕ) → cuts m ≡ true → (m ≡ 0 → ⊥) → m ≡ 2
cuts_two zero y n = absurd (n refl)
cuts_two (suc zero) y n = absurd (false≢true y)
cuts_two (suc (suc zero)) y n = refl
cuts_two (suc (suc (suc m))) y n = absurd (false≢true y)

pub meant_small : (b : ℕ) → meant b < 256
unfolding pick
meant_small b = go (eqb b 110) (eqb b 39)
  where
    go : (t u : Bool) → pick t 10 (pick u 34 94) < 256
    go true u = omega arith
    go false true = omega arith
    go false false = omega arith

pub over_plain : Over 0 4
unfolding rest pick
over_plain = record { decodes = λ s c. refl; uncut = refl; base = refl; unfolded = refl }

pub over_folded : Over 2 5
unfolding rest pick
over_folded = record { decodes = λ s c. refl; uncut = refl; base = refl; unfolded = refl }

pub over_cut : (m : ℕ) → cuts m ≡ true → Over m (over m)
over_cut zero y = over_plain
over_cut (suc zero) y = absurd (false≢true y)
over_cut (suc (suc zero)) y = over_folded
over_cut (suc (suc (suc m))) y = absurd (false≢true y)

-- by the encoding that is cut
pub cut_plain : (m : ℕ) → cut_of m ≡ Some Plain → m ≡ 0
cut_plain zero h = refl
cut_plain (suc zero) h = cc
cut_plain (suc (suc zero)) h = cc
cut_plain (suc (suc (suc m))) h = cc

pub cut_folded : (m : ℕ) → cut_of m ≡ Some Folded → m ≡ 2
cut_folded zero h = cc
cut_folded (suc zero) h = cc
cut_folded (suc (suc zero)) h = refl
cut_folded (suc (suc (suc m))) h = cc

pub cut_none : (m : ℕ) → cut_of m ≡ None → cuts m ≡ false
cut_none zero h = cc
cut_none (suc zero) h = refl
cut_none (suc (suc zero)) h = cc
cut_none (suc (suc (suc m))) h = refl

pub settled_over : (m : ℕ) (s : List ℕ) (c : ℕ) → Settled (over m) s c c
settled_over zero s c = settled_here 4 s c (λ h. let z : ◌≡◌ {A = ℕ} 4 2 = h in omega arith)
settled_over (suc m) s c = settled_here 5 s c (λ h. let z : ◌≡◌ {A = ℕ} 5 2 = h in omega arith)

pub cut_over : (m : ℕ) → None ≡ cut_of (over m)
cut_over zero = refl
cut_over (suc m) = refl

-- what a value begins with, and what its decoding begins with
other_is : (l r : List ℕ) (u : ℕ) → l ≡ u ∷ r → (u ≡ 256 → ⊥) → (u ≡ 94 → ⊥) → decoding l false ≡ spell u (decoding r false)
other_is l r u e n h = rw e (decoded_other u r (ne_eqb u 94 h) ∙ sym (spell_byte u (decoding r false) n))

none_is : (l r : List ℕ) (u : ℕ) → l ≡ [] → u ≡ 256 → decoding l false ≡ spell u r
unfolding decoding
none_is l r u e h = rw e (sym (spell_end u r h))

letter_is : (l r : List ℕ) (b u : ℕ) → l ≡ 94 ∷ b ∷ r → is_letter b ≡ true → u ≡ meant b → (u ≡ 256 → ⊥) → decoding l false ≡ spell u (decoding r false)
letter_is l r b u e h m n = rw e (decoded_letter b r h ∙ rw (← m) (sym (spell_byte u (decoding r false) n)))

itself_is : (l r : List ℕ) (b u : ℕ) → l ≡ 94 ∷ b ∷ r → is_letter b ≡ false → u ≡ 94 → (u ≡ 256 → ⊥) → decoding l false ≡ spell u (decoding (b ∷ r) false)
itself_is l r b u e h m n = rw e (decoded_caret b r h ∙ rw (← m) (sym (spell_byte u (decoding (b ∷ r) false) n)))

last_is : (l r : List ℕ) (u : ℕ) → l ≡ 94 ∷ [] → r ≡ [] → u ≡ 94 → (u ≡ 256 → ⊥) → decoding l false ≡ spell u r
last_is l r u e f m n = rw (e, f) (decoded_last ∙ rw (← m) (sym (spell_byte u [] n)))

module _ {b v : ℕ} {s : List ℕ} {c : ℕ} {r : Unit} (o : Over b v) (p : Reads b s c r) where
  -- the same step in the encoding with carets, where it reads the same byte
  step_same : decoding (rest b s c) false ≡ spell r.u (rest v s r.next) → Reads v s c r
  step_same h = record {
    is = o.decodes s c ∙ h;
    small = p.small;
    moved = p.moved;
    inside = p.inside;
    plain = λ y. absurd (false≢true (sym o.uncut ∙ y));
    reach = reach_other v s c r.next o.unfolded;
  }

  -- any other byte, or the end
  pub caret_other : (r.u ≡ 94 → ⊥) → Reads v s c r
  caret_other h = go (eqb r.u 256) refl
    where
      go : (t : Bool) → eqb r.u 256 ≡ t → Reads v s c r
      go true e = step_same (none_is _ _ r.u (rest_end p (eqb-true r.u 256 e)) (eqb-true r.u 256 e))
      go false e = step_same (other_is _ _ r.u (rest_byte p (eqb-false r.u 256 e)) (eqb-false r.u 256 e) h ∙ ap (spell r.u) (sym (o.decodes s r.next)))

  module _ (h : r.u ≡ 94) {t : Unit} (q : Reads b s r.next t) where
    caret_byte : r.u ≡ 256 → ⊥
    caret_byte e = let z : ◌≡◌ {A = ℕ} 94 256 = sym h ∙ e in omega arith

    first : (l : List ℕ) → rest b s r.next ≡ l → rest b s c ≡ 94 ∷ l
    first l e = rest_byte p caret_byte ∙ rw (h, e)

    -- a caret and a letter
    pub caret_letter : (t.u ≡ 256 → ⊥) → is_letter t.u ≡ true → (u : ℕ) → u ≡ meant t.u → Reads v s c (record { u = u; next = t.next })
    caret_letter n l u e =
        let k : u < 256 = rw e (meant_small t.u) in
        let w : u ≡ 256 → ⊥ = λ z. omega arith in
        let d : t.u / 256 ≡ 0 = let f = byte_small q n in omega arith in
        let g : r.u / 256 ≡ 0 = rw h in
        let f : u / 256 ≡ 0 = omega arith in
        let a = rw g at p.moved in
        let x = rw d at q.moved in
        let y = rw d at q.inside in
        record {
          is = o.decodes s c ∙ letter_is _ _ t.u u (first _ (rest_byte q n)) l e w ∙ ap (spell u) (sym (o.decodes s t.next));
          small = omega arith;
          moved = rw f (omega arith);
          inside = rw f (omega arith);
          plain = λ y. absurd (false≢true (sym o.uncut ∙ y));
          reach = reach_other v s c t.next o.unfolded;
        }

    -- any other caret
    pub caret_itself : (t.u ≡ 256 → ⊥) → is_letter t.u ≡ false → Reads v s c r
    caret_itself n l =
        step_same (itself_is _ _ t.u r.u (first _ (rest_byte q n)) l h caret_byte ∙ ap (λ (l : List ℕ). spell r.u (decoding l false)) (sym (rest_byte q n)) ∙ ap (spell r.u) (sym (o.decodes s r.next)))

    pub caret_last : t.u ≡ 256 → Reads v s c r
    caret_last e = step_same (last_is _ _ r.u (first _ (rest_end q e)) (o.decodes s r.next ∙ none_is _ [] 256 (rest_end q e) refl ∙ spell_end 256 [] refl) h caret_byte)

-- the encoding of a value in an edition
pub decodes_same : (m : ℕ) → Decodes Rfc5545 m m
unfolding decode
decodes_same m = record { is = λ s c. refl }

pub decodes_plain : Decodes Rfc6868 0 4
unfolding decode
decodes_plain = record { is = over_plain.decodes }

pub decodes_folded : Decodes Rfc6868 2 5
unfolding decode
decodes_folded = record { is = over_folded.decodes }

pub decodes_over : (m : ℕ) → cuts m ≡ true → Decodes Rfc6868 m (over m)
unfolding decode
decodes_over m y = record { is = (over_cut m y).decodes }

pub decodes_when : {e k : Edition} {m v : ℕ} → e ≡ k → Decodes k m v → Decodes e m v
decodes_when q p = rw q p

pub ruleset stepping = (plain_byte, plain_end, none_end, folded_byte, folded_end, folded_past, reads_as, rules)
