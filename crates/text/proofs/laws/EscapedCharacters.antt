-- Characters of values as they are written (RFC 5545, section 3.3.11): an escape is made of ASCII, so that what is written is well formed where the text is.
--     text_good           escaped text
--     joined_good         pieces with a separator of ASCII between them
--     value_good          a value whose free characters are well formed
--     Spelled             bytes that end a character, and whole characters after them
use Rattle.std.specs.Prelude.{◌≡◌, refl, Bool, true, false, List, [], ◌∷◌, map, ℕ, zero, suc, ◌+◌, ◌≤◌, eqb, leb, None, Some}
use Rattle.std.proofs.Common.{sym, ◌∙◌, arith, leb-true, ne_eqb, eqb-true}
use Rattle.octets.specs.Pick.{pick, within, ◌and◌, ◌or◌}
use Rattle.octets.specs.laws.Pick.{pick_no, and_yes, and_both, or_no}
use Rattle.octets.specs.Append.{◌⊕◌}
use Rattle.octets.specs.Words.{each_after, joined_by}
use Rattle.octets.specs.Lists.{every}
use Rattle.octets.specs.laws.Lists.{every_both}
use Rattle.octets.specs.laws.Reading.{none-some}
use Rattle.calendar.specs.Calendar.{Value}
use Rattle.utf8.specs.Utf8.{is_ascii, more, low, high, high_after, tails, is_sequence, bad_from, first_bad, well_formed}
use Rattle.utf8.specs.laws.Utf8.{well_formed_good, good_well_formed, good_append, ascii_first, visible_good, low_least}
use Rattle.texts.specs.Text.{is_escaped, escape_text, write_text}
use Rattle.texts.specs.RequestStatus.{status_parts}
use Rattle.values.specs.WriteValue.{write_value}
use Rattle.values.specs.ReadBack.{is_value}
use Rattle.values.specs.laws.Characters.{free_or_shown}
use Rattle.validity.specs.ValidCalendar.{is_permitted}

-- ---- escaped text

-- a byte that is not of ASCII is not escaped
high_escape : (b : ℕ) → 0x80 ≤ b → escape_text b ≡ b ∷ []
high_escape b h =
    pick_no _ _ _ (ne_eqb b 10 (λ e. omega arith))
    ∙ pick_no _ _ _ (or_no _ _ (or_no _ _ (ne_eqb b 44 (λ e. omega arith)) (ne_eqb b 59 (λ e. omega arith))) (ne_eqb b 92 (λ e. omega arith)))

-- a character that is there, and what follows it
pub one_good : (a i : ℕ) (s : List ℕ) → is_sequence a s ≡ true → bad_from (more a) (i + 1) s ≡ None → bad_from 0 i (a ∷ s) ≡ None
unfolding bad_from pick
one_good a i s e h = rw e h

lf_good : (i : ℕ) (s : List ℕ) → ((j : ℕ) → bad_from (more 10) j s ≡ None) → bad_from 0 i (92 ∷ 110 ∷ s) ≡ None
unfolding pick ◌and◌ ◌or◌
lf_good i s h = ascii_first 92 i (110 ∷ s) refl ∙ ascii_first 110 (i + 1) s refl ∙ h (i + 1 + 1)

slash_good : (i : ℕ) (s : List ℕ) → bad_from 0 (i + 1) s ≡ None → bad_from 0 i (92 ∷ s) ≡ None
unfolding pick ◌and◌ ◌or◌
slash_good i s h = ascii_first 92 i s refl ∙ h

escape_good : (a i : ℕ) (s : List ℕ) → is_sequence a s ≡ true → ((j : ℕ) → bad_from (more a) j s ≡ None) → bad_from 0 i (escape_text a ⊕ s) ≡ None
unfolding ◌⊕◌ pick
escape_good a i s e h = newline (eqb a 10) refl
  where
    other : (t : Bool) → bad_from 0 i (pick t (92 ∷ a ∷ []) (a ∷ []) ⊕ s) ≡ None
    other true = slash_good i (a ∷ s) (one_good a (i + 1) s e (h (i + 1 + 1)))
    other false = one_good a i s e (h (i + 1))

    newline : (t : Bool) → eqb a 10 ≡ t → bad_from 0 i (pick t (92 ∷ 110 ∷ []) (pick (is_escaped a) (92 ∷ a ∷ []) (a ∷ [])) ⊕ s) ≡ None
    newline true f = lf_good i s (λ j. rw (eqb-true a 10 f) at (h j))
    newline false f = other (is_escaped a)

-- the first k bytes of s end a character that began before, the first of them within lo and hi; whole characters follow
pub record Spelled (k lo hi : ℕ) (l : Bool) (s : List ℕ) : Type 0 where
  pub begun : tails k lo hi l s ≡ true
  pub onward : (j : ℕ) → bad_from k j s ≡ None

escaped_from : (s : List ℕ) (k lo hi : ℕ) (l : Bool) (i : ℕ) → 0x80 ≤ lo → tails k lo hi l s ≡ true → bad_from k i s ≡ None → Spelled k lo hi l (write_text s)
unfolding write_text bad_from tails pick ◌⊕◌
escaped_from [] k lo hi l i b t h = record { begun = t; onward = λ j. refl }
escaped_from (a ∷ s) (suc k) lo hi l i b t h =
    let e = and_both (within lo hi a) _ t in
    let g = leb-true lo a (and_both _ _ e.0).0 in
    let ih = escaped_from s k 0x80 (high_after l a) false (i + 1) (omega arith) e.1 h in
    rw (high_escape a (omega arith)) (record { begun = and_yes _ _ e.0 ih.begun; onward = λ j. ih.onward (j + 1) })
escaped_from (a ∷ s) zero lo hi l i b t h = record { begun = refl; onward = go (is_sequence a s) refl h (escaped_from s (more a) (low a) (high a) (eqb a 0xEF) (i + 1) (low_least a)) }
  where
    go : (u : Bool) → is_sequence a s ≡ u → pick u (bad_from (more a) (i + 1) s) (Some i) ≡ None →
        (tails (more a) (low a) (high a) (eqb a 0xEF) s ≡ true → bad_from (more a) (i + 1) s ≡ None → Spelled (more a) (low a) (high a) (eqb a 0xEF) (write_text s)) →
        (j : ℕ) → bad_from 0 j (escape_text a ⊕ write_text s) ≡ None
    go false e k ih j = none-some (sym k)
    go true e k ih j =
        let f = and_both (leb (more a) 3) _ e in
        let d = ih f.1 k in
        escape_good a j (write_text s) (and_yes _ _ f.0 d.begun) d.onward

pub text_good : (s : List ℕ) → first_bad s ≡ None → first_bad (write_text s) ≡ None
unfolding tails
text_good s h = (escaped_from s 0 0x80 0xBF false 0 (omega arith) refl h).onward 0

-- ---- pieces

cons_good : (c : ℕ) (s : List ℕ) → is_ascii c ≡ true → first_bad s ≡ None → first_bad (c ∷ s) ≡ None
unfolding ◌⊕◌ bad_from
cons_good c s a h = good_append (c ∷ []) s (ascii_first c 0 [] a) h

after_good : (c : ℕ) (ps : List (List ℕ)) → is_ascii c ≡ true → every well_formed ps ≡ true → first_bad (each_after c ps) ≡ None
unfolding each_after bad_from
after_good c [] a h = refl
after_good c (p ∷ ps) a h = let e = every_both well_formed p ps h in cons_good c _ a (good_append p (each_after c ps) (well_formed_good p e.0) (after_good c ps a e.1))

pub joined_good : (c : ℕ) (ps : List (List ℕ)) → is_ascii c ≡ true → every well_formed ps ≡ true → first_bad (joined_by c ps) ≡ None
unfolding joined_by bad_from
joined_good c [] a h = refl
joined_good c (p ∷ ps) a h = let e = every_both well_formed p ps h in good_append p (each_after c ps) (well_formed_good p e.0) (after_good c ps a e.1)

texts_good : (ps : List (List ℕ)) → every well_formed ps ≡ true → every well_formed (map write_text ps) ≡ true
unfolding every
texts_good [] h = refl
texts_good (p ∷ ps) h = let e = every_both well_formed p ps h in and_yes _ _ (good_well_formed _ (text_good p (well_formed_good p e.0))) (texts_good ps e.1)

-- ---- a value

pub value_good : (v : Value) → is_value v ≡ true → is_permitted v ≡ true → first_bad (write_value v) ≡ None
unfolding write_value pick ◌and◌ ◌or◌
value_good v h g =
    free_or_shown (λ v. is_permitted v ≡ true → first_bad (write_value v) ≡ None)
    (λ v e k g. visible_good (write_value v) k)
    (λ s g. text_good s (well_formed_good s (every_both well_formed s [] g).0))
    (λ s k g. well_formed_good s (every_both well_formed s [] g).0)
    (λ c d x g. joined_good 59 (map write_text (status_parts c d x)) refl (texts_good (status_parts c d x) g))
    v h g
