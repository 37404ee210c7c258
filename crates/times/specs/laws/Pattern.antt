-- Laws of what specs/Pattern.antt defines.
--     along-spell      one character of the pattern
--     along_marks      a pattern with marks passes what the pattern without them passes when the marks are taken out
--     along_digits     digits at the front
use Rattle.std.specs.Prelude.{◌≡◌, refl, Bool, true, false, List, [], ◌∷◌, ℕ, zero, suc, ◌+◌, ◌*◌, ◌≤◌, ◌<◌, eqb, leb, length, take, drop, Option, None, Some}
use Rattle.std.proofs.Common.{◌∙◌, arith, eqb-true, ne_eqb, leb-true, leb-false, le-leb}
use Rattle.std.proofs.lemmas.Bool.{lt-leb}
use Rattle.octets.specs.Pick.{pick, ◌and◌, ◌or◌}
use Rattle.octets.specs.laws.Pick.{and_no_right, and_both}
use Rattle.octets.specs.Scan.{all_of}
use Rattle.octets.specs.Class.{is_digit}
use Rattle.octets.specs.Decimal.{value, digit_of}
use Rattle.octets.specs.Reading.{and_then, cons_read}
use Rattle.source.specs.Source.{spell}
use Rattle.times.specs.Spelling.{Mark, put_mark, take_mark, with_marks, without_marks, fits}
use Rattle.times.specs.laws.Spelling.{put_length}
use Rattle.times.specs.Pattern.{lost, passes, tally, along, followed_by, is_mark, are_marks, zeros, digits_at}

-- what two digits and four are worth
abbrev pub worth2 : ℕ → ℕ → ℕ
worth2 a b = (0 * 10 + a) * 10 + b

abbrev pub worth4 : ℕ → ℕ → ℕ → ℕ → ℕ
worth4 a b c d = (worth2 a b * 10 + c) * 10 + d

-- ---- one character

digit_end : is_digit 256 ≡ false
unfolding ◌and◌
digit_end = refl

pub passes_end : (c : ℕ) → c < 256 → passes c 256 ≡ false
unfolding passes pick ◌or◌ ◌and◌
passes_end c h = go (eqb c 48) (eqb c 43)
  where
    go : (t u : Bool) → pick t (is_digit 256) (pick u (eqb 256 43 or eqb 256 45) (eqb 256 c)) ≡ false
    go true u = refl
    go false true = refl
    go false false = ne_eqb 256 c (omega arith)

pub along-spell : (c : ℕ) (p : List ℕ) (n u : ℕ) (r : List ℕ) → c < 256 → along (c ∷ p) n (spell u r) ≡ pick (passes c u) (along p (tally c n u) r) lost
unfolding along spell pick
along-spell c p n u r h = go (eqb u 256) refl
  where
    go : (t : Bool) → eqb u 256 ≡ t → along (c ∷ p) n (pick t [] (u ∷ r)) ≡ pick (passes c u) (along p (tally c n u) r) lost
    go true e = rw (eqb-true u 256 e, passes_end c h)
    go false e = refl

-- ---- marks

pick_same : {A : Type 0} (t : Bool) (a : A) → pick t a a ≡ a
unfolding pick
pick_same true a = refl
pick_same false a = refl

mark_passes : (c b n : ℕ) (p s : List ℕ) → is_mark c ≡ true → pick (passes c b) (along p (tally c n b) s) lost ≡ pick (eqb b c) (along p n s) lost
unfolding is_mark passes tally pick
mark_passes c b n p s h = go (eqb c 48) (eqb c 43) h
  where
    go : (t u : Bool) → pick t false (pick u false true) ≡ true →
        pick (pick t (is_digit b) (pick u (eqb b 43 or eqb b 45) (eqb b c))) (along p (pick t (n * 10 + digit_of b) n) s) lost ≡ pick (eqb b c) (along p n s) lost
    go true u k = let z : ◌≡◌ {A = ℕ} 0 1 = cc in absurd (omega arith)
    go false true k = let z : ◌≡◌ {A = ℕ} 0 1 = cc in absurd (omega arith)
    go false false k = refl

along_mark : (k c : ℕ) (q : List ℕ) (n : ℕ) (s : List ℕ) → is_mark c ≡ true → k ≤ length q → along (put_mark k c q) n s ≡ followed_by (take_mark k c s) (along q n)
unfolding along put_mark take_mark followed_by cons_read pick
along_mark zero c q n [] m h = refl
along_mark zero c q n (b ∷ s) m h = mark_passes c b n q s m ∙ go (eqb b c)
  where
    go : (t : Bool) → pick t (along q n s) lost ≡ followed_by (pick t (Some s) None) (along q n)
    go true = refl
    go false = refl
along_mark (suc k) c [] n s m h = absurd (omega arith)
along_mark (suc k) c (x ∷ q) n [] m h = refl
along_mark (suc k) c (x ∷ q) n (b ∷ s) m h = rw (along_mark k c q (tally x n b) s m (omega arith)) (go (take_mark k c s))
  where
    go : (o : Option (List ℕ)) → pick (passes x b) (followed_by o (along q (tally x n b))) lost ≡ followed_by (cons_read b o) (along (x ∷ q) n)
    go None = pick_same (passes x b) lost
    go (Some l) = refl

pub along_marks : (ms : List Mark) (q : List ℕ) (n : ℕ) (s : List ℕ) → are_marks ms ≡ true → fits ms (length q) ≡ true →
    along (with_marks ms q) n s ≡ followed_by (without_marks ms s) (along q n)
unfolding with_marks without_marks are_marks fits followed_by and_then
along_marks [] q n s m h = refl
along_marks (k ∷ ms) q n s m h =
    along_marks ms (put_mark k.place k.sign q) n s (and_both _ _ m).1 (rw put_length (and_both _ _ h).1)
    ∙ go (without_marks ms s)
  where
    go : (o : Option (List ℕ)) → followed_by o (along (put_mark k.place k.sign q) n) ≡ followed_by (and_then o (take_mark k.place k.sign)) (along q n)
    go None = refl
    go (Some l) = along_mark k.place k.sign q n l (and_both _ _ m).0 (leb-true _ _ (and_both _ _ h).0)

-- ---- digits at the front

leb-suc : (k l : ℕ) → leb (suc k) (suc l) ≡ leb k l
leb-suc k l = go (leb k l) refl
  where
    go : (t : Bool) → leb k l ≡ t → leb (suc k) (suc l) ≡ t
    go true e = le-leb (suc k) (suc l) (omega (arith, leb-true k l e))
    go false e = lt-leb (suc k) (suc l) (omega (arith, leb-false k l e))

pub along_digits : (k : ℕ) (p : List ℕ) (n : ℕ) (v : List ℕ) → along (zeros k p) n v ≡ pick (digits_at k v) (along p (value n (take k v)) (drop k v)) lost
unfolding along zeros digits_at value all_of pick passes tally ◌and◌
along_digits zero p n v = rw (le-leb 0 (length v) (omega arith))
along_digits (suc k) p n [] = rw (lt-leb (suc k) 0 (omega arith))
along_digits (suc k) p n (b ∷ v) = rw leb-suc (go (is_digit b) (along_digits k p (n * 10 + digit_of b) v))
  where
    go : (t : Bool) → along (zeros k p) (n * 10 + digit_of b) v ≡ pick (leb k (length v) and all_of is_digit (take k v)) (along p (value (n * 10 + digit_of b) (take k v)) (drop k v)) lost →
        pick t (along (zeros k p) (n * 10 + digit_of b) v) lost
        ≡ pick (leb k (length v) and pick t (all_of is_digit (take k v)) false) (along p (value (n * 10 + digit_of b) (take k v)) (drop k v)) lost
    go true ih = ih
    go false ih = rw (and_no_right (leb k (length v)) false refl)
