-- Laws of what specs/Text.antt defines.
--     split_front      the splitter's law: an escaped text in front of anything is that text in front of its first piece
--     split_read_back  texts written and joined by a separator are split again;   text_read_back, for one
--     split_some       what is split has at least one piece
--     text_end, text_step  read_text a byte at a time
use Rattle.std.specs.Prelude.{◌≡◌, refl, Bool, true, false, not, List, [], ◌∷◌, map, ℕ, eqb, Option, None, Some}
use Rattle.std.proofs.Common.{sym, ap, ◌∙◌, eqb-true}
use Rattle.std.proofs.lemmas.Bool.{false≢true, not-true}
use Rattle.octets.specs.Pick.{pick, ◌or◌}
use Rattle.octets.specs.Append.{◌⊕◌}
use Rattle.octets.specs.laws.Append.{append_empty, append_none, append_regroup}
use Rattle.octets.specs.Words.{onto, is_empty, each_after, joined_by}
use Rattle.octets.specs.Reading.{and_then, cons_read}
use Rattle.texts.specs.Text.{Sign, char, opening, separator, fault, is_break, sign_of, opens, onto_read, with_sign, split_from, split_text, alone, read_text, escape_text, write_text, front_read}

-- ---- what is written is read back

pub front_one : (p : List ℕ) (ps : List (List ℕ)) → front_read p (Some ([] ∷ ps)) ≡ Some (p ∷ ps)
unfolding front_read onto_read onto
front_one [] ps = refl
front_one (b ∷ p) ps = rw (front_one p ps)

pub escape_read : (c b : ℕ) (r : List ℕ) → split_from false c (escape_text b ⊕ r) ≡ onto_read b (split_from false c r)
unfolding split_from pick ◌or◌ ◌⊕◌
escape_read c b r = newline (eqb b 10) refl
  where
    plain : eqb b 10 ≡ false → eqb b 44 ≡ false → eqb b 59 ≡ false → (t : Bool) → eqb b 92 ≡ t → split_from false c (escape_text b ⊕ r) ≡ onto_read b (split_from false c r)
    plain k m n true e = rw (eqb-true b 92 e)
    plain k m n false e = rw (k, m, n, e) (rw (e, m, n))

    semicolon : eqb b 10 ≡ false → eqb b 44 ≡ false → (t : Bool) → eqb b 59 ≡ t → split_from false c (escape_text b ⊕ r) ≡ onto_read b (split_from false c r)
    semicolon k m true e = rw (eqb-true b 59 e)
    semicolon k m false e = plain k m e (eqb b 92) refl

    comma : eqb b 10 ≡ false → (t : Bool) → eqb b 44 ≡ t → split_from false c (escape_text b ⊕ r) ≡ onto_read b (split_from false c r)
    comma k true e = rw (eqb-true b 44 e)
    comma k false e = semicolon k e (eqb b 59) refl

    newline : (t : Bool) → eqb b 10 ≡ t → split_from false c (escape_text b ⊕ r) ≡ onto_read b (split_from false c r)
    newline true e = rw (eqb-true b 10 e)
    newline false e = comma e (eqb b 44) refl

-- the law of the splitter: escaped bytes in front are those bytes in front
pub split_front : (c : ℕ) (p r : List ℕ) → split_text c (write_text p ⊕ r) ≡ front_read p (split_text c r)
unfolding write_text front_read
split_front c [] r = rw append_empty
split_front c (b ∷ p) r = rw append_regroup (escape_read c b (write_text p ⊕ r) ∙ ap (onto_read b) (split_front c p r))

pub split_one : (c : ℕ) (p : List ℕ) → split_text c (write_text p) ≡ Some (p ∷ [])
unfolding split_from pick
split_one c p = ap (split_text c) (sym (append_none (write_text p))) ∙ split_front c p [] ∙ front_one p []

pub separator_read : (c : ℕ) → is_break c ≡ true → (r : List ℕ) → split_text c (c ∷ r) ≡ cons_read [] (split_text c r)
unfolding split_from pick ◌or◌
separator_read c h r = go (eqb c 44) refl (eqb c 59) refl h
  where
    go : (t : Bool) → eqb c 44 ≡ t → (u : Bool) → eqb c 59 ≡ u → (t or u) ≡ true → split_text c (c ∷ r) ≡ cons_read [] (split_text c r)
    go true e u k h = rw (eqb-true c 44 e)
    go false e true k h = rw (eqb-true c 59 k)
    go false e false k h = absurd (false≢true h)

-- texts written and joined by a separator are split where they were joined
pub split_read_back : (c : ℕ) → is_break c ≡ true → (p : List ℕ) (ps : List (List ℕ)) → split_text c (joined_by c (map write_text (p ∷ ps))) ≡ Some (p ∷ ps)
unfolding joined_by each_after cons_read
split_read_back c h p [] = rw append_none (split_one c p)
split_read_back c h p (q ∷ ps) = go (split_read_back c h q ps)
  where
    go : split_text c (joined_by c (map write_text (q ∷ ps))) ≡ Some (q ∷ ps) → split_text c (write_text p ⊕ (c ∷ joined_by c (map write_text (q ∷ ps)))) ≡ Some (p ∷ q ∷ ps)
    go ih = split_front c p (c ∷ joined_by c (map write_text (q ∷ ps))) ∙ ap (front_read p) (separator_read c h _ ∙ ap (cons_read []) ih) ∙ front_one p (q ∷ ps)

pub text_read_back : (s : List ℕ) → read_text (write_text s) ≡ Some s
unfolding and_then
text_read_back s = rw (split_one 0 s)

-- ---- what is read has at least one piece

abbrev pub filled : Option (List (List ℕ)) → Bool
filled None = true
filled (Some ps) = not (is_empty ps)

pub split_filled : (s : List ℕ) (after : Bool) (c : ℕ) → filled (split_from after c s) ≡ true
unfolding split_from pick onto_read onto cons_read
split_filled [] true c = refl
split_filled [] false c = refl
split_filled (b ∷ s) after c = go (sign_of after c b) (split_from (opens after b) c s) (split_filled s (opens after b) c)
  where
    go : (g : Sign) (o : Option (List (List ℕ))) → filled o ≡ true → filled (with_sign g o) ≡ true
    go (char x) None h = refl
    go (char x) (Some []) h = refl
    go (char x) (Some (p ∷ ps)) h = refl
    go opening o h = h
    go separator None h = refl
    go separator (Some ps) h = refl
    go fault o h = refl

pub split_some : (c : ℕ) (s : List ℕ) (ps : List (List ℕ)) → split_text c s ≡ Some ps → is_empty ps ≡ false
split_some c s ps h = not-true (is_empty ps) (rw h at (split_filled s false c))

-- ---- a single TEXT a byte at a time

-- the text that follows a sign, with what it adds
abbrev pub text_sign : Sign → Option (List ℕ) → Option (List ℕ)
text_sign (char b) t = cons_read b t
text_sign opening t = t
text_sign separator t = None
text_sign fault t = None

abbrev pub text_from : Bool → List ℕ → Option (List ℕ)
text_from after s = and_then (split_from after 0 s) alone

pub text_end : (after : Bool) → text_from after [] ≡ pick after None (Some [])
unfolding split_from and_then pick
text_end true = refl
text_end false = refl

pub text_step : (after : Bool) (b : ℕ) (s : List ℕ) → text_from after (b ∷ s) ≡ text_sign (sign_of after 0 b) (text_from (opens after b) s)
unfolding split_from and_then onto_read onto cons_read
text_step after b s = go (sign_of after 0 b) (split_from (opens after b) 0 s) (split_filled s (opens after b) 0)
  where
    go : (g : Sign) (o : Option (List (List ℕ))) → filled o ≡ true → and_then (with_sign g o) alone ≡ text_sign g (and_then o alone)
    go (char x) None h = refl
    go (char x) (Some []) h = absurd (false≢true h)
    go (char x) (Some (p ∷ [])) h = refl
    go (char x) (Some (p ∷ q ∷ ps)) h = refl
    go opening o h = refl
    go separator None h = refl
    go separator (Some []) h = absurd (false≢true h)
    go separator (Some (p ∷ ps)) h = refl
    go fault o h = refl
