-- Laws of what specs/Unescaped.antt defines.
--     split_is, text_is    then it is read
--     text_value    it is what is read
--     separator_none      a single TEXT has no separator
--     text_..             the ways that a reader's loop goes on and ends;   `search reading_text`
use Rattle.std.specs.Prelude.{◌≡◌, refl, Bool, true, false, List, [], ◌∷◌, ℕ, eqb, Option, None, Some}
use Rattle.std.proofs.Math.Path.{sym}
use Rattle.std.proofs.Common.{not, ap, ◌∙◌, rules, eqb-true}
use Rattle.std.proofs.lemmas.Bool.{false≢true}
use Rattle.octets.specs.Pick.{pick, ◌and◌, ◌or◌}
use Rattle.octets.specs.laws.Pick.{and_both}
use Rattle.octets.specs.Reading.{is_read, cons_read}
use Rattle.source.specs.Source.{rest, Reads}
use Rattle.source.specs.laws.Facts.{rest_byte, rest_end}
use Rattle.source.specs.declared.points.Unit.{Unit}
use Rattle.texts.specs.Text.{Sign, char, opening, separator, fault, is_break, is_escaped, sign_of, opens, with_sign, split_from, split_text, read_text, onto_read}
use Rattle.texts.specs.laws.Text.{text_sign, text_from, text_end, text_step}
use Rattle.texts.specs.Unescaped.{is_newline, in_text, is_split, meant, unescaped}

abbrev is_good : Sign → Bool
is_good (char b) = true
is_good opening = true
is_good separator = true
is_good fault = false

sign_good : (after : Bool) (c b : ℕ) → is_good (sign_of after c b) ≡ in_text after c b
unfolding pick
sign_good after c b = go after (is_newline b) (is_escaped b) (eqb b 92) (is_break b) (eqb b c)
  where
    go : (after n e k h x : Bool) →
        is_good (pick after (pick n (char 10) (pick e (char b) fault)) (pick k opening (pick h (pick x separator fault) (char b)))) ≡ pick after (pick n true e) (pick k true (pick h x true))
    go true true e k h x = refl
    go true false true k h x = refl
    go true false false k h x = refl
    go false n e true h x = refl
    go false n e false true true = refl
    go false n e false true false = refl
    go false n e false false x = refl

pub split_is : (s : List ℕ) (after : Bool) (c : ℕ) → is_read (split_from after c s) ≡ is_split after c s
unfolding split_from is_split is_read pick ◌and◌ onto_read cons_read
split_is [] true c = refl
split_is [] false c = refl
split_is (b ∷ s) after c = go (sign_of after c b) (split_from (opens after b) c s) ∙ rw (sign_good after c b, split_is s (opens after b) c)
  where
    go : (g : Sign) (o : Option (List (List ℕ))) → is_read (with_sign g o) ≡ (is_good g and is_read o)
    go (char x) None = refl
    go (char x) (Some ps) = refl
    go opening o = refl
    go separator None = refl
    go separator (Some ps) = refl
    go fault o = refl

-- a single TEXT has no separator

abbrev pub is_separator : Sign → Bool
is_separator (char b) = false
is_separator opening = false
is_separator separator = true
is_separator fault = false

pub separator_none : (after : Bool) (b : ℕ) → is_separator (sign_of after 0 b) ≡ false
unfolding pick ◌or◌
separator_none after b = zero (eqb b 0) refl
  where
    go : (after n e k h : Bool) → is_separator (pick after (pick n (char 10) (pick e (char b) fault)) (pick k opening (pick h fault (char b)))) ≡ false
    go true true e k h = refl
    go true false true k h = refl
    go true false false k h = refl
    go false n e true h = refl
    go false n e false true = refl
    go false n e false false = refl

    zero : (t : Bool) → eqb b 0 ≡ t → is_separator (sign_of after 0 b) ≡ false
    zero true e = rw (eqb-true b 0 e) (pass after)
      where
        pass : (a : Bool) → is_separator (sign_of a 0 0) ≡ false
        pass true = refl
        pass false = refl
    zero false e = rw e (go after (is_newline b) (is_escaped b) (eqb b 92) (is_break b))

pub text_is : (s : List ℕ) (after : Bool) → is_read (text_from after s) ≡ is_split after 0 s
unfolding is_split is_read pick ◌and◌ cons_read
text_is [] true = ap is_read (text_end true)
text_is [] false = ap is_read (text_end false)
text_is (b ∷ s) after =
    ap is_read (text_step after b s) ∙ go (sign_of after 0 b) (text_from (opens after b) s) (separator_none after b) ∙ rw (sign_good after 0 b, text_is s (opens after b))
  where
    go : (g : Sign) (o : Option (List ℕ)) → is_separator g ≡ false → is_read (text_sign g o) ≡ (is_good g and is_read o)
    go (char x) None h = refl
    go (char x) (Some t) h = refl
    go opening o h = refl
    go separator o h = absurd (false≢true (sym h))
    go fault o h = refl

-- a text alone is read as its splitting is
pub text_alone : (s : List ℕ) → is_read (read_text s) ≡ is_read (split_text 0 s)
text_alone s = text_is s false ∙ sym (split_is s false 0)

-- the characters that are read
sign_value : (after : Bool) (b : ℕ) (f : Bool → List ℕ) → in_text after 0 b ≡ true →
    text_sign (sign_of after 0 b) (Some (f (opens after b))) ≡ Some (pick (opens after b) (f true) (meant after b ∷ f false))
unfolding pick cons_read
sign_value after b f h = go after (is_newline b) (is_escaped b) (eqb b 92) (is_break b) (eqb b 0) (separator_none after b) h
  where
    go : (after n e k h x : Bool) → is_separator (pick after (pick n (char 10) (pick e (char b) fault)) (pick k opening (pick h (pick x separator fault) (char b)))) ≡ false →
        pick after (pick n true e) (pick k true (pick h x true)) ≡ true →
        text_sign (pick after (pick n (char 10) (pick e (char b) fault)) (pick k opening (pick h (pick x separator fault) (char b)))) (Some (f (pick after false k)))
        ≡ Some (pick (pick after false k) (f true) (pick after (pick n 10 b) b ∷ f false))
    go true true e k h x p q = refl
    go true false true k h x p q = refl
    go true false false k h x p q = absurd (false≢true q)
    go false n e true h x p q = refl
    go false n e false true true p q = absurd (false≢true (sym p))
    go false n e false true false p q = absurd (false≢true q)
    go false n e false false x p q = refl

pub text_value : (s : List ℕ) (after : Bool) → is_split after 0 s ≡ true → text_from after s ≡ Some (unescaped after s)
unfolding is_split unescaped pick
text_value [] true h = absurd (false≢true h)
text_value [] false h = text_end false
text_value (b ∷ s) after h =
    let q = and_both (in_text after 0 b) _ h in
    text_step after b s ∙ ap (text_sign (sign_of after 0 b)) (text_value s (opens after b) q.1) ∙ sign_value after b (λ a. unescaped a s) q.0

-- ---- a reader's loop: v is what it is to answer

not_is : (a : Bool) → not a ≡ pick a false true
unfolding pick
not_is true = refl
not_is false = refl

module _ {v : Bool} {m : ℕ} {s : List ℕ} {c : ℕ} {r : Unit} (p : Reads m s c r) (after : Bool) (sep : ℕ) where
  pub text_more : {t after' : Bool} → v ≡ is_split after sep (rest m s c) → (r.u ≡ 256 → ⊥) → t ≡ in_text after sep r.u → t ≡ true → after' ≡ opens after r.u →
      v ≡ is_split after' sep (rest m s r.next)
  unfolding is_split ◌and◌
  text_more e h k l q = e ∙ rw (rest_byte p h, ← k, l, q)

  pub text_stop : {t : Bool} → v ≡ is_split after sep (rest m s c) → (r.u ≡ 256 → ⊥) → t ≡ in_text after sep r.u → t ≡ false → false ≡ v
  unfolding is_split ◌and◌
  text_stop e h k l = sym (e ∙ rw (rest_byte p h, ← k, l))

  pub text_over : v ≡ is_split after sep (rest m s c) → r.u ≡ 256 → not after ≡ v
  unfolding is_split
  text_over e h = rw (not_is after) (sym (e ∙ rw (rest_end p h)))

pub ruleset reading_text = (text_more, text_stop, text_over, split_is, rules)
