-- Laws of what specs/TextGrammar.antt defines.
--     text_grammar     a text is read exactly where it is one of the grammar, as what it means there
--     texts_grammar    and so are texts between bare separators
use Rattle.std.specs.Prelude.{◌≡◌, ◌↔◌, Bool, ℕ, Option, None, Some}
use Rattle.std.proofs.Math.Path.{refl, ap}
use Rattle.std.proofs.Common.{sym, ◌∙◌, eqb-true}
use Rattle.std.proofs.Math.Bool.{true, false}
use Rattle.std.proofs.lemmas.Bool.{false≢true}
use mathlib.Core.List.{List, [], ◌∷◌, map}
use Rattle.std.proofs.Math.Dec.{eqb}
use Rattle.octets.specs.Pick.{pick, ◌and◌, ◌or◌}
use Rattle.octets.specs.laws.Pick.{and_yes, or_neither, pick_second}
use Rattle.octets.specs.Append.{◌⊕◌}
use Rattle.octets.specs.laws.Append.{append_empty, append_none, append_regroup}
use Rattle.octets.specs.Lists.{every}
use Rattle.octets.specs.laws.Lists.{every_both}
use Rattle.octets.specs.Words.{onto, is_empty, each_after, joined_by}
use Rattle.octets.specs.Reading.{and_then, cons_read}
use Rattle.octets.specs.laws.Reading.{none-some, and_then-some, cons_read-some}
use Rattle.texts.specs.Text.{char, opening, separator, fault, is_break, escaped_sign, bare_sign, onto_read, with_sign, split_from, split_text, alone, read_text, front_read}
use Rattle.texts.specs.laws.Text.{front_one, separator_read}
use Rattle.texts.specs.TextGrammar.{TextChar, safe, escape, is_text_char, spelled, stands_for, spelling, meaning, is_text, TextOf, TextsOf}

-- ---- what is spelled is read

-- the signs of a byte, by the grammar: after a backslash, and else
escaped_sign_lem : (b : ℕ) → escaped_sign b ≡ pick (is_text_char (escape b)) (char (stands_for (escape b))) fault
unfolding pick ◌or◌
escaped_sign_lem b = go (eqb b 92) (eqb b 59) (eqb b 44) (eqb b 78) (eqb b 110)
  where
    go : (k s m n o : Bool) → pick (o or n) (char 10) (pick ((m or s) or k) (char b) fault) ≡ pick (k or s or m or n or o) (char (pick (n or o) 10 b)) fault
    go true s m true true = refl
    go true s m true false = refl
    go true s m false true = refl
    go true s true false false = refl
    go true true false false false = refl
    go true false false false false = refl
    go false true m true true = refl
    go false true m true false = refl
    go false true m false true = refl
    go false true true false false = refl
    go false true false false false = refl
    go false false true true true = refl
    go false false true true false = refl
    go false false true false true = refl
    go false false true false false = refl
    go false false false true true = refl
    go false false false true false = refl
    go false false false false true = refl
    go false false false false false = refl

bare_sign_lem : (c b : ℕ) → bare_sign c b ≡ pick (is_text_char (safe b)) (char b) (pick (eqb b 92) opening (pick (eqb b c) separator fault))
unfolding pick ◌or◌
bare_sign_lem c b = go (eqb b 92) (eqb b 59) (eqb b 44)
  where
    go : (k s m : Bool) →
        pick k opening (pick (m or s) (pick (eqb b c) separator fault) (char b))
        ≡ pick (pick (s or k or m) false true) (char b) (pick k opening (pick (eqb b c) separator fault))
    go true true m = refl
    go true false m = refl
    go false true true = refl
    go false true false = refl
    go false false true = refl
    go false false false = refl

safe_inside : (b : ℕ) → is_text_char (safe b) ≡ true → eqb b 92 ≡ false
safe_inside b h = (or_neither (eqb b 92) (eqb b 44) (or_neither (eqb b 59) (eqb b 92 or eqb b 44) (pick_second (eqb b 59 or eqb b 92 or eqb b 44) true h).0).1).0

-- one of the alternatives, in front of anything
char_read : (c : ℕ) (u : TextChar) (r : List ℕ) → is_text_char u ≡ true → split_text c (spelled u ⊕ r) ≡ onto_read (stands_for u) (split_text c r)
unfolding split_from pick ◌⊕◌
char_read c (safe b) r h = rw (bare_sign_lem c b, h, safe_inside b h)
char_read c (escape b) r h = rw (escaped_sign_lem b, h)

text_front : (c : ℕ) (us : List TextChar) (r : List ℕ) → is_text us ≡ true → split_text c (spelling us ⊕ r) ≡ front_read (meaning us) (split_text c r)
unfolding spelling front_read
text_front c [] r h = rw append_empty
text_front c (u ∷ us) r h =
    let q = every_both is_text_char u us h in
    rw append_regroup (char_read c u (spelling us ⊕ r) q.0 ∙ ap (onto_read (stands_for u)) (text_front c us r q.1))

text_spelled : (c : ℕ) (us : List TextChar) → is_text us ≡ true → split_text c (spelling us) ≡ Some (meaning us ∷ [])
unfolding split_from pick
text_spelled c us h = ap (split_text c) (sym (append_none (spelling us))) ∙ text_front c us [] h ∙ front_one (meaning us) []

texts_made : (c : ℕ) → is_break c ≡ true → (us : List TextChar) (uss : List (List TextChar)) → every is_text (us ∷ uss) ≡ true →
    split_text c (joined_by c (map spelling (us ∷ uss))) ≡ Some (map meaning (us ∷ uss))
unfolding joined_by each_after cons_read
texts_made c h us [] k = rw append_none (text_spelled c us (every_both is_text us [] k).0)
texts_made c h us (vs ∷ uss) k =
    let q = every_both is_text us (vs ∷ uss) k in
    text_front c us (c ∷ joined_by c (map spelling (vs ∷ uss))) q.0
    ∙ ap (front_read (meaning us)) (separator_read c h _ ∙ ap (cons_read []) (texts_made c h vs uss q.1))
    ∙ front_one (meaning us) (map meaning (vs ∷ uss))

-- ---- what is read is spelled

every_more : {A : Type 0} (p : A → Bool) (a : A) (l : List A) → p a ≡ true → every p l ≡ true → every p (a ∷ l) ≡ true
unfolding every
every_more p a l h k = and_yes (p a) (every p l) h k

module _ {c : ℕ} {s : List ℕ} {ps : List (List ℕ)} (t : TextsOf c s ps) where
  -- one more character of the first text
  one_more : (u : TextChar) → is_text_char u ≡ true → TextsOf c (spelled u ⊕ s) (onto (stands_for u) ps)
  unfolding spelling joined_by onto
  one_more u h =
      let q = every_both is_text t.first t.others t.good in
      record {
        first = u ∷ t.first;
        others = t.others;
        good = every_more is_text (u ∷ t.first) t.others (every_more is_text_char u t.first h q.0) q.1;
        is = rw (t.is, append_regroup) refl;
        means = ap (onto (stands_for u)) t.means;
      }

  -- one more text, of no characters
  one_begun : TextsOf c (c ∷ s) ([] ∷ ps)
  unfolding spelling joined_by each_after ◌⊕◌ every
  one_begun = record {
    first = [];
    others = t.first ∷ t.others;
    good = every_more is_text [] (t.first ∷ t.others) refl t.good;
    is = ap (λ (l : List ℕ). c ∷ l) t.is;
    means = ap (λ (l : List (List ℕ)). [] ∷ l) t.means;
  }

onto-some : (b : ℕ) (o : Option (List (List ℕ))) (ps : List (List ℕ)) → onto_read b o ≡ Some ps → (qs : List (List ℕ)) × (o ≡ Some qs) × (onto b qs ≡ ps)
unfolding onto_read
onto-some b None ps h = none-some h
onto-some b (Some qs) ps h = (qs, refl, cc)

module _ (c b : ℕ) (s : List ℕ) (ps : List (List ℕ)) (ih : (qs : List (List ℕ)) → split_text c s ≡ Some qs → TextsOf c s qs) where
  one_found : (u : TextChar) → is_text_char u ≡ true → onto_read (stands_for u) (split_text c s) ≡ Some ps → TextsOf c (spelled u ⊕ s) ps
  one_found u g k = let q = onto-some (stands_for u) (split_text c s) ps k in rw (← q.2) (one_more (ih q.0 q.1) u g)

  -- a byte after a backslash
  escape_found : with_sign (escaped_sign b) (split_text c s) ≡ Some ps → TextsOf c (92 ∷ b ∷ s) ps
  unfolding pick ◌⊕◌
  escape_found h = go (is_text_char (escape b)) refl (rw (escaped_sign_lem b) at h)
    where
      go : (t : Bool) → is_text_char (escape b) ≡ t → with_sign (pick t (char (stands_for (escape b))) fault) (split_text c s) ≡ Some ps → TextsOf c (92 ∷ b ∷ s) ps
      go true e k = one_found (escape b) e k
      go false e k = none-some k

  -- a byte with no backslash before it
  bare_found : (split_from true c s ≡ Some ps → TextsOf c (92 ∷ s) ps) → with_sign (bare_sign c b) (split_from (eqb b 92) c s) ≡ Some ps → TextsOf c (b ∷ s) ps
  unfolding pick ◌⊕◌
  bare_found after h = go (is_text_char (safe b)) refl (eqb b 92) refl (eqb b c) refl (rw (bare_sign_lem c b) at h)
    where
      go : (t : Bool) → is_text_char (safe b) ≡ t → (u : Bool) → eqb b 92 ≡ u → (v : Bool) → eqb b c ≡ v →
          with_sign (pick t (char b) (pick u opening (pick v separator fault))) (split_from u c s) ≡ Some ps → TextsOf c (b ∷ s) ps
      go true e true f v g k = absurd (false≢true (sym (safe_inside b e) ∙ f))
      go true e false f v g k = one_found (safe b) e k
      go false e true f v g k = rw (eqb-true b 92 f) (after k)
      go false e false f true g k =
          let q = cons_read-some [] (split_text c s) ps k in
          rw (eqb-true b c g, ← q.2) (one_begun (ih q.0 q.1))
      go false e false f false g k = none-some k

nothing_found : (c : ℕ) (ps : List (List ℕ)) → Some ([] ∷ []) ≡ Some ps → TextsOf c [] ps
unfolding spelling joined_by each_after every ◌and◌ ◌⊕◌
nothing_found c ps h = record { first = []; others = []; good = refl; is = refl; means = cc }

texts_found : (s : List ℕ) (after : Bool) (c : ℕ) (ps : List (List ℕ)) → split_from after c s ≡ Some ps → TextsOf c (pick after (92 ∷ s) s) ps
unfolding split_from pick
texts_found [] true c ps h = none-some h
texts_found [] false c ps h = nothing_found c ps h
texts_found (b ∷ s) true c ps h = escape_found c b s ps (λ qs. texts_found s false c qs) h
texts_found (b ∷ s) false c ps h = bare_found c b s ps (λ qs. texts_found s false c qs) (texts_found s true c ps) h

pub texts_grammar : (c : ℕ) → is_break c ≡ true → (s : List ℕ) (ps : List (List ℕ)) → (split_text c s ≡ Some ps) ↔ TextsOf c s ps
unfolding pick
texts_grammar c h s ps = (texts_found s false c ps, λ t. rw (t.is, t.means) (texts_made c h t.first t.others t.good))

-- ---- one text alone

only_one : (ps : List (List ℕ)) (p : List ℕ) → alone ps ≡ Some p → ps ≡ p ∷ []
only_one [] p h = none-some h
only_one (q ∷ []) p h = cc
only_one (q ∷ r ∷ ps) p h = none-some h

abbrev is_one : List (List ℕ) → Bool
is_one [] = false
is_one (p ∷ ps) = is_empty ps

text_only : (s p : List ℕ) → TextsOf 0 s (p ∷ []) → TextOf s p
unfolding joined_by each_after
text_only s p t = go t.others t.is t.means
  where
    go : (o : List (List TextChar)) → s ≡ joined_by 0 (map spelling (t.first ∷ o)) → p ∷ [] ≡ map meaning (t.first ∷ o) → TextOf s p
    go [] e m = record { chars = t.first; good = (every_both is_text t.first t.others t.good).0; is = e ∙ append_none (spelling t.first); means = cc }
    go (u ∷ o) e m = absurd (false≢true (ap is_one (sym m)))

pub text_grammar : (s p : List ℕ) → (read_text s ≡ Some p) ↔ TextOf s p
unfolding and_then pick
text_grammar s p = (found, λ t. rw (t.is, t.means, text_spelled 0 t.chars t.good))
  where
    found : read_text s ≡ Some p → TextOf s p
    found h =
        let q = and_then-some (split_text 0 s) alone p h in
        text_only s p (texts_found s false 0 (p ∷ []) (q.1 ∙ ap Some (only_one q.0 p q.2)))
