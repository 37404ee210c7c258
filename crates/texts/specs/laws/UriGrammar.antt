-- Laws of what specs/UriGrammar.antt defines.
--     uri_grammar     Uri's characters are those of the grammar, exactly
use Rattle.std.specs.Prelude.{◌≡◌, refl, ◌↔◌, Bool, true, false, List, [], ◌∷◌, ℕ, eqb}
use Rattle.std.proofs.Common.{sym, ap, ◌∙◌, eqb-true}
use Rattle.std.proofs.lemmas.Bool.{false≢true}
use Rattle.octets.specs.Pick.{pick, ◌and◌, ◌or◌}
use Rattle.octets.specs.laws.Pick.{and_both, and_yes, eqb_apart}
use Rattle.octets.specs.Append.{◌⊕◌}
use Rattle.octets.specs.Class.{is_alpha}
use Rattle.octets.specs.Scan.{all_of}
use Rattle.octets.specs.laws.Scan.{all_split, all_cons}
use Rattle.texts.specs.Uri.{is_scheme_char, is_uri_char, uri_from, is_uri}
use Rattle.texts.specs.UriGrammar.{is_scheme, UriOf}

-- past the colon
past_colon : (s : List ℕ) → uri_from true s ≡ all_of is_uri_char s
unfolding uri_from all_of pick ◌and◌ ◌or◌
past_colon [] = refl
past_colon (b ∷ s) = go (is_uri_char b) (past_colon s)
  where
    go : (t : Bool) → uri_from true s ≡ all_of is_uri_char s → (t and uri_from true s) ≡ pick t (all_of is_uri_char s) false
    go true e = e
    go false e = refl

-- behind the first letter: the rest of the scheme, a colon, characters of a URI
scheme_read : (p r : List ℕ) → all_of is_scheme_char p ≡ true → all_of is_uri_char r ≡ true → uri_from false (p ⊕ (58 ∷ r)) ≡ true
unfolding uri_from pick ◌and◌ ◌or◌ ◌⊕◌
scheme_read [] r h k = past_colon r ∙ k
scheme_read (b ∷ p) r h k =
    let q = all_split is_scheme_char b p h in
    rw (eqb_apart is_scheme_char b 58 q.0 refl, q.0) (scheme_read p r q.1 k)

-- the same the other way
record Behind (s : List ℕ) : Type 0 where
  pub scheme : List ℕ
  pub behind : List ℕ
  pub is : s ≡ scheme ⊕ (58 ∷ behind)
  pub begins : all_of is_scheme_char scheme ≡ true
  pub goes_on : all_of is_uri_char behind ≡ true

scheme_found : (s : List ℕ) → uri_from false s ≡ true → Behind s
unfolding uri_from pick ◌and◌ ◌or◌ ◌⊕◌ all_of
scheme_found [] h = absurd (false≢true h)
scheme_found (b ∷ s) h = go (eqb b 58) refl (is_scheme_char b) refl h (scheme_found s)
  where
    go : (t : Bool) → eqb b 58 ≡ t → (u : Bool) → is_scheme_char b ≡ u → ((t or u) and uri_from t s) ≡ true → (uri_from false s ≡ true → Behind s) → Behind (b ∷ s)
    go true e u f k ih = record { scheme = []; behind = s; is = ap (λ (x : ℕ). x ∷ s) (eqb-true b 58 e); begins = refl; goes_on = sym (past_colon s) ∙ k }
    go false e true f k ih =
        let i = ih k in
        record { scheme = b ∷ i.scheme; behind = i.behind; is = ap (λ (l : List ℕ). b ∷ l) i.is; begins = all_cons is_scheme_char b i.scheme f i.begins; goes_on = i.goes_on }
    go false e false f k ih = absurd (false≢true k)

uri_found : (s : List ℕ) → is_uri s ≡ true → UriOf s
unfolding is_uri ◌⊕◌
uri_found [] h = absurd (false≢true h)
uri_found (b ∷ s) h =
    let q = and_both (is_alpha b) (uri_from false s) h in
    let i = scheme_found s q.1 in
    record {
      scheme = b ∷ i.scheme;
      behind = i.behind;
      is = ap (λ (l : List ℕ). b ∷ l) i.is;
      begins = and_yes (is_alpha b) (all_of is_scheme_char i.scheme) q.0 i.begins;
      goes_on = i.goes_on;
    }

uri_made : (p r : List ℕ) → is_scheme p ≡ true → all_of is_uri_char r ≡ true → is_uri (p ⊕ (58 ∷ r)) ≡ true
unfolding is_uri ◌⊕◌
uri_made [] r h k = absurd (false≢true h)
uri_made (b ∷ p) r h k = let q = and_both (is_alpha b) (all_of is_scheme_char p) h in and_yes (is_alpha b) _ q.0 (scheme_read p r q.1 k)

pub uri_grammar : (s : List ℕ) → (is_uri s ≡ true) ↔ UriOf s
uri_grammar s = (uri_found s, λ u. rw u.is (uri_made u.scheme u.behind u.begins u.goes_on))
