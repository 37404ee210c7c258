-- Laws of what specs/TokenAt.antt defines.
--     token_is           the same as an equation of `token`
--     token_there, token_inside, token_named, token_onward, token_less    where a token stands, and where it ends;   token_byte, token_small: how large its unit is
use Rattle.std.specs.Prelude.{◌≡◌, Bool, true, false, List, ◌∷◌, ℕ, ◌-◌, ◌≤◌, ◌<◌, ltb, length, drop}
use Rattle.std.proofs.Math.Path.{refl, sym}
use Rattle.std.proofs.Common.{ap, subst, ◌∙◌, arith, ltb-true, ltb-false}
use Rattle.xml.specs.Pieces.{from}
use Rattle.xml.specs.Token.{Token, no_token, token}
use Rattle.read_xml_tokens.specs.laws.PieceLaws.{from_past}
use Rattle.read_xml_tokens.specs.TokenAt.{token_by, token_of, UnitOf, token_in, Reads, Faulty}
use Rattle.read_xml_tokens.specs.declared.TokenAt.{TokenAt}
use Rattle.read_xml_tokens.specs.declared.TokenKind.{TokenKind}
use Rattle.read_xml_tokens.specs.declared.TokenKind.TheVariants.{Start, Empty, End, Char, Reference, Fault}

-- the same answer, of another reader
pub reads_as : {f g : List ℕ → Token} {s : List ℕ} {at i j : ℕ} {t : TokenAt} → g (from j s) ≡ f (from i s) → Reads f s at i t → Reads g s at j t
reads_as e x = record { is = e ∙ x.is; onward = x.onward; inside = x.inside; named = x.named; ended = x.ended; united = x.united }

-- ---- a fault

pub reads_fault : {f : List ℕ → Token} {s : List ℕ} {at i : ℕ} {t : TokenAt} → f (from i s) ≡ no_token → Faulty s at t → Reads f s at i t
reads_fault {f} {s} {at} {i} {t} e x = record {
  is = rw x.none e;
  onward = x.onward;
  inside = x.inside;
  named = x.named;
  ended = x.ended;
  united = rw x.none x.place;
}

-- ---- where a token stands

module _ {s : List ℕ} {at : ℕ} {t : TokenAt} (x : Reads token_in s at at t) where
  pub token_is : (b : ℕ) (r : List ℕ) → drop at s ≡ b ∷ r → token b r ≡ token_of s at t
  unfolding token_in from
  token_is b r e = sym (ap token_in e) ∙ x.is

  past : length s ≤ at → t.kind ≡ Fault
  unfolding token_in
  past h = go t.kind (sym (ap token_in (from_past s at h)) ∙ x.is)
    where
      go : (k : TokenKind) → no_token ≡ token_by k s at t → k ≡ Fault
      go Start e = cc
      go Empty e = cc
      go End e = cc
      go Char e = cc
      go Reference e = cc
      go Fault e = refl

  pub token_there : (t.kind ≡ Fault → ⊥) → at < length s
  token_there h = go (ltb at (length s)) refl
    where
      go : (b : Bool) → ltb at (length s) ≡ b → at < length s
      go true e = ltb-true at (length s) e
      go false e = absurd (h (past (ltb-false at (length s) e)))

  pub token_onward : (t.kind ≡ Fault → ⊥) → at < t.next
  token_onward h = omega (arith, token_there h, x.onward)

  pub token_inside : (t.kind ≡ Fault → ⊥) → t.next ≤ length s
  token_inside h = omega (arith, token_there h, x.inside)

  pub token_named : (t.kind ≡ Fault → ⊥) → t.name_end ≤ length s
  token_named h = omega (arith, token_inside h, x.ended)

  -- what is left falls
  pub token_less : (t.kind ≡ Fault → ⊥) → length s - t.next < length s - at
  token_less h = omega (arith, token_there h, token_onward h)

  pub token_byte : t.kind ≡ Char → t.unit < 256
  token_byte e = subst (λ (k : TokenKind). UnitOf k at t.unit) e x.united

  pub token_small : t.kind ≡ Reference → t.unit < 0x110000
  token_small e = subst (λ (k : TokenKind). UnitOf k at t.unit) e x.united
