-- The check accepts exactly the texts of the grammar (RFC 8259) that are not too deep and whose strings name only what they may.
--     json_grammar     the law
--     completes        what the check accepts from a state on completes a text there
use Rattle.std.specs.Prelude.{◌≡◌, ◌↔◌, Bool, ℕ, ◌+◌, length, None, Some}
use Rattle.std.proofs.Math.Path.{refl}
use Rattle.std.proofs.Common.{ap, ◌∙◌, arith, ltb-true}
use Rattle.std.proofs.Math.Bool.{true, false}
use mathlib.Core.List.{List, [], ◌∷◌}
use Rattle.std.proofs.Math.Dec.{ltb}
use Rattle.octets.specs.Pick.{pick, ◌and◌}
use Rattle.octets.specs.Append.{◌⊕◌}
use Rattle.octets.specs.laws.Append.{append_none}
use Rattle.json_text.specs.Check as check
use Rattle.json_text.specs.Check.{Container, around, outer, move, followed, check, end, verdict}
use Rattle.json_text.specs.declared.Expect.{Expect}
use Rattle.json_text.specs.declared.Expect.TheVariants.{Value, ValueOrEnd, Name, NameOrEnd, Colon, After}
use Rattle.json_text.specs.declared.Number.{Number as NumberState}
use Rattle.json_text.specs.declared.Number.TheVariants.{Minus, Zero, Int, Point, Frac, E, Sign, Exp}
use Rattle.json_text.specs.declared.Inside.{Inside}
use Rattle.json_text.specs.declared.Inside.TheVariants.{Chars, Escape, Hex, High, HighEscape, Low}
use Rattle.json_text.specs.declared.State.{State}
use Rattle.json_text.specs.declared.State.TheVariants.{Expects, InLiteral, InNumber, InString}
use Rattle.json_text.specs.declared.Move.{Move}
use Rattle.json_text.specs.declared.Move.TheVariants.{To, OpenArray, OpenObject, Close, Bad}
use Rattle.json_grammar.specs.Grammar.{spelled_bytes, optional, Char, spelled_value, Text, spelled_text, may_name, JsonText}
use Rattle.json_grammar.proofs.laws.Steps.{fault_not_fine}
use Rattle.json_grammar.proofs.laws.Accepted.{text_accepted}
use Rattle.json_grammar.proofs.laws.Rest.{Rest, Between, Numbered, Valued, Completes, Back}
use Rattle.json_grammar.proofs.laws.Back.{Naming, step_back}

-- what escapes may name
pub naming_well : Naming may_name
unfolding may_name pick ◌and◌
naming_well = record {
  nothing = refl;
  plain = λ b us h. h;
  two = λ b us n h. rw n h;
  high = λ a b c d us e h. rw e h;
  other = λ a b c d us e f h. rw (e, f) h;
  low = λ a b c d us e h. rw e h;
}

module _ (limit : ℕ) (N : List Char → Bool → Bool) where
  -- the end of the text
  closed_back : (cs : List Container) (l : ℕ) → check.closed (around cs) l ≡ None → Rest limit N cs []
  unfolding spelled_bytes ◌⊕◌
  closed_back [] l h = record { it = []; rest = []; is = refl; on = refl }
  closed_back (check.array ∷ cs) l h = absurd (fault_not_fine l h)
  closed_back (check.object ∷ cs) l h = absurd (fault_not_fine l h)

  expect_end : (e : Expect) (cs : List Container) (l : ℕ) → check.expect_end e (around cs) l ≡ None → Between limit N e cs []
  expect_end Value cs l h = absurd (fault_not_fine l h)
  expect_end ValueOrEnd cs l h = absurd (fault_not_fine l h)
  expect_end Name cs l h = absurd (fault_not_fine l h)
  expect_end NameOrEnd cs l h = absurd (fault_not_fine l h)
  expect_end Colon cs l h = absurd (fault_not_fine l h)
  expect_end After cs l h = closed_back cs l h

  number_end : (n : NumberState) (cs : List Container) (l : ℕ) → check.number_end n (around cs) l ≡ None → Numbered limit N n (λ t. Rest limit N cs t) []
  unfolding spelled_bytes optional ◌⊕◌
  number_end Minus cs l h = absurd (fault_not_fine l h)
  number_end Zero cs l h = record { it = None; rest = []; is = refl; on = record { it = None; rest = []; is = refl; on = closed_back cs l h } }
  number_end Int cs l h = record { it = []; rest = []; is = refl; on = record { it = None; rest = []; is = refl; on = record { it = None; rest = []; is = refl; on = closed_back cs l h } } }
  number_end Point cs l h = absurd (fault_not_fine l h)
  number_end Frac cs l h = record { it = []; rest = []; is = refl; on = record { it = None; rest = []; is = refl; on = closed_back cs l h } }
  number_end E cs l h = absurd (fault_not_fine l h)
  number_end Sign cs l h = absurd (fault_not_fine l h)
  number_end Exp cs l h = record { it = []; rest = []; is = refl; on = closed_back cs l h }

  string_end : (t : Inside) (l : ℕ) → check.string_end t l ≡ None → ⊥
  string_end Chars l h = fault_not_fine l h
  string_end (Escape from) l h = fault_not_fine l h
  string_end (Hex from k v) l h = fault_not_fine l h
  string_end (High from) l h = fault_not_fine from h
  string_end (HighEscape from) l h = fault_not_fine from h
  string_end (Low from k v) l h = fault_not_fine from h

  end_back : (st : State) (cs : List Container) (l : ℕ) → end st (around cs) l ≡ None → Completes limit N st cs []
  end_back (Expects e) cs l h = expect_end e cs l h
  end_back (InLiteral w) cs l h = absurd (fault_not_fine l h)
  end_back (InNumber n) cs l h = number_end n cs l h
  end_back (InString n t) cs l h = absurd (string_end t l h)

  followed_back : (m : Move) (i : ℕ) (cs : List Container) (s : List ℕ) → ((st : State) (ds : List Container) → check s limit (i + 1) st ds ≡ None → Completes limit N st ds s) →
      followed m limit i cs (check s limit (i + 1)) ≡ None → Back limit N m cs s
  unfolding followed pick
  followed_back (To st) i cs s f h = f st cs h
  followed_back OpenArray i cs s f h = go (ltb (length cs) limit) refl h
    where
      go : (t : Bool) → ltb (length cs) limit ≡ t → pick t (check s limit (i + 1) (Expects ValueOrEnd) (check.array ∷ cs)) (Some i) ≡ None → Back limit N OpenArray cs s
      go true e h = (ltb-true (length cs) limit e, f (Expects ValueOrEnd) (check.array ∷ cs) h)
      go false e h = absurd (fault_not_fine i h)
  followed_back OpenObject i cs s f h = go (ltb (length cs) limit) refl h
    where
      go : (t : Bool) → ltb (length cs) limit ≡ t → pick t (check s limit (i + 1) (Expects NameOrEnd) (check.object ∷ cs)) (Some i) ≡ None → Back limit N OpenObject cs s
      go true e h = (ltb-true (length cs) limit e, f (Expects NameOrEnd) (check.object ∷ cs) h)
      go false e h = absurd (fault_not_fine i h)
  followed_back Close i cs s f h = f (Expects After) (outer cs) h
  followed_back (Bad p) i cs s f h = absurd (fault_not_fine p h)

  pub completes : Naming N → (s : List ℕ) (i : ℕ) (st : State) (cs : List Container) → check s limit i st cs ≡ None → Completes limit N st cs s
  unfolding check
  completes law [] i st cs h = end_back st cs i h
  completes law (b ∷ s) i st cs h = step_back limit N law st cs i b s (followed_back (move st (around cs) i b) i cs s (λ st ds k. completes law s (i + 1) st ds k) h)

-- what completes a text from its beginning on is the spelling of one
module _ (most : ℕ) (N : List Char → Bool → Bool) (s : List ℕ) (t : Valued most N [] s) where
  abbrev pub text_of : Text
  text_of = record { before = t.it; value = t.on.it.part; behind = t.on.on.it }

  pub text_is : s ≡ spelled_text text_of
  text_is =
      t.is ∙ ap (λ (l : List ℕ). spelled_bytes t.it ⊕ l) (t.on.is ∙ ap (λ (l : List ℕ). spelled_value t.on.it.part ⊕ l)
      (t.on.on.is ∙ ap (λ (l : List ℕ). spelled_bytes t.on.on.it ⊕ l) t.on.on.on ∙ append_none _))

pub text_found : (most : ℕ) (s : List ℕ) → Valued most may_name [] s → JsonText most s
text_found most s t = record { text = text_of most may_name s t; is = text_is most may_name s t; deep = omega (arith, t.on.it.fits); names = t.on.it.names }

-- A text is accepted, with at most `most` arrays and objects open at once, exactly when it is the spelling of a JSON-text of RFC 8259
-- that is no deeper and whose strings name only what they may.
pub json_grammar : (most : ℕ) (s : List ℕ) → (verdict most s ≡ None) ↔ JsonText most s
json_grammar most s = (λ h. text_found most s (completes most may_name naming_well s 0 (Expects Value) [] h), text_accepted most s)
