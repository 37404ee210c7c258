-- What a verdict that is fine says of the nodes that it was given on.
--     all_children                        every child passes a test;   comes: the names of the children
--     both_fine, test_fine, past_fine     of checks one after another, and of tests
--     leaf_accepted                       of an element of character data
--     sequence_each                       of children in an order: each child passes a test that its own verdict implies
--     sequence-comes, comes_named         and no slot is left that must be filled
--     child_good                          of the first child of a name
use Rattle.std.specs.Prelude.{◌≡◌, Bool, true, false, List, ◌∷◌, ℕ, suc, ltb, Option, None, Some}
use Rattle.std.proofs.Math.Path.{refl}
use Rattle.std.proofs.Common.{ap, ◌∙◌, sym}
use Rattle.octets.specs.Pick.{pick, ◌or◌, ◌and◌}
use Rattle.octets.specs.laws.Pick.{and_both, and_yes, or-false}
use Rattle.octets.specs.Class.{is_space}
use Rattle.octets.specs.Words.{same, is_one_of}
use Rattle.octets.specs.laws.Words.{same_true}
use Rattle.octets.specs.Reading.{is_read}
use Rattle.octets.specs.laws.Reading.{none-some}
use Rattle.calendar.specs.Refusal.{Refusal, NAME, FRAME, VALUE, Verdict, fine, refuse, ◌otherwise◌}
use Rattle.calendar.specs.laws.Refusal.{refused_not}
use Rattle.xml.specs.Nodes.{Nodes, no_nodes, element, literal, referred, characters_of, has_element}
use Rattle.xcal.specs.Layout.{has_capital, unexpected, Slot, slot_of, after_slot, lacks, admitted, sequence, inner_element, leaf}
use Rattle.xcal.specs.ValueNodes.{child_named}

-- ---- children

-- every child that is an element passes a test of its name and its content
unfoldable pub all_children : (List ℕ → Nodes → Bool) → Nodes → Bool
all_children good no_nodes = true
all_children good (literal p b more) = all_children good more
all_children good (referred p bs more) = all_children good more
all_children good (element p n x kids more) = good n kids and all_children good more

-- the names of the children, the last first, in front of those that have come
unfoldable pub comes : Nodes → List (List ℕ) → List (List ℕ)
comes no_nodes seen = seen
comes (literal p b more) seen = comes more seen
comes (referred p bs more) seen = comes more seen
comes (element p n x kids more) seen = comes more (n ∷ seen)

-- ---- verdicts

pub both_fine : (v w : Verdict) → (v otherwise w) ≡ fine → (v ≡ fine) × (w ≡ fine)
unfolding ◌otherwise◌
both_fine fine w h = (refl, h)
both_fine (refuse r p) w h = refused_not r p h

-- a test that refuses where it fails
pub test_fine : (t : Bool) (v : Verdict) (r : Refusal) (p : ℕ) → pick t v (refuse r p) ≡ fine → (t ≡ true) × (v ≡ fine)
unfolding pick
test_fine true v r p h = (refl, h)
test_fine false v r p h = refused_not r p h

-- a test that refuses where it holds
pub past_fine : (t : Bool) (v : Verdict) (r : Refusal) (p : ℕ) → pick t (refuse r p) v ≡ fine → (t ≡ false) × (v ≡ fine)
unfolding pick
past_fine true v r p h = refused_not r p h
past_fine false v r p h = (refl, h)

pub unexpected_not : {X : Type 0} (p : ℕ) (n : List ℕ) → unexpected p n ≡ fine → X
unfolding pick
unexpected_not p n h = go (has_capital n) h
  where
    go : {X : Type 0} (t : Bool) → pick t (refuse NAME p) (refuse FRAME p) ≡ fine → X
    go true e = refused_not NAME p e
    go false e = refused_not FRAME p e

-- ---- character data

no_inner : (kids : Nodes) → inner_element kids ≡ fine → has_element kids ≡ false
unfolding inner_element has_element
no_inner no_nodes h = refl
no_inner (literal p b more) h = no_inner more h
no_inner (referred p bs more) h = no_inner more h
no_inner (element p n x kids more) h = unexpected_not p n h

pub leaf_accepted : (good : List ℕ → Bool) (p : ℕ) (kids : Nodes) → leaf good p kids ≡ fine → (good (characters_of kids) ≡ true) × (has_element kids ≡ false)
leaf_accepted good p kids h =
    let a = both_fine (inner_element kids) _ h in
    ((test_fine (good (characters_of kids)) fine VALUE p a.1).0, no_inner kids a.0)

-- ---- children in an order

-- an element that is admitted has a slot that has not passed
pub admitted-fine : (o : Option (ℕ × Bool)) (next p : ℕ) (n : List ℕ) (v : Verdict) (rest : ℕ → Verdict) → admitted (after_slot o next) p n v rest ≡ fine →
    (x : ℕ × Bool) × (o ≡ Some x) × (ltb x.0 next ≡ false) × (v ≡ fine) × (rest (pick x.1 x.0 (suc x.0)) ≡ fine)
unfolding pick
admitted-fine None next p n v rest h = unexpected_not p n h
admitted-fine (Some x) next p n v rest h = go (ltb x.0 next) refl h
  where
    go : (t : Bool) → ltb x.0 next ≡ t → admitted (pick t None (Some (pick x.1 x.0 (suc x.0)))) p n v rest ≡ fine →
        (y : ℕ × Bool) × (Some x ≡ Some y) × (ltb y.0 next ≡ false) × (v ≡ fine) × (rest (pick y.1 y.0 (suc y.0)) ≡ fine)
    go true e k = unexpected_not p n k
    go false e k = let b = both_fine v _ k in (x, refl, e, b.0, b.1)

module _ (slots : List Slot) (inside : ℕ → List ℕ → ℕ → Nodes → Verdict) where
  pub sequence_each : (good : List ℕ → Nodes → Bool) → ((p : ℕ) (m : List ℕ) (x : ℕ) (kids : Nodes) → inside p m x kids ≡ fine → good m kids ≡ true) →
      (kids : Nodes) (next : ℕ) (seen : List (List ℕ)) (e : ℕ) → sequence slots inside kids next seen e ≡ fine → all_children good kids ≡ true
  unfolding sequence all_children
  sequence_each good f no_nodes next seen e h = refl
  sequence_each good f (literal p b more) next seen e h = sequence_each good f more next seen e (test_fine (is_space b) _ FRAME p h).1
  sequence_each good f (referred p bs more) next seen e h = refused_not FRAME p h
  sequence_each good f (element p n x kids more) next seen e h =
      let a = admitted-fine (slot_of n slots 0) next p n (inside p n x kids) _ h in
      and_yes _ _ (f p n x kids a.3) (sequence_each good f more _ (n ∷ seen) e a.4)

  pub sequence-comes : (kids : Nodes) (next : ℕ) (seen : List (List ℕ)) (e : ℕ) → sequence slots inside kids next seen e ≡ fine → lacks slots (comes kids seen) ≡ false
  unfolding sequence comes
  sequence-comes no_nodes next seen e h = (past_fine (lacks slots seen) fine FRAME e h).0
  sequence-comes (literal p b more) next seen e h = sequence-comes more next seen e (test_fine (is_space b) _ FRAME p h).1
  sequence-comes (referred p bs more) next seen e h = refused_not FRAME p h
  sequence-comes (element p n x kids more) next seen e h =
      sequence-comes more _ (n ∷ seen) e (admitted-fine (slot_of n slots 0) next p n (inside p n x kids) _ h).4

-- a name has come where there is a child of that name
pub comes_named : (n : List ℕ) (kids : Nodes) (seen : List (List ℕ)) → is_one_of n (comes kids seen) ≡ (is_one_of n seen or is_read (child_named n kids))
unfolding comes child_named is_read is_one_of ◌or◌ pick
comes_named n no_nodes seen = sym (or-false (is_one_of n seen))
comes_named n (literal p b more) seen = comes_named n more seen
comes_named n (referred p bs more) seen = comes_named n more seen
comes_named n (element p m x kids more) seen = comes_named n more (m ∷ seen) ∙ turn (same n m) (is_one_of n seen) (child_named n more)
  where
    turn : (a b : Bool) (o : Option (List ℕ)) → ((a or b) or is_read o) ≡ (b or is_read (pick a (Some (characters_of kids)) o))
    turn true true o = refl
    turn true false o = refl
    turn false b o = refl

taken : {A : Type 0} {a b : A} → Some a ≡ Some b → a ≡ b
taken e = cc

-- the first child of a name passes the test
pub child_good : (n : List ℕ) (good : List ℕ → Nodes → Bool) (kids : Nodes) (s : List ℕ) → all_children good kids ≡ true → child_named n kids ≡ Some s →
    (inner : Nodes) × (characters_of inner ≡ s) × (good n inner ≡ true)
unfolding all_children child_named pick
child_good n good no_nodes s h c = none-some c
child_good n good (literal p b more) s h c = child_good n good more s h c
child_good n good (referred p bs more) s h c = child_good n good more s h c
child_good n good (element p m x kids more) s h c = let a = and_both (good m kids) _ h in go (same n m) refl c a.0 (child_good n good more s a.1)
  where
    go : (t : Bool) → same n m ≡ t → pick t (Some (characters_of kids)) (child_named n more) ≡ Some s → good m kids ≡ true →
        (child_named n more ≡ Some s → (inner : Nodes) × (characters_of inner ≡ s) × (good n inner ≡ true)) → (inner : Nodes) × (characters_of inner ≡ s) × (good n inner ≡ true)
    go true e k g ih = (kids, taken k, ap (λ (w : List ℕ). good w kids) (same_true n m e) ∙ g)
    go false e k g ih = ih k
