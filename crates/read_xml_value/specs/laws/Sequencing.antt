-- Laws of what specs/Sequencing.antt defines.
--     fillings slots seen     for each slot that must be filled, whether one of the names seen fills it
--     sequence-walked    it is the same
--     walked_none, walked_space, walked_text, walked-referred, walked_element, walked_outside, walked_child     a walk, by the node at hand
--     slot_place              the slot of a name, by the name's place in a list of all names
use Rattle.std.specs.Prelude.{◌≡◌, Bool, true, false, not, List, [], ◌∷◌, map, ℕ, suc, ◌≤◌, length, get_or, drop, Option, None, Some}
use Rattle.std.proofs.Math.Path.{refl}
use Rattle.octets.specs.Pick.{pick, ◌and◌, ◌or◌}
use Rattle.octets.specs.Class.{is_space}
use Rattle.octets.specs.Words.{same, is_one_of}
use Rattle.octets.specs.laws.Words.{same_either}
use Rattle.octets.specs.Lists.{every, any_one}
use Rattle.octets.specs.laws.Lists.{every_both}
use Rattle.names.specs.Table.{place_of}
use Rattle.names.specs.laws.Known.{by_place, unknown_list}
use Rattle.calendar.specs.Refusal.{FRAME, Verdict, fine, refuse, ◌otherwise◌}
use Rattle.xml.specs.Nodes.{Nodes, no_nodes, element, literal, referred}
use Rattle.xcal.specs.Layout.{Slot, slot_of, after_slot, lacks, admitted, sequence, unexpected}
use Rattle.read_xml_value.specs.Sequencing.{marked, is_short, walked}

-- ---- slots that must be filled

-- one of the names seen fills the slot
unfoldable pub filled : List (List ℕ) → Slot → Bool
filled seen s = any_one (λ n. is_one_of n seen) s.names

unfoldable pub fillings : List Slot → List (List ℕ) → List Bool
fillings [] seen = []
fillings (s ∷ slots) seen = pick s.required (filled seen s ∷ fillings slots seen) (fillings slots seen)

lacks_short : (slots : List Slot) (seen : List (List ℕ)) → lacks slots seen ≡ is_short (fillings slots seen)
unfolding lacks is_short fillings filled any_one pick ◌and◌ ◌or◌
lacks_short [] seen = refl
lacks_short (s ∷ slots) seen = go s.required (lacks_short slots seen)
  where
    go : (t : Bool) → lacks slots seen ≡ is_short (fillings slots seen) →
        ((t and not (filled seen s)) or lacks slots seen) ≡ is_short (pick t (filled seen s ∷ fillings slots seen) (fillings slots seen))
    go true ih = rw ih
    go false ih = ih

-- one more name, in front
seen_more : (n : List ℕ) (seen names : List (List ℕ)) → any_one (λ m. is_one_of m (n ∷ seen)) names ≡ (is_one_of n names or any_one (λ m. is_one_of m seen) names)
unfolding any_one is_one_of ◌or◌
seen_more n seen [] = refl
seen_more n seen (m ∷ names) = rw (same_either m n, seen_more n seen names) (go (same n m) (is_one_of m seen) (is_one_of n names))
  where
    go : (a b c : Bool) → ((a or b) or (c or any_one (λ m. is_one_of m seen) names)) ≡ ((a or c) or (b or any_one (λ m. is_one_of m seen) names))
    go true b c = refl
    go false true true = refl
    go false true false = refl
    go false false true = refl
    go false false false = refl

fillings_more : (slots : List Slot) (n : List ℕ) (seen : List (List ℕ)) → fillings slots (n ∷ seen) ≡ marked slots n (fillings slots seen)
unfolding fillings marked filled pick
fillings_more [] n seen = refl
fillings_more (s ∷ slots) n seen = go s.required (fillings_more slots n seen)
  where
    go : (t : Bool) → fillings slots (n ∷ seen) ≡ marked slots n (fillings slots seen) →
        pick t (filled (n ∷ seen) s ∷ fillings slots (n ∷ seen)) (fillings slots (n ∷ seen)) ≡
        pick t ((is_one_of n s.names or get_or (pick t (filled seen s ∷ fillings slots seen) (fillings slots seen)) 0 false) ∷ marked slots n (drop 1 (pick t (filled seen s ∷ fillings slots seen) (fillings slots seen))))
        (marked slots n (pick t (filled seen s ∷ fillings slots seen) (fillings slots seen)))
    go true ih = rw (seen_more n seen s.names, ih)
    go false ih = ih

-- ---- a walk over children

module _ (slots : List Slot) (inside : ℕ → List ℕ → ℕ → Nodes → Verdict) where
  pub sequence-walked : (kids : Nodes) (next : ℕ) (seen : List (List ℕ)) (e : ℕ) → sequence slots inside kids next seen e ≡ walked slots inside kids next (fillings slots seen) e
  unfolding sequence walked
  sequence-walked no_nodes next seen e = rw (lacks_short slots seen)
  sequence-walked (literal p b more) next seen e = rw (sequence-walked more next seen e)
  sequence-walked (referred p bs more) next seen e = refl
  sequence-walked (element p n x kids more) next seen e = go (after_slot (slot_of n slots 0) next) (λ k. sequence-walked more k (n ∷ seen) e)
    where
      go : (o : Option ℕ) → ((k : ℕ) → sequence slots inside more k (n ∷ seen) e ≡ walked slots inside more k (fillings slots (n ∷ seen)) e) →
          admitted o p n (inside p n x kids) (λ k. sequence slots inside more k (n ∷ seen) e) ≡
          admitted o p n (inside p n x kids) (λ k. walked slots inside more k (marked slots n (fillings slots seen)) e)
      go None ih = refl
      go (Some k) ih = rw (ih k, fillings_more slots n seen)

  module _ {kids : Nodes} (next : ℕ) (fs : List Bool) (e : ℕ) where
    pub walked_none : kids ≡ no_nodes → walked slots inside kids next fs e ≡ pick (is_short fs) (refuse FRAME e) fine
    unfolding walked
    walked_none h = rw h

    module _ {p b : ℕ} {more : Nodes} (h : kids ≡ literal p b more) where
      pub walked_space : is_space b ≡ true → walked slots inside kids next fs e ≡ walked slots inside more next fs e
      unfolding walked pick
      walked_space t = rw (h, t)

      pub walked_text : is_space b ≡ false → walked slots inside kids next fs e ≡ refuse FRAME p
      unfolding walked pick
      walked_text t = rw (h, t)

    pub walked-referred : {p : ℕ} {bs : List ℕ} {more : Nodes} → kids ≡ referred p bs more → walked slots inside kids next fs e ≡ refuse FRAME p
    unfolding walked
    walked-referred h = rw h

    module _ {p x : ℕ} {n : List ℕ} {own more : Nodes} (h : kids ≡ element p n x own more) where
      pub walked_element : walked slots inside kids next fs e ≡ admitted (after_slot (slot_of n slots 0) next) p n (inside p n x own) (λ k. walked slots inside more k (marked slots n fs) e)
      unfolding walked
      walked_element = rw h

      -- a child that has no place here, and one that has
      pub walked_outside : after_slot (slot_of n slots 0) next ≡ None → walked slots inside kids next fs e ≡ unexpected p n
      unfolding walked
      walked_outside t = rw (h, t)

      module _ {k : ℕ} (t : after_slot (slot_of n slots 0) next ≡ Some k) where
        pub walked_child : walked slots inside kids next fs e ≡ (inside p n x own otherwise walked slots inside more k (marked slots n fs) e)
        unfolding walked
        walked_child = rw (h, t)

-- ---- the slot of a name

unknown_slot : (n : List ℕ) (ws : List (List ℕ)) → length ws ≤ place_of n ws → (slots : List Slot) (k : ℕ) → every (λ s. every (λ x. is_one_of x ws) s.names) slots ≡ true → slot_of n slots k ≡ None
unfolding pick
unknown_slot n ws h [] k a = refl
unknown_slot n ws h (s ∷ slots) k a =
    let q = every_both (λ s. every (λ x. is_one_of x ws) s.names) s slots a in
    rw (unknown_list n ws h s.names q.0) (unknown_slot n ws h slots (suc k) q.1)

-- all names of the slots are in the list
pub slot_place : (n : List ℕ) (ws : List (List ℕ)) (slots : List Slot) → every (λ s. every (λ x. is_one_of x ws) s.names) slots ≡ true →
    slot_of n slots 0 ≡ get_or (map (λ w. slot_of w slots 0) ws) (place_of n ws) None
slot_place n ws slots a = by_place n (λ w. slot_of w slots 0) None ws (λ h. unknown_slot n ws h slots 0 a)
