-- The loop that notes where each part of a rule stands.
--     named_at         a name against the name at a place
--     are_new t ws     no part of these pieces is noted
--     Noting           which pieces are noted;   none_noted, one_noted: at the start, and with one piece more
--     Walked           the invariant of the loop over the pieces;   walk_..: its ways
use Rattle.std.specs.Prelude.{◌≡◌, Bool, length, take, set, replicate, Option, None, Some, is_some, is_none}
use Rattle.std.proofs.Math.Path.{refl, sym}
use Rattle.std.proofs.Common.{ap, subst, ◌∙◌, arith, length-set, get_or-set_same}
use Rattle.std.proofs.Math.Bool.{true, false, not}
use Rattle.std.proofs.lemmas.Bool.{false≢true}
use mathlib.Core.List.{List, [], ◌∷◌}
use Prim.Native.Nat.{ℕ, zero, suc, ◌≤◌, ◌<◌}
use Rattle.std.proofs.Math.Dec.{eqb}
use Rattle.std.proofs.Math.ListN.{get_or}
use Rattle.std.proofs.Math.Seq.{get_or-set_other}
use borrow.Author.Tests.{eq-eqb, eqb-true, eqb-false}
use Rattle.octets.specs.Pick.{pick, ◌and◌, ◌or◌}
use Rattle.octets.specs.laws.Pick.{and_no_left, and_no_right, eqb_swap}
use Rattle.octets.specs.Words.{same, cut_at, row_of}
use Rattle.octets.specs.Reading.{is_read}
use Rattle.octets.specs.laws.Reading.{none-some}
use Rattle.octets.specs.Front.{up_to}
use Rattle.source.specs.Source.{rest, cuts, Within, Reads}
use Rattle.source.specs.declared.points.Unit.{Unit}
use Rattle.names.specs.Table.{place_of}
use Rattle.names.specs.laws.Places.{place_back}
use Rattle.recur.specs.Parts.{part_names}
use Rattle.recur.specs.Item.{or_other}
use Rattle.recur.specs.Rule.{read_part}
use Rattle.recur.specs.Pieces.{Ends, piece_name, place_at}
use Rattle.recur.specs.laws.Pieces.{has_place, each_part, is_whole}
use Rattle.recur.specs.laws.PieceLaws.{piece_is, pieces_any, pieces_last, pieces_more, step_less}
use Rattle.recur.specs.laws.Whole.{known, part_same, rule_read, rule_beyond}
use Rattle.recur.specs.laws.RuleLaws.{names_once}
use Rattle.recur.specs.Noted.{piece_from, named, Standing, whole_in, Parted}

-- ---- the name at a place

pub named_at : (p : ℕ) (w : List ℕ) → p < 14 → same (get_or part_names p []) (piece_name w) ≡ eqb (place_at w) p
unfolding place_at
named_at p w h =
    let e = place_back part_names p names_once h in
    sym (part_same (get_or part_names p []) (piece_name w) (rw e h)) ∙ ap (eqb (place_of (piece_name w) part_names)) e

place_named : (p : ℕ) → p < 14 → (ws : List (List ℕ)) → has_place p ws ≡ is_read (named p ws)
unfolding has_place row_of pick is_read ◌or◌
place_named p h [] = refl
place_named p h (w ∷ ws) = rw (named_at p w h) (go (eqb (place_at w) p) (place_named p h ws))
  where
    go : (t : Bool) → has_place p ws ≡ is_read (named p ws) → (t or has_place p ws) ≡ is_read (pick t (Some w) (named p ws))
    go true ih = refl
    go false ih = ih

-- ---- a number noted

swap : (a b : ℕ) → eqb a b ≡ eqb b a
swap a b = go (eqb a b) refl
  where
    go : (t : Bool) → eqb a b ≡ t → t ≡ eqb b a
    go true e = sym (eq-eqb b a (sym (eqb-true a b e)))
    go false e = sym (eqb_swap a b e)

module _ (t : List (Option ℕ)) (q : ℕ) (v : Option ℕ) (h : q < length t) where
  set_at : (p : ℕ) → get_or (set t q v) p None ≡ pick (eqb p q) v (get_or t p None)
  unfolding pick
  set_at p = go (eqb p q) refl
    where
      go : (b : Bool) → eqb p q ≡ b → get_or (set t q v) p None ≡ pick b v (get_or t p None)
      go true e = rw (eqb-true p q e) (get_or-set_same t q v None h)
      go false e = get_or-set_other t q p v None (eqb-false p q e)

-- no part of these pieces is noted
unfoldable pub are_new : List (Option ℕ) → List (List ℕ) → Bool
are_new t [] = true
are_new t (w ∷ ws) = not (is_some (get_or t (place_at w) None)) and are_new t ws

new_noted : (t : List (Option ℕ)) (q c : ℕ) → q < length t → (ws : List (List ℕ)) → are_new (set t q (Some c)) ws ≡ pick (has_place q ws) false (are_new t ws)
unfolding are_new has_place ◌and◌ ◌or◌ pick
new_noted t q c h [] = refl
new_noted t q c h (w ∷ ws) = rw (set_at t q (Some c) h (place_at w), new_noted t q c h ws) (go (eqb (place_at w) q) (has_place q ws))
  where
    go : (e k : Bool) → (not (is_some (pick e (Some c) (get_or t (place_at w) None))) and pick k false (are_new t ws)) ≡ pick (e or k) false (not (is_some (get_or t (place_at w) None)) and are_new t ws)
    go true k = refl
    go false true = and_no_right (not (is_some (get_or t (place_at w) None))) false refl
    go false false = refl

-- ---- the pieces vs are left of the pieces ws

pub record Noting (m : ℕ) (s : List ℕ) (ws : List (List ℕ)) (t : List (Option ℕ)) (vs : List (List ℕ)) : Type 0 where
  pub each : each_part ws ≡ (are_new t vs and each_part vs)
  pub found : (p : ℕ) → p < 14 → named p ws ≡ or_other (piece_from m s (get_or t p None)) (named p vs)
  pub within : (p c : ℕ) → get_or t p None ≡ Some c → c ≤ length s
  pub sized : length t ≡ 14

none_at : (n p : ℕ) → ◌≡◌ {A = Option ℕ} (get_or (replicate n None) p None) None
none_at zero p = refl
none_at (suc n) zero = refl
none_at (suc n) (suc p) = none_at n p

module _ (t : List (Option ℕ)) (z : (p : ℕ) → get_or t p None ≡ None) where
  all_new : (ws : List (List ℕ)) → are_new t ws ≡ true
  unfolding are_new ◌and◌
  all_new [] = refl
  all_new (w ∷ ws) = rw (z (place_at w)) (all_new ws)

  none_noted : (m : ℕ) (s : List ℕ) (ws : List (List ℕ)) → length t ≡ 14 → Noting m s ws t ws
  unfolding ◌and◌
  none_noted m s ws l = record {
    each = rw (all_new ws);
    found = λ p h. rw (z p);
    within = λ p c e. none-some (sym (z p) ∙ e);
    sized = l;
  }

none_is : {A : Type 0} (o : Option A) → is_some o ≡ false → o ≡ None
none_is None h = refl
none_is (Some a) h = absurd (false≢true (sym h))

-- the piece w, of a part that is not noted, is noted at the cursor c
module _ {m : ℕ} {s : List ℕ} {ws : List (List ℕ)} {t : List (Option ℕ)} {w : List ℕ} {vs : List (List ℕ)} {g : ℕ} (i : Noting m s ws t (w ∷ vs)) (q : g ≡ place_at w) (h : is_read (read_part w) ≡ true)
    (z : get_or t g None ≡ None) where
  pub noted_place : g < length t
  noted_place = let k = known w h in omega (arith, i.sized)

  each_on : (c : ℕ) → (are_new t (w ∷ vs) and each_part (w ∷ vs)) ≡ (are_new (set t g (Some c)) vs and each_part vs)
  unfolding are_new each_part ◌and◌ pick
  each_on c = rw (← q, z, h, new_noted t g c noted_place vs) (go (has_place g vs) (are_new t vs))
    where
      go : (k a : Bool) → (a and pick k false (each_part vs)) ≡ (pick k false a and each_part vs)
      go true a = and_no_right a false refl
      go false a = refl

  found_on : (c : ℕ) → w ≡ up_to (λ (b : ℕ). eqb b 59) (rest m s c) → (p : ℕ) → p < 14 →
      or_other (piece_from m s (get_or t p None)) (named p (w ∷ vs)) ≡ or_other (piece_from m s (get_or (set t g (Some c)) p None)) (named p vs)
  unfolding row_of pick
  found_on c u p k = rw (named_at p w k, ← q, set_at t g (Some c) noted_place p, swap p g) (go (eqb g p) refl)
    where
      go : (b : Bool) → eqb g p ≡ b →
          or_other (piece_from m s (get_or t p None)) (pick b (Some w) (named p vs)) ≡ or_other (piece_from m s (pick b (Some c) (get_or t p None))) (named p vs)
      go true e = rw (← (eqb-true g p e), z) (ap Some u)
      go false e = refl

  within_on : (c : ℕ) → c ≤ length s → (p b : ℕ) (x : Bool) → pick x (Some c) (get_or t p None) ≡ Some b → b ≤ length s
  unfolding pick
  within_on c l p b true e = let y : c ≡ b = cc in omega arith
  within_on c l p b false e = i.within p b e

  pub one_noted : (c : ℕ) → w ≡ up_to (λ (b : ℕ). eqb b 59) (rest m s c) → c ≤ length s → Noting m s ws (set t g (Some c)) vs
  one_noted c u l = record {
    each = i.each ∙ each_on c;
    found = λ p k. i.found p k ∙ found_on c u p k;
    within = λ p b e. within_on c l p b (eqb p g) (sym (set_at t g (Some c) noted_place p) ∙ e);
    sized = length-set t g (Some c) ∙ i.sized;
  }

-- ---- the answers

no_parts : (m : ℕ) (s : List ℕ) (c : ℕ) → each_part (cut_at 59 (rest m s c)) ≡ false → Parted m s c None
unfolding ◌and◌
no_parts m s c h = record { is = rule_read (rest m s c) ∙ rw h; standing = λ t e. none-some e }

-- all pieces are noted
module _ (m : ℕ) (s : List ℕ) (c : ℕ) {t : List (Option ℕ)} (i : Noting m s (cut_at 59 (rest m s c)) t []) where
  all_standing : Standing m s c t
  unfolding row_of
  all_standing = record { is = λ p h. i.found p h ∙ other (piece_from m s (get_or t p None)); inside = i.within }
    where
      other : (o : Option (List ℕ)) → or_other o None ≡ o
      other None = refl
      other (Some w) = refl

  has_noted : (p : ℕ) → p < 14 → has_place p (cut_at 59 (rest m s c)) ≡ is_some (get_or t p None)
  unfolding is_read
  has_noted p h = place_named p h (cut_at 59 (rest m s c)) ∙ rw (all_standing.is p h) (go (get_or t p None))
    where
      go : (o : Option ℕ) → is_read (piece_from m s o) ≡ is_some o
      go None = refl
      go (Some n) = refl

  whole_noted : is_whole (cut_at 59 (rest m s c)) ≡ whole_in t
  unfolding ◌and◌ ◌or◌
  whole_noted = rw (has_noted 0 (omega arith), has_noted 1 (omega arith), has_noted 2 (omega arith)) (go (get_or t 0 None) (get_or t 1 None) (get_or t 2 None))
    where
      go : (x y z : Option ℕ) → (is_some x and not (is_some y and is_some z)) ≡ (is_some x and (is_none y or is_none z))
      go None y z = refl
      go (Some a) None z = refl
      go (Some a) (Some b) None = refl
      go (Some a) (Some b) (Some d) = refl

  all_parts : whole_in t ≡ true → Parted m s c (Some t)
  unfolding are_new each_part ◌and◌
  all_parts h = record { is = rule_read (rest m s c) ∙ rw (i.each, whole_noted) h; standing = λ u e. let y : t ≡ u = cc in subst (Standing m s c) y all_standing }

  part_missing : whole_in t ≡ false → Parted m s c None
  unfolding are_new each_part ◌and◌
  part_missing h = record { is = rule_read (rest m s c) ∙ rw (i.each, whole_noted) h; standing = λ u e. none-some e }

pub parts_beyond : (m : ℕ) (s : List ℕ) (c : ℕ) → cuts m ≡ true → length s < c → Parted m s c None
parts_beyond m s c y h = record { is = rule_beyond m s c y h; standing = λ t e. none-some e }

-- ---- the loop over the pieces, from the cursor c₀ to the cursor c

pub record Walked (m : ℕ) (s : List ℕ) (c₀ : ℕ) (t : List (Option ℕ)) (c : ℕ) : Type 0 where
  pub noting : Noting m s (cut_at 59 (rest m s c₀)) t (cut_at 59 (rest m s c))
  pub inside : Within m s c

pub walk_start : (m : ℕ) (s : List ℕ) (c : ℕ) → Within m s c → Walked m s c (replicate 14 None) c
walk_start m s c h = record { noting = none_noted (replicate 14 None) (none_at 14) m s (cut_at 59 (rest m s c)) refl; inside = h }

module _ {m : ℕ} {s : List ℕ} {c₀ : ℕ} {t : List (Option ℕ)} {c e g : ℕ} (i : Walked m s c₀ t c) (d : Ends 59 m s c e) (q : g ≡ place_at (rest m (take e s) c)) where
  -- the piece at hand is no part
  pub walk_bad : is_read (read_part (rest m (take e s) c)) ≡ false → Parted m s c₀ None
  unfolding each_part ◌and◌
  walk_bad h = no_parts m s c₀ (i.noting.each ∙ and_no_right (are_new t (cut_at 59 (rest m s c))) (each_part (cut_at 59 (rest m s c))) (rw (pieces_any d, h)))

  -- its part is noted already
  pub walk_again : is_some (get_or t g None) ≡ true → Parted m s c₀ None
  unfolding are_new ◌and◌
  walk_again h = no_parts m s c₀ (i.noting.each ∙ and_no_left (are_new t (cut_at 59 (rest m s c))) (each_part (cut_at 59 (rest m s c))) (rw (pieces_any d, ← q, h)))

  module _ (h : is_read (read_part (rest m (take e s) c)) ≡ true) where
    pub walk_place : g < 14
    walk_place = rw q (known (rest m (take e s) c) h)

    module _ (z : is_some (get_or t g None) ≡ false) {n : Unit} (p : Reads m s e n) where
      last_noted : n.u ≡ 256 → Noting m s (cut_at 59 (rest m s c₀)) (set t g (Some c)) []
      last_noted k = one_noted (rw (pieces_last d p k) at i.noting) q h (none_is (get_or t g None) z) c (piece_is d) i.inside.most

      pub walk_whole : n.u ≡ 256 → whole_in (set t g (Some c)) ≡ true → Parted m s c₀ (Some (set t g (Some c)))
      walk_whole k b = all_parts m s c₀ (last_noted k) b

      pub walk_short : n.u ≡ 256 → whole_in (set t g (Some c)) ≡ false → Parted m s c₀ None
      walk_short k b = part_missing m s c₀ (last_noted k) b

      pub walk_more : (n.u ≡ 256 → ⊥) → Walked m s c₀ (set t g (Some c)) n.next
      walk_more k = record { noting = one_noted (rw (pieces_more d p k) at i.noting) q h (none_is (get_or t g None) z) c (piece_is d) i.inside.most; inside = (step_less d.inside p k).1 }
