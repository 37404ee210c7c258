-- Laws of pieces cut out of a text at a separator, for each way that the code goes.
--     ending_start, -more, -stop, -here     the loop of `byte_end`
--     pieces_any, pieces_last, pieces_more  the first piece, cut out of the slice, and those after it
--     Left                                  the invariant of a loop over pieces;   items_..: its ways over the items of a part
--     cons_read_lem                         one more read
use Rattle.std.specs.Prelude.{◌≡◌, refl, Bool, true, false, List, [], ◌∷◌, ℕ, ◌-◌, ◌≤◌, ◌<◌, eqb, length, take, get_or, Option, None, Some}
use Rattle.std.proofs.Math.Path.{sym}
use Rattle.std.proofs.Common.{ap, ◌∙◌, arith, length-take-le}
use borrow.Author.Tests.{eq-eqb, ne_eqb}
use Rattle.octets.specs.Pick.{pick, ◌and◌}
use Rattle.octets.specs.Append.{◌⊕◌}
use Rattle.octets.specs.Words.{onto, cut_at}
use Rattle.octets.specs.Reading.{and_then, is_read, cons_read}
use Rattle.octets.specs.Front.{up_to, from_on}
use Rattle.calendar.specs.Calendar.{ical}
use Rattle.source.specs.Source.{rest, Within, Reads, Reach}
use Rattle.source.specs.laws.Facts.{rest_byte, rest_end, byte_small, cut_is, reach_here, reach_on}
use Rattle.source.specs.declared.points.Unit.{Unit}
use Rattle.recur.specs.Parts.{part_names}
use Rattle.recur.specs.Item.{read_item}
use Rattle.recur.specs.Pieces.{Ends, are_items}

-- ---- a list cut at its first byte that passes a test

up_from : (p : ℕ → Bool) (s : List ℕ) → up_to p s ⊕ from_on p s ≡ s
unfolding up_to from_on ◌⊕◌ pick
up_from p [] = refl
up_from p (b ∷ s) = go (p b) (up_from p s)
  where
    go : (t : Bool) → up_to p s ⊕ from_on p s ≡ s → pick t [] (b ∷ up_to p s) ⊕ pick t (b ∷ s) (from_on p s) ≡ b ∷ s
    go true ih = refl
    go false ih = ap (λ (l : List ℕ). b ∷ l) ih

-- the pieces from a separator on
unfoldable pub later_of : ℕ → List ℕ → List (List ℕ)
later_of k [] = []
later_of k (b ∷ t) = cut_at k t

cut_first : (k : ℕ) (s : List ℕ) → cut_at k s ≡ up_to (λ (b : ℕ). eqb b k) s ∷ later_of k (from_on (λ (b : ℕ). eqb b k) s)
unfolding cut_at onto up_to from_on later_of pick
cut_first k [] = refl
cut_first k (b ∷ s) = go (eqb b k) (cut_first k s)
  where
    go : (t : Bool) → cut_at k s ≡ up_to (λ (b : ℕ). eqb b k) s ∷ later_of k (from_on (λ (b : ℕ). eqb b k) s) →
        pick t ([] ∷ cut_at k s) (onto b (cut_at k s)) ≡ pick t [] (b ∷ up_to (λ (b : ℕ). eqb b k) s) ∷ later_of k (pick t (b ∷ s) (from_on (λ (b : ℕ). eqb b k) s))
    go true ih = refl
    go false ih = rw ih

-- ---- the first byte k

pub record Ending (k m : ℕ) (s : List ℕ) (c₀ c : ℕ) : Type 0 where
  pub left : from_on (λ (b : ℕ). eqb b k) (rest m s c₀) ≡ from_on (λ (b : ℕ). eqb b k) (rest m s c)
  pub onward : c₀ ≤ c
  pub inside : Within m s c
  pub reach : Reach m s c₀ c

pub ending_start : (k m : ℕ) (s : List ℕ) (c : ℕ) → Within m s c → Ending k m s c c
ending_start k m s c h = record { left = refl; onward = omega arith; inside = h; reach = reach_here m s c }

pub step_less : {m : ℕ} {s : List ℕ} {c : ℕ} {r : Unit} → Within m s c → Reads m s c r → (r.u ≡ 256 → ⊥) → (c < r.next) × Within m s r.next
step_less {m} {s} {c} {r} w q h = let b = byte_small q h in let m = q.moved in (omega arith, record { cut = w.cut; most = q.plain w.cut h })

module _ {k m : ℕ} {s : List ℕ} {c₀ c : ℕ} {r : Unit} (t : Ending k m s c₀ c) (q : Reads m s c r) where
  ended : from_on (λ (b : ℕ). eqb b k) (rest m s c) ≡ rest m s c → Ends k m s c₀ c
  ended h =
      let e : rest m s c ≡ from_on (λ (b : ℕ). eqb b k) (rest m s c₀) = sym (t.left ∙ h) in record {
        is = sym (up_from (λ (b : ℕ). eqb b k) (rest m s c₀)) ∙ ap (λ (l : List ℕ). up_to (λ (b : ℕ). eqb b k) (rest m s c₀) ⊕ l) (sym e);
        left = e;
        onward = t.onward;
        inside = t.inside;
        reach = t.reach;
      }

  pub ending_stop : r.u ≡ 256 → Ends k m s c₀ c
  unfolding from_on
  ending_stop h = ended (rw (rest_end q h))

  pub ending_here : (r.u ≡ 256 → ⊥) → r.u ≡ k → Ends k m s c₀ c
  unfolding from_on pick
  ending_here h e = ended (rw (rest_byte q h, eq-eqb r.u k e))

  pub ending_more : (r.u ≡ 256 → ⊥) → (r.u ≡ k → ⊥) → Ending k m s c₀ r.next
  unfolding from_on pick
  ending_more h e =
      let l = step_less t.inside q h in
      let o = l.0 in
      record { left = t.left ∙ rw (rest_byte q h, ne_eqb r.u k e); onward = omega arith; inside = l.1; reach = reach_on t.onward (omega arith) t.reach q.reach }

-- ---- the pieces

module _ {k m : ℕ} {s : List ℕ} {c e : ℕ} (p : Ends k m s c e) where
  pub piece_is : rest m (take e s) c ≡ up_to (λ (b : ℕ). eqb b k) (rest m s c)
  piece_is = cut_is m s (up_to (λ (b : ℕ). eqb b k) (rest m s c)) c e p.inside.cut p.onward p.reach p.is

  pub cut_inside : Within m (take e s) c
  cut_inside = record { cut = p.inside.cut; most = rw (length-take-le e s p.inside.most) p.onward }

  pub cut_count : e ≡ length (take e s)
  cut_count = sym (length-take-le e s p.inside.most)

  pub pieces_any : cut_at k (rest m s c) ≡ rest m (take e s) c ∷ later_of k (rest m s e)
  pieces_any = cut_first k (rest m s c) ∙ rw (piece_is, ← p.left)

  module _ {n : Unit} (q : Reads m s e n) where
    pub pieces_last : n.u ≡ 256 → cut_at k (rest m s c) ≡ rest m (take e s) c ∷ []
    unfolding later_of
    pieces_last h = pieces_any ∙ rw (rest_end q h)

    pub pieces_more : (n.u ≡ 256 → ⊥) → cut_at k (rest m s c) ≡ rest m (take e s) c ∷ cut_at k (rest m s n.next)
    unfolding later_of
    pieces_more h = pieces_any ∙ rw (rest_byte q h)

    pub pieces_less : (n.u ≡ 256 → ⊥) → length s - n.next < length s - c
    pieces_less h = let l = step_less p.inside q h in let o = p.onward in let a = l.0 in let b = l.1.most in omega arith

-- what F says of the pieces is the same from c₀ as from c
pub record Left {A : Type 0} (F : List (List ℕ) → A) (k m : ℕ) (s : List ℕ) (c₀ c : ℕ) : Type 0 where
  pub left : F (cut_at k (rest m s c₀)) ≡ F (cut_at k (rest m s c))
  pub inside : Within m s c

pub left_start : {A : Type 0} (F : List (List ℕ) → A) (k m : ℕ) (s : List ℕ) (c : ℕ) → Within m s c → Left F k m s c c
left_start F k m s c h = record { left = refl; inside = h }

-- ---- items

module _ (p : ℕ) {m : ℕ} {s : List ℕ} {c₀ c e : ℕ} (t : Left (are_items p) 44 m s c₀ c) (d : Ends 44 m s c e) where
  pub items_bad : is_read (read_item ical (get_or part_names p []) (rest m (take e s) c)) ≡ false → false ≡ are_items p (cut_at 44 (rest m s c₀))
  unfolding are_items ◌and◌
  items_bad h = sym (t.left ∙ rw (pieces_any d, h))

  module _ {n : Unit} (q : Reads m s e n) (h : is_read (read_item ical (get_or part_names p []) (rest m (take e s) c)) ≡ true) where
    pub items_last : n.u ≡ 256 → true ≡ are_items p (cut_at 44 (rest m s c₀))
    unfolding are_items ◌and◌
    items_last z = sym (t.left ∙ rw (pieces_last d q z, h))

    pub items_more : (n.u ≡ 256 → ⊥) → Left (are_items p) 44 m s c₀ n.next
    unfolding are_items ◌and◌
    items_more z = record { left = t.left ∙ rw (pieces_more d q z, h); inside = (step_less d.inside q z).1 }

-- ---- one more read

pub cons_read_lem : {A : Type 0} (o : Option A) (q : Option (List A)) → is_read (and_then o (λ b. cons_read b q)) ≡ (is_read o and is_read q)
unfolding and_then cons_read is_read ◌and◌
cons_read_lem None q = refl
cons_read_lem (Some a) None = refl
cons_read_lem (Some a) (Some l) = refl
