-- Laws of what specs/Items.antt defines.
--     split_item               a list is its first item, read alone, in front of what is read behind the separator
--     item_cut, item_first, item_last, item_more   the item cut out of the slice, the last one and one before others
use Rattle.std.specs.Prelude.{◌≡◌, refl, Bool, true, false, List, [], ◌∷◌, ℕ, ◌*◌, max, ◌≤◌, ◌<◌, eqb, length, take, Option, None, Some}
use Rattle.std.proofs.Math.Path.{sym}
use Rattle.std.proofs.Common.{ap, ◌∙◌, arith, rules, eqb-true}
use Rattle.std.proofs.lemmas.Bool.{false≢true}
use Rattle.octets.specs.Pick.{pick, ◌and◌, ◌or◌}
use Rattle.octets.specs.laws.Pick.{and_both}
use Rattle.octets.specs.Append.{◌⊕◌}
use Rattle.octets.specs.Words.{onto}
use Rattle.octets.specs.Reading.{and_then, cons_read}
use Rattle.source.specs.Source.{rest, cuts, Reach, Reads}
use Rattle.source.specs.laws.Facts.{rest_byte, rest_end, byte_small, cut_is, reach_here, reach_on}
use Rattle.source.specs.declared.points.Unit.{Unit}
use Rattle.texts.specs.Text.{Sign, char, opening, separator, fault, is_break, bare_sign, sign_of, opens, onto_read, with_sign, split_from, split_text, read_text}
use Rattle.texts.specs.laws.Text.{text_sign, text_from, text_step}
use Rattle.texts.specs.laws.Unescaped.{is_separator, separator_none}
use Rattle.texts.specs.Items.{is_between, item_from, behind_from, pieces_behind, ItemEnds}

pub item_behind : (s : List ℕ) (after : Bool) (c : ℕ) → item_from after c s ⊕ behind_from after c s ≡ s
unfolding item_from behind_from ◌⊕◌ pick
item_behind [] after c = refl
item_behind (b ∷ s) after c = go (is_between after c b) (item_behind s (opens after b) c)
  where
    go : (t : Bool) → item_from (opens after b) c s ⊕ behind_from (opens after b) c s ≡ s →
        pick t [] (b ∷ item_from (opens after b) c s) ⊕ pick t (b ∷ s) (behind_from (opens after b) c s) ≡ b ∷ s
    go true h = refl
    go false h = ap (λ (l : List ℕ). b ∷ l) h

-- a byte that is no bare separator is the same in a list and alone
sign_same : (after : Bool) (c b : ℕ) → is_between after c b ≡ false → sign_of after c b ≡ sign_of after 0 b
unfolding pick ◌and◌ ◌or◌
sign_same true c b h = refl
sign_same false c b h = go (eqb b 92) (is_break b) (eqb b c) (eqb b 0) h (zero (eqb b 0) refl)
  where
    zero : (t : Bool) → eqb b 0 ≡ t → (t and is_break b) ≡ false
    zero true e = rw (eqb-true b 0 e)
    zero false e = refl

    go : (k h x z : Bool) → (x and h) ≡ false → (z and h) ≡ false → pick k opening (pick h (pick x separator fault) (char b)) ≡ pick k opening (pick h (pick z separator fault) (char b))
    go true h x z p q = refl
    go false true true z p q = absurd (false≢true (sym p))
    go false true false true p q = absurd (false≢true (sym q))
    go false true false false p q = refl
    go false false x z p q = refl

-- a bare separator
between_sign : (c b : ℕ) (ps : Bool → Option (List (List ℕ))) → (eqb b c and is_break b) ≡ true → with_sign (bare_sign c b) (ps (eqb b 92)) ≡ cons_read [] (ps false)
unfolding pick ◌or◌
between_sign c b ps h = let q = and_both (eqb b c) (is_break b) h in go (eqb b 44) refl (eqb b 59) refl q.0 q.1
  where
    go : (t : Bool) → eqb b 44 ≡ t → (u : Bool) → eqb b 59 ≡ u → eqb b c ≡ true → (t or u) ≡ true → with_sign (bare_sign c b) (ps (eqb b 92)) ≡ cons_read [] (ps false)
    go true e u f x y = let z : b ≡ 44 = eqb-true b 44 e in let w : eqb 44 c ≡ true = rw z at x in rw (z, w)
    go false e true f x y = let z : b ≡ 59 = eqb-true b 59 f in let w : eqb 59 c ≡ true = rw z at x in rw (z, w)
    go false e false f x y = absurd (false≢true y)

-- what a sign adds in front of a list, it adds to the first item
with_first : (g : Sign) (o : Option (List ℕ)) (q : Option (List (List ℕ))) → is_separator g ≡ false →
    with_sign g (and_then o (λ p. cons_read p q)) ≡ and_then (text_sign g o) (λ p. cons_read p q)
unfolding and_then cons_read onto_read onto
with_first (char x) None q h = refl
with_first (char x) (Some p) None h = refl
with_first (char x) (Some p) (Some l) h = refl
with_first opening o q h = refl
with_first separator o q h = absurd (false≢true (sym h))
with_first fault o q h = refl

pub split_item : (s : List ℕ) (after : Bool) (c : ℕ) →
    split_from after c s ≡ and_then (text_from after (item_from after c s)) (λ p. cons_read p (pieces_behind c (behind_from after c s)))
unfolding split_from item_from behind_from and_then cons_read pick
split_item [] true c = refl
split_item [] false c = refl
split_item (b ∷ s) after c = go (is_between after c b) refl (split_item s (opens after b) c)
  where
    one : (a : Bool) → is_between a c b ≡ true →
        with_sign (sign_of a c b) (split_from (opens a b) c s) ≡ and_then (text_from a []) (λ p. cons_read p (split_text c s))
    one true h = absurd (false≢true h)
    one false h = between_sign c b (λ a. split_from a c s) h

    go : (t : Bool) → is_between after c b ≡ t →
        split_from (opens after b) c s ≡ and_then (text_from (opens after b) (item_from (opens after b) c s)) (λ p. cons_read p (pieces_behind c (behind_from (opens after b) c s))) →
        with_sign (sign_of after c b) (split_from (opens after b) c s)
        ≡ and_then (text_from after (pick t [] (b ∷ item_from (opens after b) c s))) (λ p. cons_read p (pieces_behind c (pick t (b ∷ s) (behind_from (opens after b) c s))))
    go true e ih = one after e
    go false e ih =
        ap (with_sign (sign_of after c b)) ih
        ∙ rw (sign_same after c b e) (with_first (sign_of after 0 b) (text_from (opens after b) (item_from (opens after b) c s)) (pieces_behind c (behind_from (opens after b) c s)) (separator_none after b))
        ∙ ap (λ (o : Option (List ℕ)). and_then o (λ p. cons_read p (pieces_behind c (behind_from (opens after b) c s)))) (sym (text_step after b (item_from (opens after b) c s)))

-- ---- an item at a cursor

-- what is lent, cut at the item's end, is the item
pub item_cut : (sep m : ℕ) (s : List ℕ) (c r : ℕ) → cuts m ≡ true → ItemEnds sep m s c r → rest m (take r s) c ≡ item_from false sep (rest m s c)
item_cut sep m s c r y p = cut_is m s (item_from false sep (rest m s c)) c r y p.onward p.reach (rw p.left (sym (item_behind (rest m s c) false sep)))

-- the list from c on: the item at c, which is the last where nothing stands behind it
pub item_first : (sep m : ℕ) (s : List ℕ) (c r : ℕ) → cuts m ≡ true → ItemEnds sep m s c r →
    split_text sep (rest m s c) ≡ and_then (read_text (rest m (take r s) c)) (λ p. cons_read p (pieces_behind sep (rest m s r)))
item_first sep m s c r y p = rw (item_cut sep m s c r y p, p.left) (split_item (rest m s c) false sep)

module _ {sep m : ℕ} {s : List ℕ} {c r : ℕ} {n : Unit} (y : cuts m ≡ true) (p : ItemEnds sep m s c r) (q : Reads m s r n) where
  pub item_last : n.u ≡ 256 → split_text sep (rest m s c) ≡ and_then (read_text (rest m (take r s) c)) (λ p. Some (p ∷ []))
  unfolding cons_read
  item_last h = item_first sep m s c r y p ∙ rw (rest_end q h)

  pub item_more : (n.u ≡ 256 → ⊥) → split_text sep (rest m s c) ≡ and_then (read_text (rest m (take r s) c)) (λ p. cons_read p (split_text sep (rest m s n.next)))
  item_more h = item_first sep m s c r y p ∙ rw (rest_byte q h)

-- ---- the loop of `item_end`

pub record Walking (sep m : ℕ) (s : List ℕ) (c₀ : ℕ) (after : Bool) (c : ℕ) : Type 0 where
  pub left : behind_from false sep (rest m s c₀) ≡ behind_from after sep (rest m s c)
  pub onward : c₀ ≤ c
  pub inside : c ≤ max c₀ (4 * length s)
  pub plain : cuts m ≡ true → c₀ ≤ length s → c ≤ length s
  pub reach : Reach m s c₀ c

pub walk_start : (sep m : ℕ) (s : List ℕ) (c : ℕ) → Walking sep m s c false c
walk_start sep m s c = record { left = refl; onward = omega arith; inside = omega arith; plain = λ z h. h; reach = reach_here m s c }

module _ {sep m : ℕ} {s : List ℕ} {c₀ : ℕ} {after : Bool} {c : ℕ} {n : Unit} (w : Walking sep m s c₀ after c) (p : Reads m s c n) where
  pub walk_more : {t after' : Bool} → (n.u ≡ 256 → ⊥) → t ≡ is_between after sep n.u → t ≡ false → after' ≡ opens after n.u → Walking sep m s c₀ after' n.next
  unfolding behind_from pick
  walk_more h k l q =
      let u : n.u < 256 = byte_small p h in record {
        left = w.left ∙ rw (rest_byte p h, ← k, l, q);
        onward = omega arith;
        inside = omega arith;
        plain = λ z b. p.plain z h;
        reach = reach_on w.onward (omega arith) w.reach p.reach;
      }

  pub walk_stop : {t : Bool} → (n.u ≡ 256 → ⊥) → t ≡ is_between after sep n.u → t ≡ true → ItemEnds sep m s c₀ c
  unfolding behind_from pick
  walk_stop h k l = record { left = sym (w.left ∙ rw (rest_byte p h, ← k, l)); onward = w.onward; inside = w.inside; plain = w.plain; reach = w.reach }

  pub walk_end : n.u ≡ 256 → ItemEnds sep m s c₀ c
  unfolding behind_from
  walk_end h = record { left = sym (w.left ∙ rw (rest_end p h)); onward = w.onward; inside = w.inside; plain = w.plain; reach = w.reach }

pub ruleset walking = (walk_start, walk_more, walk_stop, walk_end, rules)
