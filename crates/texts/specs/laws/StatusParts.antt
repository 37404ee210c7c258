-- Laws of what specs/StatusParts.antt defines.
--     status_is           a REQUEST-STATUS is read where its texts are, and are two or three
use Rattle.std.specs.Prelude.{◌≡◌, refl, Bool, true, false, List, [], ◌∷◌, ℕ, eqb, Option, None, Some}
use Rattle.std.proofs.Math.Path.{sym}
use Rattle.std.proofs.Common.{◌∙◌, rules}
use Rattle.std.specs.Bool.{then_some}
use Rattle.octets.specs.Pick.{pick, ◌and◌}
use Rattle.octets.specs.Words.{is_empty}
use Rattle.octets.specs.Reading.{and_then, is_read, cons_read}
use Rattle.octets.specs.laws.Reading.{and_then-some, cons_read-some}
use Rattle.source.specs.Source.{rest, spell, Reads}
use Rattle.source.specs.laws.Facts.{rest_byte, rest_end}
use Rattle.source.specs.declared.points.Unit.{Unit}
use Rattle.texts.specs.Text.{split_text}
use Rattle.texts.specs.laws.Text.{text_from, split_some}
use Rattle.texts.specs.RequestStatus.{status_of, read_request_status}
use Rattle.texts.specs.Items.{item_from, behind_from, pieces_behind, ItemEnds}
use Rattle.texts.specs.laws.Items.{split_item}
use Rattle.texts.specs.StatusParts.{soon_over, in_parts, PartsFound, StatusEnds}
use Rattle.texts.specs.declared.StatusParts.{StatusParts}

-- ---- the parts counted

abbrev at_most_one : List (List ℕ) → Bool
at_most_one [] = true
at_most_one (p ∷ ps) = is_empty ps

abbrev one_or_two : List (List ℕ) → Bool
one_or_two [] = false
one_or_two (p ∷ ps) = at_most_one ps

abbrev two_or_three : List (List ℕ) → Bool
two_or_three [] = false
two_or_three (p ∷ ps) = one_or_two ps

status_count : (ps : List (List ℕ)) → is_read (status_of ps) ≡ two_or_three ps
unfolding is_read
status_count [] = refl
status_count (c ∷ []) = refl
status_count (c ∷ d ∷ []) = refl
status_count (c ∷ d ∷ x ∷ []) = refl
status_count (c ∷ d ∷ x ∷ p ∷ ps) = refl

-- the first piece, which is the first item, and the pieces behind it
pub record Pieces (s : List ℕ) (ps : List (List ℕ)) : Type 0 where
  pub first : List ℕ
  pub others : List (List ℕ)
  pub read : text_from false (item_from false 59 s) ≡ Some first
  pub is : ps ≡ first ∷ others
  pub behind : pieces_behind 59 (behind_from false 59 s) ≡ Some others

pub pieces : (s : List ℕ) (ps : List (List ℕ)) → split_text 59 s ≡ Some ps → Pieces s ps
pieces s ps h =
    let a = and_then-some (text_from false (item_from false 59 s)) (λ p. cons_read p (pieces_behind 59 (behind_from false 59 s))) ps (sym (split_item s false 59) ∙ h) in
    let b = cons_read-some a.0 (pieces_behind 59 (behind_from false 59 s)) ps a.2 in
    record { first = a.0; others = b.0; read = a.1; is = sym b.2; behind = b.1 }

pub behind_empty : (s : List ℕ) (ps : List (List ℕ)) → pieces_behind 59 s ≡ Some ps → is_empty ps ≡ is_empty s
behind_empty [] ps h = let z : [] ≡ ps = cc in rw (← z)
behind_empty (x ∷ s) ps h = split_some 59 s ps h

behind_soon : (s : List ℕ) (ps : List (List ℕ)) → pieces_behind 59 s ≡ Some ps → at_most_one ps ≡ soon_over s
behind_soon [] ps h = let z : [] ≡ ps = cc in rw (← z)
behind_soon (x ∷ s) ps h = let p = pieces s ps h in rw p.is (behind_empty (behind_from false 59 s) p.others p.behind)

behind_parts : (s : List ℕ) (ps : List (List ℕ)) → pieces_behind 59 s ≡ Some ps → one_or_two ps ≡ in_parts s
behind_parts [] ps h = let z : [] ≡ ps = cc in rw (← z)
behind_parts (x ∷ s) ps h = let p = pieces s ps h in rw p.is (behind_soon (behind_from false 59 s) p.others p.behind)

pub status_is : (s : List ℕ) → is_read (read_request_status s) ≡ (is_read (split_text 59 s) and in_parts (behind_from false 59 s))
unfolding and_then is_read ◌and◌
status_is s = go (split_text 59 s) refl
  where
    go : (o : Option (List (List ℕ))) → split_text 59 s ≡ o → is_read (and_then o status_of) ≡ (is_read o and in_parts (behind_from false 59 s))
    go None e = refl
    go (Some ps) e = let p = pieces s ps e in status_count ps ∙ rw p.is (behind_parts (behind_from false 59 s) p.others p.behind)

-- ---- laws of the code

module _ {m : ℕ} {s : List ℕ} {b : ℕ} {n : Unit} (p : Reads m s b n) where
  pub soon_now : n.u ≡ 256 → true ≡ soon_over (rest m s b)
  soon_now h = rw (rest_end p h)

  pub soon_last : {e : ℕ} {w : Unit} → (n.u ≡ 256 → ⊥) → ItemEnds 59 m s n.next e → Reads m s e w → eqb w.u 256 ≡ soon_over (rest m s b)
  unfolding spell pick
  soon_last {e} {w} h i q = rw (rest_byte p h, ← i.left, q.is) (go (eqb w.u 256))
    where
      go : (t : Bool) → t ≡ is_empty (pick t [] (w.u ∷ rest m s w.next))
      go true = refl
      go false = refl

pub ruleset ending_soon = (soon_now, soon_last, rules)

module _ {m : ℕ} {s : List ℕ} {c a : ℕ} {n : Unit} (i : ItemEnds 59 m s c a) (p : Reads m s a n) where
  pub parts_none : n.u ≡ 256 → PartsFound m s c None
  parts_none h = record { is = rw (← i.left, rest_end p h); parts = tt }

  module _ {b : ℕ} {t : Bool} (h : n.u ≡ 256 → ⊥) (j : ItemEnds 59 m s n.next b) (k : t ≡ soon_over (rest m s b)) where
    counted : in_parts (behind_from false 59 (rest m s c)) ≡ t
    counted = rw (← i.left, rest_byte p h, ← j.left) (sym k)

    pub parts_found : PartsFound m s c (then_some t (record { code_end = a; description = n.next; description_end = b }))
    parts_found = go t counted
      where
        go : (t : Bool) → in_parts (behind_from false 59 (rest m s c)) ≡ t →
            PartsFound m s c (then_some t (record { code_end = a; description = n.next; description_end = b }))
        go true e = record {
          is = sym e;
          parts = record { code = i; behind = rw (rest_byte p h); plain = λ z. p.plain z h; description = j };
        }
        go false e = record { is = sym e; parts = tt }

pub ruleset finding_parts = (parts_none, parts_found, rules)

module _ {m : ℕ} {s : List ℕ} {c : ℕ} {t : Bool} (k : t ≡ is_read (split_text 59 (rest m s c))) where
  pub status_found : {r : Option StatusParts} → t ≡ true → PartsFound m s c r → StatusEnds m s c r
  unfolding ◌and◌
  status_found h p = record { is = p.is ∙ sym (status_is (rest m s c) ∙ rw (← k, h)); parts = p.parts }

  pub status_bad : t ≡ false → StatusEnds m s c None
  unfolding ◌and◌
  status_bad h = record { is = sym (status_is (rest m s c) ∙ rw (← k, h)); parts = tt }

pub ruleset reading_status = (status_found, status_bad, rules)
