-- A rule by its pieces: one part, and the whole rule.
--     value_none, value_after, listed_at, part_listed, part_single    one part
--     known, part_same      the place of a part's name, and names compared by their places
--     rule_read             whether there is a rule
use Rattle.std.specs.Prelude.{◌≡◌, refl, Bool, List, [], ◌∷◌, map, ℕ, zero, suc, ◌≤◌, ◌<◌, eqb, length, take, get_or, Option, None, Some}
use Rattle.std.proofs.Math.Path.{sym}
use Rattle.std.proofs.Common.{ap, ◌∙◌, arith, lt-ltb}
use Rattle.std.proofs.Math.Bool.{true, false}
use Rattle.std.proofs.lemmas.Bool.{false≢true}
use Rattle.std.proofs.Math.ListN.{get_or-map}
use Rattle.octets.specs.Ascii.{ascii}
use Rattle.octets.specs.Pick.{pick, ◌and◌, ◌or◌}
use Rattle.octets.specs.laws.Pick.{and_no_right, and-true}
use Rattle.octets.specs.Class.{upper}
use Rattle.octets.specs.Lists.{distinct}
use Rattle.octets.specs.Words.{same, is_one_of, cut_at, row_of}
use Rattle.octets.specs.laws.Words.{same_either}
use Rattle.octets.specs.Reading.{and_then, is_read, cons_read, read_each}
use Rattle.octets.specs.laws.Reading.{and_then-some, cons_read-some}
use Rattle.octets.specs.Computing.{octets_compute}
use Rattle.octets.specs.Front.{from_on, past}
use Rattle.calendar.specs.Calendar.{ical, RulePart}
use Rattle.source.specs.Source.{rest, cuts, Reads}
use Rattle.source.specs.laws.Facts.{rest_byte, rest_end, rest_past}
use Rattle.source.specs.declared.points.Unit.{Unit}
use Rattle.names.specs.Packing.{agree, packing_compute}
use Rattle.names.specs.Table.{place_of, nth}
use Rattle.names.specs.laws.Table.{row_place, one_of_place}
use Rattle.names.specs.laws.Places.{same_place}
use Rattle.recur.specs.Parts.{Part, part_of, part_names, part_table, is_listed, is_list_part}
use Rattle.recur.specs.Packs.{part_rows, part_rows2}
use Rattle.recur.specs.Item.{read_item}
use Rattle.recur.specs.Rule.{rule_part, is_equals, items_of, read_part, name_of, has_part, is_complete, in_order, ruled, read_rule}
use Rattle.recur.specs.laws.Fits.{part_at, beyond, read_then, provided_is}
use Rattle.recur.specs.Computing.{recur_compute}
use Rattle.recur.specs.Pieces.{Ends, piece_name, place_at, are_items}
use Rattle.recur.specs.laws.Pieces.{has_place, each_part, is_whole}
use Rattle.recur.specs.laws.PieceLaws.{piece_is, cons_read_lem}

-- ---- the characters after the first that passes a test

abbrev tail_of : List ℕ → List ℕ
tail_of [] = []
tail_of (b ∷ t) = t

past_from : (p : ℕ → Bool) (s : List ℕ) → past p s ≡ tail_of (from_on p s)
unfolding past from_on pick
past_from p [] = refl
past_from p (b ∷ s) = go (p b) (past_from p s)
  where
    go : (t : Bool) → past p s ≡ tail_of (from_on p s) → pick t s (past p s) ≡ tail_of (pick t (b ∷ s) (from_on p s))
    go true ih = refl
    go false ih = ih

-- ---- one part

-- the numbers of the code are those of the names
pub names_packed : agree part_rows part_rows2 part_names ≡ true
unfolding packing_compute
names_packed = refl

pub name_found : (m : ℕ) (s : List ℕ) (c e : ℕ) {n : ℕ} → Ends 61 m s c e → n ≡ place_of (upper (rest m (take e s) c)) part_names → n ≡ place_at (rest m s c)
unfolding place_at
name_found m s c e d h = h ∙ rw (piece_is d)

module _ {m : ℕ} {s : List ℕ} {c e : ℕ} {n : Unit} (d : Ends 61 m s c e) (q : Reads m s e n) where
  pub value_none : n.u ≡ 256 → past is_equals (rest m s c) ≡ rest m s e
  value_none h = past_from is_equals (rest m s c) ∙ rw (← d.left, rest_end q h)

  pub value_after : (n.u ≡ 256 → ⊥) → past is_equals (rest m s c) ≡ rest m s n.next
  value_after h = past_from is_equals (rest m s c) ∙ rw (← d.left, rest_byte q h)

pub listed_at : (p : ℕ) → eqb (get_or (0 ∷ 0 ∷ 0 ∷ 0 ∷ 1 ∷ 1 ∷ 1 ∷ 1 ∷ 1 ∷ 1 ∷ 1 ∷ 1 ∷ 1 ∷ 0 ∷ []) p 0) 1 ≡ is_listed (part_of (get_or part_names p []))
unfolding octets_compute
listed_at p =
    sym (get_or-map (λ (x : ℕ). eqb x 1) (0 ∷ 0 ∷ 0 ∷ 0 ∷ 1 ∷ 1 ∷ 1 ∷ 1 ∷ 1 ∷ 1 ∷ 1 ∷ 1 ∷ 1 ∷ 0 ∷ []) p 0)
    ∙ get_or-map (λ (n : List ℕ). is_listed (part_of n)) part_names p []

pub listed_beyond : (p : ℕ) → 14 ≤ p → false ≡ is_listed (part_of (get_or part_names p []))
listed_beyond p h = sym (rw (part_at p, beyond (map (λ (r : Part). Some r) part_table) p h))

nth_at : {A : Type 0} (l : List A) (k : ℕ) → nth l k ≡ get_or (map (λ (a : A). Some a) l) k None
unfolding nth
nth_at [] k = refl
nth_at (a ∷ l) zero = refl
nth_at (a ∷ l) (suc k) = nth_at l k

nth_inside : {A : Type 0} (l : List A) (k : ℕ) (a : A) → nth l k ≡ Some a → k < length l
unfolding nth
nth_inside [] k a h = let z : ◌≡◌ {A = ℕ} 0 1 = cc in absurd (omega arith)
nth_inside (x ∷ l) zero a h = omega arith
nth_inside (x ∷ l) (suc k) a h = omega (arith, nth_inside l k a h)

-- the part of a name is the part at its place
part_place_lem : (n : List ℕ) → part_of n ≡ part_of (get_or part_names (place_of n part_names) [])
part_place_lem n = row_place (λ (r : Part). r.name) n part_table ∙ nth_at part_table (place_of n part_names) ∙ sym (part_at (place_of n part_names))

items_read : (n : List ℕ) (l : List (List ℕ)) → is_read (read_each (read_item ical n) l) ≡ are_items (place_of n part_names) l
unfolding read_each are_items is_read
items_read n [] = refl
items_read n (x ∷ l) = cons_read_lem (read_item ical n x) (read_each (read_item ical n) l) ∙ rw (items_read n l, part_place_lem n)

module _ (w : List ℕ) where
  part_read : is_read (read_part w) ≡ are_items (place_of (piece_name w) part_names) (items_of (piece_name w) (past is_equals w))
  part_read = read_then (read_each (read_item ical (piece_name w)) (items_of (piece_name w) (past is_equals w))) _ ∙ items_read (piece_name w) (items_of (piece_name w) (past is_equals w))

  pub part_listed : {r : Bool} → is_listed (part_of (get_or part_names (place_at w) [])) ≡ true → r ≡ are_items (place_at w) (cut_at 44 (past is_equals w)) → r ≡ is_read (read_part w)
  unfolding place_at pick
  part_listed h e =
      let l : is_list_part (piece_name w) ≡ true = rw (part_place_lem (piece_name w)) h in
      e ∙ sym (part_read ∙ rw l)

  pub part_single : {r : Bool} → is_listed (part_of (get_or part_names (place_at w) [])) ≡ false → r ≡ is_read (read_item ical (get_or part_names (place_at w) []) (past is_equals w)) → r ≡ is_read (read_part w)
  unfolding place_at pick are_items
  part_single h e =
      let l : is_list_part (piece_name w) ≡ false = rw (part_place_lem (piece_name w)) h in
      e ∙ sym (part_read ∙ rw l (and-true (is_read (read_item ical (get_or part_names (place_of (piece_name w) part_names) []) (past is_equals w)))))

-- ---- the whole rule

none_items : (w : List ℕ) → part_of (piece_name w) ≡ None → are_items (place_of (piece_name w) part_names) (items_of (piece_name w) (past is_equals w)) ≡ false
unfolding pick are_items and_then is_read ◌and◌
none_items w e =
    let g : part_of (get_or part_names (place_of (piece_name w) part_names) []) ≡ None = sym (part_place_lem (piece_name w)) ∙ e in
    rw (e, g)

-- a piece that is a part has a part's name
pub known : (w : List ℕ) → is_read (read_part w) ≡ true → place_at w < 14
unfolding place_at
known w h = go (part_of (piece_name w)) refl (sym (part_read w) ∙ h)
  where
    go : (o : Option Part) → part_of (piece_name w) ≡ o → are_items (place_of (piece_name w) part_names) (items_of (piece_name w) (past is_equals w)) ≡ true → place_of (piece_name w) part_names < 14
    go None e k = absurd (false≢true (sym (none_items w e) ∙ k))
    go (Some r) e k = nth_inside part_table (place_of (piece_name w) part_names) r (sym (row_place (λ (r : Part). r.name) (piece_name w) part_table) ∙ e)

-- two names, one of a part, by their places
pub part_same : (n x : List ℕ) → place_of n part_names < 14 → eqb (place_of x part_names) (place_of n part_names) ≡ same n x
part_same n x l = sym (same_either n x ∙ same_place x n part_names (one_of_place n part_names ∙ lt-ltb (place_of n part_names) 14 l))

one_place : (n : List ℕ) → place_of n part_names < 14 → (ws : List (List ℕ)) → has_place (place_of n part_names) ws ≡ is_one_of n (map piece_name ws)
unfolding has_place place_at is_one_of
one_place n l [] = refl
one_place n l (w ∷ ws) = rw (part_same n (piece_name w) l, one_place n l ws)

each_part_lem : (ws : List (List ℕ)) → each_part ws ≡ (is_read (read_each read_part ws) and distinct (map piece_name ws))
unfolding each_part read_each distinct place_at ◌and◌ is_read pick
each_part_lem [] = refl
each_part_lem (w ∷ ws) = rw (cons_read_lem (read_part w) (read_each read_part ws)) (go (is_read (read_part w)) refl (each_part_lem ws))
  where
    shuffle : (h a d : Bool) → pick h false (a and d) ≡ (a and pick h false d)
    shuffle true a d = sym (and_no_right a false refl)
    shuffle false a d = refl

    go : (t : Bool) → is_read (read_part w) ≡ t → each_part ws ≡ (is_read (read_each read_part ws) and distinct (map piece_name ws)) →
        (t and pick (has_place (place_of (piece_name w) part_names) ws) false (each_part ws))
        ≡ ((t and is_read (read_each read_part ws)) and pick (is_one_of (piece_name w) (map piece_name ws)) false (distinct (map piece_name ws)))
    go true e ih = rw (one_place (piece_name w) (known w e) ws, ih) (shuffle (is_one_of (piece_name w) (map piece_name ws)) (is_read (read_each read_part ws)) (distinct (map piece_name ws)))
    go false e ih = refl

cons_same : {x y : List ℕ} {l m : List (List ℕ)} → x ≡ y → l ≡ m → x ∷ l ≡ y ∷ m
cons_same p q = cc

names_kept : (ws : List (List ℕ)) (ps : List RulePart) → read_each read_part ws ≡ Some ps → map name_of ps ≡ map piece_name ws
unfolding read_each
names_kept [] ps h = let z : [] ≡ ps = cc in rw (← z)
names_kept (w ∷ ws) ps h =
    let e = and_then-some (read_part w) (λ b. cons_read b (read_each read_part ws)) ps h in
    let f = cons_read-some e.0 (read_each read_part ws) ps e.2 in
    let g = and_then-some (read_each (read_item ical (piece_name w)) (items_of (piece_name w) (past is_equals w))) (λ is. Some (rule_part (piece_name w) is)) e.0 e.1 in
    let z : rule_part (piece_name w) g.0 ≡ e.0 = cc g.2 in
    sym (ap (λ (l : List RulePart). map name_of l) f.2) ∙ cons_same (sym (ap (λ (p : RulePart). name_of p) z)) (names_kept ws f.0 f.1)

has_named : (n : List ℕ) (ps : List RulePart) → has_part n ps ≡ is_one_of n (map name_of ps)
unfolding row_of is_read is_one_of ◌or◌ pick
has_named n [] = refl
has_named n (p ∷ ps) = go (same n p.part) (has_named n ps)
  where
    go : (t : Bool) → has_part n ps ≡ is_one_of n (map name_of ps) → is_read (pick t (Some p) (row_of name_of n ps)) ≡ (t or is_one_of n (map name_of ps))
    go true ih = refl
    go false ih = ih

whole_is : (ws : List (List ℕ)) (ps : List RulePart) → map name_of ps ≡ map piece_name ws → is_complete ps ≡ is_whole ws
unfolding octets_compute place_of
whole_is ws ps h =
    let a : has_place 0 ws ≡ is_one_of (ascii "FREQ") (map piece_name ws) = one_place (ascii "FREQ") (omega arith) ws in
    let b : has_place 1 ws ≡ is_one_of (ascii "UNTIL") (map piece_name ws) = one_place (ascii "UNTIL") (omega arith) ws in
    let c : has_place 2 ws ≡ is_one_of (ascii "COUNT") (map piece_name ws) = one_place (ascii "COUNT") (omega arith) ws in
    rw (a, b, c, has_named (ascii "FREQ") ps, has_named (ascii "UNTIL") ps, has_named (ascii "COUNT") ps, h)

pub rule_read : (s : List ℕ) → is_read (read_rule s) ≡ (each_part (cut_at 59 s) and is_whole (cut_at 59 s))
unfolding and_then is_read ◌and◌
rule_read s = rw (each_part_lem (cut_at 59 s)) (go (read_each read_part (cut_at 59 s)) refl)
  where
    go : (o : Option (List RulePart)) → read_each read_part (cut_at 59 s) ≡ o →
        is_read (and_then o ruled) ≡ ((is_read o and distinct (map piece_name (cut_at 59 s))) and is_whole (cut_at 59 s))
    go None e = refl
    go (Some ps) e =
        let h = names_kept (cut_at 59 s) ps e in
        provided_is (distinct (map name_of ps) and is_complete ps) (in_order part_names ps) ∙ rw (h, whole_is (cut_at 59 s) ps h)

no_rule : is_read (read_rule []) ≡ false
unfolding recur_compute
no_rule = refl

pub rule_beyond : (m : ℕ) (s : List ℕ) (c : ℕ) → cuts m ≡ true → length s < c → is_read (read_rule (rest m s c)) ≡ false
rule_beyond m s c y h = let l : length s ≤ c = omega arith in rw (rest_past m s c y l) no_rule
