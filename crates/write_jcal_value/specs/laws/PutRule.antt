-- A rule written from its text as an object: the rules for each way that the code goes.
--     numbers_at, numbers_beyond     whether the items of a part are numbers
--     put_listed, put_single         the items of a piece, by its part
--     put_one, put_array             one item alone, or several
--     put_piece, put_cut             a piece, and with what separates it
--     parts_start, parts_skip, parts_more, parts_end    the loop over the parts
--     nothing_read                   nothing of what was not read
use Rattle.std.specs.Prelude.{◌≡◌, refl, Bool, List, [], ◌∷◌, map, ℕ, zero, suc, ◌+◌, ◌-◌, ◌*◌, ◌^◌, ◌≤◌, ◌<◌, eqb, length, take, drop, get_or, Option, None, Some, option_map}
use Rattle.std.proofs.Math.Path.{sym}
use Rattle.std.proofs.Common.{◌∙◌, subst, arith, add-one, drop_of_length-le, drop-cons}
use Rattle.std.proofs.Math.Bool.{true, false}
use Rattle.std.proofs.lemmas.Bool.{false≢true}
use Rattle.std.proofs.Math.ListN.{get_or-map, get_or-eq_default}
use Rattle.octets.specs.Ascii.{ascii}
use Rattle.octets.specs.Pick.{pick}
use Rattle.octets.specs.Append.{◌⊕◌}
use Rattle.octets.specs.laws.Append.{append_regroup}
use Rattle.octets.specs.Class.{lower}
use Rattle.octets.specs.Words.{cut_at, joined_by, row_of}
use Rattle.octets.specs.Computing.{octets_compute}
use Rattle.octets.specs.Reading.{is_read, or_nothing}
use Rattle.octets.specs.Front.{up_to, past}
use Rattle.sink.specs.Sink.{Put}
use Rattle.sink.specs.laws.Sink.{◌▷◌}
use Rattle.source.specs.Source.{rest, cuts, Within, Reads}
use Rattle.source.specs.declared.points.Unit.{Unit}
use Rattle.recur.specs.Parts.{part_of, part_names, is_listed, is_list_part}
use Rattle.recur.specs.Rule.{is_equals, items_of}
use Rattle.recur.specs.Pieces.{Ends, piece_name}
use Rattle.recur.specs.laws.PieceLaws.{piece_is}
use Rattle.recur.specs.Noted.{piece_from, Standing}
use Rattle.json_text.specs.Bytes.{value_separator}
use Rattle.json_text.specs.Write.{quoted}
use Rattle.write_json.specs.Separated.{separator}
use Rattle.write_json.specs.laws.Separated.{Listing, listing_start, listing_more, listing_same, listing_end, put_first}
use Rattle.write_jcal_value.specs.Labels.{part_label}
use Rattle.write_jcal_value.specs.Rules.{has_numbers, item_shown, items_shown, piece_shown, with_member, named_shown}
use Rattle.write_jcal_value.specs.laws.Pieces.{one_piece, more_pieces}

-- ---- whether the items of a part are numbers

pub numbers_at : (p : ℕ) → get_or (false ∷ false ∷ true ∷ true ∷ true ∷ true ∷ true ∷ false ∷ true ∷ true ∷ true ∷ true ∷ true ∷ false ∷ []) p false ≡ has_numbers (part_of (get_or part_names p []))
unfolding octets_compute
numbers_at p = get_or-map (λ (n : List ℕ). has_numbers (part_of n)) part_names p []

pub numbers_beyond : (p : ℕ) → 14 ≤ p → false ≡ has_numbers (part_of (get_or part_names p []))
unfolding octets_compute
numbers_beyond p h = rw (get_or-eq_default part_names [] h)

-- ---- the items of a piece

module _ {d e : List ℕ} {o r : ℕ} (n v : List ℕ) {t : Bool} (q : t ≡ is_listed (part_of n)) where
  pub put_listed : t ≡ true → Put d e o r (items_shown n (cut_at 44 v)) → Put d e o r (items_shown n (items_of n v))
  unfolding pick
  put_listed h x = let k : is_list_part n ≡ true = sym q ∙ h in rw k x

  pub put_single : t ≡ false → Put d e o r (item_shown n v) → Put d e o r (items_shown n (items_of n v))
  unfolding items_shown pick
  put_single h x = let k : is_list_part n ≡ false = sym q ∙ h in rw k x

module _ {d e : List ℕ} {o r : ℕ} (n : List ℕ) {m : ℕ} {s : List ℕ} {c a : ℕ} {u : Unit} (p : Ends 44 m s c a) (q : Reads m s a u) where
  pub put_one : u.u ≡ 256 → Put d e o r (item_shown n (rest m (take a s) c)) → Put d e o r (items_shown n (cut_at 44 (rest m s c)))
  unfolding items_shown
  put_one h w = one_piece (item_shown n) p q h w

  pub put_array : (u.u ≡ 256 → ⊥) → Put d e o r (ascii "[" ⊕ joined_by value_separator (map (item_shown n) (cut_at 44 (rest m s c))) ⊕ ascii "]") → Put d e o r (items_shown n (cut_at 44 (rest m s c)))
  unfolding items_shown
  put_array h w = more_pieces (item_shown n) p q h w

-- ---- a piece

pub put_piece : {d e f : List ℕ} {o a r : ℕ} (p : ℕ) (w v : List ℕ) → past is_equals w ≡ v → Put d e o a (part_label p) → Put e f a r (items_shown (get_or part_names p []) (items_of (get_or part_names p []) v)) →
    Put d f o r (piece_shown (get_or part_names p []) w)
unfolding piece_shown
put_piece {d} {f = f} {o} {r = r} p w v h x y =
    let n = get_or part_names p [] in
    rw h (subst (Put d f o r) (append_regroup (quoted (lower n)) (ascii ":") (items_shown n (items_of n v))) (x ▷ y))

pub put_cut : {d e f : List ℕ} {o a r : ℕ} (n : List ℕ) {m : ℕ} {s : List ℕ} {c k : ℕ} (started : Bool) → Ends 59 m s c k → Put d e o a (separator started) → Put e f a r (piece_shown n (rest m (take k s) c)) →
    Put d f o r (separator started ⊕ piece_shown n (up_to (λ x. eqb x 59) (rest m s c)))
put_cut n started i x y = x ▷ (rw (piece_is i) at y)

-- ---- the parts in order

next_name : (ns ws : List (List ℕ)) (p : ℕ) → p < length ns →
    named_shown (drop p ns) ws ≡ with_member (option_map (piece_shown (get_or ns p [])) (row_of piece_name (get_or ns p []) ws)) (named_shown (drop (p + 1) ns) ws)
unfolding named_shown
next_name ns ws p h = rw (add-one, drop-cons ns p [] h)

pub parts_start : (ws : List (List ℕ)) (d : List ℕ) (at : ℕ) → length d * 1 < 2 ^ 63 → Listing false (named_shown part_names ws) d at d at false (named_shown (drop 0 part_names) ws)
parts_start ws d at z = listing_start false d at (named_shown part_names ws) z

abbrev pub left_parts : ℕ → List ℕ → ℕ → ℕ → List (List ℕ)
left_parts m s c p = named_shown (drop p part_names) (cut_at 59 (rest m s c))

module _ {m : ℕ} {s : List ℕ} {c : ℕ} {t : List (Option ℕ)} {d₀ : List ℕ} {at₀ : ℕ} {d : List ℕ} {at : ℕ} {started : Bool} {p : ℕ} (i : Standing m s c t)
    (w : Listing false (named_shown part_names (cut_at 59 (rest m s c))) d₀ at₀ d at started (left_parts m s c p)) (h : p < 14) where
  pub parts_skip : get_or t p None ≡ None → Listing false (named_shown part_names (cut_at 59 (rest m s c))) d₀ at₀ d at started (left_parts m s c (p + 1))
  parts_skip z = listing_same w _ (next_name part_names (cut_at 59 (rest m s c)) p h ∙ rw (i.is p h, z))

  pub parts_more : {b : ℕ} {e : List ℕ} {o : ℕ} → get_or t p None ≡ Some b →
      Put d e at o (separator started ⊕ piece_shown (get_or part_names p []) (up_to (λ x. eqb x 59) (rest m s b))) →
      Listing false (named_shown part_names (cut_at 59 (rest m s c))) d₀ at₀ e o true (left_parts m s c (p + 1))
  parts_more z x = listing_more w _ _ (next_name part_names (cut_at 59 (rest m s c)) p h ∙ rw (i.is p h, z)) x

-- the cursor at a piece
pub noted_within : {m : ℕ} {s : List ℕ} {c : ℕ} {t : List (Option ℕ)} → cuts m ≡ true → Standing m s c t → (p : ℕ) {b : ℕ} → get_or t p None ≡ Some b → Within m s b
noted_within y i p h = record { cut = y; most = i.inside p _ h }

pub parts_end : (ws : List (List ℕ)) {d₀ : List ℕ} {at₀ : ℕ} {d : List ℕ} {at : ℕ} {started : Bool} {p : ℕ} →
    Listing false (named_shown part_names ws) d₀ at₀ d at started (named_shown (drop p part_names) ws) → 14 ≤ p → Put d₀ d at₀ at (joined_by value_separator (named_shown part_names ws))
unfolding named_shown
parts_end ws w h = put_first (named_shown part_names ws) (listing_end w (rw (drop_of_length-le part_names h)))

-- ---- nothing

-- nothing is written where nothing was read
pub nothing_read : {A : Type 0} (w : A → List ℕ) {d e : List ℕ} {o q : ℕ} (u : Option A) → is_read u ≡ false → Put d e o q [] → Put d e o q (or_nothing w u)
unfolding is_read
nothing_read w None h p = p
nothing_read w (Some v) h p = absurd (false≢true (sym h))
