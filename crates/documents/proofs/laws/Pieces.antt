-- Laws of what specs/Pieces.antt defines.
--     turn_on, turn_end    a byte more
--     Searching            the invariant of the loop over a piece;   searching: its start, its turn, its ends
--     reached_none, reached_open, reached_end    what a program keeps, from piece to piece and from end to end
--     Going                the invariant of the loop over the ends in a piece;   going_start, going_end, going_open, going_over: its start, its turn, its ends
use Rattle.std.specs.Prelude.{◌≡◌, refl, Bool, ℕ, zero, suc, ◌+◌, ◌-◌, ◌≤◌, ◌<◌, eqb, get_or, Option, None, Some}
use Rattle.std.proofs.Math.Path.{sym, ap}
use Rattle.std.proofs.Common.{◌∙◌, arith, length-drop, drop_of_length-le, rules, eq-eqb, eqb-true}
use Rattle.std.proofs.Math.Bool.{true, false}
use mathlib.Core.List.{List, [], ◌∷◌, ◌++◌, append-nil, append_assoc}
use Rattle.std.proofs.Math.ListN.{length, take, drop, length-take, take-append-drop}
use Rattle.std.proofs.Math.Seq.{take-length}
use Rattle.octets.specs.Ascii.{ascii}
use Rattle.octets.specs.Pick.{pick, ◌and◌, ◌or◌}
use Rattle.octets.specs.laws.Pick.{pick_either, eqb_swap}
use Rattle.octets.specs.Append.{◌⊕◌, joined}
use Rattle.octets.specs.laws.Append.{append_is, append_empty, append_none, append_cons, append_regroup, length_both}
use Rattle.octets.specs.laws.Scan.{drop_next}
use Rattle.octets.specs.Words.{starts, holds}
use Rattle.octets.specs.laws.Words.{holds_split}
use Rattle.octets.specs.Computing.{octets_compute}
use Rattle.documents.specs.Log.{document_close, ahead, document_end, documents, Whole, AllWhole}
use Rattle.documents.specs.Pieces.{further, Ended, Opened, Reached, Kept}
use Rattle.documents.proofs.laws.Log.{ahead_none, ahead_twice, end_later, end_inside}
use Rattle.documents.specs.laws.Passed.{Passed}
use Rattle.documents.proofs.laws.Passed.{passed_none, passed_byte, no_close, plain_passed}
use Rattle.documents.proofs.laws.Splitting.{documents_split, end_longer, end_shorter}

-- ---- the front of document_close

-- a front, and one byte more of it
front_more : (s : List ℕ) (j : ℕ) → j < length s → take (j + 1) s ≡ take j s ⊕ (get_or s j 0 ∷ [])
unfolding ◌⊕◌
front_more [] j h = absurd (omega arith)
front_more (x ∷ s) zero h = refl
front_more (x ∷ s) (suc j) h = let q : suc j + 1 ≡ suc (j + 1) = omega arith in rw q (ap (λ (l : List ℕ). x ∷ l) (front_more s j (omega arith)))

front_without : (c : ℕ) (s : List ℕ) (j : ℕ) → holds c s ≡ false → holds c (take j s) ≡ false
unfolding holds ◌or◌
front_without c [] zero h = refl
front_without c [] (suc j) h = refl
front_without c (x ∷ s) zero h = refl
front_without c (x ∷ s) (suc j) h = let q = holds_split c x s h in rw q.0 (front_without c s j q.1)

-- where another byte follows a front, it is no front of the whole
other_byte : (u v : List ℕ) (c b : ℕ) (r : List ℕ) → eqb c b ≡ false → starts (u ⊕ (c ∷ v)) (u ⊕ (b ∷ r)) ≡ false
unfolding starts ◌⊕◌ ◌and◌
other_byte [] v c b r h = rw h
other_byte (x ∷ u) v c b r h = rw (eq-eqb x x refl) (other_byte u v c b r h)

whole_of : (j : ℕ) → j < 13 → take j document_close ⊕ (get_or document_close j 0 ∷ drop (j + 1) document_close) ≡ document_close
whole_of j h = ap (λ (l : List ℕ). take j document_close ⊕ l) (sym (drop_next document_close j h)) ∙ append_is (take j document_close) (drop j document_close) ∙ take-append-drop j document_close

front_apart : (j b : ℕ) (r : List ℕ) → j < 13 → eqb (get_or document_close j 0) b ≡ false → starts document_close (take j document_close ⊕ (b ∷ r)) ≡ false
front_apart j b r h e =
    ap (λ (w : List ℕ). starts w (take j document_close ⊕ (b ∷ r))) (sym (whole_of j h))
    ∙ other_byte (take j document_close) (drop (j + 1) document_close) (get_or document_close j 0) b r e

front_passed : (j b : ℕ) (r : List ℕ) → j < 13 → eqb (get_or document_close j 0) b ≡ false → Passed (take j document_close) (b ∷ r)
front_passed zero b r h e = passed_none (b ∷ r)
front_passed (suc j) b r h e =
    passed_byte 60 (take j (ascii "/icalendar>\n")) (b ∷ r) (ap (starts document_close) (sym (append_cons 60 (take j (ascii "/icalendar>\n")) (b ∷ r))) ∙ front_apart (suc j) b r h e)
    (plain_passed (take j (ascii "/icalendar>\n")) (b ∷ r) (front_without 60 (ascii "/icalendar>\n") j (unfold octets_compute in refl)))

-- ---- a byte more

-- a document's end comes with the last byte
pub turn_end : (j b : ℕ) (r : List ℕ) → j < 13 → further j b ≡ 13 → (j ≡ 12) × (document_end (take j document_close ⊕ (b ∷ r)) ≡ Some 13)
unfolding pick
turn_end j b r h m = go (eqb b (get_or document_close j 0)) refl (eqb b 60) m
  where
    go : (t : Bool) → eqb b (get_or document_close j 0) ≡ t → (u : Bool) → pick t (j + 1) (pick u 1 0) ≡ 13 → (j ≡ 12) × (document_end (take j document_close ⊕ (b ∷ r)) ≡ Some 13)
    go true e u m = let k : j ≡ 12 = omega arith in (k, last k (eqb-true b _ e))
      where
        last : j ≡ 12 → b ≡ get_or document_close j 0 → document_end (take j document_close ⊕ (b ∷ r)) ≡ Some 13
        last k q = rw (q, k) (unfold octets_compute document_end in refl)
    go false e true m = absurd (omega arith)
    go false e false m = absurd (omega arith)

-- else the search goes on, with m bytes
pub record Turned (j b m : ℕ) : Type 0 where
  pub before : ℕ
  pub counts : before + m ≡ j + 1
  pub left : (r : List ℕ) → document_end (take j document_close ⊕ (b ∷ r)) ≡ ahead before (document_end (take m document_close ⊕ r))

turn_same : (j b : ℕ) → j < 13 → b ≡ get_or document_close j 0 → Turned j b (j + 1)
turn_same j b h e = record {
  before = 0;
  counts = omega arith;
  left = λ r.
      ap (λ (x : ℕ). document_end (take j document_close ⊕ (x ∷ r))) e
      ∙ ap (λ (l : List ℕ). document_end (take j document_close ⊕ l)) (sym (append_cons (get_or document_close j 0) [] r ∙ ap (λ (l : List ℕ). get_or document_close j 0 ∷ l) (append_empty r)))
      ∙ ap document_end (sym (append_regroup (take j document_close) (get_or document_close j 0 ∷ []) r))
      ∙ ap (λ (l : List ℕ). document_end (l ⊕ r)) (sym (front_more document_close j h))
      ∙ sym (ahead_none _);
}

front_length : (j : ℕ) → j < 13 → length (take j document_close) ≡ j
front_length j h = omega (arith, length-take j document_close)

-- another byte: the front is passed over
turn_passed : (j b : ℕ) (r : List ℕ) → j < 13 → eqb b (get_or document_close j 0) ≡ false → document_end (take j document_close ⊕ (b ∷ r)) ≡ ahead j (document_end (b ∷ r))
turn_passed j b r h e = front_passed j b r h (eqb_swap b _ e) ∙ ap (λ (n : ℕ). ahead n (document_end (b ∷ r))) (front_length j h)

turn_first : (j b : ℕ) → j < 13 → eqb b (get_or document_close j 0) ≡ false → b ≡ 60 → Turned j b 1
unfolding ◌⊕◌
turn_first j b h e q = record { before = j; counts = refl; left = λ r. turn_passed j b r h e ∙ ap (λ (x : ℕ). ahead j (document_end (x ∷ r))) q }

turn_none : (j b : ℕ) → j < 13 → eqb b (get_or document_close j 0) ≡ false → eqb b 60 ≡ false → Turned j b 0
unfolding ◌⊕◌
turn_none j b h e q = record {
  before = j + 1;
  counts = omega arith;
  left = λ r. turn_passed j b r h e ∙ ap (ahead j) (end_later b r (no_close b r (eqb_swap b 60 q))) ∙ ahead_twice j 1 (document_end r);
}

pub turn_on : (j b : ℕ) → j < 13 → Turned j b (further j b)
unfolding pick
turn_on j b h = go (eqb b (get_or document_close j 0)) refl (eqb b 60) refl
  where
    go : (t : Bool) → eqb b (get_or document_close j 0) ≡ t → (u : Bool) → eqb b 60 ≡ u → Turned j b (pick t (j + 1) (pick u 1 0))
    go true e u k = turn_same j b h (eqb-true b _ e)
    go false e true k = turn_first j b h e (eqb-true b 60 k)
    go false e false k = turn_none j b h e k

further_small : (j b : ℕ) → j < 13 → further j b ≤ 13
further_small j b h = pick_either (λ (n : ℕ). n ≤ 13) (eqb b (get_or document_close j 0)) _ _ (omega arith) (pick_either (λ (n : ℕ). n ≤ 13) (eqb b 60) _ _ (omega arith) (omega arith))

-- ---- the loop over a piece

-- i bytes of the piece s are searched, and end with the first j of document_close
pub record Searching (k : ℕ) (s : List ℕ) (i j : ℕ) : Type 0 where
  pub inside : i ≤ length s
  pub small : j < 13
  pub before : ℕ
  pub counts : before + j ≡ k + i
  pub left : (more : List ℕ) → document_end (take k document_close ⊕ (s ⊕ more)) ≡ ahead before (document_end (take j document_close ⊕ (drop i s ⊕ more)))

module _ (k : ℕ) (s : List ℕ) where
  pub searching_start : k < 13 → Searching k s 0 k
  searching_start h = record { inside = omega arith; small = h; before = 0; counts = omega arith; left = λ more. sym (ahead_none _) }

  piece_next : (i : ℕ) → i < length s → (more : List ℕ) → drop i s ⊕ more ≡ get_or s i 0 ∷ (drop (i + 1) s ⊕ more)
  piece_next i h more = ap (λ (l : List ℕ). l ⊕ more) (drop_next s i h) ∙ append_cons (get_or s i 0) (drop (i + 1) s) more

  pub searching_more : (i j m : ℕ) → Searching k s i j → i < length s → m ≡ further j (get_or s i 0) → (m ≡ 13 → ⊥) → Searching k s (i + 1) m
  searching_more i j m t h e f =
      let u = turn_on j (get_or s i 0) t.small in
      let l = further_small j (get_or s i 0) t.small in
      record {
        inside = omega arith;
        small = ne_lt m 13 f (rw e l);
        before = t.before + u.before;
        counts = rw e (omega (arith, t.counts, u.counts));
        left = λ more.
            t.left more
            ∙ ap (λ (x : List ℕ). ahead t.before (document_end (take j document_close ⊕ x))) (piece_next i h more)
            ∙ ap (ahead t.before) (u.left (drop (i + 1) s ⊕ more))
            ∙ ahead_twice t.before u.before _
            ∙ rw e;
      }
    where
      ne_lt : (a b : ℕ) → (a ≡ b → ⊥) → a ≤ b → a < b
      ne_lt a b f l = omega arith

  pub searching_end : (i j m : ℕ) → Searching k s i j → i < length s → m ≡ further j (get_or s i 0) → m ≡ 13 → k < 13 → Ended k s (i + 1)
  unfolding ahead
  searching_end i j m t h e q g =
      let u = turn_end j (get_or s i 0) (drop (i + 1) s ⊕ []) t.small (sym e ∙ q) in
      record {
        inside = omega arith;
        some_bytes = omega arith;
        end =
            ap (λ (x : List ℕ). document_end (take k document_close ⊕ x)) (sym (append_none s))
            ∙ t.left []
            ∙ ap (λ (x : List ℕ). ahead t.before (document_end (take j document_close ⊕ x))) (piece_next i h [])
            ∙ ap (ahead t.before) u.1
            ∙ ap Some (omega (arith, t.counts, u.0));
      }

  pub searching_over : (i j : ℕ) → Searching k s i j → length s ≤ i → Opened k s j
  searching_over i j t h = record {
    small = t.small;
    before = t.before;
    counts = omega (arith, t.counts, t.inside);
    left = λ more. t.left more ∙ ap (λ (x : List ℕ). ahead t.before (document_end (take j document_close ⊕ (x ⊕ more)))) (drop_of_length-le s h) ∙ ap (λ (x : List ℕ). ahead t.before (document_end (take j document_close ⊕ x))) (append_empty more);
  }

pub ruleset searching = (searching_start, searching_more, searching_end, searching_over, rules)

-- ---- piece by piece

joined_last : (ds : List (List ℕ)) (d : List ℕ) → joined (ds ⊕ (d ∷ [])) ≡ joined ds ⊕ d
unfolding joined ◌⊕◌
joined_last [] d = append-nil d
joined_last (x ∷ ds) d = ap (λ (l : List ℕ). x ++ l) (joined_last ds d) ∙ sym (append_assoc x (joined ds) d)

whole_last : (ds : List (List ℕ)) (d : List ℕ) → AllWhole ds → Whole d → AllWhole (ds ⊕ (d ∷ []))
unfolding ◌⊕◌
whole_last [] d a w = (w, tt)
whole_last (x ∷ ds) d a w = (a.0, whole_last ds d a.1 w)

take_empty : (n : ℕ) → take {A = ℕ} n [] ≡ []
take_empty zero = refl
take_empty (suc n) = refl

take_more : (i n : ℕ) (s : List ℕ) → take (i + n) s ≡ take i s ⊕ take n (drop i s)
unfolding ◌⊕◌
take_more zero n s = let q : 0 + n ≡ n = omega arith in rw q
take_more (suc i) n [] = rw (take_empty (suc i + n), take_empty n)
take_more (suc i) n (x ∷ s) = let q : suc i + n ≡ suc (i + n) = omega arith in rw q (ap (λ (l : List ℕ). x ∷ l) (take_more i n s))

-- part of document_close ends no document
front_open : (j : ℕ) → j < 13 → document_end (take j document_close) ≡ None
front_open j h = go (document_end (take j document_close)) refl
  where
    go : (o : Option ℕ) → document_end (take j document_close) ≡ o → o ≡ None
    go None e = refl
    go (Some n) e = let k = end_inside (take j document_close) n e in absurd (omega (arith, k.0, k.1, front_length j h))

pub reached_none : Reached [] 0 0 0
unfolding joined ◌⊕◌ document_end
reached_none = record {
  whole = [];
  left = [];
  split = documents_split [] [] tt refl;
  parts = refl;
  each = tt;
  begins = refl;
  long = refl;
  small = omega arith;
  before = 0;
  counts = refl;
  next = λ more. sym (ahead_none (document_end more));
}

module _ {l : List ℕ} {k from at : ℕ} (t : Reached l k from at) where
  -- a piece in which no document ends
  pub reached_open : (s : List ℕ) (j : ℕ) → Opened k s j → Reached (l ⊕ s) j from (at + length s)
  unfolding ahead
  reached_open s j o =
      let e : document_end (t.left ⊕ s) ≡ None =
      t.next s
      ∙ ap (ahead t.before) (ap (λ (x : List ℕ). document_end (take k document_close ⊕ x)) (sym (append_none s)) ∙ o.left [] ∙ ap (ahead o.before) (ap document_end (append_none (take j document_close)) ∙ front_open j o.small)) in
      let p : joined t.whole ⊕ (t.left ⊕ s) ≡ l ⊕ s = sym (append_regroup (joined t.whole) t.left s) ∙ ap (λ (x : List ℕ). x ⊕ s) t.parts in
      record {
        whole = t.whole;
        left = t.left ⊕ s;
        split = ap documents (sym p) ∙ documents_split t.whole (t.left ⊕ s) t.each e;
        parts = p;
        each = t.each;
        begins = t.begins;
        long = omega (arith, t.long, length_both l s);
        small = o.small;
        before = t.before + o.before;
        counts = omega (arith, t.counts, o.counts, length_both t.left s);
        next = λ more.
            ap document_end (append_regroup t.left s more) ∙ t.next (s ⊕ more) ∙ ap (ahead t.before) (o.left more)
            ∙ ahead_twice t.before o.before (document_end (take j document_close ⊕ more));
      }

  -- a document's end
  end_whole : (s : List ℕ) (n : ℕ) → Ended k s n → Whole (t.left ⊕ take n s)
  unfolding ahead
  end_whole s n o more =
      let z : length (take n s) ≡ n = omega (arith, length-take n s, o.inside) in
      let g : document_end ((take k document_close ⊕ take n s) ⊕ drop n s) ≡ Some (k + n) =
      ap document_end (append_regroup (take k document_close) (take n s) (drop n s) ∙ ap (λ (x : List ℕ). take k document_close ⊕ x) (append_is (take n s) (drop n s) ∙ take-append-drop n s)) ∙ o.end in
      let m = end_shorter (take k document_close ⊕ take n s) (drop n s) (k + n) g (omega (arith, length_both (take k document_close) (take n s), z, front_length k t.small)) in
      ap document_end (append_regroup t.left (take n s) more)
      ∙ t.next (take n s ⊕ more)
      ∙ ap (ahead t.before) (ap document_end (sym (append_regroup (take k document_close) (take n s) more)) ∙ end_longer (take k document_close ⊕ take n s) more (k + n) m)
      ∙ ap Some (omega (arith, t.counts, length_both t.left (take n s), z))

  pub reached_end : (s : List ℕ) (n : ℕ) → Ended k s n → Reached (l ⊕ take n s) 0 (at + n) (at + n)
  unfolding document_end
  reached_end s n o =
      let w = whole_last t.whole (t.left ⊕ take n s) t.each (end_whole s n o) in
      let u : joined (t.whole ⊕ ((t.left ⊕ take n s) ∷ [])) ≡ l ⊕ take n s =
      joined_last t.whole (t.left ⊕ take n s) ∙ sym (append_regroup (joined t.whole) t.left (take n s)) ∙ ap (λ (x : List ℕ). x ⊕ take n s) t.parts in
      let p = append_none (joined (t.whole ⊕ ((t.left ⊕ take n s) ∷ []))) ∙ u in
      let q : at + n ≡ length (l ⊕ take n s) = omega (arith, t.long, length_both l (take n s), length-take n s, o.inside) in
      record {
        whole = t.whole ⊕ ((t.left ⊕ take n s) ∷ []);
        left = [];
        split = ap documents (sym p) ∙ documents_split (t.whole ⊕ ((t.left ⊕ take n s) ∷ [])) [] w refl;
        parts = p;
        each = w;
        begins = q ∙ ap length (sym u);
        long = q;
        small = omega arith;
        before = 0;
        counts = refl;
        next = λ more. sym (ahead_none (document_end ([] ⊕ more)));
      }

-- ---- the ends in a piece, one after another

-- i bytes of the piece s are searched
pub record Going (s : List ℕ) (come start at i k from : ℕ) : Type 0 where
  pub inside : i ≤ length s
  pub small : k < 13
  pub reached : (l : List ℕ) → Reached l come start at → Reached (l ⊕ take i s) k from (at + i)

module _ (s : List ℕ) (come start at : ℕ) where
  pub going_start : come < 13 → Going s come start at 0 come start
  going_start h = record {
    inside = omega arith;
    small = h;
    reached = λ l t. let q : at + 0 ≡ at = omega arith in rw (q, append_none l) t;
  }

  module _ (i k from : ℕ) where
    pub going_end : Going s come start at i k from → (n : ℕ) → Ended k (drop i s) n → Going s come start at (i + n) 0 (at + (i + n))
    going_end g n o = record {
      inside = omega (arith, o.inside, length-drop i s, g.inside);
      small = omega arith;
      reached = λ l t.
          let q : at + i + n ≡ at + (i + n) = omega arith in
          let e : (l ⊕ take i s) ⊕ take n (drop i s) ≡ l ⊕ take (i + n) s = append_regroup l (take i s) (take n (drop i s)) ∙ ap (λ (x : List ℕ). l ⊕ x) (sym (take_more i n s)) in
          rw (e, q) at (reached_end (g.reached l t) (drop i s) n o);
    }

    pub going_open : Going s come start at i k from → (j : ℕ) → Opened k (drop i s) j → Kept s come start at j from (at + length s)
    going_open g j o = record {
      small = o.small;
      long = refl;
      reached = λ l t.
          let q : at + i + length (drop i s) ≡ at + length s = omega (arith, length-drop i s, g.inside) in
          let e : (l ⊕ take i s) ⊕ drop i s ≡ l ⊕ s = append_regroup l (take i s) (drop i s) ∙ ap (λ (x : List ℕ). l ⊕ x) (append_is (take i s) (drop i s) ∙ take-append-drop i s) in
          rw (e, q) at (reached_open (g.reached l t) (drop i s) j o);
    }

    pub going_over : Going s come start at i k from → length s ≤ i → Kept s come start at k from (at + length s)
    going_over g h = record {
      small = g.small;
      long = refl;
      reached = λ l t. let q : i ≡ length s = omega (arith, g.inside) in rw (q, take-length s) at (g.reached l t);
    }
