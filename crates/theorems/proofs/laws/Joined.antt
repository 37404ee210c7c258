-- Texts that are joined, and the XML of their calendars.
--     no_fold_over      an accepted text begins neither with LF nor with a blank, so that no fold goes over the seam in front of it
--     joined_accepts    two accepted texts, joined, are accepted and state the calendars of both
--     in_order_one      the calendars of one alone
--     components_joined, inside_document, inside_one    their XML
use Rattle.std.specs.Prelude.{◌≡◌, Bool, ℕ, length, None}
use Rattle.std.proofs.Math.Path.{refl}
use Rattle.std.proofs.Common.{sym, ap, ◌∙◌, eqb-true}
use Rattle.std.proofs.Math.Bool.{true, false}
use mathlib.Core.List.{List, [], ◌∷◌, map, append_cancel_left, append_cancel_right}
use Rattle.std.proofs.Math.Dec.{eqb}
use Rattle.octets.specs.Ascii.{ascii}
use Rattle.octets.specs.Pick.{pick, ◌and◌, ◌or◌}
use Rattle.octets.specs.Append.{◌⊕◌}
use Rattle.octets.specs.laws.Append.{append_empty, append_regroup}
use Rattle.octets.specs.Class.{is_name_char, lower}
use Rattle.octets.specs.Words.{starts}
use Rattle.octets.specs.Runs.{run_of}
use Rattle.octets.specs.Scan.{span_len}
use Rattle.calendar.specs.Calendar.{Calendar, no_more, component}
use Rattle.calendar.specs.Refusal.{fine}
use Rattle.calendar.specs.laws.Refusal.{refused_not}
use Rattle.utf8.specs.laws.Utf8.{good_append}
use Rattle.folding.specs.Unfold.{blank_at, fold_goes_on, unfolded}
use Rattle.folding.specs.laws.Unfold.{unfolded_byte, unfolded_append}
use Rattle.folding.specs.Lines.{Line, whole, loose, longer, line_step, lines_after, lines}
use Rattle.folding.specs.laws.Lines.{moved, lines_append, lines_moved}
use Rattle.edition.specs.declared.Edition.{Edition}
use Rattle.read_text_line.specs.ContentLine.{content_line}
use Rattle.text.specs.Nesting.{Open, move_of, move, onward, ended, nesting}
use Rattle.text.specs.Tree.{entry_of, inner_of}
use Rattle.text.specs.ReadText.{lines_verdict}
use Rattle.text.proofs.laws.AcceptedTree.{moved_on}
use Rattle.text.proofs.laws.AcceptedText.{Accepts, nesting_whole, verdict_nesting, text_tree}
use Rattle.xml.specs.Escape.{declaration_line, root_start, end_tag, element_of}
use Rattle.xcal.specs.WriteXml.{properties_xml, is_no_more, components_element, components_xml, write_document}
use Rattle.theorems.specs.Joined.{◌followed_by◌, in_order, Inside}
use Rattle.theorems.proofs.laws.Balanced.{nesting-closes, inner_joined}

pub map_both : {A B : Type 0} (f : A → B) (a b : List A) → map f (a ⊕ b) ≡ map f a ⊕ map f b
unfolding ◌⊕◌
map_both f [] b = refl
map_both f (x ∷ a) b = ap (λ l. f x ∷ l) (map_both f a b)

-- ---- the seam

-- a line that begins with no letter, digit or hyphen is none
no_name : (b : ℕ) (s : List ℕ) → is_name_char b ≡ false → content_line (b ∷ s) ≡ None
unfolding content_line run_of span_len pick
no_name b s h = rw h

module _ (ed : Edition) where
  -- so a text that begins so is refused
  first_line : (b : ℕ) (e : ℕ) (ls : List Line) → is_name_char b ≡ false → lines_verdict ed e (longer 0 b ls) ≡ fine → ⊥
  unfolding longer lines_verdict nesting move_of onward
  first_line b e [] n h = refused_not _ _ h
  first_line b e (whole q l ∷ ls) n h = refused_not _ _ (rw (no_name b l n) at h)
  first_line b e (loose q ∷ ls) n h = refused_not _ _ h

  first_byte : (b : ℕ) (s : List ℕ) (e : ℕ) → eqb 13 b ≡ false → is_name_char b ≡ false → lines_verdict ed e (lines (unfolded (b ∷ s))) ≡ fine → ⊥
  first_byte b s e r n h = first_line b e (lines_after (unfolded s) 1 0) n (rw (unfolded_byte b s r, line_first (unfolded s)) at h)
    where
      line_first : (u : List ℕ) → lines (b ∷ u) ≡ longer 0 b (lines_after u 1 0)
      line_first u = unfold lines_after line_step starts ◌and◌ in rw r

  pub no_fold_over : (s : List ℕ) (e : ℕ) → lines_verdict ed e (lines (unfolded s)) ≡ fine → fold_goes_on s ≡ false
  unfolding fold_goes_on blank_at starts ◌and◌ ◌or◌
  no_fold_over [] e h = refl
  no_fold_over (b ∷ s) e h = go (eqb 10 b) (eqb 32 b) (eqb 9 b) refl refl refl
    where
      not : (k : ℕ) → eqb k b ≡ true → eqb 13 k ≡ false → is_name_char k ≡ false → ⊥
      not k q r n = first_byte k s e r n (rw (← (eqb-true k b q)) at h)

      go : (x y z : Bool) → eqb 10 b ≡ x → eqb 32 b ≡ y → eqb 9 b ≡ z → ((x and true) or ((y and true) or (z and true))) ≡ false
      go true y z p q r = absurd (not 10 p refl (unfold ◌and◌ ◌or◌ in refl))
      go false true z p q r = absurd (not 32 q refl (unfold ◌and◌ ◌or◌ in refl))
      go false false true p q r = absurd (not 9 r refl (unfold ◌and◌ ◌or◌ in refl))
      go false false false p q r = refl

  -- ---- the lines

  -- where lines start, and where they end, is nothing to lines that are not refused
  nesting-moved : (ls : List Line) (n e f : ℕ) (st : List Open) → nesting ed e ls st ≡ fine → nesting ed f (map (moved n) ls) st ≡ fine
  unfolding nesting ended onward
  nesting-moved [] n e f [] h = refl
  nesting-moved [] n e f (o ∷ st) h = refused_not _ _ h
  nesting-moved (loose p ∷ ls) n e f st h = refused_not _ _ h
  nesting-moved (whole p s ∷ ls) n e f st h = let m = moved_on ed (move ed s st) p s (nesting ed e ls) h in rw m.1 (nesting-moved ls n e f m.0 m.2)

  nesting_joined : (ls ms : List Line) (e f : ℕ) (st : List Open) → nesting ed e ls st ≡ fine → nesting ed f ms [] ≡ fine → nesting ed f (ls ⊕ ms) st ≡ fine
  unfolding nesting ended onward ◌⊕◌
  nesting_joined [] ms e f [] h k = k
  nesting_joined [] ms e f (o ∷ st) h k = refused_not _ _ h
  nesting_joined (loose p ∷ ls) ms e f st h k = refused_not _ _ h
  nesting_joined (whole p s ∷ ls) ms e f st h k = let m = moved_on ed (move ed s st) p s (nesting ed e ls) h in rw m.1 (nesting_joined ls ms e f m.0 m.2 k)

  verdict_joined : (ls ms : List Line) (e f : ℕ) → lines_verdict ed e ls ≡ fine → nesting ed f (ls ⊕ ms) [] ≡ fine → lines_verdict ed f (ls ⊕ ms) ≡ fine
  unfolding lines_verdict ◌⊕◌
  verdict_joined [] ms e f h k = refused_not _ _ h
  verdict_joined (l ∷ ls) ms e f h k = k

  entry_moved : (n : ℕ) (ls : List Line) → map (entry_of ed) (map (moved n) ls) ≡ map (entry_of ed) ls
  unfolding entry_of
  entry_moved n [] = refl
  entry_moved n (whole p s ∷ ls) = rw (entry_moved n ls)
  entry_moved n (loose p ∷ ls) = rw (entry_moved n ls)

  -- lines that are not refused have their components, and those behind them theirs
  tree_joined : (ls ms : List Line) (n e : ℕ) → nesting ed e ls [] ≡ fine →
      inner_of (map (entry_of ed) (ls ⊕ map (moved n) ms)) 0 ≡ inner_of (map (entry_of ed) ls) 0 followed_by inner_of (map (entry_of ed) ms) 0
  tree_joined ls ms n e h =
      rw (map_both (entry_of ed) ls (map (moved n) ms), entry_moved n ms) (inner_joined (map (entry_of ed) ls) (map (entry_of ed) ms) 0 (nesting-closes ed ls e [] h))

  -- ---- the text

  lines_joined : (a b : List ℕ) (e : ℕ) → lines_verdict ed e (lines a) ≡ fine → lines (a ⊕ b) ≡ lines a ⊕ map (moved (length a)) (lines b)
  lines_joined a b e h = lines_append a b 0 (nesting_whole ed (lines a) e [] (verdict_nesting ed (lines a) e h)) ∙ ap (λ (ls : List Line). lines a ⊕ ls) (lines_moved b (length a) 0)

  pub joined_accepts : (s t : List ℕ) (c d : Calendar) → Accepts ed s c → Accepts ed t d → Accepts ed (s ⊕ t) (c followed_by d)
  joined_accepts s t c d a b =
      let u : List ℕ = unfolded s in
      let v : List ℕ = unfolded t in
      let w : unfolded (s ⊕ t) ≡ u ⊕ v = unfolded_append s t (no_fold_over t (length v) b.verdict) in
      let l : lines (u ⊕ v) ≡ lines u ⊕ map (moved (length u)) (lines v) = lines_joined u v (length u) a.verdict in
      let m = verdict_nesting ed (lines u) (length u) a.verdict in
      let n = nesting-moved (lines v) (length u) (length v) (length (u ⊕ v)) [] (verdict_nesting ed (lines v) (length v) b.verdict) in
      let g = good_append u v a.characters b.characters in
      let h : lines_verdict ed (length (u ⊕ v)) (lines (u ⊕ v)) ≡ fine = rw l (verdict_joined (lines u) _ _ _ a.verdict (nesting_joined (lines u) _ _ _ [] m n)) in
      let x : inner_of (map (entry_of ed) (lines u)) 0 ≡ c = sym (text_tree ed u (length u) a.characters a.verdict) ∙ a.states in
      let y : inner_of (map (entry_of ed) (lines v)) 0 ≡ d = sym (text_tree ed v (length v) b.characters b.verdict) ∙ b.states in
      record {
        characters = rw w g;
        verdict = rw w h;
        states = rw w (text_tree ed (u ⊕ v) (length (u ⊕ v)) g h ∙ rw (l, tree_joined (lines u) (lines v) (length u) (length u) m, x, y));
      }

-- ---- calendars in order

pub in_order_one : (c : Calendar) → in_order (c ∷ []) ≡ c
unfolding in_order ◌followed_by◌
in_order_one no_more = refl
in_order_one (component n ps inner next) = ap (λ (d : Calendar). component n ps inner d) (in_order_one next)

-- ---- the XML

pub components_joined : (c d : Calendar) → components_xml (c followed_by d) ≡ components_xml c ⊕ components_xml d
unfolding components_xml ◌followed_by◌
components_joined no_more d = sym (append_empty (components_xml d))
components_joined (component n ps inner next) d =
    ap (λ (s : List ℕ). element_of (lower n) (element_of (ascii "properties") (properties_xml ps) ⊕ components_element n (is_no_more inner) (components_xml inner)) ⊕ s) (components_joined next d)
    ∙ sym (append_regroup _ (components_xml next) (components_xml d))

pub inside_document : (c : Calendar) → Inside (components_xml c) (write_document c)
unfolding write_document ◌⊕◌
inside_document c = refl

-- XML has one inside at most
pub inside_one : (s t x : List ℕ) → Inside s x → Inside t x → s ≡ t
unfolding ◌⊕◌
inside_one s t x p q =
    append_cancel_right s t (end_tag (ascii "icalendar") ⊕ ascii "\n") (append_cancel_left (declaration_line ⊕ root_start) _ _ (sym p ∙ q))
