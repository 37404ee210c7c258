-- Laws of what specs/Reads.antt defines.
--     marks_start       a start tag is read as its element opening
--     marks_end         an end tag is read as its element closing
--     marks_characters  character data without CR is read as its characters;   characters_then_end: with an end tag after it
use Rattle.std.proofs.Math.Path.{◌≡◌, refl, ap}
use Rattle.std.proofs.Common.{sym, ◌∙◌, arith, length-append, ne_eqb, eqb-true}
use Rattle.std.specs.Prelude.{Bool, ℕ, suc, ◌+◌, eqb, length, None, Some}
use Rattle.std.proofs.Math.Bool.{true, false}
use Rattle.std.proofs.lemmas.Bool.{false≢true}
use mathlib.Core.List.{List, [], ◌∷◌, ◌++◌, append_assoc}
use Rattle.std.proofs.Math.Nat.{add-zero}
use Rattle.std.proofs.Math.Seq.{take-append_seam, drop-append_seam}
use Rattle.octets.specs.Ascii.{ascii}
use Rattle.octets.specs.Pick.{pick, ◌and◌, ◌or◌}
use Rattle.octets.specs.laws.Pick.{and_both, and_no_right, eqb_swap}
use Rattle.octets.specs.Scan.{span_len, all_of}
use Rattle.octets.specs.Append.{◌⊕◌}
use Rattle.octets.specs.Class.{is_alpha, is_name_char}
use Rattle.octets.specs.Words.{starts, holds}
use Rattle.octets.specs.laws.Runs.{span_front, stops_at}
use Rattle.octets.specs.Reading.{and_then}
use Rattle.utf8.specs.Spell.{spell}
use Rattle.xml.specs.Pieces.{from, first, exactly, any_space, xml_name, name_of, both, ◌then◌}
use Rattle.xml.specs.Token.{Token, s_tag, e_tag, char_byte, reference_to, no_token, start_by, end_by, tag, reference, literal_byte, token}
use Rattle.xml.specs.Marks.{Mark, opens, closes, char, refers, marks_by, scan, marks}
use Rattle.xml.specs.Escape.{escaped_byte, escaped, start_tag, end_tag}
use Rattle.xml.specs.Reads.{is_name, character_mark, character_marks}

-- ---- bytes that a token has taken are passed over

scan_skip : (a r : List ℕ) (p : ℕ) → scan (a ++ r) p (length a) ≡ scan r (p + length a) 0
unfolding scan
scan_skip [] r p = ap (λ (q : ℕ). scan r q 0) (omega arith)
scan_skip (x ∷ a) r p = scan_skip a r (p + 1) ∙ ap (λ (q : ℕ). scan r q 0) (omega arith)

-- ---- tags

-- a name is followed by `>`
module _ (a : ℕ) (w r : List ℕ) (h : is_name (a ∷ w) ≡ true) where
  alpha : is_alpha a ≡ true
  unfolding is_name
  alpha = (and_both (is_alpha a) (all_of is_name_char (a ∷ w)) h).0

  named : span_len is_name_char ((a ∷ w) ++ (62 ∷ r)) ≡ suc (length w)
  unfolding is_name ◌or◌ ◌and◌
  named = span_front is_name_char (a ∷ w) (62 ∷ r) (and_both (is_alpha a) (all_of is_name_char (a ∷ w)) h).1 (stops_at is_name_char 62 r refl)

  name_read : xml_name ((a ∷ w) ++ (62 ∷ r)) ≡ Some (suc (length w))
  unfolding xml_name first pick
  name_read = rw (alpha, named)

  name_is : name_of ((a ∷ w) ++ (62 ∷ r)) ≡ a ∷ w
  unfolding name_of
  name_is = rw named (take-append_seam (a ∷ w) (62 ∷ r))

  after_name : from (suc (length w)) ((a ∷ w) ++ (62 ∷ r)) ≡ 62 ∷ r
  unfolding from
  after_name = drop-append_seam (a ∷ w) (62 ∷ r)

  no_slash : starts (ascii "/") ((a ∷ w) ++ (62 ∷ r)) ≡ false
  unfolding starts ◌and◌ ◌or◌
  no_slash = rw (ne_eqb 47 a (λ e. let z : ◌≡◌ {A = Bool} false true = ap is_alpha e ∙ alpha in absurd (false≢true z)))

  token_start : token 60 ((a ∷ w) ++ (62 ∷ r)) ≡ s_tag (a ∷ w) (suc (length w) + 0 + 1)
  unfolding token tag start_by pick ◌then◌ and_then both any_space span_len starts ◌and◌ ◌or◌
  token_start = rw (no_slash, name_read, after_name, add-zero, after_name, name_is)

  token_end : token 60 (47 ∷ ((a ∷ w) ++ (62 ∷ r))) ≡ e_tag (a ∷ w) (suc (length w) + (0 + 1) + 1)
  unfolding token tag end_by pick ◌then◌ and_then both any_space exactly span_len starts ◌and◌ ◌or◌ from
  token_end = rw (name_read, after_name, name_is)

-- a token at the front, and n bytes after its first passed over, which are a
module _ (b : ℕ) (a r : List ℕ) (p n q : ℕ) (e : n ≡ length a) (f : q ≡ p + 1 + length a) where
  passed : scan (a ++ r) (p + 1) n ≡ scan r q 0
  passed = rw (e, f) (scan_skip a r (p + 1))

  read_start : (nm : List ℕ) → token b (a ++ r) ≡ s_tag nm n → marks p (b ∷ (a ++ r)) ≡ opens p nm ∷ marks q r
  unfolding scan marks_by
  read_start nm g = ap (λ (t : Token). marks_by t p (scan (a ++ r) (p + 1))) g ∙ ap (λ (ms : List Mark). opens p nm ∷ ms) passed

  read_end : (nm : List ℕ) → token b (a ++ r) ≡ e_tag nm n → marks p (b ∷ (a ++ r)) ≡ closes p nm ∷ marks q r
  unfolding scan marks_by
  read_end nm g = ap (λ (t : Token). marks_by t p (scan (a ++ r) (p + 1))) g ∙ ap (λ (ms : List Mark). closes p nm ∷ ms) passed

  read_char : (c : ℕ) → token b (a ++ r) ≡ char_byte c n → marks p (b ∷ (a ++ r)) ≡ char p c ∷ marks q r
  unfolding scan marks_by
  read_char c g = ap (λ (t : Token). marks_by t p (scan (a ++ r) (p + 1))) g ∙ ap (λ (ms : List Mark). char p c ∷ ms) passed

  read_reference : (v : ℕ) → token b (a ++ r) ≡ reference_to v n → marks p (b ∷ (a ++ r)) ≡ refers p (spell v) ∷ marks q r
  unfolding scan marks_by
  read_reference v g = ap (λ (t : Token). marks_by t p (scan (a ++ r) (p + 1))) g ∙ ap (λ (ms : List Mark). refers p (spell v) ∷ ms) passed

pub marks_start : (nm r : List ℕ) (p : ℕ) → is_name nm ≡ true → marks p (start_tag nm ⊕ r) ≡ opens p nm ∷ marks (p + length (start_tag nm)) r
unfolding ◌⊕◌ is_name
marks_start [] r p h = absurd (false≢true h)
marks_start (a ∷ w) r p h =
    read_start 60 ((a ∷ w) ++ (62 ∷ [])) r p (suc (length w) + 0 + 1) _ (simp length-append (omega arith)) (omega arith) (a ∷ w)
    (ap (token 60) (append_assoc (a ∷ w) (62 ∷ []) r) ∙ token_start a w r h)

pub marks_end : (nm r : List ℕ) (p : ℕ) → is_name nm ≡ true → marks p (end_tag nm ⊕ r) ≡ closes p nm ∷ marks (p + length (end_tag nm)) r
unfolding ◌⊕◌ is_name
marks_end [] r p h = absurd (false≢true h)
marks_end (a ∷ w) r p h =
    read_end 60 (47 ∷ ((a ∷ w) ++ (62 ∷ []))) r p (suc (length w) + (0 + 1) + 1) _ (simp length-append (omega arith)) (omega arith) (a ∷ w)
    (ap (λ (s : List ℕ). token 60 (47 ∷ s)) (append_assoc (a ∷ w) (62 ∷ []) r) ∙ token_end a w r h)

-- ---- character data

-- what may follow character data: nothing that makes a `]]>` with it
pub record Follows (r : List ℕ) : Type 0 where
  pub no_greater : starts (ascii ">") r ≡ false
  pub no_bracket : starts (ascii "]>") r ≡ false

module _ (r : List ℕ) (p : ℕ) where
  amp_read : marks p (escaped_byte 38 ⊕ r) ≡ character_mark p 38 ∷ marks (p + length (escaped_byte 38)) r
  unfolding pick ◌⊕◌ ◌or◌ ◌and◌ spell token reference starts
  amp_read = read_reference 38 (ascii "amp;") r p 4 (p + 5) refl (omega arith) 38 refl

  lt_read : marks p (escaped_byte 60 ⊕ r) ≡ character_mark p 60 ∷ marks (p + length (escaped_byte 60)) r
  unfolding pick ◌⊕◌ ◌or◌ ◌and◌ spell token reference starts
  lt_read = read_reference 38 (ascii "lt;") r p 3 (p + 4) refl (omega arith) 60 refl

  gt_read : marks p (escaped_byte 62 ⊕ r) ≡ character_mark p 62 ∷ marks (p + length (escaped_byte 62)) r
  unfolding pick ◌⊕◌ ◌or◌ ◌and◌ spell token reference starts
  gt_read = read_reference 38 (ascii "gt;") r p 3 (p + 4) refl (omega arith) 62 refl

  token_byte : (b : ℕ) → eqb b 38 ≡ false → eqb b 60 ≡ false → eqb b 13 ≡ false → starts (ascii "]>") r ≡ false → token b r ≡ char_byte b 0
  unfolding token literal_byte pick ◌and◌
  token_byte b e₁ e₂ e₃ np = rw (e₂, e₁, e₃, np) (None (eqb b 93))
    where
      None : (t : Bool) → pick (t and false) no_token (char_byte b 0) ≡ char_byte b 0
      None true = refl
      None false = refl

  byte_read : (b : ℕ) → eqb b 38 ≡ false → eqb b 60 ≡ false → eqb b 62 ≡ false → eqb b 13 ≡ false → starts (ascii "]>") r ≡ false →
      marks p (escaped_byte b ⊕ r) ≡ character_mark p b ∷ marks (p + length (escaped_byte b)) r
  unfolding pick ◌⊕◌ ◌or◌
  byte_read b e₁ e₂ e₃ e₄ np = rw (e₁, e₂, e₃) (read_char b [] r p 0 (p + 1) refl (omega arith) b (token_byte b e₁ e₂ e₄ np))

  character_read : (b : ℕ) → eqb b 13 ≡ false → starts (ascii "]>") r ≡ false → marks p (escaped_byte b ⊕ r) ≡ character_mark p b ∷ marks (p + length (escaped_byte b)) r
  character_read b h np = c₁ (eqb b 38) refl
    where
      c₃ : (t : Bool) → eqb b 62 ≡ t → eqb b 38 ≡ false → eqb b 60 ≡ false → marks p (escaped_byte b ⊕ r) ≡ character_mark p b ∷ marks (p + length (escaped_byte b)) r
      c₃ true q e₁ e₂ = rw (eqb-true b 62 q) gt_read
      c₃ false q e₁ e₂ = byte_read b e₁ e₂ q h np

      c₂ : (t : Bool) → eqb b 60 ≡ t → eqb b 38 ≡ false → marks p (escaped_byte b ⊕ r) ≡ character_mark p b ∷ marks (p + length (escaped_byte b)) r
      c₂ true q e₁ = rw (eqb-true b 60 q) lt_read
      c₂ false q e₁ = c₃ (eqb b 62) refl e₁ q

      c₁ : (t : Bool) → eqb b 38 ≡ t → marks p (escaped_byte b ⊕ r) ≡ character_mark p b ∷ marks (p + length (escaped_byte b)) r
      c₁ true q = rw (eqb-true b 38 q) amp_read
      c₁ false q = c₂ (eqb b 60) refl q

-- what is written begins with `&`, or with a byte that is no `>`
front_cases : (P : List ℕ → Type 0) (b : ℕ) (r : List ℕ) → ((x : List ℕ) → P (38 ∷ x)) → (eqb b 62 ≡ false → P (b ∷ r)) → P (escaped_byte b ⊕ r)
unfolding pick ◌⊕◌
front_cases P b r f g = go (eqb b 38) (eqb b 60) (eqb b 62) g
  where
    go : (x y z : Bool) → (z ≡ false → P (b ∷ r)) → P (pick x (ascii "&amp;") (pick y (ascii "&lt;") (pick z (ascii "&gt;") (b ∷ []))) ++ r)
    go true y z k = f _
    go false true z k = f _
    go false false true k = f _
    go false false false k = k refl

follows_byte : (b : ℕ) (r : List ℕ) → Follows r → Follows (escaped_byte b ⊕ r)
unfolding starts ◌and◌
follows_byte b r h = record { no_greater = front_cases (λ s. starts (ascii ">") s ≡ false) b r (λ x. refl) (λ e. rw (eqb_swap b 62 e)); no_bracket = front_cases (λ s. starts (ascii "]>") s ≡ false) b r (λ x. refl) (λ e. rw h.no_greater (and_no_right (eqb 93 b) false refl)) }

pub follows_characters : (s r : List ℕ) → Follows r → Follows (escaped s ⊕ r)
unfolding escaped ◌⊕◌
follows_characters [] r h = h
follows_characters (b ∷ s) r h = rw (append_assoc (escaped_byte b) (escaped s) r) (follows_byte b (escaped s ++ r) (follows_characters s r h))

pub follows_tag : (r : List ℕ) → Follows (60 ∷ r)
unfolding starts ◌and◌
follows_tag r = record { no_greater = refl; no_bracket = refl }

pub follows_end : (nm r : List ℕ) → Follows (end_tag nm ⊕ r)
unfolding ◌⊕◌
follows_end nm r = follows_tag _

pub marks_characters : (s r : List ℕ) (p : ℕ) → holds 13 s ≡ false → Follows r → marks p (escaped s ⊕ r) ≡ character_marks s p ⊕ marks (p + length (escaped s)) r
unfolding escaped character_marks ◌⊕◌ holds ◌or◌
marks_characters [] r p h f = ap (λ (q : ℕ). marks q r) (omega arith)
marks_characters (b ∷ s) r p h f = go (eqb 13 b) refl h (marks_characters s r (p + length (escaped_byte b)))
  where
    go : (t : Bool) → eqb 13 b ≡ t → (t or holds 13 s) ≡ false →
        (holds 13 s ≡ false → Follows r → marks (p + length (escaped_byte b)) (escaped s ++ r) ≡ character_marks s (p + length (escaped_byte b)) ++ marks (p + length (escaped_byte b) + length (escaped s)) r) →
        marks p ((escaped_byte b ++ escaped s) ++ r) ≡ character_mark p b ∷ (character_marks s (p + length (escaped_byte b)) ++ marks (p + length (escaped_byte b ++ escaped s)) r)
    go true e k ih = absurd (false≢true (sym k))
    go false e k ih =
        ap (marks p) (append_assoc (escaped_byte b) (escaped s) r)
        ∙ character_read (escaped s ++ r) p b (eqb_swap 13 b e) (follows_characters s r f).no_bracket
        ∙ ap (λ (ms : List Mark). character_mark p b ∷ ms)
        (ih k f ∙ ap (λ (q : ℕ). character_marks s (p + length (escaped_byte b)) ++ marks q r) (omega (arith, length-append (escaped_byte b) (escaped s))))

pub characters_then_end : (s nm r : List ℕ) (p : ℕ) → holds 13 s ≡ false → is_name nm ≡ true →
    marks p (escaped s ⊕ (end_tag nm ⊕ r)) ≡ character_marks s p ⊕ (closes (p + length (escaped s)) nm ∷ marks (p + length (escaped s) + length (end_tag nm)) r)
characters_then_end s nm r p h k =
    marks_characters s (end_tag nm ⊕ r) p h (follows_end nm r)
    ∙ ap (λ (ms : List Mark). character_marks s p ⊕ ms) (marks_end nm r (p + length (escaped s)) k)
