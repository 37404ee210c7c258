-- Laws of what specs/Closing.antt defines.
--     Closing     the invariant of its loop over tokens: depth elements are open inside the one whose end is sought;   `search closing`
use Rattle.std.specs.Prelude.{◌≡◌, Bool, true, List, ◌∷◌, length, drop, get_or}
use Rattle.std.proofs.Math.Path.{refl}
use Rattle.std.proofs.Common.{sym, ap, subst, ◌∙◌, arith, rules}
use Prim.Native.Nat.{ℕ, zero, suc, ◌+◌, ◌-◌, ◌≤◌, ◌<◌}
use Rattle.std.proofs.Math.Numerals.{add-one, sub-one}
use Rattle.std.proofs.Math.Logic.{◌⊎◌, inl, inr}
use Rattle.octets.specs.laws.Scan.{drop_next}
use Rattle.utf8.specs.Spell.{spell}
use Rattle.xml.specs.Token.{char_byte, token}
use Rattle.xml.specs.Marks.{Mark, opens, closes, char, refers}
use Rattle.xml.specs.Nodes.{nodes, nodes_by, end_place, end_place_by}
use Rattle.xml.specs.NodesAt.{marks_at, nodes_at}
use Rattle.xml.specs.laws.NodesAt.{mark_char, mark_none, nodes_none}
use Rattle.read_xml_nodes.specs.Plain.{is_plain}
use Rattle.read_xml_nodes.specs.laws.Plain.{plain_token}
use Rattle.read_xml_nodes.specs.laws.Tokens.{Over, over_end, marked, token_onward, start_sound, empty_sound, end_sound, char_sound, reference_sound}
use Rattle.read_xml_nodes.specs.Closing.{EndedAt}
use Rattle.read_xml_tokens.specs.TokenAt.{Reads, token_in, name_in}
use Rattle.read_xml_tokens.specs.declared.TokenAt.{TokenAt}
use Rattle.read_xml_tokens.specs.declared.TokenKind.{TokenKind}
use Rattle.read_xml_tokens.specs.declared.TokenKind.TheVariants.{Start, Empty, End, Char, Reference, Fault}

pub nodes_are : (s : List ℕ) (p : ℕ) → nodes_at s p ≡ nodes (marks_at s p) 0
unfolding nodes_at
nodes_are s p = refl

-- what is sought from one list of marks, d elements deep, is sought from another, e deep
pub record Seeks (ms : List Mark) (d : ℕ) (ns : List Mark) (e : ℕ) : Type 0 where
  pub place : end_place ms d ≡ end_place ns e
  pub after : nodes ms (suc d) ≡ nodes ns (suc e)

pub record Closing (s : List ℕ) (from at depth : ℕ) : Type 0 where
  pub low : from ≤ at
  pub high : at ≤ length s
  pub deep : depth ≤ at
  pub left : Seeks (marks_at s from) 0 (marks_at s at) depth

-- ---- by marks

module _ (ms : List Mark) where
  seeks_same : (d : ℕ) → Seeks ms d ms d
  seeks_same d = record { place = refl; after = refl }

  seeks_opens : (p : ℕ) (nm : List ℕ) (d : ℕ) → Seeks (opens p nm ∷ ms) d ms (d + 1)
  unfolding nodes nodes_by end_place end_place_by
  seeks_opens p nm d = rw add-one (record { place = refl; after = refl })

  seeks_closes : (p : ℕ) (nm : List ℕ) (d : ℕ) → (d ≡ 0 → ⊥) → Seeks (closes p nm ∷ ms) d ms (d - 1)
  unfolding nodes nodes_by end_place end_place_by
  seeks_closes p nm zero h = absurd (h refl)
  seeks_closes p nm (suc d) h = rw sub-one (record { place = refl; after = refl })

  seeks_empty : (p q : ℕ) (nm mn : List ℕ) (d : ℕ) → Seeks (opens p nm ∷ closes q mn ∷ ms) d ms d
  unfolding nodes nodes_by end_place end_place_by
  seeks_empty p q nm mn d = record { place = refl; after = refl }

  seeks_char : (p b : ℕ) (d : ℕ) → Seeks (char p b ∷ ms) d ms d
  unfolding nodes nodes_by end_place end_place_by
  seeks_char p b d = record { place = refl; after = refl }

  seeks_refers : (p : ℕ) (bs : List ℕ) (d : ℕ) → Seeks (refers p bs ∷ ms) d ms d
  unfolding nodes nodes_by end_place end_place_by
  seeks_refers p bs d = record { place = refl; after = refl }

  -- the end tag that is sought
  pub end_here : (p : ℕ) (nm : List ℕ) → end_place (closes p nm ∷ ms) 0 ≡ p
  unfolding end_place end_place_by
  end_here p nm = refl

  pub after_here : (p : ℕ) (nm : List ℕ) → nodes (closes p nm ∷ ms) 1 ≡ nodes ms 0
  unfolding nodes nodes_by
  after_here p nm = refl

-- ---- by what was found

-- one search after another
seeks_on : {ms ns os : List Mark} {d e f : ℕ} → Seeks ms d ns e → Seeks ns e os f → Seeks ms d os f
seeks_on a b = record { place = a.place ∙ b.place; after = a.after ∙ b.after }

pub closing_start : (s : List ℕ) (from : ℕ) → from ≤ length s → Closing s from from 0
closing_start s from h = record { low = omega arith; high = h; deep = omega arith; left = seeks_same (marks_at s from) 0 }

module _ {s : List ℕ} {from at depth : ℕ} (c : Closing s from at depth) where
  -- the end of the bytes, or no token
  closing_over : Over (marks_at s at) → EndedAt s from (record { place = 0; next = length s })
  closing_over o = record {
    place = c.left.place ∙ (o depth).1;
    after = c.left.after ∙ (o (suc depth)).0 ∙ sym (nodes_none s (length s) (omega arith));
    onward = omega (arith, c.low, c.high);
    inside = omega arith;
  }

  pub closing_past : length s ≤ at → EndedAt s from (record { place = 0; next = length s })
  closing_past h = closing_over (rw (mark_none s at h) over_end)

  -- a byte that is a character of its own
  pub closing_plain : {b : ℕ} {p : Bool} → at < length s → (b ≡ get_or s at 0) × (b < 256) → p ≡ is_plain b → p ≡ true → Closing s from (at + 1) depth
  closing_plain {b} {p} h e q y =
      let t : token (get_or s at 0) (drop (at + 1) s) ≡ char_byte (get_or s at 0) 0 = plain_token (get_or s at 0) (drop (at + 1) s) (ap is_plain (sym e.0) ∙ sym q ∙ y) in
      let n : at + 1 + 0 ≡ at + 1 = omega arith in
      let m : marks_at s at ≡ char at (get_or s at 0) ∷ marks_at s (at + 1) = mark_char s at _ _ (drop_next s at h) _ _ t ∙ ap (λ (i : ℕ). char at (get_or s at 0) ∷ marks_at s i) n in
      record {
        low = omega (arith, c.low);
        high = omega (arith, h);
        deep = omega (arith, c.deep);
        left = seeks_on c.left (rw m (seeks_char (marks_at s (at + 1)) at (get_or s at 0) depth));
      }

  pub closing_less_plain : at < length s → length s - (at + 1) < length s - at
  closing_less_plain h = omega arith

  module _ {t : TokenAt} (f : Reads token_in s at at t) where
    -- a token that leads on
    step : {k : TokenKind} → t.kind ≡ k → (k ≡ Fault → ⊥) → (d : ℕ) → d ≤ depth + 1 → Seeks (marks_at s at) depth (marks_at s t.next) d → Closing s from t.next d
    step q n d l h =
        let b = token_onward f q n in
        record { low = omega (arith, b, c.low); high = b.1; deep = omega (arith, b, c.deep); left = seeks_on c.left h }

    less : {k : TokenKind} → t.kind ≡ k → (k ≡ Fault → ⊥) → length s - t.next < length s - at
    less q n = omega (arith, token_onward f q n)

    pub closing_starts : t.kind ≡ Start → Closing s from t.next (depth + 1)
    closing_starts q = step q start_sound (depth + 1) (omega arith) (rw (marked f Start q) (seeks_opens (marks_at s t.next) at (name_in s t) depth))

    pub closing_ends : t.kind ≡ End → (depth ≡ 0 → ⊥) → Closing s from t.next (depth - 1)
    closing_ends q h = step q end_sound (depth - 1) (omega arith) (rw (marked f End q) (seeks_closes (marks_at s t.next) at (name_in s t) depth h))

    closing_empty : t.kind ≡ Empty → Closing s from t.next depth
    closing_empty q = step q empty_sound depth (omega arith) (rw (marked f Empty q) (seeks_empty (marks_at s t.next) at at (name_in s t) (name_in s t) depth))

    closing_char : t.kind ≡ Char → Closing s from t.next depth
    closing_char q = step q char_sound depth (omega arith) (rw (marked f Char q) (seeks_char (marks_at s t.next) at t.unit depth))

    closing_reference : t.kind ≡ Reference → Closing s from t.next depth
    closing_reference q = step q reference_sound depth (omega arith) (rw (marked f Reference q) (seeks_refers (marks_at s t.next) at (spell t.unit) depth))

    pub closing_passes : (t.kind ≡ Empty) ⊎ ((t.kind ≡ Char) ⊎ (t.kind ≡ Reference)) → Closing s from t.next depth
    closing_passes (inl q) = closing_empty q
    closing_passes (inr (inl q)) = closing_char q
    closing_passes (inr (inr q)) = closing_reference q

    pub closing_done : t.kind ≡ End → depth ≡ 0 → EndedAt s from (record { place = at; next = t.next })
    closing_done q z =
        let b = token_onward f q end_sound in
        let g : Seeks (marks_at s from) 0 (closes at (name_in s t) ∷ marks_at s t.next) 0 =
        subst (λ ms. Seeks (marks_at s from) 0 ms 0) (marked f End q) (subst (Seeks (marks_at s from) 0 (marks_at s at)) z c.left) in record {
          place = g.place ∙ end_here (marks_at s t.next) at (name_in s t);
          after = g.after ∙ after_here (marks_at s t.next) at (name_in s t) ∙ sym (nodes_are s t.next);
          onward = omega (arith, b, c.low);
          inside = b.1;
        }

    pub closing_fault : t.kind ≡ Fault → EndedAt s from (record { place = 0; next = length s })
    closing_fault q = closing_over (marked f Fault q)

    pub closing_less_start : t.kind ≡ Start → length s - t.next < length s - at
    closing_less_start q = less q start_sound

    pub closing_less_end : t.kind ≡ End → length s - t.next < length s - at
    closing_less_end q = less q end_sound

    pub closing_less_passes : (t.kind ≡ Empty) ⊎ ((t.kind ≡ Char) ⊎ (t.kind ≡ Reference)) → length s - t.next < length s - at
    closing_less_passes (inl q) = less q empty_sound
    closing_less_passes (inr (inl q)) = less q char_sound
    closing_less_passes (inr (inr q)) = less q reference_sound

pub ruleset closing = (
  closing_start,
  closing_past,
  closing_plain,
  closing_less_plain,
  closing_starts,
  closing_ends,
  closing_passes,
  closing_done,
  closing_fault,
  closing_less_start,
  closing_less_end,
  closing_less_passes,
  rules,
)
