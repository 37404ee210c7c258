-- The token at a place, by the ways of the code that finds it.
--     start_read, empty_read, start_fault    behind `<`;   end_read, end_fault: behind `</`
--     byte_read, reference_read, char_fault    a character
--     tag_read, past_read    a tag; the end of the input
use Rattle.std.specs.Prelude.{◌≡◌, refl, List, ℕ, ◌+◌, ◌-◌, ◌≤◌, ◌<◌, length, get_or, take, drop}
use Rattle.std.proofs.Common.{sym, ap, ◌∙◌, arith}
use Rattle.octets.specs.Ascii.{ascii}
use Rattle.octets.specs.laws.Scan.{drop_next}
use Rattle.source.specs.Source.{rest}
use Rattle.xml.specs.Pieces.{from, Piece, exactly, any_space, xml_name}
use Rattle.xml.specs.Token.{s_tag, empty_elem_tag, e_tag, tag}
use Rattle.xml.specs.CharAt.{char_in, Character}
use Rattle.xml.specs.laws.CharAt.{read_none, read_byte, read_reference, token_char, token-tag}
use Rattle.xml.specs.declared.CharRead.{CharRead}
use Rattle.read_xml_tokens.specs.Ends.{Ends}
use Rattle.read_xml_tokens.specs.laws.PieceLaws.{from_next, from_past}
use Rattle.read_xml_tokens.specs.TokenAt.{Reads, Faulty, token_in}
use Rattle.read_xml_tokens.specs.laws.TokenAt.{reads_as, reads_fault}
use Rattle.read_xml_tokens.specs.Tags.{Tagged, start_of, end_of}
use Rattle.read_xml_tokens.specs.laws.Tags.{opened_start, opened_empty, opened_fault, closed_end, closed_fault}
use Rattle.read_xml_tokens.specs.declared.TokenAt.{TokenAt}
use Rattle.read_xml_tokens.specs.declared.TokenKind.TheVariants.{Start, Empty, End, Char, Reference}

-- ---- tags

module _ {p : Piece} {s : List ℕ} {at a n e f : ℕ} (q : a ≡ at + 1) (t : Tagged p s a n e) (x : Ends (exactly (ascii ">")) s e f) where
  pub start_read : f ≤ length s → Reads (start_of p) s at a (record { kind = Start; name = a; name_end = n; unit = at; next = f })
  start_read h =
      let k : f - a ≡ f - (at + 1) = omega (arith, q) in record {
        is = opened_start t x h ∙ ap (s_tag (rest 0 (take n s) a)) k;
        onward = omega (arith, q, t.whole.onward, x.onward);
        inside = omega arith;
        named = t.name.onward;
        ended = omega (arith, t.after, x.onward);
        united = refl;
      }

  module _ {g : ℕ} (y : Ends (exactly (ascii "/>")) s e g) (h : length s < f) where
    pub empty_read : g ≤ length s → Reads (start_of p) s at a (record { kind = Empty; name = a; name_end = n; unit = at; next = g })
    empty_read l =
        let k : g - a ≡ g - (at + 1) = omega (arith, q) in record {
          is = opened_empty t x y h l ∙ ap (empty_elem_tag (rest 0 (take n s) a)) k;
          onward = omega (arith, q, t.whole.onward, y.onward);
          inside = omega arith;
          named = t.name.onward;
          ended = omega (arith, t.after, y.onward);
          united = refl;
        }

    pub start_fault : {r : TokenAt} → length s < g → Faulty s at r → Reads (start_of p) s at a r
    start_fault l z = reads_fault (opened_fault t x y h l) z

module _ {s : List ℕ} {at a n e f : ℕ} (q : a ≡ at + 2) (x : Ends xml_name s a n) (y : Ends any_space s n e) (z : Ends (exactly (ascii ">")) s e f) where
  pub end_read : f ≤ length s → Reads end_of s at a (record { kind = End; name = a; name_end = n; unit = at; next = f })
  end_read h =
      let k : f - a + 1 ≡ f - (at + 1) = omega (arith, q, x.onward, y.onward, z.onward) in record {
        is = closed_end x y z h ∙ ap (e_tag (rest 0 (take n s) a)) k;
        onward = omega (arith, q, x.onward, y.onward, z.onward);
        inside = omega arith;
        named = x.onward;
        ended = omega (arith, y.onward, z.onward);
        united = refl;
      }

  pub end_fault : {r : TokenAt} → a ≤ length s → length s < f → Faulty s at r → Reads end_of s at a r
  end_fault h l w = reads_fault (closed_fault x y z h l) w

pub tag_read : {s : List ℕ} {at b : ℕ} {t : TokenAt} → at < length s → (b ≡ get_or s at 0) × (b < 256) → b ≡ 60 → Reads tag s at (at + 1) t → Reads token_in s at at t
unfolding token_in
tag_read {s} {at} {b} h e q x = reads_as (rw (from_next s at h) (token-tag (get_or s at 0) (from (at + 1) s) (sym e.0 ∙ q))) x

pub past_read : {s : List ℕ} {at : ℕ} {t : TokenAt} → length s ≤ at → Faulty s at t → Reads token_in s at at t
unfolding token_in
past_read {s} {at} h x = reads_fault (rw (from_past s at h)) x

-- ---- characters

module _ {s : List ℕ} {at b : ℕ} {r : CharRead} (h : at < length s) (e : (b ≡ get_or s at 0) × (b < 256)) (q : b ≡ 60 → ⊥) (x : Character (char_in (drop at s)) s (at + 1) r) where
  same_token : token_in (from at s) ≡ char_in (drop at s)
  unfolding token_in char_in from
  same_token = rw (drop_next s at h) (token_char (get_or s at 0) (drop (at + 1) s) (λ z. q (e.0 ∙ z)))

  pub char_fault : {t : TokenAt} → r.u ≡ 256 → Faulty s at t → Reads token_in s at at t
  char_fault k y = reads_fault (same_token ∙ read_none x k) y

  pub byte_read : (r.u ≡ 256 → ⊥) → r.u < 256 → Reads token_in s at at (record { kind = Char; name = at; name_end = at; unit = r.u; next = r.next })
  byte_read n k = let i = x.inside n in record {
    is = same_token ∙ read_byte x k;
    onward = omega (arith, i.0);
    inside = omega (arith, i.1);
    named = omega arith;
    ended = omega (arith, i.0);
    united = k;
  }

  pub reference_read : (r.u ≡ 256 → ⊥) → 256 ≤ r.u → Reads token_in s at at (record { kind = Reference; name = at; name_end = at; unit = r.u - 257; next = r.next })
  reference_read n k =
      let i = x.inside n in
      let l : 256 < r.u = omega (arith, n) in record {
        is = same_token ∙ read_reference x l;
        onward = omega (arith, i.0);
        inside = omega (arith, i.1);
        named = omega arith;
        ended = omega (arith, i.0);
        united = omega (arith, x.high);
      }
