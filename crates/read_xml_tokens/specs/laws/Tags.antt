-- Laws of what specs/Tags.antt defines.
--     opened_start, opened_empty, opened_fault    the tag, by what stands behind the piece
--     closed_end, closed_fault   an end tag
--     tag_closed, tag_opened     a tag of the content
use Rattle.std.specs.Prelude.{◌≡◌, Bool, List, ℕ, ◌+◌, ◌-◌, ◌≤◌, ◌<◌, take}
use Rattle.std.proofs.Math.Path.{refl, sym, ap}
use Rattle.std.proofs.Common.{◌∙◌, arith}
use Rattle.std.proofs.Math.Bool.{true, false}
use Rattle.std.proofs.Math.Dec.{eqb, ltb}
use Rattle.std.proofs.Math.ListN.{length, get_or}
use borrow.Author.Tests.{ltb-true, ltb-false, eq-eqb, eqb-true}
use Rattle.octets.specs.Ascii.{ascii}
use Rattle.octets.specs.Pick.{pick}
use Rattle.octets.specs.laws.Pick.{eqb_swap}
use Rattle.octets.specs.Scan.{span_len}
use Rattle.octets.specs.Class.{is_alpha, is_name_char}
use Rattle.octets.specs.Words.{starts}
use Rattle.octets.specs.laws.Reading.{provided-some}
use Rattle.source.specs.Source.{rest}
use Rattle.source.specs.laws.Facts.{rest_part}
use Rattle.xml.specs.laws.Starting.{starts_byte}
use Rattle.xml.specs.Pieces.{from, first, Piece, exactly, any_space, xml_name, name_of, ◌then◌}
use Rattle.xml.specs.Token.{s_tag, empty_elem_tag, e_tag, no_token, namespace, namespace_attribute, start_by, end_by, tag, root_tag}
use Rattle.read_xml_tokens.specs.Ends.{Ends}
use Rattle.read_xml_tokens.specs.laws.Ends.{ends_then, from_on, exact_stands, exact_misses}
use Rattle.read_xml_tokens.specs.Prologue.{attribute}
use Rattle.read_xml_tokens.specs.TokenAt.{Reads, Faulty, root_in}
use Rattle.read_xml_tokens.specs.laws.TokenAt.{reads_as, reads_fault}
use Rattle.read_xml_tokens.specs.laws.PieceLaws.{from_next, from_past}
use Rattle.read_xml_tokens.specs.Tags.{start_of, end_of, Tagged}
use Rattle.read_xml_tokens.specs.declared.TokenAt.{TokenAt}

abbrev pub plain_tag : Piece
plain_tag = xml_name then any_space

abbrev pub root_piece : Piece
root_piece = xml_name then namespace_attribute then any_space

pub tagged : {p : Piece} {s : List ℕ} {a n e : ℕ} → a ≤ length s → Ends xml_name s a n → Ends p s n e → Tagged (xml_name then p) s a n e
tagged h x y = record { there = h; whole = ends_then x y; name = x; after = y.onward }

pub root_tagged : {s : List ℕ} {a n v e : ℕ} → a ≤ length s → Ends xml_name s a n → Ends (attribute (ascii "xmlns") (exactly namespace)) s n v → Ends any_space s v e → Tagged root_piece s a n e
unfolding namespace_attribute
root_tagged h x y z = tagged h x (ends_then y z)

-- the name, cut out of the input
cut : (s : List ℕ) (a n : ℕ) → take (n - a) (from a s) ≡ rest 0 (take n s) a
unfolding from
cut s a n = sym (rest_part s a n)

name_is : {s : List ℕ} {a n : ℕ} → Ends xml_name s a n → n ≤ length s → name_of (from a s) ≡ rest 0 (take n s) a
unfolding name_of xml_name
name_is {s} {a} {n} x h = rw (provided-some (is_alpha (first (from a s))) (span_len is_name_char (from a s)) (n - a) (x.stands h)).1 (cut s a n)

-- ---- start tags and empty tags

module _ {p : Piece} {s : List ℕ} {a n e f : ℕ} (t : Tagged p s a n e) (x : Ends (exactly (ascii ">")) s e f) where
  pub opened_start : f ≤ length s → start_of p (from a s) ≡ s_tag (rest 0 (take n s) a) (f - a)
  unfolding start_by pick
  opened_start h =
      let k = exact_stands (ascii ">") x h in
      let l : e ≤ length s = omega (arith, x.onward) in
      let m : e - a + 1 ≡ f - a = omega (arith, k.1, t.whole.onward) in
      rw (t.whole.stands l, from_on s a e t.whole.onward, k.0, name_is t.name (omega (arith, t.after)), m)

  module _ {g : ℕ} (y : Ends (exactly (ascii "/>")) s e g) (h : length s < f) where
    pub opened_empty : g ≤ length s → start_of p (from a s) ≡ empty_elem_tag (rest 0 (take n s) a) (g - a)
    unfolding start_by pick
    opened_empty l =
        let k = exact_stands (ascii "/>") y l in
        let i : e ≤ length s = omega (arith, y.onward) in
        let m : e - a + 2 ≡ g - a = omega (arith, k.1, t.whole.onward) in
        rw (t.whole.stands i, from_on s a e t.whole.onward, exact_misses (ascii ">") x i h, k.0, name_is t.name (omega (arith, t.after)), m)

    pub opened_fault : length s < g → start_of p (from a s) ≡ no_token
    unfolding start_by pick
    opened_fault l = go (ltb (length s) e) refl
      where
        go : (b : Bool) → ltb (length s) e ≡ b → start_by (p (from a s)) (from a s) ≡ no_token
        go true q = rw (t.whole.misses t.there (ltb-true (length s) e q))
        go false q =
            let i = ltb-false (length s) e q in
            rw (t.whole.stands i, from_on s a e t.whole.onward, exact_misses (ascii ">") x i h, exact_misses (ascii "/>") y i l)

-- ---- end tags

module _ {s : List ℕ} {a n e f : ℕ} (x : Ends xml_name s a n) (y : Ends any_space s n e) (z : Ends (exactly (ascii ">")) s e f) where
  pub closed_end : f ≤ length s → end_of (from a s) ≡ e_tag (rest 0 (take n s) a) (f - a + 1)
  unfolding end_by
  closed_end h = rw ((ends_then x (ends_then y z)).stands h, name_is x (omega (arith, y.onward, z.onward)))

  pub closed_fault : a ≤ length s → length s < f → end_of (from a s) ≡ no_token
  unfolding end_by
  closed_fault h l = rw ((ends_then x (ends_then y z)).misses h l)

-- ---- a tag that begins at `at`

module _ {s : List ℕ} {at c : ℕ} {t : TokenAt} (h : at < length s) (x : Ends (exactly (ascii "/")) s (at + 1) c) where
  pub tag_closed : c ≤ length s → Reads end_of s at c t → Reads tag s at (at + 1) t
  unfolding tag pick
  tag_closed l y =
      let k = exact_stands (ascii "/") x l in
      let i : c - (at + 1) ≡ 1 = omega (arith, k.1) in
      let j : from 1 (from (at + 1) s) ≡ from c s = ap (λ (m : ℕ). from m (from (at + 1) s)) (sym i) ∙ from_on s (at + 1) c x.onward in
      reads_as (rw (k.0, j)) y

  pub tag_opened : length s < c → Reads (start_of plain_tag) s at (at + 1) t → Reads tag s at (at + 1) t
  unfolding tag pick
  tag_opened l y = reads_as (rw (exact_misses (ascii "/") x (omega arith) l)) y

-- ---- the root's tag

less_than : (s : List ℕ) (at : ℕ) → at < length s → starts (ascii "<") (from at s) ≡ eqb 60 (get_or s at 0)
unfolding from
less_than s at h = starts_byte 60 s at h

module _ {s : List ℕ} {at a : ℕ} {t : TokenAt} (x : Ends (exactly (ascii "<")) s at a) where
  pub root_there : a ≤ length s → Reads (start_of root_piece) s at a t → Reads root_in s at at t
  unfolding root_in root_tag pick
  root_there l y =
      let k = exact_stands (ascii "<") x l in
      let i : at < length s = omega (arith, k.1) in
      let j : from (at + 1) s ≡ from a s = ap (λ (m : ℕ). from m s) (sym k.1) in
      let b : 60 ≡ get_or s at 0 = eqb-true 60 (get_or s at 0) (sym (less_than s at i) ∙ k.0) in
      reads_as (rw (from_next s at i, eq-eqb (get_or s at 0) 60 (sym b), j)) y

  pub root_missing : at ≤ length s → length s < a → Faulty s at t → Reads root_in s at at t
  unfolding root_in root_tag pick
  root_missing h l y = reads_fault (go (ltb at (length s)) refl) y
    where
      go : (b : Bool) → ltb at (length s) ≡ b → root_in (from at s) ≡ no_token
      go true q =
          let i = ltb-true at (length s) q in
          let e : eqb 60 (get_or s at 0) ≡ false = sym (less_than s at i) ∙ exact_misses (ascii "<") x h l in
          rw (from_next s at i, eqb_swap 60 (get_or s at 0) e)
      go false q = rw (from_past s at (ltb-false at (length s) q))
