-- Tokens of a document whose bytes are well formed: where a decoder of UTF-8 stands beside them.
--     State           where a decoder stands that has found nothing bad;   step_state, drop_state, after_ascii: it goes on
--     Ends            so many bytes end with a byte of ASCII
--     start_by_lem, tag_by, reference_by  what tags and references are read as
use Rattle.std.specs.Prelude.{◌≡◌, refl, Bool, true, false, List, [], ◌∷◌, ℕ, zero, suc, ◌+◌, ◌≤◌, ◌<◌, eqb, leb, ltb, length, take, drop, Option, None, Some}
use Rattle.std.proofs.Common.{sym, ap, ◌∙◌, arith, drop-drop, eqb-true}
use Rattle.std.proofs.lemmas.Bool.{false≢true}
use Rattle.octets.specs.Ascii.{ascii}
use Rattle.octets.specs.Pick.{pick, ◌and◌, ◌or◌, within}
use Rattle.octets.specs.laws.Pick.{pick_case, pick_either, and_both, and_yes, within_range, or_left}
use Rattle.octets.specs.Append.{◌⊕◌}
use Rattle.octets.specs.Scan.{span_len, all_of}
use Rattle.octets.specs.laws.Scan.{all_cons}
use Rattle.octets.specs.Class.{is_alpha, is_name_char}
use Rattle.octets.specs.Words.{starts}
use Rattle.octets.specs.laws.Reading.{none-some, provided-some, and_then-some}
use Rattle.utf8.specs.Utf8.{is_ascii, more, low, high, high_after, tails, is_sequence, bad_from}
use Rattle.utf8.specs.laws.Utf8.{ascii_first, low_least}
use Rattle.utf8.specs.Spell.{is_character}
use Rattle.utf8.specs.Computing.{utf8_compute}
use Rattle.xml.specs.Pieces.{Piece, from, first, exactly, any_space, xml_name, name_of, both, ◌then◌}
use Rattle.xml.specs.Reads.{is_name}
use Rattle.xml.specs.Token.{Token, s_tag, empty_elem_tag, e_tag, reference_to, no_token, start_by, end_by, tag, char_ref, reference}

pub record State (s : List ℕ) : Type 0 where
  pub pending : ℕ
  pub at : ℕ
  pub least : ℕ
  pub most : ℕ
  pub last : Bool
  pub above : 0x80 ≤ least
  pub tail : tails pending least most last s ≡ true
  pub good : bad_from pending at s ≡ None

-- a character begins
pub begun : (b : ℕ) (s : List ℕ) (i : ℕ) → bad_from 0 i (b ∷ s) ≡ None → (is_sequence b s ≡ true) × (bad_from (more b) (i + 1) s ≡ None)
unfolding bad_from pick
begun b s i h = go (is_sequence b s) refl h
  where
    go : (t : Bool) → is_sequence b s ≡ t → pick t (bad_from (more b) (i + 1) s) (Some i) ≡ None → (t ≡ true) × (bad_from (more b) (i + 1) s ≡ None)
    go true e k = (refl, k)
    go false e k = none-some (sym k)

from_state : (b : ℕ) (s : List ℕ) (j i lo hi : ℕ) (l : Bool) → 0x80 ≤ lo → tails j lo hi l (b ∷ s) ≡ true → bad_from j i (b ∷ s) ≡ None → State s
unfolding bad_from tails
from_state b s zero i lo hi l g t h =
    let a = begun b s i h in
    record { pending = more b; at = i + 1; least = low b; most = high b; last = eqb b 0xEF; above = low_least b; tail = (and_both (leb (more b) 3) _ a.0).1; good = a.1 }
from_state b s (suc j) i lo hi l g t h =
    record { pending = j; at = i + 1; least = 0x80; most = high_after l b; last = false; above = omega arith; tail = (and_both (within lo hi b) _ t).1; good = h }

pub step_state : (b : ℕ) (s : List ℕ) → State (b ∷ s) → State s
step_state b s st = from_state b s st.pending st.at st.least st.most st.last st.above st.tail st.good

pub drop_state : (n : ℕ) (s : List ℕ) → State s → State (drop n s)
drop_state zero s st = st
drop_state (suc n) [] st = st
drop_state (suc n) (b ∷ s) st = drop_state n s (step_state b s st)

-- after a byte of ASCII a character begins
pub after_ascii : (c : ℕ) (r : List ℕ) → c < 0x80 → is_ascii c ≡ true → State (c ∷ r) → (i : ℕ) × (bad_from 0 i r ≡ None)
unfolding tails
after_ascii c r u a st = go st.pending st.at st.least st.most st.last st.above st.tail st.good
  where
    go : (j i lo hi : ℕ) (l : Bool) → 0x80 ≤ lo → tails j lo hi l (c ∷ r) ≡ true → bad_from j i (c ∷ r) ≡ None → (i : ℕ) × (bad_from 0 i r ≡ None)
    go zero i lo hi l g t h = (i + 1, sym (ascii_first c i r a) ∙ h)
    go (suc j) i lo hi l g t h = let w = within_range lo hi c (and_both (within lo hi c) _ t).0 in absurd (omega arith)

-- ---- tokens

-- the first k bytes of s end with a byte of ASCII
pub record Ends (s : List ℕ) (k : ℕ) : Type 0 where
  pub before : ℕ
  pub byte : ℕ
  pub rest : List ℕ
  pub counted : k ≡ suc before
  pub there : drop before s ≡ byte ∷ rest
  pub small : byte < 0x80
  pub allowed : is_ascii byte ≡ true

pub starts_one : (c : ℕ) (s : List ℕ) → starts (c ∷ []) s ≡ true → s ≡ c ∷ drop 1 s
unfolding starts
starts_one c [] h = absurd (false≢true h)
starts_one c (b ∷ s) h = let z : c ≡ b = eqb-true c b (and_both (eqb c b) true h).0 in ap (λ (x : ℕ). x ∷ s) (sym z)

starts-drop : (w : List ℕ) (c : ℕ) (s : List ℕ) → starts (w ⊕ (c ∷ [])) s ≡ true → starts (c ∷ []) (drop (length w) s) ≡ true
unfolding starts ◌⊕◌
starts-drop [] c s h = h
starts-drop (x ∷ w) c [] h = absurd (false≢true h)
starts-drop (x ∷ w) c (b ∷ s) h = starts-drop w c s (and_both (eqb x b) _ h).1

-- after `w` and a semicolon
ends_word : (w : List ℕ) (s : List ℕ) → starts (w ⊕ ascii ";") s ≡ true → Ends s (suc (length w))
unfolding utf8_compute
ends_word w s h = record {
  before = length w;
  byte = 59;
  rest = drop 1 (drop (length w) s);
  counted = refl;
  there = starts_one 59 (drop (length w) s) (starts-drop w 59 s h);
  small = omega arith;
  allowed = refl;
}

-- after k bytes, d digits and a semicolon
ends_digits : (k d : ℕ) (s : List ℕ) → starts (ascii ";") (from d (from k s)) ≡ true → Ends s (k + d + 1)
unfolding utf8_compute from
ends_digits k d s h = record {
  before = k + d;
  byte = 59;
  rest = drop 1 (drop (k + d) s);
  counted = omega arith;
  there = starts_one 59 (drop (k + d) s) (ap (starts (ascii ";")) (sym (drop-drop d k s)) ∙ h);
  small = omega arith;
  allowed = refl;
}

-- ---- tags

all_span : (p : ℕ → Bool) (s : List ℕ) → all_of p (take (span_len p s) s) ≡ true
unfolding span_len all_of pick
all_span p [] = refl
all_span p (b ∷ s) = go (p b) refl (all_span p s)
  where
    go : (t : Bool) → p b ≡ t → all_of p (take (span_len p s) s) ≡ true → all_of p (take (pick t (suc (span_len p s)) 0) (b ∷ s)) ≡ true
    go true e ih = rw e ih
    go false e ih = refl

span_cons : (p : ℕ → Bool) (b : ℕ) (r : List ℕ) → p b ≡ true → take (span_len p (b ∷ r)) (b ∷ r) ≡ b ∷ take (span_len p r) r
unfolding span_len pick
span_cons p b r h = rw h

no_letter : is_alpha 256 ≡ false
unfolding ◌and◌ ◌or◌
no_letter = refl

-- a name that was read is one
pub name_read : (rest : Piece) (s : List ℕ) (n : ℕ) → (xml_name then rest) s ≡ Some n → is_name (name_of s) ≡ true
unfolding ◌then◌ xml_name name_of first is_name
name_read rest s n h = go s (provided-some (is_alpha (first s)) (span_len is_name_char s) _ (and_then-some (xml_name s) (λ m. both m (rest (from m s))) n h).1).0
  where
    go : (s : List ℕ) → is_alpha (first s) ≡ true → is_name (take (span_len is_name_char s) s) ≡ true
    go [] k = absurd (false≢true (sym no_letter ∙ k))
    go (b ∷ r) k =
        let c : is_name_char b ≡ true = or_left _ _ k in
        ap is_name (span_cons is_name_char b r c) ∙ and_yes _ _ k (all_cons is_name_char b (take (span_len is_name_char r) r) c (all_span is_name_char r))

pub start_by_lem : (Q : Token → Type 0) (s : List ℕ) → ((k : ℕ) → is_name (name_of s) ≡ true → Ends s k → Q (s_tag (name_of s) k)) → ((k : ℕ) → is_name (name_of s) ≡ true → Q (empty_elem_tag (name_of s) k)) → Q no_token →
    (o : Option ℕ) → ((n : ℕ) → o ≡ Some n → is_name (name_of s) ≡ true) → Q (start_by o s)
unfolding utf8_compute start_by from
start_by_lem Q s a b d None f = d
start_by_lem Q s a b d (Some n) f =
    pick_case Q (starts (ascii ">") (from n s)) _ _
    (λ e. a (n + 1) (f n refl) (record {
      before = n;
      byte = 62;
      rest = drop 1 (drop n s);
      counted = omega arith;
      there = starts_one 62 (drop n s) e;
      small = omega arith;
      allowed = refl;
    }))
    (λ e. pick_either Q (starts (ascii "/>") (from n s)) _ _ (b (n + 2) (f n refl)) d)

pub tag_by : (Q : Token → Type 0) (s : List ℕ) → ((k : ℕ) → is_name (name_of s) ≡ true → Ends s k → Q (s_tag (name_of s) k)) → ((k : ℕ) → is_name (name_of s) ≡ true → Q (empty_elem_tag (name_of s) k)) →
    ((n : List ℕ) (k : ℕ) → Q (e_tag n k)) → Q no_token → Q (tag s)
unfolding tag end_by
tag_by Q s a b c d =
    pick_either Q (starts (ascii "/") s) (end_by ((xml_name then any_space then exactly (ascii ">")) (from 1 s)) (from 1 s)) (start_by ((xml_name then any_space) s) s)
    (ends ((xml_name then any_space then exactly (ascii ">")) (from 1 s)) (from 1 s)) (start_by_lem Q s a b d ((xml_name then any_space) s) (name_read any_space s))
  where
    ends : (o : Option ℕ) (r : List ℕ) → Q (end_by o r)
    ends None r = d
    ends (Some n) r = c (name_of r) (n + 1)

-- ---- references

char_by : (Q : Token → Type 0) (k d v : ℕ) (s : List ℕ) → ((w j : ℕ) → is_character w ≡ true → Ends s j → Q (reference_to w j)) → Q no_token → Q (char_ref k d v (from k s))
unfolding char_ref
char_by Q k d v s a f =
    pick_case Q (ltb 0 d and starts (ascii ";") (from d (from k s)) and is_character v) _ _
    (λ e.
    let b = and_both (ltb 0 d) _ e in
    let c = and_both (starts (ascii ";") (from d (from k s))) _ b.1 in
    a v (k + d + 1) c.1 (ends_digits k d s c.0))
    (λ e. f)

amp : is_character 38 ≡ true
unfolding utf8_compute
amp = refl

lt : is_character 60 ≡ true
unfolding utf8_compute
lt = refl

gt : is_character 62 ≡ true
unfolding utf8_compute
gt = refl

apos : is_character 39 ≡ true
unfolding utf8_compute
apos = refl

quot : is_character 34 ≡ true
unfolding utf8_compute
quot = refl

pub reference_by : (Q : Token → Type 0) (s : List ℕ) → ((w j : ℕ) → is_character w ≡ true → Ends s j → Q (reference_to w j)) → Q no_token → Q (reference s)
unfolding reference ◌⊕◌
reference_by Q s a f =
    pick_either Q (starts (ascii "#x") s) _ _ (char_by Q 2 _ _ s a f)
    (pick_either Q (starts (ascii "#") s) _ _ (char_by Q 1 _ _ s a f)
    (pick_case Q (starts (ascii "amp;") s) _ _ (λ e. a 38 4 amp (ends_word (ascii "amp") s e)) (λ e.
    pick_case Q (starts (ascii "lt;") s) _ _ (λ e. a 60 3 lt (ends_word (ascii "lt") s e)) (λ e.
    pick_case Q (starts (ascii "gt;") s) _ _ (λ e. a 62 3 gt (ends_word (ascii "gt") s e)) (λ e.
    pick_case Q (starts (ascii "apos;") s) _ _ (λ e. a 39 5 apos (ends_word (ascii "apos") s e)) (λ e.
    pick_case Q (starts (ascii "quot;") s) _ _ (λ e. a 34 5 quot (ends_word (ascii "quot") s e)) (λ e. f)))))))
