-- The size of the content of an element: the bytes of its characters, and for each element its name and two brackets.
--     size               the size of nodes
--     nodes-size         nodes are no larger than the bytes that they are read from;   document_size: of the root
--     characters_size    the characters of nodes
--     part               the size of the elements there whose names pass a test
--     parts              the sizes for each of some names, which are together no more than all: parts-size
use Rattle.std.specs.Prelude.{◌≡◌, Bool, true, false, List, [], ◌∷◌, length}
use Rattle.std.proofs.Math.Path.{refl}
use Rattle.std.proofs.Common.{sym, ap, ◌∙◌, arith, length-drop}
use Rattle.std.proofs.lemmas.Bool.{false≢true}
use Prim.Native.Nat.{ℕ, zero, suc, ◌+◌, ◌≤◌}
use Rattle.octets.specs.Pick.{pick, ◌or◌}
use Rattle.octets.specs.laws.Pick.{pick_either, pick_second}
use Rattle.octets.specs.laws.Append.{length_both}
use Rattle.octets.specs.Words.{same, is_one_of}
use Rattle.octets.specs.laws.Words.{same_true}
use Rattle.octets.specs.Lists.{distinct}
use Rattle.xml.specs.Pieces.{from}
use Rattle.xml.specs.Prolog.{prolog}
use Rattle.xml.specs.Marks.{Mark, opens, closes, char, refers, fault, scan, root_marks, document_marks}
use Rattle.xml.specs.Nodes.{Nodes, no_nodes, element, literal, referred, nodes_by, nodes, root_by, root_node, document_nodes, characters_of}
use Rattle.lengths_text.specs.laws.Bytes.{name_bytes, bytes_of, scan_within, root_within}

unfoldable pub size : Nodes → ℕ
size no_nodes = 0
size (element p m x kids more) = name_bytes m + 2 + size kids + size more
size (literal p b more) = suc (size more)
size (referred p bs more) = length bs + size more

pub characters_size : (ns : Nodes) → length (characters_of ns) ≤ size ns
unfolding characters_of size
characters_size no_nodes = omega arith
characters_size (element p m x kids more) = omega (arith, characters_size more)
characters_size (literal p b more) = omega (arith, characters_size more)
characters_size (referred p bs more) = omega (arith, characters_size more, length_both bs (characters_of more))

-- ---- nodes of marks: each mark counts at one depth

-- the sizes at k depths, from d on
unfoldable levels : ℕ → List Mark → ℕ → ℕ
levels zero ms d = 0
levels (suc k) ms d = size (nodes ms d) + levels k ms (suc d)

module _ (p : ℕ) (ms : List Mark) where
  opens_deeper : (k : ℕ) (nm : List ℕ) (d : ℕ) → levels k (opens p nm ∷ ms) (suc d) ≡ levels k ms (suc (suc d))
  unfolding levels nodes nodes_by
  opens_deeper zero nm d = refl
  opens_deeper (suc k) nm d = rw (opens_deeper k nm (suc d))

  closes_deeper : (k : ℕ) (nm : List ℕ) (d : ℕ) → levels k (closes p nm ∷ ms) (suc d) ≡ levels k ms d
  unfolding levels nodes nodes_by
  closes_deeper zero nm d = refl
  closes_deeper (suc k) nm d = rw (closes_deeper k nm (suc d))

  char_deeper : (k : ℕ) (b : ℕ) (d : ℕ) → levels k (char p b ∷ ms) (suc d) ≡ levels k ms (suc d)
  unfolding levels nodes nodes_by
  char_deeper zero b d = refl
  char_deeper (suc k) b d = rw (char_deeper k b (suc d))

  refers_deeper : (k : ℕ) (bs : List ℕ) (d : ℕ) → levels k (refers p bs ∷ ms) (suc d) ≡ levels k ms (suc d)
  unfolding levels nodes nodes_by
  refers_deeper zero bs d = refl
  refers_deeper (suc k) bs d = rw (refers_deeper k bs (suc d))

  fault_anywhere : (k : ℕ) (d : ℕ) → levels k (fault p ∷ ms) d ≡ 0
  unfolding levels nodes nodes_by size
  fault_anywhere zero d = refl
  fault_anywhere (suc k) d = omega (arith, fault_anywhere k (suc d))

none_anywhere : (k : ℕ) (d : ℕ) → levels k [] d ≡ 0
unfolding levels nodes size
none_anywhere zero d = refl
none_anywhere (suc k) d = omega (arith, none_anywhere k (suc d))

levels_within : (ms : List Mark) (k : ℕ) → levels k ms 0 ≤ bytes_of ms
unfolding levels bytes_of nodes nodes_by size
levels_within [] k = omega (arith, none_anywhere k 0)
levels_within (opens p nm ∷ ms) zero = omega arith
levels_within (opens p nm ∷ ms) (suc k) = omega (arith, opens_deeper p ms k nm 0, levels_within ms (suc (suc k)))
levels_within (closes p nm ∷ ms) zero = omega arith
levels_within (closes p nm ∷ ms) (suc k) = omega (arith, closes_deeper p ms k nm 0, levels_within ms k)
levels_within (char p b ∷ ms) zero = omega arith
levels_within (char p b ∷ ms) (suc k) = omega (arith, char_deeper p ms k b 0, levels_within ms (suc k))
levels_within (refers p bs ∷ ms) zero = omega arith
levels_within (refers p bs ∷ ms) (suc k) = omega (arith, refers_deeper p ms k bs 0, levels_within ms (suc k))
levels_within (fault p ∷ ms) k = omega (arith, fault_anywhere p ms k 0)

marks_size : (ms : List Mark) → size (nodes ms 0) ≤ bytes_of ms
unfolding levels
marks_size ms = omega (arith, levels_within ms 1)

pub nodes-size : (s : List ℕ) (p k : ℕ) → size (nodes (scan s p k) 0) ≤ length s
nodes-size s p k = omega (arith, marks_size (scan s p k), scan_within s p k)

root_size : (ms : List Mark) → size (root_node ms) ≤ bytes_of ms
unfolding root_node root_by size bytes_of
root_size [] = omega arith
root_size (opens p nm ∷ ms) = omega (arith, marks_size ms)
root_size (closes p nm ∷ ms) = omega arith
root_size (char p b ∷ ms) = omega arith
root_size (refers p bs ∷ ms) = omega arith
root_size (fault p ∷ ms) = omega arith

pub document_size : (s : List ℕ) → size (document_nodes s) ≤ length s
unfolding document_nodes document_marks from
document_size s =
    let r : List ℕ = from (prolog s) s in
    omega (arith, root_size (root_marks (prolog s) r), root_within (prolog s) r, length-drop (prolog s) s)

-- ---- the elements of some names

unfoldable pub part : (List ℕ → Bool) → Nodes → ℕ
part p no_nodes = 0
part p (element q m x kids more) = pick (p m) (name_bytes m + 2 + size kids) 0 + part p more
part p (literal q b more) = part p more
part p (referred q bs more) = part p more

pub part-size : (p : List ℕ → Bool) (ns : Nodes) → part p ns ≤ size ns
unfolding part size
part-size p no_nodes = omega arith
part-size p (element q m x kids more) =
    pick_either (λ (n : ℕ). n + part p more ≤ name_bytes m + 2 + size kids + size more) (p m) (name_bytes m + 2 + size kids) 0
    (omega (arith, part-size p more)) (omega (arith, part-size p more))
part-size p (literal q b more) = omega (arith, part-size p more)
part-size p (referred q bs more) = omega (arith, part-size p more)

-- tests that no name passes both of
pub part_apart : (p q : List ℕ → Bool) → ((m : List ℕ) → p m ≡ true → q m ≡ false) → (ns : Nodes) → part p ns + part q ns ≤ part (λ m. p m or q m) ns
unfolding part pick ◌or◌
part_apart p q h no_nodes = omega arith
part_apart p q h (element y m x kids more) = go (p m) (q m) (h m) (part_apart p q h more)
  where
    go : (a b : Bool) → (a ≡ true → b ≡ false) → part p more + part q more ≤ part (λ m. p m or q m) more →
        pick a (name_bytes m + 2 + size kids) 0 + part p more + (pick b (name_bytes m + 2 + size kids) 0 + part q more) ≤ pick (a or b) (name_bytes m + 2 + size kids) 0 + part (λ m. p m or q m) more
    go true true k ih = absurd (false≢true (sym (k refl)))
    go true false k ih = omega (arith, ih)
    go false true k ih = omega (arith, ih)
    go false false k ih = omega (arith, ih)
part_apart p q h (literal y b more) = part_apart p q h more
part_apart p q h (referred y bs more) = part_apart p q h more

abbrev pub named : List ℕ → List ℕ → Bool
named w m = same m w

unfoldable pub parts : List (List ℕ) → Nodes → ℕ
parts [] ns = 0
parts (w ∷ ws) ns = part (named w) ns + parts ws ns

-- a word is none of others
other_word : (w : List ℕ) (ws : List (List ℕ)) → is_one_of w ws ≡ false → (m : List ℕ) → same m w ≡ true → is_one_of m ws ≡ false
other_word w ws h m e = ap (λ (n : List ℕ). is_one_of n ws) (same_true m w e) ∙ h

parts-part : (ws : List (List ℕ)) → distinct ws ≡ true → (ns : Nodes) → parts ws ns ≤ part (λ m. is_one_of m ws) ns
unfolding parts distinct is_one_of
parts-part [] h ns = omega arith
parts-part (w ∷ ws) h ns =
    let d = pick_second (is_one_of w ws) (distinct ws) h in
    let both : part (named w) ns + part (λ m. is_one_of m ws) ns ≤ part (λ m. is_one_of m (w ∷ ws)) ns = part_apart (named w) (λ m. is_one_of m ws) (other_word w ws d.0) ns in
    omega (arith, both, parts-part ws d.1 ns)

pub parts-size : (ws : List (List ℕ)) → distinct ws ≡ true → (ns : Nodes) → parts ws ns ≤ size ns
parts-size ws h ns = omega (arith, parts-part ws h ns, part-size (λ m. is_one_of m ws) ns)
