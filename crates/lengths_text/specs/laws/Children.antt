-- The children of a name in an element.
--     named_text           the characters of the first of them;   text_within: by the size of all children
--     parameters_part_lem  the size of the `parameters` of a property
--     inside_size          the size of what stands in the first child of a name
use Rattle.std.specs.Prelude.{◌≡◌, refl, Bool, true, false, List, [], ℕ, ◌+◌, ◌≤◌, length, Some}
use native.Mathlib.Omega.{arith}
use Rattle.octets.specs.Ascii.{ascii}
use Rattle.octets.specs.Pick.{pick}
use Rattle.octets.specs.Words.{same}
use Rattle.octets.specs.laws.Words.{same_self, same_true}
use Rattle.octets.specs.Reading.{read_or}
use Rattle.xml.specs.Nodes.{Nodes, no_nodes, element, literal, referred, characters_of}
use Rattle.xcal.specs.ValueNodes.{value_slots, child_named, text_of}
use Rattle.xcal.specs.Layout.{slot_of}
use Rattle.xcal.specs.PropertyNodes.{still_before, parameters_in}
use Rattle.xcal.specs.ComponentNodes.{inside_of}
use Rattle.lengths_text.specs.laws.Bytes.{name_bytes}
use Rattle.lengths_text.specs.laws.Sizes.{size, characters_size, part, part-size, named}

swapped : (n m : List ℕ) → same n m ≡ true → same m n ≡ true
swapped n m h = rw (same_true n m h) (same_self m)

pub named_text : (n : List ℕ) (ns : Nodes) → length (text_of n ns) ≤ part (named n) ns
unfolding child_named part read_or pick
named_text n no_nodes = omega arith
named_text n (literal p b more) = named_text n more
named_text n (referred p bs more) = named_text n more
named_text n (element p m x kids more) = go (same n m) refl (named_text n more)
  where
    go : (t : Bool) → same n m ≡ t → length (text_of n more) ≤ part (named n) more →
        length (read_or [] (pick t (Some (characters_of kids)) (child_named n more))) ≤ pick (same m n) (name_bytes m + 2 + size kids) 0 + part (named n) more
    go true e ih = rw (swapped n m e) (omega (arith, characters_size kids))
    go false e ih = omega (arith, ih)

pub text_within : (n : List ℕ) (ns : Nodes) → length (text_of n ns) ≤ size ns
text_within n ns = omega (arith, named_text n ns, part-size (named n) ns)

pub parameters_part_lem : (n : List ℕ) (ns : Nodes) → size (parameters_in n ns) ≤ part (named (ascii "parameters")) ns
unfolding parameters_in part pick
parameters_part_lem n no_nodes = unfold size in omega arith
parameters_part_lem n (literal p b more) = parameters_part_lem n more
parameters_part_lem n (referred p bs more) = parameters_part_lem n more
parameters_part_lem n (element p m x kids more) = go (same m (ascii "parameters")) (still_before (slot_of m (value_slots n) 0)) (parameters_part_lem n more)
  where
    go : (a b : Bool) → size (parameters_in n more) ≤ part (named (ascii "parameters")) more →
        size (pick a kids (pick b (parameters_in n more) no_nodes)) ≤ pick a (name_bytes m + 2 + size kids) 0 + part (named (ascii "parameters")) more
    go true b ih = omega arith
    go false true ih = omega (arith, ih)
    go false false ih = unfold size in omega arith

pub inside_size : (n : List ℕ) (ns : Nodes) → size (inside_of n ns) ≤ part (named n) ns
unfolding inside_of part pick
inside_size n no_nodes = unfold size in omega arith
inside_size n (literal p b more) = inside_size n more
inside_size n (referred p bs more) = inside_size n more
inside_size n (element p m x kids more) = go (same m n) (inside_size n more)
  where
    go : (t : Bool) → size (inside_of n more) ≤ part (named n) more → size (pick t kids (inside_of n more)) ≤ pick t (name_bytes m + 2 + size kids) 0 + part (named n) more
    go true ih = omega arith
    go false ih = omega (arith, ih)
