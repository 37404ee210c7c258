-- Laws of what specs/Content.antt defines.
use Rattle.std.specs.Prelude.{◌≡◌, refl, Bool, true, false, not, List, ℕ, zero, suc, ◌+◌, length}
use Rattle.std.proofs.Common.{sym, ap, ◌∙◌, arith}
use Rattle.octets.specs.Pick.{◌and◌}
use Rattle.octets.specs.Append.{◌⊕◌}
use Rattle.octets.specs.laws.Append.{append_regroup, length_both}
use Rattle.octets.specs.Words.{holds}
use Rattle.xml.specs.Nodes.{Nodes, no_nodes, element}
use Rattle.xml.specs.Escape.{escaped, start_tag, end_tag, element_of}
use Rattle.xml.specs.Reads.{is_name}
use Rattle.xml.specs.Content.{Content, nothing, child, char_data, written, is_writable, ◌beside◌, inner_place, end_tag_place, next_place, character_nodes, placed}

-- ---- laws of `beside`

pub written-beside : (c e : Content) → written (c beside e) ≡ written c ⊕ written e
unfolding written ◌beside◌ ◌⊕◌
written-beside nothing e = refl
written-beside (child nm inner next) e =
    ap (λ (s : List ℕ). element_of nm (written inner) ⊕ s) (written-beside next e) ∙ sym (append_regroup (element_of nm (written inner)) (written next) (written e))
written-beside (char_data s next) e =
    ap (λ (t : List ℕ). escaped s ⊕ t) (written-beside next e) ∙ sym (append_regroup (escaped s) (written next) (written e))

pub beside_writable : (c e : Content) (d : ℕ) → is_writable (c beside e) d ≡ (is_writable c d and is_writable e d)
unfolding is_writable ◌beside◌ ◌and◌
beside_writable nothing e d = refl
beside_writable (child nm inner next) e zero = refl
beside_writable (child nm inner next) e (suc d) = go (is_name nm) (is_writable inner d) (beside_writable next e (suc d))
  where
    go : (s t : Bool) → is_writable (next beside e) (suc d) ≡ (is_writable next (suc d) and is_writable e (suc d)) →
        (s and t and is_writable (next beside e) (suc d)) ≡ ((s and t and is_writable next (suc d)) and is_writable e (suc d))
    go true true ih = ih
    go true false ih = refl
    go false t ih = refl
beside_writable (char_data s next) e d = go (not (holds 13 s)) (beside_writable next e d)
  where
    go : (t : Bool) → is_writable (next beside e) d ≡ (is_writable next d and is_writable e d) → (t and is_writable (next beside e) d) ≡ ((t and is_writable next d) and is_writable e d)
    go true ih = ih
    go false ih = refl

pub placed-beside : (c e : Content) (p : ℕ) (n : Nodes) → placed (c beside e) p n ≡ placed c p (placed e (p + length (written c)) n)
unfolding placed ◌beside◌ written
placed-beside nothing e p n = ap (λ (q : ℕ). placed e q n) (omega arith)
placed-beside (child nm inner next) e p n =
    ap (λ (m : Nodes). element p nm (end_tag_place nm inner p) (placed inner (inner_place nm p) no_nodes) m)
    (placed-beside next e (next_place nm inner p) n
    ∙ ap (λ (q : ℕ). placed next (next_place nm inner p) (placed e q n))
    (omega (arith, length_both (element_of nm (written inner)) (written next), length_both (start_tag nm) (written inner ⊕ end_tag nm), length_both (written inner) (end_tag nm))))
placed-beside (char_data s next) e p n =
    ap (character_nodes s p)
    (placed-beside next e (p + length (escaped s)) n
    ∙ ap (λ (q : ℕ). placed next (p + length (escaped s)) (placed e q n)) (omega (arith, length_both (escaped s) (written next))))
