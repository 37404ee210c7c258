-- Marks of a document that can be read: where an element opens, its name is a name, and the characters up to the next tag are clean. Their nodes are good.
--     are_good_marks
--     good_nodes    the nodes of such marks are good
use Rattle.std.specs.Prelude.{◌≡◌, refl, Bool, true, false, List, [], ◌∷◌, ℕ, zero, suc}
use Rattle.std.proofs.Common.{sym, ap}
use Rattle.std.proofs.lemmas.Bool.{false≢true}
use Rattle.octets.specs.Pick.{◌and◌, ◌or◌}
use Rattle.octets.specs.laws.Pick.{and_both, and_yes}
use Rattle.octets.specs.Append.{◌⊕◌}
use Rattle.xml.specs.Reads.{is_name}
use Rattle.xml.specs.Marks.{Mark, opens, closes, char, refers, fault}
use Rattle.xml.specs.Nodes.{nodes_by, nodes, characters_of, has_element}
use Rattle.xml.specs.CleanRuns.{run_by, run_of}
use Rattle.xcal.proofs.laws.SoundContent.{is_clean}
use Rattle.xcal.proofs.laws.ValuesAccepted.{is_clean_content}
use Rattle.xcal.proofs.laws.GoodNodes.{is_good}

unfoldable pub is_good_mark : Mark → List ℕ → Bool
is_good_mark (opens p nm) run = is_name nm and is_clean run
is_good_mark (closes p nm) run = true
is_good_mark (char p b) run = true
is_good_mark (refers p bs) run = true
is_good_mark (fault p) run = true

unfoldable pub are_good_marks : List Mark → Bool
are_good_marks [] = true
are_good_marks (m ∷ ms) = is_good_mark m (run_of ms) and are_good_marks ms

-- ---- nodes

run_characters : (ms : List Mark) → has_element (nodes ms 0) ≡ false → characters_of (nodes ms 0) ≡ run_of ms
unfolding nodes nodes_by characters_of has_element run_of run_by
run_characters [] h = refl
run_characters (opens p nm ∷ ms) h = absurd (false≢true (sym h))
run_characters (closes p nm ∷ ms) h = refl
run_characters (char p b ∷ ms) h = ap (λ (l : List ℕ). b ∷ l) (run_characters ms h)
run_characters (refers p bs ∷ ms) h = ap (λ (l : List ℕ). bs ⊕ l) (run_characters ms h)
run_characters (fault p ∷ ms) h = refl

clean_content : (ms : List Mark) → is_clean (run_of ms) ≡ true → is_clean_content (nodes ms 0) ≡ true
unfolding ◌or◌
clean_content ms h = go (has_element (nodes ms 0)) refl
  where
    go : (t : Bool) → has_element (nodes ms 0) ≡ t → (t or is_clean (characters_of (nodes ms 0))) ≡ true
    go true e = refl
    go false e = rw (run_characters ms e) h

pub good_nodes : (ms : List Mark) (d : ℕ) → are_good_marks ms ≡ true → is_good (nodes ms d) ≡ true
unfolding nodes nodes_by is_good are_good_marks is_good_mark ◌and◌
good_nodes [] d h = refl
good_nodes (opens p nm ∷ ms) zero h =
    let a = and_both (is_name nm and is_clean (run_of ms)) (are_good_marks ms) h in
    let b = and_both (is_name nm) (is_clean (run_of ms)) a.0 in
    and_yes _ _ b.0 (and_yes _ _ (clean_content ms b.1) (and_yes _ _ (good_nodes ms 0 a.1) (good_nodes ms 1 a.1)))
good_nodes (opens p nm ∷ ms) (suc d) h = good_nodes ms (suc (suc d)) (and_both (is_name nm and is_clean (run_of ms)) (are_good_marks ms) h).1
good_nodes (closes p nm ∷ ms) zero h = refl
good_nodes (closes p nm ∷ ms) (suc d) h = good_nodes ms d h
good_nodes (char p b ∷ ms) zero h = good_nodes ms 0 h
good_nodes (char p b ∷ ms) (suc d) h = good_nodes ms (suc d) h
good_nodes (refers p bs ∷ ms) zero h = good_nodes ms 0 h
good_nodes (refers p bs ∷ ms) (suc d) h = good_nodes ms (suc d) h
good_nodes (fault p ∷ ms) d h = refl
