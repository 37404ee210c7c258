-- The way past a component, entry by entry.
--     behind es d       the entries behind the END of a component, from those inside it on, d components being open there
--     is_aside x        an entry that is neither BEGIN nor END
--     Passed            the contract of a walk from inside a component to behind its END
use Rattle.std.specs.Prelude.{◌≡◌, Bool, true, false, List, [], ◌∷◌, ℕ, zero, suc, ◌≤◌}
use Rattle.read_text_line.specs.Ready.{Ready}
use Rattle.text.specs.Tree.{Entry, begin, end, property, nothing}
use Rattle.edition.specs.declared.Edition.{Edition}
use Rattle.text_entries.specs.Entries.{entries_at}

unfoldable pub behind : List Entry → ℕ → List Entry
behind [] d = []
behind (begin n ∷ es) d = behind es (suc d)
behind (end ∷ es) zero = es
behind (end ∷ es) (suc d) = behind es d
behind (property l ∷ es) d = behind es d
behind (nothing ∷ es) d = behind es d

-- neither BEGIN nor END
abbrev pub is_aside : Entry → Bool
is_aside (begin n) = false
is_aside end = false
is_aside (property l) = true
is_aside nothing = true

module _ (ed : Edition) where
  pub record Passed (mode : ℕ) (s : List ℕ) (from r : ℕ) : Type 0 where
    pub onward : from ≤ r
    pub ready : Ready mode s r
    pub rest : entries_at ed mode s r ≡ behind (entries_at ed mode s from) 0
