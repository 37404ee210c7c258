-- Whether a document is within the XML profile, found by code in one pass.
--     Formed v l r       r is the verdict v, its place not behind the end of an input of l bytes
--     Ongoing            the invariant of the pass: at the place `at`, with d open elements, the verdict v is that on the rest
--     Turn, After        what depth_after answers
use Rattle.std.specs.Prelude.{◌≡◌, ⊤, true, List, ℕ, ◌-◌, ◌≤◌, ◌<◌, length, set, Option, None, Some, Result, Err, IfErr}
use Rattle.calendar.specs.Refusal.{Verdict}
use Rattle.refusals.specs.Fault.{fault_at, judged_as}
use Rattle.refusals.specs.declared.Refusal.TheVariants.{Xml}
use Rattle.refusals.specs.declared.Fault.{Fault}
use Rattle.xml.specs.WellFormed.{check}
use Rattle.xml.specs.NodesAt.{marks_at}
use Rattle.read_xml_tokens.specs.Open.{opened}
use Rattle.read_xml_tokens.specs.declared.TokenAt.{TokenAt}

pub record Formed (v : Verdict) (l : ℕ) (r : Result ⊤ Fault) : Type 0 where
  pub is : v ≡ judged_as r
  pub inside : IfErr r (λ f. f.place ≤ l)

-- the verdict on what stands from a place on, inside the elements that are open there
abbrev pub verdict_at : List ℕ → List ℕ → List ℕ → ℕ → ℕ → Verdict
verdict_at s a e d at = check (marks_at s at) (length s) true (opened s a e d)

pub record Ongoing (v : Verdict) (s a e : List ℕ) (d at : ℕ) : Type 0 where
  pub deep : d ≤ 32
  pub begun : length a ≡ 32
  pub ended : length e ≡ 32
  pub inside : at ≤ length s
  pub left : v ≡ verdict_at s a e d at

-- ---- how many elements are open behind a token, where it may stand there

pub record Turn (v : Verdict) (s a e : List ℕ) (d at : ℕ) (t : TokenAt) (r : Option ℕ) : Type 0 where
  pub stops : r ≡ None → Formed v (length s) (Err (fault_at Xml at))
  pub opens : {n : ℕ} → r ≡ Some n → d < n → Ongoing v s (set a d t.name) (set e d t.name_end) n t.next
  pub stays : {n : ℕ} → r ≡ Some n → n ≤ d → Ongoing v s a e n t.next
  pub less : {n : ℕ} → r ≡ Some n → length s - t.next < length s - at

abbrev pub After : List ℕ → List ℕ → List ℕ → ℕ → ℕ → TokenAt → Option ℕ → Type 0
After s a e d at t r = (v : Verdict) → Ongoing v s a e d at → Turn v s a e d at t r
