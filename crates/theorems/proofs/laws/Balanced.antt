-- Lines that are not refused end each component that they begin, and those that were open before them.
--     closes es n       these entries end n components that were begun before them, and every one that they begin
--     nesting-closes    lines that are not refused do, with as many as are open
--     own_ahead, inner_ahead, inner_joined    what such entries state, with others behind them
use Rattle.std.specs.Prelude.{◌≡◌, Bool, ℕ, zero, suc, ◌<◌, length, Option, None, Some}
use Rattle.std.proofs.Math.Path.{refl}
use Rattle.std.proofs.Common.{ap, ◌∙◌, arith}
use Rattle.std.proofs.Math.Bool.{true, false}
use Rattle.std.proofs.lemmas.Bool.{false≢true}
use mathlib.Core.List.{List, [], ◌∷◌, map}
use Rattle.octets.specs.Ascii.{ascii}
use Rattle.octets.specs.Pick.{pick}
use Rattle.octets.specs.Append.{◌⊕◌}
use Rattle.octets.specs.Class.{upper}
use Rattle.octets.specs.Words.{same, is_empty}
use Rattle.calendar.specs.Calendar.{Property}
use Rattle.calendar.specs.Refusal.{NAME, fine}
use Rattle.calendar.specs.laws.Refusal.{refused_not}
use Rattle.schema.specs.Counts.{complete}
use Rattle.folding.specs.Lines.{Line, whole, loose}
use Rattle.edition.specs.declared.Edition.{Edition}
use Rattle.read_text_line.specs.ContentLine.{RawParameter, ContentLine}
use Rattle.read_text_line.specs.Names.{is_component_name}
use Rattle.read_text_line.specs.Decoded.{read_line}
use Rattle.text.specs.Faults.{Fault, fault, line_start}
use Rattle.text.specs.Statement.{property_of, property_fault}
use Rattle.text.specs.Nesting.{Open, Move, on, stop, may_begin, begin_in, begins, method_in, ends, may_hold, told, states, names_carried, move_by, move_of, move, ended, nesting}
use Rattle.text.specs.Tree.{Entry, begin, end, property, nothing, entry_by, entry_of, own_of, inner_of}
use Rattle.text.proofs.laws.AcceptedTree.{moved_on}
use Rattle.theorems.specs.Joined.{◌followed_by◌}

-- a property stands in a component
unfoldable pub closes : List Entry → ℕ → Bool
closes [] zero = true
closes [] (suc n) = false
closes (begin k ∷ es) n = closes es (suc n)
closes (end ∷ es) zero = false
closes (end ∷ es) (suc n) = closes es n
closes (property l ∷ es) zero = false
closes (property l ∷ es) (suc n) = closes es (suc n)
closes (nothing ∷ es) n = false

-- ---- one line that is not refused

stop-on : {X : Type 0} {r : Fault} {u : List Open} → stop r ≡ on u → X
stop-on e = let z : ◌≡◌ {A = ℕ} 0 1 = cc in absurd (omega arith)

passed : (t : Bool) (m : Move) (r : Fault) (u : List Open) → pick t m (stop r) ≡ on u → m ≡ on u
unfolding pick
passed true m r u h = h
passed false m r u h = stop-on h

-- as many are open
as_many : (v u : List Open) → on v ≡ on u → length u ≡ length v
as_many v u h = let e : u ≡ v = cc in ap length e

begun_length : (k : List ℕ) (st : List Open) → length (begin_in k st) ≡ suc (length st)
begun_length k [] = refl
begun_length k (f ∷ st) = refl

begins_one : (k : List ℕ) (ps : List RawParameter) (st u : List Open) → begins k ps st ≡ on u → length u ≡ suc (length st)
unfolding begins
begins_one k ps st u h = as_many (begin_in k st) u (passed (is_empty ps) _ _ u (passed (may_begin k st) _ _ u (passed (is_component_name k) _ _ u h))) ∙ begun_length k st

ends_one : (k : List ℕ) (ps : List RawParameter) (st u : List Open) → ends k ps st ≡ on u → length st ≡ suc (length u)
unfolding ends
ends_one k ps [] u h = stop-on h
ends_one k ps (f ∷ st) u h =
    let e = as_many st u (passed (complete f.name f.seen (record { inner = f.inner; method = method_in st })) _ _ u (passed (is_empty ps) _ _ u (passed (same k f.name) _ _ u h))) in
    omega arith

holds_on : (o : Option Fault) (v u : List Open) → told o (on v) ≡ on u → length u ≡ length v
holds_on None v u h = as_many v u h
holds_on (Some r) v u h = stop-on h

-- a property stands in the innermost
states_none : (l : ContentLine) (st u : List Open) → states l st ≡ on u → (length u ≡ length st) × (0 < length st)
unfolding states
states_none l [] u h = stop-on h
states_none l (f ∷ st) u h =
    (holds_on (property_fault f.name l) (record { name = f.name; seen = property_of f.name l ∷ f.seen; inner = f.inner } ∷ st) u (passed (may_hold (upper l.name) f) _ _ u h), omega arith)

-- the same number of components
closes_as : (es : List Entry) (m n : ℕ) → m ≡ n → closes es m ≡ true → closes es n ≡ true
closes_as es m n e h = rw (← e) h

closes-end : (es : List Entry) (m n : ℕ) → n ≡ suc m → closes es m ≡ true → closes (end ∷ es) n ≡ true
unfolding closes
closes-end es m n e h = rw e h

closes-property : (l : ContentLine) (es : List Entry) (n : ℕ) → 0 < n → closes es n ≡ true → closes (property l ∷ es) n ≡ true
unfolding closes
closes-property l es zero z h = absurd (omega arith)
closes-property l es (suc n) z h = h

module _ (ed : Edition) where
  line_closes : (s : List ℕ) (st u : List Open) (es : List Entry) → move ed s st ≡ on u → closes es (length u) ≡ true → closes (entry_by (read_line ed s) ∷ es) (length st) ≡ true
  unfolding move_of move_by entry_by closes pick
  line_closes s st u es m h = go (read_line ed s) m
    where
      by : (l : ContentLine) (c b e : Bool) →
          pick c (pick b (begins (upper l.value) l.parameters st) (pick e (ends (upper l.value) l.parameters st) (states l st))) (stop (fault NAME line_start)) ≡ on u →
          closes (pick b (begin (upper l.value)) (pick e end (property l)) ∷ es) (length st) ≡ true
      by l false b e k = stop-on k
      by l true true e k = closes_as es _ _ (begins_one (upper l.value) l.parameters st u k) h
      by l true false true k = closes-end es _ _ (ends_one (upper l.value) l.parameters st u k) h
      by l true false false k = let p = states_none l st u k in closes-property l es _ p.1 (closes_as es _ _ p.0 h)

      go : (o : Option ContentLine) → move_of o st ≡ on u → closes (entry_by o ∷ es) (length st) ≡ true
      go None k = stop-on k
      go (Some l) k = by l (names_carried l) (same (upper l.name) (ascii "BEGIN")) (same (upper l.name) (ascii "END")) k

  -- ---- all lines

  pub nesting-closes : (ls : List Line) (e : ℕ) (st : List Open) → nesting ed e ls st ≡ fine → closes (map (entry_of ed) ls) (length st) ≡ true
  unfolding nesting ended entry_of closes
  nesting-closes [] e [] h = refl
  nesting-closes [] e (f ∷ st) h = refused_not _ _ h
  nesting-closes (loose p ∷ ls) e st h = refused_not _ _ h
  nesting-closes (whole p s ∷ ls) e st h =
      let m = moved_on ed (move ed s st) p s (nesting ed e ls) h in
      line_closes s st m.0 (map (entry_of ed) ls) m.1 (nesting-closes ls e m.0 m.2)

-- ---- what entries state that end n components, with others behind them: up to the n-th from inside the same

pub own_ahead : (es fs : List Entry) (n d : ℕ) (k : List ℕ) → closes es n ≡ true → d < n → own_of k (es ⊕ fs) d ≡ own_of k es d
unfolding closes own_of ◌⊕◌
own_ahead [] fs zero d k h l = absurd (omega arith)
own_ahead [] fs (suc n) d k h l = absurd (false≢true h)
own_ahead (begin j ∷ es) fs n d k h l = own_ahead es fs (suc n) (suc d) k h (omega arith)
own_ahead (end ∷ es) fs zero d k h l = absurd (false≢true h)
own_ahead (end ∷ es) fs (suc n) zero k h l = refl
own_ahead (end ∷ es) fs (suc n) (suc d) k h l = own_ahead es fs n d k h (omega arith)
own_ahead (property m ∷ es) fs zero d k h l = absurd (false≢true h)
own_ahead (property m ∷ es) fs (suc n) zero k h l = ap (λ (ps : List Property). property_of k m ∷ ps) (own_ahead es fs (suc n) zero k h l)
own_ahead (property m ∷ es) fs (suc n) (suc d) k h l = own_ahead es fs (suc n) (suc d) k h l
own_ahead (nothing ∷ es) fs n d k h l = absurd (false≢true h)

pub inner_ahead : (es fs : List Entry) (n d : ℕ) → closes es n ≡ true → d < n → inner_of (es ⊕ fs) d ≡ inner_of es d
unfolding closes inner_of ◌⊕◌
inner_ahead [] fs zero d h l = absurd (omega arith)
inner_ahead [] fs (suc n) d h l = absurd (false≢true h)
inner_ahead (begin j ∷ es) fs n zero h l =
    rw (own_ahead es fs (suc n) 0 j h (omega arith), inner_ahead es fs (suc n) 0 h (omega arith), inner_ahead es fs (suc n) 1 h (omega arith))
inner_ahead (begin j ∷ es) fs n (suc d) h l = inner_ahead es fs (suc n) (suc (suc d)) h (omega arith)
inner_ahead (end ∷ es) fs zero d h l = absurd (false≢true h)
inner_ahead (end ∷ es) fs (suc n) zero h l = refl
inner_ahead (end ∷ es) fs (suc n) (suc d) h l = inner_ahead es fs n d h (omega arith)
inner_ahead (property m ∷ es) fs zero d h l = absurd (false≢true h)
inner_ahead (property m ∷ es) fs (suc n) d h l = inner_ahead es fs (suc n) d h l
inner_ahead (nothing ∷ es) fs n d h l = absurd (false≢true h)

-- and outside of them the components of both
pub inner_joined : (es fs : List Entry) (n : ℕ) → closes es n ≡ true → inner_of (es ⊕ fs) n ≡ inner_of es n followed_by inner_of fs 0
unfolding closes inner_of ◌followed_by◌ ◌⊕◌
inner_joined [] fs zero h = refl
inner_joined [] fs (suc n) h = absurd (false≢true h)
inner_joined (begin j ∷ es) fs zero h = rw (own_ahead es fs 1 0 j h (omega arith), inner_ahead es fs 1 0 h (omega arith), inner_joined es fs 1 h)
inner_joined (begin j ∷ es) fs (suc n) h = inner_joined es fs (suc (suc n)) h
inner_joined (end ∷ es) fs zero h = absurd (false≢true h)
inner_joined (end ∷ es) fs (suc n) h = inner_joined es fs n h
inner_joined (property m ∷ es) fs zero h = absurd (false≢true h)
inner_joined (property m ∷ es) fs (suc n) h = inner_joined es fs (suc n) h
inner_joined (nothing ∷ es) fs n h = absurd (false≢true h)
