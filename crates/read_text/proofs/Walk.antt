-- From line to line in a component, and from calendar to calendar: what holds before each line, kept by each that goes on, and the answer at each that does not.
--     Reached     in a component;   reached_none, reached_held, reached_inner, body_closed ..
--     Between     between calendars;   between_none, between_more, checked_refused ..
use mathlib.Core.Path.{◌≡◌, refl, sym, ap, subst, ◌∙◌}
use mathlib.Core.Bool.{Bool, true, false}
use mathlib.Core.List.{List, [], ◌∷◌}
use Prim.Native.Nat.{ℕ, suc, ◌+◌, ◌-◌, ◌≤◌, ◌<◌}
use native.Mathlib.Omega.{arith}
use lib.Dec.{eqb, ltb}
use lib.ListN.{length, replicate, take}
use borrow.Author.Tests.{lt-ltb, le-ltb, ltb-true, ltb-false}
use Rattle.octets.specs.Pick.{pick}
use Rattle.octets.specs.Class.{upper}
use Rattle.names.specs.Table.{place_of}
use Rattle.calendar.specs.Calendar.{Property}
use Rattle.calendar.specs.Levels.{levels}
use Rattle.calendar.specs.Refusal.{COUNT, refuse}
use Rattle.schema.specs.Components.{component_names}
use Rattle.schema.specs.Counts.{action_of, method_for, complete}
use Rattle.schema.specs.Arrays.{bumped, tallies}
use Rattle.schema.specs.Completing.{alarm_action, complete_at, method_at}
use Rattle.schema.specs.laws.Completing.{complete-tallies, method_tallies}
use Rattle.schema.specs.Property as property
use Rattle.schema.specs.declared.Action.{Action}
use Rattle.folding.specs.Lines.{Line, lines, lines_after}
use Rattle.folding.specs.laws.Lines.{lines_some}
use Rattle.source.specs.Source.{rest, cuts, Settled}
use Rattle.read_text_line.specs.LineEnd.{index}
use Rattle.source.specs.laws.Facts.{rest_past}
use Rattle.read_text_line.specs.Ready.{Ready}
use Rattle.read_text_line.specs.laws.Ready.{ready_start, lines_start, lines_past, index_end}
use Rattle.text.specs.Faults.{fault, line_start, offset}
use Rattle.text.specs.Nesting.{Open, on, stop, opened, method_in, onward, ended, nesting}
use Rattle.text.specs.LineKind.{LineKind, step}
use Rattle.text.specs.ReadText.{lines_verdict}
use Rattle.edition.specs.declared.Edition.{Edition}
use Rattle.read_text.specs.Answers.{Checks}
use Rattle.read_text.specs.laws.Action.{action_seen}
use Rattle.read_text.specs.Places.{PlaceAt}
use Rattle.read_text.specs.Kinds.{Held, KindIs}
use Rattle.read_text.specs.Turns.{on_from, open_in, Turned, Body}
use Rattle.read_text.specs.Outer.{Outer}
use Rattle.read_text.specs.declared.Kind.{Kind}
use Rattle.read_text.specs.declared.Kind.TheVariants.{Starts, Stops, Holds}
use Rattle.read_text.specs.declared.Turn.{Turn}
use Rattle.std.specs.Prelude.{Result, Ok, Err, Option, None}
use Rattle.refusals.specs.Fault.{refusal_of, fault_at}
use Rattle.refusals.specs.declared.Fault.{Fault}
use Rattle.refusals.specs.declared.Refusal.TheVariants.{Frame, Count}

-- whether there is a level left
level_is : (left n : ℕ) → n + 1 + left ≡ levels → ltb (suc n) levels ≡ ltb 0 left
level_is left n h = go (ltb 0 left) refl
  where
    go : (b : Bool) → ltb 0 left ≡ b → ltb (suc n) levels ≡ b
    go true e = lt-ltb (suc n) levels (omega (arith, ltb-true 0 left e))
    go false e = le-ltb (suc n) levels (omega (arith, ltb-false 0 left e))

module _ (ed : Edition) where
  -- ---- in a component

  -- from the line behind the BEGIN of the component c to a place, with these tallies, the number of ACTION's word, and whether a subcomponent has come;
  -- left levels are left in it, and method says whether the calendar round it has METHOD
  pub record Reached (c : List ℕ) (left : ℕ) (method : Bool) (m : ℕ) (s : List ℕ) (from at : ℕ) (counts : List ℕ) (action : Option Action) (inner : Bool) : Type 0 where
    pub low : from ≤ at
    pub high : Ready m s at
    pub seen : List Property
    pub tallied : counts ≡ tallies seen
    pub acted : action ≡ alarm_action (action_of seen)
    pub agrees : (st : List Open) → method_in st ≡ method → length st + 1 + left ≡ levels → on_from ed m s from (opened c ∷ st) ≡ on_from ed m s at (open_in c seen inner ∷ st)

  -- ---- between calendars

  -- from the first line of a text to a place where nothing is open
  pub record Between (m : ℕ) (s : List ℕ) (at : ℕ) : Type 0 where
    pub high : Ready m s at
    pub agrees : lines_verdict ed (length (rest m s 0)) (lines (rest m s 0)) ≡ on_from ed m s at []

lines_verdict_lem : (ed : Edition) (e : ℕ) (ls : List Line) → 0 < length ls → lines_verdict ed e ls ≡ nesting ed e ls []
unfolding lines_verdict
lines_verdict_lem ed e [] h = absurd (omega arith)
lines_verdict_lem ed e (l ∷ ls) h = refl

module _ {ed : Edition} where
  pub reached_none : (c : List ℕ) (left : ℕ) (method : Bool) (m : ℕ) (s : List ℕ) (from : ℕ) → Ready m s from → Reached ed c left method m s from from (replicate property.KNOWN 0) None false
  unfolding tallies action_of
  reached_none c left method m s from h = record { low = omega arith; high = h; seen = []; tallied = refl; acted = refl; agrees = λ st i j. refl }

  module _ {c : List ℕ} {left : ℕ} {method : Bool} {m : ℕ} {s : List ℕ} {from at : ℕ} {counts : List ℕ} {action : Option Action} {inner : Bool} (r : Reached ed c left method m s from at counts action inner) where
    pub body_open : length s ≤ at → Body ed c left method m s from (Err (fault_at Frame (length s)))
    unfolding nesting ended
    body_open h = record { ends = omega arith; agrees = λ st i j. r.agrees st i j ∙ rw (lines_past m s at r.high.cut h, index_end m s (length s) r.high.cut (omega arith)) }

    module _ {v : Bool} (y : v ≡ ltb 0 left) {t : Turn} (d : Turned ed c v inner m s at t) where
      -- the check up to a line, and what that line does
      moves : (st : List Open) → method_in st ≡ method → length st + 1 + left ≡ levels →
          on_from ed m s from (opened c ∷ st) ≡ onward (step d.line (open_in c r.seen inner) st) (index m s at) d.bytes (on_from ed m s t.next)
      moves st i j = r.agrees st i j ∙ d.does r.seen st (level_is left (length st) j ∙ sym y)

      said_as : (x : Result Kind Fault) → t.kind ≡ x → KindIs (PlaceAt m s at d.bytes) v m (take t.end s) d.line x
      said_as x e = subst (KindIs (PlaceAt m s at d.bytes) v m (take t.end s) d.line) e d.said

      pub body_faulty : {g : Fault} → t.kind ≡ Err g → Body ed c left method m s from (Err g)
      unfolding step onward
      body_faulty {g} e =
          let f = said_as (Err g) e in
          record { ends = f.there.most; agrees = λ st i j. moves st i j ∙ rw f.is (ap (refuse (refusal_of g.refusal)) (sym f.there.is)) }

      -- a property
      pub reached_held : {p : ℕ} {a action' : Option Action} {counts' : List ℕ} → t.kind ≡ Ok (Holds p a) → counts' ≡ bumped p counts → action' ≡ pick (eqb p property.ACTION) a action →
          Reached ed c left method m s from t.next counts' action' inner
      unfolding step onward tallies
      reached_held {p} {a} e f g = let h : Held d.line p a = said_as (Ok (Holds p a)) e in record {
        low = omega (arith, r.low, d.low);
        high = d.high;
        seen = h.property ∷ r.seen;
        tallied = f ∙ ap (bumped p) r.tallied ∙ ap (λ (n : ℕ). bumped n (tallies r.seen)) h.number;
        acted = g ∙ action_seen h.property r.seen h.number h.action r.acted;
        agrees = λ st i j. moves st i j ∙ ap (λ (x : LineKind). onward (step x (open_in c r.seen inner) st) (index m s at) d.bytes (on_from ed m s t.next)) h.is;
      }

      -- a subcomponent
      module _ {n a : ℕ} (e : t.kind ≡ Ok (Starts n a)) where
        pub starts_number : n ≡ place_of (upper (rest m (take t.end s) a)) component_names
        starts_number = (said_as (Ok (Starts n a)) e).1

        pub starts_left : 1 ≤ left
        starts_left = ltb-true 0 left (sym y ∙ (said_as (Ok (Starts n a)) e).2)

        begins_inner : (st : List Open) → method_in st ≡ method → length st + 1 + left ≡ levels →
            on_from ed m s from (opened c ∷ st) ≡ on_from ed m s t.next (opened (upper (rest m (take t.end s) a)) ∷ open_in c r.seen true ∷ st)
        unfolding step onward
        begins_inner st i j = moves st i j ∙ rw (said_as (Ok (Starts n a)) e).0

        module _ {k : ℕ} {inside : Bool} (o : k ≡ place_of c component_names) (q : inside ≡ method_at k counts method) where
          method-inside : (st : List Open) → method_in st ≡ method → method_for c r.seen (method_in st) ≡ inside
          method-inside st i =
              ap (λ (b : Bool). method_for c r.seen b) i ∙ sym (method_tallies c r.seen method) ∙ rw (← o, ← r.tallied) (sym q)

          pub reached_inner : {next : ℕ} → Body ed (upper (rest m (take t.end s) a)) (left - 1) inside m s t.next (Ok next) → Reached ed c left method m s from next counts action true
          reached_inner b = record {
            low = omega (arith, r.low, d.low, b.ends.0);
            high = b.ends.1;
            seen = r.seen;
            tallied = r.tallied;
            acted = r.acted;
            agrees = λ st i j. begins_inner st i j ∙ b.agrees (open_in c r.seen true ∷ st) (method-inside st i) (omega (arith, starts_left));
          }

          pub body_inner : {g : Fault} → Body ed (upper (rest m (take t.end s) a)) (left - 1) inside m s t.next (Err g) → Body ed c left method m s from (Err g)
          body_inner b = record { ends = b.ends; agrees = λ st i j. begins_inner st i j ∙ b.agrees (open_in c r.seen true ∷ st) (method-inside st i) (omega (arith, starts_left)) }

      -- the end
      module _ {b : Bool} {k : ℕ} (e : t.kind ≡ Ok Stops) (o : k ≡ place_of c component_names) (q : b ≡ complete_at k counts action (record { inner = inner; method = method })) where
        counted : complete c r.seen (record { inner = inner; method = method }) ≡ b
        counted = sym (complete-tallies c r.seen (record { inner = inner; method = method })) ∙ rw (← o, ← r.tallied, ← r.acted) (sym q)

        stopped : (st : List Open) → method_in st ≡ method → length st + 1 + left ≡ levels →
            on_from ed m s from (opened c ∷ st) ≡ onward (pick b (on st) (stop (fault COUNT line_start))) (index m s at) d.bytes (on_from ed m s t.next)
        unfolding step
        stopped st i j = moves st i j ∙ rw (said_as (Ok Stops) e, i, counted)

        pub body_closed : b ≡ true → Body ed c left method m s from (Ok t.next)
        unfolding onward pick
        body_closed f = record { ends = (omega (arith, r.low, d.low), d.high); agrees = λ st i j. stopped st i j ∙ rw f }

        pub body_short : b ≡ false → Body ed c left method m s from (Err (fault_at Count at))
        unfolding onward pick offset
        body_short f = record { ends = r.high.most; agrees = λ st i j. let z : index m s at + 0 ≡ index m s at = omega arith in stopped st i j ∙ rw f (ap (refuse COUNT) z) }

  -- the first line begins behind folds
  pub between_none : {m : ℕ} {s : List ℕ} {c : ℕ} → cuts m ≡ true → Settled m s 0 c → c < length s → Between ed m s c
  between_none {m} {s} {c} y p h = record {
    high = ready_start y p;
    agrees = some (rest m s 0) (λ e. let k = p.some_byte y (sym p.is ∙ e) in omega arith) ∙ rw (lines_start p);
  }
    where
      some : (l : List ℕ) → (l ≡ [] → ⊥) → lines_verdict ed (length l) (lines l) ≡ nesting ed (length l) (lines l) []
      some [] h = absurd (h refl)
      some (a ∷ l) h = lines_verdict_lem ed (length (a ∷ l)) (lines (a ∷ l)) (lines_some a l 0)

  module _ {m : ℕ} {s : List ℕ} {at : ℕ} (r : Between ed m s at) where
    pub between_more : {next : ℕ} → Outer ed m s at (Ok next) → Between ed m s next
    between_more o = record { high = o.ends.1; agrees = r.agrees ∙ o.agrees }

    pub checked_refused : {g : Fault} → Outer ed m s at (Err g) → Checks ed m s (Err g)
    checked_refused o = record { is = r.agrees ∙ o.agrees; place = o.ends }

    pub checked_fine : length s ≤ at → Checks ed m s (Ok tt)
    unfolding nesting ended
    checked_fine h = record { is = r.agrees ∙ rw (lines_past m s at r.high.cut h); place = tt }

  -- nothing but folds
  pub checked_empty : {m : ℕ} {s : List ℕ} {c : ℕ} → cuts m ≡ true → Settled m s 0 c → length s ≤ c → Checks ed m s (Err (fault_at Frame 0))
  unfolding lines_verdict lines_after index
  checked_empty {m} {s} {c} y p h = let e : rest m s 0 ≡ [] = p.is ∙ rest_past m s c y h in record { is = rw e; place = omega arith }
