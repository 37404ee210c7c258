-- A walk over the properties of a component before its first subcomponent, line by line.
--     Leading    the invariant;   `search leadings`
use mathlib.Core.Path.{◌≡◌, refl, sym, ap, ◌∙◌}
use mathlib.Core.Bool.{Bool, true, false, false≢true}
use mathlib.Core.List.{List, []}
use Prim.Native.Nat.{ℕ, ◌*◌, ◌^◌, ◌≤◌, ◌<◌}
use native.Mathlib.Omega.{arith}
use lib.ListN.{length, take}
use borrow.Author.Rules.{rules}
use Rattle.octets.specs.Append.{◌⊕◌}
use Rattle.sink.specs.Sink.{Put}
use Rattle.read_text_line.specs.Ready.{Ready}
use Rattle.schema.specs.Numbers.{component_name}
use Rattle.text.specs.Tree.{Entry, inner_of}
use Rattle.edition.specs.declared.Edition.{Edition}
use Rattle.text_entries.specs.declared.entry.Found.{Found}
use Rattle.text_entries.specs.declared.entry.Kind.TheVariants.{Begin, End, Property, Nothing}
use Rattle.text_entries.specs.Entries.{entries_at, FoundAt}
use Rattle.text_entries.specs.laws.Entries.{by_kind, entries_past}
use Rattle.text_entries.specs.Passing.{Passed}
use Rattle.text_entries.specs.laws.Along.{along_end, along_closed}
use Rattle.text_entries.specs.Levels.{is_none}
use Rattle.write_json.specs.Separated.{separator}
use Rattle.write_jcal_property.specs.Property.{parts_json}
use Rattle.write_jcal.specs.Walks.{own_json}
use Rattle.write_jcal.specs.laws.Walks.{own_none, own_close}
use Rattle.write_jcal.specs.Places.{LeadingPut}
use Rattle.write_jcal.proofs.Walking.{Walking, own, walk_start, own_at_property, own_at_nothing}

module _ (ed : Edition) where
  pub record Leading (k mode : ℕ) (s : List ℕ) (from : ℕ) (d : List ℕ) (o : ℕ) (e : List ℕ) (p : ℕ) (started : Bool) (at : ℕ) : Type 0 where
    pub walking : Walking ed false (own k) mode s from d o e p started at
    pub components : inner_of (entries_at ed mode s at) 0 ≡ inner_of (entries_at ed mode s from) 0

module _ {ed : Edition} where
  pub leading_start : (k mode : ℕ) (s : List ℕ) (from : ℕ) (d : List ℕ) (o : ℕ) → length d * 1 < 2 ^ 63 → Ready mode s from → Leading ed k mode s from d o d o false from
  leading_start k mode s from d o h r = record { walking = walk_start false (own k) mode s from d o h r; components = refl }

  module _ {k mode : ℕ} {s : List ℕ} {from : ℕ} {d : List ℕ} {o : ℕ} {e : List ℕ} {p : ℕ} {started : Bool} {at : ℕ} (m : Leading ed k mode s from d o e p started at) where
    pub leading_ready : Ready mode s at
    leading_ready = m.walking.along.ready

    pub leading_length : length e ≡ length d
    leading_length = m.walking.listing.kept

    stopped : (es : List Entry) (bare : Bool) (next : ℕ) → at ≤ next → entries_at ed mode s at ≡ es → bare ≡ is_none (inner_of es 0) → (bare ≡ true → own_json (component_name k) es ≡ []) → (bare ≡ true → Passed ed mode s from next) →
        LeadingPut ed d e o k mode s from (record { to = p; started = started; ahead = record { inner = at; bare = bare; next = next } })
    stopped es bare next h i q z x = record {
      listing = m.walking.listing;
      all = λ h. ap (own_json (component_name k)) i ∙ z h;
      ahead = record {
        onward = m.walking.along.low;
        forth = omega (arith, m.walking.along.low);
        ready = m.walking.along.ready;
        components = m.components;
        rest = m.walking.along.over;
        empty = q ∙ ap (λ (es : List Entry). is_none (inner_of es 0)) (sym i) ∙ ap is_none m.components;
        passed = x;
      };
    }

    pub leading_end : length s ≤ at → LeadingPut ed d e o k mode s from (record { to = p; started = started; ahead = record { inner = at; bare = true; next = at } })
    unfolding inner_of
    leading_end h = stopped [] true at (omega arith) (entries_past ed mode s at m.walking.along.ready.cut h) refl (λ x. own_none (component_name k)) (λ x. along_end m.walking.along h)

    module _ {r : Found} (f : FoundAt ed mode s at r) where
      pub leading_begin : r.kind ≡ Begin → LeadingPut ed d e o k mode s from (record { to = p; started = started; ahead = record { inner = at; bare = false; next = at } })
      unfolding inner_of
      leading_begin q = stopped _ false at (omega arith) (by_kind f Begin q) refl (λ x. absurd (false≢true x)) (λ x. absurd (false≢true x))

      pub leading_over : r.kind ≡ End → LeadingPut ed d e o k mode s from (record { to = p; started = started; ahead = record { inner = at; bare = true; next = r.next } })
      unfolding inner_of
      leading_over q = stopped _ true r.next (omega (arith, f.onward)) (by_kind f End q) refl (λ x. own_close (component_name k) _) (λ x. along_closed m.walking.along f.onward f.ready (by_kind f End q))

      pub leading_property : {g : List ℕ} {p' : ℕ} → r.kind ≡ Property → Put e g p p' (separator started ⊕ parts_json ed k mode (take r.end s) r.line) → Leading ed k mode s from d o g p' true r.next
      unfolding inner_of
      leading_property q b = record { walking = own_at_property m.walking f q b; components = ap (λ (es : List Entry). inner_of es 0) (sym (by_kind f Property q).first) ∙ m.components }

      pub leading_nothing : r.kind ≡ Nothing → Leading ed k mode s from d o e p started r.next
      unfolding inner_of
      leading_nothing q = record { walking = own_at_nothing m.walking f q; components = ap (λ (es : List Entry). inner_of es 0) (sym (by_kind f Nothing q)) ∙ m.components }

pub ruleset leadings = (leading_start, leading_ready, leading_length, leading_end, leading_begin, leading_over, leading_property, leading_nothing, rules)
