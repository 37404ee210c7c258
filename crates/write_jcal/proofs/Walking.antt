-- A walk over the lines of a component that writes: what holds before each line, and what each line does to it.
--     Walk, walk_json  what is written: a component's own properties, or its subcomponents
--     Walking          the invariant: what is left to write from the line at hand on
--     owns, inners     the rules of the two walks, for `search`
use mathlib.Core.Path.{◌≡◌, refl, sym, ap, subst, ◌∙◌}
use mathlib.Core.Bool.{Bool, true, false}
use mathlib.Core.List.{List, [], ◌∷◌}
use Prim.Native.Nat.{ℕ, ◌-◌, ◌*◌, ◌^◌, ◌≤◌, ◌<◌}
use native.Mathlib.Omega.{arith}
use lib.ListN.{length, take}
use borrow.Author.Rules.{rules}
use Rattle.octets.specs.Ascii.{ascii}
use Rattle.octets.specs.Append.{◌⊕◌}
use Rattle.octets.specs.laws.Append.{append_regroup}
use Rattle.octets.specs.Class.{upper}
use Rattle.octets.specs.Words.{joined_by}
use Rattle.octets.specs.Reading.{or_nothing}
use Rattle.sink.specs.Sink.{Put}
use Rattle.sink.specs.laws.Sink.{put_none, ◌▷◌}
use Rattle.source.specs.Source.{rest}
use Rattle.read_text_line.specs.Ready.{Ready}
use Rattle.calendar.specs.Calendar.{Components}
use Rattle.calendar.specs.Levels.{shallow}
use Rattle.schema.specs.Numbers.{component_name}
use Rattle.text.specs.Statement.{property_of}
use Rattle.text.specs.Tree.{Entry, property, nothing}
use Rattle.edition.specs.declared.Edition.{Edition}
use Rattle.json_text.specs.Bytes.{value_separator}
use Rattle.jcal.specs.WriteJcal.{property_json, components_json}
use Rattle.text_entries.specs.declared.entry.Found.{Found}
use Rattle.text_entries.specs.declared.entry.Kind.TheVariants.{Begin, End, Property, Nothing}
use Rattle.text_entries.specs.Entries.{entries_at, FoundAt}
use Rattle.text_entries.specs.laws.Entries.{by_kind, entries_past}
use Rattle.text_entries.specs.Bounds.{Aside, BoundAt}
use Rattle.text_entries.specs.laws.Bounds.{bound_kind}
use Rattle.text_entries.specs.Passing.{Passed}
use Rattle.text_entries.specs.laws.Along.{Along, along_start, along_end, along_closed, along_aside, along_component}
use Rattle.write_json.specs.Separated.{separator, following}
use Rattle.write_json.specs.laws.Separated.{Listing, listing_start, listing_more, listing_same, listing_end, put_first}
use Rattle.write_jcal_property.specs.Property.{parts_json}
use Rattle.write_jcal_property.specs.laws.Property.{property_json_lem}
use Rattle.write_jcal.specs.declared.components.Reached.{Reached}
use Rattle.write_jcal.specs.declared.properties.Walked.{Walked}
use Rattle.write_jcal.specs.Walks.{own_json, inner_json, head_json}
use Rattle.write_jcal.specs.laws.Walks.{own_none, own_begin, own_close, own_property, own_pass, inner_none, inner_empty, inner_close, inner_aside, component_parts}
use Rattle.write_jcal.specs.Places.{ComponentsPut, PropertiesPut}

pub data Walk : Type 0 where
  own : ℕ → Walk
  inner : ℕ → Walk

abbrev pub walk_json : Walk → List Entry → List (List ℕ)
walk_json (own k) es = own_json (component_name k) es
walk_json (inner v) es = inner_json v es

-- no line, nothing
walk_none : (w : Walk) → walk_json w [] ≡ []
walk_none (own k) = own_none (component_name k)
walk_none (inner v) = inner_none v

-- none of them, no bytes
none_put : (js : List (List ℕ)) → js ≡ [] → (d : List ℕ) (o : ℕ) → length d * 1 < 2 ^ 63 → Put d d o o (joined_by value_separator js)
unfolding joined_by
none_put js q d o h = subst (λ (x : List (List ℕ)). Put d d o o (joined_by value_separator x)) (sym q) (put_none d o h)

module _ (ed : Edition) where
  -- it began at the line at `from` with d and o, where `before` says whether another came before, and has come with e and p to the line at `at`
  pub record Walking (before : Bool) (w : Walk) (mode : ℕ) (s : List ℕ) (from : ℕ) (d : List ℕ) (o : ℕ) (e : List ℕ) (p : ℕ) (started : Bool) (at : ℕ) : Type 0 where
    pub along : Along ed mode s from at
    pub listing : Listing before (walk_json w (entries_at ed mode s from)) d o e p started (walk_json w (entries_at ed mode s at))

module _ {ed : Edition} where
  pub walk_start : (before : Bool) (w : Walk) (mode : ℕ) (s : List ℕ) (from : ℕ) (d : List ℕ) (o : ℕ) → length d * 1 < 2 ^ 63 → Ready mode s from → Walking ed before w mode s from d o d o before from
  walk_start before w mode s from d o h r = record { along = along_start mode s from r; listing = listing_start before d o (walk_json w (entries_at ed mode s from)) h }

  module _ {before : Bool} {w : Walk} {mode : ℕ} {s : List ℕ} {from : ℕ} {d : List ℕ} {o : ℕ} {e : List ℕ} {p : ℕ} {started : Bool} {at : ℕ} (m : Walking ed before w mode s from d o e p started at) where
    -- what is at hand gives x, which was put behind what separates it; and it goes on at `next`
    walk_put : {next : ℕ} (x : List ℕ) {f : List ℕ} {p' : ℕ} → Along ed mode s from next → walk_json w (entries_at ed mode s at) ≡ x ∷ walk_json w (entries_at ed mode s next) → Put e f p p' (separator started ⊕ x) →
        Walking ed before w mode s from d o f p' true next
    walk_put x n q b = record { along = n; listing = listing_more m.listing x _ q b }

    walk_skip : {next : ℕ} → Along ed mode s from next → walk_json w (entries_at ed mode s at) ≡ walk_json w (entries_at ed mode s next) → Walking ed before w mode s from d o e p started next
    walk_skip n q = record { along = n; listing = listing_same m.listing _ q }

    -- the line at hand gives nothing more, or there is none
    walk_stop : (es : List Entry) → entries_at ed mode s at ≡ es → walk_json w es ≡ [] → Put d e o p (following before (walk_json w (entries_at ed mode s from)))
    walk_stop es i q = listing_end m.listing (ap (walk_json w) i ∙ q)

    walk_end : length s ≤ at → Put d e o p (following before (walk_json w (entries_at ed mode s from)))
    walk_end h = walk_stop [] (entries_past ed mode s at m.along.ready.cut h) (walk_none w)

    pub walk_length : length e ≡ length d
    walk_length = m.listing.kept

  -- ---- the properties

  module _ {before : Bool} {k mode : ℕ} {s : List ℕ} {from : ℕ} {d : List ℕ} {o : ℕ} {e : List ℕ} {p : ℕ} {started : Bool} {at : ℕ} (m : Walking ed before (own k) mode s from d o e p started at) where
    pub own_end : length s ≤ at → Put d e o p (following before (own_json (component_name k) (entries_at ed mode s from)))
    own_end h = walk_end m h

    module _ {r : Found} (f : FoundAt ed mode s at r) where
      pub own_at_begin : {n : ℕ} → r.kind ≡ Begin → Passed ed mode s r.next n → Walking ed before (own k) mode s from d o e p started n
      own_at_begin q z =
          let i = by_kind f Begin q in
          walk_skip m (along_component m.along f.onward _ i z) (ap (own_json (component_name k)) i ∙ own_begin (component_name k) _ _ ∙ ap (own_json (component_name k)) (sym z.rest))

      pub own_over : r.kind ≡ End → Put d e o p (following before (own_json (component_name k) (entries_at ed mode s from)))
      own_over q = walk_stop m _ (by_kind f End q) (own_close (component_name k) _)

      pub own_at_property : {g : List ℕ} {p' : ℕ} → r.kind ≡ Property → Put e g p p' (separator started ⊕ parts_json ed k mode (take r.end s) r.line) →
          Walking ed before (own k) mode s from d o g p' true r.next
      own_at_property {g} {p'} q b =
          let i = by_kind f Property q in
          walk_put m (property_json (property_of (component_name k) i.line)) (along_aside m.along f.onward (property i.line) refl f.ready i.first)
          (ap (own_json (component_name k)) i.first ∙ own_property (component_name k) _ i.line)
          (subst (λ (x : List ℕ). Put e g p p' (separator started ⊕ x)) (sym (property_json_lem f.ready.cut i.parts ed k) ∙ ap (or_nothing (λ l. property_json (property_of (component_name k) l))) i.is) b)

      pub own_at_nothing : r.kind ≡ Nothing → Walking ed before (own k) mode s from d o e p started r.next
      own_at_nothing q =
          let i = by_kind f Nothing q in
          walk_skip m (along_aside m.along f.onward nothing refl f.ready i) (ap (own_json (component_name k)) i ∙ own_pass (component_name k) _)

  -- for the calls
  pub walk_ready : {before : Bool} {w : Walk} {mode : ℕ} {s : List ℕ} {from : ℕ} {d : List ℕ} {o : ℕ} {e : List ℕ} {p : ℕ} {started : Bool} {at : ℕ} → Walking ed before w mode s from d o e p started at → Ready mode s at
  walk_ready m = m.along.ready

  -- ---- the subcomponents

  module _ {v mode : ℕ} {s : List ℕ} {from : ℕ} {d : List ℕ} {o : ℕ} {e : List ℕ} {p : ℕ} {started : Bool} {at : ℕ} (m : Walking ed false (inner v) mode s from d o e p started at) where
    pub inner_end : length s ≤ at → ComponentsPut ed v d e o mode s from (record { to = p; next = at })
    inner_end h = record { put = put_first _ (walk_end m h); passed = along_end m.along h }

    module _ {r : Found} (f : BoundAt ed mode s at r) where
      pub inner_over : r.kind ≡ End → ComponentsPut ed v d e o mode s from (record { to = p; next = r.next })
      inner_over q = record { put = put_first _ (walk_stop m _ (bound_kind f End q) (inner_close v _)); passed = along_closed m.along f.onward f.ready (bound_kind f End q) }

      -- a component whose parts were put
      module _ {w : Walked} {g h i : List ℕ} (y : 1 ≤ v) (q : r.kind ≡ Begin)
          (u : PropertiesPut ed (shallow (v - 1)) e g p (separator started ⊕ head_json (upper (rest mode (take r.end s) r.line.value)) (entries_at ed mode s r.next)) mode s r.next w) where
        component : {b p' n : ℕ} → Put g h w.to b (joined_by value_separator (inner_json (v - 1) (entries_at ed mode s r.next))) → Put h i b p' (ascii "]]") →
            Passed ed mode s r.next n → Walking ed false (inner v) mode s from d o i p' true n
        component {p' = p'} c t z =
            let j = bound_kind f Begin q in
            let k : List ℕ = upper (rest mode (take r.end s) r.line.value) in
            let es : List Entry = entries_at ed mode s r.next in
            walk_put m (head_json k es ⊕ joined_by value_separator (inner_json (v - 1) es) ⊕ ascii "]]") (along_component m.along f.onward _ j z) (ap (inner_json v) j ∙ component_parts v k es y ∙ rw z.rest)
            (subst (Put e i p p') (append_regroup (separator started) (head_json k es) (joined_by value_separator (inner_json (v - 1) es) ⊕ ascii "]]")) (u.put ▷ c ▷ t))

        pub inner_at_component : {p' : ℕ} {b : Reached} → ComponentsPut ed (v - 1) g h w.to mode s w.ahead.inner b → Put h i b.to p' (ascii "]]") → Walking ed false (inner v) mode s from d o i p' true b.next
        inner_at_component {b = b} c t =
            component (subst (λ (x : Components). Put g h w.to b.to (joined_by value_separator (components_json (shallow (v - 1) x)))) u.ahead.components c.put) t
            (record { onward = omega (arith, u.ahead.onward, c.passed.onward); ready = c.passed.ready; rest = c.passed.rest ∙ u.ahead.rest })

      pub inner_at_bare : {w : Walked} {g i : List ℕ} {p' : ℕ} → 1 ≤ v → r.kind ≡ Begin →
          PropertiesPut ed (shallow (v - 1)) e g p (separator started ⊕ head_json (upper (rest mode (take r.end s) r.line.value)) (entries_at ed mode s r.next)) mode s r.next w → w.ahead.bare ≡ true →
          Put g i w.to p' (ascii "]]") → Walking ed false (inner v) mode s from d o i p' true w.ahead.next
      inner_at_bare y q u h t =
          component y q u (none_put _ (inner_empty (v - 1) _ (sym u.ahead.empty ∙ h)) _ _ t.sized) t (u.ahead.passed h)

      inner_aside_at : Aside ed mode s at r.next → Walking ed false (inner v) mode s from d o e p started r.next
      inner_aside_at i = walk_skip m (along_aside m.along f.onward i.entry i.aside f.ready i.first) (ap (inner_json v) i.first ∙ inner_aside v _ i.entry i.aside)

      pub inner_at_property : r.kind ≡ Property → Walking ed false (inner v) mode s from d o e p started r.next
      inner_at_property q = inner_aside_at (bound_kind f Property q)

      pub inner_at_nothing : r.kind ≡ Nothing → Walking ed false (inner v) mode s from d o e p started r.next
      inner_at_nothing q = inner_aside_at (bound_kind f Nothing q)

pub ruleset owns = (walk_start, walk_ready, walk_length, own_end, own_at_begin, own_over, own_at_property, own_at_nothing, rules)

pub ruleset inners = (walk_start, walk_ready, walk_length, inner_end, inner_at_component, inner_at_bare, inner_over, inner_at_property, inner_at_nothing, rules)
