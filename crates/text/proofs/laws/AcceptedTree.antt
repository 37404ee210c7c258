-- What lines state that are not refused is a valid calendar, also where a VTIMEZONE mixes properties and subcomponents.
--     Frames st es d    what the entries that are left make of the open components st is valid, where the first of these is d further out
--     tree_whole        accepted lines state all the components of their entries
--     tree_accepted     what they state is valid;   tree_some: and not nothing
use Rattle.std.specs.Prelude.{◌≡◌, Bool, not, ℕ, suc, ◌-◌, ◌<◌, ltb, Option, None, Some, option_map}
use Rattle.std.proofs.Math.Path.{refl}
use Rattle.std.proofs.Common.{◌∙◌, arith, lt-ltb, ltb-true}
use Rattle.std.proofs.Math.Bool.{true, false}
use Rattle.std.proofs.lemmas.Bool.{false≢true}
use mathlib.Core.List.{List, [], ◌∷◌, map}
use Rattle.std.proofs.Math.ListN.{length}
use Rattle.octets.specs.Ascii.{ascii}
use Rattle.octets.specs.Pick.{pick, ◌and◌, ◌or◌}
use Rattle.octets.specs.laws.Pick.{and_yes, and_both, or_right, or-false}
use Rattle.octets.specs.Class.{upper}
use Rattle.octets.specs.Words.{same, is_empty}
use Rattle.octets.specs.laws.Words.{same_true, same_self}
use Rattle.octets.specs.laws.Letters.{upper_twice}
use Rattle.octets.specs.Lists.{every}
use Rattle.octets.specs.laws.Lists.{every_both, every_weaker, every-and}
use Rattle.octets.specs.Computing.{octets_compute}
use Rattle.calendar.specs.Calendar.{Parameter, Property, Components, component}
use Rattle.calendar.specs.Levels.{levels, shallow}
use Rattle.calendar.specs.Refusal.{Refusal, Verdict, fine}
use Rattle.calendar.specs.laws.Refusal.{refused_not}
use Rattle.schema.specs.Components.{may_contain, may_stand}
use Rattle.schema.specs.Properties.{is_known_property}
use Rattle.schema.specs.Counts.{Around, method_for, complete}
use Rattle.utf8.specs.Utf8.{first_bad, well_formed}
use Rattle.utf8.specs.laws.Utf8.{well_formed_good}
use Rattle.folding.specs.Lines.{Line, whole, loose}
use Rattle.values.specs.Valid.{is_parameter, are_parameters, is_property}
use Rattle.read_text_line.specs.ContentLine.{RawParameter, ContentLine, is_name, is_content_line, content_line}
use Rattle.read_text_line.specs.Names.{is_carried_name, is_component_name}
use Rattle.read_text_line.specs.laws.Names.{carried_name_upper}
use Rattle.read_text_line.specs.Write.{write_content_line}
use Rattle.read_text_line.specs.Decoded.{decoded_line, read_line}
use Rattle.read_text_line.specs.laws.Accepted.{content_line_accepted, content_line_write_back}
use Rattle.validity.specs.ValidCalendar.{is_kept_name, is_valid_parameter, is_valid_property, has_components, are_valid, at_top}
use Rattle.validity.proofs.laws.ValidCalendar.{component_valid, valid_shallow}
use Rattle.edition.specs.declared.Edition.{Edition}
use Rattle.text.specs.Faults.{Fault, fault, line_start}
use Rattle.text.proofs.laws.Faults.{fault_not}
use Rattle.text.specs.Statement.{property_of, property_fault}
use Rattle.text.specs.Nesting.{Open, Move, on, stop, opened, has_level, may_begin, begin_in, begins, method_in, ends, may_hold, told, states, names_carried, move_by, move_of, move, onward, ended, nesting}
use Rattle.text.specs.Tree.{Entry, begin, end, property, entry_by, entry_of, own_of, inner_of, calendar_of}
use Rattle.text.proofs.laws.AcceptedLine.{is_line_parameter, line_accepted, line_property}
use Rattle.text.proofs.laws.AcceptedCharacters.{is_good_parameter, property_good}
use Rattle.text.proofs.laws.Turned.{turned, complete-turned_back, method_turned}

-- a line of well-formed characters
unfoldable pub is_good_one : Line → Bool
is_good_one (whole p s) = well_formed s
is_good_one (loose p) = false

module _ (ed : Edition) where
  -- ---- a property

  parameter_valid : (p : Parameter) → (is_parameter p and (is_line_parameter ed p and is_good_parameter p)) ≡ true → is_valid_parameter ed p ≡ true
  unfolding is_valid_parameter is_parameter
  parameter_valid p h =
      let a = and_both (is_parameter p) _ h in
      let b = and_both (is_line_parameter ed p) (is_good_parameter p) a.1 in
      let c = and_both (is_name p.name) _ b.0 in
      let d = and_both (is_carried_name p.name) _ b.1 in
      and_yes _ _ (and_yes _ _ (and_both _ _ a.0).0 (and_yes _ _ c.0 d.0)) (and_yes _ _ a.0 (and_yes _ _ c.1 d.1))

  parameters_valid : (ps : List Parameter) → every is_parameter ps ≡ true → every (is_line_parameter ed) ps ≡ true → every is_good_parameter ps ≡ true → every (is_valid_parameter ed) ps ≡ true
  parameters_valid ps h l g =
      every_weaker _ (is_valid_parameter ed) parameter_valid ps (every-and is_parameter (λ p. is_line_parameter ed p and is_good_parameter p) ps h (every-and (is_line_parameter ed) is_good_parameter ps l g))

  property_valid : (k : List ℕ) (l : ContentLine) → is_content_line l ≡ true → first_bad (write_content_line l) ≡ None → names_carried (decoded_line ed l) ≡ true →
      same (upper l.name) (ascii "BEGIN") ≡ false → same (upper l.name) (ascii "END") ≡ false → (not (is_known_property (upper l.name)) or may_stand k (upper l.name)) ≡ true →
      property_fault k (decoded_line ed l) ≡ None → is_valid_property ed k (property_of k (decoded_line ed l)) ≡ true
  unfolding is_valid_property is_property are_parameters names_carried property_of
  property_valid k l q g c b e m h =
      let n = and_both (is_carried_name l.name) _ c in
      let t = line_property ed k l q h in
      let w = line_accepted ed k l q h in
      let d = property_good ed k l q g n.1 h in
      let a = and_both _ _ t in
      and_yes _ _ (and_yes _ _ a.0 (and_yes _ _ w.0 (carried_name_upper l.name ∙ n.0)))
      (and_yes _ _ (rw b)
      (and_yes _ _ (rw e)
      (and_yes _ _ m
      (and_yes _ _ t
      (and_yes _ _ (parameters_valid (property_of k (decoded_line ed l)).parameters (and_both _ _ (and_both _ _ a.1).0).0 w.1 d.0) (and_yes _ _ w.2 d.1))))))

  -- ---- open components

  -- a component that is open, with so many levels left in it, with the properties and subcomponents that are still to come, in a calendar with METHOD or without.
  -- Once a subcomponent has come, whether METHOD stands is settled
  record Body (f : Open) (m : Bool) (l : ℕ) (ps : List Property) (c : Components) : Type 0 where
    own : every (is_valid_property ed f.name) ps ≡ true
    inside : are_valid ed l (may_contain f.name) (method_for f.name (turned ps f.seen) m) c ≡ true
    counts : complete f.name (turned ps f.seen) (record { inner = f.inner or has_components c; method = m }) ≡ true
    settled : f.inner ≡ true → method_for f.name (turned ps f.seen) m ≡ method_for f.name f.seen m

  abbrev Frames : List Open → List Entry → ℕ → Type 0
  Frames [] es d = are_valid ed levels at_top false (inner_of es d) ≡ true
  Frames (f ∷ st) es d = Body f (method_in st) (levels - length (f ∷ st)) (own_of f.name es d) (inner_of es d) × Frames st es (suc d)

  frames_begin : (st : List Open) (k : List ℕ) (es : List Entry) (d : ℕ) → Frames st es (suc (suc d)) → Frames st (begin k ∷ es) (suc d)
  unfolding own_of inner_of
  frames_begin [] k es d h = h
  frames_begin (f ∷ st) k es d h = (h.0, frames_begin st k es (suc d) h.1)

  frames_end : (st : List Open) (es : List Entry) (d : ℕ) → Frames st es d → Frames st (end ∷ es) (suc d)
  unfolding own_of inner_of
  frames_end [] es d h = h
  frames_end (f ∷ st) es d h = (h.0, frames_end st es (suc d) h.1)

  frames_property : (st : List Open) (l : ContentLine) (es : List Entry) (d : ℕ) → Frames st es (suc d) → Frames st (property l ∷ es) (suc d)
  unfolding own_of inner_of
  frames_property [] l es d h = h
  frames_property (f ∷ st) l es d h = (h.0, frames_property st l es (suc d) h.1)

  -- ---- a line that is not refused

  stop-on : {X : Type 0} {r : Fault} {u : List Open} → stop r ≡ on u → X
  stop-on e = let z : ◌≡◌ {A = ℕ} 0 1 = cc in absurd (omega arith)

  begun : (n a b : Bool) (o r q : Fault) (v u : List Open) → pick n (pick a (pick b (on v) (stop r)) (stop q)) (stop o) ≡ on u → (n ≡ true) × (a ≡ true) × (v ≡ u)
  unfolding pick
  begun true true true o r q v u h = (refl, refl, cc)
  begun true true false o r q v u h = stop-on h
  begun true false b o r q v u h = stop-on h
  begun false a b o r q v u h = stop-on h

  -- the component that begins
  inner_valid : (k : List ℕ) (m : Bool) (l : ℕ) (ps : List Property) (c : Components) → Body (opened k) m l ps c → complete k ps (record { inner = has_components c; method = m }) ≡ true
  unfolding ◌or◌
  inner_valid k m l ps c b = complete-turned_back k ps (record { inner = has_components c; method = m }) b.counts

  inside_valid : (k : List ℕ) (m : Bool) (l : ℕ) (ps : List Property) (c : Components) → Body (opened k) m l ps c → are_valid ed l (may_contain k) (method_for k ps m) c ≡ true
  inside_valid k m l ps c b = rw (method_turned k ps m) at b.inside

  method_same : (l : ℕ) (may : List ℕ → Bool) (c : Components) (m n : Bool) → m ≡ n → are_valid ed l may n c ≡ true → are_valid ed l may m c ≡ true
  method_same l may c m n e h = rw e h

  begun_valid : (l : ℕ) (may : List ℕ → Bool) (m : Bool) (k : List ℕ) (ps : List Property) (c next : Components) → ltb 0 l ≡ true → is_kept_name k ≡ true → may k ≡ true →
      Body (opened k) m (l - 1) ps c → are_valid ed l may m next ≡ true → are_valid ed l may m (component k ps c next) ≡ true
  begun_valid l may m k ps c next v n o b h =
      component_valid ed l may m k ps c next (record {
        level = v;
        kept = n;
        named = o;
        properties = b.own;
        counts = inner_valid k m (l - 1) ps c b;
        inside = inside_valid k m (l - 1) ps c b;
        after = h;
      })

  -- the level inside
  level_one : (n : ℕ) → ltb n levels ≡ true → ltb 0 (levels - n) ≡ true
  level_one n h = lt-ltb 0 (levels - n) (omega (arith, ltb-true n levels h))

  level_less : (n : ℕ) → levels - suc n ≡ levels - n - 1
  level_less n = omega arith

  begin_in_lem : (k : List ℕ) (st : List Open) (es : List Entry) → is_kept_name k ≡ true → may_begin k st ≡ true → Frames (begin_in k st) es 0 → Frames st (begin k ∷ es) 0
  unfolding own_of inner_of
  begin_in_lem k [] es n m h = begun_valid levels at_top false k _ _ _ refl n m h.0 h.1
  begin_in_lem k (f ∷ st) es n m h =
      let o = and_both (may_contain f.name k) _ m in
      let b = h.1.0 in
      let a = rw (level_less (length (f ∷ st))) at h.0 in
      let s = b.settled refl in (
        record {
          own = b.own;
          inside = method_same _ _ _ _ _ s (begun_valid (levels - length (f ∷ st)) (may_contain f.name) (method_in (f ∷ st)) k _ _ _ (level_one (length (f ∷ st)) o.1) n o.0 a (rw s at b.inside));
          counts = rw (or_right f.inner true refl) (later b);
          settled = λ e. s;
        },
        frames_begin st k es 0 h.1.1,
      )
    where
      later : Body (record { name = f.name; seen = f.seen; inner = true }) (method_in st) (levels - length (f ∷ st)) (own_of f.name es 1) (inner_of es 1) →
          complete f.name (turned (own_of f.name es 1) f.seen) (record { inner = true; method = method_in st }) ≡ true
      later b = unfold ◌or◌ in b.counts

  begin_step : (v : List ℕ) (ps : List RawParameter) (st u : List Open) (es : List Entry) → begins (upper v) ps st ≡ on u → Frames u es 0 → Frames st (begin (upper v) ∷ es) 0
  unfolding begins
  begin_step v ps st u es m h =
      let e = begun (is_component_name (upper v)) (may_begin (upper v) st) (is_empty ps) _ _ _ (begin_in (upper v) st) u m in
      begin_in_lem (upper v) st es (and_yes _ _ (rw (upper_twice v) (same_self (upper v))) e.0) e.1 (rw (← e.2) at h)

  closed : (a b c : Bool) (r q o : Fault) (v u : List Open) → pick a (pick b (pick c (on v) (stop o)) (stop r)) (stop q) ≡ on u → (c ≡ true) × (v ≡ u)
  unfolding pick
  closed true true true r q o v u h = (refl, cc)
  closed true true false r q o v u h = stop-on h
  closed true false c r q o v u h = stop-on h
  closed false b c r q o v u h = stop-on h

  end_step : (k : List ℕ) (ps : List RawParameter) (st u : List Open) (es : List Entry) → ends k ps st ≡ on u → Frames u es 0 → Frames st (end ∷ es) 0
  unfolding ends own_of inner_of are_valid turned every
  end_step k ps [] u es m h = stop-on m
  end_step k ps (f ∷ st) u es m h =
      let e = closed (same k f.name) (is_empty ps) (complete f.name f.seen (record { inner = f.inner; method = method_in st })) _ _ _ st u m in
      (record { own = refl; inside = refl; counts = rw (or-false f.inner) e.0; settled = λ i. refl }, frames_end st es 0 (rw (← e.1) at h))

  held : (a : Bool) (o : Option Fault) (q : Fault) (v u : List Open) → pick a (told o (on v)) (stop q) ≡ on u → (a ≡ true) × (o ≡ None) × (v ≡ u)
  unfolding pick
  held true None q v u h = (refl, refl, cc)
  held true (Some r) q v u h = stop-on h
  held false o q v u h = stop-on h

  -- a property behind a subcomponent stands in a VTIMEZONE
  late : (b t : Bool) → (not b or t) ≡ true → b ≡ true → t ≡ true
  unfolding ◌or◌
  late true t h e = h
  late false t h e = absurd (false≢true e)

  timezone_method : (k : List ℕ) (ps qs : List Property) (m : Bool) → same k (ascii "VTIMEZONE") ≡ true → method_for k ps m ≡ method_for k qs m
  unfolding method_for octets_compute
  timezone_method k ps qs m e = rw (same_true k (ascii "VTIMEZONE") e)

  property_step : (l : ContentLine) (st u : List Open) (es : List Entry) → is_content_line l ≡ true → first_bad (write_content_line l) ≡ None → names_carried (decoded_line ed l) ≡ true →
      same (upper l.name) (ascii "BEGIN") ≡ false → same (upper l.name) (ascii "END") ≡ false → states (decoded_line ed l) st ≡ on u → Frames u es 0 → Frames st (property (decoded_line ed l) ∷ es) 0
  unfolding states own_of inner_of turned every
  property_step l [] u es q g c b e m h = stop-on m
  property_step l (f ∷ st) u es q g c b e m h =
      let a = held (may_hold (upper l.name) f) (property_fault f.name (decoded_line ed l)) _ (record { name = f.name; seen = property_of f.name (decoded_line ed l) ∷ f.seen; inner = f.inner } ∷ st) u m in
      let d : Frames (record { name = f.name; seen = property_of f.name (decoded_line ed l) ∷ f.seen; inner = f.inner } ∷ st) es 0 = rw (← a.2) at h in (
        record {
          own = and_yes _ _ (property_valid f.name l q g c b e (and_both _ _ a.0).0 a.1) d.0.own;
          inside = d.0.inside;
          counts = d.0.counts;
          settled = λ i. timezone_method f.name _ _ _ (late f.inner _ (and_both _ _ a.0).1 i);
        },
        frames_property st (decoded_line ed l) es 0 d.1,
      )

  -- ---- one line

  line_step : (s : List ℕ) (st u : List Open) (es : List Entry) → first_bad s ≡ None → move ed s st ≡ on u → Frames u es 0 → Frames st (entry_by (read_line ed s) ∷ es) 0
  unfolding move_of move_by entry_by pick
  line_step s st u es g m h = go (content_line s) refl m
    where
      by : (l : ContentLine) → content_line s ≡ Some l → (c b e : Bool) → names_carried (decoded_line ed l) ≡ c → same (upper l.name) (ascii "BEGIN") ≡ b → same (upper l.name) (ascii "END") ≡ e →
          pick c (pick b (begins (upper l.value) (decoded_line ed l).parameters st) (pick e (ends (upper l.value) (decoded_line ed l).parameters st) (states (decoded_line ed l) st))) (stop (fault Refusal.NAME line_start)) ≡ on u →
          Frames st (pick b (begin (upper l.value)) (pick e end (property (decoded_line ed l))) ∷ es) 0
      by l i false b e c₁ b₁ e₁ k = stop-on k
      by l i true true e c₁ b₁ e₁ k = begin_step l.value (decoded_line ed l).parameters st u es k h
      by l i true false true c₁ b₁ e₁ k = end_step (upper l.value) (decoded_line ed l).parameters st u es k h
      by l i true false false c₁ b₁ e₁ k =
          property_step l st u es (content_line_accepted s l i) (rw (content_line_write_back s l i) g) c₁ b₁ e₁ k h

      go : (o : Option ContentLine) → content_line s ≡ o → move_of (option_map (decoded_line ed) o) st ≡ on u → Frames st (entry_by (option_map (decoded_line ed) o) ∷ es) 0
      go None i k = stop-on k
      go (Some l) i k = by l i (names_carried (decoded_line ed l)) (same (upper l.name) (ascii "BEGIN")) (same (upper l.name) (ascii "END")) refl refl refl k

  -- ---- all lines

  pub moved_on : (m : Move) (p : ℕ) (s : List ℕ) (f : List Open → Verdict) → onward m p s f ≡ fine → (u : List Open) × (m ≡ on u) × (f u ≡ fine)
  unfolding onward
  moved_on (on u) p s f h = (u, refl, h)
  moved_on (stop r) p s f h = fault_not r p s h

  all_frames : (ls : List Line) (e : ℕ) (st : List Open) → every is_good_one ls ≡ true → nesting ed e ls st ≡ fine → Frames st (map (entry_of ed) ls) 0
  unfolding nesting ended entry_of inner_of are_valid is_good_one
  all_frames [] e [] g h = refl
  all_frames [] e (f ∷ st) g h = refused_not _ _ h
  all_frames (loose p ∷ ls) e st g h = refused_not _ _ h
  all_frames (whole p s ∷ ls) e st g h =
      let a = every_both is_good_one (whole p s) ls g in
      let m = moved_on (move ed s st) p s (nesting ed e ls) h in
      line_step s st m.0 (map (entry_of ed) ls) (well_formed_good s a.0) m.1 (all_frames ls e m.0 a.1 m.2)

  pub tree_whole : (ls : List Line) (e : ℕ) → every is_good_one ls ≡ true → nesting ed e ls [] ≡ fine → calendar_of ed ls ≡ inner_of (map (entry_of ed) ls) 0
  unfolding calendar_of
  tree_whole ls e g h = valid_shallow ed (inner_of (map (entry_of ed) ls) 0) levels at_top false (all_frames ls e [] g h)

  pub tree_accepted : (ls : List Line) (e : ℕ) → every is_good_one ls ≡ true → nesting ed e ls [] ≡ fine → are_valid ed levels at_top false (calendar_of ed ls) ≡ true
  unfolding calendar_of
  tree_accepted ls e g h = let v = all_frames ls e [] g h in rw (valid_shallow ed (inner_of (map (entry_of ed) ls) 0) levels at_top false v) v

  -- ---- the first line begins a component

  first_begins : (s : List ℕ) (u : List Open) (es : List Entry) → move ed s [] ≡ on u → has_components (shallow levels (inner_of (entry_by (read_line ed s) ∷ es) 0)) ≡ true
  unfolding move_of move_by entry_by pick inner_of shallow ends states
  first_begins s u es m = go (read_line ed s) m
    where
      by : (l : ContentLine) (c b e : Bool) → pick c (pick b (begins (upper l.value) l.parameters []) (pick e (ends (upper l.value) l.parameters []) (states l []))) (stop (fault Refusal.NAME line_start)) ≡ on u →
          has_components (shallow levels (inner_of (pick b (begin (upper l.value)) (pick e end (property l)) ∷ es) 0)) ≡ true
      by l false b e k = stop-on k
      by l true true e k = refl
      by l true false true k = stop-on k
      by l true false false k = stop-on k

      go : (o : Option ContentLine) → move_of o [] ≡ on u → has_components (shallow levels (inner_of (entry_by o ∷ es) 0)) ≡ true
      go None k = stop-on k
      go (Some l) k = by l (names_carried l) (same (upper l.name) (ascii "BEGIN")) (same (upper l.name) (ascii "END")) k

  pub tree_some : (l : Line) (ls : List Line) (e : ℕ) → nesting ed e (l ∷ ls) [] ≡ fine → has_components (calendar_of ed (l ∷ ls)) ≡ true
  unfolding nesting calendar_of entry_of
  tree_some (loose p) ls e h = refused_not _ _ h
  tree_some (whole p s) ls e h = let m = moved_on (move ed s []) p s (nesting ed e ls) h in first_begins s m.0 (map (entry_of ed) ls) m.1
