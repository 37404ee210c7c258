-- The verdict on the lines of a calendar: none of them is refused.
--     nesting_back     the verdict on the lines of a calendar is fine, wherever they stand
use Rattle.std.specs.Prelude.{◌≡◌, ℕ, ◌+◌, ◌-◌, ◌≤◌, ltb}
use Rattle.std.proofs.Math.Path.{refl}
use Rattle.std.proofs.Common.{◌∙◌, arith}
use Rattle.std.proofs.Math.Bool.{Bool, true, false}
use mathlib.Core.List.{List, [], ◌∷◌, map}
use borrow.Author.Tests.{lt-ltb, ltb-true}
use Rattle.std.proofs.Math.ListN.{length}
use Rattle.octets.specs.Ascii.{ascii}
use Rattle.octets.specs.Pick.{pick, ◌and◌, ◌or◌}
use Rattle.octets.specs.laws.Pick.{and_yes}
use Rattle.octets.specs.Scan.{all_of}
use Rattle.octets.specs.Class.{is_visible, upper}
use Rattle.octets.specs.laws.Words.{same_self}
use Rattle.octets.specs.Lists.{every}
use Rattle.octets.specs.laws.Lists.{every_both}
use Rattle.octets.specs.Computing.{octets_compute}
use Rattle.calendar.specs.Calendar.{Parameter, Property, Components, no_more, component}
use Rattle.calendar.specs.Levels.{levels}
use Rattle.calendar.specs.Refusal.{fine}
use Rattle.schema.specs.Types.{same_type}
use Rattle.schema.specs.Components.{may_contain}
use Rattle.schema.specs.Properties.{default_type}
use Rattle.schema.specs.Counts.{Around, method_for, complete}
use Rattle.values.specs.WriteValue.{type_of_all}
use Rattle.folding.specs.Text.{whole_lines}
use Rattle.read_text_line.specs.Names.{starts_off_name, is_carried_name, is_component_name}
use Rattle.read_text_line.specs.Carried.{carries_name}
use Rattle.validity.specs.ValidCalendar.{is_valid_parameter, is_valid_property, has_components, are_valid, at_top}
use Rattle.validity.proofs.laws.ValidCalendar.{kept_parts, component_name, valid_parameter, ValidProperty, valid_property, valid_component}
use Rattle.edition.specs.declared.Edition.{Edition}
use Rattle.text.specs.Nesting.{Open, on, opened, has_level, may_begin, begin_in, begins, method_in, ends, states, names_carried, move_by, move_of, move, onward, ended, nesting}
use Rattle.text.specs.WriteText.{raw_of, value_parameter, with_value, content_line_of}
use Rattle.text.proofs.laws.PropertyLaws.{property_read_back, property_no_fault}
use Rattle.text.proofs.laws.Turned.{turned, complete-turned, method_turned}
use Rattle.text.proofs.laws.TreeBack.{begin_of, end_of, line_of, properties_before, lines_before, lines_of, framing, begin_line_lem, end_line_lem, property_line_lem}

-- ---- an open component

abbrev frame : List ℕ → List Property → Bool → Open
frame k seen inner = record { name = k; seen = seen; inner = inner }

-- ---- one line

begin_carried : (k : List ℕ) → names_carried (framing (ascii "BEGIN") k) ≡ true
unfolding names_carried is_carried_name starts_off_name octets_compute
begin_carried k = refl

end_carried : (k : List ℕ) → names_carried (framing (ascii "END") k) ≡ true
unfolding names_carried is_carried_name starts_off_name octets_compute
end_carried k = refl

begin_by : (k : List ℕ) (st : List Open) → move_by (framing (ascii "BEGIN") k) st ≡ begins (upper k) [] st
unfolding move_by octets_compute
begin_by k st = rw (begin_carried k)

end_by : (k : List ℕ) (st : List Open) → move_by (framing (ascii "END") k) st ≡ ends (upper k) [] st
unfolding move_by octets_compute
end_by k st = rw (end_carried k)

module _ (ed : Edition) where
  begin_move : (k : List ℕ) (st : List Open) → (upper k ≡ k) × (all_of is_visible k ≡ true) × (is_component_name k ≡ true) → may_begin k st ≡ true → move ed (begin_of k) st ≡ on (begin_in k st)
  unfolding move_of begins pick
  begin_move k st n m = rw (begin_line_lem ed k n.1) (begin_by k st ∙ rw (n.0, n.2, m))

  end_move : (k : List ℕ) (seen : List Property) (inner : Bool) (st : List Open) → upper k ≡ k → all_of is_visible k ≡ true → complete k seen (record { inner = inner; method = method_in st }) ≡ true →
      move ed (end_of k) (frame k seen inner ∷ st) ≡ on st
  unfolding move_of ends pick
  end_move k seen inner st u h m = rw (end_line_lem ed k h) (end_by k (frame k seen inner ∷ st) ∙ rw (u, same_self k, m))

  -- the names of a property's line are carried
  value_carried : is_carried_name (ascii "VALUE") ≡ true
  unfolding is_carried_name starts_off_name octets_compute
  value_carried = refl

  raw_carried : (ps : List Parameter) → every (is_valid_parameter ed) ps ≡ true → every carries_name (map raw_of ps) ≡ true
  unfolding every
  raw_carried [] h = refl
  raw_carried (p ∷ ps) h = let a = every_both (is_valid_parameter ed) p ps h in and_yes _ _ (kept_parts p.name (valid_parameter ed p a.0).kept).2 (raw_carried ps a.1)

  parameters_carried : (n : List ℕ) (p : Property) → every (is_valid_parameter ed) p.parameters ≡ true → every carries_name (with_value n (type_of_all p.values) (map raw_of p.parameters)) ≡ true
  unfolding with_value pick every
  parameters_carried n p h = go (same_type (type_of_all p.values) (default_type n))
    where
      go : (b : Bool) → every carries_name (pick b (map raw_of p.parameters) (value_parameter (type_of_all p.values) ∷ map raw_of p.parameters)) ≡ true
      go true = raw_carried p.parameters h
      go false = and_yes _ _ value_carried (raw_carried p.parameters h)

  property_carried : (k : List ℕ) (p : Property) → ValidProperty ed k p → names_carried (content_line_of p) ≡ true
  unfolding names_carried content_line_of
  property_carried k p s = and_yes _ _ (kept_parts p.name s.kept).2 (parameters_carried p.name p s.parameters)

  line_name : (k : List ℕ) (p : Property) → ValidProperty ed k p → upper (content_line_of p).name ≡ p.name
  unfolding content_line_of
  line_name k p s = (kept_parts p.name s.kept).0

  property_states : (k : List ℕ) (p : Property) → ValidProperty ed k p → (seen : List Property) (st : List Open) → states (content_line_of p) (frame k seen false ∷ st) ≡ on (frame k (p ∷ seen) false ∷ st)
  unfolding states pick ◌and◌ ◌or◌
  property_states k p s seen st = rw (property_no_fault k p s.typed, property_read_back k p s.typed, line_name k p s, s.stands)

  property_move : (k : List ℕ) (p : Property) → is_valid_property ed k p ≡ true → (seen : List Property) (st : List Open) → move ed (line_of ed p) (frame k seen false ∷ st) ≡ on (frame k (p ∷ seen) false ∷ st)
  unfolding move_of move_by pick
  property_move k p h seen st =
      let s = valid_property ed k p h in
      rw (property_line_lem ed k p s) (rw (property_carried k p s, line_name k p s, s.begins, s.ends) (property_states k p s seen st))

  -- ---- all lines

  -- whether a subcomponent has come after components that follow such a flag
  unfoldable flag_after : Components → Bool → Bool
  flag_after no_more b = b
  flag_after (component k ps inner next) b = flag_after next true

  flag_true : (c : Components) → flag_after c true ≡ true
  unfolding flag_after
  flag_true no_more = refl
  flag_true (component k ps inner next) = flag_true next

  flag_has : (c : Components) → flag_after c false ≡ has_components c
  unfolding flag_after
  flag_has no_more = refl
  flag_has (component k ps inner next) = flag_true next

  -- a component whose properties are seen, the last first
  ok_counts : (k : List ℕ) (ps : List Property) (inner : Components) (m : Bool) → complete k ps (record { inner = has_components inner; method = m }) ≡ true →
      complete k (turned ps []) (record { inner = flag_after inner false; method = m }) ≡ true
  ok_counts k ps inner m h = rw (flag_has inner) (complete-turned k ps (record { inner = has_components inner; method = m }) h)

  ok_inside : (k : List ℕ) (ps : List Property) (inner : Components) (l : ℕ) (m : Bool) → are_valid ed l (may_contain k) (method_for k ps m) inner ≡ true →
      are_valid ed l (may_contain k) (method_for k (turned ps []) m) inner ≡ true
  ok_inside k ps inner l m h = rw (method_turned k ps m) h

  -- where l levels are left beside those that are open
  level_left : (l n : ℕ) → ltb 0 l ≡ true → n + l ≤ levels → ltb n levels ≡ true
  level_left l n h q = lt-ltb n levels (omega (arith, ltb-true 0 l h))

  module _ (e : ℕ) where
    -- the check of lines from any place on, with these components open, ends well
    abbrev Ok : List (List ℕ) → List Open → Type 0
    Ok r st = (p : ℕ) → nesting ed e (whole_lines p r) st ≡ fine

    ok_line : (l : List ℕ) (r : List (List ℕ)) (st u : List Open) → move ed l st ≡ on u → Ok r u → Ok (l ∷ r) st
    unfolding nesting whole_lines onward
    ok_line l r st u m h p = rw m (h (p + length l + 2))

    ok_properties : (k : List ℕ) (ps : List Property) → every (is_valid_property ed k) ps ≡ true → (seen : List Property) (st : List Open) (r : List (List ℕ)) →
        Ok r (frame k (turned ps seen) false ∷ st) → Ok (properties_before ed ps r) (frame k seen false ∷ st)
    unfolding turned properties_before
    ok_properties k [] h seen st r o = o
    ok_properties k (p ∷ ps) h seen st r o =
        let a = every_both (is_valid_property ed k) p ps h in
        ok_line (line_of ed p) (properties_before ed ps r) (frame k seen false ∷ st) (frame k (p ∷ seen) false ∷ st) (property_move k p a.0 seen st) (ok_properties k ps a.1 (p ∷ seen) st r o)

    ok_components : (c : Components) (j : List ℕ) (seen : List Property) (b : Bool) (st : List Open) (r : List (List ℕ)) (l : ℕ) → length st + 1 + l ≤ levels →
        are_valid ed l (may_contain j) (method_for j seen (method_in st)) c ≡ true → Ok r (frame j seen (flag_after c b) ∷ st) → Ok (lines_before ed c r) (frame j seen b ∷ st)
    unfolding flag_after lines_before
    ok_components no_more j seen b st r l q v o = o
    ok_components (component k ps inner next) j seen b st r l q h o =
        let m : Bool = method_for j seen (method_in st) in
        let v = valid_component ed l (may_contain j) m k ps inner next h in
        let n = component_name k v.kept in
        let st₁ : List Open = frame j seen true ∷ st in
        let x : List (List ℕ) = end_of k ∷ (lines_before ed) next r in
        let done = ok_counts k ps inner m v.counts in
        let z : Ok x (frame k (turned ps []) (flag_after inner false) ∷ st₁) =
        ok_line (end_of k) (lines_before ed next r) (frame k (turned ps []) (flag_after inner false) ∷ st₁) st₁ (end_move k (turned ps []) (flag_after inner false) st₁ n.0 n.1 done) (ok_components next j seen true st r l q v.after o) in
        ok_line (begin_of k) (properties_before ed ps (lines_before ed inner x)) (frame j seen b ∷ st) (opened k ∷ st₁) (begin_move k (frame j seen b ∷ st) n (and_yes _ _ v.named (level_left l (length (frame j seen b ∷ st)) v.level (omega arith))))
        (ok_properties k ps v.properties [] st₁ (lines_before ed inner x) (ok_components inner k (turned ps []) false st₁ x (l - 1) (omega (arith, ltb-true 0 l v.level)) (ok_inside k ps inner (l - 1) m v.inside) z))

    ok_tops : (c : Components) → are_valid ed levels at_top false c ≡ true → (r : List (List ℕ)) → Ok r [] → Ok (lines_before ed c r) []
    unfolding lines_before
    ok_tops no_more v r o = o
    ok_tops (component k ps inner next) h r o =
        let v = valid_component ed levels at_top false k ps inner next h in
        let n = component_name k v.kept in
        let x : List (List ℕ) = end_of k ∷ (lines_before ed) next r in
        let done = ok_counts k ps inner false v.counts in
        let z : Ok x (frame k (turned ps []) (flag_after inner false) ∷ []) =
        ok_line (end_of k) (lines_before ed next r) (frame k (turned ps []) (flag_after inner false) ∷ []) [] (end_move k (turned ps []) (flag_after inner false) [] n.0 n.1 done) (ok_tops next v.after r o) in
        ok_line (begin_of k) (properties_before ed ps (lines_before ed inner x)) [] (opened k ∷ []) (begin_move k [] n v.named)
        (ok_properties k ps v.properties [] [] (lines_before ed inner x) (ok_components inner k (turned ps []) false [] x (levels - 1) (omega arith) (ok_inside k ps inner (levels - 1) false v.inside) z))

    ok_end : Ok [] []
    unfolding whole_lines nesting ended
    ok_end p = refl

    pub nesting_back : (c : Components) (p : ℕ) → are_valid ed levels at_top false c ≡ true → nesting ed e (whole_lines p (lines_of ed c)) [] ≡ fine
    nesting_back c p v = ok_tops c v [] ok_end p
