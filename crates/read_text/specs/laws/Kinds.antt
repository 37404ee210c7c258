-- Laws of what specs/Kinds.antt defines.
--     params_some ..      whether a line has parameters
--     begin_starts ..     a BEGIN;   end_stops ..: an END
--     kind_begin ..       a line, by its name
use Rattle.std.specs.Prelude.{◌≡◌, Bool, true, false, List, [], ◌∷◌, ℕ, ◌≤◌, ◌<◌, length, take, Option, option_map, None, Some, Result, Ok, Err}
use Rattle.std.proofs.Math.Path.{refl, sym, subst}
use Rattle.std.proofs.Common.{ap, ◌∙◌, arith, length-take-le}
use Rattle.std.proofs.lemmas.Bool.{false≢true}
use Rattle.octets.specs.Ascii.{ascii}
use Rattle.octets.specs.Pick.{pick, ◌and◌}
use Rattle.octets.specs.laws.Pick.{pick_yes, pick_no, and_yes, and_no_left, and_no_right}
use Rattle.octets.specs.Class.{is_name_char, upper}
use Rattle.octets.specs.Words.{same, is_empty}
use Rattle.octets.specs.Runs.{run_of}
use Rattle.octets.specs.Lists.{every}
use Rattle.octets.specs.laws.Lists.{every_map}
use Rattle.source.specs.Source.{rest, cuts}
use Rattle.names.specs.Table.{place_of}
use Rattle.schema.specs.Components.{component_names, may_contain}
use Rattle.schema.specs.Properties.{property_names}
use Rattle.schema.specs.Coded.{row_at}
use Rattle.schema.specs.Columns.{may_begin}
use Rattle.schema.specs.declared.table.Row.{Row}
use Rattle.schema.specs.laws.Columns.{begin_place}
use Rattle.read_text_line.specs.ContentLine.{ContentLine, next_param}
use Rattle.read_text_line.specs.Names.{is_carried_name, is_component_name}
use Rattle.read_text_line.specs.Cursor.{params_at}
use Rattle.read_text_line.specs.Decoded.{decoded_parameter, decoded_line, params_in}
use Rattle.read_text_line.specs.laws.Decoded.{map_empty}
use Rattle.read_text_line.specs.Params.{ParamOf}
use Rattle.read_text_line.specs.laws.Params.{name_chars, param_more, param_over, param_fault}
use Rattle.read_text_line.specs.Line.{line_from, named, Parts, LineAt}
use Rattle.read_text_line.specs.Carried.{carries_name}
use Rattle.read_text_line.specs.declared.Malformed.{Malformed}
use Rattle.read_text_line.specs.declared.ParameterCursors.{ParameterCursors}
use Rattle.read_text_line.specs.declared.LineCursors.{LineCursors}
use Rattle.refusals.specs.Fault.{fault_at}
use Rattle.refusals.specs.declared.Fault.{Fault}
use Rattle.refusals.specs.declared.Refusal.TheVariants.{Line as BadLine, Name, Frame, Parameter}
use Rattle.text.specs.Faults.{Where, line_start, parameter_name}
use Rattle.text.specs.Nesting.{names_carried}
use Rattle.text.specs.LineKind.{LineKind, begin_kind, end_kind, property_kind, kind_by, kind_of, line_kind}
use Rattle.edition.specs.declared.Edition.{Edition}
use Rattle.read_text.specs.laws.Names.{component_upper}
use Rattle.read_text.specs.Places.{NameAt, PlaceOf, OffsetAt}
use Rattle.read_text.specs.laws.Places.{offset_start, place_offset}
use Rattle.read_text.specs.Kinds.{KindIs}
use Rattle.read_text.specs.declared.Kind.{Kind}
use Rattle.read_text.specs.declared.Kind.TheVariants.{Starts, Stops, Holds}

-- ---- what an answer says

module _ (P : Where → ℕ → Type 0) (v : Bool) (m : ℕ) (s : List ℕ) (r : Result Kind Fault) (t : Bool) (a b : LineKind) where
  kind_yes : t ≡ true → KindIs P v m s a r → KindIs P v m s (pick t a b) r
  kind_yes h k = subst (λ (x : LineKind). KindIs P v m s x r) (sym (pick_yes t a b h)) k

  kind_no : t ≡ false → KindIs P v m s b r → KindIs P v m s (pick t a b) r
  kind_no h k = subst (λ (x : LineKind). KindIs P v m s x r) (sym (pick_no t a b h)) k

-- ---- no parameters

module _ {m : ℕ} {s : List ℕ} {e : ℕ} {r : Result (Option ParameterCursors) (Malformed ParameterCursors)} (a : ParamOf next_param m s e r) where
  pub params_some : {p : ParameterCursors} → r ≡ Ok (Some p) → false ≡ is_empty (params_at m s e)
  params_some h = rw (param_more a h)

  pub params_bad : {x : Malformed ParameterCursors} → r ≡ Err x → true ≡ is_empty (params_at m s e)
  params_bad h = rw (param_fault a h)

  pub params_none : r ≡ Ok None → true ≡ is_empty (params_at m s e)
  params_none h = rw (param_over a h)

-- ---- BEGIN

-- some parameter stands there
pub some_params : {A : Type 0} (rs : List A) → is_empty rs ≡ false → 0 < length rs
some_params [] h = absurd (false≢true (sym h))
some_params (r ∷ rs) h = omega arith

-- where its name stands
pub name_within : {m : ℕ} {s : List ℕ} {at : ℕ} {l : LineCursors} → LineAt m s at (Some l) → at ≤ length s → l.name ≤ length s
name_within {s = s} a h = subst (λ (n : ℕ). n ≤ length s) (sym a.parts.0) h

-- its name
module _ {m : ℕ} {s : List ℕ} {l : LineCursors} (y : cuts m ≡ true) (p : Parts m s l) where
  -- cut out
  pub name_cut : rest m (take l.parameters s) l.name ≡ run_of is_name_char (rest m s l.name)
  name_cut = name_chars y p.name

  pub name_count : l.name ≤ length s → l.parameters ≡ length (take l.parameters s)
  name_count h = sym (length-take-le l.parameters s (p.name.plain y h))

  -- compared
  pub name_is : (w : List ℕ) {t : Bool} → t ≡ same (upper (rest m (take l.parameters s) l.name)) w → t ≡ same (upper (run_of is_name_char (rest m s l.name))) w
  name_is w q = q ∙ ap (λ (n : List ℕ). same (upper n) w) name_cut

  -- and looked up
  pub name-row : {row : Row} → row ≡ row_at (place_of (upper (rest m (take l.parameters s) l.name)) property_names) → row ≡ row_at (place_of (upper (run_of is_name_char (rest m s l.name))) property_names)
  name-row q = q ∙ ap (λ (n : List ℕ). row_at (place_of (upper n) property_names)) name_cut

module _ (ed : Edition) where
  -- ---- decoding keeps the names and the count of the parameters

  module _ (m : ℕ) (s : List ℕ) (e : ℕ) {b : Bool} where
    pub bare_in : is_empty (params_at m s e) ≡ b → is_empty (params_in ed m s e) ≡ b
    bare_in h = map_empty (decoded_parameter ed) (params_at m s e) ∙ h

    pub carried_in : (t : Bool) → b ≡ (t and every carries_name (params_at m s e)) → b ≡ (t and every carries_name (params_in ed m s e))
    carried_in t h = h ∙ ap (λ (x : Bool). t and x) (sym (every_map carries_name (decoded_parameter ed) (params_at m s e)))

  -- in a component c of the number k, where v says whether there is a level left in it
  module _ (v : Bool) (m : ℕ) (s w : List ℕ) (y : LineCursors) (c : List ℕ) {a : Bool} (d : a ≡ is_component_name (rest m s y.value)) where
    pub begin_unnamed : a ≡ false → KindIs (PlaceOf m s y) v m s (begin_kind c v (decoded_line ed (line_from w m s y))) (Err (fault_at Name y.name))
    begin_unnamed h = record { place = line_start; is = pick_no _ _ _ (component_upper (rest m s y.value) ∙ sym d ∙ h); there = refl }

    module _ (h : a ≡ true) {k n : ℕ} (o : k ≡ place_of c component_names) (e : n ≡ place_of (upper (rest m s y.value)) component_names) {b : Bool} (q : b ≡ may_begin k n) where
      good : is_component_name (upper (rest m s y.value)) ≡ true
      good = component_upper (rest m s y.value) ∙ sym d ∙ h

      contains : may_contain c (upper (rest m s y.value)) ≡ b
      contains = begin_place c (upper (rest m s y.value)) ∙ rw (← o, ← e) (sym q)

      pub begin_not : b ≡ false → KindIs (PlaceOf m s y) v m s (begin_kind c v (decoded_line ed (line_from w m s y))) (Err (fault_at Frame y.name))
      begin_not f = record { place = line_start; is = pick_yes _ _ _ good ∙ pick_no _ _ _ (and_no_left _ _ (contains ∙ f)); there = refl }

      module _ (f : b ≡ true) where
        pub begin_deep : v ≡ false → KindIs (PlaceOf m s y) v m s (begin_kind c v (decoded_line ed (line_from w m s y))) (Err (fault_at Frame y.name))
        begin_deep g = record { place = line_start; is = pick_yes _ _ _ good ∙ pick_no _ _ _ (and_no_right _ _ g); there = refl }

        module _ (g : v ≡ true) {p : Bool} (z : p ≡ is_empty (params_at m s y.parameters)) where
          pub begin_starts : p ≡ true → KindIs (PlaceOf m s y) v m s (begin_kind c v (decoded_line ed (line_from w m s y))) (Ok (Starts n y.value))
          begin_starts x = (pick_yes _ _ _ good ∙ pick_yes _ _ _ (and_yes _ _ (contains ∙ f) g) ∙ pick_yes _ _ _ (bare_in m s y.parameters (sym z ∙ x)), e, g)

          pub begin_parameters : {i : ℕ} → p ≡ false → (0 < length (params_at m s y.parameters) → NameAt m s y.parameters 0 i) →
              KindIs (PlaceOf m s y) v m s (begin_kind c v (decoded_line ed (line_from w m s y))) (Err (fault_at Parameter i))
          begin_parameters x u = record {
            place = parameter_name 0;
            is = pick_yes _ _ _ good ∙ pick_yes _ _ _ (and_yes _ _ (contains ∙ f) g) ∙ pick_no _ _ _ (bare_in m s y.parameters (sym z ∙ x));
            there = u (some_params (params_at m s y.parameters) (sym z ∙ x));
          }

  -- ---- END

  module _ (v : Bool) (m : ℕ) (s w : List ℕ) (y : LineCursors) (c : List ℕ) {a : Bool} (d : a ≡ same (upper (rest m s y.value)) c) where
    pub end_other : a ≡ false → KindIs (PlaceOf m s y) v m s (end_kind c (decoded_line ed (line_from w m s y))) (Err (fault_at Frame y.name))
    end_other h = record { place = line_start; is = pick_no _ _ _ (sym d ∙ h); there = refl }

    module _ (h : a ≡ true) {p : Bool} (z : p ≡ is_empty (params_at m s y.parameters)) where
      pub end_stops : p ≡ true → KindIs (PlaceOf m s y) v m s (end_kind c (decoded_line ed (line_from w m s y))) (Ok Stops)
      end_stops x = pick_yes _ _ _ (sym d ∙ h) ∙ pick_yes _ _ _ (bare_in m s y.parameters (sym z ∙ x))

      pub end_parameters : {i : ℕ} → p ≡ false → (0 < length (params_at m s y.parameters) → NameAt m s y.parameters 0 i) →
          KindIs (PlaceOf m s y) v m s (end_kind c (decoded_line ed (line_from w m s y))) (Err (fault_at Parameter i))
      end_parameters x u = record {
        place = parameter_name 0;
        is = pick_yes _ _ _ (sym d ∙ h) ∙ pick_no _ _ _ (bare_in m s y.parameters (sym z ∙ x));
        there = u (some_params (params_at m s y.parameters) (sym z ∙ x));
      }

  -- ---- a line

  module _ {m : ℕ} {s : List ℕ} {l : LineCursors} (y : cuts m ≡ true) (p : Parts m s l) where
    module _ (n : List ℕ) (v inner : Bool) {c : Bool} (q : c ≡ (is_carried_name (run_of is_name_char (rest m s l.name)) and every carries_name (params_at m s l.parameters))) where
      pub kind_uncarried : c ≡ false → KindIs (PlaceOf m s l) v m s (kind_by n v inner (decoded_line ed (named m s l))) (Err (fault_at Name l.name))
      unfolding kind_by names_carried
      kind_uncarried f = record { place = line_start; is = pick_no _ _ _ (sym (carried_in m s l.parameters _ q) ∙ f); there = refl }

      module _ (r : Result Kind Fault) {b : Bool} (f : c ≡ true) (i : b ≡ same (upper (rest m (take l.parameters s) l.name)) (ascii "BEGIN")) where
        pub kind_begin : b ≡ true → KindIs (PlaceOf m s l) v m s (begin_kind n v (decoded_line ed (named m s l))) r → KindIs (PlaceOf m s l) v m s (kind_by n v inner (decoded_line ed (named m s l))) r
        unfolding kind_by names_carried
        kind_begin g x = kind_yes _ v m s r _ _ _ (sym (carried_in m s l.parameters _ q) ∙ f) (kind_yes _ v m s r _ _ _ (sym (name_is y p (ascii "BEGIN") i) ∙ g) x)

        module _ {d : Bool} (g : b ≡ false) (j : d ≡ same (upper (rest m (take l.parameters s) l.name)) (ascii "END")) where
          pub kind_end : d ≡ true → KindIs (PlaceOf m s l) v m s (end_kind n (decoded_line ed (named m s l))) r → KindIs (PlaceOf m s l) v m s (kind_by n v inner (decoded_line ed (named m s l))) r
          unfolding kind_by names_carried
          kind_end z x = kind_yes _ v m s r _ _ _ (sym (carried_in m s l.parameters _ q) ∙ f) (kind_no _ v m s r _ _ _ (sym (name_is y p (ascii "BEGIN") i) ∙ g) (kind_yes _ v m s r _ _ _ (sym (name_is y p (ascii "END") j) ∙ z) x))

          pub kind_property : d ≡ false → KindIs (PlaceOf m s l) v m s (property_kind n inner (decoded_line ed (named m s l))) r → KindIs (PlaceOf m s l) v m s (kind_by n v inner (decoded_line ed (named m s l))) r
          unfolding kind_by names_carried
          kind_property z x = kind_yes _ v m s r _ _ _ (sym (carried_in m s l.parameters _ q) ∙ f) (kind_no _ v m s r _ _ _ (sym (name_is y p (ascii "BEGIN") i) ∙ g) (kind_no _ v m s r _ _ _ (sym (name_is y p (ascii "END") j) ∙ z) x))

  module _ (n : List ℕ) (v inner : Bool) (m : ℕ) (s : List ℕ) (at : ℕ) where
    pub kind_bad : LineAt m s at None → KindIs (OffsetAt m s at) v m s (line_kind ed n v inner (rest m s at)) (Err (fault_at BadLine at))
    unfolding kind_of
    kind_bad a = record { place = line_start; is = rw a.is; there = offset_start m s at }

    pub kind_line : (l : LineCursors) (r : Result Kind Fault) → cuts m ≡ true → LineAt m s at (Some l) → KindIs (PlaceOf m s l) v m s (kind_by n v inner (decoded_line ed (named m s l))) r →
        KindIs (OffsetAt m s at) v m s (line_kind ed n v inner (rest m s at)) r
    unfolding kind_of
    kind_line l r y a x = subst (λ (o : Option ContentLine). KindIs (OffsetAt m s at) v m s (kind_of n v inner o) r) (sym (ap (option_map (decoded_line ed)) a.is)) (moved r x)
      where
        moved : (r : Result Kind Fault) → KindIs (PlaceOf m s l) v m s (kind_by n v inner (decoded_line ed (named m s l))) r → KindIs (OffsetAt m s at) v m s (kind_by n v inner (decoded_line ed (named m s l))) r
        moved (Ok (Starts i b)) x = x
        moved (Ok Stops) x = x
        moved (Ok (Holds p b)) x = x
        moved (Err f) x = record { place = x.place; is = x.is; there = place_offset y a x.place x.there }
