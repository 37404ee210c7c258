-- Laws of what specs/Outer.antt defines.
use Rattle.std.specs.Prelude.{◌≡◌, Bool, true, false, ℕ, ◌<◌, length, take, eqb, Option, option_map, None, Some, Result, Ok, Err}
use Rattle.std.proofs.Math.Path.{refl, sym, subst}
use Rattle.std.proofs.Common.{ap, ◌∙◌, arith}
use mathlib.Core.List.{List, []}
use borrow.Author.Tests.{eq-eqb, ne_eqb}
use Rattle.octets.specs.Ascii.{ascii}
use Rattle.octets.specs.Pick.{pick, ◌and◌}
use Rattle.octets.specs.laws.Pick.{pick_yes, pick_no, pick_either}
use Rattle.octets.specs.Class.{is_name_char, upper}
use Rattle.octets.specs.Words.{same, is_empty}
use Rattle.octets.specs.Runs.{run_of}
use Rattle.octets.specs.Lists.{every}
use Rattle.calendar.specs.Refusal.{FRAME, refuse}
use Rattle.source.specs.Source.{rest, cuts}
use Rattle.names.specs.Table.{place_of}
use Rattle.schema.specs.Components.{component_names}
use Rattle.read_text_line.specs.LineEnd.{LineEnds, EndsLine}
use Rattle.read_text_line.specs.Ready.{Ready}
use Rattle.read_text_line.specs.laws.Ready.{line_low}
use Rattle.read_text_line.specs.ContentLine.{ContentLine}
use Rattle.read_text_line.specs.Names.{is_carried_name, is_component_name}
use Rattle.read_text_line.specs.Cursor.{params_at}
use Rattle.read_text_line.specs.Decoded.{decoded_line, params_in}
use Rattle.read_text_line.specs.Line.{named, Parts, LineAt}
use Rattle.read_text_line.specs.Carried.{carries_name}
use Rattle.read_text_line.specs.declared.LineCursors.{LineCursors}
use Rattle.text.specs.Faults.{fault, line_start, parameter_name}
use Rattle.text.specs.Nesting.{Move, stop, begins, ends, states, names_carried, move_by, move_of, move, onward}
use Rattle.edition.specs.declared.Edition.{Edition}
use Rattle.read_text.specs.laws.Components.{same_component}
use Rattle.read_text.specs.laws.Kinds.{bare_in, carried_in, some_params, name_is}
use Rattle.read_text.specs.Places.{NameAt, PlaceOf, OffsetAt}
use Rattle.read_text.specs.laws.Places.{offset_start, place_offset, place_in_text}
use Rattle.read_text.specs.Turns.{Ends, Body}
use Rattle.read_text.specs.laws.Turns.{line_moves, loose_stops}
use Rattle.read_text.specs.laws.Names.{component_upper}
use Rattle.read_text.specs.Outer.{OpeningIs, begins_outer, Outer}
use Rattle.refusals.specs.Fault.{refusal_of, fault_at}
use Rattle.refusals.specs.declared.Fault.{Fault}
use Rattle.refusals.specs.declared.Refusal.TheVariants.{Line as BadLine, Name, Frame, Parameter}

later : {m : ℕ} {s : List ℕ} {at e n : ℕ} → Ready m s at → LineEnds m s at e n → (t : Result ℕ Fault) → Ends m s n t → Ends m s at t
later q f (Ok next) z = let l = line_low q f in (omega (arith, l, z.0), z.1)
later q f (Err e) z = z

module _ (ed : Edition) where
  -- ---- BEGIN

  module _ (m : ℕ) (s : List ℕ) (l : LineCursors) {d : Bool} (q : d ≡ is_component_name (rest m s l.value)) where
    pub outer_unnamed : d ≡ false → OpeningIs (PlaceOf m s l) m s (begins_outer ed m s l) (Err (fault_at Name l.name))
    unfolding begins
    outer_unnamed h = record { place = line_start; is = pick_no _ _ _ (component_upper (rest m s l.value) ∙ sym q ∙ h); there = refl }

    module _ (h : d ≡ true) {n : ℕ} (e : n ≡ place_of (upper (rest m s l.value)) component_names) where
      good : is_component_name (upper (rest m s l.value)) ≡ true
      good = component_upper (rest m s l.value) ∙ sym q ∙ h

      is_calendar : same (upper (rest m s l.value)) (ascii "VCALENDAR") ≡ eqb n 0
      is_calendar = same_component (upper (rest m s l.value)) 0 (omega arith) e

      pub outer_other : (n ≡ 0 → ⊥) → OpeningIs (PlaceOf m s l) m s (begins_outer ed m s l) (Err (fault_at Frame l.name))
      unfolding begins
      outer_other f = record { place = line_start; is = pick_yes _ _ _ good ∙ pick_no _ _ _ (is_calendar ∙ ne_eqb n 0 f); there = refl }

      module _ {b : Bool} (f : n ≡ 0) (p : b ≡ is_empty (params_at m s l.parameters)) where
        pub outer_parameters : {c : ℕ} → b ≡ false → (0 < length (params_at m s l.parameters) → NameAt m s l.parameters 0 c) → OpeningIs (PlaceOf m s l) m s (begins_outer ed m s l) (Err (fault_at Parameter c))
        unfolding begins
        outer_parameters g x = record {
          place = parameter_name 0;
          is = pick_yes _ _ _ good ∙ pick_yes _ _ _ (is_calendar ∙ eq-eqb n 0 f) ∙ pick_no _ _ _ (bare_in ed m s l.parameters (sym p ∙ g));
          there = x (some_params (params_at m s l.parameters) (sym p ∙ g));
        }

        pub outer_begins : b ≡ true → OpeningIs (PlaceOf m s l) m s (begins_outer ed m s l) (Ok l.value)
        unfolding begins
        outer_begins g = (pick_yes _ _ _ good ∙ pick_yes _ _ _ (is_calendar ∙ eq-eqb n 0 f) ∙ pick_yes _ _ _ (bare_in ed m s l.parameters (sym p ∙ g)), sym f ∙ e)

  -- ---- a line

  module _ {m : ℕ} {s : List ℕ} {l : LineCursors} (y : cuts m ≡ true) (p : Parts m s l) {c : Bool} (q : c ≡ (is_carried_name (run_of is_name_char (rest m s l.name)) and every carries_name (params_at m s l.parameters))) where
    pub outer_uncarried : c ≡ false → OpeningIs (PlaceOf m s l) m s (move_by (decoded_line ed (named m s l)) []) (Err (fault_at Name l.name))
    unfolding move_by names_carried pick
    outer_uncarried f = record { place = line_start; is = rw (sym (carried_in ed m s l.parameters _ q) ∙ f); there = refl }

    module _ {b : Bool} (f : c ≡ true) (i : b ≡ same (upper (rest m (take l.parameters s) l.name)) (ascii "BEGIN")) where
      pub outer_begin : (r : Result ℕ Fault) → b ≡ true → OpeningIs (PlaceOf m s l) m s (begins_outer ed m s l) r → OpeningIs (PlaceOf m s l) m s (move_by (decoded_line ed (named m s l)) []) r
      unfolding move_by names_carried
      outer_begin r g x = subst (λ (z : Move). OpeningIs (PlaceOf m s l) m s z r) (sym (pick_yes _ _ _ (sym (carried_in ed m s l.parameters _ q) ∙ f) ∙ pick_yes _ _ _ (sym (name_is y p (ascii "BEGIN") i) ∙ g))) x

      pub outer_stray : b ≡ false → OpeningIs (PlaceOf m s l) m s (move_by (decoded_line ed (named m s l)) []) (Err (fault_at Frame l.name))
      unfolding move_by names_carried
      outer_stray g = record {
        place = line_start;
        is =
            pick_yes _ _ _ (sym (carried_in ed m s l.parameters _ q) ∙ f) ∙ pick_no _ _ _ (sym (name_is y p (ascii "BEGIN") i) ∙ g)
            ∙ pick_either (λ (x : Move). x ≡ stop (fault FRAME line_start)) _ _ _ stray_end stray_property;
        there = refl;
      }
        where
          stray_end : ends (upper (rest m s l.value)) (params_in ed m s l.parameters) [] ≡ stop (fault FRAME line_start)
          stray_end = unfold ends in refl

          stray_property : states (decoded_line ed (named m s l)) [] ≡ stop (fault FRAME line_start)
          stray_property = unfold states in refl

  module _ (m : ℕ) (s : List ℕ) (at : ℕ) where
    pub outer_bad : LineAt m s at None → OpeningIs (OffsetAt m s at) m s (move ed (rest m s at) []) (Err (fault_at BadLine at))
    unfolding move_of
    outer_bad a = record { place = line_start; is = rw a.is; there = offset_start m s at }

    pub outer_line : (l : LineCursors) (r : Result ℕ Fault) → cuts m ≡ true → LineAt m s at (Some l) → OpeningIs (PlaceOf m s l) m s (move_by (decoded_line ed (named m s l)) []) r → OpeningIs (OffsetAt m s at) m s (move ed (rest m s at) []) r
    unfolding move_of
    outer_line l r y a x = subst (λ (o : Option ContentLine). OpeningIs (OffsetAt m s at) m s (move_of o []) r) (sym (ap (option_map (decoded_line ed)) a.is)) (moved r x)
      where
        moved : (r : Result ℕ Fault) → OpeningIs (PlaceOf m s l) m s (move_by (decoded_line ed (named m s l)) []) r → OpeningIs (OffsetAt m s at) m s (move_by (decoded_line ed (named m s l)) []) r
        moved (Ok v) x = x
        moved (Err f) x = record { place = x.place; is = x.is; there = place_offset y a x.place x.there }

  -- ---- a calendar

  pub outer_loose : {m : ℕ} {s : List ℕ} {at : ℕ} → Ready m s at → at < length s → EndsLine m s at None → Outer ed m s at (Err (fault_at BadLine at))
  outer_loose {m} {s} {at} q h f = record { ends = q.most; agrees = loose_stops ed m s at [] q h f }

  module _ {m : ℕ} {s : List ℕ} {at e n : ℕ} (r : Result ℕ Fault) (q : Ready m s at) (f : LineEnds m s at e n) (x : OpeningIs (OffsetAt m (take e s) at) m (take e s) (move ed (rest m (take e s) at) []) r) where
    opening_as : (o : Result ℕ Fault) → r ≡ o → OpeningIs (OffsetAt m (take e s) at) m (take e s) (move ed (rest m (take e s) at) []) o
    opening_as o h = subst (OpeningIs (OffsetAt m (take e s) at) m (take e s) (move ed (rest m (take e s) at) [])) h x

    pub outer_fault : {g : Fault} → r ≡ Err g → Outer ed m s at (Err g)
    unfolding onward
    outer_fault {g} h =
        let z = opening_as (Err g) h in
        let p = place_in_text q f z.there in
        record { ends = p.most; agrees = line_moves ed q f [] ∙ rw z.is (ap (refuse (refusal_of g.refusal)) (sym p.is)) }

    pub outer_number : {v : ℕ} → r ≡ Ok v → 0 ≡ place_of (upper (rest m (take e s) v)) component_names
    outer_number {v} h = (opening_as (Ok v) h).1

    pub outer_body : {v : ℕ} (t : Result ℕ Fault) → r ≡ Ok v → Body ed (upper (rest m (take e s) v)) 8 false m s n t → Outer ed m s at t
    unfolding onward
    outer_body {v} t h b = record { ends = later q f t b.ends; agrees = line_moves ed q f [] ∙ rw (opening_as (Ok v) h).0 (b.agrees [] refl refl) }
