-- Laws of what specs/Turns.antt defines.
use Rattle.std.specs.Prelude.{◌≡◌, refl, Bool, ℕ, ◌+◌, ◌<◌, length, take, None, Result, Ok, Err}
use Rattle.std.proofs.Math.Path.{ap}
use Rattle.std.proofs.Common.{◌∙◌}
use mathlib.Core.List.{List, [], ◌∷◌}
use native.Mathlib.Omega.{arith}
use Rattle.source.specs.Source.{rest}
use Rattle.calendar.specs.Refusal.{LINE, refuse}
use Rattle.folding.specs.Lines.{Line}
use Rattle.read_text_line.specs.LineEnd.{index, LineEnds, EndsLine}
use Rattle.read_text_line.specs.laws.LineEnd.{line_first, line_none}
use Rattle.read_text_line.specs.Ready.{Ready}
use Rattle.read_text_line.specs.laws.Ready.{ready_end, line_end_inside, line_next, line_low}
use Rattle.text.specs.Faults.{fault, line_start, offset}
use Rattle.text.specs.Nesting.{Open, onward, move, nesting}
use Rattle.text.specs.LineKind.{faulty, line_kind, step}
use Rattle.text.proofs.laws.LineKind.{move_is}
use Rattle.edition.specs.declared.Edition.{Edition}
use Rattle.read_text.specs.Places.{OffsetAt, PlaceAt}
use Rattle.read_text.specs.laws.Places.{place_in_text}
use Rattle.read_text.specs.Kinds.{KindIs}
use Rattle.read_text.specs.Turns.{on_from, open_in, Turned}
use Rattle.read_text.specs.declared.Kind.{Kind}
use Rattle.read_text.specs.declared.Kind.TheVariants.{Starts, Stops, Holds}
use Rattle.refusals.specs.Fault.{fault_at}
use Rattle.refusals.specs.declared.Fault.{Fault}
use Rattle.refusals.specs.declared.Refusal.TheVariants.{Line as BadLine}

module _ (ed : Edition) where
  -- ---- a line

  module _ {m : ℕ} {s : List ℕ} {at e n : ℕ} (r : Ready m s at) (f : LineEnds m s at e n) where
    -- what a line does with these components open, where it ends at e
    pub line_moves : (st : List Open) → on_from ed m s at st ≡ onward (move ed (rest m (take e s) at) st) (index m s at) (rest m (take e s) at) (on_from ed m s n)
    unfolding nesting
    line_moves st = ap (λ (ls : List Line). (nesting ed) (length (rest m s 0)) ls st) (line_first r.cut r.to f)

  pub loose_stops : (m : ℕ) (s : List ℕ) (at : ℕ) (st : List Open) → Ready m s at → at < length s → EndsLine m s at None → on_from ed m s at st ≡ refuse LINE (index m s at)
  unfolding nesting
  loose_stops m s at st r h f = ap (λ (ls : List Line). (nesting ed) (length (rest m s 0)) ls st) (line_none m s at (λ e. let k = r.some_byte e in omega arith) f)

  module _ (c : List ℕ) (v inner : Bool) {m : ℕ} {s : List ℕ} {at : ℕ} (r : Ready m s at) where
    pub turned_loose : EndsLine m s at None → at < length s → Turned ed c v inner m s at (record { kind = Err (fault_at BadLine at); end = length s; next = length s })
    unfolding step onward offset
    turned_loose f h = record {
      bytes = [];
      line = faulty (fault LINE line_start);
      said = record { place = line_start; is = refl; there = record { is = omega arith; most = r.most } };
      low = h;
      high = ready_end m s r.cut;
      within = omega arith;
      does = λ seen st x. let z : index m s at ≡ index m s at + 0 = omega arith in loose_stops m s at (open_in c seen inner ∷ st) r h f ∙ ap (refuse LINE) z;
    }

    pub turned_whole : {e n : ℕ} (x : Result Kind Fault) → LineEnds m s at e n → KindIs (OffsetAt m (take e s) at) v m (take e s) (line_kind ed c v inner (rest m (take e s) at)) x →
        Turned ed c v inner m s at (record { kind = x; end = e; next = n })
    turned_whole {e} {n} x f q = record {
      bytes = rest m (take e s) at;
      line = line_kind ed c v inner (rest m (take e s) at);
      said = said x q;
      low = line_low r f;
      high = line_next r f;
      within = line_end_inside r f;
      does = λ seen st z. line_moves r f (open_in c seen inner ∷ st) ∙ rw (move_is ed (rest m (take e s) at) (open_in c seen inner) st, z);
    }
      where
        said : (x : Result Kind Fault) → KindIs (OffsetAt m (take e s) at) v m (take e s) (line_kind ed c v inner (rest m (take e s) at)) x →
            KindIs (PlaceAt m s at (rest m (take e s) at)) v m (take e s) (line_kind ed c v inner (rest m (take e s) at)) x
        said (Ok (Starts i a)) q = q
        said (Ok Stops) q = q
        said (Ok (Holds p a)) q = q
        said (Err e₀) q = record { place = q.place; is = q.is; there = place_in_text r f q.there }
