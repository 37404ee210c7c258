-- Laws of what specs/Collecting.antt defines.
--     compared_..               the first names are compared, none of them comes again
--     Collecting s e f t k c    the names from the cursor e on are the k that are collected, and those from c on
use Rattle.std.specs.Prelude.{◌≡◌, refl, Bool, true, false, List, [], ◌∷◌, ℕ, ◌+◌, ◌<◌, take, Option, None, Some, Result, Ok, Err}
use Rattle.std.proofs.Math.Path.{sym}
use Rattle.std.proofs.Common.{◌∙◌, arith}
use Rattle.octets.specs.Pick.{pick}
use Rattle.octets.specs.Words.{is_one_of}
use Rattle.read_text_line.specs.ContentLine.{RawParameter, next_param}
use Rattle.read_text_line.specs.Cursor.{params_at}
use Rattle.read_text_line.specs.Params.{ParamOf}
use Rattle.read_text_line.specs.laws.Params.{param_less}
use Rattle.read_text_line.specs.declared.Malformed.{Malformed}
use Rattle.read_text_line.specs.declared.ParameterCursors.{ParameterCursors}
use Rattle.source.specs.Source.{cuts}
use Rattle.distinct.specs.Listed.{word_at, listed}
use Rattle.distinct.specs.Keeping.{Keeps}
use Rattle.distinct.specs.Again.{first_again}
use Rattle.distinct.specs.laws.Keeping.{keeps_more}
use Rattle.read_text_parameters.specs.Cutting.{name_cut, param_cut}
use Rattle.read_text_parameters.specs.laws.Before.{before_one}
use Rattle.read_text_parameters.specs.laws.Cutting.{params_step, params_over, params_fault}
use Rattle.read_text_parameters.specs.Comparing.{names_of, onto, Comparing}

pub record Collecting (m : ℕ) (s : List ℕ) (e : ℕ) (f t : List ℕ) (k c : ℕ) : Type 0 where
  pub are : names_of (params_at m s e) ≡ listed k (word_at m s f t) (names_of (params_at m s c))

pub collect_start : (m : ℕ) (s : List ℕ) (e : ℕ) (f t : List ℕ) → Collecting m s e f t 0 e
unfolding listed
collect_start m s e f t = record { are = refl }

module _ {m : ℕ} {s : List ℕ} {e : ℕ} {f t : List ℕ} {k c : ℕ} {r : Result (Option ParameterCursors) (Malformed ParameterCursors)} (y : cuts m ≡ true) (i : Collecting m s e f t k c) (a : ParamOf next_param m s c r) where
  pub collect_more : {g u : List ℕ} {pc : ParameterCursors} → r ≡ Ok (Some pc) → Keeps f t k pc.name pc.end g u → Collecting m s e g u (k + 1) pc.next
  collect_more {pc = pc} h p = record {
    are = params_step y (λ (rs : List RawParameter). listed k (word_at m s f t) (names_of rs)) i.are a h ∙ keeps_more m s p (names_of (params_at m s pc.next));
  }

  pub collect_over : r ≡ Ok None → names_of (params_at m s e) ≡ listed k (word_at m s f t) []
  collect_over h = params_over y (λ (rs : List RawParameter). listed k (word_at m s f t) (names_of rs)) i.are a h

  pub collect_fault : {x : Malformed ParameterCursors} → r ≡ Err x → names_of (params_at m s e) ≡ listed k (word_at m s f t) []
  collect_fault h = params_fault y (λ (rs : List RawParameter). listed k (word_at m s f t) (names_of rs)) i.are a h

-- ---- compared with all before them

pub compared_start : (m : ℕ) (s : List ℕ) (e : ℕ) → Comparing m s e 0 e
unfolding onto
compared_start m s e = record { before = []; names = refl; count = refl; comes = omega arith; past = omega arith }

module _ {m : ℕ} {s : List ℕ} {e k c : ℕ} {r : Result (Option ParameterCursors) (Malformed ParameterCursors)} (y : cuts m ≡ true) (i : Comparing m s e k c) (a : ParamOf next_param m s c r) where
  compared_over_by : params_at m s c ≡ [] → k ≡ first_again [] (names_of (params_at m s e))
  unfolding first_again
  compared_over_by h = sym (i.comes ∙ rw h (omega arith))

  pub compared_over : r ≡ Ok None → k ≡ first_again [] (names_of (params_at m s e))
  compared_over h = compared_over_by (params_over y (λ (rs : List RawParameter). rs) refl a h)

  pub compared_fault : {x : Malformed ParameterCursors} → r ≡ Err x → k ≡ first_again [] (names_of (params_at m s e))
  compared_fault h = compared_over_by (params_fault y (λ (rs : List RawParameter). rs) refl a h)

  module _ {b : Bool} {pc : ParameterCursors} (h : r ≡ Ok (Some pc)) (g : b ≡ is_one_of (name_cut m s pc.name pc.end) (take k (names_of (params_at m s e)))) where
    here : params_at m s c ≡ param_cut m s pc.name pc.end pc.first ∷ params_at m s pc.next
    here = params_step y (λ (rs : List RawParameter). rs) refl a h

    again_is : b ≡ is_one_of (name_cut m s pc.name pc.end) i.before
    again_is = g ∙ rw (i.names, ← i.count) (before_one (name_cut m s pc.name pc.end) i.before (names_of (params_at m s c)))

    pub compared_less : c < pc.next
    compared_less = let l = param_less a h in omega (arith, l)

    pub compared_again : b ≡ true → k ≡ first_again [] (names_of (params_at m s e))
    unfolding first_again pick
    compared_again z = sym (i.comes ∙ rw (here, sym again_is ∙ z) (omega arith))

    pub compared_more : b ≡ false → Comparing m s e (k + 1) pc.next
    unfolding first_again onto pick
    compared_more z = record {
      before = name_cut m s pc.name pc.end ∷ i.before;
      names = i.names ∙ rw here;
      count = let l = i.count in omega (arith, l);
      comes = i.comes ∙ rw (here, sym again_is ∙ z) (omega arith);
      past = let l = compared_less in let p = i.past in omega (arith, l, p);
    }
