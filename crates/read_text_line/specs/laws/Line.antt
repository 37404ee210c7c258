-- Laws of what specs/Line.antt defines.
use Rattle.std.specs.Prelude.{◌≡◌, refl, Bool, true, false, List, [], ◌∷◌, ℕ, suc, drop, Option, None, Some, Result, Ok, Err}
use Rattle.std.proofs.Common.{sym, ◌∙◌, arith}
use Rattle.octets.specs.Pick.{pick}
use Rattle.octets.specs.laws.Pick.{pick_yes, pick_no}
use Rattle.octets.specs.Class.{is_name_char}
use Rattle.octets.specs.Words.{is_empty}
use Rattle.octets.specs.Scan.{span_len, all_of}
use Rattle.octets.specs.Runs.{after_run, run_of}
use Rattle.source.specs.Source.{rest, Reads}
use Rattle.source.specs.laws.Facts.{rest_byte, rest_end}
use Rattle.source.specs.declared.points.Unit.{Unit}
use Rattle.read_text_line.specs.ContentLine.{is_value_char, next_param, with_value, content_line}
use Rattle.read_text_line.specs.Items.{items}
use Rattle.read_text_line.specs.Cursor.{Onward, RunEnds, params_at}
use Rattle.read_text_line.specs.laws.Cursor.{onward_both, onward_byte, byte_at, byte_not}
use Rattle.read_text_line.specs.Repeating.{all_at, AllAt}
use Rattle.read_text_line.specs.Params.{NameEnds}
use Rattle.read_text_line.specs.laws.Params.{name_run}
use Rattle.read_text_line.specs.Line.{TailAt, LineAt}
use Rattle.read_text_line.specs.declared.Malformed.{Malformed}

-- ---- ":" value

-- each passes if nothing is left behind those that do
all_run : (p : ℕ → Bool) (xs : List ℕ) → all_of p xs ≡ is_empty (after_run p xs)
unfolding all_of after_run span_len pick
all_run p [] = refl
all_run p (x ∷ xs) = go (p x) (all_run p xs)
  where
    go : (t : Bool) → all_of p xs ≡ is_empty (after_run p xs) → pick t (all_of p xs) false ≡ is_empty (drop (pick t (suc (span_len p xs)) 0) (x ∷ xs))
    go true h = h
    go false h = refl

module _ {m : ℕ} {s : List ℕ} {c : ℕ} {n : Unit} (p : Reads m s c n) where
  module _ {t : ℕ} {z : Unit} (e : n.u ≡ 58) (r : RunEnds is_value_char m s n.next t) (q : Reads m s t z) where
    pub tail_there : z.u ≡ 256 → TailAt m s c (Some n.next)
    unfolding with_value pick
    tail_there h = record {
      is = λ k ps. byte_at p 58 _ _ e (λ x. omega arith) ∙ rw (all_run is_value_char (rest m s n.next), ← r.left, rest_end q h);
      to = onward_byte p (λ x. omega arith);
    }

    pub tail_broken : (z.u ≡ 256 → ⊥) → TailAt m s c None
    unfolding with_value pick
    tail_broken h = record {
      is = λ k ps. byte_at p 58 _ _ e (λ x. omega arith) ∙ rw (all_run is_value_char (rest m s n.next), ← r.left, rest_byte q h);
      to = tt;
    }

  pub tail_missing : (n.u ≡ 58 → ⊥) → TailAt m s c None
  unfolding with_value pick
  tail_missing h = record { is = λ k ps. byte_not p 58 _ _ h; to = tt }

-- ---- the line

module _ {m : ℕ} {s : List ℕ} {c : ℕ} {t : Bool} (k : t ≡ is_empty (run_of is_name_char (rest m s c))) where
  pub line_unnamed : t ≡ true → LineAt m s c None
  unfolding content_line
  line_unnamed h = record { is = pick_yes _ _ _ (sym k ∙ h); parts = tt }

  module _ {e : ℕ} {p : Result ℕ (Malformed ℕ)} (h : t ≡ false) (n : NameEnds m s c e) (a : AllAt next_param m s e p) where
    named_line : content_line (rest m s c) ≡ with_value (all_at m s (items next_param (rest m s e)) p a.fault) (run_of is_name_char (rest m s c))
    unfolding content_line
    named_line = pick_no _ _ _ (sym k ∙ h) ∙ rw (← (name_run n).left, a.is)

    pub line_faulty : {x : Malformed ℕ} → p ≡ Err x → LineAt m s c None
    unfolding with_value
    line_faulty f = record { is = named_line ∙ rw f; parts = tt }

    module _ {q : ℕ} {v : Option ℕ} (f : p ≡ Ok q) (w : TailAt m s q v) where
      pub line_there : {y : ℕ} → v ≡ Some y → LineAt m s c (Some (record { name = c; parameters = e; value = y }))
      line_there {y} g =
          let b : Onward m s e q = rw f at a.to in
          let d : Onward m s q y = rw g at w.to in
          record { is = named_line ∙ rw (f, w.is (run_of is_name_char (rest m s c)) (params_at m s e), g); parts = (refl, record { name = n; value = onward_both b d }) }

      pub line_valueless : v ≡ None → LineAt m s c None
      line_valueless g = record { is = named_line ∙ rw (f, w.is (run_of is_name_char (rest m s c)) (params_at m s e), g); parts = tt }
