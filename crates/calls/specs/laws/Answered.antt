-- Laws of what specs/Answered.antt defines.
--     value_told        the one value of an answer is its place or its length: the other is 0
--     number_small      every refusal's number is one byte
--     answer_refusal    the answer of a number stands for the refusal of that number
--     answer_back       that of a refusal's own number is that refusal's
--     done_..           what the steps of a conversion do
use Rattle.std.specs.Prelude.{◌≡◌, refl, Bool, true, false, List, [], ◌++◌, ℕ, zero, suc, ◌+◌, ◌^◌, ◌≤◌, ◌<◌, T, pos, nat_abs}
use Rattle.std.proofs.Common.{sym, ap, ◌∙◌, Fits, to_z, le-leb, ne_eqb}
use Rattle.std.specs.Int.{w64}
use Rattle.std.proofs.Math.Facts.{to_z_pos}
use Rattle.std.proofs.Math.Numerals.{unary_clauses}
use native.Mathlib.Omega.{arith}
use Rattle.std.specs.Int.Signed.{non_neg}
use Rattle.std.proofs.Math.ListN.{length}
use Rattle.std.proofs.lemmas.Bool.{lt-leb}
use Rattle.octets.specs.Pick.{pick}
use Rattle.octets.specs.Append.{◌⊕◌}
use Rattle.calendar.specs.Refusal.{Refusal, LENGTH, WORK, CHARACTER, LINE, NAME, FRAME, PARAMETER, VALUE, COUNT, ROOM, XML, JSON, EDITION, number_of, refusal_at}
use Rattle.sink.specs.Sink.{Put, far, overwrite}
use Rattle.sink.specs.laws.Sink.{overwrite_fits}
use Rattle.calls.specs.Conversion.{result, fault, Outcome, written, refusal, is_room, told, numbers, outcome, contents}
use Rattle.refusals.specs.declared.Refusal as coded
use Rattle.refusals.specs.Fault.{refusal_of}
use Rattle.refusals.specs.declared.Refusal.TheVariants.{Length, Work, Character, Line, Name, Frame, Parameter, Value, Count, Xml, Json, Edition}
use Rattle.calls.specs.Answered.{outcome_of, answer_at, Done}
use Rattle.calls.specs.declared.Answer.{Answer}
use Rattle.calls.specs.declared.Answer.TheVariants.{Written, Needs, Refused}

pub value_told : (o : Outcome) → ((numbers o).0 ≡ (told o).number) × ((numbers o).1 ≡ (told o).place + (told o).size)
unfolding pick
value_told (written n) = (refl, omega arith)
value_told (refusal r v) = (refl, go (is_room r))
  where
    go : (t : Bool) → v ≡ pick t 0 v + pick t v 0
    go true = omega arith
    go false = omega arith

pub number_small : (r : Refusal) → number_of r < 256
number_small LENGTH = omega arith
number_small WORK = omega arith
number_small CHARACTER = omega arith
number_small LINE = omega arith
number_small NAME = omega arith
number_small FRAME = omega arith
number_small PARAMETER = omega arith
number_small VALUE = omega arith
number_small COUNT = omega arith
number_small ROOM = omega arith
number_small XML = omega arith
number_small JSON = omega arith
number_small EDITION = omega arith

-- the answer of a number stands for the refusal of that number
other : (n p : ℕ) → 14 ≤ n → outcome_of (answer_at n p) ≡ refusal LENGTH p
unfolding pick
other n p h =
    rw (
      ne_eqb n 10 (λ e. omega arith),
      ne_eqb n 4 (λ e. omega arith),
      ne_eqb n 5 (λ e. omega arith),
      ne_eqb n 6 (λ e. omega arith),
      ne_eqb n 7 (λ e. omega arith),
      ne_eqb n 8 (λ e. omega arith),
      ne_eqb n 9 (λ e. omega arith),
      ne_eqb n 2 (λ e. omega arith),
      ne_eqb n 3 (λ e. omega arith),
      ne_eqb n 11 (λ e. omega arith),
      ne_eqb n 12 (λ e. omega arith),
      ne_eqb n 13 (λ e. omega arith),
    )

pub answer_refusal : (n p : ℕ) → outcome_of (answer_at n p) ≡ refusal (refusal_at n) p
unfolding refusal_at pick
answer_refusal zero p = refl
answer_refusal (suc zero) p = refl
answer_refusal (suc (suc zero)) p = refl
answer_refusal (suc (suc (suc zero))) p = refl
answer_refusal (suc (suc (suc (suc zero)))) p = refl
answer_refusal (suc (suc (suc (suc (suc zero))))) p = refl
answer_refusal (suc (suc (suc (suc (suc (suc zero)))))) p = refl
answer_refusal (suc (suc (suc (suc (suc (suc (suc zero))))))) p = refl
answer_refusal (suc (suc (suc (suc (suc (suc (suc (suc zero)))))))) p = refl
answer_refusal (suc (suc (suc (suc (suc (suc (suc (suc (suc zero))))))))) p = refl
answer_refusal (suc (suc (suc (suc (suc (suc (suc (suc (suc (suc zero)))))))))) p = refl
answer_refusal (suc (suc (suc (suc (suc (suc (suc (suc (suc (suc (suc zero))))))))))) p = refl
answer_refusal (suc (suc (suc (suc (suc (suc (suc (suc (suc (suc (suc (suc zero)))))))))))) p = refl
answer_refusal (suc (suc (suc (suc (suc (suc (suc (suc (suc (suc (suc (suc (suc zero))))))))))))) p = refl
answer_refusal (suc (suc (suc (suc (suc (suc (suc (suc (suc (suc (suc (suc (suc (suc n)))))))))))))) p = simp unary_clauses (other (suc (suc (suc (suc (suc (suc (suc (suc (suc (suc (suc (suc (suc (suc n)))))))))))))) p (omega arith))

-- the number of a refusal has its answer
pub answer_back : (r : coded.Refusal) (p : ℕ) → answer_at (number_of (refusal_of r)) p ≡ Refused r p
unfolding pick
answer_back Length p = refl
answer_back Work p = refl
answer_back Character p = refl
answer_back Line p = refl
answer_back Name p = refl
answer_back Frame p = refl
answer_back Parameter p = refl
answer_back Value p = refl
answer_back Count p = refl
answer_back Xml p = refl
answer_back Json p = refl
answer_back Edition p = refl

pub done_fault : {x : Refusal} {p : ℕ} (d : List ℕ) {r : Answer} → outcome_of r ≡ refusal x p → Done (fault x p) d d r
unfolding outcome contents
done_fault d e = record { answer = e; left = refl }

-- an output that has room is written at once
pub done_at_once : {bs d e : List ℕ} {n : ℕ} → length bs < 2 ^ 63 → length bs ≤ length d → Put d e 0 n bs → Done (result bs) d e (Written n)
unfolding outcome contents pick far ◌⊕◌
done_at_once {bs} {d} {e} {n} short f w =
    let k : n ≡ length bs = omega (arith, w.to) in
    record { answer = rw (le-leb (length bs) (length d) f, k); left = rw (le-leb (length bs) (length d) f) (w.is ∙ overwrite_fits d bs f) }

-- after a pass over no bytes, what was lent comes back as e₁, in front of the whole d: it is empty
empty_back : {bs e₁ : List ℕ} {n : ℕ} → Put [] e₁ 0 n bs → e₁ ≡ []
unfolding overwrite
empty_back p = p.is

module _ {bs e₁ : List ℕ} {n : ℕ} (short : length bs < 2 ^ 63) (p : Put [] e₁ 0 n bs) where
  length_learnt : n ≡ length bs
  unfolding far
  length_learnt = omega (arith, p.to)

  pub done_written : {d e : List ℕ} {q : ℕ} → n ≤ length (e₁ ++ d) → Put (e₁ ++ d) e 0 q bs → Done (result bs) d e (Written n)
  unfolding outcome contents pick ◌⊕◌
  done_written {d} {e} {q} h w =
      let h₁ : n ≤ length d = rw (empty_back p) at h in
      let w₁ : Put d e 0 q bs = rw (empty_back p) at w in
      let k : n ≡ length bs = length_learnt in
      let f : length bs ≤ length d = omega arith in
      record { answer = rw (le-leb (length bs) (length d) f, k); left = rw (le-leb (length bs) (length d) f) (w₁.is ∙ overwrite_fits d bs f) }

  pub done_room : {d : List ℕ} → length (e₁ ++ d) < n → Done (result bs) d (e₁ ++ d) (Needs n)
  unfolding outcome contents pick
  done_room {d} h =
      let h₁ : length d < n = rw (empty_back p) at h in
      let k : n ≡ length bs = length_learnt in
      let f : length d < length bs = omega arith in
      record { answer = rw (lt-leb (length bs) (length d) f, k); left = rw (lt-leb (length bs) (length d) f, empty_back p) }
