-- What the code answers, as an outcome, and as one number for C.
--     outcome_of      the outcome that an answer stands for
--     answer_of       the answer that refuses;   answer_at: the same by a refusal's number
--     code_of         an outcome as one number: its number times 2 ^ 32, and its value
--     Done            the contract of a conversion's last part: what is given is written into d, which is left as e
use Rattle.std.specs.Prelude.{◌≡◌, List, ℕ, ◌+◌, ◌*◌, eqb, length}
use Rattle.octets.specs.Pick.{pick}
use Rattle.calendar.specs.Refusal.{ROOM}
use Rattle.refusals.specs.Fault.{refusal_of}
use Rattle.refusals.specs.declared.Refusal as coded
use Rattle.refusals.specs.declared.Refusal.TheVariants.{Length, Work, Character, Line, Name, Frame, Parameter, Value, Count, Xml, Json, Edition}
use Rattle.refusals.specs.declared.Fault.{Fault}
use Rattle.calls.specs.Conversion.{Converted, Outcome, written, refusal, numbers, outcome, contents}
use Rattle.calls.specs.declared.Answer.{Answer}
use Rattle.calls.specs.declared.Answer.TheVariants.{Written, Needs, Refused}

abbrev pub outcome_of : Answer → Outcome
outcome_of (Written n) = written n
outcome_of (Needs n) = refusal ROOM n
outcome_of (Refused r p) = refusal (refusal_of r) p

abbrev pub answer_of : Fault → Answer
answer_of f = Refused f.refusal f.place

-- the refusal that code names by a number
abbrev pub named_else : ℕ → coded.Refusal
named_else n = pick (eqb n 2) Work (pick (eqb n 3) Character (pick (eqb n 11) Xml (pick (eqb n 12) Json (pick (eqb n 13) Edition Length))))

abbrev pub named : ℕ → coded.Refusal
named n = pick (eqb n 4) Line (pick (eqb n 5) Name (pick (eqb n 6) Frame (pick (eqb n 7) Parameter (pick (eqb n 8) Value (pick (eqb n 9) Count (named_else n))))))

abbrev pub answer_at : ℕ → ℕ → Answer
answer_at n p = pick (eqb n 10) (Needs p) (Refused (named n) p)

abbrev pub code_of : Outcome → ℕ
code_of o = (numbers o).0 * 4294967296 + (numbers o).1

pub record Done (c : Converted) (d e : List ℕ) (r : Answer) : Type 0 where
  pub answer : outcome_of r ≡ outcome c (length d)
  pub left : e ≡ contents c d
