-- The refusals and their numbers, and the answer of a reading.
--     Refusal, number_of  the refusals;   refusal_at: the one of a number, refusal_back: the one that has this number
--     Verdict             what a check finds;   ◌otherwise◌ is one check after another
--     characters, limit   refusals 3 and 1
--     Answer              what reading an input gives
use Rattle.std.specs.Prelude.{[], ◌∷◌, ℕ, ◌-◌, get_or, Option, None, Some}
use Rattle.calendar.specs.Calendar.{Calendar}

-- 1 LENGTH, 2 WORK, 3 CHARACTER, 4 LINE, 5 NAME, 6 FRAME, 7 PARAMETER, 8 VALUE, 9 COUNT, 11 XML, 12 JSON, 13 EDITION have a place; 10 ROOM has the exact length
pub data Refusal : Type 0 where
  LENGTH WORK CHARACTER LINE NAME FRAME PARAMETER VALUE COUNT ROOM XML JSON EDITION : Refusal

abbrev pub number_of : Refusal → ℕ
number_of LENGTH = 1
number_of WORK = 2
number_of CHARACTER = 3
number_of LINE = 4
number_of NAME = 5
number_of FRAME = 6
number_of PARAMETER = 7
number_of VALUE = 8
number_of COUNT = 9
number_of ROOM = 10
number_of XML = 11
number_of JSON = 12
number_of EDITION = 13

unfoldable pub refusal_at : ℕ → Refusal
refusal_at n = get_or (LENGTH ∷ WORK ∷ CHARACTER ∷ LINE ∷ NAME ∷ FRAME ∷ PARAMETER ∷ VALUE ∷ COUNT ∷ ROOM ∷ XML ∷ JSON ∷ EDITION ∷ []) (n - 1) LENGTH

-- what a check finds: nothing, or a refusal and its place
pub data Verdict : Type 0 where
  fine : Verdict
  refuse : Refusal → ℕ → Verdict

-- one check after another: the first refusal stands
infixr 30 ◌otherwise◌
unfoldable pub ◌otherwise◌ : Verdict → Verdict → Verdict
fine otherwise w = w
refuse n p otherwise w = refuse n p

-- refusal 3, at the place of the first character that is none
abbrev pub characters : Option ℕ → Verdict
characters None = fine
characters (Some p) = refuse CHARACTER p

-- the longest input that is not refused for its length, of both conversions
abbrev pub limit : ℕ
limit = 65535

-- what reading an input gives
pub data Answer : Type 0 where
  accepted : Calendar → Answer
  refused : Refusal → ℕ → Answer

abbrev pub answer : Verdict → Calendar → Answer
answer fine c = accepted c
answer (refuse n p) c = refused n p
