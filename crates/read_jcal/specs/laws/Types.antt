-- Laws of the type that an element names.
--     typing    the rules of an element that names a type
use Prim.{tt}
use Rattle.std.specs.Prelude.{◌≡◌, Bool, true, false, List, ℕ, ◌≤◌, ◌<◌, None, Some}
use Rattle.std.proofs.Common.{sym, ◌∙◌, arith, rules}
use Rattle.octets.specs.Reading.{and_then}
use Rattle.names.specs.Table.{place_of}
use Rattle.schema.specs.Numbers.{type_words}
use Rattle.jcal.proofs.laws.TypeNames.{word_type, no_type, word_placed}
use Rattle.read_json.specs.TreeAt.{string_at}
use Rattle.read_json.specs.Kinds.{is_string}
use Rattle.read_json.specs.declared.Head.{Head}
use Rattle.read_jcal.specs.laws.Arrays.{as_string_lem, no_string, string_inside}
use Rattle.read_jcal.specs.Types.{TypeAt}

module _ {s : List ℕ} {h : Head} {b : Bool} (e : b ≡ is_string h.kind) where
  pub type_no_string : b ≡ false → TypeAt s h None
  unfolding and_then
  type_no_string y = record { is = rw (no_string s h (sym e ∙ y)); small = tt }

  module _ (y : b ≡ true) {t : ℕ} (f : t ≡ place_of (string_at s h.place) type_words) where
    pub type_named : t ≤ 14 → TypeAt s h (Some t)
    unfolding and_then
    type_named l = record { is = rw (as_string_lem s h (sym e ∙ y)) (word_type (string_at s h.place) f l); small = l }

    pub type_other : 14 < t → TypeAt s h None
    unfolding and_then
    type_other l = record { is = rw (as_string_lem s h (sym e ∙ y)) (no_type (string_at s h.place) (rw (← f) (omega arith))); small = tt }

pub ruleset typing = (word_placed, type_no_string, type_named, type_other, string_inside, rules)
