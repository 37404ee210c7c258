-- Names that can't be carried, of a property and of its parameters.
--     bad_names     the rules of the tests
use Rattle.std.specs.Prelude.{◌≡◌, Bool, true, false, List, [], ℕ}
use Rattle.std.proofs.Common.{sym, ◌∙◌, rules}
use Rattle.octets.specs.Lists.{any_one}
use Rattle.octets.specs.Reading.{read_or}
use Rattle.json_text.specs.Tree.{member_list}
use Rattle.jcal.specs.Property.{is_bad_property, is_bad_parameter, passes}
use Rattle.read_json.specs.TreeAt.{members_at, string_at}
use Rattle.read_json.specs.Kinds.{is_string, is_object}
use Rattle.read_json.specs.declared.Head.{Head}
use Rattle.read_jcal.specs.Arrays.{Inside, ThreeIn, name_found, object_found}
use Rattle.read_jcal.specs.laws.Arrays.{as_string_lem, no_string, as_object_lem, no_object, string_inside}
use Rattle.read_jcal.specs.declared.Three.{Three}

module _ (s : List ℕ) (h : Head) where
  module _ {b : Bool} (e : b ≡ is_string h.kind) where
    pub bad_string : {r : Bool} → b ≡ true → r ≡ is_bad_property (string_at s h.place) → r ≡ passes is_bad_property (name_found s h)
    bad_string y f = f ∙ rw (as_string_lem s h (sym e ∙ y))

    pub bad_no_string : b ≡ false → false ≡ passes is_bad_property (name_found s h)
    bad_no_string y = rw (no_string s h (sym e ∙ y))

  module _ {b : Bool} (e : b ≡ is_object h.kind) where
    pub bad_object : {r : Bool} → b ≡ true → r ≡ any_one is_bad_parameter (member_list (members_at s h.next)) → r ≡ any_one is_bad_parameter (read_or [] (object_found s h))
    unfolding read_or
    bad_object y f = f ∙ rw (as_object_lem s h (sym e ∙ y))

    pub bad_no_object : b ≡ false → false ≡ any_one is_bad_parameter (read_or [] (object_found s h))
    unfolding read_or any_one
    bad_no_object y = rw (no_object s h (sym e ∙ y))

pub inside_first : {s : List ℕ} {p : Three} → ThreeIn s p → Inside s p.first
inside_first i = i.first

pub ruleset bad_names = (bad_string, bad_no_string, bad_object, bad_no_object, string_inside, rules)
