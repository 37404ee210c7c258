-- The elements of an array by places, whatever they are.
--     list_at           the elements from a place on, as a list;   member_list_at: the members of an object
--     without k es      elements without the first k of them
--     characters_in es  the characters of the first of them; none where it is no string
--     members_in v      the members of an object; none of any other value
use Rattle.std.specs.Prelude.{List, [], ℕ, zero, suc}
use Rattle.octets.specs.Reading.{read_or}
use Rattle.json_text.specs.Tree.{Json, string, number, literal, array, object, Elements, no_elements, element, Member, Members, no_members, first_of, element_list, member_list}
use Rattle.json_text.specs.Kinds.{as_string}
use Rattle.read_json.specs.TreeAt.{elements_at, members_at}

abbrev pub list_at : List ℕ → ℕ → List Json
list_at s at = element_list (elements_at s at)

abbrev pub member_list_at : List ℕ → ℕ → List Member
member_list_at s at = member_list (members_at s at)

unfoldable pub without : ℕ → Elements → Elements
without zero es = es
without (suc k) no_elements = no_elements
without (suc k) (element v vs) = without k vs

abbrev pub characters_in : Elements → List ℕ
characters_in es = read_or [] (as_string (first_of es))

abbrev pub members_in : Json → Members
members_in (string p s) = no_members
members_in (number p s) = no_members
members_in (literal p s) = no_members
members_in (array p e vs) = no_members
members_in (object p e ms) = ms
