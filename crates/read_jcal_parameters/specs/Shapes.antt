-- The members of an object and the values of one, from a place on.
--     list_at s p        the elements of an array whose content, or the rest of it, begins at p
--     given_at s p       the values of the member whose value stands from p on: the elements of an array, or one value alone
--     parameters_at s p  the members of an object whose content, or the rest of it, begins at p
use Rattle.std.specs.Prelude.{List, ℕ}
use Rattle.json_text.specs.Tree.{Json, Member, first_of, element_list, member_list}
use Rattle.json_text.specs.Kinds.{or_alone}
use Rattle.read_json.specs.TreeAt.{elements_at, members_at, string_at}
use Rattle.read_json.specs.declared.MemberHead.{MemberHead}

unfoldable pub list_at : List ℕ → ℕ → List Json
list_at s p = element_list (elements_at s p)

unfoldable pub given_at : List ℕ → ℕ → List Json
given_at s p = or_alone (first_of (elements_at s p))

unfoldable pub parameters_at : List ℕ → ℕ → List Member
parameters_at s p = member_list (members_at s p)

-- the member that was found
abbrev pub member_of : List ℕ → MemberHead → Member
member_of s m = record { name = string_at s m.name; value = first_of (elements_at s m.next) }
