-- The members of an object, one by one.
--     member_by, MemberAt   what a member that was found says of those from its place on, and its bounds: the contract of `member_at`
use Rattle.std.specs.Prelude.{◌≡◌, List, ℕ, Option, None, Some}
use Prim.{Unit}
use Rattle.json_text.specs.Tree.{Members, no_members, member, first_of}
use Rattle.read_json.specs.TreeAt.{elements_at, members_at, string_at}
use Rattle.read_json.specs.Pieces.{Taken}
use Rattle.read_json.specs.declared.MemberHead.{MemberHead}

abbrev pub member_by : List ℕ → Option MemberHead → Members
member_by s None = no_members
member_by s (Some m) = member (string_at s m.name) (first_of (elements_at s m.next)) (members_at s m.next)

abbrev pub MemberTakes : List ℕ → ℕ → Option MemberHead → Type 0
MemberTakes s at None = Unit {0}
MemberTakes s at (Some m) = Taken s at m.name m.next

pub record MemberAt (s : List ℕ) (at : ℕ) (r : Option MemberHead) : Type 0 where
  pub is : members_at s at ≡ member_by s r
  pub takes : MemberTakes s at r
