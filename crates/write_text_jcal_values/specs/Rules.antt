-- A RECUR from its object, written as text (RFC 7265, section 3.6.10): for each part in the schema's order the member that has its name.
--     item_of p v      the item of the part of the number p that a value states
--     upper_name       the name of a member in capitals
--     PartAt           the first member of a part's name: the contract of `find_part`
use Rattle.std.specs.Prelude.{◌≡◌, List, [], ℕ, ◌<◌, length, get_or, Option, IfSome, option_map}
use Rattle.octets.specs.Class.{upper}
use Rattle.octets.specs.Words.{row_of}
use Rattle.octets.specs.Reading.{and_then}
use Rattle.calendar.specs.Calendar.{RuleItem}
use Rattle.recur.specs.Parts.{part_names, part_of}
use Rattle.json_text.specs.Tree.{Json, Member, first_of}
use Rattle.jcal.specs.Values.{read_item}
use Rattle.read_json.specs.TreeAt.{elements_at, string_at}
use Rattle.read_json.specs.declared.MemberHead.{MemberHead}
use Rattle.write_text_jcal_values.specs.Elements.{member_list_at}

abbrev pub part_name : ℕ → List ℕ
part_name p = get_or part_names p []

abbrev pub item_of : ℕ → Json → Option RuleItem
item_of p v = and_then (part_of (part_name p)) (λ r. read_item r v)

abbrev pub upper_name : Member → List ℕ
upper_name m = upper m.name

-- ---- the walk to a part

abbrev pub member_of : List ℕ → ℕ → ℕ → Member
member_of s p n = record { name = string_at s p; value = first_of (elements_at s n) }

pub record PartAt (p : ℕ) (s : List ℕ) (from : ℕ) (r : Option MemberHead) : Type 0 where
  pub is : row_of upper_name (part_name p) (member_list_at s from) ≡ option_map (λ m. member_of s m.name m.next) r
  pub place : IfSome r (λ m. m.name < length s)
