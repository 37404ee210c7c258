-- A word in a given case: as it stands, in capitals, in small letters.
--     cased k s           the word s in the case k;   cased_byte k b: a byte of it
--     case_of xcal        the case in which a word is compared: as it stands in XML, in capitals in text
use Rattle.std.specs.Prelude.{Bool, true, false, List, ℕ}
use Rattle.octets.specs.Class.{upper_byte, lower_byte, upper, lower}
use Rattle.names.specs.declared.Case.{Case}
use Rattle.names.specs.declared.Case.TheVariants.{Kept, Capital, Small}

abbrev pub cased : Case → List ℕ → List ℕ
cased Kept s = s
cased Capital s = upper s
cased Small s = lower s

abbrev pub cased_byte : Case → ℕ → ℕ
cased_byte Kept b = b
cased_byte Capital b = upper_byte b
cased_byte Small b = lower_byte b

abbrev pub case_of : Bool → Case
case_of true = Kept
case_of false = Capital
