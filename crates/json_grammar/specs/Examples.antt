-- By computation: a derivation and its spelling; what escapes may name; places of faults at which the bytes before can't all go on.
use Rattle.std.specs.Prelude.{◌≡◌, refl, true, false, [], ◌∷◌, map, Some, None}
use Prim.Native.String.{String}
use Rattle.octets.specs.Ascii.{ascii}
use Rattle.json_text.specs.Check.{verdict}
use Rattle.json_grammar.specs.Grammar.{Structural, null_name, digits_int, unescaped, escaped, literal, empty_array, object, array, number, member, no_members, no_values, and_value, Text, spelled_text, depth, may_name, every_string}
use Rattle.json_grammar.specs.Computing.{grammar_compute}

-- ` [-12.5e+3 ,{"a\n":null},[]]`
text : Text
unfolding grammar_compute
text = record {
  before = record { byte = 32; passes = refl } ∷ [];
  value =
      array bare
      (number (record {
        has_minus = true;
        int = digits_int (record { byte = 49; passes = refl }) (record { byte = 50; passes = refl } ∷ []);
        frac = Some (record { first = record { byte = 53; passes = refl }; more = [] });
        exp = Some (record { e = record { byte = 101; passes = refl }; sign = Some (record { byte = 43; passes = refl }); digits = record { first = record { byte = 51; passes = refl }; more = [] } });
      }))
      (and_value (record { before = record { byte = 32; passes = refl } ∷ []; behind = [] })
      (object bare (member (unescaped (record { byte = 97; passes = refl }) ∷ escaped (record { byte = 110; passes = refl }) ∷ []) bare (literal null_name)) no_members bare)
      (and_value bare (empty_array bare bare) no_values))
      bare;
  behind = [];
}
  where
    bare : Structural
    bare = record { before = []; behind = [] }

spelled : spelled_text text ≡ ascii " [-12.5e+3 ,{\"a\\n\":null},[]]"
unfolding grammar_compute text
spelled = refl

deep : depth text.value ≡ 2
unfolding grammar_compute text
deep = refl

names : every_string (λ us. may_name us false) text.value ≡ true
unfolding grammar_compute text
names = refl

accepted : verdict 2 (spelled_text text) ≡ None
unfolding grammar_compute text
accepted = refl

too_deep : verdict 1 (spelled_text text) ≡ Some 12
unfolding grammar_compute text
too_deep = refl

-- after `"\uDC` no digits name what they may, nor after `"\u001`; a text that breaks off there is faulted behind them
in_digits : map (λ (t : String). verdict 32 (ascii t)) ("\"\\uDC" ∷ "\"\\uDCx" ∷ "\"\\u001" ∷ "\"\\uDC00\"" ∷ []) ≡ Some 5 ∷ Some 5 ∷ Some 6 ∷ Some 1 ∷ []
unfolding grammar_compute
in_digits = refl
