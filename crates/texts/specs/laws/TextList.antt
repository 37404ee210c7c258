-- Laws of what specs/TextList.antt defines.
--     texts_read_back, texts_accepted, texts_one_line, texts_no_return
use Rattle.std.specs.Prelude.{◌≡◌, refl, true, false, List, ◌∷◌, map, ℕ, Some}
use Rattle.octets.specs.Pick.{◌or◌}
use Rattle.octets.specs.Words.{is_empty, holds, none_holds}
use Rattle.octets.specs.laws.Words.{joined_without}
use Rattle.texts.specs.Text.{write_text}
use Rattle.texts.specs.laws.Text.{split_read_back, split_some}
use Rattle.texts.specs.laws.Escaped.{each_one_line, each_no_return}
use Rattle.texts.specs.TextList.{read_texts, write_texts}

pub texts_read_back : (t : List ℕ) (ts : List (List ℕ)) → read_texts (write_texts (t ∷ ts)) ≡ Some (t ∷ ts)
unfolding ◌or◌
texts_read_back t ts = split_read_back 44 refl t ts

-- at least one
pub texts_accepted : (s : List ℕ) (ts : List (List ℕ)) → read_texts s ≡ Some ts → is_empty ts ≡ false
texts_accepted s ts h = split_some 44 s ts h

-- no LF, and a CR only where a text has one
pub texts_one_line : (ts : List (List ℕ)) → holds 10 (write_texts ts) ≡ false
texts_one_line ts = joined_without 10 44 (map write_text ts) refl (each_one_line ts)

pub texts_no_return : (ts : List (List ℕ)) → none_holds 13 ts ≡ true → holds 13 (write_texts ts) ≡ false
texts_no_return ts h = joined_without 13 44 (map write_text ts) refl (each_no_return ts h)
