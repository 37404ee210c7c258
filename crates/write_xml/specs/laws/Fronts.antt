-- Laws of what specs/Fronts.antt defines, for code.
--     declaration_put, root_put, back_put    the declaration and the root's tags are made of these pieces
use Rattle.std.specs.Prelude.{◌≡◌, refl, List, [], ◌∷◌, ℕ}
use Rattle.std.proofs.Common.{sym, subst}
use Rattle.octets.specs.Ascii.{ascii}
use Rattle.octets.specs.Append.{◌⊕◌}
use Rattle.sink.specs.Sink.{Put}
use Rattle.sink.specs.laws.Sink.{◌▷◌}
use Rattle.xml.specs.Token.{namespace}
use Rattle.xml.specs.Escape.{end_tag, root_start}
use Rattle.xcal.specs.WriteXml.{declaration, root_end}
use Rattle.write_xml.specs.Fronts.{quoted_xml, attribute_xml}

declaration_is : ascii "<?xml" ⊕ attribute_xml (ascii "version") (ascii "1.0") ⊕ attribute_xml (ascii "encoding") (ascii "utf-8") ⊕ ascii "?>" ≡ declaration
unfolding ◌⊕◌
declaration_is = refl

root_is : ascii "<" ⊕ ascii "icalendar" ⊕ attribute_xml (ascii "xmlns") namespace ⊕ ascii ">" ≡ root_start
unfolding ◌⊕◌
root_is = refl

end_is : end_tag (ascii "icalendar") ≡ root_end
unfolding ◌⊕◌
end_is = refl

module _ {d e f g h : List ℕ} {o a b c r : ℕ} where
  pub declaration_put : Put d e o a (ascii "<?xml") → Put e f a b (attribute_xml (ascii "version") (ascii "1.0")) →
      Put f g b c (attribute_xml (ascii "encoding") (ascii "utf-8")) → Put g h c r (ascii "?>") → Put d h o r declaration
  declaration_put x y z w = subst (Put d h o r) declaration_is (x ▷ y ▷ z ▷ w)

  pub root_put : Put d e o a (ascii "<") → Put e f a b (ascii "icalendar") → Put f g b c (attribute_xml (ascii "xmlns") namespace) → Put g h c r (ascii ">") → Put d h o r root_start
  root_put x y z w = subst (Put d h o r) root_is (x ▷ y ▷ z ▷ w)

pub back_put : {d e f : List ℕ} {o a r : ℕ} → Put d e o a (end_tag (ascii "icalendar")) → Put e f a r (10 ∷ []) → Put d f o r (root_end ⊕ (10 ∷ []))
back_put {d} {e} {o = o} {a} x y = subst (Put d e o a) end_is x ▷ y
