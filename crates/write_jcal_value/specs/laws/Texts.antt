-- Laws of what specs/Texts.antt defines.
--     strings_quoted, text_alone    of texts that are read it is their strings
--     writing_strings               the ways that the loop goes on and ends, for `search`
--     put_strings, put_text, put_unread    what was written, from what was read
use Rattle.std.specs.Prelude.{◌≡◌, Bool, List, [], ◌∷◌, map, ℕ, ◌*◌, ◌^◌, ◌<◌, eqb, length, Option, None, Some}
use Rattle.std.proofs.Math.Path.{refl}
use Rattle.std.proofs.Common.{sym, ap, ◌∙◌}
use Rattle.std.proofs.Math.Bool.{true, false}
use Rattle.std.proofs.lemmas.Bool.{false≢true, not-true}
use Rattle.octets.specs.Ascii.{ascii}
use Rattle.octets.specs.Pick.{pick, ◌or◌}
use Rattle.octets.specs.Append.{◌⊕◌}
use Rattle.octets.specs.laws.Append.{append_none, append_empty, append_regroup}
use Rattle.octets.specs.Words.{onto, is_empty, each_after, joined_by}
use Rattle.octets.specs.Reading.{is_read, or_nothing}
use Rattle.octets.specs.laws.Reading.{none-some, and_then-some, cons_read-some}
use Rattle.sink.specs.Sink.{Put, Todo}
use Rattle.sink.specs.laws.Sink.{put_none, todo_step, todo_done, writing}
use Rattle.source.specs.Source.{rest, Reads}
use Rattle.source.specs.laws.Facts.{rest_byte, rest_end}
use Rattle.source.specs.declared.points.Unit.{Unit}
use Rattle.texts.specs.Text.{Sign, char, opening, separator, fault, is_escaped, sign_of, opens, onto_read, with_sign, split_from, split_text, alone, read_text}
use Rattle.texts.specs.laws.Text.{split_filled}
use Rattle.json_text.specs.Bytes.{value_separator}
use Rattle.json_text.specs.Write.{escaped_byte, escaped, quoted}
use Rattle.write_jcal_value.specs.Texts.{byte_json, strings_from, strings_of}

-- ---- a byte by its sign

abbrev sign_json : Sign → List ℕ
sign_json (char b) = escaped_byte b
sign_json opening = []
sign_json separator = ascii "\",\""
sign_json fault = []

abbrev is_fault : Sign → Bool
is_fault (char b) = false
is_fault opening = false
is_fault separator = false
is_fault fault = true

sign_json_lem : (after : Bool) (c b : ℕ) → is_fault (sign_of after c b) ≡ false → byte_json after b ≡ sign_json (sign_of after c b)
unfolding pick ◌or◌
sign_json_lem after c b = go after (eqb b 110) (eqb b 78) (is_escaped b) (eqb b 92) (eqb b 44) (eqb b 59) (eqb b c)
  where
    go : (after n m e k x y z : Bool) → is_fault (pick after (pick (n or m) (char 10) (pick e (char b) fault)) (pick k opening (pick (x or y) (pick z separator fault) (char b)))) ≡ false →
        pick after (pick n (ascii "\\n") (pick m (ascii "\\n") (escaped_byte b))) (pick k [] (pick x (ascii "\",\"") (pick y (ascii "\",\"") (escaped_byte b))))
        ≡ sign_json (pick after (pick (n or m) (char 10) (pick e (char b) fault)) (pick k opening (pick (x or y) (pick z separator fault) (char b))))
    go true true m e k x y z h = refl
    go true false true e k x y z h = refl
    go true false false true k x y z h = refl
    go true false false false k x y z h = absurd (false≢true (sym h))
    go false n m e true x y z h = refl
    go false n m e false true y true h = refl
    go false n m e false true y false h = absurd (false≢true (sym h))
    go false n m e false false true true h = refl
    go false n m e false false true false h = absurd (false≢true (sym h))
    go false n m e false false false z h = refl

-- ---- texts without the outer quotation marks

unfoldable between : List (List ℕ) → List ℕ
between [] = []
between (t ∷ ts) = ascii "\",\"" ⊕ escaped t ⊕ between ts

unfoldable inner : List (List ℕ) → List ℕ
inner [] = []
inner (t ∷ ts) = escaped t ⊕ between ts

inner-onto : (x : ℕ) (ps : List (List ℕ)) → inner (onto x ps) ≡ escaped_byte x ⊕ inner ps
unfolding inner onto escaped between
inner-onto x [] = append_none (escaped_byte x ⊕ [])
inner-onto x (p ∷ ps) = append_regroup (escaped_byte x) (escaped p) (between ps)

inner_after : (ps : List (List ℕ)) → is_empty ps ≡ false → inner ([] ∷ ps) ≡ ascii "\",\"" ⊕ inner ps
unfolding inner between escaped ◌⊕◌
inner_after [] h = absurd (false≢true (sym h))
inner_after (p ∷ ps) h = refl

filled_some : (after : Bool) (c : ℕ) (s : List ℕ) (ps : List (List ℕ)) → split_from after c s ≡ Some ps → is_empty ps ≡ false
filled_some after c s ps h = not-true (is_empty ps) (rw h at (split_filled s after c))

split_inner : (s : List ℕ) (after : Bool) (c : ℕ) (ts : List (List ℕ)) → split_from after c s ≡ Some ts → strings_from after s ≡ inner ts
unfolding split_from onto_read strings_from inner between escaped pick ◌⊕◌
split_inner [] true c ts h = none-some h
split_inner [] false c ts h = let z : [] ∷ [] ≡ ts = cc in rw (← z)
split_inner (b ∷ s) after c ts h =
    go (sign_of after c b) (sign_json_lem after c b) (split_from (opens after b) c s) refl h (split_inner s (opens after b) c)
  where
    rests : List ℕ
    rests = strings_from (opens after b) s

    go : (g : Sign) → (is_fault g ≡ false → byte_json after b ≡ sign_json g) → (o : Option (List (List ℕ))) → split_from (opens after b) c s ≡ o → with_sign g o ≡ Some ts →
        ((ps : List (List ℕ)) → o ≡ Some ps → rests ≡ inner ps) → byte_json after b ⊕ rests ≡ inner ts
    go fault f o e k ih = none-some k
    go opening f o e k ih = rw (f refl) (ih ts k)
    go separator f o e k ih =
        let q = cons_read-some [] o ts k in
        ap (λ (l : List ℕ). l ⊕ rests) (f refl) ∙ ap (λ (l : List ℕ). ascii "\",\"" ⊕ l) (ih q.0 q.1)
        ∙ sym (inner_after q.0 (filled_some (opens after b) c s q.0 (e ∙ q.1))) ∙ ap inner q.2
    go (char x) f None e k ih = none-some k
    go (char x) f (Some ps) e k ih =
        let z : onto x ps ≡ ts = cc in
        ap (λ (l : List ℕ). l ⊕ rests) (f refl) ∙ ap (λ (l : List ℕ). escaped_byte x ⊕ l) (ih ps refl) ∙ sym (inner-onto x ps) ∙ ap inner z

-- ---- with them

quote_seam : (l : List ℕ) → ascii "\",\"" ⊕ l ≡ ascii "\"" ⊕ (44 ∷ (ascii "\"" ⊕ l))
unfolding ◌⊕◌
quote_seam l = refl

between-quoted : (ts : List (List ℕ)) → between ts ⊕ ascii "\"" ≡ ascii "\"" ⊕ each_after value_separator (map quoted ts)
unfolding between each_after
between-quoted [] = append_empty (ascii "\"") ∙ sym (append_none (ascii "\""))
between-quoted (t ∷ ts) =
    append_regroup (ascii "\",\"") (escaped t ⊕ between ts) (ascii "\"")
    ∙ ap (λ (l : List ℕ). ascii "\",\"" ⊕ l) (append_regroup (escaped t) (between ts) (ascii "\"") ∙ ap (λ (l : List ℕ). escaped t ⊕ l) (between-quoted ts))
    ∙ quote_seam (escaped t ⊕ ascii "\"" ⊕ each_after value_separator (map quoted ts))
    ∙ ap (λ (l : List ℕ). ascii "\"" ⊕ (44 ∷ l)) (grouped t (each_after value_separator (map quoted ts)))
  where
    grouped : (t l : List ℕ) → ascii "\"" ⊕ escaped t ⊕ ascii "\"" ⊕ l ≡ quoted t ⊕ l
    grouped t l =
        sym (append_regroup (ascii "\"") (escaped t ⊕ ascii "\"") l ∙ ap (λ (m : List ℕ). ascii "\"" ⊕ m) (append_regroup (escaped t) (ascii "\"") l))

inner_quoted : (ts : List (List ℕ)) → is_empty ts ≡ false → ascii "\"" ⊕ inner ts ⊕ ascii "\"" ≡ strings_of ts
unfolding inner joined_by
inner_quoted [] h = absurd (false≢true (sym h))
inner_quoted (t ∷ ts) h =
    ap (λ (l : List ℕ). ascii "\"" ⊕ l) (append_regroup (escaped t) (between ts) (ascii "\"") ∙ ap (λ (l : List ℕ). escaped t ⊕ l) (between-quoted ts))
    ∙ sym (append_regroup (ascii "\"") (escaped t ⊕ ascii "\"") rest ∙ ap (λ (m : List ℕ). ascii "\"" ⊕ m) (append_regroup (escaped t) (ascii "\"") rest))
  where
    rest : List ℕ
    rest = each_after value_separator (map quoted ts)

pub strings_quoted : (c : ℕ) (l : List ℕ) (ts : List (List ℕ)) → split_text c l ≡ Some ts → ascii "\"" ⊕ strings_from false l ⊕ ascii "\"" ≡ strings_of ts
strings_quoted c l ts h = rw (split_inner l false c ts h) (inner_quoted ts (filled_some false c l ts h))

pub text_alone : (l t : List ℕ) → read_text l ≡ Some t → strings_from false l ≡ escaped t
unfolding inner between
text_alone l t h =
    let q = and_then-some (split_text 0 l) alone t h in
    split_inner l false 0 q.0 q.1 ∙ go q.0 q.2
  where
    go : (ps : List (List ℕ)) → alone ps ≡ Some t → inner ps ≡ escaped t
    go [] k = none-some k
    go (p ∷ []) k = let z : p ≡ t = cc in rw z (append_none (escaped t))
    go (p ∷ q ∷ ps) k = none-some k

-- ---- the loop

module _ {d₀ : List ℕ} {at₀ : ℕ} {all d : List ℕ} {at : ℕ} {m : ℕ} {s : List ℕ} {c : ℕ} {r : Unit} (after : Bool)
    (w : Todo d₀ at₀ all d at (strings_from after (rest m s c))) (p : Reads m s c r) where
  pub strings_more : {after' : Bool} {e : List ℕ} {o : ℕ} → (r.u ≡ 256 → ⊥) → Put d e at o (byte_json after r.u) → after' ≡ opens after r.u →
      Todo d₀ at₀ all e o (strings_from after' (rest m s r.next))
  unfolding strings_from ◌⊕◌
  strings_more h x q = todo_step w x (rw (rest_byte p h, q))

  pub strings_end : r.u ≡ 256 → Put d₀ d at₀ at all
  unfolding strings_from
  strings_end h = todo_done w (rw (rest_end p h))

pub ruleset writing_strings = (strings_more, strings_end, writing)

-- ---- what was read, written

module _ {d : List ℕ} {at : ℕ} {t : Bool} (c : ℕ) (l : List ℕ) (h : t ≡ is_read (split_text c l)) where
  pub put_strings : {e : List ℕ} {r : ℕ} → t ≡ true → Put d e at r (ascii "\"" ⊕ strings_from false l ⊕ ascii "\"") → Put d e at r (or_nothing strings_of (split_text c l))
  unfolding is_read
  put_strings {e} {r} k p = go (split_text c l) refl (sym k ∙ h)
    where
      go : (o : Option (List (List ℕ))) → split_text c l ≡ o → true ≡ is_read o → Put d e at r (or_nothing strings_of o)
      go None z x = absurd (false≢true (sym x))
      go (Some ts) z x = rw (← (strings_quoted c l ts z)) p

  pub put_no_strings : t ≡ false → length d * 1 < 2 ^ 63 → Put d d at at (or_nothing strings_of (split_text c l))
  unfolding is_read
  put_no_strings k z = go (split_text c l) (sym k ∙ h)
    where
      go : (o : Option (List (List ℕ))) → false ≡ is_read o → Put d d at at (or_nothing strings_of o)
      go None x = put_none d at z
      go (Some v) x = absurd (false≢true x)

-- characters that were read, or nothing
module _ {d : List ℕ} {at : ℕ} {t : Bool} (o : Option (List ℕ)) (h : t ≡ is_read o) where
  pub put_read : {e : List ℕ} {r : ℕ} (bs : List ℕ) → ((v : List ℕ) → o ≡ Some v → bs ≡ escaped v) → t ≡ true → Put d e at r bs → Put d e at r (or_nothing escaped o)
  unfolding is_read
  put_read {e} {r} bs f k p = go o refl (sym k ∙ h)
    where
      go : (u : Option (List ℕ)) → o ≡ u → true ≡ is_read u → Put d e at r (or_nothing escaped u)
      go None z x = absurd (false≢true (sym x))
      go (Some v) z x = rw (← (f v z)) p

  pub put_unread : t ≡ false → length d * 1 < 2 ^ 63 → Put d d at at (or_nothing escaped o)
  unfolding is_read
  put_unread k z = go o (sym k ∙ h)
    where
      go : (u : Option (List ℕ)) → false ≡ is_read u → Put d d at at (or_nothing escaped u)
      go None x = put_none d at z
      go (Some v) x = absurd (false≢true x)
