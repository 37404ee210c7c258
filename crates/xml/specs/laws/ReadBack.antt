-- Content that is written is read back, as marks and as nodes (the rules, "Canonical XML", "XML profile for reading").
--     content_marks_lem     the marks of written content, at any place, before anything that may follow
--     content_nodes         its nodes, before an end tag
--     characters_of_lem     the bytes of the nodes of character data are that data;   no_element: none of them is an element
--     characters_read_back, no_element_read: the same of what is written, before an end tag
use Rattle.std.specs.Prelude.{◌≡◌, refl, Bool, true, false, not, List, [], ◌∷◌, ◌++◌, ℕ, zero, suc, ◌+◌, length}
use Rattle.std.proofs.Common.{sym, ap, ◌∙◌, append_assoc, arith}
use Rattle.std.proofs.lemmas.Bool.{false≢true, not-true}
use Rattle.octets.specs.Pick.{pick, ◌and◌}
use Rattle.octets.specs.laws.Pick.{and_both}
use Rattle.octets.specs.Append.{◌⊕◌}
use Rattle.octets.specs.laws.Append.{append_empty, append_regroup, append_none, length_both}
use Rattle.octets.specs.Words.{holds}
use Rattle.xml.specs.Marks.{Mark, opens, closes, char, refers, marks}
use Rattle.xml.specs.Nodes.{Nodes, no_nodes, element, literal, referred, end_place_by, end_place, nodes_by, nodes, characters_of, has_element}
use Rattle.xml.specs.Escape.{escaped_byte, escaped, start_tag, end_tag, element_of}
use Rattle.xml.specs.Reads.{is_name, is_escaped, character_marks}
use Rattle.xml.specs.laws.Reads.{Follows, follows_characters, follows_tag, follows_end, marks_start, marks_end, marks_characters, characters_then_end}
use Rattle.xml.specs.Content.{Content, nothing, child, char_data, written, is_writable, inner_place, end_tag_place, next_place, character_nodes, placed, content_marks}

follows_content : (c : Content) (r : List ℕ) → Follows r → Follows (written c ⊕ r)
unfolding written ◌⊕◌
follows_content nothing r h = h
follows_content (child nm inner next) r h = follows_tag _
follows_content (char_data s next) r h = rw (append_assoc (escaped s) (written next) r) (follows_characters s (written next ++ r) (follows_content next r h))

-- an element's bytes before what follows, regrouped
element_front : (nm s t r : List ℕ) → (element_of nm s ⊕ t) ⊕ r ≡ start_tag nm ⊕ (s ⊕ (end_tag nm ⊕ (t ⊕ r)))
element_front nm s t r = append_regroup (element_of nm s) t r ∙ append_regroup (start_tag nm) (s ⊕ end_tag nm) (t ⊕ r) ∙ ap (λ (x : List ℕ). start_tag nm ⊕ x) (append_regroup s (end_tag nm) (t ⊕ r))

element_length : (nm s t : List ℕ) (p : ℕ) → p + length (start_tag nm) + length s + length (end_tag nm) + length t ≡ p + length (element_of nm s ⊕ t)
element_length nm s t p = omega (arith, length_both (element_of nm s) t, length_both (start_tag nm) (s ⊕ end_tag nm), length_both s (end_tag nm))

marks_regroup : (o e : Mark) (a b m : List Mark) → o ∷ (a ⊕ (e ∷ (b ⊕ m))) ≡ (o ∷ (a ⊕ (e ∷ b))) ⊕ m
unfolding ◌⊕◌
marks_regroup o e a b m = ap (λ (l : List Mark). o ∷ l) (sym (append_assoc a (e ∷ b) m))

pub content_marks_lem : (c : Content) (d : ℕ) (r : List ℕ) (p : ℕ) → is_writable c d ≡ true → Follows r →
    marks p (written c ⊕ r) ≡ content_marks c p ⊕ marks (p + length (written c)) r
unfolding written is_writable content_marks
content_marks_lem nothing d r p h f = ap (marks p) (append_empty r) ∙ ap (λ (q : ℕ). marks q r) (omega arith) ∙ sym (append_empty (marks (p + 0) r))
content_marks_lem (child nm inner next) zero r p h f = absurd (false≢true h)
content_marks_lem (child nm inner next) (suc d) r p h f =
    let named : is_name nm ≡ true = (and_both (is_name nm) _ h).0 in
    let both : (is_writable inner d and is_writable next (suc d)) ≡ true = (and_both (is_name nm) _ h).1 in
    ap (marks p) (element_front nm (written inner) (written next) r)
    ∙ marks_start nm (written inner ⊕ (end_tag nm ⊕ (written next ⊕ r))) p named
    ∙ ap (λ (ms : List Mark). opens p nm ∷ ms)
    (content_marks_lem inner d (end_tag nm ⊕ (written next ⊕ r)) (inner_place nm p) (and_both _ (is_writable next (suc d)) both).0 (follows_end nm (written next ⊕ r))
    ∙ ap (λ (ms : List Mark). content_marks inner (inner_place nm p) ⊕ ms)
    (marks_end nm (written next ⊕ r) (end_tag_place nm inner p) named
    ∙ ap (λ (ms : List Mark). closes (end_tag_place nm inner p) nm ∷ ms) (content_marks_lem next (suc d) r (next_place nm inner p) (and_both (is_writable inner d) _ both).1 f)))
    ∙ marks_regroup _ _ _ _ _
    ∙ ap (λ (q : ℕ). content_marks (child nm inner next) p ⊕ marks q r) (element_length nm (written inner) (written next) p)
content_marks_lem (char_data s next) d r p h f =
    ap (marks p) (append_regroup (escaped s) (written next) r)
    ∙ marks_characters s (written next ⊕ r) p (not-true (holds 13 s) (and_both _ (is_writable next d) h).0) (follows_content next r f)
    ∙ ap (λ (ms : List Mark). character_marks s p ⊕ ms) (content_marks_lem next d r (p + length (escaped s)) (and_both (not (holds 13 s)) _ h).1 f)
    ∙ sym (append_regroup (character_marks s p) _ _)
    ∙ ap (λ (q : ℕ). content_marks (char_data s next) p ⊕ marks q r) (omega (arith, length_both (escaped s) (written next)))

-- ---- nodes

-- marks of characters, and of whole elements, neither open nor close the element that they stand in
characters_end : (s : List ℕ) (p : ℕ) (ms : List Mark) (d : ℕ) → end_place (character_marks s p ⊕ ms) d ≡ end_place ms d
unfolding character_marks end_place end_place_by pick ◌⊕◌
characters_end [] p ms d = refl
characters_end (b ∷ s) p ms d = go (is_escaped b) (characters_end s (p + length (escaped_byte b)) ms d)
  where
    rest : List Mark
    rest = character_marks s (p + length (escaped_byte b)) ++ ms

    go : (t : Bool) → end_place rest d ≡ end_place ms d → end_place (pick t (refers p (b ∷ [])) (char p b) ∷ rest) d ≡ end_place ms d
    go true ih = ih
    go false ih = ih

characters_skip : (s : List ℕ) (p : ℕ) (ms : List Mark) (d : ℕ) → nodes (character_marks s p ⊕ ms) (suc d) ≡ nodes ms (suc d)
unfolding character_marks nodes nodes_by pick ◌⊕◌
characters_skip [] p ms d = refl
characters_skip (b ∷ s) p ms d = go (is_escaped b) (characters_skip s (p + length (escaped_byte b)) ms d)
  where
    rest : List Mark
    rest = character_marks s (p + length (escaped_byte b)) ++ ms

    go : (t : Bool) → nodes rest (suc d) ≡ nodes ms (suc d) → nodes (pick t (refers p (b ∷ [])) (char p b) ∷ rest) (suc d) ≡ nodes ms (suc d)
    go true ih = ih
    go false ih = ih

characters_nodes : (s : List ℕ) (p : ℕ) (ms : List Mark) → nodes (character_marks s p ⊕ ms) 0 ≡ character_nodes s p (nodes ms 0)
unfolding character_marks character_nodes nodes nodes_by pick ◌⊕◌
characters_nodes [] p ms = refl
characters_nodes (b ∷ s) p ms = go (is_escaped b) (characters_nodes s (p + length (escaped_byte b)) ms)
  where
    rest : List Mark
    rest = character_marks s (p + length (escaped_byte b)) ++ ms

    after : Nodes
    after = character_nodes s (p + length (escaped_byte b)) (nodes ms 0)

    go : (t : Bool) → nodes rest 0 ≡ after → nodes (pick t (refers p (b ∷ [])) (char p b) ∷ rest) 0 ≡ pick t (referred p (b ∷ []) after) (literal p b after)
    go true ih = ap (λ (n : Nodes). referred p (b ∷ []) n) ih
    go false ih = ap (λ (n : Nodes). literal p b n) ih

-- the marks of an element's content, its end tag and what follows it
abbrev pub element_marks : List ℕ → Content → Content → ℕ → List Mark → List Mark
element_marks nm inner next p ms =
    opens p nm ∷ (content_marks inner (inner_place nm p) ⊕ (closes (end_tag_place nm inner p) nm ∷ (content_marks next (next_place nm inner p) ⊕ ms)))

pub element_marks_lem : (nm : List ℕ) (inner next : Content) (p : ℕ) (ms : List Mark) → content_marks (child nm inner next) p ⊕ ms ≡ element_marks nm inner next p ms
unfolding content_marks
element_marks_lem nm inner next p ms =
    sym (marks_regroup (opens p nm) (closes (end_tag_place nm inner p) nm) (content_marks inner (inner_place nm p)) (content_marks next (next_place nm inner p)) ms)

pub characters_marks : (s : List ℕ) (next : Content) (p : ℕ) (ms : List Mark) → content_marks (char_data s next) p ⊕ ms ≡ character_marks s p ⊕ (content_marks next (p + length (escaped s)) ⊕ ms)
unfolding content_marks
characters_marks s next p ms = append_regroup (character_marks s p) (content_marks next (p + length (escaped s))) ms

pub no_marks : (p : ℕ) (ms : List Mark) → content_marks nothing p ⊕ ms ≡ ms
unfolding content_marks
no_marks p ms = append_empty ms

pub content_end : (c : Content) (p : ℕ) (ms : List Mark) (d : ℕ) → end_place (content_marks c p ⊕ ms) d ≡ end_place ms d
unfolding end_place end_place_by
content_end nothing p ms d = ap (λ (l : List Mark). end_place l d) (no_marks p ms)
content_end (child nm inner next) p ms d =
    ap (λ (l : List Mark). end_place l d) (element_marks_lem nm inner next p ms)
    ∙ content_end inner (inner_place nm p) (closes (end_tag_place nm inner p) nm ∷ (content_marks next (next_place nm inner p) ⊕ ms)) (suc d)
    ∙ content_end next (next_place nm inner p) ms d
content_end (char_data s next) p ms d =
    ap (λ (l : List Mark). end_place l d) (characters_marks s next p ms)
    ∙ characters_end s p _ d
    ∙ content_end next (p + length (escaped s)) ms d

content_skip : (c : Content) (p : ℕ) (ms : List Mark) (d : ℕ) → nodes (content_marks c p ⊕ ms) (suc d) ≡ nodes ms (suc d)
unfolding nodes nodes_by
content_skip nothing p ms d = ap (λ (l : List Mark). nodes l (suc d)) (no_marks p ms)
content_skip (child nm inner next) p ms d =
    ap (λ (l : List Mark). nodes l (suc d)) (element_marks_lem nm inner next p ms)
    ∙ content_skip inner (inner_place nm p) (closes (end_tag_place nm inner p) nm ∷ (content_marks next (next_place nm inner p) ⊕ ms)) (suc d)
    ∙ content_skip next (next_place nm inner p) ms d
content_skip (char_data s next) p ms d =
    ap (λ (l : List Mark). nodes l (suc d)) (characters_marks s next p ms)
    ∙ characters_skip s p _ d
    ∙ content_skip next (p + length (escaped s)) ms d

same_element : (p : ℕ) (nm : List ℕ) {e₁ e₂ : ℕ} {k₁ k₂ n₁ n₂ : Nodes} → e₁ ≡ e₂ → k₁ ≡ k₂ → n₁ ≡ n₂ → element p nm e₁ k₁ n₁ ≡ element p nm e₂ k₂ n₂
same_element p nm a b c = λ i. element p nm (a i) (b i) (c i)

pub content_placed : (c : Content) (p : ℕ) (ms : List Mark) → nodes (content_marks c p ⊕ ms) 0 ≡ placed c p (nodes ms 0)
unfolding nodes nodes_by end_place end_place_by placed
content_placed nothing p ms = ap (λ (l : List Mark). nodes l 0) (no_marks p ms)
content_placed (child nm inner next) p ms =
    ap (λ (l : List Mark). nodes l 0) (element_marks_lem nm inner next p ms)
    ∙ same_element p nm (content_end inner (inner_place nm p) after 0) (content_placed inner (inner_place nm p) after)
    (content_skip inner (inner_place nm p) after 0 ∙ content_placed next (next_place nm inner p) ms)
  where
    after : List Mark
    after = closes (end_tag_place nm inner p) nm ∷ (content_marks next (next_place nm inner p) ⊕ ms)
content_placed (char_data s next) p ms =
    ap (λ (l : List Mark). nodes l 0) (characters_marks s next p ms)
    ∙ characters_nodes s p _
    ∙ ap (character_nodes s p) (content_placed next (p + length (escaped s)) ms)

-- content before an end tag
pub content_nodes : (c : Content) (d : ℕ) (nm r : List ℕ) (p : ℕ) → is_writable c d ≡ true → is_name nm ≡ true → nodes (marks p (written c ⊕ (end_tag nm ⊕ r))) 0 ≡ placed c p no_nodes
unfolding nodes nodes_by
content_nodes c d nm r p h k =
    ap (λ (l : List Mark). nodes l 0) (content_marks_lem c d (end_tag nm ⊕ r) p h (follows_end nm r))
    ∙ content_placed c p _
    ∙ ap (λ (l : List Mark). placed c p (nodes l 0)) (marks_end nm r (p + length (written c)) k)

pub characters_of_lem : (s : List ℕ) (p : ℕ) (n : Nodes) → characters_of (character_nodes s p n) ≡ s ⊕ characters_of n
unfolding character_nodes characters_of pick ◌⊕◌
characters_of_lem [] p n = refl
characters_of_lem (b ∷ s) p n = go (is_escaped b) (characters_of_lem s (p + length (escaped_byte b)) n)
  where
    rest : Nodes
    rest = character_nodes s (p + length (escaped_byte b)) n

    go : (t : Bool) → characters_of rest ≡ s ++ characters_of n → characters_of (pick t (referred p (b ∷ []) rest) (literal p b rest)) ≡ b ∷ (s ++ characters_of n)
    go true ih = ap (λ (l : List ℕ). b ∷ l) ih
    go false ih = ap (λ (l : List ℕ). b ∷ l) ih

pub no_element : (s : List ℕ) (p : ℕ) (n : Nodes) → has_element (character_nodes s p n) ≡ has_element n
unfolding character_nodes has_element pick
no_element [] p n = refl
no_element (b ∷ s) p n = go (is_escaped b) (no_element s (p + length (escaped_byte b)) n)
  where
    rest : Nodes
    rest = character_nodes s (p + length (escaped_byte b)) n

    go : (t : Bool) → has_element rest ≡ has_element n → has_element (pick t (referred p (b ∷ []) rest) (literal p b rest)) ≡ has_element n
    go true ih = ih
    go false ih = ih

-- character data before an end tag
characters_before_end : (s nm r : List ℕ) (p : ℕ) → holds 13 s ≡ false → is_name nm ≡ true → nodes (marks p (escaped s ⊕ (end_tag nm ⊕ r))) 0 ≡ character_nodes s p no_nodes
unfolding nodes nodes_by
characters_before_end s nm r p h k = ap (λ (l : List Mark). nodes l 0) (characters_then_end s nm r p h k) ∙ characters_nodes s p _

pub characters_read_back : (s nm r : List ℕ) (p : ℕ) → holds 13 s ≡ false → is_name nm ≡ true → characters_of (nodes (marks p (escaped s ⊕ (end_tag nm ⊕ r))) 0) ≡ s
unfolding characters_of
characters_read_back s nm r p h k = ap characters_of (characters_before_end s nm r p h k) ∙ characters_of_lem s p no_nodes ∙ append_none s

pub no_element_read : (s nm r : List ℕ) (p : ℕ) → holds 13 s ≡ false → is_name nm ≡ true → has_element (nodes (marks p (escaped s ⊕ (end_tag nm ⊕ r))) 0) ≡ false
unfolding has_element
no_element_read s nm r p h k = ap has_element (characters_before_end s nm r p h k) ∙ no_element s p no_nodes
