-- Laws of the token at a place.
--     Passing       the invariant of the walk over separators;   `search passing`
--     array_piece, object_piece, close-piece, name_piece, string_piece, number_piece, literal_piece, no_piece    what is found
--     piece_from    a token behind separators
--     piece_is, piece-taken    what a token that was found says, by its kind
use Rattle.std.specs.Prelude.{◌≡◌, refl, Bool, true, false, List, ◌∷◌, eqb, length, get_or, drop}
use Rattle.std.proofs.Math.Path.{sym}
use Rattle.std.proofs.Common.{ap, subst, ◌∙◌, arith, drop-drop, rules, ne_eqb}
use Prim.{tt}
use Prim.Native.Nat.{ℕ, suc, ◌+◌, ◌-◌, ◌*◌, ◌≤◌, ◌<◌}
use Rattle.octets.specs.Pick.{pick, ◌or◌}
use Rattle.octets.specs.laws.Scan.{drop_next}
use Rattle.octets.specs.Scan.{span_len, span_end}
use Rattle.octets.specs.Class.{is_small, is_space}
use Rattle.octets.specs.Runs.{run_of, after_run}
use Rattle.octets.specs.Front.{begins_by}
use Rattle.source.specs.Source.{rest}
use Rattle.source.specs.laws.Facts.{rest_part}
use Rattle.source.specs.laws.Quoted.{rest_quoted}
use Rattle.json_text.specs.Bytes.{begin_array, begin_object, quotation_mark, name_separator}
use Rattle.json_text.specs.Strings.{quoted_length}
use Rattle.json_text.specs.Tree.{string, number, literal, name, scalar, is_closing, is_separator, is_scalar}
use Rattle.read_json.specs.TreeAt.{tokens_at, word_at}
use Rattle.read_json.specs.laws.TreeAt.{tokens_past, at_separator, at_array, at_object, at_closing, at_string, at_word}
use Rattle.read_json.specs.Ends.{EndAt}
use Rattle.read_json.specs.Pieces.{Passed, BeginsWord, piece_by, Taken, Takes, PieceAt}
use Rattle.read_json.specs.declared.Piece.{Piece}
use Rattle.read_json.specs.declared.PieceKind.{PieceKind}
use Rattle.read_json.specs.declared.PieceKind.TheVariants.{Absent, Array, Object, Close, Name, String, Number, Literal}

-- ---- separators

pub record Passing (s : List ℕ) (at i : ℕ) : Type 0 where
  pub same : tokens_at s at ≡ tokens_at s i
  pub onward : at ≤ i

pub passing_start : (s : List ℕ) (at : ℕ) → Passing s at at
passing_start s at = record { same = refl; onward = omega arith }

module _ {s : List ℕ} {at i : ℕ} (w : Passing s at i) where
  pub passing_past : length s ≤ i → Passed s at i
  passing_past h = record { same = w.same; onward = w.onward; stop = λ l. absurd (apart l) }
    where
      apart : i < length s → ⊥
      apart l = omega arith

  module _ (h : i < length s) {u : ℕ} (e : (u ≡ get_or s i 0) × (u < 256)) {t : Bool} (q : t ≡ is_separator u) where
    test : is_separator (get_or s i 0) ≡ t
    test = ap is_separator (sym e.0) ∙ sym q

    pub passing_more : t ≡ true → Passing s at (i + 1)
    passing_more y = record { same = w.same ∙ at_separator s i h (test ∙ y); onward = omega (arith, w.onward) }

    pub passing_stop : t ≡ false → Passed s at i
    passing_stop y = record { same = w.same; onward = w.onward; stop = λ l. test ∙ y }

pub ruleset passing = (passing_start, passing_past, passing_more, passing_stop, rules)

-- ---- what is found

pub begins_word : (u b : ℕ) → u ≡ b → is_separator u ≡ false → (u ≡ begin_array → ⊥) → (u ≡ begin_object → ⊥) → (u ≡ 0x5D → ⊥) → (u ≡ 0x7D → ⊥) → (u ≡ quotation_mark → ⊥) → BeginsWord b
unfolding ◌or◌
begins_word u b e n a o x y z = record {
  separates = ap is_separator (sym e) ∙ n;
  array = λ q. a (e ∙ q);
  object = λ q. o (e ∙ q);
  closes = ap is_closing (sym e) ∙ rw (ne_eqb u 0x5D x, ne_eqb u 0x7D y);
  quoted = λ q. z (e ∙ q);
}

one_byte : (s : List ℕ) (p : ℕ) → p < length s → Taken s p p (p + 1)
one_byte s p h = record { onward = omega arith; some = omega arith; inside = omega arith }

module _ (s : List ℕ) (p : ℕ) (h : p < length s) where
  module _ (u : ℕ) (e : u ≡ get_or s p 0) where
    pub array_piece : u ≡ begin_array → PieceAt s p (record { kind = Array; place = p; next = p + 1 })
    array_piece q = record { is = at_array s p h (sym e ∙ q); takes = one_byte s p h }

    pub object_piece : u ≡ begin_object → PieceAt s p (record { kind = Object; place = p; next = p + 1 })
    object_piece q = record { is = at_object s p h (sym e ∙ q); takes = one_byte s p h }

    module _ (n : is_separator u ≡ false) (a : u ≡ begin_array → ⊥) (o : u ≡ begin_object → ⊥) where
      close_by : is_closing u ≡ true → PieceAt s p (record { kind = Close; place = p; next = p + 1 })
      close_by q = record {
        is = at_closing s p h (ap is_separator (sym e) ∙ n) (λ z. a (e ∙ z)) (λ z. o (e ∙ z)) (ap is_closing (sym e) ∙ q);
        takes = one_byte s p h;
      }

      pub close_array : u ≡ 0x5D → PieceAt s p (record { kind = Close; place = p; next = p + 1 })
      unfolding ◌or◌
      close_array q = close_by (rw q)

      pub close_object : u ≡ 0x7D → PieceAt s p (record { kind = Close; place = p; next = p + 1 })
      unfolding ◌or◌
      close_object q = close_by (rw q)

  module _ (b : get_or s p 0 ≡ quotation_mark) (n : ℕ) (f : EndAt s (p + 1) n) where
    by_string : tokens_at s p ≡ pick (begins_by (λ b. eqb b name_separator) (after_run is_space (drop n s))) (name p (rest 3 s (2 * (p + 1)))) (scalar (string p (rest 3 s (2 * (p + 1))))) ∷ tokens_at s n
    by_string = at_string s p h b ∙ rw (drop-drop (quoted_length (drop (p + 1) s)) (p + 1) s, ← f.is, rest_quoted s (p + 1))

    taken : Taken s p p n
    taken = record { onward = omega arith; some = omega (arith, f.onward); inside = f.inside }

    pub name_piece : begins_by (λ b. eqb b name_separator) (after_run is_space (drop n s)) ≡ true → PieceAt s p (record { kind = Name; place = p; next = n })
    unfolding pick
    name_piece y = record { is = by_string ∙ rw y; takes = taken }

    pub string_piece : begins_by (λ b. eqb b name_separator) (after_run is_space (drop n s)) ≡ false → PieceAt s p (record { kind = String; place = p; next = n })
    unfolding pick
    string_piece y = record { is = by_string ∙ rw y; takes = taken }

  module _ (w : BeginsWord (get_or s p 0)) (n : ℕ) (f : (n ≡ span_end is_scalar s (p + 1)) × (n ≤ length s)) where
    word : get_or s p 0 ∷ run_of is_scalar (drop (p + 1) s) ≡ word_at s p n
    unfolding run_of
    word =
        let k : n - p ≡ suc (span_len is_scalar (drop (p + 1) s)) = omega (arith, f.0) in
        sym (rest_part s p n ∙ rw (k, drop_next s p h))

    by_word : tokens_at s p ≡ pick (is_small (get_or s p 0)) (scalar (literal p (word_at s p n))) (scalar (number p (word_at s p n))) ∷ tokens_at s n
    by_word = at_word s p h w ∙ rw (word, ← f.0)

    word_taken : Taken s p p n
    word_taken = record { onward = omega arith; some = omega (arith, f.0); inside = f.1 }

    module _ (u : ℕ) (e : u ≡ get_or s p 0) where
      pub literal_piece : is_small u ≡ true → PieceAt s p (record { kind = Literal; place = p; next = n })
      unfolding pick
      literal_piece y = record { is = by_word ∙ rw (← e, y); takes = word_taken }

      pub number_piece : is_small u ≡ false → PieceAt s p (record { kind = Number; place = p; next = n })
      unfolding pick
      number_piece y = record { is = by_word ∙ rw (← e, y); takes = word_taken }

pub no_piece : (s : List ℕ) (at p n : ℕ) → Passed s at p → length s ≤ p → PieceAt s at (record { kind = Absent; place = p; next = n })
no_piece s at p n w h = record { is = w.same ∙ tokens_past s p h; takes = tt }

-- behind separators
takes_from : (k : PieceKind) (s : List ℕ) (at p q n : ℕ) → at ≤ p → Takes k s p q n → Takes k s at q n
takes_from Absent s at p q n l t = tt
takes_from Array s at p q n l t = record { onward = omega (arith, t.onward); some = t.some; inside = t.inside }
takes_from Object s at p q n l t = record { onward = omega (arith, t.onward); some = t.some; inside = t.inside }
takes_from Close s at p q n l t = record { onward = omega (arith, t.onward); some = t.some; inside = t.inside }
takes_from Name s at p q n l t = record { onward = omega (arith, t.onward); some = t.some; inside = t.inside }
takes_from String s at p q n l t = record { onward = omega (arith, t.onward); some = t.some; inside = t.inside }
takes_from Number s at p q n l t = record { onward = omega (arith, t.onward); some = t.some; inside = t.inside }
takes_from Literal s at p q n l t = record { onward = omega (arith, t.onward); some = t.some; inside = t.inside }

pub piece_from : {s : List ℕ} {at p : ℕ} {r : Piece} → Passed s at p → PieceAt s p r → PieceAt s at r
piece_from {s} {at} {p} {r} w t = record { is = w.same ∙ t.is; takes = takes_from r.kind s at p r.place r.next w.onward t.takes }

-- ---- what it says

module _ {s : List ℕ} {at : ℕ} {r : Piece} (t : PieceAt s at r) where
  pub piece_is : (k : PieceKind) → r.kind ≡ k → tokens_at s at ≡ piece_by k s r.place r.next
  piece_is k q = t.is ∙ ap (λ (x : PieceKind). piece_by x s r.place r.next) q

  pub piece_takes : (k : PieceKind) → r.kind ≡ k → Takes k s at r.place r.next
  piece_takes k q = subst (λ (x : PieceKind). Takes x s at r.place r.next) q t.takes
