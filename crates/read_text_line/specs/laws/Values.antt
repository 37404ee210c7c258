-- Laws of what specs/Values.antt defines.
--     value_first, value_more, value_over, value_fault   a walk over `values_at`: the first, one more, the end;   value_less: its measure
--     value_chars           a value's characters, cut out of the slice
use Rattle.std.proofs.Math.Path.{◌≡◌, refl}
use Rattle.std.proofs.Common.{◌∙◌, arith}
use Rattle.std.specs.Prelude.{true, false, List, [], ◌∷◌, ℕ, ◌-◌, ◌*◌, ◌<◌, length, take, Option, None, Some, Result, Ok, Err}
use Rattle.octets.specs.Runs.{run_of}
use Rattle.octets.specs.Many.{One}
use Rattle.source.specs.Source.{rest, cuts, Reads}
use Rattle.source.specs.declared.points.Unit.{Unit}
use Rattle.read_text_line.specs.ContentLine.{ParamValue, is_q_safe_char, is_safe_char, paramtext, quoted_string, param_value, next_value, with_values, with_first}
use Rattle.read_text_line.specs.Items.{items}
use Rattle.read_text_line.specs.Cursor.{Onward, RunEnds, OnRead, one_to, values_of, values_at}
use Rattle.read_text_line.specs.laws.Cursor.{onward_here, onward_both, onward_byte, onward_then, byte_at, byte_not, run_cut, on_read, item_behind, item_not}
use Rattle.read_text_line.specs.Repeating.{all_at, AllAt}
use Rattle.read_text_line.specs.laws.Repeating.{item_got, item_to, item_bad, items_more, items_none_here, items_bad_here, walk_less, value_takes}
use Rattle.read_text_line.specs.Values.{chars_in, value_of, ValueParts, ValueAt, ValuesAt}
use Rattle.read_text_line.specs.declared.Malformed.{Malformed}
use Rattle.read_text_line.specs.declared.ValueCursors.{ValueCursors}

module _ {m : ℕ} {s : List ℕ} {c : ℕ} where
  -- ---- quoted-string, behind its first DQUOTE: its characters end at t

  module _ {t : ℕ} {n : Unit} (e : RunEnds is_q_safe_char m s c t) (p : Reads m s t n) where
    pub quoted_closed : n.u ≡ 34 → ValueAt quoted_string m s c (Ok (Some (record { quoted = true; from = c; to = t; next = n.next })))
    unfolding quoted_string
    quoted_closed h =
        let b = onward_byte p (λ z. omega arith) in record {
          item = record { fault = []; is = rw (← e.left) (byte_at p 34 _ _ h (λ z. omega arith)); to = onward_both e.to b };
          parts = record { start = onward_here c; chars = e; behind = b };
        }

    pub quoted_broken : (n.u ≡ 34 → ⊥) → ValueAt quoted_string m s c (Err (record { read = record { quoted = true; from = c; to = t; next = t } }))
    unfolding quoted_string
    quoted_broken h = record {
      item = record { fault = rest m s c; is = rw (← e.left) (byte_not p 34 _ _ h); to = e.to };
      parts = record { start = onward_here c; chars = e; behind = onward_here t };
    }

  -- ---- param-value, and "," param-value

  module _ {n : Unit} (p : Reads m s c n) where
    parts_on : (r : Result (Option ValueCursors) (Malformed ValueCursors)) → (n.u ≡ 256 → ⊥) → OnRead r (ValueParts m s n.next) → OnRead r (ValueParts m s c)
    parts_on r h = on_read (ValueParts m s n.next) (ValueParts m s c) r (λ v a. record { start = onward_both (onward_byte p h) a.start; chars = a.chars; behind = a.behind })

    pub value_quoted : {r : Result (Option ValueCursors) (Malformed ValueCursors)} → n.u ≡ 34 → ValueAt quoted_string m s n.next r → ValueAt param_value m s c r
    unfolding param_value
    value_quoted {r} h v = record {
      item = record { fault = v.item.fault; is = byte_at p 34 _ _ h (λ z. omega arith) ∙ v.item.is; to = on_read (λ (a : ValueCursors). Onward m s n.next a.next) (λ (a : ValueCursors). Onward m s c a.next) r (λ a o. onward_both (onward_byte p (λ z. omega arith)) o) v.item.to };
      parts = parts_on r (λ z. omega arith) v.parts;
    }

    pub value_text : {t : ℕ} → (n.u ≡ 34 → ⊥) → RunEnds is_safe_char m s c t → ValueAt param_value m s c (Ok (Some (record { quoted = false; from = c; to = t; next = t })))
    unfolding param_value paramtext
    value_text {t} h e = record {
      item = record { fault = []; is = byte_not p 34 _ _ h ∙ rw (← e.left); to = e.to };
      parts = record { start = onward_here c; chars = e; behind = onward_here t };
    }

    pub next_there : {r : Result (Option ValueCursors) (Malformed ValueCursors)} → n.u ≡ 44 → ValueAt param_value m s n.next r → ValueAt next_value m s c r
    unfolding next_value
    next_there {r} h v = record {
      item = item_behind 44 param_value One.none (λ xs. refl) p (λ z. omega arith) h v.item;
      parts = parts_on r (λ z. omega arith) v.parts;
    }

    pub next_missing : (n.u ≡ 44 → ⊥) → ValueAt next_value m s c (Ok None)
    unfolding next_value
    next_missing h = record { item = item_not 44 param_value One.none (λ xs. refl) p refl h; parts = tt }

-- ---- all values

values_joined : (m : ℕ) (s : List ℕ) (k : Result ℕ (Malformed ℕ)) (n : List ℕ) (v : ParamValue) (l : List ParamValue) (f : List ℕ) → with_values (all_at m s l k f) n v ≡ one_to m s (record { name = n; values = v ∷ l }) k f
unfolding with_values
values_joined m s (Ok next) n v l f = refl
values_joined m s (Err e) n v l f = refl

module _ {m : ℕ} {s : List ℕ} {c : ℕ} {r : Result (Option ValueCursors) (Malformed ValueCursors)} (v : ValueAt param_value m s c r) where
  pub values_all : {k : Result ℕ (Malformed ℕ)} {a : ValueCursors} → r ≡ Ok (Some a) → AllAt next_value m s a.next k → ValuesAt m s c k
  unfolding with_first values_of
  values_all {k} {a} e all =
      record {
        fault = all.fault;
        is = λ n. rw (item_got v.item e, all.is) (values_joined m s k n (value_of m s a) (items next_value (rest m s a.next)) all.fault);
        to = onward_then k (item_to v.item e) all.to;
      }

  pub values_bad : {x : Malformed ValueCursors} → r ≡ Err x → ValuesAt m s c (Err (record { read = c }))
  unfolding with_first
  values_bad e = record { fault = v.item.fault; is = λ n. rw (item_bad v.item e); to = onward_here c }

  -- the first value, and those that follow it
  pub value_first : {a : ValueCursors} → r ≡ Ok (Some a) → values_at m s c ≡ value_of m s a ∷ items next_value (rest m s a.next)
  unfolding values_of
  value_first e = rw (item_got v.item e)

-- one value more, or the end
module _ {m : ℕ} {s : List ℕ} {c : ℕ} {r : Result (Option ValueCursors) (Malformed ValueCursors)} (v : ValueAt next_value m s c r) where
  pub value_more : {a : ValueCursors} → r ≡ Ok (Some a) → items next_value (rest m s c) ≡ value_of m s a ∷ items next_value (rest m s a.next)
  value_more = items_more v.item value_takes

  pub value_less : {a : ValueCursors} → r ≡ Ok (Some a) → 4 * length s - a.next < 4 * length s - c
  value_less = walk_less v.item value_takes

  pub value_over : r ≡ Ok None → items next_value (rest m s c) ≡ []
  value_over = items_none_here v.item

  pub value_fault : {x : Malformed ValueCursors} → r ≡ Err x → items next_value (rest m s c) ≡ []
  value_fault = items_bad_here v.item

-- where the parts of a value that is there stand
pub value_parts : {p : List ℕ → One ParamValue} {m : ℕ} {s : List ℕ} {c : ℕ} {r : Result (Option ValueCursors) (Malformed ValueCursors)} {a : ValueCursors} → ValueAt p m s c r → r ≡ Ok (Some a) → ValueParts m s c a
value_parts v e = rw e at v.parts

-- what is lent, cut at the end of a value's characters, is these
pub value_chars : {p : List ℕ → One ParamValue} {m : ℕ} {s : List ℕ} {c : ℕ} {r : Result (Option ValueCursors) (Malformed ValueCursors)} {a : ValueCursors} → cuts m ≡ true → ValueAt p m s c r → r ≡ Ok (Some a) →
    rest m (take a.to s) a.from ≡ run_of (chars_in a.quoted) (rest m s a.from)
value_chars y v e = run_cut y (value_parts v e).chars
