-- Laws of what specs/Params.antt defines.
--     name_run, name_chars  a name that ends at a cursor: as a run, and cut out of the slice
--     param_more, param_over, param_fault    a walk over `params_at`: one more, the end;   param_less: its measure
use Rattle.std.proofs.Math.Path.{◌≡◌, refl, sym}
use Rattle.std.proofs.Common.{◌∙◌, arith}
use Rattle.std.specs.Prelude.{Bool, ℕ, ◌-◌, ◌*◌, ◌<◌, eqb, length, take, Option, None, Some, Result, Ok, Err}
use Rattle.std.proofs.Math.Bool.{true, false, not}
use mathlib.Core.List.{List, [], ◌∷◌}
use Rattle.octets.specs.Pick.{pick, ◌or◌, ◌and◌}
use Rattle.octets.specs.laws.Pick.{pick_yes, pick_no}
use Rattle.octets.specs.Class.{is_name_char}
use Rattle.octets.specs.Words.{is_empty}
use Rattle.octets.specs.Scan.{span_len}
use Rattle.octets.specs.Runs.{after_run, run_of}
use Rattle.octets.specs.Many.{One, bad}
use Rattle.source.specs.Source.{rest, spell, cuts, Reads}
use Rattle.source.specs.laws.Facts.{rest_byte}
use Rattle.source.specs.declared.points.Unit.{Unit}
use Rattle.names.specs.laws.Runs.{run_cut as name_cut}
use Rattle.read_text_line.specs.ContentLine.{RawParameter, param, next_param}
use Rattle.read_text_line.specs.Cursor.{Onward, RunEnds, one_to, params_at}
use Rattle.read_text_line.specs.laws.Cursor.{onward_here, onward_both, onward_byte, byte_at, byte_not, on_item, on_read, item_behind, item_not}
use Rattle.read_text_line.specs.laws.Repeating.{items_more, items_none_here, items_bad_here, walk_less, param_takes}
use Rattle.read_text_line.specs.Values.{ValuesAt}
use Rattle.read_text_line.specs.Params.{NameEnds, NameIn, param_in, param_of, ParamParts, ReadParts, ParamOf, bad_param, named_param}
use Rattle.read_text_line.specs.declared.Malformed.{Malformed}
use Rattle.read_text_line.specs.declared.ParameterCursors.{ParameterCursors}

-- ---- names

-- 256 is no character of a name
end_no_name : (u : ℕ) → is_name_char u ≡ true → u ≡ 256 → ⊥
unfolding ◌or◌ ◌and◌
end_no_name u h e = let z : is_name_char 256 ≡ true = rw e at h in let q : ◌≡◌ {A = ℕ} 0 1 = cc in omega arith

module _ {m : ℕ} {s : List ℕ} {c : ℕ} where
  pub name_onward : {e : ℕ} → NameEnds m s c e → Onward m s c e
  name_onward n = record { onward = n.onward; inside = n.inside; plain = n.plain; reach = n.reach }

  pub name_run : {e : ℕ} → NameEnds m s c e → RunEnds is_name_char m s c e
  unfolding after_run
  name_run n = record { left = n.left; to = name_onward n }

  module _ {n : Unit} {t : Bool} (p : Reads m s c n) (e : t ≡ is_name_char n.u) where
    name_here : t ≡ true → false ≡ is_empty (run_of is_name_char (rest m s c))
    unfolding run_of span_len pick
    name_here h = let k : is_name_char n.u ≡ true = sym e ∙ h in rw (rest_byte p (end_no_name n.u k), k)

    name_missing : t ≡ false → true ≡ is_empty (run_of is_name_char (rest m s c))
    unfolding run_of span_len spell pick
    name_missing h = rw p.is (go (eqb n.u 256))
      where
        go : (b : Bool) → true ≡ is_empty (run_of is_name_char (pick b [] (n.u ∷ rest m s n.next)))
        go true = refl
        go false = let k : is_name_char n.u ≡ false = sym e ∙ h in rw k

    pub no_name : not t ≡ is_empty (run_of is_name_char (rest m s c))
    no_name = go t refl
      where
        go : (b : Bool) → t ≡ b → not b ≡ is_empty (run_of is_name_char (rest m s c))
        go true = name_here
        go false = name_missing

-- what is lent, cut at the name's end, is the name
pub name_chars : {m : ℕ} {s : List ℕ} {c e : ℕ} → cuts m ≡ true → NameEnds m s c e → rest m (take e s) c ≡ run_of is_name_char (rest m s c)
unfolding run_of
name_chars y n = name_cut y n

-- ---- a parameter

module _ {m : ℕ} {s : List ℕ} {c : ℕ} where
  faulty : {p : List ℕ → One RawParameter} {x : Malformed ParameterCursors} → x.read ≡ bad_param c → p (rest m s c) ≡ bad (rest m s c) → ParamOf p m s c (Err x)
  faulty z e = record {
    item = record { fault = rest m s c; is = e; to = rw z (onward_here c) };
    parts = tt;
    read = rw z (record { start = onward_here c; ends = onward_here c; equals = onward_here c; behind = onward_here c });
  }

  module _ {e : ℕ} {n : Unit} (h : NameEnds m s c e) (p : Reads m s e n) where
    -- behind the equals sign, where the values are read
    valued : (r : Result ℕ (Malformed ℕ)) → n.u ≡ 61 → (a : ValuesAt m s n.next r) → named_param (rest m s c) ≡ one_to m s (param_in m s c n.next) r a.fault
    valued r k a = rw (← (name_run h).left) (byte_at p 61 _ _ k (λ z. omega arith)) ∙ a.is (run_of is_name_char (rest m s c))

    pub named_values : {v : ℕ} → n.u ≡ 61 → ValuesAt m s n.next (Ok v) → ParamOf named_param m s c (Ok (Some (record { name = c; end = e; first = n.next; next = v })))
    named_values {v} k a =
        let b = onward_byte p (λ z. omega arith) in record {
          item = record { fault = a.fault; is = valued (Ok v) k a; to = onward_both (name_onward h) (onward_both b a.to) };
          parts = record { start = onward_here c; named = h; ends = name_onward h; equals = b; behind = a.to };
          read = record { start = onward_here c; ends = name_onward h; equals = b; behind = a.to };
        }

    pub named_faulty : {x : Malformed ℕ} → n.u ≡ 61 → ValuesAt m s n.next (Err x) → ParamOf named_param m s c (Err (record { read = record { name = c; end = e; first = n.next; next = x.read } }))
    named_faulty {x} k a =
        let b = onward_byte p (λ z. omega arith) in record {
          item = record { fault = a.fault; is = valued (Err x) k a; to = onward_both (name_onward h) (onward_both b a.to) };
          parts = tt;
          read = record { start = onward_here c; ends = name_onward h; equals = b; behind = a.to };
        }

    pub named_not : {x : Malformed ParameterCursors} → (n.u ≡ 61 → ⊥) → x.read ≡ bad_param c → ParamOf named_param m s c (Err x)
    named_not k z = faulty z (rw (← (name_run h).left) (byte_not p 61 _ _ k))

  pub param_unnamed : {t : Bool} {x : Malformed ParameterCursors} → t ≡ is_empty (run_of is_name_char (rest m s c)) → t ≡ true → x.read ≡ bad_param c → ParamOf param m s c (Err x)
  unfolding param
  param_unnamed e h z = faulty z (pick_yes _ _ _ (sym e ∙ h))

  pub param_named : {t : Bool} {r : Result (Option ParameterCursors) (Malformed ParameterCursors)} → t ≡ is_empty (run_of is_name_char (rest m s c)) → t ≡ false → ParamOf named_param m s c r → ParamOf param m s c r
  unfolding param
  param_named e h a = record { item = record { fault = a.item.fault; is = pick_no _ _ _ (sym e ∙ h) ∙ a.item.is; to = a.item.to }; parts = a.parts; read = a.read }

  module _ {n : Unit} (p : Reads m s c n) where
    pub param_there : {r : Result (Option ParameterCursors) (Malformed ParameterCursors)} → n.u ≡ 59 → ParamOf param m s n.next r → ParamOf next_param m s c r
    unfolding next_param
    param_there {r} k a = record {
      item = item_behind 59 param One.none (λ xs. refl) p (λ z. omega arith) k a.item;
      parts = on_item (ParamParts m s n.next) (ParamParts m s c) r (λ v o. record { start = onward_both (onward_byte p (λ z. omega arith)) o.start; named = o.named; ends = o.ends; equals = o.equals; behind = o.behind }) a.parts;
      read = on_read (ReadParts m s n.next) (ReadParts m s c) r (λ v o. record { start = onward_both (onward_byte p (λ z. omega arith)) o.start; ends = o.ends; equals = o.equals; behind = o.behind }) a.read;
    }

    pub param_missing : (n.u ≡ 59 → ⊥) → ParamOf next_param m s c (Ok None)
    unfolding next_param
    param_missing k = record { item = item_not 59 param One.none (λ xs. refl) p refl k; parts = tt; read = tt }

  -- ---- a walk over parameters

  module _ {r : Result (Option ParameterCursors) (Malformed ParameterCursors)} (a : ParamOf next_param m s c r) where
    pub param_more : {v : ParameterCursors} → r ≡ Ok (Some v) → params_at m s c ≡ param_of m s v ∷ params_at m s v.next
    param_more = items_more a.item param_takes

    pub param_less : {v : ParameterCursors} → r ≡ Ok (Some v) → 4 * length s - v.next < 4 * length s - c
    param_less = walk_less a.item param_takes

    pub param_parts : {v : ParameterCursors} → r ≡ Ok (Some v) → ParamParts m s c v
    param_parts e = rw e at a.parts

    pub param_name : {v : ParameterCursors} → r ≡ Ok (Some v) → NameIn m s v
    param_name e = (param_parts e).named

    pub param_over : r ≡ Ok None → params_at m s c ≡ []
    param_over = items_none_here a.item

    pub param_fault : {x : Malformed ParameterCursors} → r ≡ Err x → params_at m s c ≡ []
    param_fault = items_bad_here a.item
