-- Laws of what specs/Listed.antt defines.
--     Emits                                the invariant of a loop that writes: `all` is to be written, `left` is still to be written
--     list_start, list_more, list_over     the values of a parameter
--     parameters_shown                     one parameter, and all of them
--     parameter_put, parameter_more, parameters_over, parameters_put    for code
use Rattle.std.specs.Prelude.{◌≡◌, Bool, true, false, ℕ, ◌*◌, ◌^◌, ◌<◌, length}
use Rattle.std.proofs.Math.Path.{refl}
use Rattle.std.proofs.Common.{sym, ap, subst, ◌∙◌}
use mathlib.Core.List.{List, [], ◌∷◌, map}
use Rattle.octets.specs.Append.{◌⊕◌, joined}
use Rattle.octets.specs.laws.Append.{append_is, append_cons, append_empty, append_regroup}
use Rattle.octets.specs.Class.{upper}
use Rattle.octets.specs.Words.{joined_by}
use Rattle.octets.specs.Reading.{read_or}
use Rattle.sink.specs.Sink.{Put, Todo}
use Rattle.sink.specs.laws.Sink.{put_length, todo_all, todo_step, todo_done, ◌▷◌}
use Rattle.source.specs.Source.{rest}
use Rattle.source.specs.laws.Facts.{rest_plain}
use Rattle.names.specs.Table.{place_of}
use Rattle.schema.specs.Parameters.{ParameterRow, parameter_row, parameter_names}
use Rattle.read_text_line.specs.Write.{write_param_value, write_parameter}
use Rattle.read_text_line.specs.Decoded.{encoded_value, encoded_parameter}
use Rattle.read_text_line.specs.Written.{opening}
use Rattle.text.specs.WriteText.{raw_of}
use Rattle.xml.specs.Nodes.{Nodes, characters_of}
use Rattle.xcal.specs.ParameterNodes.{read_parameter_nodes}
use Rattle.xml.specs.NodesAt.{nodes_at}
use Rattle.edition.specs.declared.Edition.{Edition}
use Rattle.read_xml_nodes.specs.laws.Walks.{passing_start, Skips}
use Rattle.read_xml_parameters.specs.Children.{ChildAt, name_of}
use Rattle.read_xml_parameters.specs.laws.Children.{children_none, children_some}
use Rattle.read_xml_parameters.specs.Rows.{row_at, read_leaves}
use Rattle.read_xml_parameters.specs.laws.Rows.{row_named, leaves_are}
use Rattle.read_xml_parameters.specs.Written.{row_value, item_shown, list_shown, values_shown}
use Rattle.read_xml_parameters.specs.Listed.{parameter_shown}
use Rattle.read_xml_parameters.specs.declared.Child.{Child}

pub record Emits (d₀ : List ℕ) (at₀ : ℕ) (all d : List ℕ) (at : ℕ) (left : List ℕ) : Type 0 where
  pub todo : Todo d₀ at₀ all d at left
  pub kept : length d ≡ length d₀

pub emits_start : (d : List ℕ) (at : ℕ) (all : List ℕ) → length d * 1 < 2 ^ 63 → Emits d at all d at all
emits_start d at all z = record { todo = todo_all d at all z; kept = refl }

module _ {d₀ : List ℕ} {at₀ : ℕ} {all d : List ℕ} {at : ℕ} {left : List ℕ} (t : Emits d₀ at₀ all d at left) where
  emits_more : {e bs : List ℕ} {m : ℕ} (more : List ℕ) → left ≡ bs ⊕ more → Put d e at m bs → Emits d₀ at₀ all e m more
  emits_more {e} {bs} more q p = record { todo = todo_step t.todo p (q ∙ append_is bs more); kept = put_length p ∙ t.kept }

  emits_done : left ≡ [] → Put d₀ d at₀ at all
  emits_done q = todo_done t.todo q

-- what stands before the values, and the values
opened : (n l : List ℕ) → opening n ⊕ l ≡ 59 ∷ (n ⊕ 61 ∷ l)
opened n l =
    append_cons 59 (n ⊕ 61 ∷ []) l
    ∙ ap (λ (x : List ℕ). 59 ∷ x) (append_regroup n (61 ∷ []) l ∙ ap (λ (x : List ℕ). n ⊕ x) (append_cons 61 [] l ∙ ap (λ (x : List ℕ). 61 ∷ x) (append_empty l)))

module _ (ed : Edition) where
  -- ---- the parameters

  unfoldable pub parameters_shown : Nodes → List ℕ
  parameters_shown kids = joined (map write_parameter (map (encoded_parameter ed) (map raw_of (read_parameter_nodes kids))))

module _ (ed : Edition) where
  -- ---- the values of a parameter

  skips_list : (r : ParameterRow) (later : Bool) → Skips (list_shown ed r later)
  unfolding list_shown
  skips_list r later = record { over_literal = λ p b more. refl; over_referred = λ p bs more. refl }

  module _ (r : ParameterRow) (later : Bool) {d₀ : List ℕ} {at₀ : ℕ} {all d : List ℕ} {at : ℕ} {s : List ℕ} {c : ℕ} {n : Child}
      (t : Emits d₀ at₀ all d at (list_shown ed r later (nodes_at s c))) (a : ChildAt s c n) where
    pub list_more : {e : List ℕ} {m : ℕ} → n.there ≡ true → Put d e at m (item_shown ed r later (characters_of (nodes_at s n.inside))) →
        Emits d₀ at₀ all e m (list_shown ed r true (nodes_at s n.next))
    unfolding list_shown
    list_more h p = emits_more t _ (children_some (skips_list r later) (passing_start (list_shown ed r later) s c) a h) p

    pub list_over : n.there ≡ false → Put d₀ d at₀ at all
    unfolding list_shown
    list_over h = emits_done t (children_none (skips_list r later) (passing_start (list_shown ed r later) s c) a h)

  parameter_is : (m : List ℕ) (kids : Nodes) → parameter_shown ed m kids ≡ opening (upper m) ⊕ values_shown ed (row_at (place_of (upper m) parameter_names)) kids
  unfolding parameter_shown values_shown write_parameter
  parameter_is m kids = rw (leaves_are (upper m) kids) (by_row (row_at (place_of (upper m) parameter_names)) (row_named (upper m)))
    where
      by_row : (r : ParameterRow) → parameter_row (upper m) ≡ r →
          59 ∷ (upper m ⊕ 61 ∷ joined_by 44 (map write_param_value (map (encoded_value ed) (map (row_value (parameter_row (upper m))) (read_or [] (read_leaves (parameter_row (upper m)) kids))))))
          ≡ opening (upper m) ⊕ values_shown ed r kids
      by_row r e = rw (← e) (sym (opened (upper m) (values_shown ed (parameter_row (upper m)) kids)))

  pub parameter_put : {d e f : List ℕ} {o a n q : ℕ} (w : List ℕ) (kids : Nodes) → q ≡ place_of (upper (rest 0 w 0)) parameter_names →
      Put d e o a (opening (upper (rest 0 w 0))) → Put e f a n (values_shown ed (row_at q) kids) → Put d f o n (parameter_shown ed w kids)
  parameter_put {d} {e} {f} {o} {a} {n} {q} w kids h x y =
      rw (parameter_is w kids) (subst (λ (l : List ℕ). Put d e o a (opening (upper l))) (rest_plain w) x ▷ subst (λ (k : ℕ). Put e f a n (values_shown ed (row_at k) kids)) (h ∙ rw (rest_plain w)) y)

  skips_parameters : Skips (parameters_shown ed)
  unfolding parameters_shown read_parameter_nodes
  skips_parameters = record { over_literal = λ p b more. refl; over_referred = λ p bs more. refl }

  module _ {d₀ : List ℕ} {at₀ : ℕ} {all d : List ℕ} {at : ℕ} {s : List ℕ} {c : ℕ} {n : Child} (t : Emits d₀ at₀ all d at (parameters_shown ed (nodes_at s c))) (a : ChildAt s c n) where
    pub parameter_more : {e : List ℕ} {m : ℕ} → n.there ≡ true → Put d e at m (parameter_shown ed (name_of s n.name n.name_end) (nodes_at s n.inside)) →
        Emits d₀ at₀ all e m (parameters_shown ed (nodes_at s n.next))
    unfolding parameters_shown parameter_shown read_parameter_nodes joined
    parameter_more h p = emits_more t _ (children_some skips_parameters (passing_start (parameters_shown ed) s c) a h) p

    pub parameters_over : n.there ≡ false → Put d₀ d at₀ at all
    unfolding parameters_shown read_parameter_nodes joined
    parameters_over h = emits_done t (children_none skips_parameters (passing_start (parameters_shown ed) s c) a h)

  pub parameters_put : {d e : List ℕ} {o r : ℕ} (kids : Nodes) → Put d e o r (parameters_shown ed kids) → Put d e o r (joined (map write_parameter (map (encoded_parameter ed) (map raw_of (read_parameter_nodes kids)))))
  unfolding parameters_shown
  parameters_put kids p = p
