-- Laws of what specs/Walks.antt defines.
--     properties_text, calendar_text  of the elements from a node on
--     Walking                         the invariant of a walk that writes: what is left to write from the node at hand on;   `search owns`, `search inners`
use Rattle.std.specs.Prelude.{◌≡◌, ℕ, ◌-◌, ◌*◌, ◌^◌, ◌≤◌, ◌<◌, length}
use Rattle.std.proofs.Math.Path.{refl, ap, subst}
use Rattle.std.proofs.Common.{sym, ◌∙◌, rules, lt-ltb}
use mathlib.Core.List.{List, []}
use native.Mathlib.Omega.{arith}
use Rattle.octets.specs.Pick.{pick}
use Rattle.octets.specs.Ascii.{ascii}
use Rattle.octets.specs.Append.{◌⊕◌}
use Rattle.octets.specs.laws.Append.{append_is, append_regroup}
use Rattle.octets.specs.Class.{upper}
use Rattle.sink.specs.Sink.{overwrite, Put, Todo}
use Rattle.calendar.specs.Calendar.{Components, no_more, component}
use Rattle.calendar.specs.Levels.{shallow}
use Rattle.sink.specs.laws.Sink.{put_none, put_length, ◌▷◌, todo_all, todo_step, todo_done}
use Rattle.folding.specs.Fold.{folded_line}
use Rattle.text.specs.WriteText.{property_lines, begin_line, end_line, write_calendar}
use Rattle.xml.specs.Nodes.{Nodes, no_nodes, element, literal, referred}
use Rattle.xcal.specs.PropertyNodes.{read_properties}
use Rattle.xcal.specs.ComponentNodes.{inside_of, read_components}
use Rattle.xcal.proofs.laws.ComponentsAccepted.{inner_components}
use Rattle.xml.specs.NodesAt.{nodes_at}
use Rattle.read_xml_nodes.specs.NodeFound.{NodeAt}
use Rattle.read_xml_nodes.specs.laws.NodeFound.{node_none, node_element, node_literal, node_referred, element_less, literal_less, referred_less}
use Rattle.read_xml_nodes.specs.declared.Node.{Node}
use Rattle.read_xml_nodes.specs.declared.NodeKind.TheVariants.{Absent, Element, Literal, Referred}
use Rattle.edition.specs.declared.Edition.{Edition}
use Rattle.write_text_pieces.specs.Filled.{properties_room, calendar_room, PutBy}
use Rattle.write_text.specs.Children.{InsideAt, name_in}
use Rattle.write_text.specs.Content.{line_text}
use Rattle.write_text.specs.laws.Fitting.{line_fits_lem}
use Rattle.write_text.specs.Walks.{head_text, head_room}

-- ---- a walk that writes

pub data Walk : Type 0 where
  own : Walk
  inner : ℕ → Walk

module _ (ed : Edition) where
  unfoldable pub properties_text : Nodes → List ℕ
  properties_text ns = property_lines ed (read_properties ns)

  -- of components l levels deep
  unfoldable pub calendar_text : ℕ → Nodes → List ℕ
  calendar_text l ns = write_calendar ed (shallow l (read_components ns))

  abbrev pub text_of : Walk → Nodes → List ℕ
  text_of own ns = properties_text ns
  text_of (inner v) ns = calendar_text v ns

  -- what the room becomes
  unfoldable pub room_of : Walk → Nodes → List ℕ → List ℕ
  room_of own ns k = properties_room ed (read_properties ns) k
  room_of (inner v) ns k = calendar_room ed (shallow v (read_components ns)) k

  -- it began at the node at `from` with d, o and the room k, and has come with e, p and the room l to the node at `at`
  pub record Walking (w : Walk) (s : List ℕ) (from : ℕ) (d : List ℕ) (o : ℕ) (k : List ℕ) (e : List ℕ) (p : ℕ) (l : List ℕ) (at : ℕ) : Type 0 where
    pub onward : length s - at ≤ length s - from
    pub todo : Todo d o (text_of w (nodes_at s from)) e p (text_of w (nodes_at s at))
    pub kept : length e ≡ length d
    pub room : length l ≡ length k
    pub left : room_of w (nodes_at s from) k ≡ room_of w (nodes_at s at) l

-- nothing of components where no level is left
shallow_none : (c : Components) → shallow 0 c ≡ no_more
unfolding shallow pick
shallow_none no_more = refl
shallow_none (component n ps i x) = refl

module _ (ed : Edition) where
  -- ---- the components inside

  -- a component's lines, in three parts, and those of the next ones
  component_parts : (l p : ℕ) (m : List ℕ) (x : ℕ) (kids more : Nodes) → 1 ≤ l →
      calendar_text ed l (element p m x kids more)
      ≡ (head_text ed m kids ⊕ calendar_text ed (l - 1) (inside_of (ascii "components") kids) ⊕ end_line (upper m)) ⊕ calendar_text ed l more
  unfolding calendar_text head_text read_components shallow pick write_calendar
  component_parts l p m x kids more h = rw (lt-ltb 0 l h, inner_components kids) (sym (regroup (begin_line (upper m)) _ _ (end_line (upper m)) (write_calendar ed (shallow l (read_components more)))))
    where
      regroup : (a b c d f : List ℕ) → ((a ⊕ b) ⊕ c ⊕ d) ⊕ f ≡ a ⊕ b ⊕ c ⊕ d ⊕ f
      regroup a b c d f = rw (append_regroup (a ⊕ b) (c ⊕ d) f, append_regroup a b ((c ⊕ d) ⊕ f), append_regroup c d f)

  property_parts : (p : ℕ) (m : List ℕ) (x : ℕ) (kids more : Nodes) → properties_text ed (element p m x kids more) ≡ folded_line (line_text ed m kids) ⊕ properties_text ed more
  unfolding properties_text read_properties property_lines line_text
  property_parts p m x kids more = refl

  -- what was put before the components inside
  pub head_put : {s : List ℕ} {i from : ℕ} {d e f h l : List ℕ} {o a r : ℕ} (k m : List ℕ) → InsideAt (ascii "properties") s i from →
      PutBy d e o a (folded_line (ascii "BEGIN:" ⊕ upper m)) h (overwrite k 0 (ascii "BEGIN:" ⊕ upper m)) →
      PutBy e f a r (property_lines ed (read_properties (nodes_at s from))) l (properties_room ed (read_properties (nodes_at s from)) h) → PutBy d f o r (head_text ed m (nodes_at s i)) l (head_room ed m (nodes_at s i) k)
  unfolding head_text head_room
  head_put {e = e} {f} {a = a} {r} k m i u v = record {
    put = u.put ▷ subst (λ (ns : Nodes). Put e f a r (property_lines ed (read_properties ns))) (sym i.is) v.put;
    room = v.room ∙ rw (u.room, i.is);
  }

  pub walk_start : (w : Walk) (s : List ℕ) (from : ℕ) (d : List ℕ) (o : ℕ) (k : List ℕ) → length d * 1 < 2 ^ 63 → Walking ed w s from d o k d o k from
  walk_start w s from d o k h = record { onward = omega arith; todo = todo_all d o (text_of ed w (nodes_at s from)) h; kept = refl; room = refl; left = refl }

  text_none : (w : Walk) → text_of ed w no_nodes ≡ []
  unfolding properties_text read_properties property_lines calendar_text read_components shallow write_calendar
  text_none own = refl
  text_none (inner v) = refl

  text_literal : (w : Walk) (p b : ℕ) (more : Nodes) → text_of ed w (literal p b more) ≡ text_of ed w more
  unfolding properties_text read_properties calendar_text read_components
  text_literal own p b more = refl
  text_literal (inner v) p b more = refl

  text_referred : (w : Walk) (p : ℕ) (bs : List ℕ) (more : Nodes) → text_of ed w (referred p bs more) ≡ text_of ed w more
  unfolding properties_text read_properties calendar_text read_components
  text_referred own p bs more = refl
  text_referred (inner v) p bs more = refl

  room_none : (w : Walk) (k : List ℕ) → room_of ed w no_nodes k ≡ k
  unfolding room_of properties_room calendar_room read_properties read_components shallow
  room_none own k = refl
  room_none (inner v) k = refl

  room_literal : (w : Walk) (p b : ℕ) (more : Nodes) (k : List ℕ) → room_of ed w (literal p b more) k ≡ room_of ed w more k
  unfolding room_of read_properties read_components
  room_literal own p b more k = refl
  room_literal (inner v) p b more k = refl

  room_referred : (w : Walk) (p : ℕ) (bs : List ℕ) (more : Nodes) (k : List ℕ) → room_of ed w (referred p bs more) k ≡ room_of ed w more k
  unfolding room_of read_properties read_components
  room_referred own p bs more k = refl
  room_referred (inner v) p bs more k = refl

  own_room_lem : (p : ℕ) (m : List ℕ) (x : ℕ) (kids more : Nodes) (k : List ℕ) → room_of ed own (element p m x kids more) k ≡ room_of ed own more (overwrite k 0 (line_text ed m kids))
  unfolding room_of properties_room read_properties line_text
  own_room_lem p m x kids more k = refl

  inner_room : (v p : ℕ) (m : List ℕ) (x : ℕ) (kids more : Nodes) (k : List ℕ) → 1 ≤ v → room_of ed (inner v) (element p m x kids more) k ≡
      room_of ed (inner v) more (overwrite (calendar_room ed (shallow (v - 1) (read_components (inside_of (ascii "components") kids))) (head_room ed m kids k)) 0 (ascii "END:" ⊕ upper m))
  unfolding room_of calendar_room read_components shallow pick head_room
  inner_room v p m x kids more k h = rw (lt-ltb 0 v h, inner_components kids)

  module _ {w : Walk} {s : List ℕ} {from : ℕ} {d : List ℕ} {o : ℕ} {k e : List ℕ} {p : ℕ} {l : List ℕ} {at : ℕ} (m : Walking ed w s from d o k e p l at) where
    pub walk_length : length e ≡ length d
    walk_length = m.kept

    pub walk_room : length l ≡ length k
    walk_room = m.room

    module _ {r : Node} (n : NodeAt s at r) where
      skip : (ns : Nodes) (next : ℕ) → length s - next < length s - at → nodes_at s at ≡ ns → text_of ed w ns ≡ text_of ed w (nodes_at s next) → room_of ed w ns l ≡ room_of ed w (nodes_at s next) l → Walking ed w s from d o k e p l next
      skip ns next h i q z = record {
        onward = omega (arith, m.onward);
        todo = subst (λ (bs : List ℕ). Todo d o (text_of ed w (nodes_at s from)) e p bs) (ap (text_of ed w) i ∙ q) m.todo;
        kept = m.kept;
        room = m.room;
        left = m.left ∙ ap (λ (x : Nodes). (room_of ed) w x l) i ∙ z;
      }

      pub walk_literal : r.kind ≡ Literal → Walking ed w s from d o k e p l r.next
      walk_literal q = skip _ r.next (literal_less n q) (node_literal n q) (text_literal w _ _ _) (room_literal w _ _ _ l)

      pub walk_referred : r.kind ≡ Referred → Walking ed w s from d o k e p l r.next
      walk_referred q = skip _ r.next (referred_less n q) (node_referred n q) (text_referred w _ _ _) (room_referred w _ _ _ l)

      -- the element at hand gives the bytes bs, which were put
      walk_put : (ns : Nodes) (bs : List ℕ) {f : List ℕ} {a : ℕ} {j : List ℕ} → r.kind ≡ Element → nodes_at s at ≡ ns → text_of ed w ns ≡ bs ⊕ text_of ed w (nodes_at s r.next) →
          Put e f p a bs → length j ≡ length l → room_of ed w ns l ≡ room_of ed w (nodes_at s r.next) j → Walking ed w s from d o k f a j r.next
      walk_put ns bs q i g b c z = record {
        onward = omega (arith, m.onward, element_less n q);
        todo = todo_step m.todo b (ap (text_of ed w) i ∙ g ∙ append_is bs _);
        kept = put_length b ∙ m.kept;
        room = c ∙ m.room;
        left = m.left ∙ ap (λ (x : Nodes). (room_of ed) w x l) i ∙ z;
      }

      walk_end : r.kind ≡ Absent → PutBy d e o p (text_of ed w (nodes_at s from)) l (room_of ed w (nodes_at s from) k)
      walk_end q = record {
        put = todo_done m.todo (ap (text_of ed w) (node_none n q) ∙ text_none w);
        room = sym (m.left ∙ ap (λ (x : Nodes). (room_of ed) w x l) (node_none n q) ∙ room_none w l);
      }

  -- ---- the properties

  module _ {s : List ℕ} {from : ℕ} {d : List ℕ} {o : ℕ} {k e : List ℕ} {p : ℕ} {l : List ℕ} {at : ℕ} (m : Walking ed own s from d o k e p l at) {r : Node} (n : NodeAt s at r) where
    pub own_end : r.kind ≡ Absent → PutBy d e o p (property_lines ed (read_properties (nodes_at s from))) l (properties_room ed (read_properties (nodes_at s from)) k)
    unfolding properties_text room_of
    own_end q = walk_end m n q

    pub own_fits : r.kind ≡ Element → length s ≤ 65535 → length k ≡ 262144 →
        length (line_text ed (name_in s r.name r.name_end) (nodes_at s r.inside)) ≤ length l
    own_fits q h z = omega (arith, line_fits_lem ed n q h, m.room)

    pub own_put : {f : List ℕ} {a : ℕ} {j : List ℕ} → r.kind ≡ Element →
        PutBy e f p a (folded_line (line_text ed (name_in s r.name r.name_end) (nodes_at s r.inside))) j (overwrite l 0 (line_text ed (name_in s r.name r.name_end) (nodes_at s r.inside))) →
        length j ≡ length l → Walking ed own s from d o k f a j r.next
    own_put q b c = walk_put m n _ _ q (node_element n q) (property_parts _ _ _ _ _) b.put c (own_room_lem _ _ _ _ _ l ∙ ap (room_of ed own (nodes_at s r.next)) (sym b.room))

  -- ---- the components

  pub none_left : (v : ℕ) (s : List ℕ) (from : ℕ) (d : List ℕ) (o : ℕ) (k : List ℕ) → v < 1 → length d * 1 < 2 ^ 63 →
      PutBy d d o o (write_calendar ed (shallow v (read_components (nodes_at s from)))) k (calendar_room ed (shallow v (read_components (nodes_at s from))) k)
  unfolding write_calendar calendar_room
  none_left v s from d o k h z =
      let q : v ≡ 0 = omega arith in
      rw (q, shallow_none (read_components (nodes_at s from))) (record { put = put_none d o z; room = refl })

  module _ {v : ℕ} {s : List ℕ} {from : ℕ} {d : List ℕ} {o : ℕ} {k e : List ℕ} {p : ℕ} {l : List ℕ} {at : ℕ} (m : Walking ed (inner v) s from d o k e p l at) {r : Node} (n : NodeAt s at r) where
    pub inner_end : r.kind ≡ Absent → PutBy d e o p (write_calendar ed (shallow v (read_components (nodes_at s from)))) l (calendar_room ed (shallow v (read_components (nodes_at s from))) k)
    unfolding calendar_text room_of
    inner_end q = walk_end m n q

    -- a component whose three parts were put
    pub inner_put : {f g h : List ℕ} {a b c i : ℕ} {j₁ j₂ j : List ℕ} → 1 ≤ v → r.kind ≡ Element → InsideAt (ascii "components") s r.inside i →
        PutBy e f p a (head_text ed (name_in s r.name r.name_end) (nodes_at s r.inside)) j₁ (head_room ed (name_in s r.name r.name_end) (nodes_at s r.inside) l) →
        PutBy f g a b (write_calendar ed (shallow (v - 1) (read_components (nodes_at s i)))) j₂ (calendar_room ed (shallow (v - 1) (read_components (nodes_at s i))) j₁) →
        PutBy g h b c (end_line (upper (name_in s r.name r.name_end))) j (overwrite j₂ 0 (ascii "END:" ⊕ upper (name_in s r.name r.name_end))) →
        length j ≡ length l → Walking ed (inner v) s from d o k h c j r.next
    unfolding calendar_text
    inner_put {f} {g} {h} {a} {b} {c} {i} x q y u w t z =
        walk_put m n _ _ q (node_element n q) (component_parts v _ _ _ _ _ x) (u.put ▷ subst (λ (ns : Nodes). Put f g a b (write_calendar ed (shallow (v - 1) (read_components ns)))) (sym y.is) w.put ▷ t.put) z
        (inner_room v _ _ _ _ _ l x ∙ ap (room_of ed (inner v) (nodes_at s r.next)) (sym (t.room ∙ rw (w.room, u.room, y.is))))

pub ruleset owns = (walk_start, walk_length, walk_room, walk_literal, walk_referred, own_end, own_fits, own_put, element_less, literal_less, referred_less, rules)

pub ruleset inners = (walk_start, walk_length, walk_room, walk_literal, walk_referred, none_left, inner_end, inner_put, element_less, literal_less, referred_less, rules)
