-- Laws of what specs/Fresh.antt defines.
--     Fresh s from at i seen   where the first i + r names from `from` on are distinct, so are the first r from `at` on, and none of them is one of those seen;   fresh_..: for a walk
--     Collecting               names collected by their cuts;   collect_..: its laws
use Rattle.std.specs.Prelude.{◌≡◌, Bool, ℕ, ◌+◌, ◌-◌, ◌≤◌, ◌<◌, eqb, take}
use Rattle.std.proofs.Math.Path.{refl, ap}
use Rattle.std.proofs.Common.{sym, ◌∙◌, ne_eqb, eqb-true}
use Rattle.std.proofs.Math.Bool.{true, false}
use Rattle.std.proofs.lemmas.Bool.{false≢true, eqb-false}
use mathlib.Core.List.{List, [], ◌∷◌}
use native.Mathlib.Omega.{arith}
use Rattle.octets.specs.Pick.{pick}
use Rattle.octets.specs.laws.Pick.{pick_second, or_left, or_right, or_no}
use Rattle.octets.specs.Class.{upper}
use Rattle.octets.specs.Words.{same, is_one_of}
use Rattle.octets.specs.laws.Words.{same_self, same_true}
use Rattle.octets.specs.Lists.{distinct}
use Rattle.source.specs.Source.{rest}
use Rattle.source.specs.laws.Facts.{rest_part}
use Rattle.xml.specs.Nodes.{Nodes, no_nodes, element, literal, referred}
use Rattle.xml.specs.NodesAt.{nodes_at}
use Rattle.read_xml_nodes.specs.laws.Walks.{Skips}
use Rattle.distinct.specs.Listed.{word_at, listed}
use Rattle.distinct.specs.laws.Listed.{listed_same}
use Rattle.distinct.specs.Keeping.{Keeps}
use Rattle.distinct.specs.laws.Keeping.{keeps_more, keeps_others}
use Rattle.read_xml_parameters.specs.Children.{ChildAt, name_of}
use Rattle.read_xml_parameters.specs.laws.Children.{skipped}
use Rattle.read_xml_parameters.specs.Fresh.{first_names, Collected}
use Rattle.read_xml_parameters.specs.declared.Child.{Child}

first_none : (kids : Nodes) → first_names kids 0 ≡ []
unfolding first_names pick
first_none no_nodes = refl
first_none (literal p b more) = first_none more
first_none (referred p bs more) = first_none more
first_none (element p m x kids more) = refl

first_more : (p : ℕ) (m : List ℕ) (x : ℕ) (kids more : Nodes) (k : ℕ) → first_names (element p m x kids more) (k + 1) ≡ upper m ∷ first_names more k
unfolding first_names pick
first_more p m x kids more k = let z : k + 1 - 1 ≡ k = omega arith in rw (ne_eqb (k + 1) 0 (λ e. omega arith), z)

-- no names at all
pub none_first : (kids : Nodes) → distinct (first_names kids 0) ≡ true
unfolding distinct
none_first kids = rw (first_none kids)

pub none_listed : (w : ℕ → List ℕ) → distinct (listed 0 w []) ≡ true
unfolding distinct listed
none_listed w = refl

skips_first : (k : ℕ) → Skips (λ (kids : Nodes). first_names kids k)
unfolding first_names
skips_first k = record { over_literal = λ p b more. refl; over_referred = λ p bs more. refl }

-- ---- a walk

pub record Fresh (s : List ℕ) (from at i : ℕ) (seen : List (List ℕ)) : Type 0 where
  pub apart : (r : ℕ) → distinct (first_names (nodes_at s from) (i + r)) ≡ true → distinct (first_names (nodes_at s at) r) ≡ true
  pub unseen : (r : ℕ) → distinct (first_names (nodes_at s from) (i + r)) ≡ true → (m : List ℕ) → is_one_of (upper m) (first_names (nodes_at s at) r) ≡ true → is_one_of m seen ≡ false

pub fresh_start : (s : List ℕ) (from : ℕ) → Fresh s from from 0 []
unfolding is_one_of
fresh_start s from = record { apart = λ r h. let z : 0 + r ≡ r = omega arith in rw z at h; unseen = λ r h m k. refl }

module _ {s : List ℕ} {from at i : ℕ} {seen : List (List ℕ)} (f : Fresh s from at i seen) where
  pub fresh_skip : (p b next : ℕ) → nodes_at s at ≡ literal p b (nodes_at s next) → Fresh s from next i seen
  unfolding first_names
  fresh_skip p b next e = record {
    apart = λ r h. rw e at (f.apart r h);
    unseen = λ r h m k. f.unseen r h m (rw e k);
  }

  module _ {p : ℕ} {w : List ℕ} {x : ℕ} {kids : Nodes} (next : ℕ) (e : nodes_at s at ≡ element p w x kids (nodes_at s next)) where
    names : (r : ℕ) → first_names (nodes_at s at) (r + 1) ≡ upper w ∷ first_names (nodes_at s next) r
    names r = ap (λ (z : Nodes). first_names z (r + 1)) e ∙ first_more p w x kids (nodes_at s next) r

    one_more : (r : ℕ) → distinct (first_names (nodes_at s from) (i + 1 + r)) ≡ true → distinct (first_names (nodes_at s from) (i + (r + 1))) ≡ true
    one_more r h = let z : i + (r + 1) ≡ i + 1 + r = omega arith in rw z h

    others : (r : ℕ) → distinct (first_names (nodes_at s from) (i + 1 + r)) ≡ true → (is_one_of (upper w) (first_names (nodes_at s next) r) ≡ false) × (distinct (first_names (nodes_at s next) r) ≡ true)
    unfolding distinct
    others r h = pick_second (is_one_of (upper w) (first_names (nodes_at s next) r)) (distinct (first_names (nodes_at s next) r)) (rw names at (f.apart (r + 1) (one_more r h)))

    pub fresh_next : Fresh s from next (i + 1) (w ∷ seen)
    unfolding is_one_of
    fresh_next = record {
      apart = λ r h. (others r h).1;
      unseen = λ r h m k. or_no (same m w) (is_one_of m seen) (apart r h m k (same m w) refl)
          (f.unseen (r + 1) (one_more r h) m (rw names (or_right (same (upper m) (upper w)) (is_one_of (upper m) (first_names (nodes_at s next) r)) k)));
    }
      where
        apart : (r : ℕ) → distinct (first_names (nodes_at s from) (i + 1 + r)) ≡ true → (m : List ℕ) → is_one_of (upper m) (first_names (nodes_at s next) r) ≡ true → (t : Bool) → same m w ≡ t → t ≡ false
        apart r h m k true z = absurd (false≢true (sym (others r h).0 ∙ ap (λ (u : List ℕ). is_one_of (upper u) (first_names (nodes_at s next) r)) (sym (same_true m w z)) ∙ k))
        apart r h m k false z = refl

    -- the element's own name, where that is within the names that are distinct
    pub fresh_here : (n : ℕ) → distinct (first_names (nodes_at s from) n) ≡ true → i < n → is_one_of w seen ≡ false
    unfolding is_one_of
    fresh_here n h l =
        let z : n ≡ i + (n - i - 1 + 1) = omega arith in
        f.unseen (n - i - 1 + 1) (rw z at h) w (rw names (or_left (same (upper w) (upper w)) (is_one_of (upper w) (first_names (nodes_at s next) (n - i - 1))) (same_self (upper w))))

-- ---- names collected

-- the first k are collected, in f and t; the others stand from c on
pub record Collecting (s : List ℕ) (from : ℕ) (f t : List ℕ) (k c : ℕ) : Type 0 where
  pub kept : (m : ℕ) → m ≤ k → first_names (nodes_at s from) m ≡ listed m (word_at 0 s f t) []
  pub ahead : (j : ℕ) → first_names (nodes_at s from) (k + j) ≡ listed k (word_at 0 s f t) (first_names (nodes_at s c) j)

pub collect_none : (s : List ℕ) (from : ℕ) (f t : List ℕ) → Collected s from f t 0
unfolding listed
collect_none s from f t m h = let z : m ≡ 0 = omega arith in rw z (first_none (nodes_at s from))

pub collect_start : (s : List ℕ) (from : ℕ) (f t : List ℕ) → Collecting s from f t 0 from
unfolding listed
collect_start s from f t = record { kept = collect_none s from f t; ahead = λ j. let z : 0 + j ≡ j = omega arith in rw z }

module _ {s : List ℕ} {from : ℕ} {f t g u : List ℕ} {k c : ℕ} {r : Child} (i : Collecting s from f t k c) (a : ChildAt s c r) (h : r.there ≡ true) (p : Keeps f t k r.name r.name_end g u) where
  ahead_more : (j : ℕ) → first_names (nodes_at s from) (k + 1 + j) ≡ listed (k + 1) (word_at 0 s g u) (first_names (nodes_at s r.next) j)
  ahead_more j =
      let z : k + 1 + j ≡ k + (j + 1) = omega arith in
      let n : first_names (nodes_at s c) (j + 1) ≡ upper (name_of s r.name r.name_end) ∷ first_names (nodes_at s r.next) j =
      skipped (λ (kids : Nodes). first_names kids (j + 1)) (skips_first (j + 1)) (nodes_at s c) ∙ ap (λ (kids : Nodes). first_names kids (j + 1)) (a.some h) ∙ first_more _ _ _ _ _ j in
      let w : upper (name_of s r.name r.name_end) ≡ upper (rest 0 (take r.name_end s) r.name) = rw (rest_part s r.name r.name_end) in
      rw z (i.ahead (j + 1) ∙ rw (n, w) (keeps_more 0 s p (first_names (nodes_at s r.next) j)))

  pub collect_more : Collecting s from g u (k + 1) r.next
  collect_more = record { kept = λ m l. go m l (eqb m (k + 1)) refl; ahead = ahead_more }
    where
      go : (m : ℕ) → m ≤ k + 1 → (b : Bool) → eqb m (k + 1) ≡ b → first_names (nodes_at s from) m ≡ listed m (word_at 0 s g u) []
      go m l true e = let z : m ≡ k + 1 + 0 = omega (arith, eqb-true m (k + 1) e) in let y : k + 1 + 0 ≡ k + 1 = omega arith in rw z (ahead_more 0 ∙ rw (first_none (nodes_at s r.next), y))
      go m l false e = let n : m ≤ k = omega (arith, eqb-false m (k + 1) e) in i.kept m n ∙ listed_same m (word_at 0 s f t) (word_at 0 s g u) [] (λ j q. keeps_others 0 s p j (omega arith))
