-- Laws of what specs/Lists.antt defines.
--     every_both, every_always, every_weaker, every-and, every_map    laws of `every`
--     word_passes                 what every word of a list passes, a word of the list passes
--     none_holds_lem, all_joined  what is written of each of a list, joined
use Rattle.std.specs.Prelude.{◌≡◌, Bool, true, false, ℕ}
use Rattle.std.proofs.Math.Path.{refl}
use Rattle.std.proofs.Common.{ap, ◌∙◌}
use Rattle.std.proofs.lemmas.Bool.{false≢true}
use mathlib.Core.List.{List, [], ◌∷◌, map}
use Rattle.octets.specs.Pick.{pick, ◌and◌, ◌or◌}
use Rattle.octets.specs.laws.Pick.{and_both, and_yes}
use Rattle.octets.specs.Scan.{all_of}
use Rattle.octets.specs.laws.Scan.{all_append}
use Rattle.octets.specs.Words.{same, is_one_of, holds, none_holds, each_after, joined_by}
use Rattle.octets.specs.laws.Words.{same_true}
use Rattle.octets.specs.Lists.{every}

module _ {A : Type 0} where
  pub every_both : (p : A → Bool) (a : A) (l : List A) → every p (a ∷ l) ≡ true → (p a ≡ true) × (every p l ≡ true)
  unfolding every
  every_both p a l h = and_both (p a) (every p l) h

  pub every_always : (p : A → Bool) → ((a : A) → p a ≡ true) → (l : List A) → every p l ≡ true
  unfolding every ◌and◌
  every_always p f [] = refl
  every_always p f (a ∷ l) = rw (f a) (every_always p f l)

  -- what passes a test passes a weaker one
  pub every_weaker : (p q : A → Bool) → ((a : A) → p a ≡ true → q a ≡ true) → (l : List A) → every p l ≡ true → every q l ≡ true
  unfolding every ◌and◌
  every_weaker p q f [] h = refl
  every_weaker p q f (a ∷ l) h = let e = every_both p a l h in rw (f a e.0) (every_weaker p q f l e.1)

  -- what passes two tests passes both together
  pub every-and : (p q : A → Bool) (l : List A) → every p l ≡ true → every q l ≡ true → every (λ a. p a and q a) l ≡ true
  unfolding every
  every-and p q [] h k = refl
  every-and p q (a ∷ l) h k =
      let d = every_both p a l h in
      let e = every_both q a l k in
      and_yes _ _ (and_yes _ _ d.0 e.0) (every-and p q l d.1 e.1)

  pub every_map : {B : Type 0} (p : B → Bool) (f : A → B) (l : List A) → every p (map f l) ≡ every (λ a. p (f a)) l
  unfolding every
  every_map p f [] = refl
  every_map p f (a ∷ l) = rw (every_map p f l)

pub word_passes : (p : List ℕ → Bool) (ws : List (List ℕ)) (w : List ℕ) → every p ws ≡ true → is_one_of w ws ≡ true → p w ≡ true
unfolding every is_one_of ◌or◌
word_passes p [] w a h = absurd (false≢true h)
word_passes p (x ∷ ws) w a h = let q = every_both p x ws a in go (same w x) refl q.0 h (word_passes p ws w q.1)
  where
    go : (t : Bool) → same w x ≡ t → p x ≡ true → (t or is_one_of w ws) ≡ true → (is_one_of w ws ≡ true → p w ≡ true) → p w ≡ true
    go true e b k ih = ap p (same_true w x e) ∙ b
    go false e b k ih = ih k

-- pieces of a class that does not have the separator, and what is joined of pieces
module _ {A : Type 0} (q : A → Bool) (writing : A → List ℕ) where
  pub none_holds_lem : (c : ℕ) → ((a : A) → q a ≡ true → holds c (writing a) ≡ false) → (l : List A) → every q l ≡ true → none_holds c (map writing l) ≡ true
  unfolding every none_holds pick
  none_holds_lem c k [] h = refl
  none_holds_lem c k (a ∷ l) h = let e = every_both q a l h in rw (k a e.0) (none_holds_lem c k l e.1)

  all_after : (p : ℕ → Bool) (c : ℕ) → p c ≡ true → ((a : A) → q a ≡ true → all_of p (writing a) ≡ true) → (l : List A) → every q l ≡ true → all_of p (each_after c (map writing l)) ≡ true
  unfolding every each_after all_of pick
  all_after p c b k [] h = refl
  all_after p c b k (a ∷ l) h =
      let e = every_both q a l h in
      rw b (all_append p (writing a) (each_after c (map writing l)) (k a e.0) (all_after p c b k l e.1))

  pub all_joined : (p : ℕ → Bool) (c : ℕ) → p c ≡ true → ((a : A) → q a ≡ true → all_of p (writing a) ≡ true) → (l : List A) → every q l ≡ true → all_of p (joined_by c (map writing l)) ≡ true
  unfolding every joined_by all_of
  all_joined p c b k [] h = refl
  all_joined p c b k (a ∷ l) h =
      let e = every_both q a l h in
      all_append p (writing a) (each_after c (map writing l)) (k a e.0) (all_after p c b k l e.1)
