-- Laws of what specs/Keeping.antt defines.
--     keeps                  a cut that was kept
--     keeps_there, keeps_not     what code does is `KeepsIf`, with room and without it
--     keeps_more             so there is one word more;   keeps_others: and those before it stay
use Rattle.std.specs.Prelude.{◌≡◌, refl, false, List, ◌∷◌, ℕ, ◌+◌, ◌<◌, ltb, length, take, set}
use Rattle.std.proofs.Math.Path.{sym}
use Rattle.std.proofs.Common.{ap, ◌∙◌, arith}
use Rattle.std.proofs.Math.Bool.{true}
use Rattle.std.proofs.Math.Seq.{get_or-set_same, get_or-set_other}
use borrow.Author.Tests.{lt-ltb, ltb-true}
use Rattle.octets.specs.Pick.{pick, ◌and◌}
use Rattle.octets.specs.laws.Pick.{and_yes, and_both}
use Rattle.octets.specs.Class.{upper}
use Rattle.source.specs.Source.{rest}
use Rattle.distinct.specs.Listed.{word_at, listed}
use Rattle.distinct.specs.laws.Listed.{listed_next, listed_same}
use Rattle.distinct.specs.Keeping.{has_room, KeepsIf, Keeps}

module _ {f t : List ℕ} {k a e : ℕ} where
  pub keeps_not : has_room f t k a e ≡ false → KeepsIf f t k a e f t false
  unfolding pick
  keeps_not h = record { kept = sym h; first = rw h; last = rw h }

  pub keeps_there : a < 65536 → e < 65536 → k < length f → k < length t → KeepsIf f t k a e (set f k a) (set t k e) true
  unfolding pick
  keeps_there x y v w = record { kept = sym h; first = rw h; last = rw h }
    where
      h : has_room f t k a e ≡ true
      h = and_yes _ _ (lt-ltb a 65536 x) (and_yes _ _ (lt-ltb e 65536 y) (and_yes _ _ (lt-ltb k (length f) v) (lt-ltb k (length t) w)))

  pub keeps : {g u : List ℕ} {r : _} → KeepsIf f t k a e g u r → r ≡ true → Keeps f t k a e g u
  unfolding pick
  keeps p h = record { room = ltb-true k (length f) z.0; place = ltb-true k (length t) z.1; first = p.first ∙ rw room; last = p.last ∙ rw room }
    where
      room : has_room f t k a e ≡ true
      room = sym p.kept ∙ h

      z : (ltb k (length f) ≡ true) × (ltb k (length t) ≡ true)
      z = and_both _ _ (and_both _ _ (and_both _ _ room).1).1

module _ (m : ℕ) (s : List ℕ) {f t g u : List ℕ} {k a e : ℕ} (p : Keeps f t k a e g u) where
  here : word_at m s g u k ≡ upper (rest m (take e s) a)
  unfolding word_at
  here = rw (p.first, p.last, get_or-set_same f k a 0 p.room, get_or-set_same t k e 0 p.place)

  pub keeps_others : (i : ℕ) → i < k → word_at m s f t i ≡ word_at m s g u i
  unfolding word_at
  keeps_others i l = rw (p.first, p.last, get_or-set_other f k i a 0 (λ z. omega arith), get_or-set_other t k i e 0 (λ z. omega arith))

  pub keeps_more : (more : List (List ℕ)) → listed k (word_at m s f t) (upper (rest m (take e s) a) ∷ more) ≡ listed (k + 1) (word_at m s g u) more
  keeps_more more =
      listed_same k (word_at m s f t) (word_at m s g u) (upper (rest m (take e s) a) ∷ more) keeps_others ∙
      ap (λ (w : List ℕ). listed k (word_at m s g u) (w ∷ more)) (sym here) ∙
      sym (listed_next k (word_at m s g u) more)
