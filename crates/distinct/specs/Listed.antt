-- Words by their numbers.
--     word_at m s from to i     the word of the number i: what stands in s from from[i] up to to[i], in capitals
--     listed n w more        the first n of the words w, and more behind them
use Rattle.std.specs.Prelude.{List, ◌∷◌, ℕ, zero, suc, get_or, take}
use Rattle.octets.specs.Class.{upper}
use Rattle.source.specs.Source.{rest}

unfoldable pub word_at : ℕ → List ℕ → List ℕ → List ℕ → ℕ → List ℕ
word_at m s from to i = upper (rest m (take (get_or to i 0) s) (get_or from i 0))

unfoldable pub listed : ℕ → (ℕ → List ℕ) → List (List ℕ) → List (List ℕ)
listed zero w more = more
listed (suc n) w more = listed n w (w n ∷ more)
