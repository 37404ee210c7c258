-- An order of words' numbers, which shows that no two of the words are the same.
--     Rising w o n       the words of the first n numbers of o rise: each goes before the next
--     Ranked o k m n     each number below m stands in o, at the place that k has for it, below n
use Rattle.std.specs.Prelude.{◌≡◌, List, ℕ, ◌+◌, ◌<◌, get_or}
use Rattle.distinct.specs.Order.{order}

pub record Rising (w : ℕ → List ℕ) (o : List ℕ) (n : ℕ) : Type 0 where
  pub next : (i : ℕ) → i + 1 < n → order (w (get_or o i 0)) (w (get_or o (i + 1) 0)) ≡ 1

pub record Ranked (o k : List ℕ) (m n : ℕ) : Type 0 where
  pub below : (p : ℕ) → p < m → get_or k p 0 < n
  pub there : (p : ℕ) → p < m → get_or o (get_or k p 0) 0 ≡ p
