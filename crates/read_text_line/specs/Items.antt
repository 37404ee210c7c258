-- The items that a repetition reads before it ends or meets a fault: whoever walks them again needs not to know that there is no fault.
--     items p s       the items read by p from the front of s, until there is none or a fault
use Rattle.std.specs.Prelude.{ℕ, zero, suc, List, [], ◌∷◌, cond, ltb, length}
use Rattle.octets.specs.Many.{One, got, bad}

module _ {A : Type 0} where
  -- as with `many`, an item that takes no byte is a fault
  unfoldable pub items_by : One A → (List ℕ → List A) → List ℕ → List A
  items_by (got a r) self xs = cond (ltb (length r) (length xs)) (a ∷ self r) []
  items_by One.none self xs = []
  items_by (bad r) self xs = []

  unfoldable pub items_in : ℕ → (List ℕ → One A) → List ℕ → List A
  items_in zero p xs = []
  items_in (suc k) p xs = items_by (p xs) (items_in k p) xs

  unfoldable pub items : (List ℕ → One A) → List ℕ → List A
  items p xs = items_in (suc (length xs)) p xs
