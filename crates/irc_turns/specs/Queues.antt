-- Numbers in a queue, each once.
use Rattle.std.specs.Prelude.{◌≡◌, ◌≤◌, ℕ, Bool, true, false, not, nat_eq, if◌then◌else◌, List, []}
use Rattle.std.specs.Prelude.{◌∷◌}
use Rattle.std.specs.Prelude.{◌++◌, length, take, drop, filter, slice_index_or, count_by}
use Rattle.std.specs.List.{list_any}
use Rattle.std.specs.VecDeque.{deque_capacity}
use Rattle.std.specs.declared.collections.VecDeque.{VecDeque}

-- the numbers in turn; and below which number there is room for each
pub record Queued : Type 0 where
  pub numbers : List ℕ
  pub room : ℕ

abbrev pub stands_in : ℕ → List ℕ → Bool
stands_in number queue = list_any (λ other. nat_eq other number) queue

-- a number stands behind the others, unless it stands among them
abbrev pub queued_behind : ℕ → List ℕ → List ℕ
queued_behind number queue = if stands_in number queue then queue else queue ++ number ∷ []

abbrev pub queue_without : ℕ → List ℕ → List ℕ
queue_without number queue = filter (λ other. not (nat_eq other number)) queue

-- a number stands in it from now on, or does not
abbrev pub queued_as : Bool → ℕ → List ℕ → List ℕ
queued_as true number queue = queued_behind number queue
queued_as false number queue = queue_without number queue

-- those who are first in a queue stand behind the others
abbrev pub turned_queue : ℕ → List ℕ → List ℕ
turned_queue count queue = drop count queue ++ take count queue

-- whether a number is first in a queue
abbrev pub is_first : ℕ → List ℕ → Bool
is_first number [] = false
is_first number (first ∷ behind) = nat_eq first number

-- ---- how it is kept

abbrev pub times : ℕ → List ℕ → ℕ
times number queue = count_by (λ other. nat_eq other number) queue

abbrev pub is_marked : List Bool → ℕ → Bool
is_marked marks number = slice_index_or marks number false

-- a number that is marked stands in it once, and no other does; all that have a mark have room
pub record IsMarked {Z : Type 0} (order : VecDeque ℕ Z) (marks : List Bool) : Type 0 where
  pub once :
      (number : ℕ) → times number order.items ≡ (if is_marked marks number then 1 else 0)
  pub room : length marks ≤ deque_capacity order
