-- What is owed, and what the world is, by one item more.
use Rattle.std.proofs.Common.{◌≡◌, ℕ, None, List, [], ◌∷◌, ◌++◌, refl, sym, ◌∙◌, ap}
use Rattle.std.proofs.lemmas.List.{append-nil, append_assoc}
use Rattle.std.specs.List.{AllByRecursion}
use Rattle.irc_world.specs.Bounds.{most}
use Rattle.irc_world.specs.Owed.{after_items, owed_by_network, owed_from, world_of}
use Rattle.irc_world.specs.Refused.{refused}
use Rattle.irc_world.specs.Sound.{AreTaken}
use Rattle.irc_world.specs.Stepping.{Item, step}
use Rattle.irc_world.specs.World.{Setting, World, new_world}
use Rattle.irc_items.specs.Sound.{most_of_last}

-- ---- from any world

after_more : (settings : List Setting) (items : List Item) (world : World) (item : Item)
    → after_items settings world (items ++ item ∷ [])
    ≡ (step settings (after_items settings world items) item).state
after_more settings [] world item = refl
after_more settings (first ∷ items) world item =
    after_more settings items (step settings world first).state item

owed_after : (settings : List Setting) (items : List Item) (world : World) (item : Item)
    (client : ℕ) → owed_from settings world (items ++ item ∷ []) client
    ≡ owed_from settings world items client
    ++ (step settings (after_items settings world items) item).out client
owed_after settings [] world item client = append-nil ((step settings world item).out client)
owed_after settings (first ∷ items) world item client =
    ap (λ lines. (step settings world first).out client ++ lines)
    (owed_after settings items next item client)
    ∙ sym (append_assoc ((step settings world first).out client)
    (owed_from settings next items client)
    ((step settings (after_items settings next items) item).out client))
  where
    next : World
    next = (step settings world first).state

most_after : (settings : List Setting) (items : List Item) (world : World) (item : Item)
    → most_of_last settings world (items ++ item ∷ []) ≡ most settings
    (after_items settings world items) item
most_after settings [] world item = refl
most_after settings (first ∷ []) world item = refl
most_after settings (first ∷ second ∷ items) world item =
    most_after settings (second ∷ items) (step settings world first).state item

taken_after : (settings : List Setting) (items : List Item) (world : World) (item : Item)
    → AreTaken settings world items → refused settings (after_items settings world items) item
    ≡ None → AreTaken settings world (items ++ item ∷ [])
taken_after settings [] world item taken not_refused = record { now = not_refused; later = tt }
taken_after settings (first ∷ items) world item taken not_refused =
    record {
      now = taken.now;
      later = taken_after settings items
          (step settings world first).state item taken.later not_refused;
    }

-- ---- from the beginning

pub world_more : (settings : List Setting) (items : List Item) (item : Item)
    → world_of settings (items ++ item ∷ []) ≡ (step settings (world_of settings items) item).state
world_more settings items item = after_more settings items new_world item

pub owed_more : (settings : List Setting) (items : List Item) (item : Item) (client : ℕ)
    → owed_by_network settings (items ++ item ∷ []) client
    ≡ owed_by_network settings items client
    ++ (step settings (world_of settings items) item).out client
unfolding owed_by_network
owed_more settings items item client = owed_after settings items new_world item client

pub most_more : (settings : List Setting) (items : List Item) (item : Item) → most_of_last settings
    new_world (items ++ item ∷ []) ≡ most settings (world_of settings items) item
most_more settings items item = most_after settings items new_world item

pub taken_more : (settings : List Setting) (items : List Item) (item : Item)
    → AreTaken settings new_world items → refused settings (world_of settings items) item ≡ None
    → AreTaken settings new_world (items ++ item ∷ [])
taken_more settings items item taken not_refused =
    taken_after settings items new_world item taken not_refused

pub each_more : {A : Type 0} (P : A → Type 0) (xs : List A) (x : A) → AllByRecursion P xs → P x
    → AllByRecursion P (xs ++ x ∷ [])
each_more P [] x all one = (one, tt)
each_more P (first ∷ xs) x all one = (all.0, each_more P xs x all.1 one)
