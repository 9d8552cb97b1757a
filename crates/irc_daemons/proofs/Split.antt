-- Items of two parts of a turn.
use Rattle.std.proofs.Common.{◌≡◌, ℕ, true, List, [], ◌∷◌, ◌++◌, refl, ◌∙◌, ap}
use Rattle.irc_relay.specs.Links.{Name}
use Rattle.irc_world.specs.Stepping.{Item}
use Rattle.irc_server.specs.declared.event.Event.{Event}
use Rattle.irc_daemons.specs.Daemons.{Daemons}
use Rattle.irc_daemons.specs.Items.{AreItems, IsItem, is_one, is_passed, is_link_line, no_item}

module _ {W : Type 0} (names : List Name) (daemons : Daemons W) (place : ℕ) where
  pub record IsSplit (one two : List Event) (items : List Item) : Type 0 where
    pub front : List Item
    pub back : List Item
    pub are : items ≡ front ++ back
    pub first_are : AreItems names daemons place one front
    pub second_are : AreItems names daemons place two back

  -- what the first of some events is
  pub data FirstIs (event : Event) (rest : List Event) (items : List Item) : Type 0 where
    is_link_text : is_link_line event ≡ true → AreItems names daemons place rest items
        → FirstIs event rest items
    is_first : (item : Item) (more : List Item) → items ≡ item ∷ more
        → IsItem names daemons place event item → AreItems names daemons place rest more
        → FirstIs event rest items

  pub first_of : (event : Event) (rest : List Event) (items : List Item)
      → AreItems names daemons place (event ∷ rest) items → FirstIs event rest items
  first_of event rest items (is_passed e es xs is_link more) = is_link_text is_link more
  first_of event rest items (is_one e es item xs is more) = is_first item xs refl is more

  pub split : (one two : List Event) (items : List Item)
      → AreItems names daemons place (one ++ two) items → IsSplit one two items
  split [] two items all =
      record { front = []; back = items; are = refl; first_are = no_item; second_are = all }
  split (event ∷ one) two items all =
      by (first_of event (one ++ two) items all) (λ more rest. split one two more rest)
    where
      passed : is_link_line event ≡ true → IsSplit one two items → IsSplit (event ∷ one) two items
      passed is_link rest = record {
        front = rest.front;
        back = rest.back;
        are = rest.are;
        first_are = is_passed event one rest.front is_link rest.first_are;
        second_are = rest.second_are;
      }

      given : (item : Item) (more : List Item) → items ≡ item ∷ more
          → IsItem names daemons place event item → IsSplit one two more
          → IsSplit (event ∷ one) two items
      given item more are is rest = record {
        front = item ∷ rest.front;
        back = rest.back;
        are = are ∙ ap (λ xs. item ∷ xs) rest.are;
        first_are = is_one event one item rest.front is rest.first_are;
        second_are = rest.second_are;
      }

      by : FirstIs event (one ++ two) items → ((more : List Item) → AreItems names daemons place
          (one ++ two) more → IsSplit one two more) → IsSplit (event ∷ one) two items
      by (is_link_text is_link more) later = passed is_link (later items more)
      by (is_first item more are is rest) later = given item more are is (later more rest)
