-- Numbers of clients are never given again.
use Rattle.std.proofs.Common.{◌≡◌, ℕ, zero, suc, Option, Some, None, List, [], ◌∷◌, ◌++◌, refl, ap}
use Rattle.std.proofs.Common.{◌∙◌}
use Rattle.std.specs.Option.{option_map_or}
use Rattle.irc_relay.specs.Links.{Name}
use Rattle.irc_line.specs.Reading.{read_of}
use Rattle.irc_stage.specs.Handle.{ClientEvent, says, goes}
use Rattle.irc_world.specs.World.{Setting, World, home_in, home_of}
use Rattle.irc_world.specs.Stepping.{Item, connect, line, gone, link, cut, step, still, by_machine}
use Rattle.irc_world.specs.Stepping.{by_client}
use Rattle.irc_world.specs.Numbers.{NumbersStay, NextNumberIsNew}
use Rattle.irc_world.specs.Lemmas.HomesAdded.{still_home}
use Rattle.irc_world.proofs.ServedAlone.{past_end}

one_more_home : (homes : List Name) (new : Name) (client : ℕ) (home : Name)
    → home_in homes client ≡ Some home → home_in (homes ++ new ∷ []) client ≡ Some home
one_more_home homes new zero home is = absurd (cc is)
one_more_home homes new (suc earlier) home is = still_home homes new earlier home is

same_homes : (settings : List Setting) (world : World) (actor : ℕ) (client_event : ClientEvent)
    → (by_client settings world actor client_event).state.homes ≡ world.homes
same_homes settings world actor client_event = by (home_of world actor)
  where
    by : (o : Option Name) → (option_map_or (λ home. by_machine settings world home client_event) o
        (still world)).state.homes ≡ world.homes
    by None = refl
    by (Some home) = refl

step_keeps : (settings : List Setting) (world : World) (item : Item) (client : ℕ) (home : Name)
    → home_of world client ≡ Some home → home_of (step settings world item).state client ≡ Some home
unfolding step
step_keeps settings world (connect server host) client home is =
    one_more_home world.homes server client home is
step_keeps settings world (line actor bytes) client home is = ap (λ homes. home_in homes client)
    (same_homes settings world actor (says actor (read_of bytes))) ∙ is
step_keeps settings world (gone actor) client home is =
    ap (λ homes. home_in homes client) (same_homes settings world actor (goes actor)) ∙ is
step_keeps settings world (link near far) client home is = is
step_keeps settings world (cut near far) client home is = is

pub numbers_stay : NumbersStay
numbers_stay settings world [] client home is = is
numbers_stay settings world (item ∷ items) client home is =
    numbers_stay settings (step settings world item).state items client home
    (step_keeps settings world item client home is)

pub next_number_is_new : NextNumberIsNew
next_number_is_new world = past_end world.homes
