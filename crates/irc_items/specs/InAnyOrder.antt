-- By an item each client receives what one room sends it, in whatever order the lines are delivered
-- that servers tell each other.
--
-- al (1) and an (2) are at a.net, where al made #c; bo (3) and cy (4) at b.net, where bo made #c;
-- then the two are linked. Their bursts cross, in twenty orders; in each
--   al receives  `:bo!u@h JOIN #c`, `:a.net MODE #c +o bo`
--   bo receives  `:al!u@h JOIN #c`, `:b.net MODE #c +o al`
--   an and cy    nothing
--
-- al (1) at a.net, bo (2) at b.net and cy (3) at c.net, which are in a line, are in #c and #d,
-- which al made; then the link of a.net and b.net is lost, and is back. In whatever order lines are
-- delivered each time
--   al receives  `:bo!u@h QUIT :a.net b.net`, `:cy!u@h QUIT :a.net b.net`, and then
--                `:bo!u@h JOIN #c`, `:cy!u@h JOIN #c`, `:bo!u@h JOIN #d`, `:cy!u@h JOIN #d`
--   bo receives  `:al!u@h QUIT :b.net a.net`, and then `:al!u@h JOIN #c`, `:b.net MODE #c +o al`,
--                `:al!u@h JOIN #d`, `:b.net MODE #d +o al`
--   cy receives  the same, with the flags by c.net
--
-- zed is at a.net (2) and another zed at b.net (4); al (1) shares a channel with the first, bo (3)
-- with the other; then the two servers are linked. Whatever crosses
--   al receives  `:zed!u@h QUIT :Killed (Nick collision)`, and so does bo
--   both zeds    `ERROR :Closing link (Killed (Nick collision))`
use Rattle.std.specs.Prelude.{◌≡◌, ℕ, true, Some, [], ◌∷◌, ◌++◌, codes}
use Rattle.irc_line.specs.Bytes.{crlf}
use Rattle.irc_world.specs.Networks.{als_people, bos_people, cut_off, in_a_line, three_people}
use Rattle.irc_world.specs.Networks.{three_peers, two_apart, with_other_zed, with_zed}
use Rattle.irc_world.specs.Stepping.{Item, cut, link, step}
use Rattle.irc_network.specs.Network.{Progress, Network, begun, delivered, given, is_at_rest}
use Rattle.irc_network.specs.Network.{received_by}
use Rattle.irc_items.specs.Laws.{IsGivenAtRest}
use Rattle.irc_items.specs.SetUp.{settings_of}
use Rattle.irc_items.specs.Sound.{world_now, IsSound}

-- some lines are delivered, one after another, each by some link
pub data IsReached : Network → Network → Type 0 where
  none_yet : {net : Network} → IsReached net net
  one_more : {first between : Network} {last : Progress Network} (from to : ℕ)
      → IsReached first between → delivered from to (begun between) ≡ Some last
      → IsReached first last.state

-- an item is given, and lines are delivered until none is on its way
pub record IsThrough (net new : Network) (item : Item) : Type 0 where
  pub sound : IsSound net
  pub given_so : IsGivenAtRest net item
  pub reached : IsReached (given item net).state new
  pub rest : is_at_rest new ≡ true

abbrev pub ItemIsReceived : Type 0
ItemIsReceived = (net new : Network) (item : Item) (client : ℕ) → IsThrough net new item
    → received_by new client ≡ received_by net client
    ++ (step (settings_of net) (world_now net) item).out client

-- ---- bursts that cross

-- al and an are at a.net, and bo and cy at b.net
pub record ArePeopleApart (net : Network) : Type 0 where
  pub sound : IsSound net
  pub rest : is_at_rest net ≡ true
  pub settings : settings_of net ≡ three_peers
  pub world : world_now net ≡ two_apart als_people bos_people

-- what each receives by the link
pub record HavePeopleMet (net new : Network) : Type 0 where
  pub to_al : received_by new 1 ≡ received_by net 1 ++ (codes ":bo!u@h JOIN #c" ++ crlf)
      ∷ (codes ":a.net MODE #c +o bo" ++ crlf) ∷ []
  pub to_an : received_by new 2 ≡ received_by net 2
  pub to_bo : received_by new 3 ≡ received_by net 3 ++ (codes ":al!u@h JOIN #c" ++ crlf)
      ∷ (codes ":b.net MODE #c +o al" ++ crlf) ∷ []
  pub to_cy : received_by new 4 ≡ received_by net 4

abbrev pub CrossingBurstsMeet : Type 0
CrossingBurstsMeet = (net new : Network) → ArePeopleApart net
    → IsReached (given (link (codes "a.net") (codes "b.net")) net).state new → is_at_rest new ≡ true
    → HavePeopleMet net new

-- ---- a link that is lost, and is back

-- al is at a.net, bo at b.net and cy at c.net, in a line
pub record ArePeopleInALine (net : Network) : Type 0 where
  pub sound : IsSound net
  pub rest : is_at_rest net ≡ true
  pub settings : settings_of net ≡ three_peers
  pub world : world_now net ≡ in_a_line three_people

-- the same, with no link between a.net and b.net any more
pub record ArePeopleParted (net : Network) : Type 0 where
  pub sound : IsSound net
  pub rest : is_at_rest net ≡ true
  pub settings : settings_of net ≡ three_peers
  pub world : world_now net ≡ cut_off.state

-- what each receives by the loss, and what is left
pub record IsRoomParted (net new : Network) : Type 0 where
  pub to_al : received_by new 1 ≡ received_by net 1 ++ (codes ":bo!u@h QUIT :a.net b.net" ++ crlf)
      ∷ (codes ":cy!u@h QUIT :a.net b.net" ++ crlf) ∷ []
  pub to_bo : received_by new 2 ≡ received_by net 2
      ++ (codes ":al!u@h QUIT :b.net a.net" ++ crlf) ∷ []
  pub to_cy : received_by new 3 ≡ received_by net 3
      ++ (codes ":al!u@h QUIT :b.net a.net" ++ crlf) ∷ []
  pub parted : ArePeopleParted new

abbrev pub SplitPartsTheRoom : Type 0
SplitPartsTheRoom = (net new : Network) → ArePeopleInALine net
    → IsReached (given (cut (codes "a.net") (codes "b.net")) net).state new → is_at_rest new ≡ true
    → IsRoomParted net new

-- what each receives by the link that is back
pub record AreRoomsJoined (net new : Network) : Type 0 where
  pub to_al : received_by new 1 ≡ received_by net 1
      ++ (codes ":bo!u@h JOIN #c" ++ crlf) ∷ (codes ":cy!u@h JOIN #c" ++ crlf)
      ∷ (codes ":bo!u@h JOIN #d" ++ crlf) ∷ (codes ":cy!u@h JOIN #d" ++ crlf) ∷ []
  pub to_bo : received_by new 2 ≡ received_by net 2
      ++ (codes ":al!u@h JOIN #c" ++ crlf) ∷ (codes ":b.net MODE #c +o al" ++ crlf)
      ∷ (codes ":al!u@h JOIN #d" ++ crlf)
      ∷ (codes ":b.net MODE #d +o al" ++ crlf) ∷ []
  pub to_cy : received_by new 3 ≡ received_by net 3
      ++ (codes ":al!u@h JOIN #c" ++ crlf) ∷ (codes ":c.net MODE #c +o al" ++ crlf)
      ∷ (codes ":al!u@h JOIN #d" ++ crlf)
      ∷ (codes ":c.net MODE #d +o al" ++ crlf) ∷ []

abbrev pub RejoinJoinsTheRooms : Type 0
RejoinJoinsTheRooms = (net new : Network) → ArePeopleParted net
    → IsReached (given (link (codes "a.net") (codes "b.net")) net).state new → is_at_rest new ≡ true
    → AreRoomsJoined net new

-- ---- a nickname on both sides

-- a zed is at a.net, and another at b.net
pub record AreZedsApart (net : Network) : Type 0 where
  pub sound : IsSound net
  pub rest : is_at_rest net ≡ true
  pub settings : settings_of net ≡ three_peers
  pub world : world_now net ≡ two_apart with_zed with_other_zed

-- what each receives by the link: the two are killed, and nobody sees anybody come
pub record AreZedsGone (net new : Network) : Type 0 where
  pub to_al : received_by new 1 ≡ received_by net 1
      ++ (codes ":zed!u@h QUIT :Killed (Nick collision)" ++ crlf) ∷ []
  pub to_zed : received_by new 2 ≡ received_by net 2
      ++ (codes "ERROR :Closing link (Killed (Nick collision))" ++ crlf) ∷ []
  pub to_bo : received_by new 3 ≡ received_by net 3
      ++ (codes ":zed!u@h QUIT :Killed (Nick collision)" ++ crlf) ∷ []
  pub to_other_zed : received_by new 4 ≡ received_by net 4
      ++ (codes "ERROR :Closing link (Killed (Nick collision))" ++ crlf) ∷ []

abbrev pub ClashingNicknamesGo : Type 0
ClashingNicknamesGo = (net new : Network) → AreZedsApart net
    → IsReached (given (link (codes "a.net") (codes "b.net")) net).state new → is_at_rest new ≡ true
    → AreZedsGone net new
