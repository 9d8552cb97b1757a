-- Small networks, by example: how many lines servers need at most, what comes first, and what each
-- server knows.
use Rattle.std.specs.Prelude.{◌≡◌, ℕ, true, false, Some, List, [], ◌∷◌, ◌++◌, codes}
use Rattle.irc_names.specs.Fold.{key}
use Rattle.irc_line.specs.Bytes.{crlf}
use Rattle.irc_modes.specs.declared.modes.ModeLetter.TheVariants as letter
use Rattle.irc_room.specs.effect.By.TheVariants as by
use Rattle.irc_room.specs.effect.Effect.{Effect}
use Rattle.irc_room.specs.effect.Effect.TheVariants.{Join, ChangeModes, SetTopic, Invite}
use Rattle.irc_room.specs.Examples.{set}
use Rattle.irc_room.specs.Readers.{is_invited_at}
use Rattle.irc_relay.specs.Links.{Link, links_without}
use Rattle.irc_routes.specs.About.{About, says}
use Rattle.irc_routes.specs.Place.{KnownServer, Place}
use Rattle.irc_stage.specs.declared.clients.Client.{Client}
use Rattle.irc_stage.specs.declared.clients.Client.TheVariants.{Registered}
use Rattle.irc_world.specs.World.{Setting, Hall, World, new_world, with_hall, place_at}
use Rattle.irc_world.specs.Stepping.{connect, line, gone, link, cut, Stepped, step}
use Rattle.irc_world.specs.Refused.{refused, link_refused}
use Rattle.irc_world.specs.Bounds.{most}
use Rattle.irc_world.specs.Parts.{view_at}
use Rattle.irc_world.specs.Examples.{with_peers, peer}
use Rattle.irc_world.specs.Networks.{three_peers, on_a, on_b, on_c, hall_after, two_apart, a_to_b}
use Rattle.irc_world.specs.Networks.{b_to_c, als_people, bos_people, als_room, bos_room}
use Rattle.irc_world.specs.Networks.{zeds_clients, zed_quits, with_zed, with_other_zed, in_a_line}
use Rattle.irc_world.specs.Networks.{three_people, cut_off}

-- ---- how many lines servers need

-- a.net, b.net, c.net and d.net, of which each is a peer of the next
abbrev pub four_peers : List Setting
four_peers =
    with_peers (codes "a.net") (peer (codes "b.net") (codes "pw") ∷ [])
    ∷ with_peers (codes "b.net")
    (peer (codes "a.net") (codes "pw") ∷ peer (codes "c.net") (codes "pw") ∷ [])
    ∷ with_peers (codes "c.net")
    (peer (codes "b.net") (codes "pw") ∷ peer (codes "d.net") (codes "pw") ∷ [])
    ∷ with_peers (codes "d.net") (peer (codes "c.net") (codes "pw") ∷ [])
    ∷ []

abbrev pub c_to_d : Link
c_to_d = record { near = codes "c.net"; far = codes "d.net" }

abbrev pub links_of_pairs : List Link
links_of_pairs = c_to_d ∷ a_to_b ∷ []

-- cy (3) on c.net, in no channel
abbrev pub cys_doings : List Effect
cys_doings = on_c (codes "cy") ∷ []

abbrev pub cys_hall : Hall
cys_hall = hall_after ((3, Registered (codes "cy")) ∷ []) cys_doings

-- a.net and b.net with al's people, and c.net and d.net with cy
abbrev pub two_pairs : World
two_pairs =
    with_hall (codes "a.net") als_people (with_hall (codes "c.net") cys_hall (record new_world {
      links = links_of_pairs;
      homes = codes "a.net" ∷ codes "a.net" ∷ codes "c.net" ∷ [];
    }))

abbrev pub pairs_linked : World
pairs_linked = (step four_peers two_pairs (link (codes "b.net") (codes "c.net"))).state

-- How many lines servers need at most: for the first link of two servers; for a link of two on
-- each of which there are two people and a channel; where a nickname is on both sides; for a text,
-- and for who leaves, which two other servers are told of; for a lost link, of which one server is
-- told; and for that link when it is back. Of two pairs that are linked one tells of two servers,
-- two people and a channel, and the other of two servers and one: five lines and three, each once
-- to either server there and once more for an answer, and two PASS. Once that link is lost, either
-- end tells its neighbour of two servers. Of who has but connected no other server is told.
pub record LinesAtMost : Type 0 where
  pub first_link : most three_peers new_world (link (codes "a.net") (codes "b.net")) ≡ 6
  pub people : most three_peers (two_apart als_people bos_people)
      (link (codes "a.net") (codes "b.net")) ≡ 18
  pub clash : most three_peers (two_apart with_zed with_other_zed)
      (link (codes "a.net") (codes "b.net")) ≡ 20
  pub spoken : most three_peers (in_a_line three_people) (line 2 (codes "PRIVMSG #c :hi")) ≡ 2
  pub left : most three_peers (in_a_line three_people) (gone 2) ≡ 2
  pub lost : most three_peers (in_a_line three_people) (cut (codes "a.net") (codes "b.net")) ≡ 1
  pub back : most three_peers cut_off.state (link (codes "a.net") (codes "b.net")) ≡ 31
  pub pairs : most four_peers two_pairs (link (codes "b.net") (codes "c.net")) ≡ 26
  pub pairs_lost : most four_peers pairs_linked (cut (codes "b.net") (codes "c.net")) ≡ 4
  pub connected : most three_peers (in_a_line three_people)
      (connect (codes "a.net") (codes "h")) ≡ 0

-- ---- who is killed quits first, and then halves are joined

-- al (1) made #y on a.net; zed (2) joined it, and made #z and gave it a topic
abbrev pub zeds_topic : List Effect
zeds_topic =
    on_a (codes "al") ∷ on_a (codes "zed") ∷ Join (codes "al") (codes "#y") true ∷ Join
    (codes "zed") (codes "#y") false
    ∷ Join (codes "zed") (codes "#z") true ∷ SetTopic (by.User (codes "zed")) (codes "#z")
    (codes "old") ∷ []

abbrev pub with_topic : Hall
with_topic = hall_after zeds_clients zeds_topic

-- bo (3) made #z on b.net, and no zed is there
abbrev pub bos_z : List Effect
bos_z = on_b (codes "bo") ∷ Join (codes "bo") (codes "#z") true ∷ []

abbrev pub bos_client : List (ℕ × Client)
bos_client = (3, Registered (codes "bo")) ∷ []

abbrev pub without_zed : Hall
without_zed = hall_after bos_client bos_z

-- what bo sees of the link, whichever server connects
abbrev pub bo_sees : Hall → List (List ℕ)
bo_sees theirs =
    (step three_peers (two_apart with_topic theirs) (link (codes "a.net") (codes "b.net"))).out 3

abbrev pub bo_sees_back : Hall → List (List ℕ)
bo_sees_back theirs =
    (step three_peers (two_apart with_topic theirs) (link (codes "b.net") (codes "a.net"))).out 3

abbrev pub zed_comes : List (List ℕ)
zed_comes =
    (codes ":zed!u@h JOIN #z" ++ crlf) ∷ (codes ":b.net MODE #z +o zed" ++ crlf)
    ∷ (codes ":b.net TOPIC #z :old" ++ crlf) ∷ []

-- Where another zed is on b.net both are killed, #z of a.net ends by that, and with it its topic:
-- bo sees zed quit, and no topic. Where there is none, the two #z are joined.
pub record KillsComeFirst : Type 0 where
  pub killed : bo_sees with_other_zed ≡ zed_quits
  pub killed_back : bo_sees_back with_other_zed ≡ zed_quits
  pub not_killed : bo_sees without_zed ≡ zed_comes
  pub not_killed_back : bo_sees_back without_zed ≡ zed_comes

-- ---- passwords are asked for, and rooms are not

abbrev pub two_passwords : List Setting
two_passwords =
    with_peers (codes "a.net") (peer (codes "b.net") (codes "pw") ∷ []) ∷ with_peers (codes "b.net")
    (peer (codes "a.net") (codes "other") ∷ []) ∷ []

-- Servers that keep different passwords for each other are not linked.
pub record PasswordsDiffer : Type 0 where
  pub from_a : refused two_passwords (two_apart als_room bos_room)
      (link (codes "a.net") (codes "b.net")) ≡ Some link_refused
  pub from_b : refused two_passwords (two_apart als_room bos_room)
      (link (codes "b.net") (codes "a.net")) ≡ Some link_refused

-- ---- what each server knows of the network

-- three servers in a line, each with words of its own about itself
abbrev pub of_first : About
of_first = says (codes "First") (codes "Monday")

abbrev pub of_second : About
of_second = says (codes "Second") (codes "Tuesday")

abbrev pub of_third : About
of_third = says (codes "Third") (codes "Wednesday")

abbrev pub told_apart : List Setting
told_apart =
    (record { name = codes "a.net"; about = of_first; peers = [] })
    ∷ (record { name = codes "b.net"; about = of_second; peers = [] })
    ∷ (record { name = codes "c.net"; about = of_third; peers = [] })
    ∷ []

abbrev pub line_of_links : List Link
line_of_links = b_to_c ∷ a_to_b ∷ []

abbrev pub first_at : ℕ → KnownServer
first_at distance = record { name = codes "a.net"; info = codes "First"; distance = distance }

abbrev pub second_at : ℕ → KnownServer
second_at distance = record { name = codes "b.net"; info = codes "Second"; distance = distance }

abbrev pub third_at : ℕ → KnownServer
third_at distance = record { name = codes "c.net"; info = codes "Third"; distance = distance }

abbrev pub firsts_place : ℕ → List KnownServer → Place
firsts_place links servers = record {
  name = codes "a.net";
  about = of_first;
  links = links;
  servers = servers;
}

-- Each knows itself, its own links at either end, and each server of its part with that one's words
-- and how far it is; and after a cut its own side alone.
pub record Whereabouts : Type 0 where
  pub at_a : place_at told_apart line_of_links (codes "a.net") ≡ firsts_place 1
      (first_at 0 ∷ second_at 1 ∷ third_at 2 ∷ [])
  pub at_b : place_at told_apart line_of_links (codes "b.net")
      ≡ record {
        name = codes "b.net";
        about = of_second;
        links = 2;
        servers = first_at 1 ∷ second_at 0 ∷ third_at 1 ∷ [];
      }
  pub at_c : place_at told_apart line_of_links (codes "c.net")
      ≡ record {
        name = codes "c.net";
        about = of_third;
        links = 1;
        servers = first_at 2 ∷ second_at 1 ∷ third_at 0 ∷ [];
      }
  pub a_is_cut : place_at told_apart (links_without line_of_links (codes "a.net") (codes "b.net"))
      (codes "a.net") ≡ firsts_place 0 (first_at 0 ∷ [])
  pub b_is_cut : place_at told_apart (links_without line_of_links (codes "a.net") (codes "b.net"))
      (codes "b.net")
      ≡ record {
        name = codes "b.net";
        about = of_second;
        links = 1;
        servers = second_at 0 ∷ third_at 1 ∷ [];
      }

-- ---- in which order somebody sees it

-- abe (1) and zed (2) in #c on a.net, and two others of these nicknames on b.net
abbrev pub two_clients : List (ℕ × Client)
two_clients = (1, Registered (codes "abe")) ∷ (2, Registered (codes "zed")) ∷ []

abbrev pub two_doings : List Effect
two_doings = on_a (codes "abe") ∷ on_a (codes "zed") ∷ Join (codes "abe") (codes "#c") true ∷ Join
    (codes "zed") (codes "#c") false ∷ []

abbrev pub other_two_clients : List (ℕ × Client)
other_two_clients = (3, Registered (codes "abe")) ∷ (4, Registered (codes "zed")) ∷ []

abbrev pub other_two_doings : List Effect
other_two_doings = on_b (codes "abe") ∷ on_b (codes "zed") ∷ []

-- Who is killed sees those quit who are killed before, and is told of its own kill behind that.
pub record ErrorComesLast : Type 0 where
  pub to_abe : (step three_peers (two_apart (hall_after two_clients two_doings)
      (hall_after other_two_clients other_two_doings))
      (link (codes "a.net") (codes "b.net"))).out 1
      ≡ (codes "ERROR :Closing link (Killed (Nick collision))" ++ crlf) ∷ []
  pub to_zed : (step three_peers (two_apart (hall_after two_clients two_doings)
      (hall_after other_two_clients other_two_doings))
      (link (codes "a.net") (codes "b.net"))).out 2
      ≡ (codes ":abe!u@h QUIT :Killed (Nick collision)" ++ crlf)
      ∷ (codes "ERROR :Closing link (Killed (Nick collision))" ++ crlf) ∷ []

-- al (1) in #c of a.net; bo (3) in #c of b.net, an operator who has voice too
abbrev pub als_channel : List Effect
als_channel = on_a (codes "al") ∷ Join (codes "al") (codes "#c") true ∷ []

abbrev pub bos_voice : List Effect
bos_voice = on_b (codes "bo") ∷ Join (codes "bo") (codes "#c") true ∷ ChangeModes by.Home
    (codes "#c") (set letter.Voice (Some (codes "bo")) ∷ []) ∷ []

-- The operator's flag is told before voice.
abbrev pub OperatorBeforeVoice : Type 0
OperatorBeforeVoice =
    (step three_peers (two_apart (hall_after ((1, Registered (codes "al")) ∷ []) als_channel)
    (hall_after ((3, Registered (codes "bo")) ∷ []) bos_voice))
    (link (codes "a.net") (codes "b.net"))).out 1
    ≡ (codes ":bo!u@h JOIN #c" ++ crlf) ∷ (codes ":a.net MODE #c +o bo" ++ crlf)
    ∷ (codes ":a.net MODE #c +v bo" ++ crlf) ∷ []

-- al (1) on a.net, bo (2) on b.net, cy (3) on c.net, all in #c, and aa, of c.net as well, who came
-- last
abbrev pub four_doings : List Effect
four_doings =
    on_a (codes "al") ∷ on_b (codes "bo") ∷ on_c (codes "cy") ∷ on_c (codes "aa") ∷ Join
    (codes "al") (codes "#c") true ∷ Join (codes "bo") (codes "#c") false
    ∷ Join (codes "cy") (codes "#c") false ∷ Join (codes "aa") (codes "#c") false ∷ []

abbrev pub four_clients : List (ℕ × Client)
four_clients =
    (1, Registered (codes "al")) ∷ (2, Registered (codes "bo")) ∷ (3, Registered (codes "cy")) ∷ []

abbrev pub four_lose : Stepped
four_lose = step three_peers (in_a_line (hall_after four_clients four_doings))
    (cut (codes "a.net") (codes "b.net"))

abbrev pub four_lose_back : Stepped
four_lose_back = step three_peers (in_a_line (hall_after four_clients four_doings))
    (cut (codes "b.net") (codes "a.net"))

-- Server by server in order of name, and the users of one server in order of nickname; and it is
-- the same whichever end of the link is named first.
pub record LostInOrder : Type 0 where
  pub to_al : four_lose.out 1
      ≡ (codes ":bo!u@h QUIT :a.net b.net" ++ crlf) ∷ (codes ":aa!u@h QUIT :a.net b.net" ++ crlf)
      ∷ (codes ":cy!u@h QUIT :a.net b.net" ++ crlf) ∷ []
  pub to_bo : four_lose.out 2 ≡ (codes ":al!u@h QUIT :b.net a.net" ++ crlf) ∷ []
  pub back_to_al : four_lose_back.out 1
      ≡ (codes ":bo!u@h QUIT :a.net b.net" ++ crlf) ∷ (codes ":aa!u@h QUIT :a.net b.net" ++ crlf)
      ∷ (codes ":cy!u@h QUIT :a.net b.net" ++ crlf) ∷ []
  pub back_to_bo : four_lose_back.out 2 ≡ (codes ":al!u@h QUIT :b.net a.net" ++ crlf) ∷ []

-- ---- what a server has of its part

-- al of a.net made #i, and has invited dd of c.net to it
abbrev pub inviting : List Effect
inviting = on_a (codes "al") ∷ on_c (codes "dd") ∷ Join (codes "al") (codes "#i") true ∷ Invite
    (codes "al") (codes "dd") (codes "#i") ∷ []

-- The invited user's server knows of it, and no other does.
pub record InvitedAtHome : Type 0 where
  pub at_a : is_invited_at (view_at (in_a_line (hall_after [] inviting)) (codes "a.net"))
      (key (codes "dd")) (key (codes "#i")) ≡ false
  pub at_b : is_invited_at (view_at (in_a_line (hall_after [] inviting)) (codes "b.net"))
      (key (codes "dd")) (key (codes "#i")) ≡ false
  pub at_c : is_invited_at (view_at (in_a_line (hall_after [] inviting)) (codes "c.net"))
      (key (codes "dd")) (key (codes "#i")) ≡ true
