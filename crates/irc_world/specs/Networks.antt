-- Small networks, by example: what each client receives when two parts are linked, when a link is
-- lost, and when it is back.
use Rattle.std.specs.Prelude.{◌≡◌, ℕ, true, false, Option, Some, None, List, [], ◌∷◌, ◌++◌, codes}
use Rattle.std.specs.Option.{option_map}
use Rattle.std.specs.FinMap.{from_entries}
use Rattle.irc_names.specs.Fold.{key}
use Rattle.irc_names.specs.Tables.{row}
use Rattle.irc_line.specs.Bytes.{crlf}
use Rattle.irc_modes.specs.declared.modes.ModeLetter.TheVariants as letter
use Rattle.irc_channels.specs.declared.channel.Channel.{Channel}
use Rattle.irc_room.specs.effect.By.TheVariants as by
use Rattle.irc_room.specs.effect.Effect.{Effect}
use Rattle.irc_room.specs.effect.Effect.TheVariants.{AddUser, Join, ChangeModes, SetTopic}
use Rattle.irc_room.specs.Examples.{room_after, somebody, set}
use Rattle.irc_merge.specs.Examples.{modes_written}
use Rattle.irc_relay.specs.Links.{Name, Link}
use Rattle.irc_stage.specs.declared.clients.Client.{Client}
use Rattle.irc_stage.specs.declared.clients.Client.TheVariants.{Registered}
use Rattle.irc_world.specs.World.{Setting, Hall, World, new_world, with_hall}
use Rattle.irc_world.specs.Stepping.{line, link, cut, Stepped, step}
use Rattle.irc_world.specs.Refused.{refused, no_such_client}
use Rattle.irc_world.specs.Examples.{with_peers, peer}

-- a.net, b.net and c.net; b.net is a peer of both others
abbrev pub three_peers : List Setting
three_peers =
    with_peers (codes "a.net") (peer (codes "b.net") (codes "pw") ∷ [])
    ∷ with_peers (codes "b.net")
    (peer (codes "a.net") (codes "pw") ∷ peer (codes "c.net") (codes "pw") ∷ [])
    ∷ with_peers (codes "c.net") (peer (codes "b.net") (codes "pw") ∷ [])
    ∷ []

-- a user of a.net, of b.net, of c.net
abbrev pub on_a : List ℕ → Effect
on_a nick = AddUser (somebody nick (codes "h") (codes "a.net"))

abbrev pub on_b : List ℕ → Effect
on_b nick = AddUser (somebody nick (codes "h") (codes "b.net"))

abbrev pub on_c : List ℕ → Effect
on_c nick = AddUser (somebody nick (codes "h") (codes "c.net"))

-- the hall of these clients, whose room these effects have made
abbrev pub hall_after : List (ℕ × Client) → List Effect → Hall
hall_after clients effects = record { clients = from_entries clients; room = room_after effects }

-- two servers without a link, each with its hall; two clients of a.net, and then two of b.net
abbrev pub two_apart : Hall → Hall → World
two_apart one other =
    with_hall (codes "a.net") one (with_hall (codes "b.net") other (record new_world {
      homes = codes "a.net" ∷ codes "a.net" ∷ codes "b.net" ∷ codes "b.net" ∷ [];
    }))

abbrev pub a_to_b : Link
a_to_b = record { near = codes "a.net"; far = codes "b.net" }

-- ---- people meet

-- al (1) and an (2) on a.net, where al has made #c
abbrev pub als_clients : List (ℕ × Client)
als_clients = (1, Registered (codes "al")) ∷ (2, Registered (codes "an")) ∷ []

abbrev pub als_doings : List Effect
als_doings = on_a (codes "al") ∷ on_a (codes "an") ∷ Join (codes "al") (codes "#c") true ∷ []

abbrev pub als_people : Hall
als_people = hall_after als_clients als_doings

-- bo (3) and cy (4) on b.net, where bo has made #c
abbrev pub bos_clients : List (ℕ × Client)
bos_clients = (3, Registered (codes "bo")) ∷ (4, Registered (codes "cy")) ∷ []

abbrev pub bos_doings : List Effect
bos_doings = on_b (codes "bo") ∷ on_b (codes "cy") ∷ Join (codes "bo") (codes "#c") true ∷ []

abbrev pub bos_people : Hall
bos_people = hall_after bos_clients bos_doings

-- The members of #c see each other come, each with the operator's flag, given by the viewer's own
-- server; who is in no channel sees nothing.
pub record PeopleMeet : Type 0 where
  pub taken : refused three_peers (two_apart als_people bos_people)
      (link (codes "a.net") (codes "b.net")) ≡ None
  pub to_al : (step three_peers (two_apart als_people bos_people)
      (link (codes "a.net") (codes "b.net"))).out 1
      ≡ (codes ":bo!u@h JOIN #c" ++ crlf) ∷ (codes ":a.net MODE #c +o bo" ++ crlf) ∷ []
  pub to_an : (step three_peers (two_apart als_people bos_people)
      (link (codes "a.net") (codes "b.net"))).out 2 ≡ []
  pub to_bo : (step three_peers (two_apart als_people bos_people)
      (link (codes "a.net") (codes "b.net"))).out 3
      ≡ (codes ":al!u@h JOIN #c" ++ crlf) ∷ (codes ":b.net MODE #c +o al" ++ crlf) ∷ []
  pub to_cy : (step three_peers (two_apart als_people bos_people)
      (link (codes "a.net") (codes "b.net"))).out 4 ≡ []

-- ---- two sides that differ

-- as before, and al's #c has modes s and k and a topic, bo's n and another key
abbrev pub als_settings : List Effect
als_settings =
    on_a (codes "al") ∷ on_a (codes "an") ∷ Join (codes "al") (codes "#c") true
    ∷ ChangeModes (by.User (codes "al")) (codes "#c")
    (set letter.Secret None ∷ set letter.Key (Some (codes "aa")) ∷ [])
    ∷ SetTopic (by.User (codes "al")) (codes "#c") (codes "x") ∷ []

abbrev pub bos_settings : List Effect
bos_settings =
    on_b (codes "bo") ∷ on_b (codes "cy") ∷ Join (codes "bo") (codes "#c") true
    ∷ ChangeModes (by.User (codes "bo")) (codes "#c")
    (set letter.NoOutside None ∷ set letter.Key (Some (codes "bb")) ∷ []) ∷ []

abbrev pub als_room : Hall
als_room = hall_after als_clients als_settings

abbrev pub bos_room : Hall
bos_room = hall_after bos_clients bos_settings

-- the two linked, a.net connecting, and b.net
abbrev pub a_connects : Stepped
a_connects = step three_peers (two_apart als_room bos_room) (link (codes "a.net") (codes "b.net"))

abbrev pub b_connects : Stepped
b_connects = step three_peers (two_apart als_room bos_room) (link (codes "b.net") (codes "a.net"))

-- what al sees, and what bo
abbrev pub bo_comes : List (List ℕ)
bo_comes =
    (codes ":bo!u@h JOIN #c" ++ crlf) ∷ (codes ":a.net MODE #c +o bo" ++ crlf)
    ∷ (codes ":a.net MODE #c +nk bb" ++ crlf) ∷ []

abbrev pub al_comes : List (List ℕ)
al_comes =
    (codes ":al!u@h JOIN #c" ++ crlf) ∷ (codes ":b.net MODE #c +o al" ++ crlf)
    ∷ (codes ":b.net MODE #c +s" ++ crlf) ∷ (codes ":b.net TOPIC #c :x" ++ crlf) ∷ []

-- the modes of #c at a server, with their parameters, and its topic
abbrev pub modes_at : Stepped → Name → Option (List (List ℕ))
modes_at stepped server =
    option_map modes_written (row (stepped.state.hall server).room.channels (key (codes "#c")))

abbrev pub topic_at : Stepped → Name → Option (List ℕ)
topic_at stepped server =
    option_map (λ (c : Channel). c.topic)
    (row (stepped.state.hall server).room.channels (key (codes "#c")))

-- Nothing that is set on either side is lost, and of two keys the greater is taken. The members of
-- #c see what theirs had not; whichever of the two servers connects, it is the same.
pub record SidesAreJoined : Type 0 where
  pub taken :
      refused three_peers (two_apart als_room bos_room)
      (link (codes "a.net") (codes "b.net")) ≡ None
  pub to_al : a_connects.out 1 ≡ bo_comes
  pub to_an : a_connects.out 2 ≡ []
  pub to_bo : a_connects.out 3 ≡ al_comes
  pub to_cy : a_connects.out 4 ≡ []
  pub modes_here : modes_at a_connects (codes "a.net") ≡ Some (codes "+nsk" ∷ codes "bb" ∷ [])
  pub modes_there : modes_at a_connects (codes "b.net") ≡ Some (codes "+nsk" ∷ codes "bb" ∷ [])
  pub topic_there : topic_at a_connects (codes "b.net") ≡ Some (codes "x")
  pub taken_back :
      refused three_peers (two_apart als_room bos_room)
      (link (codes "b.net") (codes "a.net")) ≡ None
  pub back_to_al : b_connects.out 1 ≡ bo_comes
  pub back_to_bo : b_connects.out 3 ≡ al_comes
  pub modes_back : modes_at b_connects (codes "a.net") ≡ Some (codes "+nsk" ∷ codes "bb" ∷ [])

-- ---- a nickname on both sides

-- al (1) made #y on a.net; zed (2) joined it, and made #z
abbrev pub zeds_clients : List (ℕ × Client)
zeds_clients = (1, Registered (codes "al")) ∷ (2, Registered (codes "zed")) ∷ []

abbrev pub zeds_doings : List Effect
zeds_doings =
    on_a (codes "al") ∷ on_a (codes "zed") ∷ Join (codes "al") (codes "#y") true ∷ Join
    (codes "zed") (codes "#y") false
    ∷ Join (codes "zed") (codes "#z") true ∷ []

abbrev pub with_zed : Hall
with_zed = hall_after zeds_clients zeds_doings

-- bo (3) made #z on b.net, and another zed (4) joined it
abbrev pub other_zeds_clients : List (ℕ × Client)
other_zeds_clients = (3, Registered (codes "bo")) ∷ (4, Registered (codes "zed")) ∷ []

abbrev pub other_zeds_doings : List Effect
other_zeds_doings = on_b (codes "bo") ∷ on_b (codes "zed") ∷ Join (codes "bo") (codes "#z") true
    ∷ Join (codes "zed") (codes "#z") false ∷ []

abbrev pub with_other_zed : Hall
with_other_zed = hall_after other_zeds_clients other_zeds_doings

abbrev pub zed_quits : List (List ℕ)
zed_quits = (codes ":zed!u@h QUIT :Killed (Nick collision)" ++ crlf) ∷ []

abbrev pub zed_is_told : List (List ℕ)
zed_is_told = (codes "ERROR :Closing link (Killed (Nick collision))" ++ crlf) ∷ []

-- Both are killed. Who shared a channel with one of them sees it quit, and nobody sees anybody
-- come; both clients are closed.
pub record NicknamesClash : Type 0 where
  pub taken : refused three_peers (two_apart with_zed with_other_zed)
      (link (codes "a.net") (codes "b.net")) ≡ None
  pub to_al : (step three_peers (two_apart with_zed with_other_zed)
      (link (codes "a.net") (codes "b.net"))).out 1 ≡ zed_quits
  pub to_zed : (step three_peers (two_apart with_zed with_other_zed)
      (link (codes "a.net") (codes "b.net"))).out 2 ≡ zed_is_told
  pub to_bo : (step three_peers (two_apart with_zed with_other_zed)
      (link (codes "a.net") (codes "b.net"))).out 3 ≡ zed_quits
  pub to_other_zed : (step three_peers (two_apart with_zed with_other_zed)
      (link (codes "a.net") (codes "b.net"))).out 4 ≡ zed_is_told
  pub zed_is_gone : refused three_peers (step three_peers (two_apart with_zed with_other_zed)
      (link (codes "a.net") (codes "b.net"))).state
      (line 2 (codes "PING x")) ≡ Some no_such_client

-- ---- a link is lost, and is back

abbrev pub b_to_c : Link
b_to_c = record { near = codes "b.net"; far = codes "c.net" }

-- three servers in a line, with one hall; one client on each
abbrev pub in_a_line : Hall → World
in_a_line hall = with_hall (codes "a.net") hall (record new_world {
  links = b_to_c ∷ a_to_b ∷ [];
  homes = codes "a.net" ∷ codes "b.net" ∷ codes "c.net" ∷ [];
})

-- al (1) on a.net made #c, whose topic is hello, and #d; bo (2) on b.net and cy (3) on c.net joined
-- both
abbrev pub three_clients : List (ℕ × Client)
three_clients =
    (1, Registered (codes "al")) ∷ (2, Registered (codes "bo")) ∷ (3, Registered (codes "cy")) ∷ []

abbrev pub three_doings : List Effect
three_doings =
    on_a (codes "al") ∷ on_b (codes "bo") ∷ on_c (codes "cy") ∷ Join (codes "al") (codes "#c") true
    ∷ Join (codes "al") (codes "#d") true
    ∷ SetTopic (by.User (codes "al")) (codes "#c") (codes "hello") ∷ Join (codes "bo")
    (codes "#c") false ∷ Join (codes "bo") (codes "#d") false
    ∷ Join (codes "cy") (codes "#c") false ∷ Join (codes "cy") (codes "#d") false ∷ []

abbrev pub three_people : Hall
three_people = hall_after three_clients three_doings

abbrev pub cut_off : Stepped
cut_off = step three_peers (in_a_line three_people) (cut (codes "a.net") (codes "b.net"))

abbrev pub back_again : Stepped
back_again = step three_peers cut_off.state (link (codes "a.net") (codes "b.net"))

-- Each side sees those of the other quit, once, in order of their servers; the text has the near
-- end first.
pub record LinkIsLost : Type 0 where
  pub taken : refused three_peers (in_a_line three_people)
      (cut (codes "a.net") (codes "b.net")) ≡ None
  pub to_al : cut_off.out 1 ≡ (codes ":bo!u@h QUIT :a.net b.net" ++ crlf)
      ∷ (codes ":cy!u@h QUIT :a.net b.net" ++ crlf) ∷ []
  pub to_bo : cut_off.out 2 ≡ (codes ":al!u@h QUIT :b.net a.net" ++ crlf) ∷ []
  pub to_cy : cut_off.out 3 ≡ (codes ":al!u@h QUIT :b.net a.net" ++ crlf) ∷ []

-- The link is back: each side sees those of the other come to #c and #d. No topic is seen, since
-- both sides have it.
pub record LinkIsBack : Type 0 where
  pub taken : refused three_peers cut_off.state (link (codes "a.net") (codes "b.net")) ≡ None
  pub to_al : back_again.out 1
      ≡ (codes ":bo!u@h JOIN #c" ++ crlf) ∷ (codes ":cy!u@h JOIN #c" ++ crlf)
      ∷ (codes ":bo!u@h JOIN #d" ++ crlf) ∷ (codes ":cy!u@h JOIN #d" ++ crlf) ∷ []
  pub to_bo : back_again.out 2
      ≡ (codes ":al!u@h JOIN #c" ++ crlf) ∷ (codes ":b.net MODE #c +o al" ++ crlf)
      ∷ (codes ":al!u@h JOIN #d" ++ crlf)
      ∷ (codes ":b.net MODE #d +o al" ++ crlf) ∷ []
  pub to_cy : back_again.out 3
      ≡ (codes ":al!u@h JOIN #c" ++ crlf) ∷ (codes ":c.net MODE #c +o al" ++ crlf)
      ∷ (codes ":al!u@h JOIN #d" ++ crlf)
      ∷ (codes ":c.net MODE #d +o al" ++ crlf) ∷ []

-- ---- what is said is heard on every server

abbrev pub bo_speaks : Stepped
bo_speaks = step three_peers (in_a_line three_people) (line 2 (codes "PRIVMSG #c :hi"))

-- The members of #c hear what bo says in it, whichever server they are on; bo does not hear itself.
pub record BoIsHeard : Type 0 where
  pub taken : refused three_peers (in_a_line three_people) (line 2 (codes "PRIVMSG #c :hi")) ≡ None
  pub to_al : bo_speaks.out 1 ≡ (codes ":bo!u@h PRIVMSG #c :hi" ++ crlf) ∷ []
  pub to_bo : bo_speaks.out 2 ≡ []
  pub to_cy : bo_speaks.out 3 ≡ (codes ":bo!u@h PRIVMSG #c :hi" ++ crlf) ∷ []
