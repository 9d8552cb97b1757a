-- Two servers of a network whose links carry bytes are asked for something at once: that network,
-- and the ones in which only one of them was asked.
use Rattle.std.proofs.Common.{◌≡◌, ℕ, Bool, true, false, is_some, Some, List, [], ◌∷◌, ◌++◌}
use Rattle.std.proofs.Common.{append_assoc, append-nil, length, nat_eq, refl, sym, ◌∙◌, ap}
use Rattle.std.proofs.Common.{option_map}
use Rattle.std.proofs.lemmas.Bool.{eq-eqb, eqb-true}
use Rattle.std.specs.FinMap.{get}
use Rattle.std.specs.Option.{option_and_then, option_map_or}
use Rattle.irc_names.specs.Lemmas.PlainFacts.{nat_eq-turned}
use Rattle.irc_stage.specs.View.{View}
use Rattle.irc_server.specs.Served.{ReadEvent}
use Rattle.irc_server.specs.Own.{ServedGoesToItsOwn}
use Rattle.irc_network.specs.Node.{reply}
use Rattle.irc_world.specs.Stepping.{Item}
use Rattle.irc_network.specs.Network.{Progress, Network, Node, begun, item_kept, node_asked}
use Rattle.irc_network.specs.Network.{waiting}
use Rattle.irc_pipes.specs.Pipes.{AreLean, LinkPipe, Pipes, pipe_at, written}
use Rattle.irc_network.specs.ByteNetwork.{ByteNetwork, all_written, queues_written, waiting_at}
use Rattle.irc_network.specs.Whole.{IsTidy, has_way}
use Rattle.irc_network.specs.Lemmas.Emptied.{emptied_waits, emptied_ways}
use Rattle.irc_network.specs.Lemmas.RowsWritten.{is_written}
use Rattle.irc_network.specs.Lemmas.NodesStay.{asked_stays}
use Rattle.irc_daemons.specs.Alike.{client_bytes}
use Rattle.irc_daemons.specs.Receiving.{bytes_received, has_come}
use Rattle.irc_daemons.proofs.Given.{bytes_of_nodes, come_of_nodes, emptied_server, pipe_behind}
use Rattle.irc_daemons.proofs.Homes.{KeepsHomes, asked_keeps}
use Rattle.irc_daemons.proofs.LackingWords.{AreAllEnds, AreOwn, LacksOne}
use Rattle.irc_daemons.proofs.Single.{no_way_waits}
use Rattle.irc_daemons.proofs.Received.{Gets, asked_gets}
use Rattle.irc_daemons.proofs.Silence.{nobody_gets}
use Rattle.irc_daemons.proofs.Sent.{asked_replies, server_at}
use Rattle.irc_daemons.proofs.Written.{bodies, with_ends, written_all}

abbrev Lines : Type 0
Lines = List (List ℕ)

-- ---- what waits in a network is written

-- a network with what waited in another along its pipes
record IsOut (net : Network) (pipes : Pipes) (out : ByteNetwork) : Type 0 where
  pub servers : (x : ℕ) → server_at out.network x ≡ server_at net x
  pub ways : (x y : ℕ) → has_way out.network x y ≡ has_way net x y
  pub pipes_are : (x y : ℕ)
      → pipe_at out.pipes x y ≡ all_written (waiting_at net x y) (pipe_at pipes x y)
  pub names : out.network.names ≡ net.names
  pub homes : out.network.homes ≡ net.homes
  pub received : out.network.received ≡ net.received
  pub tidy : IsTidy out

is_out : (item : Item) (progress : Progress Network) (pipes : Pipes)
    → AreLean pipes → length pipes ≡ length progress.state.nodes
    → IsOut progress.state pipes (queues_written (item_kept item progress).state pipes)
is_out item progress pipes lean long =
    let kept : Network = (item_kept item progress).state in
    let is_so = is_written kept pipes lean long in record {
      servers = λ x. emptied_server kept x;
      ways = λ x y. emptied_ways kept x y;
      pipes_are = λ x y. is_so.pipes_are x y;
      names = refl;
      homes = refl;
      received = refl;
      tidy = record { quiet = emptied_waits kept; rows = is_so.rows; lean = is_so.lean };
    }

-- one in which nothing waits is so
out_at_once : (net : ByteNetwork) → IsTidy net → IsOut net.network net.pipes net
out_at_once net tidy = record {
  servers = λ x. refl;
  ways = λ x y. refl;
  pipes_are = λ x y. ap (λ ls. all_written ls (pipe_at net.pipes x y)) (sym (tidy.quiet x y));
  names = refl;
  homes = refl;
  received = refl;
  tidy = tidy;
}

both_written : (one other : Lines) (pipe : LinkPipe)
    → all_written (one ++ other) pipe ≡ pipe_behind (with_ends other) (all_written one pipe)
both_written [] other pipe = written_all other pipe
both_written (line ∷ one) other pipe = both_written one other (written line pipe)

-- ---- a server is asked

-- the server at a place has replied, and what it put out went its way
record IsAsked (place : ℕ) (read_event : ReadEvent) (view : View)
    (old new : Network) : Type 0 where
  pub here : server_at old place ≡ Some (Some view)
  pub here_then : server_at new place ≡ Some (Some (reply view read_event).state)
  pub others : (x : ℕ) → nat_eq x place ≡ false → server_at new x ≡ server_at old x
  pub ways : (x y : ℕ) → has_way new x y ≡ has_way old x y
  pub waits_there : (x y : ℕ) → nat_eq x place ≡ false → waiting_at new x y ≡ waiting_at old x y
  pub waits_here : (y : ℕ) → has_way old place y ≡ true
      → waiting_at new place y ≡ waiting_at old place y ++ bodies y (reply view read_event).out
  pub keeps : KeepsHomes old new
  pub gets : Gets (λ client. client_bytes client (reply view read_event).out) old new

is_asked : (place : ℕ) (read_event : ReadEvent) (view : View) (progress : Progress Network)
    → server_at progress.state place ≡ Some (Some view)
    → IsAsked place read_event view progress.state (node_asked place read_event progress).state
is_asked place read_event view progress at =
    let replies = asked_replies place read_event view progress at in record {
      here = at;
      here_then = replies.server;
      others = λ x two. ap (option_map (λ (s : Node). s.server)) (replies.others x two);
      ways = λ x y. way_at x y (nat_eq x place) refl;
      waits_there = λ x y two. ap (λ o. option_map_or (λ (node : Node). waiting node y) o [])
          (replies.others x two);
      waits_here = replies.waits;
      keeps = asked_keeps place read_event progress;
      gets = asked_gets place read_event view progress at;
    }
  where
    way_at : (x y : ℕ) (b : Bool) → nat_eq x place ≡ b
        → has_way (node_asked place read_event progress).state x y ≡ has_way progress.state x y
    way_at x y true one =
        ap (λ v. has_way (node_asked place read_event progress).state v y) (eqb-true x place one)
        ∙ (asked_replies place read_event view progress at).ways y
        ∙ ap (λ v. has_way progress.state v y) (sym (eqb-true x place one))
    way_at x y false two =
        ap (λ o. is_some (option_and_then (λ (node : Node). get node.queues y) o))
        ((asked_replies place read_event view progress at).others x two)

-- and once all is written, just that is more
lacks_one : (place : ℕ) (read_event : ReadEvent) (view : View) (old new : Network) (pipes : Pipes)
    (less more : ByteNetwork) → IsAsked place read_event view old new → IsOut old pipes less
    → IsOut new pipes more → LacksOne place read_event less more
lacks_one place read_event view old new pipes less more asked first second = record {
  state = view;
  here = first.servers place ∙ asked.here;
  here_then = second.servers place ∙ asked.here_then;
  others = λ x two. second.servers x ∙ asked.others x two ∙ sym (first.servers x);
  ways = λ x y. second.ways x y ∙ asked.ways x y ∙ sym (first.ways x y);
  pipes_there = λ x y two.
      second.pipes_are x y ∙ ap (λ ls. all_written ls (pipe_at pipes x y))
      (asked.waits_there x y two) ∙ sym (first.pipes_are x y);
  pipes_here = λ y way.
      second.pipes_are place y
      ∙ ap (λ ls. all_written ls (pipe_at pipes place y))
      (asked.waits_here y (sym (first.ways place y) ∙ way))
      ∙ both_written (waiting_at old place y) (bodies y (reply view read_event).out)
      (pipe_at pipes place y)
      ∙ ap (pipe_behind (with_ends (bodies y (reply view read_event).out)))
      (sym (first.pipes_are place y));
  no_way = λ y none.
      let none_before : has_way old place y ≡ false = sym (first.ways place y) ∙ none in
      second.pipes_are place y
      ∙ ap (λ ls. all_written ls (pipe_at pipes place y))
      (no_way_waits new place y (asked.ways place y ∙ none_before)
      ∙ sym (no_way_waits old place y none_before))
      ∙ sym (first.pipes_are place y);
  names = second.names ∙ asked.keeps.names ∙ sym first.names;
  homes = second.homes ∙ asked.keeps.homes ∙ sym first.homes;
  come = λ client.
      come_of_nodes new more.network second.received client ∙ asked.gets.come client
      ∙ sym (come_of_nodes old less.network first.received client);
  inboxes = ap (λ (xs : List Lines). length xs) second.received ∙ asked.keeps.inboxes
      ∙ sym (ap (λ (xs : List Lines). length xs) first.received);
  received = λ client has.
      bytes_of_nodes new more.network second.received client
      ∙ asked.gets.more client (sym (come_of_nodes old less.network first.received client) ∙ has)
      ∙ ap (λ bs. bs ++ client_bytes client (reply view read_event).out)
      (sym (bytes_of_nodes old less.network first.received client));
  tidy_less = first.tidy;
  tidy_more = second.tidy;
}

-- ---- the other one is asked first

module _ (n f : ℕ) (on off : ReadEvent) (vn vf : View) (start mid last turn : Network)
    (two : nat_eq n f ≡ false) (first : IsAsked n on vn start mid)
    (second : IsAsked f off vf mid last) (other : IsAsked f off vf start turn)
    (either : (client : ℕ) → client_bytes client (reply vf off).out
    ++ client_bytes client (reply vn on).out
    ≡ client_bytes client (reply vn on).out ++ client_bytes client (reply vf off).out)
  where
    same_server : (x : ℕ) → nat_eq x n ≡ false → (b : Bool) → nat_eq x f ≡ b
        → server_at last x ≡ server_at turn x
    same_server x not_near true one =
        ap (server_at last) (eqb-true x f one) ∙ second.here_then ∙ sym other.here_then
        ∙ ap (server_at turn) (sym (eqb-true x f one))
    same_server x not_near false not_far = second.others x not_far ∙ first.others x not_near
        ∙ sym (other.others x not_far)

    same_far : (y : ℕ) (b : Bool) → has_way start f y ≡ b
        → waiting_at last f y ≡ waiting_at turn f y
    same_far y true way =
        second.waits_here y (first.ways f y ∙ way)
        ∙ ap (λ ls. ls ++ bodies y (reply vf off).out)
        (first.waits_there f y (nat_eq-turned f n ∙ two))
        ∙ sym (other.waits_here y way)
    same_far y false none =
        no_way_waits last f y (second.ways f y ∙ first.ways f y ∙ none)
        ∙ sym (no_way_waits turn f y (other.ways f y ∙ none))

    same_waits : (x y : ℕ) → nat_eq x n ≡ false → (b : Bool) → nat_eq x f ≡ b
        → waiting_at last x y ≡ waiting_at turn x y
    same_waits x y not_near true one =
        ap (λ v. waiting_at last v y) (eqb-true x f one) ∙ same_far y (has_way start f y) refl
        ∙ ap (λ v. waiting_at turn v y) (sym (eqb-true x f one))
    same_waits x y not_near false not_far =
        second.waits_there x y not_far ∙ first.waits_there x y not_near
        ∙ sym (other.waits_there x y not_far)

    abbrev near_bytes : ℕ → List ℕ
    near_bytes client = client_bytes client (reply vn on).out

    abbrev far_bytes : ℕ → List ℕ
    far_bytes client = client_bytes client (reply vf off).out

    same_received : (client : ℕ) → has_come start client ≡ true
        → bytes_received last client ≡ bytes_received turn client ++ near_bytes client
    same_received client was =
        second.gets.more client (first.gets.come client ∙ was)
        ∙ ap (λ bs. bs ++ far_bytes client) (first.gets.more client was)
        ∙ append_assoc (bytes_received start client) (near_bytes client) (far_bytes client)
        ∙ ap (λ bs. bytes_received start client ++ bs) (sym (either client))
        ∙ sym (append_assoc (bytes_received start client) (far_bytes client) (near_bytes client))
        ∙ ap (λ bs. bs ++ near_bytes client) (sym (other.gets.more client was))

    asked_last : IsAsked n on vn turn last
    asked_last = record {
      here = other.others n two ∙ first.here;
      here_then = second.others n two ∙ first.here_then;
      others = λ x not_near. same_server x not_near (nat_eq x f) refl;
      ways = λ x y. second.ways x y ∙ first.ways x y ∙ sym (other.ways x y);
      waits_there = λ x y not_near. same_waits x y not_near (nat_eq x f) refl;
      waits_here = λ y way.
          second.waits_there n y two ∙ first.waits_here y (sym (other.ways n y) ∙ way)
          ∙ ap (λ ls. ls ++ bodies y (reply vn on).out) (sym (other.waits_there n y two));
      keeps = record {
        names = second.keeps.names ∙ first.keeps.names ∙ sym other.keeps.names;
        homes = second.keeps.homes ∙ first.keeps.homes ∙ sym other.keeps.homes;
        inboxes = second.keeps.inboxes ∙ first.keeps.inboxes ∙ sym other.keeps.inboxes;
      };
      gets = record {
        come = λ client. second.gets.come client ∙ first.gets.come client
            ∙ sym (other.gets.come client);
        more = λ client has. same_received client (sym (other.gets.come client) ∙ has);
      };
    }

-- ---- all of it

-- The network in which both were asked, beside those in which one of them was, and these beside
-- the one in which neither was.
pub record AreHalves (n f : ℕ) (on off : ReadEvent)
    (base half_near half_far full : ByteNetwork) : Type 0 where
  pub near_last : LacksOne n on half_far full
  pub far_last : LacksOne f off half_near full
  pub near_alone : LacksOne n on base half_near
  pub far_alone : LacksOne f off base half_far

-- only the one of n was asked, only that of f, or both
abbrev pub one_asked : Item → ℕ → ReadEvent → ByteNetwork → ByteNetwork
one_asked item place read_event base = queues_written
    (item_kept item (node_asked place read_event (begun base.network))).state base.pipes

abbrev pub both_asked : Item → ℕ → ℕ → ReadEvent → ReadEvent → ByteNetwork → ByteNetwork
both_asked item n f on off base = queues_written
    (item_kept item (node_asked f off (node_asked n on (begun base.network)))).state base.pipes

module _ (own_law : ServedGoesToItsOwn) (item : Item) (n f : ℕ) (on off : ReadEvent)
    (base : ByteNetwork) (tidy : IsTidy base) (vn vf : View)
    (two : nat_eq n f ≡ false) (near_there : server_at base.network n ≡ Some (Some vn))
    (far_there : server_at base.network f ≡ Some (Some vf))
  where
    abbrev near_progress : Progress Network
    near_progress = node_asked n on (begun base.network)

    abbrev far_progress : Progress Network
    far_progress = node_asked f off (begun base.network)

    abbrev last_progress : Progress Network
    last_progress = node_asked f off near_progress

    near_asked : IsAsked n on vn base.network near_progress.state
    near_asked = is_asked n on vn (begun base.network) near_there

    far_asked : IsAsked f off vf base.network far_progress.state
    far_asked = is_asked f off vf (begun base.network) far_there

    far_after : IsAsked f off vf near_progress.state last_progress.state
    far_after =
        is_asked f off vf near_progress (near_asked.others f (nat_eq-turned f n ∙ two) ∙ far_there)

    near_out : IsOut near_progress.state base.pipes (one_asked item n on base)
    near_out = is_out item near_progress base.pipes tidy.lean
        (tidy.rows ∙ sym (asked_stays n on (begun base.network)))

    far_out : IsOut far_progress.state base.pipes (one_asked item f off base)
    far_out = is_out item far_progress base.pipes tidy.lean
        (tidy.rows ∙ sym (asked_stays f off (begun base.network)))

    last_out : IsOut last_progress.state base.pipes (both_asked item n f on off base)
    last_out =
        is_out item last_progress base.pipes tidy.lean (tidy.rows
        ∙ sym (asked_stays f off near_progress ∙ asked_stays n on (begun base.network)))

    -- a client is of one of them at most
    module _ (own : AreOwn base.network) (ends : AreAllEnds base.network) where
      either_first : (client : ℕ) → client_bytes client (reply vf off).out
          ++ client_bytes client (reply vn on).out
          ≡ client_bytes client (reply vn on).out ++ client_bytes client (reply vf off).out
      either_first client =
          by (is_some (get vn.clients client)) (is_some (get vf.clients client)) refl refl
        where
          nothing_far : client_bytes client (reply vf off).out ≡ []
              → client_bytes client (reply vf off).out ++ client_bytes client (reply vn on).out
              ≡ client_bytes client (reply vn on).out ++ client_bytes client (reply vf off).out
          nothing_far none =
              ap (λ bs. bs ++ client_bytes client (reply vn on).out) none
              ∙ sym (append-nil (client_bytes client (reply vn on).out))
              ∙ ap (λ bs. client_bytes client (reply vn on).out ++ bs) (sym none)

          nothing_near : client_bytes client (reply vn on).out ≡ []
              → client_bytes client (reply vf off).out ++ client_bytes client (reply vn on).out
              ≡ client_bytes client (reply vn on).out ++ client_bytes client (reply vf off).out
          nothing_near none =
              ap (λ bs. client_bytes client (reply vf off).out ++ bs) none
              ∙ append-nil (client_bytes client (reply vf off).out)
              ∙ ap (λ bs. bs ++ client_bytes client (reply vf off).out) (sym none)

          by : (b c : Bool) → is_some (get vn.clients client) ≡ b → is_some (get vf.clients client)
              ≡ c → client_bytes client (reply vf off).out ++ client_bytes client (reply vn on).out
              ≡ client_bytes client (reply vn on).out ++ client_bytes client (reply vf off).out
          by true true one other =
              cc (sym two ∙ eq-eqb n f (own n f client vn vf near_there far_there one other))
          by b false one other =
              nothing_far (nobody_gets own_law vf off (ends f vf far_there) client other)
          by false true one other =
              nothing_near (nobody_gets own_law vn on (ends n vn near_there) client one)

      pub half_lacks : AreHalves n f on off base (one_asked item n on base)
          (one_asked item f off base) (both_asked item n f on off base)
      half_lacks = record {
        near_last =
            lacks_one n on vn far_progress.state last_progress.state base.pipes
            (one_asked item f off base)
            (both_asked item n f on off base)
            (asked_last n f on off vn vf base.network near_progress.state last_progress.state
            far_progress.state
            two near_asked far_after far_asked either_first)
            far_out last_out;
        far_last =
            lacks_one f off vf near_progress.state last_progress.state base.pipes
            (one_asked item n on base)
            (both_asked item n f on off base)
            far_after near_out last_out;
        near_alone =
            lacks_one n on vn base.network near_progress.state base.pipes base
            (one_asked item n on base) near_asked (out_at_once base tidy) near_out;
        far_alone =
            lacks_one f off vf base.network far_progress.state base.pipes base
            (one_asked item f off base) far_asked (out_at_once base tidy) far_out;
      }
