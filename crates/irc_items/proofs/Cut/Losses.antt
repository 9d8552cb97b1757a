-- What a side comes to by servers that it loses: it knows them no more, and their users have quit.
-- Each client of its own servers stays, and has seen just those quits.
use Rattle.std.proofs.Common.{◌≡◌, ℕ, Bool, true, false, cond, not, ◌&&◌, Option, Some, None}
use Rattle.std.proofs.Common.{List, [], ◌∷◌, ◌++◌, append-nil, refl, sym, ◌∙◌, ap, if◌then◌else◌}
use Rattle.std.specs.Cmp.Lexicographic.{bytes_decides}
use Rattle.std.specs.FinMap.{get}
use Rattle.std.specs.List.{list_any}
use Rattle.std.specs.Option.{option_map_or}
use Rattle.std.proofs.Math.Bool.{and-true}
use Rattle.std.proofs.lemmas.Bool.{or_parts}
use Rattle.irc_names.specs.Lemmas.PlainFacts.{and_neither}
use Rattle.irc_server.specs.DeedTold.{losses, split_text}
use Rattle.irc_merge.specs.Deeds.{Deed, loses, after_deed, after_deeds, shown_by, shown_by_all}
use Rattle.irc_merge.specs.Split.{squits, split}
use Rattle.irc_merge.specs.Laws.{IsSplitBy, SquitsSplit}
use Rattle.irc_relay.specs.Following.{all_done, all_seen}
use Rattle.irc_relay.specs.Links.{Name, same, Link, joined}
use Rattle.irc_relay.specs.Lemmas.TellingNames.{same_unless, same_when}
use Rattle.irc_room.specs.Room.{Room, IsWellFormed}
use Rattle.irc_routes.specs.Known.{without_server}
use Rattle.irc_stage.specs.declared.clients.Client.{Client}
use Rattle.irc_stage.specs.declared.clients.Client.TheVariants.{Registering, Registered}
use Rattle.irc_stage.specs.Lemmas.Counting.{get-kept}
use Rattle.irc_stage.specs.RoomMachine.{Clients}
use Rattle.irc_world.specs.World.{home_in, Setting}
use Rattle.irc_world.specs.Stepping.{leaving_lines, servers_on_side}
use Rattle.irc_follow.specs.SideState.{ItemSetting, SideState, client_sees, clients_elsewhere, done}
use Rattle.irc_follow.specs.SideState.{is_home_of}
use Rattle.irc_follow.specs.Says.{play}
use Rattle.irc_follow.specs.Tree.{Tree, lost_at}
use Rattle.irc_items.proofs.Cut.Names.{servers_distinct}

-- ---- one loss

-- a server says of itself what it said
lost_says : (tree : Tree) (name : List ℕ) (t : Name)
    → (lost_at tree name t).about ≡ (tree.routes t).about
lost_says tree name t = by (tree.here t)
  where
    by : (b : Bool) → (if b then without_server name (tree.routes t)
        else tree.routes t).about ≡ (tree.routes t).about
    by true = refl
    by false = refl

-- a client of one server is none of another
another_home : (homes : List Name) (name t : Name) (q : ℕ) → same t name ≡ false
    → is_home_of homes t q ≡ true → is_home_of homes name q ≡ false
another_home homes name t q two = by (home_in homes q)
  where
    by : (o : Option Name) → option_map_or (same t) o false ≡ true
        → option_map_or (same name) o false ≡ false
    by None here = refl
    by (Some home) here = same_unless name home
        (λ e. cc (sym two ∙ same_when t name ((bytes_decides t home).0 here ∙ sym e)))

-- so it stays when that is lost
client_stays : (homes : List Name) (name t : Name) (clients : Clients) (q : ℕ) → same t name ≡ false
    → is_home_of homes t q ≡ true → get (clients_elsewhere homes name clients) q ≡ get clients q
client_stays homes name t clients q two home =
    get-kept clients (λ client. not (is_home_of homes name client)) q
    ∙ ap (λ b. cond (not b) (get clients q) None) (another_home homes name t q two home)

-- ---- one after another

pub losses_are : (own far : Name) (names : List Name)
    → losses own far names ≡ squits own (split_text own far) names
losses_are own far [] = refl
losses_are own far (name ∷ names) =
    ap (λ deeds. loses own name (split_text own far) ∷ deeds) (losses_are own far names)

-- a side before it loses these servers, and afterwards
pub record HasLost (s : ItemSetting) (own far : Name) (names : List Name)
    (before after : SideState) : Type 0 where
  pub forest : after.tree.forest ≡ before.tree.forest
  pub here : after.tree.here ≡ before.tree.here
  pub knows : (x : Name)
      → after.tree.knows x ≡ (before.tree.knows x && not (list_any (same x) names))
  pub says : (t : Name) → (after.tree.routes t).about ≡ (before.tree.routes t).about
  pub room : after.hall.room ≡ after_deeds before.hall.room (losses own far names)
  pub clients : (t : Name) (q : ℕ) → list_any (same t) names ≡ false → is_home_of s.homes t q ≡ true
      → get after.hall.clients q ≡ get before.hall.clients q

-- what a client sees of deeds by which it stays
abbrev pub staying_sees : List Deed → Room → Option Client → List (List ℕ)
staying_sees deeds room None = []
staying_sees deeds room (Some (Registering pending)) = []
staying_sees deeds room (Some (Registered nick)) = shown_by_all nick room deeds

pub nothing_yet : (room : Room) (o : Option Client) → [] ≡ staying_sees [] room o
nothing_yet room None = refl
nothing_yet room (Some (Registering pending)) = refl
nothing_yet room (Some (Registered nick)) = refl

-- all servers beyond a link are lost: what is left of a room, and what its clients see
module _ (squits : SquitsSplit) (settings : List Setting) (left : List Link) (a b : Name)
    (room : Room) (well : IsWellFormed room) where
  abbrev gone : List Name
  gone = servers_on_side settings left b

  abbrev split_so : IsSplitBy a (split_text a b) gone room
  split_so = squits a (split_text a b) gone room (servers_distinct settings (joined left b)) well

  pub room_lost : after_deeds room (losses a b gone) ≡ split (split_text a b) gone room
  room_lost = ap (after_deeds room) (losses_are a b gone) ∙ split_so.room_left

  pub leaving_seen : (o : Option Client)
      → staying_sees (losses a b gone) room o ≡ leaving_lines settings left a b room o
  leaving_seen None = refl
  leaving_seen (Some (Registering pending)) = refl
  leaving_seen (Some (Registered nick)) = ap (shown_by_all nick room) (losses_are a b gone)
      ∙ split_so.shown nick

sees_first : (server name text : List ℕ) (deeds : List Deed) (room : Room) (o : Option Client)
    → client_sees (loses server name text) room o
    ++ staying_sees deeds (after_deed room (loses server name text)) o
    ≡ staying_sees (loses server name text ∷ deeds) room o
sees_first server name text deeds room None = refl
sees_first server name text deeds room (Some (Registering pending)) = refl
sees_first server name text deeds room (Some (Registered nick)) =
    ap (λ lines. lines ++ shown_by_all nick (after_deed room (loses server name text)) deeds)
    (append-nil (shown_by nick room (loses server name text)))

module _ (s : ItemSetting) (client : ℕ) (own far : Name) where
  pub all_lost : (names : List Name) (w : SideState)
      → HasLost s own far names w (all_done (play s client) w (losses own far names))
  unfolding done
  all_lost [] w = record {
    forest = refl;
    here = refl;
    knows = λ x. sym (and-true (w.tree.knows x));
    says = λ t. refl;
    room = refl;
    clients = λ t q two home. refl;
  }
  all_lost (name ∷ names) w =
      let rest = all_lost names (done s w (loses own name (split_text own far))) in
      record {
        forest = rest.forest;
        here = rest.here;
        knows = λ x. rest.knows x
            ∙ and_neither (w.tree.knows x) (same x name) (list_any (same x) names);
        says = λ t. rest.says t ∙ lost_says w.tree name t;
        room = rest.room;
        clients = λ t q two home.
            let parts = or_parts (same t name) (list_any (same t) names) two in
            rest.clients t q parts.1 home
            ∙ client_stays s.homes name t w.hall.clients q parts.0 home;
      }

  -- a client whose home is not lost sees just the deeds
  pub seen_lost : (t : Name) → is_home_of s.homes t client ≡ true → (names : List Name) → list_any
      (same t) names ≡ false → (w : SideState) → all_seen (play s client) t w (losses own far names)
      ≡ staying_sees (losses own far names) w.hall.room (get w.hall.clients client)
  unfolding done
  seen_lost t home [] two w = nothing_yet w.hall.room (get w.hall.clients client)
  seen_lost t home (name ∷ names) two w =
      let parts = or_parts (same t name) (list_any (same t) names) two in
      let deed : Deed = loses own name (split_text own far) in
      let later : List Deed = losses own far names in
      let first : List (List ℕ) = client_sees deed w.hall.room (get w.hall.clients client) in
      ap (λ b. (if b then first else []) ++ all_seen (play s client) t (done s w deed) later) home
      ∙ ap (λ lines. first ++ lines) (seen_lost t home names parts.1 (done s w deed))
      ∙ ap (λ o. first ++ staying_sees later (after_deed w.hall.room deed) o)
      (client_stays s.homes name t w.hall.clients client parts.0 home)
      ∙ sees_first own name (split_text own far) later w.hall.room (get w.hall.clients client)
