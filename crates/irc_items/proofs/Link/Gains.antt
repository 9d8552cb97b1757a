-- What a side comes to by servers that it gains: it knows them too, each of its servers keeps what
-- it had, and nobody sees anything of it; and what it comes to by the lines of a burst: its room is
-- another, and whoever is killed has no client there.
use Rattle.std.proofs.Common.{◌≡◌, ℕ, Bool, true, false, cond, not, ◌&&◌, ◌||◌, Option, Some, None}
use Rattle.std.proofs.Common.{is_some, List, [], ◌∷◌, ◌++◌, map, refl, sym, ◌∙◌, ap, if◌then◌else◌}
use Rattle.std.specs.FinMap.{get, retain_keys}
use Rattle.std.specs.List.{list_any, AllByRecursion}
use Rattle.std.specs.Option.{option_map}
use Rattle.std.proofs.Math.Bool.{or_assoc, or-false}
use Rattle.irc_names.specs.TableLaws.{same_fold, one_fold, row-alter}
use Rattle.irc_merge.specs.Deeds.{Deed, does, gains, kills, brings, sets, tops, after_deed}
use Rattle.irc_merge.specs.Deeds.{after_deeds, shown_by}
use Rattle.irc_relay.specs.Following.{all_done, all_seen}
use Rattle.irc_relay.specs.Links.{Name, same, toward, distance}
use Rattle.irc_room.specs.effect.Effect.TheVariants.{AddUser, ChangeUser}
use Rattle.irc_room.specs.Room.{Room}
use Rattle.irc_routes.specs.Known.{Known, is_itself, is_known, row_of, smallest_free, token_out}
use Rattle.irc_routes.specs.declared.server_row.ServerRow.{ServerRow}
use Rattle.irc_stage.specs.declared.clients.Client.{Client}
use Rattle.irc_stage.specs.declared.clients.Client.TheVariants.{Registering, Registered}
use Rattle.irc_stage.specs.EffectTold.{is_another}
use Rattle.irc_stage.specs.RoomMachine.{Clients}
use Rattle.irc_world.specs.World.{Hall}
use Rattle.irc_follow.specs.SideState.{ItemSetting, SideState, client_sees, done, is_home_of}
use Rattle.irc_follow.specs.SideState.{shown_at}
use Rattle.irc_follow.specs.Says.{play}
use Rattle.irc_follow.specs.Tree.{Tree, gained, gained_at, index_in, known_told, told_token}
use Rattle.irc_items.proofs.Link.Sides.{IsReadDeed}

-- ---- what a server keeps

-- it says of itself what it said, and each number that it had stands for the same server
pub record KeepsKnown (old new : Known) : Type 0 where
  pub about : new.about ≡ old.about
  pub tokens : (x : Name) (number : ℕ) → token_out old x ≡ Some number
      → token_out new x ≡ Some number

keeps_itself : (known : Known) → KeepsKnown known known
keeps_itself known = record { about = refl; tokens = λ x number is. is }

keeps_on : (one two three : Known) → KeepsKnown one two → KeepsKnown two three
    → KeepsKnown one three
keeps_on one two three first second = record {
  about = second.about ∙ first.about;
  tokens = λ x number is. second.tokens x number (first.tokens x number is);
}

-- a server that a number stands for is known
numbered_known : (known : Known) (x : Name) (number : ℕ) → token_out known x ≡ Some number
    → is_known known x ≡ true
numbered_known known x number is = by (is_itself known x) (row_of known x) is
  where
    by : (b : Bool) (o : Option ServerRow) → (if b then Some 1
        else option_map (λ (r : ServerRow). r.ours) o) ≡ Some number → (b || is_some o) ≡ true
    by true o is = refl
    by false (Some r) is = refl
    by false None is = absurd (cc is)

module _ (names : List Name) (tree : Tree) (uplink name info : List ℕ) (t : Name) where
  abbrev new_row : ServerRow
  new_row = record {
    link = index_in names (toward tree.forest t name);
    uplink = uplink;
    name = name;
    distance = distance tree.forest t name;
    token = told_token tree (toward tree.forest t name) name;
    ours = smallest_free (tree.routes t);
    info = info;
  }

  told_tokens : is_known (tree.routes t) name ≡ false
      → (x : Name) (number : ℕ) → token_out (tree.routes t) x ≡ Some number
      → token_out (known_told names tree uplink name info t) x ≡ Some number
  told_tokens unknown x number is =
      ap (λ o. cond (is_itself (tree.routes t) x) (Some 1)
      (option_map (λ (r : ServerRow). r.ours) o))
      (row-alter name (λ _. Some new_row) (tree.routes t).rows x ∙ by (same_fold x name) refl)
      ∙ is
    where
      by : (b : Bool) → same_fold x name ≡ b
          → cond b (Some new_row) (row_of (tree.routes t) x) ≡ row_of (tree.routes t) x
      by false two = refl
      by true one =
          absurd (cc (sym (numbered_known (tree.routes t) x number is)
          ∙ ap (is_known (tree.routes t)) (one_fold x name one) ∙ unknown))

  gained_keeps : KeepsKnown (tree.routes t) (gained_at names tree uplink name info t)
  gained_keeps = by (tree.here t) (is_known (tree.routes t) name) refl
    where
      by : (b c : Bool) → is_known (tree.routes t) name ≡ c → KeepsKnown (tree.routes t)
          (if b && not c then known_told names tree uplink name info t else tree.routes t)
      by true false unknown = record { about = refl; tokens = told_tokens unknown }
      by true true known = keeps_itself (tree.routes t)
      by false c is = keeps_itself (tree.routes t)

  gained_elsewhere : tree.here t ≡ false → gained_at names tree uplink name info t ≡ tree.routes t
  gained_elsewhere away =
      ap (λ b. if b && not (is_known (tree.routes t) name)
      then known_told names tree uplink name info t else tree.routes t) away

-- ---- what becomes of the side

abbrev pub gain_of : ServerRow → Deed
gain_of r = gains r.uplink r.name r.info

-- a side before it gains these servers, and afterwards
pub record HasGained (rows : List ServerRow) (before after : SideState) : Type 0 where
  pub forest : after.tree.forest ≡ before.tree.forest
  pub here : after.tree.here ≡ before.tree.here
  pub hall : after.hall ≡ before.hall
  pub knows : (x : Name) → after.tree.knows x
      ≡ (before.tree.knows x || list_any (λ (r : ServerRow). same x r.name) rows)
  pub keeps : (t : Name) → KeepsKnown (before.tree.routes t) (after.tree.routes t)
  pub elsewhere : (t : Name) → before.tree.here t ≡ false
      → after.tree.routes t ≡ before.tree.routes t

module _ (s : ItemSetting) (client : ℕ) where
  pub all_gained : (rows : List ServerRow) (w : SideState)
      → HasGained rows w (all_done (play s client) w (map gain_of rows))
  unfolding done
  all_gained [] w = record {
    forest = refl;
    here = refl;
    hall = refl;
    knows = λ x. sym (or-false (w.tree.knows x));
    keeps = λ t. keeps_itself (w.tree.routes t);
    elsewhere = λ t away. refl;
  }
  all_gained (r ∷ rows) w =
      let next : Tree = gained s.names r.uplink r.name r.info w.tree in
      let rest = all_gained rows (record w { tree = next }) in
      record {
        forest = rest.forest;
        here = rest.here;
        hall = rest.hall;
        knows = λ x. rest.knows x ∙ or_assoc (w.tree.knows x) (same x r.name)
            (list_any (λ (other : ServerRow). same x other.name) rows);
        keeps = λ t. keeps_on (w.tree.routes t) (next.routes t) _
            (gained_keeps s.names w.tree r.uplink r.name r.info t) (rest.keeps t);
        elsewhere = λ t away. rest.elsewhere t away
            ∙ gained_elsewhere s.names w.tree r.uplink r.name r.info t away;
      }

  -- ---- what a client sees of it

  sees_gain : (uplink name info : List ℕ) (room : Room) (o : Option Client)
      → client_sees (gains uplink name info) room o ≡ []
  unfolding shown_by
  sees_gain uplink name info room None = refl
  sees_gain uplink name info room (Some (Registering pending)) = refl
  sees_gain uplink name info room (Some (Registered nick)) = refl

  shown_gain : (t : Name) (w : SideState) (uplink name info : List ℕ)
      → shown_at s client t w (gains uplink name info) ≡ []
  shown_gain t w uplink name info = by (is_home_of s.homes t client)
    where
      by : (b : Bool) → (if b then client_sees (gains uplink name info) w.hall.room
          (get w.hall.clients client) else []) ≡ []
      by true = sees_gain uplink name info w.hall.room (get w.hall.clients client)
      by false = refl

  pub nothing_seen : (t : Name) (rows : List ServerRow) (w : SideState)
      → all_seen (play s client) t w (map gain_of rows) ≡ []
  nothing_seen t [] w = refl
  nothing_seen t (r ∷ rows) w =
      ap (λ lines. lines ++ all_seen (play s client) t (done s w (gain_of r)) (map gain_of rows))
      (shown_gain t w r.uplink r.name r.info)
      ∙ nothing_seen t rows (done s w (gain_of r))

-- ---- the lines of a burst

-- the clients that a deed spares
abbrev pub clients_spared : Deed → Clients → Clients
clients_spared (kills server nick) clients = retain_keys clients (is_another clients nick)
clients_spared deed clients = clients

abbrev pub clients_left : List Deed → Clients → Clients
clients_left [] clients = clients
clients_left (deed ∷ deeds) clients = clients_left deeds (clients_spared deed clients)

-- a hall once these deeds are done there
abbrev pub hall_left : List Deed → Hall → Hall
hall_left deeds hall =
    record { clients = clients_left deeds hall.clients; room = after_deeds hall.room deeds }

-- a side with another hall
abbrev pub in_hall : Hall → SideState → SideState
in_hall hall w = record w { hall = hall }

pub read_deed_done : (s : ItemSetting) (own : Name) (deed : Deed) (w : SideState)
    → IsReadDeed own deed → done s w deed ≡ in_hall (hall_left (deed ∷ []) w.hall) w
unfolding done after_deed
read_deed_done s own (does (AddUser user)) w read = refl
read_deed_done s own (does (ChangeUser nick change)) w read = refl
read_deed_done s own (brings server channel members) w read = refl
read_deed_done s own (sets server channel changes) w read = refl
read_deed_done s own (tops server channel topic) w read = refl
read_deed_done s own (kills server nick) w read = refl
read_deed_done s own other w read = absurd read

pub burst_done : (s : ItemSetting) (client : ℕ) (own : Name) (deeds : List Deed) (w : SideState)
    → AllByRecursion (IsReadDeed own) deeds
    → all_done (play s client) w deeds ≡ in_hall (hall_left deeds w.hall) w
burst_done s client own [] w read = refl
burst_done s client own (deed ∷ deeds) w read =
    ap (λ v. all_done (play s client) v deeds) (read_deed_done s own deed w read.0)
    ∙ burst_done s client own deeds (in_hall (hall_left (deed ∷ []) w.hall) w) read.1
