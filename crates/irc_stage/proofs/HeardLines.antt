-- What an effect shows to those that are clients is its line to each of those that hear it.
use Rattle.std.proofs.Common.{◌≡◌, ℕ, Bool, true, false, cond, not, ◌&&◌, ◌||◌, if◌then◌else◌}
use Rattle.std.proofs.Common.{Option, Some, None, List, [], ◌∷◌, ◌++◌, refl, sym, ◌∙◌, ap, map}
use Rattle.std.proofs.Common.{filter, filter_map, option_map, option_to_list}
use Rattle.std.specs.List.{AllByRecursion, cons_option, flat_map, list_any}
use Rattle.std.specs.Option.{option_map_or}
use Rattle.std.specs.FinMap.{get, entries, entries_sorted, get-entries, values}
use Rattle.irc_names.specs.Fold.{key, same}
use Rattle.irc_names.specs.Tables.{Table, row}
use Rattle.irc_users.specs.declared.user.User.{User as Person}
use Rattle.irc_channels.specs.declared.channel.Channel.{Channel as Place}
use Rattle.irc_channels.specs.Channels.{has_member}
use Rattle.irc_room.specs.effect.Effect.{Effect}
use Rattle.irc_room.specs.effect.Effect.TheVariants.{Rename, Quit, Say}
use Rattle.irc_room.specs.effect.Target.TheVariants.{User, Channel}
use Rattle.irc_room.specs.Effects.{is_idle}
use Rattle.irc_room.specs.Room.{Room, IsWellFormed}
use Rattle.irc_room.specs.Seen.{Showing, seen, sees, share_channel, shown_line, shown_to}
use Rattle.irc_batch.specs.Batches.{Sent, line_to}
use Rattle.irc_stage.specs.declared.clients.Client.TheVariants.{Registered}
use Rattle.irc_stage.specs.RoomMachine.{Clients}
use Rattle.irc_stage.specs.Handle.{to_viewer}
use Rattle.irc_stage.specs.Lemmas.Matching.{named_is}
use Rattle.irc_stage.specs.Loops.Hearing.{hearers, is_beside, line_of, sees_fold, to_each}
use Rattle.irc_stage.specs.Loops.Listening.{conns_of, is_in}
use Rattle.irc_stage.specs.Loops.Parts.{IsIndex}
use Rattle.irc_stage.proofs.Conns.{each_entry}
use Rattle.irc_stage.proofs.Showings.{indexed, not_indexed}

-- the line, if there is one, to these connections
abbrev pub sent : Option (List ℕ) → List ℕ → List Sent
sent None conns = []
sent (Some line) conns = to_each line conns

none_sent : (line : Option (List ℕ)) → [] ≡ sent line []
none_sent None = refl
none_sent (Some line) = refl

-- ---- the test of folds is that of viewers

any_beside : (room : Room) (nick q : List ℕ) (es : List (List ℕ × Place))
    → AllByRecursion (λ (e : List ℕ × Place). row room.channels e.0 ≡ Some e.1) es → list_any
    (is_in room q) (map (λ e. e.0) (filter (λ (e : List ℕ × Place). has_member (key nick) e.1) es))
    ≡ list_any (λ (channel : Place). has_member (key nick) channel && has_member q channel)
    (map (λ e. e.1) es)
any_beside room nick q [] at = refl
any_beside room nick q (e ∷ es) at =
    by_member (has_member (key nick) e.1) (any_beside room nick q es at.1)
  where
    by_member : (b : Bool) → list_any (is_in room q)
        (map (λ e. e.0) (filter (λ (e : List ℕ × Place). has_member (key nick) e.1) es))
        ≡ list_any (λ (channel : Place). has_member (key nick) channel && has_member q channel)
        (map (λ e. e.1) es)
        → list_any (is_in room q) (map (λ e. e.0)
        (cond b (e ∷ filter (λ (e : List ℕ × Place). has_member (key nick) e.1) es)
        (filter (λ (e : List ℕ × Place). has_member (key nick) e.1) es)))
        ≡ ((b && has_member q e.1) || list_any (λ (channel : Place). has_member (key nick) channel
        && has_member q channel) (map (λ e. e.1) es))
    by_member true rest =
        ap (λ o. option_map_or (has_member q) o false || list_any (is_in room q)
        (map (λ e. e.0) (filter (λ (e : List ℕ × Place). has_member (key nick) e.1) es))) at.0
        ∙ ap (λ b. has_member q e.1 || b) rest
    by_member false rest = rest

beside_shares : (room : Room) (nick viewer : List ℕ)
    → is_beside room nick (key viewer) ≡ share_channel room nick viewer
beside_shares room nick viewer =
    any_beside room nick (key viewer) (entries room.channels)
    (each_entry (λ q channel. row room.channels q ≡ Some channel) (entries room.channels)
    (entries_sorted room.channels)
    (λ q channel is. get-entries room.channels q ∙ is))

pub sees_so : (room : Room) (effect : Effect) (viewer : List ℕ)
    → sees_fold room effect (key viewer) ≡ sees room effect viewer
sees_so room (Rename nick new) viewer =
    ap (λ b. same nick viewer || b) (beside_shares room nick viewer)
sees_so room (Quit nick text) viewer =
    ap (λ b. not (same nick viewer) && b) (beside_shares room nick viewer)
sees_so room (Say by notice (User nick) text) viewer = refl
sees_so room (Say by notice (Channel channel) text) viewer = refl
sees_so room other viewer = refl

-- ---- what is shown

module _ (room : Room) (clients : Clients) (by_nick : Table ℕ) (index : IsIndex clients by_nick)
    (effect : Effect) (own : List ℕ)
    (at_home : (conn : ℕ) (nick : List ℕ) (user : Person) → get clients conn
    ≡ Some (Registered nick) → row room.users (key nick) ≡ Some user → user.home ≡ own)
    (line : Option (List ℕ))
    (shows : (viewer : Person) (conn : ℕ) → sees_fold room effect (key viewer.nick) ≡ true
    → row by_nick (key viewer.nick) ≡ Some conn → viewer.home ≡ own
    → line_of room effect viewer ≡ line) where
  abbrev showing : Person → List ℕ → Showing
  showing user l = record { viewer = user.nick; line = l }

  -- what a user is shown
  abbrev shown_if : Person → Bool → Option (List ℕ) → Option Showing
  shown_if user does l = if does then option_map (showing user) l else None

  abbrev shown : Person → Option Showing
  shown user = shown_if user (sees room effect user.nick) (line_of room effect user)

  abbrev lines : List Person → List Sent
  lines users = flat_map (to_viewer clients) (filter_map shown users)

  abbrev passing : List Person → List Person
  passing users = filter (λ (user : Person). sees_fold room effect (key user.nick)) users

  abbrev conns : List Person → List ℕ
  conns users = conns_of by_nick (map (λ (user : Person). user.nick) users)

  -- one more user
  with_user : (user : Person) (users : List Person) → row room.users (key user.nick) ≡ Some user
      → lines users ≡ sent line (conns (passing users))
      → lines (user ∷ users) ≡ sent line (conns (passing (user ∷ users)))
  with_user user users there rest =
      ap (λ b. flat_map (to_viewer clients)
      (cons_option (shown_if user b (line_of room effect user)) (filter_map shown users)))
      (sym (sees_so room effect user.nick))
      ∙ by_case (sees_fold room effect (key user.nick)) (row by_nick (key user.nick)) refl refl
    where
      its_home : (conn : ℕ) → row by_nick (key user.nick) ≡ Some conn → user.home ≡ own
      its_home conn is =
          named_is (key user.nick) (get clients conn) (index.there (key user.nick) conn is)
          (λ name client one_key.
          at_home conn name user client (ap (row room.users) one_key ∙ there))

      -- it is no line out where it is no client
      unheard : (l : Option (List ℕ)) → row by_nick (key user.nick) ≡ None
          → flat_map (to_viewer clients)
          (cons_option (option_map (showing user) l) (filter_map shown users)) ≡ lines users
      unheard None nobody = refl
      unheard (Some l) nobody =
          ap (λ out. out ++ lines users) (not_indexed clients by_nick index (showing user l) nobody)

      heard : (conn : ℕ) (l : Option (List ℕ)) → row by_nick (key user.nick) ≡ Some conn
          → l ≡ line → flat_map (to_viewer clients) (cons_option (option_map (showing user) l)
          (filter_map shown users)) ≡ sent line (conn ∷ conns (passing users))
      heard conn None at is =
          rest ∙ ap (λ l. sent l (conns (passing users))) (sym is)
          ∙ ap (λ l. sent l (conn ∷ conns (passing users))) is
      heard conn (Some l) at is =
          ap (λ out. out ++ lines users) (indexed clients by_nick index (showing user l) conn at)
          ∙ ap (λ out. line_to conn l ∷ out)
          (rest ∙ ap (λ o. sent o (conns (passing users))) (sym is))
          ∙ ap (λ o. sent o (conn ∷ conns (passing users))) is

      by_case : (does : Bool) (o : Option ℕ) → sees_fold room effect (key user.nick) ≡ does
          → row by_nick (key user.nick) ≡ o → flat_map (to_viewer clients)
          (cons_option (shown_if user does (line_of room effect user)) (filter_map shown users))
          ≡ sent line (conns (cond does (user ∷ passing users) (passing users)))
      by_case false o does at = rest
      by_case true None does at =
          unheard (line_of room effect user) at ∙ rest
          ∙ sym (ap (λ o. sent line (option_to_list o ++ conns (passing users))) at)
      by_case true (Some conn) does at =
          heard conn (line_of room effect user) at (shows user conn does at (its_home conn at))
          ∙ sym (ap (λ o. sent line (option_to_list o ++ conns (passing users))) at)

  all_users : (es : List (List ℕ × Person))
      → AllByRecursion (λ (e : List ℕ × Person). row room.users (key e.1.nick) ≡ Some e.1) es
      → lines (map (λ e. e.1) es) ≡ sent line (conns (passing (map (λ e. e.1) es)))
  all_users [] all = none_sent line
  all_users (e ∷ es) all = with_user e.1 (map (λ e. e.1) es) all.0 (all_users es all.1)

  -- an idle effect shows nobody anything
  shown_anyhow : (idle : Bool) (users : List Person)
      → (if idle then [] else filter_map (shown_to room effect) users)
      ≡ filter_map (λ (user : Person). shown_if user (sees room effect user.nick)
      (if idle then None else shown_line room effect user)) users
  shown_anyhow false users = refl
  shown_anyhow true [] = refl
  shown_anyhow true (user ∷ users) =
      shown_anyhow true users
      ∙ ap (λ o. cons_option o
      (filter_map (λ (user : Person). shown_if user (sees room effect user.nick) None) users))
      (by_test (sees room effect user.nick))
    where
      by_test : (b : Bool) → ◌≡◌ {A = Option Showing} None (shown_if user b None)
      by_test true = refl
      by_test false = refl

  pub heard_out : IsWellFormed room
      → flat_map (to_viewer clients) (seen room effect) ≡ sent line (hearers room by_nick effect)
  unfolding seen
  heard_out well =
      ap (flat_map (to_viewer clients)) (shown_anyhow (is_idle room effect) (values room.users))
      ∙ all_users (entries room.users)
      (each_entry (λ q user. row room.users (key user.nick) ≡ Some user) (entries room.users)
      (entries_sorted room.users)
      (λ q user is.
      let at : row room.users q ≡ Some user = get-entries room.users q ∙ is in
      ap (row room.users) (well.users_named q user at) ∙ at))
