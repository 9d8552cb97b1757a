-- A KILL of a server goes on to each other neighbour as a line that says it there.
use Rattle.std.proofs.Common.{◌≡◌, ◌≢◌, ◌⊎◌, inl, inr, ℕ, true, Option, Some, None, Ok, List, []}
use Rattle.std.proofs.Common.{◌∷◌, ◌++◌, ◌&&◌, codes, map, lit≤, refl, sym, ◌∙◌, ap, subst}
use Rattle.std.proofs.Common.{option_map, if◌then◌else◌}
use Rattle.std.specs.List.{flat_map}
use Rattle.std.specs.Option.{option_map_or}
use Rattle.std.proofs.lemmas.Bool.{and_from}
use Rattle.std.proofs.lemmas.Option.{same_Some}
use Rattle.irc_line.specs.Messages.{IsPlain, Written, line_text, message_of}
use Rattle.irc_names.specs.Fold.{key}
use Rattle.irc_names.specs.Names.{IsNick, IsServer, is_nick, is_server}
use Rattle.irc_names.specs.Spellings.{exactly_same}
use Rattle.irc_names.specs.Tables.{row}
use Rattle.irc_users.specs.declared.user.User.{User}
use Rattle.irc_room.specs.effect.Effect.TheVariants.{Quit}
use Rattle.irc_room.specs.Room.{Room}
use Rattle.irc_room.specs.Seen.{Showing, seen}
use Rattle.irc_room.specs.Sendable.{IsStoredNick}
use Rattle.irc_merge.specs.Deeds.{kills}
use Rattle.irc_merge.specs.Quits.{collision_text}
use Rattle.irc_relay.specs.Links.{Name, toward, AreLinked}
use Rattle.irc_relay.specs.Relay.{TakesFrom}
use Rattle.irc_relay.specs.Lemmas.NextHops.{linked_back, linked_other, toward_linked}
use Rattle.irc_burst.specs.DeedsMeant.{a_deed, deeds_meant, killed}
use Rattle.irc_burst_lines.specs.DeedLines.{kill_parts}
use Rattle.irc_burst_lines.specs.Lemmas.WholeLines.{kill_fits}
use Rattle.irc_link_reader.specs.Reader.{is_behind_link, may_come}
use Rattle.irc_stage.specs.EffectTold.{Served, changed, client_ended, ends_of, in_silence}
use Rattle.irc_stage.specs.Handle.{to_viewer}
use Rattle.irc_stage.specs.Linked.{told_on_all}
use Rattle.irc_stage.specs.View.{View}
use Rattle.irc_server.specs.DeedTold.{deed_told, told_by}
use Rattle.irc_readback.specs.Lemmas.LinesReadBack.{command_plain, from_plain}
use Rattle.irc_follow.specs.SideState.{ItemSetting, number, IsItemSetting, IsSoundSide}
use Rattle.irc_follow.specs.SideState as of_side
use Rattle.irc_follow.specs.Fits.{Fits}
use Rattle.irc_follow.specs.Laws.{GoesOn, SaidKillGoesOn}
use Rattle.irc_follow.specs.Says.{neighbour_served, lines_on, machine, Says, IsDoableKill}
use Rattle.irc_follow.specs.Lemmas.CarriedLines.{kill_carried}
use Rattle.irc_follow.specs.Lemmas.LinesOnLinks.{lines_behind, none_to_killed, none_to_viewers}
use Rattle.irc_follow.specs.Lemmas.Neighbours.{IsKnownOfLines}
use Rattle.irc_follow.specs.Lemmas.Neighbours as beside
use Rattle.irc_follow.specs.Lemmas.SaidDeed.{deed_served, there}
use Rattle.irc_follow.specs.Lemmas.SaidEffect.{rooms_alike}
use Rattle.irc_follow.specs.Lemmas.ServerLines.{all_so}
use Rattle.irc_commands.specs.Closing.{error_line}

-- the holder is the one that is named
killed_it : (server nick : List ℕ) (room : Room) → IsStoredNick room nick
    → killed server room nick ≡ kills server nick ∷ []
killed_it server nick room stored = by (row room.users (key nick)) stored
  where
    by : (o : Option User) → option_map (λ (user : User). user.nick) o ≡ Some nick → option_map_or
        (λ (holder : User). kills server holder.nick ∷ []) o [] ≡ kills server nick ∷ []
    by None is = cc is
    by (Some user) is = ap (λ n. kills server n ∷ []) (same_Some user.nick nick is)

pub stored_named : (nick : List ℕ) (room : Room)
    → ((user : User) → row room.users (key nick) ≡ Some user → IsNick user.nick)
    → IsStoredNick room nick → IsNick nick
stored_named nick room rule stored = by (row room.users (key nick)) refl stored
  where
    by : (o : Option User) → row room.users (key nick) ≡ o
        → option_map (λ (user : User). user.nick) o ≡ Some nick → IsNick nick
    by None at is = cc is
    by (Some user) at is = subst IsNick (same_Some user.nick nick is) (rule user at)

module _ (known : IsKnownOfLines) (server nick : List ℕ) (s : ItemSetting) (p t u : Name)
    (w : of_side.SideState) (view other : View) (line : List ℕ) (client : ℕ)
    (fixed : IsItemSetting s) (takes : TakesFrom s.streams t p) (next : TakesFrom s.streams u t)
    (apart : u ≢ p) (writer : Fits s t w view)
    (reader : Fits s u w other) (says : Says s p t w view (kills server nick) line) where
  sound : IsSoundSide s w
  sound = writer.sound

  doable : IsDoableKill s w server nick
  doable = says.doable

  u_linked : AreLinked w.tree.forest u t
  u_linked = sound.parents u t next

  t_linked : AreLinked w.tree.forest t u
  t_linked = linked_back w.tree.forest u t u_linked

  -- it is of another server than the reader: it came to the writer by another link, or is the
  -- writer's own
  not_readers : server ≢ u
  not_readers is = by (doable.far_or_own t p writer.here takes)
    where
      by : (t ≡ server) ⊎ (toward w.tree.forest t server ≡ p) → ⊥
      by (inl own) = linked_other w.tree.forest u t sound.tree.forest u_linked (sym (own ∙ is))
      by (inr way) = apart (sym (toward_linked w.tree.forest t u sound.tree.forest t_linked)
          ∙ ap (toward w.tree.forest t) (sym is) ∙ way)

  way_there : toward w.tree.forest u server ≡ t
  way_there = by (doable.far_or_own u t reader.here next)
    where
      by : (u ≡ server) ⊎ (toward w.tree.forest u server ≡ t) → toward w.tree.forest u server ≡ t
      by (inl own) = absurd (not_readers (sym own))
      by (inr way) = way

  server_named : IsServer server
  server_named = fixed.servers.named server (sound.tree.known_among server doable.known)

  nick_named : IsNick nick
  nick_named = stored_named nick w.hall.room
      (λ user at. (sound.within.users (key nick) user at).nick) doable.stored

  stored_there : IsStoredNick other.room nick
  stored_there = ap (λ users. option_map (λ (user : User). user.nick) (row users (key nick)))
      (rooms_alike s t u w other next reader).users ∙ doable.stored

  abbrev parts : Written
  parts = kill_parts server nick

  plain : IsPlain parts
  plain = from_plain server (codes "KILL") (nick ∷ []) (Some (codes "Nick collision"))
      (known.names.server server server_named).plain
      (command_plain _ _ refl refl refl) ((known.names.nick nick nick_named).plain, tt) refl
      (lit≤ tt)

  behind : is_behind_link other.routes (number s t) server ≡ true
  behind = beside.is_behind s p t u w view other takes next apart writer reader server doable.known
      way_there not_readers

  meant : deeds_meant other.room other.routes (number s t) (message_of parts)
      ≡ Ok (a_deed (kills server nick) ∷ [])
  unfolding deeds_meant
  meant =
      all_so true (may_come (beside.far_reader s p t u w view other takes next apart writer reader)
      server && true) (is_server server && is_nick nick)
      (killed server other.room nick) refl
      (and_from (may_come
      (beside.far_reader s p t u w view other takes next apart writer reader) server) true
      (beside.server_may_come s p t u w view other takes next apart writer reader server
      server_named behind) refl)
      (and_from (is_server server) (is_nick nick) server_named nick_named)
      ∙ ap (λ deeds. Ok (map a_deed deeds)) (killed_it server nick other.room stored_there)

  -- what its clients are told goes on no link
  to_clients : lines_on (number s u) (client_ended nick collision_text
      (changed (Quit nick collision_text) (in_silence view))).out ≡ []
  to_clients =
      let error : Showing = record { viewer = nick; line = error_line collision_text } in
      lines_behind (number s u)
      (flat_map (to_viewer view.clients) (seen view.room (Quit nick collision_text)))
      (to_viewer view.clients error ++ ends_of nick view.clients)
      ∙ ap (λ l. l ++ lines_on (number s u)
      (to_viewer view.clients error ++ ends_of nick view.clients))
      (none_to_viewers (number s u) view.clients (seen view.room (Quit nick collision_text)))
      ∙ none_to_killed (number s u) view.clients nick (error_line collision_text)

  lines : lines_on (number s u) (neighbour_served s p view line).out ≡ line_text parts ∷ []
  unfolding told_by deed_told
  lines =
      let back = exactly_same server view.routes.name in
      ap (λ (so : Served). lines_on (number s u) so.out) (deed_served s p t w view takes writer
      (kills server nick) line says.end says.is_end says.means)
      ∙ ap (λ b. lines_on (number s u) (told_on_all (if back then None else Some (number s p)) parts
      (client_ended nick collision_text (if b
      then changed (Quit nick collision_text) (in_silence view) else in_silence view))).out)
      (there s p t w view takes writer server nick doable)
      ∙ beside.told_all s p t u w view other takes next apart writer reader back parts
      (client_ended nick collision_text (changed (Quit nick collision_text) (in_silence view))) refl
      ∙ ap (λ l. l ++ (line_text parts ∷ [])) to_clients

  goes : GoesOn s t u w other (kills server nick) ((machine s client).sends t p view line u)
  goes = beside.goes_on s p t u w view other takes next apart writer reader known parts plain
      (kill_fits server nick server_named nick_named)
      (kill_carried known.names server server_named nick nick_named) (kills server nick)
      (a_deed (kills server nick) ∷ []) line client refl meant doable lines

pub said_kill_goes_on : IsKnownOfLines → SaidKillGoesOn
said_kill_goes_on known server nick s p t u w view other line client fixed takes next apart writer
    reader says =
    goes known server nick s p t u w view other line client fixed takes next apart writer
    reader says
