-- The line of a burst that tells what a user has set: it is done where the user is there, behind
-- the link, and nothing comes of it where it is not, since its nickname was on both sides.
use Rattle.std.proofs.Common.{◌≡◌, ℕ, Bool, true, false, ◌&&◌, if◌then◌else◌, Option, Some, None}
use Rattle.std.proofs.Common.{Ok, List, [], ◌∷◌, map, is_some, refl, ◌∙◌, ap, subst}
use Rattle.std.proofs.Math.Bool.{and-true}
use Rattle.std.proofs.lemmas.Option.{none-some, same_Some}
use Rattle.std.specs.Option.{option_map, option_map_or}
use Rattle.irc_line.specs.Lines.{IsLine}
use Rattle.irc_line.specs.Messages.{line_text, message_of}
use Rattle.irc_line.specs.Reading.{read_of}
use Rattle.irc_names.specs.Fold.{key}
use Rattle.irc_names.specs.Lemmas.PlainFacts.{is_some-map}
use Rattle.irc_names.specs.Lemmas.RuleFacts.{nick-fits}
use Rattle.irc_names.specs.Names.{IsNick, is_nick}
use Rattle.irc_names.specs.Tables.{Table, row}
use Rattle.irc_users.specs.declared.user.User.{User}
use Rattle.irc_users.specs.declared.user_change.UserChange.{UserChange}
use Rattle.irc_users.specs.declared.user_change.UserChange.TheVariants.{Invisible, Away}
use Rattle.irc_room.specs.effect.Effect.TheVariants.{ChangeUser}
use Rattle.irc_room.specs.Effects.{has_user}
use Rattle.irc_room.specs.Limits.{IsWithinLimits}
use Rattle.irc_room.specs.Readers.{home_under}
use Rattle.irc_room.specs.Room.{Room}
use Rattle.irc_room.specs.Seen.{stored_nick}
use Rattle.irc_room.specs.Sendable.{IsSendable, IsStoredNick}
use Rattle.irc_routes.specs.Known.{Known}
use Rattle.irc_merge.specs.Deeds.{Deed, does}
use Rattle.irc_link_reader.specs.Means.{is_told_of}
use Rattle.irc_link_reader.specs.Reader.{Reader, is_behind_link, may_come, reader_of}
use Rattle.irc_link_writer.specs.Written.{wire, wire_change}
use Rattle.irc_readback.specs.Lemmas.CarriedParts.{told_is_carried}
use Rattle.irc_readback.specs.Lemmas.ChangeRead.{change_meant}
use Rattle.irc_readback.specs.Lemmas.LinesReadBack.{change_plain, change_whole}
use Rattle.irc_readback.specs.Lemmas.NameKinds.{nick-no_server}
use Rattle.irc_burst.specs.DeedsMeant.{a_deed, deeds_meant, effects_told, kept_prefix, server_of}
use Rattle.irc_stage.specs.View.{View}
use Rattle.irc_server.specs.Heard.{heard, tells}
use Rattle.irc_relay.specs.Links.{Name}
use Rattle.irc_follow.specs.Says.{Aside, IsDoableEffect, IsFar, Says}
use Rattle.irc_follow.specs.SideState.{ItemSetting, SideState, info_in, number}
use Rattle.irc_follow.specs.Tree.{IsSoundTree}
use Rattle.irc_follow.specs.Lemmas.Neighbours.{IsKnownOfLines}
use Rattle.irc_items.proofs.Burst.Lines.{IsBurstReader, heard_so, met, rooms, stands_aside}
use Rattle.irc_items.proofs.Burst.Told.{IsTheirChange}

-- whoever has a nickname of theirs in the room that reads is behind the link, and spelled as it is
-- told
pub record IsOnlyTheirs (far : List ℕ → Bool) (room : Room) (nick : List ℕ) : Type 0 where
  pub behind : (user : User) → row room.users (key nick) ≡ Some user → far user.home ≡ true
  pub spelled : (user : User) → row room.users (key nick) ≡ Some user → user.nick ≡ nick

-- it is told in the name of no server
kept_so : (server : Option (List ℕ)) (nick : List ℕ) (change : UserChange)
    → kept_prefix server (ChangeUser nick change) ≡ does (ChangeUser nick change)
kept_so None nick change = refl
kept_so (Some server) nick change = refl

module _ (laws : IsKnownOfLines) (s : ItemSetting) (b t : Name) (w : SideState) (view : View)
    (is : IsBurstReader s b t w view) (their_room : Room) (known : Known)
    (within : IsWithinLimits their_room) (nick : List ℕ) (change : UserChange)
    (told : IsTheirChange their_room nick change)
    (theirs : IsOnlyTheirs (is_behind_link view.routes (number s b)) w.hall.room nick) where
  nick_named : IsNick nick
  nick_named = subst IsNick told.stored (within.users (key nick) told.their told.there).nick

  sent : IsSendable their_room (ChangeUser nick change)
  sent = record {
    nick_stored = ap (option_map (λ (user : User). user.nick)) told.there ∙ ap Some told.stored;
    keeps = told.keeps;
  }

  as_is : stored_nick their_room nick ≡ nick
  as_is =
      ap (λ o. option_map_or (λ (user : User). user.nick) o nick) told.there ∙ told.stored

  abbrev line : List ℕ
  line = line_text (wire their_room known (ChangeUser nick change))

  is_line : IsLine line
  is_line = laws.as_line (wire their_room known (ChangeUser nick change))
      (told_is_carried laws.names their_room known (ChangeUser nick change) within sent)

  abbrev reader : Reader
  reader = reader_of view.room view.routes (number s b)

  home_is : reader.home nick ≡ home_under w.hall.room (key nick)
  home_is = ap (λ (users : Table User). option_map (λ (user : User). user.home)
      (row users (key nick))) (rooms laws s b t w view is).users

  comes : may_come reader nick ≡ true
  comes =
      ap (λ c. if c then reader.is_far nick else (if is_nick nick
      then option_map_or reader.is_far (reader.home nick) true else true))
      (nick-no_server nick nick_named)
      ∙ ap (λ c. if c then option_map_or reader.is_far (reader.home nick) true else true) nick_named
      ∙ ap (λ o. option_map_or reader.is_far o true) home_is
      ∙ by (row w.hall.room.users (key nick)) refl
    where
      by : (o : Option User) → row w.hall.room.users (key nick) ≡ o → option_map_or
          (is_behind_link view.routes (number s b)) (option_map (λ (user : User). user.home) o) true
          ≡ true
      by None at = refl
      by (Some user) at = theirs.behind user at

  -- links tell the reader who is away, and so all that it may change
  told_of : is_told_of reader change ≡ true
  told_of = by change
    where
      tree : IsSoundTree s.names (info_in s.settings) w.tree
      tree = is.fits.sound.tree

      by : (c : UserChange) → is_told_of reader c ≡ true
      by (Away text) = ap (λ (k : Known). k.about.tells_away) is.fits.routes
          ∙ tree.told_away t (tree.known_among t (tree.here_known t is.fits.here))
      by (Invisible invisible) = refl

  -- who is there by the reader's table is there
  there_so : (c : Bool) → has_user w.hall.room nick ≡ c
      → (is_some (reader.home nick) && true) ≡ c
  there_so c has =
      and-true (is_some (reader.home nick))
      ∙ ap is_some home_is
      ∙ is_some-map (λ (user : User). user.home) (row w.hall.room.users (key nick))
      ∙ has

  abbrev done_if : Bool → List Deed
  done_if c = if c then does (ChangeUser nick change) ∷ [] else []

  meant_so : (c : Bool) → has_user w.hall.room nick ≡ c
      → deeds_meant view.room view.routes (number s b) (message_of (wire_change nick change))
      ≡ Ok (map a_deed (done_if c))
  unfolding deeds_meant
  meant_so c has =
      ap (effects_told view.routes.name view.room (Some nick))
      (change_meant reader nick change nick_named comes told_of told.keeps)
      ∙ ap (λ d. effects_told view.routes.name view.room (Some nick)
      (Ok (if d then ChangeUser nick change ∷ [] else []))) (there_so c has)
      ∙ by c
    where
      by : (d : Bool) → effects_told view.routes.name view.room (Some nick)
          (Ok (if d then ChangeUser nick change ∷ [] else [])) ≡ Ok (map a_deed (done_if d))
      by true =
          ap (λ deed. Ok (map a_deed (deed ∷ []))) (kept_so (server_of (Some nick)) nick change)
      by false = refl

  change_heard : (c : Bool) → has_user w.hall.room nick ≡ c
      → heard view (number s b) (met laws s b t w view is).end (read_of line)
      ≡ tells (map a_deed (done_if c))
  change_heard c has =
      ap (λ n. heard view (number s b) (met laws s b t w view is).end
      (read_of (line_text (wire_change n change)))) as_is
      ∙ heard_so laws s b t w view is (wire_change nick change) (map a_deed (done_if c))
      (change_plain nick change (laws.names.nick nick nick_named).plain told.keeps)
      (change_whole nick change (nick-fits nick nick_named) told.keeps)
      (meant_so c has)

  doable : has_user w.hall.room nick ≡ true → IsDoableEffect s w (ChangeUser nick change)
  doable has = record {
    possible = record {
      users_there = and-true (has_user w.hall.room nick) ∙ has;
      channel_there = refl;
      nick_free = refl;
    };
    busy = refl;
    sendable = record { nick_stored = stored_here; keeps = told.keeps };
    doer_far = λ who home doer at. far_home home
        (ap (λ n. home_under w.hall.room (key n)) (same_Some nick who doer) ∙ at);
    comes = tt;
    everybody = λ homes all. cc all;
  }
    where
      stored_here : IsStoredNick w.hall.room nick
      stored_here = by (row w.hall.room.users (key nick)) refl has
        where
          by : (o : Option User) → row w.hall.room.users (key nick) ≡ o → is_some o ≡ true
              → option_map (λ (user : User). user.nick) o ≡ Some nick
          by None at some = cc some
          by (Some user) at some = ap Some (theirs.spelled user at)

      far_home : (home : Name) → home_under w.hall.room (key nick) ≡ Some home → IsFar s w home
      far_home home = by (row w.hall.room.users (key nick)) refl
        where
          by : (o : Option User) → row w.hall.room.users (key nick) ≡ o
              → option_map (λ (user : User). user.home) o ≡ Some home → IsFar s w home
          by None at none = absurd (none-some home none)
          by (Some user) at some = subst (IsFar s w) (same_Some user.home home some)
              (is.behind user.home (is.fits.sound.at_known (key nick) user at)
              (theirs.behind user at))

  pub change_said : has_user w.hall.room nick ≡ true
      → Says s b t w view (does (ChangeUser nick change)) line
  change_said has = record {
    is_line = is_line;
    end = (met laws s b t w view is).end;
    is_end = (met laws s b t w view is).there;
    means = change_heard true has;
    doable = doable has;
  }

  pub change_aside : has_user w.hall.room nick ≡ false → Aside s b t w view line
  change_aside none = stands_aside laws s b t w view is line is_line (change_heard false none)
