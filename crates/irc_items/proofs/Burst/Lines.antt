-- What a server that fits its side makes of one line of a burst, by which a server of the other
-- side tells of that: it says its deed, or it stands aside.
use Rattle.std.proofs.Common.{◌≡◌, ◌≢◌, ◌⊎◌, inl, inr, ℕ, ◌+◌, ◌≤◌, ◌<◌, suc, Bool, true, false}
use Rattle.std.proofs.Common.{not, ◌||◌, is_some, Option, Some, None, Ok, List, [], ◌∷◌, arith}
use Rattle.std.proofs.Common.{length, map, nat_eq, option_map, unwrap_or, refl, sym, ◌∙◌, ap, subst}
use Rattle.std.proofs.Common.{if◌then◌else◌}
use Rattle.std.proofs.lemmas.Bool.{eq-eqb}
use Rattle.std.specs.FinMap.{keys}
use Rattle.std.specs.List.{list_any, AllByRecursion}
use Rattle.std.specs.Option.{option_map_or, IfSome}
use Rattle.std.proofs.lemmas.Option.{same_Some}
use Rattle.irc_line.specs.Lines.{IsLine}
use Rattle.irc_line.specs.Messages.{IsPlain, Written, line_text, message_of}
use Rattle.irc_line.specs.Reading.{read_of}
use Rattle.irc_names.specs.Fold.{key}
use Rattle.irc_names.specs.Names.{IsNick, IsServer}
use Rattle.irc_names.specs.Tables.{Table, row}
use Rattle.irc_users.specs.declared.user.User.{User}
use Rattle.irc_channels.specs.declared.channel.Channel.{Channel}
use Rattle.irc_channels.specs.declared.flags.Flags.{Flags}
use Rattle.irc_modes.specs.declared.modes.ModeChange.{ModeChange}
use Rattle.irc_room.specs.effect.Effect.TheVariants.{AddUser}
use Rattle.irc_room.specs.Effects.{brings_free}
use Rattle.irc_room.specs.Laws.{IsWhole}
use Rattle.irc_room.specs.Limits.{IsUserWithin, IsWithinLimits}
use Rattle.irc_room.specs.OtherInvitations.{AreAlike}
use Rattle.irc_room.specs.Readers.{home_under}
use Rattle.irc_room.specs.Room.{Room}
use Rattle.irc_room.specs.Sendable.{IsSentUser, IsStoredNick}
use Rattle.irc_room.specs.Lemmas.AlikeLaw.{alike_have_alike, alike_stay_alike, alike_take_alike}
use Rattle.irc_merge.specs.AsideInvitations.{AreReadAlike}
use Rattle.irc_merge.specs.BurstRead.{some_far, brought, new_members}
use Rattle.irc_merge.specs.Bursts.{home_passes}
use Rattle.irc_merge.specs.Deeds.{Deed, does, brings, sets, tops, is_greater_topic, raised_in}
use Rattle.irc_merge.specs.Lemmas.DoableDeeds.{changes_do, greater_does, some_there}
use Rattle.irc_merge.specs.Lemmas.DeedsAlike.{alike_read_alike}
use Rattle.irc_relay.specs.Distances.{IsAmong}
use Rattle.irc_relay.specs.Lemmas.TellingNames.{Telling, alike, unlike, tell, same_when}
use Rattle.irc_relay.specs.Links.{Name, Link, same, toward, distance, AreJoined, AreLinked}
use Rattle.irc_relay.specs.Relay.{TakesFrom}
use Rattle.irc_relay.specs.Lemmas.NextHops.{distance_self, linked_back}
use Rattle.irc_relay.specs.Lemmas.ShortWays.{ways_fit_names}
use Rattle.irc_relay.specs.Lemmas.LinkTakenOut.{tests_tell}
use Rattle.irc_routes.specs.Known.{Known, distance_of, is_itself, row_of, token_in, token_out}
use Rattle.irc_routes.specs.Known as of_known
use Rattle.irc_routes.specs.Limits.{max_servers}
use Rattle.irc_routes.specs.declared.server_row.ServerRow.{ServerRow}
use Rattle.irc_burst.specs.DeedsMeant.{Told, a_deed, as_stored, deeds_meant}
use Rattle.irc_burst_lines.specs.DeedLines.{mode_parts, njoin_parts, topic_parts}
use Rattle.irc_link_reader.specs.Reader.{is_behind_link, reader_of}
use Rattle.irc_link_words.specs.Numbers.{max_number}
use Rattle.irc_link_writer.specs.Written.{next_distance, wire, written_token}
use Rattle.irc_stage.specs.View.{View}
use Rattle.irc_server.specs.Heard.{heard, of_met, tells}
use Rattle.irc_readback.specs.EachReadBack.{AgreesOnServer, EachIsReadBack}
use Rattle.irc_readback.specs.ReadBack.{IsReadable}
use Rattle.irc_follow.specs.AtRest.{AreRight}
use Rattle.irc_follow.specs.Fits.{Fits}
use Rattle.irc_follow.specs.SideState.{ItemSetting, SideState, info_in, number, IsItemSetting}
use Rattle.irc_follow.specs.SideState.{IsSoundSide}
use Rattle.irc_follow.specs.Says.{Aside, HasOneOfFar, IsDoableEffect, IsFar, IsNothing, IsOfFar}
use Rattle.irc_follow.specs.Says.{IsOneOfFar, IsToldMember, Says}
use Rattle.irc_follow.specs.Tree.{Shape, shape, shape_in, IsSoundTree}
use Rattle.irc_follow.specs.Lemmas.BehindLinks.{row_is_there}
use Rattle.irc_follow.specs.Lemmas.MemberLines.{AreNicks}
use Rattle.irc_follow.specs.Lemmas.CarriedLines.{members_carried, modes_carried, topic_carried}
use Rattle.irc_follow.specs.Lemmas.Neighbours.{HasEnd, IsKnownOfLines, met_end}
use Rattle.irc_follow.specs.Lemmas.EffectsReadNext.{distance_at, link_of, shape_at, token_found}
use Rattle.irc_follow.specs.Lemmas.SaidEffect.{far_is_another, rooms_alike}
use Rattle.irc_follow.specs.Lemmas.SaidGainToldOn.{low_number, low_token_number}
use Rattle.irc_follow.specs.Lemmas.SaidEffectToldOn.{effect_heard}
use Rattle.irc_follow.specs.Lemmas.ServerLines.{brought_some, line_heard, members_plain}
use Rattle.irc_follow.specs.Lemmas.ServerLines.{members_read, members_whole, modes_plain}
use Rattle.irc_follow.specs.Lemmas.ServerLines.{modes_read, modes_whole, topic_plain, topic_read}
use Rattle.irc_follow.specs.Lemmas.ServerLines.{topic_whole}
use Rattle.irc_items.proofs.Burst.Taken.{changes_within, topic_within}
use Rattle.irc_items.proofs.Burst.Told.{AreComing, AreTheirChanges, AreTheirMembers, IsTheirMember}
use Rattle.irc_items.proofs.Burst.Told.{IsTheirTopic}
use Rattle.irc_items.proofs.Link.Over.{IsOver}

-- a server t of this side, by the link between them told of the other side by b: whoever it has
-- behind that link is far for all of this side
pub record IsBurstReader (s : ItemSetting) (b t : Name) (w : SideState) (view : View) : Type 0 where
  pub fixed : IsItemSetting s
  pub takes : TakesFrom s.streams t b
  pub fits : Fits s t w view
  pub known : w.tree.knows b ≡ true
  pub far : IsFar s w b
  pub behind : (x : Name) → w.tree.knows x ≡ true → is_behind_link view.routes (number s b) x ≡ true
      → IsFar s w x

-- what is read of an NJOIN, as the members that it brings
abbrev brought_of : List Deed → List (List ℕ × Flags)
brought_of (brings server channel members ∷ deeds) = members
brought_of deeds = []

brought_back : (server channel : List ℕ) (members : List (List ℕ × Flags))
    → brought_of (brought server channel members) ≡ members
brought_back server channel [] = refl
brought_back server channel (member ∷ members) = refl

their_nicks : (other : Room) → IsWithinLimits other → (members : List (List ℕ × Flags))
    → AllByRecursion (IsTheirMember other) members → AreNicks members
their_nicks other within [] each = tt
their_nicks other within (member ∷ members) each = (
  subst IsNick each.0.stored (within.users (key member.0) each.0.user each.0.there).nick,
  their_nicks other within members each.1,
)

module _ (laws : IsKnownOfLines) (s : ItemSetting) (b t : Name) (w : SideState) (view : View)
    (is : IsBurstReader s b t w view) where
  abbrev far : Name → Bool
  far = is_behind_link view.routes (number s b)

  fits : Fits s t w view
  fits = is.fits

  sound : IsSoundSide s w
  sound = fits.sound

  b_named : IsServer b
  b_named = is.fixed.servers.named b (sound.tree.known_among b is.known)

  b_linked : AreLinked w.tree.forest t b
  b_linked = sound.parents t b is.takes

  -- it has met b
  pub met : HasEnd view (number s b) b
  met = met_end view (number s b) b
      (fits.ends b (sound.tree.known_among b is.known)
      ∙ ap (λ c. if c then Some (if w.tree.knows b then Some b else None) else None)
      ((tests_tell w.tree.forest t b t).2.1 b_linked)
      ∙ ap (λ c. Some (if c then Some b else None)) is.known)

  -- and who is far is behind the link to it
  pub far_is_behind : (x : Name) → w.tree.knows x ≡ true → IsFar s w x
      → is_behind_link view.routes (number s b) x ≡ true
  far_is_behind x known x_far =
      ap (λ k. option_map_or (nat_eq (number s b)) (of_known.next_hop k x) false) fits.routes
      ∙ ap (λ o. option_map_or (nat_eq (number s b)) o false)
      (link_of (row_of (w.tree.routes t) x)
      (shape_in s.names (info_in s.settings) w.tree.forest t x)
      (shape_at s w sound t x fits.here known (far_is_another s b t w view is.takes fits x x_far))
      ∙ ap (λ n. Some (number s n)) (x_far t b fits.here is.takes))
      ∙ eq-eqb (number s b) (number s b) refl

  b_behind : is_behind_link view.routes (number s b) b ≡ true
  b_behind = far_is_behind b is.known is.far

  pub rooms : AreAlike view.room w.hall.room
  rooms = rooms_alike s b t w view is.takes fits

  -- it reads as the whole room would
  read_alike : AreReadAlike b far view.room w.hall.room
  read_alike = alike_read_alike alike_stay_alike alike_take_alike alike_have_alike b far view.room
      w.hall.room rooms

  pub heard_so : (parts : Written) (told : List Told) → IsPlain parts → IsWhole parts
      → deeds_meant view.room view.routes (number s b) (message_of parts) ≡ Ok told
      → heard view (number s b) met.end (read_of (line_text parts)) ≡ tells told
  heard_so parts told plain whole meant =
      line_heard laws.written laws.alone view (number s b) met.end parts plain whole
      (ap is_some met.named) ∙ ap of_met meant

  pub stands_aside : (line : List ℕ) → IsLine line
      → heard view (number s b) met.end (read_of line) ≡ tells [] → Aside s b t w view line
  stands_aside line is_line silent = record {
    is_line = is_line;
    end = met.end;
    is_end = met.there;
    nothing = subst IsNothing (sym silent) tt;
  }

  -- a user who is behind the link
  of_far : (fold : List ℕ) → home_passes far w.hall.room.users fold ≡ true
      → IsOfFar s w (home_under w.hall.room fold)
  of_far fold = by (row w.hall.room.users fold) refl
    where
      by : (o : Option User) → row w.hall.room.users fold ≡ o → option_map_or
          (λ (user : User). is_behind_link view.routes (number s b) user.home) o false ≡ true
          → IsOfFar s w (option_map (λ (user : User). user.home) o)
      by None at passes = absurd (let e = passes in cc e)
      by (Some user) at passes = is.behind user.home (sound.at_known fold user at) passes

  -- ---- members

  module _ (other : Room) (within : IsWithinLimits other) (channel : List ℕ)
      (members : List (List ℕ × Flags))
      (theirs : AreTheirMembers other channel members) where
    nicks : AreNicks members
    nicks = their_nicks other within members theirs.each

    new_alike : new_members far view.room channel members
        ≡ new_members far w.hall.room channel members
    new_alike =
        sym (brought_back b channel (new_members far view.room channel members))
        ∙ ap brought_of (read_alike.one (brings b channel members))
        ∙ brought_back b channel (new_members far w.hall.room channel members)

    members_meant : (more : List (List ℕ × Flags))
        → new_members far w.hall.room channel members ≡ more → deeds_meant view.room view.routes
        (number s b) (message_of (njoin_parts b channel members))
        ≡ Ok (map a_deed (brought b channel (map (as_stored w.hall.room) more)))
    members_meant more new =
        members_read laws.names view.room view.routes (number s b) b b_named b_behind channel
        members theirs.named theirs.some nicks theirs.few
        ∙ ap (λ those. Ok (map a_deed (brought b channel (map (as_stored view.room) those))))
        (new_alike ∙ new)
        ∙ ap (λ (users : Table User). Ok (map a_deed (brought b channel
        (map (λ (m : List ℕ × Flags). (
          option_map_or (λ (user : User). user.nick)
              (row users (key m.0)) m.0,
          m.1,
        )) more)))) rooms.users

    members_heard : (told : List Told) → deeds_meant view.room view.routes (number s b)
        (message_of (njoin_parts b channel members)) ≡ Ok told → heard view (number s b) met.end
        (read_of (line_text (njoin_parts b channel members))) ≡ tells told
    members_heard told = heard_so (njoin_parts b channel members) told
        (members_plain laws.names b b_named channel members theirs.named nicks)
        (members_whole laws.names b b_named channel members theirs.named nicks theirs.few)

    told_each : (more : List (List ℕ × Flags)) → AllByRecursion
        (λ (member : List ℕ × Flags). IsStoredNick w.hall.room member.0) more → AllByRecursion
        (λ (member : List ℕ × Flags). home_passes far w.hall.room.users (key member.0) ≡ true) more
        → AllByRecursion (IsToldMember s w) more
    told_each [] stored passes = tt
    told_each (member ∷ more) stored passes = (
      record { stored = stored.0; far = of_far (key member.0) passes.0 },
      told_each more stored.1 passes.1,
    )

    members_line : IsLine (line_text (njoin_parts b channel members))
    members_line = laws.as_line (njoin_parts b channel members)
        (members_carried laws.names b b_named channel members theirs.named nicks)

    pub members_said : (more : List (List ℕ × Flags))
        → new_members (is_behind_link view.routes (number s b)) w.hall.room channel members ≡ more
        → more ≢ [] → AreComing (is_behind_link view.routes (number s b)) w.hall.room channel more
        → map (as_stored w.hall.room) more ≡ more
        → Says s b t w view (brings b channel more) (line_text (njoin_parts b channel members))
    members_said more new some coming stored = record {
      is_line = members_line;
      end = met.end;
      is_end = met.there;
      means = members_heard (a_deed (brings b channel more) ∷ [])
          (members_meant more new
          ∙ ap (λ those. Ok (map a_deed (brought b channel those))) stored
          ∙ ap (λ (deeds : List Deed). Ok (map a_deed deeds)) (brought_some b channel more some));
      doable = record {
        known = is.known;
        far = is.far;
        each = coming.done;
        within = coming.within;
        told = record {
          named = theirs.named;
          some = some;
          few = coming.few;
          each = told_each more coming.stored coming.far;
        };
      };
    }

    pub members_aside : new_members (is_behind_link view.routes (number s b)) w.hall.room channel
        members ≡ [] → Aside s b t w view (line_text (njoin_parts b channel members))
    members_aside none = stands_aside (line_text (njoin_parts b channel members)) members_line
        (members_heard [] (members_meant [] none))

  -- ---- a channel that has a member who is far, or none

  one_of_far : (folds : List (List ℕ)) → list_any (home_passes far w.hall.room.users) folds ≡ true
      → IsOneOfFar s w folds
  one_of_far [] passes = absurd (let e = passes in cc e)
  one_of_far (fold ∷ folds) passes =
      by (home_passes far w.hall.room.users fold) refl passes (one_of_far folds)
    where
      by : (c : Bool) → home_passes far w.hall.room.users fold ≡ c
          → (c || list_any (home_passes far w.hall.room.users) folds) ≡ true
          → (list_any (home_passes far w.hall.room.users) folds ≡ true → IsOneOfFar s w folds)
          → IsOneOfFar s w (fold ∷ folds)
      by true first passes later = inl (of_far fold first)
      by false first passes later = inr (later passes)

  has_one : (channel : List ℕ) → some_far far w.hall.room channel ≡ true
      → HasOneOfFar s w (row w.hall.room.channels (key channel))
  has_one channel = by (row w.hall.room.channels (key channel))
    where
      by : (o : Option Channel) → option_map_or (λ (c : Channel). list_any (home_passes
          (is_behind_link view.routes (number s b)) w.hall.room.users) (keys c.members)) o false
          ≡ true → HasOneOfFar s w o
      by None passes = absurd (let e = passes in cc e)
      by (Some c) passes = one_of_far (keys c.members) passes

  -- ---- modes

  module _ (channel : List ℕ) (changes : List ModeChange)
      (theirs : AreTheirChanges channel changes) where
    modes_heard : (c : Bool) → some_far far w.hall.room channel ≡ c
        → heard view (number s b) met.end (read_of (line_text (mode_parts b channel changes)))
        ≡ tells (map a_deed (if c then sets b channel changes ∷ [] else []))
    modes_heard c some =
        heard_so (mode_parts b channel changes)
        (map a_deed (if c then sets b channel changes ∷ [] else []))
        (modes_plain laws.names b b_named channel changes w.hall.room theirs.named theirs.readable
        (theirs.sent w.hall.room))
        (modes_whole laws.names b b_named channel changes theirs.named theirs.readable)
        (modes_read laws.names view.room view.routes
        (number s b) b b_named b_behind b channel changes theirs.named theirs.readable
        ∙ ap (λ (deeds : List Deed). Ok (map a_deed deeds))
        (read_alike.one (sets b channel changes)
        ∙ ap (λ d. if d then sets b channel changes ∷ [] else []) some))

    modes_line : IsLine (line_text (mode_parts b channel changes))
    modes_line =
        laws.as_line (mode_parts b channel changes)
        (modes_carried laws.names b b_named w.hall.room sound.within channel changes theirs.named
        (theirs.sent w.hall.room))

    pub modes_said : some_far (is_behind_link view.routes (number s b)) w.hall.room channel ≡ true
        → Says s b t w view (sets b channel changes) (line_text (mode_parts b channel changes))
    modes_said some = record {
      is_line = modes_line;
      end = met.end;
      is_end = met.there;
      means = modes_heard true some;
      doable = record {
        known = is.known;
        far = is.far;
        each = changes_do w.hall.room channel (raised_in w.hall.room channel changes)
            (some_there far w.hall.room channel some);
        within = changes_within w.hall.room channel changes theirs.kept;
        told = record {
          far = record { named = theirs.named; some = has_one channel some };
          readable = theirs.readable;
          sent = theirs.sent w.hall.room;
        };
      };
    }

    pub modes_aside : some_far (is_behind_link view.routes (number s b)) w.hall.room channel ≡ false
        → Aside s b t w view (line_text (mode_parts b channel changes))
    modes_aside none =
        stands_aside (line_text (mode_parts b channel changes)) modes_line (modes_heard false none)

  -- ---- a topic

  module _ (channel topic : List ℕ) (theirs : IsTheirTopic channel topic) where
    topic_heard : (c : Bool) → some_far far w.hall.room channel ≡ c
        → heard view (number s b) met.end (read_of (line_text (topic_parts b channel topic)))
        ≡ tells (map a_deed (if c then tops b channel topic ∷ [] else []))
    topic_heard c some =
        heard_so (topic_parts b channel topic)
        (map a_deed (if c then tops b channel topic ∷ [] else []))
        (topic_plain laws.names b b_named channel topic theirs.named theirs.carried)
        (topic_whole laws.names b b_named channel topic theirs.named theirs.carried)
        (topic_read laws.names view.room view.routes
        (number s b) b b_named b_behind b channel topic theirs.named theirs.carried
        ∙ ap (λ (deeds : List Deed). Ok (map a_deed deeds))
        (read_alike.one (tops b channel topic)
        ∙ ap (λ d. if d then tops b channel topic ∷ [] else []) some))

    topic_line : IsLine (line_text (topic_parts b channel topic))
    topic_line = laws.as_line (topic_parts b channel topic)
        (topic_carried laws.names b b_named channel topic theirs.named theirs.carried)

    pub topic_said : some_far (is_behind_link view.routes (number s b)) w.hall.room channel ≡ true
        → Says s b t w view (tops b channel topic) (line_text (topic_parts b channel topic))
    topic_said some = record {
      is_line = topic_line;
      end = met.end;
      is_end = met.there;
      means = topic_heard true some;
      doable = record {
        known = is.known;
        far = is.far;
        each = greater_does w.hall.room channel topic (some_there far w.hall.room channel some)
            (is_greater_topic w.hall.room channel topic);
        within =
            topic_within channel topic theirs.carried (is_greater_topic w.hall.room channel topic);
        told = record {
          far = record { named = theirs.named; some = has_one channel some };
          carried = theirs.carried;
        };
      };
    }

    pub topic_aside : some_far (is_behind_link view.routes (number s b)) w.hall.room channel ≡ false
        → Aside s b t w view (line_text (topic_parts b channel topic))
    topic_aside none =
        stands_aside (line_text (topic_parts b channel topic)) topic_line (topic_heard false none)

  -- ---- a user

  module _ (user : User) (sent : IsSentUser user) (free : row w.hall.room.users (key user.nick)
      ≡ None) (home_known : w.tree.knows user.home ≡ true)
      (home_far : IsFar s w user.home) where
    comes : IsDoableEffect s w (AddUser user)
    comes = record {
      possible = record {
        users_there = refl;
        channel_there = refl;
        nick_free = ap (λ o. not (is_some o)) free;
      };
      busy = refl;
      sendable = sent;
      doer_far = λ nick home doer. cc doer;
      comes = record { known = home_known; far = home_far };
      everybody = λ homes told. cc told;
    }

    free_here : brings_free view.room (AddUser user) ≡ true
    free_here = ap (λ (users : Table User). not (is_some (row users (key user.nick)))) rooms.users
        ∙ ap (λ o. not (is_some o)) free

    pub user_said : EachIsReadBack → (their_room : Room) (known : Known)
        → IsReadable their_room known (reader_of view.room view.routes (number s b)) (AddUser user)
        → AgreesOnServer known (reader_of view.room view.routes (number s b)) (AddUser user)
        → Says s b t w view (does (AddUser user)) (line_text (wire their_room known (AddUser user)))
    user_said read_back their_room known readable agrees = record {
      is_line = (read_back their_room known view.room view.routes (number s b)
          (AddUser user) readable agrees).is_line;
      end = met.end;
      is_end = met.there;
      means = effect_heard their_room known view (number s b) met.end (AddUser user)
          (read_back their_room known view.room view.routes (number s b)
          (AddUser user) readable agrees) tt free_here (ap is_some met.named);
      doable = comes;
    }

-- ---- over a new link b tells of a user of its own side

-- how far a server of b's side is
one_more : (all near rest : ℕ) → all ≡ suc (near + rest) → near ≡ 0 → all ≡ suc rest
one_more all near rest far_is none = omega arith

-- b is at the other end of a new link, along which this side's lines come, and keeps what it had
-- before that
pub record IsNewNeighbour (s : ItemSetting) (l : Link) (links : List Link) (routes : Name → Known)
    (b t : Name) (w : SideState) : Type 0 where
  pub over : IsOver l links s.streams t b
  pub right : AreRight s links routes
  pub forest : w.tree.forest ≡ l ∷ links
  pub keeps : w.tree.routes b ≡ routes b

-- the servers that this side knows are its own and such as are on b's
pub record KnowsBothSides (links : List Link) (b t : Name) (w : SideState) : Type 0 where
  pub here : (x : Name) → w.tree.here x ≡ true → AreJoined links x t
  pub known : (x : Name) → w.tree.knows x ≡ true → AreJoined links x t ⊎ AreJoined links b x

-- the row that t has of a server behind the link to b
record HasRow (s : ItemSetting) (b t home : Name) (w : SideState) : Type 0 where
  at : ServerRow
  there : row_of (w.tree.routes t) home ≡ Some at
  link : at.link ≡ number s b

module _ (s : ItemSetting) (b t : Name) (w : SideState) (view : View)
    (is : IsBurstReader s b t w view)
    (l : Link) (links : List Link) (routes : Name → Known)
    (new : IsNewNeighbour s l links routes b t w) (user : User)
    (on_side : AreJoined links b user.home) (home_known : w.tree.knows user.home ≡ true) where
  abbrev home : Name
  home = user.home

  tree : IsSoundTree s.names (info_in s.settings) w.tree
  tree = is.fits.sound.tree

  b_among : IsAmong s.names b
  b_among = tree.known_among b is.known

  two : home ≢ t
  two e = new.over.apart (sym (subst (AreJoined links b) e on_side))

  way : toward w.tree.forest t home ≡ b
  way =
      ap (λ ls. toward ls t home) new.forest
      ∙ new.over.over t home refl on_side
      ∙ ap (λ c. if c then b else toward links t t) (same_when t t refl)

  from_t : distance w.tree.forest t home ≡ suc (distance links b home)
  from_t =
      ap (λ ls. distance ls t home) new.forest
      ∙ one_more (distance (l ∷ links) t home) (distance links t t) (distance links b home)
      (new.over.far t home refl on_side) (distance_self links t)

  short : distance w.tree.forest t home < length s.names
  short = ways_fit_names s.names w.tree.forest t home tree.forest tree.ends
      (tree.known_among t (tree.here_known t is.fits.here))
      (tree.joined t home is.fits.here home_known)

  from_b : distance_of (routes b) home ≡ Some (distance links b home)
  from_b =
      ap (λ n. if same n home then Some 0 else option_map (λ (r : ServerRow). r.distance)
      (row_of (routes b) home)) (new.right.named b b_among)
      ∙ by (tell b home)
    where
      by : Telling b home → (if same b home then Some 0 else option_map
          (λ (r : ServerRow). r.distance) (row_of (routes b) home)) ≡ Some (distance links b home)
      by (alike z e) =
          ap (λ c. if c then Some 0
          else option_map (λ (r : ServerRow). r.distance) (row_of (routes b) home)) z
          ∙ ap Some (sym (distance_self links b) ∙ ap (distance links b) e)
      by (unlike z apart) =
          let found = row_is_there s links routes b new.right b_among home (sym on_side)
          (λ e. apart (sym e)) in
          ap (λ c. if c then Some 0
          else option_map (λ (r : ServerRow). r.distance) (row_of (routes b) home)) z
          ∙ ap (option_map (λ (r : ServerRow). r.distance)) found.is
          ∙ ap (λ (x : Shape). Some x.distance) found.shape

  distance_is : next_distance (routes b) home ≡ distance w.tree.forest t home
  distance_is = ap (λ o. suc (unwrap_or o 0)) from_b ∙ sym from_t

  -- the number by which b tells of that server is the one that t keeps

  has_row : HasRow s b t home w
  has_row = by (row_of (w.tree.routes t) home) refl
      (shape_at s w is.fits.sound t home is.fits.here home_known two)
    where
      by : (o : Option ServerRow) → row_of (w.tree.routes t) home ≡ o → option_map shape o
          ≡ Some (shape_in s.names (info_in s.settings) w.tree.forest t home) → HasRow s b t home w
      by None there none = absurd (cc none)
      by (Some r) there some = record {
        at = r;
        there = there;
        link = same_Some r.link (number s (toward w.tree.forest t home))
            (ap (option_map (λ (x : Shape). x.link)) some) ∙ ap (number s) way;
      }

  token_is : token_out (routes b) home ≡ Some has_row.at.token
  token_is =
      ap (λ k. token_out k home) (sym new.keeps)
      ∙ tree.tokens b t home has_row.at is.fits.here (linked_back w.tree.forest t b
      (is.fits.sound.parents t b is.takes)) has_row.there has_row.link

  number_is : written_token (routes b) home ≡ has_row.at.token
  number_is = ap (λ o. unwrap_or o 0) token_is

  low : (1 ≤ has_row.at.token) × (has_row.at.token ≤ max_servers)
  low = by (is_itself (routes b) home) (row_of (routes b) home) refl token_is
    where
      by : (c : Bool) (o : Option ServerRow) → row_of (routes b) home ≡ o
          → (if c then Some 1 else option_map (λ (r : ServerRow). r.ours) o) ≡ Some has_row.at.token
          → (1 ≤ has_row.at.token) × (has_row.at.token ≤ max_servers)
      by true o there one = let e = same_Some 1 has_row.at.token one in (omega arith, omega arith)
      by false None there none = absurd (cc none)
      by false (Some r) there some =
          let e = same_Some r.ours has_row.at.token some in
          let most = new.right.low b home r b_among there in
          let least = ((new.right.numbered b b_among).rows home r there).ours in
          (omega arith, omega arith)

  found_is : token_in view.routes (number s b) (written_token (routes b) home) ≡ Some home
  found_is =
      ap (λ k. token_in k (number s b) (written_token (routes b) home)) is.fits.routes
      ∙ ap (token_in (w.tree.routes t) (number s b)) number_is
      ∙ ap (λ n. token_in (w.tree.routes t) n has_row.at.token) (sym has_row.link)
      ∙ token_found (w.tree.routes t) (tree.numbered t
      (tree.known_among t (tree.here_known t is.fits.here))) home has_row.at has_row.there

  home_behind : is_behind_link view.routes (number s b) home ≡ true
  home_behind =
      ap (λ k. option_map_or (nat_eq (number s b)) (of_known.next_hop k home) false) is.fits.routes
      ∙ ap (λ o. option_map_or (nat_eq (number s b))
      (option_map (λ (r : ServerRow). r.link) o) false) has_row.there
      ∙ ap (nat_eq (number s b)) has_row.link
      ∙ eq-eqb (number s b) (number s b) refl

  pub home_is_far : IsFar s w user.home
  home_is_far = is.behind home home_known home_behind

  pub user_agrees : IsUserWithin user
      → AgreesOnServer (routes b) (reader_of view.room view.routes (number s b)) (AddUser user)
  user_agrees within = record {
    within = within;
    number_some = subst (λ n. 1 ≤ n) (sym number_is) low.0;
    number_most =
        subst (λ n. n ≤ max_number) (sym number_is) (low_token_number has_row.at.token low.1);
    server = found_is;
    distance_most = subst (λ n. n ≤ max_number) (sym distance_is)
        (low_number (distance w.tree.forest t home) (length s.names) short is.fixed.few);
    distance = subst (λ o. IfSome o (λ links_away. links_away ≡ next_distance (routes b) home))
        (sym (ap (λ k. distance_of k home) is.fits.routes
        ∙ distance_at s w is.fits.sound t home is.fits.here home_known)) (sym distance_is);
  }

  pub user_readable : IsSentUser user → (their_room : Room) → IsWithinLimits their_room
      → IsReadable their_room (routes b) (reader_of view.room view.routes (number s b))
      (AddUser user)
  user_readable sent their_room room_within =
      record {
        room_within = room_within;
        sendable = sent;
        users_known = refl;
        doer_far = tt;
        told_of = refl;
      }

  pub new_user_said : IsKnownOfLines → EachIsReadBack → IsSentUser user → row w.hall.room.users
      (key user.nick) ≡ None → (their_room : Room) → IsWithinLimits their_room → Says s b t w view
      (does (AddUser user)) (line_text (wire their_room (routes b) (AddUser user)))
  new_user_said laws read_back sent free their_room room_within =
      user_said laws s b t w view is user sent free home_known home_is_far read_back their_room
      (routes b) (user_readable sent their_room room_within)
      (user_agrees sent.within)
