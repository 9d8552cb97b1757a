-- A nickname that is on both sides of a new link: the line by which one end tells of its user is
-- heard by the other as the KILL of whoever has that nickname there, and the KILL that goes back
-- does nothing. Which lines may be so answered.
use Rattle.std.proofs.Common.{◌≡◌, ◌≢◌, ◌⊎◌, inl, inr, ℕ, ◌+◌, ◌≤◌, arith, cond, count_by, length}
use Rattle.std.proofs.Common.{Bool, true, false, ◌&&◌, is_some, Some, None, Ok, List, [], ◌∷◌, ◌++◌}
use Rattle.std.proofs.Common.{◌≤◌, arith, bytes_eq, codes, lit≤, map, nat_eq, option_map}
use Rattle.std.proofs.Common.{take, refl, sym, ◌∙◌, ap, if◌then◌else◌, take-take}
use Rattle.std.proofs.lemmas.Bool.{eq-eqb, and_from}
use Rattle.std.proofs.lemmas.List.Sums.{count_by-le-length, sum_by-cons}
use Rattle.std.specs.Option.{option_map_or}
use Rattle.irc_line.specs.Bytes.{cut}
use Rattle.irc_line.specs.Limits.{max_line}
use Rattle.irc_line.specs.Messages.{IsPlain, Written, joined_text, line_text, message_of}
use Rattle.irc_line.specs.Reading.{read_of}
use Rattle.irc_names.specs.Fold.{key}
use Rattle.irc_names.specs.Names.{IsNick, IsServer, is_nick, is_server}
use Rattle.irc_names.specs.Tables.{Table, row}
use Rattle.irc_users.specs.declared.user.User.{User}
use Rattle.irc_room.specs.effect.Effect.TheVariants.{AddUser}
use Rattle.irc_room.specs.Limits.{IsWithinLimits}
use Rattle.irc_room.specs.Room.{Room}
use Rattle.irc_room.specs.Sendable.{IsSentUser}
use Rattle.irc_room.specs.Lemmas.AlikeLaw.{home_is_alike}
use Rattle.irc_merge.specs.Deeds.{does, kills}
use Rattle.irc_relay.specs.Distances.{IsAmong}
use Rattle.irc_relay.specs.Lemmas.TellingNames.{Telling, alike, unlike, tell}
use Rattle.irc_relay.specs.Links.{Name, Link, toward, AreJoined, AreLinked}
use Rattle.irc_relay.specs.Relay.{TakesFrom}
use Rattle.irc_relay.specs.Lemmas.NextHops.{linked_joined, linked_other, toward_linked}
use Rattle.irc_relay.specs.Lemmas.LinkTakenOut.{tests_tell}
use Rattle.irc_routes.specs.Known.{Known, row_of}
use Rattle.irc_routes.specs.Known as of_known
use Rattle.irc_burst.specs.DeedsMeant.{a_deed, deeds_meant, effects_told, killed, read_burst_row}
use Rattle.irc_burst_lines.specs.DeedLines.{kill_parts}
use Rattle.irc_burst_lines.specs.Lemmas.WholeLines.{kill_fits}
use Rattle.irc_link_words.specs.GreetingLines.{pass_parts}
use Rattle.irc_link_reader.specs.Reader.{Reader, is_behind_link, may_come, reader_of}
use Rattle.irc_link_writer.specs.Written.{wire}
use Rattle.irc_stage.specs.View.{End, View}
use Rattle.irc_server.specs.Heard.{heard, of_met, tells}
use Rattle.irc_readback.specs.EachReadBack.{EachIsReadBack}
use Rattle.irc_readback.specs.ReadBack.{IsReadBack}
use Rattle.irc_readback.specs.Lemmas.LinesReadBack.{command_plain, from_plain}
use Rattle.irc_world.specs.World.{World}
use Rattle.irc_follow.specs.AtRest.{side_state_of}
use Rattle.irc_follow.specs.Fits.{Fits}
use Rattle.irc_follow.specs.SideState.{ItemSetting, SideState, info_in, number, IsItemSetting}
use Rattle.irc_follow.specs.Says.{IsDoableKill, Says}
use Rattle.irc_follow.specs.Tree.{shape_in}
use Rattle.irc_follow.specs.Lemmas.BehindLinks.{joined_test}
use Rattle.irc_follow.specs.Lemmas.CarriedLines.{kill_carried}
use Rattle.irc_follow.specs.Lemmas.Neighbours.{HasEnd, IsKnownOfLines, met_end}
use Rattle.irc_follow.specs.Lemmas.EffectsReadNext.{link_of, shape_at}
use Rattle.irc_follow.specs.Lemmas.SaidEffect.{own_name, rooms_alike}
use Rattle.irc_follow.specs.Lemmas.SaidEffectToldOn.{no_row}
use Rattle.irc_follow.specs.Lemmas.ServerLines.{all_so, line_heard, met_heard}
use Rattle.irc_items.specs.GoodLines.{Answering, IsUnheard}
use Rattle.irc_items.proofs.Burst.Lines.{IsBurstReader, IsNewNeighbour, KnowsBothSides, met}
use Rattle.irc_items.proofs.Burst.Lines.{user_agrees, user_readable}

-- ---- the line of a user is heard

-- as the KILL of the one that has the nickname, in the hearer's own name
module _ (room : Room) (known : Known) (view : View) (link : ℕ) (end : End) (user holder : User)
    (back : IsReadBack room known view.room view.routes link (AddUser user))
    (taken : row view.room.users (key user.nick) ≡ Some holder) where
  collision_meant : deeds_meant view.room view.routes link (message_of
      (wire room known (AddUser user))) ≡ Ok (a_deed (kills view.routes.name holder.nick) ∷ [])
  unfolding deeds_meant
  collision_meant =
      ap (read_burst_row view.room view.routes link (message_of (wire room known (AddUser user))))
      (no_row room known (AddUser user))
      ∙ ap (effects_told view.routes.name view.room
      (message_of (wire room known (AddUser user))).prefix) back.meaning
      ∙ ap (λ o. Ok (map a_deed (option_map_or (λ (other : User). kills view.routes.name other.nick
      ∷ []) o (does (AddUser user) ∷ []) ++ []))) taken

  pub collision_heard : is_some end.far ≡ true
      → heard view link end (read_of (line_text (wire room known (AddUser user))))
      ≡ tells (a_deed (kills view.routes.name holder.nick) ∷ [])
  collision_heard met_so =
      met_heard view link end (line_text (wire room known (AddUser user)))
      (message_of (wire room known (AddUser user))) back.line met_so
      ∙ ap of_met collision_meant

-- who has the nickname may be killed by t
module _ (s : ItemSetting) (b t : Name) (w : SideState) (view : View)
    (is : IsBurstReader s b t w view)
    (l : Link) (links : List Link) (routes : Name → Known)
    (new : IsNewNeighbour s l links routes b t w) (sides : KnowsBothSides links b t w) where
  t_known : w.tree.knows t ≡ true
  t_known = is.fits.sound.tree.here_known t is.fits.here

  own_or_on_the_way : (x p : Name) → w.tree.here x ≡ true → TakesFrom s.streams x p
      → (x ≡ t) ⊎ (toward w.tree.forest x t ≡ p)
  own_or_on_the_way x p here takes = by (tell x t)
    where
      by : Telling x t → (x ≡ t) ⊎ (toward w.tree.forest x t ≡ p)
      by (alike _ e) = inl e
      by (unlike _ two) = inr
          (ap (λ ls. toward ls x t) new.forest
          ∙ sym (new.over.kept x t (sides.here x here)).toward_same
          ∙ sym (new.over.later x (sides.here x here) two)
          ∙ takes.parent)

  pub may_be_killed : (fold : List ℕ) (holder : User) → row w.hall.room.users fold ≡ Some holder
      → IsDoableKill s w t holder.nick
  may_be_killed fold holder there = record {
    known = t_known;
    far_or_own = own_or_on_the_way;
    stored = ap (λ k. option_map (λ (user : User). user.nick) (row w.hall.room.users k))
        (is.fits.sound.well.users_named fold holder there)
        ∙ ap (option_map (λ (user : User). user.nick)) there;
  }

  -- a user of b's side
  module _ (user : User) (on_side : AreJoined links b user.home)
      (home_known : w.tree.knows user.home ≡ true) (sent : IsSentUser user) (holder : User)
      (taken : row w.hall.room.users (key user.nick) ≡ Some holder) where
    taken_here : row view.room.users (key user.nick) ≡ Some holder
    taken_here = ap (λ (users : Table User). row users (key user.nick))
        (rooms_alike s b t w view is.takes is.fits).users ∙ taken

    pub user_collides : IsKnownOfLines → EachIsReadBack → (their_room : Room)
        → IsWithinLimits their_room → Says s b t w view (kills t holder.nick)
        (line_text (wire their_room (routes b) (AddUser user)))
    user_collides laws read_back their_room room_within = record {
      is_line = back.is_line;
      end = end.end;
      is_end = end.there;
      means =
          collision_heard their_room (routes b) view
          (number s b) end.end user holder back taken_here (ap is_some end.named)
          ∙ ap (λ own. tells (a_deed (kills own holder.nick) ∷ []))
          (own_name s b t w view is.takes is.fits);
      doable = may_be_killed (key user.nick) holder taken;
    }
      where
        end : HasEnd view (number s b) b
        end = met laws s b t w view is

        back : IsReadBack their_room (routes b) view.room view.routes (number s b) (AddUser user)
        back =
            read_back their_room (routes b) view.room view.routes (number s b) (AddUser user)
            (user_readable s b t w view is l links routes new user on_side home_known sent
            their_room room_within)
            (user_agrees s b t w view is l links routes new user on_side home_known sent.within)

-- ---- the KILL that goes back

-- nobody has the nickname
none_killed : (server nick : List ℕ) (room : Room) → row room.users (key nick) ≡ None
    → killed server room nick ≡ []
none_killed server nick room none =
    ap (λ o. option_map_or (λ (holder : User). kills server holder.nick ∷ []) o []) none

-- a server at rest, and one that it is linked to
module _ (s : ItemSetting) (world : World) (routes : Name → Known) (p t : Name) (view : View)
    (fixed : IsItemSetting s) (fits : Fits s p (side_state_of s world routes p) view)
    (linked : AreLinked world.links p t) (among : IsAmong s.names t) where
  abbrev w : SideState
  w = side_state_of s world routes p

  knows_t : w.tree.knows t ≡ true
  knows_t = joined_test world.links t p (sym (linked_joined world.links p t linked))

  apart : t ≢ p
  apart e = linked_other world.links p t fits.sound.tree.forest linked (sym e)

  t_named : IsServer t
  t_named = fixed.servers.named t among

  pub neighbour_met : HasEnd view (number s t) t
  neighbour_met = met_end view (number s t) t
      (fits.ends t among
      ∙ ap (λ c. if c then Some (if w.tree.knows t then Some t else None) else None)
      ((tests_tell world.links p t p).2.1 linked)
      ∙ ap (λ c. Some (if c then Some t else None)) knows_t)

  behind : is_behind_link view.routes (number s t) t ≡ true
  behind =
      ap (λ k. option_map_or (nat_eq (number s t)) (of_known.next_hop k t) false) fits.routes
      ∙ ap (λ o. option_map_or (nat_eq (number s t)) o false)
      (link_of (row_of (w.tree.routes p) t) (shape_in s.names (info_in s.settings) world.links p t)
      (shape_at s w fits.sound p t fits.here knows_t apart)
      ∙ ap (λ n. Some (number s n)) (toward_linked world.links p t fits.sound.tree.forest linked))
      ∙ eq-eqb (number s t) (number s t) refl

  abbrev reader : Reader
  reader = reader_of view.room view.routes (number s t)

  comes : may_come reader t ≡ true
  comes =
      ap (λ c. if c then is_behind_link view.routes (number s t) t
      else (if is_nick t then option_map_or (is_behind_link view.routes (number s t))
      (reader.home t) true else true)) t_named
      ∙ behind

  module _ (laws : IsKnownOfLines) (nick : List ℕ) (nick_named : IsNick nick)
      (nobody : row (world.hall p).room.users (key nick) ≡ None) where
    none_here : row view.room.users (key nick) ≡ None
    none_here =
        ap (λ (room : Room). row room.users (key nick)) fits.room
        ∙ ap (λ (users : Table User). row users (key nick))
        (home_is_alike p (world.hall p).room).users
        ∙ nobody

    plain : IsPlain (kill_parts t nick)
    plain = from_plain t (codes "KILL") (nick ∷ []) (Some (codes "Nick collision"))
        (laws.names.server t t_named).plain
        (command_plain _ _ refl refl refl) ((laws.names.nick nick nick_named).plain, tt) refl
        (lit≤ tt)

    means_nothing : deeds_meant view.room view.routes (number s t)
        (message_of (kill_parts t nick)) ≡ Ok []
    unfolding deeds_meant
    means_nothing =
        all_so true (may_come reader t && true) (is_server t && is_nick nick)
        (killed t view.room nick) refl (and_from (may_come reader t) true comes refl)
        (and_from (is_server t) (is_nick nick) t_named nick_named)
        ∙ ap (λ deeds. Ok (map a_deed deeds)) (none_killed t nick view.room none_here)

    unheard : IsUnheard s t view (line_text (kill_parts t nick))
    unheard = record {
      is_line =
          laws.as_line (kill_parts t nick) (kill_carried laws.names t t_named nick nick_named);
      end = neighbour_met.end;
      is_end = neighbour_met.there;
      nothing =
          line_heard laws.written laws.alone view (number s t) neighbour_met.end
          (kill_parts t nick) plain (kill_fits t nick t_named nick_named)
          (ap is_some neighbour_met.named)
          ∙ ap of_met means_nothing;
    }

pub kill_unheard : (laws : IsKnownOfLines) (s : ItemSetting) (world : World)
    (routes : Name → Known) (p t : Name) (nick : List ℕ) (view : View) → IsItemSetting s
    → Fits s p (side_state_of s world routes p) view → AreLinked world.links p t
    → IsAmong s.names t → IsNick nick → row (world.hall p).room.users (key nick) ≡ None
    → IsUnheard s t view (line_text (kill_parts t nick))
kill_unheard laws s world routes p t nick view fixed fits linked among nick_named nobody =
    unheard s world routes p t view fixed fits linked among laws nick nick_named nobody

-- ---- which lines may be answered

-- a line by which somebody is introduced: nobody's name is in front of it
abbrev pub introduces : List ℕ → Bool
introduces line = bytes_eq (take 5 line) (codes "NICK ")

-- what is cut off makes no difference
uncut : (parts : Written) → introduces (line_text parts) ≡ introduces (joined_text parts)
unfolding line_text cut
uncut parts = ap (λ front. bytes_eq front (codes "NICK "))
    (take-take 5 max_line (joined_text parts) (lit≤ tt))

pub user_introduces : (their_room : Room) (known : Known) (user : User)
    → introduces (line_text (wire their_room known (AddUser user))) ≡ true
user_introduces their_room known user = uncut (wire their_room known (AddUser user))

pub kill_introduces_nobody : (server nick : List ℕ)
    → introduces (line_text (kill_parts server nick)) ≡ false
kill_introduces_nobody server nick = uncut (kill_parts server nick)

-- nor those of a handshake
pub pass_introduces_nobody : (word : List ℕ) → introduces (line_text (pass_parts word)) ≡ false
pass_introduces_nobody word = uncut (pass_parts word)

-- of a link: those lines, whichever of its ends they come to
abbrev pub answers_of : Link → Answering
answers_of l = record { answered = introduces; one = l.near; other = l.far }

-- of lines the first of which is not answered, no more are than there are others
pub count_but_first : (answered : List ℕ → Bool) (first : List ℕ) (lines : List (List ℕ))
    → answered first ≡ false → count_by answered (first ∷ lines) ≤ length lines
count_but_first answered first lines none =
    let few = count_by-le-length answered lines in
    let all = sum_by-cons (λ line. cond (answered line) 1 0) first lines
    ∙ ap (λ b. cond b 1 0 + count_by answered lines) none in
    omega arith
