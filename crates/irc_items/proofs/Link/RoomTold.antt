-- What one end of a new link tells of its room, line by line: the other side's room comes to have
-- it.
use Rattle.std.proofs.Common.{◌≡◌, ◌≢◌, ◌⊎◌, inl, inr, ℕ, Bool, true, false, not, ◌&&◌, ◌||◌}
use Rattle.std.proofs.Common.{Option, Some, None, List, [], ◌∷◌, ◌++◌, map, nat_eq, refl, sym, ◌∙◌}
use Rattle.std.proofs.Common.{ap, cond, subst, option_map, if◌then◌else◌}
use Rattle.std.proofs.Math.Path.{fun_ext}
use Rattle.std.proofs.lemmas.Bool.{eq-eqb, eqb-true, or_right}
use Rattle.std.proofs.lemmas.Option.{same_Some}
use Rattle.std.specs.Option.{option_map_or}
use Rattle.std.proofs.Math.Bool.{or-true}
use Rattle.irc_channels.specs.declared.flags.Flags.{Flags}
use Rattle.irc_modes.specs.declared.modes.ModeChange.{ModeChange}
use Rattle.irc_line.specs.Messages.{line_text}
use Rattle.irc_names.specs.Fold.{key}
use Rattle.irc_names.specs.Tables.{Table, row}
use Rattle.irc_users.specs.declared.user.User.{User}
use Rattle.irc_users.specs.declared.user_change.UserChange.{UserChange}
use Rattle.irc_room.specs.effect.Effect.TheVariants.{AddUser, ChangeUser}
use Rattle.irc_room.specs.Effects.{has_user}
use Rattle.irc_room.specs.Invitations.{of_home}
use Rattle.irc_room.specs.Limits.{IsWithinLimits}
use Rattle.irc_room.specs.Room.{Room}
use Rattle.irc_room.specs.Lemmas.AlikeLaw.{home_is_alike}
use Rattle.irc_room.specs.Lemmas.SendingAlike.{alike_keep_limits}
use Rattle.irc_burst.specs.DeedsMeant.{as_stored}
use Rattle.irc_burst_lines.specs.DeedLines.{deed_parts}
use Rattle.irc_link_reader.specs.Reader.{is_behind_link}
use Rattle.irc_merge.specs.CanBeDone.{LinesCanBeDone}
use Rattle.irc_merge.specs.BurstRead.{some_far, brought, changed, new_members, read_all, read_deed}
use Rattle.irc_merge.specs.Bursts.{burst}
use Rattle.irc_merge.specs.Deeds.{Deed, does, kills, brings, sets, tops, after_deeds}
use Rattle.irc_relay.specs.Following.{nothing, by_line, aside_line}
use Rattle.irc_relay.specs.Lemmas.TellingNames.{Telling, alike, unlike, tell}
use Rattle.irc_relay.specs.Links.{Name, Link, joined, same, toward, AreJoined}
use Rattle.irc_relay.specs.Lemmas.NextHops.{linked_joined, next_hop}
use Rattle.irc_routes.specs.Known.{Known, row_of}
use Rattle.irc_routes.specs.declared.server_row.ServerRow.{ServerRow}
use Rattle.irc_stage.specs.View.{View}
use Rattle.irc_readback.specs.EachReadBack.{EachIsReadBack}
use Rattle.irc_world.specs.World.{Hall, World}
use Rattle.irc_follow.specs.Fits.{Fits}
use Rattle.irc_follow.specs.SideState.{ItemSetting, SideState, done, info_in, number}
use Rattle.irc_follow.specs.Says.{neighbour_served, Aside, Says}
use Rattle.irc_follow.specs.Tree.{Shape, shape, shape_in}
use Rattle.irc_follow.specs.Lemmas.SideAtRest.{joined_so}
use Rattle.irc_follow.specs.Lemmas.BehindLinks.{joined_test}
use Rattle.irc_follow.specs.Lemmas.SidesFollowed.{IsKnownOfLine}
use Rattle.irc_follow.specs.Lemmas.PlacesOfNames.{one_place}
use Rattle.irc_items.proofs.Burst.Lines.{members_aside, members_said, modes_aside, modes_said}
use Rattle.irc_items.proofs.Burst.Lines.{new_user_said, topic_aside, topic_said, IsBurstReader}
use Rattle.irc_items.proofs.Burst.Lines.{IsNewNeighbour, KnowsBothSides}
use Rattle.irc_items.proofs.Burst.Read.{held_by, AreHeldFirst, AreToldIn, IsHeldFirst, IsToldIn}
use Rattle.irc_items.proofs.Burst.ChangeLines.{change_aside, change_said, IsOnlyTheirs}
use Rattle.irc_items.proofs.Burst.Taken.{members_come, members_spelled}
use Rattle.irc_items.proofs.Burst.Told.{AreComing, AreTheirMembers, IsTheirChange}
use Rattle.irc_items.proofs.Burst.Collisions.{answers_of, user_collides}
use Rattle.irc_items.proofs.Good.GoodLines.{MayKill}
use Rattle.irc_items.proofs.Link.Answers.{may_answer}
use Rattle.irc_items.proofs.Link.Gains.{hall_left, read_deed_done}
use Rattle.irc_items.proofs.Link.Sides.{room_deeds, IsReadDeed}
use Rattle.irc_items.proofs.Link.Starts.{knows_all, linked_routes, linked_world, moment, over}
use Rattle.irc_items.proofs.Link.Starts.{takes_b, way, within, AreTold, IsKnownOfSides}
use Rattle.irc_items.proofs.Link.Starts.{IsSideOfLink, IsToldThen, room_lines}

pub record AreRoomLaws : Type 0 where
  pub sides : IsKnownOfSides
  pub line : IsKnownOfLine
  pub read_back : EachIsReadBack
  pub doable : LinesCanBeDone

module _ (laws : AreRoomLaws) {s : ItemSetting} {l : Link} {world : World} {routes : Name → Known}
    {t b : Name} (is : IsSideOfLink s l world routes t b)
    (client : ℕ) (known_at : Name → Known) (at_b : known_at b ≡ routes b) where
  abbrev links : List Link
  links = world.links

  abbrev knows : Name → Bool
  knows = knows_all laws.sides is

  -- who is of b's side
  abbrev far : Name → Bool
  far home = joined links home b

  abbrev their_room : Room
  their_room = (world.hall b).room

  -- this side, with this hall
  abbrev w : Hall → SideState
  w hall = moment laws.sides is knows known_at hall

  abbrev IsTold : Hall → View → List Deed → List (List ℕ) → Type 0
  IsTold hall view deeds lines = AreTold laws.sides is client (w hall) view deeds lines

  way_to : (x v : Name) → AreJoined links x t → AreJoined links b v
      → toward (l ∷ links) x v ≡ s.streams.parent x
  way_to x v on j = way laws.sides is x on v j

  -- ---- who is behind the new link

  b_known : knows b ≡ true
  b_known =
      ap (λ c. joined links b t || c) (joined_test links b b refl) ∙ or-true (joined links b t)

  t_apart : AreJoined links t b → ⊥
  t_apart = (over laws.sides is).apart

  by_row : (o : Option ServerRow)
      → option_map_or (nat_eq (number s b)) (option_map (λ (r : ServerRow). r.link) o) false
      ≡ option_map_or (λ (sh : Shape). nat_eq (number s b) sh.link) (option_map shape o) false
  by_row None = refl
  by_row (Some r) = refl

  module _ (hall : Hall) (view : View) (fits : Fits s t (w hall) view) where
    abbrev room : Room
    room = hall.room

    abbrev kept : Name → Shape
    kept x = shape_in s.names (info_in s.settings) (l ∷ links) t x

    abbrev is_on : Shape → Bool
    is_on sh = nat_eq (number s b) sh.link

    on_far : (x : Name) → far x ≡ true → is_on (kept x) ≡ true
    on_far x j =
        ap (λ v. nat_eq (number s b) (number s v)) (way_to t x refl (sym (joined_so links x b j))
        ∙ (over laws.sides is).parent)
        ∙ eq-eqb (number s b) (number s b) refl

    on_near : (x : Name) → AreJoined links x t → x ≢ t → is_on (kept x) ≡ false
    on_near x j two = at (is_on (kept x)) refl
      where
        at : (c : Bool) → is_on (kept x) ≡ c → c ≡ false
        at false e = refl
        at true e =
            let hop = next_hop links t x is.forest.1 (sym j) (λ f. two (sym f)) in
            let stays = ((over laws.sides is).kept t x (sym j)).toward_same in
            let there : b ≡ toward (l ∷ links) t x = one_place s.names b
            (toward (l ∷ links) t x) is.b_among (eqb-true (number s b) (kept x).link e) in
            absurd (t_apart (subst (AreJoined links t) (sym (there ∙ sym stays))
            (linked_joined links t (toward links t x) hop.linked)))

    link_of : (x : Name) → is_behind_link view.routes (number s b) x
        ≡ option_map_or is_on (if knows x && not (same x t) then Some (kept x) else None) false
    link_of x =
        ap (λ (k : Known). is_behind_link k (number s b) x) fits.routes
        ∙ by_row (row_of (known_at t) x)
        ∙ ap (λ o. option_map_or is_on o false) (fits.sound.tree.rows t x fits.here)

    behind_is : (x : Name) → is_behind_link view.routes (number s b) x ≡ far x
    behind_is x = link_of x ∙ by (joined links x t) refl (far x) refl (tell x t)
      where
        by : (c : Bool) → joined links x t ≡ c → (d : Bool) → far x ≡ d → Telling x t
            → option_map_or is_on (if (c || d) && not (same x t) then Some (kept x)
            else None) false ≡ d
        by c e true f (alike _ same_one) =
            absurd (t_apart (subst (λ v. AreJoined links v b) same_one (joined_so links x b f)))
        by true e true f (unlike _ two) =
            absurd (t_apart (sym (joined_so links x t e) ∙ joined_so links x b f))
        by false e true f (unlike z two) =
            ap (λ q. option_map_or is_on (if not q then Some (kept x) else None) false) z
            ∙ on_far x f
        by false e false f telling = refl
        by true e false f (alike z _) =
            ap (λ q. option_map_or is_on (if not q then Some (kept x) else None) false) z
        by true e false f (unlike z two) =
            ap (λ q. option_map_or is_on (if not q then Some (kept x) else None) false) z
            ∙ on_near x (joined_so links x t e) two

    far_is : is_behind_link view.routes (number s b) ≡ far
    far_is = fun_ext behind_is

    reader : IsBurstReader s b t (w hall) view
    reader = record {
      fixed = is.fixed;
      takes = takes_b laws.sides is;
      fits = fits;
      known = b_known;
      far = λ x p here takes. way_to x b (joined_so links x t here) refl ∙ takes.parent;
      behind = λ v known on x p here takes. way_to x v (joined_so links x t here)
          (sym (joined_so links v b (sym (behind_is v) ∙ on))) ∙ takes.parent;
    }

    new : IsNewNeighbour s l links routes b t (w hall)
    new = record { over = over laws.sides is; right = is.right; forest = refl; keeps = at_b }

    both_sides : KnowsBothSides links b t (w hall)
    both_sides = record {
      here = λ x here. joined_so links x t here;
      known = λ x known. by x (joined links x t) refl known;
    }
      where
        by : (x : Name) (c : Bool) → joined links x t ≡ c → (c || far x) ≡ true
            → AreJoined links x t ⊎ AreJoined links b x
        by x true e known = inl (joined_so links x t e)
        by x false e known = inr (sym (joined_so links x b known))

    -- ---- one line

    module _ (deeds : List Deed) (lines : List (List ℕ)) where
      -- what is told behind it is told of the room that it leaves
      abbrev IsReadSo : List ℕ → List Deed → Type 0
      IsReadSo line read =
          ((now : View) → Fits s t (w (hall_left read hall)) now
          → IsTold (hall_left read hall) now deeds lines)
          → IsTold hall view (read ++ deeds) (line ∷ lines)

      read_aside : (line : List ℕ) → Aside s b t (w hall) view line → IsReadSo line []
      read_aside line aside more =
          aside_line (record { aside = aside; side = within laws.sides is knows known_at hall })
          (more (neighbour_served s b view line).state
          (laws.line.aside s b t (w hall) view line fits aside).fits)

      abbrev May : Deed → List ℕ → Type 0
      May deed line = MayKill s (answers_of l) (linked_world laws.sides is)
          (linked_routes laws.sides is) b t deed line

      read_said : (line : List ℕ) (deed : Deed) → IsReadDeed t deed → May deed line
          → Says s b t (w hall) view deed line → IsReadSo line (deed ∷ [])
      read_said line deed read may says more =
          by_line
          (record { says = says; may = may; side = within laws.sides is knows known_at hall })
          (subst (λ part. AreTold laws.sides is client part
          (neighbour_served s b view line).state deeds lines) (sym done_is)
          (more (neighbour_served s b view line).state
          (subst (λ part. Fits s t part (neighbour_served s b view line).state) done_is
          (laws.line.fits s b t (w hall) view deed line is.fixed
          (takes_b laws.sides is) fits says))))
        where
          done_is : done s (w hall) deed ≡ w (hall_left (deed ∷ []) hall)
          done_is = read_deed_done s t deed (w hall) read

      within_there : IsWithinLimits their_room
      within_there = (is.holds.within b).room

      abbrev line_of : Deed → List ℕ
      line_of deed = line_text (deed_parts (of_home b their_room) (routes b) deed)

      members_one : (channel : List ℕ) (members : List (List ℕ × Flags))
          → IsToldIn b far their_room room (brings b channel members) → IsReadSo (line_of
          (brings b channel members)) (brought b channel (new_members far room channel members))
      members_one channel members told = by (new_members far room channel members) refl
        where
          theirs : AreTheirMembers their_room channel members
          theirs = told.told.1

          come : AreComing far room channel (new_members far room channel members)
          come = members_come far their_room room channel members told.well
              (is.holds.sound.well_formed b) told.theirs theirs

          by : (more : List (List ℕ × Flags)) → new_members far room channel members ≡ more
              → IsReadSo (line_of (brings b channel members)) (brought b channel more)
          by [] e = read_aside (line_of (brings b channel members))
              (members_aside laws.sides.handshakes.lines s b t
              (w hall) view reader their_room within_there channel members theirs
              (ap (λ f. new_members f room channel members) far_is ∙ e))
          by (first ∷ later) e = read_said (line_of (brings b channel members))
              (brings b channel (first ∷ later)) tt tt
              (members_said laws.sides.handshakes.lines s b t (w hall) view reader their_room
              within_there channel members theirs (first ∷ later)
              (ap (λ f. new_members f room channel members) far_is ∙ e) (λ none. cc none)
              (subst (λ f. AreComing f room channel (first ∷ later)) (sym far_is)
              (subst (AreComing far room channel) e come))
              (sym (ap (map (as_stored room)) e)
              ∙ members_spelled far their_room room channel members told.well
              (is.holds.sound.well_formed b) told.theirs theirs ∙ e))

      -- what is read where somebody of the channel is far
      if_some_far : (channel : List ℕ) (deed : Deed) → IsReadDeed t deed → May deed (line_of deed)
          → (some_far (is_behind_link view.routes (number s b)) room channel ≡ true
          → Says s b t (w hall) view deed (line_of deed))
          → (some_far (is_behind_link view.routes (number s b)) room channel ≡ false
          → Aside s b t (w hall) view (line_of deed))
          → IsReadSo (line_of deed) (if some_far far room channel then deed ∷ [] else [])
      if_some_far channel deed read may says aside = by (some_far far room channel) refl
        where
          by : (c : Bool) → some_far far room channel ≡ c
              → IsReadSo (line_of deed) (if c then deed ∷ [] else [])
          by true e = read_said (line_of deed) deed read may
              (says (ap (λ f. some_far f room channel) far_is ∙ e))
          by false e =
              read_aside (line_of deed) (aside (ap (λ f. some_far f room channel) far_is ∙ e))

      modes_one : (channel : List ℕ) (changes : List ModeChange) → IsToldIn b far their_room room
          (sets b channel changes) → IsReadSo (line_of (sets b channel changes))
          (if some_far far room channel then sets b channel changes ∷ [] else [])
      modes_one channel changes told = if_some_far channel (sets b channel changes) tt tt
          (modes_said laws.sides.handshakes.lines s b t
          (w hall) view reader channel changes told.told.1)
          (modes_aside laws.sides.handshakes.lines s b t
          (w hall) view reader channel changes told.told.1)

      topic_one : (channel topic : List ℕ) → IsToldIn b far their_room room (tops b channel topic)
          → IsReadSo (line_of (tops b channel topic)) (if some_far far room channel
          then tops b channel topic ∷ [] else [])
      topic_one channel topic told = if_some_far channel (tops b channel topic) tt tt
          (topic_said laws.sides.handshakes.lines s b t
          (w hall) view reader channel topic told.told.1)
          (topic_aside laws.sides.handshakes.lines s b t
          (w hall) view reader channel topic told.told.1)

      module _ (user : User) (told : IsToldIn b far their_room room (does (AddUser user))) where
        home_far : joined links user.home b ≡ true
        home_far =
            subst (λ (u : User). joined links u.home b ≡ true) told.told.bare
            (is.holds.homes_joined b (key user.nick) told.told.their told.told.there)

        home_known : knows user.home ≡ true
        home_known = or_right (joined links user.home t) (far user.home) home_far

        their_limits : IsWithinLimits (of_home b their_room)
        their_limits = (alike_keep_limits (of_home b their_room) their_room
            (home_is_alike b their_room)).1 within_there

        user_comes : row room.users (key user.nick) ≡ None
            → IsReadSo (line_of (does (AddUser user))) (does (AddUser user) ∷ [])
        user_comes free =
            read_said (line_of (does (AddUser user))) (does (AddUser user)) tt tt
            (new_user_said s b t (w hall) view reader l links routes new user
            (sym (joined_so links user.home b home_far)) home_known laws.sides.handshakes.lines
            laws.read_back
            told.told.sent free (of_home b their_room) their_limits)

        -- the nickname is on both sides
        holder_killed : (holder : User) → row room.users (key user.nick) ≡ Some holder
            → row (world.hall t).room.users (key user.nick) ≡ Some holder
            → IsReadSo (line_of (does (AddUser user))) (kills t holder.nick ∷ [])
        holder_killed holder taken first =
            read_said (line_of (does (AddUser user))) (kills t holder.nick) refl
            (λ own. may_answer laws.sides.handshakes.lines laws.sides is user holder
            told.told.their first told.told.there
            (held_by t b far their_room room user holder told taken).same_key)
            (user_collides s b t (w hall) view reader l links routes new both_sides user
            (sym (joined_so links user.home b home_far)) home_known told.told.sent holder taken
            laws.sides.handshakes.lines laws.read_back (of_home b their_room) their_limits)

        user_one : IsHeldFirst far (world.hall t).room room (does (AddUser user))
            → IsReadSo (line_of (does (AddUser user))) (read_deed t far room (does (AddUser user)))
        user_one held = by (row room.users (key user.nick)) refl
          where
            by : (o : Option User) → row room.users (key user.nick) ≡ o
                → IsReadSo (line_of (does (AddUser user))) (option_map_or
                (λ (holder : User). kills t holder.nick ∷ []) o (does (AddUser user) ∷ []))
            by None free = user_comes free
            by (Some holder) taken = holder_killed holder taken (held holder taken)

      -- what a user has set
      module _ (nick : List ℕ) (change : UserChange)
          (told : IsToldIn b far their_room room (does (ChangeUser nick change)))
          (held : IsHeldFirst far (world.hall t).room room (does (ChangeUser nick change))) where
        at_home : IsWithinLimits (of_home b their_room)
        at_home = (alike_keep_limits (of_home b their_room) their_room
            (home_is_alike b their_room)).1 within_there

        only_theirs : IsOnlyTheirs (is_behind_link view.routes (number s b)) room nick
        only_theirs = record {
          behind = λ user at.
              subst (λ f. f user.home ≡ true) (sym far_is) (held user at);
          spelled = λ user at.
              let they = told.theirs (key nick) user at (held user at) in
              they.same_nick ∙ ap (λ (u : User). u.nick)
              (same_Some they.their told.told.their (sym they.there ∙ told.told.there))
              ∙ told.told.stored;
        }

        home_stored : IsTheirChange (of_home b their_room) nick change
        home_stored = record {
          their = told.told.their;
          there = ap (λ (r : Table User). row r (key nick)) (home_is_alike b their_room).users
              ∙ told.told.there;
          stored = told.told.stored;
          keeps = told.told.keeps;
          unseen = told.told.unseen;
        }

        change_one : IsReadSo (line_of (does (ChangeUser nick change)))
            (changed room nick change)
        change_one = by (has_user room nick) refl
          where
            by : (c : Bool) → has_user room nick ≡ c
                → IsReadSo (line_of (does (ChangeUser nick change)))
                (cond c (does (ChangeUser nick change) ∷ []) [])
            by true there = read_said (line_of (does (ChangeUser nick change)))
                (does (ChangeUser nick change)) tt tt
                (change_said laws.sides.handshakes.lines s b t (w hall) view reader
                (of_home b their_room) (routes b) at_home nick change home_stored only_theirs there)
            by false none = read_aside (line_of (does (ChangeUser nick change)))
                (change_aside laws.sides.handshakes.lines s b t (w hall) view reader
                (of_home b their_room) (routes b) at_home nick change home_stored only_theirs none)

      -- whoever is named in a line of b is b
      by_b : (deed_of : List ℕ → Deed) (by : List ℕ) → by ≡ b
          → (IsToldIn b far their_room room (deed_of b) → IsReadSo (line_of (deed_of b))
          (read_deed t far room (deed_of b))) → IsToldIn b far their_room room (deed_of by)
          → IsReadSo (line_of (deed_of by)) (read_deed t far room (deed_of by))
      by_b deed_of by is = subst
          (λ v. IsToldIn b far their_room room (deed_of v)
          → IsReadSo (line_of (deed_of v)) (read_deed t far room (deed_of v))) (sym is)

      told_one : (deed : Deed) → IsToldIn b far their_room room deed → IsHeldFirst far
          (world.hall t).room room deed → IsReadSo (line_of deed) (read_deed t far room deed)
      told_one (does (AddUser user)) told held = user_one user told held
      told_one (does (ChangeUser nick change)) told held = change_one nick change told held
      told_one (brings by channel members) told held =
          by_b (λ v. brings v channel members) by told.told.0 (members_one channel members) told
      told_one (sets by channel changes) told held =
          by_b (λ v. sets v channel changes) by told.told.0 (modes_one channel changes) told
      told_one (tops by channel topic) told held =
          by_b (λ v. tops v channel topic) by told.told.0 (topic_one channel topic) told
      told_one deed told held = absurd told.told

  -- ---- line by line

  tells_room : (deeds : List Deed) (hall : Hall) (view : View) → Fits s t (w hall) view
      → AreToldIn t b far their_room hall.room deeds → AreHeldFirst t far
      (world.hall t).room hall.room deeds → IsTold hall view (read_all t far hall.room deeds)
      (map line_text (map (deed_parts (of_home b their_room) (routes b)) deeds))
  tells_room [] hall view fits told held = nothing
  tells_room (deed ∷ deeds) hall view fits told held =
      told_one hall view fits
      (read_all t far (after_deeds hall.room (read_deed t far hall.room deed)) deeds)
      (map line_text (map (deed_parts (of_home b their_room) (routes b)) deeds)) deed told.0 held.0
      (λ now fits_now. tells_room deeds
      (hall_left (read_deed t far hall.room deed) hall) now fits_now told.1 held.1)

pub room_told : (laws : AreRoomLaws) (s : ItemSetting) (l : Link) (world : World)
    (routes : Name → Known)
    (t b : Name) (is : IsSideOfLink s l world routes t b)
    (client : ℕ) → IsToldThen laws.sides is client (knows_all laws.sides is) (world.hall t)
    (room_deeds world t b)
    (room_lines laws.sides is)
room_told laws s l world routes t b is client known_at view at_b fits =
    tells_room laws is client known_at at_b (burst b (world.hall b).room)
    (world.hall t) view fits is.rooms.told is.rooms.held
