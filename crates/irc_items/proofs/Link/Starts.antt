-- What one end of a new link tells the other: the other's side comes to know the servers of this
-- one, one by one, and then what its room has.
use Rattle.irc_link_words.specs.Numbers.{max_number}
use Rattle.irc_follow.specs.Lemmas.CarriedLines.{server_carried}
use Rattle.std.proofs.Common.{count_by, ◌≤◌, ◌≡◌, ◌≢◌, ◌⊎◌, inl, inr, ℕ, ◌+◌, ◌<◌, suc, Bool, true}
use Rattle.std.proofs.Common.{false, not, ◌&&◌, ◌||◌, Option, Some, None, Ok, Err, List, [], ◌∷◌}
use Rattle.std.proofs.Common.{◌++◌, is_some, length, map, nat_eq, refl, sym, ◌∙◌, ap, subst, arith}
use Rattle.std.proofs.Common.{unwrap_or, option_map, if◌then◌else◌}
use Rattle.std.proofs.lemmas.Bool.{eq-eqb}
use Rattle.std.proofs.lemmas.List.{length-append, length-map}
use Rattle.std.proofs.Math.Path.{fun_ext}
use Rattle.std.specs.Cmp.Lexicographic.{bytes_decides}
use Rattle.std.specs.FinMap.{get}
use Rattle.std.specs.List.{list_any}
use Rattle.std.specs.Option.{option_map_or}
use Rattle.std.proofs.Math.Bool.{or-true, or_assoc, or-false}
use Rattle.irc_batch.specs.declared.close_reason.CloseReason.TheVariants as reason
use Rattle.irc_line.specs.Messages.{line_text}
use Rattle.irc_line.specs.Reading.{read_of}
use Rattle.irc_names.specs.Names.{IsServer}
use Rattle.irc_link_words.specs.GreetingLines.{greeting, pass_parts}
use Rattle.irc_link_words.specs.Openings.{greeting_opens}
use Rattle.irc_link_words.specs.Passwords.{is_password}
use Rattle.irc_link_words.specs.Peers.{not_taken, refusal}
use Rattle.irc_link_words.specs.declared.openings.Opening.TheVariants as opening
use Rattle.irc_burst.specs.DeedsMeant.{a_server}
use Rattle.irc_burst_lines.specs.BurstLines.{burst_parts, is_near}
use Rattle.irc_burst_lines.specs.DeedLines.{deed_parts, server_parts}
use Rattle.irc_link_reader.specs.Reader.{is_behind_link}
use Rattle.irc_link_writer.specs.Written.{next_distance}
use Rattle.irc_merge.specs.AsideInvitations.{BurstTellsNoInvitation}
use Rattle.irc_merge.specs.Bursts.{burst}
use Rattle.irc_merge.specs.Deeds.{Deed, gains}
use Rattle.irc_merge.specs.Laws.{WholeSide}
use Rattle.irc_relay.specs.Distances.{EndsAreAmong, IsAmong}
use Rattle.irc_relay.specs.Following.{Tells, by_line, aside_line}
use Rattle.irc_relay.specs.Lemmas.TellingNames.{Telling, alike, unlike, tell, same_when}
use Rattle.irc_relay.specs.Lemmas.TellingNames.{same_unless}
use Rattle.irc_relay.specs.Links.{Name, Link, part, joined, same, toward, distance, AreJoined}
use Rattle.irc_relay.specs.Links.{AreLinked, HasEnds, IsForest, IsNextHop}
use Rattle.irc_relay.specs.Relay.{streams_from, from_other_end, TakesFrom}
use Rattle.irc_relay.specs.Lemmas.NextHops.{distance_back, distance_self, linked_joined, next_hop}
use Rattle.irc_relay.specs.Lemmas.ShortWays.{ways_fit_names}
use Rattle.irc_relay.specs.Lemmas.LinkTakenOut.{tests_tell}
use Rattle.irc_room.specs.Invitations.{of_home}
use Rattle.irc_routes.specs.About.{About}
use Rattle.irc_routes.specs.Info.{IsInfo}
use Rattle.irc_routes.specs.Known.{Known, distance_of, is_full, is_itself, is_known, row_of}
use Rattle.irc_routes.specs.Known.{servers_told, smallest_free, token_in, token_out}
use Rattle.irc_routes.specs.Known as of_known
use Rattle.irc_routes.specs.declared.server_row.ServerRow.{ServerRow}
use Rattle.irc_stage.specs.View.{End, View, password_for}
use Rattle.irc_server.specs.Heard.{heard, meets, met_unless, opened, tells}
use Rattle.irc_server.specs.LinkServed.{opening_parts}
use Rattle.irc_world.specs.Homes.{HomesPass}
use Rattle.irc_world.specs.Stepping.{link_made}
use Rattle.irc_world.specs.World.{Hall, World}
use Rattle.irc_world.specs.WorldHolds.{IsWorld}
use Rattle.irc_follow.specs.AtRest.{AreRight}
use Rattle.irc_follow.specs.Fits.{Fits}
use Rattle.irc_follow.specs.SideState.{ItemSetting, SideState, done, info_in, number, IsItemSetting}
use Rattle.irc_follow.specs.SideState.{IsSoundSide}
use Rattle.irc_follow.specs.Says.{IsDoableGain, IsNothing, neighbour_served, machine, play}
use Rattle.irc_follow.specs.Tree.{Shape, gained_at, shape_in, known_told, told_token}
use Rattle.irc_follow.specs.Lemmas.AsideLines.{aside_stays}
use Rattle.irc_follow.specs.Lemmas.SideAtRest.{joined_among, joined_so}
use Rattle.irc_follow.specs.Lemmas.BehindLinks.{joined_test, row_says, RowSays}
use Rattle.irc_follow.specs.Lemmas.Neighbours.{HasEnd, met_end}
use Rattle.irc_follow.specs.Lemmas.EffectsReadNext.{distance_at, link_of, shape_at}
use Rattle.irc_follow.specs.Lemmas.SaidGain.{said_gain_fits}
use Rattle.irc_follow.specs.Lemmas.SaidGainToldOn.{low_distance, low_number, low_token_number}
use Rattle.irc_follow.specs.Lemmas.TreeGains as tree_of
use Rattle.irc_items.specs.GoodLines.{Answering}
use Rattle.irc_items.proofs.Burst.Collisions.{answers_of, count_but_first, introduces}
use Rattle.irc_items.proofs.Burst.Collisions.{pass_introduces_nobody}
use Rattle.irc_items.proofs.Good.GoodLines.{AsideWell, IsWithinSide, SaysWell, good_terms}
use Rattle.irc_items.proofs.Handshake.Greetings.{IsKnownOfHandshakes, heard_is, greeting_is_line}
use Rattle.irc_items.proofs.Link.Over.{over_link, way_over, IsOver}
use Rattle.irc_items.proofs.Link.Rooms.{AreRooms}
use Rattle.irc_items.proofs.Link.ServersTold.{told_are_that_side}
use Rattle.irc_items.proofs.Link.Sides.{deeds_of_link, room_deeds, routes_after, side_of}
use Rattle.irc_items.proofs.Burst.Written.{burst_written, near_all, server_line}
use Rattle.irc_items.proofs.Good.MetEnds.{linked_as_itself}
use Rattle.irc_items.proofs.Handshake.PassLines.{pass_heard, pass_served, with_word, word_kept}
use Rattle.irc_items.proofs.Handshake.PassLines.{pass_is_line}
use Rattle.irc_items.proofs.Handshake.ServerLines.{IsNewTo, IsWritten, server_heard}
use Rattle.irc_items.proofs.Link.ToldFirst.{ComeInTurn, IsNext, come_in_turn}

-- the side of t, which is being linked to b
pub record IsSideOfLink (s : ItemSetting) (l : Link) (world : World) (routes : Name → Known)
    (t b : Name) : Type 0 where
  pub ends : HasEnds l t b
  pub t_among : IsAmong s.names t
  pub b_among : IsAmong s.names b
  pub fixed : IsItemSetting s
  pub streams : s.streams ≡ streams_from (l ∷ world.links) (from_other_end world.links l.near l.far)
  pub forest : IsForest (l ∷ world.links)
  pub right : AreRight s world.links routes
  pub holds : IsWorld s.settings world
  pub rooms : AreRooms world t b

-- the ends of one link
same_ends : (l : Link) (x u t b : Name) → HasEnds l x u → HasEnds l t b
    → ((x ≡ t) × (u ≡ b)) ⊎ (x ≡ b)
same_ends l x u t b (inl (e, f)) (inl (g, h)) = inl (sym e ∙ g, sym f ∙ h)
same_ends l x u t b (inl (e, f)) (inr (g, h)) = inr (sym e ∙ g)
same_ends l x u t b (inr (e, f)) (inl (g, h)) = inr (sym f ∙ h)
same_ends l x u t b (inr (e, f)) (inr (g, h)) = inl (sym f ∙ h, sym e ∙ g)

pub record IsKnownOfSides : Type 0 where
  pub handshakes : IsKnownOfHandshakes
  pub whole : WholeSide
  pub untold : BurstTellsNoInvitation

module _ (known : IsKnownOfSides) {s : ItemSetting} {l : Link} {world : World}
    {routes : Name → Known}
    {t b : Name} (is : IsSideOfLink s l world routes t b) where
  abbrev laws : IsKnownOfHandshakes
  laws = known.handshakes

  abbrev links : List Link
  links = world.links

  abbrev pub forest : List Link
  forest = l ∷ world.links

  abbrev info : Name → List ℕ
  info = info_in s.settings

  -- where both sides come to, and which lines may be answered on the way
  abbrev pub linked_world : World
  linked_world = (link_made world l.near l.far).state

  abbrev pub linked_routes : Name → Known
  linked_routes = routes_after s l world routes

  abbrev pub answers : Answering
  answers = answers_of l

  pub over : IsOver l links s.streams t b
  over =
      subst (λ st. IsOver l links st t b) (sym is.streams) (over_link l links is.forest t b is.ends)

  pub takes_b : TakesFrom s.streams t b
  takes_b = record { parent = over.parent; below = let one = over.depth in omega arith }

  pub b_away : joined links b t ≡ false
  b_away = by (joined links b t) refl
    where
      by : (c : Bool) → joined links b t ≡ c → c ≡ false
      by false e = refl
      by true e = absurd (over.apart (sym (joined_so links b t e)))

  pub away : (x : Name) → AreJoined links b x → joined links x t ≡ false
  away x j = by (joined links x t) refl
    where
      by : (c : Bool) → joined links x t ≡ c → c ≡ false
      by false e = refl
      by true e = absurd (over.apart (sym (j ∙ joined_so links x t e)))

  -- the way to b's side is that by which lines come
  pub way : (x : Name) → AreJoined links x t → (v : Name) → AreJoined links b v
      → toward forest x v ≡ s.streams.parent x
  way = way_over l links s.streams t b over

  -- this side, by what it knows
  abbrev pub moment : (Name → Bool) → (Name → Known) → Hall → SideState
  moment knows known_at hall = record {
    tree =
        record { forest = forest; here = λ x. joined links x t; knows = knows; routes = known_at };
    hall = hall;
  }

  module _ (knows : Name → Bool) (known_at : Name → Known) (hall : Hall) where
    abbrev w : SideState
    w = moment knows known_at hall

    pub within : IsWithinSide s forest w
    within = record {
      alike = λ x p here takes. linked_as_itself forest x;
      here =
          λ x p u here takes near two. by x p u (joined_so links x t here) takes two near;
    }
      where
        by_ends : (x p u : Name) → AreJoined links x t → TakesFrom s.streams x p → u ≢ p
            → ((x ≡ t) × (u ≡ b)) ⊎ (x ≡ b) → joined links u t ≡ true
        by_ends x p u on takes two (inl (e, f)) =
            absurd (two (f ∙ sym over.parent ∙ ap s.streams.parent (sym e) ∙ takes.parent))
        by_ends x p u on takes two (inr e) = absurd (over.apart (sym on ∙ ap (part links) e))

        by : (x p u : Name) → AreJoined links x t → TakesFrom s.streams x p → u ≢ p
            → AreLinked forest x u → joined links u t ≡ true
        by x p u on takes two (inl h) = by_ends x p u on takes two (same_ends l x u t b h is.ends)
        by x p u on takes two (inr h) = joined_test links u t (sym (linked_joined links x u h) ∙ on)

    -- a server of b's side is gained
    module _ (uplink name words : List ℕ) (j : AreJoined links b name)
        (among : IsAmong s.names name) (unknown : knows name ≡ false)
        (described : words ≡ info name) (uplink_known : knows uplink ≡ true)
        (up : (if same name b then t else toward links name b) ≡ uplink)
        (there : is_known (known_at b) name ≡ true) where
      told_there : (x : Name) → AreJoined links x t → Telling x t
          → (joined links (toward forest x name) t ≡ true)
          ⊎ (is_known (known_at (toward forest x name)) name ≡ true)
      told_there x on (alike _ e) = inr (ap (λ v. is_known (known_at v) name)
          (way x on name j ∙ ap s.streams.parent e ∙ over.parent) ∙ there)
      told_there x on (unlike _ two) = inl (joined_test links (toward forest x name) t
          (subst (λ v. AreJoined links v t) (sym (way x on name j ∙ over.later x on two))
          (next_hop links x t is.forest.1 on two).joined))

      doable : IsDoableGain s w uplink name words
      doable = record {
        can = record {
          among = among;
          unknown = unknown;
          described = described;
          uplink_known = uplink_known;
          joined = λ x here. over.joined x name (joined_so links x t here) j;
          beside = λ x here. over.back name x (sym j) (sym (joined_so links x t here)) ∙ up;
          told = λ x here. told_there x (joined_so links x t here) (tell x t);
        };
        far = λ x p here takes. way x (joined_so links x t here) name j ∙ takes.parent;
      }

    module _ (view : View) (fits : Fits s t w view) where
      sound : IsSoundSide s w
      sound = fits.sound

      ends : EndsAreAmong s.names links
      ends x y near = sound.tree.ends x y (inr near)

      among_of : (x : Name) → AreJoined links x b → IsAmong s.names x
      among_of x j = joined_among s.names links x b is.forest.1 ends is.b_among j

      new_there : (name : Name) → IsAmong s.names name → knows name ≡ false
          → not_taken view.routes name ≡ None
      new_there name among unknown =
          ap (λ r. not_taken r name) fits.routes
          ∙ ap (λ c. if c then Some reason.AlreadyKnown
          else (if is_full (known_at t) then Some reason.Full else None))
          (tree_of.not_known s.names info is.fixed.servers is.fixed.few w.tree sound.tree t name
          fits.here unknown)
          ∙ ap (λ c. if c then Some reason.Full else None)
          (tree_of.not_full s.names info is.fixed.servers is.fixed.few w.tree sound.tree t name
          fits.here unknown among)

      -- ---- b names itself

      module _ (at_b : known_at b ≡ routes b) (b_unknown : knows b ≡ false) where
        itself : is_known (known_at b) b ≡ true
        itself = ap (λ (k : Known). is_known k b) at_b
            ∙ ap (λ n. same n b || is_some (row_of (routes b) b)) (is.right.named b is.b_among)
            ∙ ap (λ c. c || is_some (row_of (routes b) b)) (same_when b b refl)

        b_doable : IsDoableGain s w t b (info b)
        b_doable =
            doable t b (info b) refl is.b_among b_unknown refl (sound.tree.here_known t fits.here)
            (ap (λ c. if c then t else toward links b b) (same_when b b refl)) itself

        module _ (word : List ℕ) (kept : password_for view b ≡ Some word) (end : End)
            (is_end : get view.ends (number s b) ≡ Some end)
            (not_met : end.far ≡ None) (given : end.password ≡ Some word) where
          b_name : (routes b).name ≡ b
          b_name = is.right.named b is.b_among

          b_info : (routes b).about.info ≡ info b
          b_info = ap (λ (a : About). a.info) (is.right.about b is.b_among)

          not_refused : refusal (password_for view b)
              (unwrap_or end.password []) view.routes b ≡ None
          not_refused =
              ap (λ o. refusal o (unwrap_or end.password []) view.routes b) kept
              ∙ ap (λ o. refusal (Some word) (unwrap_or o []) view.routes b) given
              ∙ ap (λ c. if c then not_taken view.routes b else Some reason.Password)
              ((bytes_decides word word).1 refl)
              ∙ new_there b is.b_among b_unknown

          b_heard : heard view (number s b) end (read_of (line_text (greeting (routes b))))
              ≡ meets b (info b)
          b_heard =
              heard_is laws view (number s b) end (routes b) (ap is_some not_met)
              (subst IsServer (sym b_name) (is.fixed.servers.named b is.b_among))
              (subst IsInfo (sym b_info) (is.fixed.servers.described b is.b_among))
              ∙ ap (λ (o : Option (List ℕ)). opened view end
              (greeting_opens (is_some o) (Some ((routes b).name, (routes b).about.info)))) given
              ∙ ap (λ n. opened view end
              (greeting_opens true (Some (n, (routes b).about.info)))) b_name
              ∙ ap (λ i. opened view end (greeting_opens true (Some (b, i)))) b_info
              ∙ ap (λ c. opened view end (if c then Ok (opening.Greeting b (info b))
              else Err reason.UnknownPeer)) (is.fixed.servers.named b is.b_among)
              ∙ ap (λ o. met_unless o b (info b)) not_refused

          pub b_says : SaysWell s answers linked_world linked_routes b t w view (gains t b (info b))
              (line_text (greeting (routes b)))
          b_says = record {
            says = record {
              is_line =
                  greeting_is_line laws (routes b)
                  (subst IsServer (sym b_name) (is.fixed.servers.named b is.b_among))
                  (subst IsInfo (sym b_info) (is.fixed.servers.described b is.b_among));
              end = end;
              is_end = is_end;
              means = b_heard
                  ∙ sym (ap (λ c. if c then meets b (info b) else tells (a_server t b
                  (distance forest t b) (told_token w.tree b b) (info b) ∷ []))
                  (same_when b b refl));
              doable = b_doable;
            };
            may = tt;
            side = within;
          }

      -- ---- b tells of a server

      module _ (at_b : known_at b ≡ routes b) (b_known : knows b ≡ true) (r : ServerRow)
          (next : IsNext (routes b) knows r) where
        says_row : RowSays s links b r.name r
        says_row = row_says s links routes b is.right is.b_among r.name r next.there

        j_name : AreJoined links b r.name
        j_name = sym says_row.joined

        up : r.uplink ≡ toward links r.name b
        up = ap (λ (sh : Shape). sh.uplink) says_row.shape

        hop : IsNextHop links r.name b (toward links r.name b)
        hop = next_hop links r.name b is.forest.1 says_row.joined says_row.apart

        j_uplink : AreJoined links b r.uplink
        j_uplink = subst (AreJoined links b) (sym up) (sym hop.joined)

        not_itself : is_itself (routes b) r.name ≡ false
        not_itself = ap (λ n. same n r.name) (is.right.named b is.b_among)
            ∙ same_unless b r.name (λ e. says_row.apart (sym e))

        known_there : is_known (known_at b) r.name ≡ true
        known_there =
            ap (λ (k : Known). is_known k r.name) at_b
            ∙ ap (λ (o : Option ServerRow). is_itself (routes b) r.name || is_some o) next.there
            ∙ or-true (is_itself (routes b) r.name)

        r_doable : IsDoableGain s w r.uplink r.name r.info
        r_doable =
            doable r.uplink r.name r.info j_name (among_of r.name says_row.joined) next.unknown
            (ap (λ (sh : Shape). sh.info) says_row.shape) next.uplink_known
            (ap (λ c. if c then t else toward links r.name b) (same_unless r.name b says_row.apart)
            ∙ sym up) known_there

        -- ---- numbers

        abbrev away_from_t : ℕ
        away_from_t = distance forest t r.name

        over_by : (v : Name) → AreJoined links b v → distance forest t v ≡ suc (distance links b v)
        over_by v j =
            let far = over.far t v refl j in
            let none = distance_self links t in
            omega arith

        r_distance : r.distance ≡ distance links b r.name
        r_distance = ap (λ (sh : Shape). sh.distance) says_row.shape

        written_distance : next_distance (routes b) r.name ≡ away_from_t
        written_distance =
            ap (λ c. suc (unwrap_or (if c then Some 0 else option_map
            (λ (x : ServerRow). x.distance) (row_of (routes b) r.name)) 0)) not_itself
            ∙ ap (λ o. suc (unwrap_or (option_map (λ (x : ServerRow). x.distance) o) 0)) next.there
            ∙ ap suc r_distance ∙ sym (over_by r.name j_name)

        token_is : token_out (routes b) r.name ≡ Some r.ours
        token_is =
            ap (λ c. if c then Some 1
            else option_map (λ (x : ServerRow). x.ours) (row_of (routes b) r.name)) not_itself
            ∙ ap (option_map (λ (x : ServerRow). x.ours)) next.there

        told_is : told_token w.tree b r.name ≡ r.ours
        told_is = ap (λ k. unwrap_or (token_out k r.name) (smallest_free k)) at_b
            ∙ ap (λ o. unwrap_or o (smallest_free (routes b))) token_is

        short : away_from_t < length s.names
        short = ways_fit_names s.names forest t r.name sound.tree.forest sound.tree.ends is.t_among
            (over.joined t r.name refl j_name)

        written : IsWritten (routes b) r.uplink r.name r.info away_from_t r.ours
        written = record {
          uplink_named = is.fixed.servers.named r.uplink (among_of r.uplink (sym j_uplink));
          named = is.fixed.servers.named r.name (among_of r.name says_row.joined);
          described = subst IsInfo (sym (ap (λ (sh : Shape). sh.info) says_row.shape))
              (is.fixed.servers.described r.name (among_of r.name says_row.joined));
          distance = written_distance;
          number = ap (λ o. unwrap_or o 0) token_is;
          distance_least = let far = over_by r.name j_name in omega arith;
          distance_most = low_number away_from_t (length s.names) short is.fixed.few;
          number_least = let low =
              ((is.right.numbered b is.b_among).rows r.name r next.there).ours in omega arith;
          number_most = low_token_number r.ours (is.right.low b r.name r is.b_among next.there);
        }

        one_more : away_from_t ≡ distance forest t r.uplink + 1
        one_more =
            let far = over_by r.name j_name in
            let near = over_by r.uplink j_uplink in
            let back = distance_back links b r.name is.forest.1 j_name in
            let step = hop.nearer ∙ ap (λ u. suc (distance links u b)) (sym up) in
            let also = distance_back links r.uplink b is.forest.1 (sym j_uplink) in
            omega arith

        not_t : r.uplink ≢ t
        not_t e = over.apart (sym (subst (AreJoined links b) e j_uplink))

        t_way : (v : Name) → AreJoined links b v → toward forest t v ≡ b
        t_way v j = way t refl v j ∙ over.parent

        behind : is_behind_link view.routes (number s b) r.uplink ≡ true
        behind =
            ap (λ k. option_map_or (nat_eq (number s b)) (of_known.next_hop k r.uplink) false)
            fits.routes
            ∙ ap (λ o. option_map_or (nat_eq (number s b)) o false)
            (link_of (row_of (known_at t) r.uplink) (shape_in s.names info forest t r.uplink)
            (shape_at s w sound t r.uplink fits.here next.uplink_known not_t)
            ∙ ap (λ n. Some (number s n)) (t_way r.uplink j_uplink))
            ∙ eq-eqb (number s b) (number s b) refl

        free : token_in view.routes (number s b) r.ours ≡ None
        free =
            ap (λ k. token_in k (number s b) r.ours) fits.routes
            ∙ ap (token_in (known_at t) (number s b)) (sym told_is)
            ∙ ap (λ n. token_in (known_at t) (number s n) (told_token w.tree n r.name))
            (sym (t_way r.name j_name))
            ∙ tree_of.number_free s.names info is.fixed.servers is.fixed.few w.tree sound.tree
            r.uplink r.name r.info r_doable.can t fits.here

        is_new : IsNewTo view (number s b) r.uplink r.name away_from_t r.ours
        is_new = record {
          further = ap (λ k. option_map_or (λ far. nat_eq away_from_t (far + 1))
              (distance_of k r.uplink) true) fits.routes
              ∙ ap (λ o. option_map_or (λ far. nat_eq away_from_t (far + 1)) o true)
              (distance_at s w sound t r.uplink fits.here next.uplink_known)
              ∙ eq-eqb away_from_t (distance forest t r.uplink + 1) one_more;
          not_last = low_distance away_from_t (length s.names) short is.fixed.few;
          free = free;
          behind = behind;
          taken = new_there r.name (among_of r.name says_row.joined) next.unknown;
        }

        met : HasEnd view (number s b) b
        met = met_end view (number s b) b
            (fits.ends b is.b_among
            ∙ ap (λ c. if c then Some (if knows b then Some b else None) else None)
            ((tests_tell forest t b t).2.1 (inl is.ends))
            ∙ ap (λ c. Some (if c then Some b else None)) b_known)

        pub r_says : SaysWell s answers linked_world linked_routes b t w view
            (gains r.uplink r.name r.info) (server_line (routes b) r)
        r_says = record {
          says = record {
            is_line =
                laws.lines.as_line (server_parts (routes b) r.uplink r.name r.info)
                (server_carried laws.lines.names r.uplink written.uplink_named
                (routes b) r.name r.info written.named written.described
                (subst (λ n. n ≤ max_number) (sym written.distance) written.distance_most)
                (subst (λ n. n ≤ max_number) (sym written.number) written.number_most));
            end = met.end;
            is_end = met.there;
            means = server_heard laws.lines (routes b) r.uplink r.name r.info away_from_t r.ours
                written view (number s b) is_new met.end (ap is_some met.named)
                ∙ ap (λ n. tells (a_server r.uplink r.name away_from_t n r.info ∷ [])) (sym told_is)
                ∙ sym (ap (λ c. if c then meets r.name r.info
                else tells (a_server r.uplink r.name away_from_t (told_token w.tree b r.name) r.info
                ∷ [])) (same_unless r.name b says_row.apart));
            doable = r_doable;
          };
          may = tt;
          side = within;
        }

  -- ---- line by line

  abbrev pub AreTold : ℕ → SideState → View → List Deed → List (List ℕ) → Type 0
  AreTold client part view deeds lines = Tells (machine s client) (play s client)
      (good_terms s answers linked_world linked_routes) b t part view deeds lines

  -- what b keeps stays
  b_stays : (knows : Name → Bool) (known_at : Name → Known)
      (hall : Hall) (uplink name words : List ℕ) → known_at b ≡ routes b
      → gained_at s.names (moment knows known_at hall).tree uplink name words b ≡ routes b
  b_stays knows known_at hall uplink name words at_b =
      ap (λ c. if c && not (is_known (known_at b) name) then known_told s.names
      (moment knows known_at hall).tree uplink name words b else known_at b)
      b_away ∙ at_b

  -- which servers are known, once these are
  abbrev knows_also : (Name → Bool) → List ServerRow → Name → Bool
  knows_also knows rows x = knows x || list_any (λ (r : ServerRow). same x r.name) rows

  -- what is told behind the servers, and of which deeds
  abbrev pub IsToldThen : ℕ → (Name → Bool) → Hall → List Deed → List (List ℕ) → Type 0
  IsToldThen client knows hall deeds lines =
      (known_at : Name → Known) (view : View) → known_at b ≡ routes b
      → Fits s t (moment knows known_at hall) view
      → AreTold client (moment knows known_at hall) view deeds lines

  tell_rows : (client : ℕ) (rows : List ServerRow) (knows : Name → Bool) (known_at : Name → Known)
      (hall : Hall) (view : View) → known_at b ≡ routes b → knows b ≡ true
      → Fits s t (moment knows known_at hall) view → ComeInTurn (routes b) knows rows
      → (deeds : List Deed) (lines : List (List ℕ)) → IsToldThen client
      (knows_also knows rows) hall deeds lines → AreTold client (moment knows known_at hall) view
      (map (λ (r : ServerRow). gains r.uplink r.name r.info) rows ++ deeds)
      (map (server_line (routes b)) rows ++ lines)
  unfolding done
  tell_rows client [] knows known_at hall view at_b b_known fits next deeds lines more =
      subst (λ now. AreTold client (moment now known_at hall) view deeds lines) none_more
      (more known_at view at_b
      (subst (λ now. Fits s t (moment now known_at hall) view) (sym none_more) fits))
    where
      none_more : knows_also knows [] ≡ knows
      none_more = fun_ext (λ x. sym (sym (or-false (knows x))))
  tell_rows client (r ∷ rows) knows known_at hall view at_b b_known fits next deeds lines more =
      let says = r_says knows known_at hall view fits at_b b_known r next.0 in
      by_line says
      (tell_rows client rows (λ x. knows x || same x r.name)
      (gained_at s.names (moment knows known_at hall).tree r.uplink r.name r.info) hall
      (neighbour_served s b view (server_line (routes b) r)).state
      (b_stays knows known_at hall r.uplink r.name r.info at_b)
      (ap (λ c. c || same b r.name) b_known)
      (said_gain_fits s is.fixed b t (moment knows known_at hall) view takes_b fits r.uplink r.name
      r.info (server_line (routes b) r) says.says) next.1
      deeds lines (subst (λ now. IsToldThen client now hall deeds lines) one_more more))
    where
      one_more : knows_also knows (r ∷ rows) ≡ knows_also (λ x. knows x || same x r.name) rows
      one_more = fun_ext (λ x. sym (or_assoc (knows x) (same x r.name)
          (list_any (λ (q : ServerRow). same x q.name) rows)))

  abbrev knows_first : Name → Bool
  knows_first x = joined links x t

  abbrev first : SideState
  first = moment knows_first routes (world.hall t)

  abbrev greeting_line : List ℕ
  greeting_line = line_text (greeting (routes b))

  abbrev server_lines : List (List ℕ)
  server_lines = map (server_line (routes b)) (servers_told (routes b) (number s t))

  -- each server of both sides is known
  abbrev pub knows_all : Name → Bool
  knows_all x = joined links x t || joined links x b

  abbrev pub room_lines : List (List ℕ)
  room_lines = map line_text
      (map (deed_parts (of_home b (world.hall b).room) (routes b)) (burst b (world.hall b).room))

  from_greeting : (client : ℕ) (view : View) (word : List ℕ) (end : End) → Fits s t first view
      → password_for view b ≡ Some word → get view.ends (number s b) ≡ Some end
      → end.far ≡ None → end.password ≡ Some word → IsToldThen client knows_all
      (world.hall t) (room_deeds world t b) room_lines → AreTold client first view
      (deeds_of_link s world routes t b) (greeting_line ∷ (server_lines ++ room_lines))
  unfolding done
  from_greeting client view word end fits kept is_end not_met given more =
      let says = b_says knows_first routes (world.hall t) view fits refl
      (away b refl) word kept end is_end not_met given in
      by_line says
      (tell_rows client (servers_told (routes b) (number s t)) (λ x. joined links x t || same x b)
      (gained_at s.names first.tree t b (info b)) (world.hall t)
      (neighbour_served s b view greeting_line).state
      (b_stays knows_first routes (world.hall t) t b (info b) refl) b_known
      (said_gain_fits s is.fixed b t first view takes_b fits t b (info b) greeting_line says.says)
      (come_in_turn s links routes b is.forest.1 is.right is.b_among ends_there t is.t_among
      over.apart (λ x. joined links x t || same x b) b_known
      (λ x j two. ap (λ c. c || same x b) (away x (sym j)) ∙ same_unless x b two))
      (room_deeds world t b) room_lines (subst (λ now. IsToldThen client now (world.hall t)
      (room_deeds world t b) room_lines) (sym all_known) more))
    where
      ends_there : EndsAreAmong s.names links
      ends_there x y near = fits.sound.tree.ends x y (inr near)

      b_known : (joined links b t || same b b) ≡ true
      b_known = ap (λ c. joined links b t || c) (same_when b b refl) ∙ or-true (joined links b t)

      all_known : knows_also (λ x. joined links x t || same x b)
          (servers_told (routes b) (number s t)) ≡ knows_all
      all_known = fun_ext (λ x.
          or_assoc (joined links x t) (same x b)
          (list_any (λ (q : ServerRow). same x q.name) (servers_told (routes b) (number s t)))
          ∙ ap (λ c. joined links x t || c) (told_are_that_side s links routes b t x is.forest.1
          ends_there is.right is.b_among (λ j. over.apart (sym j))))

  module _ (view other : View) (fits : Fits s t (side_of s l world routes t) view)
      (other_routes : other.routes ≡ routes b)
      (other_room : other.room ≡ of_home b (world.hall b).room) (word : List ℕ)
      (is_word : is_password word ≡ true) where
    abbrev pub told_lines : List (List ℕ)
    told_lines =
        map line_text (opening_parts other t ++ burst_parts other.room other.routes (number s t))

    all_near : HomesPass (is_near (routes b) (number s t)) (world.hall b).room
    all_near fold user at = ap not (near_all s links routes b t is.forest.1
        (λ x y near. fits.sound.tree.ends x y (inr near)) is.right is.b_among is.t_among
        (λ j. over.apart (sym j)) user.home
        (joined_so links user.home b (is.holds.homes_joined b fold user at)))

    burst_is : map line_text (burst_parts other.room other.routes (number s t)) ≡ server_lines
        ++ room_lines
    burst_is =
        ap (λ room. map line_text (burst_parts room other.routes (number s t))) other_room
        ∙ ap (λ k. map line_text (burst_parts (of_home b (world.hall b).room) k (number s t)))
        other_routes
        ∙ burst_written known.whole known.untold b (world.hall b).room (routes b) (number s t)
        (is.holds.sound.well_formed b)
        (is.right.named b is.b_among) all_near

    lines_are : password_for other t ≡ Some word
        → told_lines ≡ line_text (pass_parts word) ∷ greeting_line ∷ (server_lines ++ room_lines)
    lines_are kept =
        ap (λ o. line_text (pass_parts (unwrap_or o [])) ∷ line_text (greeting other.routes)
        ∷ map line_text
        (burst_parts other.room other.routes (number s t))) kept
        ∙ ap (λ k. line_text (pass_parts word) ∷ line_text (greeting k) ∷ map line_text
        (burst_parts other.room other.routes (number s t))) other_routes
        ∙ ap (λ lines. line_text (pass_parts word) ∷ greeting_line ∷ lines) burst_is

    pub lines_of_link : password_for other t ≡ Some word → length told_lines
        ≡ 2 + (length (servers_told (routes b) (number s t)) + length (burst b (world.hall b).room))
    lines_of_link kept =
        let all = ap length (lines_are kept) in
        let two = length-append server_lines room_lines in
        let servers = length-map (servers_told (routes b) (number s t)) (server_line (routes b)) in
        let written = length-map (map (deed_parts (of_home b (world.hall b).room) (routes b))
        (burst b (world.hall b).room)) line_text in
        let room = length-map (burst b (world.hall b).room)
        (deed_parts (of_home b (world.hall b).room) (routes b)) in
        omega arith

    abbrev pass_line : List ℕ
    pass_line = line_text (pass_parts word)

    -- PASS is not answered
    pub answered_of_link : password_for other t ≡ Some word → count_by introduces told_lines
        ≤ 1 + (length (servers_told (routes b) (number s t)) + length (burst b (world.hall b).room))
    answered_of_link kept =
        let all = lines_of_link kept in
        let lines = ap length (lines_are kept) in
        let same = ap (count_by introduces) (lines_are kept) in
        let few = count_but_first introduces pass_line
        (greeting_line ∷ (server_lines ++ room_lines)) (pass_introduces_nobody word) in
        omega arith

    pub link_tells : (client : ℕ) → password_for view b ≡ Some word
        → password_for other t ≡ Some word → (end : End) → get view.ends (number s b) ≡ Some end
        → end.far ≡ None → end.password ≡ None → IsToldThen client knows_all (world.hall t)
        (room_deeds world t b) room_lines → AreTold client (side_of s l world routes t) view
        (deeds_of_link s world routes t b) told_lines
    link_tells client kept other_kept end is_end not_met no_word more =
        subst (AreTold client first view (deeds_of_link s world routes t b))
        (sym (lines_are other_kept)) (aside_line aside (
        from_greeting client (neighbour_served s b view pass_line).state word
        (record end { password = Some word })
        (aside_stays s b t first view pass_line fits aside.aside).fits
        (ap (λ (v : View). password_for v b) after ∙ kept)
        (ap (λ (v : View). get v.ends (number s b)) after
        ∙ word_kept laws word is_word view (number s b) end not_met no_word)
        not_met refl more
        ))
      where
        aside : AsideWell s linked_world b t first view pass_line
        aside = record {
          aside = record {
            is_line = pass_is_line laws word is_word;
            end = end;
            is_end = is_end;
            nothing = subst IsNothing
                (sym (pass_heard laws word is_word view (number s b) end not_met no_word)) tt;
          };
          side = within knows_first routes (world.hall t);
        }

        after : (neighbour_served s b view pass_line).state ≡ with_word laws word is_word view
            (number s b) end not_met no_word
        after = pass_served laws word is_word view (number s b) end not_met no_word is_end
