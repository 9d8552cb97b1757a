-- What a server writes of an effect is read by the next as that effect: users, servers and numbers
-- that the one has, the other has too.
use Rattle.std.proofs.Common.{◌≡◌, ◌≢◌, ℕ, ◌<◌, ◌≤◌, suc, Bool, true, false, cond, not, ◌&&◌, ◌||◌}
use Rattle.std.proofs.Common.{Option, Some, None, List, [], ◌∷◌, nat_eq, refl, sym, ◌∙◌, ap, subst}
use Rattle.std.proofs.Common.{unwrap_or, option_map, is_some, length, arith, if◌then◌else◌}
use Rattle.std.proofs.lemmas.Bool.{and_parts, eq-eqb}
use Rattle.std.proofs.lemmas.Bool.Decides.{Decides-eqb}
use Rattle.std.specs.Cmp.Lexicographic.{bytes_decides, pointwise}
use Rattle.std.specs.List.{find, list_all, list_any}
use Rattle.std.specs.Option.{option_map_or, IfSome}
use Rattle.std.proofs.Math.Bool.{or-true}
use Rattle.std.proofs.lemmas.Option.{same_Some}
use Rattle.irc_names.specs.Lemmas.PlainFacts.{is_some-map}
use Rattle.irc_line.specs.Messages.{message_of}
use Rattle.irc_names.specs.Fold.{key}
use Rattle.irc_names.specs.Tables.{row}
use Rattle.irc_users.specs.declared.user.User.{User}
use Rattle.irc_users.specs.declared.user_change.UserChange.TheVariants.{Invisible, Away}
use Rattle.irc_room.specs.effect.By.TheVariants as by
use Rattle.irc_room.specs.effect.Effect.{Effect}
use Rattle.irc_room.specs.effect.Effect.TheVariants.{AddUser, ChangeModes, ChangeUser, SetTopic}
use Rattle.irc_room.specs.Effects.{has_user, needs_users, doer_of}
use Rattle.irc_room.specs.OtherInvitations.{AreAlike}
use Rattle.irc_room.specs.Readers.{home_under}
use Rattle.irc_room.specs.Room.{Room}
use Rattle.irc_room.specs.Seen.{stored_nick}
use Rattle.irc_room.specs.Sendable.{IsSendable}
use Rattle.irc_room.specs.Lemmas.AlikeLaw.{home_is_alike}
use Rattle.irc_room.specs.Lemmas.SendingAlike.{alike_keep_limits, alike_send_alike}
use Rattle.irc_relay.specs.Distances.{IsAmong}
use Rattle.irc_relay.specs.Links.{Name, same, toward, distance, AreLinked}
use Rattle.irc_relay.specs.Relay.{TakesFrom}
use Rattle.irc_relay.specs.Lemmas.TellingNames.{Telling, alike, unlike, tell, same_unless}
use Rattle.irc_relay.specs.Lemmas.NextHops.{distance_self, linked_back, next_hop}
use Rattle.irc_relay.specs.Lemmas.ShortWays.{ways_fit_names}
use Rattle.irc_routes.specs.declared.server_row.ServerRow.{ServerRow}
use Rattle.irc_routes.specs.Known.{Known, distance_of, has_token, is_itself, others, row_of}
use Rattle.irc_routes.specs.Known.{token_in, token_out, IsNumbered}
use Rattle.irc_routes.specs.Known as of_known
use Rattle.irc_routes.specs.Limits.{max_servers}
use Rattle.irc_routes.specs.Lemmas.TableRows.{row_passes, some_stands}
use Rattle.irc_link_words.specs.Numbers.{max_number}
use Rattle.irc_link_reader.specs.Reader.{is_behind_link, reader_of}
use Rattle.irc_link_writer.specs.Written.{next_distance, wire, written_token}
use Rattle.irc_stage.specs.View.{View}
use Rattle.irc_readback.specs.EachReadBack.{AgreesOnServer}
use Rattle.irc_readback.specs.Introductions.{IsIntroduced}
use Rattle.irc_readback.specs.ReadBack.{IsReadable, is_effect_told_of, is_user_far}
use Rattle.irc_follow.specs.Tree.{Shape, index_in, shape, shape_in}
use Rattle.irc_follow.specs.SideState.{ItemSetting, info_in, number, IsItemSetting, IsSoundSide}
use Rattle.irc_follow.specs.SideState as of_side
use Rattle.irc_follow.specs.Fits.{Fits}
use Rattle.irc_follow.specs.Says.{IsDoableEffect, IsFar}
use Rattle.irc_follow.specs.Lemmas.SaidEffect.{far_is_another, rooms_alike, users_there}

-- ---- who does an effect

-- whoever does it is there
doer_there : (has : List ℕ → Bool) (effect : Effect) (nick : List ℕ) → doer_of effect ≡ Some nick
    → list_all has (needs_users effect) ≡ true → has nick ≡ true
doer_there has (AddUser user) nick is there = absurd (cc is)
doer_there has (ChangeModes by.Home channel changes) nick is there = absurd (cc is)
doer_there has (SetTopic by.Home channel text) nick is there = absurd (cc is)
doer_there has other nick is there =
    subst (λ n. has n ≡ true) (same_Some _ nick is) (and_parts _ _ there).0

-- its line is from the doer
from_doer : (room : Room) (known : Known) (effect : Effect) → IsSendable room effect
    → (message_of (wire room known effect)).prefix ≡ option_map (stored_nick room) (doer_of effect)
from_doer room known (ChangeModes by.Home channel changes) sent = absurd sent
from_doer room known (SetTopic by.Home channel text) sent = absurd sent
from_doer room known other sent = refl

-- ---- a number stands for one server

-- what is found passes, and is there
found_one : {X : Type 0} (p : X → Bool) (xs : List X) (x : X) → find p xs ≡ Some x → p x ≡ true
found_one p [] x is = cc is
found_one p (y ∷ xs) x is = by (p y) refl is (found_one p xs x)
  where
    by : (b : Bool) → p y ≡ b → cond b (Some y) (find p xs) ≡ Some x
        → (find p xs ≡ Some x → p x ≡ true) → p x ≡ true
    by true passes found rest = ap p (sym (same_Some y x found)) ∙ passes
    by false fails found rest = rest found

passes_in : {X : Type 0} (p q : X → Bool) (xs : List X) (x : X) → find p xs ≡ Some x → q x ≡ true
    → list_any q xs ≡ true
passes_in p q [] x is so = cc is
passes_in p q (y ∷ xs) x is so = by (p y) is (λ later. passes_in p q xs x later so)
  where
    by : (b : Bool) → cond b (Some y) (find p xs) ≡ Some x
        → (find p xs ≡ Some x → list_any q xs ≡ true) → (q y || list_any q xs) ≡ true
    by true found rest = ap (λ b. b || list_any q xs) (ap q (same_Some y x found) ∙ so)
    by false found rest = ap (λ b. q y || b) (rest found) ∙ or-true (q y)

none_any : {X : Type 0} (p : X → Bool) (xs : List X) → find p xs ≡ None → list_any p xs ≡ false
none_any p [] none = refl
none_any p (x ∷ xs) none = by (p x) none (none_any p xs)
  where
    by : (b : Bool) → cond b (Some x) (find p xs) ≡ None
        → (find p xs ≡ None → list_any p xs ≡ false) → (b || list_any p xs) ≡ false
    by true is rest = cc is
    by false is rest = rest is

pub token_found : (known : Known) → IsNumbered known → (name : List ℕ) (r : ServerRow)
    → row_of known name ≡ Some r → token_in known r.link r.token ≡ Some name
token_found known numbered name r there = by (find (has_token r.link r.token) (others known)) refl
  where
    any : list_any (has_token r.link r.token) (others known) ≡ true
    any = row_passes (has_token r.link r.token) known.rows name r there
        (ap (λ b. b && nat_eq r.token r.token) ((Decides-eqb r.link r.link).1 refl)
        ∙ (Decides-eqb r.token r.token).1 refl)

    by : (o : Option ServerRow) → find (has_token r.link r.token) (others known) ≡ o → option_map
        (λ (x : ServerRow). x.name) (find (has_token r.link r.token) (others known)) ≡ Some name
    by None is = absurd (cc (sym (none_any (has_token r.link r.token) (others known) is) ∙ any))
    by (Some found) is =
        let first = found_one (has_token r.link r.token) (others known) found is in
        let again =
        passes_in (has_token r.link r.token) (λ (x : ServerRow). has_token r.link r.token x
        && pointwise nat_eq x.name found.name) (others known) found is
        (ap (λ b. b && pointwise nat_eq found.name found.name) first
        ∙ (bytes_decides found.name found.name).1 refl) in
        let at = some_stands (λ (x : ServerRow). has_token r.link r.token x
        && pointwise nat_eq x.name found.name) known.rows again in
        let parts = and_parts (has_token r.link r.token at.value)
        (pointwise nat_eq at.value.name found.name) at.passes in
        let numbers =
        and_parts (nat_eq at.value.link r.link) (nat_eq at.value.token r.token) parts.0 in
        let one = numbered.tokens at.name name at.value r at.there there
        ((Decides-eqb at.value.link r.link).0 numbers.0)
        ((Decides-eqb at.value.token r.token).0 numbers.1) in
        ap (option_map (λ (x : ServerRow). x.name)) is
        ∙ ap Some (sym ((bytes_decides at.value.name found.name).0 parts.1)
        ∙ (numbered.rows at.name at.value at.there).named ∙ one)

-- ---- what is kept of a server

pub link_of : (o : Option ServerRow) (is : Shape) → option_map shape o ≡ Some is
    → option_map (λ (r : ServerRow). r.link) o ≡ Some is.link
link_of None is same_shape = cc same_shape
link_of (Some r) is same_shape = ap (option_map (λ (x : Shape). x.link)) same_shape

distance_in : (o : Option ServerRow) (is : Shape) → option_map shape o ≡ Some is
    → option_map (λ (r : ServerRow). r.distance) o ≡ Some is.distance
distance_in None is same_shape = cc same_shape
distance_in (Some r) is same_shape = ap (option_map (λ (x : Shape). x.distance)) same_shape

module _ (s : ItemSetting) (w : of_side.SideState) (sound : IsSoundSide s w) where
  pub shape_at : (x home : Name) → w.tree.here x ≡ true → w.tree.knows home ≡ true
      → home ≢ x → option_map shape (row_of (w.tree.routes x) home)
      ≡ Some (shape_in s.names (info_in s.settings) w.tree.forest x home)
  shape_at x home here known two =
      sound.tree.rows x home here
      ∙ ap (λ b. cond (b && not (same home x))
      (Some (shape_in s.names (info_in s.settings) w.tree.forest x home)) None) known
      ∙ ap (λ b. cond (not b) (Some (shape_in s.names (info_in s.settings) w.tree.forest x home))
      None) (same_unless home x two)

  among : (x : Name) → w.tree.here x ≡ true → IsAmong s.names x
  among x here = sound.tree.known_among x (sound.tree.here_known x here)

  itself_is : (x home : Name) → w.tree.here x ≡ true
      → is_itself (w.tree.routes x) home ≡ same x home
  itself_is x home here = ap (λ n. same n home) (sound.tree.named x (among x here))

  pub distance_at : (x home : Name) → w.tree.here x ≡ true → w.tree.knows home ≡ true
      → distance_of (w.tree.routes x) home ≡ Some (distance w.tree.forest x home)
  distance_at x home here known =
      ap (λ b. if b then Some 0 else option_map (λ (r : ServerRow). r.distance)
      (row_of (w.tree.routes x) home)) (itself_is x home here) ∙ by (tell x home)
    where
      by : Telling x home → (if same x home then Some 0 else option_map (λ (r : ServerRow).
          r.distance) (row_of (w.tree.routes x) home)) ≡ Some (distance w.tree.forest x home)
      by (alike is e) =
          ap (λ b. if b then Some 0
          else option_map (λ (r : ServerRow). r.distance) (row_of (w.tree.routes x) home)) is
          ∙ ap Some (sym (distance_self w.tree.forest x) ∙ ap (distance w.tree.forest x) e)
      by (unlike is two) =
          ap (λ b. if b then Some 0
          else option_map (λ (r : ServerRow). r.distance) (row_of (w.tree.routes x) home)) is
          ∙ distance_in (row_of (w.tree.routes x) home) (shape_in s.names (info_in s.settings)
          w.tree.forest x home) (shape_at x home here known (λ e. two (sym e)))

  -- a server's number for another is low
  pub low_token : (x home : Name) (k : ℕ) → w.tree.here x ≡ true
      → token_out (w.tree.routes x) home ≡ Some k → (1 ≤ k) × (k ≤ max_servers)
  low_token x home k here is =
      by (is_itself (w.tree.routes x) home) (row_of (w.tree.routes x) home) refl is
    where
      by : (b : Bool) (o : Option ServerRow) → row_of (w.tree.routes x) home ≡ o
          → (if b then Some 1 else option_map (λ (r : ServerRow). r.ours) o) ≡ Some k
          → (1 ≤ k) × (k ≤ max_servers)
      by true o there one = let e = same_Some 1 k one in (omega arith, omega arith)
      by false None there none = cc none
      by false (Some r) there some =
          let e = same_Some r.ours k some in
          let low = sound.tree.low x home r here there in
          let two = ((sound.tree.numbered x (among x here)).rows home r there).ours in
          (omega arith, omega arith)

-- ---- the writer t and the reader u, which takes from it

module _ (s : ItemSetting) (fixed : IsItemSetting s) (t u : Name) (w : of_side.SideState)
    (view other : View)
    (takes : TakesFrom s.streams u t) (writer : Fits s t w view)
    (reader : Fits s u w other) where
  sound : IsSoundSide s w
  sound = writer.sound

  -- the way to a far server is by the writer
  pub far_link : (home : Name) → w.tree.knows home ≡ true → IsFar s w home
      → of_known.next_hop other.routes home ≡ Some (number s t)
  far_link home known far =
      ap (λ routes. of_known.next_hop routes home) reader.routes
      ∙ link_of (row_of (w.tree.routes u) home)
      (shape_in s.names (info_in s.settings) w.tree.forest u home)
      (shape_at s w sound u home reader.here known
      (far_is_another s t u w other takes reader home far))
      ∙ ap (λ n. Some (index_in s.names n)) (far u t reader.here takes)

  is_far : (home : Name) → w.tree.knows home ≡ true → IsFar s w home
      → is_behind_link other.routes (number s t) home ≡ true
  is_far home known far =
      ap (λ o. option_map_or (nat_eq (number s t)) o false) (far_link home known far)
      ∙ eq-eqb (number s t) (number s t) refl

  users_here : AreAlike other.room w.hall.room
  users_here = rooms_alike s t u w other takes reader

  writers_room : AreAlike view.room w.hall.room
  writers_room =
      subst (λ room. AreAlike room w.hall.room) (sym writer.room) (home_is_alike t w.hall.room)

  all_known : (nicks : List (List ℕ)) → list_all (λ nick.
      is_some (home_under other.room (key nick))) nicks ≡ list_all (has_user other.room) nicks
  all_known [] = refl
  all_known (nick ∷ nicks) =
      ap (λ b. b && list_all (λ n. is_some (home_under other.room (key n))) nicks)
      (is_some-map (λ (user : User). user.home) (row other.room.users (key nick)))
      ∙ ap (λ b. has_user other.room nick && b) (all_known nicks)

  module _ (effect : Effect) (doable : IsDoableEffect s w effect) where
    stored_key : (nick : List ℕ) → key (stored_nick view.room nick) ≡ key nick
    stored_key nick =
        ap (λ users. key (option_map_or (λ (user : User). user.nick) (row users (key nick)) nick))
        writers_room.users
        ∙ by (row w.hall.room.users (key nick)) refl
      where
        by : (o : Option User) → row w.hall.room.users (key nick) ≡ o
            → key (option_map_or (λ (user : User). user.nick) o nick) ≡ key nick
        by None there = refl
        by (Some user) there = sound.well.users_named (key nick) user there

    doer_is_far : (nick : List ℕ) → doer_of effect ≡ Some nick → has_user w.hall.room nick ≡ true
        → is_user_far (reader_of other.room other.routes (number s t))
        (stored_nick view.room nick) ≡ true
    doer_is_far nick doer there =
        ap (λ f. option_map_or (is_behind_link other.routes (number s t))
        (home_under other.room f) false) (stored_key nick)
        ∙ ap (λ users. option_map_or (is_behind_link other.routes (number s t)) (option_map
        (λ (user : User). user.home) (row users (key nick))) false) users_here.users
        ∙ by (row w.hall.room.users (key nick)) refl there
      where
        by : (o : Option User) → row w.hall.room.users (key nick) ≡ o → is_some o ≡ true
            → option_map_or (is_behind_link other.routes (number s t))
            (option_map (λ (user : User). user.home) o) false ≡ true
        by None at none = cc none
        by (Some user) at some =
            is_far user.home (sound.at_known (key nick) user at)
            (doable.doer_far nick user.home doer (ap (option_map (λ (v : User). v.home)) at))

    sendable : IsSendable view.room effect
    sendable = (alike_send_alike view.room w.hall.room effect writers_room).1 doable.sendable

    doer_far : IfSome (message_of (wire view.room view.routes effect)).prefix
        (λ nick. is_user_far (reader_of other.room other.routes (number s t)) nick ≡ true)
    doer_far =
        subst (λ prefix. IfSome prefix
        (λ nick. is_user_far (reader_of other.room other.routes (number s t)) nick ≡ true))
        (sym (from_doer view.room view.routes effect sendable)) (by (doer_of effect) refl)
      where
        by : (o : Option (List ℕ)) → doer_of effect ≡ o
            → IfSome (option_map (stored_nick view.room) o)
            (λ nick. is_user_far (reader_of other.room other.routes (number s t)) nick ≡ true)
        by None doer = tt
        by (Some nick) doer = doer_is_far nick doer
            (doer_there (has_user w.hall.room) effect nick doer doable.possible.users_there)

    -- links tell the reader who is away, and so all
    told_of : (effect : Effect) → is_effect_told_of (reader_of other.room other.routes (number s t))
        effect ≡ true
    told_of (ChangeUser nick (Away text)) =
        ap (λ (known : Known). known.about.tells_away) reader.routes
        ∙ sound.tree.told_away u (sound.tree.known_among u (sound.tree.here_known u reader.here))
    told_of (ChangeUser nick (Invisible invisible)) = refl
    told_of other_effect = refl

    pub can_be_read : IsReadable view.room view.routes
        (reader_of other.room other.routes (number s t)) effect
    can_be_read = record {
      room_within = (alike_keep_limits view.room w.hall.room writers_room).1 sound.within;
      sendable = sendable;
      users_known =
          all_known (needs_users effect) ∙ users_there s t u w other takes reader effect doable;
      doer_far = doer_far;
      told_of = told_of effect;
    }

  -- ---- a user who comes

  module _ (home : Name) (known : w.tree.knows home ≡ true) (far : IsFar s w home) where
    two : home ≢ u
    two = far_is_another s t u w other takes reader home far

    u_linked : AreLinked w.tree.forest u t
    u_linked = sound.parents u t takes

    pub further : distance w.tree.forest u home ≡ suc (distance w.tree.forest t home)
    further =
        (next_hop w.tree.forest u home sound.tree.forest
        (sound.tree.joined u home reader.here known) (λ e. two (sym e))).nearer
        ∙ ap (λ n. suc (distance w.tree.forest n home)) (far u t reader.here takes)

    near : distance_of view.routes home ≡ Some (distance w.tree.forest t home)
    near = ap (λ routes. distance_of routes home) writer.routes
        ∙ distance_at s w sound t home writer.here known

    short : distance w.tree.forest t home < length s.names
    short = ways_fit_names s.names w.tree.forest t home sound.tree.forest sound.tree.ends
        (sound.tree.known_among t (sound.tree.here_known t writer.here))
        (sound.tree.joined t home writer.here known)

    next_is : next_distance view.routes home ≡ suc (distance w.tree.forest t home)
    next_is = ap (λ o. suc (unwrap_or o 0)) near

    -- the row that the reader has of it
    record HasRow : Type 0 where
      row : ServerRow
      there : row_of (w.tree.routes u) home ≡ Some row
      link : row.link ≡ number s t

    has_row : HasRow
    has_row =
        by (row_of (w.tree.routes u) home) refl (shape_at s w sound u home reader.here known two)
      where
        by : (o : Option ServerRow) → row_of (w.tree.routes u) home ≡ o → option_map shape o
            ≡ Some (shape_in s.names (info_in s.settings) w.tree.forest u home) → HasRow
        by None is none = cc none
        by (Some r) is some = record {
          row = r;
          there = is;
          link = same_Some r.link (index_in s.names (toward w.tree.forest u home))
              (ap (option_map (λ (x : Shape). x.link)) some)
              ∙ ap (index_in s.names) (far u t reader.here takes);
        }

    token_is : token_out (w.tree.routes t) home ≡ Some has_row.row.token
    token_is = sound.tree.tokens t u home has_row.row reader.here
        (linked_back w.tree.forest u t u_linked) has_row.there has_row.link

    written_is : written_token view.routes home ≡ has_row.row.token
    written_is = ap (λ routes. unwrap_or (token_out routes home) 0) writer.routes
        ∙ ap (λ o. unwrap_or o 0) token_is

    found_is : token_in other.routes (number s t) (written_token view.routes home) ≡ Some home
    found_is =
        ap (λ routes. token_in routes (number s t) (written_token view.routes home)) reader.routes
        ∙ ap (token_in (w.tree.routes u) (number s t)) written_is
        ∙ ap (λ n. token_in (w.tree.routes u) n has_row.row.token) (sym has_row.link)
        ∙ token_found (w.tree.routes u) (sound.tree.numbered u (sound.tree.known_among u
        (sound.tree.here_known u reader.here))) home has_row.row has_row.there

    most : (n : ℕ) → n ≤ max_servers → n ≤ max_number
    most n few = omega arith

    less : (d n : ℕ) → d < n → n ≤ max_servers → suc d ≤ max_number
    less d n small few = omega arith

    introduced : (user : User) → user.home ≡ home → IsSendable w.hall.room (AddUser user)
        → IsIntroduced view.routes (reader_of other.room other.routes (number s t)) user
    introduced user is sent = record {
      within = sent.within;
      number_some = subst (λ h. 1 ≤ written_token view.routes h) (sym is)
          (subst (λ n. 1 ≤ n) (sym written_is)
          (low_token s w sound t home has_row.row.token writer.here token_is).0);
      number_most = subst (λ h. written_token view.routes h ≤ max_number) (sym is)
          (subst (λ n. n ≤ max_number) (sym written_is) (most has_row.row.token
          (low_token s w sound t home has_row.row.token writer.here token_is).1));
      server = subst (λ h. token_in other.routes (number s t) (written_token view.routes h)
          ≡ Some h) (sym is) found_is;
      distance_most = subst (λ h. next_distance view.routes h ≤ max_number) (sym is)
          (subst (λ n. n ≤ max_number) (sym next_is)
          (less (distance w.tree.forest t home) (length s.names) short fixed.few));
      distance = subst (λ h. IfSome (distance_of other.routes h)
          (λ links. links ≡ next_distance view.routes h)) (sym is)
          (subst (λ o. IfSome o (λ links. links ≡ next_distance view.routes home))
          (sym (ap (λ routes. distance_of routes home) reader.routes
          ∙ distance_at s w sound u home reader.here known))
          (further ∙ sym next_is));
    }

  pub agrees : (effect : Effect) → IsDoableEffect s w effect
      → AgreesOnServer view.routes (reader_of other.room other.routes (number s t)) effect
  agrees (AddUser user) doable =
      introduced user.home doable.comes.known doable.comes.far user refl doable.sendable
  agrees effect doable = tt
