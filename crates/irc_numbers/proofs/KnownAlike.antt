-- What servers know of others that are alike: the same of each, but for the numbers of links.
use Rattle.std.proofs.Common.{◌≡◌, ℕ, ◌+◌, suc, Bool, true, false, cond, not, ◌&&◌, ◌||◌, is_none}
use Rattle.std.proofs.Common.{is_some, Option, Some, None, List, [], ◌∷◌, ◌++◌, codes, decimal}
use Rattle.std.proofs.Common.{drop, find, filter, fold, length, map, nat_eq, nat_le, refl, sym, ◌∙◌}
use Rattle.std.proofs.Common.{ap, option_map, take, unwrap_or, if◌then◌else◌}
use Rattle.std.proofs.Math.Path.{fun_ext}
use Rattle.std.proofs.lemmas.List.{drop-map, length-map, map-append, take-map}
use Rattle.std.specs.Cmp.Lexicographic.{pointwise}
use Rattle.std.specs.FinMap.{values}
use Rattle.std.specs.List.{insert, prefix_len, range_with_len}
use Rattle.std.specs.Option.{option_and_then, option_map_or}
use Rattle.irc_names.specs.Lemmas.PlainFacts.{nat_eq-turned}
use Rattle.irc_names.specs.Names.{is_server}
use Rattle.irc_names.specs.Tables.{each, row}
use Rattle.irc_names.specs.TableLaws.{row-each, same_table, values-each}
use Rattle.irc_users.specs.declared.user.User.{User}
use Rattle.irc_room.specs.effect.By.{By}
use Rattle.irc_room.specs.effect.By.TheVariants as doer
use Rattle.irc_room.specs.effect.Effect.{Effect}
use Rattle.irc_room.specs.effect.Effect.TheVariants.{AddUser, ChangeModes, SetTopic}
use Rattle.irc_room.specs.Room.{Room}
use Rattle.irc_room.specs.Seen.{changes_words, stored_channel}
use Rattle.irc_link_words.specs.Words.{no_mode, with_i}
use Rattle.irc_merge.specs.Bursts.{burst_of}
use Rattle.irc_merge.specs.Deeds.{Deed, does, gains, loses, kills, brings, sets, tops}
use Rattle.irc_link_reader.specs.Reader.{is_behind_link}
use Rattle.irc_link_writer.specs.Written.{by_name, from, introduction, next_distance, wire}
use Rattle.irc_link_writer.specs.Written.{written_token}
use Rattle.irc_burst_lines.specs.BurstLines.{burst_parts, is_near, server_deed}
use Rattle.irc_burst_lines.specs.DeedLines.{deed_parts, server_parts}
use Rattle.irc_routes.specs.Adding.{added_fault}
use Rattle.irc_routes.specs.declared.fault.RoutesFault.TheVariants as fault
use Rattle.irc_routes.specs.declared.server_row.ServerRow.{ServerRow}
use Rattle.irc_routes.specs.Known.{Known, distance_of, has_token, is_behind, is_full, is_itself}
use Rattle.irc_routes.specs.Known.{is_known, is_told_before, is_used_in, names_behind, others}
use Rattle.irc_routes.specs.Known.{put_among, row_names, row_of, servers_told, smallest_free}
use Rattle.irc_routes.specs.Known.{smallest_free_in, token_in, token_out}
use Rattle.irc_routes.specs.Limits.{first_token, max_servers, own_token}
use Rattle.irc_stage.specs.Linked.{is_taken}
use Rattle.irc_numbers.specs.Alike.{AreApart, AreRowsAlike, Numbers}
use Rattle.irc_numbers.proofs.Numbers.{same_one}

pub record AreKnownAlike (numbers : Numbers) (own other : Known) : Type 0 where
  pub name : other.name ≡ own.name
  pub about : other.about ≡ own.about
  pub rows : (name : List ℕ) → AreRowsAlike numbers (row_of own name) (row_of other name)

abbrev pub with_link : ℕ → ServerRow → ServerRow
with_link link r = record r { link = link }

-- ---- lists of rows whose links are turned

-- a row whose link is nothing to who looks
abbrev pub bare : ServerRow → ServerRow
bare r = with_link 0 r

used_bare : (token : ℕ) (rows : List ServerRow)
    → is_used_in (map bare rows) token ≡ is_used_in rows token
used_bare token [] = refl
used_bare token (r ∷ rows) = ap (λ b. nat_eq r.ours token || b) (used_bare token rows)

pub free_bare : (rows : List ServerRow) → smallest_free_in (map bare rows) ≡ smallest_free_in rows
free_bare rows =
    ap (λ (used : ℕ → Bool). unwrap_or (find (λ token. not (used token))
    (range_with_len first_token (suc (length (map bare rows))))) own_token)
    (fun_ext (λ token. used_bare token rows))
    ∙ ap (λ n. unwrap_or (find (λ token. not (is_used_in rows token))
    (range_with_len first_token (suc n))) own_token) (length-map rows bare)

-- a row as one who looks from a link sees it: it is behind it or not
abbrev if_behind : Bool → ℕ
if_behind b = if b then 1 else 0

abbrev near : ℕ → ServerRow → ServerRow
near link r = with_link (if_behind (nat_eq r.link link)) r

-- a token is looked for among rows behind the link
abbrev has_near : ℕ → ServerRow → Bool
has_near token r = nat_eq r.link 1 && nat_eq r.token token

found_near : (link token : ℕ) (rows : List ServerRow)
    → option_map (λ (r : ServerRow). r.name) (find (has_token link token) rows)
    ≡ option_map (λ (r : ServerRow). r.name) (find (has_near token) (map (near link) rows))
found_near link token [] = refl
found_near link token (r ∷ rows) =
    by (nat_eq r.link link) (nat_eq r.token token) (found_near link token rows)
  where
    by : (a b : Bool) → option_map (λ (s : ServerRow). s.name) (find (has_token link token) rows)
        ≡ option_map (λ (s : ServerRow). s.name) (find (has_near token) (map (near link) rows))
        → option_map (λ (s : ServerRow). s.name)
        (cond (a && b) (Some r) (find (has_token link token) rows))
        ≡ option_map (λ (s : ServerRow). s.name)
        (cond (nat_eq (if_behind a) 1 && b) (Some (with_link (if_behind a) r))
        (find (has_near token) (map (near link) rows)))
    by true true rest = refl
    by true false rest = rest
    by false b rest = rest

-- the names of those behind it
named_near : (link : ℕ) (rows : List ServerRow) → row_names (filter (is_behind link) rows)
    ≡ row_names (filter (is_behind 1) (map (near link) rows))
named_near link [] = refl
named_near link (r ∷ rows) = by (nat_eq r.link link) (named_near link rows)
  where
    by : (a : Bool) → row_names (filter (is_behind link) rows)
        ≡ row_names (filter (is_behind 1) (map (near link) rows))
        → row_names (cond a (r ∷ filter (is_behind link) rows) (filter (is_behind link) rows))
        ≡ row_names (cond (nat_eq (if_behind a) 1) (with_link (if_behind a) r ∷ filter (is_behind 1)
        (map (near link) rows)) (filter (is_behind 1) (map (near link) rows)))
    by true rest = ap (λ names. r.name ∷ names) rest
    by false rest = rest

-- those that are not
far_near : (link : ℕ) (rows : List ServerRow) → map (near link) (filter
    (λ r. not (is_behind link r)) rows) ≡ filter (λ r. not (is_behind 1 r)) (map (near link) rows)
far_near link [] = refl
far_near link (r ∷ rows) = by (nat_eq r.link link) refl (far_near link rows)
  where
    by : (a : Bool) → nat_eq r.link link ≡ a
        → map (near link) (filter (λ s. not (is_behind link s)) rows)
        ≡ filter (λ s. not (is_behind 1 s)) (map (near link) rows)
        → map (near link) (cond (not a) (r ∷ filter (λ s. not (is_behind link s)) rows)
        (filter (λ s. not (is_behind link s)) rows))
        ≡ cond (not (nat_eq (if_behind a) 1))
        (with_link (if_behind a) r ∷ filter (λ s. not (is_behind 1 s)) (map (near link) rows))
        (filter (λ s. not (is_behind 1 s)) (map (near link) rows))
    by true is rest = rest
    by false is rest = λ i. with_link (if_behind (is i)) r ∷ rest i

-- told of in order, which asks for no link
placed_near : (link : ℕ) (server : ServerRow) (told : List ServerRow)
    → prefix_len (λ other. is_told_before other (near link server)) (map (near link) told)
    ≡ prefix_len (λ other. is_told_before other server) told
placed_near link server [] = refl
placed_near link server (r ∷ told) =
    ap (λ n. cond (is_told_before r server) (1 + n) 0) (placed_near link server told)

put_near : (link : ℕ) (told : List ServerRow) (server : ServerRow)
    → map (near link) (put_among told server) ≡ put_among (map (near link) told) (near link server)
put_near link told server =
    let n = prefix_len (λ other. is_told_before other server) told in
    map-append (near link) (take n told) (server ∷ drop n told)
    ∙ (λ i. sym (take-map (near link) n told) i
    ++ near link server ∷ sym (drop-map (near link) n told) i)
    ∙ ap (λ m. insert (map (near link) told) m (near link server))
    (sym (placed_near link server told))

all_near : (link : ℕ) (rows told : List ServerRow) → map (near link) (fold put_among told rows)
    ≡ fold put_among (map (near link) told) (map (near link) rows)
all_near link [] told = refl
all_near link (r ∷ rows) told = all_near link rows (put_among told r)
    ∙ ap (λ t. fold put_among t (map (near link) rows)) (put_near link told r)

deeds_near : (link : ℕ) (rows : List ServerRow)
    → map server_deed (map (near link) rows) ≡ map server_deed rows
deeds_near link [] = refl
deeds_near link (r ∷ rows) = ap (λ deeds. server_deed r ∷ deeds) (deeds_near link rows)

-- ---- what is known, whoever looks

module _ (numbers : Numbers) (own other : Known) (alike : AreKnownAlike numbers own other) where
  -- what is the same of two rows that are alike
  abbrev IsSameOf : {X : Type 0} → (ServerRow → X) → (ServerRow → X) → Type 0
  IsSameOf f g = (mine theirs : ServerRow) → AreRowsAlike numbers (Some mine) (Some theirs)
      → g theirs ≡ f mine

  pub row_by : {X : Type 0} (f g : ServerRow → X) → IsSameOf f g → (name : List ℕ)
      → option_map g (row_of other name) ≡ option_map f (row_of own name)
  row_by {X} f g same name = by (row_of own name) (row_of other name) (alike.rows name)
    where
      by : (mine theirs : Option ServerRow) → AreRowsAlike numbers mine theirs
          → option_map g theirs ≡ option_map f mine
      by None None is = refl
      by None (Some theirs) is = absurd is
      by (Some mine) None is = absurd is
      by (Some mine) (Some theirs) is = ap Some (same mine theirs is)

  pub others_by : {X : Type 0} (f g : ServerRow → X) → IsSameOf f g
      → map g (others other) ≡ map f (others own)
  others_by {X} f g same =
      sym (values-each g other.rows)
      ∙ ap values
      (same_table (each (λ r. Some (g r)) other.rows) (each (λ r. Some (f r)) own.rows) (λ q.
      row-each (λ r. Some (g r)) other.rows q ∙ by (row own.rows q) (row other.rows q)
      (alike.rows q) ∙ sym (row-each (λ r. Some (f r)) own.rows q)))
      ∙ values-each f own.rows
    where
      by : (mine theirs : Option ServerRow) → AreRowsAlike numbers mine theirs
          → option_and_then (λ r. Some (g r)) theirs ≡ option_and_then (λ r. Some (f r)) mine
      by None None is = refl
      by None (Some theirs) is = absurd is
      by (Some mine) None is = absurd is
      by (Some mine) (Some theirs) is = ap Some (same mine theirs is)

  others_bare : map bare (others other) ≡ map bare (others own)
  others_bare = others_by bare bare (λ mine theirs is. ap bare is.0)

  pub as_many : length (others other) ≡ length (others own)
  as_many = sym (length-map (others other) bare)
      ∙ ap (λ (rs : List ServerRow). length rs) others_bare ∙ length-map (others own) bare

  pub free_same : smallest_free other ≡ smallest_free own
  free_same =
      sym (free_bare (others other)) ∙ ap smallest_free_in others_bare ∙ free_bare (others own)

  pub itself_same : (name : List ℕ) → is_itself other name ≡ is_itself own name
  itself_same name = ap (λ own_name. pointwise nat_eq own_name name) alike.name

  pub known_same : (name : List ℕ) → is_known other name ≡ is_known own name
  known_same name = λ i. itself_same name i || there i
    where
      same : (mine theirs : Option ServerRow) → AreRowsAlike numbers mine theirs
          → is_some theirs ≡ is_some mine
      same None None is = refl
      same None (Some theirs) is = absurd is
      same (Some mine) None is = absurd is
      same (Some mine) (Some theirs) is = refl

      there : is_some (row_of other name) ≡ is_some (row_of own name)
      there = same (row_of own name) (row_of other name) (alike.rows name)

  pub distance_same : (name : List ℕ) → distance_of other name ≡ distance_of own name
  distance_same name =
      let rows = row_by (λ r. r.distance) (λ r. r.distance)
      (λ mine theirs is. ap (λ (r : ServerRow). r.distance) is.0) name in
      λ i. if itself_same name i then Some 0 else rows i

  pub token_out_same : (name : List ℕ) → token_out other name ≡ token_out own name
  token_out_same name =
      let rows = row_by (λ r. r.ours) (λ r. r.ours)
      (λ mine theirs is. ap (λ (r : ServerRow). r.ours) is.0) name in
      λ i. if itself_same name i then Some own_token else rows i

  pub full_same : is_full other ≡ is_full own
  full_same = ap (λ n. nat_le max_servers (suc n)) as_many

  pub fault_same : (name : List ℕ) → added_fault other name ≡ added_fault own name
  fault_same name = λ i.
      if known_same name i then Some fault.Known
      else (if not (is_server name) then Some fault.BadName
      else (if full_same i then Some fault.Full else None))

  -- ---- what is written by it

  by_name_same : (room : Room) (who : By) → by_name room other who ≡ by_name room own who
  by_name_same room (doer.User nick) = refl
  by_name_same room doer.Home = alike.name

  introduction_same : (user : User) → introduction other user ≡ introduction own user
  introduction_same user =
      ap (λ (distance : Option ℕ). record (introduction other user) {
        middle = user.nick ∷ decimal (suc (unwrap_or distance 0)) ∷ user.user ∷ user.host ∷ decimal
            (written_token other user.home)
            ∷ (if user.invisible then with_i else no_mode) ∷ [];
      }) (distance_same user.home)
      ∙ ap (λ (token : Option ℕ). record (introduction other user) {
        middle = user.nick ∷ decimal (next_distance own user.home) ∷ user.user ∷ user.host ∷ decimal
            (unwrap_or token 0)
            ∷ (if user.invisible then with_i else no_mode) ∷ [];
      }) (token_out_same user.home)

  pub wire_same : (room : Room) (effect : Effect) → wire room other effect ≡ wire room own effect
  wire_same room (AddUser user) = introduction_same user
  wire_same room (ChangeModes who channel changes) =
      ap (λ name. from name (codes "MODE")
      (stored_channel room channel ∷ changes_words room changes) None) (by_name_same room who)
  wire_same room (SetTopic who channel topic) = ap (λ name. from name (codes "TOPIC")
      (stored_channel room channel ∷ []) (Some topic)) (by_name_same room who)
  wire_same room effect = refl

  server_same : (uplink name info : List ℕ)
      → server_parts other uplink name info ≡ server_parts own uplink name info
  server_same uplink name info = λ i.
      from uplink (codes "SERVER") (name ∷ decimal (suc (unwrap_or (distance_same name i) 0))
      ∷ decimal (unwrap_or (token_out_same name i) 0) ∷ []) (Some info)

  pub parts_same : (room : Room) (deed : Deed)
      → deed_parts room other deed ≡ deed_parts room own deed
  parts_same room (does effect) = wire_same room effect
  parts_same room (gains uplink name info) = server_same uplink name info
  parts_same room (loses server name text) = refl
  parts_same room (kills server nick) = refl
  parts_same room (brings server channel members) = refl
  parts_same room (sets server channel changes) = refl
  parts_same room (tops server channel topic) = refl

  -- ---- at a link

  module _ (apart : AreApart numbers) (place conn : ℕ)
      (is_end : numbers.link place ≡ Some conn) where
    pub same_link : (theirs mine : ℕ) → numbers.link theirs ≡ Some mine
        → nat_eq theirs place ≡ nat_eq mine conn
    same_link theirs mine is = same_one numbers.link apart.links place conn is_end theirs mine is

    others_near : map (near place) (others other) ≡ map (near conn) (others own)
    others_near =
        others_by (near conn) (near place) (λ mine theirs is.
        ap (λ (b : Bool). with_link (if_behind b) theirs) (same_link theirs.link mine.link is.1)
        ∙ ap (λ (r : ServerRow). with_link (if_behind (nat_eq mine.link conn)) r) is.0)

    pub behind_same : (name : List ℕ)
        → is_behind_link other place name ≡ is_behind_link own conn name
    behind_same name = by (row_of own name) (row_of other name) (alike.rows name)
      where
        by : (mine theirs : Option ServerRow) → AreRowsAlike numbers mine theirs
            → option_map_or (nat_eq place) (option_map (λ (r : ServerRow). r.link) theirs) false
            ≡ option_map_or (nat_eq conn) (option_map (λ (r : ServerRow). r.link) mine) false
        by None None is = refl
        by None (Some theirs) is = absurd is
        by (Some mine) None is = absurd is
        by (Some mine) (Some theirs) is =
            nat_eq-turned place theirs.link ∙ same_link theirs.link mine.link is.1
            ∙ nat_eq-turned mine.link conn

    pub token_same : (token : ℕ) → token_in other place token ≡ token_in own conn token
    token_same token =
        found_near place token (others other) ∙ ap (λ rows. option_map (λ (r : ServerRow). r.name)
        (find (has_near token) rows)) others_near
        ∙ sym (found_near conn token (others own))

    pub names_same : names_behind other place ≡ names_behind own conn
    names_same =
        named_near place (others other)
        ∙ ap (λ rows. row_names (filter (is_behind 1) rows)) others_near
        ∙ sym (named_near conn (others own))

    pub taken_same : (name : List ℕ) (token : ℕ)
        → is_taken other place name token ≡ is_taken own conn name token
    taken_same name token = λ i. is_none (fault_same name i) && is_none (token_same token i)

    -- ---- the burst

    told_same : map (near place) (servers_told other place) ≡ map (near conn)
        (servers_told own conn)
    told_same = near_of other place
        ∙ ap (λ rows. fold put_among [] (filter (λ r. not (is_behind 1 r)) rows)) others_near
        ∙ sym (near_of own conn)
      where
        near_of : (known : Known) (link : ℕ) → map (near link) (servers_told known link)
            ≡ fold put_among [] (filter (λ r. not (is_behind 1 r)) (map (near link) (others known)))
        near_of known link = all_near link (filter (λ r. not (is_behind link r)) (others known)) []
            ∙ ap (fold put_among []) (far_near link (others known))

    server_deeds_same : map server_deed (servers_told other place) ≡ map server_deed
        (servers_told own conn)
    server_deeds_same =
        sym (deeds_near place (servers_told other place))
        ∙ ap (λ rows. map server_deed rows) told_same ∙ deeds_near conn (servers_told own conn)

    near_same : is_near other place ≡ is_near own conn
    near_same = fun_ext (λ home. ap not (behind_same home))

    pub burst_same : (room : Room) → burst_parts room other place ≡ burst_parts room own conn
    unfolding burst_parts
    burst_same room =
        λ i. map (parts_path i) (server_deeds_same i ++ burst_of (alike.name i) (near_same i) room)
      where
        parts_path : deed_parts room other ≡ deed_parts room own
        parts_path = fun_ext (parts_same room)
