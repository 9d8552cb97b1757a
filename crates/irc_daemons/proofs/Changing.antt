-- A link is made or lost: the first of its ends is told of it, and then the second.
use Rattle.std.proofs.Common.{◌≡◌, ℕ, Bool, true, false, not, ◌||◌, ◌&&◌, nat_eq, is_some, Option}
use Rattle.std.proofs.Common.{Some, None, List, [], ◌∷◌, ◌++◌, refl, sym, ◌∙◌, ap, subst}
use Rattle.std.proofs.Common.{if◌then◌else◌}
use Rattle.std.proofs.lemmas.Bool.{eq-eqb, eqb-true}
use Rattle.std.specs.List.{slice_get}
use Rattle.std.proofs.Math.Bool.{or_comm}
use Rattle.irc_names.specs.Lemmas.PlainFacts.{nat_eq-turned}
use Rattle.irc_forest.specs.Forests.{place_in}
use Rattle.irc_line.specs.Laws.{PiecesCompleteTheSame}
use Rattle.irc_outbox.specs.Calls.{Call}
use Rattle.irc_relay.specs.Links.{Name}
use Rattle.irc_server.specs.Connected.{WhoIsConnected}
use Rattle.irc_server.specs.LineEnds.{ServedLinesEnd}
use Rattle.irc_server.specs.Own.{ServedGoesToItsOwn}
use Rattle.irc_server.specs.Served.{link_down, link_up}
use Rattle.irc_world.specs.Owed.{world_of}
use Rattle.irc_world.specs.Refused.{refused}
use Rattle.irc_world.specs.Stepping.{Item, cut, link}
use Rattle.irc_world.specs.WithinLimits.{IsItemWithin}
use Rattle.irc_world.specs.World.{Setting}
use Rattle.irc_network.specs.Network.{begun, node_asked}
use Rattle.irc_pipes.specs.Pipes.{new_pipe, pipe_at}
use Rattle.irc_relay.specs.Laws.{LinkTakenOut}
use Rattle.irc_world.specs.Laws.{WorldIsSound}
use Rattle.irc_network.specs.ByteNetwork.{ByteNetwork, is_byte_rest, item_given, net_in_lines}
use Rattle.irc_network.specs.ByteNetwork.{queues_written}
use Rattle.irc_network.specs.Whole.{IsTidy, RestAsLines, has_way}
use Rattle.irc_items.specs.Laws.{RefusalsAreTheWorlds}
use Rattle.irc_items.specs.SetUp.{settings_of}
use Rattle.irc_net.specs.Faults.{item_fault}
use Rattle.irc_net.specs.Laws.{SettingsStay, StaysKept}
use Rattle.irc_daemons.specs.Alike.{ServedAlike}
use Rattle.irc_daemons.specs.AsNetwork.{IsAsNetwork, is_given, no_more}
use Rattle.irc_daemons.specs.Clients.{ClientsStay}
use Rattle.irc_daemons.specs.Daemons.{Daemons, IsToldOfLinks}
use Rattle.irc_daemons.specs.EachStep.{ArePlaced}
use Rattle.irc_daemons.specs.Items.{IsQuiet}
use Rattle.irc_daemons.specs.Runs.{MayBe}
use Rattle.irc_daemons.specs.Tellings.{IsOfItem, Owing, TellsEnd, LinkTidings, end_before, end_by}
use Rattle.irc_daemons.specs.Tellings.{end_set, has_called, has_lost, is_lost, is_up, is_way_by}
use Rattle.irc_daemons.specs.Tellings.{read_event_by, was_called, way_set}
use Rattle.irc_daemons.proofs.Aside.{aside_first, link_alone, nothing_comes, still_but_one}
use Rattle.irc_daemons.proofs.Asked.{AllStill}
use Rattle.irc_daemons.proofs.Given.{bytes_of_nodes, come_of_nodes}
use Rattle.irc_daemons.proofs.Going.{IsGoing, goes_on, quiet_rests}
use Rattle.irc_daemons.proofs.Halves.{both_asked, half_lacks, one_asked}
use Rattle.irc_daemons.proofs.Homes.{asked_keeps}
use Rattle.irc_daemons.proofs.Lacking.{lacks_nothing}
use Rattle.irc_daemons.proofs.LackingWords.{AreAllEnds, AreOwn, LacksOne}
use Rattle.irc_daemons.proofs.Linking.{end_elsewhere, end_told, end_to_others}
use Rattle.irc_daemons.proofs.Owing.{IsHalf, IsStillFor, all_is_still, named_once, side_is_still}
use Rattle.irc_daemons.proofs.Owning.{all_ends, are_own}
use Rattle.irc_daemons.proofs.Permitted.{IsServing, may_cut, may_link, placed_by, serves_there}
use Rattle.irc_daemons.proofs.Relinked.{ends_then, given_cut, given_link, is_linked, linked_net}
use Rattle.irc_daemons.proofs.Relinked.{own_then, parted_net}
use Rattle.irc_daemons.proofs.SameAs.{IsSameAs, as_network_of}
use Rattle.irc_daemons.proofs.Sent.{server_at}
use Rattle.irc_daemons.proofs.Sides.{all_still, parted_is, parted_sides}
use Rattle.irc_daemons.proofs.Telling.{told_followed}

-- ---- ways

-- the ways are the same whichever end is named first
pub either_first : (a b c d is was : Bool)
    → (if (a && b) || (c && d) then is else was) ≡ (if (c && d) || (a && b) then is else was)
either_first a b c d is was = ap (λ t. if t then is else was) (or_comm (a && b) (c && d))

module _ {W : Type 0} (old : Daemons W) (place other : ℕ) (two : nat_eq place other ≡ false) where
  -- what a way is then, by where it is
  pub data WayThen (is : Bool) (x y : ℕ) : Type 0 where
    way_told : x ≡ place → y ≡ other → way_set old place other is x y ≡ is → WayThen is x y
    way_back : x ≡ other → y ≡ place → way_set old place other is x y ≡ is → WayThen is x y
    way_stays : (x ≡ place → nat_eq y other ≡ false) → (x ≡ other → nat_eq y place ≡ false)
        → way_set old place other is x y ≡ old.ways x y → WayThen is x y

  pub way_then : (is : Bool) (x y : ℕ) → WayThen is x y
  way_then is x y =
      by (nat_eq x place) (nat_eq y other) (nat_eq x other) (nat_eq y place) refl refl refl refl
    where
      set : (a b c d : Bool) → nat_eq x place ≡ a → nat_eq y other ≡ b
          → nat_eq x other ≡ c → nat_eq y place ≡ d
          → way_set old place other is x y ≡ (if (a && b) || (c && d) then is else old.ways x y)
      set a b c d one there back here = λ i. if (one i && there i) || (back i && here i)
          then is else old.ways x y

      by : (a b c d : Bool) → nat_eq x place ≡ a → nat_eq y other ≡ b → nat_eq x other ≡ c
          → nat_eq y place ≡ d → WayThen is x y
      by true true c d one there back here = way_told (eqb-true x place one)
          (eqb-true y other there) (set true true c d one there back here)
      by true false true d one there back here =
          cc (sym two ∙ eq-eqb place other (sym (eqb-true x place one) ∙ eqb-true x other back))
      by true false false d one there back here =
          way_stays (λ is_one. there) (λ is_back. cc (sym (eq-eqb x other is_back) ∙ back))
          (set true false false d one there back here)
      by false b true true one there back here = way_back (eqb-true x other back)
          (eqb-true y place here) (set false b true true one there back here)
      by false b true false one there back here =
          way_stays (λ is_one. cc (sym (eq-eqb x place is_one) ∙ one)) (λ is_back. here)
          (set false b true false one there back here)
      by false b false d one there back here =
          way_stays (λ is_one. cc (sym (eq-eqb x place is_one) ∙ one))
          (λ is_back. cc (sym (eq-eqb x other is_back) ∙ back))
          (set false b false d one there back here)

  pub end_stays : (end : Option ℕ) (x y : ℕ) → (x ≡ place → nat_eq y other ≡ false)
      → end_set old place other end x y ≡ old.ends x y
  end_stays end x y apart = by (nat_eq x place) refl
    where
      by : (b : Bool) → nat_eq x place ≡ b → end_set old place other end x y ≡ old.ends x y
      by true one =
          ap (λ n. end_set old place other end n y) (eqb-true x place one)
          ∙ end_to_others old place other end y (apart (eqb-true x place one))
          ∙ ap (λ n. old.ends n y) (sym (eqb-true x place one))
      by false away = end_elsewhere old place other end x y away

is_end_by : (t : LinkTidings) (conn : ℕ) → is_some (end_by t conn) ≡ is_way_by t
is_end_by (is_up called) conn = refl
is_end_by is_lost conn = refl

was_end_by : (t : LinkTidings) (conn : ℕ) → is_some (end_before t conn) ≡ not (is_way_by t)
was_end_by (is_up called) conn = refl
was_end_by is_lost conn = refl

-- ---- daemons whose servers were told of all

pub record IsWhole {W : Type 0} (settings : List Setting) (names : List Name) (items : List Item)
    (daemons : Daemons W) : Type 0 where
  pub net : ByteNetwork
  pub going : IsGoing settings items net
  pub same : IsAsNetwork names daemons net
  pub told : (x : ℕ) → IsToldOfLinks daemons x

pub placed_of : {W : Type 0} (settings : List Setting) (names : List Name)
    (items : List Item) (daemons : Daemons W) (net : ByteNetwork) → IsGoing settings items net
    → IsAsNetwork names daemons net → ArePlaced names net
placed_of settings names items daemons net going same x name is =
    placed_by (net_in_lines net) going.kept.sound.set_up x name
    (ap (λ (ns : List Name). slice_get ns x) (sym same.are_seated.names_are) ∙ is)

module _ {W : Type 0} (is_after : W → List Call → Type 0) (pieces : PiecesCompleteTheSame)
    (lines_end : ServedLinesEnd) (own_law : ServedGoesToItsOwn)
    (stay : ClientsStay) (connected : WhoIsConnected) (alike_law : ServedAlike)
    (settings : List Setting) (names : List Name) (items : List Item)
  where
    -- ---- the first end

    module _ (stays : StaysKept) (set_up : SettingsStay) (old new : Daemons W)
        (whole : IsWhole settings names items old) (quiet : IsQuiet old) (place other : ℕ)
      where
        abbrev net : ByteNetwork
        net = whole.net

        rest : is_byte_rest net ≡ true
        rest = quiet_rests names old net whole.same quiet

        still : AllStill net
        still = all_still net rest

        placed : ArePlaced names net
        placed = placed_of settings names items old net whole.going whole.same

        once : (x y : ℕ) (name : Name) → slice_get names x ≡ Some name
            → slice_get names y ≡ Some name → x ≡ y
        once = named_once names net placed

        at_net : (x : ℕ) (name : Name) → slice_get names x ≡ Some name
            → slice_get net.network.names x ≡ Some name
        at_net x name is =
            ap (λ (ns : List Name). slice_get ns x) (sym whole.same.are_seated.names_are) ∙ is

        serving : (x : ℕ) (name : Name) → slice_get names x ≡ Some name → IsServing net.network x
        serving x name is = serves_there net whole.going.kept x name (at_net x name is)

        own_here : AreOwn net.network
        own_here = are_own names old net whole.same once

        ends_here : AreAllEnds net.network
        ends_here = all_ends names old net whole.same

        -- what comes of it, whichever end is told first
        module _ (mine theirs : LinkTidings) (item : Item)
            (telling : TellsEnd is_after mine place other old new)
            (two : nat_eq place other ≡ false)
            (both : is_way_by theirs ≡ is_way_by mine) (base full : ByteNetwork)
            (servers : (x : ℕ) → server_at base.network x ≡ server_at net.network x)
            (same_names : base.network.names ≡ net.network.names)
            (same_homes : base.network.homes ≡ net.network.homes)
            (same_received : base.network.received ≡ net.network.received)
            (ways : (x y : ℕ)
            → has_way base.network x y ≡ way_set old place other (is_way_by mine) x y)
            (pipes : (x y : ℕ) → pipe_at base.pipes x y ≡ pipe_at net.pipes x y)
            (tidy : IsTidy base)
            (lacks : LacksOne other (read_event_by theirs place)
            (one_asked item place (read_event_by mine other) base) full)
            (full_is : (item_given item net).state ≡ full) (taken : item_fault net item ≡ None)
            (within : IsItemWithin item)
            (still_then : IsStillFor (record { place = other; other = place; tidings = theirs })
            (one_asked item place (read_event_by mine other) base))
          where
            ways_new : (x y : ℕ) → new.ways x y ≡ way_set old place other (is_way_by mine) x y
            ways_new x y = ap (λ (f : ℕ → ℕ → Bool). f x y) telling.step.same_ways

            ends_new : (x y : ℕ)
                → new.ends x y ≡ end_set old place other (end_by mine telling.conn) x y
            ends_new x y = ap (λ (f : ℕ → ℕ → Option ℕ). f x y) telling.step.same_ends

            apart : nat_eq other place ≡ false
            apart = nat_eq-turned other place ∙ two

            told_set : (x y : ℕ) → (x ≡ other → nat_eq y place ≡ false)
                → way_set old place other (is_way_by mine) x y
                ≡ is_some (end_set old place other (end_by mine telling.conn) x y)
            told_set x y not_back = by (way_then old place other two (is_way_by mine) x y)
              where
                by : WayThen old place other two (is_way_by mine) x y
                    → way_set old place other (is_way_by mine) x y
                    ≡ is_some (end_set old place other (end_by mine telling.conn) x y)
                by (way_told one there is) =
                    is ∙ sym (is_end_by mine telling.conn)
                    ∙ ap is_some (sym (end_told old place other (end_by mine telling.conn)))
                    ∙ (λ i. is_some (end_set old place other (end_by mine telling.conn) (sym one i)
                    (sym there i)))
                by (way_back back here is) = cc (sym (not_back back) ∙ eq-eqb y place here)
                by (way_stays not_told not_it is) =
                    is ∙ whole.told x y ∙ ap is_some (sym
                    (end_stays old place other two (end_by mine telling.conn) x y not_told))

            way_there : way_set old place other (is_way_by mine) other place ≡ is_way_by mine
            way_there = by (way_then old place other two (is_way_by mine) other place)
              where
                by : WayThen old place other two (is_way_by mine) other place
                    → way_set old place other (is_way_by mine) other place ≡ is_way_by mine
                by (way_told one there is) = is
                by (way_back back here is) = is
                by (way_stays not_told not_it is) = cc (sym (not_it refl) ∙ eq-eqb place place refl)

            pub half_told : IsHalf settings names (items ++ item ∷ [])
                (record { place = other; other = place; tidings = theirs }) new
            half_told = record {
              less = one_asked item place (read_event_by mine other) base;
              more = (item_given item net).state;
              going = goes_on stays set_up settings items net (item ∷ [])
                  (item_given item net).state whole.going
                  (is_given [] item net no_more taken within);
              same =
                  told_followed is_after pieces lines_end own_law stay connected alike_law names
                  mine place other old new telling two net whole.same once base servers
                  same_names same_homes same_received ways pipes tidy
                  (λ y. told_set place y (λ back. cc (sym two ∙ eq-eqb place other back)))
                  (λ lost y. still y place) (λ lost. still place other) item;
              placed = λ x name is.
                  ap (λ ns. place_in ns name) ((asked_keeps place (read_event_by mine other)
                  (begun base.network)).names ∙ same_names) ∙ placed x name is;
              lacks = subst (LacksOne other (read_event_by theirs place)
                  (one_asked item place (read_event_by mine other) base)) (sym full_is) lacks;
              apart = apart;
              way = ways_new other place ∙ way_there ∙ sym both;
              untold =
                  ap is_some (ends_new other place ∙ end_elsewhere old place other
                  (end_by mine telling.conn) other place apart)
                  ∙ sym (whole.told other place) ∙ whole.same.are_joined.both_ways other place
                  ∙ whole.told place other ∙ ap is_some telling.was
                  ∙ was_end_by mine telling.conn ∙ ap not (sym both);
              told = λ x y not_owed. ways_new x y ∙ told_set x y not_owed
                  ∙ ap is_some (sym (ends_new x y));
              still = still_then;
            }

        abbrev if_way : ℕ → ℕ → Bool → Bool → Bool
        if_way x y is was = if (nat_eq x place && nat_eq y other)
            || (nat_eq x other && nat_eq y place) then is else was

        abbrev if_back : ℕ → ℕ → Bool → Bool → Bool
        if_back x y is was = if (nat_eq x other && nat_eq y place)
            || (nat_eq x place && nat_eq y other) then is else was

        -- ---- by which item

        module _ (world_law : WorldIsSound) (taken_out : LinkTakenOut) (rest_law : RestAsLines)
            (refusals : RefusalsAreTheWorlds) where
          permitted : (near far : Name) → MayBe settings items (link near far)
              → refused (settings_of net.network)
              (world_of (settings_of net.network) net.network.items) (link near far) ≡ None
          permitted near far may =
              (λ i. refused (whole.going.settings_are i) (world_of (whole.going.settings_are i)
              (whole.going.items_are i)) (link near far)) ∙ may

          -- the server that calls is told first
          module _ (near far : Name) (at : slice_get names place ≡ Some near)
              (there : slice_get names other ≡ Some far)
              (telling : TellsEnd is_after (is_up (Some far)) place other old new)
              (may : MayBe settings items (link near far))
            where
              calls : IsHalf settings names (items ++ link near far ∷ [])
                  (record { place = other; other = place; tidings = is_up None }) new
              calls =
                  let ok = may_link rest_law net whole.going.kept rest near far place other
                  (at_net place near at) (at_net other far there) refusals
                  (permitted near far may) in
                  let one = serving place near at in
                  let another = serving other far there in
                  let base = linked_net near far place other net in
                  let is = is_linked near far place other net whole.same.as_bytes.tidy one.state
                  another.state one.at another.at in
                  let on = link_up other (Some far) in
                  let off = link_up place None in
                  let halves = half_lacks own_law
                  (link near far) place other on off base is.tidy one.state another.state ok.apart
                  (is.servers place ∙ one.at) (is.servers other ∙ another.at)
                  (own_then net.network base.network is.servers own_here)
                  (ends_then net.network base.network is.servers ends_here) in
                  half_told (is_up (Some far)) (is_up None) (link near far) telling ok.apart refl
                  base (both_asked (link near far) place other on off base) is.servers
                  is.names is.homes is.received (λ x y. is.ways x y ∙ ap (λ w. if_way x y true w)
                  (whole.same.as_bytes.ways x y)) is.pipes is.tidy halves.far_last
                  (given_link net near far place other (placed place near at)
                  (placed other far there)) ok.taken tt
                  (all_is_still None refl (λ x y not_it.
                  still_but_one (link near far) place on base one.state is.tidy
                  (λ x y. is.pipes x y ∙ still x y) (is.servers place ∙ one.at) other
                  (λ y two. link_alone one.state other y two (Some far)) x y not_it))

          -- the server that was called is told first
          module _ (near far : Name) (at : slice_get names place ≡ Some far)
              (there : slice_get names other ≡ Some near)
              (telling : TellsEnd is_after (is_up None) place other old new)
              (may : MayBe settings items (link near far))
            where
              is_called : IsHalf settings names (items ++ link near far ∷ [])
                  (record { place = other; other = place; tidings = is_up (Some far) }) new
              is_called =
                  let ok = may_link rest_law net whole.going.kept rest near far other place
                  (at_net other near there) (at_net place far at) refusals
                  (permitted near far may) in
                  let one = serving other near there in
                  let another = serving place far at in
                  let base = linked_net near far other place net in
                  let is = is_linked near far other place net whole.same.as_bytes.tidy one.state
                  another.state one.at another.at in
                  let on = link_up place (Some far) in
                  let off = link_up other None in
                  let halves = half_lacks own_law
                  (link near far) other place on off base is.tidy one.state another.state ok.apart
                  (is.servers other ∙ one.at) (is.servers place ∙ another.at)
                  (own_then net.network base.network is.servers own_here)
                  (ends_then net.network base.network is.servers ends_here) in
                  half_told (is_up None) (is_up (Some far)) (link near far) telling
                  (nat_eq-turned place other ∙ ok.apart) refl base
                  (both_asked (link near far) other place on off base) is.servers is.names is.homes
                  is.received
                  (λ x y.
                  is.ways x y ∙ ap (λ w. if_back x y true w) (whole.same.as_bytes.ways x y)
                  ∙ either_first (nat_eq x other) (nat_eq y place) (nat_eq x place)
                  (nat_eq y other) true (old.ways x y)) is.pipes is.tidy halves.near_last
                  (given_link net near far other place (placed other near there)
                  (placed place far at)) ok.taken tt
                  (all_is_still (Some far) refl (λ x y not_it.
                  still_but_one (link near far) place off base another.state is.tidy
                  (λ x y. is.pipes x y ∙ still x y) (is.servers place ∙ another.at) other
                  (λ y two. link_alone another.state other y two None) x y not_it))

          -- one loses the link
          module _ (near far : Name) (at : slice_get names place ≡ Some near)
              (there : slice_get names other ≡ Some far)
              (telling : TellsEnd is_after is_lost place other old new)
            where
              linked : has_way net.network place other ≡ true
              linked = whole.same.as_bytes.ways place other ∙ whole.told place other
                  ∙ ap is_some telling.was

              not_same : nat_eq place other ≡ false
              not_same = by (nat_eq place other) refl
                where
                  by : (b : Bool) → nat_eq place other ≡ b → b ≡ false
                  by true same =
                      cc (sym (ap is_some
                      (ap (old.ends place) (eqb-true place other same) ∙ telling.was))
                      ∙ ap is_some (whole.same.are_joined.not_itself place))
                  by false two = refl

              loses : IsHalf settings names (items ++ cut near far ∷ [])
                  (record { place = other; other = place; tidings = is_lost }) new
              loses =
                  let one = serving place near at in
                  let another = serving other far there in
                  let base = parted_net near far place other net in
                  let is = parted_is world_law taken_out rest_law net whole.going.kept rest near far
                  place other (at_net place near at) (at_net other far there) linked in
                  let sides = parted_sides world_law taken_out rest_law net whole.going.kept rest
                  near far place other (at_net place near at) (at_net other far there)
                  linked in
                  let on = link_down other in
                  let off = link_down place in
                  let halves = half_lacks own_law
                  (cut near far) place other on off base is.tidy one.state another.state not_same
                  (is.servers place ∙ one.at) (is.servers other ∙ another.at)
                  (own_then net.network base.network is.servers own_here)
                  (ends_then net.network base.network is.servers ends_here) in
                  half_told is_lost is_lost (cut near far) telling not_same refl base
                  (both_asked (cut near far) place other on off base) is.servers
                  is.names is.homes is.received (λ x y. is.ways x y ∙ ap (λ w. if_way x y false w)
                  (whole.same.as_bytes.ways x y)) is.pipes is.tidy halves.far_last
                  (given_cut net near far place other (placed place near at)
                  (placed other far there))
                  (may_cut rest_law net whole.going.kept rest near far place other
                  (at_net place near at) (at_net other far there) linked) tt
                  (side_is_still sides.side refl sides.far_side
                  (aside_first (cut near far) place on base one.state is.tidy (λ x y. is.pipes x y
                  ∙ still x y) (is.servers place ∙ one.at) sides.side sides.stays
                  sides.near_side))

          back : (item : Item) (theirs : LinkTidings) (its : Item) (tidings : LinkTidings)
              → item ≡ its → theirs ≡ tidings → IsHalf settings names (items ++ its ∷ [])
              (record { place = other; other = place; tidings = tidings }) new
              → IsHalf settings names (items ++ item ∷ [])
              (record { place = other; other = place; tidings = theirs }) new
          back item theirs its tidings item_is theirs_is half =
              subst (λ i. IsHalf settings names (items ++ i ∷ [])
              (record { place = other; other = place; tidings = theirs }) new) (sym item_is)
              (subst (λ t. IsHalf settings names (items ++ its ∷ []) (record {
                place = other;
                other = place;
                tidings = t;
              }) new) (sym theirs_is) half)

          -- whichever it is
          pub first_half : (mine theirs : LinkTidings) (item : Item)
              → IsOfItem names place other item mine theirs → MayBe settings items item
              → TellsEnd is_after mine place other old new → IsHalf settings names
              (items ++ item ∷ []) (record { place = other; other = place; tidings = theirs }) new
          first_half mine theirs item
              (has_called near far at there item_is mine_is theirs_is) may telling =
              back item theirs (link near far) (is_up None) item_is theirs_is
              (calls near far at there (subst (λ t. TellsEnd is_after t place other old new) mine_is
              telling) (subst (MayBe settings items) item_is may))
          first_half mine theirs item
              (was_called near far at there item_is mine_is theirs_is) may telling =
              back item theirs (link near far) (is_up (Some far)) item_is theirs_is
              (is_called near far at there (subst (λ t. TellsEnd is_after t place other old new)
              mine_is telling) (subst (MayBe settings items) item_is may))
          first_half mine theirs item
              (has_lost near far at there item_is mine_is theirs_is) may telling =
              back item theirs (cut near far) is_lost item_is theirs_is
              (loses near far at there
              (subst (λ t. TellsEnd is_after t place other old new) mine_is telling))

    -- ---- the second end

    module _ (old new : Daemons W) (owing : Owing) (half : IsHalf settings names items owing old)
        (telling : TellsEnd is_after owing.tidings owing.place owing.other old new)
      where
        abbrev of_place : ℕ
        of_place = owing.place

        abbrev of_other : ℕ
        of_other = owing.other

        once_half : (x y : ℕ) (name : Name) → slice_get names x ≡ Some name
            → slice_get names y ≡ Some name → x ≡ y
        once_half = named_once names half.less half.placed

        -- they are linked already, or no more
        ways_set : (x y : ℕ) → way_set old of_place of_other (is_way_by owing.tidings) x y
            ≡ old.ways x y
        ways_set x y = by (way_then old of_place of_other half.apart (is_way_by owing.tidings) x y)
          where
            by : WayThen old of_place of_other half.apart (is_way_by owing.tidings) x y
                → way_set old of_place of_other (is_way_by owing.tidings) x y ≡ old.ways x y
            by (way_told one there is) =
                is ∙ sym half.way ∙ (λ i. old.ways (sym one i) (sym there i))
            by (way_back back here is) =
                is ∙ sym half.way ∙ half.same.are_joined.both_ways of_place of_other
                ∙ (λ i. old.ways (sym back i) (sym here i))
            by (way_stays not_told not_it is) = is

        told_of_all : (x y : ℕ) → old.ways x y ≡ is_some
            (end_set old of_place of_other (end_by owing.tidings telling.conn) x y)
        told_of_all x y = by (nat_eq x of_place) (nat_eq y of_other) refl refl
          where
            by : (a b : Bool) → nat_eq x of_place ≡ a → nat_eq y of_other ≡ b → old.ways x y
                ≡ is_some (end_set old of_place of_other (end_by owing.tidings telling.conn) x y)
            by true true one there =
                (λ i. old.ways (eqb-true x of_place one i) (eqb-true y of_other there i)) ∙ half.way
                ∙ sym (is_end_by owing.tidings telling.conn)
                ∙ ap is_some
                (sym (end_told old of_place of_other (end_by owing.tidings telling.conn)))
                ∙ (λ i. is_some (end_set old of_place of_other (end_by owing.tidings telling.conn)
                (sym (eqb-true x of_place one) i) (sym (eqb-true y of_other there) i)))
            by true false one there =
                half.told x y (λ is. there)
                ∙ ap is_some (sym (end_stays old of_place of_other half.apart
                (end_by owing.tidings telling.conn) x y (λ is. there)))
            by false b away there =
                half.told x y (λ is. cc (sym (eq-eqb x of_place is) ∙ away))
                ∙ ap is_some (sym (end_elsewhere old of_place of_other
                (end_by owing.tidings telling.conn) x y away))

        still_in : owing.tidings ≡ is_lost → (y : ℕ) → pipe_at half.less.pipes y of_place ≡ new_pipe
        still_in lost y = by half.still
          where
            by : IsStillFor owing half.less → pipe_at half.less.pipes y of_place ≡ new_pipe
            by (side_is_still side is far aside) = nothing_comes side half.less aside of_place far y
            by (all_is_still called up all) = cc (sym lost ∙ up)

        still_out : owing.tidings ≡ is_lost → pipe_at half.less.pipes of_place of_other ≡ new_pipe
        still_out lost = by half.still
          where
            by : IsStillFor owing half.less → pipe_at half.less.pipes of_place of_other ≡ new_pipe
            by (side_is_still side is far aside) = aside.still of_place of_other far
            by (all_is_still called up all) = cc (sym lost ∙ up)

        -- of no item
        abbrev nothing : Item
        nothing = cut [] []

        abbrev asked_then : ByteNetwork
        asked_then = one_asked nothing of_place (read_event_by owing.tidings of_other) half.less

        abbrev asked_alone : ByteNetwork
        asked_alone = queues_written (node_asked of_place (read_event_by owing.tidings of_other)
            (begun half.less.network)).state half.less.pipes

        same_asked : IsAsNetwork names new asked_then
        same_asked =
            told_followed is_after pieces lines_end own_law stay connected alike_law names
            owing.tidings of_place of_other old new telling half.apart half.less
            half.same once_half half.less (λ x. refl) refl refl refl
            (λ x y. half.same.as_bytes.ways x y ∙ sym (ways_set x y)) (λ x y. refl)
            half.lacks.tidy_less (λ y. ways_set of_place y
            ∙ told_of_all of_place y) still_in still_out nothing

        -- that no item was kept is nothing to daemons
        alone_same : IsSameAs asked_then asked_alone
        alone_same = record {
          servers = λ x. refl;
          ways = λ x y. refl;
          pipes = λ x y. refl;
          names = refl;
          homes = refl;
          come = λ client. come_of_nodes asked_then.network asked_alone.network refl client;
          inboxes = refl;
          bytes = λ client. bytes_of_nodes asked_then.network asked_alone.network refl client;
          tidy = record {
            quiet = same_asked.as_bytes.tidy.quiet;
            rows = same_asked.as_bytes.tidy.rows;
            lean = same_asked.as_bytes.tidy.lean;
          };
        }

        pub then_whole : IsWhole settings names items new
        then_whole = record {
          net = half.more;
          going = half.going;
          same =
              as_network_of names new asked_alone half.more
              (lacks_nothing of_place
              (read_event_by owing.tidings of_other) half.less half.more half.lacks)
              (as_network_of names new asked_then asked_alone alone_same same_asked);
          told = λ x y.
              ap (λ (f : ℕ → ℕ → Bool). f x y) telling.step.same_ways ∙ ways_set x y
              ∙ told_of_all x y
              ∙ ap (λ (f : ℕ → ℕ → Option ℕ). is_some (f x y)) (sym telling.step.same_ends);
        }
