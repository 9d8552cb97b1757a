-- A link between two servers has two sides, and without it no way goes from one to the other.
--
-- a.net is linked to b.net, and b.net to c.net. The link between b.net and c.net is cut:
--   a.net and b.net    are one side
--   c.net              is the other
use Rattle.std.proofs.Common.{◌≡◌, ℕ, zero, suc, Bool, true, false, ◌&&◌, ◌||◌, ◌⊎◌, inl, inr}
use Rattle.std.proofs.Common.{is_some, Option, Some, None, List, [], ◌∷◌, nat_eq, refl, sym, ◌∙◌}
use Rattle.std.proofs.Common.{ap, subst, unwrap_or, if◌then◌else◌}
use Rattle.std.proofs.lemmas.Bool.{and_parts, eq-eqb, or_parts, or_cases}
use Rattle.std.specs.FinMap.{FinMap, contains_key-keys, get, keys}
use Rattle.std.specs.List.{slice_get}
use Rattle.std.specs.Option.{option_and_then, option_map_or}
use Rattle.std.specs.Ordering.{nat_cmp}
use Rattle.std.proofs.lemmas.Option.{same_Some}
use Rattle.irc_relay.specs.Laws.{LinkTakenOut}
use Rattle.irc_relay.specs.Links.{AreLinked, HasEnds, IsForest, Link, Name, has_ends, joined}
use Rattle.irc_relay.specs.Links.{links_without, part, same}
use Rattle.irc_relay.specs.Links.{linked as are_linked}
use Rattle.irc_relay.specs.Lemmas.TellingNames.{same_unless, same_when}
use Rattle.irc_world.specs.Laws.{WorldIsSound}
use Rattle.irc_network.specs.Network.{Node, server_place, node_at}
use Rattle.irc_pipes.specs.Pipes.{LinkPipe, Pipes, are_still, are_still_in, is_still, new_pipe}
use Rattle.irc_pipes.specs.Pipes.{pipe_at}
use Rattle.irc_pipes.specs.Pipes.{pipe_in}
use Rattle.irc_pipes.specs.Lemmas.StillPipes.{still_is_new}
use Rattle.irc_pipes.specs.Lemmas.StillPipes.{one_of as one_of_all}
use Rattle.irc_network.specs.ByteNetwork.{ByteNetwork, is_byte_rest}
use Rattle.irc_network.specs.Whole.{RestAsLines, has_way}
use Rattle.irc_items.specs.SetUp.{settings_of}
use Rattle.irc_items.specs.Sound.{IsPlaceOf, IsSound}
use Rattle.irc_items.specs.Lemmas.SetUpFacts.{at_place, placed}
use Rattle.irc_net.specs.OneRoom.{IsKeptSound}
use Rattle.irc_daemons.proofs.Asked.{AllStill}
use Rattle.irc_daemons.proofs.Permitted.{IsServing, linked_joins, names_same, placed_by}
use Rattle.irc_daemons.proofs.Permitted.{serves_there, sound_at_rest, way_is}
use Rattle.irc_daemons.proofs.Relinked.{IsRelinked, is_parted, parted_net}

-- A side of each place: that of n is one, that of f the other, and no way leaves a side.
pub record AreSides (n f : ℕ) (is_way : ℕ → ℕ → Bool) : Type 0 where
  pub side : ℕ → Bool
  pub near_side : side n ≡ true
  pub far_side : side f ≡ false
  pub stays : (x y : ℕ) → is_way x y ≡ true → side x ≡ side y

-- ---- at rest all is still

still_in : (row : FinMap nat_cmp LinkPipe) → are_still_in row ≡ true → (y : ℕ)
    → pipe_in y row ≡ new_pipe
still_in row all y = by (get row y) refl
  where
    by : (o : Option LinkPipe) → get row y ≡ o → unwrap_or o new_pipe ≡ new_pipe
    by None is = refl
    by (Some pipe) is =
        ap (λ o. unwrap_or o new_pipe) (sym is)
        ∙ still_is_new (pipe_in y row)
        (one_of_all (λ number. is_still (pipe_in number row)) y (keys row) all
        (sym (contains_key-keys row y) ∙ ap is_some is))

still_rows : (pipes : Pipes) → are_still pipes ≡ true → (x y : ℕ) → pipe_at pipes x y ≡ new_pipe
still_rows [] all x y = refl
still_rows (row ∷ pipes) all zero y =
    still_in row (and_parts (are_still_in row) (are_still pipes) all).0 y
still_rows (row ∷ pipes) all (suc x) y =
    still_rows pipes (and_parts (are_still_in row) (are_still pipes) all).1 x y

pub all_still : (net : ByteNetwork) → is_byte_rest net ≡ true → AllStill net
all_still net rest = still_rows net.pipes rest

-- ---- links

ends_are : (l : Link) (s t : Name) → has_ends l s t ≡ true → HasEnds l s t
ends_are l s t is = by (or_cases (same l.near s && same l.far t) (same l.near t && same l.far s) is)
  where
    by : ((same l.near s && same l.far t) ≡ true) ⊎ ((same l.near t && same l.far s) ≡ true)
        → HasEnds l s t
    by (inl both) =
        let parts = and_parts (same l.near s) (same l.far t) both in
        inl (names_same l.near s parts.0, names_same l.far t parts.1)
    by (inr both) =
        let parts = and_parts (same l.near t) (same l.far s) both in
        inr (names_same l.near t parts.0, names_same l.far s parts.1)

pub link_there : (links : List Link) (s t : Name) → are_linked links s t ≡ true
    → AreLinked links s t
link_there [] s t is = cc is
link_there (l ∷ links) s t is =
    by (or_cases (has_ends l s t) (are_linked links s t) is) (link_there links s t)
  where
    by : (has_ends l s t ≡ true) ⊎ (are_linked links s t ≡ true)
        → (are_linked links s t ≡ true → AreLinked links s t) → AreLinked (l ∷ links) s t
    by (inl ends) rest = inl (ends_are l s t ends)
    by (inr later) rest = inr (rest later)

-- who is linked stays so, but for the two that are parted
module _ (a b s t : Name) (apart : s ≡ a → t ≡ b → ⊥) (turned : s ≡ b → t ≡ a → ⊥) where
  not_both : (l : Link) → HasEnds l a b → HasEnds l s t → ⊥
  not_both l (inl one) (inl other) = apart (sym other.0 ∙ one.0) (sym other.1 ∙ one.1)
  not_both l (inl one) (inr other) = turned (sym other.1 ∙ one.1) (sym other.0 ∙ one.0)
  not_both l (inr one) (inl other) = turned (sym other.0 ∙ one.0) (sym other.1 ∙ one.1)
  not_both l (inr one) (inr other) = apart (sym other.1 ∙ one.1) (sym other.0 ∙ one.0)

  pub still_linked : (links : List Link) → are_linked links s t ≡ true
      → are_linked (links_without links a b) s t ≡ true
  unfolding links_without
  still_linked [] is = cc is
  still_linked (l ∷ links) is =
      by (has_ends l a b) (has_ends l s t) refl refl is (still_linked links)
    where
      by : (cut its : Bool) → has_ends l a b ≡ cut
          → has_ends l s t ≡ its → (its || are_linked links s t) ≡ true
          → (are_linked links s t ≡ true → are_linked (links_without links a b) s t ≡ true)
          → are_linked (if cut then links else l ∷ links_without links a b) s t ≡ true
      by true true one other is rest =
          absurd (not_both l (ends_are l a b one) (ends_are l s t other))
      by true false one other is rest = is
      by false true one other is rest =
          ap (λ ends. ends || are_linked (links_without links a b) s t) other
      by false false one other is rest =
          ap (λ ends. ends || are_linked (links_without links a b) s t) other ∙ rest is

-- ---- the two sides

not_and : (b c : Bool) → (b && c) ≡ false → b ≡ true → c ≡ true → ⊥
not_and true true none one other = cc none
not_and true false none one other = cc other
not_and false c none one other = cc one

module _ (world_law : WorldIsSound) (taken_out : LinkTakenOut) (rest_law : RestAsLines)
    (net : ByteNetwork) (kept : IsKeptSound net)
    (rest : is_byte_rest net ≡ true)
  where
    sound : IsSound net.network
    sound = sound_at_rest rest_law net kept rest

    pub links_are_forest : IsForest net.network.links
    links_are_forest = subst IsForest (sym sound.links)
        (world_law (settings_of net.network) net.network.items sound.taken).forest

    -- a way goes between two servers that are linked
    pub record IsWay (x y : ℕ) : Type 0 where
      pub one : Name
      pub other : Name
      pub one_at : slice_get net.network.names x ≡ Some one
      pub other_at : slice_get net.network.names y ≡ Some other
      pub linked : are_linked net.network.links one other ≡ true

    name_at : (x : ℕ) (at : IsPlaceOf net.network x)
        → slice_get net.network.names x ≡ Some at.server
    name_at x at = ap (slice_get net.network.names) (sym at.is)
        ∙ (placed net.network.names at.server at.among).is_there

    pub way_of : (x y : ℕ) → has_way net.network x y ≡ true → IsWay x y
    way_of x y way = by (node_at net.network x) refl
      where
        by : (o : Option Node) → node_at net.network x ≡ o → IsWay x y
        by None at =
            cc (sym way ∙ ap (λ o. is_some (option_and_then (λ (s : Node). get s.queues y) o)) at)
        by (Some node) at =
            let from = at_place net.network sound.set_up x node at in
            let from_at : slice_get net.network.names x ≡ Some from.server = name_at x from in
            let to =
            sound.to_servers from.server y
            (ap (λ o. is_some (option_and_then (λ (s : Node). get s.queues y)
            (option_and_then (node_at net.network) o)))
            (placed_by net.network sound.set_up x from.server from_at)
            ∙ way) in
            let to_at : slice_get net.network.names y ≡ Some to.server = name_at y to in record {
              one = from.server;
              other = to.server;
              one_at = from_at;
              other_at = to_at;
              linked =
                  sym (way_is rest_law net kept rest from.server to.server x y from_at to_at) ∙ way;
            }

    same_place : (x y : ℕ) (one other : Name) → slice_get net.network.names x ≡ Some one
        → slice_get net.network.names y ≡ Some other → one ≡ other → nat_eq x y ≡ true
    same_place x y one other one_at other_at is =
        eq-eqb x y
        (same_Some x y
        (sym (placed_by net.network sound.set_up x one one_at) ∙ ap (server_place net.network) is
        ∙ placed_by net.network sound.set_up y other other_at))

    module _ (near far : Name) (n f : ℕ) (near_at : slice_get net.network.names n ≡ Some near)
        (far_at : slice_get net.network.names f ≡ Some far) (way : has_way net.network n f ≡ true)
      where
        abbrev left : List Link
        left = links_without net.network.links near far

        near_there : IsServing net.network n
        near_there = serves_there net kept n near near_at

        far_there : IsServing net.network f
        far_there = serves_there net kept f far far_at

        pub parted_is : IsRelinked n f false net (parted_net near far n f net)
        parted_is =
            is_parted near far n f net kept.whole.tidy near_there.state far_there.state
            near_there.at
            far_there.at (all_still net rest)

        pub parted_still : AllStill (parted_net near far n f net)
        parted_still x y = parted_is.pipes x y ∙ all_still net rest x y

        -- who is joined with the near end without the link
        abbrev side_of : Option Name → Bool
        side_of o = option_map_or (λ name. joined left name near) o false

        abbrev its_side : ℕ → Bool
        its_side x = side_of (slice_get net.network.names x)

        not_joined : part left far ≡ part left near → ⊥
        not_joined is =
            (taken_out net.network.links near far links_are_forest
            (link_there net.network.links near far
            (sym (way_is rest_law net kept rest near far n f near_at far_at) ∙ way))).parted
            (sym is)

        stays_of : (x y : ℕ) → ((nat_eq x n && nat_eq y f) || (nat_eq x f && nat_eq y n)) ≡ false
            → IsWay x y → its_side x ≡ its_side y
        stays_of x y other_way it =
            let apart = or_parts (nat_eq x n && nat_eq y f) (nat_eq x f && nat_eq y n) other_way in
            ap side_of it.one_at
            ∙ ap (λ p. same p (part left near))
            (linked_joins left it.one it.other
            (still_linked near far it.one it.other
            (λ one two.
            not_and (nat_eq x n) (nat_eq y f) apart.0
            (same_place x n it.one near it.one_at near_at one)
            (same_place y f it.other far it.other_at far_at two))
            (λ one two.
            not_and (nat_eq x f) (nat_eq y n) apart.1
            (same_place x f it.one far it.one_at far_at one)
            (same_place y n it.other near it.other_at near_at two))
            net.network.links it.linked))
            ∙ sym (ap side_of it.other_at)

        side_stays : (x y : ℕ) → has_way (parted_net near far n f net).network x y ≡ true
            → its_side x ≡ its_side y
        side_stays x y is = by ((nat_eq x n && nat_eq y f) || (nat_eq x f && nat_eq y n)) refl
            (sym (parted_is.ways x y) ∙ is)
          where
            by : (b : Bool) → ((nat_eq x n && nat_eq y f) || (nat_eq x f && nat_eq y n)) ≡ b
                → (if b then false else has_way net.network x y) ≡ true → its_side x ≡ its_side y
            by true it none = cc none
            by false other_way there = stays_of x y other_way (way_of x y there)

        pub parted_sides : AreSides n f (λ x y. has_way (parted_net near far n f net).network x y)
        parted_sides = record {
          side = its_side;
          near_side = ap side_of near_at ∙ same_when (part left near) (part left near) refl;
          far_side = ap side_of far_at ∙ same_unless (part left far) (part left near) not_joined;
          stays = side_stays;
        }
