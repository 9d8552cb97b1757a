-- Which of two servers connects makes no difference.
use Rattle.std.proofs.Common.{◌≡◌, ℕ, Bool, true, false, cond, ◌&&◌, ◌||◌, not, Option, Some, None}
use Rattle.std.proofs.Common.{List, [], ◌∷◌, ◌++◌, inl, inr, refl, sym, ◌∙◌, ap, subst, is_some}
use Rattle.std.proofs.Common.{if◌then◌else◌}
use Rattle.std.proofs.Math.Bool.{and_comm}
use Rattle.std.specs.Option.{option_map_or}
use Rattle.std.proofs.lemmas.List.{append-nil}
use Rattle.std.specs.FinMap.{get}
use Rattle.std.proofs.lemmas.Option.{same_Some}
use Rattle.irc_relay.specs.Links.{Name, Link, part, joined, links_without, AreJoined, AreLinked}
use Rattle.irc_relay.specs.Links.{IsLeft, IsMade, within, over, back}
use Rattle.irc_relay.specs.Links.{linked as are_linked}
use Rattle.irc_relay.specs.Laws.{TestsTell, LinkBetweenParts, LinkTakenOut}
use Rattle.irc_relay.specs.TurnedLinks.{AreTurned, TurnedAreTheSame, TakenOutEitherWay}
use Rattle.irc_relay.specs.Lemmas.TellingNames.{Telling, alike, unlike, tell, same_when}
use Rattle.irc_room.specs.Room.{Room}
use Rattle.irc_merge.specs.Laws.{MergeIsEven}
use Rattle.irc_merge.specs.Merge.{merge}
use Rattle.irc_stage.specs.declared.clients.Client.{Client}
use Rattle.irc_stage.specs.Lemmas.Numbers.{same_clients}
use Rattle.irc_world.specs.World.{Setting, Hall, World, is_server, home_of}
use Rattle.irc_world.specs.Stepping.{link, cut, step, merged, link_made, clashes_in, meeting_lines}
use Rattle.irc_world.specs.Stepping.{remaining, leaving_lines, parted}
use Rattle.irc_world.specs.Refused.{Refusal, refused, password_for, are_equal, are_peers}
use Rattle.irc_world.specs.Refused.{needs_servers, no_such_server, not_linked, link_refused}
use Rattle.irc_world.specs.Sound.{IsSound}
use Rattle.irc_world.specs.Even.{AreTheSame, LinkIsEven, CutIsEven}
use Rattle.irc_world.proofs.Halls.{hall_with}
use Rattle.irc_world.proofs.StaysSound.{LinkIsTaken, link_taken, link_there, if_taken, two_parts}
use Rattle.irc_world.proofs.StaysSound.{one_part, was_kept}
use Rattle.irc_world.specs.Lemmas.MergedClients.{first_of, survivor, get-kept, get-merged}
use Rattle.irc_world.proofs.SameWorlds.{looks_same, itself_turned}

-- ---- the other may connect

passwords_turned : (one other : Option (List ℕ)) → are_equal one other ≡ true
    → are_equal other one ≡ true
passwords_turned None None is = absurd (cc is)
passwords_turned None (Some other) is = absurd (cc is)
passwords_turned (Some one) None is = absurd (cc is)
passwords_turned (Some one) (Some other) is = elim (tell one other) [
  | alike _ same ↦ same_when other one (sym same)
  | unlike two _ ↦ absurd (let none : false ≡ true = sym two ∙ is in cc none)
]

abbrev verdict : Bool → Bool → Bool → Bool → Option Refusal
verdict one other one_part with_peers =
    if one && other then (if one_part || not with_peers then Some link_refused else None)
    else Some no_such_server

passes : (one other one_part with_peers : Bool)
    → one ≡ true → other ≡ true → one_part ≡ false → with_peers ≡ true
    → verdict one other one_part with_peers ≡ None
passes one other one_part with_peers a b c d =
    ap (λ x. verdict x other one_part with_peers) a
    ∙ ap (λ x. verdict true x one_part with_peers) b
    ∙ ap (λ x. verdict true true x with_peers) c
    ∙ ap (λ x. verdict true true false x) d

-- ---- two that are never both there

swap : (x y : Option Client) → (is_some x ≡ true → is_some y ≡ true → ⊥)
    → first_of x y ≡ first_of y x
swap None None apart = refl
swap None (Some d) apart = refl
swap (Some c) None apart = refl
swap (Some c) (Some d) apart = absurd (apart refl refl)

kept_some : (b : Bool) (o : Option Client) → is_some (cond b o None) ≡ true → is_some o ≡ true
kept_some true o there = there
kept_some false o there = absurd (let none : false ≡ true = there in cc none)

swap_lines : (one other : Hall) (x y : Option Client) → (is_some x ≡ true → is_some y ≡ true → ⊥)
    → meeting_lines one other x ++ meeting_lines other one y ≡ meeting_lines other one y
    ++ meeting_lines one other x
swap_lines one other None y apart = sym (append-nil (meeting_lines other one y))
swap_lines one other (Some c) None apart = append-nil (meeting_lines one other (Some c))
swap_lines one other (Some c) (Some d) apart = absurd (apart refl refl)

module _ (between : LinkBetweenParts) (even : MergeIsEven) (settings : List Setting) (world : World)
    (near far : Name)
    (sound : IsSound settings world) (taken : LinkIsTaken settings world near far) where
  abbrev there_link : Link
  there_link = record { near = near; far = far }

  abbrev back_link : Link
  back_link = record { near = far; far = near }

  apart : AreJoined world.links near far → ⊥
  apart = two_parts world.links near far taken.apart

  there : IsMade there_link world.links
  there = between there_link world.links sound.forest apart

  turned : IsMade back_link world.links
  turned = between back_link world.links sound.forest (λ one. apart (sym one))

  forth : (s t : Name) → AreJoined (there_link ∷ world.links) s t
      → AreJoined (back_link ∷ world.links) s t
  forth s t one = elim (there.meets s t one) [
    | within same ↦ (turned.kept s t same).joined
    | over to_near from_far ↦ turned.back_joined s t to_near from_far
    | back to_far from_near ↦ turned.over_joined s t to_far from_near
  ]

  home_again : (s t : Name) → AreJoined (back_link ∷ world.links) s t
      → AreJoined (there_link ∷ world.links) s t
  home_again s t one = elim (turned.meets s t one) [
    | within same ↦ (there.kept s t same).joined
    | over to_far from_near ↦ there.back_joined s t to_far from_near
    | back to_near from_far ↦ there.over_joined s t to_near from_far
  ]

  one_place : (client : ℕ) → is_some (get (world.hall near).clients client) ≡ true
      → is_some (get (world.hall far).clients client) ≡ true → ⊥
  one_place client here behind =
      let near_home = sound.clients_home near client here in
      let far_home = sound.clients_home far client behind in
      let one = same_Some near_home.home far_home.home (sym near_home.is_home ∙ far_home.is_home) in
      apart (sym near_home.joined ∙ (ap (part world.links) one ∙ far_home.joined))

  one_hall_of_both : merged (world.hall near) (world.hall far) ≡ merged (world.hall far)
      (world.hall near)
  one_hall_of_both =
      ap (λ room. record {
        clients = (merged (world.hall near) (world.hall far)).clients;
        room = room;
      })
      (even (world.hall near).room (world.hall far).room (sound.well_formed near)
      (sound.well_formed far))
      ∙ ap (λ clients. record {
        clients = clients;
        room = merge (world.hall far).room (world.hall near).room;
      })
      (same_clients (merged (world.hall near) (world.hall far)).clients
      (merged (world.hall far) (world.hall near)).clients (λ client.
      get-merged (world.hall near) (world.hall far) client
      ∙ swap (survivor (world.hall far).room (world.hall near).clients client)
      (survivor (world.hall near).room (world.hall far).clients client)
      (λ here behind. one_place client
      (kept_some (not (clashes_in (world.hall far).room (get (world.hall near).clients client)))
      (get (world.hall near).clients client) here)
      (kept_some (not (clashes_in (world.hall near).room (get (world.hall far).clients client)))
      (get (world.hall far).clients client) behind))
      ∙ sym (get-merged (world.hall far) (world.hall near) client)))

  abbrev there_world : World
  there_world = record world { links = there_link ∷ world.links }

  abbrev back_world : World
  back_world = record world { links = back_link ∷ world.links }

  same_hall : (s : Name)
      → (link_made world near far).state.hall s ≡ (link_made world far near).state.hall s
  same_hall s =
      hall_with (λ h. h ≡ (link_made world far near).state.hall s) near s
      (merged (world.hall near) (world.hall far)) there_world
      (λ here. hall_with (λ h. merged (world.hall near) (world.hall far) ≡ h) far s
      (merged (world.hall far) (world.hall near)) back_world
      (λ _. one_hall_of_both) (λ off. absurd (off (forth s far (here ∙ there.joined)))))
      (λ off. hall_with (λ h. world.hall s ≡ h) far s
      (merged (world.hall far) (world.hall near)) back_world
      (λ here. absurd (off (home_again s near (here ∙ turned.joined)))) (λ _. refl))

  linked_same : TurnedAreTheSame
      → AreTheSame settings (link_made world near far) (link_made world far near)
  linked_same turned_same =
      let both : AreTurned (there_link ∷ world.links) (back_link ∷ world.links) =
      (inr (refl, refl), itself_turned world.links) in
      record {
        worlds = record { links = both; homes = refl; hall = same_hall };
        looks = looks_same turned_same settings (link_made world near far).state
            (link_made world far near).state there.forest both;
        lines =
            λ client. swap_lines (world.hall near) (world.hall far)
            (get (world.hall near).clients client) (get (world.hall far).clients client)
            (one_place client);
      }

  taken_too : refused settings world (link far near) ≡ None
  unfolding refused
  taken_too = passes (is_server settings far) (is_server settings near)
      (joined world.links far near) (are_peers settings far near)
      taken.far_known taken.near_known
      (elim (tell (part world.links far) (part world.links near)) [
        | alike _ one ↦ absurd (apart (sym one))
        | unlike two _ ↦ two
      ])
      (passwords_turned (password_for settings near far)
      (password_for settings far near) taken.peers)

pub link_is_even : TurnedAreTheSame → LinkBetweenParts → MergeIsEven → LinkIsEven
unfolding step
link_is_even turned_same between even settings world near far sound is =
    let taken = link_taken settings world near far is in
    record {
      taken = taken_too between even settings world near far sound taken;
      same = linked_same between even settings world near far sound taken turned_same;
    }

-- ---- either may lose the link

link_turned : (links : List Link) (s t : Name) → AreLinked links s t → AreLinked links t s
link_turned [] s t are = are
link_turned (l ∷ ls) s t (inl (inl e)) = inl (inr e)
link_turned (l ∷ ls) s t (inl (inr e)) = inl (inl e)
link_turned (l ∷ ls) s t (inr older) = inr (link_turned ls s t older)

swap_leaving : (settings : List Setting) (left : List Link) (near far : Name)
    (one other : Room) (x y : Option Client) → (is_some x ≡ true → is_some y ≡ true → ⊥)
    → leaving_lines settings left near far one x ++ leaving_lines settings left far near other y
    ≡ leaving_lines settings left far near other y ++ leaving_lines settings left near far one x
swap_leaving settings left near far one other None y apart =
    sym (append-nil (leaving_lines settings left far near other y))
swap_leaving settings left near far one other (Some c) None apart =
    append-nil (leaving_lines settings left near far one (Some c))
swap_leaving settings left near far one other (Some c) (Some d) apart = absurd (apart refl refl)

-- who is on a side has its home there
on_side : (settings : List Setting) (world : World) (left : List Link) (one other : Name)
    (client : ℕ) → is_some (get (remaining settings world left one other).clients client) ≡ true
    → option_map_or (joined left one) (home_of world client) false ≡ true
on_side settings world left one other client there =
    was_kept (option_map_or (joined left one) (home_of world client) false)
    (get (world.hall one).clients client)
    (ap is_some (sym (get-kept (world.hall one).clients
    (λ c. option_map_or (joined left one) (home_of world c) false) client)) ∙ there)

two_sides : (left : List Link) (near far : Name) → (AreJoined left near far → ⊥)
    → (o : Option Name) → option_map_or (joined left near) o false ≡ true
    → option_map_or (joined left far) o false ≡ true → ⊥
two_sides left near far parted None here there = cc here
two_sides left near far parted (Some home) here there =
    parted (one_part left near home here ∙ sym (one_part left far home there))

module _ (settings : List Setting) (world : World) (near far : Name) (left : List Link)
    (is_left : IsLeft left world.links near far) where
  hall_turned : (s : Name) → (parted settings world left near far).state.hall s
      ≡ (parted settings world left far near).state.hall s
  hall_turned s = by (tell (part left s) (part left near)) (tell (part left s) (part left far))
    where
      chosen : (on_near on_far : Bool) → Hall
      chosen on_near on_far =
          if on_far then remaining settings world left far near
          else (if on_near then remaining settings world left near far else world.hall s)

      other_way : (on_near on_far : Bool) → Hall
      other_way on_near on_far =
          if on_near then remaining settings world left near far
          else (if on_far then remaining settings world left far near else world.hall s)

      by : Telling (part left s) (part left near) → Telling (part left s) (part left far)
          → (parted settings world left near far).state.hall s
          ≡ (parted settings world left far near).state.hall s
      by (alike _ here) (alike _ there) = absurd (is_left.parted (sym here ∙ there))
      by (alike here _) (unlike there _) =
          (λ i. chosen (here i) (there i)) ∙ sym (λ i. other_way (here i) (there i))
      by (unlike here _) (alike there _) =
          (λ i. chosen (here i) (there i)) ∙ sym (λ i. other_way (here i) (there i))
      by (unlike here _) (unlike there _) =
          (λ i. chosen (here i) (there i)) ∙ sym (λ i. other_way (here i) (there i))

  lines_turned : (client : ℕ) → (parted settings world left near far).out client
      ≡ (parted settings world left far near).out client
  lines_turned client =
      swap_leaving settings left near far (world.hall near).room (world.hall far).room
      (get (remaining settings world left near far).clients client)
      (get (remaining settings world left far near).clients client)
      (λ here there. two_sides left near far is_left.parted (home_of world client)
      (on_side settings world left near far client here)
      (on_side settings world left far near client there))

  parted_turned : TurnedAreTheSame → AreTheSame settings (parted settings world left near far)
      (parted settings world left far near)
  parted_turned turned_same = record {
    worlds = record { links = itself_turned left; homes = refl; hall = hall_turned };
    looks = looks_same turned_same settings (parted settings world left near far).state
        (parted settings world left far near).state is_left.forest
        (itself_turned left);
    lines = lines_turned;
  }

cut_too : TestsTell → (settings : List Setting) (world : World) (near far : Name)
    → (is_server settings near && is_server settings far) ≡ true → AreLinked world.links near far
    → refused settings world (cut far near) ≡ None
unfolding refused
cut_too tests settings world near far there are =
    (λ i. needs_servers settings far near (if (tests world.links far near near).2.1
    (link_turned world.links near far are) i then None else Some not_linked))
    ∙ ap (λ b. if b then None else Some no_such_server)
    (and_comm (is_server settings far) (is_server settings near) ∙ there)

both_there : (settings : List Setting) (world : World) (near far : Name) → refused settings world
    (cut near far) ≡ None → (is_server settings near && is_server settings far) ≡ true
unfolding refused
both_there settings world near far is =
    (if_taken (is_server settings near && is_server settings far) no_such_server
    (if are_linked world.links near far then None else Some not_linked) is).0

pub cut_is_even : TurnedAreTheSame → TakenOutEitherWay → TestsTell → LinkTakenOut → CutIsEven
unfolding step
cut_is_even turned_same either_way tests taken_out settings world near far sound is =
    let are = link_there tests settings world near far is in
    record {
      taken = cut_too tests settings world near far (both_there settings world near far is) are;
      same = subst (λ left. AreTheSame settings (parted settings world
          (links_without world.links near far) near far) (parted settings world left far near))
          (either_way world.links near far)
          (parted_turned settings world near far (links_without world.links near far)
          (taken_out world.links near far sound.forest are) turned_same);
    }
