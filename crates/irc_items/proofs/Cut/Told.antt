-- A link is lost: the lines by which one end tells its other neighbours say to each of them, in
-- turn, the loss of the servers that were behind the link.
use Rattle.std.proofs.Common.{◌≡◌, ◌≢◌, ℕ, ◌+◌, ◌≤◌, suc, Bool, true, false, not, ◌&&◌, ◌||◌}
use Rattle.std.proofs.Common.{is_some, Some, None, Ok, List, [], ◌∷◌, ◌++◌, codes, length}
use Rattle.std.proofs.Common.{length-append, lit≤, map, nat_eq, option_map, arith, refl, sym, ◌∙◌}
use Rattle.std.proofs.Common.{ap, subst, if◌then◌else◌}
use Rattle.std.proofs.lemmas.Bool.{eq-eqb, le-leb, or_right, and_from, or_parts}
use Rattle.std.specs.Prelude.{⊤}
use Rattle.std.specs.Cmp.{first_so, second_so}
use Rattle.std.specs.Cmp.Lexicographic.{bytes_decides}
use Rattle.std.specs.List.{list_any, AllByRecursion}
use Rattle.std.specs.Option.{option_map_or}
use Rattle.irc_names.specs.Lemmas.PlainFacts.{is_some-map}
use Rattle.irc_line.specs.Carried.{is_carried, is_carried_byte}
use Rattle.irc_line.specs.Messages.{IsPlain, Written, line_text, message_of}
use Rattle.irc_line.specs.Reading.{read_of}
use Rattle.irc_names.specs.Limits.{max_words}
use Rattle.irc_names.specs.Names.{IsServer, is_nick, is_server}
use Rattle.irc_names.specs.Spellings.{exactly_same}
use Rattle.irc_names.specs.Lemmas.RuleFacts.{server-fits}
use Rattle.irc_room.specs.Laws.{NamesAreLineWords}
use Rattle.irc_room.specs.Limits.{IsCarriedText}
use Rattle.irc_merge.specs.Deeds.{Deed, loses}
use Rattle.irc_merge.specs.Quits.{users_at}
use Rattle.irc_merge.specs.Split.{are_distinct}
use Rattle.irc_merge.specs.Lemmas.BooleanTests.{not_and}
use Rattle.irc_relay.specs.Distances.{IsAmong}
use Rattle.irc_relay.specs.Following.{Terms, Tells, nothing, by_line, all_done}
use Rattle.irc_relay.specs.Links.{Name, Link, joined, same, toward, AreJoined, AreLinked}
use Rattle.irc_relay.specs.Relay.{TakesFrom}
use Rattle.irc_relay.specs.Lemmas.TellingNames.{same_unless}
use Rattle.irc_relay.specs.Lemmas.LinkTakenOut.{tests_tell}
use Rattle.irc_routes.specs.declared.server_row.ServerRow.{ServerRow}
use Rattle.irc_routes.specs.Known.{Known, names_behind, is_itself, is_known, row_of}
use Rattle.irc_routes.specs.Known as of_known
use Rattle.irc_burst.specs.DeedsMeant.{a_deed, deeds_meant}
use Rattle.irc_burst.specs.HandshakeMeant.{handshake_meant}
use Rattle.irc_burst_lines.specs.DeedLines.{squit_parts}
use Rattle.irc_burst_lines.specs.Lemmas.WholeLines.{squit_fits}
use Rattle.irc_link_reader.specs.Reader.{Reader, reader_of, is_behind_link, may_come}
use Rattle.irc_link_words.specs.Words.{are_words}
use Rattle.irc_stage.specs.View.{View}
use Rattle.irc_server.specs.DeedTold.{losses, split_text}
use Rattle.irc_server.specs.Heard.{heard, of_met, opened, tells}
use Rattle.irc_readback.specs.Lemmas.LinesReadBack.{carried_no_nul, command_plain, from_plain}
use Rattle.irc_world.specs.World.{World}
use Rattle.irc_follow.specs.Tree.{shape_in}
use Rattle.irc_follow.specs.Fits.{Fits}
use Rattle.irc_follow.specs.Laws.{DoneStaysSound}
use Rattle.irc_follow.specs.SideState.{ItemSetting, SideState, done, info_in, number, IsItemSetting}
use Rattle.irc_follow.specs.SideState.{IsSoundSide}
use Rattle.irc_follow.specs.Says.{neighbour_served, machine, play, IsDoableLoss, IsFar, Says}
use Rattle.irc_follow.specs.Lemmas.CarriedLines.{squit_carried}
use Rattle.irc_follow.specs.Lemmas.Neighbours.{met_end, HasEnd, IsKnownOfLines}
use Rattle.irc_follow.specs.Lemmas.ServerLines.{all_so}
use Rattle.irc_follow.specs.Lemmas.EffectsReadNext.{link_of, shape_at}
use Rattle.irc_follow.specs.Lemmas.SaidDeed.{said_loses_fits}
use Rattle.irc_follow.specs.Lemmas.SaidEffect.{far_is_another}
use Rattle.irc_items.proofs.Cut.Home.{lost_beyond, lost_once, rest, IsCutAt}
use Rattle.irc_items.proofs.Cut.Home as of_cut
use Rattle.irc_items.proofs.Cut.Sides.{deeds_of_cut}
use Rattle.irc_items.proofs.Cut.LostUsersQuit.{quits_do, quits_keep}

-- ---- the text with which users quit is one that a line can carry

both_carried : (a b : List ℕ) → is_carried a ≡ true → is_carried b ≡ true
    → is_carried (a ++ b) ≡ true
both_carried [] b one other = other
both_carried (byte ∷ a) b one other =
    (λ i. first_so (is_carried_byte byte) (is_carried a) one i
    && both_carried a b (second_so (is_carried_byte byte) (is_carried a) one) other i)

text_size : (all near far : ℕ) → all ≡ near + suc far → near ≤ 63 → far ≤ 63 → all ≤ 160
text_size all near far is near_fits far_fits = omega arith

text_carried : NamesAreLineWords → (near far : List ℕ) → IsServer near → IsServer far
    → IsCarriedText (split_text near far)
text_carried names near far near_named far_named = record {
  fits = text_size (length (near ++ (codes " " ++ far))) (length near) (length far)
      (length-append near (codes " " ++ far)) (server-fits near near_named)
      (server-fits far far_named);
  carried = both_carried near (codes " " ++ far) (names.server near near_named).carried
      (names.server far far_named).carried;
}

-- ---- the line of a loss, by the server that is the source

module _ (known : IsKnownOfLines) (s : ItemSetting) (fixed : IsItemSetting s) (t u : Name)
    (w : SideState)
    (other : View) (next : TakesFrom s.streams u t)
    (reader : Fits s u w other) (name text : List ℕ) (doable : IsDoableLoss s w t name text) where
  sound : IsSoundSide s w
  sound = reader.sound

  u_linked : AreLinked w.tree.forest u t
  u_linked = sound.parents u t next

  t_among : IsAmong s.names t
  t_among = sound.tree.known_among t doable.by_server.known

  readers_end : HasEnd other (number s t) t
  readers_end = met_end other (number s t) t
      (reader.ends t t_among
      ∙ ap (λ b. if b then Some (if w.tree.knows t then Some t else None) else None)
      ((tests_tell w.tree.forest u t u).2.1 u_linked)
      ∙ ap (λ b. Some (if b then Some t else None)) doable.by_server.known)

  there_row : (x : Name) → w.tree.knows x ≡ true → x ≢ u → option_map (λ (r : ServerRow). r.link)
      (row_of other.routes x) ≡ Some (number s (toward w.tree.forest u x))
  there_row x is_known two =
      ap (λ routes. of_known.next_hop routes x) reader.routes
      ∙ link_of (row_of (w.tree.routes u) x) (shape_in s.names (info_in s.settings) w.tree.forest u
      x) (shape_at s w sound u x reader.here is_known two)

  behind_it : (x : Name) → w.tree.knows x ≡ true → IsFar s w x
      → is_behind_link other.routes (number s t) x ≡ true
  behind_it x is_known far =
      ap (λ o. option_map_or (nat_eq (number s t)) o false)
      (there_row x is_known (far_is_another s t u w other next reader x far)
      ∙ ap (λ n. Some (number s n)) (far u t reader.here next))
      ∙ eq-eqb (number s t) (number s t) refl

  abbrev far_reader : Reader
  far_reader = reader_of other.room other.routes (number s t)

  rule : (x : Name) → w.tree.knows x ≡ true → IsServer x
  rule x is_known = fixed.servers.named x (sound.tree.known_among x is_known)

  comes : may_come far_reader t ≡ true
  comes =
      ap (λ b. if b then is_behind_link other.routes (number s t) t
      else (if is_nick t then option_map_or (is_behind_link other.routes (number s t))
      (far_reader.home t) true else true)) (rule t doable.by_server.known)
      ∙ behind_it t doable.by_server.known doable.by_server.far

  abbrev parts : Written
  parts = squit_parts t name text

  plain : IsPlain parts
  plain = from_plain t (codes "SQUIT") (name ∷ []) (Some text)
      (known.names.server t (rule t doable.by_server.known)).plain
      (command_plain _ _ refl refl refl)
      ((known.names.server name (rule name doable.can.known)).plain, tt)
      (carried_no_nul text doable.by_server.told.carried) (lit≤ tt)

  short : are_words text ≡ true
  short = le-leb (length text) max_words doable.by_server.told.fits

  known_there : is_known other.routes name ≡ true
  known_there = or_right (is_itself other.routes name) (is_some (row_of other.routes name))
      (sym (is_some-map (λ (r : ServerRow). r.link) (row_of other.routes name))
      ∙ ap is_some (there_row name doable.can.known
      (far_is_another s t u w other next reader name doable.far)))

  meant : deeds_meant other.room other.routes (number s t) (message_of parts)
      ≡ Ok (a_deed (loses t name text) ∷ [])
  unfolding deeds_meant
  meant = all_so (are_words text) (may_come far_reader t
      && (not (is_known other.routes name) || is_behind_link other.routes (number s t) name))
      (is_server t && (is_server name && is_known other.routes name)) (loses t name text ∷ []) short
      (and_from (may_come far_reader t) (not (is_known other.routes name)
      || is_behind_link other.routes (number s t) name) comes
      (or_right (not (is_known other.routes name)) (is_behind_link other.routes (number s t) name)
      (behind_it name doable.can.known doable.far)))
      (and_from (is_server t) (is_server name && is_known other.routes name)
      (rule t doable.by_server.known)
      (and_from (is_server name) (is_known other.routes name)
      (rule name doable.can.known) known_there))

  line_back : read_of (line_text parts) ≡ Ok (message_of parts)
  line_back = sym (known.alone (line_text parts) (Ok (message_of parts))
      (known.written parts plain (squit_fits t name text (rule t doable.by_server.known)
      (rule name doable.can.known) short)))

  heard_so : heard other (number s t) readers_end.end (read_of (line_text parts))
      ≡ tells (a_deed (loses t name text) ∷ [])
  unfolding heard
  heard_so =
      ap (heard other (number s t) readers_end.end) line_back
      ∙ ap (λ o. if is_some o
      then of_met (deeds_meant other.room other.routes (number s t) (message_of parts))
      else opened other readers_end.end (handshake_meant (is_some readers_end.end.password)
      other.room other.routes (number s t) (message_of parts)))
      readers_end.named
      ∙ ap of_met meant

  pub loss_said : Says s t u w other (loses t name text) (line_text parts)
  loss_said = record {
    is_line = known.as_line parts (squit_carried known.names t (rule t doable.by_server.known) name
        text (rule name doable.can.known) doable.by_server.told);
    end = readers_end.end;
    is_end = readers_end.there;
    means = heard_so;
    doable = doable;
  }

-- ---- lines that say deeds in turn

-- Each line says its deed at its turn, where this is so of the side and the deed.
pub data SaysInTurn (s : ItemSetting) (p t : Name) (Q : SideState → Deed → Type 0) : SideState
    → View → List Deed
    → List (List ℕ) → Type 0 where
  says_none : {w : SideState} {view : View} → SaysInTurn s p t Q w view [] []
  says_first : {w : SideState} {view : View} {deed : Deed} {deeds : List Deed}
      {line : List ℕ} {lines : List (List ℕ)} → Q w deed → Says s p t w view deed line
      → SaysInTurn s p t Q (done s w deed) (neighbour_served s p view line).state deeds lines
      → SaysInTurn s p t Q w view (deed ∷ deeds) (line ∷ lines)

-- So they tell of the deeds, in whatever terms ask no more.
pub tells_in_turn : (s : ItemSetting) (client : ℕ) (p t : Name) (Q : SideState → Deed → Type 0)
    (x : Terms View (List ℕ) SideState Deed)
    → ((w : SideState) (view : View) (deed : Deed) (line : List ℕ)
    → Q w deed → Says s p t w view deed line → x.says p t w view deed line)
    → (w : SideState) (view : View) (deeds : List Deed) (lines : List (List ℕ))
    → SaysInTurn s p t Q w view deeds lines
    → Tells (machine s client) (play s client) x p t w view deeds lines
tells_in_turn s client p t Q x so w view [] [] says_none = nothing
tells_in_turn s client p t Q x so w view [] (line ∷ lines) never = elim never [ ]
tells_in_turn s client p t Q x so w view (deed ∷ deeds) [] never = elim never [ ]
tells_in_turn s client p t Q x so w view (deed ∷ deeds) (line ∷ lines) (says_first is said later) =
    by_line (so w view deed line is said) (tells_in_turn s client p t Q x so (done s w deed)
    (neighbour_served s p view line).state deeds lines later)

-- ---- the servers of one side are lost one by one on the other

abbrev pub IsLoss : Deed → Type 0
IsLoss (loses server name text) = ⊤
IsLoss other = ⊥

-- a moment of the side of a, of which no link is taken yet
pub record IsOfCut (links left : List Link) (a : Name) (w : SideState) : Type 0 where
  pub forest : w.tree.forest ≡ links
  pub here : (x : Name) → w.tree.here x ≡ joined left x a

pub record IsLossOfCut (links left : List Link) (a : Name) (w : SideState)
    (deed : Deed) : Type 0 where
  pub side : IsOfCut links left a w
  pub loss : IsLoss deed

-- What is known of the ways along which lines come to the side of a: it is told of each server on
-- the side of b.
pub record IsToldByEnd (s : ItemSetting) (world : World) (left : List Link)
    (a b : Name) : Type 0 where
  pub far : (t p x : Name) → AreJoined left t a → TakesFrom s.streams t p → AreJoined left x b
      → toward world.links t x ≡ p
  pub end_far : (t p : Name) → AreJoined left t a → TakesFrom s.streams t p
      → toward world.links t a ≡ p
  pub not_linked : (t p x : Name) → AreJoined left t a → TakesFrom s.streams t p
      → AreJoined left x b → AreLinked world.links t x → ⊥

-- a loss at its turn, which can be told where the side is sound
record IsNextLoss (s : ItemSetting) (links left : List Link) (a b : Name) (w : SideState)
    (name : Name) : Type 0 where
  side : IsOfCut links left a w
  doable : IsSoundSide s w → IsDoableLoss s w a name (split_text a b)

abbrev CanBeLost : ItemSetting → List Link → List Link → Name → Name → SideState → List Name
    → Type 0
CanBeLost s links left a b w [] = ⊤
CanBeLost s links left a b w (name ∷ names) =
    IsNextLoss s links left a b w name
    × CanBeLost s links left a b (done s w (loses a name (split_text a b))) names

module _ (known : IsKnownOfLines) {s : ItemSetting} {world : World} {routes : Name → Known}
    {left : List Link} {a b : Name} (cut : IsCutAt s world routes left a b)
    (ways : IsToldByEnd s world left a b) where
  abbrev text : List ℕ
  text = split_text a b

  here_joined : (w : SideState) → IsOfCut world.links left a w → (t : Name) → w.tree.here t ≡ true
      → AreJoined left t a
  here_joined w side t here = (tests_tell left t a t).1.0 (sym (side.here t) ∙ here)

  -- a loss can be told at its turn
  doable_loss : (w : SideState) (name : Name) → IsOfCut world.links left a w → IsSoundSide s w
      → w.tree.knows a ≡ true → w.tree.knows name ≡ true → AreJoined left name b
      → IsDoableLoss s w a name text
  doable_loss w name side sound knows_a knows_it beyond = record {
    by_server = record {
      known = knows_a;
      far = λ t p here takes. ap (λ links. toward links t a) side.forest
          ∙ ways.end_far t p (here_joined w side t here) takes;
      each = quits_do w.hall.room name text sound.well;
      within = quits_keep text (users_at name w.hall.room);
      told = text_carried known.names a b (rule a knows_a) (cut.fixed.servers.named b (ends_b));
    };
    can = record {
      known = knows_it;
      elsewhere = side.here name ∙ same_unless _ _ (λ e. (rest cut).parted (sym e ∙ beyond));
    };
    far = λ t p here takes. ap (λ links. toward links t name) side.forest
        ∙ ways.far t p name (here_joined w side t here) takes beyond;
    not_linked = λ t p here takes near.
        ways.not_linked t p name (here_joined w side t here) takes beyond
        (subst (λ links. AreLinked links t name) side.forest near);
  }
    where
      rule : (x : Name) → w.tree.knows x ≡ true → IsServer x
      rule x is = cut.fixed.servers.named x (sound.tree.known_among x is)

      ends_b : IsAmong s.names b
      ends_b = of_cut.b_among cut

  -- the others that are to be lost are known still
  known_still : (knows : Name → Bool) (name : Name) (names : List Name)
      → list_any (exactly_same name) names ≡ false → AllByRecursion (λ x. knows x ≡ true) names
      → AllByRecursion (λ x. (knows x && not (same x name)) ≡ true) names
  known_still knows name [] once all = tt
  known_still knows name (x ∷ names) once all =
      let parts = or_parts (exactly_same name x) (list_any (exactly_same name) names) once in (
        (λ i. all.0 i && not (same_unless x name (λ e. two parts.0 (sym e)) i)),
        known_still knows name names parts.1 all.1,
      )
    where
      two : exactly_same name x ≡ false → name ≢ x
      two other e = cc (sym other ∙ (bytes_decides name x).1 e)

  abbrev CanAll : SideState → List Name → Type 0
  CanAll w names = CanBeLost s world.links left a b w names

  can_in_turn : (names : List Name) (w : SideState) → IsOfCut world.links left a w
      → w.tree.knows a ≡ true → AllByRecursion (λ x. w.tree.knows x ≡ true) names
      → AllByRecursion (λ x. AreJoined left x b) names → are_distinct names ≡ true → CanAll w names
  unfolding done
  can_in_turn [] w side knows_a knows beyond once = tt
  can_in_turn (name ∷ names) w side knows_a knows beyond once =
      let parts = not_and (list_any (exactly_same name) names) (are_distinct names) once in (
        record {
          side = side;
          doable = λ sound. doable_loss w name side sound knows_a knows.0 beyond.0;
        },
        can_in_turn names (done s w (loses a name text))
            (record { forest = side.forest; here = side.here })
            (λ i. knows_a i && not (same_unless a name
            (λ e. (rest cut).parted (subst (λ v. AreJoined left v b) (sym e) beyond.0)) i))
            (known_still w.tree.knows name names parts.0 knows.1) beyond.1 parts.1,
      )

  all_can : (w : SideState) → IsOfCut world.links left a w → ((x : Name) → AreJoined world.links x a
      → w.tree.knows x ≡ true) → CanAll w (names_behind (routes a) (number s b))
  all_can w side knows =
      can_in_turn (names_behind (routes a) (number s b)) w side (knows a refl)
      (of_cut.all_so (λ x. AreJoined left x b) (λ x. w.tree.knows x ≡ true)
      (λ x on. knows x (of_cut.lost_joined cut x on))
      (names_behind (routes a) (number s b)) (lost_beyond cut)) (lost_beyond cut) (lost_once cut)

  module _ (u : Name) (next : TakesFrom s.streams u a) where
    abbrev AreSaid : SideState → View → List Name → Type 0
    AreSaid w other names = SaysInTurn s a u (IsLossOfCut world.links left a) w other
        (losses a b names) (map (λ x. line_text (squit_parts a x text)) names)

    said_along : (names : List Name) (w : SideState) (other : View) → CanAll w names
        → Fits s u w other → AreSaid w other names
    said_along [] w other can reader = says_none
    said_along (name ∷ names) w other can reader =
        let said = loss_said known s cut.fixed a u w other next reader name text
        (can.0.doable reader.sound) in
        says_first (record { side = can.0.side; loss = tt }) said
        (said_along names (done s w (loses a name text))
        (neighbour_served s a other (line_text (squit_parts a name text))).state can.1
        (said_loses_fits s a u w other next reader a name text
        (line_text (squit_parts a name text)) said))

    -- whoever fits the side that it is on is told of all of them
    pub said_to : (w : SideState) (other : View) → IsOfCut world.links left a w
        → ((x : Name) → AreJoined world.links x a → w.tree.knows x ≡ true) → Fits s u w other
        → SaysInTurn s a u (IsLossOfCut world.links left a) w other (deeds_of_cut s routes a b)
        (map (λ x. line_text (squit_parts a x text)) (names_behind (routes a) (number s b)))
    said_to w other side knows reader =
        said_along (names_behind (routes a) (number s b)) w other (all_can w side knows) reader

  -- ---- what they come to

  lost_along : DoneStaysSound → (names : List Name) (w : SideState) → CanAll w names
      → IsSoundSide s w → IsSoundSide s (all_done (play s 0) w (losses a b names))
  lost_along law [] w can sound = sound
  lost_along law (name ∷ names) w can sound =
      lost_along law names (done s w (loses a name text)) can.1
      (law s w (loses a name text) cut.fixed sound (can.0.doable sound))

  -- the side is sound once all of them are lost
  pub side_without : DoneStaysSound → (w : SideState) → IsOfCut world.links left a w
      → ((x : Name) → AreJoined world.links x a → w.tree.knows x ≡ true) → IsSoundSide s w
      → IsSoundSide s (all_done (play s 0) w (deeds_of_cut s routes a b))
  side_without law w side knows sound =
      lost_along law (names_behind (routes a) (number s b)) w (all_can w side knows) sound
