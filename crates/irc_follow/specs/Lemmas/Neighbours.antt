-- A server, the neighbour by whose line it is told of a deed, and another neighbour, which takes
-- its lines: the ends of the links between them, which servers are behind them, what a line is
-- heard as, and what is told on to all.
use Rattle.std.proofs.Common.{◌≡◌, ◌≢◌, ℕ, Bool, true, false, Option, Some, None, Ok, List}
use Rattle.std.proofs.Common.{[], ◌∷◌, ◌++◌, nat_eq, refl, sym, ◌∙◌, ap, map, filter, option_map}
use Rattle.std.proofs.Common.{is_some, if◌then◌else◌}
use Rattle.std.proofs.lemmas.Bool.{eqb-true, eq-eqb}
use Rattle.std.specs.FinMap.{get}
use Rattle.std.specs.Option.{option_map_or}
use Rattle.std.proofs.lemmas.Option.{same_Some}
use Rattle.irc_line.specs.Carried.{AreCarriedParts}
use Rattle.irc_line.specs.Laws.{IsReadSoAlone, WrittenIsLine, WrittenIsRead}
use Rattle.irc_line.specs.Messages.{IsPlain, Written, line_text, message_of}
use Rattle.irc_line.specs.Reading.{read_of}
use Rattle.irc_names.specs.Names.{is_nick, is_server}
use Rattle.irc_room.specs.Laws.{IsWhole, NamesAreLineWords}
use Rattle.irc_stage.specs.Ends.{End, Ends, is_met}
use Rattle.irc_stage.specs.Ways.{but, met_links}
use Rattle.irc_link_reader.specs.Reader.{Reader, reader_of, is_behind_link, may_come}
use Rattle.irc_merge.specs.Deeds.{Deed}
use Rattle.irc_relay.specs.Distances.{IsAmong}
use Rattle.irc_relay.specs.Links.{Name, toward, AreLinked}
use Rattle.irc_relay.specs.Relay.{TakesFrom}
use Rattle.irc_relay.specs.Lemmas.TellingNames.{same_unless}
use Rattle.irc_relay.specs.Lemmas.NextHops.{linked_back}
use Rattle.irc_relay.specs.Lemmas.LinkTakenOut.{tests_tell}
use Rattle.irc_routes.specs.declared.server_row.ServerRow.{ServerRow}
use Rattle.irc_routes.specs.Known.{row_of}
use Rattle.irc_routes.specs.Known as of_known
use Rattle.irc_burst.specs.DeedsMeant.{Told, deeds_meant}
use Rattle.irc_stage.specs.EffectTold.{Served}
use Rattle.irc_stage.specs.Linked.{told_on_all}
use Rattle.irc_stage.specs.View.{View}
use Rattle.irc_server.specs.Heard.{heard, of_met, tells}
use Rattle.irc_follow.specs.Tree.{shape_in}
use Rattle.irc_follow.specs.SideState.{ItemSetting, info_in, number, IsSoundSide}
use Rattle.irc_follow.specs.SideState as of_side
use Rattle.irc_follow.specs.Fits.{far_end, far_of, Fits}
use Rattle.irc_follow.specs.Laws.{GoesOn, told}
use Rattle.irc_follow.specs.Says.{neighbour_served, lines_on, machine, saying, IsDoable, IsFar}
use Rattle.irc_follow.specs.Lemmas.LinesOnLinks.{among_met, but_another, lines_behind, on_these}
use Rattle.irc_follow.specs.Lemmas.PlacesOfNames.{one_place}
use Rattle.irc_follow.specs.Lemmas.EffectsReadNext.{link_of, shape_at}
use Rattle.irc_follow.specs.Lemmas.SaidEffect.{far_is_another}
use Rattle.irc_follow.specs.Lemmas.ServerLines.{line_heard}

-- what is known of lines and names in the crates below
pub record IsKnownOfLines : Type 0 where
  pub written : WrittenIsRead
  pub alone : IsReadSoAlone
  pub as_line : WrittenIsLine
  pub names : NamesAreLineWords

-- the end of a link to a server that has named itself
pub record HasEnd (view : View) (k : ℕ) (far : Name) : Type 0 where
  pub end : End
  pub there : get view.ends k ≡ Some end
  pub named : end.far ≡ Some far

pub met_end : (view : View) (k : ℕ) (far : Name)
    → option_map far_of (get view.ends k) ≡ Some (Some far) → HasEnd view k far
met_end view k far is = by (get view.ends k) refl is
  where
    by : (o : Option End) → get view.ends k ≡ o → option_map far_of o ≡ Some (Some far)
        → HasEnd view k far
    by None there none = cc none
    by (Some end) there some =
        record { end = end; there = there; named = same_Some end.far (Some far) some }

pub but_none : (links : List ℕ) → but None links ≡ links
but_none [] = refl
but_none (link ∷ links) = ap (λ l. link ∷ l) (but_none links)

module _ (s : ItemSetting) (p t u : Name) (w : of_side.SideState) (view other : View)
    (takes : TakesFrom s.streams t p) (next : TakesFrom s.streams u t) (apart : u ≢ p)
    (writer : Fits s t w view) (reader : Fits s u w other) where
  sound : IsSoundSide s w
  sound = writer.sound

  pub u_linked : AreLinked w.tree.forest u t
  u_linked = sound.parents u t next

  pub t_among : IsAmong s.names t
  t_among = sound.tree.known_among t (sound.tree.here_known t writer.here)

  pub u_among : IsAmong s.names u
  u_among = sound.tree.known_among u (sound.tree.here_known u reader.here)

  pub p_among : IsAmong s.names p
  p_among = sound.tree.ends p t (linked_back w.tree.forest t p (sound.parents t p takes))

  -- ---- the ends of the link between them

  far_met : (x y : Name) → AreLinked w.tree.forest x y → w.tree.knows y ≡ true
      → far_end w x y ≡ Some (Some y)
  far_met x y there known =
      ap (λ b. if b then Some (if w.tree.knows y then Some y else None) else None)
      ((tests_tell w.tree.forest x y x).2.1 there)
      ∙ ap (λ b. Some (if b then Some y else None)) known

  pub readers_end : HasEnd other (number s t) t
  readers_end = met_end other (number s t) t (reader.ends t t_among
      ∙ far_met u t u_linked (sound.tree.here_known t writer.here))

  pub writers_end : HasEnd view (number s u) u
  writers_end = met_end view (number s u) u
      (writer.ends u u_among ∙ far_met t u (linked_back w.tree.forest u t u_linked)
      (sound.tree.here_known u reader.here))

  pub not_back : nat_eq (number s p) (number s u) ≡ false
  not_back = by (nat_eq (number s p) (number s u)) refl
    where
      by : (b : Bool) → nat_eq (number s p) (number s u) ≡ b → b ≡ false
      by false is = refl
      by true is = absurd
          (apart (sym (one_place s.names p u p_among (eqb-true (number s p) (number s u) is))))

  all_of : (ends : Ends) → get ends (number s u) ≡ get view.ends (number s u)
      → filter (λ n. nat_eq n (number s u)) (met_links ends) ≡ number s u ∷ []
  all_of ends same_end =
      among_met (number s u) ends
      ∙ ap (λ o. if option_map_or is_met o false then number s u ∷ [] else [])
      (same_end ∙ writers_end.there)
      ∙ ap (λ o. if is_some o then number s u ∷ [] else []) writers_end.named

  pub to_all : filter (λ n. nat_eq n (number s u)) (met_links view.ends) ≡ number s u ∷ []
  to_all = all_of view.ends refl

  -- what is told to all, whether it goes back or not, goes to this one
  pub told_all : (back : Bool) (parts : Written) (before : Served)
      → get before.state.ends (number s u) ≡ get view.ends (number s u) → lines_on (number s u)
      (told_on_all (if back then None else Some (number s p)) parts before).out
      ≡ lines_on (number s u) before.out ++ (line_text parts ∷ [])
  told_all back parts before ends =
      let arrival = if back then None else Some (number s p) in
      lines_behind (number s u) before.out _
      ∙ ap (λ l. lines_on (number s u) before.out ++ l)
      (on_these (number s u) (but arrival (met_links before.state.ends)) parts
      ∙ ap (map (λ _. line_text parts)) (by back ∙ all_of before.state.ends ends))
    where
      by : (b : Bool) → filter (λ n. nat_eq n (number s u))
          (but (if b then None else Some (number s p)) (met_links before.state.ends))
          ≡ filter (λ n. nat_eq n (number s u)) (met_links before.state.ends)
      by true = ap (filter (λ n. nat_eq n (number s u))) (but_none (met_links before.state.ends))
      by false = but_another (number s u) (number s p) not_back (met_links before.state.ends)

  -- ---- who is behind it

  pub there_row : (x : Name) → w.tree.knows x ≡ true → x ≢ u → option_map (λ (r : ServerRow).
      r.link) (row_of other.routes x) ≡ Some (number s (toward w.tree.forest u x))
  there_row x known two =
      ap (λ routes. of_known.next_hop routes x) reader.routes
      ∙ link_of (row_of (w.tree.routes u) x) (shape_in s.names
      (info_in s.settings) w.tree.forest u x) (shape_at s w sound u x reader.here known two)

  pub is_behind : (x : Name) → w.tree.knows x ≡ true → toward w.tree.forest u x ≡ t → x ≢ u
      → is_behind_link other.routes (number s t) x ≡ true
  is_behind x known way two =
      ap (λ o. option_map_or (nat_eq (number s t)) o false)
      (there_row x known two ∙ ap (λ n. Some (number s n)) way)
      ∙ eq-eqb (number s t) (number s t) refl

  pub far_behind : (x : Name) → w.tree.knows x ≡ true → IsFar s w x
      → is_behind_link other.routes (number s t) x ≡ true
  far_behind x known far =
      is_behind x known (far u t reader.here next) (far_is_another s t u w other next reader x far)

  abbrev pub far_reader : Reader
  far_reader = reader_of other.room other.routes (number s t)

  pub server_may_come : (x : Name) → is_server x ≡ true
      → is_behind_link other.routes (number s t) x ≡ true → may_come far_reader x ≡ true
  server_may_come x named behind =
      ap (λ b. if b then is_behind_link other.routes (number s t) x
      else (if is_nick x then option_map_or (is_behind_link other.routes (number s t))
      (far_reader.home x) true else true)) named
      ∙ behind

  -- ---- what a line is heard as

  module _ (known : IsKnownOfLines) (parts : Written) (plain : IsPlain parts)
      (whole : IsWhole parts) where
    heard_so : (said : List Told)
        → deeds_meant other.room other.routes (number s t) (message_of parts) ≡ Ok said
        → heard other (number s t) readers_end.end (read_of (line_text parts)) ≡ tells said
    heard_so said meant =
        line_heard known.written known.alone other (number s t) readers_end.end parts plain whole
        (ap is_some readers_end.named) ∙ ap of_met meant

    -- one line goes there, and says the deed
    pub goes_on : AreCarriedParts parts → (deed : Deed) (said : List Told) (line : List ℕ)
        (client : ℕ) → saying s w t u deed ≡ tells said → deeds_meant other.room other.routes
        (number s t) (message_of parts) ≡ Ok said → IsDoable s w deed
        → lines_on (number s u) (neighbour_served s p view line).out ≡ line_text parts ∷ []
        → GoesOn s t u w other deed ((machine s client).sends t p view line u)
    goes_on carried deed said line client saying_is meant doable lines = told (line_text parts)
        (ap (λ b. if b then [] else lines_on (number s u) (neighbour_served s p view line).out)
        (same_unless u p apart) ∙ lines)
        (record {
          is_line = known.as_line parts carried;
          end = readers_end.end;
          is_end = readers_end.there;
          means = heard_so said meant ∙ sym saying_is;
          doable = doable;
        })
