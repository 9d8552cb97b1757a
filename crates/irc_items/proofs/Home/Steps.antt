-- What is decided of a client's line, step by step, at its server and at the room machine of the
-- server's part.
use Rattle.std.proofs.Common.{◌≡◌, ℕ, Bool, true, false, cond, Option, Some, None, List, [], ◌∷◌}
use Rattle.std.proofs.Common.{◌++◌, refl, sym, ◌∙◌, ap, subst, nat_eq, if◌then◌else◌}
use Rattle.std.proofs.lemmas.Bool.{eqb-true}
use Rattle.std.specs.FinMap.{get}
use Rattle.std.specs.List.{cons_option}
use Rattle.irc_names.specs.Fold.{key}
use Rattle.irc_batch.specs.Batches.{Sent, end_of, line_to}
use Rattle.irc_numerics.specs.Replies.{reply_text}
use Rattle.irc_room.specs.InTurn.{EachInTurn}
use Rattle.irc_room.specs.Invitations.{of_home}
use Rattle.irc_acts.specs.declared.act.Act.{Act}
use Rattle.irc_acts.specs.declared.act.Act.TheVariants.{Answer, Raw, Do}
use Rattle.irc_acts.specs.Acts.{effects_among}
use Rattle.irc_relay.specs.Links.{Name}
use Rattle.irc_stage.specs.declared.clients.Client.{Client}
use Rattle.irc_stage.specs.declared.clients.Client.TheVariants.{Registered}
use Rattle.irc_stage.specs.ClientTold.{closed_told, seated, step_told, steps_told, unseated}
use Rattle.irc_stage.specs.EffectTold.{Served, effect_told, in_silence, with_sent}
use Rattle.irc_stage.specs.Handle.{Handled, all_stepped, closing, stepped, unchanged, with_effect}
use Rattle.irc_stage.specs.RoomMachine.{RoomMachine, with_client, without_client}
use Rattle.irc_stage.specs.View.{View}
use Rattle.irc_stage.specs.Lemmas.Numbers.{get-with, get-without, same_number}
use Rattle.irc_server.specs.Owed.{lines_to}
use Rattle.irc_follow.specs.Lemmas.SaidEffectShown.{lines_behind}
use Rattle.irc_items.specs.GoodLines.{closings}
use Rattle.irc_items.proofs.Home.Clients.{staying_with, staying_without}
use Rattle.irc_items.proofs.Home.Users.{IsHomeRoom, IsOwnAt, IsOwnStep, home_room_after}
use Rattle.irc_items.proofs.Home.Effects.{AreOneAt, KnowsWays, both_here, closings_behind}
use Rattle.irc_items.proofs.Home.Effects.{effect_so, view_in}

module _ (t : Name) (stays : ℕ → Bool) (start : View) where
  abbrev IsOne : Handled → Served → Type 0
  IsOne h v = AreOneAt t stays start h v

  nothing_either : (b : Bool) → ◌≡◌ {A = List (List ℕ)} [] (cond b [] [])
  nothing_either true = refl
  nothing_either false = refl

  pub begins_so : (machine : RoomMachine) (view : View) → view ≡ view_in t stays start machine
      → IsOne (unchanged machine) (in_silence view)
  begins_so machine view is =
      record { state = is; told = λ who. nothing_either (stays who); closes_none = refl }

  -- ---- something more is put out, to a client that stays here

  sent_so : (sent : List Sent) → closings sent ≡ []
      → ((who : ℕ) → lines_to who sent ≡ cond (stays who) (lines_to who sent) []) → (h : Handled)
      (v : Served) → IsOne h v → IsOne (record h { out = h.out ++ sent }) (with_sent sent v)
  sent_so sent none here h v one = record {
    state = one.state;
    told = λ who.
        lines_behind who v.out sent
        ∙ (λ i. one.told who i ++ here who i)
        ∙ both_here (stays who) (lines_to who h.out) (lines_to who sent)
        ∙ ap (λ l. cond (stays who) l []) (sym (lines_behind who h.out sent));
    closes_none = closings_behind v.out sent one.closes_none ∙ none;
  }

  module _ (conn : ℕ) (mine : stays conn ≡ true) where
    line_here : (line : List ℕ) (who : ℕ) → lines_to who (line_to conn line ∷ [])
        ≡ cond (stays who) (lines_to who (line_to conn line ∷ [])) []
    line_here line who = by (stays who) refl
      where
        not_it : (b : Bool) → nat_eq conn who ≡ b → stays who ≡ false → b ≡ false
        not_it true is away = cc (sym mine ∙ ap stays (eqb-true conn who is) ∙ away)
        not_it false is away = refl

        by : (b : Bool) → stays who ≡ b → lines_to who (line_to conn line ∷ [])
            ≡ cond b (lines_to who (line_to conn line ∷ [])) []
        by true here = refl
        by false away = ap (λ b. cons_option (if b then Some line else None) [])
            (not_it (nat_eq conn who) refl away)

    line_so : (line : List ℕ) (h : Handled) (v : Served) → IsOne h v → IsOne
        (record h { out = h.out ++ line_to conn line ∷ [] }) (with_sent (line_to conn line ∷ []) v)
    line_so line = sent_so (line_to conn line ∷ []) refl (line_here line)

    -- ---- a client comes or goes

    pub seated_view : (machine : RoomMachine) (client : Client) (view : View)
        → view ≡ view_in t stays start machine
        → seated conn client view ≡ view_in t stays start (with_client machine conn client)
    seated_view machine client view is =
        ap (seated conn client) is
        ∙ (λ i. record start {
          clients = staying_with stays machine.clients conn client mine i;
          room = of_home t machine.room;
        })

    pub unseated_view : (machine : RoomMachine) (view : View) → view ≡ view_in t stays start machine
        → unseated conn view ≡ view_in t stays start (without_client machine conn)
    unseated_view machine view is =
        ap (unseated conn) is ∙ (λ i. record start {
          clients =
              staying_without stays machine.clients conn i;
          room = of_home t machine.room;
        })

    close_so : (close : Bool) (h : Handled) (v : Served) → IsOne h v
        → IsOne (closing close conn h) (closed_told close conn v)
    close_so true h v one =
        sent_so (end_of conn ∷ []) refl (λ who. nothing_either (stays who))
        (record { state = without_client h.state conn; out = h.out })
        (record { state = unseated conn v.state; out = v.out })
        (record {
          state = unseated_view h.state v.state one.state;
          told = one.told;
          closes_none = one.closes_none;
        })
    close_so false h v one = one

    module _ (knows : Name → Bool) where
      pub seated_room : (machine : RoomMachine) (client : Client)
          → ((nick : List ℕ) → client ≡ Registered nick → IsOwnAt t machine.room.users (key nick))
          → IsHomeRoom t stays knows machine
          → IsHomeRoom t stays knows (with_client machine conn client)
      seated_room machine client own is = record {
        well = is.well;
        at_known = is.at_known;
        own = λ q nick here there. by q nick here (same_number q conn)
            (sym (get-with machine.clients conn client q) ∙ there);
      }
        where
          by : (q : ℕ) (nick : List ℕ) → stays q ≡ true → (b : Bool)
              → cond b (Some client) (get machine.clients q) ≡ Some (Registered nick)
              → IsOwnAt t machine.room.users (key nick)
          by q nick here true there = own nick (cc there)
          by q nick here false there = is.own q nick here there

      pub unseated_room : (machine : RoomMachine) → IsHomeRoom t stays knows machine
          → IsHomeRoom t stays knows (without_client machine conn)
      unseated_room machine is = record {
        well = is.well;
        at_known = is.at_known;
        own = λ q nick here there. by q nick here (same_number q conn)
            (sym (get-without machine.clients conn q) ∙ there);
      }
        where
          by : (q : ℕ) (nick : List ℕ) → stays q ≡ true → (b : Bool)
              → cond b None (get machine.clients q) ≡ Some (Registered nick)
              → IsOwnAt t machine.room.users (key nick)
          by q nick here true there = absurd (cc there)
          by q nick here false there = is.own q nick here there

      -- ---- steps in turn

      module _ (here : knows t ≡ true) (ways : KnowsWays t stays start knows) where
        answer_so : (name : Option (List ℕ)) (act : Act) (h : Handled) (v : Served)
            → start.routes.name ≡ h.state.place.name → effects_among (act ∷ []) ≡ [] → IsOne h v
            → IsOne (stepped conn name act h) (step_told conn name act v)
        answer_so name (Answer reply) h v named none one =
            subst (λ (own : List ℕ). IsOne (stepped conn name (Answer reply) h)
            (with_sent (line_to conn (reply_text own name reply) ∷ []) v))
            (sym (ap (λ (view : View). view.routes.name) one.state ∙ named))
            (line_so (reply_text h.state.place.name name reply) h v one)
        answer_so name (Raw line) h v named none one = line_so line.items h v one
        answer_so name (Do effect) h v named none one = absurd (cc none)

        steps_so : (name : Option (List ℕ)) (acts : List Act) (h : Handled) (v : Served)
            → start.routes.name ≡ h.state.place.name → IsHomeRoom t stays knows h.state
            → EachInTurn (IsOwnStep t) h.state.room (effects_among acts) → IsOne h v
            → IsOne (all_stepped conn name acts h) (steps_told conn name acts v)
        steps_so name [] h v named is steps one = one
        steps_so name (Answer reply ∷ acts) h v named is steps one =
            steps_so name acts (stepped conn name (Answer reply) h)
            (step_told conn name (Answer reply) v) named is steps
            (answer_so name (Answer reply) h v named refl one)
        steps_so name (Raw line ∷ acts) h v named is steps one =
            steps_so name acts (stepped conn name (Raw line) h)
            (step_told conn name (Raw line) v) named is steps
            (answer_so name (Raw line) h v named refl one)
        steps_so name (Do effect ∷ acts) h v named is steps one =
            steps_so name acts (with_effect effect h) (effect_told None effect v) named
            (home_room_after t stays knows h.state effect here is steps.now) steps.later
            (effect_so t stays start knows ways h v effect is steps.now one)

        pub carried_so : (close : Bool) (name : Option (List ℕ)) (acts : List Act)
            (machine : RoomMachine) (view : View) → view ≡ view_in t stays start machine
            → start.routes.name ≡ machine.place.name → IsHomeRoom t stays knows machine
            → EachInTurn (IsOwnStep t) machine.room (effects_among acts)
            → IsOne (closing close conn (all_stepped conn name acts (unchanged machine)))
            (closed_told close conn (steps_told conn name acts (in_silence view)))
        carried_so close name acts machine view same named is steps =
            close_so close (all_stepped conn name acts (unchanged machine))
            (steps_told conn name acts (in_silence view))
            (steps_so name acts (unchanged machine) (in_silence view) named is steps
            (begins_so machine view same))
