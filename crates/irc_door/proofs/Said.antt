-- What is said to clients closes nobody: whom a machine closes its door closes.
use Rattle.std.proofs.Common.{◌≡◌, ℕ, Bool, false, not, ◌&&◌, ◌||◌, Option, List, [], ◌∷◌}
use Rattle.std.proofs.Common.{◌++◌}
use Rattle.std.proofs.Common.{refl, sym, ◌∙◌, ap, subst}
use Rattle.std.specs.List.{list_any}
use Rattle.std.proofs.lemmas.List.Folds.{list_any-append}
use Rattle.irc_batch.specs.Batches.{Sent, end_of, end_of_link, line_on, line_to}
use Rattle.irc_stage.specs.View.{View}
use Rattle.irc_server.specs.declared.event.Event.{Event}
use Rattle.irc_server.specs.Connected.{client_comes, client_goes, ends_client, ends_link}
use Rattle.irc_server.specs.Connected.{has_client, has_link, is_client_ended, is_link_ended}
use Rattle.irc_server.specs.Connected.{is_there_after, link_comes, link_goes}
use Rattle.irc_server.specs.ReadEvents.{read_event_of}
use Rattle.irc_engine.specs.Machines.{AreConnectedBy, AreStillConnected, IsConnectedBy}
use Rattle.irc_engine.specs.Machines.{IsStillConnected}
use Rattle.irc_door.specs.declared.manner.Manner.{Manner}
use Rattle.irc_door.specs.Capabilities.{Asked}
use Rattle.irc_door.specs.Doors.{said, said_by, to_client}
use Rattle.irc_door.specs.Manners.{written_to}

-- of a test that no line to a client passes
module _ (test : Sent → Bool) (none : (conn : ℕ) (line : List ℕ) → test (line_to conn line) ≡ false)
  where
    lines_fail : (conn : ℕ) (lines : List (List ℕ)) → list_any test (to_client conn lines) ≡ false
    lines_fail conn [] = refl
    lines_fail conn (line ∷ lines) =
        ap (λ b. b || list_any test (to_client conn lines)) (none conn line)
        ∙ lines_fail conn lines

    one_kept : (manner : Manner) (asked : Option Asked) (sent : Sent)
        → list_any test (said manner asked sent) ≡ list_any test (sent ∷ [])
    one_kept manner asked (line_to conn line) = lines_fail conn (written_to manner asked conn line)
        ∙ sym (ap (λ b. b || false) (none conn line))
    one_kept manner asked (end_of conn) = refl
    one_kept manner asked (line_on link line) = refl
    one_kept manner asked (end_of_link link reason) = refl

    pub said_kept : (manner : Manner) (asked : Option Asked) (outs : List Sent)
        → list_any test (said_by manner asked outs) ≡ list_any test outs
    said_kept manner asked [] = refl
    said_kept manner asked (sent ∷ outs) =
        list_any-append test (said manner asked sent) (said_by manner asked outs)
        ∙ (λ i. one_kept manner asked sent i || said_kept manner asked outs i)
        ∙ sym (list_any-append test (sent ∷ []) outs)

client_said : (manner : Manner) (asked : Option Asked) (outs : List Sent) (conn : ℕ)
    → is_client_ended conn (said_by manner asked outs) ≡ is_client_ended conn outs
client_said manner asked outs conn = said_kept (ends_client conn) (λ c line. refl) manner asked outs

link_said : (manner : Manner) (asked : Option Asked) (outs : List Sent) (link : ℕ)
    → is_link_ended link (said_by manner asked outs) ≡ is_link_ended link outs
link_said manner asked outs link = said_kept (ends_link link) (λ c line. refl) manner asked outs

-- ---- by an event

said_of : (event : Event) (manner : Manner) (asked : Option Asked) (was new : View)
    (outs : List Sent) → AreConnectedBy was (read_event_of event) outs new
    → AreConnectedBy was (read_event_of event) (said_by manner asked outs) new
said_of event manner asked was new outs by = record {
  clients = λ q. by.clients q
      ∙ ap (is_there_after (has_client was q) (client_comes q (read_event_of event))
      (client_goes q (read_event_of event))) (sym (client_said manner asked outs q));
  links = λ q. by.links q
      ∙ ap (is_there_after (has_link was q) (link_comes q (read_event_of event))
      (link_goes q (read_event_of event))) (sym (link_said manner asked outs q));
  clients_were_there = λ q ended. by.clients_were_there q
      (sym (client_said manner asked outs q) ∙ ended);
  links_were_there = λ q ended. by.links_were_there q (sym (link_said manner asked outs q) ∙ ended);
}

pub connected_said : (event : Event) (manner : Manner) (asked : Option Asked) (server after :
    Option View)
    (held outs before end : List Sent) → held ≡ [] → IsConnectedBy server event held after outs
    → end ≡ before ++ said_by manner asked outs → IsConnectedBy server event before after end
connected_said event manner asked server after held outs before end none by is = record {
  outs = said_by manner asked outs;
  after_is = is;
  connected = λ behind is_behind.
      let was = by.connected behind is_behind in (
        was.0,
        was.1,
        said_of event manner asked was.0 behind outs
            (subst (λ x. AreConnectedBy was.0 (read_event_of event) x behind)
            (sym (by.after_is ∙ ap (λ h. h ++ by.outs) none)) was.2),
      );
}

-- ---- by what is due

still_of : (manner : Manner) (asked : Option Asked) (was new : View) (outs : List Sent)
    → AreStillConnected was outs new → AreStillConnected was (said_by manner asked outs) new
still_of manner asked was new outs by = record {
  clients = λ q. by.clients q
      ∙ ap (λ t. has_client was q && not t) (sym (client_said manner asked outs q));
  links = λ q. by.links q ∙ ap (λ t. has_link was q && not t) (sym (link_said manner asked outs q));
  clients_were_there = λ q ended. by.clients_were_there q
      (sym (client_said manner asked outs q) ∙ ended);
  links_were_there = λ q ended. by.links_were_there q (sym (link_said manner asked outs q) ∙ ended);
}

pub still_said : (manner : Manner) (asked : Option Asked) (server after : Option View)
    (held outs before end : List Sent) → held ≡ [] → IsStillConnected server held after outs
    → end ≡ before ++ said_by manner asked outs → IsStillConnected server before after end
still_said manner asked server after held outs before end none by is = record {
  outs = said_by manner asked outs;
  after_is = is;
  connected = λ behind is_behind.
      let was = by.connected behind is_behind in (
        was.0,
        was.1,
        still_of manner asked was.0 behind outs
            (subst (λ x. AreStillConnected was.0 x behind)
            (sym (by.after_is ∙ ap (λ h. h ++ by.outs) none)) was.2),
      );
}

-- nothing is said of nothing
pub said_nothing : (manner : Manner) (asked : Option Asked) (outs : List Sent) → outs ≡ []
    → said_by manner asked outs ≡ []
said_nothing manner asked outs none = ap (said_by manner asked) none
