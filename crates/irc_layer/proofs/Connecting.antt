-- Who is connected to the server of a layer.
use Rattle.std.proofs.Common.{◌≡◌, ℕ, true, Option, Some}
use Rattle.std.proofs.Common.{List, [], ◌∷◌, ◌++◌, refl, sym, ◌∙◌, ap}
use Rattle.std.proofs.Common.{subst, OnOk, Result, Ok, Err}
use Rattle.arrayvec.specs.ArrayVec.{ArrayVec}
use Rattle.irc_batch.specs.declared.close_reason.CloseReason.{CloseReason}
use Rattle.irc_batch.specs.Batches.{Sent, end_of_link}
use Rattle.irc_stage.specs.View.{View}
use Rattle.irc_server.specs.declared.event.Event.{Event}
use Rattle.irc_server.specs.declared.event.Event.TheVariants.{LinkLine, LinkDown}
use Rattle.irc_server.specs.Connected.{client_comes, client_goes, ends_client, ends_link}
use Rattle.irc_server.specs.Connected.{has_client}
use Rattle.irc_server.specs.Connected.{has_link, is_there_after}
use Rattle.irc_server.specs.Connected.{link_comes, link_goes}
use Rattle.irc_server.specs.ReadEvents.{read_event_of}
use Rattle.irc_engine.specs.Machines.{AreConnectedBy, IsConnectedBy}
use Rattle.irc_engine.specs.Machines.{IsStillConnected}
use Rattle.irc_engine.specs.Lemmas.Layers.{connected_shut}
use Rattle.irc_engine.specs.Lemmas.Stills.{connected_on, event_by_still, nobody_goes_by}
use Rattle.irc_engine.specs.Lemmas.Stills.{still_by_event}
use Rattle.irc_layer.specs.declared.end.Cause.{Cause}
use Rattle.irc_layer.specs.declared.end.End.{End}
use Rattle.irc_layer.specs.Ends.{Ends}
use Rattle.irc_layer.specs.Putting.{all_put, count_at}
use Rattle.irc_layer.proofs.Kept.{all_kept, count_at_fails}

-- ---- by a line of a link

module _ (link : ℕ) (line : ArrayVec ℕ) where
  pub still_by_line : (server after : Option View) (before end : List Sent)
      → IsConnectedBy server (LinkLine link line) before after end
      → IsStillConnected server before after end
  still_by_line = still_by_event (LinkLine link line) (λ q. refl) (λ q. refl) (λ q. refl)
      (λ q. refl)

  pub line_by_still : (server after : Option View) (before end : List Sent)
      → IsStillConnected server before after end
      → IsConnectedBy server (LinkLine link line) before after end
  line_by_still = event_by_still (LinkLine link line) (λ q. refl) (λ q. refl) (λ q. refl)
      (λ q. refl)

  -- it is told that the link is lost, which is closed behind that
  pub still_shut : (reason : CloseReason) (server after : Option View) (before mid : List Sent)
      → ((was : View) → server ≡ Some was → has_link was link ≡ true)
      → IsConnectedBy server (LinkDown link) before after mid
      → IsStillConnected server before after (mid ++ end_of_link link reason ∷ [])
  still_shut reason server after before mid there down =
      still_by_line server after before (mid ++ end_of_link link reason ∷ [])
      (connected_shut link line reason server after before mid there down)

-- ---- what the server puts out is put out by the layer

put_by : (event : Event) (cause : Cause) (ends : Ends) (was new : View) (x : List Sent)
    → AreConnectedBy was (read_event_of event) x new
    → AreConnectedBy was (read_event_of event) (all_put cause x ends) new
put_by event cause ends was new x by = record {
  clients = λ q. by.clients q
      ∙ ap (λ t. is_there_after (has_client was q) (client_comes q (read_event_of event))
      (client_goes q (read_event_of event)) t)
      (sym (all_kept (ends_client q) (λ l y. refl) cause x ends));
  links = λ q. by.links q
      ∙ ap (λ t. is_there_after (has_link was q) (link_comes q (read_event_of event))
      (link_goes q (read_event_of event)) t)
      (sym (all_kept (ends_link q) (λ l y. refl) cause x ends));
  clients_were_there = λ q ended. by.clients_were_there q
      (sym (all_kept (ends_client q) (λ l y. refl) cause x ends) ∙ ended);
  links_were_there = λ q ended. by.links_were_there q
      (sym (all_kept (ends_link q) (λ l y. refl) cause x ends) ∙ ended);
}

pub connected_put : (event : Event) (cause : Cause) (ends : Ends) (server after : Option View)
    (outs before end : List Sent) → IsConnectedBy server event [] after outs
    → end ≡ before ++ all_put cause outs ends → IsConnectedBy server event before after end
connected_put event cause ends server after outs before end by is = record {
  outs = all_put cause outs ends;
  after_is = is;
  connected = λ behind is_behind.
      let was = by.connected behind is_behind in (
        was.0,
        was.1,
        put_by event cause ends was.0 behind outs
            (subst (λ x. AreConnectedBy was.0 (read_event_of event) x behind)
            (sym by.after_is) was.2),
      );
}

-- a count alone is put out behind that
pub quiet_if_ok : {E : Type 0} (link : ℕ) (end : Option End) (server after : Option View)
    (before mid last : List Sent) (r : Result (Unit {0}) E)
    → IsStillConnected server before after mid → OnOk r (last ≡ mid ++ count_at link end)
    → OnOk r (IsStillConnected server before after last)
quiet_if_ok link end server after before mid last (Ok _) one is =
    connected_on server after after before mid last one
    (nobody_goes_by after mid (count_at link end) last
    (λ q. count_at_fails (ends_client q) (λ l x. refl) link end)
    (λ q. count_at_fails (ends_link q) (λ l x. refl) link end) is)
quiet_if_ok link end server after before mid last (Err e) one is = tt
