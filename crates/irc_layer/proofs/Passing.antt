-- The server of a layer is given an event.
use Rattle.std.proofs.Common.{◌≡◌, ℕ, Bool, true, false, Option, Some, None, Ok}
use Rattle.std.proofs.Common.{append-nil, is_some, List, [], ◌++◌, refl, sym, ◌∙◌}
use Rattle.std.proofs.Common.{ap, subst}
use Rattle.std.specs.FinMap.{get}
use Rattle.irc_batch.specs.declared.close_reason.CloseReason.{CloseReason}
use Rattle.irc_batch.specs.Batches.{Sent}
use Rattle.irc_stage.specs.View.{View, End}
use Rattle.irc_server.specs.declared.event.Event.{Event}
use Rattle.irc_server.specs.declared.event.Event.TheVariants.{LinkLine, LinkDown}
use Rattle.irc_server.specs.Connected.{has_link}
use Rattle.irc_server.specs.ReadEvents.{IsHandled, takes_it}
use Rattle.irc_server.specs.Served.{no_link}
use Rattle.irc_engine.specs.Machines.{IsConnectedBy}
use Rattle.irc_engine.specs.Machines.{IsStillConnected}
use Rattle.irc_layer.specs.Ends.{ends_followed, Ends}
use Rattle.irc_layer.specs.declared.end.Cause.{Cause}
use Rattle.irc_layer.specs.Layers.{by_itself, closing, IsConnectedIf, Passes, PassesOrNot, State}
use Rattle.irc_layer.specs.Putting.{all_put, ends_behind_all}
use Rattle.irc_engine.specs.Lemmas.Stills.{nobody_goes}
use Rattle.irc_layer.proofs.Connecting.{connected_put, still_by_line, still_shut}
use Rattle.arrayvec.specs.ArrayVec.{ArrayVec}

-- ---- it is handled

module _ (cause : Cause) (event : Event) (old new : State) (held outs : List Sent)
    (followed : Ends) (none_held : held ≡ []) where
  pub passes_by : IsHandled old.layer.server event held (Ok tt) new.layer.server outs
      → followed ≡ ends_followed event old.layer.plain old.layer.ends
      → new.layer.ends ≡ ends_behind_all cause outs followed
      → new.layer.plain ≡ old.layer.plain
      → new.outs ≡ old.outs ++ all_put cause outs followed
      → Passes cause event old new
  passes_by handled follows ends plain put = record {
    outs = outs;
    is_handled = subst (λ (h : List Sent).
        IsHandled old.layer.server event h (Ok tt) new.layer.server outs) none_held handled;
    ends_are = ends ∙ ap (ends_behind_all cause outs) follows;
    plain_is = plain;
    outs_are = put ∙ ap (λ (e : Ends). old.outs ++ all_put cause outs e) follows;
  }

  pub connects_by : IsConnectedBy old.layer.server event held new.layer.server outs
      → new.outs ≡ old.outs ++ all_put cause outs followed
      → IsConnectedBy old.layer.server event old.outs new.layer.server new.outs
  connects_by connected put =
      connected_put event cause followed old.layer.server new.layer.server outs
      old.outs new.outs
      (subst (λ (h : List Sent). IsConnectedBy old.layer.server event h new.layer.server outs)
      none_held connected) put

-- ---- it is not

-- who may be told that a link is lost has it
no_fault : (end : Option End) → no_link end ≡ None → is_some end ≡ true
no_fault (Some end) none = refl
no_fault None none = cc none

one_view : (a b : View) → Some a ≡ Some b → a ≡ b
one_view a b same = cc same

pub was_there : (link : ℕ) (server after : Option View) (before outs : List Sent)
    → IsHandled server (LinkDown link) before (Ok tt) after outs
    → (was : View) → server ≡ Some was → has_link was link ≡ true
was_there link server after before outs (takes_it {old = view} none does) was is =
    ap (λ (v : View). has_link v link) (sym (one_view view was is))
    ∙ no_fault (get view.ends link) none

-- ---- who is connected by a line of a link, and by the loss of one

module _ (link : ℕ) (line : ArrayVec ℕ) (old new : State) where
  pub still_if : (is_taken : Bool) → IsConnectedIf is_taken (LinkLine link line) old new
      → IsStillConnected old.layer.server old.outs new.layer.server new.outs
  still_if true by =
      still_by_line link line old.layer.server new.layer.server old.outs new.outs by
  still_if false stays =
      subst (λ (server : Option View). IsStillConnected old.layer.server old.outs server new.outs)
      (sym stays.0) (subst (λ (outs : List Sent).
      IsStillConnected old.layer.server old.outs old.layer.server outs) (sym stays.1)
      (nobody_goes old.layer.server old.outs))

  pub shut_if : (reason : CloseReason) (end : List Sent) (is_taken : Bool)
      → PassesOrNot is_taken by_itself (LinkDown link) old new
      → IsConnectedIf is_taken (LinkDown link) old new
      → end ≡ new.outs ++ closing is_taken link reason
      → IsStillConnected old.layer.server old.outs new.layer.server end
  shut_if reason end true passes by is =
      subst (IsStillConnected old.layer.server old.outs new.layer.server) (sym is)
      (still_shut link line reason old.layer.server new.layer.server old.outs new.outs
      (was_there link old.layer.server new.layer.server [] passes.outs passes.is_handled) by)
  shut_if reason end false passes stays is =
      subst (IsStillConnected old.layer.server old.outs new.layer.server)
      (sym (is ∙ append-nil new.outs))
      (subst (λ (server : Option View). IsStillConnected old.layer.server old.outs server new.outs)
      (sym stays.0) (subst (λ (outs : List Sent).
      IsStillConnected old.layer.server old.outs old.layer.server outs) (sym stays.1)
      (nobody_goes old.layer.server old.outs)))
